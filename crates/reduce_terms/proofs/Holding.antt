-- The environment in the store: what is kept, what a let binds, and that every value is one that bytes hold.
use Prim.Native.Nat.{ℕ, zero, suc, ◌+◌, ◌-◌, ◌*◌, ◌<◌, ◌≤◌}
use mathlib.Core.Path.{◌≡◌, refl, ap, sym, subst, ◌∙◌}
use mathlib.Core.Bool.{Bool, true, false, cond}
use mathlib.Core.List.{List, ◌++◌}
use mathlib.Core.Option.{Option, none, some}
use native.Mathlib.Omega.{arith}
use lib.ListN.{length, take, drop, get_or, get_elem?, length-append, take-append-drop}
use lib.Seq.{slice, take-append-le, take_all, take-take, drop_at, length-take-le}
use lib.Dec.{eqb}
use borrow.Author.Tests.{eqb-true, eqb-false}
use Rattle.outcome.specs.Outcome.{Result, value}
use Rattle.outcome.specs.declared.Reason.TheVariants.{UnboundVariable, IllegalTerm as TermRefused}
use Rattle.format_fields.proofs.Truth.{none_some, some_inj}
use Rattle.format_language.specs.LanguageFile.{encode_language}
use Rattle.format_language.proofs.Codec.{language_back}
use Rattle.format_translation.specs.TranslationFile.{encode_translation}
use Rattle.format_translation.specs.WellFormed.{well_formed}
use Rattle.reduce_operators.specs.Operators.{translation_join}
use Rattle.reduce_operators.proofs.Proper.{good_back}
use Rattle.reduce_operators.proofs.Accepted.{exact_good, exact_translation_lem, language_exact, translation_exact, accepted_good}
use Rattle.format_pack.specs.Terms.{Sort, languages, translations, Term, constant, source_of, target_of, make, join, identity, variable, without, sum, bind}
use Rattle.format_pack.proofs.PackCodec.{pack_good}
use Rattle.reduce_signs.specs.declared.places.Places.{Places}
use Rattle.reduce_signs.specs.Evaluation.{Constants, constants_of, Value, Environment, nothing_bound, bound, there, exceeds, limited, sum_of, evaluate}
use Rattle.reduce_signs.specs.Inner.Sorts.{encode_as, value_in}
use Rattle.reduce_signs.specs.Inner.Values.{slot_of, Sized, Changed, Holds, Held}
use Rattle.reduce_terms.specs.Inner.Reducing.{Context, Stored, Kept}
use Rattle.reduce_terms.proofs.Evaluated.{Good, step_value, limited_value, within, language_short, evaluate_good}

-- What bytes hold is good, and what is good is read back.
reads_good : (s : Sort) (b : List ℕ) (v : Value s) → value_in s b ≡ value v → Good s v
reads_good languages b l e = exact_good b l e
reads_good translations b f e = accepted_good b f (exact_translation_lem b f e).0

good_reads : (s : Sort) (v : Value s) → Good s v → value_in s (encode_as s v) ≡ value v
good_reads languages l g = language_exact (encode_language l) l (language_back l g) refl
good_reads translations f g = translation_exact (encode_translation f) f (good_back f g) refl

-- Every value that a term comes to is one that bytes hold.
pub evaluated_reads : {bytes : List ℕ} {places : Places} {store : List ℕ} {top n : ℕ} (g : Context bytes places store top n) {s : Sort} (t : Term s) (v : Value s)
    → evaluate (constants_of g.pack) g.environment t ≡ value v → value_in s (encode_as s v) ≡ value v
evaluated_reads {bytes} g {s} t v e =
    let c = pack_good bytes g.pack g.packed in
    good_reads s v (evaluate_good (constants_of g.pack) (record { languages = c.0; bodies = c.1 }) g.environment
    (λ r n x d. reads_good r (encode_as r x) x (g.held.reads r n x d)) t v e)

last : (s : Sort) (v w : Value s) → limited s v ≡ value w → exceeds s w ≡ false
last s v w e = let r = limited_value s v w e in subst (λ (u : Value s). exceeds s u ≡ false) r.1 r.0

-- Every value that a term comes to is within the limits, since that is tested last at each sign.
pub evaluate_within : {s : Sort} (c : Constants) (e : Environment) (t : Term s) (v : Value s) → evaluate c e t ≡ value v → exceeds s v ≡ false
unfolding evaluate
evaluate_within c e (constant n) v q = let a = step_value (there TermRefused (get_elem? c.languages n)) (limited languages) q in last languages a.0 v a.2
evaluate_within c e (source_of x) v q = let a = step_value (evaluate c e x) _ q in last languages a.0.source v a.2
evaluate_within c e (target_of x) v q = let a = step_value (evaluate c e x) _ q in last languages a.0.target v a.2
evaluate_within c e (make x y n) v q =
    let a = step_value (evaluate c e x) _ q in
    let b = step_value (evaluate c e y) _ a.2 in
    let d = step_value (there TermRefused (get_elem? c.bodies n)) _ b.2 in
    let f = step_value (well_formed (record { source = a.0; target = b.0; body = d.0 })) (limited translations) d.2 in
    last translations f.0 v f.2
evaluate_within c e (join x y) v q =
    let a = step_value (evaluate c e x) _ q in
    let b = step_value (evaluate c e y) _ a.2 in
    let f = step_value (translation_join a.0 b.0) (limited translations) b.2 in
    last translations f.0 v f.2
evaluate_within c e (identity x) v q = let a = step_value (evaluate c e x) _ q in last translations _ v a.2
evaluate_within c e (variable {s} n) v q = let a = step_value (there UnboundVariable (e s n)) (limited s) q in last s a.0 v a.2
evaluate_within c e (without {s} x y) v q =
    let a = step_value (evaluate c e x) _ q in
    let b = step_value (evaluate c e y) _ a.2 in
    last s _ v b.2
evaluate_within c e (sum {s} x y) v q =
    let a = step_value (evaluate c e x) _ q in
    let b = step_value (evaluate c e y) _ a.2 in
    let f = step_value (sum_of s a.0 b.0) (limited s) b.2 in
    last s f.0 v f.2
evaluate_within c e (bind {s} r n x y) v q =
    let a = step_value (evaluate c e x) _ q in
    let f = step_value (evaluate c (bound e r n a.0) y) (limited s) a.2 in
    last s f.0 v f.2

-- A value within the limits is short.
pub within_short : (s : Sort) (v : Value s) → exceeds s v ≡ false → length (encode_as s v) ≤ 4096
within_short languages l e = omega (arith, language_short l e)
within_short translations f e = (within f e).whole

-- What is known, with a level fewer.
abbrev pub context_less : {bytes : List ℕ} {places : Places} {store : List ℕ} {top n : ℕ} → Context bytes places store top n → Context bytes places store top (n - 1)
context_less g = record { pack = g.pack; packed = g.packed; environment = g.environment; held = g.held; room = omega (arith, g.room) }

-- What stands in the store stands there too when more is kept behind it.
holds_more : (s : Sort) (o : Option (Value s)) (p e : ℕ) (a b : List ℕ) → Holds s o p e a → Holds s o p e (a ++ b)
holds_more s none p e a b h = h
holds_more s (some x) p e a b h =
    (h.0, h.1, omega (arith, h.2, length-append a b), ap (drop (p - 1)) (take-append-le e a b h.2) ∙ h.3)

-- What is kept behind the others stands there.
holds_new : (s : Sort) (x : Value s) (a : List ℕ) → Holds s (some x) (length a + 1) (length a + length (encode_as s x)) (a ++ encode_as s x)
holds_new s x a =
    let z : length a + 1 - 1 ≡ length a = omega arith in (
      omega arith,
      omega arith,
      omega (arith, length-append a (encode_as s x)),
      ap (drop (length a + 1 - 1)) (take_all (length a + length (encode_as s x)) (a ++ encode_as s x) (omega (arith, length-append a (encode_as s x))))
          ∙ drop_at a (encode_as s x) (length a + 1 - 1) (sym z),
    )

module _ (e : Environment) (places inner : Places) (store : List ℕ) (r : Sort) (v : ℕ) (x : Value r) (small : v < 16) (h : Held e places store)
    (new : Changed places inner (slot_of r v) (length store + 1) (length store + length (encode_as r x))) where
  -- A slot that was not set.
  holds_other : (s : Sort) (w : ℕ) → w < 16 → (slot_of s w ≡ slot_of r v → ⊥)
      → Holds s (e s w) (get_or inner.starts (slot_of s w) 0) (get_or inner.ends (slot_of s w) 0) (store ++ encode_as r x)
  holds_other s w k d =
      rw (new.starts (slot_of s w) d, new.ends (slot_of s w) d) (holds_more s (e s w) _ _ store (encode_as r x) (h.bound s w k))

  -- The slot that was set.
  holds_set : (w : ℕ) → v ≡ w → Holds r (some x) (get_or inner.starts (slot_of r w) 0) (get_or inner.ends (slot_of r w) 0) (store ++ encode_as r x)
  holds_set w d = rw (← d, new.start, new.end) (holds_new r x store)

-- Whether a variable is the one that is bound.
holds_if : (s : Sort) (t : Bool) (x : Value s) (o : Option (Value s)) (p e : ℕ) (store : List ℕ) → (t ≡ true → Holds s (some x) p e store) → (t ≡ false → Holds s o p e store)
    → Holds s (cond t (some x) o) p e store
holds_if s true x o p e store f g = f refl
holds_if s false x o p e store f g = g refl

bounds : (e : Environment) (places inner : Places) (store : List ℕ) (r : Sort) (v : ℕ) (x : Value r) → v < 16 → Held e places store
    → Changed places inner (slot_of r v) (length store + 1) (length store + length (encode_as r x))
    → (s : Sort) (w : ℕ) → w < 16 → Holds s (bound e r v x s w) (get_or inner.starts (slot_of s w) 0) (get_or inner.ends (slot_of s w) 0) (store ++ encode_as r x)
unfolding bound
bounds e places inner store languages v x small h new languages w k =
    holds_if languages (eqb v w) x (e languages w) _ _ _ (λ t. holds_set e places inner store languages v x small h new w (eqb-true v w t))
    (λ t. holds_other e places inner store languages v x small h new languages w k (λ d. eqb-false v w t (sym d)))
bounds e places inner store languages v x small h new translations w k =
    holds_other e places inner store languages v x small h new translations w k (λ d. omega arith)
bounds e places inner store translations v x small h new languages w k =
    holds_other e places inner store translations v x small h new languages w k (λ d. omega arith)
bounds e places inner store translations v x small h new translations w k =
    holds_if translations (eqb v w) x (e translations w) _ _ _ (λ t. holds_set e places inner store translations v x small h new w (eqb-true v w t))
    (λ t. holds_other e places inner store translations v x small h new translations w k (λ d. eqb-false v w t (omega arith)))

hidden : (s : Sort) (t : Bool) (x y : Value s) (o : Option (Value s)) → value_in s (encode_as s x) ≡ value x → (o ≡ some y → value_in s (encode_as s y) ≡ value y)
    → cond t (some x) o ≡ some y → value_in s (encode_as s y) ≡ value y
hidden s true x y o b h e = subst (λ (z : Value s). value_in s (encode_as s z) ≡ value z) (some_inj e) b
hidden s false x y o b h e = h e

backs : {places : Places} {store : List ℕ} (e : Environment) (r : Sort) (v : ℕ) (x : Value r) → Held e places store → value_in r (encode_as r x) ≡ value x
    → (s : Sort) (w : ℕ) (y : Value s) → bound e r v x s w ≡ some y → value_in s (encode_as s y) ≡ value y
unfolding bound
backs e languages v x h b languages w y q = hidden languages (eqb v w) x y (e languages w) b (h.reads languages w y) q
backs e languages v x h b translations w y q = h.reads translations w y q
backs e translations v x h b languages w y q = h.reads languages w y q
backs e translations v x h b translations w y q = hidden translations (eqb v w) x y (e translations w) b (h.reads translations w y) q

-- What a let binds is held, and the others still are.
held_bound : (e : Environment) (places inner : Places) (store : List ℕ) (r : Sort) (v : ℕ) (x : Value r) → v < 16 → Held e places store
    → Changed places inner (slot_of r v) (length store + 1) (length store + length (encode_as r x)) → value_in r (encode_as r x) ≡ value x
    → Held (bound e r v x) inner (store ++ encode_as r x)
held_bound e places inner store r v x small h new back = record {
  sized = new.sized;
  bound = bounds e places inner store r v x small h new;
  reads = backs e r v x h back;
}

-- Nothing is held where nothing is bound.
pub nothing_held : (places : Places) (store : List ℕ) → Sized places → ((j : ℕ) → get_or places.starts j 0 ≡ 0) → Held nothing_bound places store
nothing_held places store l h = record { sized = l; bound = λ s v k. h (slot_of s v); reads = λ s v x e. none_some e }

-- What was bound is held where more is kept behind it.
pub held_more : (e : Environment) (places : Places) (a b : List ℕ) → Held e places a → Held e places (a ++ b)
held_more e places a b h = record { sized = h.sized; bound = λ s v k. holds_more s (e s v) _ _ a b (h.bound s v k); reads = h.reads }

-- What lies below a position, in two parts.
parts : (l : List ℕ) (p e : ℕ) → p ≤ e → take e l ≡ take p l ++ slice p e l
parts l p e h = sym (take-append-drop p (take e l)) ∙ ap (λ (t : List ℕ). t ++ slice p e l) (take-take p e l h)

pub room_less : (top m n a b : ℕ) → 0 < n → m ≤ 4096 → top + 4096 * n ≤ a → b ≡ a → top + m + 4096 * (n - 1) ≤ b
room_less top m zero a b h k r e = absurd (omega arith)
room_less top m (suc n) a b h k r e = omega arith

pub room_behind : (top last n a b : ℕ) → 0 < n → top ≤ last → last ≤ top + 4096 → top + 4096 * n ≤ a → b ≡ a → last + 4096 * (n - 1) ≤ b
room_behind top last zero a b h j k r e = absurd (omega arith)
room_behind top last (suc n) a b h j k r e = omega arith

module _ {bytes : List ℕ} {places : Places} {store : List ℕ} {top n : ℕ} (g : Context bytes places store top n) (after : List ℕ) {last : ℕ} (pos : 0 < n) (k : Kept store after top)
    {r : Sort} {o : Result (Value r)} (l : Stored r o after top last) where
  -- What lies below an operand's end: what was there, and the operand.
  pub kept_below : take last after ≡ take top store ++ encode_as r l.held
  kept_below = parts after top last l.above ∙ (ap (λ (t : List ℕ). t ++ slice top last after) k.below ∙ ap (λ (t : List ℕ). take top store ++ t) l.bytes)

  size : last ≡ top + length (encode_as r l.held)
  size =
      let a = length-take-le top store (omega (arith, g.room)) in
      let b = length-take-le last after l.inside in
      omega (arith, ap length kept_below, length-append (take top store) (encode_as r l.held), a, b)

  -- What is known at a second operand.
  abbrev pub context_behind : Context bytes places after last (n - 1)
  context_behind = record {
    pack = g.pack;
    packed = g.packed;
    environment = g.environment;
    held = subst (λ (t : List ℕ). Held g.environment places t) (sym kept_below) (held_more g.environment places (take top store) (encode_as r l.held) g.held);
    room = room_behind top last n (length store) (length after) pos l.above l.short g.room k.long;
  }

  pub bound_held : (inner : Places) (v : ℕ) → v < 16 → Changed places inner (slot_of r v) (top + 1) last → Held (bound g.environment r v l.held) inner (take last after)
  bound_held inner v small new =
      let a : length (take top store) ≡ top = length-take-le top store (omega (arith, g.room)) in
      let b : Changed places inner (slot_of r v) (length (take top store) + 1) (length (take top store) + length (encode_as r l.held)) = rw (a, ← size) new in
      subst (λ (t : List ℕ). Held (bound g.environment r v l.held) inner t) (sym kept_below)
      (held_bound g.environment places inner (take top store) r v l.held small g.held b (ap (value_in r) (sym l.bytes) ∙ l.reads))

  -- What is known at the second term of a let.
  abbrev pub context_bound : (inner : Places) (v : ℕ) → v < 16 → Changed places inner (slot_of r v) (top + 1) last → Context bytes inner after last (n - 1)
  context_bound inner v small new = record {
    pack = g.pack;
    packed = g.packed;
    environment = bound g.environment r v l.held;
    held = bound_held inner v small new;
    room = room_behind top last n (length store) (length after) pos l.above l.short g.room k.long;
  }
