-- What the reducers give, sign by sign, from what their operands and operators give.
use Rattle.std.specs.Prelude.{Ok, Err}
use Prim.Native.Nat.{ℕ, ◌+◌, ◌-◌, ◌<◌, ◌≤◌}
use mathlib.Core.Path.{◌≡◌, refl, ap, sym, subst, ◌∙◌}
use mathlib.Core.Bool.{Bool, false}
use mathlib.Core.Logic.{◌⊎◌, inl, inr}
use mathlib.Core.List.{List}
use mathlib.Core.Option.{Option, some}
use native.Mathlib.Omega.{arith}
use lib.ListN.{length, take, drop, get_or, get_elem?}
use lib.Seq.{slice, take-take}
use Rattle.outcome.specs.Outcome.{Result, value, refused, refuse_if, ◌>>=◌, written, Outcome}
use Rattle.outcome.specs.declared.Reason.{Reason}
use Rattle.outcome.specs.declared.Reason.TheVariants.{ValueTooLarge, UnboundVariable}
use Rattle.outcome.specs.declared.Reason.TheVariants as Reasons
use Rattle.format_fields.proofs.Truth.{none_some, by_test}
use Rattle.format_language.specs.Language.{Language}
use Rattle.format_translation.specs.Translation.{Body}
use Rattle.format_translation.specs.WellFormed.{well_formed}
use Rattle.format_pack.specs.Terms.{Sort, languages, translations, Term, bind_sign, signed, read_term}
use Rattle.format_pack.specs.Pack.{Pack, pack_of}
use Rattle.reduce_signs.specs.declared.forms.Form.{Form}
use Rattle.reduce_signs.specs.declared.forms.Form.TheVariants.{Unknown}
use Rattle.reduce_signs.specs.declared.sorts.Binary.{Binary}
use Rattle.reduce_signs.specs.declared.sorts.Binary.TheVariants.{LanguageWithout, LanguageSum, TranslationWithout, TranslationSum, Join}
use Rattle.reduce_signs.specs.declared.sorts.Unary.{Unary}
use Rattle.reduce_signs.specs.declared.sorts.Unary.TheVariants.{Source, Target, Identity}
use Rattle.reduce_signs.specs.declared.places.Places.{Places}
use Rattle.reduce_signs.specs.Evaluation.{Constants, constants_of, Value, Environment, bound, there, exceeds, limited, evaluate}
use Rattle.reduce_signs.specs.Inner.Sorts.{encode_as, value_in, bytes_of, first_sort, second_sort, binary_sign, binary_term, binary_of, operand_sort, unary_sort, unary_sign, unary_term, unary_of}
use Rattle.reduce_signs.specs.Inner.Forms.{Begins}
use Rattle.reduce_signs.specs.Inner.Values.{Evaluated, EvaluatedTwo, slot_of, Changed, Held, Saved, OperandOf, AppliedOne, OperandsOf, AppliedTwo, Makes, Made as MadeOf, finished, Wrote}
use Rattle.reduce_terms.specs.Inner.Reducing.{Context, Stands, Left, Stored, Ends, Says, SaysStored, SaysTwo, Kept, Asks, Gives, GivesStored, AsksTwo, GivesTwo}
use Rattle.reduce_terms.proofs.Standing.{stands_in, next_byte, positive, no_sign, Two, pair_stands, One, single_stands, variable_stands, constant_stands, Bound, let_stands, Made, make_stands}
use Rattle.reduce_terms.proofs.Holding.{evaluated_reads, evaluate_within, within_short, context_less, context_behind, context_bound, room_less}

-- What is left of a store.
pub kept_same : (store : List ℕ) (top : ℕ) → Kept store store top
kept_same store top = record { below = refl; long = refl }

kept_then : {store after last : List ℕ} {top : ℕ} → Kept store after top → Kept after last top → Kept store last top
kept_then a b = record { below = b.below ∙ a.below; long = b.long ∙ a.long }

-- What is kept up to a position is kept up to a lower one.
kept_lower : (store after : List ℕ) (top middle : ℕ) → top ≤ middle → Kept store after middle → Kept store after top
kept_lower store after top middle h k = record {
  below = sym (take-take top middle after h) ∙ (ap (take top) k.below ∙ take-take top middle store h);
  long = k.long;
}

-- An operand stays where it is when only what is behind it changes.
stored_kept : {s : Sort} {o : Result (Value s)} {store : List ℕ} {top last : ℕ} (after : List ℕ) → Kept store after last → Stored s o store top last → Stored s o after top last
stored_kept {s} {top = top} after k x = record {
  held = x.held;
  comes = x.comes;
  above = x.above;
  short = x.short;
  inside = omega (arith, x.inside, k.long);
  bytes = ap (drop top) k.below ∙ x.bytes;
  reads = ap (λ (l : List ℕ). value_in s (drop top l)) k.below ∙ x.reads;
}

-- What an operator wrote is what the term comes to.
wrote_says : (s : Sort) (q o : Result (Value s)) (pack rest out filled : List ℕ) (end : ℕ) (r : Evaluated) → Wrote s q out filled end r → (q >>= limited s) ≡ o
    → ((v : Value s) → o ≡ value v → value_in s (encode_as s v) ≡ value v) → Ends pack rest end → Says s o pack rest filled r
wrote_says s (refused w) o pack rest out filled end r x e back d =
    subst (Says s o pack rest filled) (sym (x.answer ∙ ap (λ (y : Outcome). finished y end) x.gives.outcome)) (sym e)
wrote_says s (value v) o pack rest out filled end r x e back d =
    by_test (exceeds s v)
    (λ t.
    let z : bytes_of s (value v) ≡ refused ValueTooLarge = ap (λ (b : Bool). refuse_if b ValueTooLarge (value (encode_as s v))) t in
    subst (Says s o pack rest filled) (sym (x.answer ∙ ap (λ (y : Outcome). finished y end) (x.gives.outcome ∙ ap written z)))
    (sym e ∙ ap (λ (b : Bool). refuse_if b ValueTooLarge (value v)) t))
    (λ t.
    let z : bytes_of s (value v) ≡ value (encode_as s v) = ap (λ (b : Bool). refuse_if b ValueTooLarge (value (encode_as s v))) t in
    let c : o ≡ value v = sym e ∙ ap (λ (b : Bool). refuse_if b ValueTooLarge (value v)) t in
    let b = x.gives.bytes (encode_as s v) z in
    subst (Says s o pack rest filled) (sym (x.answer ∙ ap (λ (y : Outcome). finished y end) (x.gives.outcome ∙ ap written z))) (
      record {
        held = v;
        comes = c;
        short = within_short s v t;
        inside = omega (arith, b.0, x.gives.long);
        bytes = b.1;
        reads = ap (value_in s) b.1 ∙ back v c;
      },
      d,
    ))

-- A sign and a form that the code knows.
pub begins_at : (s : Sort) {b c : ℕ} (f : Form) → b ≡ c → Begins s b f → Begins s c f
begins_at s f e h = subst (λ (x : ℕ). Begins s x f) e h

pub begins_as : (s : Sort) (b : ℕ) {f g : Form} → f ≡ g → Begins s b f → Begins s b g
begins_as s b e h = subst (Begins s b) e h

-- What the answers say.
to_left : {s : Sort} {o : Result (Value s)} {pack rest out : List ℕ} {w : Evaluated} {n end : ℕ} → w ≡ Ok (record { value = n; term = end }) → Says s o pack rest out w → Left s o out n × Ends pack rest end
to_left {s} {o} {pack} {rest} {out} e h = subst (Says s o pack rest out) e h

to_refused : (s : Sort) (o : Result (Value s)) (pack rest out : List ℕ) {w : Evaluated} {r : Reason} → w ≡ Err r → Says s o pack rest out w → o ≡ refused r
to_refused s o pack rest out e h = subst (Says s o pack rest out) e h

to_stored : {s : Sort} {o : Result (Value s)} {pack rest store : List ℕ} {top : ℕ} {w : Evaluated} {last end : ℕ} → w ≡ Ok (record { value = last; term = end }) → SaysStored s o pack rest store top w
    → Stored s o store top last × Ends pack rest end
to_stored {s} {o} {pack} {rest} {store} {top} e h = subst (SaysStored s o pack rest store top) e h

stored_refused : (s : Sort) (o : Result (Value s)) (pack rest store : List ℕ) (top : ℕ) {w : Evaluated} {r : Reason} → w ≡ Err r → SaysStored s o pack rest store top w → o ≡ refused r
stored_refused s o pack rest store top e h = subst (SaysStored s o pack rest store top) e h

module _ {pack : List ℕ} {places : Places} {store : List ℕ} {top at levels : ℕ} where
  -- One term by its sort.
  pub asks_as : {s r : Sort} → r ≡ s → Asks s pack places store top at levels → Asks r pack places store top at levels
  asks_as e a = subst (λ (x : Sort). Asks x pack places store top at levels) (sym e) a

  pub gives_as : {s r : Sort} {after out filled : List ℕ} {w : Evaluated} → r ≡ s → Gives r pack places store after top at levels out filled w → Gives s pack places store after top at levels out filled w
  gives_as {after} {out} {filled} {w} e a = subst (λ (x : Sort). Gives x pack places store after top at levels out filled w) e a

  stored_as : {s r : Sort} {after out filled : List ℕ} {w : Evaluated} → r ≡ s → GivesStored r pack places store after top at levels out filled w → GivesStored s pack places store after top at levels out filled w
  stored_as {after} {out} {filled} {w} e a = subst (λ (x : Sort). GivesStored x pack places store after top at levels out filled w) e a

  two_as : {s r a b : Sort} {after out filled : List ℕ} {w : EvaluatedTwo} → a ≡ s → b ≡ r → GivesTwo a b pack places store after top at levels out filled w
      → GivesTwo s r pack places store after top at levels out filled w
  two_as {s} {r} {a} {b} {after} {out} {filled} {w} e f h =
      subst (λ (x : Sort). GivesTwo s x pack places store after top at levels out filled w) f
      (subst (λ (x : Sort). GivesTwo x b pack places store after top at levels out filled w) e h)

  -- The position of a sign.
  pub asks_in : {s : Sort} → Asks s pack places store top at levels → at < length pack
  asks_in a = stands_in pack at a.stands

  -- A term has a level.
  pub asks_level : {s : Sort} {A : Type 0} → Asks s pack places store top at levels → levels ≡ 0 → A
  unfolding read_term
  asks_level {s} a e = none_some (subst (λ (n : ℕ). read_term n s (drop at pack) ≡ some (a.stands.term, a.stands.rest)) e a.stands.reads)

  -- No term begins with an unknown sign.
  pub unknown_sign : {A : Type 0} {s : Sort} {f : Form} → Asks s pack places store top at levels → 0 < levels → f ≡ Unknown → Begins s (get_or pack at 0) f → A
  unknown_sign {s = s} a pos e b = no_sign s pack at levels a.stands pos _ refl (subst (Begins s (get_or pack at 0)) e b _ _)

  module _ {s : Sort} {after out filled : List ℕ} {w : Evaluated} (given : Gives s pack places store after top at levels out filled w) where
    -- An operand that is refused.
    pub operand_refused : {z : Reason} → w ≡ Err z → GivesStored s pack places store after top at levels out filled (Err z)
    operand_refused e = record { says = λ g x. to_refused _ _ _ _ _ e (given.says g x); kept = given.kept; long = given.long }

    module _ {n end : ℕ} (e : w ≡ Ok (record { value = n; term = end })) where
      -- There is room for an operand's value.
      pub operand_room : Asks s pack places store top at levels → (n ≤ length filled) × (top + n ≤ length after)
      operand_room a =
          let z = (to_left e (given.says a.context a.stands)).0 in
          let h = room_less top n levels (length store) (length after) (positive levels (λ d. asks_level a d)) z.short a.context.room given.kept.long in
          (z.inside, omega arith)

      -- The value was copied into the store.
      pub operand_to : {last : List ℕ} → top + n ≤ length after → Saved filled n after last top → GivesStored s pack places store last top at levels out filled (Ok (record { value = top + n; term = end }))
      operand_to {last} room saved = record {
        says = λ g x.
            let z = to_left e (given.says g x) in (
              record {
                held = z.0.held;
                comes = z.0.comes;
                above = omega arith;
                short = omega (arith, z.0.short);
                inside = omega (arith, saved.long);
                bytes = saved.bytes ∙ z.0.bytes;
                reads = ap (value_in s) saved.bytes ∙ z.0.reads;
              },
              z.1,
            );
        kept = kept_then given.kept (record { below = saved.below; long = saved.long });
        long = given.long;
      }

-- Two operands, one after the other.
module _ {pack : List ℕ} {places : Places} {store : List ℕ} {top : ℕ} (at : ℕ) {levels : ℕ} {s : Sort} (r : Sort) (pos : 0 < levels) where
  pub first_asks : AsksTwo s r pack places store top at levels → Asks s pack places store top (at + 1) (levels - 1)
  first_asks a = record { context = context_less a.context; stands = a.first }

  module _ {after out filled : List ℕ} {w : Evaluated} (given : GivesStored s pack places store after top (at + 1) (levels - 1) out filled w) where
    -- The first refuses.
    pub first_refused : {z : Reason} → w ≡ Err z → GivesTwo s r pack places store after top at levels out filled (Err z)
    first_refused e = record { says = λ g x y. inl (stored_refused _ _ _ _ _ _ e (given.says (context_less g) x)); kept = given.kept; long = given.long }

    module _ {middle next : ℕ} (e : w ≡ Ok (record { value = middle; term = next })) where
      first_stored : (g : Context pack places store top levels) (x : Stands g.pack s (drop (at + 1) pack) (levels - 1))
          → Stored s (evaluate (constants_of g.pack) g.environment x.term) after top middle × Ends pack x.rest next
      first_stored g x = to_stored e (given.says (context_less g) x)

      abbrev second_context : (g : Context pack places store top levels) (x : Stands g.pack s (drop (at + 1) pack) (levels - 1)) → Context pack places after middle (levels - 1)
      second_context g x = context_behind g after pos given.kept (first_stored g x).0

      abbrev second_stands : (g : Context pack places store top levels) (x : Stands g.pack s (drop (at + 1) pack) (levels - 1)) → Stands g.pack r x.rest (levels - 1)
          → Stands g.pack r (drop next pack) (levels - 1)
      second_stands g x y = record { term = y.term; rest = y.rest; reads = ap (read_term (levels - 1) r) (first_stored g x).1.next ∙ y.reads; in_scope = y.in_scope }

      -- The second, behind the first.
      pub second_asks : AsksTwo s r pack places store top at levels → Asks r pack places after middle next (levels - 1)
      second_asks a = record { context = second_context a.context a.first; stands = second_stands a.context a.first a.second }

      module _ {last full : List ℕ} {v : Evaluated} (a : AsksTwo s r pack places store top at levels)
          (behind : GivesStored r pack places after last middle next (levels - 1) filled full v) where
        both_kept : Kept store last top
        both_kept = kept_then given.kept (kept_lower after last top middle (first_stored a.context a.first).0.above behind.kept)

        second_says : (g : Context pack places store top levels) (x : Stands g.pack s (drop (at + 1) pack) (levels - 1)) (y : Stands g.pack r x.rest (levels - 1))
            → SaysStored r (evaluate (constants_of g.pack) g.environment y.term) pack y.rest last middle v
        second_says g x y = behind.says (second_context g x) (second_stands g x y)

        pub second_refused : {z : Reason} → v ≡ Err z → GivesTwo s r pack places store last top at levels out full (Err z)
        second_refused q = record {
          says = λ g x y. let m = (first_stored g x).0 in inr ((m.held, m.comes), stored_refused _ _ _ _ _ _ q (second_says g x y));
          kept = both_kept;
          long = behind.long ∙ given.long;
        }

        pub both_to : {end limit : ℕ} → v ≡ Ok (record { value = limit; term = end }) → GivesTwo s r pack places store last top at levels out full (Ok (record { first = middle; second = limit; term = end }))
        both_to q = record {
          says = λ g x y. let k = to_stored q (second_says g x y) in (stored_kept last behind.kept (first_stored g x).0, k.0, k.1);
          kept = both_kept;
          long = behind.long ∙ given.long;
        }

-- What an operator's equation says of the term.
binary_evaluates : (o : Binary) (c : Constants) (e : Environment) (x : Term (first_sort o)) (y : Term (second_sort o))
    → evaluate c e (binary_term o x y) ≡ (evaluate c e x >>= λ v. evaluate c e y >>= λ w. binary_of o v w >>= limited (first_sort o))
unfolding evaluate
binary_evaluates LanguageWithout c e x y = refl
binary_evaluates LanguageSum c e x y = refl
binary_evaluates TranslationWithout c e x y = refl
binary_evaluates TranslationSum c e x y = refl
binary_evaluates Join c e x y = refl

unary_evaluates : (o : Unary) (c : Constants) (e : Environment) (x : Term (operand_sort o))
    → evaluate c e (unary_term o x) ≡ (evaluate c e x >>= λ v. value (unary_of o v) >>= limited (unary_sort o))
unfolding evaluate
unary_evaluates Source c e x = refl
unary_evaluates Target c e x = refl
unary_evaluates Identity c e x = refl

-- Two steps, of which one refuses, or neither does.
steps_refused : {A B C : Type 0} (o : Result A) (q : Result B) (f : A → B → Result C) (z : Reason) → (o ≡ refused z) ⊎ (((v : A) × (o ≡ value v)) × (q ≡ refused z))
    → (o >>= λ v. q >>= λ w. f v w) ≡ refused z
steps_refused o q f z (inl e) = rw e
steps_refused o q f z (inr e) = rw (e.0.1, e.1)

steps_value : {A B C : Type 0} (o : Result A) (q : Result B) (f : A → B → Result C) (v : A) (w : B) → o ≡ value v → q ≡ value w → (o >>= λ v. q >>= λ w. f v w) ≡ f v w
steps_value o q f v w e d = rw (e, d)

module _ (pack : List ℕ) {places : Places} {store : List ℕ} {top : ℕ} (at : ℕ) {levels : ℕ} (o : Binary) (pos : 0 < levels) (sign : get_or pack at 0 ≡ binary_sign o) where
  operands_of : (g : Context pack places store top levels) (x : Stands g.pack (first_sort o) (drop at pack) levels) → Two g.pack (binary_term o) (drop (at + 1) pack) (levels - 1) x.term x.rest
  operands_of g x = pair_stands g.pack o pack at levels x pos sign

  pub binary_asks : {s r : Sort} → s ≡ first_sort o → r ≡ second_sort o → Asks (first_sort o) pack places store top at levels → AsksTwo s r pack places store top at levels
  binary_asks {s} {r} e d a =
      let t = operands_of a.context a.stands in
      let z : AsksTwo (first_sort o) (second_sort o) pack places store top at levels = record { context = a.context; first = t.first; second = t.second } in
      subst (λ (y : Sort). AsksTwo s y pack places store top at levels) (sym d)
      (subst (λ (y : Sort). AsksTwo y (second_sort o) pack places store top at levels) (sym e) z)

  module _ {s r : Sort} {after out filled : List ℕ} {w : EvaluatedTwo} (es : s ≡ first_sort o) (er : r ≡ second_sort o)
      (given : GivesTwo s r pack places store after top at levels out filled w) where
    both_say : (g : Context pack places store top levels) (x : Stands g.pack (first_sort o) (drop at pack) levels)
        → SaysTwo (first_sort o) (second_sort o) (evaluate (constants_of g.pack) g.environment (operands_of g x).first.term)
        (evaluate (constants_of g.pack) g.environment (operands_of g x).second.term) pack (operands_of g x).second.rest after top w
    both_say g x = let t = operands_of g x in (two_as es er given).says g t.first t.second

    pub binary_refused : {z : Reason} → w ≡ Err z → Gives (first_sort o) pack places store after top at levels out filled (Err z)
    binary_refused {z} e = record {
      says = λ g x.
          let t = operands_of g x in
          let k = subst (SaysTwo (first_sort o) (second_sort o) _ _ pack _ after top) e (both_say g x) in
          ap (evaluate (constants_of g.pack) g.environment) t.is
          ∙ (binary_evaluates o (constants_of g.pack) g.environment t.first.term t.second.term ∙ steps_refused _ _ _ z k);
      kept = given.kept;
      long = given.long;
    }

    module _ {middle last end : ℕ} (e : w ≡ Ok (record { first = middle; second = last; term = end })) (a : Asks (first_sort o) pack places store top at levels) where
      pub binary_values : OperandsOf o (slice top middle after) (slice middle last after) × (top ≤ middle) × (middle ≤ last) × (last ≤ length after)
      binary_values =
          let k = subst (SaysTwo (first_sort o) (second_sort o) _ _ pack _ after top) e (both_say a.context a.stands) in
          (((k.0.held, k.0.reads), (k.1.held, k.1.reads)), k.0.above, k.1.above, k.1.inside)

      pub binary_gives : {full : List ℕ} {q : Outcome} {y : Evaluated} → AppliedTwo o (slice top middle after) (slice middle last after) filled full q
          → y ≡ finished q end → Gives (first_sort o) pack places store after top at levels out full y
      binary_gives {full} {q} {y} h d = record {
        says = λ g x.
            let t = operands_of g x in
            let k = subst (SaysTwo (first_sort o) (second_sort o) _ _ pack _ after top) e (both_say g x) in
            wrote_says (first_sort o) (binary_of o k.0.held k.1.held) _ pack x.rest filled full end y
            (record { outcome = q; gives = h k.0.held k.1.held k.0.reads k.1.reads; answer = d })
            (sym (ap (evaluate (constants_of g.pack) g.environment) t.is
            ∙ (binary_evaluates o (constants_of g.pack) g.environment t.first.term t.second.term ∙ steps_value _ _ _ k.0.held k.1.held k.0.comes k.1.comes)))
            (λ v z. evaluated_reads g x.term v z)
            (record { inside = k.2.inside; next = k.2.next ∙ t.ends });
        kept = given.kept;
        long = let v = binary_values.0 in (h v.0.0 v.1.0 v.0.1 v.1.1).long ∙ given.long;
      }

module _ (pack : List ℕ) {places : Places} {store : List ℕ} {top : ℕ} (at : ℕ) {levels : ℕ} (o : Unary) (pos : 0 < levels) (sign : get_or pack at 0 ≡ unary_sign o) where
  operand_of : (g : Context pack places store top levels) (x : Stands g.pack (unary_sort o) (drop at pack) levels) → One g.pack o (drop (at + 1) pack) (levels - 1) x.term x.rest
  operand_of g x = single_stands g.pack o pack at levels x pos sign

  pub unary_asks : {s : Sort} → s ≡ operand_sort o → Asks (unary_sort o) pack places store top at levels → Asks s pack places store top (at + 1) (levels - 1)
  unary_asks e a = asks_as e (record { context = context_less a.context; stands = (operand_of a.context a.stands).operand })

  module _ {s : Sort} {after out filled : List ℕ} {w : Evaluated} (es : s ≡ operand_sort o)
      (given : GivesStored s pack places store after top (at + 1) (levels - 1) out filled w) where
    operand_says : (g : Context pack places store top levels) (x : Stands g.pack (unary_sort o) (drop at pack) levels)
        → SaysStored (operand_sort o) (evaluate (constants_of g.pack) g.environment (operand_of g x).operand.term) pack (operand_of g x).operand.rest after top w
    operand_says g x = (stored_as es given).says (context_less g) (operand_of g x).operand

    pub unary_refused : {z : Reason} → w ≡ Err z → Gives (unary_sort o) pack places store after top at levels out filled (Err z)
    unary_refused {z} e = record {
      says = λ g x.
          let t = operand_of g x in
          ap (evaluate (constants_of g.pack) g.environment) t.is
          ∙ (unary_evaluates o (constants_of g.pack) g.environment t.operand.term
          ∙ ap (λ (q : Result (Value (operand_sort o))). q >>= λ v. value (unary_of o v) >>= limited (unary_sort o)) (stored_refused _ _ _ _ _ _ e (operand_says g x)));
      kept = given.kept;
      long = given.long;
    }

    module _ {last end : ℕ} (e : w ≡ Ok (record { value = last; term = end })) (a : Asks (unary_sort o) pack places store top at levels) where
      pub unary_value : OperandOf o (slice top last after) × (top ≤ last) × (last ≤ last) × (last ≤ length after)
      unary_value = let k = (to_stored e (operand_says a.context a.stands)).0 in ((k.held, k.reads), k.above, omega arith, k.inside)

      pub unary_gives : {full : List ℕ} {q : Outcome} {y : Evaluated} → AppliedOne o (slice top last after) filled full q
          → y ≡ finished q end → Gives (unary_sort o) pack places store after top at levels out full y
      unary_gives {full} {q} {y} h d = record {
        says = λ g x.
            let t = operand_of g x in
            let k = to_stored e (operand_says g x) in
            wrote_says (unary_sort o) (value (unary_of o k.0.held)) _ pack x.rest filled full end y
            (record { outcome = q; gives = h k.0.held k.0.reads; answer = d })
            (sym (ap (evaluate (constants_of g.pack) g.environment) t.is
            ∙ (unary_evaluates o (constants_of g.pack) g.environment t.operand.term
            ∙ ap (λ (q : Result (Value (operand_sort o))). q >>= λ v. value (unary_of o v) >>= limited (unary_sort o)) k.0.comes)))
            (λ v z. evaluated_reads g x.term v z)
            (record { inside = k.1.inside; next = k.1.next ∙ t.ends });
        kept = given.kept;
        long = let v = unary_value.0 in (h v.0 v.1).long ∙ given.long;
      }

module _ (pack : List ℕ) {places : Places} {store : List ℕ} {top : ℕ} (at : ℕ) {levels : ℕ} (pos : 0 < levels) where
  -- A constant.
  constant_known : get_or pack at 0 ≡ 0x40 → Asks languages pack places store top at levels
      → ((p : Pack) × (pack_of pack ≡ value p) × ((l : Language) × (get_elem? p.languages (get_or pack (at + 1) 0) ≡ some l))) × (at + 2 ≤ length pack)
  constant_known e a =
      let z = constant_stands a.context.pack pack at levels a.stands pos e in
      ((a.context.pack, a.context.packed, z.1), z.0.inside)

  pub constant_asks : {s : Sort} → (s ≡ languages) × (get_or pack at 0 ≡ 0x40) → Asks s pack places store top at levels
      → ((p : Pack) × (pack_of pack ≡ value p) × ((l : Language) × (get_elem? p.languages (get_or pack (at + 1) 0) ≡ some l))) × (at + 2 ≤ length pack)
  constant_asks b a = constant_known b.1 (asks_as (sym b.0) a)

  pub constant_gives : {s : Sort} {out filled : List ℕ} {y : Evaluated} → (s ≡ languages) × (get_or pack at 0 ≡ 0x40) → Asks s pack places store top at levels
      → ((p : Pack) (l : Language) → pack_of pack ≡ value p → get_elem? p.languages (get_or pack (at + 1) 0) ≡ some l → Wrote languages (value l) out filled (at + 2) y)
      → Gives s pack places store store top at levels out filled y
  unfolding evaluate
  constant_gives {s} {out} {filled} {y} b a h = gives_as (sym b.0) (record {
    says = λ g x.
        let z = constant_stands g.pack pack at levels x pos b.1 in
        wrote_says languages (value z.1.0) _ pack x.rest out filled (at + 2) y (h g.pack z.1.0 g.packed z.1.1)
        (sym (ap (evaluate (constants_of g.pack) g.environment) z.0.is ∙ ap (λ (q : Option Language). there Reasons.IllegalTerm q >>= limited languages) z.1.1))
        (λ v q. evaluated_reads g x.term v q) (record { inside = z.0.inside; next = z.0.next });
    kept = kept_same store top;
    long = let z = constant_asks b a in (h z.0.0 z.0.2.0 z.0.1 z.0.2.1).gives.long;
  })

  -- A variable.
  pub variable_asks : (s : Sort) → get_or pack at 0 ≡ signed s 0x41 0x51 → Asks s pack places store top at levels
      → ((e : Environment) × Held e places (take top store)) × (get_or pack (at + 1) 0 < 16) × (at + 2 ≤ length pack)
  variable_asks s e a =
      let z = variable_stands a.context.pack s pack at levels a.stands pos e in
      ((a.context.environment, a.context.held), z.1, z.0.inside)

  pub variable_gives : (s : Sort) {out filled : List ℕ} {y : Evaluated} → get_or pack at 0 ≡ signed s 0x41 0x51 → Asks s pack places store top at levels
      → ((e : Environment) → Held e places (take top store) → Wrote s (there UnboundVariable (e s (get_or pack (at + 1) 0))) out filled (at + 2) y)
      → Gives s pack places store store top at levels out filled y
  unfolding evaluate
  variable_gives s {out} {filled} {y} e a h = record {
    says = λ g x.
        let z = variable_stands g.pack s pack at levels x pos e in
        wrote_says s (there UnboundVariable (g.environment s (get_or pack (at + 1) 0))) _ pack x.rest out filled (at + 2) y (h g.environment g.held)
        (sym (ap (evaluate (constants_of g.pack) g.environment) z.0.is))
        (λ v q. evaluated_reads g x.term v q) (record { inside = z.0.inside; next = z.0.next });
    kept = kept_same store top;
    long = (h a.context.environment a.context.held).gives.long;
  }

  -- A made translation.
  making : get_or pack at 0 ≡ 0x50 → (g : Context pack places store top levels) (x : Stands g.pack translations (drop at pack) levels)
      → Made g.pack (drop (at + 1) pack) (levels - 1) x.term x.rest
  making e g x = make_stands g.pack pack at levels x pos e

  pub make_asks : get_or pack at 0 ≡ 0x50 → Asks translations pack places store top at levels → AsksTwo languages languages pack places store top at levels
  make_asks e a =
      let t = making e a.context a.stands in
      record { context = a.context; first = t.terms.first; second = t.terms.second }

  module _ {after out filled : List ℕ} {w : EvaluatedTwo} (sign : get_or pack at 0 ≡ 0x50)
      (given : GivesTwo languages languages pack places store after top at levels out filled w) where
    made_say : (g : Context pack places store top levels) (x : Stands g.pack translations (drop at pack) levels)
        → SaysTwo languages languages (evaluate (constants_of g.pack) g.environment (making sign g x).terms.first.term)
        (evaluate (constants_of g.pack) g.environment (making sign g x).terms.second.term) pack (making sign g x).terms.second.rest after top w
    made_say g x = let t = (making sign g x).terms in given.says g t.first t.second

    pub make_refused : {z : Reason} → w ≡ Err z → Gives translations pack places store after top at levels out filled (Err z)
    unfolding evaluate
    make_refused {z} e = record {
      says = λ g x.
          let t = (making sign g x).terms in
          let k = subst (SaysTwo languages languages _ _ pack _ after top) e (made_say g x) in
          ap (evaluate (constants_of g.pack) g.environment) t.is
          ∙ steps_refused (evaluate (constants_of g.pack) g.environment t.first.term) (evaluate (constants_of g.pack) g.environment t.second.term) _ z k;
      kept = given.kept;
      long = given.long;
    }

    module _ {middle last end : ℕ} (e : w ≡ Ok (record { first = middle; second = last; term = end })) where
      -- The number behind both languages.
      made_next : (g : Context pack places store top levels) (x : Stands g.pack translations (drop at pack) levels)
          → (end < length pack) × (get_or pack end 0 ≡ (making sign g x).number) × (drop (end + 1) pack ≡ x.rest)
      made_next g x =
          let k = subst (SaysTwo languages languages _ _ pack _ after top) e (made_say g x) in
          next_byte pack end (making sign g x).number x.rest (k.2.next ∙ (making sign g x).terms.ends)

      pub make_next : Asks translations pack places store top at levels → end < length pack
      make_next a = (made_next a.context a.stands).0

      pub make_values : {i : ℕ} → i ≡ get_or pack end 0 → Asks translations pack places store top at levels
          → Makes pack i (slice top middle after) (slice middle last after) × (top ≤ middle) × (middle ≤ last) × (last ≤ length after)
      make_values {i} q a =
          let t = making sign a.context a.stands in
          let k = subst (SaysTwo languages languages _ _ pack _ after top) e (made_say a.context a.stands) in
          let f = made_next a.context a.stands in (
            (
              (a.context.pack, a.context.packed, (t.body.0, ap (get_elem? a.context.pack.bodies) (q ∙ f.1) ∙ t.body.1)),
              (k.0.held, k.0.reads),
              (k.1.held, k.1.reads),
            ),
            k.0.above,
            k.1.above,
            k.1.inside,
          )

      pub make_gives : {i : ℕ} {full : List ℕ} {q : Outcome} {y : Evaluated} → i ≡ get_or pack end 0 → Asks translations pack places store top at levels
          → MadeOf pack i (slice top middle after) (slice middle last after) filled full q
          → y ≡ finished q (end + 1) → Gives translations pack places store after top at levels out full y
      unfolding evaluate
      make_gives {i} {full} {q} {y} z a h d = record {
        says = λ g x.
            let t = making sign g x in
            let k = subst (SaysTwo languages languages _ _ pack _ after top) e (made_say g x) in
            let f = made_next g x in
            wrote_says translations (well_formed (record { source = k.0.held; target = k.1.held; body = t.body.0 })) _ pack x.rest filled full (end + 1) y
            (record {
              outcome = q;
              gives = h g.pack t.body.0 k.0.held k.1.held g.packed (ap (get_elem? g.pack.bodies) (z ∙ f.1) ∙ t.body.1) k.0.reads k.1.reads;
              answer = d;
            })
            (sym (ap (evaluate (constants_of g.pack) g.environment) t.terms.is
            ∙ (steps_value (evaluate (constants_of g.pack) g.environment t.terms.first.term) (evaluate (constants_of g.pack) g.environment t.terms.second.term) _ k.0.held k.1.held k.0.comes k.1.comes
            ∙ ap (λ (o : Option Body). there Reasons.IllegalTerm o >>= λ b. well_formed (record { source = k.0.held; target = k.1.held; body = b }) >>= limited translations) t.body.1)))
            (λ v w. evaluated_reads g x.term v w)
            (record { inside = omega (arith, f.0); next = f.2 });
        kept = given.kept;
        long = let v = (make_values z a).0 in (h v.0.0 v.0.2.0 v.1.0 v.2.0 v.0.1 v.0.2.1 v.1.1 v.2.1).long ∙ given.long;
      }

-- The limit at a let never refuses: its value was tested at the sign of the inner term.
limited_same : (s : Sort) (q : Result (Value s)) → ((v : Value s) → q ≡ value v → exceeds s v ≡ false) → (q >>= limited s) ≡ q
limited_same s (refused r) h = refl
limited_same s (value v) h = ap (λ (b : Bool). refuse_if b ValueTooLarge (value v)) (h v refl)

module _ (pack : List ℕ) {places : Places} {store : List ℕ} {top : ℕ} (at : ℕ) {levels : ℕ} (r s : Sort) (pos : 0 < levels) (sign : get_or pack at 0 ≡ bind_sign r s) where
  bound_of : (g : Context pack places store top levels) (x : Stands g.pack s (drop at pack) levels) → Bound g.pack r s pack at (levels - 1) x.term x.rest
  bound_of g x = let_stands g.pack r s pack at levels x pos sign

  pub let_asks : Asks s pack places store top at levels → Asks r pack places store top (at + 2) (levels - 1)
  let_asks a = record { context = context_less a.context; stands = (bound_of a.context a.stands).terms.first }

  pub let_number : Asks s pack places store top at levels → (at + 2 ≤ length pack) × (get_or pack (at + 1) 0 < 16)
  let_number a = let b = bound_of a.context a.stands in (b.inside, b.small)

  module _ {after out filled : List ℕ} {w : Evaluated} (given : GivesStored r pack places store after top (at + 2) (levels - 1) out filled w) where
    pub let_refused : {z : Reason} → w ≡ Err z → Gives s pack places store after top at levels out filled (Err z)
    unfolding evaluate
    let_refused {z} e = record {
      says = λ g x.
          let b = bound_of g x in
          ap (evaluate (constants_of g.pack) g.environment) b.terms.is
          ∙ ap (λ (q : Result (Value r)). q >>= λ v. evaluate (constants_of g.pack) (bound g.environment r (get_or pack (at + 1) 0) v) b.terms.second.term >>= limited s)
          (stored_refused _ _ _ _ _ _ e (given.says (context_less g) b.terms.first));
      kept = given.kept;
      long = given.long;
    }

    module _ {last next : ℕ} (e : w ≡ Ok (record { value = last; term = next })) where
      first_of : (g : Context pack places store top levels) (x : Stands g.pack s (drop at pack) levels)
          → Stored r (evaluate (constants_of g.pack) g.environment (bound_of g x).terms.first.term) after top last × Ends pack (bound_of g x).terms.first.rest next
      first_of g x = to_stored e (given.says (context_less g) (bound_of g x).terms.first)

      inner_stands : (g : Context pack places store top levels) (x : Stands g.pack s (drop at pack) levels) → Stands g.pack s (drop next pack) (levels - 1)
      inner_stands g x = let y = (bound_of g x).terms.second in record {
        term = y.term;
        rest = y.rest;
        reads = ap (read_term (levels - 1) s) (first_of g x).1.next ∙ y.reads;
        in_scope = y.in_scope;
      }

      pub let_room : Asks s pack places store top at levels → top + 1 ≤ length after
      let_room a = let k = room_less top 1 levels (length store) (length after) pos (omega arith) a.context.room given.kept.long in omega arith

      module _ {inner : Places} {i : ℕ} (slot : i ≡ slot_of r (get_or pack (at + 1) 0)) (new : Changed places inner i (top + 1) last) where
        inner_context : (g : Context pack places store top levels) (x : Stands g.pack s (drop at pack) levels) → Context pack inner after last (levels - 1)
        inner_context g x =
            context_bound g after pos given.kept (first_of g x).0 inner (get_or pack (at + 1) 0) (bound_of g x).small
            (subst (λ (j : ℕ). Changed places inner j (top + 1) last) slot new)

        pub let_inner : Asks s pack places store top at levels → Asks s pack inner after last next (levels - 1)
        unfolding inner_context
        let_inner a = record { context = inner_context a.context a.stands; stands = inner_stands a.context a.stands }

        pub let_gives : {final full : List ℕ} {y : Evaluated} → Asks s pack places store top at levels
            → Gives s pack inner after final last next (levels - 1) filled full y → Gives s pack places store final top at levels out full y
        unfolding evaluate inner_context bound_of inner_stands
        let_gives {final} {full} {y} a h = record {
          says = λ g x.
              let b = bound_of g x in
              let v = (first_of g x).0 in
              let q = evaluate (constants_of g.pack) (bound g.environment r (get_or pack (at + 1) 0) v.held) b.terms.second.term in
              let z : evaluate (constants_of g.pack) g.environment x.term ≡ q =
              ap (evaluate (constants_of g.pack) g.environment) b.terms.is
              ∙ (ap (λ (q : Result (Value r)). q >>= λ v. evaluate (constants_of g.pack) (bound g.environment r (get_or pack (at + 1) 0) v) b.terms.second.term >>= limited s) v.comes
              ∙ limited_same s q (λ u d. evaluate_within (constants_of g.pack) (bound g.environment r (get_or pack (at + 1) 0) v.held) b.terms.second.term u d)) in
              subst (λ (o : Result (Value s)). Says s o pack x.rest full y) (sym z)
              (subst (λ (l : List ℕ). Says s q pack l full y) b.terms.ends (h.says (inner_context g x) (inner_stands g x)));
          kept = kept_then given.kept (kept_lower after final top last (first_of a.context a.stands).0.above h.kept);
          long = h.long ∙ given.long;
        }
