-- The values that are copied and combined: parts of slices, the sort that the code names, and what a slot holds.
use Rattle.std.specs.Prelude.{Err, None, Option, Some}
use Prim.Native.Nat.{ℕ, zero, suc, ◌+◌, ◌-◌, ◌<◌, ◌≤◌}
use mathlib.Core.Path.{◌≡◌, refl, ap, sym, subst, ◌∙◌}
use mathlib.Core.List.{List, [], ◌∷◌, ◌++◌, append_assoc}
use mathlib.Core.Option.{Option as Maybe, none, some}
use native.Mathlib.Omega.{arith}
use lib.ListN.{length, take, drop, get_or, length-take}
use lib.Seq.{slice, paste, take-paste, take-take, take_at, drop_at, length-paste, length-take-le}
use Rattle.outcome.specs.Outcome.{value, refused, Outcome}
use Rattle.outcome.specs.declared.Reason.TheVariants.{UnboundVariable}
use Rattle.format_fields.proofs.Codec.{refused_value}
use Rattle.format_fields.specs.Inner.Writing.{Stores, spliced}
use Rattle.reduce_operators.specs.Inner.Values as Written
use Rattle.format_fields.proofs.Splices.{slice_is}
use Rattle.format_pack.specs.Terms.{Sort}
use Rattle.format_pack.specs.Pack.{Pack, pack_of}
use Rattle.format_pack.proofs.PackCodec.{pack_short}
use Rattle.reduce_signs.specs.declared.sorts.Binary.{Binary}
use Rattle.reduce_signs.specs.declared.sorts.Unary.{Unary}
use Rattle.reduce_signs.specs.declared.apply.Operator.{Operator}
use Rattle.reduce_signs.specs.declared.places.Places.{Places}
use Rattle.reduce_signs.specs.Evaluation.{Value, Environment, there}
use Rattle.reduce_signs.specs.Inner.Sorts.{encode_as, value_in, bytes_of}
use Rattle.reduce_signs.specs.Inner.Values.{Evaluated, slot_of, Holds, Held, Saved, HoldsValue, OperandOf, AppliedOne, OperandsOf, AppliedTwo, Operands, Applied, finished, Wrote}

pub value_as : (s t : Sort) (b d : List ℕ) → s ≡ t → b ≡ d → HoldsValue s b → HoldsValue t d
value_as s t b d e q h = subst (λ (x : Sort). HoldsValue x d) e (subst (λ (l : List ℕ). HoldsValue s l) q h)

-- What is copied of a part.
pub copied_as : (s t : Sort) (b d out filled : List ℕ) (r : Outcome) → s ≡ t → b ≡ d
    → ((v : Value t) → value_in t d ≡ value v → Written.Gives (bytes_of t (value v)) out filled r)
    → (v : Value s) → value_in s b ≡ value v → Written.Gives (bytes_of s (value v)) out filled r
copied_as s t b d out filled r e q h =
    subst (λ (x : Sort). (v : Value x) → value_in x b ≡ value v → Written.Gives (bytes_of x (value v)) out filled r) (sym e)
    (subst (λ (l : List ℕ). (v : Value t) → value_in t l ≡ value v → Written.Gives (bytes_of t (value v)) out filled r) (sym q) h)

-- An operator that the code knows.
pub one_asks : {o p : Unary} (a : List ℕ) → o ≡ p → OperandOf o a → OperandOf p a
one_asks a e h = subst (λ (x : Unary). OperandOf x a) e h

pub one_gives : {o p : Unary} (a out filled : List ℕ) (r : Outcome) → o ≡ p → AppliedOne p a out filled r → AppliedOne o a out filled r
one_gives a out filled r e h = subst (λ (x : Unary). AppliedOne x a out filled r) (sym e) h

pub two_asks : {o p : Binary} (a b : List ℕ) → o ≡ p → OperandsOf o a b → OperandsOf p a b
two_asks a b e h = subst (λ (x : Binary). OperandsOf x a b) e h

pub two_gives : {o p : Binary} (a b out filled : List ℕ) (r : Outcome) → o ≡ p → AppliedTwo p a b out filled r → AppliedTwo o a b out filled r
two_gives a b out filled r e h = subst (λ (x : Binary). AppliedTwo x a b out filled r) (sym e) h

-- The operator and its operands, as the code takes them out of the store.
module _ {o q : Operator} (pack store : List ℕ) (start middle end : ℕ) (e : o ≡ q) (h : start ≤ middle) (k : middle ≤ end) (l : end ≤ length store) where
  pub operands_as : Operands o pack (slice start middle store) (slice middle end store)
      → Operands q pack (take (middle - start) (drop start store)) (take (end - middle) (drop middle store))
  operands_as d =
      subst (λ (x : Operator). Operands x pack (take (middle - start) (drop start store)) (take (end - middle) (drop middle store))) e
      (subst (λ (b : List ℕ). Operands o pack (take (middle - start) (drop start store)) b) (slice_is store middle end k l)
      (subst (λ (a : List ℕ). Operands o pack a (slice middle end store)) (slice_is store start middle h (omega arith)) d))

  pub applied_as : (out filled : List ℕ) (r : Outcome) → Applied q pack (take (middle - start) (drop start store)) (take (end - middle) (drop middle store)) out filled r
      → Applied o pack (slice start middle store) (slice middle end store) out filled r
  applied_as out filled r d =
      subst (λ (x : Operator). Applied x pack (slice start middle store) (slice middle end store) out filled r) (sym e)
      (subst (λ (b : List ℕ). Applied q pack (slice start middle store) b out filled r) (sym (slice_is store middle end k l))
      (subst (λ (a : List ℕ). Applied q pack a (take (end - middle) (drop middle store)) out filled r) (sym (slice_is store start middle h (omega arith))) d))

-- What a slot holds.
holds_none : (s : Sort) (o : Maybe (Value s)) (p e : ℕ) (store : List ℕ) → Holds s o p e store → p ≡ 0 → o ≡ none
holds_none s none p e store h z = refl
holds_none s (some x) p e store h z = absurd (omega (arith, h.0))

holds_some : (s : Sort) (o : Maybe (Value s)) (p e : ℕ) (store : List ℕ) → Holds s o p e store → (p ≡ 0 → ⊥)
    → (x : Value s) × (o ≡ some x) × (p ≤ e + 1) × (e ≤ length store) × (slice (p - 1) e store ≡ encode_as s x)
holds_some s none p e store h z = absurd (z h)
holds_some s (some x) p e store h z = (x, refl, h.1, h.2, h.3)

module _ (e : Environment) (places : Places) (store : List ℕ) (top : ℕ) (s : Sort) (v : ℕ) (h : Held e places (take top store)) (small : v < 16)
    (i w : ℕ) (slot : i ≡ slot_of s w) (same : w ≡ v) (start : ℕ) (begins : start ≡ get_or places.starts i 0) where
  at_slot : i ≡ slot_of s v
  at_slot = slot ∙ ap (slot_of s) same

  -- A variable that is not bound.
  pub variable_none : {out : List ℕ} {end : ℕ} → start ≡ 0 → Wrote s (there UnboundVariable (e s v)) out out end (Err UnboundVariable)
  variable_none {out} z =
      let n : e s v ≡ none = holds_none s (e s v) _ _ (take top store) (h.bound s v small) (ap (λ (j : ℕ). get_or places.starts j 0) (sym at_slot) ∙ (sym begins ∙ z)) in
      let b : bytes_of s (there UnboundVariable (e s v)) ≡ refused UnboundVariable = ap (λ (o : Maybe (Value s)). bytes_of s (there UnboundVariable o)) n in
      record {
        outcome = Err UnboundVariable;
        gives = record { outcome = rw b refl; long = refl; bytes = λ c d. refused_value (sym b ∙ d) };
        answer = refl;
      }

  -- A variable that is bound.
  pub variable_some : {end : ℕ} → (start ≡ 0 → ⊥) → end ≡ get_or places.ends i 0
      → (x : Value s) × (e s v ≡ some x) × (start - 1 ≤ end) × (end ≤ length store) × (value_in s (slice (start - 1) end store) ≡ value x)
  variable_some {end} z ends =
      let p : get_or places.starts (slot_of s v) 0 ≡ start = ap (λ (j : ℕ). get_or places.starts j 0) (sym at_slot) ∙ sym begins in
      let q : get_or places.ends (slot_of s v) 0 ≡ end = ap (λ (j : ℕ). get_or places.ends j 0) (sym at_slot) ∙ sym ends in
      let b : Holds s (e s v) start end (take top store) = subst (λ (j : ℕ). Holds s (e s v) start j (take top store)) q
      (subst (λ (j : ℕ). Holds s (e s v) j (get_or places.ends (slot_of s v) 0) (take top store)) p (h.bound s v small)) in
      let k = holds_some s (e s v) start end (take top store) b z in
      let l = length-take top store in (
        k.0,
        k.1,
        omega (arith, k.2),
        in_whole store top end k.3,
        ap (value_in s) (part_of store top (start - 1) end k.3) ∙ (ap (value_in s) k.4 ∙ h.reads s v k.0 k.1),
      )
    where
      in_whole : (l : List ℕ) (t n : ℕ) → n ≤ length (take t l) → n ≤ length l
      in_whole [] zero n k = k
      in_whole [] (suc t) n k = k
      in_whole (x ∷ l) zero n k = omega arith
      in_whole (x ∷ l) (suc t) zero k = omega arith
      in_whole (x ∷ l) (suc t) (suc n) k = let j = in_whole l t n (omega arith) in omega arith

      part_of : (l : List ℕ) (t p n : ℕ) → n ≤ length (take t l) → slice p n l ≡ slice p n (take t l)
      part_of l t p n k = ap (drop p) (taken l t n k)
        where
          taken : (l : List ℕ) (t n : ℕ) → n ≤ length (take t l) → take n l ≡ take n (take t l)
          taken l t zero k = refl
          taken [] zero (suc n) k = refl
          taken [] (suc t) (suc n) k = refl
          taken (x ∷ l) zero (suc n) k = absurd (omega arith)
          taken (x ∷ l) (suc t) (suc n) k = ap (λ (m : List ℕ). x ∷ m) (taken l t n (omega arith))

  pub variable_wrote : {out filled : List ℕ} {end next : ℕ} {q : Outcome} {y : Evaluated} → (start ≡ 0 → ⊥) → end ≡ get_or places.ends i 0
      → ((x : Value s) → value_in s (slice (start - 1) end store) ≡ value x → Written.Gives (bytes_of s (value x)) out filled q) → y ≡ finished q next
      → Wrote s (there UnboundVariable (e s v)) out filled next y
  variable_wrote {out} {filled} {q = q} z ends g d =
      let k = variable_some z ends in
      record {
        outcome = q;
        gives = subst (λ (o : Maybe (Value s)). Written.Gives (bytes_of s (there UnboundVariable o)) out filled q) (sym k.1) (g k.0 k.4);
        answer = d;
      }

-- What is put into the store.
pub saves : (v o after : List ℕ) (n : ℕ) (r : Option ℕ) → Stores v o after n r → n + length v ≤ length o → after ≡ spliced o n v
saves v o after n (Some m) s h = (s.done m refl).bytes
saves v o after n None s h = absurd (omega (arith, s.full refl))

pub save_done : (v store after : List ℕ) (n top : ℕ) (r : Option ℕ) → n ≤ length v → top + n ≤ length store → Stores (slice 0 n v) store after top r
    → Saved v n store after top
unfolding spliced
save_done v store after n top r h k s =
    let l : length (take n v) ≡ n = length-take-le n v h in
    let e : after ≡ take top store ++ (take n v ++ drop (top + length (take n v)) store) = saves (take n v) store after top r s (omega arith) in
    let d : after ≡ paste store top v n =
    e ∙ (ap (λ (j : ℕ). take top store ++ (take n v ++ drop (top + j) store)) l ∙ sym (append_assoc (take top store) (take n v) (drop (top + n) store))) in
    let a : take (top + n) after ≡ take top store ++ take n v = ap (take (top + n)) d ∙ take-paste store top v n (omega arith) h in
    let t : length (take top store) ≡ top = length-take-le top store (omega arith) in
    record {
      below = sym (take-take top (top + n) after (omega arith)) ∙ (ap (take top) a ∙ take_at (take top store) (take n v) top t);
      bytes = ap (drop top) a ∙ drop_at (take top store) (take n v) top t;
      long = ap length d ∙ length-paste store top v n k h;
    }

-- A part of a pack is short.
pub part_short : (pack : List ℕ) (w : Pack) (s : List ℕ) → pack_of pack ≡ value w → length s ≤ length pack → length s ≤ 32768
part_short pack w s z h = omega (arith, pack_short pack w z)
