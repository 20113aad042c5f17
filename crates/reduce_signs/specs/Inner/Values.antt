-- What the signs ask of values that stand in a store and in the pack, and what they write to a lent buffer.
use Rattle.std.specs.Prelude.{ℕ, ◌+◌, ◌-◌, ◌<◌, ◌≤◌, ◌≡◌, List, length, take, get_or, Err, Ok}
use Rattle.std.proofs.Math.Option.{Option, none, some}
use Rattle.std.proofs.Math.ListN.{get_elem?}
use Rattle.std.proofs.Math.Seq.{slice}
use Rattle.outcome.specs.Outcome.{Result, value, Outcome}
use Rattle.format_language.specs.Language.{Language}
use Rattle.format_translation.specs.Translation.{Body}
use Rattle.format_translation.specs.WellFormed.{well_formed}
use Rattle.reduce_operators.specs.Inner.Values.{Gives}
use Rattle.format_pack.specs.Terms.{Sort, languages, translations}
use Rattle.format_pack.specs.Pack.{Pack, pack_of}
use Rattle.reduce_signs.specs.declared.apply.Operator.{Operator}
use Rattle.reduce_signs.specs.declared.apply.Operator.TheVariants.{One, Two, Make}
use Rattle.std.specs.Prelude as Std
use Rattle.outcome.specs.declared.Reason.{Reason}
use Rattle.reduce_signs.specs.declared.evaluated.Ended.{Ended}
use Rattle.reduce_signs.specs.declared.evaluated.EndedTwo.{EndedTwo}
use Rattle.reduce_signs.specs.declared.places.Places.{Places}
use Rattle.reduce_signs.specs.declared.sorts.Binary.{Binary}
use Rattle.reduce_signs.specs.declared.sorts.Unary.{Unary}
use Rattle.reduce_signs.specs.Evaluation.{Value, Environment}
use Rattle.reduce_signs.specs.Inner.Sorts.{encode_as, value_in, bytes_of, first_sort, second_sort, binary_of, operand_sort, unary_sort, unary_of}

-- The slot of a variable: languages first, then translations.
abbrev pub slot_of : Sort → ℕ → ℕ
slot_of languages v = v
slot_of translations v = 16 + v

-- There are 32 slots.
pub record Sized (places : Places) : Type 0 where
  pub starts : length places.starts ≡ 32
  pub ends : length places.ends ≡ 32

-- The places of one slot were set, and the others are as they were.
pub record Changed (before after : Places) (slot p e : ℕ) : Type 0 where
  pub start : get_or after.starts slot 0 ≡ p
  pub end : get_or after.ends slot 0 ≡ e
  pub starts : (j : ℕ) → (j ≡ slot → ⊥) → get_or after.starts j 0 ≡ get_or before.starts j 0
  pub ends : (j : ℕ) → (j ≡ slot → ⊥) → get_or after.ends j 0 ≡ get_or before.ends j 0
  pub sized : Sized after

-- What is bound stands in the store from start - 1 up to end; where nothing is, start is 0.
abbrev pub Holds : (s : Sort) → Option (Value s) → ℕ → ℕ → List ℕ → Type 0
Holds s none start end store = start ≡ 0
Holds s (some x) start end store = (0 < start) × (start ≤ end + 1) × (end ≤ length store) × (slice (start - 1) end store ≡ encode_as s x)

-- The environment stands in the store, and each value in it is one that bytes hold.
pub record Held (e : Environment) (places : Places) (store : List ℕ) : Type 0 where
  pub sized : Sized places
  pub bound : (s : Sort) (v : ℕ) → v < 16 → Holds s (e s v) (get_or places.starts (slot_of s v) 0) (get_or places.ends (slot_of s v) 0) store
  pub reads : (s : Sort) (v : ℕ) (x : Value s) → e s v ≡ some x → value_in s (encode_as s x) ≡ value x

-- The first n bytes of v were copied into the store from top on, and what is below is as it was.
pub record Saved (v : List ℕ) (n : ℕ) (store after : List ℕ) (top : ℕ) : Type 0 where
  pub below : take top after ≡ take top store
  pub bytes : slice top (top + n) after ≡ take n v
  pub long : length after ≡ length store

-- The bytes hold a value of the sort.
abbrev pub HoldsValue : Sort → List ℕ → Type 0
HoldsValue s b = (v : Value s) × (value_in s b ≡ value v)

-- What an operator on one value asks for, and gives.
abbrev pub OperandOf : Unary → List ℕ → Type 0
OperandOf o a = HoldsValue (operand_sort o) a

abbrev pub AppliedOne : Unary → (a out filled : List ℕ) → Outcome → Type 0
AppliedOne o a out filled r =
    (v : Value (operand_sort o)) → value_in (operand_sort o) a ≡ value v → Gives (bytes_of (unary_sort o) (value (unary_of o v))) out filled r

-- What an operator on two values asks for, and gives.
abbrev pub OperandsOf : Binary → List ℕ → List ℕ → Type 0
OperandsOf o a b = HoldsValue (first_sort o) a × HoldsValue (second_sort o) b

abbrev pub AppliedTwo : Binary → (a b out filled : List ℕ) → Outcome → Type 0
AppliedTwo o a b out filled r =
    (v : Value (first_sort o)) (w : Value (second_sort o)) → value_in (first_sort o) a ≡ value v → value_in (second_sort o) b ≡ value w
    → Gives (bytes_of (first_sort o) (binary_of o v w)) out filled r

-- What a translation is made of: two languages, and a body of the pack; and what is made of them.
abbrev pub Makes : (pack : List ℕ) → ℕ → (a b : List ℕ) → Type 0
Makes pack n a b =
    ((p : Pack) × (pack_of pack ≡ value p) × ((d : Body) × (get_elem? p.bodies n ≡ some d))) × HoldsValue languages a × HoldsValue languages b

abbrev pub Made : (pack : List ℕ) → ℕ → (a b out filled : List ℕ) → Outcome → Type 0
Made pack n a b out filled r =
    (p : Pack) (d : Body) (v w : Language) → pack_of pack ≡ value p → get_elem? p.bodies n ≡ some d → value_in languages a ≡ value v → value_in languages b ≡ value w
    → Gives (bytes_of translations (well_formed (record { source = v; target = w; body = d }))) out filled r

-- What an operator asks for.
abbrev pub Operands : Operator → (pack a b : List ℕ) → Type 0
Operands (One o) pack a b = OperandOf o a
Operands (Two o) pack a b = OperandsOf o a b
Operands (Make n) pack a b = Makes pack n a b

-- What it gives.
abbrev pub Applied : Operator → (pack a b out filled : List ℕ) → Outcome → Type 0
Applied (One o) pack a b out filled r = AppliedOne o a out filled r
Applied (Two o) pack a b out filled r = AppliedTwo o a b out filled r
Applied (Make n) pack a b out filled r = Made pack n a b out filled r

-- What a reducer answers, and for two operands.
abbrev pub Evaluated : Type 0
Evaluated = Std.Result Ended Reason

abbrev pub EvaluatedTwo : Type 0
EvaluatedTwo = Std.Result EndedTwo Reason

-- The answer of a reducer whose value an operator wrote, where the term ends at `end`.
abbrev pub finished : Outcome → ℕ → Evaluated
finished (Ok n) end = Ok (record { value = n; term = end })
finished (Err r) end = Err r

-- The value of a sign, or the refusal, was written to the buffer, and the term ends at `end`.
pub record Wrote (s : Sort) (q : Result (Value s)) (out filled : List ℕ) (end : ℕ) (r : Evaluated) : Type 0 where
  pub outcome : Outcome
  pub gives : Gives (bytes_of s q) out filled outcome
  pub answer : r ≡ finished outcome end
