-- What the reducers ask for and give: a term that stands in the pack, an environment whose values stand in the store
-- below `top`, and the value's bytes at the start of a lent buffer or, for an operand, in the store from `top` on.
use Rattle.std.specs.Prelude.{Ok, Err, ℕ, ◌+◌, ◌-◌, ◌*◌, ◌≤◌, ◌≡◌, true, ◌⊎◌, List, length, take, drop}
use Rattle.std.proofs.Math.Option.{some}
use Rattle.std.proofs.Math.Seq.{slice}
use Rattle.outcome.specs.Outcome.{Result, value, refused}
use Rattle.format_pack.specs.Terms.{Sort, Term, read_term, scoped}
use Rattle.format_pack.specs.Pack.{Pack, pack_of}
use Rattle.reduce_signs.specs.declared.places.Places.{Places}
use Rattle.reduce_signs.specs.Evaluation.{Value, Environment, constants_of, evaluate}
use Rattle.reduce_signs.specs.Inner.Sorts.{encode_as, value_in}
use Rattle.reduce_signs.specs.Inner.Values.{Held, Evaluated, EvaluatedTwo}

-- The pack and the environment that a term is evaluated in, with room for what so many levels keep.
pub record Context (bytes : List ℕ) (places : Places) (store : List ℕ) (top levels : ℕ) : Type 0 where
  pub pack : Pack
  pub packed : pack_of bytes ≡ value pack
  pub environment : Environment
  pub held : Held environment places (take top store)
  pub room : top + 4096 * levels ≤ length store

-- A term of the sort stands at the front of the bytes, and the constants that it names are in the pack.
pub record Stands (p : Pack) (s : Sort) (bytes : List ℕ) (levels : ℕ) : Type 0 where
  pub term : Term s
  pub rest : List ℕ
  pub reads : read_term levels s bytes ≡ some (term, rest)
  pub in_scope : scoped (length p.languages) (length p.bodies) term ≡ true

-- The value that a term comes to, as a reducer leaves it: n bytes at the start of the buffer.
pub record Left (s : Sort) (o : Result (Value s)) (out : List ℕ) (n : ℕ) : Type 0 where
  pub held : Value s
  pub comes : o ≡ value held
  pub short : n ≤ 4096
  pub inside : n ≤ length out
  pub bytes : take n out ≡ encode_as s held
  pub reads : value_in s (take n out) ≡ value held

-- The value that an operand comes to, as it is kept: in the store from top up to last.
pub record Stored (s : Sort) (o : Result (Value s)) (store : List ℕ) (top last : ℕ) : Type 0 where
  pub held : Value s
  pub comes : o ≡ value held
  pub above : top ≤ last
  pub short : last ≤ top + 4096
  pub inside : last ≤ length store
  pub bytes : slice top last store ≡ encode_as s held
  pub reads : value_in s (slice top last store) ≡ value held

-- A position where the rest of the term stands.
pub record Ends (pack rest : List ℕ) (end : ℕ) : Type 0 where
  pub inside : end ≤ length pack
  pub next : drop end pack ≡ rest

-- What the answer of a reducer says of what the term comes to.
abbrev pub Says : (s : Sort) → Result (Value s) → (pack rest out : List ℕ) → Evaluated → Type 0
Says s o pack rest out (Ok x) = Left s o out x.value × Ends pack rest x.term
Says s o pack rest out (Err r) = o ≡ refused r

-- What the answer says of an operand.
abbrev pub SaysStored : (s : Sort) → Result (Value s) → (pack rest store : List ℕ) → ℕ → Evaluated → Type 0
SaysStored s o pack rest store top (Ok x) = Stored s o store top x.value × Ends pack rest x.term
SaysStored s o pack rest store top (Err r) = o ≡ refused r

-- What the answer says of two operands: the first refusal, or both values and where the second term ends.
abbrev pub SaysTwo : (s r : Sort) → Result (Value s) → Result (Value r) → (pack rest store : List ℕ) → ℕ → EvaluatedTwo → Type 0
SaysTwo s r o q pack rest store top (Ok x) = Stored s o store top x.first × Stored r q store x.first x.second × Ends pack rest x.term
SaysTwo s r o q pack rest store top (Err w) = (o ≡ refused w) ⊎ (((v : Value s) × (o ≡ value v)) × (q ≡ refused w))

-- What is left of the store: what lies below top, and its length.
pub record Kept (store after : List ℕ) (top : ℕ) : Type 0 where
  pub below : take top after ≡ take top store
  pub long : length after ≡ length store

-- What a reducer asks for: what is known of pack and store, and a term at `at`.
pub record Asks (s : Sort) (pack : List ℕ) (places : Places) (store : List ℕ) (top at levels : ℕ) : Type 0 where
  pub context : Context pack places store top levels
  pub stands : Stands context.pack s (drop at pack) levels

-- What it gives: the answer, the store as it was below top, and the buffer as long as it was.
pub record Gives (s : Sort) (pack : List ℕ) (places : Places) (store after : List ℕ) (top at levels : ℕ) (out filled : List ℕ) (r : Evaluated) : Type 0 where
  pub says : (g : Context pack places store top levels) (x : Stands g.pack s (drop at pack) levels)
      → Says s (evaluate (constants_of g.pack) g.environment x.term) pack x.rest filled r
  pub kept : Kept store after top
  pub long : length filled ≡ length out

-- What it gives for an operand.
pub record GivesStored (s : Sort) (pack : List ℕ) (places : Places) (store after : List ℕ) (top at levels : ℕ) (out filled : List ℕ) (r : Evaluated) : Type 0 where
  pub says : (g : Context pack places store top levels) (x : Stands g.pack s (drop at pack) levels)
      → SaysStored s (evaluate (constants_of g.pack) g.environment x.term) pack x.rest after top r
  pub kept : Kept store after top
  pub long : length filled ≡ length out

-- Two operands, one after the other, behind the sign at `at`.
pub record AsksTwo (s r : Sort) (pack : List ℕ) (places : Places) (store : List ℕ) (top at levels : ℕ) : Type 0 where
  pub context : Context pack places store top levels
  pub first : Stands context.pack s (drop (at + 1) pack) (levels - 1)
  pub second : Stands context.pack r first.rest (levels - 1)

-- What evaluating both gives.
pub record GivesTwo (s r : Sort) (pack : List ℕ) (places : Places) (store after : List ℕ) (top at levels : ℕ) (out filled : List ℕ) (w : EvaluatedTwo) : Type 0 where
  pub says : (g : Context pack places store top levels) (x : Stands g.pack s (drop (at + 1) pack) (levels - 1)) (y : Stands g.pack r x.rest (levels - 1))
      → SaysTwo s r (evaluate (constants_of g.pack) g.environment x.term) (evaluate (constants_of g.pack) g.environment y.term) pack y.rest after top w
  pub kept : Kept store after top
  pub long : length filled ≡ length out
