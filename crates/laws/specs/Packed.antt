-- What the laws speak of: packs that differ only in field 32, what an operation put out, and how two reductions compare.
use Rattle.std.specs.Prelude.{ℕ, ◌≤◌, ◌≡◌, List, [], ◌∷◌, ◌++◌, length, take}
use Rattle.outcome.specs.Outcome.{number_of, length_of, Outcome}
use Rattle.format_fields.specs.Fields.{Field, field, encode_fields}
use Rattle.format_pack.specs.Terms.{Term, translations, write_term, term_levels}
use Rattle.format_pack.specs.Pack.{pack_limit, term_limit}
use Rattle.reduce_operation.specs.Operations.{Reduced, reduce}

-- The pack of these fields with a term as its field 32 (paper 01, "Rules", on the laws of joins and sums).
abbrev pub packed : List Field → Term translations → List ℕ
packed fields term = encode_fields (fields ++ field 0x32 (write_term term) ∷ [])

-- The bytes that an operation put out: as many first bytes of its output as its length says.
abbrev pub put_out : Outcome → List ℕ → List ℕ
put_out outcome output = take (length_of outcome) output

-- The limits on terms: 32,768 bytes of the pack, 12 levels.
pub record WithinLimits (fields : List Field) (term : Term translations) : Type 0 where
  pub short : length (packed fields term) ≤ pack_limit
  pub levels : term_levels term ≤ term_limit

-- Where the first is accepted, so is the second, with equal length and that many equal first bytes.
pub record AcceptedToo (x y : Reduced) : Type 0 where
  pub accepted : number_of x.outcome ≡ 0 → number_of y.outcome ≡ 0
  pub lengths : number_of x.outcome ≡ 0 → length_of x.outcome ≡ length_of y.outcome
  pub bytes : number_of x.outcome ≡ 0 → put_out x.outcome x.output ≡ put_out y.outcome y.output

-- Accepted alike, and where accepted with equal length and that many equal first bytes.
pub record AcceptedAlike (x y : Reduced) : Type 0 where
  pub onward : AcceptedToo x y
  pub back : AcceptedToo y x

-- Where both are accepted, equal length and that many equal first bytes.
pub record EqualWhereAccepted (x y : Reduced) : Type 0 where
  pub lengths : number_of x.outcome ≡ 0 → number_of y.outcome ≡ 0 → length_of x.outcome ≡ length_of y.outcome
  pub bytes : number_of x.outcome ≡ 0 → number_of y.outcome ≡ 0 → put_out x.outcome x.output ≡ put_out y.outcome y.output

-- Two terms compare in this way: whatever the other fields, in packs that differ only in field 32, both terms within the limits
-- on terms, reduced with equally long workspace and output.
abbrev pub Compared : (Reduced → Reduced → Type 0) → Term translations → Term translations → Type 0
Compared how a b =
    (fields : List Field) → WithinLimits fields a → WithinLimits fields b
    → (w w' o o' : List ℕ) → length w' ≡ length w → length o' ≡ length o
    → how (reduce (packed fields a) w o) (reduce (packed fields b) w' o')
