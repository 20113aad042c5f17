-- Cases of the four laws: packs and terms that meet all that each law asks for.
use Rattle.std.specs.Prelude.{ℕ, Bool, false, not, ◌&&◌, List, [], ◌∷◌, length, ltb}
use Rattle.outcome.specs.Outcome.{Result, value, refused}
use Rattle.format_fields.specs.Lists.{same_numbers}
use Rattle.format_fields.specs.Fields.{Field, field}
use Rattle.format_pack.specs.Terms.{Term, languages, translations, constant, make, join, identity, without, sum, term_levels}
use Rattle.format_pack.specs.Pack.{pack_limit, term_limit}
use Rattle.reduce_operation.specs.Operations.{reduce_bytes}
use Rattle.laws.specs.Packed.{packed}
use Rattle.laws.specs.Examples.{c, k, twice, rest}

-- The fields of a pack, and the two terms that a law compares.
pub record Case : Type 0 where
  pub fields : List Field
  pub one : Term translations
  pub other : Term translations

-- A term is within the limits on terms.
abbrev within : List Field → Term translations → Bool
within fields t = not (ltb pack_limit (length (packed fields t))) && not (ltb term_limit (term_levels t))

-- Both are accepted, with the same bytes.
abbrev pub both_give : Result (List ℕ) → Result (List ℕ) → Bool
both_give (value x) (value y) = same_numbers x y
both_give (value x) (refused r) = false
both_give (refused r) y = false

-- Both terms are within the limits, and both are accepted, with the same bytes.
unfoldable pub met : Case → Bool
met a =
    within a.fields a.one
    && (within a.fields a.other
    && both_give (reduce_bytes (packed a.fields a.one) 65536 4096) (reduce_bytes (packed a.fields a.other) 65536 4096))

-- The terms of each law.
abbrev joined_sum : List Field → Term translations → Term translations → Term translations → Case
joined_sum fields f g h = record { fields = fields; one = join f (sum g h); other = sum (join f g) (join f h) }

abbrev join_without : List Field → Term translations → Term translations → Term languages → Case
join_without fields f g l = record { fields = fields; one = without (join f g) l; other = join f (without g l) }

abbrev identities : List Field → Term languages → Term languages → Case
identities fields l m = record { fields = fields; one = identity (sum l m); other = sum (identity l) (identity m) }

abbrev groupings : List Field → Term translations → Term translations → Term translations → Case
groupings fields f g h = record { fields = fields; one = join (join f g) h; other = join f (join g h) }

-- A language with production 1.3 (2) alone.
abbrev d : Field
d = field 0x30 (0x12 ∷ 0 ∷ 3 ∷ 1 ∷ 3 ∷ 2 ∷ [])

-- From C to C, with numbers 0 and 1 of kind 1: by 0 as `rest` has it, by 1 the two blocks of 1.2 in the other order, both by 1.
abbrev turned : Field
turned =
    field 0x31 (
    0x22 ∷ 0 ∷ 2 ∷ 1 ∷ 1 ∷ 0x28 ∷ 0 ∷ 3 ∷ 1 ∷ 1 ∷ 1 ∷ 0x22 ∷ 0 ∷ 2 ∷ 2 ∷ 2
    ∷ 0x23 ∷ 0 ∷ 6 ∷ 1 ∷ 1 ∷ 1 ∷ 1 ∷ 3 ∷ 1 ∷ 0x29 ∷ 0 ∷ 7 ∷ 1 ∷ 1 ∷ 1 ∷ 1 ∷ 1 ∷ 3 ∷ 1
    ∷ 0x23 ∷ 0 ∷ 8 ∷ 1 ∷ 2 ∷ 1 ∷ 2 ∷ 3 ∷ 1 ∷ 3 ∷ 2 ∷ 0x29 ∷ 0 ∷ 11 ∷ 1 ∷ 2 ∷ 1 ∷ 1 ∷ 2 ∷ 4 ∷ 2 ∷ 1 ∷ 4 ∷ 1 ∷ 1
    ∷ 0x23 ∷ 0 ∷ 6 ∷ 1 ∷ 3 ∷ 1 ∷ 1 ∷ 3 ∷ 1 ∷ 0x29 ∷ 0 ∷ 7 ∷ 1 ∷ 3 ∷ 1 ∷ 1 ∷ 3 ∷ 3 ∷ 1 ∷ []
    )

-- The fields of all cases: languages 0 to 2 are K, C and that with 1.3 alone; bodies 0 to 2 are `twice`, `rest` and `turned`.
abbrev constants : List Field
constants = k ∷ c ∷ d ∷ twice ∷ rest ∷ turned ∷ []

-- K into C, C into C by `rest`, and C into C with two numbers.
abbrev of_k : Term translations
of_k = make (constant 0) (constant 1) 0

abbrev of_c : Term translations
of_c = make (constant 1) (constant 1) 1

abbrev of_numbers : Term translations
of_numbers = make (constant 1) (constant 1) 2

-- Two cases or more for each law, one of them with number 1 where the law has translations.
unfoldable pub cases : List Case
cases =
    joined_sum constants of_c of_k (identity (constant 1))
    ∷ joined_sum constants of_numbers of_numbers (without of_numbers (constant 2))
    ∷ join_without constants of_c (sum of_k (identity (constant 1))) (constant 0)
    ∷ join_without constants of_numbers of_numbers (constant 2)
    ∷ identities constants (constant 0) (constant 1)
    ∷ identities constants (constant 1) (constant 2)
    ∷ groupings constants of_c of_c (sum of_k (identity (constant 1)))
    ∷ groupings constants of_numbers of_c of_k
    ∷ []
