-- The sixteen signs of terms in tables (paper 01, "The sixteen term signs"), first the left column, then the right.
-- `proofs/Levels.antt` shows that they say what `read_term` reads.
use Rattle.std.specs.Prelude.{ℕ, ◌+◌, ◌-◌, ◌%◌, Bool, cond, List, [], ◌∷◌, Option, Some, None, get_or, ltb, eqb}
use Rattle.format_fields.specs.Lists.{any}
use Rattle.format_pack.specs.declared.signs.Sort.{Sort}
use Rattle.format_pack.specs.declared.signs.Sort.TheVariants.{Language, Translation}

-- The first sign of a sort.
abbrev pub first_sign : Sort → ℕ
first_sign Language = 0x40
first_sign Translation = 0x50

-- A number follows the sign, or ends it.
unfoldable pub has_number : ℕ → Bool
has_number sign = any (eqb sign) (0x40 ∷ 0x41 ∷ 0x46 ∷ 0x47 ∷ 0x50 ∷ 0x51 ∷ 0x56 ∷ 0x57 ∷ [])

-- Where a sign stands in a table: 40 to 47, then 50 to 57.
unfoldable pub sign_index : ℕ → Option ℕ
sign_index sign =
    cond (ltb sign 0x40) None
    (cond (ltb sign 0x48) (Some (sign - 0x40))
    (cond (ltb sign 0x50) None
    (cond (ltb sign 0x58) (Some (sign - 0x48)) None)))

-- The formula for a sign's number, by its low digit (paper 02, request 2026-04).
abbrev pub number_by_digit : ℕ → Bool
number_by_digit sign = ltb ((sign % 16 + 2) % 8) 4

-- The sort of the first operand, if there is one.
abbrev pub firsts : List (Option Sort)
firsts =
    None ∷ None ∷ Some Language ∷ Some Language ∷ Some Translation ∷ Some Translation ∷ Some Language ∷ Some Translation
    ∷ Some Language ∷ None ∷ Some Translation ∷ Some Translation ∷ Some Translation ∷ Some Language ∷ Some Language ∷ Some Translation ∷ []

-- The sort of the second.
abbrev pub seconds : List (Option Sort)
seconds =
    None ∷ None ∷ Some Language ∷ Some Language ∷ None ∷ None ∷ Some Language ∷ Some Language
    ∷ Some Language ∷ None ∷ Some Language ∷ Some Translation ∷ Some Translation ∷ None ∷ Some Translation ∷ Some Translation ∷ []

-- What stands in a table for a sign.
abbrev pub in_table : List (Option Sort) → Option ℕ → Option Sort
in_table table None = None
in_table table (Some i) = get_or table i None

-- The sort of a sign's first operand.
unfoldable pub first_operand : ℕ → Option Sort
first_operand sign = in_table firsts (sign_index sign)

-- The sort of a sign's second operand.
unfoldable pub second_operand : ℕ → Option Sort
second_operand sign = in_table seconds (sign_index sign)
