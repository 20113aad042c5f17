-- Translations with number 0 only (paper 02, 2026-13: 26 where a load table is joined onto, or a search made in, one with any
-- other).
use Rattle.std.specs.Prelude.{Bool, eqb}
use Rattle.format_fields.specs.Lists.{all}
use Rattle.format_translation.specs.Translation.{Item, Body, number_of}

-- An item is of number 0.
unfoldable pub by_zero : Item → Bool
by_zero a = eqb (number_of a) 0

-- No item of a body has another number.
unfoldable pub plain : Body → Bool
plain b = all by_zero b
