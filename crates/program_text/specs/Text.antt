-- Text that the programs print (paper 01, "Strap examples"), as bytes. Each line ends in byte 0A.
use Rattle.std.specs.Prelude.{ℕ, ◌+◌, ◌/◌, ◌%◌, cond, List, [], ◌∷◌, ◌++◌, ltb}
use Rattle.format_fields.specs.Decimal.{decimal}

-- The first word of what is accepted, ended by one space.
abbrev pub accepted_word : List ℕ
accepted_word = 97 ∷ 99 ∷ 99 ∷ 101 ∷ 112 ∷ 116 ∷ 101 ∷ 100 ∷ 32 ∷ []

-- The first word of what is refused, ended by one space.
abbrev pub refused_word : List ℕ
refused_word = 114 ∷ 101 ∷ 102 ∷ 117 ∷ 115 ∷ 101 ∷ 100 ∷ 32 ∷ []

-- A digit below 16 as a byte: 0 to 9, then A to F.
abbrev pub capital : ℕ → ℕ
capital d = cond (ltb d 10) (48 + d) (55 + d)

-- A byte in two hexadecimal digits.
unfoldable pub pair_of : ℕ → List ℕ
pair_of b = capital (b / 16) ∷ capital (b % 16) ∷ []

-- A number in decimal, and the byte behind it.
unfoldable pub marked : ℕ → ℕ → List ℕ
marked n mark = decimal n ++ (mark ∷ [])

-- The first line: a word and a number.
unfoldable pub first_line : List ℕ → ℕ → List ℕ
first_line word n = word ++ marked n 10
