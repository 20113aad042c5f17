-- What the listing program prints of a translation (paper 01, "Strap examples"), as bytes. Each line ends in byte 0A.
use Rattle.std.specs.Prelude.{ℕ, zero, suc, List, [], ◌∷◌, ◌++◌}
use Rattle.format_fields.specs.Lists.{concat_map}
use Rattle.format_translation.specs.Translation.{Item, mapping, clause}
use Rattle.program_text.specs.Text.{pair_of, marked}

-- The line of a clause of number 0: result, point, name, space, and its code in capitals.
unfoldable pub clause_line : ℕ → ℕ → List ℕ → List ℕ
clause_line result name code = marked result 46 ++ (marked name 32 ++ (concat_map pair_of code ++ (10 ∷ [])))

-- The line of a clause of another number, which stands after the name, with a point (paper 02, 2026-13).
unfoldable pub numbered_line : ℕ → ℕ → ℕ → List ℕ → List ℕ
numbered_line result name number code =
    marked result 46 ++ (marked name 46 ++ (marked number 32 ++ (concat_map pair_of code ++ (10 ∷ []))))

-- What an item of a translation's body adds: a clause its line, a mapping nothing.
unfoldable pub item_line : Item → List ℕ
item_line (mapping s j t) = []
item_line (clause r p zero code) = clause_line r p code
item_line (clause r p (suc j) code) = numbered_line r p (suc j) code
