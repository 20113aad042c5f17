-- The items of a join by the items of the second and the numbers of the first.
use Rattle.std.specs.Prelude.{ℕ}
use Rattle.tree_reader.specs.Syntax.{write, code}
use Rattle.format_translation.specs.Translation.{Item, mapping, clause, Translation, mapped}
use Rattle.format_translation.specs.Running.{paired, run, clauses_of}

-- The kind of the first's source that an item of the second reaches.
abbrev pub reached : Translation → Item → ℕ
reached g (mapping s i t) = t
reached g (clause r p i bytes) = mapped g.body r i

-- The joined item of an item of the second and a number of the first.
abbrev pub paired_item : Translation → Translation → Item → ℕ → Item
paired_item f g (mapping s i t) j = mapping s (paired i j) (mapped f.body t j)
paired_item f g (clause r p i bytes) j = clause r p (paired i j) (write code (run (clauses_of f) j (clauses_of g r p i)))
