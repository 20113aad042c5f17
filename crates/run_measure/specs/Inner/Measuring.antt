-- What is measured of a tree: the length of its run and what it costs.
use Rattle.std.specs.Prelude.{ℕ, Result, Ok, Err, ◌+◌, ◌*◌, ◌<◌, ◌≤◌, ◌≡◌, List, length, get_or, drop}
use Rattle.std.proofs.Math.Option.{some}
use Rattle.format_language.specs.Language.{arguments_of, production_key}
use Rattle.tree_reader.specs.Code.{Code}
use Rattle.tree_reader.specs.Syntax as Meant
use Rattle.tree_reader.specs.declared.node.ReadError.{ReadError}
use Rattle.tree_reader.specs.declared.node.ReadError.TheVariants.{Deep, Broken}
use Rattle.format_translation.specs.Translation.{Translation, mapping_of}
use Rattle.format_translation.specs.Running.{clauses_of, transform}
use Rattle.run_measure.specs.Cost.{cost}
use Rattle.run_measure.specs.Inner.Sizes.{size, own, uses, capped}
use Rattle.run_measure.specs.Inner.Counting.{Tables, times_at}
use Rattle.run_measure.specs.declared.measure.Figures.{Figures}

-- The measure of a tree, or why there is none.
abbrev pub Measured : Type 0
Measured = Result Figures ReadError

-- A position that was reached lies in the bytes, and what was measured is at most the top.
abbrev pub EndsIn : ℕ → ℕ → Measured → Type 0
EndsIn n top (Ok m) = (m.end ≤ n) × (m.length ≤ top) × (m.cost ≤ top)
EndsIn n top (Err e) = Unit {0}

-- What measuring comes to: the bytes after the tree, the length of its run and what it costs, one level too many, or no
-- such tree.
pub data Sized : Type 0 where
  sized : (rest : List ℕ) (length cost : ℕ) → Sized
  deep : Sized
  broken : Sized

-- What the code measured, with what is left after the position that it reached.
abbrev pub sized_at : List ℕ → Measured → Sized
sized_at b (Ok m) = sized (drop m.end b) m.length m.cost
sized_at b (Err Deep) = deep
sized_at b (Err Broken) = broken

-- What is to be measured: the length of the run by number j of the tree that was read, and its cost, up to the top.
abbrev pub sized_of : ℕ → Translation → ℕ → Meant.Read Code → Sized
sized_of top f j (Meant.done t r) = sized r (capped top (size (transform f j t))) (capped top (cost (clauses_of f) j t))
sized_of top f j Meant.deep = deep
sized_of top f j Meant.broken = broken

-- The tables run along the bytes of the source: at the name of a production they count, for each number that its result
-- has, the own bytes of that clause's code, at the kind of each argument how often the code uses that argument by each
-- number. The index says where a production stands. All numbers are below the width.
pub record Counted (t : Tables) (width : ℕ) (index : List ℕ) (f : Translation) : Type 0 where
  pub owns : (k p j u : ℕ) (ks : List ℕ) → k < 32 → p < 256 → arguments_of f.source k p ≡ some ks → mapping_of f.body k j ≡ some u
      → times_at t (get_or index (production_key k p) 0 + 3) (256 * j + 0) ≡ own (clauses_of f k p j)
  pub used : (k p j u : ℕ) (ks : List ℕ) → k < 32 → p < 256 → arguments_of f.source k p ≡ some ks → mapping_of f.body k j ≡ some u
      → (i m : ℕ) → i < length ks → m < 256
      → times_at t (get_or index (production_key k p) 0 + 4 + i) (256 * j + m) ≡ uses (1 + i) m (clauses_of f k p j)
  pub narrow : (k j u : ℕ) → mapping_of f.body k j ≡ some u → j < width
