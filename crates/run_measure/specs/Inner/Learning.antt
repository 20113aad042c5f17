-- What measuring keeps for later: where trees end.
use Rattle.std.specs.Prelude.{ℕ, Ok, Err, suc, ◌-◌, ◌≤◌, ◌≡◌, ◌⊎◌, List, [], length}
use Rattle.tree_reader.specs.Inner.Positions.{operands_from, read_at}
use Rattle.tree_reader.specs.Inner.Ends.{Kept}
use Rattle.tree_reader.specs.declared.node.Syntax.TheVariants.{Tree}
use Rattle.run_measure.specs.Inner.Descent.{Step}

-- What is kept after but was not before is where the reader ends, in the bytes.
abbrev pub Learnt : List ℕ → List ℕ → List ℕ → List ℕ → List ℕ → Type 0
Learnt s index b before after =
    (k at e : ℕ) → Kept after k at e → Kept before k at e ⊎ ((n : ℕ) × (read_at Tree s index [] b n k at ≡ Ok e) × (e ≤ length b))

-- The row that a step found decides where the tree of kind k at `at` ends, however many levels are left.
abbrev pub Decides : List ℕ → List ℕ → List ℕ → ℕ → ℕ → Step → Type 0
Decides s index b k at (Ok r) =
    (n : ℕ) → read_at Tree s index [] b (suc n) k at ≡ operands_from (read_at Tree s index [] b n) s (r.last - r.first) r.first r.done.end
Decides s index b k at (Err e) = Unit {0}
