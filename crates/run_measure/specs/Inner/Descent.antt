-- Measuring from above: each operand has its weights, how often its runs count in the whole, and adds to one length and one
-- cost.
use Rattle.tree_reader.specs.declared.node.ReadError.{ReadError}
use Rattle.tree_reader.specs.declared.node.ReadError.TheVariants.{Broken}
use Rattle.std.specs.Prelude.{ℕ, Result, Ok, Err, zero, suc, ◌+◌, ◌*◌, ◌-◌, ◌<◌, ◌≤◌, ◌≡◌, Bool, ◌&&◌, List, [], get_or, eqb}
use Rattle.tree_reader.specs.Inner.Positions.{node_at, past_at, KindsIn, Read}
use Rattle.tree_reader.specs.declared.node.Syntax.TheVariants.{Tree}
use Rattle.tree_reader.specs.declared.node.Node.{Node}
use Rattle.tree_reader.specs.declared.node.Node.TheVariants.{Leaf, Operands}
use Rattle.run_measure.specs.Inner.Sizes.{capped}
use Rattle.run_measure.specs.Inner.Weighing.{Weights, sum_of}
use Rattle.run_measure.specs.Inner.Measuring.{Measured}
use Rattle.run_measure.specs.declared.measure.Row.{Row}

-- The row that was found where a tree begins, or why there is none.
abbrev pub Step : Type 0
Step = Result Row ReadError

-- What was measured, by its three numbers.
abbrev pub measured : ℕ → ℕ → ℕ → Measured
measured e n c = Ok (record { end = e; length = n; cost = c })

-- The row of kinds from q up to e whose operands begin at `to`, with a length and a cost.
abbrev pub row_at : ℕ → ℕ → ℕ → ℕ → ℕ → Step
row_at q e to n c = Ok (record { first = q; last = e; done = record { end = to; length = n; cost = c } })

-- What gives the weights of what stands at a position of the source, by those of the tree that it belongs to.
abbrev pub Weighing : Type 0
Weighing = ℕ → Weights → Weights

-- A leaf of a tree is a token: two bytes, as often as it is put out, and no clause.
abbrev pub leaf_down : ℕ → Weights → ℕ → ℕ → Read → Measured
leaf_down top w sum cost (Ok e) = measured e (capped top (sum + sum_of top w * 2)) cost
leaf_down top w sum cost (Err e) = Err e

-- As many operands as the number says of a row with weights w, each with the weights that the row gives it.
unfoldable pub down_from : (Weights → ℕ → ℕ → ℕ → ℕ → Measured) → List ℕ → Weighing → ℕ → Weights → ℕ → ℕ → ℕ → ℕ → Measured
down_from f s v zero w q at sum cost = measured at sum cost
down_from f s v (suc m) w q at sum cost =
    elim (f (v q w) (get_or s q 0) at sum cost) [
      | Ok r ↦ down_from f s v m w (q + 1) r.end r.length r.cost
      | Err e ↦ Err e
    ]

-- What a node with weights w adds, where f measures its operands: what its codes write themselves, and one for each code.
abbrev pub weigh_down : (Weights → ℕ → ℕ → ℕ → ℕ → Measured) → List ℕ → Weighing → ℕ → Weights → ℕ → ℕ → Node → Measured
weigh_down f s v top w sum cost (Leaf r) = leaf_down top w sum cost r
weigh_down f s v top w sum cost (Operands q e to) =
    down_from f s v (e - q) w q to (capped top (sum + v (q - 1) w 0)) (capped top (cost + sum_of top w))

-- The tree of kind k at `at`, with so many levels left and weights w, on top of a length and a cost.
unfoldable pub down_at : List ℕ → List ℕ → Weighing → List ℕ → ℕ → ℕ → Weights → ℕ → ℕ → ℕ → ℕ → Measured
down_at s index v b top zero w k at sum cost = leaf_down top w sum cost (past_at Tree s index k b at)
down_at s index v b top (suc n) w k at sum cost =
    weigh_down (down_at s index v b top n) s v top w sum cost (node_at Tree s index [] k b at)

-- With so many levels left a tree of kind k is one too many: none is left, and the kind is no class.
abbrev pub out_of_levels : List ℕ → ℕ → ℕ → Bool
out_of_levels index k n = eqb n 0 && eqb (get_or index k 0) 0

-- The operands from q up to e of a row, with so many levels left for each.
abbrev pub down_row : List ℕ → List ℕ → Weighing → List ℕ → ℕ → ℕ → Weights → ℕ → ℕ → ℕ → ℕ → ℕ → Measured
down_row s index v b top n w q e at sum cost = down_from (down_at s index v b top n) s v (e - q) w q at sum cost

-- The rows that wait, the deepest first, measured on from where the one below them ended.
unfoldable pub unwind : List ℕ → List ℕ → Weighing → List ℕ → ℕ → ℕ → List ℕ → List ℕ → (ℕ → Weights) → ℕ → Measured → Measured
unwind s index v b top levels firsts lasts rows zero r = r
unwind s index v b top levels firsts lasts rows (suc d) r =
    elim r [
      | Ok r ↦
          unwind s index v b top levels firsts lasts rows d
          (down_row s index v b top (levels - d) (rows d) (get_or firsts d 0) (get_or lasts d 0) r.end r.length r.cost)
      | Err e ↦ Err e
    ]

-- The rows that wait stand in the source, and their kinds are there.
abbrev pub Waiting : List ℕ → List ℕ → List ℕ → ℕ → Type 0
Waiting s firsts lasts d =
    (j : ℕ) → j < d → (get_or firsts j 0 ≤ 1024) × (get_or lasts j 0 ≤ 1024) × KindsIn s (get_or firsts j 0) (get_or lasts j 0)

-- A token's row is empty.
abbrev pub leaf_step : ℕ → ℕ → ℕ → ℕ → Read → Step
leaf_step top total sum cost (Ok e) = row_at 0 0 e (capped top (sum + total * 2)) cost
leaf_step top total sum cost (Err e) = Err Broken

-- What a step comes to, where the row that it found has weights w and so many levels left.
abbrev pub goes_on : List ℕ → List ℕ → Weighing → List ℕ → ℕ → ℕ → Weights → Step → Measured
goes_on s index v b top n w (Ok r) = down_row s index v b top n w r.first r.last r.done.end r.done.length r.done.cost
goes_on s index v b top n w (Err e) = Err e

-- A step goes on in the bytes, within the top, and to a row of the source.
abbrev pub StepIn : List ℕ → ℕ → ℕ → ℕ → Step → Type 0
StepIn s n top at (Ok r) = (at < r.done.end) × (r.done.end ≤ n) × (r.done.length ≤ top) × (r.done.cost ≤ top) × KindsIn s r.first r.last
StepIn s n top at (Err e) = Unit {0}

-- A class, whose field stands before a place, has no operands.
abbrev pub Childless : ℕ → Step → Type 0
Childless place (Ok r) = (place ≡ 0 → ⊥) → r.last ≤ r.first
Childless place (Err e) = Unit {0}
