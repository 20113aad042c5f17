use Prim.Native.Nat.{ℕ, ◌-◌, ◌≤◌}
use Rattle.reduce_merge.specs.Inner.Parts.{Shared}
use Rattle.reduce_merge.proofs.prefix.shared.Given as goal

abbrev pub invariant-loop-p : goal.invariant-loop-p
invariant-loop-p l = (l.p ≤ l.n) × ((first : ℕ) → Shared first l.a l.b l.p)

abbrev pub decreases-loop-p : goal.decreases-loop-p
decreases-loop-p l = l.n - l.p
