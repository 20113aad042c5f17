use Prim.Native.Nat.{◌+◌, ◌*◌, ◌-◌, ◌≤◌}
use mathlib.Core.Path.{◌≡◌}
use lib.ListN.{length}
use Rattle.listing.proofs.Lines.{Lines}
use Rattle.listing.proofs.clauses.put_clauses.Given as goal

abbrev pub invariant-loop-p : goal.invariant-loop-p
invariant-loop-p l = record {
  room : l.to + 3 * (length l.s - l.p) ≤ l.at + 3 * length l.s;
  long : length l.text ≡ length l.initial.text;
  lines : Lines l.s l.initial.text l.text l.at l.to l.p;
}

abbrev pub decreases-loop-p : goal.decreases-loop-p
decreases-loop-p l = length l.s - l.p
