use mathlib.Core.Path.{◌≡◌}
use lib.ListN.{length}
use Rattle.search_operation.proofs.Listing.{Listed}
use Rattle.search_operation.proofs.kinds.put_kinds.Given as goal

abbrev pub invariant-loop-kind : goal.invariant-loop-kind
invariant-loop-kind l = (length l.kinds ≡ length l.initial.kinds) × Listed l.table l.uses l.kinds l.kind
