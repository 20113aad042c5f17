use Rattle.std.proofs.Common.{List}
use Rattle.tree_index.specs.Spans.{Span}
use Rattle.tree_index.specs.Inner.Starts.{Splits}
use Rattle.tree_index.proofs.Starts.{Passing}
use Rattle.tree_index.proofs.entries.entry_from.Given as goal

abbrev pub invariant-loop-p : goal.invariant-loop-p
invariant-loop-p l = (front back : List Span) → Splits l.index l.entry l.position front back → Passing l.index l.entry l.position l.p front back
