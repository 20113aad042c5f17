use Rattle.std.proofs.Common.{List, length, ◌≡◌}
use Rattle.tree_index.specs.Spans.{Span}
use Rattle.tree_edit.specs.Inner.Moving.{Part}
use Rattle.tree_edit.proofs.Entries.{Moving}
use Rattle.tree_edit.proofs.moves.move_entries.Given as goal

abbrev pub invariant-loop-at : goal.invariant-loop-at
invariant-loop-at c =
    (length c.out ≡ length c.initial.out)
    × ((l : List Span) → Part c.index c.from c.stop l → Moving c.index c.initial.out c.out c.from c.stop c.change.start c.change.old c.change.new c.n c.at l)
