use Rattle.tree_edit.proofs.Entries.{put_behind, put_around, put_before}
use Rattle.tree_edit.proofs.moves.move_entry.Goals as goal

pub returns-then-start-old : goal.returns-then-start-old
returns-then-start-old c = put_behind _ _ _ _ _ _ _ _ c.pair_in-from.ensures.0 c.pair_in-size.ensures.0 c.if-start-old.true (c.put_entry.ensures c.requires.1)

pub returns-then-start-from : goal.returns-then-start-from
returns-then-start-from c =
    put_around _ _ _ _ _ _ _ _ c.pair_in-from.ensures.0 c.pair_in-size.ensures.0 c.if-start-old.false c.if-start-from.true (c.put_entry-then-start-from.ensures c.requires.1)

pub returns-else-start-from : goal.returns-else-start-from
returns-else-start-from c =
    put_before _ _ _ _ _ _ _ _ c.pair_in-from.ensures.0 c.pair_in-size.ensures.0 c.if-start-old.false c.if-start-from.false (c.put_entry-else-start-from.ensures c.requires.1)
