use Rattle.std.proofs.Common.{refl, ◌∙◌, arith}
use Rattle.tree_edit.proofs.Entries.{move_begin, move_inside, move_fits, move_apart, move_next, move_done}
use Rattle.tree_edit.proofs.moves.move_entries.Goals as goal

pub loop-at-init : goal.loop-at-init
loop-at-init c = (refl, λ l h. move_begin h)

pub move_entry-requires : goal.move_entry-requires
move_entry-requires c =
    let w = c.loop-at.invariant.1 c.requires.3.1 c.requires.3.2 in
    let y = move_inside w c.loop-at-test.true in (
      y.0,
      omega (arith, y.1, y.2, c.requires.0, c.loop-at.invariant.0),
      omega (arith, y.1, y.2, c.requires.1),
      c.requires.2,
      move_fits w c.loop-at-test.true c.requires.3.3 c.requires.3.4,
      move_apart w c.loop-at-test.true c.requires.3.3 c.requires.3.4,
    )

pub loop-at-preserved : goal.loop-at-preserved
loop-at-preserved c =
    (c.move_entry.auto.out ∙ c.loop-at.invariant.0, λ l h. move_next (c.loop-at.invariant.1 l h) c.loop-at-test.true c.requires.0 c.move_entry.ensures)

pub returns : goal.returns
returns c = λ l h. move_done (c.loop-at.invariant.1 l h) c.loop-at-test.false

pub returns-2 : goal.returns-2
returns-2 c = λ l h. move_done (move_next (c.loop-at.invariant.1 l h) c.loop-at-test.true c.requires.0 c.move_entry.ensures) (omega arith)
