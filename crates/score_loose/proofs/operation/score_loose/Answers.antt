use borrow.Author.Rules.{rules}
use mir.Syntax.{w64}
use mir.Val.{SFits}
use mir.Facts.{to_z-of_z}
use Rattle.score_loose.proofs.Answering.{score_is}
use Rattle.score_loose.proofs.operation.score_loose.Goals as goal

pub returns-in-Ok : goal.returns-in-Ok
returns-in-Ok c =
    let f : SFits w64 c.in-Ok.ends.least = search rules in
    let g : SFits w64 c.in-Ok.ends.greatest = search rules in
    rw (to_z-of_z f, to_z-of_z g) (score_is _ _ _ _ c.in-Ok.ensures)

pub returns-in-Err : goal.returns-in-Err
returns-in-Err c = score_is _ _ _ _ c.in-Err.ensures
