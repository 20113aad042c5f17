use Rattle.run_operation.proofs.Front.{counted_front, front_length, front_same, front_built}
use Rattle.run_operation.proofs.Laws.{rises, formed}
use Rattle.run_operation.proofs.run.begin.Goals as goal

pub prepare-requires : goal.prepare-requires
prepare-requires c =
    let p = c.requires.5.2.prepared in
    let t = c.args.given.now.table.now in
    let s = c.args.given.now.source.now in
    (p.checked.pieces.source_short, p.checked.short, front_length s t p.ready.long, front_built s t p.ready.long p.index, c.requires.0, c.requires.1, c.requires.2, c.requires.3, c.requires.4, (c.requires.5.1, p.checked.pieces.source, p.checked.pieces.body))

pub returns : goal.returns
returns c = λ t f z.
    let x = z.prepared.checked in
    counted_front _ _ (front_same c.args.given.now.source.now c.args.given.now.table.now z.prepared.ready.long) _ _ f (c.prepare.ensures f x.pieces.source x.pieces.body (rises x) (formed x))
