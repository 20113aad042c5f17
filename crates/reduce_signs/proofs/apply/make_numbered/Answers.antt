use Rattle.reduce_signs.proofs.Copying.{part_short}
use Rattle.reduce_signs.proofs.apply.make_numbered.Goals as goal

pub make-requires : goal.make-requires
make-requires c =
    let p = c.requires.0.0 in
    let k = c.body_at.ensures.is p.0 p.2.0 p.1 p.2.1 in
    (c.requires.0.1, c.requires.0.2, (p.2.0, k.0, k.1), part_short c.args.pack.now p.0 _ p.1 c.body_at.ensures.within, c.requires.1)

pub returns : goal.returns
returns c = λ p d v w z g x y. let k = c.body_at.ensures.is p d z g in c.make.ensures v w d x y k.0 k.1
