use Rattle.reduce_signs.proofs.Copying.{operands_as, applied_as}
use Rattle.reduce_signs.proofs.apply.apply.Goals as goal

pub apply_one-requires : goal.apply_one-requires
apply_one-requires c = (operands_as c.args.pack.now c.args.store.now c.args.start c.args.middle c.args.end c.in-One.is c.requires.1 c.requires.2 c.requires.3 c.requires.0, c.requires.4)

pub apply_two-requires : goal.apply_two-requires
apply_two-requires c = (operands_as c.args.pack.now c.args.store.now c.args.start c.args.middle c.args.end c.in-Two.is c.requires.1 c.requires.2 c.requires.3 c.requires.0, c.requires.4)

pub make_numbered-requires : goal.make_numbered-requires
make_numbered-requires c = (operands_as c.args.pack.now c.args.store.now c.args.start c.args.middle c.args.end c.in-Make.is c.requires.1 c.requires.2 c.requires.3 c.requires.0, c.requires.4)

pub returns-in-One : goal.returns-in-One
returns-in-One c = applied_as c.args.pack.now c.args.store.now c.args.start c.args.middle c.args.end c.in-One.is c.requires.1 c.requires.2 c.requires.3 _ _ _ c.apply_one.ensures

pub returns-in-Two : goal.returns-in-Two
returns-in-Two c = applied_as c.args.pack.now c.args.store.now c.args.start c.args.middle c.args.end c.in-Two.is c.requires.1 c.requires.2 c.requires.3 _ _ _ c.apply_two.ensures

pub returns-in-Make : goal.returns-in-Make
returns-in-Make c = applied_as c.args.pack.now c.args.store.now c.args.start c.args.middle c.args.end c.in-Make.is c.requires.1 c.requires.2 c.requires.3 _ _ _ c.make_numbered.ensures
