use Prim.Native.Nat.{◌+◌, ◌*◌, ◌/◌, ◌%◌}
use mathlib.Core.Path.{refl}
use Rattle.search_levels.proofs.Kept.{keeps_none, second_inside, third_inside, fourth_inside, keeps_there}
use Rattle.search_levels.proofs.memory.keep_end.Goals as goal

pub returns-then-memory-at : goal.returns-then-memory-at
returns-then-memory-at c = keeps_none _ _ _ _

pub returns-then-end-gt-LAST_END : goal.returns-then-end-gt-LAST_END
returns-then-end-gt-LAST_END c = keeps_none _ _ _ _

pub bounds-memory-p-2 : goal.bounds-memory-p-2
bounds-memory-p-2 c = second_inside c.args.memory.now c.args.at (c.from.result * 8 + c.args.end / 16777216) 0 0 c.if-memory-at.false

pub bounds-memory-p-3 : goal.bounds-memory-p-3
bounds-memory-p-3 c = third_inside c.args.memory.now c.args.at (c.from.result * 8 + c.args.end / 16777216) (c.args.end / 65536 % 256) 0 c.if-memory-at.false

pub bounds-memory-p-4 : goal.bounds-memory-p-4
bounds-memory-p-4 c = fourth_inside c.args.memory.now c.args.at (c.from.result * 8 + c.args.end / 16777216) (c.args.end / 65536 % 256) (c.args.end / 256 % 256) c.if-memory-at.false

pub returns : goal.returns
returns c = keeps_there c.args.memory.now _ c.args.at c.args.end _ c.requires c.if-memory-at.false c.if-end-gt-LAST_END.false refl c.from.ensures
