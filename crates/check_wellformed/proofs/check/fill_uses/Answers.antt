use native.Mathlib.Omega.{arith}
use mathlib.Core.Path.{sym}
use Rattle.check_wellformed.proofs.Coded.{zeros_front, filled_room, filled_uses, front_count}
use Rattle.check_wellformed.proofs.check.fill_uses.Goals as goal

pub slice_bounds-put_uses-end-2 : goal.slice_bounds-put_uses-end-2
slice_bounds-put_uses-end-2 c = front_count c.args.uses.now 8192 8200 (omega arith) c.requires.1

pub put_uses-requires : goal.put_uses-requires
put_uses-requires c = (c.requires.0, sym (front_count c.args.uses.now 8192 8200 (omega arith) c.requires.1), zeros_front c.args.uses.now c.requires.2, c.requires.3)

pub returns : goal.returns
returns c = (filled_room c.args.uses.now c.put_uses.new.uses c.requires.1 c.put_uses.ensures.0, λ b e. filled_uses c.args.uses.now c.put_uses.new.uses b c.put_uses.ensures.0 (c.put_uses.ensures.1 b e))
