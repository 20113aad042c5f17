use Prim.Native.Nat.{ℕ, ◌+◌, ◌-◌}
use mathlib.Core.Path.{◌≡◌, ap, ◌∙◌}
use mathlib.Core.List.{List}
use native.Mathlib.Omega.{arith}
use lib.ListN.{set, get_or, length-set}
use Rattle.format_fields.proofs.Splices.{put_more, put_full, put_done}
use Rattle.format_fields.proofs.copy.put.Goals as goal

pub returns-then-out-m : goal.returns-then-out-m
returns-then-out-m c = put_full _ _ _ _ _ c.requires.0.rise c.requires.0.fits c.if-out-m.true

pub loop-i-preserved : goal.loop-i-preserved
loop-i-preserved c = (simp length-set (omega arith), ap (λ (l : List ℕ). set l (c.args.n + c.loop-i.i) (get_or c.args.s.now (c.args.p + c.loop-i.i) 0)) c.loop-i.invariant.1 ∙ put_more c.args.s.now c.args.p c.args.e c.args.out.now c.args.n c.requires.0.rise c.requires.0.fits c.loop-i.i (omega arith) (omega arith))

pub returns : goal.returns
returns c = let e : c.loop-i.i ≡ c.args.e - c.args.p = omega arith in put_done _ _ _ _ _ c.requires.0.rise c.requires.0.fits _ c.if-out-m.false (rw e at c.loop-i.invariant.1)
