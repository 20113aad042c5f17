use borrow.Author.Rules.{rules}
use native.Mathlib.Omega.{arith}
use Rattle.check_wellformed.proofs.Marked.{part_kind, part_marked, part_mark}
use Rattle.check_wellformed.proofs.kinds.mark_part.Goals as goal

pub mark-requires : goal.mark-requires
mark-requires c = let k = (part_kind _ _ c.loop-kind.invariant.1 c.loop-kind-test.true).0 in omega (arith, c.loop-kind.invariant.0, c.requires.1)

pub loop-kind-preserved : goal.loop-kind-preserved
loop-kind-preserved c = (search rules, (part_kind _ _ c.loop-kind.invariant.1 c.loop-kind-test.true).1, part_mark _ _ _ _ c.loop-kind.invariant.2 _ c.mark.ensures c.loop-kind-test.true)

pub returns : goal.returns
returns c = part_marked _ _ _ _ c.loop-kind.invariant.2 c.loop-kind-test.false
