use lib.Seq.{slice}
use Rattle.format_fields.proofs.Splices.{put_wanted, put_unwanted}
use Rattle.format_fields.proofs.copy.put_if.Goals as goal

pub returns-then-wanted : goal.returns-then-wanted
returns-then-wanted c = put_wanted c.args.wanted (slice c.args.p c.args.e c.args.s.now) _ _ c.if-wanted.true _ _ c.put.ensures

pub returns-else-wanted : goal.returns-else-wanted
returns-else-wanted c = put_unwanted c.args.wanted (slice c.args.p c.args.e c.args.s.now) _ _ c.if-wanted.false c.requires.1
