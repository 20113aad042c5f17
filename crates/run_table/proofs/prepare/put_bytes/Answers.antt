use Rattle.format_fields.proofs.Splices.{nothing_spliced}
use Rattle.run_table.proofs.Tables.{byte_put}
use Rattle.run_table.proofs.prepare.put_bytes.Goals as goal

pub loop-i-init : goal.loop-i-init
loop-i-init c = nothing_spliced _ _

pub loop-i-preserved : goal.loop-i-preserved
loop-i-preserved c = byte_put _ _ _ _ _ _ c.loop-i.invariant c.loop-i-test.true c.requires c.from.ensures
