use Rattle.run_table.proofs.Tables.{filled}
use Rattle.run_table.proofs.prepare.fill.Goals as goal

pub returns : goal.returns
returns c = filled _ _ _ _ _ c.requires.2 c.requires.0 c.requires.1 c.put_bytes.ensures c.put_bytes-2.ensures
