use Rattle.std.proofs.Common.{rules}
use Rattle.format_fields.specs.Fields.{pair_at}
use Rattle.format_fields.proofs.bytes.pair_at.Goals as goal

pub returns : goal.returns
unfolding pair_at
returns c = search rules
