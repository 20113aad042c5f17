use Rattle.std.proofs.Common.{rules}
use Rattle.reduce_operators.specs.Inner.Numbers.{mapping_below}
use Rattle.reduce_operators.proofs.Numbering.{below_tested}
use Rattle.reduce_operators.proofs.numbers.numbers_below.Goals as goal

pub returns : goal.returns
returns c = λ b e. c.mappings_pass.ensures b (mapping_below c.args.limit) e (below_tested c.args.limit _ (λ key r post. search rules))
