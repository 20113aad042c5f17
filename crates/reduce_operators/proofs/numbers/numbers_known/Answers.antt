use Rattle.std.proofs.Common.{rules}
use Rattle.reduce_operators.specs.Inner.Numbers.{number_in}
use Rattle.reduce_operators.proofs.Numbering.{known_tested}
use Rattle.reduce_operators.proofs.numbers.numbers_known.Goals as goal

pub returns : goal.returns
returns c = λ b d e w. c.mappings_pass.ensures b (number_in d) e (known_tested c.args.uses.now d w _ (λ key r post. search rules))
