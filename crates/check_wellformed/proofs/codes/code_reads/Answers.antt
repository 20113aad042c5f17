use Rattle.check_wellformed.proofs.Coded.{code_read}
use Rattle.check_wellformed.proofs.codes.code_reads.Goals as goal

pub returns : goal.returns
returns c = λ l z. code_read _ _ _ _ c.requires.0 c.requires.1 l _ _ c.read_code-end.result (c.read_code-end.ensures.is l z) c.read_code-end.ensures.within _ c.eq.ensures
