use native.Mathlib.Omega.{arith}
use Rattle.program_text.proofs.Putting.{zeros}
use Rattle.listing.proofs.WholeText.{length_within, text_is, counts}
use Rattle.listing.proofs.list.Goals as goal

pub put_outcome-requires : goal.put_outcome-requires
put_outcome-requires c = (length_within _ _ _ _ _ c.reduce-answer.ensures.0 c.reduce-answer.ensures.1, (omega arith, omega arith))

pub returns : goal.returns
returns c = counts _ _ _ _ _ c.put_outcome.ensures (text_is _ _ _ _ _ c.reduce-answer.ensures.0 c.reduce-answer.ensures.1 (zeros 65536) (zeros 4096))
