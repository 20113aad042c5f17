use Rattle.format_language.proofs.Returns.{step_five, step_none, step_seven}
use Rattle.format_language.proofs.entries.step_whole.Goals as goal

pub returns-then-n-eq-CLASS_LENGTH : goal.returns-then-n-eq-CLASS_LENGTH
returns-then-n-eq-CLASS_LENGTH c = step_five _ _ _ c.requires.1 c.if-n-eq-CLASS_LENGTH.true

pub returns-then-n-ne-STEPPED_LENGTH : goal.returns-then-n-ne-STEPPED_LENGTH
returns-then-n-ne-STEPPED_LENGTH c = step_none _ _ _ c.requires.1 c.if-n-eq-CLASS_LENGTH.false c.if-n-ne-STEPPED_LENGTH.true

pub returns : goal.returns
returns c = step_seven _ _ _ c.requires.1 c.if-n-eq-CLASS_LENGTH.false c.if-n-ne-STEPPED_LENGTH.false _ c.pair_in.ensures.0
