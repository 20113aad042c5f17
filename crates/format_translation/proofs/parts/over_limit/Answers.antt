use mathlib.Core.Path.{◌∙◌}
use Rattle.format_translation.proofs.Found.{over_file, over_language}
use Rattle.format_translation.proofs.parts.over_limit.Goals as goal

pub returns-then-s-gt-TRANSLATION_LIMIT : goal.returns-then-s-gt-TRANSLATION_LIMIT
returns-then-s-gt-TRANSLATION_LIMIT c = over_file c.args.s.now c.if-s-gt-TRANSLATION_LIMIT.true

pub returns : goal.returns
returns c = c.says_over.ensures ∙ over_language c.args.s.now c.if-s-gt-TRANSLATION_LIMIT.false
