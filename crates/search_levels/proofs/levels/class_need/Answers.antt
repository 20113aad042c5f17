use mathlib.Core.Path.{ap, ◌∙◌}
use Rattle.format_language.specs.Language.{in_range}
use Rattle.search_levels.proofs.Needing.{class_yes, class_no}
use Rattle.search_levels.proofs.levels.class_need.Goals as goal

pub returns-then-in_range : goal.returns-then-in_range
returns-then-in_range c = class_yes _ (c.in_range.ensures ∙ ap (in_range _) c.token_value.ensures.0) c.if-in_range.true

pub returns : goal.returns
returns c = class_no _ (c.in_range.ensures ∙ ap (in_range _) c.token_value.ensures.0) c.if-in_range.false
