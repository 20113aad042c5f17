use Rattle.format_language.proofs.Holds.{holds_entries}
use Rattle.format_translation.proofs.Rising.{both_rise, clash_source, clash_target}
use Rattle.format_translation.proofs.order.languages_clash.Goals as goal

pub result_is_class-requires : goal.result_is_class-requires
result_is_class-requires c = record { whole = (holds_entries _ _ c.requires.2.source).whole; rises = (both_rise _ _ _ _ c.requires.2 c.requires.3).0 }

pub returns-then-result_is_class : goal.returns-then-result_is_class
returns-then-result_is_class c = λ b f w. clash_source _ _ _ f w _ c.result_is_class.ensures c.if-result_is_class.true

pub result_is_class-requires-2 : goal.result_is_class-requires-2
result_is_class-requires-2 c = record { whole = (holds_entries _ _ c.requires.2.target).whole; rises = (both_rise _ _ _ _ c.requires.2 c.requires.3).1 }

pub returns : goal.returns
returns c = λ b f w. clash_target _ _ _ f w _ c.result_is_class.ensures c.if-result_is_class.false _ c.result_is_class-2.ensures
