use Rattle.format_fields.specs.Inner.Places.{field_end}
use borrow.Author.Rules.{rules}
use Rattle.format_fields.proofs.walk.whole_end.Goals as goal

pub overflow_add-result : goal.overflow_add-result
unfolding field_end
overflow_add-result c = search rules

pub overflow_add-p : goal.overflow_add-p
unfolding field_end
overflow_add-p c = search rules

pub pair_in-requires : goal.pair_in-requires
unfolding field_end
pair_in-requires c = search rules

pub overflow_add-result-2 : goal.overflow_add-result-2
unfolding field_end
overflow_add-result-2 c = search rules

pub returns : goal.returns
unfolding field_end
returns c = search rules
