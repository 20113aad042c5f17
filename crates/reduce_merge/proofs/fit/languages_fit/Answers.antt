use mathlib.Core.Path.{ap, ◌∙◌}
use mathlib.Core.Bool.{not}
use Rattle.reduce_merge.proofs.Agreeing.{entries_sorted, fit_clash, fit_agree}
use Rattle.reduce_merge.proofs.fit.languages_fit.Goals as goal

pub agree-requires : goal.agree-requires
agree-requires c = (entries_sorted _ c.requires.0, entries_sorted _ c.requires.1)

pub returns-then-not-clash_between : goal.returns-then-not-clash_between
returns-then-not-clash_between c = fit_agree _ _ _ c.clash_between.ensures c.if-not-clash_between.true _ c.agree.ensures

pub returns-else-not-clash_between : goal.returns-else-not-clash_between
returns-else-not-clash_between c = ap not c.if-not-clash_between.false ∙ fit_clash _ _ _ c.clash_between.ensures c.if-not-clash_between.false
