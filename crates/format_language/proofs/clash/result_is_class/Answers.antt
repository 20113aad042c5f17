use Rattle.format_language.proofs.Classes.{classed_is}
use Rattle.format_language.proofs.clash.result_is_class.Goals as goal

pub returns : goal.returns
returns c = classed_is _ _ _ c.mark_classes-p.ensures _ c.results_marked.ensures
