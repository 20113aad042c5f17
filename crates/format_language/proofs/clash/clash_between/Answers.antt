use mathlib.Core.Path.{sym, ◌∙◌}
use Rattle.format_language.proofs.Classes.{no_classes, meet_marked, clash_left, clash_right}
use Rattle.format_language.proofs.clash.clash_between.Goals as goal
use Rattle.format_language.proofs.clash.clash_between.Goals.{then-p-ne0+else-results_marked, else-p-ne0}

pub returns-then-results_marked : goal.returns-then-results_marked
returns-then-results_marked c = clash_left _ _ _ _ _ _ c.mark_classes-p.ensures c.mark_classes-q.ensures _ c.results_marked.ensures c.if-results_marked.true

pub returns-then-q-eq0 : goal.returns-then-q-eq0
returns-then-q-eq0 c = clash_right _ _ _ _ _ _ c.mark_classes-p.ensures c.mark_classes-q.ensures (elim c.if-p-ne0.branch [ then-p-ne0+else-results_marked w ↦ sym w.if-results_marked.false ∙ meet_marked _ _ _ _ _ _ c.mark_classes-p.ensures c.mark_classes-q.ensures _ w.results_marked.ensures | else-p-ne0 w ↦ no_classes _ _ _ _ _ _ c.mark_classes-p.ensures c.mark_classes-q.ensures w.if-p-ne0.false ]) _ (no_classes _ _ _ _ _ _ c.mark_classes-q.ensures c.mark_classes-p.ensures c.if-q-eq0.true)

pub returns : goal.returns
returns c = clash_right _ _ _ _ _ _ c.mark_classes-p.ensures c.mark_classes-q.ensures (elim c.if-p-ne0.branch [ then-p-ne0+else-results_marked w ↦ sym w.if-results_marked.false ∙ meet_marked _ _ _ _ _ _ c.mark_classes-p.ensures c.mark_classes-q.ensures _ w.results_marked.ensures | else-p-ne0 w ↦ no_classes _ _ _ _ _ _ c.mark_classes-p.ensures c.mark_classes-q.ensures w.if-p-ne0.false ]) _ (meet_marked _ _ _ _ _ _ c.mark_classes-q.ensures c.mark_classes-p.ensures _ c.results_marked-2.ensures)
