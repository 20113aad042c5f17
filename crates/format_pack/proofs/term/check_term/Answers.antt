use mathlib.Core.Path.{sym, ◌∙◌, refl}
use Rattle.format_pack.proofs.Standing.{accepted_whole}
use Rattle.format_pack.proofs.Readings.{term_refused, term_accepted}
use Rattle.format_pack.proofs.term.check_term.Goals as goal

pub count_tag-languages-requires : goal.count_tag-languages-requires
count_tag-languages-requires c = accepted_whole _ c.requires.0 c.requires.1

pub count_tag-bodies-requires : goal.count_tag-bodies-requires
count_tag-bodies-requires c = accepted_whole _ c.requires.0 c.requires.1

pub returns-then-ne : goal.returns-then-ne
returns-then-ne c = λ p e. term_refused _ p e c.term_start-start.result _ _ (c.term_start-start.ensures.1 p e) c.count_tag-languages.ensures c.count_tag-bodies.ensures _ c.term_end.ensures.is c.term_end.ensures.within (sym c.ne.ensures ∙ c.if-ne.true) refl

pub returns : goal.returns
returns c = λ p e. term_accepted _ p e c.term_start-start.result _ _ (c.term_start-start.ensures.1 p e) c.count_tag-languages.ensures c.count_tag-bodies.ensures _ c.term_end.ensures.is c.term_end.ensures.within (sym c.ne.ensures ∙ c.if-ne.false) refl
