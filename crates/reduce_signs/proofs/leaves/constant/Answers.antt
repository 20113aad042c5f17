use mathlib.Core.Path.{ap, ◌∙◌}
use native.Mathlib.Omega.{arith}
use lib.ListN.{get_elem?}
use Rattle.reduce_signs.proofs.leaves.constant.Goals as goal

pub language-requires : goal.language-requires
language-requires c =
    let l = c.requires.0.2 in
    ((l.0, c.language_at-language.ensures.is c.requires.0.0 l.0 c.requires.0.1 (ap (get_elem? c.requires.0.0.languages) (c.from.ensures ∙ c.byte_at.ensures) ∙ l.1)), omega arith)

pub returns : goal.returns
returns c = λ p l z w. record {
  outcome = c.language.result;
  gives = c.language.ensures l (c.language_at-language.ensures.is p l z (ap (get_elem? p.languages) (c.from.ensures ∙ c.byte_at.ensures) ∙ w));
  answer = c.finish.ensures;
}
