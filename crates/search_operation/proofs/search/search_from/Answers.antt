use mathlib.Core.Path.{sym, ◌∙◌, refl}
use Rattle.search_operation.proofs.Wrapping.{root_past, from_unknown, from_known}
use Rattle.search_operation.proofs.search.search_from.Goals as goal

pub returns-then-root-gt-LAST_KIND : goal.returns-then-root-gt-LAST_KIND
returns-then-root-gt-LAST_KIND c = λ f z. from_unknown f _ _ _ _ _ _ (root_past _ _ _ _ f z _ c.if-root-gt-LAST_KIND.true) refl

pub returns-then-not-is_in : goal.returns-then-not-is_in
returns-then-not-is_in c = λ f z. from_unknown f _ _ _ _ _ _ (sym (c.is_in.ensures f.source z.searchable.checked.pieces.source) ∙ c.if-not-is_in.true) refl

pub returns : goal.returns
returns c = λ f z. from_known f _ _ _ _ _ _ _ _ (sym (c.is_in.ensures f.source z.searchable.checked.pieces.source) ∙ c.if-not-is_in.false) (c.search_in.ensures f z)
