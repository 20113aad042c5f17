use Rattle.std.specs.Prelude.{Err}
use mathlib.Core.Path.{◌≡◌, sym, ◌∙◌, refl}
use Rattle.tree_reader.proofs.Lookup.{zeros}
use Rattle.format_translation.proofs.Accepted.{accepts}
use Rattle.search_operation.proofs.Wrapping.{search_refused, parts_tabled, body_there, search_numbered, search_plain}
use borrow.Author.Rules.{rules}
use Rattle.search_operation.proofs.search.search_opened.Goals as goal

pub open_translation-requires : goal.open_translation-requires
open_translation-requires c = (zeros 26184, zeros 8200)

pub returns-in_err-open_translation : goal.returns-in_err-open_translation
returns-in_err-open_translation c =
    let r : c.from_residual.result ≡ Err c.in_err-open_translation.field-0.0 = search rules in
    search_refused _ _ _ _ _ _ _ _ _ c.open_translation.ensures.is c.in_err-open_translation.was r

pub body_of-requires : goal.body_of-requires
body_of-requires c = let a = accepts _ c.open_translation.ensures.is c.in_ok-open_translation.was in (a.translation, a.is)

pub is_plain-requires : goal.is_plain-requires
is_plain-requires c = let a = accepts _ c.open_translation.ensures.is c.in_ok-open_translation.was in (a.translation.body, (body_there _ a.translation a.is c.body_of.ensures))

pub returns-then-not-is_plain : goal.returns-then-not-is_plain
returns-then-not-is_plain c = let a = accepts _ c.open_translation.ensures.is c.in_ok-open_translation.was in search_numbered _ _ _ _ _ _ _ a.translation a.is (sym (c.is_plain.ensures a.translation.body (body_there _ a.translation a.is c.body_of.ensures)) ∙ c.if-not-is_plain.true) refl

pub source_of-requires : goal.source_of-requires
source_of-requires c = let a = accepts _ c.open_translation.ensures.is c.in_ok-open_translation.was in (a.translation, a.is)

pub target_of-requires : goal.target_of-requires
target_of-requires c = let a = accepts _ c.open_translation.ensures.is c.in_ok-open_translation.was in (a.translation, a.is)

pub search_from-requires : goal.search_from-requires
search_from-requires c = let a = accepts _ c.open_translation.ensures.is c.in_ok-open_translation.was in (a.translation, (parts_tabled _ a.translation a.is (sym (c.is_plain.ensures a.translation.body (body_there _ a.translation a.is c.body_of.ensures)) ∙ c.if-not-is_plain.false) c.source_of.ensures c.target_of.ensures (c.open_translation.ensures.kept a.translation a.is)))

pub returns : goal.returns
returns c = let a = accepts _ c.open_translation.ensures.is c.in_ok-open_translation.was in search_plain _ _ _ _ _ _ _ a.translation a.is _ _ (sym (c.is_plain.ensures a.translation.body (body_there _ a.translation a.is c.body_of.ensures)) ∙ c.if-not-is_plain.false) (c.search_from.ensures a.translation (parts_tabled _ a.translation a.is (sym (c.is_plain.ensures a.translation.body (body_there _ a.translation a.is c.body_of.ensures)) ∙ c.if-not-is_plain.false) c.source_of.ensures c.target_of.ensures (c.open_translation.ensures.kept a.translation a.is)))
