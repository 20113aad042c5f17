use Rattle.std.proofs.Common.{rules, refl, arith, ◌≡◌, Err}
use Rattle.tree_reader.proofs.Lookup.{zeros}
use Rattle.format_card.specs.Card.{sees}
use Rattle.format_card.specs.Inner.Sets.{with_card}
use Rattle.tree_edit.proofs.Carded.{set_of_card, edit_refused, legal, root_small, owns, edit_given}
use Rattle.tree_edit.proofs.edit.edit_opened.Goals as goal

pub check_own-owned-requires : goal.check_own-owned-requires
check_own-owned-requires c = (refl, zeros 8224)

pub returns-in_err-seen : goal.returns-in_err-seen
returns-in_err-seen c =
    let asked : c.with_card.result ≡ with_card c.check_own-owned.result c.read_card.result = search rules in
    let e : c.from_residual.result ≡ Err c.in_err-seen.field-0.0 = search rules in
    rw e (edit_refused _ _ _ _ _ c.check_own-owned.ensures.0 c.read_card.ensures asked _ _ _ _ c.in_err-seen.was)

pub overflow_cast-root : goal.overflow_cast-root
overflow_cast-root c =
    let asked : c.with_card.result ≡ with_card c.check_own-owned.result c.read_card.result = search rules in
    let w = root_small _ _ _ _ _ c.check_own-owned.ensures.0 c.read_card.ensures asked (legal _ _ _ _ _ c.check_own-owned.ensures.0 c.read_card.ensures asked c.in_ok-seen.was).1 in omega arith

pub edit_legal-requires : goal.edit_legal-requires
edit_legal-requires c =
    let asked : c.with_card.result ≡ with_card c.check_own-owned.result c.read_card.result = search rules in
    let w = (legal _ _ _ _ _ c.check_own-owned.ensures.0 c.read_card.ensures asked c.in_ok-seen.was).1 in
    (w.owned.language, w.owned.subject, owns _ _ _ _ _ c.check_own-owned.ensures.0 c.read_card.ensures asked w _ (λ j. omega (arith, c.type_inv.tree j)) c.check_own-owned.ensures.1)

pub returns : goal.returns
returns c =
    let asked : c.with_card.result ≡ with_card c.check_own-owned.result c.read_card.result = search rules in
    let w = (legal _ _ _ _ _ c.check_own-owned.ensures.0 c.read_card.ensures asked c.in_ok-seen.was).1 in
    let o = owns _ _ _ _ _ c.check_own-owned.ensures.0 c.read_card.ensures asked w _ (λ j. omega (arith, c.type_inv.tree j)) c.check_own-owned.ensures.1 in
    edit_given _ _ _ _ _ c.check_own-owned.ensures.0 c.read_card.ensures asked w _ _ _ _ _ (c.edit_legal.ensures _ _ (sees w.card) o (set_of_card _ w.card w.holds))
