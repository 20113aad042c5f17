use Rattle.std.proofs.Common.{rules, refl, arith, ◌≡◌, Err}
use Rattle.tree_reader.proofs.Lookup.{zeros}
use Rattle.check_operations.proofs.Opening.{opened_ready}
use Rattle.format_card.specs.Inner.Sets.{with_card}
use Rattle.tree_mask.proofs.Answers.{legal, mask_refused, mask_done}
use Rattle.tree_mask.proofs.mask.mask_opened.Goals as goal

pub open_language-opened-requires : goal.open_language-opened-requires
open_language-opened-requires c = (refl, zeros 8224)

pub returns-in_err-seen : goal.returns-in_err-seen
returns-in_err-seen c =
    let asked : c.with_card.result ≡ with_card c.open_language-opened.result c.read_card.result = search rules in
    let e : c.from_residual.result ≡ Err c.in_err-seen.field-0.0 = search rules in
    rw e (mask_refused c.args.language.now c.args.root c.args.card.now c.open_language-opened.ensures.is c.read_card.ensures asked c.args.tree.now c.args.output.now c.in_err-seen.was)

pub overflow_cast-root : goal.overflow_cast-root
overflow_cast-root c =
    let asked : c.with_card.result ≡ with_card c.open_language-opened.result c.read_card.result = search rules in
    let a = legal c.args.language.now c.args.root c.args.card.now c.open_language-opened.ensures.is c.read_card.ensures asked c.in_ok-seen.was in omega (arith, (c.open_language-opened.ensures.opened a.language a.is).kind)

pub mask_read-requires : goal.mask_read-requires
mask_read-requires c =
    let asked : c.with_card.result ≡ with_card c.open_language-opened.result c.read_card.result = search rules in
    let a = legal c.args.language.now c.args.root c.args.card.now c.open_language-opened.ensures.is c.read_card.ensures asked c.in_ok-seen.was in opened_ready _ _ _ _ (c.open_language-opened.ensures.opened a.language a.is) _

pub returns : goal.returns
returns c =
    let asked : c.with_card.result ≡ with_card c.open_language-opened.result c.read_card.result = search rules in
    mask_done c.args.language.now c.args.root c.args.card.now c.open_language-opened.ensures.is c.read_card.ensures asked c.args.tree.now c.args.output.now c.in_ok-seen.was _ c.open_language-opened.ensures.opened _ c.mask_read.ensures
