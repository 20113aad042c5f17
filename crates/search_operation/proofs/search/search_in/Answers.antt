use mathlib.Core.Path.{◌≡◌, refl}
use mathlib.Core.Bool.{false}
use Rattle.std.specs.Prelude.{Err}
use Rattle.search_sources.specs.Operations.{is_limit}
use native.Mathlib.Omega.{arith}
use Rattle.tree_reader.proofs.Lookup.{zeros}
use Rattle.search_operation.proofs.Wrapping.{opened_by, stage_refused, limit_refused, stage_passed, stage_placed, limit_low, limit_high, limit_good, leaves_refused, leaves_found}
use borrow.Author.Rules.{rules}
use Rattle.search_operation.proofs.search.search_in.Goals as goal
use Rattle.search_operation.proofs.search.search_in.Goals.{then-limit-lt1-via-then-limit-lt1, then-limit-lt1-via-else-limit-lt1+then-limit-gt-MOST_LEVELS}

pub check_indexed-requires : goal.check_indexed-requires
check_indexed-requires c = (refl, zeros 8224)

pub returns-in_err-check_indexed : goal.returns-in_err-check_indexed
returns-in_err-check_indexed c =
    let r : c.from_residual.result ≡ Err c.in_err-check_indexed.field-0.0 = search rules in
    λ f z. leaves_refused _ _ _ _ _ _ _ _ (stage_refused _ _ _ _ _ _ _ f z.searchable.checked (c.put_kinds.ensures.0 _ z.uses_of) c.requires.0 _ c.byte_at-root.ensures _ c.check_indexed.ensures.0 _ c.in_err-check_indexed.was) r

pub returns-then-limit-lt1 : goal.returns-then-limit-lt1
returns-then-limit-lt1 c =
    let e : is_limit c.args.limit ≡ false = elim c.then-limit-lt1.branch [ then-limit-lt1-via-then-limit-lt1 w ↦ limit_low _ w.if-limit-lt1.true | then-limit-lt1-via-else-limit-lt1+then-limit-gt-MOST_LEVELS w ↦ limit_high _ w.if-limit-gt-MOST_LEVELS.true ] in
    λ f z. leaves_refused _ _ _ _ _ _ _ _ (limit_refused _ _ _ _ _ _ _ f z.searchable.checked (c.put_kinds.ensures.0 _ z.uses_of) c.requires.0 _ c.byte_at-root.ensures _ c.check_indexed.ensures.0 _ c.in_ok-check_indexed.was e) refl

pub find_over-requires : goal.find_over-requires
find_over-requires c = let f = c.requires.1.0 in let z = c.requires.1.1 in (c.requires.0, c.if-limit-gt-MOST_LEVELS.false, (f, _, opened_by _ _ _ _ _ _ _ _ f _ z (stage_placed _ _ _ _ _ _ 0 f z.searchable.checked (c.put_kinds.ensures.0 _ z.uses_of) c.requires.0 _ c.byte_at-root.ensures _ c.check_indexed.ensures.0 _ c.in_ok-check_indexed.was _ (λ i. omega (arith, c.type_inv.tree i)) c.check_indexed.ensures.1) (λ i. omega (arith, c.type_inv.source i)) (c.put_kinds.ensures.0 _ z.uses_of) c.put_kinds.ensures.1))

pub returns : goal.returns
returns c = λ f z. leaves_found _ _ _ _ _ _ _ f _ _ (stage_passed _ _ _ _ _ _ _ f z.searchable.checked (c.put_kinds.ensures.0 _ z.uses_of) c.requires.0 _ c.byte_at-root.ensures _ c.check_indexed.ensures.0 _ c.in_ok-check_indexed.was (limit_good _ c.if-limit-lt1.false c.if-limit-gt-MOST_LEVELS.false)) (c.find_over.ensures.1 f _ (opened_by _ _ _ _ _ _ _ _ f _ z (stage_placed _ _ _ _ _ _ 0 f z.searchable.checked (c.put_kinds.ensures.0 _ z.uses_of) c.requires.0 _ c.byte_at-root.ensures _ c.check_indexed.ensures.0 _ c.in_ok-check_indexed.was _ (λ i. omega (arith, c.type_inv.tree i)) c.check_indexed.ensures.1) (λ i. omega (arith, c.type_inv.source i)) (c.put_kinds.ensures.0 _ z.uses_of) c.put_kinds.ensures.1)) c.find_over.ensures.0
