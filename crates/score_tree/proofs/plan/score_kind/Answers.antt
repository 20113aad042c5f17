use mathlib.Core.Path.{refl, ◌∙◌}
use native.Mathlib.Omega.{arith}
use Rattle.std.proofs.lemmas.Result.{err_from_is_err_and}
use Rattle.tree_reader.proofs.Lookup.{zeros}
use Rattle.score_tree.proofs.Answering.{world_is, kind_refused, kind_more, kind_whole}
use Rattle.score_tree.proofs.plan.score_kind.Goals as goal

pub ends_at-requires : goal.ends_at-requires
ends_at-requires c = (c.requires.0, omega arith, (c.requires.1.0, _, (world_is _ _ c.requires.1.0 c.requires.1.1 (λ i. omega (arith, c.type_inv.language i)) c.requires.1.2 _ _ refl (zeros 8224) c.put_all.ensures)))

pub returns-in_err-bounds : goal.returns-in_err-bounds
returns-in_err-bounds c = λ l w h.
    let e = err_from_is_err_and c.from_residual.result c.from_residual.ensures.1 in
    rw (e.1, e.2) (kind_refused _ l w _ c.args.tree.now _ (c.ends_at.ensures.is l _ (world_is _ _ l w (λ i. omega (arith, c.type_inv.language i)) h _ _ refl (zeros 8224) c.put_all.ensures)) _ c.in_err-bounds.was)

pub returns-then-bounds-tree : goal.returns-then-bounds-tree
returns-then-bounds-tree c = λ l w h.
    kind_more _ l w _ c.args.tree.now _ (c.ends_at.ensures.is l _ (world_is _ _ l w (λ i. omega (arith, c.type_inv.language i)) h _ _ refl (zeros 8224) c.put_all.ensures)) _ c.in_ok-bounds.was c.if-bounds-tree.true

pub returns : goal.returns
returns c = λ l w h.
    c.ok_or.ensures.value
    ∙ kind_whole _ l w _ c.args.tree.now _ (c.ends_at.ensures.is l _ (world_is _ _ l w (λ i. omega (arith, c.type_inv.language i)) h _ _ refl (zeros 8224) c.put_all.ensures)) _ c.in_ok-bounds.was c.if-bounds-tree.false
