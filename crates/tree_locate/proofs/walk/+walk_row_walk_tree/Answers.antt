use Rattle.std.proofs.Common.{rules, arith, ap, ◌≡◌, Err, ◌∙◌}
use Rattle.check_operations.proofs.Reading.{at_name, at_place}
use Rattle.tree_locate.specs.Inner.Places.{place_of}
use Rattle.tree_locate.proofs.Walks.{tree_token, tree_deep, tree_unknown, tree_row, tree_kinds, row_done, row_next, row_stopped, row_inside}
use Rattle.tree_locate.proofs.walk.+walk_row_walk_tree.Goals as goal

pub walk_tree-first_operand-first-requires : goal.walk_tree-first_operand-first-requires
walk_tree-first_operand-first-requires t c = let w = at_place _ _ _ _ _ c.requires.kind (λ i. omega (arith, c.type_inv.tree i)) c.from.ensures c.place_at-class.ensures c.production_place-place.ensures c.if-place-eq0.false c.requires.sound in omega (arith, w.0, w.1)

pub walk_tree-last_operand-last-requires : goal.walk_tree-last_operand-last-requires
walk_tree-last_operand-last-requires t c = let w = at_place _ _ _ _ _ c.requires.kind (λ i. omega (arith, c.type_inv.tree i)) c.from.ensures c.place_at-class.ensures c.production_place-place.ensures c.if-place-eq0.false c.requires.sound in omega (arith, w.0, w.1)

pub walk_tree-walk_row-requires : goal.walk_tree-walk_row-requires
walk_tree-walk_row-requires t c = let w = at_name c.args.language.now _ _ _ _ c.requires.kind (λ i. omega (arith, c.type_inv.tree i)) c.from.ensures c.place_at-class.ensures c.production_place-place.ensures c.if-place-eq0.false in (omega (arith, c.decreases, c.if-levels-eq0.false), (c.requires.sound, tree_kinds _ _ _ _ _ c.requires.kind (λ i. omega (arith, c.type_inv.tree i)) c.from.ensures c.place_at-class.ensures c.production_place-place.ensures c.if-place-eq0.false c.requires.sound c.first_operand-first.ensures c.last_operand-last.ensures, omega (arith, w)))

pub walk_tree-returns-then-class-ne0-clause-is : goal.walk_tree-returns-then-class-ne0-clause-is
walk_tree-returns-then-class-ne0-clause-is t c = λ l z. tree_token c.args.language.now c.args.index.now l z c.args.kind c.requires.kind c.args.tree.now c.args.at c.args.levels c.from.ensures c.place_at-class.ensures c.if-class-ne0.true c.walk_token.result c.walk_token.ensures.is

pub walk_tree-returns-then-levels-eq0-clause-is : goal.walk_tree-returns-then-levels-eq0-clause-is
walk_tree-returns-then-levels-eq0-clause-is t c = λ l z. tree_deep c.args.language.now c.args.index.now l z c.args.kind c.requires.kind c.args.tree.now c.args.at c.args.levels c.from.ensures c.place_at-class.ensures c.if-class-ne0.false c.requires.inside c.if-levels-eq0.true

pub walk_tree-returns-then-place-eq0-clause-is : goal.walk_tree-returns-then-place-eq0-clause-is
walk_tree-returns-then-place-eq0-clause-is t c = λ l z. tree_unknown c.args.language.now c.args.index.now l z c.args.kind c.requires.kind c.args.tree.now c.args.at c.args.levels c.from.ensures c.place_at-class.ensures c.if-class-ne0.false c.requires.inside (λ i. omega (arith, c.type_inv.tree i)) c.production_place-place.ensures c.if-levels-eq0.false c.if-place-eq0.true

pub walk_tree-returns-clause-is : goal.walk_tree-returns-clause-is
walk_tree-returns-clause-is t c = λ l z. tree_row c.args.language.now c.args.index.now l z c.args.kind c.requires.kind c.args.tree.now c.args.at c.args.levels c.from.ensures c.place_at-class.ensures c.if-class-ne0.false c.requires.inside (λ i. omega (arith, c.type_inv.tree i)) c.production_place-place.ensures c.if-levels-eq0.false c.if-place-eq0.false c.first_operand-first.ensures c.last_operand-last.ensures c.walk_row.result (c.walk_row.ensures.is l z)

pub walk_row-returns-in_err-to-clause-is : goal.walk_row-returns-in_err-to-clause-is
walk_row-returns-in_err-to-clause-is t c =
    let r : c.from_residual.result ≡ Err c.in_err-to.field-0.0 = search rules in
    λ l z. row_stopped l c.args.levels c.args.language.now c.args.tree.now c.args.last c.loop-q.q c.loop-q.to c.loop-q-test.true (row_inside c.args.language.now c.loop-q.q c.args.last c.loop-q.invariant.1 c.loop-q-test.true) c.in_err-to.was r (c.walk_tree.ensures.is l z) ∙ ap (place_of c.args.tree.now) (c.loop-q.invariant.2 l z)

pub walk_row-loop-q-preserved : goal.walk_row-loop-q-preserved
walk_row-loop-q-preserved t c = (
  c.in_ok-to.ensures.within,
  λ x i j. c.loop-q.invariant.1 x (omega arith) j,
  λ l z. row_next l c.args.levels c.args.language.now c.args.tree.now c.args.last c.loop-q.q c.loop-q.to c.loop-q-test.true (row_inside c.args.language.now c.loop-q.q c.args.last c.loop-q.invariant.1 c.loop-q-test.true) c.in_ok-to.was (c.walk_tree.ensures.is l z) ∙ c.loop-q.invariant.2 l z,
)

pub walk_row-returns-clause-is : goal.walk_row-returns-clause-is
walk_row-returns-clause-is t c = λ l z. row_done l c.args.levels c.args.language.now c.args.tree.now c.args.last c.loop-q.q c.loop-q.to c.loop-q-test.false ∙ ap (place_of c.args.tree.now) (c.loop-q.invariant.2 l z)
