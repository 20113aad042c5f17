use Rattle.std.proofs.Common.{rules, ◌≡◌, Err, refl, arith}
use Rattle.tree_reader.specs.Inner.Positions.{refusal_of}
use Rattle.xml_operations.proofs.Answers.{tree_err, tree_left, tree_long, tree_asks, tree_done}
use Rattle.xml_operations.proofs.operations.export_tree.Goals as goal

pub returns-in_err-ends : goal.returns-in_err-ends
returns-in_err-ends c =
    let r : c.from_residual.result ≡ Err (refusal_of c.in_err-ends.field-0.0) = search rules in
    tree_err _ _ _ _ _ c.measure_all.ensures.1 _ c.in_err-ends.was r

pub returns-then-ends-tree : goal.returns-then-ends-tree
returns-then-ends-tree c = tree_left _ _ _ _ _ c.measure_all.ensures.1 c.in_ok-ends.was c.measure_all.ensures.0 c.if-ends-tree.true refl

pub returns-then-output-ends : goal.returns-then-output-ends
returns-then-output-ends c = tree_long _ _ _ _ _ c.measure_all.ensures.1 c.in_ok-ends.was c.measure_all.ensures.0 c.if-ends-tree.false (omega arith) c.if-output-ends.true refl

pub export_all-requires : goal.export_all-requires
export_all-requires c = (
  c.requires.0.sound,
  λ i d h. let z : i ≡ 0 = omega arith in rw z c.requires.0.kind,
  omega arith,
  (
    c.requires.1.0,
    _,
    _,
    tree_asks _ _ _ _ _ c.measure_all.ensures.1 c.in_ok-ends.was c.measure_all.ensures.0 c.if-ends-tree.false (omega arith) c.if-output-ends.false _ c.requires.1.1,
  ),
)

pub returns : goal.returns
returns c = tree_done _ _ _ _ _ c.measure_all.ensures.1 c.in_ok-ends.was c.measure_all.ensures.0 c.if-ends-tree.false (omega arith) c.if-output-ends.false c.export_all.ensures refl
