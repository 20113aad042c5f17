use mathlib.Core.List.{[]}
use native.Mathlib.Omega.{arith}
use Rattle.tree_reader.proofs.Lookup.{zeros}
use Rattle.run_operation.specs.Inner.Runs.{Reads}
use Rattle.run_operation.proofs.Laws.{tree_asks, reads_none, tree_written}
use Rattle.run_operation.proofs.run.write_tree.Goals as goal
use Rattle.run_operation.proofs.run.write_tree.Goals.{then-is_empty, else-is_empty}

pub run-requires : goal.run-requires
run-requires c =
    let p = c.requires.1 in
    let r : Reads c.args.given.now p.1 c.if-is_empty.known.now p.2 = elim c.if-is_empty.branch [ then-is_empty w ↦ rw w.known-is (reads_none (zeros 2) p.4) | else-is_empty w ↦ rw w.known-is p.4 ] in
    (omega arith, (p.1, [], p.2, tree_asks p.3 _ c.requires.0 r))

pub returns : goal.returns
returns c = λ s f t z e l.
    let r : Reads c.args.given.now f c.if-is_empty.known.now t = elim c.if-is_empty.branch [ then-is_empty w ↦ rw w.known-is (reads_none (zeros 2) e) | else-is_empty w ↦ rw w.known-is e ] in
    tree_written _ _ _ _ (c.run.ensures f [] t (tree_asks z _ c.requires.0 r)) l
