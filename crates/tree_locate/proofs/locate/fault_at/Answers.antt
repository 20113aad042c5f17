use Rattle.tree_locate.proofs.Answers.{fault_past, fault_stopped}
use Rattle.tree_locate.proofs.locate.fault_at.Goals as goal

pub returns-in-Ok : goal.returns-in-Ok
returns-in-Ok c = λ l z n. fault_past c.args.tree.now _ c.in-Ok.is (c.walk_tree.ensures.is l z) n

pub returns-in-Err : goal.returns-in-Err
returns-in-Err c = λ l z n. fault_stopped c.args.tree.now _ c.in-Err.is (c.walk_tree.ensures.is l z)
