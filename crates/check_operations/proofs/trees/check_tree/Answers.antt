use mathlib.Core.Path.{refl}
use Rattle.tree_reader.proofs.Lookup.{zeros}
use Rattle.check_operations.proofs.trees.check_tree.Goals as goal

pub check_indexed-requires : goal.check_indexed-requires
check_indexed-requires c = (refl, zeros 8224)
