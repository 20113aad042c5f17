use Rattle.tree_reader.proofs.Lookup.{zeros}
use Rattle.search_operation.proofs.search.find_here.Goals as goal

pub find_in-requires : goal.find_in-requires
find_in-requires c = (c.requires.0, c.requires.1, zeros 73728, c.requires.2)
