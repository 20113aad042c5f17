use Rattle.search_levels.specs.Inner.Setting.{Unnamed}
use Rattle.search_levels.proofs.names.name_from.Given as goal

abbrev pub invariant-loop-name : goal.invariant-loop-name
invariant-loop-name l = Unnamed l.table l.kind l.from l.name
