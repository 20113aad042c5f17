use Prim.Native.Nat.{◌+◌, ◌≤◌}
use Rattle.tree_reader.specs.Inner.Positions.{KindsIn}
use Rattle.run_table.specs.Inner.Filling.{target_index, Beside}
use Rattle.run_table.proofs.Spans.{Turn}
use Rattle.run_table.proofs.prepare.+span_code.Given as goal

abbrev pub decreases-span_code : goal.decreases-span_code
decreases-span_code l = l.levels

abbrev pub invariant-loop-q : goal.invariant-loop-q
invariant-loop-q l = record {
  low : l.c ≤ 4102;
  kinds : KindsIn l.target (l.place + 4) l.q-end;
  beside : Beside l.initial.table l.table;
  turn : Turn l.target (target_index l.initial.table) l.body l.kind l.at l.levels l.initial.table l.table l.q l.q-end l.c;
}
