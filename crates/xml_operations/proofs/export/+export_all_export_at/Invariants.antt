use Rattle.std.proofs.Common.{◌+◌, ◌*◌, ◌≤◌, length}
use Rattle.xml_operations.proofs.Exports.{Goes}
use Rattle.xml_operations.proofs.export.+export_all_export_at.Given as goal

abbrev pub decreases-export_all : goal.decreases-export_all
decreases-export_all l = 2 * l.levels + 1

abbrev pub decreases-export_at : goal.decreases-export_at
decreases-export_at l = 2 * l.levels

abbrev pub invariant-export_all-loop-kind : goal.invariant-export_all-loop-kind
invariant-export_all-loop-kind l = record {
  inside : l.ends.tree ≤ length l.tree;
  goes : Goes l.kinds l.language l.index l.tree l.initial.ends.tree l.levels l.initial.out l.initial.ends.text l.out l.kind-index l.ends.tree l.ends.text;
}
