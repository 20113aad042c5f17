use Prim.Native.Nat.{ℕ, ◌+◌, ◌*◌, ◌≤◌}
use mathlib.Core.Path.{◌≡◌}
use mathlib.Core.List.{List}
use lib.ListN.{length}
use Rattle.tree_reader.specs.Code.{Codes}
use Rattle.format_translation.specs.Translation.{Translation}
use Rattle.format_translation.specs.Running.{clauses_of}
use Rattle.search_sources.specs.Inner.Goals.{Goal, FirstAll}
use Rattle.search_levels.specs.Inner.Setting.{Truthful, SeeksAll}
use Rattle.search_first.proofs.Putting.{Going}
use Rattle.search_first.proofs.put.+put_first_put_node_put_operands.Given as goal

abbrev pub decreases-put_first : goal.decreases-put_first
decreases-put_first l = l.wanted.levels * 3

abbrev pub decreases-put_node : goal.decreases-put_node
decreases-put_node l = l.wanted.levels * 3 + 2

abbrev pub decreases-put_operands : goal.decreases-put_operands
decreases-put_operands l = l.wanted.levels * 3 + 1

abbrev pub invariant-put_operands-loop-j : goal.invariant-put_operands-loop-j
invariant-put_operands-loop-j l = (l.count ≤ 8) × (l.pos ≤ l.wanted.limit) × (length l.memory ≡ length l.initial.memory) × (length l.free ≡ length l.initial.free) × (length l.output ≡ length l.initial.output) × ((f : Translation) (ks : List ℕ) (b : ℕ → Goal) → SeeksAll l.searched.table.now l.searched.source.now l.searched.target.now l.searched.places.now l.searched.kinds.now l.searched.tree.now l.initial.memory l.initial.free l.bound l.place f ks b → (l.count ≡ length ks) × Truthful f l.searched.tree.now l.memory l.free × ((s : Codes) → FirstAll f.source (clauses_of f) l.wanted.levels ks b s → Going f.source (clauses_of f) l.wanted.levels ks b l.j l.wanted.limit s l.initial.output l.output l.initial.pos l.pos))
