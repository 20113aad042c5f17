use Prim.Native.Nat.{ℕ, suc, ◌+◌, ◌-◌, ◌*◌, ◌≤◌, ◌<◌}
use mathlib.Core.Path.{◌≡◌}
use mathlib.Core.List.{List}
use lib.ListN.{length, drop}
use Rattle.format_translation.specs.Translation.{Translation}
use Rattle.format_translation.specs.Running.{clauses_of}
use Rattle.search_sources.specs.Inner.Goals.{Goal}
use Rattle.search_sources.specs.Inner.Levels.{NeedsAll, NeedsNamed}
use Rattle.search_levels.specs.Inner.Setting.{Truthful, IsNamed, up_to, Seeks, SeeksAll}
use Rattle.search_levels.proofs.levels.+name_need_need_operands_need.Given as goal

abbrev pub decreases-name_need : goal.decreases-name_need
decreases-name_need l = l.sought.levels * 3 + 2

abbrev pub decreases-need : goal.decreases-need
decreases-need l = l.sought.levels * 3

abbrev pub decreases-operands_need : goal.decreases-operands_need
decreases-operands_need l = l.m * 3 + 1

abbrev pub invariant-need-loop-next : goal.invariant-need-loop-next
invariant-need-loop-next l = ((l.best ≤ l.m) × (up_to l.next < 256 → 0 < l.best)) × (length l.memory ≡ length l.initial.memory) × (length l.free ≡ length l.initial.free) × IsNamed l.searched.table.now l.kind l.next × ((f : Translation) (g : Goal) → Seeks l.searched.table.now l.searched.source.now l.searched.target.now l.searched.places.now l.searched.kinds.now l.searched.tree.now l.initial.memory l.initial.free l.kind l.at f g → NeedsNamed f.source (clauses_of f) (l.m - 1) l.kind 0 (up_to l.next) g l.best × Truthful f l.searched.tree.now l.memory l.free)

abbrev pub decreases-need-loop-next : goal.decreases-need-loop-next
decreases-need-loop-next l = 256 - up_to l.next

abbrev pub invariant-operands_need-loop-j : goal.invariant-operands_need-loop-j
invariant-operands_need-loop-j l = (l.j ≤ 8) × (l.most ≤ suc l.m) × (length l.memory ≡ length l.initial.memory) × (length l.free ≡ length l.initial.free) × ((f : Translation) (ks : List ℕ) (b : ℕ → Goal) → SeeksAll l.searched.table.now l.searched.source.now l.searched.target.now l.searched.places.now l.searched.kinds.now l.searched.tree.now l.initial.memory l.initial.free l.bound l.place f ks b → (l.j ≤ length ks) × NeedsAll f.source (clauses_of f) l.m (drop l.j ks) (λ i. b (i + l.j)) l.most × Truthful f l.searched.tree.now l.memory l.free)
