use Prim.Native.Nat.{◌-◌}
use mathlib.Core.Path.{◌≡◌}
use lib.ListN.{length}
use Rattle.format_translation.specs.Translation.{Translation}
use Rattle.format_translation.specs.Running.{clauses_of}
use Rattle.search_sources.specs.Inner.Goals.{Goal}
use Rattle.search_levels.specs.Inner.Setting.{Truthful, IsNamed, up_to, Seeks}
use Rattle.search_first.proofs.Choosing.{NoneBelow}
use Rattle.search_first.proofs.choice.choose.Given as goal

abbrev pub invariant-loop-next : goal.invariant-loop-next
invariant-loop-next l = IsNamed l.searched.table.now l.kind l.next × (length l.memory ≡ length l.initial.memory) × (length l.free ≡ length l.initial.free) × ((f : Translation) (g : Goal) → Seeks l.searched.table.now l.searched.source.now l.searched.target.now l.searched.places.now l.searched.kinds.now l.searched.tree.now l.initial.memory l.initial.free l.kind l.at f g → Truthful f l.searched.tree.now l.memory l.free × NoneBelow f.source (clauses_of f) l.n l.kind g (up_to l.next))

abbrev pub decreases-loop-next : goal.decreases-loop-next
decreases-loop-next l = 256 - up_to l.next
