use Prim.Native.Nat.{◌≤◌}
use mathlib.Core.Path.{◌≡◌}
use lib.ListN.{length}
use Rattle.format_translation.specs.Translation.{Translation}
use Rattle.reduce_join.specs.Inner.Joining.{Joining, joined_field}
use Rattle.reduce_merge.proofs.Writing.{Writing}
use Rattle.reduce_join.proofs.Turns.{fields_from}
use Rattle.reduce_join.proofs.body.join_item.Given as goal

abbrev pub invariant-loop-j : goal.invariant-loop-j
invariant-loop-j l = (l.at ≤ length l.out) × (length l.out ≡ length l.initial.out)
    × ((f g : Translation) → Joining l.table l.first_uses l.second_body l.second_uses l.limit f g → Writing (joined_field f g l.second_body l.p) (fields_from f g l.second_body l.p l.limit l.j) l.initial.out l.out l.n l.at)
