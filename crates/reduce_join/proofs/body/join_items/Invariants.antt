use Prim.Native.Nat.{◌-◌, ◌≤◌}
use mathlib.Core.Path.{◌≡◌}
use mathlib.Core.Bool.{true}
use lib.ListN.{length}
use Rattle.format_fields.specs.Lists.{all, concat_map}
use Rattle.format_fields.specs.Inner.Places.{places_from}
use Rattle.format_translation.specs.Translation.{Translation}
use Rattle.format_translation.specs.Inner.Items.{item_whole}
use Rattle.reduce_join.specs.Inner.Joining.{Joining, Reached, joined_field, joined_body}
use Rattle.reduce_merge.proofs.Writing.{Writing}
use Rattle.reduce_join.proofs.body.join_items.Given as goal

abbrev pub invariant-loop-p : goal.invariant-loop-p
invariant-loop-p l = (l.n ≤ length l.out) × (length l.out ≡ length l.initial.out) × Reached l.second_body l.p × (all (item_whole l.second_body) (places_from l.second_body l.p) ≡ true)
    × ((f g : Translation) → Joining l.table l.first_uses l.second_body l.second_uses l.limit f g → Writing (joined_body f g) (concat_map (joined_field f g l.second_body) (places_from l.second_body l.p)) l.initial.out l.out 0 l.n)

abbrev pub decreases-loop-p : goal.decreases-loop-p
decreases-loop-p l = length l.second_body - l.p
