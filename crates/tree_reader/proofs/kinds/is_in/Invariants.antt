use Prim.Native.Nat.{◌-◌}
use mathlib.Core.Bool.{true}
use mathlib.Core.Path.{◌≡◌}
use lib.ListN.{length}
use Rattle.format_language.specs.Inner.Entries.{entry_whole}
use Rattle.format_fields.specs.Inner.Places.{places_from, places}
use Rattle.format_fields.specs.Lists.{all, any}
use Rattle.tree_reader.specs.Inner.Positions.{mentions_at}
use Rattle.tree_reader.proofs.kinds.is_in.Given as goal

abbrev pub invariant-loop-p : goal.invariant-loop-p
invariant-loop-p l = (any (mentions_at l.language l.kind) (places_from l.language l.p) ≡ any (mentions_at l.language l.kind) (places l.language)) × (all (entry_whole l.language) (places_from l.language l.p) ≡ true)

abbrev pub decreases-loop-p : goal.decreases-loop-p
decreases-loop-p l = length l.language - l.p
