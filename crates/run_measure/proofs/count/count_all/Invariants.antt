use Rattle.run_measure.specs.Inner.Counting.{count_all}
use Rattle.format_fields.specs.Inner.Places.{is_whole, places_from, places}
use Rattle.format_fields.specs.Lists.{all}
use lib.ListN.{length, get_or}
use mathlib.Core.Bool.{true}
use mathlib.Core.Path.{◌≡◌}
use Prim.Native.Nat.{ℕ, ◌-◌, ◌≤◌}
use Rattle.run_measure.proofs.count.count_all.Given as goal

abbrev pub invariant-loop-p : goal.invariant-loop-p
invariant-loop-p l = (length l.counts ≡ length l.initial.counts) × (length l.entries ≡ length l.initial.entries) × (all (is_whole l.body) (places_from l.body l.p) ≡ true) × ((j : ℕ) → get_or l.counts j 0 ≤ l.p) × (count_all l.body l.index (places_from l.body l.p) (l.counts, l.entries) ≡ count_all l.body l.index (places l.body) (l.initial.counts, l.initial.entries))

abbrev pub decreases-loop-p : goal.decreases-loop-p
decreases-loop-p l = length l.body - l.p
