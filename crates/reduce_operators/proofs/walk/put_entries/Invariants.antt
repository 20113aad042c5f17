use Prim.Native.Nat.{ℕ, ◌-◌, ◌≤◌}
use mathlib.Core.Path.{◌≡◌}
use mathlib.Core.Bool.{true}
use mathlib.Core.List.{List}
use lib.ListN.{length}
use Rattle.format_fields.specs.Lists.{all}
use Rattle.format_fields.specs.Inner.Places.{places_from}
use Rattle.format_language.specs.Inner.Entries.{entry_whole}
use Rattle.reduce_operators.specs.Inner.Kept.{written_from}
use Rattle.reduce_operators.specs.Inner.Pieces.{Puts}
use Rattle.reduce_merge.proofs.Writing.{Writing}
use Rattle.reduce_operators.proofs.walk.put_entries.Given as goal

abbrev pub invariant-loop-p : goal.invariant-loop-p
invariant-loop-p g l = record {
  whole : all (entry_whole l.a) (places_from l.a l.p) ≡ true;
  room : l.n ≤ length l.out;
  long : length l.out ≡ length l.initial.out;
  rest : (piece : List ℕ → ℕ → List ℕ) → Puts (goal.F-post g l.put) piece
      → Writing (written_from (piece l.a) l.a 0) (written_from (piece l.a) l.a l.p) l.initial.out l.out l.from l.n;
}

abbrev pub decreases-loop-p : goal.decreases-loop-p
decreases-loop-p g l = length l.a - l.p
