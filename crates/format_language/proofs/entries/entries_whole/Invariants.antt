use Prim.Native.Nat.{◌-◌}
use mathlib.Core.Path.{◌≡◌}
use lib.ListN.{length}
use Rattle.format_fields.specs.Lists.{all, is_some}
use Rattle.format_fields.specs.Inner.Places.{places_from}
use Rattle.format_language.specs.LanguageFile.{entries_of}
use Rattle.format_language.specs.Inner.Entries.{entry_whole}
use Rattle.format_language.proofs.entries.entries_whole.Given as goal

abbrev pub invariant-loop-p : goal.invariant-loop-p
invariant-loop-p l = all (entry_whole l.s) (places_from l.s l.p) ≡ is_some (entries_of l.s)

abbrev pub decreases-loop-p : goal.decreases-loop-p
decreases-loop-p l = length l.s - l.p
