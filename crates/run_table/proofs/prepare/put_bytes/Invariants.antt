use mathlib.Core.Path.{◌≡◌}
use lib.ListN.{take}
use Rattle.format_fields.specs.Inner.Writing.{spliced}
use Rattle.run_table.proofs.prepare.put_bytes.Given as goal

abbrev pub invariant-loop-i : goal.invariant-loop-i
invariant-loop-i l = l.table ≡ spliced l.initial.table l.a (take l.i l.s)
