use Rattle.reduce_signs.specs.Inner.Values.{slot_of}
use Rattle.reduce_signs.specs.Inner.Sorts.{sort_of}
use Rattle.reduce_signs.specs.declared.sorts.Sort as Told
use mathlib.Core.Path.{ap, sym}
use native.Mathlib.Omega.{arith}
use Rattle.reduce_signs.proofs.places.slot_of.Goals as goal

pub returns-in-Translation : goal.returns-in-Translation
returns-in-Translation c = (ap (λ (s : Told.Sort). slot_of (sort_of s) c.args.variable) (sym c.in-Translation.is), omega arith)
