use mathlib.Core.Path.{refl}
use Rattle.tree_reader.proofs.Lookup.{zeros}
use Rattle.reduce_signs.proofs.places.nothing.Goals as goal

pub returns : goal.returns
returns c = (record { starts = refl; ends = refl }, λ j. zeros 32 j)
