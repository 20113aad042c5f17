use mathlib.Core.Path.{refl}
use Rattle.tree_reader.proofs.Lookup.{zeros}
use Rattle.check_operations.proofs.translations.check_translation.Goals as goal

pub check_kept-requires : goal.check_kept-requires
check_kept-requires c = (refl, zeros 16448, refl, zeros 8200)
