use native.Mathlib.Omega.{arith}
use Rattle.format_pack.proofs.Standing.{accepted_whole, term_there, term_found}
use Rattle.format_pack.proofs.parts.term_start.Goals as goal

pub field_place-requires : goal.field_place-requires
field_place-requires c = accepted_whole _ c.requires.0 c.requires.1

pub unwrap-requires : goal.unwrap-requires
unwrap-requires c = term_there _ c.requires.0 c.requires.1 c.field_place.ensures

pub returns : goal.returns
returns c = let w = c.field_place.ensures.inside _ c.unwrap.ensures in (omega (arith, w.0, w.1), λ p e. term_found _ p e c.field_place.ensures c.unwrap.ensures)
