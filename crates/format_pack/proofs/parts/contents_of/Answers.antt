use mathlib.Core.Path.{sym, refl}
use native.Mathlib.Omega.{arith}
use Rattle.format_fields.proofs.Splices.{slice_is}
use Rattle.format_pack.proofs.Standing.{contents_there, contents_none}
use Rattle.format_pack.proofs.parts.contents_of.Goals as goal

pub returns-in-Some-clause-is : goal.returns-in-Some-clause-is
returns-in-Some-clause-is c = λ p e. contents_there _ _ _ c.field_place.ensures c.in-Some.is p e

pub returns-in-None-clause-is : goal.returns-in-None-clause-is
returns-in-None-clause-is c = λ p e. contents_none _ _ _ c.field_place.ensures c.in-None.is p e

pub returns-in-Some-clause-part : goal.returns-in-Some-clause-part
returns-in-Some-clause-part c =
    let w = c.field_place.ensures.inside _ c.in-Some.is in
    (c.in-Some.place.start, c.in-Some.place.end, w.0, w.1, sym (slice_is c.args.s.now _ _ w.0 w.1))

pub returns-in-None-clause-part : goal.returns-in-None-clause-part
returns-in-None-clause-part c = (0, 0, omega arith, omega arith, refl)
