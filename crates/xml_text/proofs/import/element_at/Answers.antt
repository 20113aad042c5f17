use Rattle.std.proofs.Common.{refl, arith}
use Rattle.xml_text.proofs.Scans.{bytes_of}
use Rattle.xml_text.proofs.Imports.{element_nothing, element_unknown, element_place, element_found}
use Rattle.xml_text.proofs.import.element_at.Goals as goal

pub returns-in_err-name : goal.returns-in_err-name
returns-in_err-name c =
    rw c.from_residual.ensures (element_nothing _ _ _ _ _ c.requires.kind (bytes_of _ c.type_inv.language) c.opening_at.ensures c.in_err-name.was)

pub returns-in_err-place : goal.returns-in_err-place
returns-in_err-place c =
    rw c.from_residual-in_err-place.ensures
    (element_unknown _ _ _ _ _ c.requires.kind (bytes_of _ c.type_inv.language) c.opening_at.ensures c.in_ok-name.was refl c.in_err-place.ensures)

pub operands_of-requires : goal.operands_of-requires
operands_of-requires c =
    let p = c.in_ok-place.ensures in
    let w = element_place _ _ _ _ _ c.requires.kind (bytes_of _ c.type_inv.language) c.opening_at.ensures c.in_ok-name.was p.0 p.1 c.requires.sound in
    (omega (arith, w.0, w.1), omega (arith, w.0))

pub returns : goal.returns
returns c =
    let p = c.in_ok-place.ensures in
    element_found _ _ _ _ _ c.requires.kind (bytes_of _ c.type_inv.language) c.opening_at.ensures c.in_ok-name.was p.0 p.1 c.requires.sound
    c.operands_of.ensures.0 c.operands_of.ensures.1
