use Rattle.std.proofs.Common.{refl}
use Rattle.xml_text.proofs.Scans.{bytes_of}
use Rattle.xml_operations.proofs.Whole.{text_left, text_long, text_done}
use Rattle.xml_operations.proofs.operations.import_text.Goals as goal

pub returns-then-end-text : goal.returns-then-end-text
returns-then-end-text c = text_left _ _ _ _ _ c.text_at.ensures.1 c.in_ok-end.was c.text_at.ensures.0 c.if-end-text.true refl

pub returns-then-not-has_room : goal.returns-then-not-has_room
returns-then-not-has_room c =
    text_long _ _ _ _ _ c.text_at.ensures.1 c.in_ok-end.was c.text_at.ensures.0 c.if-end-text.false (bytes_of _ c.type_inv.language) c.has_room.ensures c.if-not-has_room.true refl

pub returns : goal.returns
returns c =
    text_done _ _ _ _ _ c.text_at.ensures.1 c.in_ok-end.was c.text_at.ensures.0 c.if-end-text.false (bytes_of _ c.type_inv.language) c.has_room.ensures c.if-not-has_room.false
    c.write_contents.ensures refl
