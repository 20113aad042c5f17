use Rattle.std.proofs.Common.{refl}
use Rattle.xml_text.proofs.Takes.{fits_short, fits_counted}
use Rattle.xml_text.proofs.contents.has_room.Goals as goal

pub returns-then-text-room : goal.returns-then-text-room
returns-then-text-room c = fits_short _ _ c.if-text-room.true

pub returns-else-text-room : goal.returns-else-text-room
returns-else-text-room c = fits_counted _ _ c.count.ensures refl
