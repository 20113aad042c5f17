use Rattle.std.proofs.Common.{arith}
use Rattle.tree_edit.proofs.Entries.{front_part, back_part, parts_room, index_put}
use Rattle.tree_edit.proofs.moves.put_index.Goals as goal

pub move_entries-requires : goal.move_entries-requires
move_entries-requires c =
    let y = parts_room c.requires.6 _ c.requires.7 in
    (omega (arith, y.0), omega (arith, y.1), y.4, (_, _, front_part c.requires.6, c.requires.6.parted.in_front, c.requires.6.fits))

pub write_index-m-requires : goal.write_index-m-requires
write_index-m-requires c = let y = parts_room c.requires.6 _ c.requires.7 in (c.requires.6.short, y.1, (c.requires.1, c.requires.3, c.requires.6.there))

pub move_entries-requires-2 : goal.move_entries-requires-2
move_entries-requires-2 c =
    let y = parts_room c.requires.6 _ c.requires.7 in
    let m = (c.write_index-m.ensures c.requires.1 c.requires.3 c.requires.6.there).0 in (
      omega (arith, y.2, m, c.write_index-m.auto.out, c.move_entries.auto.out),
      omega (arith, y.3, m),
      y.4,
      (_, _, back_part c.requires.6, c.requires.6.parted.at_back, c.requires.6.fits),
    )

pub returns : goal.returns
returns c = λ top l a u front back w room.
    index_put w _ room (c.move_entries.ensures front (front_part w)) c.move_entries.auto.out (c.write_index-m.ensures l u w.there) c.write_index-m.auto.out
    (c.move_entries-2.ensures back (back_part w))
