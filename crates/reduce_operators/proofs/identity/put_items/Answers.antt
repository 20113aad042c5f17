use native.Mathlib.Omega.{arith}
use Rattle.format_fields.proofs.Splices.{both_then}
use Rattle.reduce_operators.specs.Inner.Kept.{written_from}
use Rattle.reduce_operators.specs.Inner.SameItems.{kind_items, clause_item}
use Rattle.reduce_operators.proofs.identity.put_items.Goals as goal

pub put_entries-requires-clause-room : goal.put_entries-requires-clause-room
put_entries-requires-clause-room c = omega (arith, ((c.put_kinds.ensures _ c.requires.1).done _ c.in_ok-n.was).fits, c.put_kinds.auto.out)

pub put_entries-requires-clause-puts : goal.put_entries-requires-clause-puts
put_entries-requires-clause-puts c = (clause_item, record { stores = λ s p e n o o' r asks post. post })

pub returns : goal.returns
returns c = λ l e.
    both_then (kind_items l 0) (written_from (clause_item c.args.a.now) c.args.a.now 0) _ _ 0 _ (c.put_kinds.ensures l e) _ c.in_ok-n.was _ _ c.put_kinds.auto.out
    (c.put_entries.ensures clause_item (record { stores = λ s p e n o o' r asks post. post }))
