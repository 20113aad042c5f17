use native.Mathlib.Omega.{arith}
use Rattle.format_fields.proofs.Keys.{slot_plain, slot_none}
use Rattle.format_fields.proofs.walk.slot_at.Goals as goal

pub returns-then-byte_at-lt-NUMBERED : goal.returns-then-byte_at-lt-NUMBERED
returns-then-byte_at-lt-NUMBERED c = (slot_plain _ _ _ _ _ c.byte_at.ensures c.if-byte_at-lt-NUMBERED.true c.key_at.ensures.0, omega (arith, c.key_at.ensures.1))

pub returns : goal.returns
returns c = (slot_none _ _ 0 _ _ c.byte_at.ensures c.if-byte_at-lt-NUMBERED.false, omega arith)
