use Prim.Native.Nat.{ℕ}
use lib.ListN.{get_or-eq_default}
use Rattle.format_fields.proofs.bytes.byte_at.Goals as goal

pub returns-else-i-s : goal.returns-else-i-s
returns-else-i-s c = cc (get_or-eq_default {A = ℕ} c.args.s.now 0 {n = c.args.i} c.if-i-s.false)
