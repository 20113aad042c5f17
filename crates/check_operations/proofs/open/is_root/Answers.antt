use Rattle.check_operations.proofs.Opening.{root_past}
use Rattle.check_operations.proofs.open.is_root.Goals as goal

pub returns-then-root-ge-KINDS : goal.returns-then-root-ge-KINDS
returns-then-root-ge-KINDS c = root_past _ _ c.if-root-ge-KINDS.true
