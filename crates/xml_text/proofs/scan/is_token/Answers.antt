use Rattle.std.proofs.Common.{arith}
use Rattle.std.proofs.lemmas.List.{get_or_past}
use Rattle.xml_text.proofs.Scans.{tells_other}
use Rattle.xml_text.proofs.scan.is_token.Goals as goal
use Rattle.xml_text.proofs.scan.is_token.Goals.{then-at-text, else-at-text}

pub returns-else-text-at-eq-TOKEN : goal.returns-else-text-at-eq-TOKEN
returns-else-text-at-eq-TOKEN c =
    rw c.if-text-at-eq-TOKEN.false
    (tells_other _ _ _ (elim c.if-at-text.branch [
      | then-at-text w ↦ grind arith
      | else-at-text w ↦ grind (arith, get_or_past)
    ]))
