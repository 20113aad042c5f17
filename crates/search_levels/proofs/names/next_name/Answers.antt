use native.Mathlib.Omega.{arith}
use Rattle.search_levels.proofs.Naming.{up_to_few}
use Rattle.search_levels.proofs.Needing.{without, without_then}
use Rattle.search_levels.proofs.names.next_name.Goals as goal

pub returns-then-best-eq0 : goal.returns-then-best-eq0
returns-then-best-eq0 c = (c.requires.0, λ z. absurd (omega arith), tt, λ target places kinds memory free f g h z. absurd (omega (arith, c.if-best-eq0.true)))

pub returns : goal.returns
returns c = (omega (arith, c.name_behind-behind.ensures.0, c.candidate.ensures.0), λ z. omega (arith, c.if-best-eq0.false), c.candidate.ensures.1, λ target places kinds memory free f g h z. without_then _ _ _ g _ _ _ (without _ _ target places kinds _ memory free _ _ f g h _ _ (up_to_few _ _ _ c.name_behind-behind.ensures.1) c.name_behind-behind.ensures.2) (c.candidate.ensures.2 target places kinds memory free f g h))
