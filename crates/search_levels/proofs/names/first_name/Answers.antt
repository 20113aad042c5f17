use mathlib.Core.Path.{◌∙◌}
use Rattle.search_levels.proofs.Naming.{up_to_few}
use Rattle.search_levels.proofs.Needing.{without, without_then, lowest_is}
use Rattle.search_levels.proofs.names.first_name.Goals as goal

pub returns : goal.returns
returns c = (c.candidate.ensures.1, λ target places memory free f g h. without_then _ _ _ g _ _ _ (without _ _ target places _ _ memory free _ _ f g h _ _ (up_to_few _ _ _ c.name_from.ensures.1) (lowest_is _ _ target places _ _ memory free _ _ f g h _ _ (c.from-lowest.ensures ∙ c.byte_at.ensures) c.name_from.ensures.2)) (c.candidate.ensures.2 target places _ memory free f g h))
