-- The ends of trees, as they are kept.
use Rattle.std.specs.Prelude.{ℕ, ◌+◌, ◌*◌, ◌<◌, ◌≡◌, List, get_or}
use Rattle.format_language.specs.Language.{Language}
use Rattle.search_levels.specs.Inner.Setting.{TrueEnds}

-- Ends of trees were kept, the last of which ends at e: what was true stays so, and the bytes for kinds stay.
pub record Fills (l : Language) (tree before after : List ℕ) (e r : ℕ) : Type 0 where
  pub to : r ≡ e
  pub ends : TrueEnds l tree before → TrueEnds l tree after
  pub levels : (p j : ℕ) → j < 32 → get_or after (p * 36 + (4 + j)) 0 ≡ get_or before (p * 36 + (4 + j)) 0
