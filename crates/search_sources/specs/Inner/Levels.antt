-- The least levels at which there is a tree for a goal: a number up to m, or m + 1 where m levels do not suffice.
use Rattle.std.specs.Prelude.{ℕ, suc, ◌+◌, ◌-◌, ◌≤◌, ◌<◌, cond, List, Option, None, Some, eqb, leb}
use Rattle.format_language.specs.Language.{Language}
use Rattle.tree_reader.specs.Code.{Code, node, Codes}
use Rattle.format_translation.specs.Running.{Clauses}
use Rattle.search_sources.specs.Inner.Goals.{Goal, Fits, FitsAll}

-- A tree of kind k for goal g needs r levels, where at most m count.
pub record Needs (l : Language) (f : Clauses) (m k : ℕ) (g : Goal) (r : ℕ) : Type 0 where
  pub bound : r ≤ suc m
  pub finds : r ≤ m → (t : Code) × Fits l f r k g t
  pub least : (n : ℕ) (t : Code) → n ≤ m → Fits l f n k g t → r ≤ n

-- Operands of kinds ks, for the goals g, need r levels.
pub record NeedsAll (l : Language) (f : Clauses) (m : ℕ) (ks : List ℕ) (g : ℕ → Goal) (r : ℕ) : Type 0 where
  pub bound : r ≤ suc m
  pub finds : r ≤ m → (t : Codes) × FitsAll l f r ks g t
  pub least : (n : ℕ) (t : Codes) → n ≤ m → FitsAll l f n ks g t → r ≤ n

-- The operands of a tree of kind k with a name from `low` up to `high` need r levels.
pub record NeedsNamed (l : Language) (f : Clauses) (m k low high : ℕ) (g : Goal) (r : ℕ) : Type 0 where
  pub bound : r ≤ suc m
  pub finds : r ≤ m → (q : ℕ) × (low ≤ q) × (q < high) × (s : Codes) × Fits l f (suc r) k g (node k q s)
  pub least : (n q : ℕ) (s : Codes) → n ≤ m → low ≤ q → q < high → Fits l f (suc n) k g (node k q s) → r ≤ n

-- The most levels that count.
abbrev pub most_levels : ℕ
most_levels = 16

-- What a byte of memory says: 0 nothing, 1 to 17 that one less is needed, from 18 on that 18 less do not suffice.
pub record Says (l : Language) (f : Clauses) (k : ℕ) (g : Goal) (b : ℕ) : Type 0 where
  pub number : 1 ≤ b → b ≤ 17 → Needs l f most_levels k g (b - 1)
  pub above : 18 ≤ b → (t : Code) → Fits l f (b - 18) k g t → ⊥

-- The number where m levels count, by a byte; none where it does not say.
unfoldable pub recalled : ℕ → ℕ → Option ℕ
recalled m b =
    cond (eqb b 0) None (cond (leb b 17) (cond (leb b (m + 1)) (Some (b - 1)) (Some (m + 1))) (cond (leb (m + 18) b) (Some (m + 1)) None))

-- The byte to keep for a number that was worked out where m levels count.
unfoldable pub noted : ℕ → ℕ → ℕ
noted m r = cond (leb r m) (r + 1) (m + 18)
