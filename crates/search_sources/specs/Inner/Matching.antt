-- A clause's code matched with a tree: codes and trees that are still to be compared, side by side, and what the arguments
-- met so far are bound to.
use Rattle.std.specs.Prelude.{ℕ, suc, ◌<◌, ◌≡◌, cond, List, eqb, length}
use Rattle.std.proofs.Math.Option.{none, some}
use Rattle.tree_reader.specs.Code.{Code, Codes, nil, cons}
use Rattle.format_translation.specs.Running.{Replacing, substitute_all}
use Rattle.search_sources.specs.Inner.Goals.{Goal}

-- Codes, then others.
unfoldable pub followed : Codes → Codes → Codes
followed nil r = r
followed (cons a t) r = cons a (followed t r)

-- Nothing is bound at first.
abbrev pub nothing_bound : ℕ → Goal
nothing_bound j = none

-- Only arguments of a production with these kinds are bound; they are counted from 0.
abbrev pub Inside : List ℕ → (ℕ → Goal) → Type 0
Inside ks b = (j : ℕ) (w : Code) → b j ≡ some w → j < length ks

-- One more argument, counted from 0, bound to a tree.
unfoldable pub bind : ℕ → Code → (ℕ → Goal) → ℕ → Goal
bind j u b i = cond (eqb i j) (some u) (b i)

-- Replacements, by number 0, that are as bound.
abbrev pub Agrees : (ℕ → Goal) → Replacing → Type 0
Agrees b s = (j : ℕ) (w : Code) → b j ≡ some w → s (suc j) 0 ≡ w

-- Replacements that are as bound, and with which the codes are the trees.
pub record Solves (b : ℕ → Goal) (cs us : Codes) (s : Replacing) : Type 0 where
  pub agrees : Agrees b s
  pub same : substitute_all s cs ≡ us

-- The same replacements solve both.
pub record Alike (b : ℕ → Goal) (cs us : Codes) (d : ℕ → Goal) (es vs : Codes) : Type 0 where
  pub there : (s : Replacing) → Solves b cs us s → Solves d es vs s
  pub back : (s : Replacing) → Solves d es vs s → Solves b cs us s
