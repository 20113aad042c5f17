-- What is asked of a source tree: that its run is a given tree, or nothing, as of an argument that a clause drops.
use Rattle.std.specs.Prelude.{ℕ, suc, ◌≤◌, ◌≡◌, List, [], ◌∷◌}
use Rattle.std.proofs.Math.Option.{Option, none, some}
use Rattle.format_language.specs.Language.{Language}
use Rattle.tree_reader.specs.Code.{Code, node, Codes, nil, cons, levels, levels_all}
use Rattle.tree_reader.specs.Typing.{Typed, TypedAll}
use Rattle.format_translation.specs.Running.{Clauses, run}
use Rattle.search_sources.specs.Inner.Order.{Upto, UptoAll}

-- A target tree, or nothing.
abbrev pub Goal : Type 0
Goal = Option Code

-- The run of a tree by number 0 meets a goal.
abbrev pub Meets : Clauses → Goal → Code → Type 0
Meets f none t = Unit {0}
Meets f (some u) t = run f 0 t ≡ u

-- Each operand, as many as there are kinds, meets what is asked of it; they are counted from 0.
abbrev pub MeetsAll : Clauses → List ℕ → (ℕ → Goal) → Codes → Type 0
MeetsAll f [] g nil = Unit {0}
MeetsAll f [] g (cons a t) = ⊥
MeetsAll f (k ∷ ks) g nil = ⊥
MeetsAll f (k ∷ ks) g (cons a t) = Meets f (g 0) a × MeetsAll f ks (λ j. g (suc j)) t

-- A legal tree of kind k within n levels that meets a goal.
pub record Fits (l : Language) (f : Clauses) (n k : ℕ) (g : Goal) (t : Code) : Type 0 where
  pub legal : Typed l [] t k
  pub within : levels t ≤ n
  pub meets : Meets f g t

-- Legal operands of these kinds within n levels, each of which meets what is asked of it.
pub record FitsAll (l : Language) (f : Clauses) (n : ℕ) (ks : List ℕ) (g : ℕ → Goal) (t : Codes) : Type 0 where
  pub legal : TypedAll l [] t ks
  pub within : levels_all t ≤ n
  pub meets : MeetsAll f ks g t

-- The first such tree.
pub record First (l : Language) (f : Clauses) (n k : ℕ) (g : Goal) (t : Code) : Type 0 where
  pub fits : Fits l f n k g t
  pub least : (s : Code) → Fits l f n k g s → Upto t s

-- The first such operands.
pub record FirstAll (l : Language) (f : Clauses) (n : ℕ) (ks : List ℕ) (g : ℕ → Goal) (t : Codes) : Type 0 where
  pub fits : FitsAll l f n ks g t
  pub least : (s : Codes) → FitsAll l f n ks g s → UptoAll t s

-- A production's tree meets a goal exactly where its operands, of the kinds ks, meet what g asks.
pub record Matches (l : Language) (f : Clauses) (k p : ℕ) (ks : List ℕ) (goal : Goal) (g : ℕ → Goal) : Type 0 where
  pub down : (t : Codes) → TypedAll l [] t ks → Meets f goal (node k p t) → MeetsAll f ks g t
  pub up : (t : Codes) → TypedAll l [] t ks → MeetsAll f ks g t → Meets f goal (node k p t)
