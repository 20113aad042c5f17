-- The name of the first tree: a law for each return and turn of `choose`.
use Prim.Native.Nat.{ℕ, suc, ◌+◌, ◌≤◌, ◌<◌}
use mathlib.Core.Path.{◌≡◌, refl}
use mathlib.Core.Option.{none}
use Rattle.std.specs.Prelude.{Some}
use native.Mathlib.Omega.{arith}
use native.Mathlib.Decide.{dec_le}
use Rattle.format_language.specs.Language.{Language, range_of}
use Rattle.tree_reader.specs.Code.{Code, node, Codes}
use Rattle.format_translation.specs.Running.{Clauses}
use Rattle.search_sources.specs.Inner.Goals.{Goal, Fits, First}
use Rattle.search_sources.specs.Inner.Levels.{NeedsNamed}
use Rattle.search_levels.specs.Inner.Setting.{Without}
use Rattle.search_sources.proofs.Answers.{Named, fits_more, first_name, kind_node}

-- No tree has a name below `name`.
abbrev pub NoneBelow : Language → Clauses → ℕ → ℕ → Goal → ℕ → Type 0
NoneBelow l f n k g name = (q : ℕ) (s : Codes) → q < name → Fits l f (suc n) k g (node k q s) → ⊥

module _ (l : Language) (f : Clauses) (n k : ℕ) (g : Goal) where
  pub none_start : (name : ℕ) → Without l f k g 0 name → NoneBelow l f n k g name
  none_start name w q s h z = w.none q n s (omega arith) h z

  pub none_next : (name r next : ℕ) → NoneBelow l f n k g name → NeedsNamed l f n k name (suc name) g r → n < r → Without l f k g (name + 1) next → NoneBelow l f n k g next
  none_next name r next below h past gap q s i w = go (dec_le (suc q) name) (dec_le q name)
    where
      go : Dec (suc q ≤ name) → Dec (q ≤ name) → ⊥
      go (yes d) e = below q s d w
      go (no d) (yes e) = let z = h.least n q s (omega arith) (omega arith) (omega arith) w in omega arith
      go (no d) (no e) = gap.none q n s (omega arith) i w

  module _ (named : Named l) (t : Code) (plain : range_of l k ≡ none) (h : First l f (suc n) k g t) where
    pub choose_here : (name r : ℕ) → NoneBelow l f n k g name → NeedsNamed l f n k name (suc name) g r → r ≤ n → (p : ℕ) × (Some name ≡ Some p) × (s : Codes) × (t ≡ node k p s)
    choose_here name r below q i =
        let z = q.finds i in
        let e : z.0 ≡ name = omega (arith, z.1, z.2) in
        let w : Fits l f (suc n) k g (node k name z.3) = rw e at (fits_more {n = suc r} {m = suc n} (omega arith) z.4) in
        let y = first_name l f named k g plain n name t h below z.3 w in
        (name, refl, y.0, y.1)

    pub choose_none : {A : Type 0} → NoneBelow l f n k g 256 → A
    choose_none below =
        let z = kind_node l f named k g plain h.fits.legal in
        absurd (below z.0 z.1 z.3 (rw z.2 at h.fits))

-- The operands of the tree whose name was found.
pub with_name : {k name : ℕ} {t : Code} → (p : ℕ) × (Some name ≡ Some p) × (s : Codes) × (t ≡ node k p s) → (s : Codes) × (t ≡ node k name s)
with_name {k} {name} {t} h = let z : name ≡ h.0 = let e = h.1 in cc in (h.2, rw z h.3)
