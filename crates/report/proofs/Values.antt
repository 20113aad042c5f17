-- What figure A.1 reduces a term to is well formed, whatever the limits.
use Prim.Native.Nat.{ℕ}
use mathlib.Core.Path.{◌≡◌, sym, subst}
use mathlib.Core.Bool.{Bool, true, false, cond}
use mathlib.Core.Option.{Option, some}
use lib.Dec.{eqb}
use Rattle.format_fields.proofs.Truth.{none_some, some_inj}
use Rattle.format_language.specs.Language.{Language}
use Rattle.format_translation.specs.Translation.{Translation}
use Rattle.format_pack.specs.Terms.{languages, translations, Term}
use Rattle.reduce_signs.specs.Evaluation.{Constants}
use Rattle.report.specs.Languages.{WellFormedLanguage}
use Rattle.report.specs.WellFormed.{WellFormed}
use Rattle.report.specs.Reduction.{EnvironmentOf, empty, extended, ReducesL, con_l, var_l, res_l, add_l, src_l, tgt_l, let_l, letx_l, ReducesX, con_x, var_x, res_x, add_x, comp_x, idx_x, let_x, letx_x}
use Rattle.report.proofs.Languages.{sum_formed, difference_formed}
use Rattle.report.proofs.Sums.{sum_formed_x}
use Rattle.report.proofs.Compositions.{composition_formed}
use Rattle.report.proofs.Identities.{identity_formed}
use Rattle.report.proofs.Differences.{difference_formed_x}

-- All that is bound has a property.
abbrev pub Everywhere : {A : Type 0} → (A → Type 0) → EnvironmentOf A → Type 0
Everywhere {A} P α = (v : ℕ) (x : A) → α v ≡ some x → P x

pub nowhere : {A : Type 0} (P : A → Type 0) → Everywhere P empty
nowhere P v x e = none_some e

pub everywhere_bound : {A : Type 0} (P : A → Type 0) (α : EnvironmentOf A) (n : ℕ) (a : A) → Everywhere P α → P a → Everywhere P (extended α n a)
unfolding extended
everywhere_bound {A} P α n a h g w x e = hides (eqb n w) (α w) e (h w x)
  where
    hides : (t : Bool) (o : Option A) → cond t (some a) o ≡ some x → (o ≡ some x → P x) → P x
    hides true o e k = subst P (some_inj e) g
    hides false o e k = k e

mutual
  pub value_l : {c : Constants} {α : EnvironmentOf Language} {β : EnvironmentOf Translation} {t : Term languages} {l : Language}
      → Everywhere WellFormedLanguage α → Everywhere WellFormed β → ReducesL c α β t l → WellFormedLanguage l
  value_l g h (con_l p w) = w
  value_l g h (var_l {v = v} {l = l} p) = g v l p
  value_l g h (res_l {l = l} {m = m} {s = s} x y p) = difference_formed l m s (value_l g h x) p
  value_l g h (add_l {l = l} {m = m} {s = s} x y q p) = sum_formed l m s q (value_l g h x) (value_l g h y) p
  value_l g h (src_l x p) = subst WellFormedLanguage (sym p) (value_x g h x).source
  value_l g h (tgt_l x p) = subst WellFormedLanguage (sym p) (value_x g h x).target
  value_l g h (let_l {α = α} {v = v} {l = l} x y) = value_l (everywhere_bound WellFormedLanguage α v l g (value_l g h x)) h y
  value_l g h (letx_l {β = β} {w = w} {f = f} x y) = value_l g (everywhere_bound WellFormed β w f h (value_x g h x)) y

  pub value_x : {c : Constants} {α : EnvironmentOf Language} {β : EnvironmentOf Translation} {t : Term translations} {f : Translation}
      → Everywhere WellFormedLanguage α → Everywhere WellFormed β → ReducesX c α β t f → WellFormed f
  value_x g h (con_x x y p w) = w
  value_x g h (var_x {w = w} {f = f} p) = h w f p
  value_x g h (res_x {f = f} {h = k} {l = l} x y p) = difference_formed_x f l k (value_x g h x) p
  value_x g h (add_x {f = a} {g = b} {h = k} x y q p) = sum_formed_x a b k q (value_x g h x) (value_x g h y) p
  value_x g h (comp_x {f = a} {g = b} {h = k} x y q p) = composition_formed a b k q (value_x g h x) (value_x g h y) p
  value_x g h (idx_x {l = l} {h = k} x p) = identity_formed l k (value_l g h x) p
  value_x g h (let_x {α = α} {v = v} {l = l} x y) = value_x (everywhere_bound WellFormedLanguage α v l g (value_l g h x)) h y
  value_x g h (letx_x {β = β} {w = w} {f = f} x y) = value_x g (everywhere_bound WellFormed β w f h (value_x g h x)) y
