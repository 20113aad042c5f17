-- What is known of each kind: a law for each return and turn of the functions of `kinds`.
use Prim.Native.Nat.{ℕ, zero, suc, ◌+◌, ◌-◌, ◌*◌, ◌≤◌, ◌<◌}
use mathlib.Core.Path.{◌≡◌, refl, ap, sym, ◌∙◌}
use mathlib.Core.List.{List}
use mathlib.Core.Option
use mathlib.Core.Option.{Option}
use native.Mathlib.Omega.{arith}
use native.Mathlib.Decide.{ℕ_discrete}
use lib.ListN.{length, get_or, set, length-set}
use lib.Seq.{get_or-set_same, get_or-set_other}
use Rattle.tree_reader.specs.Inner.Positions.{mapped_in, kind_before}
use Rattle.format_translation.specs.Translation.{Body, mapped}
use Rattle.format_translation.specs.Inner.ItemIndex.{Mapped as UsesOf}
use Rattle.search_levels.specs.Inner.Setting.{Unnamed}
use Rattle.search_operation.specs.Inner.Finding.{Mapped}

-- The kinds below `kind` have their places.
pub record Listed (table uses kinds : List ℕ) (kind : ℕ) : Type 0 where
  pub long : length kinds ≡ 64
  pub maps : (k : ℕ) → k < kind → get_or kinds k 0 ≡ get_or uses (k * 256) 0 - 1
  pub lowest : (k : ℕ) → k < kind → Unnamed table k 0 (get_or kinds (32 + k) 0)

pub listed_start : (table uses kinds : List ℕ) → length kinds ≡ 64 → Listed table uses kinds 0
listed_start table uses kinds h = record { long = h; maps = λ k q. absurd (omega arith); lowest = λ k q. absurd (omega arith) }

module _ (table uses kinds : List ℕ) (kind : ℕ) (h : Listed table uses kinds kind) (small : kind < 32) where
  pub first_inside : kind < length kinds
  first_inside = let z = h.long in omega arith

  pub second_inside : (a : ℕ) → 32 + kind < length (set kinds kind a)
  second_inside a = rw (length-set kinds kind a) (let z = h.long in omega arith)

  module _ (a b : ℕ) (ea : a ≡ get_or uses (kind * 256) 0 - 1) (eb : Unnamed table kind 0 b) where
    abbrev after : List ℕ
    after = set (set kinds kind a) (32 + kind) b

    other : (i : ℕ) → (i ≡ kind → ⊥) → (i ≡ 32 + kind → ⊥) → get_or after i 0 ≡ get_or kinds i 0
    other i n m = get_or-set_other (set kinds kind a) (32 + kind) i b 0 m ∙ get_or-set_other kinds kind i a 0 n

    here : get_or after kind 0 ≡ a
    here = get_or-set_other (set kinds kind a) (32 + kind) kind b 0 (λ e. omega arith) ∙ get_or-set_same kinds kind a 0 first_inside

    behind : get_or after (32 + kind) 0 ≡ b
    behind = get_or-set_same (set kinds kind a) (32 + kind) b 0 (second_inside a)

    pub listed_next : Listed table uses after (kind + 1)
    listed_next = record {
      long = length-set (set kinds kind a) (32 + kind) b ∙ (length-set kinds kind a ∙ h.long);
      maps = λ k q. map_of k q (ℕ_discrete k kind);
      lowest = λ k q. low_of k q (ℕ_discrete k kind);
    }
      where
        map_of : (k : ℕ) → k < kind + 1 → Dec (k ≡ kind) → get_or after k 0 ≡ get_or uses (k * 256) 0 - 1
        map_of k q (yes e) = rw e (here ∙ ea)
        map_of k q (no n) = other k n (λ e. omega arith) ∙ h.maps k (omega arith)

        low_of : (k : ℕ) → k < kind + 1 → Dec (k ≡ kind) → Unnamed table k 0 (get_or after (32 + k) 0)
        low_of k q (yes e) = rw (e, behind) eb
        low_of k q (no n) = rw (other (32 + k) (λ e. omega arith) (λ e. n (omega arith))) (h.lowest k (omega arith))

-- All of them.
module _ (table uses kinds : List ℕ) (kind : ℕ) (past : 32 ≤ kind) (h : Listed table uses kinds kind) where
  before_is : (n : ℕ) → Option.get_or (kind_before n) 0 ≡ n - 1
  before_is zero = refl
  before_is (suc n) = omega arith

  pub listed_maps : (b : Body) → UsesOf uses b → Mapped kinds b
  unfolding mapped_in mapped
  listed_maps b u = record { maps = λ k q. h.maps k (omega arith) ∙ (ap (λ (i : ℕ). get_or uses i 0 - 1) (let z : k * 256 ≡ k * 256 + 0 = omega arith in z) ∙ (sym (before_is (get_or uses (k * 256 + 0) 0)) ∙ ap (λ (o : Option ℕ). Option.get_or o 0) (u.is k 0 q (omega arith)))) }

  pub listed_lowest : (k : ℕ) → k < 32 → Unnamed table k 0 (get_or kinds (32 + k) 0)
  listed_lowest k q = h.lowest k (omega arith)
