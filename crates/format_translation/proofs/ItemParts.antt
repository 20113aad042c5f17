-- Items are told apart by their parts.
use Prim.Native.Nat.{ℕ}
use mathlib.Core.Path.{◌≡◌}
use mathlib.Core.List.{List}
use native.Mathlib.Omega.{arith}
use Rattle.format_translation.specs.Translation.{mapping, clause}

pub mapping_parts : {s i t u j v : ℕ} → mapping s i t ≡ mapping u j v → (s ≡ u) × (i ≡ j) × (t ≡ v)
mapping_parts e = (cc, cc, cc)

pub clause_parts : {r p i s q j : ℕ} {c d : List ℕ} → clause r p i c ≡ clause s q j d → (r ≡ s) × (p ≡ q) × (i ≡ j) × (c ≡ d)
clause_parts e = (cc, cc, cc, cc)

pub mapping_clause : {A : Type 0} {s i t r p j : ℕ} {c : List ℕ} → mapping s i t ≡ clause r p j c → A
mapping_clause {s = s} {i} {t} {r} {p} {j} {c} e = absurd (clash s i t r p j c e)
  where
    clash : (s i t r p j : ℕ) (c : List ℕ) → mapping s i t ≡ clause r p j c → ⊥
    clash s i t r p j c e = let z : ◌≡◌ {A = ℕ} 0 1 = cc in omega arith
