-- Laws of the ends that are kept.
use Prim.Native.Nat.{ℕ, ◌+◌, ◌*◌, ◌<◌}
use mathlib.Core.Path.{◌≡◌, refl, sym, ap, ◌∙◌}
use mathlib.Core.Logic.{◌⊎◌, inl, inr, ⊎_elim}
use mathlib.Core.Bool.{Bool, true, false}
use mathlib.Core.List.{List}
use native.Mathlib.Omega.{arith}
use lib.ListN.{length, get_or, set, length-set}
use lib.Seq.{get_or-set_same, get_or-set_other}
use lib.Dec.{eqb}
use borrow.Author.Tests.{eqb-true, eqb-false}
use Rattle.tree_reader.specs.Inner.Ends.{Kept}

-- What stands behind the key of a term is kept of it, unless it is 0.
pub kept_there : (ends : List ℕ) (k at slot e : ℕ) → k < 32 → get_or ends (2 * slot) 0 ≡ at * 32 + k → e ≡ get_or ends (2 * slot + 1) 0
    → (e ≡ 0 → ⊥) → Kept ends k at e
kept_there ends k at slot e h q i z = record { slot = slot; key = q; end = sym i; some = omega (arith, z); kind = h }

-- What is kept after one end was put in was kept before, or is that end.
module _ (ends : List ℕ) (kind at slot end : ℕ) (small : kind < 32) (inside : 2 * slot + 1 < length ends) where
  one : List ℕ
  one = set ends (2 * slot) (at * 32 + kind)

  both : List ℕ
  both = set one (2 * slot + 1) end

  module _ (k p e : ℕ) (h : Kept both k p e) where
    by_slot : (b : Bool) → eqb h.slot slot ≡ b → Kept ends k p e ⊎ ((k ≡ kind) × (p ≡ at) × (e ≡ end))
    unfolding one both
    by_slot true q =
        let s : h.slot ≡ slot = eqb-true h.slot slot q in
        let n : 2 * slot ≡ 2 * slot + 1 → ⊥ = λ z. omega arith in
        let key : get_or both (2 * h.slot) 0 ≡ at * 32 + kind =
        ap (λ (i : ℕ). get_or both (2 * i) 0) s ∙ (get_or-set_other one (2 * slot + 1) (2 * slot) end 0 n ∙ get_or-set_same ends (2 * slot) (at * 32 + kind) 0 (omega arith)) in
        let far : get_or both (2 * h.slot + 1) 0 ≡ end =
        ap (λ (i : ℕ). get_or both (2 * i + 1) 0) s ∙ get_or-set_same one (2 * slot + 1) end 0 (omega (arith, length-set ends (2 * slot) (at * 32 + kind))) in
        let same : at * 32 + kind ≡ p * 32 + k = sym key ∙ h.key in
        inr (omega (arith, h.kind), omega (arith, h.kind), sym h.end ∙ far)
    by_slot false q =
        let s : h.slot ≡ slot → ⊥ = eqb-false h.slot slot q in
        let key : get_or both (2 * h.slot) 0 ≡ get_or ends (2 * h.slot) 0 =
        get_or-set_other one (2 * slot + 1) (2 * h.slot) end 0 (λ z. omega arith) ∙ get_or-set_other ends (2 * slot) (2 * h.slot) (at * 32 + kind) 0 (λ z. s (omega arith)) in
        let far : get_or both (2 * h.slot + 1) 0 ≡ get_or ends (2 * h.slot + 1) 0 =
        get_or-set_other one (2 * slot + 1) (2 * h.slot + 1) end 0 (λ z. s (omega arith)) ∙ get_or-set_other ends (2 * slot) (2 * h.slot + 1) (at * 32 + kind) 0 (λ z. omega arith) in
        inl (record { slot = h.slot; key = sym key ∙ h.key; end = sym far ∙ h.end; some = h.some; kind = h.kind })

  pub kept_put : (k p e : ℕ) → Kept (set (set ends (2 * slot) (at * 32 + kind)) (2 * slot + 1) end) k p e
      → Kept ends k p e ⊎ ((k ≡ kind) × (p ≡ at) × (e ≡ end))
  unfolding one both
  kept_put k p e h = by_slot k p e h (eqb h.slot slot) refl

-- What marks a table is the end of no term.
pub kept_marked : (ends : List ℕ) (slot : ℕ) → 2 * slot + 1 < length ends → (k p e : ℕ) → Kept (set (set ends (2 * slot) (0 * 32 + 1)) (2 * slot + 1) 0) k p e → Kept ends k p e
kept_marked ends slot inside k p e h = ⊎_elim (λ z. z) (λ z. absurd (omega (arith, h.some, z.2))) (kept_put ends 1 0 slot 0 (omega arith) inside k p e h)

-- keep_end: one end was put in, and the table marked.
pub kept_both : (ends : List ℕ) (kind at slot end last : ℕ) (middle after : List ℕ) → kind < 32 → 2 * slot + 1 < length ends → 2 * last + 1 < length ends
    → middle ≡ set (set ends (2 * slot) (at * 32 + kind)) (2 * slot + 1) end → after ≡ set (set middle (2 * last) (0 * 32 + 1)) (2 * last + 1) 0
    → (k p e : ℕ) → Kept after k p e → Kept ends k p e ⊎ ((k ≡ kind) × (p ≡ at) × (e ≡ end))
kept_both ends kind at slot end last middle after small inside behind em ea k p e h =
    let one = set ends (2 * slot) (at * 32 + kind) in
    let l : length middle ≡ length ends = ap length em ∙ (length-set one (2 * slot + 1) end ∙ length-set ends (2 * slot) (at * 32 + kind)) in
    kept_put ends kind at slot end small inside k p e (rw em at (kept_marked middle last (omega arith) k p e (rw ea at h)))
