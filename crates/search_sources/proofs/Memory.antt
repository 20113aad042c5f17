-- What a byte of memory says of the levels that a goal needs: what is recalled and what is kept is true.
use Prim.Native.Nat.{ℕ, suc, ◌+◌, ◌-◌, ◌≤◌, ◌<◌}
use mathlib.Core.Path.{◌≡◌, refl}
use mathlib.Core.Bool.{Bool, true, false, cond}
use native.Mathlib.Omega.{arith}
use lib.Dec.{eqb, leb}
use Rattle.std.specs.Prelude.{None, Some}
use borrow.Author.Tests.{leb-true, leb-false, eqb-false}
use Rattle.format_language.specs.Language.{Language}
use Rattle.tree_reader.specs.Code.{Code}
use Rattle.format_translation.specs.Running.{Clauses}
use Rattle.search_sources.specs.Inner.Goals.{Goal, Fits}
use Rattle.search_sources.specs.Inner.Levels.{Needs, Says, recalled, noted}
use Rattle.search_sources.proofs.Answers.{fits_more}

module _ {l : Language} {f : Clauses} {k : ℕ} {g : Goal} where
  -- With fewer levels in sight the number is the same, cut.
  cut_within : (m x : ℕ) → m ≤ 16 → x ≤ m → Needs l f 16 k g x → Needs l f m k g x
  cut_within m x h i q = record {
    bound = omega arith;
    finds = λ j. q.finds (omega arith);
    least = λ n t j z. q.least n t (omega arith) z;
  }

  cut_none : (m y : ℕ) → m ≤ y → ((t : Code) → Fits l f y k g t → ⊥) → Needs l f m k g (suc m)
  cut_none m y h q = record {
    bound = omega arith;
    finds = λ j. absurd (omega arith);
    least = λ n t i j. absurd (q t (fits_more (omega arith) j));
  }

  cut_past : (m x : ℕ) → m ≤ 16 → m < x → Needs l f 16 k g x → Needs l f m k g (suc m)
  cut_past m x h i q = cut_none m m (omega arith) (λ t z. let y = q.least m t h z in omega arith)

  -- What is recalled is true.
  pub recall_needs : (m b : ℕ) → m ≤ 16 → Says l f k g b → (r : ℕ) → recalled m b ≡ Some r → Needs l f m k g r
  unfolding recalled
  recall_needs m b h s r q = go (eqb b 0) (leb b 17) (leb b (m + 1)) (leb (m + 18) b) refl refl refl refl q
    where
      go : (u v w x : Bool) → eqb b 0 ≡ u → leb b 17 ≡ v → leb b (m + 1) ≡ w → leb (m + 18) b ≡ x
          → cond u None (cond v (cond w (Some (b - 1)) (Some (m + 1))) (cond x (Some (m + 1)) None)) ≡ Some r
          → Needs l f m k g r
      go true v w x e i j y z = absurd cc
      go false true true x e i j y z =
          let d = eqb-false b 0 e in
          let a : r ≡ b - 1 = cc in
          rw a (cut_within m (b - 1) h (omega (arith, leb-true b (m + 1) j)) (s.number (omega (arith, d)) (leb-true b 17 i)))
      go false true false x e i j y z =
          let d = eqb-false b 0 e in
          let n : r ≡ m + 1 = cc in
          let a : r ≡ suc m = omega arith in
          rw a (cut_past m (b - 1) h (omega (arith, leb-false b (m + 1) j)) (s.number (omega (arith, d)) (leb-true b 17 i)))
      go false false w true e i j y z =
          let n : r ≡ m + 1 = cc in
          let a : r ≡ suc m = omega arith in
          let d = leb-true (m + 18) b y in
          rw a (cut_none m (b - 18) (omega arith) (s.above (omega arith)))
      go false false w false e i j y z = absurd cc

  -- What is kept is true.
  whole : (m r : ℕ) → m ≤ 16 → r ≤ m → Needs l f m k g r → Needs l f 16 k g r
  whole m r h i q = record {
    bound = omega arith;
    finds = λ j. q.finds i;
    least = λ n t j z. go n t z (leb n m) refl;
  }
    where
      go : (n : ℕ) (t : Code) → Fits l f n k g t → (b : Bool) → leb n m ≡ b → r ≤ n
      go n t z true e = q.least n t (leb-true n m e) z
      go n t z false e = omega (arith, leb-false n m e)

  pub noted_says : (m r : ℕ) → m ≤ 16 → Needs l f m k g r → Says l f k g (noted m r)
  unfolding noted
  noted_says m r h q = go (leb r m) refl
    where
      go : (b : Bool) → leb r m ≡ b → Says l f k g (cond b (r + 1) (m + 18))
      go true e =
          let i = leb-true r m e in
          let a : r + 1 - 1 ≡ r = omega arith in
          record { number = λ x y. rw a (whole m r h i q); above = λ x. absurd (omega arith) }
      go false e =
          let i = leb-false r m e in
          let a : m + 18 - 18 ≡ m = omega arith in
          record { number = λ x y. absurd (omega arith); above = λ x t z. let y = q.least m t (omega arith) (rw a at z) in omega arith }

  pub nothing_says : Says l f k g 0
  nothing_says = record { number = λ x y. absurd (omega arith); above = λ x. absurd (omega arith) }
