-- The bytes of the memory: a law for each return of the functions over it.
use Prim.Native.Nat.{ℕ, ◌+◌, ◌-◌, ◌*◌, ◌/◌, ◌%◌, ◌≤◌, ◌<◌}
use mathlib.Core.Path.{◌≡◌, refl, ◌∙◌}
use mathlib.Core.Logic.{◌⊎◌, inl, inr}
use mathlib.Core.List.{List}
use native.Mathlib.Omega.{arith}
use native.Mathlib.Decide.{ℕ_discrete}
use Rattle.std.specs.Prelude.{None, Some}
use lib.ListN.{length, get_or, set, length-set}
use lib.Seq.{get_or-set_same, get_or-set_other}
use borrow.Author.Tests.{le-leb, lt-leb, eq-eqb, ne_eqb}
use Rattle.search_sources.specs.Inner.Levels.{recalled, noted}
use Rattle.search_levels.specs.Inner.Memory.{kept_kind, kept_end, Recalls, kept, Keeps, byte_for, memory_with, free_with}

module _ (memory free : List ℕ) (n k at : ℕ) where
  pub byte_free : (r : ℕ) → n ≤ at → r ≡ get_or free k 0 → r ≡ byte_for memory free n k at
  unfolding byte_for
  byte_free r h e = rw (le-leb n at h) e

  pub byte_past : at < n → length memory / 36 ≤ at → 0 ≡ byte_for memory free n k at
  unfolding byte_for
  byte_past h i = rw (lt-leb n at h, le-leb (length memory / 36) at i)

  pub byte_kept : at < n → at < length memory / 36 → get_or memory (at * 36 + (4 + k)) 0 ≡ byte_for memory free n k at
  unfolding byte_for
  byte_kept h i = rw (lt-leb n at h, lt-leb (length memory / 36) at i)

-- recall
module _ (m : ℕ) {a b v : ℕ} (d : a ≡ v) (f : b ≡ a) where
  e : b ≡ v
  e = f ∙ d

  pub recalled_1 : b ≡ 0 → None ≡ recalled m v
  unfolding recalled
  recalled_1 h = rw (← e, eq-eqb b 0 h)

  pub recalled_2 : (b ≡ 0 → ⊥) → b ≤ 17 → b ≤ m + 1 → Some (b - 1) ≡ recalled m v
  unfolding recalled
  recalled_2 h k q = rw (← e, ne_eqb b 0 h, le-leb b 17 k, le-leb b (m + 1) q)

  pub recalled_3 : (b ≡ 0 → ⊥) → b ≤ 17 → m + 1 < b → Some (m + 1) ≡ recalled m v
  unfolding recalled
  recalled_3 h k q = rw (← e, ne_eqb b 0 h, le-leb b 17 k, lt-leb b (m + 1) q)

  pub recalled_4 : (b ≡ 0 → ⊥) → 17 < b → m + 18 ≤ b → Some (m + 1) ≡ recalled m v
  unfolding recalled
  recalled_4 h k q = rw (← e, ne_eqb b 0 h, lt-leb b 17 k, le-leb (m + 18) b q)

  pub recalled_5 : (b ≡ 0 → ⊥) → 17 < b → b < m + 18 → None ≡ recalled m v
  unfolding recalled
  recalled_5 h k q = rw (← e, ne_eqb b 0 h, lt-leb b 17 k, lt-leb (m + 18) b q)

-- note
pub noted_within : (m r : ℕ) → r ≤ m → r + 1 ≡ noted m r
unfolding noted
noted_within m r h = rw (le-leb r m h)

pub noted_past : (m r : ℕ) → m < r → m + 18 ≡ noted m r
unfolding noted
noted_past m r h = rw (lt-leb r m h)

-- keep
module _ (memory free : List ℕ) (n k at : ℕ) {b v : ℕ} (e : b ≡ v) where
  pub kept_free : n ≤ at → (memory ≡ memory_with memory n k at v) × (set free k b ≡ free_with free n k at v)
  unfolding memory_with free_with
  kept_free h = (rw (le-leb n at h), rw (le-leb n at h, e))

  pub kept_past : at < n → length memory / 36 ≤ at → (memory ≡ memory_with memory n k at v) × (free ≡ free_with free n k at v)
  unfolding memory_with free_with
  kept_past h i = (rw (lt-leb n at h, le-leb (length memory / 36) at i), rw (lt-leb n at h))

  pub kept_there : at < n → at < length memory / 36 → (set memory (at * 36 + (4 + k)) b ≡ memory_with memory n k at v) × (free ≡ free_with free n k at v)
  unfolding memory_with free_with
  kept_there h i = (rw (lt-leb n at h, lt-leb (length memory / 36) at i, e), rw (lt-leb n at h))

-- kept_end
pub recalls_end : (memory : List ℕ) (k at : ℕ) {a b c d o : ℕ} → a ≡ get_or memory (at * 36) 0 → a / 8 ≡ o → o ≡ k
    → b ≡ get_or memory (at * 36 + 1) 0 → c ≡ get_or memory (at * 36 + 2) 0 → d ≡ get_or memory (at * 36 + 3) 0
    → (a % 8 * 16777216 + (b * 65536 + (c * 256 + d)) ≡ 0 → ⊥) → Recalls memory k at (Some (a % 8 * 16777216 + (b * 65536 + (c * 256 + d))))
unfolding kept_kind kept_end
recalls_end memory k at {a} {b} {c} {d} ea eo ek eb ec ed n = kept {r = a % 8 * 16777216 + (b * 65536 + (c * 256 + d))} (rw (← ea) (eo ∙ ek)) (rw (← ea, ← eb, ← ec, ← ed) refl) n

-- keep_end
pub keeps_none : (memory : List ℕ) (k at end : ℕ) → Keeps memory memory k at end
keeps_none memory k at end = record { long = refl; levels = λ p j h. refl; ends = λ p. inl (refl, refl) }

module _ (memory : List ℕ) (at a b c : ℕ) (room : at < length memory / 36) where
  pub second_inside : at * 36 + 1 < length (set memory (at * 36) a)
  second_inside = rw (length-set memory (at * 36) a) (omega arith)

  pub third_inside : at * 36 + 2 < length (set (set memory (at * 36) a) (at * 36 + 1) b)
  third_inside = rw (length-set (set memory (at * 36) a) (at * 36 + 1) b, length-set memory (at * 36) a) (omega arith)

  pub fourth_inside : at * 36 + 3 < length (set (set (set memory (at * 36) a) (at * 36 + 1) b) (at * 36 + 2) c)
  fourth_inside =
      rw (
        length-set (set (set memory (at * 36) a) (at * 36 + 1) b) (at * 36 + 2) c,
        length-set (set memory (at * 36) a) (at * 36 + 1) b,
        length-set memory (at * 36) a,
      ) (omega arith)

module _ (memory : List ℕ) (k at end p : ℕ) (kind : k < 32) (room : at < length memory / 36) (few : end ≤ 134217727) (is : p ≡ at * 36) {a : ℕ} (ea : a ≡ k) where
  abbrev one : List ℕ
  one = set memory p (a * 8 + end / 16777216)

  abbrev two : List ℕ
  two = set one (p + 1) (end / 65536 % 256)

  abbrev three : List ℕ
  three = set two (p + 2) (end / 256 % 256)

  abbrev four : List ℕ
  four = set three (p + 3) (end % 256)

  long_one : length one ≡ length memory
  long_one = length-set memory p _

  long_two : length two ≡ length memory
  long_two = length-set one (p + 1) _ ∙ long_one

  long_three : length three ≡ length memory
  long_three = length-set two (p + 2) _ ∙ long_two

  long_four : length four ≡ length memory
  long_four = length-set three (p + 3) _ ∙ long_three

  inside : p + 3 < length memory
  inside = omega arith

  others : (i : ℕ) → (i ≡ p → ⊥) → (i ≡ p + 1 → ⊥) → (i ≡ p + 2 → ⊥) → (i ≡ p + 3 → ⊥) → get_or four i 0 ≡ get_or memory i 0
  others i n0 n1 n2 n3 =
      get_or-set_other three (p + 3) i _ 0 n3 ∙ (get_or-set_other two (p + 2) i _ 0 n2 ∙ (get_or-set_other one (p + 1) i _ 0 n1 ∙ get_or-set_other memory p i _ 0 n0))

  get_0 : get_or four p 0 ≡ a * 8 + end / 16777216
  get_0 =
      get_or-set_other three (p + 3) p _ 0 (λ e. omega arith)
      ∙ (get_or-set_other two (p + 2) p _ 0 (λ e. omega arith) ∙ (get_or-set_other one (p + 1) p _ 0 (λ e. omega arith) ∙ get_or-set_same memory p _ 0 (let z = inside in omega arith)))

  get_1 : get_or four (p + 1) 0 ≡ end / 65536 % 256
  get_1 =
      get_or-set_other three (p + 3) (p + 1) _ 0 (λ e. omega arith)
      ∙ (get_or-set_other two (p + 2) (p + 1) _ 0 (λ e. omega arith) ∙ get_or-set_same one (p + 1) _ 0 (let z = inside in let y = long_one in omega arith))

  get_2 : get_or four (p + 2) 0 ≡ end / 256 % 256
  get_2 = get_or-set_other three (p + 3) (p + 2) _ 0 (λ e. omega arith) ∙ get_or-set_same two (p + 2) _ 0 (let z = inside in let y = long_two in omega arith)

  get_3 : get_or four (p + 3) 0 ≡ end % 256
  get_3 = get_or-set_same three (p + 3) _ 0 (let z = inside in let y = long_three in omega arith)

  kind_here : kept_kind four at ≡ k
  unfolding kept_kind
  kind_here = rw (← is, get_0) (omega arith)

  end_here : kept_end four at ≡ end
  unfolding kept_end
  end_here = rw (← is, get_0, get_1, get_2, get_3) (
      let u : end / 65536 / 256 ≡ end / 16777216 = omega arith in
      let v : end / 256 / 256 ≡ end / 65536 = omega arith in
      let w : (a * 8 + end / 16777216) % 8 ≡ end / 16777216 = omega arith in
      omega arith)

  kind_other : (q : ℕ) → (q ≡ at → ⊥) → kept_kind four q ≡ kept_kind memory q
  unfolding kept_kind
  kind_other q n = rw (others (q * 36) (λ e. n (omega arith)) (λ e. omega arith) (λ e. omega arith) (λ e. omega arith)) refl

  end_other : (q : ℕ) → (q ≡ at → ⊥) → kept_end four q ≡ kept_end memory q
  unfolding kept_end
  end_other q n =
      rw (
        others (q * 36) (λ e. n (omega arith)) (λ e. omega arith) (λ e. omega arith) (λ e. omega arith),
        others (q * 36 + 1) (λ e. omega arith) (λ e. n (omega arith)) (λ e. omega arith) (λ e. omega arith),
        others (q * 36 + 2) (λ e. omega arith) (λ e. omega arith) (λ e. n (omega arith)) (λ e. omega arith),
        others (q * 36 + 3) (λ e. omega arith) (λ e. omega arith) (λ e. omega arith) (λ e. n (omega arith)),
      ) refl

  pub keeps_there : Keeps memory four k at end
  keeps_there = record {
    long = long_four;
    levels = λ q j h. others (q * 36 + (4 + j)) (λ e. omega arith) (λ e. omega arith) (λ e. omega arith) (λ e. omega arith);
    ends = λ q. go q (ℕ_discrete q at);
  }
    where
      go : (q : ℕ) → Dec (q ≡ at)
          → ((kept_kind four q ≡ kept_kind memory q) × (kept_end four q ≡ kept_end memory q)) ⊎ ((q ≡ at) × (kept_kind four q ≡ k) × (kept_end four q ≡ end))
      go q (yes e) = inr (e, rw e kind_here, rw e end_here)
      go q (no n) = inl (kind_other q n, end_other q n)
