-- Ranges within ranges: the facts that the laws use of containment, and the returns of the functions on ranges.
use Prim.Native.Nat.{ℕ, zero, suc, ◌+◌, ◌*◌, ◌-◌, ◌/◌, ◌%◌, ◌<◌, ◌≤◌}
use mathlib.Core.Path.{◌≡◌, refl, sym, ap, ◌∙◌}
use mathlib.Core.Bool.{Bool, true, false, not, ◌&&◌, ◌||◌}
use mathlib.Core.Logic.{⊎_elim}
use mathlib.Core.List.{List}
use native.Mathlib.Omega.{arith}
use native.Mathlib.Nat.{div-add-mod', le-div_iff_mul-le, mul-mod_left, add-mul-mod_self_right, mul-le-mul_right, mul_assoc, add-mul, suc-mul, zero-mul, one-mul}
use lib.ListN.{length, get_or}
use lib.Dec.{leb, eqb}
use borrow.Author.Tests.{leb-true, le-leb, lt-leb, eq-eqb, eqb-true}
use Rattle.format_fields.specs.Lists.{count_up}
use Rattle.format_fields.specs.Fields.{pair_at}
use Rattle.format_fields.specs.Inner.Places.{field_end}
use Rattle.format_fields.proofs.Truth.{and_both, both_and, refuted, same_truth, all_mem, mem_all, mem_count, false_true}
use Rattle.format_language.specs.Ranges.{Range, in_range, legal_too, range_within}
use Rattle.format_language.specs.Inner.Entries.{size_at, step_at, class_range, IsClass}

-- ---- division
-- A number with no remainder is its quotient times the divisor.
whole : (n t : ℕ) → n % t ≡ 0 → n / t * t ≡ n
whole n t h = let e = div-add-mod' n t in omega arith

-- A multiple leaves nothing.
multiple : (n i t : ℕ) → n ≡ i * t → n % t ≡ 0
multiple n i t h = ap (λ (x : ℕ). x % t) h ∙ mul-mod_left i t

-- A number that becomes a multiple by adding one is one.
difference : (s i j t : ℕ) → s + i * t ≡ j * t → s % t ≡ 0
difference s i j t h = sym (add-mul-mod_self_right s i t) ∙ multiple (s + i * t) j t h

-- As many steps as fit below n.
below : (i s n : ℕ) → 0 < s → i * s ≤ n → i * s ≤ n / s * s
below i s n p h = mul-le-mul_right s ((le-div_iff_mul-le {x = i} {y = n} p).1 h)

-- A remainder is no more than the number.
pub rest_small : (n t : ℕ) → n % t ≤ n
rest_small n t = let e = div-add-mod' n t in omega arith

-- Where not one step fits, there is none.
no_step : (i s n : ℕ) → n < s → i * s ≤ n → i * s ≡ 0
no_step zero s n p h = zero-mul s
no_step (suc i) s n p h = let e = suc-mul i s in let no : ⊥ = omega arith in absurd no

-- ---- legal values
-- A legal value, by the number of steps up to it.
record Steps (c : Range) (v : ℕ) : Type 0 where
  times : ℕ
  is : v ≡ c.low + times * c.step
  most : v ≤ c.high

steps_of : (c : Range) (v : ℕ) → in_range c v ≡ true → Steps c v
unfolding in_range
steps_of c v h =
    let w = and_both (leb c.low v) (leb v c.high && eqb ((v - c.low) % c.step) 0) h in
    let u = and_both (leb v c.high) (eqb ((v - c.low) % c.step) 0) w.1 in
    let a = leb-true c.low v w.0 in
    let e = whole (v - c.low) c.step (eqb-true ((v - c.low) % c.step) 0 u.1) in
    record { times = (v - c.low) / c.step; is = omega arith; most = leb-true v c.high u.0 }

of_steps : (c : Range) (v : ℕ) → Steps c v → in_range c v ≡ true
unfolding in_range
of_steps c v s =
    let e = s.is in
    both_and (leb c.low v) (leb v c.high && eqb ((v - c.low) % c.step) 0)
    (le-leb c.low v (omega arith))
    (both_and (leb v c.high) (eqb ((v - c.low) % c.step) 0) (le-leb v c.high s.most)
    (eq-eqb ((v - c.low) % c.step) 0 (multiple (v - c.low) s.times c.step (omega arith))))

-- ---- containment
implied : (a b : Bool) → (a ≡ true → b ≡ true) → (not a || b) ≡ true
implied true b h = h refl
implied false b h = refl

-- Where each legal value of one is legal in the other, the other contains it.
pub all_within_lem : (c d : Range) → ((v : ℕ) → in_range c v ≡ true → in_range d v ≡ true) → range_within c d ≡ true
unfolding range_within legal_too
all_within_lem c d h =
    mem_all (legal_too c d) (count_up (c.high + 1 - c.low) c.low) (λ v m. implied (in_range c v) (in_range d v) (h v))

-- A value that is legal in a range is legal in each that contains it.
pub value_within : (c d : Range) → range_within c d ≡ true → (v : ℕ) → in_range c v ≡ true → in_range d v ≡ true
unfolding range_within legal_too
value_within c d h v k =
    let s = steps_of c v k in
    let e = s.is in
    let m = s.most in
    let t = all_mem (legal_too c d) (count_up (c.high + 1 - c.low) c.low) h v (mem_count (c.high + 1 - c.low) c.low v (omega arith) (omega arith)) in
    rw k at t

-- A range lies in itself.
pub within_itself : (c : Range) → range_within c c ≡ true
within_itself c = all_within_lem c c (λ v h. h)

-- What lies in a range lies in each that contains it.
pub within_both : (c d e : Range) → range_within c d ≡ true → range_within d e ≡ true → range_within c e ≡ true
within_both c d e h k = all_within_lem c e (λ v l. value_within d e k v (value_within c d h v l))

-- ---- the test by numbers: c has a legal value and a step
module _ (c d : Range) (some : c.low ≤ c.high) (steps : 0 < c.step) where
  lowest : Steps c c.low
  lowest = record { times = 0; is = omega (arith, zero-mul c.step); most = some }

  pub test_low : in_range d c.low ≡ false → false ≡ range_within c d
  test_low h = sym (refuted (range_within c d) (λ w. let z = value_within c d w c.low (of_steps c c.low lowest) in false_true (sym h ∙ z)))

  module _ (low : in_range d c.low ≡ true) where
    from : Steps d c.low
    from = steps_of d c.low low

    pub test_single : c.high - c.low < c.step → true ≡ range_within c d
    test_single h =
        sym (all_within_lem c d λ v k.
        let s = steps_of c v k in
        let e = s.is in
        let m = s.most in
        let z = no_step s.times c.step (c.high - c.low) h (omega arith) in
        let y : v ≡ c.low = omega arith in
        rw y low)

    module _ (more : c.step ≤ c.high - c.low) where
      pub test_step : (c.step % d.step ≡ 0 → ⊥) → false ≡ range_within c d
      test_step h =
          sym (refuted (range_within c d) λ w.
          let next : Steps c (c.low + c.step) = record { times = 1; is = omega (arith, one-mul c.step); most = omega arith } in
          let l = from in
          let n = steps_of d (c.low + c.step) (value_within c d w (c.low + c.step) (of_steps c (c.low + c.step) next)) in
          let e = l.is in
          let f = n.is in
          h (difference c.step l.times n.times d.step (omega arith)))

      module _ (divides : c.step % d.step ≡ 0) where
        -- the greatest legal value
        abbrev last : ℕ
        last = c.low + (c.high - c.low - (c.high - c.low) % c.step)

        last_is : last ≡ c.low + (c.high - c.low) / c.step * c.step
        last_is = let e = div-add-mod' (c.high - c.low) c.step in omega arith

        last_steps : Steps c last
        last_steps = record { times = (c.high - c.low) / c.step; is = last_is; most = omega arith }

        contained : last ≤ d.high → (v : ℕ) → in_range c v ≡ true → in_range d v ≡ true
        contained h v k =
            let s = steps_of c v k in
            let i = s.is in
            let m = s.most in
            let b = below s.times c.step (c.high - c.low) steps (omega arith) in
            let z = last_is in
            let l = from in
            let f = l.is in
            let r = c.step / d.step in
            let e : (l.times + s.times * r) * d.step ≡ l.times * d.step + s.times * c.step =
            add-mul l.times (s.times * r) d.step
            ∙ ap (λ (x : ℕ). l.times * d.step + x) (mul_assoc s.times r d.step ∙ ap (λ (x : ℕ). s.times * x) (whole c.step d.step divides)) in
            of_steps d v (record { times = l.times + s.times * r; is = omega arith; most = omega arith })

        pub test_last : (x : ℕ) → x ≡ last → leb x d.high ≡ range_within c d
        test_last x ex =
            same_truth (leb x d.high) (range_within c d)
            (λ t. all_within_lem c d (contained (omega (arith, ex, leb-true x d.high t))))
            (λ w. let n = steps_of d last (value_within c d w last (of_steps c last last_steps)) in le-leb x d.high (omega (arith, ex, n.most)))

-- ---- the bytes of a class
module _ (s : List ℕ) (p : ℕ) (h : IsClass s p) where
  -- a class has eight bytes, and two more where its step is written
  pub class_long : p + 7 < length s
  unfolding field_end
  class_long = let f = h.fits in ⊎_elim (λ e. omega arith) (λ e. omega arith) h.size

  -- the low byte of its length tells which it is
  module _ (b : ℕ) (eb : b ≡ get_or s (p + 2) 0) where
    pub step_one : (b ≡ 7 → ⊥) → (1 ≡ step_at s p) × (0 < 1)
    unfolding step_at pair_at
    step_one n =
        let d : p + 1 + 1 ≡ p + 2 = omega arith in
        let five : size_at s p ≡ 5 = ⊎_elim (λ e. e) (λ e. absurd (n (let g : get_or s (p + 1) 0 * 256 + get_or s (p + 2) 0 ≡ 7 = rw d at e in omega arith))) h.size in
        (rw five refl, omega arith)

    size_seven : b ≡ 7 → size_at s p ≡ 7
    unfolding pair_at
    size_seven n =
        let d : p + 1 + 1 ≡ p + 2 = omega arith in
        ⊎_elim (λ e. let g : get_or s (p + 1) 0 * 256 + get_or s (p + 2) 0 ≡ 5 = rw d at e in absurd (omega arith)) (λ e. e) h.size

    pub step_in : b ≡ 7 → p + 8 + 1 < length s
    unfolding field_end
    step_in n = let f = h.fits in let z = size_seven n in omega arith

    pub step_read : b ≡ 7 → (x : ℕ) → x ≡ pair_at s (p + 8) → (x ≡ step_at s p) × (0 < x)
    unfolding step_at
    step_read n x ex =
        let z : x ≡ step_at s p = cc (eq-eqb (size_at s p) 7 (size_seven n)) in
        (z, omega (arith, z, h.step))

-- in_range: low, high and step of the class at p
module _ (s : List ℕ) (p v low : ℕ) (el : low ≡ pair_at s (p + 4)) where
  pub value_below : v < low → false ≡ in_range (class_range s p) v
  unfolding in_range class_range
  value_below h = cc (lt-leb low v h)

  module _ (least : low ≤ v) (high : ℕ) (eh : high ≡ pair_at s (p + 6)) where
    pub value_above : high < v → false ≡ in_range (class_range s p) v
    unfolding in_range class_range
    value_above h = cc (le-leb low v least, lt-leb v high h)

    module _ (most : v ≤ high) (step : ℕ) (es : step ≡ step_at s p) where
      pub value_steps : eqb ((v - low) % step) 0 ≡ in_range (class_range s p) v
      unfolding in_range class_range
      value_steps = cc (le-leb low v least, le-leb v high most)

      pub value_single : step ≡ 1 → true ≡ in_range (class_range s p) v
      value_single h =
          let e : (v - low) % step ≡ 0 = rw h (omega arith) in
          sym (eq-eqb ((v - low) % step) 0 e) ∙ value_steps

-- range_within: the numbers of the classes at p of s and at q of t
module _ (s : List ℕ) (p : ℕ) (t : List ℕ) (q : ℕ) (h : IsClass s p) (low : ℕ) (el : low ≡ pair_at s (p + 4)) where
  abbrev Within : Bool
  Within = range_within (class_range s p) (class_range t q)

  pub low_out : in_range (class_range t q) low ≡ false → false ≡ Within
  unfolding class_range
  low_out e = test_low (class_range s p) (class_range t q) h.range h.step (rw el at e)

  module _ (in-low : in_range (class_range t q) low ≡ true) (high : ℕ) (eh : high ≡ pair_at s (p + 6)) where
    module _ (step : ℕ) (es : step ≡ step_at s p) where
      pub span_single : high - low < step → true ≡ Within
      unfolding class_range
      span_single e = test_single (class_range s p) (class_range t q) h.range h.step (rw el at in-low) (omega arith)

      module _ (more : step ≤ high - low) (other : ℕ) (eo : other ≡ step_at t q) where
        pub step_out : (step % other ≡ 0 → ⊥) → false ≡ Within
        unfolding class_range
        step_out e = test_step (class_range s p) (class_range t q) h.range h.step (rw el at in-low) (omega arith) (rw (es, eo) at e)

        pub last_in : step % other ≡ 0 → (bound : ℕ) → bound ≡ pair_at t (q + 6) → leb (low + (high - low - (high - low) % step)) bound ≡ Within
        unfolding class_range
        last_in e bound eb =
            rw eb (test_last (class_range s p) (class_range t q) h.range h.step (rw el at in-low) (omega arith) (rw (es, eo) at e)
            (low + (high - low - (high - low) % step)) (rw (el, eh, es)))
