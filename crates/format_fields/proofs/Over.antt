-- The walk by places meets exactly the fields of which `has_over` asks, and a law for each return of `over_at`.
use Prim.Native.Nat.{ℕ, zero, suc, ◌+◌, ◌-◌, ◌<◌, ◌≤◌}
use mathlib.Core.Path.{◌≡◌, refl, sym, ◌∙◌}
use mathlib.Core.Bool.{Bool, true, false, ◌&&◌, ◌||◌}
use mathlib.Core.List.{List}
use native.Mathlib.Omega.{arith}
use lib.ListN.{length, get_or, drop, drop_of_length-le}
use lib.Dec.{ltb, leb, eqb}
use borrow.Author.Tests.{lt-ltb, le-ltb, le-leb, lt-leb, leb-true, leb-false, eq-eqb, ne_eqb}
use Rattle.format_fields.specs.Lists.{any}
use Rattle.format_fields.specs.Fields.{pair_at, says_over, has_over}
use Rattle.format_fields.specs.Inner.Places.{field_end, places_in, places_from, places, over_at}
use Rattle.format_fields.proofs.Truth.{by_test}
use Rattle.format_fields.proofs.Places.{end_past, in_done, in_next, in_past, some_done, some_next}
use Rattle.format_fields.proofs.Split.{front, size, rest}

-- A turn of the walk that asks for a language over the limit.
module _ (isLanguage : ℕ → Bool) (limit : ℕ) (s : List ℕ) (p f : ℕ) where
  over_done : length s ≤ p → says_over (suc f) isLanguage limit (drop p s) ≡ false
  unfolding says_over
  over_done h = rw (drop_of_length-le s h)

  module _ (in-s : p < length s) where
    over_cut : length s < p + 3 → says_over (suc f) isLanguage limit (drop p s) ≡ false
    unfolding says_over
    over_cut h =
        let l : length (drop (p + 1) s) < 2 = rw (rest s p f in-s) (omega arith) in
        rw (front s p in-s) (cc (lt-leb 2 (length (drop (p + 1) s)) l))

    module _ (header : p + 3 ≤ length s) where
      header_in : leb 2 (length (drop (p + 1) s)) ≡ true
      header_in = le-leb 2 (length (drop (p + 1) s)) (rw (rest s p f in-s) (omega arith))

      over_here : isLanguage (get_or s p 0) && ltb limit (pair_at s (p + 1)) ≡ true → says_over (suc f) isLanguage limit (drop p s) ≡ true
      unfolding says_over
      over_here h = rw (front s p in-s) (cc (size s p f in-s, header_in))

      module _ (within : isLanguage (get_or s p 0) && ltb limit (pair_at s (p + 1)) ≡ false) where
        over_last : length s < field_end s p → says_over (suc f) isLanguage limit (drop p s) ≡ false
        unfolding says_over field_end
        over_last h =
            let l : length (drop (p + 1) s) < 2 + pair_at s (p + 1) = rw (rest s p f in-s) (omega arith) in
            rw (front s p in-s) (cc (size s p f in-s, header_in, lt-leb (2 + pair_at s (p + 1)) (length (drop (p + 1) s)) l))

        over_next : field_end s p ≤ length s → says_over (suc f) isLanguage limit (drop p s) ≡ says_over f isLanguage limit (drop (field_end s p) s)
        unfolding says_over field_end
        over_next h =
            let l : 2 + pair_at s (p + 1) ≤ length (drop (p + 1) s) = rw (rest s p f in-s) (omega arith) in
            let g : p + 1 + (2 + pair_at s (p + 1)) ≡ p + 3 + pair_at s (p + 1) = omega arith in
            rw (front s p in-s) (cc (size s p f in-s, header_in, le-leb (2 + pair_at s (p + 1)) (length (drop (p + 1) s)) l, lib.Seq.drop-drop (2 + pair_at s (p + 1)) (p + 1) s))

-- The test at one place.
module _ (isLanguage : ℕ → Bool) (limit : ℕ) (s : List ℕ) (p : ℕ) where
  at_cut : length s < p + 3 → over_at isLanguage limit s p ≡ false
  unfolding over_at
  at_cut h = rw (lt-leb (p + 3) (length s) h)

  at_header : p + 3 ≤ length s → over_at isLanguage limit s p ≡ isLanguage (get_or s p 0) && ltb limit (pair_at s (p + 1))
  unfolding over_at
  at_header h = rw (le-leb (p + 3) (length s) h)

over_read : (isLanguage : ℕ → Bool) (limit f : ℕ) (s : List ℕ) (p : ℕ)
    → says_over f isLanguage limit (drop p s) ≡ any (over_at isLanguage limit s) (places_in f s p)
unfolding any says_over places_in
over_read isLanguage limit zero s p = refl
over_read isLanguage limit (suc f) s p =
    by_test (leb (length s) p)
    (λ e. let d : length s ≤ p = leb-true _ _ e in rw (in_done s p f d) (over_done isLanguage limit s p f d))
    (λ e.
    let d : p < length s = leb-false _ _ e in
    let past = end_past s p in
    rw (in_next s p f d) (by_test (leb (p + 3) (length s))
    (λ k.
    let w : p + 3 ≤ length s = leb-true _ _ k in
    by_test (isLanguage (get_or s p 0) && ltb limit (pair_at s (p + 1)))
    (λ o. cc (over_here isLanguage limit s p f d w o, at_header isLanguage limit s p w))
    (λ o. by_test (leb (field_end s p) (length s))
    (λ j. cc (over_next isLanguage limit s p f d w o (leb-true _ _ j), at_header isLanguage limit s p w, over_read isLanguage limit f s (field_end s p)))
    (λ j.
    let g : length s < field_end s p = leb-false _ _ j in
    cc (over_last isLanguage limit s p f d w o g, at_header isLanguage limit s p w, in_past f s (field_end s p) (omega arith)))))
    (λ k.
    let w : length s < p + 3 = leb-false _ _ k in
    cc (over_cut isLanguage limit s p f d w, at_cut isLanguage limit s p w, in_past f s (field_end s p) (omega arith)))))

-- What `says_over` asks at the places.
pub over_at_places : (isLanguage : ℕ → Bool) (limit : ℕ) (s : List ℕ) → any (over_at isLanguage limit s) (places s) ≡ has_over isLanguage limit s
unfolding has_over places_from
over_at_places isLanguage limit s = sym (over_read isLanguage limit (suc (length s)) s 0)

-- over_at
module _ (first second limit tag n : ℕ) (s : List ℕ) (p : ℕ) where
  abbrev is_either : ℕ → Bool
  is_either t = eqb t first || eqb t second

  module _ (header : p + 2 < length s) (en : n ≡ pair_at s (p + 1)) where
    there : p + 3 ≤ length s
    there = omega arith

    pub over_within : n ≤ limit → false ≡ over_at is_either limit s p
    over_within h = sym (at_header is_either limit s p there ∙ within (is_either (get_or s p 0)) (rw (← en) (le-ltb limit n h)))
      where
        within : (a : Bool) {b : Bool} → b ≡ false → (a && b) ≡ false
        within true e = e
        within false e = refl

    module _ (more : limit < n) (et : tag ≡ get_or s p 0) where
      over_tag : is_either tag ≡ over_at is_either limit s p
      over_tag = sym (at_header is_either limit s p there ∙ rw (← en, ← et, lt-ltb limit n more) (and_true (is_either tag)))
        where
          and_true : (a : Bool) → (a && true) ≡ a
          and_true true = refl
          and_true false = refl

      pub over_first : tag ≡ first → true ≡ over_at is_either limit s p
      over_first h = sym (rw (eq-eqb tag first h)) ∙ over_tag

      pub over_second : (tag ≡ first → ⊥) → eqb tag second ≡ over_at is_either limit s p
      over_second h = sym (rw (ne_eqb tag first h)) ∙ over_tag

-- says_over: the first three bytes of the field at p are not there
pub over_cut_off : (isLanguage : ℕ → Bool) (limit : ℕ) (s : List ℕ) (p : ℕ) (x : Bool)
    → any (over_at isLanguage limit s) (places_from s p) ≡ x → p < length s → length s - p < 3 → false ≡ x
over_cut_off isLanguage limit s p x inv here h =
    let f = over_at isLanguage limit s in
    let w : length s < p + 3 = omega arith in
    let past : length s ≤ field_end s p = omega (arith, end_past s p) in
    some_done f s (field_end s p) x (some_next f s p x inv false (sym (at_cut isLanguage limit s p w)) (field_end s p) refl here refl) past
