-- The walk by places meets exactly the fields of `fields_of`.
use Prim.Native.Nat.{ℕ, zero, suc, ◌+◌, ◌-◌, ◌<◌, ◌≤◌}
use mathlib.Core.Path.{◌≡◌, refl, sym, ap, ◌∙◌}
use mathlib.Core.Bool.{Bool, true, false, cond, ◌&&◌}
use mathlib.Core.List.{List, [], ◌∷◌, map}
use mathlib.Core.Option.{Option, none, some}
use native.Mathlib.Omega.{arith}
use native.Mathlib.Numerals.{add-one}
use lib.ListN.{length, get_or, take, drop, length-take, length-drop, drop_of_length-le}
use lib.Seq.{slice, drop-cons, drop-drop, get_or-drop, get_or-take}
use lib.Dec.{leb}
use borrow.Author.Tests.{le-leb, lt-leb, leb-true, leb-false}
use Rattle.format_fields.specs.Lists.{all, traverse, before}
use Rattle.format_fields.specs.Fields.{Field, pair_at, split_fields, fields_of, decoded_in}
use Rattle.format_fields.specs.Inner.Places.{field_end, is_whole, contents_at, field_at, places_in, places_from, places}
use Rattle.format_fields.proofs.Truth.{by_test}
use Rattle.format_fields.proofs.Lists.{before_conds, all_true, all_and, part_is, part_past}
use Rattle.format_fields.proofs.Places.{end_past, in_done, in_next, enough}

-- A byte, and a pair, of a part.
pub byte_drop : (s : List ℕ) (q i j : ℕ) → q + i ≡ j → get_or (drop q s) i 0 ≡ get_or s j 0
byte_drop s q i j e = cc (get_or-drop q s i 0)

pub pair_drop : (s : List ℕ) (q i j : ℕ) → q + i ≡ j → pair_at (drop q s) i ≡ pair_at s j
unfolding pair_at
pair_drop s q i j e =
    let d : q + (i + 1) ≡ j + 1 = omega arith in
    cc (byte_drop s q i j e, byte_drop s q (i + 1) (j + 1) d)

pub byte_in : (s : List ℕ) (n q i j : ℕ) → i < n → q + i ≡ j → get_or (take n (drop q s)) i 0 ≡ get_or s j 0
byte_in s n q i j h e = get_or-take n (drop q s) i 0 h ∙ byte_drop s q i j e

pub pair_in : (s : List ℕ) (n q i j : ℕ) → i + 1 < n → q + i ≡ j → pair_at (take n (drop q s)) i ≡ pair_at s j
unfolding pair_at
pair_in s n q i j h e =
    let d : q + (i + 1) ≡ j + 1 = omega arith in
    let k : i < n = omega arith in
    cc (byte_in s n q i j k e, byte_in s n q (i + 1) (j + 1) h d)

pub front : (s : List ℕ) (q : ℕ) → q < length s → drop q s ≡ get_or s q 0 ∷ drop (q + 1) s
front s q h = rw (add-one, drop-cons s q 0)

-- A turn of the split at p.
module _ (s : List ℕ) (p f : ℕ) where
  split_done : length s ≤ p → split_fields (suc f) (drop p s) ≡ some []
  unfolding split_fields
  split_done h = rw (drop_of_length-le s h)

  module _ (in-s : p < length s) where
    -- what the split sees of the field at p
    pub size : pair_at (drop (p + 1) s) 0 ≡ pair_at s (p + 1)
    size = pair_drop s (p + 1) 0 (p + 1) (omega arith)

    pub rest : length (drop (p + 1) s) ≡ length s - (p + 1)
    rest = length-drop (p + 1) s

    split_whole : field_end s p ≤ length s
        → split_fields (suc f) (drop p s) ≡ before (some (field_at s p)) (split_fields f (drop (field_end s p) s))
    unfolding split_fields field_end field_at
    split_whole h =
        let l : 2 + pair_at s (p + 1) ≤ length (drop (p + 1) s) = rw rest (omega arith) in
        let d : p + 1 + 2 ≡ p + 3 = omega arith in
        let g : p + 1 + (2 + pair_at s (p + 1)) ≡ p + 3 + pair_at s (p + 1) = omega arith in
        rw (front s p in-s) (cc (size, le-leb (2 + pair_at s (p + 1)) (length (drop (p + 1) s)) l, drop-drop 2 (p + 1) s, drop-drop (2 + pair_at s (p + 1)) (p + 1) s))

    split_cut : length s < field_end s p → split_fields (suc f) (drop p s) ≡ none
    unfolding split_fields field_end
    split_cut h =
        let l : length (drop (p + 1) s) < 2 + pair_at s (p + 1) = rw rest (omega arith) in
        rw (front s p in-s) (cc (size, lt-leb (2 + pair_at s (p + 1)) (length (drop (p + 1) s)) l))

-- The fields at places, or none where one is not whole.
abbrev read : List ℕ → List ℕ → Option (List Field)
read s l = cond (all (is_whole s) l) (some (map (field_at s) l)) none

module _ (s : List ℕ) (p : ℕ) (l : List ℕ) where
  read_whole : field_end s p ≤ length s → read s (p ∷ l) ≡ before (some (field_at s p)) (read s l)
  unfolding all is_whole
  read_whole h = rw (le-leb _ _ h) (sym (before_conds true (all (is_whole s) l) (field_at s p) (map (field_at s) l)))

  read_cut : length s < field_end s p → read s (p ∷ l) ≡ none
  unfolding all is_whole
  read_cut h = rw (lt-leb _ _ h)

split_read : (f : ℕ) (s : List ℕ) (p : ℕ) → length s - p < f → split_fields f (drop p s) ≡ read s (places_in f s p)
unfolding all
split_read zero s p h = absurd (omega arith)
split_read (suc f) s p h =
    by_test (leb (length s) p)
    (λ e. let d : length s ≤ p = leb-true _ _ e in split_done s p f d ∙ ap (read s) (sym (in_done s p f d)))
    (λ e.
    let d : p < length s = leb-false _ _ e in
    let m : length s - field_end s p < f = omega (arith, end_past s p) in
    rw (in_next s p f d) (by_test (leb (field_end s p) (length s))
    (λ k.
    let w : field_end s p ≤ length s = leb-true _ _ k in
    split_whole s p f d w
    ∙ (ap (λ (o : Option (List Field)). before (some (field_at s p)) o) (split_read f s (field_end s p) m) ∙ sym (read_whole s p (places_in f s (field_end s p)) w)))
    (λ k. let w : length s < field_end s p = leb-false _ _ k in split_cut s p f d w ∙ sym (read_cut s p (places_in f s (field_end s p)) w))))

-- The fields of a file are those at its places, and are there if each is whole.
pub fields_at_places : (s : List ℕ) → fields_of s ≡ cond (all (is_whole s) (places s)) (some (map (field_at s) (places s))) none
unfolding fields_of places_from
fields_at_places s = split_read (suc (length s)) s 0 (omega arith)

-- More fuel than bytes is enough.
split_enough : (f g : ℕ) (s : List ℕ) → length s < f → length s < g → split_fields f s ≡ split_fields g s
split_enough f g s h k =
    split_read f s 0 (omega arith) ∙ (ap (read s) (enough f g s 0 (omega arith) (omega arith)) ∙ sym (split_read g s 0 (omega arith)))

-- A turn of the walk over what is left of a file from p on.
module _ (s : List ℕ) (p : ℕ) where
  pub fields_done : length s ≤ p → fields_of (drop p s) ≡ some []
  unfolding fields_of
  fields_done h = split_done s p (length (drop p s)) h

  module _ (in-s : p < length s) where
    pub fields_next : field_end s p ≤ length s → fields_of (drop p s) ≡ before (some (field_at s p)) (fields_of (drop (field_end s p) s))
    unfolding fields_of
    fields_next h =
        let left = drop (field_end s p) s in
        let a : length left < length (drop p s) = simp length-drop (omega (arith, end_past s p)) in
        let b : length left < suc (length left) = omega arith in
        split_whole s p (length (drop p s)) in-s h
        ∙ ap (λ (o : Option (List Field)). before (some (field_at s p)) o) (split_enough (length (drop p s)) (suc (length left)) left a b)

    pub fields_cut : length s < field_end s p → fields_of (drop p s) ≡ none
    unfolding fields_of
    fields_cut h = split_cut s p (length (drop p s)) in-s h

-- The contents of the whole field at p: their length, a number in them, their first two bytes, and what comes after those.
module _ (s : List ℕ) (p : ℕ) (w : is_whole s p ≡ true) where
  fits : p + 3 + pair_at s (p + 1) ≤ length s
  unfolding is_whole field_end
  fits = leb-true _ _ w

  pub contents_length : length (contents_at s p) ≡ pair_at s (p + 1)
  contents_length = let h = fits in simp (length-take, length-drop) (omega arith)

  pub contents_pair : (i j : ℕ) → i + 1 < pair_at s (p + 1) → p + 3 + i ≡ j → pair_at (contents_at s p) i ≡ pair_at s j
  contents_pair i j = pair_in s (pair_at s (p + 1)) (p + 3) i j

  pub contents_first : 1 ≤ pair_at s (p + 1) → get_or (contents_at s p) 0 0 ≡ get_or s (p + 3) 0
  contents_first h = byte_in s (pair_at s (p + 1)) (p + 3) 0 (p + 3) (omega arith) (omega arith)

  pub contents_second : 2 ≤ pair_at s (p + 1) → get_or (contents_at s p) 1 0 ≡ get_or s (p + 4) 0
  contents_second h = byte_in s (pair_at s (p + 1)) (p + 3) 1 (p + 4) (omega arith) (omega arith)

  pub contents_third : 3 ≤ pair_at s (p + 1) → get_or (contents_at s p) 2 0 ≡ get_or s (p + 5) 0
  contents_third h = byte_in s (pair_at s (p + 1)) (p + 3) 2 (p + 5) (omega arith) (omega arith)

  pub contents_past : drop 3 (contents_at s p) ≡ slice (p + 6) (field_end s p) s
  unfolding field_end
  contents_past =
      let h : p + 3 ≤ length s = omega (arith, fits) in
      let d : p + 3 + 3 ≡ p + 6 = omega arith in
      cc (part_is s (p + 3) (pair_at s (p + 1)) h, part_past s (p + 3) (p + 3 + pair_at s (p + 1)) 3)

  pub contents_after : drop 2 (contents_at s p) ≡ slice (p + 5) (field_end s p) s
  unfolding field_end
  contents_after =
      let h : p + 3 ≤ length s = omega (arith, fits) in
      let d : p + 3 + 2 ≡ p + 5 = omega arith in
      cc (part_is s (p + 3) (pair_at s (p + 1)) h, part_past s (p + 3) (p + 3 + pair_at s (p + 1)) 2)

-- A decoder of fields of two tags, from what it does for each: x says that the field has the one, y that it has the other.
pub two_tags : {A : Type 0} (x y : Bool) {d e : Option A} (g k : Bool) (u v : A) → d ≡ cond g (some u) none → e ≡ cond k (some v) none
    → cond x d (cond y e none) ≡ cond (cond x g (cond y k false)) (some (cond x u v)) none
two_tags true y g k u v h j = h
two_tags false true g k u v h j = j
two_tags false false g k u v h j = refl

-- The same for four tags.
pub four_tags : {A : Type 0} (x y z w : Bool) {a b c d : Option A} (g h i j : Bool) (t u v s : A)
    → a ≡ cond g (some t) none → b ≡ cond h (some u) none → c ≡ cond i (some v) none → d ≡ cond j (some s) none
    → cond x a (cond y b (cond z c (cond w d none)))
    ≡ cond (cond x g (cond y h (cond z i (cond w j false)))) (some (cond x t (cond y u (cond z v s)))) none
four_tags true y z w g h i j t u v s p q r o = p
four_tags false true z w g h i j t u v s p q r o = q
four_tags false false true w g h i j t u v s p q r o = r
four_tags false false false true g h i j t u v s p q r o = o
four_tags false false false false g h i j t u v s p q r o = refl

-- What is decoded of each field is read at its place: ok and at say so of one field that is whole.
module _ {E : Type 0} (decode : Field → Option E) (ok : ℕ → Bool) (at : ℕ → E) (s : List ℕ)
    (same : (p : ℕ) → is_whole s p ≡ true → decode (field_at s p) ≡ cond (ok p) (some (at p)) none) where
  traverse_at_places : (l : List ℕ) → all (is_whole s) l ≡ true
      → traverse decode (map (field_at s) l) ≡ cond (all ok l) (some (map at l)) none
  unfolding traverse all
  traverse_at_places [] h = refl
  traverse_at_places (p ∷ l) h =
      let w = all_true (is_whole s) p l h in
      rw (same p w.0, traverse_at_places l w.1) (before_conds (ok p) (all ok l) (at p) (map at l))

  -- What is decoded of a file is there if each field is whole and decoded.
  pub decoded_at_places : decoded_in decode (fields_of s)
      ≡ cond (all (λ p. is_whole s p && ok p) (places s)) (some (map at (places s))) none
  decoded_at_places =
      by_test (all (is_whole s) (places s))
      (λ h. cc (fields_at_places s, traverse_at_places (places s) h, all_and (is_whole s) ok (places s)))
      (λ h. cc (fields_at_places s, all_and (is_whole s) ok (places s)))
