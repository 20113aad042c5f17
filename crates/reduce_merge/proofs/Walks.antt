-- The fields by key and bytes, a turn of the walk at a time: a law for each return and turn of the functions of `meet`.
use Prim.Native.Nat.{ℕ, ◌+◌, ◌-◌, ◌<◌, ◌≤◌}
use mathlib.Core.Path.{◌≡◌, refl, sym, ap, ◌∙◌}
use mathlib.Core.Bool.{Bool, true, false, not, ◌&&◌}
use mathlib.Core.List.{List, [], ◌∷◌, ◌++◌}
use native.Mathlib.Omega.{arith}
use lib.ListN.{length, take, drop}
use lib.Seq.{slice_empty}
use lib.Pointwise.{pointwise}
use Rattle.std.proofs.Common.{nat_eq}
use lib.Dec.{eqb, ltb, leb}
use borrow.Author.Tests.{lt-ltb, le-ltb, ltb-true, eq-eqb, ne_eqb, eqb-true, leb-true, leb-false}
use Rattle.format_fields.specs.Lists.{all, concat_map, same_numbers}
use Rattle.format_fields.specs.Inner.Places.{field_end, EndsAt, is_whole, long_at, places_from, order_at, Skipped}
use Rattle.format_fields.proofs.Truth.{by_test, not_both}
use Rattle.format_fields.proofs.Lists.{cons_both, all_true}
use Rattle.format_fields.proofs.Places.{end_past, places_done, places_next, every_here, long_here}
use Rattle.reduce_merge.specs.Inner.Parts.{Part, same_part, bytes_of, piece_at, part_at, parts_from, WholeAt, WholeFrom, lower, seek, SoughtAt, leads, same_key, parts_clash}
use Rattle.format_fields.proofs.Splices.{slice_is, slice_join}

-- The fields from p on: at the end, and at a field.
module _ (first : ℕ) (s : List ℕ) (p : ℕ) where
  pub parts_done : length s ≤ p → parts_from first s p ≡ []
  unfolding parts_from
  parts_done h = rw (places_done s p h)

  pub parts_next : p < length s → parts_from first s p ≡ part_at first s p ∷ parts_from first s (field_end s p)
  unfolding parts_from
  parts_next h = rw (places_next s p h)

-- The length bytes of a whole field are there.
pub head_whole : (s : List ℕ) (p : ℕ) → WholeAt s p → p + 2 < length s
head_whole s p w = omega (arith, w.long)

-- Where all fields from p on are whole, the one at p is, and all further ones.
module _ (s : List ℕ) (p : ℕ) (w : WholeFrom s p) (here : p < length s) where
  pub whole_here : WholeAt s p
  unfolding is_whole
  whole_here = record {
    long = long_here s p (every_here (long_at s) s p w.long here).0;
    fits = leb-true _ _ (every_here (is_whole s) s p w.whole here).0;
  }

  pub head_here : p + 2 < length s
  head_here = head_whole s p whole_here

  pub key_here : p + 4 < length s
  key_here = whole_here.long

  pub whole_next : (e : ℕ) → e ≡ field_end s p → WholeFrom s e
  whole_next e q = rw q (record {
    inside = whole_here.fits;
    long = (every_here (long_at s) s p w.long here).1;
    whole = (every_here (is_whole s) s p w.whole here).1;
  })

-- A field whose key is below k is passed; at any other the search ends.
module _ (k : ℕ) (a : Part) (l : List Part) where
  pub seek_skip : a.key < k → seek k (a ∷ l) ≡ seek k l
  unfolding seek
  seek_skip h = rw (lt-ltb a.key k h)

  pub lower_skip : a.key < k → lower k (a ∷ l) ≡ a ∷ lower k l
  unfolding lower
  lower_skip h = rw (lt-ltb a.key k h)

  pub seek_stop : k ≤ a.key → seek k (a ∷ l) ≡ a ∷ l
  unfolding seek
  seek_stop h = rw (le-ltb a.key k h)

  pub lower_stop : k ≤ a.key → lower k (a ∷ l) ≡ []
  unfolding lower
  lower_stop h = rw (le-ltb a.key k h)

-- What `skip_below` passed, by the fields: no lesser key is left in front.
same_place : (s : List ℕ) (p r : ℕ) → p ≤ length s → r ≤ length s → places_from s p ≡ places_from s r → p ≡ r
same_place s p r h i e =
    by_test (leb (length s) p)
    (λ d.
    let past : length s ≤ p = leb-true _ _ d in
    by_test (leb (length s) r)
    (λ c. let last : length s ≤ r = leb-true _ _ c in omega arith)
    (λ c. let z = ap length (sym (places_done s p past) ∙ (e ∙ places_next s r (leb-false _ _ c))) in absurd (omega (arith, z))))
    (λ d.
    let here : p < length s = leb-false _ _ d in
    by_test (leb (length s) r)
    (λ c. let z = ap length (sym (places_next s p here) ∙ (e ∙ places_done s r (leb-true _ _ c))) in absurd (omega (arith, z)))
    (λ c. (cons_both (sym (places_next s p here) ∙ (e ∙ places_next s r (leb-false _ _ c)))).0))

module _ (first : ℕ) (s : List ℕ) (k r : ℕ) where
  sought_here : WholeFrom s r → (r < length s → k ≤ order_at first s r) → SoughtAt first s r k r
  unfolding part_at bytes_of concat_map seek lower
  sought_here w h =
      by_test (leb (length s) r)
      (λ d.
      let n = parts_done first s r (leb-true _ _ d) in
      record { rest = rw n refl; skipped = rw (slice_empty r s, n) refl; past = omega arith; from = w })
      (λ d.
      let i : r < length s = leb-false _ _ d in
      let n = parts_next first s r i in
      let x = part_at first s r in
      let l = parts_from first s (field_end s r) in
      record {
        rest = rw n (sym (seek_stop k x l (h i)));
        skipped = rw (slice_empty r s, n) (ap bytes_of (sym (lower_stop k x l (h i))));
        past = omega arith;
        from = w;
      })

  sought_next : (p : ℕ) → p < length s → order_at first s p < k → SoughtAt first s (field_end s p) k r → SoughtAt first s p k r
  unfolding part_at bytes_of concat_map
  sought_next p here j z =
      let n = parts_next first s p here in
      let x = part_at first s p in
      let l = parts_from first s (field_end s p) in
      record {
        rest = z.rest ∙ (sym (seek_skip k x l j) ∙ ap (seek k) (sym n));
        skipped =
            sym (slice_join s p (field_end s p) r (omega (arith, end_past s p)) z.past z.from.inside)
            ∙ (ap (λ (m : List ℕ). piece_at s p ++ m) z.skipped
            ∙ (ap bytes_of (sym (lower_skip k x l j)) ∙ ap (λ (m : List Part). bytes_of (lower k m)) (sym n)));
        past = omega (arith, end_past s p, z.past);
        from = z.from;
      }

  sought_by : (before : List ℕ) (p : ℕ) → WholeFrom s p → r ≤ length s → (r < length s → k ≤ order_at first s r)
      → places_from s p ≡ before ++ places_from s r → all (λ x. ltb (order_at first s x) k) before ≡ true → SoughtAt first s p k r
  sought_by [] p w i h e b = let q = same_place s p r w.inside i e in rw q (sought_here (rw q at w) h)
  sought_by (x ∷ l) p w i h e b =
      by_test (leb (length s) p)
      (λ d. let z = ap length (sym (places_done s p (leb-true _ _ d)) ∙ e) in absurd (omega (arith, z)))
      (λ d.
      let here : p < length s = leb-false _ _ d in
      let f = cons_both (sym (places_next s p here) ∙ e) in
      let v = all_true (λ x. ltb (order_at first s x) k) x l b in
      sought_next p here (ltb-true _ _ (rw (← f.0) at v.0))
      (sought_by l (field_end s p) (whole_next s p w here (field_end s p) refl) i h f.1 v.1))

  pub sought : (p : ℕ) → WholeFrom s p → Skipped first k s p r → SoughtAt first s p k r
  sought p w z = sought_by z.before p w (z.inside w.whole w.inside) z.stops z.are z.below

-- `same_field`: the test of the code and that of the definitions.
same_pointwise : (l m : List ℕ) → pointwise nat_eq l m ≡ same_numbers l m
unfolding same_numbers
same_pointwise [] [] = refl
same_pointwise [] (y ∷ m) = refl
same_pointwise (x ∷ l) [] = refl
same_pointwise (x ∷ l) (y ∷ m) = ap (λ (t : Bool). nat_eq x y && t) (same_pointwise l m)

pub same_pieces : (a b : List ℕ) (p e q d : ℕ) → EndsAt a p e → EndsAt b q d → WholeAt a p → WholeAt b q
    → pointwise nat_eq (take (e - p) (drop p a)) (take (d - q) (drop q b)) ≡ same_numbers (piece_at a p) (piece_at b q)
same_pieces a b p e q d f g u v =
    let i : e ≤ length a = omega (arith, f.is, u.fits) in
    let j : d ≤ length b = omega (arith, g.is, v.fits) in
    rw (← f.is, ← g.is, slice_is a p e (omega (arith, f.past)) i, slice_is b q d (omega (arith, g.past)) j) (same_pointwise _ _)

-- A test that asks for one key, and for more.
module _ (more : Part → Part → Bool) where
  abbrev pub keyed : Part → Part → Bool
  keyed x y = eqb x.key y.key && more x y

  pub keyed_not : (x : Part) (l : List Part) → leads same_key x l ≡ false → leads keyed x l ≡ false
  unfolding same_key
  keyed_not x [] h = refl
  keyed_not x (y ∷ l) h = rw h

  pub keyed_more : (x y : Part) (l : List Part) → leads same_key x (y ∷ l) ≡ true → leads keyed x (y ∷ l) ≡ more x y
  unfolding same_key
  keyed_more x y l h = rw h

-- `meets`, and the tests that ask for it: the fields at p and q
module _ (first : ℕ) (a : List ℕ) (p : ℕ) (b : List ℕ) (q : ℕ) where
  pub meets_end : length b ≤ q → false ≡ leads same_key (part_at first a p) (parts_from first b q)
  meets_end h = rw (parts_done first b q h)

  pub meets_key : q < length b → eqb (order_at first a p) (order_at first b q) ≡ leads same_key (part_at first a p) (parts_from first b q)
  unfolding same_key part_at
  meets_key h = rw (parts_next first b q h)

  pub no_stand : false ≡ leads same_key (part_at first a p) (parts_from first b q) → false ≡ leads same_part (part_at first a p) (parts_from first b q)
  unfolding same_part
  no_stand h = sym (keyed_not (λ x y. same_numbers x.bytes y.bytes) _ _ (sym h))

  module _ (met : true ≡ leads same_key (part_at first a p) (parts_from first b q)) where
    pub met_there : q < length b
    met_there =
        by_test (leb (length b) q)
        (λ d. not_both (sym met) (sym (meets_end (leb-true _ _ d))))
        (λ d. leb-false _ _ d)

    next_met : leads same_key (part_at first a p) (part_at first b q ∷ parts_from first b (field_end b q)) ≡ true
    next_met = sym (met ∙ ap (leads same_key (part_at first a p)) (parts_next first b q met_there))

    pub met_keys : order_at first a p ≡ order_at first b q
    unfolding same_key part_at
    met_keys = eqb-true _ _ next_met

    -- what more the test asks, it asks of the two fields
    pub met_more : (more : Part → Part → Bool) → more (part_at first a p) (part_at first b q) ≡ leads (keyed more) (part_at first a p) (parts_from first b q)
    met_more more =
        sym (ap (leads (keyed more) (part_at first a p)) (parts_next first b q met_there)
        ∙ keyed_more more (part_at first a p) (part_at first b q) (parts_from first b (field_end b q)) next_met)

    pub met_stands : same_numbers (piece_at a p) (piece_at b q) ≡ leads same_part (part_at first a p) (parts_from first b q)
    unfolding same_part part_at
    met_stands = met_more (λ x y. same_numbers x.bytes y.bytes)

  -- what a clash is, by the keys of the fields
  module _ (j k : ℕ) (ej : j ≡ order_at first a p) (ek : k ≡ order_at first b q) where
    pub clash_other : (j ≡ k → ⊥) → false ≡ parts_clash (part_at first a p) (part_at first b q)
    unfolding parts_clash part_at
    clash_other d = cc (ne_eqb j k d)

    pub clash_same : j ≡ k → (x : Bool) → x ≡ same_numbers (piece_at a p) (piece_at b q) → not x ≡ parts_clash (part_at first a p) (part_at first b q)
    unfolding parts_clash part_at
    clash_same d x e = cc (eq-eqb j k d)
