-- Operands in a row: those that were read, both ends of each, and one more of them.
use Prim.Native.Nat.{ℕ, zero, suc, ◌+◌, ◌<◌, ◌≤◌}
use mathlib.Core.Path.{◌≡◌, refl, sym, ap, ◌∙◌}
use mathlib.Core.Bool.{Bool, true, false, ◌&&◌}
use Rattle.std.proofs.lemmas.List.{ext_get_or, get_or-map, length-map}
use mathlib.Core.List.{List, [], ◌∷◌, ◌++◌, map, append-nil}
use native.Mathlib.Omega.{arith}
use lib.ListN.{length, get_or, set, length-set, replicate, length-replicate, take}
use Rattle.std.proofs.lemmas.List.{length-take}
use lib.Seq.{get_or-set_same, get_or-set_other}
use Rattle.std.proofs.lemmas.List.{get_or-take}
use lib.Dec.{ltb}
use lib.IntN.{ℤ, pos, ◌+ℤ◌, ◌*ℤ◌}
use borrow.Author.Tests.{ltb-true, ltb-false}
use Rattle.format_fields.proofs.Truth.{by_test, and_both}
use Rattle.tree_reader.specs.Syntax.{Read, done, deep, broken, and_then}
use Rattle.score_tree.specs.declared.figures.Ends.{Ends}
use Rattle.score_tree.specs.Inner.Sums.{turned, ends, weighed, Near, AllNear}
use Rattle.score_tree.specs.Inner.Spreads.{Spread, spread, row_sum, row_within, read_row}
use Rattle.score_tree.proofs.Weighing.{zeros_near, store_near}

-- No operand.
abbrev pub nothing : Spread
nothing = spread (pos 0) (pos 0) true

-- One more behind a row.
abbrev pub snoc : List Spread → Spread → List Spread
snoc t a = t ++ (a ∷ [])

pub snoc_behind : (t : List Spread) (a : Spread) (u : List Spread) → t ++ (a ∷ u) ≡ snoc t a ++ u
snoc_behind [] a u = refl
snoc_behind (b ∷ t) a u = ap (λ (r : List Spread). b ∷ r) (snoc_behind t a u)

pub length_snoc : (t : List Spread) (a : Spread) → length (snoc t a) ≡ length t + 1
length_snoc [] a = refl
length_snoc (b ∷ t) a = let h = length_snoc t a in omega arith

snoc_before : (t : List Spread) (a : Spread) (j : ℕ) → j < length t → get_or (snoc t a) j nothing ≡ get_or t j nothing
snoc_before [] a j h = absurd (omega arith)
snoc_before (b ∷ t) a zero h = refl
snoc_before (b ∷ t) a (suc j) h = snoc_before t a j (omega arith)

snoc_last : (t : List Spread) (a : Spread) (j : ℕ) → j ≡ length t → get_or (snoc t a) j nothing ≡ a
snoc_last [] a zero h = refl
snoc_last [] a (suc j) h = absurd (omega arith)
snoc_last (b ∷ t) a zero h = absurd (omega arith)
snoc_last (b ∷ t) a (suc j) h = snoc_last t a j (omega arith)

pub within_snoc : (t : List Spread) (a : Spread) → row_within (snoc t a) ≡ (row_within t && a.within)
unfolding row_within
within_snoc [] a = last a.within
  where
    last : (b : Bool) → (b && true) ≡ b
    last true = refl
    last false = refl
within_snoc (b ∷ t) a = ap (λ (y : Bool). b.within && y) (within_snoc t a) ∙ grouped b.within (row_within t) a.within
  where
    grouped : (x y z : Bool) → (x && (y && z)) ≡ ((x && y) && z)
    grouped true y z = refl
    grouped false y z = refl

-- Both ends of an operand.
abbrev pub ends_in : Spread → Ends
ends_in a = ends a.least a.greatest

-- No ends.
abbrev pub no_ends : Ends
no_ends = ends (pos 0) (pos 0)

-- The ends of the operands that are in the range are kept by their places.
pub record Held (row : List Spread) (t : List Ends) : Type 0 where
  pub long : length t ≡ 8
  pub near : AllNear t
  pub is : (j : ℕ) → j < length row → (get_or row j nothing).within ≡ true → get_or t j no_ends ≡ ends_in (get_or row j nothing)

pub held_none : Held [] (replicate 8 no_ends)
held_none = record {
  long = length-replicate 8 no_ends;
  near = zeros_near 8;
  is = λ j h. absurd (omega arith);
}

module _ {row : List Spread} {t : List Ends} (v : Held row t) (a : Spread) where
  -- An operand with its ends.
  module _ (i : ℕ) (h : i < 8) (n : i ≡ length row) (e : Ends) (ee : e ≡ ends_in a) where
    here : (j : ℕ) → j ≡ i → get_or (set t i e) j no_ends ≡ ends_in (get_or (snoc row a) j nothing)
    here j q =
        let s = snoc_last row a j (q ∙ n) in
        let u : i < length t = omega (arith, v.long) in
        rw (s, q) (get_or-set_same t i e no_ends u ∙ ee)

    before : (j : ℕ) → j < length row → (get_or (snoc row a) j nothing).within ≡ true → get_or (set t i e) j no_ends ≡ ends_in (get_or (snoc row a) j nothing)
    before j b q =
        let s = snoc_before row a j b in
        let ne : j ≡ i → ⊥ = λ x. absurd (omega arith) in
        get_or-set_other t i j e no_ends ne ∙ (v.is j b (ap (λ (r : Spread). r.within) (sym s) ∙ q) ∙ ap ends_in (sym s))

    pub held_next : Near e → Held (snoc row a) (set t i e)
    held_next near = record {
      long = length-set t i e ∙ v.long;
      near = store_near t i e (omega (arith, v.long)) v.near near;
      is = λ j g q. by_test (ltb j (length row))
          (λ x. before j (ltb-true j (length row) x) q)
          (λ x. let m = ltb-false j (length row) x in let z = length_snoc row a in here j (omega arith));
    }

  -- An operand that is out of the range.
  pub held_skip : a.within ≡ false → Held (snoc row a) t
  held_skip o = record {
    long = v.long;
    near = v.near;
    is = λ j g q. by_test (ltb j (length row))
        (λ e.
        let b = ltb-true j (length row) e in
        let s = snoc_before row a j b in
        v.is j b (ap (λ (r : Spread). r.within) (sym s) ∙ q) ∙ ap ends_in (sym s))
        (λ e.
        let m = ltb-false j (length row) e in
        let z = length_snoc row a in
        let s = snoc_last row a j (omega arith) in
        Rattle.format_fields.proofs.Truth.false_true (sym o ∙ (ap (λ (r : Spread). r.within) (sym s) ∙ q)));
  }

-- The sum of a row at an end, by the ends that are kept and as many factors.
pub weighed_row : (same other : Ends → ℤ) (row : List Spread) (fs : List ℤ) (factor : ℕ → ℤ) → length fs ≡ length row → ((j : ℕ) → j < length row → get_or fs j (pos 0) ≡ factor j)
    → weighed same other fs (map ends_in row) ≡ row_sum (λ a. same (ends_in a)) (λ a. other (ends_in a)) factor row
unfolding weighed row_sum
weighed_row same other [] [] factor n f = refl
weighed_row same other [] (g ∷ fs) factor n f = absurd (omega arith)
weighed_row same other (a ∷ row) [] factor n f = absurd (omega arith)
weighed_row same other (a ∷ row) (g ∷ fs) factor n f =
    let first : g ≡ factor 0 = f 0 (omega arith) in
    let rest = weighed_row same other row fs (λ j. factor (suc j)) (omega arith) (λ j h. f (suc j) (omega arith)) in
    λ k. first k *ℤ turned (first k) (same (ends_in a)) (other (ends_in a)) +ℤ rest k

-- Each operand of a row that is within is so.
pub each_within : (row : List Spread) → row_within row ≡ true → (j : ℕ) → j < length row → (get_or row j nothing).within ≡ true
unfolding row_within
each_within [] h j g = absurd (omega arith)
each_within (a ∷ row) h zero g = (and_both a.within (row_within row) h).0
each_within (a ∷ row) h (suc j) g = each_within row (and_both a.within (row_within row) h).1 j (omega arith)

-- The ends that are kept for a row that is within.
pub row_kept : (row : List Spread) (t : List Ends) → Held row t → length row ≤ 8 → row_within row ≡ true → take (length row) t ≡ map ends_in row
row_kept row t v few w =
    let long : length (take (length row) t) ≡ length row = omega (arith, v.long, length-take {A = Ends}) in
    ext_get_or no_ends (take (length row) t) (map ends_in row) (long ∙ sym (length-map row ends_in))
    (λ i h.
    let g : i < length row = omega arith in
    get_or-take (length row) t i no_ends g ∙ (v.is i g (each_within row w i g) ∙ sym (get_or-map ends_in row i nothing no_ends g)))

-- Reading operands behind those that were read.
then_snoc : (row : List Spread) (a : Spread) (o : Read (List Spread))
    → (and_then (and_then o λ t u. done (a ∷ t) u) λ t u. done (row ++ t) u) ≡ (and_then o λ t u. done (snoc row a ++ t) u)
then_snoc row a (done t u) = ap (λ (x : List Spread). done x u) (snoc_behind row a t)
then_snoc row a deep = refl
then_snoc row a broken = refl

module _ (reads : ℕ → List ℕ → Read Spread) (row : List Spread) (k : ℕ) (ks s : List ℕ) where
  abbrev behind : List ℕ → List ℕ → Read (List Spread)
  behind kinds u = and_then (read_row reads kinds u) λ t r. done (row ++ t) r

  pub behind_done : (a : Spread) (u : List ℕ) → reads k s ≡ done a u → behind (k ∷ ks) s ≡ (and_then (read_row reads ks u) λ t r. done (snoc row a ++ t) r)
  unfolding read_row
  behind_done a u e = rw e (then_snoc row a (read_row reads ks u))

  pub behind_deep : reads k s ≡ deep → behind (k ∷ ks) s ≡ deep
  unfolding read_row
  behind_deep e = rw e refl

  pub behind_broken : reads k s ≡ broken → behind (k ∷ ks) s ≡ broken
  unfolding read_row
  behind_broken e = rw e refl

pub behind_none : (reads : ℕ → List ℕ → Read Spread) (row : List Spread) (s : List ℕ) → (and_then (read_row reads [] s) λ t r. done (row ++ t) r) ≡ done row s
unfolding read_row
behind_none reads row s = ap (λ (x : List Spread). done x s) (append-nil row)

pub behind_first : (o : Read (List Spread)) → o ≡ (and_then o λ t r. done ([] ++ t) r)
behind_first (done t u) = refl
behind_first deep = refl
behind_first broken = refl
