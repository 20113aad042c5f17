-- Whether two files agree, by their places: a law for each return and turn of `agree` and `languages_fit`.
use Prim.Native.Nat.{ℕ, suc, ◌<◌, ◌≤◌}
use mathlib.Core.Path.{◌≡◌, refl, sym, ap, ◌∙◌}
use mathlib.Core.Bool.{Bool, true, false, not, ◌&&◌, ◌||◌}
use mathlib.Core.List.{List, [], ◌∷◌}
use native.Mathlib.Omega.{arith}
use lib.ListN.{length}
use lib.Dec.{eqb}
use borrow.Author.Tests.{ne_eqb}
use Rattle.format_fields.specs.Lists.{all, same_numbers}
use Rattle.format_fields.specs.Keyed.{agree, rising}
use Rattle.format_fields.specs.Inner.Places.{field_end, is_whole, places, order_at}
use Rattle.format_fields.proofs.Truth.{and_both, all_mem, mem_all}
use Rattle.format_fields.proofs.Lists.{rising_map}
use Rattle.format_fields.proofs.Keyed.{From, from_mem}
use Rattle.format_language.specs.Inner.Entries.{entry_good, entry_whole, RisingEntries, results_meet}
use Rattle.format_language.proofs.Facts.{entries_long}
use Rattle.reduce_merge.specs.Inner.Parts.{Part, part_key, same_part, piece_at, part_at, parts_from, Sorted, parts_clash, agrees, fit_together}
use Rattle.reduce_merge.proofs.Walks.{parts_done, parts_next, clash_other, clash_same}
use Rattle.reduce_merge.proofs.Linear.{all_alike}
use Rattle.reduce_merge.proofs.Turns.{Rest, rest_next, here_rises}

-- No clash: other keys, or the same field.
no_clash : (k s : Bool) → not k || (k && s) ≡ not (k && not s)
no_clash true true = refl
no_clash true false = refl
no_clash false s = refl

fit_is : (x y : Part) → not (eqb x.key y.key) || same_part x y ≡ not (parts_clash x y)
unfolding same_part parts_clash
fit_is x y = no_clash (eqb x.key y.key) (same_numbers x.bytes y.bytes)

-- Fields of other keys do not clash.
apart : (x y : Part) → (x.key ≡ y.key → ⊥) → not (eqb x.key y.key) || same_part x y ≡ true
apart x y h = rw (ne_eqb x.key y.key h)

-- Agreement of two rising lists, a turn at a time, where x is the first of the one and y of the other.
agree_none : (m : List Part) → agree part_key same_part [] m ≡ true
unfolding agree all
agree_none m = refl

pub agree_drop : (x : Part) (l m : List Part) → From part_key (suc x.key) m → agree part_key same_part (x ∷ l) m ≡ agree part_key same_part l m
unfolding agree all
agree_drop x l m g =
    let none : all (λ (b : Part). not (eqb x.key b.key) || same_part x b) m ≡ true =
    mem_all _ m (λ b q. apart x b (λ e. omega (arith, from_mem part_key m g q))) in
    rw none

module _ (x y : Part) (l m : List Part) where
  agree_meet : parts_clash x y ≡ true → agree part_key same_part (x ∷ l) (y ∷ m) ≡ false
  unfolding agree all
  agree_meet h = rw (fit_is x y, h)

  pub agree_pass : From part_key (suc x.key) l → y.key ≤ x.key → parts_clash x y ≡ false
      → agree part_key same_part (x ∷ l) (y ∷ m) ≡ agree part_key same_part (x ∷ l) m
  unfolding agree all
  agree_pass f k h =
      let more : all (λ (a : Part). (not (eqb a.key y.key) || same_part a y) && all (λ (b : Part). not (eqb a.key b.key) || same_part a b) m) l
      ≡ all (λ (a : Part). all (λ (b : Part). not (eqb a.key b.key) || same_part a b) m) l =
      all_alike _ _ l (λ a q.
      ap (λ (t : Bool). t && all (λ (b : Part). not (eqb a.key b.key) || same_part a b) m)
      (apart a y (λ e. omega (arith, from_mem part_key l f q)))) in
      rw (fit_is x y, h, more)

-- `agree`: what is left of a and b agrees exactly if all of them does.
pub record Agreeing (first : ℕ) (a b : List ℕ) (p q : ℕ) : Type 0 where
  pub left : Rest first a p
  pub right : Rest first b q
  pub answer : agree part_key same_part (parts_from first a p) (parts_from first b q) ≡ agrees first a b

module _ (first : ℕ) (a b : List ℕ) (p q : ℕ) (h : Agreeing first a b p q) where
  -- at the end of a
  pub agree_end : length a ≤ p → true ≡ agrees first a b
  agree_end d =
      sym (ap (λ (l : List Part). agree part_key same_part l (parts_from first b q)) (parts_done first a p d) ∙ agree_none (parts_from first b q))
      ∙ h.answer

  module _ (there : p < length a) where
    -- past a field of a, where all fields that are left of b are above it
    drop_left : From part_key (suc (order_at first a p)) (parts_from first b q) → (e : ℕ) → e ≡ field_end a p → Agreeing first a b e q
    unfolding part_at
    drop_left g e ee = record {
      left = rest_next first a p h.left there e ee;
      right = h.right;
      answer =
          ap (λ (n : ℕ). agree part_key same_part (parts_from first a n) (parts_from first b q)) ee
          ∙ (sym (ap (λ (l : List Part). agree part_key same_part l (parts_from first b q)) (parts_next first a p there)
          ∙ agree_drop (part_at first a p) (parts_from first a (field_end a p)) (parts_from first b q) g)
          ∙ h.answer);
    }

    -- nothing is left of b
    pub agree_out : length b ≤ q → (e : ℕ) → e ≡ field_end a p → Agreeing first a b e q
    agree_out d = drop_left (rw (parts_done first b q d) tt)

    module _ (here : q < length b) where
      heads : agree part_key same_part (part_at first a p ∷ parts_from first a (field_end a p)) (part_at first b q ∷ parts_from first b (field_end b q)) ≡ agrees first a b
      heads = rw (← parts_next first a p there, ← parts_next first b q here) h.answer

      module _ (j k : ℕ) (ej : j ≡ order_at first a p) (ek : k ≡ order_at first b q) where
        -- the field of a is below those that are left of b
        pub agree_below : j < k → (e : ℕ) → e ≡ field_end a p → Agreeing first a b e q
        unfolding part_at
        agree_below d =
            let g : suc (order_at first a p) ≤ order_at first b q = omega arith in
            drop_left (rw (parts_next first b q here) (g, here_rises first b q h.right here))

        -- past a field of b, that is below those that are left of a or the same as the first of them
        pass : k ≤ j → parts_clash (part_at first a p) (part_at first b q) ≡ false → (e : ℕ) → e ≡ field_end b q → Agreeing first a b p e
        unfolding part_at
        pass d c e ee =
            let g : order_at first b q ≤ order_at first a p = omega arith in
            let x = part_at first a p in
            let l = parts_from first a (field_end a p) in
            record {
              left = h.left;
              right = rest_next first b q h.right here e ee;
              answer =
                  ap (λ (n : ℕ). agree part_key same_part (parts_from first a p) (parts_from first b n)) ee
                  ∙ (ap (λ (n : List Part). agree part_key same_part n (parts_from first b (field_end b q))) (parts_next first a p there)
                  ∙ (sym (agree_pass x (part_at first b q) l (parts_from first b (field_end b q)) (here_rises first a p h.left there) g c) ∙ heads));
            }

        -- the field of b is below those that are left of a
        pub agree_above : k ≤ j → (j ≡ k → ⊥) → (e : ℕ) → e ≡ field_end b q → Agreeing first a b p e
        agree_above d n = pass d (sym (clash_other first a p b q j k ej ek n))

        -- the fields have one key, and x says whether they are the same
        module _ (one : j ≡ k) (x : Bool) (ex : x ≡ same_numbers (piece_at a p) (piece_at b q)) where
          clash_is : not x ≡ parts_clash (part_at first a p) (part_at first b q)
          clash_is = clash_same first a p b q j k ej ek one x ex

          pub agree_clash : x ≡ false → false ≡ agrees first a b
          agree_clash d = sym (agree_meet (part_at first a p) (part_at first b q) _ _ (sym clash_is ∙ ap not d)) ∙ heads

          pub agree_same : x ≡ true → (e : ℕ) → e ≡ field_end b q → Agreeing first a b p e
          agree_same d = pass (omega arith) (sym clash_is ∙ ap not d)

-- Whole entries whose keys rise are sorted fields.
pub entries_sorted : (s : List ℕ) → RisingEntries s → Sorted 0x11 s
unfolding rising parts_from part_at entry_whole order_at
entries_sorted s h = record {
  long = entries_long s h.whole;
  whole = mem_all (is_whole s) (places s) (λ p m. (and_both (is_whole s p) (entry_good s p) (all_mem (entry_whole s) (places s) h.whole p m)).0);
  rises = rising_map part_key (part_at 0x11 s) (order_at 0x11 s) (λ p. refl) 0 (places s) ∙ h.rises;
}

-- `languages_fit`: x says whether a class of one is a result of the other
module _ (a b : List ℕ) (x : Bool) (ex : x ≡ (results_meet a b || results_meet b a)) where
  clashing : fit_together a b ≡ (not x && agrees 0x11 a b)
  unfolding fit_together
  clashing = rw ex (by_or (results_meet a b) (results_meet b a) (agrees 0x11 a b))
    where
      by_or : (p q r : Bool) → (not p && (not q && r)) ≡ (not (p || q) && r)
      by_or true q r = refl
      by_or false q r = refl

  pub fit_clash : x ≡ true → false ≡ fit_together a b
  fit_clash h = sym (clashing ∙ rw h)

  pub fit_agree : x ≡ false → (z : Bool) → z ≡ agrees 0x11 a b → z ≡ fit_together a b
  fit_agree h z ez = ez ∙ sym (clashing ∙ rw h)
