-- The places of the clauses of number 0, put into the table over the index of the target.
use Prim.Native.Nat.{ℕ, ◌+◌, ◌*◌, ◌≤◌, ◌<◌}
use mathlib.Core.Path.{◌≡◌, refl, ◌∙◌}
use mathlib.Core.Logic.{◌⊎◌, inl, inr, ⊎_elim}
use mathlib.Core.Bool.{true, false}
use mathlib.Core.List.{List, ◌∷◌}
use native.Mathlib.Omega.{arith}
use lib.ListN.{length, get_or, set, length-set}
use lib.Seq.{get_or-set_same, get_or-set_other}
use lib.Dec.{eqb, ltb}
use borrow.Author.Tests.{ne_eqb, eqb-true, eqb-false, ltb-true, lt-ltb, le-ltb}
use Rattle.format_fields.specs.Fields.{pair_at}
use Rattle.format_fields.specs.Inner.Places.{field_end, places_from, places}
use Rattle.format_fields.proofs.Truth.{Mem, by_test}
use Rattle.format_fields.proofs.Places.{places_done, places_next}
use Rattle.format_language.specs.Language.{production_key}
use Rattle.tree_reader.specs.Inner.Index.{Around}
use Rattle.run_table.specs.Inner.Table.{is_place}
use Rattle.run_table.specs.Inner.Filling.{with_clause, ItemAt, Itemed}
use Rattle.run_table.proofs.Clauses.{mem_place, place_mem}

-- put_clause
module _ (b : List ℕ) (x : ℕ) (t : List ℕ) where
  pub clause_other : (get_or b x 0 ≡ 0x23 → ⊥) → t ≡ with_clause b x t
  unfolding with_clause
  clause_other h = rw (ne_eqb (get_or b x 0) 0x23 h)

  pub clause_far : (m key : ℕ) → m ≡ pair_at b (x + 3) → key ≡ 32 + m → 8224 ≤ key → t ≡ with_clause b x t
  unfolding with_clause
  clause_far m key em ek h =
      let far : ltb (32 + pair_at b (x + 3)) 8224 ≡ false = le-ltb (32 + pair_at b (x + 3)) 8224 (omega arith) in
      by_test (eqb (get_or b x 0) 0x23) (λ e. rw (e, far)) (λ e. rw e)

  pub clause_put : (m key : ℕ) → get_or b x 0 ≡ 0x23 → m ≡ pair_at b (x + 3) → key ≡ 32 + m → key < 8224 → set t (8224 + key) (x + 1) ≡ with_clause b x t
  unfolding with_clause
  clause_put m key tag em ek h =
      let near : 32 + pair_at b (x + 3) < 8224 = omega arith in
      let n : key ≡ 32 + pair_at b (x + 3) = omega arith in
      rw (tag, lt-ltb (32 + pair_at b (x + 3)) 8224 near, n)

-- What a clause that is put changes.
module _ (b : List ℕ) (x : ℕ) (t : List ℕ) (bytes : (i : ℕ) → get_or b i 0 < 256) (long : length t ≡ 26184) where
  key_is : pair_at b (x + 3) ≡ get_or b (x + 3) 0 * 256 + get_or b (x + 4) 0
  unfolding pair_at
  key_is = let n : x + 3 + 1 ≡ x + 4 = omega arith in rw n

  with_around : Around t (with_clause b x t) 8224 16448
  unfolding with_clause
  with_around =
      by_test (eqb (get_or b x 0) 0x23)
      (λ e. by_test (ltb (32 + pair_at b (x + 3)) 8224)
      (λ h.
      let near : 32 + pair_at b (x + 3) < 8224 = ltb-true _ _ h in
      rw (e, h) (record {
        long = length-set t (8224 + (32 + pair_at b (x + 3))) (x + 1);
        below = λ j i. get_or-set_other t (8224 + (32 + pair_at b (x + 3))) j (x + 1) 0 (λ d. omega arith);
        past = λ j i. get_or-set_other t (8224 + (32 + pair_at b (x + 3))) j (x + 1) 0 (λ d. omega arith);
      }))
      (λ h. rw (e, h) around_same))
      (λ e. rw e around_same)
    where
      around_same : Around t t 8224 16448
      around_same = record { long = refl; below = λ j i. refl; past = λ j i. refl }

  -- The clause itself is found.
  item_here : is_place b x ≡ true → get_or b x 0 ≡ 0x23 → get_or b (x + 3) 0 < 32 → ItemAt b (with_clause b x t) (get_or b (x + 3) 0) (get_or b (x + 4) 0)
  unfolding with_clause
  item_here m tag h =
      let byte = bytes (x + 4) in
      let near : 32 + pair_at b (x + 3) < 8224 = omega (arith, key_is) in
      let key : 32 + pair_at b (x + 3) ≡ production_key (get_or b (x + 3) 0) (get_or b (x + 4) 0) = omega (arith, key_is) in
      record {
        place = x;
        is = rw (tag, lt-ltb (32 + pair_at b (x + 3)) 8224 near, key) (get_or-set_same t (8224 + production_key (get_or b (x + 3) 0) (get_or b (x + 4) 0)) (x + 1) 0 (omega (arith, key)));
        there = m;
        tag = tag;
        kind = refl;
        name = refl;
      }

  -- What was found before is found, or this clause in its place.
  item_kept : is_place b x ≡ true → (k n : ℕ) → n < 256 → ItemAt b t k n → ItemAt b (with_clause b x t) k n
  unfolding with_clause
  item_kept m k n byte w =
      by_test (eqb (get_or b x 0) 0x23)
      (λ e. by_test (ltb (32 + pair_at b (x + 3)) 8224)
      (λ h.
      let near : 32 + pair_at b (x + 3) < 8224 = ltb-true _ _ h in
      by_test (eqb (32 + pair_at b (x + 3)) (production_key k n))
      (λ d.
      let key : 32 + pair_at b (x + 3) ≡ production_key k n = eqb-true _ _ d in
      let four = bytes (x + 4) in
      record {
        place = x;
        is = rw (e, h, key) (get_or-set_same t (8224 + production_key k n) (x + 1) 0 (omega (arith, key)));
        there = m;
        tag = eqb-true _ _ e;
        kind = omega (arith, key, key_is);
        name = omega (arith, key, key_is);
      })
      (λ d.
      let other : 32 + pair_at b (x + 3) ≡ production_key k n → ⊥ = eqb-false _ _ d in
      let o = get_or-set_other t (8224 + (32 + pair_at b (x + 3))) (8224 + production_key k n) (x + 1) 0 (λ q. other (omega arith)) in
      record { place = w.place; is = rw (e, h) (o ∙ w.is); there = w.there; tag = w.tag; kind = w.kind; name = w.name }))
      (λ h. rw (e, h) w))
      (λ e. rw e w)

-- put_clauses: the clauses before p are found.
abbrev Done : List ℕ → List ℕ → ℕ → Type 0
Done b t x = get_or b x 0 ≡ 0x23 → get_or b (x + 3) 0 < 32 → ItemAt b t (get_or b (x + 3) 0) (get_or b (x + 4) 0)

pub record Putting (b t₀ t : List ℕ) (p : ℕ) : Type 0 where
  pub around : Around t₀ t 8224 16448
  pub rest : (x : ℕ) → Mem x (places_from b p) → Mem x (places b)
  pub done : (x : ℕ) → Mem x (places b) → Mem x (places_from b p) ⊎ Done b t x

module _ (b t₀ t u : List ℕ) (p e : ℕ) (bytes : (i : ℕ) → get_or b i 0 < 256) (long : length t ≡ 26184) (h : p < length b) (ee : e ≡ field_end b p) (eu : u ≡ with_clause b p t)
    (w : Putting b t₀ t p) where
  next_places : places_from b p ≡ p ∷ places_from b (field_end b p)
  next_places = places_next b p h

  here : is_place b p ≡ true
  here = mem_place b p (w.rest p (rw next_places (inl refl)))

  done_here : (x : ℕ) → x ≡ p → Done b (with_clause b p t) x
  done_here x d tag kind = rw d (item_here b p t bytes long here (rw d at tag) (rw d at kind))

  done_kept : (x : ℕ) → Done b t x → Done b (with_clause b p t) x
  done_kept x y tag kind = item_kept b p t bytes long here (get_or b (x + 3) 0) (get_or b (x + 4) 0) (bytes (x + 4)) (y tag kind)

  pub putting_next : Putting b t₀ u e
  putting_next =
      let a = with_around b p t bytes long in
      rw eu (record {
        around = record {
          long = a.long ∙ w.around.long;
          below = λ j i. a.below j i ∙ w.around.below j i;
          past = λ j i. a.past j i ∙ w.around.past j i;
        };
        rest = λ x i. w.rest x (rw next_places (inr (rw ee at i)));
        done = λ x i. ⊎_elim
            (λ j. ⊎_elim (λ d. inr (done_here x d)) (λ k. inl (rw ee k)) (rw next_places at j))
            (λ y. inr (done_kept x y))
            (w.done x i);
      })

pub putting_ends : (b t₀ t : List ℕ) (p : ℕ) → length b ≤ p → Putting b t₀ t p → Itemed b t₀ t
putting_ends b t₀ t p h w = record {
  around = w.around;
  items = λ x m tag kind.
      ⊎_elim
      (λ n. absurd (rw (places_done b p h) at n))
      (λ y. y tag kind)
      (w.done x (place_mem b x m));
}
