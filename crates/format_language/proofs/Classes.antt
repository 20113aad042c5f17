-- Files of whole entries whose keys rise: a law for each return, and for each turn of a loop, of the functions on clashes.
use Prim.Native.Nat.{ℕ, suc, ◌+◌, ◌<◌, ◌≤◌}
use mathlib.Core.Path.{◌≡◌, refl, sym, ap, ◌∙◌}
use mathlib.Core.Bool.{Bool, true, false, ◌&&◌, ◌||◌}
use mathlib.Core.List.{List, [], ◌∷◌}
use native.Mathlib.Omega.{arith}
use lib.ListN.{length, get_or, set, replicate, length-replicate, get_or-replicate, get_or-eq_default}
use lib.Dec.{ltb, eqb}
use borrow.Author.Tests.{eq-eqb, ne_eqb, eqb-true, ltb-true, ltb-false}
use Rattle.format_fields.specs.Fields.{byte_at, pair_at}
use Rattle.format_fields.specs.Lists.{all, any}
use Rattle.format_fields.specs.Keyed.{rising}
use Rattle.format_fields.specs.Inner.Places.{field_end, places_from, places, key_at, tag_is}
use Rattle.format_fields.proofs.Truth.{by_test, all_mem, mem_all, false_any}
use Rattle.format_fields.proofs.Lists.{all_true}
use Rattle.format_fields.proofs.Keyed.{From, from_rising, from_mem}
use Rattle.format_fields.proofs.Places.{places_done, places_next, pass_done, pass_next, some_next}
use Rattle.format_language.specs.Inner.Entries.{entry_whole, mark_class, mark_classes, result_marked, class_kinds, results_meet, result_is_class, Classed}
use Rattle.format_language.proofs.Facts.{production_here}

-- mark_classes: from p on the keys rise
abbrev pub RisesFrom : List ℕ → ℕ → Type 0
RisesFrom s p = (n : ℕ) × From (key_at 0x11 s) n (places_from s p)

pub rises_start : (s : List ℕ) → rising (key_at 0x11 s) (places s) ≡ true → RisesFrom s 0
unfolding rising
rises_start s h = (0, from_rising (key_at 0x11 s) 0 (places s) h)

rises_here : (s : List ℕ) (p : ℕ) → RisesFrom s p → p < length s → From (key_at 0x11 s) (suc (key_at 0x11 s p)) (places_from s (field_end s p))
rises_here s p r here = (rw (places_next s p here) at r.1).1

pub rises_next : (s : List ℕ) (p : ℕ) → RisesFrom s p → p < length s → (e : ℕ) → e ≡ field_end s p → RisesFrom s e
rises_next s p r here e ee = rw ee (suc (key_at 0x11 s p), rises_here s p r here)

class_mark : (s : List ℕ) (kinds : List Bool) (p k : ℕ) → get_or s p 0 ≡ 0x11 → k ≡ get_or s (p + 3) 0 → set kinds k true ≡ mark_class s kinds p
unfolding mark_class
class_mark s kinds p k t e = cc (eq-eqb (get_or s p 0) 0x11 t)

-- Productions mark nothing.
unmarked : (s : List ℕ) (kinds : List Bool) (l : List ℕ) → all (tag_is 0x12 s) l ≡ true → mark_classes s kinds l ≡ kinds
unfolding mark_classes mark_class
unmarked s kinds [] h = refl
unmarked s kinds (p ∷ l) h =
    let w = all_true (tag_is 0x12 s) p l h in
    let n : get_or s p 0 ≡ 0x11 → ⊥ = λ y. omega (arith, y, eqb-true (get_or s p 0) 0x12 w.0) in
    rw (ne_eqb (get_or s p 0) 0x11 n) (unmarked s kinds l w.1)

-- After a production there are only productions.
only_productions : (s : List ℕ) (p : ℕ) → all (entry_whole s) (places_from s p) ≡ true → p < length s → (get_or s p 0 ≡ 0x11 → ⊥) → RisesFrom s p
    → all (tag_is 0x12 s) (places_from s p) ≡ true
unfolding key_at
only_productions s p whole here h r =
    let k : ℕ = key_at 0x11 s p in
    let e : k ≡ 32 + pair_at s (p + 3) = cc (ne_eqb (get_or s p 0) 0x11 h) in
    let l : List ℕ = places_from s (field_end s p) in
    let f : From (key_at 0x11 s) k (p ∷ l) = (omega arith, rises_here s p r here) in
    mem_all (tag_is 0x12 s) (places_from s p) (λ x m.
    let n : k ≤ key_at 0x11 s x = from_mem (key_at 0x11 s) {n = k} {a = x} (p ∷ l) f (rw (places_next s p here) at m) in
    eq-eqb _ _ (production_here s x (all_mem (entry_whole s) (places_from s p) whole x m) (omega arith)).tag)

module _ (s : List ℕ) (start kinds : List Bool) (p : ℕ) (inv : mark_classes s kinds (places_from s p) ≡ mark_classes s start (places s))
    (results : (table : List Bool) → any (result_marked s table) (places_from s p) ≡ any (result_marked s table) (places s))
    (whole : all (entry_whole s) (places_from s p) ≡ true) where
  pub classed_done : length s ≤ p → Classed s start kinds p
  unfolding all mark_classes
  classed_done h = record {
    marks = pass_done (mark_classes s kinds) s p (mark_classes s start (places s)) inv h;
    results = results;
    whole = whole;
    productions = rw (places_done s p h) refl;
  }

  pub classed_here : p < length s → (get_or s p 0 ≡ 0x11 → ⊥) → RisesFrom s p → Classed s start kinds p
  classed_here here h r =
      let t = only_productions s p whole here h r in
      record { marks = sym (unmarked s kinds (places_from s p) t) ∙ inv; results = results; whole = whole; productions = t }

  module _ (here : p < length s) (tag : get_or s p 0 ≡ 0x11) (e : ℕ) (ee : e ≡ field_end s p) where
    pub classes_next : (k : ℕ) → k ≡ get_or s (p + 3) 0 → mark_classes s (set kinds k true) (places_from s e) ≡ mark_classes s start (places s)
    unfolding mark_classes
    classes_next k ek =
        ap (λ (t : List Bool). mark_classes s t (places_from s e)) (class_mark s kinds p k tag ek)
        ∙ pass_next (mark_classes s kinds) s p (mark_classes s start (places s)) inv e here ee

    pub results_next : (table : List Bool) → any (result_marked s table) (places_from s e) ≡ any (result_marked s table) (places s)
    unfolding result_marked
    results_next table =
        let n : get_or s p 0 ≡ 0x12 → ⊥ = λ y. omega (arith, y, tag) in
        let f : false ≡ result_marked s table p = rw (ne_eqb (get_or s p 0) 0x12 n) in
        some_next (result_marked s table) s p (any (result_marked s table) (places s)) (results table) false f e ee here refl

-- results_marked
pub result_is_lem : (s : List ℕ) (kinds : List Bool) (p k : ℕ) → tag_is 0x12 s p ≡ true → k ≡ get_or s (p + 3) 0 → get_or kinds k false ≡ result_marked s kinds p
unfolding result_marked
result_is_lem s kinds p k t e = rw (t, e)

-- result_is_class
pub classed_is : (s : List ℕ) (marked : List Bool) (p : ℕ) → Classed s (replicate 32 false) marked p
    → (x : Bool) → x ≡ any (result_marked s marked) (places_from s p) → x ≡ result_is_class s
unfolding results_meet class_kinds
classed_is s marked p z x ex = ex ∙ (z.results marked ∙ ap (λ (t : List Bool). any (result_marked s t) (places s)) z.marks)

-- In a table where nothing is marked, no result is.
blank : (i : ℕ) → get_or (replicate 32 false) i false ≡ false
blank i =
    by_test (ltb i 32)
    (λ t. get_or-replicate {A = Bool} 32 i false false (ltb-true _ _ t))
    (λ t. get_or-eq_default {A = Bool} (replicate 32 false) false {n = i} (rw (length-replicate {A = Bool} 32 false) (ltb-false _ _ t)))

and_false : (b : Bool) → b && false ≡ false
and_false true = refl
and_false false = refl

blank_results : (t : List ℕ) (l : List ℕ) → any (result_marked t (replicate 32 false)) l ≡ false
unfolding result_marked
blank_results t l = false_any _ l (λ p q. ap (λ (b : Bool). eqb (byte_at t p) 0x12 && b) (blank (byte_at t (p + 3))) ∙ and_false (eqb (byte_at t p) 0x12))

-- clash_between: the classes of s stand before p, and those of t before q
module _ (s t : List ℕ) (marked other : List Bool) (p q : ℕ) (z : Classed s (replicate 32 false) marked p) (y : Classed t (replicate 32 false) other q) where
  -- where there are no classes none is a result
  pub no_classes : p ≡ 0 → false ≡ results_meet s t
  unfolding results_meet class_kinds
  no_classes h =
      let m = unmarked s (replicate 32 false) (places s) (rw h at z.productions) in
      sym (ap (λ (k : List Bool). any (result_marked t k) (places t)) m ∙ blank_results t (places t))

  pub meet_marked : (x : Bool) → x ≡ any (result_marked t marked) (places_from t q) → x ≡ results_meet s t
  unfolding results_meet class_kinds
  meet_marked x ex = ex ∙ (y.results marked ∙ ap (λ (k : List Bool). any (result_marked t k) (places t)) z.marks)

  pub clash_left : (x : Bool) → x ≡ any (result_marked t marked) (places_from t q) → x ≡ true → true ≡ (results_meet s t || results_meet t s)
  clash_left x ex h = rw (← meet_marked x ex, h)

  -- no class of s is a result of t: none of t is one of s, or the results of s decide
  pub clash_right : false ≡ results_meet s t → (x : Bool) → x ≡ results_meet t s → x ≡ (results_meet s t || results_meet t s)
  clash_right h x ex = rw (← h) ex
