-- The table of classes tells whether a language clashes with another, or with itself.
use Prim.Native.Nat.{ℕ, ◌+◌, ◌<◌}
use mathlib.Core.Path.{◌≡◌, refl, sym, ap, ◌∙◌}
use mathlib.Core.Logic.{⊎_elim}
use mathlib.Core.Bool.{Bool, true, false, ◌&&◌, ◌||◌}
use mathlib.Core.List.{List, [], ◌∷◌, map}
use lib.ListN.{length, get_or, replicate, length-set, length-replicate, get_or-replicate}
use lib.Seq.{get_or-set_same, get_or-set_other}
use lib.Dec.{eqb}
use borrow.Author.Tests.{eqb-true, eqb-false}
use Rattle.format_fields.specs.Lists.{any}
use Rattle.format_fields.specs.Inner.Places.{places}
use Rattle.format_fields.proofs.Truth.{by_test}
use Rattle.format_fields.proofs.Lists.{any_map, any_same, any_none, any_swap}
use Rattle.format_language.specs.Language.{Range, Entry, class, production, Language, result_is, class_is_result, clashes}
use Rattle.format_language.specs.Inner.Entries.{entry_whole, entry_at, Holds, IsClass, IsProduction, mark_class, mark_classes, class_kinds, result_marked, results_meet, result_is_class}
use Rattle.format_language.proofs.Facts.{entry_facts, class_is, production_is}

-- An entry is the class of the result of another.
abbrev pair : Entry → Entry → Bool
pair (class k c) b = result_is k b
pair (production r n arguments) b = false

pair_any : (m : Language) (a : Entry) → class_is_result m a ≡ any (pair a) m
unfolding class_is_result
pair_any m (class k c) = refl
pair_any m (production r n arguments) = sym (any_none m)

pair_class : (a : Entry) (k : ℕ) (c : Range) → pair a (class k c) ≡ false
unfolding result_is
pair_class (class j d) k c = refl
pair_class (production r n arguments) k c = refl

-- The class of kind k stands at p.
abbrev class_here : List ℕ → ℕ → ℕ → Bool
class_here s k p = eqb (get_or s p 0) 0x11 && eqb k (get_or s (p + 3) 0)

pair_here : (s : List ℕ) (k n : ℕ) (arguments : List ℕ) (p : ℕ) → pair (entry_at s p) (production k n arguments) ≡ class_here s k p
unfolding entry_at result_is
pair_here s k n arguments p = by_test (eqb (get_or s p 0) 0x11) (λ e. cc) (λ e. cc)

-- What is marked: the classes at the places, and what was marked before.
mark_step : (s : List ℕ) (kinds : List Bool) (k p : ℕ) → k < length kinds
    → get_or (mark_class s kinds p) k false ≡ class_here s k p || get_or kinds k false
unfolding mark_class
mark_step s kinds k p h =
    by_test (eqb (get_or s p 0) 0x11)
    (λ e. by_test (eqb k (get_or s (p + 3) 0))
    (λ d. let i : k ≡ get_or s (p + 3) 0 = eqb-true _ _ d in cc (get_or-set_same kinds k true false h))
    (λ d. cc (get_or-set_other kinds (get_or s (p + 3) 0) k true false (eqb-false _ _ d))))
    (λ e. cc)

mark_length : (s : List ℕ) (kinds : List Bool) (p : ℕ) → length (mark_class s kinds p) ≡ length kinds
unfolding mark_class
mark_length s kinds p = by_test (eqb (get_or s p 0) 0x11) (λ e. cc (length-set kinds (get_or s (p + 3) 0) true)) (λ e. cc)

or_move : (a b c : Bool) → (a || b) || c ≡ b || (a || c)
or_move true true c = refl
or_move true false c = refl
or_move false b c = refl

marked : (s : List ℕ) (k : ℕ) (kinds : List Bool) (l : List ℕ) → k < length kinds
    → get_or (mark_classes s kinds l) k false ≡ get_or kinds k false || any (class_here s k) l
unfolding mark_classes any
marked s k kinds [] h = sym (or_false _)
  where
    or_false : (a : Bool) → a || false ≡ a
    or_false true = refl
    or_false false = refl
marked s k kinds (p ∷ l) h =
    marked s k (mark_class s kinds p) l (rw (mark_length s kinds p) h)
    ∙ (ap (λ (b : Bool). b || any (class_here s k) l) (mark_step s kinds k p h)
    ∙ or_move (class_here s k p) (get_or kinds k false) (any (class_here s k) l))

table : (s : List ℕ) (k : ℕ) → k < 32 → get_or (class_kinds s) k false ≡ any (class_here s k) (places s)
unfolding class_kinds
table s k h =
    marked s k (replicate 32 false) (places s) (rw (length-replicate {A = Bool} 32 false) h)
    ∙ ap (λ (b : Bool). b || any (class_here s k) (places s)) (get_or-replicate {A = Bool} 32 k false false h)

-- At a whole entry of t, its result is marked if it is a class of s.
module _ (s t : List ℕ) (p : ℕ) where
  at_class : IsClass t p → any (λ q. pair (entry_at s q) (entry_at t p)) (places s) ≡ result_marked t (class_kinds s) p
  unfolding result_marked
  at_class h = simp (class_is t p h, pair_class, h.tag) (any_none (places s))

  at_production : IsProduction t p → any (λ q. pair (entry_at s q) (entry_at t p)) (places s) ≡ result_marked t (class_kinds s) p
  unfolding result_marked
  at_production h = simp (production_is t p h, pair_here s, h.tag) (sym (table s (get_or t (p + 3) 0) h.kind))

  at_entry : entry_whole t p ≡ true → any (λ q. pair (entry_at s q) (entry_at t p)) (places s) ≡ result_marked t (class_kinds s) p
  at_entry h = ⊎_elim at_class at_production (entry_facts t p h)

-- A class of a file of entries l is a result of a file of entries m if l clashes with m.
clash_at_lem : (s t : List ℕ) → clashes (map (entry_at s) (places s)) (map (entry_at t) (places t))
    ≡ any (λ p. any (λ q. pair (entry_at s q) (entry_at t p)) (places s)) (places t)
unfolding clashes
clash_at_lem s t = simp (any_map, pair_any) (any_swap (λ q p. pair (entry_at s q) (entry_at t p)) (places s) (places t))

pub meet_is : (s t : List ℕ) (l m : Language) → Holds s l → Holds t m → results_meet s t ≡ clashes l m
unfolding results_meet
meet_is s t l m h k =
    rw (← h.entries, ← k.entries)
    (sym (clash_at_lem s t ∙ any_same (entry_whole t) _ (result_marked t (class_kinds s)) (at_entry s t) (places t) k.whole))

-- A file of entries l has a result that is a class if l clashes with itself.
pub clash_is : (s : List ℕ) (l : Language) → Holds s l → result_is_class s ≡ clashes l l
clash_is s l h = meet_is s s l l h h
