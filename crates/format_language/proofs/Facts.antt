-- What is known of a whole entry: which of the two it is, its key, and the entry itself.
use Prim.Native.Nat.{ℕ, ◌+◌, ◌<◌, ◌≤◌}
use mathlib.Core.Path.{◌≡◌}
use mathlib.Core.Logic.{◌⊎◌, inl, inr, ⊎_elim}
use mathlib.Core.Bool.{true, ◌||◌}
use mathlib.Core.List.{List}
use native.Mathlib.Omega.{arith}
use lib.ListN.{length, get_or}
use lib.Seq.{slice}
use lib.Dec.{eqb}
use borrow.Author.Tests.{eq-eqb, lt-ltb, leb-true, ltb-true, eqb-true}
use Rattle.format_fields.specs.Lists.{all}
use Rattle.format_fields.specs.Fields.{pair_at}
use Rattle.format_fields.specs.Inner.Places.{field_end, is_whole, long_at, places, key_at}
use Rattle.format_fields.proofs.Truth.{by_test, false_true, and_both, or_cases, all_mem, mem_all}
use Rattle.format_language.specs.Language.{class, production, entry_key}
use Rattle.format_language.specs.Inner.Entries.{size_at, step_at, class_range, step_whole, class_whole, production_whole, entry_good, entry_whole, entry_at, IsClass, IsProduction}
use Rattle.format_language.proofs.Ranges.{class_long}

module _ (s : List ℕ) (p : ℕ) where
  class_facts : is_whole s p ≡ true → get_or s p 0 ≡ 0x11 → class_whole s p ≡ true → IsClass s p
  unfolding is_whole class_whole step_whole
  class_facts w t h =
      let a = and_both (step_whole s p) _ h in
      let b = and_both _ _ a.1 in
      let d = and_both (eqb (size_at s p) 5 || eqb (size_at s p) 7) _ a.0 in
      record {
        tag = t;
        fits = leb-true _ _ w;
        size = ⊎_elim (λ e. inl (eqb-true _ _ e)) (λ e. inr (eqb-true _ _ e)) (or_cases (eqb (size_at s p) 5) (eqb (size_at s p) 7) d.0);
        kind = ltb-true _ _ b.0;
        range = leb-true _ _ b.1;
        step = ltb-true 0 (step_at s p) d.1;
      }

  production_facts : is_whole s p ≡ true → get_or s p 0 ≡ 0x12 → production_whole s p ≡ true → IsProduction s p
  unfolding is_whole production_whole
  production_facts w t h =
      let a = and_both _ _ h in
      let b = and_both _ _ a.1 in
      let d = and_both _ _ b.1 in
      record {
        tag = t;
        fits = leb-true _ _ w;
        two = leb-true _ _ a.0;
        ten = leb-true _ _ b.0;
        kind = ltb-true _ _ d.0;
        arguments = d.1;
      }

  good_facts : is_whole s p ≡ true → entry_good s p ≡ true → IsClass s p ⊎ IsProduction s p
  unfolding entry_good
  good_facts w g =
      by_test (eqb (get_or s p 0) 0x11)
      (λ e. inl (class_facts w (eqb-true _ _ e) (cc)))
      (λ e. by_test (eqb (get_or s p 0) 0x12)
      (λ d. inr (production_facts w (eqb-true _ _ d) (cc)))
      (λ d. false_true (cc)))

  -- A whole entry is a class or a production.
  pub entry_facts : entry_whole s p ≡ true → IsClass s p ⊎ IsProduction s p
  unfolding entry_whole
  entry_facts h = let a = and_both _ _ h in good_facts a.0 a.1

  -- The entry at a whole class, and at a whole production.
  pub class_is : IsClass s p → entry_at s p ≡ class (get_or s (p + 3) 0) (class_range s p)
  unfolding entry_at
  class_is h = cc (eq-eqb _ _ h.tag)

  pub production_is : IsProduction s p
      → entry_at s p ≡ production (get_or s (p + 3) 0) (get_or s (p + 4) 0) (slice (p + 5) (field_end s p) s)
  unfolding entry_at
  production_is h = cc h.tag

  -- The key at a place is the key of the entry there.
  pub key_is : entry_key (entry_at s p) ≡ key_at 0x11 s p
  unfolding entry_key entry_at key_at pair_at
  key_is =
      let d : p + 3 + 1 ≡ p + 4 = omega arith in
      by_test (eqb (get_or s p 0) 0x11) (λ e. cc) (λ e. cc)

  -- A whole entry starts with its kind or result, and has its first five bytes.
  pub entry_kind : entry_whole s p ≡ true → (p + 4 < length s) × (get_or s (p + 3) 0 < 32)
  unfolding field_end
  entry_kind w =
      ⊎_elim
      (λ c. let a = class_long s p c in (omega arith, c.kind))
      (λ c. let a = c.fits in let b = c.two in (omega arith, c.kind))
      (entry_facts w)

  -- A whole entry with the key of a production is one.
  pub production_here : entry_whole s p ≡ true → 32 ≤ key_at 0x11 s p → IsProduction s p
  unfolding key_at
  production_here w h =
      ⊎_elim
      (λ c. let k = c.kind in let e : key_at 0x11 s p ≡ get_or s (p + 3) 0 = cc (eq-eqb _ _ c.tag) in absurd (omega arith))
      (λ c. c)
      (entry_facts w)

-- Whole entries have their first five bytes.
pub entries_long : (s : List ℕ) → all (entry_whole s) (places s) ≡ true → all (long_at s) (places s) ≡ true
unfolding long_at
entries_long s h = mem_all _ (places s) (λ p m. lt-ltb _ _ (entry_kind s p (all_mem (entry_whole s) (places s) h p m)).0)
