-- The index that was built is the index of the language: what is looked up through it is what stands in the language.
use Prim.Native.Nat.{ℕ, zero, suc, ◌+◌, ◌-◌, ◌<◌, ◌≤◌}
use mathlib.Core.Path.{◌≡◌, refl, sym, ap, subst, ◌∙◌}
use mathlib.Core.Logic.{inl, inr, ⊎_elim}
use mathlib.Core.List.{List}
use mathlib.Core.Bool.{true}
use mathlib.Core.Option.{some}
use native.Mathlib.Omega.{arith}
use native.Mathlib.Numerals.{add-one}
use lib.ListN.{length, get_or}
use lib.Seq.{slice}
use lib.Dec.{eqb}
use borrow.Author.Tests.{eq-eqb, eqb-true, eqb-false, ltb-true}
use Rattle.format_fields.specs.Fields.{pair_at}
use Rattle.format_fields.specs.Lists.{all, first}
use Rattle.format_fields.specs.Inner.Places.{field_end, places, key_at, slot_at}
use Rattle.format_fields.proofs.Truth.{by_test}
use Rattle.format_fields.proofs.Lists.{all_true, part_next}
use Rattle.format_language.specs.Language.{Language, range_at, range_of, arguments_at, arguments_of, kind_key, production_key}
use Rattle.format_language.specs.LanguageFile.{is_kind, entries_of}
use Rattle.format_language.specs.Inner.Entries.{entry_whole, entry_at, class_range, IsClass, IsProduction, Holds}
use Rattle.format_language.proofs.Facts.{entry_facts, class_is, production_is}
use Rattle.format_language.proofs.Holds.{holds_entries}
use Rattle.tree_reader.specs.Inner.Positions.{KindsIn}
use Rattle.tree_reader.specs.Inner.Index.{put_all, range_before, arguments_before, Sound, Indexed}
use Rattle.tree_reader.proofs.Placed.{place_of, puts_length, puts_place, found, Groups, of_first, of_second, looked_kind, looked_name}

-- The kinds of a part.
pub part_kinds : (m : ℕ) (s : List ℕ) (q e : ℕ) → e - q ≡ m → e ≤ length s → all is_kind (slice q e s) ≡ true → KindsIn s q e
part_kinds zero s q e y h a x i j = absurd (omega arith)
part_kinds (suc m) s q e y h a x i j =
    let w = all_true is_kind (get_or s q 0) (slice (q + 1) e s) (part_next (all is_kind) s q e true a (omega arith) h) in
    by_test (eqb x q)
    (λ d. let z : x ≡ q = eqb-true _ _ d in (omega arith, rw z (ltb-true _ _ w.0)))
    (λ d. let z : x ≡ q → ⊥ = eqb-false _ _ d in part_kinds m s (q + 1) e (omega arith) h w.1 x (omega arith) j)

-- Keys and places of whole entries.
module _ (s : List ℕ) (p : ℕ) where
  class_key : IsClass s p → slot_at 0x11 s p ≡ get_or s (p + 3) 0
  unfolding slot_at key_at
  class_key w = cc (eq-eqb _ _ w.tag)

  pub production_key_lem : IsProduction s p → slot_at 0x11 s p ≡ production_key (get_or s (p + 3) 0) (get_or s (p + 4) 0)
  unfolding slot_at key_at pair_at
  production_key_lem w = let d : p + 3 + 1 ≡ p + 4 = omega arith in cc w.tag

  production_fits : IsProduction s p → p + 5 ≤ length s
  unfolding field_end
  production_fits w = let f = w.fits in let n = w.two in omega arith

  production_kinds : IsProduction s p → KindsIn s (p + 5) (field_end s p)
  production_kinds w = part_kinds _ s (p + 5) (field_end s p) refl w.fits w.arguments

-- Classes and productions.
abbrev none_other : ℕ → Type 0
none_other p = ⊥

groups : (s : List ℕ) → Groups 0x11 s (entry_whole s) (IsClass s) (IsProduction s) none_other
groups s = record {
  facts = λ p w. ⊎_elim (λ c. inl c) (λ c. inr (inl c)) (entry_facts s p w);
  kind = λ p c. c.kind;
  kind_key = class_key s;
  name_key = production_key_lem s;
  no_key = λ p o. absurd o;
}

-- The index that was built.
module _ (s index : List ℕ) (bytes : (i : ℕ) → get_or s i 0 < 256) (short : length s ≤ 1024) (long : length index ≡ 8224)
    (zeros : (j : ℕ) → get_or index j 0 ≡ 0) (l : Language) (e : entries_of s ≡ some l) where
  abbrev built : List ℕ
  built = put_all 0x11 s index (places s)

  held : Holds s l
  held = holds_entries s l e

  built_long : length built ≡ 8224
  built_long = puts_length 0x11 s (places s) index ∙ long

  at_key : (j : ℕ) → j < 8224 → get_or built j 0 ≡ place_of 0x11 s j (places s)
  at_key j h = puts_place 0x11 s (places s) index j (omega arith) (zeros j)

  -- A place in the index is that of a whole entry of the key.
  found_at : (j : ℕ) → j < 8224 → 0 < get_or built j 0 → (p : ℕ) × (get_or built j 0 ≡ p + 1) × (slot_at 0x11 s p ≡ j) × (entry_whole s p ≡ true)
  found_at j h z =
      let k = at_key j h in
      let f = found 0x11 (entry_whole s) s j (places s) held.whole (rw k at z) in
      (f.0, k ∙ f.1, f.2, f.3)

  class_at : (k : ℕ) → k < 32 → 0 < get_or built (kind_key k) 0 → IsClass s (get_or built (kind_key k) 0 - 1)
  class_at k h z =
      let f = found_at k (omega arith) z in
      let i : f.0 ≡ get_or built (kind_key k) 0 - 1 = omega (arith, f.1) in
      subst (IsClass s) i (of_first 0x11 s (entry_whole s) (IsClass s) (IsProduction s) none_other (groups s) f.0 f.3 (rw f.2 h))

  production_at : (k p : ℕ) → k < 32 → p < 256 → 0 < get_or built (production_key k p) 0
      → (q : ℕ) × (get_or built (production_key k p) 0 ≡ q + 1) × IsProduction s q
  production_at k p h j z =
      let f = found_at (production_key k p) (omega arith) z in
      (f.0, f.1, of_second 0x11 s (entry_whole s) (IsClass s) (IsProduction s) none_other (groups s) f.0 f.3 (rw f.2 (omega arith)) (rw f.2 (omega arith)))

  kinds_at : (q place : ℕ) → place ≡ q + 1 → IsProduction s q → KindsIn s (place + 4) (place + 2 + pair_at s place)
  unfolding field_end
  kinds_at q place i c x a b = production_kinds s q c x (omega arith) (omega (arith, ap (pair_at s) i))

  sound : Sound built s
  sound = record {
    long = omega (arith, built_long);
    short = short;
    class = class_at;
    name = λ k p h j z. let f = production_at k p h j z in let i = f.1 in let b = production_fits s f.0 f.2 in omega arith;
    operands = λ k p h j z. let f = production_at k p h j z in kinds_at f.0 _ f.1 f.2;
  }

  index_built : Indexed built s l
  unfolding range_of arguments_of range_at arguments_at
  index_built = record {
    sound = sound;
    entries = e;
    range = λ k h.
        ap (first (range_at k)) (sym held.entries)
        ∙ (looked_kind 0x11 s (entry_whole s) (IsClass s) (IsProduction s) none_other (groups s) (entry_at s) (range_at k) (range_before s) refl
        (class_range s) (λ p. rw add-one refl) k h
        (λ p c. ap (range_at k) (class_is s p c)) (λ p c. ap (range_at k) (production_is s p c)) (λ p o. absurd o) (places s) held.whole
        ∙ ap (range_before s) (sym (at_key k (omega arith))));
    arguments = λ k p h j.
        ap (first (arguments_at k p)) (sym held.entries)
        ∙ (looked_name 0x11 s (entry_whole s) (IsClass s) (IsProduction s) none_other (groups s) (entry_at s) (arguments_at k p) (arguments_before s) refl
        (λ q. slice (q + 5) (field_end s q) s) (λ q. rw add-one refl) k h p j bytes
        (λ q c. ap (arguments_at k p) (class_is s q c)) (λ q c. ap (arguments_at k p) (production_is s q c)) (λ q o. absurd o) (places s) held.whole
        ∙ ap (arguments_before s) (sym (at_key (production_key k p) (omega arith))));
  }

  -- What `build` returns.
  pub build_is : {after : List ℕ} → after ≡ built → Indexed after s l
  build_is h = rw h index_built
