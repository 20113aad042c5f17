-- The numbers of mappings: a law for each return and turn.
use Prim.Native.Nat.{ℕ, zero, suc, ◌+◌, ◌*◌, ◌-◌, ◌%◌, ◌<◌, ◌≤◌}
use mathlib.Core.Path.{◌≡◌, refl, sym, ap, ◌∙◌}
use mathlib.Core.Bool.{Bool, true, false, not, ◌&&◌, ◌||◌}
use mathlib.Core.List.{List, [], ◌∷◌, map}
use mathlib.Core.Option.{some}
use native.Mathlib.Omega.{arith}
use lib.ListN.{length, get_or}
use lib.Dec.{ltb, eqb}
use borrow.Author.Tests.{lt-ltb, ltb-true, ne_eqb}
use Rattle.format_fields.specs.Lists.{all, is_some}
use Rattle.format_fields.specs.Inner.Places.{field_end, places_from, order_at}
use Rattle.format_fields.proofs.Truth.{Mem, false_true, and_both, both_and, all_mem, mem_all, same_truth, some_is, is_some_lem}
use Rattle.format_fields.proofs.Places.{places_next, places_done}
use Rattle.format_language.specs.Language.{is_in}
use Rattle.tree_reader.specs.Inner.Positions.{kind_before, mapped_in}
use Rattle.format_translation.specs.Translation.{Item, mapping, clause, Body, Translation, number_of, mapping_of}
use Rattle.format_translation.specs.TranslationFile.{body_of}
use Rattle.format_translation.specs.Inner.Items.{item_whole, item_at, ItemFacts, plain_mapping, plain_clause, numbered_mapping_lem, numbered_clause_lem, is_clause_tag, items_whole}
use Rattle.format_translation.specs.Inner.ItemIndex.{Mapped}
use Rattle.format_translation.proofs.Items.{item_facts, clause_is, numbered_clause_is, holds_items}
use Rattle.format_translation.proofs.Lookup.{mapping_mem, mem_mapping}
use Rattle.format_translation.proofs.Uses.{Front, Put}
use Rattle.reduce_operators.specs.Operators.{number_kept, numbers_agree, low_number, numbers_low}
use Rattle.reduce_operators.specs.Inner.Numbers.{mapping_below, number_in, Tests}
use Rattle.reduce_operators.proofs.Proper.{Sound}

-- A walk over the mappings of a body with a test that every clause passes.
module _ (test : Item → Bool) (clauses : (r p j : ℕ) (c : List ℕ) → test (clause r p j c) ≡ true) where
  clause_passes : (s : List ℕ) (p : ℕ) → is_clause_tag (get_or s p 0) ≡ true → ItemFacts s p → test (item_at s p) ≡ true
  clause_passes s p t (plain_mapping m) = false_true (rw m.tag at t)
  clause_passes s p t (plain_clause m) = ap test (clause_is s p m) ∙ clauses _ _ _ _
  clause_passes s p t (numbered_mapping_lem m) = false_true (rw m.tag at t)
  clause_passes s p t (numbered_clause_lem m) = ap test (numbered_clause_is s p m) ∙ clauses _ _ _ _

  only_clause : (x : Bool) → (x || false) ≡ true → x ≡ true
  only_clause true e = refl
  only_clause false e = false_true e

  clauses_pass : (s l : List ℕ) → items_whole s true l ≡ true → all test (map (item_at s) l) ≡ true
  unfolding items_whole all
  clauses_pass s [] h = refl
  clauses_pass s (p ∷ l) h =
      let u = and_both (item_whole s p && (is_clause_tag (get_or s p 0) || false)) (items_whole s (is_clause_tag (get_or s p 0)) l) h in
      let v = and_both (item_whole s p) (is_clause_tag (get_or s p 0) || false) u.0 in
      let t = only_clause (is_clause_tag (get_or s p 0)) v.1 in
      both_and (test (item_at s p)) (all test (map (item_at s) l)) (clause_passes s p t (item_facts s p v.0)) (clauses_pass s l (rw t at u.1))

  -- What is left of the test.
  abbrev pub Passing : List ℕ → ℕ → Body → Type 0
  Passing s p b = all test (map (item_at s) (places_from s p)) ≡ all test b

  pub passing_start : (s : List ℕ) (b : Body) → body_of s ≡ some b → Passing s 0 b
  passing_start s b e = ap (all test) (holds_items s b e).items

  module _ (s : List ℕ) (p : ℕ) (b : Body) (h : Passing s p b) where
    pub passing_end : length s ≤ p → true ≡ all test b
    unfolding all
    passing_end l = ap (λ (x : List ℕ). all test (map (item_at s) x)) (sym (places_done s p l)) ∙ h

    module _ (here : p < length s) where
      next : all test (item_at s p ∷ map (item_at s) (places_from s (field_end s p))) ≡ all test b
      next = ap (λ (x : List ℕ). all test (map (item_at s) x)) (sym (places_next s p here)) ∙ h

      pub passing_clause : Front s p → is_clause_tag (get_or s p 0) ≡ true → true ≡ all test b
      unfolding items_whole
      passing_clause w t =
          let l = places_from s (field_end s p) in
          let z : items_whole s false (p ∷ l) ≡ true = ap (items_whole s false) (sym (places_next s p here)) ∙ w in
          let y : items_whole s true (p ∷ l) ≡ true = rw t (rw t at z) in
          sym (clauses_pass s (p ∷ l) y) ∙ next

      pub passing_fails : test (item_at s p) ≡ false → false ≡ all test b
      unfolding all
      passing_fails t = rw t at next

      pub passing_next : test (item_at s p) ≡ true → (e : ℕ) → e ≡ field_end s p → Passing s e b
      unfolding all
      passing_next t e ee = rw ee (rw t at next)

-- The mapping at p, by its key.
key_is : (s : List ℕ) (p key : ℕ) (m : Put s p) → key ≡ order_at 0x22 s p → key ≡ m.source * 256 + m.number
key_is s p key m ek = ek ∙ m.key

pub key_may : (pre : ℕ → Type 0) → ((k j : ℕ) → k < 32 → j < 256 → pre (k * 256 + j)) → (s : List ℕ) (p key : ℕ) → Put s p → key ≡ order_at 0x22 s p → pre key
key_may pre may s p key m ek = rw (key_is s p key m ek) (may m.source m.number m.kind m.byte)

pub mapping_tested : (post : ℕ → Bool → Type 0) (passes : Item → Bool) → Tests post passes → (s : List ℕ) (p key : ℕ) → Put s p → key ≡ order_at 0x22 s p → (r : Bool)
    → post key r → passes (item_at s p) ≡ r
mapping_tested post passes tests s p key m ek r h =
    ap passes m.is ∙ sym (tests.mappings m.source m.number _ r m.kind m.byte (rw (key_is s p key m ek) at h))

-- numbers_below
pub below_tested : (limit : ℕ) (post : ℕ → Bool → Type 0) → ((key : ℕ) (r : Bool) → post key r → r ≡ ltb (key % 256) limit) → Tests post (mapping_below limit)
unfolding mapping_below
below_tested limit post h = record {
  mappings = λ s j t r k l q. let z : (s * 256 + j) % 256 ≡ j = omega arith in h _ r q ∙ ap (λ (x : ℕ). ltb x limit) z;
  clauses = λ r p j c. refl;
}

-- numbers_known
not_zero : (x : ℕ) → is_some (kind_before x) ≡ not (eqb x 0)
not_zero zero = refl
not_zero (suc x) = rw (ne_eqb (suc x) 0 (λ h. omega arith))

twice_not : (x : Bool) → not (not x) ≡ x
twice_not true = refl
twice_not false = refl

module _ (uses : List ℕ) (c : Body) (w : Mapped uses c) where
  in_table : (k j : ℕ) → k < 32 → j < 256 → is_some (mapping_of c k j) ≡ not (eqb (get_or uses (k * 256 + j) 0) 0)
  unfolding mapped_in
  in_table k j h l =
      let e : kind_before (get_or uses (k * 256 + j) 0) ≡ mapping_of c k j = rw (lt-ltb j 256 l) at (w.is k j h l) in
      ap is_some (sym e) ∙ not_zero (get_or uses (k * 256 + j) 0)

  pub known_tested : (post : ℕ → Bool → Type 0) → ((key : ℕ) (r : Bool) → post key r → r ≡ (eqb (get_or uses (key - key % 256) 0) 0 || not (eqb (get_or uses key 0) 0)))
      → Tests post (number_in c)
  unfolding number_in
  known_tested post h = record {
    mappings = λ k j t r i l q.
        let z : k * 256 + j - (k * 256 + j) % 256 ≡ k * 256 + 0 = omega arith in
        h _ r q ∙ rw (z, in_table k 0 i (omega arith), in_table k j i l, twice_not (eqb (get_or uses (k * 256 + 0) 0) 0)) refl;
    clauses = λ r p j d. refl;
  }

-- numbers_kept: number 0 only
or_not : (x : Bool) → (not x || x) ≡ true
or_not true = refl
or_not false = refl

pub zero_kept : (b c : Body) (x : Bool) → x ≡ all (mapping_below 1) b → x ≡ true → true ≡ all (number_in c) b
unfolding mapping_below number_in
zero_kept b c x ex h = sym (mem_all (number_in c) b each)
  where
    each : (a : Item) → Mem a b → number_in c a ≡ true
    each (mapping s j t) m =
        let l : ltb j 1 ≡ true = all_mem (mapping_below 1) b (sym ex ∙ h) (mapping s j t) m in
        let z : j ≡ 0 = omega (arith, ltb-true j 1 l) in
        rw z (or_not (is_some (mapping_of c s 0)))
    each (clause r p j d) m = refl

-- In a sound translation exactly the kinds of the source are mapped by 0.
module _ (g : Translation) (s : Sound g) where
  source_mapped : (k : ℕ) → is_some (mapping_of g.body k 0) ≡ is_in g.source k
  source_mapped k =
      same_truth (is_some (mapping_of g.body k 0)) (is_in g.source k)
      (λ e. let t = some_is (mapping_of g.body k 0) e in (s.fits.maps_only k 0 t.0 (mapping_mem g.body k 0 t.0 t.1)).0)
      (λ e. let t = s.fits.maps k e in is_some_lem (mapping_of g.body k 0) (mem_mapping g.body s.rises k 0 t.0 t.1))

  number_in_lem : (a : Item) → number_in g.body a ≡ number_kept g a
  unfolding number_in number_kept
  number_in_lem (mapping k j t) = rw (source_mapped k)
  number_in_lem (clause r p j c) = refl

  pub numbers_in : (b : Body) → all (number_in g.body) b ≡ all (number_kept g) b
  unfolding all
  numbers_in [] = refl
  numbers_in (a ∷ b) = rw (number_in_lem a, numbers_in b)

pub numbers_agree_lem : (f g : Translation) → Sound f → Sound g → (all (number_in g.body) f.body && all (number_in f.body) g.body) ≡ numbers_agree f g
unfolding numbers_agree
numbers_agree_lem f g s t = rw (numbers_in g t f.body, numbers_in f s g.body)

-- In a sound translation the mappings have all numbers: they are low where those of the mappings are.
pub low_mappings : (f : Translation) → Sound f → all (mapping_below 16) f.body ≡ numbers_low f
unfolding numbers_low mapping_below low_number number_of
low_mappings f s = same_truth (all (mapping_below 16) f.body) (all low_number f.body) (λ e. mem_all low_number f.body (each e)) (λ e. mem_all (mapping_below 16) f.body (back e))
  where
    each : all (mapping_below 16) f.body ≡ true → (a : Item) → Mem a f.body → low_number a ≡ true
    each e (mapping k j t) m = all_mem (mapping_below 16) f.body e (mapping k j t) m
    each e (clause r p j c) m = let t = (s.fits.clauses_only r p j c m).1 in all_mem (mapping_below 16) f.body e (mapping r j t.0) t.1

    back : all low_number f.body ≡ true → (a : Item) → Mem a f.body → mapping_below 16 a ≡ true
    back e (mapping k j t) m = all_mem low_number f.body e (mapping k j t) m
    back e (clause r p j c) m = refl
