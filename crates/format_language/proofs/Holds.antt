-- The entries by place are the entries of `entries_of`.
use Prim.Native.Nat.{ℕ, ◌+◌, ◌≤◌}
use mathlib.Core.Path.{◌≡◌, refl, sym, ap, ◌∙◌}
use mathlib.Core.Bool.{Bool, true, false, cond, ◌&&◌, ◌||◌}
use mathlib.Core.Logic.{⊎_elim}
use mathlib.Core.List.{List, map}
use mathlib.Core.Option.{none, some}
use native.Mathlib.Omega.{arith}
use lib.ListN.{get_or}
use lib.Seq.{slice}
use lib.Dec.{ltb, leb, eqb}
use borrow.Author.Tests.{leb-true, eqb-true}
use Rattle.format_fields.specs.Lists.{all, is_some}
use Rattle.format_fields.specs.Fields.{pair_at}
use Rattle.format_fields.specs.Inner.Places.{field_end, is_whole, contents_at, field_at, places}
use Rattle.format_fields.proofs.Truth.{by_test, or_cases}
use Rattle.format_fields.proofs.Codec.{cond_some}
use Rattle.format_fields.proofs.Lists.{there_if}
use Rattle.format_fields.proofs.Split.{contents_length, contents_pair, contents_first, contents_second, contents_after, two_tags, decoded_at_places}
use Rattle.format_language.specs.Language.{class, production, Language}
use Rattle.format_language.specs.LanguageFile.{is_kind, range_whole, range_in, class_of, production_of, entry_of, entries_of}
use Rattle.format_language.specs.Inner.Entries.{size_at, step_at, class_range, step_whole, class_whole, production_whole, entry_good, entry_whole, entry_at, Holds}

-- The tests of a class, in the order of the definition and in that of the code.
moved : (a b c : Bool) → (b && (c && a)) ≡ (a && (b && c))
moved true true true = refl
moved true true false = refl
moved true false c = refl
moved false true true = refl
moved false true false = refl
moved false false c = refl

-- The whole field at p.
module _ (s : List ℕ) (p : ℕ) (w : is_whole s p ≡ true) where
  -- what a range is asked
  ends_whole : range_whole (class_range s p) ≡ (leb (pair_at s (p + 4)) (pair_at s (p + 6)) && ltb 0 (step_at s p))
  unfolding range_whole class_range
  ends_whole = refl

  -- the range of a class
  range_here : 5 ≤ size_at s p → range_in (contents_at s p) ≡ class_range s p
  unfolding range_in class_range step_at
  range_here h =
      by_test (eqb (size_at s p) 7)
      (λ e.
      let k : size_at s p ≡ 7 = eqb-true _ _ e in
      cc (
        contents_length s p w,
        contents_pair s p w 1 (p + 4) (omega arith) (omega arith),
        contents_pair s p w 3 (p + 6) (omega arith) (omega arith),
        contents_pair s p w 5 (p + 8) (omega arith) (omega arith),
      ))
      (λ e.
      cc (
        contents_length s p w,
        contents_pair s p w 1 (p + 4) (omega arith) (omega arith),
        contents_pair s p w 3 (p + 6) (omega arith) (omega arith),
      ))

  -- a class
  class_here_lem : class_of (contents_at s p) ≡ cond (class_whole s p) (some (class (get_or s (p + 3) 0) (class_range s p))) none
  unfolding class_of class_whole step_whole
  class_here_lem =
      by_test (eqb (size_at s p) 5 || eqb (size_at s p) 7)
      (λ e.
      let h : 5 ≤ size_at s p = ⊎_elim (λ t. omega (arith, eqb-true (size_at s p) 5 t)) (λ t. omega (arith, eqb-true (size_at s p) 7 t)) (or_cases (eqb (size_at s p) 5) (eqb (size_at s p) 7) e) in
      let f : range_whole (class_range s p) ≡ (leb (pair_at s (p + 4)) (pair_at s (p + 6)) && ltb 0 (step_at s p)) = ends_whole in
      cc (contents_length s p w, contents_first s p w (omega arith), range_here h, moved (ltb 0 (step_at s p)) (is_kind (get_or s (p + 3) 0)) (leb (pair_at s (p + 4)) (pair_at s (p + 6)))))
      (λ e. cc (contents_length s p w))

  -- a production
  production_here : production_of (contents_at s p)
      ≡ cond (production_whole s p)
      (some (production (get_or s (p + 3) 0) (get_or s (p + 4) 0) (slice (p + 5) (field_end s p) s))) none
  unfolding production_of production_whole
  production_here =
      by_test (leb 2 (size_at s p))
      (λ e.
      let h : 2 ≤ size_at s p = leb-true _ _ e in
      cc (contents_length s p w, contents_first s p w (omega arith), contents_second s p w h, contents_after s p w))
      (λ e. cc (contents_length s p w))

  pub entry_here : entry_of (field_at s p) ≡ cond (entry_good s p) (some (entry_at s p)) none
  unfolding entry_of field_at entry_good entry_at
  entry_here = two_tags (eqb (get_or s p 0) 0x11) (eqb (get_or s p 0) 0x12) _ _ _ _ class_here_lem production_here

-- The entries of a file are those at its places, and are there if each is whole.
pub entries_at_places : (s : List ℕ) → entries_of s ≡ cond (all (entry_whole s) (places s)) (some (map (entry_at s) (places s))) none
unfolding entries_of entry_whole
entries_at_places s = decoded_at_places entry_of (entry_good s) (entry_at s) s (entry_here s)

-- What `entries_whole` tests.
pub entries_there : (s : List ℕ) → all (entry_whole s) (places s) ≡ is_some (entries_of s)
entries_there s = sym (ap is_some (entries_at_places s) ∙ there_if _ _)

-- The walk over a file of entries l meets exactly the entries of l.
pub holds_entries : (s : List ℕ) (l : Language) → entries_of s ≡ some l → Holds s l
holds_entries s l e =
    let b = cond_some _ _ l (sym (entries_at_places s) ∙ e) in
    record { entries = b.1; whole = b.0 }
