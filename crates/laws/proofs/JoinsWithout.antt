-- A join without a language is the join whose second operand had it removed.
use Prim.Native.Nat.{ℕ}
use mathlib.Core.Path.{◌≡◌, refl, ap, sym, subst, ◌∙◌}
use mathlib.Core.Logic.{inl, inr}
use mathlib.Core.Bool.{Bool, true, false, cond}
use mathlib.Core.List.{List, [], ◌∷◌, ◌++◌, map}
use Rattle.outcome.specs.Outcome.{value}
use Rattle.format_fields.specs.Lists.{keep, concat_map}
use Rattle.format_fields.proofs.Truth.{Mem, by_test, keep_cases, mem_keep}
use Rattle.format_language.specs.Language.{Language}
use Rattle.format_translation.specs.Translation.{Item, mapping, clause, Translation, numbers_of}
use Rattle.format_pack.specs.Terms.{Term, languages, translations, join, without}
use Rattle.reduce_operators.specs.Operators.{language_without, is_of, translation_without, join_item, joined}
use Rattle.reduce_operators.specs.Limits.{translation_exceeds}
use Rattle.reduce_operators.specs.Inner.Paired.{reached, paired_item}
use Rattle.reduce_signs.specs.Evaluation.{Constants, nothing_bound, evaluate}
use Rattle.reduce_operators.proofs.Proper.{Sound}
use Rattle.reduce_operators.proofs.SumSound.{sound_without}
use Rattle.reduce_operators.proofs.JoinRises.{join_item_lem}
use Rattle.reduce_terms.proofs.Evaluated.{GoodConstants}
use Rattle.laws.proofs.Subsets.{Lies, lies_within}
use Rattle.laws.proofs.Alike.{part_fits, part_low, item_alike}
use Rattle.laws.proofs.Signs.{join_value, value_join, without_value, value_without, value_good}

-- All of a mapped list is kept, or nothing of it.
keep_map : {A B : Type 0} (test : B → Bool) (to : A → B) (t : Bool) → ((a : A) → test (to a) ≡ t) → (l : List A) → keep test (map to l) ≡ cond t (map to l) []
unfolding keep
keep_map test to true h [] = refl
keep_map test to false h [] = refl
keep_map {B = B} test to true h (a ∷ l) = rw (h a) (ap (λ (r : List B). to a ∷ r) (keep_map test to true h l))
keep_map test to false h (a ∷ l) = rw (h a) (keep_map test to false h l)

-- What is kept of two lists in a row.
keep_append : {A : Type 0} (test : A → Bool) (l m : List A) → keep test (l ++ m) ≡ keep test l ++ keep test m
unfolding keep
keep_append test [] m = refl
keep_append test (a ∷ l) m = rw (keep_append test l m) (go (test a))
  where
    go : (t : Bool) → cond t (a ∷ (keep test l ++ keep test m)) (keep test l ++ keep test m) ≡ cond t (a ∷ keep test l) (keep test l) ++ keep test m
    go true = refl
    go false = refl

-- Where each element's list is kept or goes as the element does, keeping may come first.
keep_concat : {A B : Type 0} (test : A → Bool) (tested : B → Bool) (to from : A → List B) (l : List A)
    → ((a : A) → Mem a l → keep tested (to a) ≡ cond (test a) (from a) []) → keep tested (concat_map to l) ≡ concat_map from (keep test l)
unfolding keep concat_map
keep_concat test tested to from [] h = refl
keep_concat test tested to from (a ∷ l) h =
    keep_append tested (to a) (concat_map to l)
    ∙ rw (h a (inl refl), keep_concat test tested to from l (λ b m. h b (inr m))) (go (test a))
  where
    go : (t : Bool) → cond t (from a) [] ++ concat_map from (keep test l) ≡ concat_map from (cond t (a ∷ keep test l) (keep test l))
    go true = refl
    go false = refl

-- What is joined of an item is of a source where the item is.
paired_of : (l : Language) (f g : Translation) (a : Item) (j : ℕ) → is_of l (paired_item f g a j) ≡ is_of l a
unfolding is_of
paired_of l f g (mapping s i t) j = refl
paired_of l f g (clause r p i c) j = refl

module _ (g : Translation) (l : Language) where
  -- What is left of a translation lies in it.
  pub lies_without : Lies (translation_without g l) g
  unfolding translation_without language_without Rattle.format_fields.specs.Keyed.without is_of
  lies_without = record {
    source = λ a m. (keep_cases _ a g.source m).0;
    target = λ a m. m;
    body = λ a m. (keep_cases _ a g.body m).0;
    numbers = λ k j t i m. mem_keep (is_of (language_without g.source l)) (mapping k j t) g.body m i;
  }

  module _ (f : Translation) (s : Sound g) where
    -- The source that is left.
    left : Language
    left = language_without g.source l

    -- What is joined of an item goes with the item, and is the same where the item stays.
    item_kept : (a : Item) → Mem a g.body → keep (is_of left) (join_item f g a) ≡ cond (is_of left a) (join_item f (translation_without g l) a) []
    unfolding translation_without left
    item_kept a m =
        ap (keep (is_of left)) (join_item_lem f g a)
        ∙ (keep_map (is_of left) (paired_item f g a) (is_of left a) (paired_of left f g a) (numbers_of f.body (reached g a))
        ∙ by_test (is_of left a)
        (λ e.
        rw e
        (sym (join_item_lem f g a)
        ∙ sym (item_alike (translation_without g l) g (sound_without g l s) s lies_without f a (mem_keep (is_of left) a g.body m e))))
        (λ e. rw e))

    -- A join after what is left is what is left of the join.
    pub joined_left : joined f (translation_without g l) ≡ translation_without (joined f g) l
    unfolding joined translation_without left
    joined_left = λ i. record {
      source = left;
      target = f.target;
      body = sym (keep_concat (is_of left) (is_of left) (join_item f g) (join_item f (translation_without g l)) g.body item_kept) i;
    }

-- If a join without a language has a value, so has the join whose second operand had it removed, and it is the same.
pub joined_without : (c : Constants) → GoodConstants c → (f g : Term translations) (l : Term languages) (v : Translation)
    → evaluate c nothing_bound (without (join f g) l) ≡ value v
    → evaluate c nothing_bound (join f (without g l)) ≡ value v
joined_without c good f g l v e =
    let w = without_value c (join f g) l v e in
    let m = w.1 in
    let j = join_value c f g w.0 w.2 in
    let x = j.first in
    let y = j.second in
    let z = translation_without y m in
    let lies = lies_without y m in
    let gy = value_good c good g y j.second_value in
    let p = value_without c g l y m j.second_value w.3 (lies_within z y (sound_without y m gy.sound) gy lies) in
    let same : joined x z ≡ v = joined_left y m x gy.sound ∙ (ap (λ (t : Translation). translation_without t m) j.says.is ∙ w.4.is) in
    value_join c f (without g l) x z j.first_value p (part_fits x z y lies j.says.fits) j.says.low_first (part_low z y lies j.says.low_second)
    (subst (λ (t : Translation). translation_exceeds t ≡ false) (sym same) w.4.within)
    ∙ ap value same
