-- Sums and "without" keep languages proper and translations sound (document 000: B.5, B.7, C.14).
use Prim.Native.Nat.{ℕ}
use mathlib.Core.Path.{◌≡◌, refl, ap, sym}
use mathlib.Core.Logic.{◌⊎◌, inl, inr, ⊎_elim}
use mathlib.Core.Bool.{true, not, ◌&&◌, ◌||◌}
use mathlib.Core.Option.{Option, none, some, get_or}
use mathlib.Core.List.{List, []}
use Rattle.format_fields.specs.Lists.{all, is_some}
use Rattle.format_fields.specs.Keyed.{union, agree, without}
use Rattle.format_fields.proofs.Truth.{Mem, by_test, none_some, and_both, not_true, all_mem, mem_all, some_is, is_some_lem, keep_cases, mem_keep}
use Rattle.format_fields.proofs.Keyed.{Rising, Agree, agree_sym, union_cases, union_mem, union_from, agree_holds, holds_agree, keep_from}
use Rattle.format_language.specs.Language.{Entry, class, production, Language, entry_key, same_entry, Range, is_in, arguments_of, clashes}
use Rattle.format_language.proofs.Lookup.{same_equal, equal_same, in_larger, in_union, class_in, result_in, argument_in, range_mem, mem_range, arguments_mem, mem_arguments, NoClash, clashes_none, none_clashes}
use Rattle.format_language.proofs.Ranges.{within_both}
use Rattle.tree_reader.specs.Syntax.{done}
use Rattle.tree_reader.proofs.Larger.{Larger, larger}
use Rattle.format_translation.specs.Translation.{Item, mapping, clause, Translation, plain_key, number_of, item_key, same_item, mapping_of, mapped}
use Rattle.format_translation.specs.Running.{read_clause}
use Rattle.format_translation.proofs.Lookup as Items
use Rattle.format_translation.proofs.Preserved.{Contains}
use Rattle.format_translation.proofs.Fitting.{Fitting, clause_alike}
use Rattle.reduce_operators.specs.Operators.{languages_fit, language_union, language_without, number_kept, numbers_agree, translations_fit, translation_union, is_of, translation_without}
use Rattle.reduce_operators.proofs.Proper.{Proper, proper_keep, Sound}

-- Languages that fit: entries agree by key, and no class of one is a result of the other.
pub record LanguagesFit (l m : Language) : Type 0 where
  pub agrees : Agree entry_key l m
  pub left : NoClash l m
  pub right : NoClash m l

pub fit_languages : (l m : Language) → languages_fit l m ≡ true → LanguagesFit l m
unfolding languages_fit
fit_languages l m e =
    let a = and_both (not (clashes l m)) (not (clashes m l) && agree entry_key same_entry l m) e in
    let b = and_both (not (clashes m l)) (agree entry_key same_entry l m) a.1 in
    record {
      agrees = agree_holds same_entry same_equal equal_same entry_key l m b.1;
      left = clashes_none l m (not_true (clashes l m) a.0);
      right = clashes_none m l (not_true (clashes m l) b.0);
    }

pub languages_fit_lem : (l m : Language) → LanguagesFit l m → languages_fit l m ≡ true
unfolding languages_fit
languages_fit_lem l m h =
    rw (none_clashes l m h.left, none_clashes m l h.right, holds_agree same_entry same_equal equal_same entry_key l m h.agrees)

-- A list holds all members of both, and no others.
pub record Covers {A : Type 0} (l m u : List A) : Type 0 where
  pub left : (a : A) → Mem a l → Mem a u
  pub right : (a : A) → Mem a m → Mem a u
  pub only : (a : A) → Mem a u → Mem a l ⊎ Mem a m

pub union_covers : {A : Type 0} (key : A → ℕ) (l m : List A) → Rising key l → Agree key l m → Covers l m (union key l m)
union_covers key l m r h = record {
  left = λ a q. union_mem key a l m r h (inl q);
  right = λ a q. union_mem key a l m r h (inr q);
  only = λ a q. union_cases key a l m q;
}

-- B.5.
pub proper_union : (l m : Language) → Proper l → Proper m → LanguagesFit l m → Proper (language_union l m)
unfolding language_union
proper_union l m p q h = record {
  whole = λ a n. ⊎_elim (λ r. p.whole a r) (λ r. q.whole a r) (union_cases entry_key a l m n);
  rises = union_from entry_key 0 l m p.rises q.rises;
  apart = λ k r s ks x y.
      ⊎_elim
      (λ c. ⊎_elim (λ d. p.apart k r s ks c d) (λ d. h.left k r s ks c d) (union_cases entry_key _ l m y))
      (λ c. ⊎_elim (λ d. h.right k r s ks c d) (λ d. q.apart k r s ks c d) (union_cases entry_key _ l m y))
      (union_cases entry_key _ l m x);
}

-- B.7.
pub proper_without : (l m : Language) → Proper l → Proper (language_without l m)
unfolding language_without without
proper_without l m p = proper_keep _ l p

-- f's kinds that are in the source of u are mapped by u as by f, by the same numbers, and u's target is larger.
pub record Part (f u : Translation) : Type 0 where
  pub source_rises : Rising entry_key f.source
  pub whole_rises : Rising entry_key u.source
  pub body_rises : Rising item_key f.body
  pub whole_body_rises : Rising item_key u.body
  pub target : (a : Entry) → Mem a f.target → Mem a u.target
  pub target_rises : Rising entry_key u.target
  pub mappings : (k j t : ℕ) → is_in u.source k ≡ true → Mem (mapping k j t) f.body → Mem (mapping k j t) u.body
  pub numbers : (k j t : ℕ) → is_in f.source k ≡ true → Mem (mapping k j t) u.body → Mem (mapping k j t) f.body

-- Two lookups that find the same are equal.
options_equal : (a b : Option ℕ) → ((t : ℕ) → a ≡ some t → b ≡ some t) → ((t : ℕ) → b ≡ some t → a ≡ some t) → a ≡ b
options_equal none none h k = refl
options_equal none (some t) h k = none_some (k t refl)
options_equal (some t) b h k = sym (h t refl)

module _ (f u : Translation) (w : Fitting f) (h : Part f u) where
  -- A kind in both sources is mapped alike by every number.
  pub part_mapped : (k : ℕ) → is_in f.source k ≡ true → is_in u.source k ≡ true → (j : ℕ) → mapping_of f.body k j ≡ mapping_of u.body k j
  part_mapped k e d j =
      options_equal (mapping_of f.body k j) (mapping_of u.body k j)
      (λ t q. Items.mem_mapping u.body h.whole_body_rises k j t (h.mappings k j t d (Items.mapping_mem f.body k j t q)))
      (λ t q. Items.mem_mapping f.body h.body_rises k j t (h.numbers k j t e (Items.mapping_mem u.body k j t q)))

  part_larger : Larger f.target u.target
  part_larger = larger f.target u.target h.target_rises h.target

  pub part_class : (k j t : ℕ) (a : Range) → Mem (class k a) f.source → Mem (mapping k j t) u.body → Contains u.target t a
  part_class k j t a m n =
      let c = w.classes k j t a (h.numbers k j t (class_in f.source k a m) n) (mem_range f.source h.source_rises k a m) in
      let d = part_larger.classes t c.0 c.1 in
      (d.0, d.1, within_both a c.0 d.0 c.2 d.2)

  pub part_clause : (r p j t : ℕ) (ks : List ℕ) → Mem (production r p ks) f.source → Mem (mapping r j t) u.body
      → (c : List ℕ) × Mem (clause r p j c) f.body
  part_clause r p j t ks m n = w.clauses r p j t ks m (h.numbers r j t (result_in f.source r p ks m) n)

  -- A clause of f whose production u has is read there as the same code.
  pub part_code : (r p j : ℕ) (ks : List ℕ) (c : List ℕ) → Mem (production r p ks) f.source → Mem (production r p ks) u.source
      → (q : Mem (clause r p j c) f.body) → read_clause u r p j c ≡ done (w.codes r p j c q).0 []
  unfolding mapped
  part_code r p j ks c m n q =
      let x = w.codes r p j c q in
      clause_alike f u part_larger r p j ks (mem_arguments f.source h.source_rises r p ks m) (mem_arguments u.source h.whole_rises r p ks n)
      (ap (λ (o : Option ℕ). get_or o 0) (part_mapped r (result_in f.source r p ks m) (result_in u.source r p ks n) j))
      (λ i z. part_mapped i (argument_in f.source r p ks m i z) (argument_in u.source r p ks n i z)) c x.0 x.1

-- A kind of the second has there each number that it has in the first (paper 02, 2026-13).
abbrev pub NumbersKept : Translation → Translation → Type 0
NumbersKept f g = (k j t : ℕ) → Mem (mapping k j t) f.body → is_in g.source k ≡ true → (s : ℕ) × (mapping_of g.body k j ≡ some s)

kept_numbers : (f g : Translation) → all (number_kept g) f.body ≡ true → NumbersKept f g
unfolding number_kept
kept_numbers f g e k j t m i =
    let w : (not (is_in g.source k) || is_some (mapping_of g.body k j)) ≡ true = all_mem (number_kept g) f.body e (mapping k j t) m in
    some_is (mapping_of g.body k j) (rw i at w)

numbers_kept : (f g : Translation) → NumbersKept f g → all (number_kept g) f.body ≡ true
unfolding number_kept
numbers_kept f g h = mem_all (number_kept g) f.body each
  where
    each : (a : Item) → Mem a f.body → number_kept g a ≡ true
    each (mapping k j t) m =
        by_test (is_in g.source k)
        (λ e. rw (e, (h k j t m e).1))
        (λ e. rw e)
    each (clause r p j c) m = refl

-- Translations that fit: languages fit, shared kinds have the same numbers, and items agree by key (C.12).
pub record TranslationsFit (f g : Translation) : Type 0 where
  pub source : LanguagesFit f.source g.source
  pub target : LanguagesFit f.target g.target
  pub left : NumbersKept f g
  pub right : NumbersKept g f
  pub body : Agree item_key f.body g.body

pub fit_translations : (f g : Translation) → translations_fit f g ≡ true → TranslationsFit f g
unfolding translations_fit numbers_agree
fit_translations f g e =
    let a = and_both (languages_fit f.source g.source) (languages_fit f.target g.target && (numbers_agree f g && agree item_key same_item f.body g.body)) e in
    let b = and_both (languages_fit f.target g.target) (numbers_agree f g && agree item_key same_item f.body g.body) a.1 in
    let c = and_both (numbers_agree f g) (agree item_key same_item f.body g.body) b.1 in
    let d = and_both (all (number_kept g) f.body) (all (number_kept f) g.body) c.0 in
    record {
      source = fit_languages f.source g.source a.0;
      target = fit_languages f.target g.target b.0;
      left = kept_numbers f g d.0;
      right = kept_numbers g f d.1;
      body = agree_holds same_item Items.same_equal Items.equal_same item_key f.body g.body c.1;
    }

pub translations_fit_lem : (f g : Translation) → TranslationsFit f g → translations_fit f g ≡ true
unfolding translations_fit numbers_agree
translations_fit_lem f g h =
    rw (languages_fit_lem f.source g.source h.source, languages_fit_lem f.target g.target h.target, numbers_kept f g h.left, numbers_kept g f h.right, holds_agree same_item Items.same_equal Items.equal_same item_key f.body g.body h.body)

-- A mapping of the second, of a kind that the first has, is one of the first too where the two fit.
pub shared_mapping : (f g : Translation) → Agree item_key f.body g.body → NumbersKept g f → (k j t : ℕ) → is_in f.source k ≡ true
    → Mem (mapping k j t) g.body → Mem (mapping k j t) f.body
unfolding item_key plain_key number_of
shared_mapping f g a h k j t e m =
    let s = h k j t m e in
    let n = Items.mapping_mem f.body k j s.0 s.1 in
    rw (← a (mapping k j s.0) (mapping k j t) n m refl) n

-- What two translations of which u is made say of u (C.14).
module _ (f g u : Translation) (sf : Fitting f) (sg : Fitting g) (pf : Part f u) (pg : Part g u)
    (sources : Covers f.source g.source u.source) (targets : Covers f.target g.target u.target)
    (bodies : Covers f.body g.body u.body) (in_either : (k : ℕ) → is_in u.source k ≡ true → (is_in f.source k ≡ true) ⊎ (is_in g.source k ≡ true)) where
  union_fits : Fitting u
  union_fits = record {
    maps = λ k e.
        ⊎_elim (λ d. let t = sf.maps k d in (t.0, bodies.left _ t.1)) (λ d. let t = sg.maps k d in (t.0, bodies.right _ t.1)) (in_either k e);
    maps_only = λ s j t m.
        ⊎_elim
        (λ d. let x = sf.maps_only s j t d in (in_larger f.source u.source sources.left s x.0, in_larger f.target u.target targets.left t x.1))
        (λ d. let x = sg.maps_only s j t d in (in_larger g.source u.source sources.right s x.0, in_larger g.target u.target targets.right t x.1))
        (bodies.only _ m);
    classes = λ k j t c m e.
        ⊎_elim (λ d. part_class f u sf pf k j t c d m) (λ d. part_class g u sg pg k j t c d m) (sources.only _ (range_mem u.source k c e));
    clauses = λ r p j t ks m n.
        ⊎_elim
        (λ d. let c = part_clause f u sf pf r p j t ks d n in (c.0, bodies.left _ c.1))
        (λ d. let c = part_clause g u sg pg r p j t ks d n in (c.0, bodies.right _ c.1))
        (sources.only _ m);
    clauses_only = λ r p j c m.
        ⊎_elim
        (λ d. let x = sf.clauses_only r p j c d in ((x.0.0, sources.left _ x.0.1), (x.1.0, bodies.left _ x.1.1)))
        (λ d. let x = sg.clauses_only r p j c d in ((x.0.0, sources.right _ x.0.1), (x.1.0, bodies.right _ x.1.1)))
        (bodies.only _ m);
    codes = λ r p j c m.
        ⊎_elim
        (λ d. let x = (sf.clauses_only r p j c d).0 in (_, part_code f u sf pf r p j x.0 c x.1 (sources.left _ x.1) d))
        (λ d. let x = (sg.clauses_only r p j c d).0 in (_, part_code g u sg pg r p j x.0 c x.1 (sources.right _ x.1) d))
        (bodies.only _ m);
  }

-- The sum of sound translations that fit is sound.
pub sound_union : (f g : Translation) → Sound f → Sound g → TranslationsFit f g → Sound (translation_union f g)
unfolding translation_union language_union
sound_union f g s t h =
    let source = union_covers entry_key f.source g.source s.source.rises h.source.agrees in
    let target = union_covers entry_key f.target g.target s.target.rises h.target.agrees in
    let body = union_covers item_key f.body g.body s.rises h.body in
    let ps = proper_union f.source g.source s.source t.source h.source in
    let pt = proper_union f.target g.target s.target t.target h.target in
    let rises = union_from item_key 0 f.body g.body s.rises t.rises in
    record {
      source = ps;
      target = pt;
      whole = λ a m. ⊎_elim (λ d. s.whole a d) (λ d. t.whole a d) (body.only a m);
      rises = rises;
      fits =
          union_fits f g (translation_union f g) s.fits t.fits
          (record {
            source_rises = s.source.rises;
            whole_rises = ps.rises;
            body_rises = s.rises;
            whole_body_rises = rises;
            target = target.left;
            target_rises = pt.rises;
            mappings = λ k j x e m. body.left _ m;
            numbers = λ k j x e m. ⊎_elim (λ d. d) (λ d. shared_mapping f g h.body h.right k j x e d) (body.only _ m);
          })
          (record {
            source_rises = t.source.rises;
            whole_rises = ps.rises;
            body_rises = t.rises;
            whole_body_rises = rises;
            target = target.right;
            target_rises = pt.rises;
            mappings = λ k j x e m. body.right _ m;
            numbers = λ k j x e m. ⊎_elim (λ d. shared_mapping g f (agree_sym item_key f.body g.body h.body) h.left k j x e d) (λ d. d) (body.only _ m);
          })
          source target body (λ k e. in_union f.source g.source k e);
    }

-- What is left of a sound translation without a language is sound.
module _ (f : Translation) (l : Language) (s : Sound f) where
  left_source : Language
  left_source = language_without f.source l

  left_proper : Proper left_source
  unfolding left_source
  left_proper = proper_without f.source l s.source

  left_mem : (a : Entry) → Mem a left_source → Mem a f.source
  unfolding left_source language_without without
  left_mem a m = (keep_cases _ a f.source m).0

  left_part : Part f (translation_without f l)
  unfolding translation_without left_source is_of
  left_part = record {
    source_rises = s.source.rises;
    whole_rises = left_proper.rises;
    body_rises = s.rises;
    whole_body_rises = keep_from item_key (is_of left_source) 0 f.body s.rises;
    target = λ a m. m;
    target_rises = s.target.rises;
    mappings = λ k j t e m. mem_keep (is_of left_source) (mapping k j t) f.body m e;
    numbers = λ k j t e m. (keep_cases (is_of left_source) (mapping k j t) f.body m).0;
  }

  without_fits : Fitting (translation_without f l)
  unfolding translation_without left_source is_of
  without_fits = record {
    maps = λ k e. let t = s.fits.maps k (in_larger left_source f.source left_mem k e) in (t.0, mem_keep (is_of left_source) (mapping k 0 t.0) f.body t.1 e);
    maps_only = λ k j t m. let x = keep_cases (is_of left_source) (mapping k j t) f.body m in (x.1, (s.fits.maps_only k j t x.0).1);
    classes = λ k j t c m e. part_class f (translation_without f l) s.fits left_part k j t c (left_mem _ (range_mem left_source k c e)) m;
    clauses = λ r p j t ks m n.
        let c = part_clause f (translation_without f l) s.fits left_part r p j t ks (left_mem _ m) n in
        (c.0, mem_keep (is_of left_source) (clause r p j c.0) f.body c.1 (is_some_lem (arguments_of left_source r p) (mem_arguments left_source left_proper.rises r p ks m)));
    clauses_only = λ r p j c m.
        let k = keep_cases (is_of left_source) (clause r p j c) f.body m in
        let x = some_is (arguments_of left_source r p) k.1 in
        let n = arguments_mem left_source r p x.0 x.1 in
        let t = (s.fits.clauses_only r p j c k.0).1 in
        ((x.0, n), (t.0, mem_keep (is_of left_source) (mapping r j t.0) f.body t.1 (result_in left_source r p x.0 n)));
    codes = λ r p j c m.
        let k = keep_cases (is_of left_source) (clause r p j c) f.body m in
        let x = some_is (arguments_of left_source r p) k.1 in
        let n = arguments_mem left_source r p x.0 x.1 in
        (_, part_code f (translation_without f l) s.fits left_part r p j x.0 c (left_mem _ n) n k.0);
  }

  pub sound_without : Sound (translation_without f l)
  unfolding translation_without left_source
  sound_without = record {
    source = left_proper;
    target = s.target;
    whole = λ a m. s.whole a (keep_cases (is_of left_source) a f.body m).0;
    rises = keep_from item_key (is_of left_source) 0 f.body s.rises;
    fits = without_fits;
  }
