-- Languages and translations that a file can hold, by their members, but for their sizes.
use Prim.Native.Nat.{ℕ, ◌≤◌, ◌<◌}
use mathlib.Core.Path.{◌≡◌, ◌∙◌}
use mathlib.Core.Logic.{⊎_elim}
use mathlib.Core.Bool.{Bool, true, ◌&&◌}
use native.Mathlib.Omega.{arith}
use lib.ListN.{length}
use lib.Dec.{leb, eqb}
use borrow.Author.Tests.{ltb-true, eqb-true}
use Rattle.format_fields.specs.Lists.{all, any, keep}
use Rattle.outcome.specs.Outcome.{value}
use Rattle.format_fields.proofs.Truth.{Mem, and_both, both_and, or_cases, all_mem, mem_all, any_mem, keep_cases}
use Rattle.format_fields.proofs.Keyed.{Rising, is_rising, rising_is, keep_from}
use Rattle.format_language.specs.Language.{Entry, class, production, Language, entry_key, is_in, mentions}
use Rattle.format_language.specs.LanguageFile.{is_kind, range_whole, encode_language, language_limit}
use Rattle.format_language.proofs.Lookup.{in_mem, NoClash, clashes_none, none_clashes}
use Rattle.format_language.proofs.Codec.{entry_whole, GoodLanguage}
use Rattle.tree_reader.proofs.RoundTrip.{Apart}
use Rattle.tree_reader.proofs.Larger as Larger
use Rattle.format_translation.specs.Translation.{Item, Translation, item_key}
use Rattle.format_translation.specs.TranslationFile.{encode_translation, translation_limit, all_rising, translation_of}
use Rattle.format_translation.specs.WellFormed.{well_formed}
use Rattle.format_translation.proofs.Codec.{item_whole, WholeTranslation, translation_back}
use Rattle.format_translation.proofs.Fitting.{Fitting, KindsBelow, fit_tests, formed_fits}

-- A language whose entries a file can hold, rising, no class a result.
pub record Proper (l : Language) : Type 0 where
  pub whole : (a : Entry) → Mem a l → entry_whole a ≡ true
  pub rises : Rising entry_key l
  pub apart : NoClash l l

pub good_proper : (l : Language) → GoodLanguage l → Proper l
good_proper l g = record {
  whole = all_mem entry_whole l g.whole;
  rises = is_rising entry_key l g.rises;
  apart = clashes_none l l g.apart;
}

pub proper_good : (l : Language) → Proper l → length (encode_language l) ≤ language_limit → GoodLanguage l
proper_good l p h = record {
  whole = mem_all entry_whole l p.whole;
  rises = rising_is entry_key l p.rises;
  apart = none_clashes l l p.apart;
  short = h;
}

-- In a proper language a kind that has productions is no class.
pub proper_apart : (l : Language) → Proper l → Apart l
proper_apart l p = Larger.apart l (none_clashes l l p.apart)

-- What is kept of a proper language is proper.
pub proper_keep : (f : Entry → Bool) (l : Language) → Proper l → Proper (keep f l)
proper_keep f l p = record {
  whole = λ a m. p.whole a (keep_cases f a l m).0;
  rises = keep_from entry_key f 0 l p.rises;
  apart = λ k c q ks m n. p.apart k c q ks (keep_cases f _ l m).0 (keep_cases f _ l n).0;
}

-- The kinds in a proper language are kinds.
kind_below : (a : Entry) (k : ℕ) → entry_whole a ≡ true → mentions k a ≡ true → k < 32
unfolding entry_whole mentions
kind_below (class j c) k w e = omega (arith, ltb-true j 32 (and_both (is_kind j) (range_whole c) w).0, eqb-true j k e)
kind_below (production r p ks) k w e =
    let u = and_both (is_kind r) (leb (length ks) 8 && all is_kind ks) w in
    let v = and_both (leb (length ks) 8) (all is_kind ks) u.1 in
    ⊎_elim
    (λ q. omega (arith, ltb-true r 32 u.0, eqb-true r k q))
    (λ q.
    let m = any_mem (λ a. eqb a k) ks q in
    omega (arith, ltb-true m.0 32 (all_mem is_kind ks v.1 m.0 m.1), eqb-true m.0 k m.2))
    (or_cases (eqb r k) (any (λ a. eqb a k) ks) e)

pub proper_below : (l : Language) → Proper l → (k : ℕ) → is_in l k ≡ true → k < 32
proper_below l p k e = let r = in_mem l k e in kind_below r.0 k (p.whole r.0 r.1) r.2

-- A translation that a file can hold and that is well formed, but for its size.
pub record Sound (f : Translation) : Type 0 where
  pub source : Proper f.source
  pub target : Proper f.target
  pub whole : (a : Item) → Mem a f.body → item_whole a ≡ true
  pub rises : Rising item_key f.body
  pub fits : Fitting f

-- The kinds of a translation are kinds.
pub kinds_below : (f : Translation) → Proper f.source → KindsBelow f
kinds_below f p = proper_below f.source p

-- A well-formed translation is sound.
pub formed_sound : (f g : Translation) → Proper f.source → Proper f.target → ((a : Item) → Mem a f.body → item_whole a ≡ true)
    → Rising item_key f.body → well_formed f ≡ value g → Sound f × (f ≡ g)
formed_sound f g s t w r e =
    let h = formed_fits f g (kinds_below f s) r e in
    (record { source = s; target = t; whole = w; rises = r; fits = h.0 }, h.1)

-- A value of a translation term: sound and within the limits.
pub record GoodTranslation (f : Translation) : Type 0 where
  pub sound : Sound f
  pub source_short : length (encode_language f.source) ≤ language_limit
  pub target_short : length (encode_language f.target) ≤ language_limit
  pub short : length (encode_translation f) ≤ translation_limit

all_rise : (f : Translation) → Sound f → all_rising f ≡ true
unfolding all_rising
all_rise f s =
    both_and _ _ (rising_is entry_key f.source s.source.rises)
    (both_and _ _ (rising_is entry_key f.target s.target.rises) (rising_is item_key f.body s.rises))

pub good_whole : (f : Translation) → GoodTranslation f → WholeTranslation f
good_whole f g = record {
  source = mem_all entry_whole f.source g.sound.source.whole;
  target = mem_all entry_whole f.target g.sound.target.whole;
  body = mem_all item_whole f.body g.sound.whole;
  rises = all_rise f g.sound;
  source_apart = none_clashes f.source f.source g.sound.source.apart;
  target_apart = none_clashes f.target f.target g.sound.target.apart;
  source_short = g.source_short;
  target_short = g.target_short;
  short = g.short;
}

-- A good translation that is written is read back, and is well formed.
pub good_back : (f : Translation) → GoodTranslation f → translation_of (encode_translation f) ≡ value f
good_back f g =
    translation_back f (good_whole f g)
    ∙ fit_tests f (kinds_below f g.sound.source) g.sound.rises g.sound.source.rises g.sound.fits
