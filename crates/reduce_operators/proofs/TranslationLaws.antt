-- The operators on translations in their own bytes: a law for each return.
use Rattle.std.specs.Prelude.{Err, None, Option, Some}
use Prim.Native.Nat.{ℕ, ◌≤◌}
use mathlib.Core.Path.{◌≡◌, refl, sym, ap, subst, ◌∙◌}
use mathlib.Core.Bool.{Bool, true, false, ◌&&◌}
use mathlib.Core.List.{List, map}
use mathlib.Core.Option.{some}
use native.Mathlib.Omega.{arith}
use lib.ListN.{length, take}
use lib.Dec.{ltb}
use Rattle.outcome.specs.Outcome.{value, refuse_if, Outcome}
use Rattle.outcome.specs.declared.Reason.TheVariants.{SumUnfit, ValueTooLarge}
use Rattle.format_fields.specs.Fields.{encode_fields}
use Rattle.format_fields.specs.Lists.{all}
use Rattle.format_fields.specs.Keyed.{agree}
use Rattle.format_fields.proofs.Truth.{mem_all}
use Rattle.format_fields.proofs.Keyed.{rising_is}
use Rattle.format_language.specs.Language.{Language, entry_key}
use Rattle.format_language.specs.LanguageFile.{encode_language}
use Rattle.format_language.specs.Inner.Entries.{RisingEntries}
use Rattle.format_language.proofs.Codec.{entry_whole}
use Rattle.format_translation.specs.Translation.{Body, Translation, item_key, same_item}
use Rattle.format_translation.specs.TranslationFile.{item_field, body_of, encode_translation, translation_of}
use Rattle.format_translation.proofs.Codec.{item_whole, body_encode, rising_grouped}
use Rattle.format_translation.specs.Inner.Parts.{source_in, target_in, body_in}
use Rattle.reduce_operators.specs.Operators.{languages_fit, language_without, numbers_agree, translations_fit, translation_union, translation_sum, translation_without}
use Rattle.format_fields.specs.Inner.Writing.{Stores}
use Rattle.reduce_merge.specs.Inner.Parts.{Sorted, SortedEntries, united, removed, agrees, fit_together}
use Rattle.reduce_operators.specs.Inner.Numbers.{number_in}
use Rattle.reduce_operators.specs.Inner.Values.{exact_language, exact_translation, translation_bytes, Gives}
use Rattle.reduce_operators.proofs.Proper.{GoodTranslation}
use Rattle.reduce_operators.proofs.Encoded.{body_bytes, sorted_entries, rising_language, united_languages, removed_language, languages_fit_lem, sorted_body, united_bodies, bodies_agree}
use Rattle.reduce_operators.proofs.Numbering.{numbers_agree_lem}
use Rattle.reduce_operators.proofs.SumSound.{fit_translations, sound_union}
use Rattle.reduce_operators.specs.Inner.Assembled.{assembled}
use Rattle.reduce_operators.specs.Inner.EncodedParts.{EncodedParts}
use Rattle.reduce_operators.specs.Inner.Kept.{Left}
use Rattle.reduce_operators.proofs.Given.{gives_refused, stored_first, stored_short}
use Rattle.reduce_operators.proofs.Accepted.{exact_translation_lem, accepted_good, language_written, source_written, target_written, body_written, assembled_given, source_over, target_over, body_in_lem, body_over}

-- The parts of a translation in its own bytes.
pub accepted_spelt : (s : List ℕ) (f : Translation) → exact_translation s ≡ value f
    → (x y z : List ℕ) → x ≡ source_in s → y ≡ target_in s → z ≡ body_in s → EncodedParts x y z f
accepted_spelt s f e x y z i j k = record {
  source = i ∙ source_written s f e;
  target = j ∙ target_written s f e;
  body = k ∙ body_written s f e;
  accepted = let w = exact_translation_lem s f e in subst (λ (x : List ℕ). translation_of x ≡ value f) w.1 w.0;
}

-- What is known of parts.
module _ (s t b : List ℕ) (f : Translation) (w : EncodedParts s t b f) where
  pub spelt_good : GoodTranslation f
  spelt_good = accepted_good (encode_translation f) f w.accepted

  pub source_entries : SortedEntries s
  source_entries = subst SortedEntries (sym w.source) (sorted_entries f.source (mem_all entry_whole f.source spelt_good.sound.source.whole) (rising_is entry_key f.source spelt_good.sound.source.rises))

  pub target_entries : SortedEntries t
  target_entries = subst SortedEntries (sym w.target) (sorted_entries f.target (mem_all entry_whole f.target spelt_good.sound.target.whole) (rising_is entry_key f.target spelt_good.sound.target.rises))

  pub source_sorted : Sorted 0x11 s
  source_sorted = source_entries.sorted

  pub target_sorted : Sorted 0x11 t
  target_sorted = target_entries.sorted

  pub body_sorted : Sorted 0x22 b
  body_sorted = subst (Sorted 0x22) (sym w.body) (sorted_body f.body f.body (rising_is item_key f.body spelt_good.sound.rises))

  pub body_read : body_of b ≡ some f.body
  body_read =
      let h = mem_all item_whole f.body spelt_good.sound.whole in
      ap body_of w.body ∙ body_encode f.body h (rising_grouped f.body (rising_is item_key f.body spelt_good.sound.rises) h)

  pub body_short : length b ≤ 32768
  body_short = omega (arith, ap length w.body, body_in_lem f, spelt_good.short)

  pub source_rises : RisingEntries s
  source_rises =
      let g = spelt_good.sound.source in
      subst RisingEntries (sym w.source) (rising_language f.source (mem_all entry_whole f.source g.whole) (rising_is entry_key f.source g.rises))

  pub target_rises : RisingEntries t
  target_rises =
      let g = spelt_good.sound.target in
      subst RisingEntries (sym w.target) (rising_language f.target (mem_all entry_whole f.target g.whole) (rising_is entry_key f.target g.rises))

-- Sums
module _ (s t x u v y : List ℕ) (f g : Translation) (p : EncodedParts s t x f) (q : EncodedParts u v y g) where
  sources_fit : fit_together s u ≡ languages_fit f.source g.source
  sources_fit =
      ap (λ (a : List ℕ). fit_together a u) p.source
      ∙ (ap (fit_together (encode_language f.source)) q.source
      ∙ languages_fit_lem f.source g.source (mem_all entry_whole f.source (spelt_good s t x f p).sound.source.whole) (mem_all entry_whole g.source (spelt_good u v y g q).sound.source.whole))

  targets_fit : fit_together t v ≡ languages_fit f.target g.target
  targets_fit =
      ap (λ (a : List ℕ). fit_together a v) p.target
      ∙ (ap (fit_together (encode_language f.target)) q.target
      ∙ languages_fit_lem f.target g.target (mem_all entry_whole f.target (spelt_good s t x f p).sound.target.whole) (mem_all entry_whole g.target (spelt_good u v y g q).sound.target.whole))

  bodies_fit : agrees 0x22 x y ≡ agree item_key same_item f.body g.body
  bodies_fit =
      ap (λ (a : List ℕ). agrees 0x22 a y) p.body
      ∙ (ap (agrees 0x22 (body_bytes f.body)) q.body ∙ bodies_agree f.body g.body)

  pub numbers_fit : (n : Bool) → ((b c : Body) → body_of x ≡ some b → body_of y ≡ some c → n ≡ (all (number_in c) b && all (number_in b) c)) → n ≡ numbers_agree f g
  numbers_fit n e =
      e f.body g.body (body_read s t x f p) (body_read u v y g q)
      ∙ numbers_agree_lem f g (spelt_good s t x f p).sound (spelt_good u v y g q).sound

  fit_is : translations_fit f g ≡ (fit_together s u && (fit_together t v && (numbers_agree f g && agrees 0x22 x y)))
  unfolding translations_fit
  fit_is = rw (sources_fit, targets_fit, bodies_fit)

  -- parts_fit
  module _ (a : Bool) (ea : a ≡ fit_together s u) where
    pub sources_unfit : a ≡ false → false ≡ translations_fit f g
    sources_unfit h = cc fit_is

    module _ (ha : a ≡ true) (b : Bool) (eb : b ≡ fit_together t v) where
      pub targets_unfit : b ≡ false → false ≡ translations_fit f g
      targets_unfit h = cc fit_is

      module _ (hb : b ≡ true) (n : Bool) (en : n ≡ numbers_agree f g) where
        pub numbers_unfit : n ≡ false → false ≡ translations_fit f g
        numbers_unfit h = cc fit_is

        pub all_fit : n ≡ true → (c : Bool) → c ≡ agrees 0x22 x y → c ≡ translations_fit f g
        all_fit h c e = cc fit_is

  -- unite
  source_is : united 0x11 s u ≡ encode_language (translation_union f g).source
  unfolding translation_union
  source_is = ap (λ (a : List ℕ). united 0x11 a u) p.source ∙ (ap (united 0x11 (encode_language f.source)) q.source ∙ united_languages f.source g.source)

  target_is : united 0x11 t v ≡ encode_language (translation_union f g).target
  unfolding translation_union
  target_is = ap (λ (a : List ℕ). united 0x11 a v) p.target ∙ (ap (united 0x11 (encode_language f.target)) q.target ∙ united_languages f.target g.target)

  body_is : united 0x22 x y ≡ encode_fields (map item_field (translation_union f g).body)
  unfolding translation_union
  body_is = ap (λ (a : List ℕ). united 0x22 a y) p.body ∙ (ap (united 0x22 (body_bytes f.body)) q.body ∙ united_bodies f.body g.body)

  -- a part of the union did not fit into n bytes
  module _ (o d d' : List ℕ) (r : Option ℕ) (full : r ≡ None) where
    pub source_too_long : length d ≡ 1024 → Stores (united 0x11 s u) d d' 0 r → Gives (translation_bytes (value (translation_union f g))) o o (Err ValueTooLarge)
    source_too_long n w = gives_refused _ o o ValueTooLarge (source_over (translation_union f g) (omega (arith, w.full full, ap length source_is))) refl

    pub target_too_long : length d ≡ 1024 → Stores (united 0x11 t v) d d' 0 r → Gives (translation_bytes (value (translation_union f g))) o o (Err ValueTooLarge)
    target_too_long n w = gives_refused _ o o ValueTooLarge (target_over (translation_union f g) (omega (arith, w.full full, ap length target_is))) refl

    pub body_too_long : length d ≡ 4096 → Stores (united 0x22 x y) d d' 0 r → Gives (translation_bytes (value (translation_union f g))) o o (Err ValueTooLarge)
    body_too_long n w = gives_refused _ o o ValueTooLarge (body_over (translation_union f g) (omega (arith, w.full full, ap length body_is))) refl

  -- the union of the parts, put together
  pub united_given : translations_fit f g ≡ true
      → (i j k : ℕ) (a a' b b' c c' : List ℕ) (ra rb rc : Option ℕ)
      → length a ≡ 1024 → Stores (united 0x11 s u) a a' 0 ra → ra ≡ Some i
      → length b ≡ 1024 → Stores (united 0x11 t v) b b' 0 rb → rb ≡ Some j
      → Stores (united 0x22 x y) c c' 0 rc → rc ≡ Some k
      → (o o' : List ℕ) (r : Outcome)
      → Gives (refuse_if (ltb 4096 (length (assembled (take i a') (take j b') (take k c')))) ValueTooLarge (value (assembled (take i a') (take j b') (take k c')))) o o' r
      → Gives (translation_bytes (value (translation_union f g))) o o' r
  united_given h i j k a a' b b' c c' ra rb rc na wa ea nb wb eb wc ec o o' r w =
      let m = sound_union f g (spelt_good s t x f p).sound (spelt_good u v y g q).sound (fit_translations f g h) in
      let short : length (encode_language (translation_union f g).source) ≤ 1024 = omega (arith, (wa.done i ea).fits, (wa.done i ea).end, ap length source_is) in
      let short2 : length (encode_language (translation_union f g).target) ≤ 1024 = omega (arith, (wb.done j eb).fits, (wb.done j eb).end, ap length target_is) in
      assembled_given (translation_union f g) m short short2 (take i a') (take j b') (take k c') o o' r
      (stored_first _ a a' i ra wa ea ∙ source_is) (stored_first _ b b' j rb wb eb ∙ target_is) (stored_first _ c c' k rc wc ec ∙ body_is) w

-- sum_parts
module _ (f g : Translation) (x : Bool) (e : x ≡ translations_fit f g) where
  pub unfit_given : x ≡ false → (o : List ℕ) → Gives (translation_bytes (translation_sum f g)) o o (Err SumUnfit)
  unfolding translation_sum
  unfit_given h o =
      let z : translations_fit f g ≡ false = sym e ∙ h in
      gives_refused (translation_bytes (translation_sum f g)) o o SumUnfit (rw z refl) refl

  pub fit_given : x ≡ true → (o o' : List ℕ) (r : Outcome) → (translations_fit f g ≡ true → Gives (translation_bytes (value (translation_union f g))) o o' r)
      → Gives (translation_bytes (translation_sum f g)) o o' r
  unfolding translation_sum
  fit_given h o o' r w = let z : translations_fit f g ≡ true = sym e ∙ h in rw z (w z)

-- "Without"
module _ (s t x b : List ℕ) (f : Translation) (m : Language) (p : EncodedParts s t x f) (e : exact_language b ≡ value m) where
  left_is : removed 0x11 s b ≡ encode_language (language_without f.source m)
  left_is =
      ap (λ (a : List ℕ). removed 0x11 a b) p.source
      ∙ (ap (removed 0x11 (encode_language f.source)) (language_written b m e) ∙ removed_language f.source m)

  module _ (d d' : List ℕ) (r : Option ℕ) (n : length d ≡ 1024) (w : Stores (removed 0x11 s b) d d' 0 r) where
    pub left_too_long : (o : List ℕ) → r ≡ None → Gives (translation_bytes (value (translation_without f m))) o o (Err ValueTooLarge)
    unfolding translation_without
    left_too_long o full = gives_refused _ o o ValueTooLarge (source_over (translation_without f m) (omega (arith, w.full full, ap length left_is))) refl

    pub left_spelt : (i : ℕ) → r ≡ Some i → length d' ≡ length d → Left (take i d') t x f m
    left_spelt i q l = record {
      source = stored_first _ d d' i r w q ∙ left_is;
      target = p.target;
      body = p.body;
      accepted = p.accepted;
      short = omega (arith, stored_short _ d d' i r w q l);
    }
