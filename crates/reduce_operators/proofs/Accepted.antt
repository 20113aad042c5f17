-- What is known of languages and translations in their own bytes, and of what is made of them.
use Rattle.std.specs.Prelude.{Option}
use Prim.Native.Nat.{ℕ, ◌≤◌, ◌<◌}
use mathlib.Core.Path.{◌≡◌, refl, sym, ap, subst, ◌∙◌}
use mathlib.Core.Bool.{Bool, true, false, not, ◌||◌}
use mathlib.Core.List.{List, ◌++◌, map}
use native.Mathlib.Omega.{arith}
use mathlib.Core.Option.{some}
use lib.ListN.{length, length-append}
use lib.Seq.{slice}
use lib.Dec.{ltb}
use borrow.Author.Tests.{le-ltb, lt-ltb}
use Rattle.outcome.specs.Outcome.{Result, value, refused, refuse_if, Outcome}
use Rattle.outcome.specs.declared.Reason.TheVariants.{BrokenField, ValueTooLarge}
use Rattle.format_fields.specs.Fields.{field, byte_at, encode_field, encode_fields}
use Rattle.format_fields.specs.Lists.{any, same_numbers}
use Rattle.format_fields.proofs.Truth.{Mem, or_right, false_any, all_mem, numbers_equal, equal_numbers}
use Rattle.format_fields.proofs.Keyed.{is_rising}
use Rattle.format_fields.proofs.Codec.{Bytes, bytes_from, refused_value}
use Rattle.format_language.specs.Language.{Language, entry_key}
use Rattle.format_language.specs.LanguageFile.{entries_of, encode_language, language_of}
use Rattle.format_language.proofs.Codec.{entry_whole, GoodLanguage, language_good, language_back}
use Rattle.format_language.proofs.Lookup.{clashes_none}
use Rattle.format_translation.specs.Translation.{Item, mapping, clause, Translation, item_key}
use Rattle.format_translation.specs.TranslationFile.{item_field, encode_translation, translation_limit, translation_of}
use Rattle.format_translation.specs.Inner.Parts.{source_in, target_in, body_in}
use Rattle.format_translation.proofs.Codec.{item_whole, rises_parts, translation_whole}
use Rattle.reduce_operators.specs.Limits.{is_deep, code_is_deep, language_exceeds, translation_exceeds}
use Rattle.reduce_operators.specs.Inner.Values.{as_written, exact_language, exact_translation, language_bytes, translation_bytes, Gives}
use Rattle.reduce_operators.proofs.Proper.{Proper, Sound, GoodTranslation, formed_sound}
use Rattle.format_fields.specs.Inner.Writing.{Stores}
use Rattle.reduce_operators.specs.Inner.Assembled.{assembled, limited}
use Rattle.reduce_operators.proofs.Given.{assembled_is, stored_gives, slice_whole}
use Rattle.reduce_operators.proofs.Encoded.{source_in_lem, target_in_lem, body_at}

-- What is known of the bytes of a slice.
pub slice_bytes : (s : List ℕ) → ((i : ℕ) → byte_at s i < 256) → Bytes s
slice_bytes s h = bytes_from s (λ i k. h i)

-- A value in its own bytes: it is what they are read as, and they are what it is written in.
module _ {A : Type 0} (encode : A → List ℕ) (s : List ℕ) where
  written_value : (r : Result A) (a : A) → as_written encode s r ≡ value a → (r ≡ value a) × (s ≡ encode a)
  written_value (refused x) a e = refused_value e
  written_value (value b) a e = go (same_numbers s (encode b)) refl e
    where
      go : (t : Bool) → same_numbers s (encode b) ≡ t → refuse_if (not t) BrokenField (value b) ≡ value a → (value b ≡ value a) × (s ≡ encode a)
      go false h d = refused_value d
      go true h d = let z : b ≡ a = cc in (d, numbers_equal s (encode b) h ∙ ap encode z)

  value_written : (r : Result A) (a : A) → r ≡ value a → s ≡ encode a → as_written encode s r ≡ value a
  value_written r a e d = rw (e, ← d, equal_numbers s)

pub exact_language_lem : (s : List ℕ) (l : Language) → exact_language s ≡ value l → (language_of s ≡ value l) × (s ≡ encode_language l)
unfolding exact_language
exact_language_lem s l e = written_value encode_language s (language_of s) l e

pub language_exact : (s : List ℕ) (l : Language) → language_of s ≡ value l → s ≡ encode_language l → exact_language s ≡ value l
unfolding exact_language
language_exact s l e d = value_written encode_language s (language_of s) l e d

pub exact_translation_lem : (s : List ℕ) (f : Translation) → exact_translation s ≡ value f → (translation_of s ≡ value f) × (s ≡ encode_translation f)
unfolding exact_translation
exact_translation_lem s f e = written_value encode_translation s (translation_of s) f e

-- What is asked of a translation where it is cut into its parts.
pub accepted_there : (s : List ℕ) → (f : Translation) × (exact_translation s ≡ value f) → (f : Translation) × (translation_of s ≡ value f)
accepted_there s h = (h.0, (exact_translation_lem s h.0 h.1).0)

pub translation_exact : (s : List ℕ) (f : Translation) → translation_of s ≡ value f → s ≡ encode_translation f → exact_translation s ≡ value f
unfolding exact_translation
translation_exact s f e d = value_written encode_translation s (translation_of s) f e d

-- A language in its own bytes, which are within the limit.
module _ (s : List ℕ) (l : Language) (e : exact_language s ≡ value l) where
  pub exact_good : GoodLanguage l
  exact_good = (language_good s l (exact_language_lem s l e).0).1

  pub language_entries : entries_of s ≡ some l
  language_entries = (language_good s l (exact_language_lem s l e).0).0

  pub language_written : s ≡ encode_language l
  language_written = (exact_language_lem s l e).1

  pub language_short : length s ≤ 1024
  language_short = rw language_written exact_good.short

-- The parts of a translation in its own bytes are the bytes of its source, target and body, and the first two are accepted.
module _ (s : List ℕ) (f : Translation) (e : exact_translation s ≡ value f) where
  spelt : s ≡ assembled (encode_language f.source) (encode_language f.target) (encode_fields (map item_field f.body))
  spelt = (exact_translation_lem s f e).1 ∙ sym (assembled_is f)

  pub source_written : source_in s ≡ encode_language f.source
  source_written = ap source_in spelt ∙ source_in_lem _ _ _

  pub target_written : target_in s ≡ encode_language f.target
  target_written = ap target_in spelt ∙ target_in_lem _ _ _

  pub body_written : body_in s ≡ encode_fields (map item_field f.body)
  body_written = ap body_in spelt ∙ body_at _ _ _

  pub source_accepted : (x : List ℕ) → x ≡ source_in s → exact_language x ≡ value f.source
  source_accepted x i =
      let w = (translation_whole s f (exact_translation_lem s f e).0).1 in
      let d : x ≡ encode_language f.source = i ∙ source_written in
      language_exact x f.source
      (rw d (language_back f.source (record { whole = w.source; rises = (rises_parts f w.rises).0; apart = w.source_apart; short = w.source_short }))) d

  pub target_accepted : (x : List ℕ) → x ≡ target_in s → exact_language x ≡ value f.target
  target_accepted x i =
      let w = (translation_whole s f (exact_translation_lem s f e).0).1 in
      let d : x ≡ encode_language f.target = i ∙ target_written in
      language_exact x f.target
      (rw d (language_back f.target (record { whole = w.target; rises = (rises_parts f w.rises).1; apart = w.target_apart; short = w.target_short }))) d

-- What is told of bytes within the limit, said of the language that they are.
pub language_given : (l : Language) (v o o' : List ℕ) (r : Outcome) → v ≡ encode_language l
    → Gives (refuse_if (ltb 1024 (length v)) ValueTooLarge (value v)) o o' r → Gives (language_bytes (value l)) o o' r
unfolding language_exceeds
language_given l v o o' r e g = rw e at g

-- No code of a sound translation goes too deep.
pub code_shallow : (f : Translation) → Sound f → (a : Item) → Mem a f.body → code_is_deep f a ≡ false
unfolding code_is_deep
code_shallow f s (mapping k j t) m = refl
code_shallow f s (clause r p j c) m = ap is_deep (s.fits.codes r p j c m).1

or_none : (a b c : Bool) → (a || (b || (c || false))) ≡ (a || (b || c))
or_none true b c = refl
or_none false true c = refl
or_none false false true = refl
or_none false false false = refl

-- A sound translation exceeds a limit by its lengths alone.
pub sound_exceeds : (f : Translation) → Sound f
    → translation_exceeds f ≡ (language_exceeds f.source || (language_exceeds f.target || ltb translation_limit (length (encode_translation f))))
unfolding translation_exceeds
sound_exceeds f s =
    rw (false_any (code_is_deep f) f.body (code_shallow f s))
    (or_none (language_exceeds f.source) (language_exceeds f.target) (ltb translation_limit (length (encode_translation f))))

-- The bytes of a sound translation whose languages are within their limits.
pub sound_bytes : (f : Translation) → Sound f → length (encode_language f.source) ≤ 1024 → length (encode_language f.target) ≤ 1024
    → refuse_if (ltb 4096 (length (encode_translation f))) ValueTooLarge (value (encode_translation f)) ≡ translation_bytes (value f)
unfolding language_exceeds
sound_bytes f s h k = rw (sound_exceeds f s, le-ltb 1024 (length (encode_language f.source)) h, le-ltb 1024 (length (encode_language f.target)) k)

-- A translation exceeds a limit where its source, its target or its body does.
or_third : (a b c d : Bool) → c ≡ true → (a || (b || (c || d))) ≡ true
or_third true b c d e = refl
or_third false true c d e = refl
or_third false false c d e = rw e

module _ (f : Translation) where
  pub source_over : 1024 < length (encode_language f.source) → translation_bytes (value f) ≡ refused ValueTooLarge
  unfolding translation_exceeds language_exceeds
  source_over h = rw (lt-ltb 1024 (length (encode_language f.source)) h)

  pub target_over : 1024 < length (encode_language f.target) → translation_bytes (value f) ≡ refused ValueTooLarge
  unfolding translation_exceeds language_exceeds
  target_over h =
      let z : (language_exceeds f.source || true) ≡ true = or_right (language_exceeds f.source) true refl in
      rw (lt-ltb 1024 (length (encode_language f.target)) h) (rw z)

  pub whole_over : 4096 < length (encode_translation f) → translation_bytes (value f) ≡ refused ValueTooLarge
  unfolding translation_exceeds
  whole_over h =
      rw (or_third (language_exceeds f.source) (language_exceeds f.target) (ltb translation_limit (length (encode_translation f))) (any (code_is_deep f) f.body) (lt-ltb 4096 (length (encode_translation f)) h))

  -- Its body is no longer than it.
  pub body_in_lem : length (encode_fields (map item_field f.body)) ≤ length (encode_translation f)
  unfolding assembled
  body_in_lem =
      let s = encode_language f.source in
      let t = encode_language f.target in
      let b = encode_fields (map item_field f.body) in
      omega (arith, ap length (assembled_is f), length-append (encode_field (field 0x20 s)) (encode_field (field 0x21 t) ++ b), length-append (encode_field (field 0x21 t)) b)

  pub body_over : 4096 < length (encode_fields (map item_field f.body)) → translation_bytes (value f) ≡ refused ValueTooLarge
  body_over h = whole_over (omega (arith, body_in_lem))

-- What is told of bytes within the limit, said of the translation that they are.
module _ (f : Translation) (s : Sound f) (h : length (encode_language f.source) ≤ 1024) (k : length (encode_language f.target) ≤ 1024) where
  pub translation_given : (v o o' : List ℕ) (r : Outcome) → v ≡ encode_translation f
      → Gives (refuse_if (ltb 4096 (length v)) ValueTooLarge (value v)) o o' r → Gives (translation_bytes (value f)) o o' r
  translation_given v o o' r e g =
      subst (λ (x : Result (List ℕ)). Gives x o o' r) (ap (λ (x : List ℕ). refuse_if (ltb 4096 (length x)) ValueTooLarge (value x)) e ∙ sound_bytes f s h k) g

  pub assembled_given : (source target body o o' : List ℕ) (r : Outcome)
      → source ≡ encode_language f.source → target ≡ encode_language f.target → body ≡ encode_fields (map item_field f.body)
      → Gives (refuse_if (ltb 4096 (length (assembled source target body))) ValueTooLarge (value (assembled source target body))) o o' r
      → Gives (translation_bytes (value f)) o o' r
  assembled_given source target body o o' r a b c g =
      let e : assembled source target body ≡ encode_translation f = cc (assembled_is f) in
      translation_given (assembled source target body) o o' r e g

-- An accepted translation is good.
module _ (s : List ℕ) (f : Translation) (e : translation_of s ≡ value f) where
  pub accepted_good : GoodTranslation f
  accepted_good =
      let (p, w, d) = translation_whole s f e in
      let (i, j, k) = rises_parts f w.rises in
      let source : Proper f.source = record { whole = all_mem entry_whole f.source w.source; rises = is_rising entry_key f.source i; apart = clashes_none f.source f.source w.source_apart } in
      let target : Proper f.target = record { whole = all_mem entry_whole f.target w.target; rises = is_rising entry_key f.target j; apart = clashes_none f.target f.target w.target_apart } in
      record {
        sound = (formed_sound f f source target (all_mem item_whole f.body w.body) (is_rising item_key f.body k) d).0;
        source_short = w.source_short;
        target_short = w.target_short;
        short = w.short;
      }

-- The answer of a copy.
module _ (o o' : List ℕ) (long : length o' ≡ length o) (x : Option ℕ) (r : Outcome) where
  pub language_copied : (l : Language) (v : List ℕ) → v ≡ encode_language l → 1024 ≤ length o → Stores v o o' 0 x → r ≡ limited 1024 x
      → Gives (language_bytes (value l)) o o' r
  language_copied l v e h w d = language_given l v o o' r e (stored_gives 1024 v o o' h long x r w d)

  pub translation_copied : (s : List ℕ) (f : Translation) → exact_translation s ≡ value f
      → 4096 ≤ length o → Stores (slice 0 (length s) s) o o' 0 x → r ≡ limited 4096 x → Gives (translation_bytes (value f)) o o' r
  translation_copied s f e h w d =
      let y = exact_translation_lem s f e in
      let g = accepted_good s f y.0 in
      translation_given f g.sound g.source_short g.target_short (slice 0 (length s) s) o o' r (slice_whole s ∙ y.1)
      (stored_gives 4096 (slice 0 (length s) s) o o' h long x r w d)
