-- What the join gives: the check of the joined value refuses it exactly if it exceeds a limit.
use Rattle.std.specs.Prelude.{Err, None, Ok, Option}
use Prim.Native.Nat.{ℕ, ◌≤◌, ◌<◌}
use mathlib.Core.Path.{◌≡◌, refl, sym, ap, subst, ◌∙◌}
use mathlib.Core.Bool.{Bool, true, false, ◌&&◌}
use mathlib.Core.Option.{some}
use mathlib.Core.List.{List}
use native.Mathlib.Omega.{arith}
use lib.ListN.{length, take}
use lib.Dec.{ltb}
use borrow.Author.Tests.{ltb-true, ltb-false}
use Rattle.format_fields.specs.Lists.{all, any, is_some}
use Rattle.outcome.specs.Outcome.{value, refused, refuse_if, checked, written, Outcome}
use Rattle.outcome.specs.declared.Reason.{Reason}
use Rattle.outcome.specs.declared.Reason.TheVariants.{ValueTooLarge, JoinUnfit, NumberUnfit}
use Rattle.format_fields.proofs.Truth.{by_test, and_both, both_and, or_false, all_mem, mem_all, any_false, some_is}
use Rattle.format_fields.proofs.Keyed.{rising_is}
use Rattle.format_language.specs.Language.{entry_key}
use Rattle.format_language.specs.LanguageFile.{entries_of, encode_language}
use Rattle.format_language.proofs.Codec.{entry_whole, language_encode}
use Rattle.format_language.proofs.Lookup.{none_clashes}
use Rattle.format_translation.specs.Translation.{Body, mapping, Translation, item_key, mapping_of}
use Rattle.format_translation.specs.TranslationFile.{encode_translation, translation_limit, body_of, all_rising}
use Rattle.format_translation.specs.Operations.{check_translation}
use Rattle.format_translation.specs.Inner.ItemIndex.{Mapped}
use Rattle.format_translation.proofs.Codec.{item_whole, rising_grouped, body_encode, WholeTranslation, translation_back}
use Rattle.format_translation.proofs.Accepted.{accepts}
use Rattle.format_translation.proofs.Lookup.{mapping_mem}
use Rattle.run_table.specs.Inner.Table.{Ready, Checked}
use Rattle.reduce_operators.specs.Operators.{numbers_low, join_fits, joined, translation_join}
use Rattle.reduce_operators.specs.Inner.Numbers.{mapping_below}
use Rattle.reduce_operators.proofs.Numbering.{low_mappings}
use Rattle.reduce_operators.specs.Limits.{code_is_deep, language_exceeds, translation_exceeds}
use Rattle.format_fields.specs.Inner.Writing.{Stores}
use Rattle.reduce_merge.specs.Inner.Parts.{lies_within}
use Rattle.reduce_operators.specs.Inner.Values.{Gives, translation_bytes}
use Rattle.reduce_operators.proofs.Proper.{Sound, GoodTranslation, formed_sound, good_back}
use Rattle.reduce_operators.proofs.JoinSound.{body_rises, join_whole, sound_join}
use Rattle.reduce_operators.proofs.Encoded.{language_within}
use Rattle.reduce_operators.specs.Inner.EncodedParts.{EncodedParts}
use Rattle.reduce_operators.specs.Inner.Assembled.{assembled}
use Rattle.reduce_operators.proofs.Accepted.{accepted_good, whole_over, body_in_lem, body_over, assembled_given}
use Rattle.reduce_operators.proofs.Given.{assembled_is, gives_refused}
use Rattle.reduce_operators.proofs.TranslationLaws.{spelt_good}
use Rattle.reduce_join.specs.Inner.Joining.{Held, Joining, Fitted, joined_body, checked_length}

-- Bytes that were given whole.
pub record Whole (v o' : List ℕ) (n : ℕ) : Type 0 where
  pub short : length v ≤ 4096
  pub room : n ≤ length o'
  pub bytes : take n o' ≡ v
  pub long : n ≡ length v

pub given_whole : (v o o' : List ℕ) (r : Outcome) → Gives (refuse_if (ltb 4096 (length v)) ValueTooLarge (value v)) o o' r → (n : ℕ) → r ≡ Ok n → Whole v o' n
given_whole v o o' r given n e =
    by_test (ltb 4096 (length v))
    (λ d.
    let u : written (refuse_if (ltb 4096 (length v)) ValueTooLarge (value v)) ≡ Err ValueTooLarge = rw d refl in
    let z : Ok n ≡ Err ValueTooLarge = sym e ∙ (given.outcome ∙ u) in
    let y : ◌≡◌ {A = ℕ} 0 1 = cc in
    absurd (omega arith))
    (λ d.
    let u : refuse_if (ltb 4096 (length v)) ValueTooLarge (value v) ≡ value v = rw d refl in
    let z : Ok n ≡ Ok (length v) = sym e ∙ (given.outcome ∙ ap written u) in
    let k : n ≡ length v = cc in
    let x = given.bytes v u in
    record { short = ltb-false 4096 (length v) d; room = omega (arith, x.0, given.long, k); bytes = rw k x.1; long = k })

-- `measure`
module _ (v : List ℕ) (c o : Outcome) (e : o ≡ c) where
  pub length_accepted : {n : ℕ} → o ≡ Ok n → Ok (length v) ≡ checked_length v c
  length_accepted h = ap (checked_length v) (sym h ∙ e)

  pub length_refused : {w : Reason} → o ≡ Err w → Err ValueTooLarge ≡ checked_length v c
  length_refused h = ap (checked_length v) (sym h ∙ e)

-- The value of a join of translations that files hold.
module _ (f g : Translation) (hf : Held f) (hg : Held g) (fits : join_fits f g ≡ true) (low_first : numbers_low f ≡ true) (low_second : numbers_low g ≡ true) where
  first_good : GoodTranslation f
  first_good = accepted_good hf.0 f hf.1

  second_good : GoodTranslation g
  second_good = accepted_good hg.0 g hg.1

  rises : all_rising (joined f g) ≡ true
  unfolding all_rising joined
  rises =
      both_and _ _ (rising_is entry_key g.source second_good.sound.source.rises)
      (both_and _ _ (rising_is entry_key f.target first_good.sound.target.rises)
      (rising_is item_key (joined f g).body (body_rises f g first_good.sound second_good.sound fits low_first low_second)))

  -- Within 4,096 bytes it is whole.
  whole : length (encode_translation (joined f g)) ≤ 4096 → WholeTranslation (joined f g)
  unfolding joined
  whole h = record {
    source = mem_all entry_whole g.source second_good.sound.source.whole;
    target = mem_all entry_whole f.target first_good.sound.target.whole;
    body = mem_all item_whole (joined f g).body (join_whole f g first_good.sound second_good.sound fits low_first low_second);
    rises = rises;
    source_apart = none_clashes g.source g.source second_good.sound.source.apart;
    target_apart = none_clashes f.target f.target first_good.sound.target.apart;
    source_short = second_good.source_short;
    target_short = first_good.target_short;
    short = h;
  }

  -- What the check accepts is sound.
  checked_sound : length (encode_translation (joined f g)) ≤ 4096 → {n : ℕ} → check_translation (encode_translation (joined f g)) ≡ Ok n → Sound (joined f g)
  unfolding joined
  checked_sound h e =
      let a = accepts (encode_translation (joined f g)) refl e in
      (formed_sound (joined f g) a.translation second_good.sound.source first_good.sound.target
      (join_whole f g first_good.sound second_good.sound fits low_first low_second) (body_rises f g first_good.sound second_good.sound fits low_first low_second)
      (sym (translation_back (joined f g) (whole h)) ∙ a.is)).0

  -- What the check refuses exceeds a limit.
  checked_exceeds : length (encode_translation (joined f g)) ≤ 4096 → {w : Reason} → check_translation (encode_translation (joined f g)) ≡ Err w
      → translation_bytes (value (joined f g)) ≡ refused ValueTooLarge
  unfolding translation_exceeds check_translation joined
  checked_exceeds h {w} e =
      by_test (translation_exceeds (joined f g))
      (λ d. rw d refl)
      (λ d.
      let a = or_false (language_exceeds g.source) _ d in
      let b = or_false (language_exceeds f.target) _ a.1 in
      let c = or_false (ltb translation_limit (length (encode_translation (joined f g)))) (any (code_is_deep (joined f g)) (joined f g).body) b.1 in
      let s = sound_join f g first_good.sound second_good.sound fits low_first low_second (any_false (code_is_deep (joined f g)) (joined f g).body c.1) in
      let v = good_back (joined f g) (record { sound = s; source_short = second_good.source_short; target_short = first_good.target_short; short = h }) in
      let z : Ok 0 ≡ Err w = sym (ap checked v) ∙ e in
      let y : ◌≡◌ {A = ℕ} 0 1 = cc in
      absurd (omega arith))

  -- finish
  module _ (s t b o o' : List ℕ) (es : s ≡ encode_language g.source) (et : t ≡ encode_language f.target) (eb : b ≡ joined_body f g) (r : Outcome)
      (given : Gives (refuse_if (ltb 4096 (length (assembled s t b))) ValueTooLarge (value (assembled s t b))) o o' r) where
    made : assembled s t b ≡ encode_translation (joined f g)
    unfolding joined
    made = rw (es, et, eb) (assembled_is (joined f g))

    pub finish_refused : {w : Reason} → r ≡ Err w → Gives (translation_bytes (value (joined f g))) o o' (Err w)
    finish_refused {w} e =
        by_test (ltb 4096 (length (assembled s t b)))
        (λ d.
        let over : 4096 < length (encode_translation (joined f g)) = omega (arith, ap length made, ltb-true 4096 (length (assembled s t b)) d) in
        let v : written (refuse_if (ltb 4096 (length (assembled s t b))) ValueTooLarge (value (assembled s t b))) ≡ Err ValueTooLarge = rw d refl in
        let q : ValueTooLarge ≡ w = cc given.outcome in
        rw (← q) (gives_refused _ o o' ValueTooLarge (whole_over (joined f g) over) given.long))
        (λ d.
        let v : written (refuse_if (ltb 4096 (length (assembled s t b))) ValueTooLarge (value (assembled s t b))) ≡ Ok (length (assembled s t b)) = rw d refl in
        let z : Err w ≡ Ok (length (assembled s t b)) = sym e ∙ (given.outcome ∙ v) in
        let y : ◌≡◌ {A = ℕ} 0 1 = cc in
        absurd (omega arith))

    module _ (n : ℕ) (e : r ≡ Ok n) where
      -- what was put together
      stands : Whole (encode_translation (joined f g)) o' n
      stands = subst (λ (v : List ℕ). Whole v o' n) made (given_whole _ o o' r given n e)

      pub finish_checked : (x : Outcome) → x ≡ checked_length (take n o') (check_translation (take n o')) → Gives (translation_bytes (value (joined f g))) o o' x
      unfolding joined
      finish_checked x ex = go (check_translation (take n o')) refl
        where
          go : (c : Outcome) → check_translation (take n o') ≡ c → Gives (translation_bytes (value (joined f g))) o o' x
          go (Ok m) k =
              let sound = checked_sound stands.short (ap check_translation (sym stands.bytes) ∙ k) in
              let q : x ≡ r = ex ∙ (ap (checked_length (take n o')) k ∙ (ap Ok (ap length stands.bytes ∙ sym stands.long) ∙ sym e)) in
              rw q (assembled_given (joined f g) sound second_good.source_short first_good.target_short s t b o o' r es et eb given)
          go (Err w) k =
              let q : x ≡ Err ValueTooLarge = ex ∙ ap (checked_length (take n o')) k in
              rw q (gives_refused _ o o' ValueTooLarge (checked_exceeds stands.short (ap check_translation (sym stands.bytes) ∙ k)) given.long)

-- The parts that are spelt, read.
module _ (s t b : List ℕ) (f : Translation) (w : EncodedParts s t b f) where
  good : GoodTranslation f
  good = spelt_good s t b f w

  pub spelt_held : Held f
  spelt_held = (encode_translation f, w.accepted)

  pub source_entries : entries_of s ≡ some f.source
  source_entries = ap entries_of w.source ∙ language_encode f.source (mem_all entry_whole f.source good.sound.source.whole)

  pub target_entries : entries_of t ≡ some f.target
  target_entries = ap entries_of w.target ∙ language_encode f.target (mem_all entry_whole f.target good.sound.target.whole)

  pub body_items : body_of b ≡ some f.body
  body_items =
      let whole = mem_all item_whole f.body good.sound.whole in
      ap body_of w.body ∙ body_encode f.body whole (rising_grouped f.body (rising_is item_key f.body good.sound.rises) whole)

  pub source_within : length s ≤ 1024
  source_within = omega (arith, ap length w.source, good.source_short)

  pub target_within : length t ≤ 1024
  target_within = omega (arith, ap length w.target, good.target_short)

  pub body_short : length b ≤ 4096
  body_short = omega (arith, ap length w.body, body_in_lem f, good.short)

  pub body_within : length b ≤ 32768
  body_within = omega (arith, body_short)

-- `join_body`: the first's table is made from its parts
pub spelt_checked : (s t b : List ℕ) (f : Translation) → EncodedParts s t b f → Checked s t b f
spelt_checked s t b f w = record {
  pieces = record {
    source = source_entries s t b f w;
    target = target_entries s t b f w;
    body = body_items s t b f w;
    source_short = source_within s t b f w;
    target_short = target_within s t b f w;
    body_short = body_within s t b f w;
  };
  short = body_short s t b f w;
  file = encode_translation f;
  accepted = w.accepted;
}

-- `numbers_low`, `number_limit`
pub low_not : {a b : Bool} (c : Bool) → a ≡ b → a ≡ false → false ≡ (b && c)
low_not c e h = rw (← e, h) refl

pub low_both : {a b c d : Bool} → a ≡ b → a ≡ true → d ≡ c → d ≡ (b && c)
low_both e h g = rw (← e, h) g

-- Numbers of mappings are below a limit that all items have.
mapped_below : (b : Body) (limit : ℕ) → all (mapping_below limit) b ≡ true → (k j : ℕ) → is_some (mapping_of b k j) ≡ true → j < limit
unfolding mapping_below
mapped_below b limit e k j h =
    let t = some_is (mapping_of b k j) h in
    ltb-true j limit (all_mem (mapping_below limit) b e (mapping k j t.0) (mapping_mem b k j t.0 t.1))

module _ (s t b s' b' : List ℕ) (f g : Translation) (w : Fitted s t b s' b' f g) where
  pub first_below : all (mapping_below 16) f.body ≡ true
  first_below = low_mappings f (spelt_good s t b f w.first).sound ∙ w.first_low

  pub fitted_joining : (table u u' : List ℕ) (limit : ℕ) → (Checked s t b f → Ready table f) → Mapped u f.body → Mapped u' g.body
      → all (mapping_below limit) f.body ≡ true → limit ≤ 16 → Joining table u b' u' limit f g
  fitted_joining table u u' limit x m m' below few = record {
    first = spelt_held s t b f w.first;
    second = spelt_held s' w.second.0 b' g w.second.1;
    fits = w.fits;
    first_low = w.first_low;
    second_low = w.second_low;
    table = x (spelt_checked s t b f w.first);
    uses = m;
    items = body_items s' w.second.0 b' g w.second.1;
    second_uses = m';
    below = mapped_below f.body limit below;
    few = few;
  }

  -- `join_fitting`: the body did not fit into 4,096 bytes
  pub fitting_full : (d d' o : List ℕ) (r : Option ℕ) → length d ≡ 4096 → Stores (joined_body f g) d d' 0 r → r ≡ None
      → Gives (translation_bytes (value (joined f g))) o o (Err ValueTooLarge)
  fitting_full d d' o r n h e = gives_refused _ o o ValueTooLarge (body_over (joined f g) (omega (arith, h.full e, n))) refl

-- `join_parts`
module _ (s t x u v y : List ℕ) (f g : Translation) (p : EncodedParts s t x f) (q : EncodedParts u v y g) where
  -- What the test of both bodies' numbers says.
  abbrev Tests : Bool → Type 0
  Tests b = (c d : Body) → body_of x ≡ some c → body_of y ≡ some d → b ≡ (all (mapping_below 16) c && all (mapping_below 16) d)

  low_is : (b : Bool) → Tests b → b ≡ (numbers_low f && numbers_low g)
  low_is b e =
      e f.body g.body (body_items s t x f p) (body_items u v y g q)
      ∙ rw (low_mappings f (spelt_good s t x f p).sound, low_mappings g (spelt_good u v y g q).sound) refl

  pub parts_high : (b : Bool) → Tests b → b ≡ false → (o : List ℕ) → Gives (translation_bytes (translation_join f g)) o o (Err NumberUnfit)
  unfolding translation_join
  parts_high b e h o =
      let z : (numbers_low f && numbers_low g) ≡ false = sym (low_is b e) ∙ h in
      gives_refused (translation_bytes (translation_join f g)) o o NumberUnfit (rw z refl) refl

  module _ (b : Bool) (eb : Tests b) (tb : b ≡ true) where
    both_low : (numbers_low f ≡ true) × (numbers_low g ≡ true)
    both_low = and_both (numbers_low f) (numbers_low g) (sym (low_is b eb) ∙ tb)

    first_low : numbers_low f ≡ true
    first_low = both_low.0

    second_low : numbers_low g ≡ true
    second_low = both_low.1

    module _ (d : Bool) (e : d ≡ lies_within v s) where
      fits_is : d ≡ join_fits f g
      unfolding join_fits
      fits_is =
          e ∙ (ap (λ (a : List ℕ). lies_within a s) q.target
          ∙ (ap (lies_within (encode_language g.target)) p.source
          ∙ language_within g.target f.source (spelt_good u v y g q).sound.target.whole (spelt_good s t x f p).sound.source.whole))

      pub parts_unfit : d ≡ false → (o : List ℕ) → Gives (translation_bytes (translation_join f g)) o o (Err JoinUnfit)
      unfolding translation_join
      parts_unfit h o =
          let z : join_fits f g ≡ false = sym fits_is ∙ h in
          gives_refused (translation_bytes (translation_join f g)) o o JoinUnfit (rw (first_low, second_low, z) refl) refl

      pub parts_fitted : d ≡ true → Fitted s t x u y f g
      parts_fitted h = record { first = p; second = (v, q); first_low = first_low; second_low = second_low; fits = sym fits_is ∙ h }

      pub parts_given : d ≡ true → (o o' : List ℕ) (r : Outcome) → Gives (translation_bytes (value (joined f g))) o o' r → Gives (translation_bytes (translation_join f g)) o o' r
      unfolding translation_join
      parts_given h o o' r w = let z : join_fits f g ≡ true = sym fits_is ∙ h in rw (first_low, second_low, z) w
