-- What stays of a translation without a language: a law for each return and turn.
use Rattle.std.specs.Prelude.{Err, None, Option, Some}
use Prim.Native.Nat.{ℕ, ◌+◌, ◌≤◌, ◌<◌}
use mathlib.Core.Path.{◌≡◌, refl, sym, ap, ◌∙◌}
use mathlib.Core.Bool.{Bool, true, false, cond}
use mathlib.Core.List.{List, [], ◌∷◌, ◌++◌, map}
use mathlib.Core.Option.{some}
use native.Mathlib.Omega.{arith}
use lib.ListN.{length, take, get_or}
use lib.Seq.{slice}
use lib.Dec.{ltb, eqb}
use borrow.Author.Tests.{leb-true}
use Rattle.outcome.specs.Outcome.{value, refuse_if, Outcome}
use Rattle.outcome.specs.declared.Reason.TheVariants.{ValueTooLarge}
use Rattle.format_fields.specs.Lists.{all, keep, is_some, concat_map}
use Rattle.format_fields.specs.Fields.{byte_at, pair_at, encode_field, encode_fields}
use Rattle.format_fields.specs.Inner.Places.{field_end, is_whole, key_at, places_from, places}
use Rattle.format_fields.proofs.Truth.{false_true, and_both, mem_all}
use Rattle.format_fields.proofs.Codec.{Each, contents_of}
use Rattle.format_fields.proofs.Keyed.{rising_is}
use Rattle.format_fields.proofs.Places.{end_past, places_done, places_next, every_here}
use Rattle.format_language.specs.Language.{Language, is_in, arguments_of, production_key}
use Rattle.format_language.specs.LanguageFile.{entries_of, encode_language}
use Rattle.format_language.proofs.Codec.{entry_whole, language_encode}
use Rattle.tree_reader.specs.Inner.Index.{arguments_before, Indexed}
use Rattle.format_translation.specs.Translation.{Item, Body, Translation, item_key}
use Rattle.format_translation.specs.TranslationFile.{item_field, body_of, encode_translation}
use Rattle.format_translation.specs.Inner.Items.{item_whole, item_good, item_at, ItemFacts, plain_mapping, plain_clause, numbered_mapping_lem, numbered_clause_lem, is_clause_tag}
use Rattle.format_translation.specs.Inner.ItemIndex.{known_at}
use Rattle.format_translation.proofs.Codec as Codec
use Rattle.format_translation.proofs.Items.{item_facts, mapping_is, clause_is, numbered_mapping_is, numbered_clause_is, holds_items}
use Rattle.format_translation.proofs.IndexedItems.{there}
use Rattle.reduce_operators.specs.Operators.{is_of, language_without, translation_without}
use Rattle.format_fields.specs.Inner.Writing.{Inside, Stores}
use Rattle.reduce_merge.specs.Inner.Parts.{Part, piece_at, part_at, parts_from}
use Rattle.reduce_operators.specs.Inner.Values.{translation_bytes, Gives}
use Rattle.reduce_operators.proofs.Proper.{GoodTranslation}
use Rattle.reduce_operators.proofs.SumSound.{proper_without, sound_without}
use Rattle.reduce_operators.proofs.Encoded.{parts_encode, map_map, item_long}
use Rattle.reduce_merge.proofs.Writing.{Writing, writing_start}
use Rattle.reduce_operators.specs.Inner.Assembled.{assembled}
use Rattle.reduce_operators.specs.Inner.Kept.{written_from, staying_at, Left}
use Rattle.reduce_operators.proofs.Given.{gives_refused, stored_first}
use Rattle.reduce_operators.proofs.Accepted.{accepted_good, assembled_given, body_over}

-- stays
module _ (b : List ℕ) (p tag : ℕ) (et : tag ≡ byte_at b p) (w : item_whole b p ≡ true) (clause? : Bool) (ec : clause? ≡ is_clause_tag tag) (l : Language) where
  -- the tag, as the item has it
  tag_clause : (t : ℕ) → byte_at b p ≡ t → clause? ≡ is_clause_tag t
  tag_clause t e = ec ∙ ap is_clause_tag (et ∙ e)

  pub stays_mapping : clause? ≡ false → (k : ℕ) → k ≡ byte_at b (p + 3) → (r : Bool) → r ≡ is_in l k → r ≡ is_of l (item_at b p)
  unfolding is_of
  stays_mapping h k ek r er = er ∙ (ap (is_in l) ek ∙ go (item_facts b p w))
    where
      go : ItemFacts b p → is_in l (byte_at b (p + 3)) ≡ is_of l (item_at b p)
      go (plain_mapping m) = sym (ap (is_of l) (mapping_is b p m))
      go (plain_clause m) = false_true (sym h ∙ tag_clause 0x23 m.tag)
      go (numbered_mapping_lem m) = sym (ap (is_of l) (numbered_mapping_is b p m))
      go (numbered_clause_lem m) = false_true (sym h ∙ tag_clause 0x29 m.tag)

  module _ (s index : List ℕ) (z : Indexed index s l) (bytes : (i : ℕ) → byte_at b i < 256) where
    -- the key of a clause, looked up
    known_key : (t : ℕ) → byte_at b p ≡ t → eqb t 0x22 ≡ false → byte_at b (p + 3) < 32
        → known_at 0x22 b index p ≡ is_some (arguments_of l (byte_at b (p + 3)) (byte_at b (p + 4)))
    unfolding known_at key_at pair_at
    known_key t e n h =
        let d : p + 3 + 1 ≡ p + 4 = omega arith in
        rw (e, n, d, z.arguments (get_or b (p + 3) 0) (get_or b (p + 4) 0) h (bytes (p + 4)))
        (there (arguments_before s) refl (λ q. refl) (get_or index (production_key (get_or b (p + 3) 0) (get_or b (p + 4) 0)) 0))

    pub stays_clause : clause? ≡ true → (r : Bool) → r ≡ known_at 0x22 b index p → r ≡ is_of l (item_at b p)
    unfolding is_of
    stays_clause h r er = er ∙ go (item_facts b p w)
      where
        go : ItemFacts b p → known_at 0x22 b index p ≡ is_of l (item_at b p)
        go (plain_mapping m) = false_true (sym (tag_clause 0x22 m.tag) ∙ h)
        go (plain_clause m) = known_key 0x23 m.tag refl m.result ∙ sym (ap (is_of l) (clause_is b p m))
        go (numbered_mapping_lem m) = false_true (sym (tag_clause 0x28 m.tag) ∙ h)
        go (numbered_clause_lem m) = known_key 0x29 m.tag refl m.result ∙ sym (ap (is_of l) (numbered_clause_is b p m))

-- A walk that writes for each field.
module _ (piece : ℕ → List ℕ) (s : List ℕ) (p : ℕ) where
  pub walk_next : p < length s → (e : ℕ) → e ≡ field_end s p → written_from piece s p ≡ piece p ++ written_from piece s e
  unfolding written_from concat_map
  walk_next here e ee = rw ee (ap (concat_map piece) (places_next s p here))

  pub walk_done : length s ≤ p → written_from piece s p ≡ []
  unfolding written_from concat_map
  walk_done h = ap (concat_map piece) (places_done s p h)

-- keep_items: where it is
pub record Keeping (s source index o out : List ℕ) (p n : ℕ) : Type 0 where
  pub writing : (l : Language) → Indexed index source l → Writing (written_from (staying_at l s) s 0) (written_from (staying_at l s) s p) o out 0 n
  pub whole : all (item_whole s) (places_from s p) ≡ true
  pub room : n ≤ length out
  pub long : length out ≡ length o

pub keeping_start : (s source index o : List ℕ) → (b : Body) × (body_of s ≡ some b) → Keeping s source index o o 0 0
keeping_start s source index o e = record {
  writing = λ l z. writing_start _ _ o 0 refl;
  whole = (holds_items s e.0 e.1).whole;
  room = omega arith;
  long = refl;
}

-- the item at p
module _ (s : List ℕ) (p : ℕ) (w : all (item_whole s) (places_from s p) ≡ true) (here : p < length s) where
  pub item_here : item_whole s p ≡ true
  item_here = (every_here (item_whole s) s p w here).0

  pub item_inside : (e : ℕ) → e ≡ field_end s p → Inside s p e
  unfolding item_whole is_whole
  item_inside e ee = record {
    rise = omega (arith, end_past s p);
    fits = rw ee (leb-true _ _ (and_both (is_whole s p) (item_good s p) item_here).0);
  }

  pub items_next : (e : ℕ) → e ≡ field_end s p → all (item_whole s) (places_from s e) ≡ true
  items_next e ee = rw ee (every_here (item_whole s) s p w here).1

  pub keeping_turn : (l : Language) (e : ℕ) → e ≡ field_end s p → (wanted : Bool) → wanted ≡ is_of l (item_at s p)
      → written_from (staying_at l s) s p ≡ cond wanted (slice p e s) [] ++ written_from (staying_at l s) s e
  keeping_turn l e ee wanted ew = rw (ew, ee) (walk_next (staying_at l s) s p here (field_end s p) refl)

-- What is kept, in bytes.
kept_list : (s : List ℕ) (f : Item → Bool) (ps : List ℕ) (b : Body) → map (item_at s) ps ≡ b
    → map (piece_at s) ps ≡ map (λ a. encode_field (item_field a)) b
    → concat_map (λ q. cond (f (item_at s q)) (piece_at s q) []) ps ≡ encode_fields (map item_field (keep f b))
unfolding concat_map keep encode_fields
kept_list s f [] [] e d = refl
kept_list s f [] (a ∷ b) e d = let z : ◌≡◌ {A = ℕ} 0 1 = cc in absurd (omega arith)
kept_list s f (p ∷ ps) [] e d = let z : ◌≡◌ {A = ℕ} 0 1 = cc in absurd (omega arith)
kept_list s f (p ∷ ps) (a ∷ b) e d =
    let x : item_at s p ≡ a = cc in
    let y : piece_at s p ≡ encode_field (item_field a) = cc in
    let xs : map (item_at s) ps ≡ b = cc in
    let ys : map (piece_at s) ps ≡ map (λ a. encode_field (item_field a)) b = cc in
    let r = kept_list s f ps b xs ys in
    rw (x, y, r) (go (f a))
  where
    go : (t : Bool) → cond t (encode_field (item_field a)) [] ++ encode_fields (map item_field (keep f b)) ≡ encode_fields (map item_field (cond t (a ∷ keep f b) (keep f b)))
    go true = refl
    go false = refl

all_long : (b : Body) → Each (λ f. 2 ≤ length (contents_of f)) (map item_field b)
all_long [] = tt
all_long (a ∷ b) = (item_long a, all_long b)

pieces_are : (b : Body) → map (piece_at (encode_fields (map item_field b))) (places (encode_fields (map item_field b))) ≡ map (λ a. encode_field (item_field a)) b
unfolding parts_from part_at
pieces_are b =
    let s = encode_fields (map item_field b) in
    sym (map_map (λ (x : Part). x.bytes) (part_at 0x22 s) (places s))
    ∙ (ap (map (λ (x : Part). x.bytes)) (parts_encode 0x22 (map item_field b) (all_long b))
    ∙ (map_map (λ (x : Part). x.bytes) _ (map item_field b) ∙ map_map encode_field item_field b))

kept_bytes : (l : Language) (b : Body) → body_of (encode_fields (map item_field b)) ≡ some b
    → written_from (staying_at l (encode_fields (map item_field b))) (encode_fields (map item_field b)) 0 ≡ encode_fields (map item_field (keep (is_of l) b))
unfolding written_from
kept_bytes l b e =
    let s = encode_fields (map item_field b) in
    kept_list s (is_of l) (places s) b (holds_items s b e).items (pieces_are b)

-- What is left of a translation, by its parts.
module _ (s t b : List ℕ) (f : Translation) (m : Language) (w : Left s t b f m) where
  left_good : GoodTranslation f
  left_good = accepted_good (encode_translation f) f w.accepted

  pub left_entries : entries_of s ≡ some (language_without f.source m)
  left_entries =
      ap entries_of w.source
      ∙ language_encode (language_without f.source m) (mem_all entry_whole (language_without f.source m) (proper_without f.source m left_good.sound.source).whole)

  encoded : body_of (encode_fields (map item_field f.body)) ≡ some f.body
  encoded =
      let h = mem_all Codec.item_whole f.body left_good.sound.whole in
      Codec.body_encode f.body h (Codec.rising_grouped f.body (rising_is item_key f.body left_good.sound.rises) h)

  pub left_body : body_of b ≡ some f.body
  left_body = ap body_of w.body ∙ encoded

  pub left_target : length t ≤ 1024
  left_target = omega (arith, ap length w.target, left_good.target_short)

  kept_is : written_from (staying_at (language_without f.source m) b) b 0 ≡ encode_fields (map item_field (translation_without f m).body)
  unfolding translation_without
  kept_is =
      ap (λ (x : List ℕ). written_from (staying_at (language_without f.source m) x) x 0) w.body
      ∙ kept_bytes (language_without f.source m) f.body encoded

  -- keep_parts
  module _ (d d' : List ℕ) (r : Option ℕ) (k : Stores (written_from (staying_at (language_without f.source m) b) b 0) d d' 0 r) where
    pub kept_too_long : (o : List ℕ) → r ≡ None → length d ≡ 4096 → Gives (translation_bytes (value (translation_without f m))) o o (Err ValueTooLarge)
    kept_too_long o e n = gives_refused _ o o ValueTooLarge (body_over (translation_without f m) (omega (arith, k.full e, ap length kept_is))) refl

    pub kept_given : (n : ℕ) → r ≡ Some n → (o o' : List ℕ) (x : Outcome)
        → Gives (refuse_if (ltb 4096 (length (assembled s t (take n d')))) ValueTooLarge (value (assembled s t (take n d')))) o o' x
        → Gives (translation_bytes (value (translation_without f m))) o o' x
    unfolding translation_without
    kept_given n e o o' x g =
        let short : length (encode_language (language_without f.source m)) ≤ 1024 = omega (arith, w.short, ap length w.source) in
        assembled_given (translation_without f m) (sound_without f m left_good.sound) short left_good.target_short s t (take n d') o o' x
        w.source w.target (stored_first _ d d' n r k e ∙ kept_is) g
