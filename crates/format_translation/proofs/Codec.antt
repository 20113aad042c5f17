-- Bodies and translations in bytes: what is written is read back, and what is read was written.
use Prim.Native.Nat.{ℕ, zero, suc, ◌<◌, ◌≤◌}
use mathlib.Core.Path.{◌≡◌, refl, sym, ap, ◌∙◌}
use mathlib.Core.Bool.{Bool, true, false, not, ◌&&◌, ◌||◌}
use mathlib.Core.List.{List, [], ◌∷◌, map}
use mathlib.Core.Option.{Option, none, some}
use native.Mathlib.Omega.{arith}
use lib.ListN.{length, drop, drop_of_length-le}
use lib.Dec.{ltb, leb, eqb}
use borrow.Author.Tests.{lt-ltb, le-leb, leb-true, eqb-true, le-ltb, ltb-true, ltb-false}
use Rattle.outcome.specs.Outcome.{value, refuse_if}
use Rattle.outcome.specs.declared.Reason.TheVariants.{WrongMapping, WrongClauses, IllegalCode}
use Rattle.format_fields.specs.Lists.{all, traverse}
use Rattle.format_fields.specs.Fields.{Field, field, byte_at, fields_of, encode_fields, has_over}
use Rattle.format_fields.specs.Keyed.{rising, rising_from}
use Rattle.format_fields.proofs.Truth.{by_test, none_some, false_true, and_both, both_and, or_false, false_or}
use Rattle.format_fields.proofs.Codec.{Each, Bytes, contents_of, Codec, refused_value, cond_some, four_tags, front_two, front_three, fields_encode, fields_sound, fields_length, encode_length, Within, not_over, within_over, entries_encode, entries_whole, entries_length, entries_sound}
use Rattle.format_language.specs.Language.{Language, entry_key, clashes}
use Rattle.format_language.specs.LanguageFile.{is_kind, entries_of, encode_language, language_limit}
use Rattle.format_language.proofs.Codec.{entry_whole, language_encode, language_whole, language_length, open_value, open_rest}
use Rattle.format_translation.specs.Translation.{Item, mapping, clause, Body, Translation, plain_key, number_of, item_key}
use Rattle.format_translation.specs.TranslationFile.{mapping_field, numbered_mapping, clause_field, numbered_clause, item_of, item_field, grouped, in_groups, items_in, body_in, body_of, parts, parts_in, parts_of_fields, parts_of, translation_fields, encode_translation, translation_limit, is_language_tag, all_rising, translation_of}
use Rattle.format_translation.specs.WellFormed.{well_formed, mapping_fits, clauses_fit, codes_fit}

-- An item that a file can hold: its kinds are kinds, its number is a byte.
unfoldable pub item_whole : Item → Bool
item_whole (mapping s j t) = is_kind s && (is_kind t && ltb j 256)
item_whole (clause r p j code) = is_kind r && ltb j 256

-- A whole item that is written is read back.
item_reads : (i : Item) → item_whole i ≡ true → item_of (item_field i) ≡ some i
unfolding item_whole item_of item_field mapping_field clause_field numbered_mapping numbered_clause
item_reads (mapping s zero t) h =
    let w = and_both (is_kind s) (is_kind t && ltb 0 256) h in
    let v = and_both (is_kind t) (ltb 0 256) w.1 in
    rw (w.0, v.0)
item_reads (mapping s (suc j) t) h =
    let w = and_both (is_kind s) (is_kind t && ltb (suc j) 256) h in
    let v = and_both (is_kind t) (ltb (suc j) 256) w.1 in
    let z : 0 < suc j = omega arith in
    rw (w.0, v.0, lt-ltb 0 (suc j) z, v.1)
item_reads (clause r p zero code) h =
    let w = and_both (is_kind r) (ltb 0 256) h in
    let a : 2 ≤ suc (suc (length code)) = omega arith in
    rw (le-leb 2 (suc (suc (length code))) a, w.0)
item_reads (clause r p (suc j) code) h =
    let w = and_both (is_kind r) (ltb (suc j) 256) h in
    let a : 3 ≤ suc (suc (suc (length code))) = omega arith in
    let z : 0 < suc j = omega arith in
    rw (le-leb 3 (suc (suc (suc (length code)))) a, w.0, lt-ltb 0 (suc j) z, w.1)

-- What a mapping by number 0 is read from.
record MappingIn (c : List ℕ) (i : Item) : Type 0 where
  long : length c ≡ 2
  source : is_kind (byte_at c 0) ≡ true
  target : is_kind (byte_at c 1) ≡ true
  same : mapping (byte_at c 0) 0 (byte_at c 1) ≡ i

-- A mapping that is read.
mapping_in : (c : List ℕ) (i : Item) → mapping_field c ≡ some i → MappingIn c i
unfolding mapping_field
mapping_in c i h =
    let w = cond_some _ _ i h in
    let v = and_both _ _ w.0 in
    let u = and_both _ _ v.1 in
    record { long = eqb-true (length c) 2 v.0; source = u.0; target = u.1; same = w.1 }

-- What a clause of number 0 is read from.
record ClauseIn (c : List ℕ) (i : Item) : Type 0 where
  least : 2 ≤ length c
  result : is_kind (byte_at c 0) ≡ true
  same : clause (byte_at c 0) (byte_at c 1) 0 (drop 2 c) ≡ i

-- A clause that is read.
clause_in : (c : List ℕ) (i : Item) → clause_field c ≡ some i → ClauseIn c i
unfolding clause_field
clause_in c i h =
    let w = cond_some _ _ i h in
    let v = and_both _ _ w.0 in
    record { least = leb-true 2 (length c) v.0; result = v.1; same = w.1 }

-- What a mapping by another number is read from.
record NumberedMappingIn (c : List ℕ) (i : Item) : Type 0 where
  long : length c ≡ 3
  source : is_kind (byte_at c 0) ≡ true
  number : 0 < byte_at c 1
  byte : ltb (byte_at c 1) 256 ≡ true
  target : is_kind (byte_at c 2) ≡ true
  same : mapping (byte_at c 0) (byte_at c 1) (byte_at c 2) ≡ i

numbered_mapping_in : (c : List ℕ) (i : Item) → numbered_mapping c ≡ some i → NumberedMappingIn c i
unfolding numbered_mapping
numbered_mapping_in c i h =
    let w = cond_some _ _ i h in
    let v = and_both _ _ w.0 in
    let u = and_both _ _ v.1 in
    let t = and_both _ _ u.1 in
    let o = and_both _ _ t.0 in
    record { long = eqb-true (length c) 3 v.0; source = u.0; number = ltb-true 0 (byte_at c 1) o.0; byte = o.1; target = t.1; same = w.1 }

-- What a clause of another number is read from.
record NumberedClauseIn (c : List ℕ) (i : Item) : Type 0 where
  least : 3 ≤ length c
  result : is_kind (byte_at c 0) ≡ true
  number : 0 < byte_at c 2
  byte : ltb (byte_at c 2) 256 ≡ true
  same : clause (byte_at c 0) (byte_at c 1) (byte_at c 2) (drop 3 c) ≡ i

numbered_clause_in : (c : List ℕ) (i : Item) → numbered_clause c ≡ some i → NumberedClauseIn c i
unfolding numbered_clause
numbered_clause_in c i h =
    let w = cond_some _ _ i h in
    let v = and_both _ _ w.0 in
    let u = and_both _ _ v.1 in
    let o = and_both _ _ u.1 in
    record { least = leb-true 3 (length c) v.0; result = u.0; number = ltb-true 0 (byte_at c 2) o.0; byte = o.1; same = w.1 }

-- An item that is read is one of the four.
item_in : {B : Type 0} (tag : ℕ) (c : List ℕ) (i : Item) → item_of (field tag c) ≡ some i
    → (tag ≡ 0x22 → MappingIn c i → B) → (tag ≡ 0x23 → ClauseIn c i → B)
    → (tag ≡ 0x28 → NumberedMappingIn c i → B) → (tag ≡ 0x29 → NumberedClauseIn c i → B) → B
unfolding item_of
item_in tag c i h f g k l =
    four_tags tag 0x22 0x23 0x28 0x29 (mapping_field c) (clause_field c) (numbered_mapping c) (numbered_clause c) i h
    (λ t d. f t (mapping_in c i d)) (λ t d. g t (clause_in c i d))
    (λ t d. k t (numbered_mapping_in c i d)) (λ t d. l t (numbered_clause_in c i d))

-- An item that is read is whole.
item_wholes : (f : Field) (i : Item) → item_of f ≡ some i → item_whole i ≡ true
unfolding item_whole
item_wholes (field tag c) i h =
    item_in tag c i h
    (λ t m. rw (← m.same) (both_and _ _ m.source (both_and _ _ m.target refl)))
    (λ t m. rw (← m.same) (both_and _ _ m.result refl))
    (λ t m. rw (← m.same) (both_and _ _ m.source (both_and _ _ m.target m.byte)))
    (λ t m. rw (← m.same) (both_and _ _ m.result m.byte))

-- The field that holds a number that is not 0.
mapping_numbered : (s j t : ℕ) → 0 < j → item_field (mapping s j t) ≡ field 0x28 (s ∷ j ∷ t ∷ [])
unfolding item_field
mapping_numbered s zero t h = absurd (omega arith)
mapping_numbered s (suc j) t h = refl

clause_numbered : (r p j : ℕ) (code : List ℕ) → 0 < j → item_field (clause r p j code) ≡ field 0x29 (r ∷ p ∷ j ∷ code)
unfolding item_field
clause_numbered r p zero code h = absurd (omega arith)
clause_numbered r p (suc j) code h = refl

-- It has as many bytes as it is read from.
item_sizes : (f : Field) (i : Item) → item_of f ≡ some i → length (contents_of (item_field i)) ≡ length (contents_of f)
unfolding item_field
item_sizes (field tag c) i h =
    item_in tag c i h
    (λ t m. rw (← m.same) (sym m.long))
    (λ t m. rw (← m.same) (ap length (front_two c m.least)))
    (λ t m. rw (← m.same) (ap (λ (x : Field). length (contents_of x)) (mapping_numbered _ _ _ m.number) ∙ sym m.long))
    (λ t m. rw (← m.same) (ap (λ (x : Field). length (contents_of x)) (clause_numbered _ _ _ _ m.number) ∙ ap length (front_three c m.least)))

-- It is written in the field that it is read from.
item_gives : (f : Field) (i : Item) → item_of f ≡ some i → Bytes (contents_of f) → item_field i ≡ f
unfolding item_field
item_gives (field tag c) i h b =
    item_in tag c i h
    (λ t m.
    let two : 2 ≤ length c = omega (arith, m.long) in
    let past : length c ≤ 2 = omega (arith, m.long) in
    let all_two : byte_at c 0 ∷ byte_at c 1 ∷ [] ≡ c = cc (front_two c two, drop_of_length-le c past) in
    rw (← m.same, t) (ap (λ (l : List ℕ). field 0x22 l) all_two))
    (λ t m. rw (← m.same, t) (ap (λ (l : List ℕ). field 0x23 l) (front_two c m.least)))
    (λ t m.
    let three : 3 ≤ length c = omega (arith, m.long) in
    let past : length c ≤ 3 = omega (arith, m.long) in
    let all_three : byte_at c 0 ∷ byte_at c 1 ∷ byte_at c 2 ∷ [] ≡ c = cc (front_three c three, drop_of_length-le c past) in
    rw (← m.same, t) (mapping_numbered _ _ _ m.number ∙ ap (λ (l : List ℕ). field 0x28 l) all_three))
    (λ t m. rw (← m.same, t) (clause_numbered _ _ _ _ m.number ∙ ap (λ (l : List ℕ). field 0x29 l) (front_three c m.least)))

-- Items, one to a field.
pub item_codec : Codec item_of item_field item_whole
item_codec = record { reads = item_reads; wholes = item_wholes; sizes = λ f i h. omega (arith, item_sizes f i h) }

-- The key of a whole mapping lies below that of a clause.
mapping_below_lem : (s j t : ℕ) → item_whole (mapping s j t) ≡ true → item_key (mapping s j t) < 8192
unfolding item_whole item_key plain_key number_of
mapping_below_lem s j t w =
    let (a, b) = and_both (is_kind s) (is_kind t && ltb j 256) w in
    let (c, d) = and_both (is_kind t) (ltb j 256) b in
    let e : s < 32 = ltb-true s 32 a in
    let f : j < 256 = ltb-true j 256 d in
    omega arith

clause_above : (r p j : ℕ) (c : List ℕ) → 8192 ≤ item_key (clause r p j c)
unfolding item_key plain_key number_of
clause_above r p j c = omega arith

-- Keys that rise keep the mappings in front of the clauses.
grouped_from : (n : ℕ) (past : Bool) (b : Body) → (past ≡ true → 8192 ≤ n) → rising_from item_key n b ≡ true → all item_whole b ≡ true → grouped past b ≡ true
unfolding rising_from all grouped
grouped_from n past [] h r w = refl
grouped_from n past (mapping s j t ∷ b) h r w =
    let (r1, r2) = and_both (leb n (item_key (mapping s j t))) (rising_from item_key (suc (item_key (mapping s j t))) b) r in
    let (w1, w2) = and_both (item_whole (mapping s j t)) (all item_whole b) w in
    let rest = grouped_from (suc (item_key (mapping s j t))) false b (λ e. false_true e) r2 w2 in
    by_test past
    (λ e. absurd (omega (arith, h e, leb-true n (item_key (mapping s j t)) r1, mapping_below_lem s j t w1)))
    (λ e. rw (e, rest))
grouped_from n past (clause r p j code ∷ b) h k w =
    let (k1, k2) = and_both (leb n (item_key (clause r p j code))) (rising_from item_key (suc (item_key (clause r p j code))) b) k in
    let (w1, w2) = and_both (item_whole (clause r p j code)) (all item_whole b) w in
    grouped_from (suc (item_key (clause r p j code))) true b (λ e. omega (arith, clause_above r p j code)) k2 w2

-- A whole body that rises stands in its groups.
pub rising_grouped : (b : Body) → rising item_key b ≡ true → all item_whole b ≡ true → grouped false b ≡ true
unfolding rising
rising_grouped b r w = grouped_from 0 false b (λ e. false_true e) r w

-- A body that a pack can hold.
pub record GoodBody (b : Body) : Type 0 where
  pub whole : all item_whole b ≡ true
  pub rises : rising item_key b ≡ true

-- Items that are read, and stand in their groups.
groups_some : (o : Option Body) (b : Body) → in_groups o ≡ some b → (o ≡ some b) × (grouped false b ≡ true)
groups_some none b e = none_some e
groups_some (some a) b e =
    let w = cond_some (grouped false a) a b e in
    (ap some w.1, rw (← w.1) w.0)

-- Items of fields, taken apart.
items_some : (fs : List Field) (b : Body) → items_in fs ≡ some b → (traverse item_of fs ≡ some b) × (grouped false b ≡ true)
unfolding items_in
items_some fs b e = groups_some (traverse item_of fs) b e

-- Items that are written are read back.
pub items_encode : (b : Body) → all item_whole b ≡ true → grouped false b ≡ true → items_in (map item_field b) ≡ some b
unfolding items_in
items_encode b w g = rw (entries_encode item_codec b w, g)

-- A body that is written is read back.
pub body_encode : (b : Body) → all item_whole b ≡ true → grouped false b ≡ true → body_of (encode_fields (map item_field b)) ≡ some b
unfolding body_of
body_encode b w g = ap body_in (fields_encode (map item_field b)) ∙ items_encode b w g

-- The fields that a body is read from.
body_in_lem : (o : Option (List Field)) (b : Body) → body_in o ≡ some b → (fs : List Field) × (o ≡ some fs) × (items_in fs ≡ some b)
body_in_lem none b e = none_some e
body_in_lem (some fs) b e = (fs, refl, e)

module _ (s : List ℕ) (b : Body) (e : body_of s ≡ some b) where
  -- The fields of this body.
  pub body_from : (fs : List Field) × (fields_of s ≡ some fs) × (items_in fs ≡ some b)
  unfolding body_of
  body_from = body_in_lem (fields_of s) b e

  -- Items that are read are whole and stand in their groups.
  pub body_whole : (all item_whole b ≡ true) × (grouped false b ≡ true)
  body_whole =
      let (fs, d, t) = body_from in
      let w = items_some fs b t in
      (entries_whole item_codec fs b w.0, w.1)

  -- Bytes that are read are those that the items are written in.
  pub body_sound : Bytes s → s ≡ encode_fields (map item_field b)
  body_sound h =
      let (fs, d, t) = body_from in
      let w = fields_sound s fs h d in
      w.0 ∙ ap encode_fields (sym (entries_sound item_of item_field item_gives fs b w.1 (items_some fs b t).0))

-- A translation that a file can hold, but for the promises of "well formed".
pub record WholeTranslation (f : Translation) : Type 0 where
  pub source : all entry_whole f.source ≡ true
  pub target : all entry_whole f.target ≡ true
  pub body : all item_whole f.body ≡ true
  pub rises : all_rising f ≡ true
  pub source_apart : clashes f.source f.source ≡ false
  pub target_apart : clashes f.target f.target ≡ false
  pub source_short : length (encode_language f.source) ≤ language_limit
  pub target_short : length (encode_language f.target) ≤ language_limit
  pub short : length (encode_translation f) ≤ translation_limit

-- A class and a result clash in one of the languages.
abbrev pub either_clashes : Translation → Bool
either_clashes f = clashes f.source f.source || clashes f.target f.target

-- What rises in a translation.
pub rises_parts : (f : Translation) → all_rising f ≡ true
    → (rising entry_key f.source ≡ true) × (rising entry_key f.target ≡ true) × (rising item_key f.body ≡ true)
unfolding all_rising
rises_parts f h =
    let (a, b) = and_both _ _ h in
    let (c, d) = and_both _ _ b in
    (a, c, d)

-- Items are no languages.
items_within : (limit : ℕ) (b : Body) → Each (Within is_language_tag limit) (map item_field b)
unfolding item_field
items_within limit [] = tt
items_within limit (mapping s zero t ∷ b) = (λ e. false_true e, items_within limit b)
items_within limit (mapping s (suc j) t ∷ b) = (λ e. false_true e, items_within limit b)
items_within limit (clause r p zero code ∷ b) = (λ e. false_true e, items_within limit b)
items_within limit (clause r p (suc j) code ∷ b) = (λ e. false_true e, items_within limit b)

-- The parts of a whole translation are read back.
pub parts_encode : (f : Translation) → WholeTranslation f → parts_of (encode_translation f) ≡ some f
unfolding parts_of encode_translation translation_fields parts_in
parts_encode f w =
    let g = rising_grouped f.body (rises_parts f w.rises).2 w.body in
    rw (
      fields_encode (field 0x20 (encode_language f.source) ∷ field 0x21 (encode_language f.target) ∷ map item_field f.body),
      language_encode f.source w.source,
      language_encode f.target w.target,
      items_encode f.body w.body g,
    )

-- Its languages are within their limit.
languages_within : (f : Translation) → WholeTranslation f → has_over is_language_tag language_limit (encode_translation f) ≡ false
unfolding encode_translation translation_fields
languages_within f w =
    within_over is_language_tag language_limit _ (λ e. w.source_short, (λ e. w.target_short, items_within language_limit f.body))

-- A whole translation that is written is read back, and then asked to be well formed.
pub translation_back : (f : Translation) → WholeTranslation f → translation_of (encode_translation f) ≡ well_formed f
unfolding translation_of
translation_back f w =
    open_rest all_rising either_clashes well_formed _ _ f
    (false_or _ _ (le-ltb translation_limit (length (encode_translation f)) w.short) (languages_within f w))
    (parts_encode f w) w.rises (false_or _ _ w.source_apart w.target_apart)

-- What a translation is read from.
pub record PartsIn (s : List ℕ) (f : Translation) : Type 0 where
  pub source_bytes : List ℕ
  pub target_bytes : List ℕ
  pub items : List Field
  pub fields : fields_of s ≡ some (field 0x20 source_bytes ∷ field 0x21 target_bytes ∷ items)
  pub source : entries_of source_bytes ≡ some f.source
  pub target : entries_of target_bytes ≡ some f.target
  pub body : items_in items ≡ some f.body

-- The three parts, taken apart.
pub parts_some : (a b : Option Language) (c : Option Body) (f : Translation) → parts a b c ≡ some f
    → (a ≡ some f.source) × (b ≡ some f.target) × (c ≡ some f.body)
parts_some none b c f e = none_some e
parts_some (some x) none c f e = none_some e
parts_some (some x) (some y) none f e = none_some e
parts_some (some x) (some y) (some z) f e =
    let h : record { source = x; target = y; body = z } ≡ f = cc in
    (ap (λ (g : Translation). some g.source) h, ap (λ (g : Translation). some g.target) h, ap (λ (g : Translation). some g.body) h)

-- The parts of a list of fields.
parts_in_fields : (s : List ℕ) (fs : List Field) (f : Translation) → fields_of s ≡ some fs → parts_in fs ≡ some f → PartsIn s f
unfolding parts_in
parts_in_fields s [] f d e = none_some e
parts_in_fields s (x ∷ []) f d e = none_some e
parts_in_fields s (field x a ∷ field y b ∷ fs) f d e =
    by_test (eqb x 0x20 && eqb y 0x21)
    (λ t.
    let (u, v) = and_both (eqb x 0x20) (eqb y 0x21) t in
    let h : parts (entries_of a) (entries_of b) (items_in fs) ≡ some f = cc in
    let (p, q, r) = parts_some (entries_of a) (entries_of b) (items_in fs) f h in
    record {
      source_bytes = a;
      target_bytes = b;
      items = fs;
      fields = rw (← eqb-true x 0x20 u, ← eqb-true y 0x21 v) d;
      source = p;
      target = q;
      body = r;
    })
    (λ t. none_some {b = f} (cc))

-- The parts of fields that may not be there.
parts_in_option : (s : List ℕ) (o : Option (List Field)) (f : Translation) → fields_of s ≡ o → parts_of_fields o ≡ some f → PartsIn s f
parts_in_option s none f d e = none_some e
parts_in_option s (some fs) f d e = parts_in_fields s fs f d e

-- The parts of a translation that is read.
pub parts_in_lem : (s : List ℕ) (f : Translation) → parts_of s ≡ some f → PartsIn s f
unfolding parts_of
parts_in_lem s f e = parts_in_option s (fields_of s) f refl e

module _ {s : List ℕ} {f : Translation} (p : PartsIn s f) where
  -- A translation that is read has at most as many bytes as it is read from.
  pub translation_length : length (encode_translation f) ≤ length s
  unfolding encode_translation translation_fields
  translation_length =
      let a = field 0x20 (encode_language f.source) in
      let b = field 0x21 (encode_language f.target) in
      let c = field 0x20 p.source_bytes in
      let d = field 0x21 p.target_bytes in
      omega (
        arith,
        fields_length s (c ∷ d ∷ p.items) p.fields,
        encode_length a (b ∷ map item_field f.body),
        encode_length b (map item_field f.body),
        encode_length c (d ∷ p.items),
        encode_length d p.items,
        language_length p.source_bytes f.source p.source,
        language_length p.target_bytes f.target p.target,
        entries_length item_codec p.items f.body (items_some p.items f.body p.body).0,
      )

  -- No language says that it is over the limit: both are within it.
  pub both_short : has_over is_language_tag language_limit s ≡ false
      → (length (encode_language f.source) ≤ language_limit) × (length (encode_language f.target) ≤ language_limit)
  both_short h =
      let fs = field 0x20 p.source_bytes ∷ field 0x21 p.target_bytes ∷ p.items in
      let (a, (b, w)) = not_over is_language_tag language_limit s fs p.fields h in (
        omega (arith, a refl, language_length p.source_bytes f.source p.source),
        omega (arith, b refl, language_length p.target_bytes f.target p.target),
      )

-- A translation that is well formed is kept as it is.
well_same : (f g : Translation) → well_formed f ≡ value g → f ≡ g
unfolding well_formed
well_same f g e = go (mapping_fits f) (clauses_fit f) (codes_fit f) e
  where
    go : (a b c : Bool) → refuse_if (not a) WrongMapping (refuse_if (not b) WrongClauses (refuse_if (not c) IllegalCode (value f))) ≡ value g → f ≡ g
    go false b c e = refused_value e
    go true false c e = refused_value e
    go true true false e = refused_value e
    go true true true e = cc

-- A translation that a file holds: the parts that are read, which are whole and well formed.
pub translation_whole : (s : List ℕ) (f : Translation) → translation_of s ≡ value f
    → PartsIn s f × WholeTranslation f × (well_formed f ≡ value f)
unfolding translation_of
translation_whole s f e =
    let o = open_value all_rising either_clashes well_formed (ltb translation_limit (length s) || has_over is_language_tag language_limit s) (parts_of s) f e in
    let z : o.held ≡ f = well_same o.held f o.made in
    let p = parts_in_lem s f (rw (← z) o.reads) in
    let (long, over) = or_false (ltb translation_limit (length s)) (has_over is_language_tag language_limit s) o.fits in
    let (a, b) = or_false (clashes o.held.source o.held.source) (clashes o.held.target o.held.target) o.apart in
    let (short1, short2) = both_short p over in (
      p,
      record {
        source = language_whole p.source_bytes f.source p.source;
        target = language_whole p.target_bytes f.target p.target;
        body = entries_whole item_codec p.items f.body (items_some p.items f.body p.body).0;
        rises = rw (← z) o.in_order;
        source_apart = rw (← z) a;
        target_apart = rw (← z) b;
        source_short = short1;
        target_short = short2;
        short = omega (arith, translation_length p, ltb-false translation_limit (length s) long);
      },
      ap well_formed (sym z) ∙ o.made,
    )

-- Its parts are those that are read.
pub translation_parts : (s : List ℕ) (f : Translation) → translation_of s ≡ value f → parts_of s ≡ some f
unfolding translation_of
translation_parts s f e =
    let o = open_value all_rising either_clashes well_formed (ltb translation_limit (length s) || has_over is_language_tag language_limit s) (parts_of s) f e in
    let z : o.held ≡ f = well_same o.held f o.made in
    rw (← z) o.reads

-- The file is within the limit, and says of no language that it is over its own.
pub translation_within : (s : List ℕ) (f : Translation) → translation_of s ≡ value f
    → (length s ≤ translation_limit) × (has_over is_language_tag language_limit s ≡ false)
unfolding translation_of
translation_within s f e =
    let o = open_value all_rising either_clashes well_formed (ltb translation_limit (length s) || has_over is_language_tag language_limit s) (parts_of s) f e in
    let (long, over) = or_false (ltb translation_limit (length s)) (has_over is_language_tag language_limit s) o.fits in
    (ltb-false translation_limit (length s) long, over)
