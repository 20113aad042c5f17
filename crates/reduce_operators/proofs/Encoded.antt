-- What the operators on bytes come to for languages and for bodies that are written in bytes.
use Prim.Native.Nat.{ℕ, zero, suc, ◌+◌, ◌*◌, ◌-◌, ◌/◌, ◌%◌, ◌<◌, ◌≤◌}
use mathlib.Core.Path.{◌≡◌, refl, sym, ap, ◌∙◌}
use mathlib.Core.Bool.{Bool, true, cond}
use mathlib.Core.List.{List, [], ◌∷◌, ◌++◌, map, append_assoc, append-nil}
use mathlib.Core.Logic.{⊎_elim}
use mathlib.Core.Option.{some}
use native.Mathlib.Omega.{arith}
use lib.ListN.{length, take, drop, length-append, length-take, length-drop, get_or-append}
use lib.Seq.{slice, take-append_seam, drop-append_seam, get_or-append-add}
use lib.Dec.{ltb, leb, eqb}
use borrow.Author.Tests.{lt-ltb, le-ltb, ltb-true, ltb-false, eq-eqb, ne_eqb, leb-true, eqb-true}
use Rattle.format_fields.specs.Lists.{all, concat_map, same_numbers}
use Rattle.format_fields.specs.Fields.{Field, field, byte_at, pair_at, two_bytes, encode_field, encode_fields, fields_of}
use Rattle.format_fields.specs.Keyed.{union, within, without, agree, rising}
use Rattle.format_fields.specs.Inner.Places.{field_end, is_whole, long_at, field_at, key_at, item_order, order_at, places_from, places}
use Rattle.format_fields.proofs.Truth.{Mem, by_test, and_both, both_and, or_right, same_truth, numbers_equal, equal_numbers}
use Rattle.format_fields.proofs.Codec.{Each, contents_of, cond_some, fields_encode, field_length}
use Rattle.format_fields.proofs.Lists.{all_true, rising_map, part_past}
use Rattle.format_fields.proofs.Split.{fields_at_places}
use Rattle.format_fields.proofs.Places.{places_next}
use Rattle.format_language.specs.Language.{Range, Entry, class, production, Language, entry_key, same_entry}
use Rattle.format_language.specs.LanguageFile.{is_kind, range_whole, step_bytes, entry_field, encode_language}
use Rattle.format_language.specs.Inner.Entries.{entry_at, class_range, Holds, RisingEntries}
use Rattle.format_language.specs.Inner.Entries as Inner
use Rattle.format_language.proofs.Facts.{entry_facts, class_is, production_is}
use Rattle.format_language.proofs.Codec.{entry_whole, two_bytes_lem, language_encode}
use Rattle.format_language.proofs.Holds.{holds_entries}
use Rattle.format_language.proofs.Chain.{rising_is}
use Rattle.format_language.proofs.Clashes.{meet_is}
use Rattle.format_language.proofs.Lookup as Entries
use Rattle.format_translation.specs.Translation.{Item, mapping, clause, Body, plain_key, number_of, item_key, same_item}
use Rattle.format_translation.specs.TranslationFile.{item_field}
use Rattle.format_translation.proofs.Lookup as Items
use Rattle.format_translation.specs.Inner.Parts.{source_in, target_in, body_in}
use Rattle.reduce_operators.specs.Inner.Assembled.{assembled}
use Rattle.reduce_operators.specs.Operators.{languages_fit, language_union, language_without, entry_within}
use Rattle.reduce_merge.specs.Inner.Parts.{Part, part_key, same_part, part_within, class_part, bytes_of, piece_at, part_at, parts_from, parts, Sorted, SortedEntries, united, removed, lies_within, agrees, fit_together}
use Rattle.format_fields.proofs.Splices.{slice_is}
use Rattle.reduce_merge.proofs.Walks.{parts_done, parts_next}
use Rattle.reduce_operators.proofs.Mapped.{union_mapped, within_mapped, without_mapped, agree_mapped}

-- The key of a field without a number; with it, in a body; and the field by key and bytes.
abbrev plain_field_key : ℕ → ℕ → List ℕ → ℕ
plain_field_key first tag c = cond (eqb tag first) (byte_at c 0) (32 + pair_at c 0)

abbrev item_field_key : ℕ → List ℕ → ℕ
item_field_key tag c =
    cond (ltb tag 0x28) (plain_field_key 0x22 tag c * 256)
    (cond (eqb tag 0x28) (pair_at c 0)
    (cond (ltb (length c) 3) ((32 + pair_at c 0) * 256) ((32 + pair_at c 0) * 256 + byte_at c 2)))

abbrev field_key : ℕ → Field → ℕ
field_key first (field tag c) = cond (eqb first 0x22) (item_field_key tag c) (plain_field_key first tag c)

abbrev field_part : ℕ → Field → Part
field_part first f = record { key = field_key first f; bytes = encode_field f }

-- A field that holds its key.
abbrev Long : Field → Type 0
Long f = 2 ≤ length (contents_of f)

-- A field in its place, behind `front` and in front of `rest`.
module _ (front : List ℕ) (tag : ℕ) (c rest : List ℕ) where
  -- the file
  abbrev file : List ℕ
  file = front ++ (encode_field (field tag c) ++ rest)

  at_byte : (i : ℕ) → byte_at file (length front + i) ≡ byte_at (encode_field (field tag c) ++ rest) i
  at_byte i = get_or-append-add front (encode_field (field tag c) ++ rest) i 0

  at_size : pair_at file (length front + 1) ≡ length c
  unfolding pair_at encode_field
  at_size =
      let d : length front + 1 + 1 ≡ length front + 2 = omega arith in
      rw d (cc (at_byte 1, at_byte 2, two_bytes_lem (length c)))

  at_end : field_end file (length front) ≡ length (front ++ encode_field (field tag c))
  unfolding field_end
  at_end = omega (arith, at_size, length-append front (encode_field (field tag c)), field_length (field tag c))

  at_inside : length front < length file
  at_inside =
      omega (arith, length-append front (encode_field (field tag c) ++ rest), length-append (encode_field (field tag c)) rest, field_length (field tag c))

  at_bytes : piece_at file (length front) ≡ encode_field (field tag c)
  at_bytes =
      let x = encode_field (field tag c) in
      let e = field_end file (length front) in
      let l : length file ≡ length front + (length x + length rest) = omega (arith, length-append front (x ++ rest), length-append x rest) in
      let n : e - length front ≡ length x = omega (arith, at_end, length-append front x) in
      let h : length front ≤ e = omega (arith, at_end, length-append front x) in
      let k : e ≤ length file = omega (arith, at_end, length-append front x) in
      slice_is file (length front) e h k
      ∙ (ap (λ (r : List ℕ). take (e - length front) r) (drop-append_seam front (x ++ rest))
      ∙ (ap (λ (j : ℕ). take j (x ++ rest)) n ∙ take-append_seam x rest))

  at_tag : byte_at file (length front) ≡ tag
  unfolding encode_field
  at_tag = let z : length front + 0 ≡ length front = omega arith in ap (byte_at file) (sym z) ∙ at_byte 0

  at_pair : Long (field tag c) → pair_at file (length front + 3) ≡ pair_at c 0
  unfolding pair_at encode_field
  at_pair h =
      let d : length front + 3 + 1 ≡ length front + 4 = omega arith in
      let i : 0 < length c = omega arith in
      let j : 1 < length c = omega arith in
      let a : byte_at file (length front + 3) ≡ byte_at c 0 = at_byte 3 ∙ get_or-append c rest 0 0 i in
      let b : byte_at file (length front + 3 + 1) ≡ byte_at c 1 = ap (byte_at file) d ∙ (at_byte 4 ∙ get_or-append c rest 0 1 j) in
      cc

  at_plain : (first : ℕ) → Long (field tag c) → key_at first file (length front) ≡ plain_field_key first tag c
  unfolding key_at encode_field
  at_plain first h =
      let i : 0 < length c = omega arith in
      let a : byte_at file (length front + 3) ≡ byte_at c 0 = at_byte 3 ∙ get_or-append c rest 0 0 i in
      cc (at_tag, at_pair h)

  at_third : 3 ≤ length c → byte_at file (length front + 5) ≡ byte_at c 2
  unfolding encode_field
  at_third h = at_byte 5 ∙ get_or-append c rest 0 2 (omega arith)

  at_item : Long (field tag c) → item_order file (length front) ≡ item_field_key tag c
  unfolding item_order
  at_item h =
      by_test (ltb (length c) 3)
      (λ e. rw (at_tag, at_plain 0x22 h, at_pair h, at_size, e))
      (λ e. rw (at_tag, at_plain 0x22 h, at_pair h, at_size, e, at_third (ltb-false _ _ e)))

  at_key : (first : ℕ) → Long (field tag c) → order_at first file (length front) ≡ field_key first (field tag c)
  unfolding order_at
  at_key first h = rw (at_item h, at_plain first h)

  at_part : (first : ℕ) → Long (field tag c) → part_at first file (length front) ≡ field_part first (field tag c)
  unfolding part_at
  at_part first h = λ i. record { key = at_key first h i; bytes = at_bytes i }

  at_contents : slice (length front + 3) (field_end file (length front)) file ≡ c
  unfolding encode_field
  at_contents = sym (part_past file (length front) (field_end file (length front)) 3) ∙ ap (drop 3) at_bytes

-- The parts of a translation that is written.
module _ (s t b : List ℕ) where
  pub source_in_lem : source_in (assembled s t b) ≡ s
  unfolding source_in assembled
  source_in_lem = at_contents [] 0x20 s (encode_field (field 0x21 t) ++ b)

  source_end : field_end (assembled s t b) 0 ≡ length (encode_field (field 0x20 s))
  unfolding assembled
  source_end = at_end [] 0x20 s (encode_field (field 0x21 t) ++ b)

  pub target_in_lem : target_in (assembled s t b) ≡ t
  unfolding target_in assembled
  target_in_lem = rw source_end (at_contents (encode_field (field 0x20 s)) 0x21 t b)

  pub body_at : body_in (assembled s t b) ≡ b
  unfolding body_in assembled
  body_at =
      let x = encode_field (field 0x20 s) in
      let y = encode_field (field 0x21 t) in
      rw (source_end, at_end x 0x21 t b) (ap (drop (length (x ++ y))) (sym (append_assoc x y b)) ∙ drop-append_seam (x ++ y) b)

-- The fields of a file that is written.
parts_behind : (first : ℕ) (front : List ℕ) (fs : List Field) → Each Long fs
    → parts_from first (front ++ encode_fields fs) (length front) ≡ map (field_part first) fs
unfolding encode_fields concat_map
parts_behind first front [] h = parts_done first (front ++ []) (length front) (omega (arith, length-append front []))
parts_behind first front (field tag c ∷ fs) h =
    let x = encode_field (field tag c) in
    let s = front ++ (x ++ encode_fields fs) in
    parts_next first s (length front) (at_inside front tag c (encode_fields fs))
    ∙ (ap (λ (a : Part). a ∷ parts_from first s (field_end s (length front))) (at_part front tag c (encode_fields fs) first h.0)
    ∙ ap (λ (l : List Part). field_part first (field tag c) ∷ l)
    (ap (parts_from first s) (at_end front tag c (encode_fields fs))
    ∙ (ap (λ (l : List ℕ). parts_from first l (length (front ++ x))) (sym (append_assoc front x (encode_fields fs)))
    ∙ parts_behind first (front ++ x) fs h.1)))

pub parts_encode : (first : ℕ) (fs : List Field) → Each Long fs → parts first (encode_fields fs) ≡ map (field_part first) fs
parts_encode first fs h = parts_behind first [] fs h

-- Every field of a file that is written is whole.
whole_encode : (fs : List Field) → all (is_whole (encode_fields fs)) (places (encode_fields fs)) ≡ true
whole_encode fs = (cond_some _ _ fs (sym (fields_at_places (encode_fields fs)) ∙ fields_encode fs)).0

-- Every field that holds its key has its first five bytes.
long_places : (s l : List ℕ) → all (is_whole s) l ≡ true → Each Long (map (field_at s) l) → all (long_at s) l ≡ true
unfolding all is_whole long_at field_end field_at
long_places s [] h k = refl
long_places s (p ∷ l) h k =
    let w = all_true (is_whole s) p l h in
    let f : p + 3 + pair_at s (p + 1) ≤ length s = leb-true _ _ w.0 in
    let n : 2 ≤ pair_at s (p + 1) = omega (arith, simp (length-take, length-drop) at k.0) in
    let g : p + 4 < length s = omega arith in
    both_and (long_at s p) (all (long_at s) l) (lt-ltb _ _ g) (long_places s l w.1 k.1)

long_encode : (fs : List Field) → Each Long fs → all (long_at (encode_fields fs)) (places (encode_fields fs)) ≡ true
long_encode fs h =
    let s = encode_fields fs in
    let w = cond_some _ _ fs (sym (fields_at_places s) ∙ fields_encode fs) in
    long_places s (places s) w.0 (rw w.1 h)

-- The bytes of mapped fields.
bytes_map : (first : ℕ) (fs : List Field) → bytes_of (map (field_part first) fs) ≡ encode_fields fs
unfolding bytes_of encode_fields concat_map
bytes_map first [] = refl
bytes_map first (f ∷ fs) = ap (λ (r : List ℕ). encode_field f ++ r) (bytes_map first fs)

pub map_map : {A B C : Type 0} (f : B → C) (g : A → B) (l : List A) → map f (map g l) ≡ map (λ a. f (g a)) l
map_map f g [] = refl
map_map f g (a ∷ l) = ap (λ r. f (g a) ∷ r) (map_map f g l)

-- A field is known by its bytes.
field_equal : (f h : Field) → encode_field f ≡ encode_field h → f ≡ h
unfolding encode_fields concat_map
field_equal f h e =
    let d : encode_fields (f ∷ []) ≡ encode_fields (h ∷ []) = ap (λ (x : List ℕ). x ++ []) e in
    let z : some (f ∷ []) ≡ some (h ∷ []) = sym (fields_encode (f ∷ [])) ∙ (ap fields_of d ∙ fields_encode (h ∷ [])) in
    cc

-- Fields that are the same have the same bytes, and a field is the same as itself.
same_bytes : (x y : Part) → same_part x y ≡ true → x.bytes ≡ y.bytes
unfolding same_part
same_bytes x y e = numbers_equal x.bytes y.bytes (and_both (eqb x.key y.key) (same_numbers x.bytes y.bytes) e).1

same_self : (x : Part) → same_part x x ≡ true
unfolding same_part
same_self x = both_and (eqb x.key x.key) (same_numbers x.bytes x.bytes) (eq-eqb x.key x.key refl) (equal_numbers x.bytes)

-- Entries that are kept one to a field: the field holds the key, and tells the entry.
record Kept {A : Type 0} (first : ℕ) (encode : A → Field) (key : A → ℕ) (alike : A → A → Bool) : Type 0 where
  long : (a : A) → Long (encode a)
  keys : (a : A) → field_key first (encode a) ≡ key a
  tells : (a b : A) → encode a ≡ encode b → a ≡ b
  alike_equal : (a b : A) → alike a b ≡ true → a ≡ b
  equal_alike : (a : A) → alike a a ≡ true

module _ {A : Type 0} {first : ℕ} {encode : A → Field} {key : A → ℕ} {alike : A → A → Bool} (kept : Kept first encode key alike) where
  -- An entry by key and bytes, and the bytes of entries.
  abbrev entry_part : A → Part
  entry_part a = field_part first (encode a)

  abbrev written : List A → List ℕ
  written l = encode_fields (map encode l)

  all_long : (l : List A) → Each Long (map encode l)
  all_long [] = tt
  all_long (a ∷ l) = (kept.long a, all_long l)

  entry_parts : (l : List A) → parts first (written l) ≡ map entry_part l
  entry_parts l = parts_encode first (map encode l) (all_long l) ∙ map_map (field_part first) encode l

  bytes_of_lem : (l : List A) → bytes_of (map entry_part l) ≡ written l
  bytes_of_lem l = ap bytes_of (sym (map_map (field_part first) encode l)) ∙ bytes_map first (map encode l)

  same_is : (a b : A) → same_part (entry_part a) (entry_part b) ≡ alike a b
  same_is a b =
      same_truth (same_part (entry_part a) (entry_part b)) (alike a b)
      (λ e.
      let d : a ≡ b = kept.tells a b (field_equal (encode a) (encode b) (same_bytes (entry_part a) (entry_part b) e)) in
      rw d (kept.equal_alike b))
      (λ e. rw (kept.alike_equal a b e) (same_self (entry_part b)))

  sorted_of : (l : List A) → rising key l ≡ true → Sorted first (written l)
  unfolding rising
  sorted_of l h = record {
    long = long_encode (map encode l) (all_long l);
    whole = whole_encode (map encode l);
    rises = rw (entry_parts l) (rising_map part_key entry_part key kept.keys 0 l ∙ h);
  }

  united_of : (l m : List A) → united first (written l) (written m) ≡ written (union key l m)
  unfolding united
  united_of l m =
      rw (entry_parts l, entry_parts m) (ap bytes_of (union_mapped entry_part part_key key kept.keys l m) ∙ bytes_of_lem (union key l m))

  removed_of : (l m : List A) → removed first (written l) (written m) ≡ written (without alike l m)
  unfolding removed
  removed_of l m =
      rw (entry_parts l, entry_parts m) (ap bytes_of (without_mapped entry_part same_part alike same_is l m) ∙ bytes_of_lem (without alike l m))

  agrees_of : (l m : List A) → agrees first (written l) (written m) ≡ agree key alike l m
  unfolding agrees
  agrees_of l m = rw (entry_parts l, entry_parts m) (agree_mapped entry_part same_part alike same_is part_key key kept.keys l m)

-- Languages. A step is told by its bytes.
step_equal : (m n : ℕ) → step_bytes m ≡ step_bytes n → m ≡ n
unfolding step_bytes
step_equal m n e =
    by_test (eqb m 1)
    (λ a. by_test (eqb n 1)
    (λ b. eqb-true m 1 a ∙ sym (eqb-true n 1 b))
    (λ b. let z : [] ≡ two_bytes n = rw (a, b) at e in let l : 0 ≡ 2 = ap length z in absurd (omega arith)))
    (λ a. by_test (eqb n 1)
    (λ b. let z : two_bytes m ≡ [] = rw (a, b) at e in let l : 2 ≡ 0 = ap length z in absurd (omega arith))
    (λ b.
    let z : two_bytes m ≡ two_bytes n = rw (a, b) at e in
    let p : m / 256 ≡ n / 256 = cc in
    let q : m % 256 ≡ n % 256 = cc in
    omega arith))

entry_equal : (a b : Entry) → entry_field a ≡ entry_field b → a ≡ b
unfolding entry_field
entry_equal (class k a) (class j c) e =
    let z : k ≡ j = cc in
    let p : a.low / 256 ≡ c.low / 256 = cc in
    let q : a.low % 256 ≡ c.low % 256 = cc in
    let r : a.high / 256 ≡ c.high / 256 = cc in
    let s : a.high % 256 ≡ c.high % 256 = cc in
    let x : a.low ≡ c.low = omega arith in
    let y : a.high ≡ c.high = omega arith in
    let t : a.step ≡ c.step = step_equal a.step c.step (cc) in
    λ i. class (z i) (record { low = x i; high = y i; step = t i })
entry_equal (class k a) (production s q js) e = let z : ◌≡◌ {A = ℕ} 0x11 0x12 = cc in absurd (omega arith)
entry_equal (production r p ks) (class j c) e = let z : ◌≡◌ {A = ℕ} 0x12 0x11 = cc in absurd (omega arith)
entry_equal (production r p ks) (production s q js) e = cc

entry_long : (a : Entry) → Long (entry_field a)
unfolding entry_field
entry_long (class k c) = omega arith
entry_long (production r p ks) = omega arith

entry_key_lem : (a : Entry) → field_key 0x11 (entry_field a) ≡ entry_key a
unfolding entry_field entry_key pair_at
entry_key_lem (class k c) = refl
entry_key_lem (production r p ks) = refl

entries : Kept 0x11 entry_field entry_key same_entry
entries = record {
  long = entry_long;
  keys = entry_key_lem;
  tells = entry_equal;
  alike_equal = Entries.same_equal;
  equal_alike = Entries.equal_same;
}

module _ (l m : Language) where
  pub sorted_language : rising entry_key l ≡ true → Sorted 0x11 (encode_language l)
  unfolding encode_language
  sorted_language h = sorted_of entries l h

  pub united_languages : united 0x11 (encode_language l) (encode_language m) ≡ encode_language (language_union l m)
  unfolding encode_language language_union
  united_languages = united_of entries l m

  pub removed_language : removed 0x11 (encode_language l) (encode_language m) ≡ encode_language (language_without l m)
  unfolding encode_language language_without
  removed_language = removed_of entries l m

  pub languages_agree : agrees 0x11 (encode_language l) (encode_language m) ≡ agree entry_key same_entry l m
  unfolding encode_language
  languages_agree = agrees_of entries l m

-- An entry by key and bytes.
abbrev language_part : Entry → Part
language_part a = field_part 0x11 (entry_field a)

-- A whole entry by itself, in its own bytes.
module _ (a : Entry) (h : entry_whole a ≡ true) where
  abbrev own : List ℕ
  own = encode_field (entry_field a)

  own_holds : Holds own (a ∷ [])
  unfolding encode_language encode_fields concat_map all
  own_holds =
      let w : all entry_whole (a ∷ []) ≡ true = both_and (entry_whole a) true h refl in
      rw (append-nil own) at (holds_entries (encode_language (a ∷ [])) (a ∷ []) (language_encode (a ∷ []) w))

  own_long : 0 < length own
  unfolding encode_field
  own_long = go (entry_field a)
    where
      go : (f : Field) → 0 < length (encode_field f)
      go (field tag c) = omega arith

  own_places : places own ≡ 0 ∷ places_from own (field_end own 0)
  own_places = places_next own 0 own_long

  own_whole : Inner.entry_whole own 0 ≡ true
  own_whole = (all_true (Inner.entry_whole own) 0 (places_from own (field_end own 0)) (rw own_places at own_holds.whole)).0

  own_entry : entry_at own 0 ≡ a
  own_entry = let e : entry_at own 0 ∷ map (entry_at own) (places_from own (field_end own 0)) ≡ a ∷ [] = ap (map (entry_at own)) (sym own_places) ∙ own_holds.entries in cc

-- A class is in its own bytes with its range.
class_own : (k : ℕ) (c : Range) (h : entry_whole (class k c) ≡ true) → class_range (own (class k c) h) 0 ≡ c
class_own k c h =
    let s = own (class k c) h in
    ⊎_elim
    (λ w. let e = sym (class_is s 0 w) ∙ own_entry (class k c) h in cc)
    (λ w. let e = sym (production_is s 0 w) ∙ own_entry (class k c) h in let z : ◌≡◌ {A = ℕ} 0 1 = cc in absurd (omega arith))
    (entry_facts s 0 (own_whole (class k c) h))

-- The key of a class is its kind, and that is one.
class_key : (k : ℕ) (c : Range) → (language_part (class k c)).key ≡ k
unfolding entry_field
class_key k c = refl

production_key_lem : (r p : ℕ) (ks : List ℕ) → (language_part (production r p ks)).key ≡ 32 + (r * 256 + p)
unfolding entry_field pair_at
production_key_lem r p ks = refl

class_kind : (k : ℕ) (c : Range) → entry_whole (class k c) ≡ true → ltb k 32 ≡ true
unfolding entry_whole
class_kind k c h = (and_both (is_kind k) (range_whole c) h).0

-- A class is whole, and a production is no class.
class_part_lem : (a : Entry) → entry_whole a ≡ true → class_part (language_part a) ≡ true
unfolding class_part
class_part_lem a h = or_right (leb 32 (language_part a).key) _ (own_whole a h)

class_parts : (l : Language) → all entry_whole l ≡ true → all class_part (map language_part l) ≡ true
unfolding all
class_parts [] h = refl
class_parts (a ∷ l) h =
    let w = and_both (entry_whole a) (all entry_whole l) h in
    both_and (class_part (language_part a)) (all class_part (map language_part l)) (class_part_lem a w.0) (class_parts l w.1)

pub sorted_entries : (l : Language) → all entry_whole l ≡ true → rising entry_key l ≡ true → SortedEntries (encode_language l)
unfolding encode_language
sorted_entries l w h = record { sorted = sorted_of entries l h; classes = rw (entry_parts entries l) (class_parts l w) }

-- A field that is no class lies in another if it is the same.
same_within : (x y : Part) → 32 ≤ x.key → part_within x y ≡ same_part x y
unfolding part_within same_part
same_within x y h = rw (le-ltb x.key 32 h)

-- Whole entries lie in each other as their fields do.
part_within_lem : (a b : Entry) → entry_whole a ≡ true → entry_whole b ≡ true → part_within (language_part a) (language_part b) ≡ entry_within a b
unfolding part_within entry_within
part_within_lem (class k c) (class j d) h i = cc (class_key k c, class_key j d, class_kind k c h, class_own k c h, class_own j d i)
part_within_lem (class k c) (production s q js) h i =
    let w = ltb-true k 32 (class_kind k c h) in
    let n : k ≡ 32 + (s * 256 + q) → ⊥ = λ e. omega arith in
    cc (class_key k c, production_key_lem s q js, ne_eqb k (32 + (s * 256 + q)) n)
part_within_lem (production r p ks) b h i =
    same_within (language_part (production r p ks)) (language_part b) (omega (arith, production_key_lem r p ks)) ∙ same_is entries (production r p ks) b

-- Languages of whole entries lie within each other as their bytes do.
pub language_within : (l m : Language) → ((a : Entry) → Mem a l → entry_whole a ≡ true) → ((a : Entry) → Mem a m → entry_whole a ≡ true)
    → lies_within (encode_language l) (encode_language m) ≡ within entry_within l m
unfolding encode_language lies_within
language_within l m h k =
    rw (entry_parts entries l, entry_parts entries m)
    (within_mapped language_part part_within entry_within l m (λ a b x y. part_within_lem a b (h a x) (k b y)))

-- Languages of whole entries fit together as their bytes do.
pub languages_fit_lem : (l m : Language) → all entry_whole l ≡ true → all entry_whole m ≡ true
    → fit_together (encode_language l) (encode_language m) ≡ languages_fit l m
unfolding fit_together languages_fit
languages_fit_lem l m h k =
    let a = holds_entries (encode_language l) l (language_encode l h) in
    let b = holds_entries (encode_language m) m (language_encode m k) in
    rw (meet_is _ _ l m a b, meet_is _ _ m l b a, languages_agree l m)

-- A language that is written is whole entries whose keys rise.
pub rising_language : (l : Language) → all entry_whole l ≡ true → rising entry_key l ≡ true → RisingEntries (encode_language l)
rising_language l h r =
    let w = holds_entries (encode_language l) l (language_encode l h) in
    record { whole = w.whole; rises = rising_is (encode_language l) l w ∙ r }

-- Bodies.
-- The item that a field was written for.
abbrev item_back : Field → Item
item_back (field tag c) =
    cond (eqb tag 0x22) (mapping (byte_at c 0) 0 (byte_at c 1))
    (cond (eqb tag 0x23) (clause (byte_at c 0) (byte_at c 1) 0 (drop 2 c))
    (cond (eqb tag 0x28) (mapping (byte_at c 0) (byte_at c 1) (byte_at c 2))
    (clause (byte_at c 0) (byte_at c 1) (byte_at c 2) (drop 3 c))))

item_back_lem : (a : Item) → item_back (item_field a) ≡ a
unfolding item_field
item_back_lem (mapping s zero t) = refl
item_back_lem (mapping s (suc j) t) = refl
item_back_lem (clause r p zero c) = refl
item_back_lem (clause r p (suc j) c) = refl

-- The field of an item holds its key.
pub item_long : (a : Item) → 2 ≤ length (contents_of (item_field a))
unfolding item_field
item_long (mapping s zero t) = omega arith
item_long (mapping s (suc j) t) = omega arith
item_long (clause r p zero c) = omega arith
item_long (clause r p (suc j) c) = omega arith

item_key_lem : (a : Item) → field_key 0x22 (item_field a) ≡ item_key a
unfolding item_field item_key plain_key number_of pair_at
item_key_lem (mapping s zero t) = omega arith
item_key_lem (mapping s (suc j) t) = refl
item_key_lem (clause r p zero c) = omega arith
item_key_lem (clause r p (suc j) c) =
    let h : 3 ≤ length (r ∷ p ∷ suc j ∷ c) = omega arith in
    rw (le-ltb (length (r ∷ p ∷ suc j ∷ c)) 3 h) refl

items : Kept 0x22 item_field item_key same_item
items = record {
  long = item_long;
  keys = item_key_lem;
  tells = λ a b e. sym (item_back_lem a) ∙ (ap item_back e ∙ item_back_lem b);
  alike_equal = Items.same_equal;
  equal_alike = Items.equal_same;
}

-- The bytes of a body.
abbrev pub body_bytes : Body → List ℕ
body_bytes b = encode_fields (map item_field b)

module _ (x y : Body) where
  pub sorted_body : rising item_key x ≡ true → Sorted 0x22 (body_bytes x)
  sorted_body h = sorted_of items x h

  pub united_bodies : united 0x22 (body_bytes x) (body_bytes y) ≡ body_bytes (union item_key x y)
  united_bodies = united_of items x y

  pub bodies_agree : agrees 0x22 (body_bytes x) (body_bytes y) ≡ agree item_key same_item x y
  bodies_agree = agrees_of items x y
