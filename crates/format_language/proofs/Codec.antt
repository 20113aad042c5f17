-- Languages in bytes: what is written is read back.
use Prim.Native.Nat.{ℕ, suc, ◌+◌, ◌*◌, ◌/◌, ◌%◌, ◌≤◌}
use mathlib.Core.Path.{◌≡◌, refl, sym, ap, ◌∙◌}
use mathlib.Core.Bool.{Bool, true, false, cond, not, ◌&&◌, ◌||◌}
use mathlib.Core.Logic.{⊎_elim}
use mathlib.Core.List.{List, [], ◌∷◌, ◌++◌, map, append-nil}
use mathlib.Core.Option.{Option, none, some}
use native.Mathlib.Omega.{arith}
use lib.ListN.{length, take, drop, length-drop, take-append-drop}
use lib.Seq.{take_all}
use lib.Dec.{ltb, leb, eqb}
use borrow.Author.Tests.{le-leb, leb-true, eqb-true, le-ltb, ltb-false}
use Rattle.outcome.specs.Outcome.{Result, value, refuse_if, ◌>>=◌}
use Rattle.outcome.specs.declared.Reason.TheVariants.{TooLong, OutOfOrder, ClassIsResult}
use Rattle.format_fields.specs.Lists.{all, traverse}
use Rattle.format_fields.specs.Fields.{Field, field, byte_at, pair_at, two_bytes, fields_of, decoded_in}
use Rattle.format_fields.specs.Keyed.{rising}
use Rattle.format_fields.proofs.Truth.{by_test, none_some, and_both, both_and, or_cases}
use Rattle.format_fields.proofs.Codec.{Bytes, contents_of, Codec, cond_some, refused_value, two_tags, front_two, fields_encode, fields_length, entries_encode, entries_whole, entries_length}
use Rattle.format_language.specs.Language.{Range, Entry, class, production, Language, entry_key, clashes}
use Rattle.format_language.specs.LanguageFile.{is_kind, range_whole, range_in, step_bytes, class_of, production_of, entry_of, entry_field, entries_of, encode_language, language_limit, whole, language_of}

-- An entry that a file can hold: its kinds are kinds, its range is one, and there are at most 8 arguments.
unfoldable pub entry_whole : Entry → Bool
entry_whole (class k c) = is_kind k && range_whole c
entry_whole (production r p arguments) = is_kind r && (leb (length arguments) 8 && all is_kind arguments)

-- The number in two bytes.
pub two_bytes_lem : (n : ℕ) → n / 256 * 256 + n % 256 ≡ n
two_bytes_lem n = omega arith

-- The range that is written is read back.
range_reads : (k : ℕ) (c : Range) → let b = k ∷ (two_bytes c.low ++ (two_bytes c.high ++ step_bytes c.step)) in
    ((eqb (length b) 5 || eqb (length b) 7) ≡ true) × (range_in b ≡ c)
unfolding range_in step_bytes pair_at
range_reads k c =
    by_test (eqb c.step 1)
    (λ e.
    let o : 1 ≡ c.step = sym (eqb-true c.step 1 e) in
    rw e (refl, λ i. record { low = two_bytes_lem c.low i; high = two_bytes_lem c.high i; step = o i }))
    (λ e. rw e (refl, λ i. record { low = two_bytes_lem c.low i; high = two_bytes_lem c.high i; step = two_bytes_lem c.step i }))

-- A whole entry that is written is read back.
entry_reads : (e : Entry) → entry_whole e ≡ true → entry_of (entry_field e) ≡ some e
unfolding entry_whole entry_of entry_field class_of production_of
entry_reads (class k c) h =
    let w = and_both (is_kind k) (range_whole c) h in
    let r = range_reads k c in
    rw (r.0, r.1, w.0, w.1)
entry_reads (production r p arguments) h =
    let w = and_both (is_kind r) (leb (length arguments) 8 && all is_kind arguments) h in
    let v = and_both (leb (length arguments) 8) (all is_kind arguments) w.1 in
    let a : 2 ≤ suc (suc (length arguments)) = omega arith in
    let b : suc (suc (length arguments)) ≤ 10 = omega (arith, leb-true (length arguments) 8 v.0) in
    cc (le-leb 2 (suc (suc (length arguments))) a, le-leb (suc (suc (length arguments))) 10 b, w.0, v.1)

-- What a token class is read from.
record ClassIn (c : List ℕ) (e : Entry) : Type 0 where
  long : (eqb (length c) 5 || eqb (length c) 7) ≡ true
  kind : is_kind (byte_at c 0) ≡ true
  rises : range_whole (range_in c) ≡ true
  same : class (byte_at c 0) (range_in c) ≡ e

-- A token class that is read.
class_in : (c : List ℕ) (e : Entry) → class_of c ≡ some e → ClassIn c e
unfolding class_of
class_in c e h =
    let w = cond_some _ _ e h in
    let v = and_both _ _ w.0 in
    let u = and_both _ _ v.1 in
    record { long = v.0; kind = u.0; rises = u.1; same = w.1 }

-- What a production is read from.
record ProductionIn (c : List ℕ) (e : Entry) : Type 0 where
  least : 2 ≤ length c
  most : length c ≤ 10
  result : is_kind (byte_at c 0) ≡ true
  arguments : all is_kind (drop 2 c) ≡ true
  same : production (byte_at c 0) (byte_at c 1) (drop 2 c) ≡ e

-- A production that is read.
production_in : (c : List ℕ) (e : Entry) → production_of c ≡ some e → ProductionIn c e
unfolding production_of
production_in c e h =
    let w = cond_some _ _ e h in
    let v = and_both _ _ w.0 in
    let u = and_both _ _ v.1 in
    let t = and_both _ _ u.1 in
    record { least = leb-true 2 (length c) v.0; most = leb-true (length c) 10 u.0; result = t.0; arguments = t.1; same = w.1 }

-- An entry that is read is one of the two.
entry_in : {B : Type 0} (tag : ℕ) (c : List ℕ) (e : Entry) → entry_of (field tag c) ≡ some e
    → (tag ≡ 0x11 → ClassIn c e → B) → (tag ≡ 0x12 → ProductionIn c e → B) → B
unfolding entry_of
entry_in tag c e h f g =
    two_tags tag 0x11 0x12 (class_of c) (production_of c) e h (λ t d. f t (class_in c e d)) (λ t d. g t (production_in c e d))

-- An entry that is read is whole.
entry_wholes : (f : Field) (e : Entry) → entry_of f ≡ some e → entry_whole e ≡ true
unfolding entry_whole
entry_wholes (field tag c) e h =
    entry_in tag c e h
    (λ t i. rw (← i.same) (both_and _ _ i.kind i.rises))
    (λ t i.
    let n : length (drop 2 c) ≤ 8 = simp length-drop (omega (arith, i.most)) in
    rw (← i.same) (both_and _ _ i.result (both_and _ _ (le-leb (length (drop 2 c)) 8 n) i.arguments)))

-- A class is written in no more bytes than it is read from.
class_sizes : (c : List ℕ) → (eqb (length c) 5 || eqb (length c) 7) ≡ true
    → length (byte_at c 0 ∷ (two_bytes (range_in c).low ++ (two_bytes (range_in c).high ++ step_bytes (range_in c).step))) ≤ length c
unfolding range_in step_bytes
class_sizes c h =
    ⊎_elim
    (λ e. let n = eqb-true (length c) 5 e in rw n (omega arith))
    (λ e. let n = eqb-true (length c) 7 e in rw n (step_sizes (pair_at c 5)))
    (or_cases (eqb (length c) 5) (eqb (length c) 7) h)
  where
    step_sizes : (n : ℕ) → suc (suc (suc (suc (suc (length (cond (eqb n 1) [] (two_bytes n))))))) ≤ 7
    step_sizes n = by_test (eqb n 1) (λ e. rw e (omega arith)) (λ e. rw e (omega arith))

-- It has at most as many bytes as it is read from.
entry_sizes : (f : Field) (e : Entry) → entry_of f ≡ some e → length (contents_of (entry_field e)) ≤ length (contents_of f)
unfolding entry_field
entry_sizes (field tag c) e h =
    entry_in tag c e h
    (λ t i. rw (← i.same) (class_sizes c i.long))
    (λ t i. rw (← i.same) (omega (arith, ap length (front_two c i.least))))

-- A class whose step of 1 is written.
abbrev pub spare : ℕ → List ℕ → Bool
spare tag c = eqb tag 0x11 && (eqb (length c) 7 && eqb (pair_at c 5) 1)

-- The bytes of a token class, without its step.
front_five : (c : List ℕ) → 5 ≤ length c → Bytes c → byte_at c 0 ∷ (two_bytes (pair_at c 1) ++ two_bytes (pair_at c 3)) ≡ take 5 c
unfolding pair_at
front_five [] h b = absurd (omega arith)
front_five (k ∷ []) h b = absurd (omega arith)
front_five (k ∷ x ∷ []) h b = absurd (omega arith)
front_five (k ∷ x ∷ y ∷ []) h b = absurd (omega arith)
front_five (k ∷ x ∷ y ∷ u ∷ []) h b = absurd (omega arith)
front_five (k ∷ x ∷ y ∷ u ∷ v ∷ c) h b =
    let a : (x * 256 + y) / 256 ≡ x = omega (arith, b.1.1.0) in
    let d : (x * 256 + y) % 256 ≡ y = omega (arith, b.1.1.0) in
    let e : (u * 256 + v) / 256 ≡ u = omega (arith, b.1.1.1.1.0) in
    let f : (u * 256 + v) % 256 ≡ v = omega (arith, b.1.1.1.1.0) in
    cc

-- The bytes of its step.
last_two : (c : List ℕ) → length c ≡ 7 → Bytes c → two_bytes (pair_at c 5) ≡ drop 5 c
unfolding pair_at
last_two [] h b = absurd (omega arith)
last_two (k ∷ []) h b = absurd (omega arith)
last_two (k ∷ x ∷ []) h b = absurd (omega arith)
last_two (k ∷ x ∷ y ∷ []) h b = absurd (omega arith)
last_two (k ∷ x ∷ y ∷ u ∷ []) h b = absurd (omega arith)
last_two (k ∷ x ∷ y ∷ u ∷ v ∷ []) h b = absurd (omega arith)
last_two (k ∷ x ∷ y ∷ u ∷ v ∷ p ∷ []) h b = absurd (omega arith)
last_two (k ∷ x ∷ y ∷ u ∷ v ∷ p ∷ q ∷ r ∷ c) h b = absurd (omega arith)
last_two (k ∷ x ∷ y ∷ u ∷ v ∷ p ∷ q ∷ []) h b =
    let a : (p * 256 + q) / 256 ≡ p = omega (arith, b.1.1.1.1.1.1.0) in
    let d : (p * 256 + q) % 256 ≡ q = omega (arith, b.1.1.1.1.1.1.0) in
    cc

-- It has five bytes or more.
class_five : (c : List ℕ) → (eqb (length c) 5 || eqb (length c) 7) ≡ true → 5 ≤ length c
class_five c h =
    ⊎_elim (λ e. omega (arith, eqb-true (length c) 5 e)) (λ e. omega (arith, eqb-true (length c) 7 e))
    (or_cases (eqb (length c) 5) (eqb (length c) 7) h)

-- A step of 1 is not written.
one_unwritten : (c : List ℕ) → eqb (length c) 7 ≡ true → eqb (pair_at c 5) 1 ≡ true → take 5 c ++ step_bytes (range_in c).step ≡ take 5 c
unfolding range_in step_bytes
one_unwritten c m n = rw (m, n) (append-nil (take 5 c))

-- A class is written in its first five bytes, and those of its step.
class_written : (c : List ℕ) → 5 ≤ length c → Bytes c
    → byte_at c 0 ∷ (two_bytes (range_in c).low ++ (two_bytes (range_in c).high ++ step_bytes (range_in c).step)) ≡ take 5 c ++ step_bytes (range_in c).step
unfolding range_in
class_written c h b = ap (λ (l : List ℕ). l ++ step_bytes (range_in c).step) (front_five c h b)

-- It is written in the field that it is read from, where no step of 1 stands there.
class_kept_lem : (c : List ℕ) → (eqb (length c) 5 || eqb (length c) 7) ≡ true → spare 0x11 c ≡ false → Bytes c → take 5 c ++ step_bytes (range_in c).step ≡ c
unfolding range_in step_bytes
class_kept_lem c h n b =
    ⊎_elim
    (λ e.
    let m : length c ≡ 5 = eqb-true (length c) 5 e in
    let z : eqb (length c) 7 ≡ false = rw m refl in
    rw z (append-nil (take 5 c) ∙ take_all 5 c (omega arith)))
    (λ e.
    let m : length c ≡ 7 = eqb-true (length c) 7 e in
    let z : eqb (pair_at c 5) 1 ≡ false = rw e at n in
    rw (e, z) (ap (λ (l : List ℕ). take 5 c ++ l) (last_two c m b) ∙ take-append-drop 5 c))
    (or_cases (eqb (length c) 5) (eqb (length c) 7) h)

module _ (tag : ℕ) (c : List ℕ) (e : Entry) (h : entry_of (field tag c) ≡ some e) (b : Bytes c) where
  pub entry_kept : spare tag c ≡ false → entry_field e ≡ field tag c
  unfolding entry_field
  entry_kept n =
      entry_in tag c e h
      (λ t i.
      let five : 5 ≤ length c = class_five c i.long in
      rw (← i.same, t) (ap (λ (l : List ℕ). field 0x11 l) (class_written c five b ∙ class_kept_lem c i.long (rw t at n) b)))
      (λ t i. rw (← i.same, t) (ap (λ (l : List ℕ). field 0x12 l) (front_two c i.least)))

  pub entry_spare : spare tag c ≡ true → entry_field e ≡ field 0x11 (take 5 c)
  unfolding entry_field
  entry_spare n =
      entry_in tag c e h
      (λ t i.
      let w = and_both (eqb tag 0x11) (eqb (length c) 7 && eqb (pair_at c 5) 1) n in
      let v = and_both (eqb (length c) 7) (eqb (pair_at c 5) 1) w.1 in
      rw (← i.same) (ap (λ (l : List ℕ). field 0x11 l) (class_written c (class_five c i.long) b ∙ one_unwritten c v.0 v.1)))
      (λ t i.
      let w = and_both (eqb tag 0x11) (eqb (length c) 7 && eqb (pair_at c 5) 1) n in
      absurd (omega (arith, t, eqb-true tag 0x11 w.0)))

-- Entries, one to a field.
pub entry_codec : Codec entry_of entry_field entry_whole
entry_codec = record { reads = entry_reads; wholes = entry_wholes; sizes = entry_sizes }

-- The fields that entries are read from.
entries_in : (o : Option (List Field)) (l : Language) → decoded_in entry_of o ≡ some l → (fs : List Field) × (o ≡ some fs) × (traverse entry_of fs ≡ some l)
entries_in none l e = none_some e
entries_in (some fs) l e = (fs, refl, e)

-- Whole entries that are written are read back.
pub language_encode : (l : Language) → all entry_whole l ≡ true → entries_of (encode_language l) ≡ some l
unfolding entries_of encode_language
language_encode l h = ap (decoded_in entry_of) (fields_encode (map entry_field l)) ∙ entries_encode entry_codec l h

module _ (s : List ℕ) (l : Language) (e : entries_of s ≡ some l) where
  -- The fields that the entries are read from.
  entries_from : (fs : List Field) × (fields_of s ≡ some fs) × (traverse entry_of fs ≡ some l)
  unfolding entries_of
  entries_from = entries_in (fields_of s) l e

  -- Entries that are read are whole.
  pub language_whole : all entry_whole l ≡ true
  language_whole = let (fs, d, t) = entries_from in entries_whole entry_codec fs l t

  -- They have at most as many bytes as they are read from.
  pub language_length : length (encode_language l) ≤ length s
  unfolding encode_language
  language_length = let (fs, d, t) = entries_from in omega (arith, entries_length entry_codec fs l t, fields_length s fs d)

-- A language that a file can hold.
pub record GoodLanguage (l : Language) : Type 0 where
  pub whole : all entry_whole l ≡ true
  pub rises : rising entry_key l ≡ true
  pub apart : clashes l l ≡ false
  pub short : length (encode_language l) ≤ language_limit

-- How a file is opened, of a language, a translation or a pack: refusals 1 to 4, then what is made of it.
abbrev pub opened : {A B : Type 0} → Bool → Option A → (A → Bool) → (A → Bool) → (A → Result B) → Result B
opened long file rises clash rest =
    refuse_if long TooLong
    (whole file >>= λ a.
    refuse_if (not (rises a)) OutOfOrder
    (refuse_if (clash a) ClassIsResult
    (rest a)))

-- A file that is opened: it is not too long, not broken, in order, and without a clash.
pub record Opened {A B : Type 0} (long : Bool) (file : Option A) (rises clash : A → Bool) (rest : A → Result B) (b : B) : Type 0 where
  pub held : A
  pub fits : long ≡ false
  pub reads : file ≡ some held
  pub in_order : rises held ≡ true
  pub apart : clash held ≡ false
  pub made : rest held ≡ value b

module _ {A B : Type 0} (rises clash : A → Bool) (rest : A → Result B) where
  -- A file that was read, with both tests at hand.
  open_held : (a : A) (b : B) (p q : Bool) → rises a ≡ p → clash a ≡ q → refuse_if (not p) OutOfOrder (refuse_if q ClassIsResult (rest a)) ≡ value b
      → Opened false (some a) rises clash rest b
  open_held a b false q r c e = refused_value e
  open_held a b true true r c e = refused_value e
  open_held a b true false r c e = record { held = a; fits = refl; reads = refl; in_order = r; apart = c; made = e }

  -- A file that comes to a value was opened.
  pub open_value : (long : Bool) (file : Option A) (b : B) → opened long file rises clash rest ≡ value b → Opened long file rises clash rest b
  open_value true file b e = refused_value e
  open_value false none b e = refused_value e
  open_value false (some a) b e = open_held a b (rises a) (clash a) refl refl e

  -- Where nothing is refused, what is made of the file decides.
  pub open_rest : (long : Bool) (file : Option A) (a : A) → long ≡ false → file ≡ some a → rises a ≡ true → clash a ≡ false
      → opened long file rises clash rest ≡ rest a
  open_rest long file a l f r c = rw (l, f, r, c)

-- A language that a file holds: the entries that are read, which are good.
pub language_good : (s : List ℕ) (l : Language) → language_of s ≡ value l → (entries_of s ≡ some l) × GoodLanguage l
unfolding language_of
language_good s l e =
    let o = open_value (rising entry_key) (λ m. clashes m m) value (ltb language_limit (length s)) (entries_of s) l e in
    let z : o.held ≡ l = cc in
    let d : entries_of s ≡ some l = cc o.reads in (
      d,
      record {
        whole = language_whole s l d;
        rises = rw (← z) o.in_order;
        apart = rw (← z) o.apart;
        short = omega (arith, language_length s l d, ltb-false language_limit (length s) o.fits);
      },
    )

-- A good language that is written is read back.
pub language_back : (l : Language) → GoodLanguage l → language_of (encode_language l) ≡ value l
unfolding language_of
language_back l g =
    open_rest (rising entry_key) (λ m. clashes m m) value _ _ l
    (le-ltb language_limit (length (encode_language l)) g.short) (language_encode l g.whole) g.rises g.apart
