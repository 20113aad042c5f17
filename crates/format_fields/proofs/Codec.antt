-- Fields in bytes: what is written is read back, and what is read was written.
use Prim.Native.Nat.{ℕ, zero, suc, ◌+◌, ◌*◌, ◌/◌, ◌%◌, ◌<◌, ◌≤◌}
use mathlib.Core.Path.{◌≡◌, refl, sym, ap, subst, ◌∙◌}
use mathlib.Core.Bool.{Bool, true, false, cond, ◌&&◌, ◌||◌}
use mathlib.Core.List.{List, [], ◌∷◌, ◌++◌, append_assoc, map}
use mathlib.Core.Option.{Option, none, some}
use native.Mathlib.Omega.{arith}
use lib.ListN.{length, get_elem?, take, drop, length-append, take-append-drop}
use lib.Seq.{take-append_seam, drop-append_seam, drop-drop, length-take-le}
use lib.Dec.{ltb, leb, eqb}
use borrow.Author.Tests.{le-leb, lt-leb, leb-true, eqb-true, le-ltb, ltb-false}
use Rattle.outcome.specs.declared.Reason.{Reason}
use Rattle.outcome.specs.Outcome.{Result, value, refused, ◌>>=◌}
use Rattle.format_fields.specs.Lists.{all, any, before, concat_map, traverse}
use Rattle.format_fields.specs.Fields.{Field, field, byte_at, pair_at, encode_field, encode_fields, split_fields, fields_of, says_over, has_over}
use Rattle.format_fields.proofs.Truth.{by_test, none_some, false_true, and_both, both_and, or_false, false_or}

-- Every element is as said.
abbrev pub Each : {A : Type 0} → (A → Type 0) → List A → Type 0
Each P [] = Unit {0}
Each P (a ∷ l) = P a × Each P l

-- All are below 256.
abbrev pub Bytes : List ℕ → Type 0
Bytes s = Each (λ x. x < 256) s

-- The tag of a field.
abbrev pub tag_of : Field → ℕ
tag_of (field tag c) = tag

-- The contents of a field.
abbrev pub contents_of : Field → List ℕ
contents_of (field tag c) = c

-- The tag is a byte, the contents are bytes, and two bytes hold their length.
pub record InBytes (f : Field) : Type 0 where
  pub tag : tag_of f < 256
  pub contents : Bytes (contents_of f)
  pub short : length (contents_of f) < 65536

-- A value under a test.
pub cond_there : {A : Type 0} (b : Bool) (o : Option A) (y : A) → cond b o none ≡ some y → (b ≡ true) × (o ≡ some y)
cond_there true o y e = (refl, e)
cond_there false o y e = none_some e

-- The same of a value at hand.
pub cond_some : {A : Type 0} (b : Bool) (x y : A) → cond b (some x) none ≡ some y → (b ≡ true) × (x ≡ y)
cond_some b x y e = let w = cond_there b (some x) y e in (w.0, cc w.1)

-- A refusal is no value.
pub refused_value : {A B : Type 0} {r : Reason} {a : A} → ◌≡◌ {A = Result A} (refused r) (value a) → B
refused_value e = let z : false ≡ true = cc in false_true z

-- Values that are the same, and a value of a step before and a step after.
pub value_inj : {A : Type 0} {a b : A} → value a ≡ value b → a ≡ b
value_inj e = cc

pub step_value : {A B : Type 0} {b : B} (o : Result A) (f : A → Result B) → o >>= f ≡ value b → (a : A) × (o ≡ value a) × (f a ≡ value b)
step_value (value a) f e = (a, refl, e)
step_value (refused r) f e = refused_value e

-- A field of one of two tags.
pub two_tags : {A B : Type 0} (tag m n : ℕ) (x y : Option A) (a : A) → cond (eqb tag m) x (cond (eqb tag n) y none) ≡ some a
    → (tag ≡ m → x ≡ some a → B) → (tag ≡ n → y ≡ some a → B) → B
two_tags tag m n x y a e f g =
    by_test (eqb tag m)
    (λ t. f (eqb-true tag m t) (cc))
    (λ t. by_test (eqb tag n) (λ u. g (eqb-true tag n u) (cc)) (λ u. none_some {b = a} (cc)))

-- The same for four tags.
pub four_tags : {A B : Type 0} (tag m n o q : ℕ) (x y z w : Option A) (a : A)
    → cond (eqb tag m) x (cond (eqb tag n) y (cond (eqb tag o) z (cond (eqb tag q) w none))) ≡ some a
    → (tag ≡ m → x ≡ some a → B) → (tag ≡ n → y ≡ some a → B) → (tag ≡ o → z ≡ some a → B) → (tag ≡ q → w ≡ some a → B) → B
four_tags tag m n o q x y z w a e f g h i =
    by_test (eqb tag m)
    (λ t. f (eqb-true tag m t) (cc))
    (λ t. by_test (eqb tag n)
    (λ u. g (eqb-true tag n u) (cc))
    (λ u. two_tags tag o q z w a (let k : cond (eqb tag o) z (cond (eqb tag q) w none) ≡ some a = cc in k) h i))

-- The three bytes in front, and the others.
pub front_three : (c : List ℕ) → 3 ≤ length c → byte_at c 0 ∷ byte_at c 1 ∷ byte_at c 2 ∷ drop 3 c ≡ c
front_three [] h = absurd (omega arith)
front_three (x ∷ []) h = absurd (omega arith)
front_three (x ∷ y ∷ []) h = absurd (omega arith)
front_three (x ∷ y ∷ z ∷ c) h = refl

-- The two bytes in front, and the others.
pub front_two : (c : List ℕ) → 2 ≤ length c → byte_at c 0 ∷ byte_at c 1 ∷ drop 2 c ≡ c
front_two [] h = absurd (omega arith)
front_two (x ∷ []) h = absurd (omega arith)
front_two (x ∷ y ∷ c) h = refl

-- Elements of a list in two parts, put together.
pub each_append : {A : Type 0} (P : A → Type 0) (l m : List A) → Each P l → Each P m → Each P (l ++ m)
each_append P [] m p q = q
each_append P (a ∷ l) m p q = (p.0, each_append P l m p.1 q)

-- The element of a number.
pub each_at : {A : Type 0} (P : A → Type 0) (l : List A) (i : ℕ) (a : A) → Each P l → get_elem? l i ≡ some a → P a
each_at P [] i a p e = none_some e
each_at P (x ∷ l) zero a p e = let z : x ≡ a = cc in subst P z p.0
each_at P (x ∷ l) (suc i) a p e = each_at P l i a p.1 e

-- Elements of a list in two parts, taken apart.
pub each_front : {A : Type 0} (P : A → Type 0) (l m : List A) → Each P (l ++ m) → Each P l × Each P m
each_front P [] m p = (tt, p)
each_front P (a ∷ l) m p = let h = each_front P l m p.1 in ((p.0, h.0), h.1)

-- Bytes by their places.
pub bytes_at : (s : List ℕ) → Bytes s → (i : ℕ) → byte_at s i < 256
bytes_at [] b i = omega arith
bytes_at (x ∷ s) b zero = b.0
bytes_at (x ∷ s) b (suc i) = bytes_at s b.1 i

-- Bytes from what is known at each place.
pub bytes_from : (s : List ℕ) → ((i : ℕ) → i < length s → byte_at s i < 256) → Bytes s
bytes_from [] h = tt
bytes_from (x ∷ s) h = (h 0 (omega arith), bytes_from s (λ i l. h (suc i) (omega arith)))

-- The bytes, and the fields that they are made of.
pub data Made : List ℕ → List Field → Type 0 where
  end : Made [] []
  more : {tag high low : ℕ} {c rest : List ℕ} {fs : List Field} → length c ≡ high * 256 + low → Made rest fs
      → Made (tag ∷ high ∷ low ∷ (c ++ rest)) (field tag c ∷ fs)

-- Values that are all there, taken apart.
pub before_inv : {A : Type 0} (a : Option A) (l : Option (List A)) (m : List A) → before a l ≡ some m
    → (x : A) × (k : List A) × (a ≡ some x) × (l ≡ some k) × (m ≡ x ∷ k)
before_inv none l m e = none_some e
before_inv (some x) none m e = none_some e
before_inv (some x) (some k) m e = (x, k, refl, refl, cc)

-- Values that are all there, put together.
before_both : {A : Type 0} (a : Option A) (l : Option (List A)) (x : A) (k : List A) → a ≡ some x → l ≡ some k → before a l ≡ some (x ∷ k)
before_both a l x k e d = rw (e, d)

-- Values of a list in two parts, taken apart.
pub traverse_front : {A B : Type 0} (f : A → Option B) (l m : List A) (n : List B) → traverse f (l ++ m) ≡ some n
    → (a : List B) × (b : List B) × (traverse f l ≡ some a) × (traverse f m ≡ some b) × (n ≡ a ++ b)
unfolding traverse
traverse_front f [] m n e = ([], n, refl, e, refl)
traverse_front {B = B} f (x ∷ l) m n e =
    let (y, k, h, t, z) = before_inv (f x) (traverse f (l ++ m)) n e in
    let (a, b, p, q, r) = traverse_front f l m k t in
    (y ∷ a, b, before_both (f x) (traverse f l) y a h p, q, z ∙ ap (λ (t : List B). y ∷ t) r)

-- Values of a list in two parts, put together.
pub traverse_append : {A B : Type 0} (f : A → Option B) (l m : List A) (a b : List B) → traverse f l ≡ some a → traverse f m ≡ some b
    → traverse f (l ++ m) ≡ some (a ++ b)
unfolding traverse
traverse_append f [] m a b p q = let z : [] ≡ a = cc in rw (← z) q
traverse_append {B = B} f (x ∷ l) m a b p q =
    let (y, k, h, t, z) = before_inv (f x) (traverse f l) a p in
    before_both (f x) (traverse f (l ++ m)) y (k ++ b) h (traverse_append f l m k b t q) ∙ ap (λ (t : List B). some (t ++ b)) (sym z)

module _ (tag high low : ℕ) (q : List ℕ) where
  -- What a field with a whole length comes to.
  split_on : (fuel : ℕ) → high * 256 + low ≤ length q
      → split_fields (suc fuel) (tag ∷ high ∷ low ∷ q)
      ≡ before (some (field tag (take (high * 256 + low) q))) (split_fields fuel (drop (high * 256 + low) q))
  unfolding split_fields pair_at
  split_on fuel h =
      let k : 2 + (high * 256 + low) ≤ suc (suc (length q)) = omega arith in
      cc (le-leb (2 + (high * 256 + low)) (suc (suc (length q))) k, drop-drop (high * 256 + low) 2 (high ∷ low ∷ q))

  -- A field that is there was whole.
  split_fits : (fuel : ℕ) (fs : List Field) → split_fields (suc fuel) (tag ∷ high ∷ low ∷ q) ≡ some fs → high * 256 + low ≤ length q
  unfolding split_fields pair_at
  split_fits fuel fs e =
      by_test (leb (2 + (high * 256 + low)) (suc (suc (length q))))
      (λ d. let h = leb-true (2 + (high * 256 + low)) (suc (suc (length q))) d in omega arith)
      (λ d. none_some {b = fs} (cc))

-- A length that is not whole, or none at all.
split_cut : (fuel tag : ℕ) (r : List ℕ) (fs : List Field) → length r < 2 → split_fields (suc fuel) (tag ∷ r) ≡ some fs → ⊥
unfolding split_fields
split_cut fuel tag r fs h e =
    let k : length r < 2 + pair_at r 0 = omega arith in
    none_some {b = fs} (cc (lt-leb (2 + pair_at r 0) (length r) k))

-- What is split is made so.
split_made : (fuel : ℕ) (s : List ℕ) (fs : List Field) → split_fields fuel s ≡ some fs → Made s fs
unfolding split_fields
split_made zero s fs e = none_some e
split_made (suc fuel) [] fs e = subst (λ (l : List Field). Made [] l) (cc) end
split_made (suc fuel) (tag ∷ []) fs e = absurd (split_cut fuel tag [] fs (omega arith) e)
split_made (suc fuel) (tag ∷ high ∷ []) fs e = absurd (split_cut fuel tag (high ∷ []) fs (omega arith) e)
split_made (suc fuel) (tag ∷ high ∷ low ∷ q) fs e =
    let n : ℕ = high * 256 + low in
    let h : n ≤ length q = split_fits tag high low q fuel fs e in
    let (x, k, a, b, d) = before_inv (some (field tag (take n q))) (split_fields fuel (drop n q)) fs (sym (split_on tag high low q fuel h) ∙ e) in
    let z : field tag (take n q) ∷ k ≡ fs = cc in
    let m = more {tag = tag} {high = high} {low = low} (length-take-le n q h) (split_made fuel (drop n q) k b) in
    subst (λ (l : List ℕ). Made (tag ∷ high ∷ low ∷ l) fs) (take-append-drop n q)
    (subst (λ (l : List Field). Made (tag ∷ high ∷ low ∷ (take n q ++ drop n q)) l) z m)

-- What is made so is split so, with fuel for all bytes.
made_split : {s : List ℕ} {fs : List Field} → Made s fs → (fuel : ℕ) → length s < fuel → split_fields fuel s ≡ some fs
unfolding split_fields
made_split end zero h = absurd (omega arith)
made_split (more e m) zero h = absurd (omega arith)
made_split end (suc fuel) h = refl
made_split (more {tag = tag} {high = high} {low = low} {c = c} {rest = rest} {fs = fs} e m) (suc fuel) h =
    let n : ℕ = high * 256 + low in
    let k : n ≤ length (c ++ rest) = omega (arith, length-append c rest) in
    let u : length rest < fuel = omega (arith, length-append c rest) in
    let a : take n (c ++ rest) ≡ c = cc (take-append_seam c rest) in
    let d : drop n (c ++ rest) ≡ rest = cc (drop-append_seam c rest) in
    cc (split_on tag high low (c ++ rest) fuel k, made_split m fuel u)

-- The fields of bytes are those that the bytes are made of.
pub fields_made : (s : List ℕ) (fs : List Field) → fields_of s ≡ some fs → Made s fs
unfolding fields_of
fields_made s fs e = split_made (suc (length s)) s fs e

-- What bytes are made of is read from them.
pub made_fields : {s : List ℕ} {fs : List Field} → Made s fs → fields_of s ≡ some fs
unfolding fields_of
made_fields {s} m = made_split m (suc (length s)) (omega arith)

-- Encoded fields are made of those fields.
pub encode_made : (fs : List Field) → Made (encode_fields fs) fs
unfolding encode_fields concat_map encode_field
encode_made [] = end
encode_made (field tag c ∷ fs) =
    let e : length c ≡ length c / 256 * 256 + length c % 256 = omega arith in
    more e (encode_made fs)

-- Fields that are written are read back.
pub fields_encode : (fs : List Field) → fields_of (encode_fields fs) ≡ some fs
fields_encode fs = made_fields (encode_made fs)

-- Fields that are read have as many bytes as they are read from.
pub made_length : {s : List ℕ} {fs : List Field} → Made s fs → length (encode_fields fs) ≡ length s
unfolding encode_fields concat_map encode_field
made_length end = refl
made_length (more {c = c} {rest = rest} {fs = fs} e m) =
    omega (arith, length-append c rest, length-append c (concat_map encode_field fs), made_length m)

-- Bytes that are read are those that the fields are written in.
pub made_sound : {s : List ℕ} {fs : List Field} → Made s fs → Bytes s → (s ≡ encode_fields fs) × Each InBytes fs
unfolding encode_fields concat_map encode_field
made_sound end b = (refl, tt)
made_sound (more {tag = tag} {high = high} {low = low} {c = c} {rest = rest} {fs = fs} e m) b =
    let bs = each_front (λ x. x < 256) c rest b.1.1.1 in
    let ih = made_sound m bs.1 in
    let h : length c / 256 ≡ high = omega arith in
    let l : length c % 256 ≡ low = omega arith in
    (cc ih.0, (record { tag = b.0; contents = bs.0; short = omega arith }, ih.1))

-- Fields that are read from bytes: the bytes, and what is known of each field.
pub fields_sound : (s : List ℕ) (fs : List Field) → Bytes s → fields_of s ≡ some fs → (s ≡ encode_fields fs) × Each InBytes fs
fields_sound s fs b e = made_sound (fields_made s fs e) b

-- Fields that are read have as many bytes as they are read from.
pub fields_length : (s : List ℕ) (fs : List Field) → fields_of s ≡ some fs → length (encode_fields fs) ≡ length s
fields_length s fs e = made_length (fields_made s fs e)

-- Lists of elements, one after the other.
pub concat_append : {A B : Type 0} (f : A → List B) (l m : List A) → concat_map f (l ++ m) ≡ concat_map f l ++ concat_map f m
unfolding concat_map
concat_append f [] m = refl
concat_append f (a ∷ l) m = rw (concat_append f l m) (sym (append_assoc (f a) (concat_map f l) (concat_map f m)))

-- A field has three bytes more than its contents.
pub field_length : (f : Field) → length (encode_field f) ≡ 3 + length (contents_of f)
unfolding encode_field
field_length (field tag c) = omega arith

-- The bytes of a field and those after it.
pub encode_length : (f : Field) (fs : List Field) → length (encode_fields (f ∷ fs)) ≡ 3 + (length (contents_of f) + length (encode_fields fs))
unfolding encode_fields concat_map
encode_length f fs = omega (arith, field_length f, length-append (encode_field f) (concat_map encode_field fs))

-- A field of a language whose contents are over the limit.
abbrev pub is_over : (ℕ → Bool) → ℕ → Field → Bool
is_over isLanguage limit f = isLanguage (tag_of f) && ltb limit (length (contents_of f))

module _ (isLanguage : ℕ → Bool) (limit : ℕ) where
  -- A turn of the walk that looks for a field over the limit.
  over_turn : (tag high low : ℕ) (c rest : List ℕ) (fuel : ℕ) → length c ≡ high * 256 + low
      → says_over (suc fuel) isLanguage limit (tag ∷ high ∷ low ∷ (c ++ rest))
      ≡ is_over isLanguage limit (field tag c) || says_over fuel isLanguage limit rest
  unfolding says_over pair_at
  over_turn tag high low c rest fuel e =
      let n : ℕ = high * 256 + low in
      let j : 2 ≤ suc (suc (length (c ++ rest))) = omega arith in
      let k : 2 + n ≤ suc (suc (length (c ++ rest))) = omega (arith, length-append c rest) in
      let d : drop (2 + n) (high ∷ low ∷ (c ++ rest)) ≡ rest =
      sym (drop-drop n 2 (high ∷ low ∷ (c ++ rest))) ∙ (ap (λ (m : ℕ). drop m (c ++ rest)) (sym e) ∙ drop-append_seam c rest) in
      by_test (isLanguage tag && ltb limit n)
      (λ t. cc (le-leb 2 (suc (suc (length (c ++ rest)))) j))
      (λ t. cc (le-leb 2 (suc (suc (length (c ++ rest)))) j, le-leb (2 + n) (suc (suc (length (c ++ rest)))) k))

  -- The walk with fuel for all bytes.
  says_made : {s : List ℕ} {fs : List Field} → Made s fs → (fuel : ℕ) → length s < fuel
      → says_over fuel isLanguage limit s ≡ any (is_over isLanguage limit) fs
  unfolding says_over any
  says_made end zero h = absurd (omega arith)
  says_made (more e m) zero h = absurd (omega arith)
  says_made end (suc fuel) h = refl
  says_made (more {tag = tag} {high = high} {low = low} {c = c} {rest = rest} {fs = fs} e m) (suc fuel) h =
      let u : length rest < fuel = omega (arith, length-append c rest) in
      over_turn tag high low c rest fuel e
      ∙ ap (λ (b : Bool). is_over isLanguage limit (field tag c) || b) (says_made m fuel u)

  -- Whole fields say that one is over the limit exactly if one is.
  pub over_made : {s : List ℕ} {fs : List Field} → Made s fs → has_over isLanguage limit s ≡ any (is_over isLanguage limit) fs
  unfolding has_over
  over_made {s} m = says_made m (suc (length s)) (omega arith)

  -- The same of fields that are written.
  pub over_encode : (fs : List Field) → has_over isLanguage limit (encode_fields fs) ≡ any (is_over isLanguage limit) fs
  over_encode fs = over_made (encode_made fs)

  -- A field that is a language's is within the limit.
  abbrev pub Within : Field → Type 0
  Within f = isLanguage (tag_of f) ≡ true → length (contents_of f) ≤ limit

  -- A field that is not over the limit is within it.
  over_field : (f : Field) → is_over isLanguage limit f ≡ false → Within f
  over_field f e d = ltb-false limit (length (contents_of f)) (cc)

  -- A field within the limit is not over it.
  within_field : (f : Field) → Within f → is_over isLanguage limit f ≡ false
  within_field f h =
      by_test (isLanguage (tag_of f))
      (λ d. cc (le-ltb limit (length (contents_of f)) (h d)))
      (λ d. cc)

  -- No field is over the limit: each is within it.
  none_over : (fs : List Field) → any (is_over isLanguage limit) fs ≡ false → Each Within fs
  unfolding any
  none_over [] e = tt
  none_over (f ∷ fs) e =
      let h = or_false (is_over isLanguage limit f) (any (is_over isLanguage limit) fs) e in
      (over_field f h.0, none_over fs h.1)

  -- Each is within the limit: none is over it.
  all_within_lem : (fs : List Field) → Each Within fs → any (is_over isLanguage limit) fs ≡ false
  unfolding any
  all_within_lem [] h = refl
  all_within_lem (f ∷ fs) h = false_or _ _ (within_field f h.0) (all_within_lem fs h.1)

  -- No field is said to be over the limit exactly if each is within it.
  pub not_over : (s : List ℕ) (fs : List Field) → fields_of s ≡ some fs → has_over isLanguage limit s ≡ false → Each Within fs
  not_over s fs e h = none_over fs (sym (over_made (fields_made s fs e)) ∙ h)

  -- Fields within the limit, written.
  pub within_over : (fs : List Field) → Each Within fs → has_over isLanguage limit (encode_fields fs) ≡ false
  within_over fs h = over_encode fs ∙ all_within_lem fs h

-- Entries that are kept one to a field: how a field is read, how an entry is written, and the test of what can be written.
pub record Codec {A : Type 0} (decode : Field → Option A) (encode : A → Field) (whole : A → Bool) : Type 0 where
  pub reads : (a : A) → whole a ≡ true → decode (encode a) ≡ some a
  pub wholes : (f : Field) (a : A) → decode f ≡ some a → whole a ≡ true
  pub sizes : (f : Field) (a : A) → decode f ≡ some a → length (contents_of (encode a)) ≤ length (contents_of f)

module _ {A : Type 0} {decode : Field → Option A} {encode : A → Field} {whole : A → Bool} (codec : Codec decode encode whole) where
  -- Whole entries that are written are read back.
  pub entries_encode : (l : List A) → all whole l ≡ true → traverse decode (map encode l) ≡ some l
  unfolding all traverse
  entries_encode [] h = refl
  entries_encode (a ∷ l) h =
      let w = and_both (whole a) (all whole l) h in
      cc (codec.reads a w.0, entries_encode l w.1)

  -- Entries that are read are whole.
  pub entries_whole : (fs : List Field) (l : List A) → traverse decode fs ≡ some l → all whole l ≡ true
  unfolding all traverse
  entries_whole [] l e = let z : [] ≡ l = cc in rw (← z)
  entries_whole (f ∷ fs) l e =
      let (a, k, x, y, z) = before_inv (decode f) (traverse decode fs) l e in
      rw z (both_and _ _ (codec.wholes f a x) (entries_whole fs k y))

  -- Entries that are read have at most as many bytes as they are read from.
  pub entries_length : (fs : List Field) (l : List A) → traverse decode fs ≡ some l
      → length (encode_fields (map encode l)) ≤ length (encode_fields fs)
  unfolding traverse
  entries_length [] l e = let z : [] ≡ l = cc in rw (← z) (omega arith)
  entries_length (f ∷ fs) l e =
      let (a, k, x, y, z) = before_inv (decode f) (traverse decode fs) l e in
      rw z (omega (arith, encode_length f fs, encode_length (encode a) (map encode k), codec.sizes f a x, entries_length fs k y))

-- Entries that are written in the field that they are read from: so are all of them.
pub entries_sound : {A : Type 0} (decode : Field → Option A) (encode : A → Field)
    → ((f : Field) (a : A) → decode f ≡ some a → Bytes (contents_of f) → encode a ≡ f)
    → (fs : List Field) (l : List A) → Each InBytes fs → traverse decode fs ≡ some l → map encode l ≡ fs
unfolding traverse
entries_sound decode encode gives [] l b e = let z : [] ≡ l = cc in rw (← z)
entries_sound decode encode gives (f ∷ fs) l b e =
    let (a, k, x, y, z) = before_inv (decode f) (traverse decode fs) l e in
    rw (z, gives f a x b.0.contents, entries_sound decode encode gives fs k b.1 y)
