-- Translations that lie in another: they fit, and their sum is no larger than it.
use Prim.Native.Nat.{ℕ, suc, ◌+◌, ◌≤◌, ◌<◌}
use mathlib.Core.Path.{◌≡◌, refl, ap, sym, subst}
use mathlib.Core.Logic.{◌⊎◌, inl, inr, ⊎_elim}
use mathlib.Core.Bool.{true, false}
use mathlib.Core.List.{List, [], ◌∷◌, map}
use native.Mathlib.Omega.{arith}
use lib.ListN.{length}
use borrow.Author.Tests.{le-ltb}
use Rattle.format_fields.specs.Fields.{Field, field, encode_fields}
use Rattle.format_fields.specs.Keyed.{union}
use Rattle.format_fields.proofs.Truth.{Mem, false_any}
use Rattle.format_fields.proofs.Keyed.{Rising, From, Agree, from_mem, from_agree, rising_ext, union_cases, union_mem}
use Rattle.format_fields.proofs.Codec.{contents_of, encode_length}
use Rattle.format_language.specs.Language.{Entry, Language, entry_key, is_in}
use Rattle.format_language.specs.LanguageFile.{entry_field, encode_language, language_limit}
use Rattle.format_language.proofs.Lookup.{in_larger, in_union}
use Rattle.format_translation.specs.Translation.{Item, mapping, Translation, item_key}
use Rattle.format_translation.specs.TranslationFile.{item_field, translation_fields, encode_translation, translation_limit}
use Rattle.format_translation.proofs.Lookup.{mem_mapping}
use Rattle.reduce_operators.specs.Operators.{language_union, translation_union}
use Rattle.reduce_operators.specs.Limits.{code_is_deep, language_exceeds, translation_exceeds}
use Rattle.reduce_operators.proofs.Accepted.{code_shallow}
use Rattle.reduce_operators.proofs.Proper.{Proper, Sound, GoodTranslation}
use Rattle.reduce_operators.proofs.SumSound.{LanguagesFit, NumbersKept, TranslationsFit, shared_mapping, union_covers, sound_union}

-- All members of one list are members of another.
abbrev pub Subset : {A : Type 0} → List A → List A → Type 0
Subset {A} l m = (a : A) → Mem a l → Mem a m

swap : {A B : Type 0} → A ⊎ B → B ⊎ A
swap (inl a) = inr a
swap (inr b) = inl b

-- One translation lies in another, and its kinds have all numbers that they have there.
pub record Lies (x v : Translation) : Type 0 where
  pub source : Subset x.source v.source
  pub target : Subset x.target v.target
  pub body : Subset x.body v.body
  pub numbers : (k j t : ℕ) → is_in x.source k ≡ true → Mem (mapping k j t) v.body → Mem (mapping k j t) x.body

pub lies_itself : (v : Translation) → Lies v v
lies_itself v = record { source = λ a m. m; target = λ a m. m; body = λ a m. m; numbers = λ k j t i m. m }

pub lies_further : {x y z : Translation} → Lies x y → Lies y z → Lies x z
lies_further {x} {y} p q = record {
  source = λ a m. q.source a (p.source a m);
  target = λ a m. q.target a (p.target a m);
  body = λ a m. q.body a (p.body a m);
  numbers = λ k j t i m. p.numbers k j t i (q.numbers k j t (in_larger x.source y.source p.source k i) m);
}

-- A rising list whose members lie in another is no longer, in bytes.
module _ {A : Type 0} (key : A → ℕ) (encode : A → Field) where
  size : List A → ℕ
  size l = length (encode_fields (map encode l))

  size_cons : (a : A) (l : List A) → size (a ∷ l) ≡ 3 + (length (contents_of (encode a)) + size l)
  unfolding size
  size_cons a l = encode_length (encode a) (map encode l)

  -- A member past x is not x.
  past : (x : A) (l m : List A) → From key (suc (key x)) l → Subset l (x ∷ m) → Subset l m
  past x l m f h a q = go (h a q)
    where
      go : Mem a (x ∷ m) → Mem a m
      go (inl e) = absurd (omega (arith, from_mem key l f q, ap key e))
      go (inr r) = r

  size_less : (n k : ℕ) (l m : List A) → From key n l → From key k m → Subset l m → size l ≤ size m
  unfolding size encode_fields Rattle.format_fields.specs.Lists.concat_map
  size_less n k [] m f g h = omega arith
  size_less n k (x ∷ l) [] f g h = absurd (h x (inl refl))
  size_less n k (x ∷ l) (y ∷ m) f g h =
      ⊎_elim
      (λ e.
      let d : Subset l m = past y l m (subst (λ (z : A). From key (suc (key z)) l) e f.1) (λ a q. h a (inr q)) in
      let r = size_less (suc (key x)) (suc (key y)) l m f.1 g.1 d in
      omega (arith, r, size_cons x l, size_cons y m, ap (λ (z : A). length (contents_of (encode z))) e))
      (λ e.
      let b : key y < key x = from_mem key m g.1 e in
      let d : Subset (x ∷ l) m = past y (x ∷ l) m (b, f.1) h in
      let r = size_less (suc (key y)) (suc (key y)) (x ∷ l) m (b, f.1) g.1 d in
      omega (arith, r, size_cons y m))
      (h x (inl refl))

  pub subset_shorter : (l m : List A) → Rising key l → Rising key m → Subset l m → length (encode_fields (map encode l)) ≤ length (encode_fields (map encode m))
  unfolding size
  subset_shorter l m f g h = size_less 0 0 l m f g h

pub language_shorter : (l m : Language) → Proper l → Proper m → Subset l m → length (encode_language l) ≤ length (encode_language m)
unfolding encode_language
language_shorter l m p q h = subset_shorter entry_key entry_field l m p.rises q.rises h

translation_size : (f : Translation)
    → length (encode_translation f) ≡ 6 + (length (encode_language f.source) + (length (encode_language f.target) + length (encode_fields (map item_field f.body))))
unfolding encode_translation translation_fields
translation_size f =
    let items = map item_field f.body in
    let target = field 0x21 (encode_language f.target) in
    omega (arith, encode_length (field 0x20 (encode_language f.source)) (target ∷ items), encode_length target items)

pub translation_shorter : (x v : Translation) → Sound x → Sound v → Lies x v → length (encode_translation x) ≤ length (encode_translation v)
translation_shorter x v p q h =
    omega (
      arith,
      translation_size x,
      translation_size v,
      language_shorter x.source v.source p.source q.source h.source,
      language_shorter x.target v.target p.target q.target h.target,
      subset_shorter item_key item_field x.body v.body p.rises q.rises h.body,
    )

-- A language of no more bytes than the limit does not exceed it.
pub short_language : (l : Language) → length (encode_language l) ≤ language_limit → language_exceeds l ≡ false
unfolding language_exceeds
short_language l h = le-ltb language_limit (length (encode_language l)) h

-- A sound translation that lies in a good one exceeds no limit.
pub lies_within : (x v : Translation) → Sound x → GoodTranslation v → Lies x v → translation_exceeds x ≡ false
unfolding translation_exceeds
lies_within x v s g h =
    let a : length (encode_language x.source) ≤ language_limit = omega (arith, language_shorter x.source v.source s.source g.sound.source h.source, g.source_short) in
    let b : length (encode_language x.target) ≤ language_limit = omega (arith, language_shorter x.target v.target s.target g.sound.target h.target, g.target_short) in
    let c : length (encode_translation x) ≤ translation_limit = omega (arith, translation_shorter x v s g.sound h, g.short) in
    rw (short_language x.source a, short_language x.target b, le-ltb translation_limit (length (encode_translation x)) c)
    (false_any (code_is_deep x) x.body (code_shallow x s))

-- A good translation exceeds no limit.
pub good_within : (v : Translation) → GoodTranslation v → translation_exceeds v ≡ false
good_within v g = lies_within v v g.sound g (lies_itself v)

-- Two translations that lie in a sound one fit.
languages_fit_lem : (l m v : Language) → Proper v → Subset l v → Subset m v → LanguagesFit l m
languages_fit_lem l m v p f g = record {
  agrees = λ a b x y e. from_agree entry_key 0 v p.rises a b (f a x) (g b y) e;
  left = λ k c q ks x y. p.apart k c q ks (f _ x) (g _ y);
  right = λ k c q ks x y. p.apart k c q ks (g _ x) (f _ y);
}

-- A kind of the one has each number that it has in the other, since both have those of v.
numbers_shared : (x y v : Translation) → Sound y → Lies x v → Lies y v → NumbersKept x y
numbers_shared x y v s p q k j t m i = (t, mem_mapping y.body s.rises k j t (q.numbers k j t i (p.body _ m)))

pub lie_fit : (x y v : Translation) → Sound x → Sound y → Sound v → Lies x v → Lies y v → TranslationsFit x y
lie_fit x y v sx sy s p q = record {
  source = languages_fit_lem x.source y.source v.source s.source p.source q.source;
  target = languages_fit_lem x.target y.target v.target s.target p.target q.target;
  left = numbers_shared x y v sy p q;
  right = numbers_shared y x v sx q p;
  body = λ a b m n e. from_agree item_key 0 v.body s.rises a b (p.body a m) (q.body b n) e;
}

-- Their sum lies in it too, and each lies in their sum.
union_lies : {A : Type 0} (key : A → ℕ) (l m v : List A) → Subset l v → Subset m v → Subset (union key l m) v
union_lies key l m v f g a q = ⊎_elim (λ p. f a p) (λ p. g a p) (union_cases key a l m q)

pub sum_lies : (x y v : Translation) → Lies x v → Lies y v → TranslationsFit x y → Sound x → Lies (translation_union x y) v
unfolding translation_union language_union
sum_lies x y v p q h s = record {
  source = union_lies entry_key x.source y.source v.source p.source q.source;
  target = union_lies entry_key x.target y.target v.target p.target q.target;
  body = union_lies item_key x.body y.body v.body p.body q.body;
  numbers = λ k j t i m.
      let c = union_covers item_key x.body y.body s.rises h.body in
      ⊎_elim
      (λ d. c.left _ (p.numbers k j t d m))
      (λ d. c.right _ (q.numbers k j t d m))
      (in_union x.source y.source k i);
}

-- A kind of the one has in the sum no number that it does not have there.
own_numbers : (x y : Translation) → Sound y → (body : Agree item_key x.body y.body) → NumbersKept y x
    → (k j t : ℕ) → is_in x.source k ≡ true → Mem (mapping k j t) x.body ⊎ Mem (mapping k j t) y.body → Mem (mapping k j t) x.body
own_numbers x y s a h k j t i m = ⊎_elim (λ d. d) (λ d. shared_mapping x y a h k j t i d) m

pub lies_sum : (x y : Translation) → Sound x → Sound y → TranslationsFit x y → Lies x (translation_union x y) × Lies y (translation_union x y)
unfolding translation_union language_union
lies_sum x y s z h =
    let a = union_covers entry_key x.source y.source s.source.rises h.source.agrees in
    let b = union_covers entry_key x.target y.target s.target.rises h.target.agrees in
    let c = union_covers item_key x.body y.body s.rises h.body in (
      record {
        source = a.left;
        target = b.left;
        body = c.left;
        numbers = λ k j t i m. own_numbers x y z h.body h.right k j t i (union_cases item_key _ x.body y.body m);
      },
      record {
        source = a.right;
        target = b.right;
        body = c.right;
        numbers = λ k j t i m. own_numbers y x s (λ p q u v e. sym (h.body q p v u (sym e))) h.left k j t i (swap (union_cases item_key _ x.body y.body m));
      },
    )

-- Two sound translations that lie in one another are equal.
pub lies_equal : (x y : Translation) → Sound x → Sound y → Lies x y → Lies y x → x ≡ y
lies_equal x y s t p q = λ i. record {
  source = rising_ext entry_key 0 0 x.source y.source s.source.rises t.source.rises p.source q.source i;
  target = rising_ext entry_key 0 0 x.target y.target s.target.rises t.target.rises p.target q.target i;
  body = rising_ext item_key 0 0 x.body y.body s.rises t.rises p.body q.body i;
}

-- All of a translation is in one of two others.
pub record InEither (x y v : Translation) : Type 0 where
  pub source : (a : Entry) → Mem a v.source → Mem a x.source ⊎ Mem a y.source
  pub target : (a : Entry) → Mem a v.target → Mem a x.target ⊎ Mem a y.target
  pub body : (a : Item) → Mem a v.body → Mem a x.body ⊎ Mem a y.body

-- All of a sum is in what it is made of.
pub either_sum : (x y : Translation) → InEither x y (translation_union x y)
unfolding translation_union language_union
either_sum x y = record {
  source = λ a m. union_cases entry_key a x.source y.source m;
  target = λ a m. union_cases entry_key a x.target y.target m;
  body = λ a m. union_cases item_key a x.body y.body m;
}

-- Two translations that lie in a third, with all of it in one or the other, have it as their sum.
pub sum_whole : (x y v : Translation) → Sound x → Sound y → Sound v → Lies x v → Lies y v → InEither x y v → translation_union x y ≡ v
unfolding translation_union language_union
sum_whole x y v sx sy s p q w =
    let h = lie_fit x y v sx sy s p q in
    let l = sum_lies x y v p q h sx in
    lies_equal (translation_union x y) v (sound_union x y sx sy h) s l
    (record {
      source = λ a m. union_mem entry_key a x.source y.source sx.source.rises h.source.agrees (w.source a m);
      target = λ a m. union_mem entry_key a x.target y.target sx.target.rises h.target.agrees (w.target a m);
      body = λ a m. union_mem item_key a x.body y.body sx.rises h.body (w.body a m);
      numbers = λ k j t i m. l.body _ m;
    })
