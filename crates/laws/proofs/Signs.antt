-- What an accepted sum, join, identity or translation without a language was made of, and how one is made.
use mathlib.Core.Path.{◌≡◌, ap, subst, ◌∙◌}
use mathlib.Core.Bool.{Bool, true, false}
use Rattle.outcome.specs.Outcome.{value, ◌>>=◌}
use Rattle.format_language.specs.Language.{Language}
use Rattle.format_translation.specs.Translation.{Translation}
use Rattle.format_pack.specs.Terms.{Sort, Term, languages, translations, sum, join, identity, without}
use Rattle.reduce_operators.specs.Operators.{languages_fit, language_union, language_sum, translations_fit, translation_union, translation_sum, numbers_low, join_fits, joined, translation_join, identity_of, translation_without}
use Rattle.reduce_operators.specs.Limits.{translation_exceeds}
use Rattle.reduce_signs.specs.Evaluation.{Constants, Value, nothing_bound, exceeds, limited, sum_of, evaluate}
use Rattle.reduce_operators.proofs.Proper.{GoodTranslation}
use Rattle.reduce_operators.proofs.SumSound.{fit_translations, translations_fit_lem, sound_union}
use Rattle.reduce_terms.proofs.Evaluated.{step_value, limited_value, language_sum_lem, translation_sum_lem, translation_join_lem, Good, GoodConstants, nothing_good, evaluate_good}
use Rattle.laws.proofs.Subsets.{Lies, InEither, lies_within, lie_fit, sum_lies, lies_sum, either_sum, sum_whole}

-- Whether two values of either sort fit.
abbrev pub fit : (s : Sort) → Value s → Value s → Bool
fit languages l m = languages_fit l m
fit translations f g = translations_fit f g

-- Their union.
abbrev pub union_of : (s : Sort) → Value s → Value s → Value s
union_of languages l m = language_union l m
union_of translations f g = translation_union f g

-- A sum that has a value is of values that fit, and is their union.
sum_union : (s : Sort) (x y v : Value s) → sum_of s x y ≡ value v → (fit s x y ≡ true) × (union_of s x y ≡ v)
sum_union languages = language_sum_lem
sum_union translations = translation_sum_lem

-- And values that fit have that sum.
union_sum : (s : Sort) (x y : Value s) → fit s x y ≡ true → sum_of s x y ≡ value (union_of s x y)
unfolding language_sum translation_sum
union_sum languages x y f = rw f
union_sum translations x y f = rw f

-- What was tested of a join of x after y, and what it comes to.
pub record Joins (x y v : Translation) : Type 0 where
  pub fits : join_fits x y ≡ true
  pub low_first : numbers_low x ≡ true
  pub low_second : numbers_low y ≡ true
  pub is : joined x y ≡ v

-- What x without a language comes to, which is within the limits.
pub record Leaves (x : Translation) (m : Language) (v : Translation) : Type 0 where
  pub is : translation_without x m ≡ v
  pub within : translation_exceeds v ≡ false

-- What a join of two values with a value says.
join_says : (x y v : Translation) → (translation_join x y >>= limited translations) ≡ value v → Joins x y v
join_says x y v e =
    let r = step_value (translation_join x y) (limited translations) e in
    let s = translation_join_lem x y r.0 r.1 in
    record { fits = s.0; low_first = s.2; low_second = s.3; is = s.1 ∙ (limited_value translations r.0 v r.2).1 }

module _ (c : Constants) where
  -- The value of a sum of either sort, taken apart.
  pub sum_value : {s : Sort} (a b : Term s) (v : Value s) → evaluate c nothing_bound (sum a b) ≡ value v
      → (x y : Value s) × (evaluate c nothing_bound a ≡ value x) × (evaluate c nothing_bound b ≡ value y) × (fit s x y ≡ true) × (union_of s x y ≡ v)
  unfolding evaluate
  sum_value {s} a b v e =
      let p = step_value (evaluate c nothing_bound a) _ e in
      let q = step_value (evaluate c nothing_bound b) _ p.2 in
      let r = step_value (sum_of s p.0 q.0) (limited s) q.2 in
      let u = sum_union s p.0 q.0 r.0 r.1 in
      (p.0, q.0, p.1, q.1, u.0, u.1 ∙ (limited_value s r.0 v r.2).1)

  -- And put together.
  pub value_sum : {s : Sort} (a b : Term s) (x y : Value s) → evaluate c nothing_bound a ≡ value x → evaluate c nothing_bound b ≡ value y
      → fit s x y ≡ true → exceeds s (union_of s x y) ≡ false → evaluate c nothing_bound (sum a b) ≡ value (union_of s x y)
  unfolding evaluate
  value_sum {s} a b x y p q f l = rw (p, q, union_sum s x y f, l)

  -- What the value of a join says of operands that have these values.
  pub operands_join : (a b : Term translations) (x y v : Translation) → evaluate c nothing_bound a ≡ value x → evaluate c nothing_bound b ≡ value y
      → evaluate c nothing_bound (join a b) ≡ value v → Joins x y v
  unfolding evaluate
  operands_join a b x y v p q e = join_says x y v (rw (p, q) at e)

  -- What the value of a join of a after b was made of.
  pub record JoinMade (a b : Term translations) (v : Translation) : Type 0 where
    pub first : Translation
    pub second : Translation
    pub first_value : evaluate c nothing_bound a ≡ value first
    pub second_value : evaluate c nothing_bound b ≡ value second
    pub says : Joins first second v

  -- The value of a join, taken apart.
  pub join_value : (a b : Term translations) (v : Translation) → evaluate c nothing_bound (join a b) ≡ value v → JoinMade a b v
  unfolding evaluate
  join_value a b v e =
      let p = step_value (evaluate c nothing_bound a) _ e in
      let q = step_value (evaluate c nothing_bound b) _ p.2 in
      record { first = p.0; second = q.0; first_value = p.1; second_value = q.1; says = join_says p.0 q.0 v q.2 }

  -- And put together.
  pub value_join : (a b : Term translations) (x y : Translation) → evaluate c nothing_bound a ≡ value x → evaluate c nothing_bound b ≡ value y
      → join_fits x y ≡ true → numbers_low x ≡ true → numbers_low y ≡ true → translation_exceeds (joined x y) ≡ false
      → evaluate c nothing_bound (join a b) ≡ value (joined x y)
  unfolding evaluate translation_join
  value_join a b x y p q f m n l = rw (p, q, f, m, n, l)

  -- The value of an identity, taken apart.
  pub identity_value : (a : Term languages) (v : Translation) → evaluate c nothing_bound (identity a) ≡ value v
      → (l : Language) × (evaluate c nothing_bound a ≡ value l) × (identity_of l ≡ v)
  unfolding evaluate
  identity_value a v e =
      let p = step_value (evaluate c nothing_bound a) _ e in
      (p.0, p.1, (limited_value translations (identity_of p.0) v p.2).1)

  -- And put together.
  pub value_identity : (a : Term languages) (l : Language) → evaluate c nothing_bound a ≡ value l → translation_exceeds (identity_of l) ≡ false
      → evaluate c nothing_bound (identity a) ≡ value (identity_of l)
  unfolding evaluate
  value_identity a l p q = rw (p, q)

  -- The value of a translation without a language, taken apart.
  pub without_value : (a : Term translations) (l : Term languages) (v : Translation) → evaluate c nothing_bound (without a l) ≡ value v
      → (x : Translation) × (m : Language) × (evaluate c nothing_bound a ≡ value x) × (evaluate c nothing_bound l ≡ value m) × Leaves x m v
  unfolding evaluate
  without_value a l v e =
      let p = step_value (evaluate c nothing_bound a) _ e in
      let q = step_value (evaluate c nothing_bound l) _ p.2 in
      let r = limited_value translations (translation_without p.0 q.0) v q.2 in
      (p.0, q.0, p.1, q.1, record { is = r.1; within = subst (λ (z : Translation). translation_exceeds z ≡ false) r.1 r.0 })

  -- And put together.
  pub value_without : (a : Term translations) (l : Term languages) (x : Translation) (m : Language) → evaluate c nothing_bound a ≡ value x → evaluate c nothing_bound l ≡ value m
      → translation_exceeds (translation_without x m) ≡ false → evaluate c nothing_bound (without a l) ≡ value (translation_without x m)
  unfolding evaluate
  value_without a l x m p q h = rw (p, q, h)

module _ (c : Constants) (good : GoodConstants c) where
  -- Every value is good.
  pub value_good : {s : Sort} (t : Term s) (x : Value s) → evaluate c nothing_bound t ≡ value x → Good s x
  value_good t x e = evaluate_good c good nothing_bound nothing_good t x e

  -- What a sum is made of lies in its value, and all of that is in one or the other.
  pub sum_parts : (a b : Term translations) (w : Translation) → evaluate c nothing_bound (sum a b) ≡ value w
      → (x y : Translation) × (evaluate c nothing_bound a ≡ value x) × (evaluate c nothing_bound b ≡ value y) × Lies x w × Lies y w × InEither x y w
  sum_parts a b w e =
      let p = sum_value c a b w e in
      let x = p.0 in
      let y = p.1 in
      let both = lies_sum x y (value_good a x p.2).sound (value_good b y p.3).sound (fit_translations x y p.4) in
      (x, y, p.2, p.3, subst (Lies x) p.5 both.0, subst (Lies y) p.5 both.1, subst (InEither x y) p.5 (either_sum x y))

  -- Two terms whose values lie in a good translation have a sum, and it lies there too.
  pub value_part : (a b : Term translations) (x y v : Translation) → evaluate c nothing_bound a ≡ value x → evaluate c nothing_bound b ≡ value y
      → GoodTranslation v → Lies x v → Lies y v → (evaluate c nothing_bound (sum a b) ≡ value (translation_union x y)) × Lies (translation_union x y) v
  value_part a b x y v p q g lx ly =
      let s = (value_good a x p).sound in
      let t = (value_good b y q).sound in
      let f = lie_fit x y v s t g.sound lx ly in
      let l = sum_lies x y v lx ly f s in
      (value_sum c a b x y p q (translations_fit_lem x y f) (lies_within (translation_union x y) v (sound_union x y s t f) g l), l)

  -- Where they hold all of it, it is their sum.
  pub value_whole : (a b : Term translations) (x y v : Translation) → evaluate c nothing_bound a ≡ value x → evaluate c nothing_bound b ≡ value y
      → GoodTranslation v → Lies x v → Lies y v → InEither x y v → evaluate c nothing_bound (sum a b) ≡ value v
  value_whole a b x y v p q g lx ly w =
      (value_part a b x y v p q g lx ly).0 ∙ ap value (sum_whole x y v (value_good a x p).sound (value_good b y q).sound g.sound lx ly w)
