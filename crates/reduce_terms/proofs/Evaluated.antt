-- Every value that a term comes to is good: a file can hold it, it is well formed, and it is within the limits.
use Prim.Native.Nat.{ℕ, zero, suc, ◌≤◌}
use mathlib.Core.Path.{◌≡◌, refl, subst}
use mathlib.Core.Bool.{Bool, true, false, cond, not, ◌&&◌}
use mathlib.Core.Option.{Option, none, some}
use mathlib.Core.List.{List, [], ◌∷◌}
use lib.ListN.{length, get_elem?}
use lib.Dec.{ltb, eqb}
use borrow.Author.Tests.{ltb-false}
use Rattle.format_fields.specs.Lists.{any}
use Rattle.outcome.specs.Outcome.{Result, value, refuse_if, ◌>>=◌}
use Rattle.outcome.specs.declared.Reason.{Reason}
use Rattle.outcome.specs.declared.Reason.TheVariants.{SumUnfit, JoinUnfit, NumberUnfit, ValueTooLarge, UnboundVariable, IllegalTerm as TermRefused}
use Rattle.format_fields.proofs.Truth.{Mem, none_some, some_inj, or_false, true_not, and_both, all_mem, any_false}
use Rattle.format_fields.proofs.Codec.{Each, refused_value}
pub use Rattle.format_fields.proofs.Codec.{step_value, value_inj}
use Rattle.format_fields.proofs.Keyed.{is_rising}
use Rattle.format_language.specs.Language.{Language}
use Rattle.format_language.specs.LanguageFile.{encode_language, language_limit}
use Rattle.format_language.proofs.Codec.{GoodLanguage}
use Rattle.format_translation.specs.Translation.{Item, Body, Translation, item_key}
use Rattle.format_translation.specs.TranslationFile.{encode_translation, translation_limit}
use Rattle.format_translation.specs.WellFormed.{well_formed}
use Rattle.format_translation.proofs.Codec.{item_whole, GoodBody}
use Rattle.format_translation.proofs.Fitting.{refuse_value}
use Rattle.reduce_operators.specs.Operators.{languages_fit, language_union, language_sum, translations_fit, translation_union, translation_sum, numbers_low, join_fits, joined, translation_join}
use Rattle.reduce_operators.specs.Limits.{code_is_deep, language_exceeds, translation_exceeds}
use Rattle.format_pack.specs.Terms.{Sort, languages, translations, Term, constant, source_of, target_of, make, join, identity, variable, without, sum, bind}
use Rattle.reduce_signs.specs.Evaluation.{Constants, Value, Environment, nothing_bound, bound, there, exceeds, limited, sum_of, without_of, evaluate}
use Rattle.reduce_operators.proofs.Proper.{Proper, good_proper, proper_good, Sound, formed_sound, GoodTranslation}
use Rattle.reduce_operators.proofs.SumSound.{fit_languages, fit_translations, proper_union, proper_without, sound_union, sound_without}
use Rattle.reduce_operators.proofs.JoinSound.{sound_join}
use Rattle.reduce_operators.proofs.IdentitySound.{sound_identity}

-- A value that is there, and a step after it.
there_step : {A B : Type 0} {b : B} (r : Reason) (o : Option A) (f : A → Result B) → there r o >>= f ≡ value b → (a : A) × (o ≡ some a) × (f a ≡ value b)
there_step r none f e = refused_value e
there_step r (some a) f e = (a, refl, e)

pub limited_value : (s : Sort) (v w : Value s) → limited s v ≡ value w → (exceeds s v ≡ false) × (v ≡ w)
limited_value s v w e = let r = refuse_value (exceeds s v) ValueTooLarge (value v) e in (r.0, value_inj r.1)

-- A good value of each sort.
abbrev pub Good : (s : Sort) → Value s → Type 0
Good languages l = GoodLanguage l
Good translations f = GoodTranslation f

-- A value but for its size.
abbrev pub Fair : (s : Sort) → Value s → Type 0
Fair languages l = Proper l
Fair translations f = Sound f

pub good_fair : (s : Sort) (v : Value s) → Good s v → Fair s v
good_fair languages l g = good_proper l g
good_fair translations f g = g.sound

pub language_short : (l : Language) → language_exceeds l ≡ false → length (encode_language l) ≤ language_limit
unfolding language_exceeds
language_short l e = ltb-false language_limit (length (encode_language l)) e

-- What it means that no limit is exceeded.
pub record Within (f : Translation) : Type 0 where
  pub source : length (encode_language f.source) ≤ language_limit
  pub target : length (encode_language f.target) ≤ language_limit
  pub whole : length (encode_translation f) ≤ translation_limit
  pub codes : (a : Item) → Mem a f.body → code_is_deep f a ≡ false

pub within : (f : Translation) → translation_exceeds f ≡ false → Within f
unfolding translation_exceeds
within f e =
    let a = or_false (language_exceeds f.source) _ e in
    let b = or_false (language_exceeds f.target) _ a.1 in
    let c = or_false (ltb translation_limit (length (encode_translation f))) (any (code_is_deep f) f.body) b.1 in
    record {
      source = language_short f.source a.0;
      target = language_short f.target b.0;
      whole = ltb-false translation_limit (length (encode_translation f)) c.0;
      codes = any_false (code_is_deep f) f.body c.1;
    }

-- A fair value within the limits is good.
pub fair_good : (s : Sort) (v : Value s) → Fair s v → exceeds s v ≡ false → Good s v
fair_good languages l p e = proper_good l p (language_short l e)
fair_good translations f p e =
    let w = within f e in record { sound = p; source_short = w.source; target_short = w.target; short = w.whole }

-- A value that is limited is good, if it is fair.
pub limited_good : (s : Sort) (v w : Value s) → limited s v ≡ value w → (exceeds s v ≡ false → Fair s v) → Good s w
limited_good s v w e h = let r = limited_value s v w e in subst (Good s) r.1 (fair_good s v (h r.0) r.0)

-- The value of a sum, and of a join.
pub language_sum_lem : (l m n : Language) → language_sum l m ≡ value n → (languages_fit l m ≡ true) × (language_union l m ≡ n)
unfolding language_sum
language_sum_lem l m n e =
    let r = refuse_value (not (languages_fit l m)) SumUnfit (value (language_union l m)) e in
    (true_not (languages_fit l m) r.0, value_inj r.1)

pub translation_sum_lem : (f g h : Translation) → translation_sum f g ≡ value h → (translations_fit f g ≡ true) × (translation_union f g ≡ h)
unfolding translation_sum
translation_sum_lem f g h e =
    let r = refuse_value (not (translations_fit f g)) SumUnfit (value (translation_union f g)) e in
    (true_not (translations_fit f g) r.0, value_inj r.1)

pub translation_join_lem : (f g h : Translation) → translation_join f g ≡ value h
    → (join_fits f g ≡ true) × (joined f g ≡ h) × (numbers_low f ≡ true) × (numbers_low g ≡ true)
unfolding translation_join
translation_join_lem f g h e =
    let q = refuse_value (not (numbers_low f && numbers_low g)) NumberUnfit (refuse_if (not (join_fits f g)) JoinUnfit (value (joined f g))) e in
    let r = refuse_value (not (join_fits f g)) JoinUnfit (value (joined f g)) q.1 in
    let l = and_both (numbers_low f) (numbers_low g) (true_not (numbers_low f && numbers_low g) q.0) in
    (true_not (join_fits f g) r.0, value_inj r.1, l.0, l.1)

sum_fair : (s : Sort) (v w u : Value s) → Good s v → Good s w → sum_of s v w ≡ value u → Fair s u
sum_fair languages l m n a b e =
    let r = language_sum_lem l m n e in
    subst Proper r.1 (proper_union l m (good_proper l a) (good_proper m b) (fit_languages l m r.0))
sum_fair translations f g h a b e =
    let r = translation_sum_lem f g h e in
    subst Sound r.1 (sound_union f g a.sound b.sound (fit_translations f g r.0))

without_fair : (s : Sort) (v : Value s) (l : Language) → Good s v → Fair s (without_of s v l)
without_fair languages m l g = proper_without m l (good_proper m g)
without_fair translations f l g = sound_without f l g.sound

join_fair : (f g h : Translation) → GoodTranslation f → GoodTranslation g → translation_join f g ≡ value h → translation_exceeds h ≡ false → Sound h
join_fair f g h a b e x =
    let r = translation_join_lem f g h e in
    let w : Within (joined f g) = within (joined f g) (rw r.1 x) in
    subst Sound r.1 (sound_join f g a.sound b.sound r.0 r.2 r.3 w.codes)

make_fair : (l m : Language) (b : Body) (f : Translation) → GoodLanguage l → GoodLanguage m → GoodBody b
    → well_formed (record { source = l; target = m; body = b }) ≡ value f → Sound f
make_fair l m b f x y z e =
    let r = formed_sound (record { source = l; target = m; body = b }) f (good_proper l x) (good_proper m y) (all_mem item_whole b z.whole) (is_rising item_key b z.rises) e in
    subst Sound r.1 r.0

-- The constants of a pack, and what is bound, are good.
pub record GoodConstants (p : Constants) : Type 0 where
  pub languages : Each GoodLanguage p.languages
  pub bodies : Each GoodBody p.bodies

abbrev pub GoodEnvironment : Environment → Type 0
GoodEnvironment e = (s : Sort) (v : ℕ) (x : Value s) → e s v ≡ some x → Good s x

pub nothing_good : GoodEnvironment nothing_bound
nothing_good s v x e = none_some e

each_get : {A : Type 0} (P : A → Type 0) (l : List A) → Each P l → (i : ℕ) (a : A) → get_elem? l i ≡ some a → P a
each_get P [] h i a e = none_some e
each_get P (b ∷ l) h zero a e = subst P (some_inj e) h.0
each_get P (b ∷ l) h (suc i) a e = each_get P l h.1 i a e

hides : (s : Sort) (t : Bool) (x y : Value s) (o : Option (Value s)) → Good s x → (o ≡ some y → Good s y) → cond t (some x) o ≡ some y → Good s y
hides s true x y o g h e = subst (Good s) (some_inj e) g
hides s false x y o g h e = h e

bound_good : (e : Environment) (r : Sort) (n : ℕ) (v : Value r) → GoodEnvironment e → Good r v → GoodEnvironment (bound e r n v)
unfolding bound
bound_good e languages n v h g languages w x q = hides languages (eqb n w) v x (e languages w) g (h languages w x) q
bound_good e languages n v h g translations w x q = h translations w x q
bound_good e translations n v h g languages w x q = h languages w x q
bound_good e translations n v h g translations w x q = hides translations (eqb n w) v x (e translations w) g (h translations w x) q

-- Every value is good.
pub evaluate_good : {s : Sort} (p : Constants) → GoodConstants p → (e : Environment) → GoodEnvironment e → (t : Term s) (v : Value s) → evaluate p e t ≡ value v → Good s v
unfolding evaluate
evaluate_good p gp e ge (constant c) v q =
    let a = there_step TermRefused (get_elem? p.languages c) (limited languages) q in
    limited_good languages a.0 v a.2 (λ x. good_proper a.0 (each_get GoodLanguage p.languages gp.languages c a.0 a.1))
evaluate_good p gp e ge (source_of x) v q =
    let a = step_value (evaluate p e x) _ q in
    limited_good languages _ v a.2 (λ d. (evaluate_good p gp e ge x a.0 a.1).sound.source)
evaluate_good p gp e ge (target_of x) v q =
    let a = step_value (evaluate p e x) _ q in
    limited_good languages _ v a.2 (λ d. (evaluate_good p gp e ge x a.0 a.1).sound.target)
evaluate_good p gp e ge (make x y c) v q =
    let a = step_value (evaluate p e x) _ q in
    let b = step_value (evaluate p e y) _ a.2 in
    let d = there_step TermRefused (get_elem? p.bodies c) _ b.2 in
    let f = step_value _ (limited translations) d.2 in
    limited_good translations f.0 v f.2 (λ z.
    make_fair a.0 b.0 d.0 f.0 (evaluate_good p gp e ge x a.0 a.1) (evaluate_good p gp e ge y b.0 b.1)
    (each_get GoodBody p.bodies gp.bodies c d.0 d.1) f.1)
evaluate_good p gp e ge (join x y) v q =
    let a = step_value (evaluate p e x) _ q in
    let b = step_value (evaluate p e y) _ a.2 in
    let f = step_value _ (limited translations) b.2 in
    limited_good translations f.0 v f.2 (λ z.
    join_fair a.0 b.0 f.0 (evaluate_good p gp e ge x a.0 a.1) (evaluate_good p gp e ge y b.0 b.1) f.1 z)
evaluate_good p gp e ge (identity x) v q =
    let a = step_value (evaluate p e x) _ q in
    limited_good translations _ v a.2 (λ d. sound_identity a.0 (good_proper a.0 (evaluate_good p gp e ge x a.0 a.1)))
evaluate_good p gp e ge (variable {s} n) v q =
    let a = there_step UnboundVariable (e s n) (limited s) q in
    limited_good s a.0 v a.2 (λ x. good_fair s a.0 (ge s n a.0 a.1))
evaluate_good p gp e ge (without {s} x y) v q =
    let a = step_value (evaluate p e x) _ q in
    let b = step_value (evaluate p e y) _ a.2 in
    limited_good s _ v b.2 (λ d. without_fair s a.0 b.0 (evaluate_good p gp e ge x a.0 a.1))
evaluate_good p gp e ge (sum {s} x y) v q =
    let a = step_value (evaluate p e x) _ q in
    let b = step_value (evaluate p e y) _ a.2 in
    let c = step_value _ (limited s) b.2 in
    limited_good s c.0 v c.2 (λ d.
    sum_fair s a.0 b.0 c.0 (evaluate_good p gp e ge x a.0 a.1) (evaluate_good p gp e ge y b.0 b.1) c.1)
evaluate_good p gp e ge (bind {s} r n x y) v q =
    let a = step_value (evaluate p e x) _ q in
    let b = step_value (evaluate p (bound e r n a.0) y) (limited s) a.2 in
    limited_good s b.0 v b.2 (λ d. good_fair s b.0
    (evaluate_good p gp (bound e r n a.0) (bound_good e r n a.0 ge (evaluate_good p gp e ge x a.0 a.1)) y b.0 b.1))
