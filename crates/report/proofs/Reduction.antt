-- Working out a term is figure A.1: sound, and complete where every value on the way keeps to the limits.
use Prim.Native.Nat.{ℕ}
use mathlib.Core.Path.{◌≡◌, refl, ap, sym, subst, ◌∙◌}
use mathlib.Core.Logic.{◌↔◌}
use mathlib.Core.Bool.{true, false}
use mathlib.Core.List.{List}
use mathlib.Core.Option.{Option, none, some}
use lib.ListN.{get_elem?}
use Rattle.outcome.specs.Outcome.{Result, value, ◌>>=◌}
use Rattle.outcome.specs.declared.Reason.{Reason}
use Rattle.outcome.specs.declared.Reason.TheVariants.{UnboundVariable, IllegalTerm as TermRefused}
use Rattle.format_fields.proofs.Truth.{Mem}
use Rattle.format_fields.proofs.Keyed.{Rising}
use Rattle.format_fields.proofs.Codec.{Bytes, refused_value, step_value}
use Rattle.format_language.specs.Language.{Language}
use Rattle.format_translation.specs.Translation.{Item, clause, Body, Translation, item_key}
use Rattle.format_translation.specs.WellFormed.{well_formed}
use Rattle.format_translation.proofs.Fitting.{Fitting, formed_fits}
use Rattle.reduce_operators.specs.Operators.{languages_fit, language_union, language_sum, language_without, translations_fit, translation_union, translation_sum, translation_without, numbers_low, join_fits, joined, translation_join, identity_of}
use Rattle.reduce_operators.specs.Limits.{language_exceeds, translation_exceeds, code_is_deep}
use Rattle.reduce_operators.proofs.Proper.{kinds_below}
use Rattle.reduce_operators.proofs.SumSound.{fit_languages, languages_fit_lem, fit_translations, translations_fit_lem}
use Rattle.format_pack.specs.Terms.{Sort, languages, translations, Term, constant, source_of, target_of, make, join, identity, variable, without, sum, bind}
use Rattle.reduce_signs.specs.Evaluation.{Constants, Value, Environment, nothing_bound, bound, there, exceeds, limited, sum_of, without_of, evaluate}
use Rattle.reduce_terms.proofs.Evaluated.{within, limited_value, language_sum_lem, translation_sum_lem, translation_join_lem}
use Rattle.report.specs.Languages.{WellFormedLanguage, Compatible, IsSum, IsDifference, LiesWithin}
use Rattle.report.specs.WellFormed.{OneNumber, WellFormed}
use Rattle.report.specs.Translations.{CompatibleX, IsSumX, IsDifferenceX, IsComposition, IsIdentity}
use Rattle.report.specs.Reduction.{EnvironmentOf, empty, extended, ReducesL, con_l, var_l, res_l, add_l, src_l, tgt_l, let_l, letx_l, ReducesX, con_x, var_x, res_x, add_x, comp_x, idx_x, let_x, letx_x}
use Rattle.report.specs.Limits.{SmallX, WithinL, WithinX}
use Rattle.report.proofs.Languages.{sum_one, difference_one, formed_proper, formed_rises, fit_compatible, compatible_fit, union_is, without_is, within_lies, lies_within}
use Rattle.report.proofs.WellFormed.{fits_formed, formed_fitting, formed_tests}
use Rattle.report.proofs.Sums.{sum_one_x, fit_compatible_x, compatible_fit_x, union_is_x}
use Rattle.report.proofs.Compositions.{composition_one}
use Rattle.report.proofs.Identities.{identity_one, identity_is}
use Rattle.report.proofs.Differences.{difference_one_x, without_is_x}
use Rattle.report.proofs.Runs.{numbers_low_lem, joined_is}
use Rattle.report.proofs.Values.{Everywhere, nowhere, everywhere_bound, value_l, value_x}

-- The value of each sign from those of its operands.
limit_value : (s : Sort) (v w : Value s) → v ≡ w → exceeds s w ≡ false → limited s v ≡ value w
limit_value s v w e h = rw (e, h)

sum_value : (l m n : Language) → languages_fit l m ≡ true → language_union l m ≡ n → language_sum l m ≡ value n
unfolding language_sum
sum_value l m n f e = rw (f, e)

sum_value_x : (f g h : Translation) → translations_fit f g ≡ true → translation_union f g ≡ h → translation_sum f g ≡ value h
unfolding translation_sum
sum_value_x f g h t e = rw (t, e)

join_value_x : (f g h : Translation) → numbers_low f ≡ true → numbers_low g ≡ true → join_fits f g ≡ true → joined f g ≡ h → translation_join f g ≡ value h
unfolding translation_join
join_value_x f g h a b t e = rw (a, b, t, e)

module _ (c : Constants) (e : Environment) where
  constant_value : (n : ℕ) (l : Language) → get_elem? c.languages n ≡ some l → language_exceeds l ≡ false → evaluate c e (constant n) ≡ value l
  unfolding evaluate
  constant_value n l p h = rw (p, h)

  variable_value : (s : Sort) (v : ℕ) (x : Value s) → e s v ≡ some x → exceeds s x ≡ false → evaluate c e (variable {s = s} v) ≡ value x
  unfolding evaluate
  variable_value s v x p h = rw (p, h)

  without_value : (s : Sort) (x : Term s) (y : Term languages) (v w : Value s) (l : Language) → evaluate c e x ≡ value v → evaluate c e y ≡ value l
      → without_of s v l ≡ w → exceeds s w ≡ false → evaluate c e (without x y) ≡ value w
  unfolding evaluate
  without_value s x y v w l p q r h = rw (p, q) (limit_value s (without_of s v l) w r h)

  add_value : (s : Sort) (x y : Term s) (v w u : Value s) → evaluate c e x ≡ value v → evaluate c e y ≡ value w
      → sum_of s v w ≡ value u → exceeds s u ≡ false → evaluate c e (sum x y) ≡ value u
  unfolding evaluate
  add_value s x y v w u p q r h = rw (p, q, r, h)

  source_value : (x : Term translations) (f : Translation) (l : Language) → evaluate c e x ≡ value f → f.source ≡ l → language_exceeds l ≡ false → evaluate c e (source_of x) ≡ value l
  unfolding evaluate
  source_value x f l p q h = rw p (limit_value languages f.source l q h)

  target_value : (x : Term translations) (f : Translation) (l : Language) → evaluate c e x ≡ value f → f.target ≡ l → language_exceeds l ≡ false → evaluate c e (target_of x) ≡ value l
  unfolding evaluate
  target_value x f l p q h = rw p (limit_value languages f.target l q h)

  make_value : (x y : Term languages) (n : ℕ) (f : Translation) → evaluate c e x ≡ value f.source → evaluate c e y ≡ value f.target
      → get_elem? c.bodies n ≡ some f.body → well_formed f ≡ value f → translation_exceeds f ≡ false → evaluate c e (make x y n) ≡ value f
  unfolding evaluate
  make_value x y n f p q r t h = rw (p, q, r, t, h)

  join_value : (x y : Term translations) (f g h : Translation) → evaluate c e x ≡ value f → evaluate c e y ≡ value g
      → translation_join f g ≡ value h → translation_exceeds h ≡ false → evaluate c e (join x y) ≡ value h
  unfolding evaluate
  join_value x y f g h p q r t = rw (p, q, r, t)

  identity_value : (x : Term languages) (l : Language) (h : Translation) → evaluate c e x ≡ value l → identity_of l ≡ h → translation_exceeds h ≡ false
      → evaluate c e (identity x) ≡ value h
  unfolding evaluate
  identity_value x l h p q t = rw p (limit_value translations (identity_of l) h q t)

  bind_value : (s r : Sort) (n : ℕ) (x : Term r) (y : Term s) (v : Value r) (w : Value s) → evaluate c e x ≡ value v → evaluate c (bound e r n v) y ≡ value w
      → exceeds s w ≡ false → evaluate c e (bind r n x y) ≡ value w
  unfolding evaluate
  bind_value s r n x y v w p q h = rw (p, q, h)

-- The operators, from the rules to the project's functions.
sum_is_that : (l m n : Language) → WellFormedLanguage l → WellFormedLanguage m → Compatible l m → IsSum l m n → language_sum l m ≡ value n
sum_is_that l m n p q h d =
    let f = compatible_fit l m p q h in
    sum_value l m n (languages_fit_lem l m f) (sum_one l m (language_union l m) n (union_is l m (formed_rises l p) (formed_rises m q) f) d)

sum_is_that_x : (f g h : Translation) → WellFormed f → WellFormed g → CompatibleX f g → IsSumX f g h → translation_sum f g ≡ value h
sum_is_that_x f g h p q k d =
    let t = compatible_fit_x f g p q k in
    sum_value_x f g h (translations_fit_lem f g t) (sum_one_x f g (translation_union f g) h (union_is_x f g p q t) d)

join_is_that : (f g h : Translation) → WellFormed f → WellFormed g → Fitting f → Fitting g → LiesWithin g.target f.source → IsComposition f g h → translation_join f g ≡ value h
unfolding join_fits
join_is_that f g h p q a b k d =
    join_value_x f g h (numbers_low_lem f p) (numbers_low_lem g q) (lies_within g.target f.source k) (composition_one f g (joined f g) h (joined_is f g p q a b k) d)

-- What a reduction of a translation term within the limits gives is small.
small_x : {c : Constants} {α : EnvironmentOf Language} {β : EnvironmentOf Translation} {t : Term translations} {f : Translation} (d : ReducesX c α β t f) → WithinX d → SmallX f
unfolding WithinX
small_x (con_x x y p w) q = q.2
small_x (var_x p) q = q
small_x (res_x x y p) q = q.2
small_x (add_x x y w p) q = q.2
small_x (comp_x x y w p) q = q.2
small_x (idx_x x p) q = q.1
small_x (let_x x y) q = q.2
small_x (letx_x x y) q = q.2

-- A small translation has no code that is too deep.
pub shallow : (f : Translation) → SmallX f → (a : Item) → Mem a f.body → code_is_deep f a ≡ false
shallow f e = (within f e).codes

-- The two environments as one, as the project has it.
abbrev both : EnvironmentOf Language → EnvironmentOf Translation → Environment
both α β languages v = α v
both α β translations v = β v

both_language : (α : EnvironmentOf Language) (β : EnvironmentOf Translation) (n : ℕ) (l : Language) → both (extended α n l) β ≡ bound (both α β) languages n l
unfolding bound extended
both_language α β n l = λ i s v. go s v i
  where
    go : (s : Sort) (v : ℕ) → both (extended α n l) β s v ≡ bound (both α β) languages n l s v
    go languages v = refl
    go translations v = refl

both_translation : (α : EnvironmentOf Language) (β : EnvironmentOf Translation) (n : ℕ) (f : Translation) → both α (extended β n f) ≡ bound (both α β) translations n f
unfolding bound extended
both_translation α β n f = λ i s v. go s v i
  where
    go : (s : Sort) (v : ℕ) → both α (extended β n f) s v ≡ bound (both α β) translations n f s v
    go languages v = refl
    go translations v = refl

-- Completeness: what figure A.1 reduces a term to, within the limits, is its value.
module _ (c : Constants) where
  mutual
    unfolding WithinL WithinX

    complete_l : {α : EnvironmentOf Language} {β : EnvironmentOf Translation} {t : Term languages} {l : Language} → Everywhere WellFormedLanguage α → Everywhere WellFormed β
        → (d : ReducesL c α β t l) → WithinL d → evaluate c (both α β) t ≡ value l
    complete_l {α} {β} {t} {l} g h (con_l {n = n} p w) q = constant_value c (both α β) n l p q
    complete_l {α} {β} {t} {l} g h (var_l {v = v} p) q = variable_value c (both α β) languages v l p q
    complete_l {α} {β} {t} {l} g h (res_l {x = x} {y = y} {l = a} {m = b} dx dy p) q =
        without_value c (both α β) languages x y a l b (complete_l g h dx q.0) (complete_l g h dy q.1)
        (difference_one a b (language_without a b) l (without_is a b (formed_proper a (value_l g h dx))) p) q.2
    complete_l {α} {β} {t} {l} g h (add_l {x = x} {y = y} {l = a} {m = b} dx dy w p) q =
        add_value c (both α β) languages x y a b l (complete_l g h dx q.0) (complete_l g h dy q.1) (sum_is_that a b l (value_l g h dx) (value_l g h dy) w p) q.2
    complete_l {α} {β} {t} {l} g h (src_l {x = x} {f = f} dx p) q = source_value c (both α β) x f l (complete_x g h dx q.0) (sym p) q.1
    complete_l {α} {β} {t} {l} g h (tgt_l {x = x} {f = f} dx p) q = target_value c (both α β) x f l (complete_x g h dx q.0) (sym p) q.1
    complete_l {α} {β} {t} {l} g h (let_l {v = v} {x = x} {y = y} {l = a} dx dy) q =
        bind_value c (both α β) languages languages v x y a l (complete_l g h dx q.0)
        (subst (λ (e : Environment). evaluate c e y ≡ value l) (both_language α β v a) (complete_l (everywhere_bound WellFormedLanguage α v a g (value_l g h dx)) h dy q.1)) q.2
    complete_l {α} {β} {t} {l} g h (letx_l {w = v} {x = x} {y = y} {f = a} dx dy) q =
        bind_value c (both α β) languages translations v x y a l (complete_x g h dx q.0)
        (subst (λ (e : Environment). evaluate c e y ≡ value l) (both_translation α β v a) (complete_l g (everywhere_bound WellFormed β v a h (value_x g h dx)) dy q.1)) q.2

    complete_x : {α : EnvironmentOf Language} {β : EnvironmentOf Translation} {t : Term translations} {f : Translation} → Everywhere WellFormedLanguage α → Everywhere WellFormed β
        → (d : ReducesX c α β t f) → WithinX d → evaluate c (both α β) t ≡ value f
    complete_x {α} {β} {t} {f} g h (con_x {x = x} {y = y} {n = n} dx dy p w) q =
        make_value c (both α β) x y n f (complete_l g h dx q.0) (complete_l g h dy q.1) p (formed_tests f w (shallow f q.2)) q.2
    complete_x {α} {β} {t} {f} g h (var_x {w = v} p) q = variable_value c (both α β) translations v f p q
    complete_x {α} {β} {t} {f} g h (res_x {x = x} {y = y} {f = a} {l = b} dx dy p) q =
        without_value c (both α β) translations x y a f b (complete_x g h dx q.0) (complete_l g h dy q.1)
        (difference_one_x a b (translation_without a b) f (without_is_x a b (value_x g h dx)) p) q.2
    complete_x {α} {β} {t} {f} g h (add_x {x = x} {y = y} {f = a} {g = b} dx dy w p) q =
        add_value c (both α β) translations x y a b f (complete_x g h dx q.0) (complete_x g h dy q.1) (sum_is_that_x a b f (value_x g h dx) (value_x g h dy) w p) q.2
    complete_x {α} {β} {t} {f} g h (comp_x {x = x} {y = y} {f = a} {g = b} dx dy w p) q =
        let wa = value_x g h dx in
        let wb = value_x g h dy in
        join_value c (both α β) x y a b f (complete_x g h dx q.0) (complete_x g h dy q.1)
        (join_is_that a b f wa wb (formed_fitting a wa (shallow a (small_x dx q.0))) (formed_fitting b wb (shallow b (small_x dy q.1))) w p) q.2
    complete_x {α} {β} {t} {f} g h (idx_x {x = x} {l = a} dx p) q =
        identity_value c (both α β) x a f (complete_l g h dx q.0) (identity_one a (identity_of a) f (identity_is a (value_l g h dx)) p) q.1
    complete_x {α} {β} {t} {f} g h (let_x {v = v} {x = x} {y = y} {l = a} dx dy) q =
        bind_value c (both α β) translations languages v x y a f (complete_l g h dx q.0)
        (subst (λ (e : Environment). evaluate c e y ≡ value f) (both_language α β v a) (complete_x (everywhere_bound WellFormedLanguage α v a g (value_l g h dx)) h dy q.1)) q.2
    complete_x {α} {β} {t} {f} g h (letx_x {w = v} {x = x} {y = y} {f = a} dx dy) q =
        bind_value c (both α β) translations translations v x y a f (complete_x g h dx q.0)
        (subst (λ (e : Environment). evaluate c e y ≡ value f) (both_translation α β v a) (complete_x g (everywhere_bound WellFormed β v a h (value_x g h dx)) dy q.1)) q.2

-- A reduction within the limits, of either sort.
abbrev pub Derived : Constants → EnvironmentOf Language → EnvironmentOf Translation → (s : Sort) → Term s → Value s → Type 0
Derived c α β languages t v = (d : ReducesL c α β t v) × WithinL d
Derived c α β translations t v = (d : ReducesX c α β t v) × WithinX d

-- What is known of a value of either sort.
abbrev Formed : (s : Sort) → Value s → Type 0
Formed languages l = WellFormedLanguage l
Formed translations f = WellFormed f

derived_formed : (c : Constants) (α : EnvironmentOf Language) (β : EnvironmentOf Translation) (s : Sort) (t : Term s) (v : Value s) → Everywhere WellFormedLanguage α → Everywhere WellFormed β
    → Derived c α β s t v → Formed s v
derived_formed c α β languages t v g h d = value_l g h d.0
derived_formed c α β translations t v g h d = value_x g h d.0

there_step : {A B : Type 0} {b : B} (r : Reason) (o : Option A) (f : A → Result B) → there r o >>= f ≡ value b → (a : A) × (o ≡ some a) × (f a ≡ value b)
there_step r none f e = refused_value e
there_step r (some a) f e = (a, refl, e)

-- A value that is limited is within the limits.
limited_small : (s : Sort) (v w : Value s) → limited s v ≡ value w → (v ≡ w) × (exceeds s w ≡ false)
limited_small s v w e = let r = limited_value s v w e in (r.1, subst (λ (x : Value s). exceeds s x ≡ false) r.1 r.0)

module _ (c : Constants) (α : EnvironmentOf Language) (β : EnvironmentOf Translation) where
  res_sound : (s : Sort) (x : Term s) (y : Term languages) (v w : Value s) (l : Language) → Formed s v → without_of s v l ≡ w → exceeds s w ≡ false
      → Derived c α β s x v → Derived c α β languages y l → Derived c α β s (without x y) w
  unfolding WithinL
  res_sound languages x y v w l g q h dx dy = (res_l dx.0 dy.0 (subst (IsDifference v l) q (without_is v l (formed_proper v g))), (dx.1, dy.1, h))
  res_sound translations x y v w l g q h dx dy = (res_x dx.0 dy.0 (subst (IsDifferenceX v l) q (without_is_x v l g)), (dx.1, dy.1, h))

  add_sound : (s : Sort) (x y : Term s) (v w u : Value s) → Formed s v → Formed s w → sum_of s v w ≡ value u → exceeds s u ≡ false
      → Derived c α β s x v → Derived c α β s y w → Derived c α β s (sum x y) u
  unfolding WithinL
  add_sound languages x y v w u g k q h dx dy =
      let r = language_sum_lem v w u q in
      let f = fit_languages v w r.0 in
      (add_l dx.0 dy.0 (fit_compatible v w f) (subst (IsSum v w) r.1 (union_is v w (formed_rises v g) (formed_rises w k) f)), (dx.1, dy.1, h))
  add_sound translations x y v w u g k q h dx dy =
      let r = translation_sum_lem v w u q in
      let f = fit_translations v w r.0 in
      (add_x dx.0 dy.0 (fit_compatible_x v w g k f) (subst (IsSumX v w) r.1 (union_is_x v w g k f)), (dx.1, dy.1, h))

  join_sound : (x y : Term translations) (f g h : Translation) → WellFormed f → WellFormed g → translation_join f g ≡ value h → translation_exceeds h ≡ false
      → Derived c α β translations x f → Derived c α β translations y g → Derived c α β translations (join x y) h
  unfolding WithinX join_fits
  join_sound x y f g h p q t z dx dy =
      let r = translation_join_lem f g h t in
      let l = within_lies g.target f.source r.0 in
      let d = joined_is f g p q (formed_fitting f p (shallow f (small_x dx.0 dx.1))) (formed_fitting g q (shallow g (small_x dy.0 dy.1))) l in
      (comp_x dx.0 dy.0 l (subst (IsComposition f g) r.1 d), (dx.1, dy.1, z))

  make_sound : (x y : Term languages) (n : ℕ) (f : Translation) → Derived c α β languages x f.source → Derived c α β languages y f.target
      → get_elem? c.bodies n ≡ some f.body → WellFormed f → translation_exceeds f ≡ false → Derived c α β translations (make x y n) f
  unfolding WithinX
  make_sound x y n f dx dy p w h = (con_x dx.0 dy.0 p w, (dx.1, dy.1, h))

  let_sound : (s : Sort) (n : ℕ) (x : Term languages) (y : Term s) (a : Language) (v : Value s) → exceeds s v ≡ false
      → Derived c α β languages x a → Derived c (extended α n a) β s y v → Derived c α β s (bind languages n x y) v
  unfolding WithinL
  let_sound languages n x y a v h dx dy = (let_l dx.0 dy.0, (dx.1, dy.1, h))
  let_sound translations n x y a v h dx dy = (let_x dx.0 dy.0, (dx.1, dy.1, h))

  letx_sound : (s : Sort) (n : ℕ) (x : Term translations) (y : Term s) (a : Translation) (v : Value s) → exceeds s v ≡ false
      → Derived c α β translations x a → Derived c α (extended β n a) s y v → Derived c α β s (bind translations n x y) v
  unfolding WithinL
  letx_sound languages n x y a v h dx dy = (letx_l dx.0 dy.0, (dx.1, dy.1, h))
  letx_sound translations n x y a v h dx dy = (letx_x dx.0 dy.0, (dx.1, dy.1, h))

var_sound : (c : Constants) (e : Environment) (s : Sort) (n : ℕ) (v : Value s) → e s n ≡ some v → exceeds s v ≡ false → Derived c (e languages) (e translations) s (variable n) v
unfolding WithinL
var_sound c e languages n v p h = (var_l p, h)
var_sound c e translations n v p h = (var_x p, h)

-- What a pack in bytes with number 0 only holds: well-formed languages, and bodies in order whose codes are bytes.
pub record BodyFits (b : Body) : Type 0 where
  pub one : OneNumber b
  pub rises : Rising item_key b
  pub bytes : (n p : ℕ) (d : List ℕ) → Mem (clause n p 0 d) b → Bytes d

pub record ConstantsFit (c : Constants) : Type 0 where
  pub languages : (n : ℕ) (l : Language) → get_elem? c.languages n ≡ some l → WellFormedLanguage l
  pub bodies : (n : ℕ) (b : Body) → get_elem? c.bodies n ≡ some b → BodyFits b

-- Soundness: the value of a term is what figure A.1 reduces it to, and every value on the way keeps to the limits.
sound : (c : Constants) → ConstantsFit c → {s : Sort} (e : Environment) → Everywhere WellFormedLanguage (e languages) → Everywhere WellFormed (e translations) → (t : Term s) (v : Value s)
    → evaluate c e t ≡ value v → Derived c (e languages) (e translations) s t v
unfolding evaluate WithinL bound extended
sound c k e g h (constant n) v q =
    let a = there_step TermRefused (get_elem? c.languages n) (limited languages) q in
    let r = limited_small languages a.0 v a.2 in
    let p : get_elem? c.languages n ≡ some v = a.1 ∙ ap some r.0 in
    (con_l p (k.languages n v p), r.1)
sound c k e g h (source_of x) v q =
    let a = step_value (evaluate c e x) _ q in
    let r = limited_small languages _ v a.2 in
    let d = sound c k e g h x a.0 a.1 in
    (src_l d.0 (sym r.0), (d.1, r.1))
sound c k e g h (target_of x) v q =
    let a = step_value (evaluate c e x) _ q in
    let r = limited_small languages _ v a.2 in
    let d = sound c k e g h x a.0 a.1 in
    (tgt_l d.0 (sym r.0), (d.1, r.1))
sound c k e g h (make x y n) v q =
    let a = step_value (evaluate c e x) _ q in
    let b = step_value (evaluate c e y) _ a.2 in
    let d = there_step TermRefused (get_elem? c.bodies n) _ b.2 in
    let f : Translation = record { source = a.0; target = b.0; body = d.0 } in
    let w = step_value (well_formed f) (limited translations) d.2 in
    let r = limited_small translations w.0 v w.2 in
    let dx = sound c k e g h x a.0 a.1 in
    let dy = sound c k e g h y b.0 b.1 in
    let wx = value_l g h dx.0 in
    let wy = value_l g h dy.0 in
    let fb = k.bodies n d.0 d.1 in
    let t = formed_fits f w.0 (kinds_below f (formed_proper a.0 wx)) fb.rises w.1 in
    let z : f ≡ v = t.1 ∙ r.0 in
    subst (Derived c (e languages) (e translations) translations (make x y n)) z
    (make_sound c (e languages) (e translations) x y n f dx dy d.1 (fits_formed f fb.one wx wy fb.rises fb.bytes t.0)
    (subst (λ (t : Translation). translation_exceeds t ≡ false) (sym z) r.1))
sound c k e g h (join x y) v q =
    let a = step_value (evaluate c e x) _ q in
    let b = step_value (evaluate c e y) _ a.2 in
    let f = step_value (translation_join a.0 b.0) (limited translations) b.2 in
    let r = limited_small translations f.0 v f.2 in
    let dx = sound c k e g h x a.0 a.1 in
    let dy = sound c k e g h y b.0 b.1 in
    join_sound c (e languages) (e translations) x y a.0 b.0 v (value_x g h dx.0) (value_x g h dy.0) (f.1 ∙ ap value r.0) r.1 dx dy
sound c k e g h (identity x) v q =
    let a = step_value (evaluate c e x) _ q in
    let r = limited_small translations _ v a.2 in
    let d = sound c k e g h x a.0 a.1 in
    (idx_x d.0 (subst (IsIdentity a.0) r.0 (identity_is a.0 (value_l g h d.0))), (d.1, r.1))
sound c k e g h (variable {s} n) v q =
    let a = there_step UnboundVariable (e s n) (limited s) q in
    let r = limited_small s a.0 v a.2 in
    var_sound c e s n v (a.1 ∙ ap some r.0) r.1
sound c k e g h (without {s} x y) v q =
    let a = step_value (evaluate c e x) _ q in
    let b = step_value (evaluate c e y) _ a.2 in
    let r = limited_small s (without_of s a.0 b.0) v b.2 in
    let dx = sound c k e g h x a.0 a.1 in
    res_sound c (e languages) (e translations) s x y a.0 v b.0 (derived_formed c (e languages) (e translations) s x a.0 g h dx) r.0 r.1 dx (sound c k e g h y b.0 b.1)
sound c k e g h (sum {s} x y) v q =
    let a = step_value (evaluate c e x) _ q in
    let b = step_value (evaluate c e y) _ a.2 in
    let f = step_value (sum_of s a.0 b.0) (limited s) b.2 in
    let r = limited_small s f.0 v f.2 in
    let dx = sound c k e g h x a.0 a.1 in
    let dy = sound c k e g h y b.0 b.1 in
    add_sound c (e languages) (e translations) s x y a.0 b.0 v (derived_formed c (e languages) (e translations) s x a.0 g h dx) (derived_formed c (e languages) (e translations) s y b.0 g h dy)
    (f.1 ∙ ap value r.0) r.1 dx dy
sound c k e g h (bind {s} languages n x y) v q =
    let a = step_value (evaluate c e x) _ q in
    let b = step_value (evaluate c (bound e languages n a.0) y) (limited s) a.2 in
    let z = limited_small s b.0 v b.2 in
    let dx = sound c k e g h x a.0 a.1 in
    let dy = sound c k (bound e languages n a.0) (everywhere_bound WellFormedLanguage (e languages) n a.0 g (value_l g h dx.0)) h y v (b.1 ∙ ap value z.0) in
    let_sound c (e languages) (e translations) s n x y a.0 v z.1 dx dy
sound c k e g h (bind {s} translations n x y) v q =
    let a = step_value (evaluate c e x) _ q in
    let b = step_value (evaluate c (bound e translations n a.0) y) (limited s) a.2 in
    let z = limited_small s b.0 v b.2 in
    let dx = sound c k e g h x a.0 a.1 in
    let dy = sound c k (bound e translations n a.0) g (everywhere_bound WellFormed (e translations) n a.0 h (value_x g h dx.0)) y v (b.1 ∙ ap value z.0) in
    letx_sound c (e languages) (e translations) s n x y a.0 v z.1 dx dy

both_empty : both empty empty ≡ nothing_bound
both_empty = λ i s v. go s v i
  where
    go : (s : Sort) (v : ℕ) → both empty empty s v ≡ nothing_bound s v
    go languages v = refl
    go translations v = refl

-- A closed translation term has a value exactly if figure A.1 reduces it to that, within the limits.
pub evaluate_reduces : (c : Constants) → ConstantsFit c → (t : Term translations) (f : Translation)
    → (evaluate c nothing_bound t ≡ value f) ↔ ((d : ReducesX c empty empty t f) × WithinX d)
evaluate_reduces c k t f = (
  λ q. sound c k nothing_bound (nowhere WellFormedLanguage) (nowhere WellFormed) t f q,
  λ d. subst (λ (e : Environment). evaluate c e t ≡ value f) both_empty (complete_x c (nowhere WellFormedLanguage) (nowhere WellFormed) d.0 d.1),
)
