-- Figure A.1 gives a term one value at most, whatever the limits.
use Prim.Native.Nat.{ℕ}
use mathlib.Core.Path.{◌≡◌, ap, sym, subst, ◌∙◌}
use mathlib.Core.Option.{some}
use lib.ListN.{get_elem?}
use Rattle.format_fields.proofs.Truth.{some_inj}
use Rattle.format_language.specs.Language.{Language}
use Rattle.format_translation.specs.Translation.{Translation}
use Rattle.format_pack.specs.Terms.{Sort, languages, translations, Term, constant, source_of, target_of, make, join, identity, variable, without, sum, bind}
use Rattle.reduce_signs.specs.Evaluation.{Constants, Value}
use Rattle.report.specs.Languages.{IsSum, IsDifference}
use Rattle.report.specs.Translations.{IsSumX, IsDifferenceX, IsComposition, IsIdentity}
use Rattle.report.specs.Reduction.{EnvironmentOf, extended, ReducesL, con_l, var_l, res_l, add_l, src_l, tgt_l, let_l, letx_l, ReducesX, con_x, var_x, res_x, add_x, comp_x, idx_x, let_x, letx_x}
use Rattle.report.proofs.Languages.{sum_one, difference_one}
use Rattle.report.proofs.Sums.{same_parts, sum_one_x}
use Rattle.report.proofs.Compositions.{composition_one}
use Rattle.report.proofs.Identities.{identity_one}
use Rattle.report.proofs.Differences.{difference_one_x}

-- Both relations, and the operators, by the sort of the term.
module _ (c : Constants) where
  abbrev pub Reduces : (s : Sort) → EnvironmentOf Language → EnvironmentOf Translation → Term s → Value s → Type 0
  Reduces languages α β t v = ReducesL c α β t v
  Reduces translations α β t v = ReducesX c α β t v

abbrev DifferenceOf : (s : Sort) → Value s → Language → Value s → Type 0
DifferenceOf languages l m n = IsDifference l m n
DifferenceOf translations f m h = IsDifferenceX f m h

abbrev SumOf : (s : Sort) → Value s → Value s → Value s → Type 0
SumOf languages l m n = IsSum l m n
SumOf translations f g h = IsSumX f g h

abbrev variable_of : (s : Sort) → EnvironmentOf Language → EnvironmentOf Translation → EnvironmentOf (Value s)
variable_of languages α β = α
variable_of translations α β = β

-- What follows a binding, by the sort that is bound.
abbrev AfterBinding : Constants → EnvironmentOf Language → EnvironmentOf Translation → (r s : Sort) → ℕ → Value r → Term s → Value s → Type 0
AfterBinding c α β languages s n a y v = Reduces c s (extended α n a) β y v
AfterBinding c α β translations s n a y v = Reduces c s α (extended β n a) y v

-- The operators, on equal operands.
difference_of : (s : Sort) (a b v w : Value s) (l m : Language) → a ≡ b → l ≡ m → DifferenceOf s a l v → DifferenceOf s b m w → v ≡ w
difference_of languages a b v w l m e d x y = difference_one a l v w x (rw (e, d) y)
difference_of translations a b v w l m e d x y = difference_one_x a l v w x (rw (e, d) y)

sum_of : (s : Sort) (a b v w l m : Value s) → a ≡ b → l ≡ m → SumOf s a l v → SumOf s b m w → v ≡ w
sum_of languages a b v w l m e d x y = sum_one a l v w x (rw (e, d) y)
sum_of translations a b v w l m e d x y = sum_one_x a l v w x (rw (e, d) y)

compositions : {f g h a b o : Translation} → f ≡ a → g ≡ b → IsComposition f g h → IsComposition a b o → h ≡ o
compositions {f} {g} {h} {a} {b} {o} e d x y = composition_one f g h o x (rw (e, d) y)

identities : {l a : Language} {h o : Translation} → l ≡ a → IsIdentity l h → IsIdentity a o → h ≡ o
identities {l} {a} {h} {o} e x y = identity_one l h o x (rw e y)

-- What a reduction of a term was made of, by the term's sign.
unfoldable pub Inverted : {s : Sort} → Constants → EnvironmentOf Language → EnvironmentOf Translation → Term s → Value s → Type 0
Inverted c α β (constant n) v = get_elem? c.languages n ≡ some v
Inverted c α β (source_of x) v = (f : Translation) × ReducesX c α β x f × (v ≡ f.source)
Inverted c α β (target_of x) v = (f : Translation) × ReducesX c α β x f × (v ≡ f.target)
Inverted c α β (make x y n) v = ReducesL c α β x v.source × ReducesL c α β y v.target × (get_elem? c.bodies n ≡ some v.body)
Inverted c α β (join x y) v = (f g : Translation) × ReducesX c α β x f × ReducesX c α β y g × IsComposition f g v
Inverted c α β (identity x) v = (l : Language) × ReducesL c α β x l × IsIdentity l v
Inverted c α β (variable {s} n) v = variable_of s α β n ≡ some v
Inverted c α β (without {s} x y) v = (a : Value s) × (l : Language) × Reduces c s α β x a × ReducesL c α β y l × DifferenceOf s a l v
Inverted c α β (sum {s} x y) v = (a b : Value s) × Reduces c s α β x a × Reduces c s α β y b × SumOf s a b v
Inverted c α β (bind {s} r n x y) v = (a : Value r) × Reduces c r α β x a × AfterBinding c α β r s n a y v

pub inverted_l : {c : Constants} {α : EnvironmentOf Language} {β : EnvironmentOf Translation} {t : Term languages} {l : Language} → ReducesL c α β t l → Inverted c α β t l
unfolding Inverted
inverted_l (con_l p w) = p
inverted_l (var_l p) = p
inverted_l (res_l {l = a} {m = b} x y p) = (a, b, x, y, p)
inverted_l (add_l {l = a} {m = b} x y q p) = (a, b, x, y, p)
inverted_l (src_l {f = f} x p) = (f, x, p)
inverted_l (tgt_l {f = f} x p) = (f, x, p)
inverted_l (let_l {l = a} x y) = (a, x, y)
inverted_l (letx_l {f = f} x y) = (f, x, y)

pub inverted_x : {c : Constants} {α : EnvironmentOf Language} {β : EnvironmentOf Translation} {t : Term translations} {f : Translation} → ReducesX c α β t f → Inverted c α β t f
unfolding Inverted
inverted_x (con_x x y p w) = (x, y, p)
inverted_x (var_x p) = p
inverted_x (res_x {f = a} {l = b} x y p) = (a, b, x, y, p)
inverted_x (add_x {f = a} {g = b} x y q p) = (a, b, x, y, p)
inverted_x (comp_x {f = a} {g = b} x y q p) = (a, b, x, y, p)
inverted_x (idx_x {l = a} x p) = (a, x, p)
inverted_x (let_x {l = a} x y) = (a, x, y)
inverted_x (letx_x {f = f} x y) = (f, x, y)

inverted : (c : Constants) (s : Sort) (α : EnvironmentOf Language) (β : EnvironmentOf Translation) (t : Term s) (v : Value s) → Reduces c s α β t v → Inverted c α β t v
inverted c languages α β t v d = inverted_l d
inverted c translations α β t v d = inverted_x d

-- A term is reduced to one value at most.
pub reduces_one : {s : Sort} (c : Constants) (α : EnvironmentOf Language) (β : EnvironmentOf Translation) (t : Term s) (v w : Value s) → Reduces c s α β t v → Reduces c s α β t w → v ≡ w
unfolding Inverted
reduces_one c α β (constant n) v w x y = some_inj (sym (inverted c languages α β (constant n) v x) ∙ inverted c languages α β (constant n) w y)
reduces_one c α β (source_of t) v w x y =
    let a = inverted c languages α β (source_of t) v x in
    let b = inverted c languages α β (source_of t) w y in
    a.2 ∙ (ap (λ (f : Translation). f.source) (reduces_one c α β t a.0 b.0 a.1 b.1) ∙ sym b.2)
reduces_one c α β (target_of t) v w x y =
    let a = inverted c languages α β (target_of t) v x in
    let b = inverted c languages α β (target_of t) w y in
    a.2 ∙ (ap (λ (f : Translation). f.target) (reduces_one c α β t a.0 b.0 a.1 b.1) ∙ sym b.2)
reduces_one c α β (make t u n) v w x y =
    let a = inverted c translations α β (make t u n) v x in
    let b = inverted c translations α β (make t u n) w y in
    same_parts v w (reduces_one c α β t v.source w.source a.0 b.0) (reduces_one c α β u v.target w.target a.1 b.1) (some_inj (sym a.2 ∙ b.2))
reduces_one c α β (join t u) v w x y =
    let a = inverted c translations α β (join t u) v x in
    let b = inverted c translations α β (join t u) w y in
    compositions (reduces_one c α β t a.0 b.0 a.2 b.2) (reduces_one c α β u a.1 b.1 a.3 b.3) a.4 b.4
reduces_one c α β (identity t) v w x y =
    let a = inverted c translations α β (identity t) v x in
    let b = inverted c translations α β (identity t) w y in
    identities (reduces_one c α β t a.0 b.0 a.1 b.1) a.2 b.2
reduces_one c α β (variable {s} n) v w x y = some_inj (sym (inverted c s α β (variable n) v x) ∙ inverted c s α β (variable n) w y)
reduces_one c α β (without {s} t u) v w x y =
    let a = inverted c s α β (without t u) v x in
    let b = inverted c s α β (without t u) w y in
    difference_of s a.0 b.0 v w a.1 b.1 (reduces_one c α β t a.0 b.0 a.2 b.2) (reduces_one c α β u a.1 b.1 a.3 b.3) a.4 b.4
reduces_one c α β (sum {s} t u) v w x y =
    let a = inverted c s α β (sum t u) v x in
    let b = inverted c s α β (sum t u) w y in
    sum_of s a.0 b.0 v w a.1 b.1 (reduces_one c α β t a.0 b.0 a.2 b.2) (reduces_one c α β u a.1 b.1 a.3 b.3) a.4 b.4
reduces_one c α β (bind {s} languages n t u) v w x y =
    let a = inverted c s α β (bind languages n t u) v x in
    let b = inverted c s α β (bind languages n t u) w y in
    reduces_one c (extended α n a.0) β u v w a.2
    (subst (λ (z : Language). Reduces c s (extended α n z) β u w) (sym (reduces_one c α β t a.0 b.0 a.1 b.1)) b.2)
reduces_one c α β (bind {s} translations n t u) v w x y =
    let a = inverted c s α β (bind translations n t u) v x in
    let b = inverted c s α β (bind translations n t u) w y in
    reduces_one c α (extended β n a.0) u v w a.2
    (subst (λ (z : Translation). Reduces c s α (extended β n z) u w) (sym (reduces_one c α β t a.0 b.0 a.1 b.1)) b.2)
