-- Working out terms (paper 01, "Reduce" and "Rules"; document 000: appendix A): operands left to right before their
-- sign, and the first refusal ends it. Last at each sign comes 11, where its value exceeds a limit.
use Rattle.std.specs.Prelude.{ℕ, Bool, cond, List, eqb}
use Rattle.std.proofs.Math.Option.{Option, none, some}
use Rattle.std.proofs.Math.ListN.{get_elem?}
use Rattle.outcome.specs.Outcome.{Result, value, refused, refuse_if, ◌>>=◌}
use Rattle.outcome.specs.declared.Reason.{Reason}
use Rattle.outcome.specs.declared.Reason.TheVariants.{UnboundVariable, ValueTooLarge, IllegalTerm as TermRefused}
use Rattle.format_language.specs.Language.{Language}
use Rattle.format_translation.specs.Translation.{Body, Translation}
use Rattle.format_translation.specs.WellFormed.{well_formed}
use Rattle.reduce_operators.specs.Limits.{language_exceeds, translation_exceeds}
use Rattle.reduce_operators.specs.Operators.{language_sum, language_without, translation_sum, translation_without, translation_join, identity_of}
use Rattle.format_pack.specs.Terms.{Sort, languages, translations, Term, constant, source_of, target_of, make, join, identity, variable, without, sum, bind}
use Rattle.format_pack.specs.Pack.{Pack}

-- The languages and bodies of a pack, which a term names by number.
pub record Constants : Type 0 where
  pub languages : List Language
  pub bodies : List Body

-- The constants of a pack.
abbrev pub constants_of : Pack → Constants
constants_of p = record { languages = p.languages; bodies = p.bodies }

-- What a term of a sort comes to.
abbrev pub Value : Sort → Type 0
Value languages = Language
Value translations = Translation

-- The values of the variables that are bound, languages and translations numbered separately.
abbrev pub Environment : Type 0
Environment = (s : Sort) → ℕ → Option (Value s)

-- At the start nothing is bound.
abbrev pub nothing_bound : Environment
nothing_bound s v = none

-- A binding hides an outer one of the same sort and number.
unfoldable pub bound : Environment → (r : Sort) → ℕ → Value r → Environment
bound e languages v x languages w = cond (eqb v w) (some x) (e languages w)
bound e languages v x translations w = e translations w
bound e translations v x languages w = e languages w
bound e translations v x translations w = cond (eqb v w) (some x) (e translations w)

-- A value that is there, or the refusal. (A constant that is absent was refused when the term was read.)
abbrev pub there : {A : Type 0} → Reason → Option A → Result A
there r none = refused r
there r (some a) = value a

-- The limits of each sort.
abbrev pub exceeds : (s : Sort) → Value s → Bool
exceeds languages l = language_exceeds l
exceeds translations f = translation_exceeds f

-- A value, or 11 where it exceeds a limit.
abbrev pub limited : (s : Sort) → Value s → Result (Value s)
limited s v = refuse_if (exceeds s v) ValueTooLarge (value v)

-- The sum of each sort.
abbrev pub sum_of : (s : Sort) → Value s → Value s → Result (Value s)
sum_of languages l m = language_sum l m
sum_of translations f g = translation_sum f g

-- "Without" of each sort.
abbrev pub without_of : (s : Sort) → Value s → Language → Value s
without_of languages l m = language_without l m
without_of translations f m = translation_without f m

-- The value of a term, where the variables have these values.
unfoldable pub evaluate : {s : Sort} → Constants → Environment → Term s → Result (Value s)
evaluate c e (constant n) = there TermRefused (get_elem? c.languages n) >>= limited languages
evaluate c e (source_of x) = evaluate c e x >>= λ f. limited languages f.source
evaluate c e (target_of x) = evaluate c e x >>= λ f. limited languages f.target
evaluate c e (make x y n) =
    evaluate c e x >>= λ l.
    evaluate c e y >>= λ m.
    there TermRefused (get_elem? c.bodies n) >>= λ b.
    well_formed (record { source = l; target = m; body = b }) >>= limited translations
evaluate c e (join x y) =
    evaluate c e x >>= λ f. evaluate c e y >>= λ g. translation_join f g >>= limited translations
evaluate c e (identity x) = evaluate c e x >>= λ l. limited translations (identity_of l)
evaluate c e (variable {s} v) = there UnboundVariable (e s v) >>= limited s
evaluate c e (without {s} x y) =
    evaluate c e x >>= λ v. evaluate c e y >>= λ l. limited s (without_of s v l)
evaluate c e (sum {s} x y) =
    evaluate c e x >>= λ v. evaluate c e y >>= λ w. sum_of s v w >>= limited s
evaluate c e (bind {s} r n x y) =
    evaluate c e x >>= λ v. evaluate c (bound e r n v) y >>= limited s
