-- What reduce puts out is accepted by the check of a translation, and name bytes by formula.
use mathlib.Core.Path.{refl}
use Rattle.format_pack.specs.Terms.{languages, translations, constant, source_of, target_of, make, join, identity, variable, without, sum, bind, write_term}
use Rattle.laws.proofs.Values.{reduced_checked}
use Rattle.laws_bytes.specs.Values.{ReducedChecks, NumbersByFormula}

pub reduced_checks : ReducedChecks
reduced_checks = reduced_checked

pub numbers_by_formula : NumbersByFormula
unfolding write_term
numbers_by_formula s (constant c) = refl
numbers_by_formula s (source_of x) = refl
numbers_by_formula s (target_of x) = refl
numbers_by_formula s (make l m b) = refl
numbers_by_formula s (join x y) = refl
numbers_by_formula s (identity l) = refl
numbers_by_formula languages (variable v) = refl
numbers_by_formula translations (variable v) = refl
numbers_by_formula languages (without x l) = refl
numbers_by_formula translations (without x l) = refl
numbers_by_formula languages (sum x y) = refl
numbers_by_formula translations (sum x y) = refl
numbers_by_formula languages (bind languages v x y) = refl
numbers_by_formula languages (bind translations v x y) = refl
numbers_by_formula translations (bind languages v x y) = refl
numbers_by_formula translations (bind translations v x y) = refl
