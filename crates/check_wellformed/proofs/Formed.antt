-- The tests of `well_formed`: a law for each return of the check.
use Rattle.std.specs.Prelude.{Err, Ok}
use mathlib.Core.Path.{◌≡◌}
use mathlib.Core.Bool.{Bool, true, false}
use Rattle.outcome.specs.Outcome.{checked, Outcome}
use Rattle.outcome.specs.declared.Reason.TheVariants as Why
use Rattle.format_translation.specs.Translation.{Translation}
use Rattle.format_translation.specs.WellFormed.{mapping_fits, clauses_fit, codes_fit, well_formed}

module _ (f : Translation) {o : Outcome} (x : Bool) (ex : x ≡ mapping_fits f) where
  pub formed_mapping : x ≡ false → o ≡ Err Why.WrongMapping → o ≡ checked (well_formed f)
  unfolding well_formed
  formed_mapping h i = cc

  module _ (xt : x ≡ true) (y : Bool) (ey : y ≡ clauses_fit f) where
    pub formed_clauses : y ≡ false → o ≡ Err Why.WrongClauses → o ≡ checked (well_formed f)
    unfolding well_formed
    formed_clauses h i = cc

    module _ (yt : y ≡ true) (z : Bool) (ez : z ≡ codes_fit f) where
      pub formed_codes : z ≡ false → o ≡ Err Why.IllegalCode → o ≡ checked (well_formed f)
      unfolding well_formed
      formed_codes h i = cc

      pub formed_all : z ≡ true → o ≡ Ok 0 → o ≡ checked (well_formed f)
      unfolding well_formed
      formed_all h i = cc
