-- The law of sums (paper 01, "Rules", and point 3): any two sums over one set are accepted alike, with equal bytes.
use Rattle.std.specs.Prelude.{◌≡◌, ◌⊎◌, List, [], ◌∷◌, ◌++◌}
use Rattle.format_pack.specs.Terms.{Term, translations, sum}
use Rattle.laws.specs.Packed.{AcceptedAlike, Compared}

-- A sum: a term alone, or two sums under the sign 53.
pub data Sum : Type 0 where
  alone : Term translations → Sum
  plus : Sum → Sum → Sum

-- The term that a sum is.
unfoldable pub as_term : Sum → Term translations
as_term (alone t) = t
as_term (plus a b) = sum (as_term a) (as_term b)

-- The terms that a sum is built from.
unfoldable pub built_from : Sum → List (Term translations)
built_from (alone t) = t ∷ []
built_from (plus a b) = built_from a ++ built_from b

-- A term stands in a list.
abbrev pub In : Term translations → List (Term translations) → Type 0
In t [] = ⊥
In t (u ∷ l) = (t ≡ u) ⊎ In t l

-- A sum over the set of the list's terms: built from them alone, each used once or more.
pub record SumOver (set : List (Term translations)) (s : Sum) : Type 0 where
  pub only : (t : Term translations) → In t (built_from s) → In t set
  pub each : (t : Term translations) → In t set → In t (built_from s)

-- The law.
abbrev pub LawOfSums : Type 0
LawOfSums = (set : List (Term translations)) (a b : Sum) → SumOver set a → SumOver set b → Compared AcceptedAlike (as_term a) (as_term b)
