-- The legal trees of a kind within a number of levels (paper 01, "Languages", legal trees; paper 02, 2026-07, levels).
use Rattle.std.specs.Prelude.{ℕ, zero, suc, ◌+◌, ◌-◌, List, [], ◌∷◌, map}
use Rattle.std.proofs.Math.Option.{Option, none, some}
use Rattle.format_fields.specs.Lists.{keep, concat_map, count_up}
use Rattle.format_language.specs.Language.{Language, Range, range_of, arguments_of, in_range}
use Rattle.tree_reader.specs.Code.{Code, node, token, Codes, nil, cons}

-- The tokens of a class.
unfoldable pub tokens : Range → List Code
tokens c = map token (keep (in_range c) (count_up (c.high + 1 - c.low) c.low))

-- Operands of the given kinds, in all ways.
unfoldable pub rows : (ℕ → List Code) → List ℕ → List Codes
rows trees [] = nil ∷ []
rows trees (k ∷ ks) = concat_map (λ a. map (cons a) (rows trees ks)) (trees k)

-- The trees of production p of kind k, if there is one.
unfoldable pub trees_named : (ℕ → List Code) → ℕ → ℕ → Option (List ℕ) → List Code
trees_named trees k p none = []
trees_named trees k p (some ks) = map (node k p) (rows trees ks)

-- The trees of kind k that are no tokens; a name is a byte.
unfoldable pub trees_over : (ℕ → List Code) → Language → ℕ → List Code
trees_over trees l k = concat_map (λ p. trees_named trees k p (arguments_of l k p)) (count_up 256 0)

-- A class has its tokens, any other kind the given trees.
unfoldable pub or_tokens : Option Range → List Code → List Code
or_tokens none trees = trees
or_tokens (some c) trees = tokens c

-- All legal trees of kind k within n levels: a token is no level, a production is one.
unfoldable pub trees_within : Language → ℕ → ℕ → List Code
trees_within l zero k = or_tokens (range_of l k) []
trees_within l (suc n) k = or_tokens (range_of l k) (trees_over (trees_within l n) l k)
