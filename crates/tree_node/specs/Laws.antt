-- How many arguments are told is how far a path can be extended (paper 02, 2026-06: 21 where a path number is 0 or there is no such
-- argument).
use Rattle.std.specs.Prelude.{ℕ, ◌≤◌, ◌<◌, ◌≡◌, ◌⊎◌, List, [], ◌∷◌, ◌++◌, Err, Ok}
use Rattle.outcome.specs.declared.Reason.TheVariants.{NoBlock}
use Rattle.format_fields.specs.Fields.{byte_at}
use Rattle.tree_node.specs.Operations.{show_node}

-- A path that is accepted, extended by a number: accepted exactly if the number is 1 to the number of arguments, otherwise 21.
abbrev pub NumbersAreArguments : Type 0
NumbersAreArguments =
    (language : List ℕ) (root : ℕ) (bytes index path : List ℕ) (i : ℕ) → ((j : ℕ) → byte_at bytes j < 256)
    → (show_node language root bytes index path).outcome ≡ Ok 0
    → (1 ≤ i → i ≤ (show_node language root bytes index path).arguments
    → (show_node language root bytes index (path ++ i ∷ [])).outcome ≡ Ok 0)
    × ((i ≡ 0) ⊎ ((show_node language root bytes index path).arguments < i)
    → (show_node language root bytes index (path ++ i ∷ [])).outcome ≡ Err NoBlock)
