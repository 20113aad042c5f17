-- The numbers of a body's mappings (paper 02, 2026-13), as the code tests them.
use Rattle.std.specs.Prelude.{ℕ, ◌+◌, ◌*◌, ◌<◌, ◌≡◌, Bool, true, not, ◌||◌, List, ltb}
use Rattle.format_fields.specs.Lists.{is_some}
use Rattle.format_translation.specs.Translation.{Item, mapping, clause, Body, mapping_of}

-- A mapping is by a number below the limit.
unfoldable pub mapping_below : ℕ → Item → Bool
mapping_below limit (mapping s j t) = ltb j limit
mapping_below limit (clause r p j code) = true

-- The kind of a mapping has its number in the body, where the body maps the kind at all.
unfoldable pub number_in : Body → Item → Bool
number_in b (mapping s j t) = not (is_some (mapping_of b s 0)) || is_some (mapping_of b s j)
number_in b (clause r p j code) = true

-- A call with the key of a mapping, which is 256 k + j for number j of kind k, ends, by `post`, with whether the mapping passes. A
-- clause does.
pub record Tests (post : ℕ → Bool → Type 0) (passes : Item → Bool) : Type 0 where
  pub mappings : (s j t : ℕ) (r : Bool) → s < 32 → j < 256 → post (s * 256 + j) r → r ≡ passes (mapping s j t)
  pub clauses : (r p j : ℕ) (code : List ℕ) → passes (clause r p j code) ≡ true
