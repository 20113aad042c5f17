-- Which source tree gives a target tree: the first in byte order within the levels whose run it is (paper 02, 2026-09).
use Rattle.std.specs.Prelude.{ℕ, Bool, true, false, cond, ◌&&◌, ◌||◌, List, [], ◌∷◌, map, ltb, eqb}
use Rattle.std.proofs.Math.Option.{Option, none, some}
use Rattle.format_fields.specs.Lists.{keep, same_numbers}
use Rattle.tree_reader.specs.Code.{Code}
use Rattle.tree_reader.specs.Syntax.{write, tree}
use Rattle.format_translation.specs.Translation.{Translation}
use Rattle.format_translation.specs.Running.{transform}
use Rattle.search_sources.specs.Trees.{trees_within}

-- Byte order: the first has the lower byte where they first differ, or ends there.
unfoldable pub before : List ℕ → List ℕ → Bool
before [] [] = false
before [] (b ∷ t) = true
before (a ∷ s) [] = false
before (a ∷ s) (b ∷ t) = ltb a b || (eqb a b && before s t)

-- The earlier of bytes and of others, where there are others.
unfoldable pub earlier : List ℕ → Option (List ℕ) → Option (List ℕ)
earlier s none = some s
earlier s (some t) = cond (before t s) (some t) (some s)

-- The first in byte order.
unfoldable pub first_of : List (List ℕ) → Option (List ℕ)
first_of [] = none
first_of (s ∷ l) = earlier s (first_of l)

-- The run of a source tree by number 0, in bytes, is the target tree.
unfoldable pub runs_to : Translation → List ℕ → Code → Bool
runs_to f target t = same_numbers (write tree (transform f 0 t)) target

-- The source trees of kind k within n levels whose run is the target tree, in bytes.
unfoldable pub sources_of : Translation → (n k : ℕ) → List ℕ → List (List ℕ)
sources_of f n k target = map (write tree) (keep (runs_to f target) (trees_within f.source n k))

-- The first of them, if there is one.
unfoldable pub search_of : Translation → (n k : ℕ) → List ℕ → Option (List ℕ)
search_of f n k target = first_of (sources_of f n k target)
