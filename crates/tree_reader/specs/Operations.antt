-- The operation on trees (paper 01, "Operations and their refusals").
use Rattle.std.specs.Prelude.{ℕ, not, List, [], ◌∷◌}
use Rattle.outcome.specs.Outcome.{Result, value, refused, refuse_if, ◌>>=◌, checked, Outcome}
use Rattle.outcome.specs.declared.Reason.TheVariants.{UnknownRoot, IllegalTree, TooDeep}
use Rattle.format_language.specs.Language.{Language, is_in}
use Rattle.format_language.specs.LanguageFile.{language_of}
use Rattle.tree_reader.specs.Code.{Code}
use Rattle.tree_reader.specs.Syntax.{Read, done, deep, broken, read, tree}

-- Trees handed in have at most 64 levels.
abbrev pub tree_levels : ℕ
tree_levels = 64

-- What was read, with nothing after it: 16 and 15 in reading order, last 15 for leftover bytes.
abbrev pub whole_tree : Read Code → Result Code
whole_tree (done t []) = value t
whole_tree (done t (b ∷ s)) = refused IllegalTree
whole_tree deep = refused TooDeep
whole_tree broken = refused IllegalTree

-- The legal tree of kind root that the bytes are: 14, 15 or 16 where they are none.
unfoldable pub tree_of : Language → ℕ → List ℕ → Result Code
tree_of l root bytes = refuse_if (not (is_in l root)) UnknownRoot (whole_tree (read tree l [] tree_levels root bytes))

-- Check a tree: 1 to 4 for the language, then 14 to 16.
unfoldable pub check_tree : List ℕ → ℕ → List ℕ → Outcome
check_tree language root bytes = checked (language_of language >>= λ l. tree_of l root bytes)
