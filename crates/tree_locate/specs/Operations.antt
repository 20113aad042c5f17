-- The operation that tells where the check of a tree stopped (paper 01, "Check a tree").
use Rattle.std.specs.Prelude.{ℕ, ◌-◌, not, List, [], ◌∷◌, length}
use Rattle.outcome.specs.Outcome.{Result, value, refused, refuse_if, ◌>>=◌, Outcome}
use Rattle.outcome.specs.declared.Reason.TheVariants.{UnknownRoot}
use Rattle.format_language.specs.Language.{Language, is_in}
use Rattle.format_language.specs.LanguageFile.{language_of}
use Rattle.tree_reader.specs.Operations.{tree_levels, check_tree}
use Rattle.tree_locate.specs.Faults.{Stop, passes, ends, unfit, deep, stop}

-- The position in the input at which so much of it is left.
abbrev pub position_of : (input rest : List ℕ) → ℕ
position_of input rest = length input - length rest

-- The position of a stop: that of the first leftover byte, of the end, of the node that cannot be, of the level too many; 0 where
-- the whole input is a tree.
abbrev pub stop_position : (input : List ℕ) → Stop → ℕ
stop_position input (passes []) = 0
stop_position input (passes (b ∷ s)) = position_of input (b ∷ s)
stop_position input ends = length input
stop_position input (unfit s) = position_of input s
stop_position input (deep s) = position_of input s

-- Where the reading of a tree of kind root stops, where that kind is in the language.
unfoldable pub stop_of : Language → (root : ℕ) → (input : List ℕ) → Result ℕ
stop_of l root input = refuse_if (not (is_in l root)) UnknownRoot (value (stop_position input (stop l tree_levels root input)))

-- The position that is told: 0 where the tree is not looked at.
abbrev pub told_position : Result ℕ → ℕ
told_position (value p) = p
told_position (refused r) = 0

-- All that the operation answers.
pub record Located : Type 0 where
  pub outcome : Outcome
  pub position : ℕ

-- Check a tree, and tell where reading stopped: 1 to 4 for the language and 14 for the root with position 0, then 15 and 16 with the
-- position, or accepted with 0.
unfoldable pub locate_tree : (language : List ℕ) (root : ℕ) (bytes : List ℕ) → Located
locate_tree language root bytes = record {
  outcome = check_tree language root bytes;
  position = told_position (language_of language >>= λ l. stop_of l root bytes);
}
