-- The edit of a plan (paper 02, 2026-08; the card by 2026-12).
use Rattle.std.specs.Prelude.{ℕ, ◌-◌, ◌||◌, List, [], length, ltb, Err, Ok}
use Rattle.outcome.specs.Outcome.{Result, value, refused, refuse_if, ◌>>=◌, output_after, Outcome}
use Rattle.outcome.specs.declared.Reason.TheVariants.{OutputTooShort, NotIndexed}
use Rattle.format_language.specs.Language.{Language}
use Rattle.format_language.specs.LanguageFile.{language_of}
use Rattle.tree_reader.specs.Code.{Code}
use Rattle.tree_reader.specs.Syntax.{read, write, tree}
use Rattle.tree_reader.specs.Operations.{tree_levels, whole_tree}
use Rattle.tree_index.specs.Spans.{index_of}
use Rattle.tree_index.specs.Operations.{is_long, indexed_tree}
use Rattle.format_card.specs.Card.{sees, card_of, together}
use Rattle.tree_block.specs.Blocks.{Block, block_of, block_at}
use Rattle.tree_block.specs.Operations.{found}
use Rattle.tree_edit.specs.Plans.{replace_at}

-- The new block, of the kind of the one that stood there. Its levels are counted from its place in the plan, so that the
-- numbers of the path are levels that are used up: 15 and 16, also 15 for leftover bytes.
abbrev pub new_block : Language → (path : List ℕ) → Block → (block : List ℕ) → Result Code
new_block l path b block = whole_tree (read tree l [] (tree_levels - length path) b.kind block)

-- The new plan: 22 where it is too long.
abbrev pub new_plan : (path : List ℕ) → (block plan : Code) → Result Code
new_plan path u t = refuse_if (is_long (write tree (replace_at path u t))) NotIndexed (value (replace_at path u t))

-- Edit: the lowest of 1 to 4 for the language and the card, 14 to 16 for the old plan, 22 for its index, 25 and 21 along the
-- path, 15 and 16 for the new block, 22 for the new plan.
unfoldable pub edit_plan : (language : List ℕ) (root : ℕ) (bytes index path card block : List ℕ) → Result Code
edit_plan language root bytes index path card block =
    together (language_of language) (card_of card) λ l c.
    indexed_tree l root bytes index >>= λ t.
    found (block_at (sees c) l path (block_of 0 root t)) >>= λ b.
    new_block l path b block >>= λ u.
    new_plan path u t

-- 17 where one of the two outputs is too short.
abbrev pub in_rooms : (plan index : ℕ) → Code → Result Code
in_rooms plan index t =
    refuse_if (ltb plan (length (write tree t)) || ltb index (length (index_of t))) OutputTooShort (value t)

-- All that the edit answers and leaves: number and length of the plan, length of the index, and both outputs.
pub record Editing : Type 0 where
  pub outcome : Outcome
  pub index_length : ℕ
  pub plan : List ℕ
  pub index : List ℕ

-- The new plan stands first in one output, its own index in the other. A refusal leaves both as they were.
abbrev pub handed_back : (plan index : List ℕ) → Result Code → Editing
handed_back plan index (value t) = record {
  outcome = Ok (length (write tree t));
  index_length = length (index_of t);
  plan = output_after plan (value (write tree t));
  index = output_after index (value (index_of t));
}
handed_back plan index (refused r) = record { outcome = Err r; index_length = 0; plan = plan; index = index }

-- The edit, with the outputs as they are lent.
unfoldable pub edit_tree : (language : List ℕ) (root : ℕ) (bytes index path card block plan plan_index : List ℕ) → Editing
edit_tree language root bytes index path card block plan plan_index =
    handed_back plan plan_index (edit_plan language root bytes index path card block >>= λ t. in_rooms (length plan) (length plan_index) t)
