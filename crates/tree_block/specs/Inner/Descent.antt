-- What the steps along a path ask for and give.
use Rattle.std.specs.Prelude.{ℕ, ◌+◌, ◌<◌, ◌≤◌, ◌≡◌, Bool, List, ◌++◌, length, drop, Option, Some, None, Ok, Err}
use Rattle.std.specs.Prelude.{Result as Answered}
use Rattle.std.proofs.Math.Option as Math
use Rattle.std.proofs.Math.Option.{none, some}
use Rattle.outcome.specs.Outcome.{refused}
use Rattle.outcome.specs.declared.Reason.{Reason}
use Rattle.format_language.specs.Language.{Language}
use Rattle.tree_reader.specs.Code.{Code, Codes}
use Rattle.tree_reader.specs.Syntax.{write_all, tree}
use Rattle.format_card.specs.Inner.Sets.{in_set}
use Rattle.tree_index.specs.Spans.{Span, spans_all, entries}
use Rattle.tree_index.specs.Operations.{longest}
use Rattle.tree_index.specs.Inner.Lying.{There, Row}
use Rattle.tree_index.specs.Inner.Starts.{Behind, Entered}
use Rattle.tree_block.specs.Blocks.{Block, block_of, Reached, reached}
use Rattle.tree_block.specs.Operations.{found}
use Rattle.tree_block.specs.declared.descent.BlockAt.{BlockAt}

-- The set holds the kinds that may be seen.
abbrev pub SetOf : ℕ → (ℕ → Bool) → Type 0
SetOf set sees = (k : ℕ) → k < 32 → in_set set k ≡ sees k

-- The descent stands at the tree t of kind k: it lies in the bytes from `at` on, and its entries in the index from p on.
pub record Along (places s bytes index : List ℕ) (at k p : ℕ) (l : Language) (t : Code) : Type 0 where
  pub there : There places s bytes at k l t
  pub entered : Entered index p at t
  pub short : length bytes ≤ longest

-- The same of trees in a row, whose kinds stand in s from q up to e.
pub record AlongRow (places s bytes index : List ℕ) (at p q e : ℕ) (l : Language) (ts : Codes) : Type 0 where
  pub row : Row places s bytes at q e l ts
  pub short : length bytes ≤ longest
  pub rest : List Span
  pub is : drop p index ≡ entries (spans_all at ts ++ rest)
  pub behind : Behind (at + length (write_all tree ts)) rest

-- The answer of a step: the block that it leads to, or none.
abbrev pub Leads : (places s bytes index : List ℕ) → Language → Math.Option Block → Option BlockAt → Type 0
Leads places s bytes index l o (Some r) = (t : Code) × (o ≡ some (block_of r.start r.kind t)) × Along places s bytes index r.start r.kind r.entry l t
Leads places s bytes index l o None = o ≡ none

-- The answer of a path: the block that it leads to, or the reason why there is none to be shown.
abbrev pub Ends : (places s bytes index : List ℕ) → Language → Reached → Answered BlockAt Reason → Type 0
Ends places s bytes index l d (Ok r) = (t : Code) × (d ≡ reached (block_of r.start r.kind t)) × Along places s bytes index r.start r.kind r.entry l t
Ends places s bytes index l d (Err e) = found d ≡ refused e
