-- The old index in parts, and what the functions that move it ask for and give.
use Rattle.std.specs.Prelude.{ℕ, ◌+◌, ◌-◌, ◌<◌, ◌≤◌, ◌≡◌, true, cond, List, [], ◌∷◌, ◌++◌, map, length, drop, leb, ltb, Ok, Err}
use Rattle.std.specs.Prelude.{Result as Answered}
use Rattle.outcome.specs.Outcome.{Result, ◌>>=◌}
use Rattle.outcome.specs.declared.Reason.{Reason}
use Rattle.format_language.specs.Language.{Language, is_in}
use Rattle.tree_reader.specs.Code.{Code}
use Rattle.tree_reader.specs.Syntax.{write, tree}
use Rattle.tree_index.specs.Spans.{Span, span, size, spans, entries, index_of}
use Rattle.tree_index.specs.Operations.{longest}
use Rattle.tree_index.specs.Inner.Lying.{Index, There}
use Rattle.tree_index.specs.Inner.Starts.{Below, Behind}
use Rattle.tree_block.specs.Blocks.{Block, block_of, Reached, reached, block_at, every_kind}
use Rattle.tree_block.specs.Operations.{found}
use Rattle.tree_block.specs.Inner.Descent.{Along}
use Rattle.tree_edit.specs.Operations.{new_block, new_plan, in_rooms, handed_back}
use Rattle.tree_edit.specs.Answers.{Hands}
use Rattle.tree_edit.specs.declared.edit.Edited.{Edited}
use Rattle.tree_edit.specs.declared.edit.Lengths.{Lengths}

-- Where a node outside of the block stands after the block, which starts at `start`, got another length: behind the block its
-- start is shifted, around the block its length is changed, before the block it stays.
unfoldable pub moved : (start old new : ℕ) → Span → Span
moved start old new (span s n) =
    cond (leb (start + old) s) (span (s + new - old) n) (cond (ltb start (s + n)) (span s (n + new - old)) (span s n))

-- The spans end within `top` bytes, and each lies before the block, behind it, or around it.
abbrev pub Movable : (start old top : ℕ) → List Span → Type 0
Movable start old top [] = Unit {0}
Movable start old top (span s n ∷ l) = (s + n ≤ top) × (start < s + n → s < start + old → old ≤ n) × Movable start old top l

-- The entries of the spans stand in the index from one place up to another.
pub record Part (index : List ℕ) (from stop : ℕ) (l : List Span) : Type 0 where
  pub rest : List ℕ
  pub is : drop from index ≡ entries l ++ rest
  pub end : stop ≡ from + length (entries l)

-- What is asked of the numbers where spans are moved: those of a plan of `top` bytes stay numbers of two bytes.
pub record Fits (old new top : ℕ) : Type 0 where
  pub before : top ≤ longest
  pub after : top + new ≤ longest + old

-- The index has the entries of the nodes in front of the block a, of the block, and of those behind it.
pub record Parted (index : List ℕ) (start old top : ℕ) (a : Code) (front back : List Span) : Type 0 where
  pub is : index ≡ entries (front ++ (spans start a ++ back))
  pub below : Below start front
  pub behind : Behind (start + size a) back
  pub in_front : Movable start old top front
  pub at_back : Movable start old top back

-- The block a is to be replaced by the legal tree u, whose bytes are the block's.
pub record Rewrites (places s block index : List ℕ) (of start old top p q : ℕ) (l : Language) (a u : Code) (front back : List Span) : Type 0 where
  pub parted : Parted index start old top a front back
  pub fits : Fits old (length block) top
  pub inside : start + old ≤ top
  pub size_is : old ≡ size a
  pub first : p ≡ length (entries front)
  pub last : q ≡ p + length (entries (spans start a))
  pub there : There places s block 0 of l u
  pub whole : length block ≡ size u
  pub short : start + length block ≤ longest
  pub few : length index ≤ 400000

-- The spans of the new plan.
abbrev pub moved_spans : (start old : ℕ) (u : Code) (front back : List Span) → List Span
moved_spans start old u front back = map (moved start old (size u)) front ++ (spans start u ++ map (moved start old (size u)) back)

-- In the plan t, whose bytes and index are there, the path leads to the block a, and u is the new block.
pub record Replaces (places s b index path block : List ℕ) (kind of start old : ℕ) (l : Language) (t a u : Code) : Type 0 where
  pub plan : b ≡ write tree t
  pub own : index ≡ index_of t
  pub short : length b ≤ longest
  pub leads : block_at every_kind l path (block_of 0 kind t) ≡ reached (block_of start of a)
  pub size_is : old ≡ size a
  pub there : There places s block 0 of l u
  pub new : block ≡ write tree u

-- In the plan t, whose bytes and index are there, the path of so many numbers leads to the block a.
pub record Reaches (places s b index path : List ℕ) (kind of start old numbers : ℕ) (l : Language) (t a : Code) : Type 0 where
  pub plan : b ≡ write tree t
  pub own : index ≡ index_of t
  pub short : length b ≤ longest
  pub leads : block_at every_kind l path (block_of 0 kind t) ≡ reached (block_of start of a)
  pub size_is : old ≡ size a
  pub numbers_are : numbers ≡ length path
  pub index_of : Index places s l
  pub known : is_in l of ≡ true

-- The plan t of a kind is there, with its index.
pub record Owns (places s b index : List ℕ) (kind : ℕ) (l : Language) (t : Code) : Type 0 where
  pub plan : b ≡ write tree t
  pub own : index ≡ index_of t
  pub along : Along places s b index 0 kind 0 l t

-- What is left to be decided once the new block is read, once the old one is found, and once the old plan is: the last links of
-- the chain of `edit_tree`, for so much room for plan and index.
abbrev pub plan_in : (plan index : ℕ) (path : List ℕ) (u t : Code) → Result Code
plan_in plan index path u t = new_plan path u t >>= λ v. in_rooms plan index v

abbrev pub block_in : (plan index : ℕ) → Language → (path : List ℕ) → Block → (block : List ℕ) → Code → Result Code
block_in plan index l path b block t = (new_block l path b block >>= λ u. new_plan path u t) >>= λ v. in_rooms plan index v

abbrev pub path_in : (plan index : ℕ) → Language → (path : List ℕ) → Reached → (block : List ℕ) → Code → Result Code
path_in plan index l path d block t =
    (found d >>= λ b. new_block l path b block >>= λ u. new_plan path u t) >>= λ v. in_rooms plan index v

-- What is answered of a new plan that is put, by the lengths of plan and index, and of a refusal.
abbrev pub edited : Answered Lengths Reason → Edited
edited (Ok n) = record { outcome = Ok n.plan; indexed = n.index }
edited (Err e) = record { outcome = Err e; indexed = 0 }

-- The lengths or the refusal, and the outputs that are left, are those of a result.
abbrev pub Gives : Result Code → (plan plan' index index' : List ℕ) → Answered Lengths Reason → Type 0
Gives result plan plan' index index' r = Hands (handed_back plan index result) plan' index' (edited r)
