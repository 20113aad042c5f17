-- The parts of the search: what they ask for, and the last links of the chain of `ready`.
use Rattle.std.specs.Prelude.{ℕ, ◌+◌, ◌<◌, ◌≡◌, true, not, List, length, get_or}
use Rattle.outcome.specs.Outcome.{Result, value, refuse_if, ◌>>=◌, written, output_after, Outcome}
use Rattle.outcome.specs.declared.Reason.TheVariants.{UnknownRoot, LimitOutOfRange}
use Rattle.format_language.specs.Language.{is_in}
use Rattle.tree_reader.specs.Code.{Code}
use Rattle.tree_reader.specs.Syntax.{write, tree}
use Rattle.tree_reader.specs.Operations.{tree_of}
use Rattle.format_translation.specs.Translation.{Translation, Body, mapped}
use Rattle.tree_reader.specs.Inner.Index.{Built}
use Rattle.run_table.specs.Inner.Table.{Checked, Ready}
use Rattle.search_levels.specs.declared.searched.Searched.{Searched}
use Rattle.search_levels.specs.Inner.Setting.{Unnamed}
use Rattle.format_translation.specs.Plain.{plain}
use Rattle.format_translation.specs.Inner.ItemIndex.{Mapped as UsesOf}
use Rattle.tree_index.specs.Inner.Lying.{Index, Lies}
use Rattle.search_sources.specs.Operations.{is_limit, found_in, workspace_after}

-- The parts are those of a translation that was accepted and has number 0 only.
pub record Searchable (source target body : List ℕ) (f : Translation) : Type 0 where
  pub checked : Checked source target body f
  pub by_zero : plain f.body ≡ true

-- The bytes are the whole tree u, and the parts are those of a translation that was accepted.
pub record Rooted (source target bytes : List ℕ) (f : Translation) (u : Code) : Type 0 where
  pub body : List ℕ
  pub checked : Checked source target body f
  pub whole : bytes ≡ write tree u

-- What is answered, and the output that is left, are those of a result.
pub record Answers (result : Result (List ℕ)) (before after : List ℕ) (outcome : Outcome) : Type 0 where
  pub answer : outcome ≡ written result
  pub left : after ≡ output_after before result

-- The kinds that are mapped to by number 0, by a table.
pub record Mapped (kinds : List ℕ) (b : Body) : Type 0 where
  pub maps : (k : ℕ) → k < 32 → get_or kinds k 0 ≡ mapped b k 0

-- The target tree of the kind that k maps to is the whole tree, and the index is that of the target.
pub record Placed (target places bytes : List ℕ) (k : ℕ) (f : Translation) (u : Code) : Type 0 where
  pub target_index : Index places target f.target
  pub narrow : (i : ℕ) → get_or bytes i 0 < 256
  pub lies : Lies f.target bytes 0 (mapped f.body k 0) u
  pub whole : bytes ≡ write tree u

-- A translation that is searchable, its table, and what kinds map to by number.
pub record Tabled (table uses source target : List ℕ) (f : Translation) : Type 0 where
  pub body : List ℕ
  pub searchable : Searchable source target body f
  pub ready : Ready table f
  pub built : Built 0x11 source table 0
  pub uses_of : UsesOf uses f.body

-- All that a search looks things up in is filled.
pub record Opened (table source target places kinds bytes : List ℕ) (k : ℕ) (f : Translation) (u : Code) : Type 0 where
  pub body : List ℕ
  pub searchable : Searchable source target body f
  pub ready : Ready table f
  pub built : Built 0x11 source table 0
  pub narrow : (i : ℕ) → get_or source i 0 < 256
  pub placed : Placed target places bytes k f u
  pub maps : Mapped kinds f.body
  pub lowest : (j : ℕ) → j < 32 → Unnamed table j 0 (get_or kinds (32 + j) 0)

-- The same, of what is searched as one record.
abbrev pub OpenedIn : Searched → (k : ℕ) → Translation → Code → Type 0
OpenedIn s k f u = Opened s.table.now s.source.now s.target.now s.places.now s.kinds.now s.tree.now k f u

-- What is asked of tree and limit, in a translation that is searchable, for a source kind that is in it: 15, 16, 24. The last
-- links of the chain of `ready`.
unfoldable pub ready_in : Translation → (k : ℕ) → List ℕ → (limit : ℕ) → Result Translation
ready_in f k target limit =
    tree_of f.target (mapped f.body k 0) target >>= λ u. refuse_if (not (is_limit limit)) LimitOutOfRange (value f)

-- The same, and before it 14 for the source kind.
unfoldable pub ready_from : Translation → (root : ℕ) → List ℕ → (limit : ℕ) → Result Translation
ready_from f root target limit = refuse_if (not (is_in f.source root)) UnknownRoot (ready_in f root target limit)

-- What is answered, and output and workspace that are left, are those of a search that is made where a stage is passed.
pub record Leaves (stage : Result Translation) (k : ℕ) (target : List ℕ) (limit : ℕ) (before after workspace left : List ℕ) (outcome : Outcome) : Type 0 where
  pub answer : outcome ≡ written (stage >>= λ f. found_in f k target limit (length before))
  pub output : after ≡ output_after before (stage >>= λ f. found_in f k target limit (length before))
  pub memory : left ≡ workspace_after workspace stage
