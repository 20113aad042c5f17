-- What the search knows: the translation by its table and its indexes, the target tree in bytes, and its memory.
use Rattle.std.specs.Prelude.{ℕ, suc, ◌+◌, ◌*◌, ◌<◌, ◌≤◌, ◌≡◌, ◌⊎◌, true, false, cond, List, Option, None, Some, length, get_or, leb}
use Rattle.std.proofs.Math.Option.{none, some}
use Rattle.format_fields.specs.Fields.{pair_at}
use Rattle.tree_reader.specs.Code.{Code, node, Codes}
use Rattle.tree_reader.specs.Syntax as Syntax
use Rattle.tree_reader.specs.Inner.Index.{Built, Indexed}
use Rattle.format_language.specs.Inner.Entries.{RisingEntries}
use Rattle.format_language.specs.Language.{Language, Range, range_of, arguments_of, production_key, is_in, clashes}
use Rattle.format_translation.specs.Translation.{Translation, mapping_of, mapped}
use Rattle.format_translation.specs.Running.{Clauses, clauses_of}
use Rattle.run_table.specs.Inner.Table.{Ready, Production}
use Rattle.tree_index.specs.Inner.Lying.{Index, Lies}
use Rattle.search_sources.specs.Inner.Goals.{Goal, Fits}
use Rattle.search_sources.specs.Inner.Levels.{Says}
use Rattle.search_levels.specs.Inner.Memory.{kept_kind, kept_end}

-- The table, the index of the target and the kinds that are mapped to by number 0 are those of f; each kind in its source has
-- that number and no other; the tree is bytes.
pub record Targeted (table target places kinds tree : List ℕ) (f : Translation) : Type 0 where
  pub ready : Ready table f
  pub target_index : Index places target f.target
  pub maps : (k : ℕ) → k < 32 → get_or kinds k 0 ≡ mapped f.body k 0
  pub plain : (k j t : ℕ) → mapping_of f.body k j ≡ some t → j ≡ 0
  pub has_zero : (k : ℕ) → is_in f.source k ≡ true → mapping_of f.body k 0 ≡ some (mapped f.body k 0)
  pub narrow : (i : ℕ) → get_or tree i 0 < 256

-- No production of kind k has a name from `low` up to `high`, by the index of its language.
pub record Unnamed (index : List ℕ) (k low high : ℕ) : Type 0 where
  pub none : (p : ℕ) → low ≤ p → p < high → get_or index (production_key k p) 0 ≡ 0

-- A production of kind k has the name p, by the index of its language, where p is a name.
pub record Named (index : List ℕ) (k p : ℕ) : Type 0 where
  pub there : p < 256 → 0 < get_or index (production_key k p) 0

-- The name that was found is one that a production of kind k has.
abbrev pub IsNamed : (index : List ℕ) (k : ℕ) → Option ℕ → Type 0
IsNamed index k None = Unit {0}
IsNamed index k (Some p) = (p < 256) × Named index k p

-- How far names were looked through: up to the one that was found, or all of them.
abbrev pub up_to : Option ℕ → ℕ
up_to None = 256
up_to (Some p) = p

-- No tree for the goal g has a name from `low` up to `high`.
pub record Without (l : Language) (f : Clauses) (k : ℕ) (g : Goal) (low high : ℕ) : Type 0 where
  pub none : (q x : ℕ) (s : Codes) → low ≤ q → q < high → Fits l f (suc x) k g (node k q s) → ⊥

-- The source's index stands first in the table; its entries stand by rising key.
pub record Filed (table source : List ℕ) : Type 0 where
  pub built : Built 0x11 source table 0
  pub rises : RisingEntries source
  pub short : length source ≤ 1024
  pub narrow : (i : ℕ) → get_or source i 0 < 256

-- The same, and the index of the source; behind the kinds stands for each of them a name below which none of its productions
-- has one.
pub record Setting (table source target places kinds tree : List ℕ) (f : Translation) : Type 0 where
  pub targeted : Targeted table target places kinds tree f
  pub source_index : Indexed table source f.source
  pub filed : Filed table source
  pub lowest : (k : ℕ) → k < 32 → Unnamed table k 0 (get_or kinds (32 + k) 0)
  pub apart : clashes f.source f.source ≡ false
  pub named : (k p : ℕ) (ks : List ℕ) → arguments_of f.source k p ≡ some ks → p < 256
  pub tokens : (k : ℕ) (c : Range) → range_of f.source k ≡ some c → (d : Range) × (range_of f.target (mapped f.body k 0) ≡ some d)

-- What is asked at a position: nothing past the tree, and else the target tree that lies there, of the kind that k maps to.
abbrev pub Asked : Translation → List ℕ → ℕ → ℕ → Goal → Type 0
Asked f tree at k none = length tree ≤ at
Asked f tree at k (some u) = (at < length tree) × Lies f.target tree at (mapped f.body k 0) u

-- An end that is kept for a kind is that of the tree of the kind that lies there.
pub record TrueEnds (l : Language) (tree memory : List ℕ) : Type 0 where
  pub is : (at k : ℕ) (u : Code) → Lies l tree at k u → kept_kind memory at ≡ k
      → (kept_end memory at ≡ 0) ⊎ (kept_end memory at ≡ at + length (Syntax.write Syntax.tree u))

-- All that the memory says is true.
pub record Truthful (f : Translation) (tree memory free : List ℕ) : Type 0 where
  pub ends : TrueEnds f.target tree memory
  pub long : length free ≡ 32
  pub kept : (at k : ℕ) (u : Code) → k < 32 → Asked f tree at k (some u)
      → Says f.source (clauses_of f) k (some u) (get_or memory (at * 36 + (4 + k)) 0)
  pub spare : (k : ℕ) → k < 32 → Says f.source (clauses_of f) k none (get_or free k 0)

-- The value of the token that a class, whose field in the source stands before `class`, has at a position: its lowest where
-- nothing is asked.
unfoldable pub value_at : (source : List ℕ) (class : ℕ) (tree : List ℕ) (at : ℕ) → ℕ
value_at source class tree at = cond (leb (length tree) at) (pair_at source (class + 3)) (pair_at tree at)

-- A source tree of kind k is sought for the goal g, which stands at a position.
pub record Seeks (table source target places kinds tree memory free : List ℕ) (k at : ℕ) (f : Translation) (g : Goal) : Type 0 where
  pub setting : Setting table source target places kinds tree f
  pub truthful : Truthful f tree memory free
  pub kind : k < 32
  pub asked : Asked f tree at k g

-- Operands of kinds ks of a production, whose field in the source has its length at `place`, are sought for the goals b.
pub record SeeksAll (table source target places kinds tree memory free bound : List ℕ) (place : ℕ) (f : Translation) (ks : List ℕ) (b : ℕ → Goal) : Type 0 where
  pub setting : Setting table source target places kinds tree f
  pub truthful : Truthful f tree memory free
  pub production : Production table place ks
  pub long : length bound ≡ 8
  pub asked : (j : ℕ) → j < length ks → Asked f tree (get_or bound j 0) (get_or ks j 0) (b j)
