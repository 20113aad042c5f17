-- A clause's code in the table matched with a tree in bytes: what the steps ask for and give.
use Rattle.std.specs.Prelude.{ℕ, suc, ◌+◌, ◌<◌, ◌≤◌, ◌≡◌, Bool, true, false, cond, List, [], Option, None, Some, map, length, get_or, eqb}
use Rattle.std.proofs.Math.Option.{some}
use Rattle.format_language.specs.Language.{arguments_of, production_key}
use Rattle.tree_reader.specs.Code.{Code, node, argument, Codes, cons}
use Rattle.tree_reader.specs.Typing.{Uses, TypedAll}
use Rattle.tree_reader.specs.Syntax.{write, write_all, tree, code}
use Rattle.format_translation.specs.Translation.{Translation, mapping_of, mapped}
use Rattle.format_translation.specs.Running.{Replacing, clauses_of}
use Rattle.run_table.specs.Inner.Stands.{Stands}
use Rattle.run_table.specs.Inner.Table.{body_start, body_byte, index_entry, clause_entry, Production}
use Rattle.tree_index.specs.Inner.Lying.{Index, Lies, LieAll}
use Rattle.search_sources.specs.Inner.Goals.{Goal, Meets, Matches}
use Rattle.search_sources.specs.Inner.Matching.{Inside, Solves, Alike}
use Rattle.search_levels.specs.Inner.Setting.{Asked, Targeted, TrueEnds}

-- What the arguments of kinds ks are bound to stands at the positions kept for them, all before `to`; an argument whose
-- position lies past the tree is not bound.
pub record Bound (f : Translation) (bytes bound : List ℕ) (to : ℕ) (ks : List ℕ) (b : ℕ → Goal) : Type 0 where
  pub long : length bound ≡ 8
  pub at : (j : ℕ) → j < length ks → Asked f bytes (get_or bound j 0) (get_or ks j 0) (b j)
  pub before : (j : ℕ) (w : Code) → b j ≡ some w → get_or bound j 0 < to
  pub inside : Inside ks b

-- The codes cs stand in the body from c up to `stop`, the trees us of the same kinds in the bytes from `to` on.
pub record Pending (table bytes : List ℕ) (c stop to : ℕ) (f : Translation) (given : Uses) (js : List ℕ) (cs us : Codes) : Type 0 where
  pub codes : TypedAll f.target given cs js
  pub stands : Stands table (body_start + c) (write_all code cs)
  pub ends : stop ≡ c + length (write_all code cs)
  pub inside : stop ≤ 4096
  pub trees : LieAll f.target bytes to js us

-- An argument of the code, counted from 0, comes where the tree u lies.
pub record ArgumentAsks (target places bytes memory bound : List ℕ) (kind to i : ℕ) (f : Translation) (ks : List ℕ) (b : ℕ → Goal) (u : Code) : Type 0 where
  pub target_index : Index places target f.target
  pub ends : TrueEnds f.target bytes memory
  pub is : Bound f bytes bound to ks b
  pub number : i < length ks
  pub few : length ks ≤ 8
  pub kind_is : kind ≡ mapped f.body (get_or ks i 0) 0
  pub lies : Lies f.target bytes to kind u

-- It is bound to that tree, up to e; or it is bound to another, where there is no e.
pub record ArgumentGives (bytes after : List ℕ) (to i : ℕ) (r : Option ℕ) (f : Translation) (ks : List ℕ) (b : ℕ → Goal) (u : Code) : Type 0 where
  pub goes : (e : ℕ) → r ≡ Some e
      → (e ≡ to + length (write tree u)) × (d : ℕ → Goal) × Bound f bytes after e ks d × ((cs us : Codes) → Alike b (cons (argument (suc i) 0) cs) (cons u us) d cs us)
  pub stops : r ≡ None → (cs us : Codes) (s : Replacing) → Solves b (cons (argument (suc i) 0) cs) (cons u us) s → ⊥

-- How many bytes of the code stand for one step: a sign, and a name, an argument or a token of two bytes.
unfoldable pub width : ℕ → ℕ
width sign = cond (eqb sign 2) 3 2

-- A step of the match of a production's clause, where its field in the source has its length at `place`.
pub record StepAsks (table target places kinds bytes memory bound : List ℕ) (place c stop to : ℕ) (f : Translation) (ks js : List ℕ) (cs us : Codes) (b : ℕ → Goal) : Type 0 where
  pub targeted : Targeted table target places kinds bytes f
  pub ends : TrueEnds f.target bytes memory
  pub production : Production table place ks
  pub row : Pending table bytes c stop to f (map (mapping_of f.body) ks) js cs us
  pub is : Bound f bytes bound to ks b
  pub more : c < stop

-- What is left to compare, from e on, is as good as what was; or there is no match, where there is no e.
pub record StepGives (table bytes after : List ℕ) (c stop : ℕ) (r : Option ℕ) (f : Translation) (ks : List ℕ) (cs us : Codes) (b : ℕ → Goal) : Type 0 where
  pub goes : (e : ℕ) → r ≡ Some e
      → (js : List ℕ) × (es vs : Codes) × (d : ℕ → Goal)
      × Pending table bytes (c + width (body_byte table c)) stop e f (map (mapping_of f.body) ks) js es vs
      × Bound f bytes after e ks d × Alike b cs us d es vs
  pub stops : r ≡ None → (s : Replacing) → Solves b cs us s → ⊥

-- The clause of production p of kind k is matched with what is asked at a position; nothing is bound yet.
pub record MatchAsks (table target places kinds bytes memory bound : List ℕ) (place clause at : ℕ) (f : Translation) (k p : ℕ) (ks : List ℕ) (g : Goal) : Type 0 where
  pub targeted : Targeted table target places kinds bytes f
  pub ends : TrueEnds f.target bytes memory
  pub kind : k < 32
  pub name : p < 256
  pub known : arguments_of f.source k p ≡ some ks
  pub place_is : place ≡ index_entry table (production_key k p)
  pub clause_is : clause ≡ clause_entry table (production_key k p)
  pub asked : Asked f bytes at k g
  pub long : length bound ≡ 8
  pub empty : (j : ℕ) → j < 8 → length bytes ≤ get_or bound j 0

-- It matches, with the arguments bound, or it does not.
pub record MatchGives (bytes after : List ℕ) (r : Bool) (f : Translation) (k p : ℕ) (ks : List ℕ) (g : Goal) : Type 0 where
  pub holds : r ≡ true → (b : ℕ → Goal) × Bound f bytes after (length bytes) ks b × Matches f.source (clauses_of f) k p ks g b
  pub fails : r ≡ false → (t : Codes) → TypedAll f.source [] t ks → Meets (clauses_of f) g (node k p t) → ⊥
