-- Trees of a kind that lie in bytes, and what the functions that walk them ask for.
use Rattle.std.specs.Prelude.{ℕ, ◌+◌, ◌≤◌, ◌≡◌, true, false, List, [], ◌++◌, length, drop}
use Rattle.std.proofs.Math.Option.{some}
use Rattle.std.proofs.Math.Seq.{slice}
use Rattle.format_fields.specs.Lists.{all}
use Rattle.format_language.specs.Language.{Language, arguments_of, is_in, clashes}
use Rattle.tree_reader.specs.Code.{Code, node, token, Codes, nil, levels, levels_all}
use Rattle.tree_reader.specs.Typing.{Typed, TypedAll}
use Rattle.tree_reader.specs.Syntax.{write, write_all, tree}
use Rattle.tree_reader.specs.Operations.{tree_levels}
use Rattle.tree_reader.specs.Inner.Index.{Indexed}
use Rattle.tree_reader.specs.Inner.Positions.{KindsIn}

-- The legal tree t of kind k lies in the bytes from `at` on.
pub record Lies (l : Language) (bytes : List ℕ) (at k : ℕ) (t : Code) : Type 0 where
  pub rest : List ℕ
  pub is : drop at bytes ≡ write tree t ++ rest
  pub inside : at ≤ length bytes
  pub typed : Typed l [] t k
  pub within : levels t ≤ tree_levels
  pub known : is_in l k ≡ true

-- Legal trees of these kinds lie in the bytes from `at` on, one behind the other.
pub record LieAll (l : Language) (bytes : List ℕ) (at : ℕ) (ks : List ℕ) (ts : Codes) : Type 0 where
  pub rest : List ℕ
  pub is : drop at bytes ≡ write_all tree ts ++ rest
  pub inside : at ≤ length bytes
  pub typed : TypedAll l [] ts ks
  pub within : levels_all ts ≤ tree_levels
  pub known : all (is_in l) ks ≡ true

-- The index is that of the language l, in which no class is a result.
pub record Index (index s : List ℕ) (l : Language) : Type 0 where
  pub indexed : Indexed index s l
  pub apart : clashes l l ≡ false

-- What a walk over the tree t asks for.
pub record There (index s bytes : List ℕ) (at k : ℕ) (l : Language) (t : Code) : Type 0 where
  pub index_of : Index index s l
  pub lies : Lies l bytes at k t

-- What a walk over arguments asks for; their kinds stand in s from q up to e.
pub record Row (index s bytes : List ℕ) (at q e : ℕ) (l : Language) (ts : Codes) : Type 0 where
  pub index_of : Index index s l
  pub lie : LieAll l bytes at (slice q e s) ts

-- What a tree of kind k is made of: its operands, their kinds, and how many bytes stand in front of them.
pub data Shape (l : Language) (k : ℕ) : Code → Codes → List ℕ → ℕ → Type 0 where
  production : {p : ℕ} {ts : Codes} {ks : List ℕ} → arguments_of l k p ≡ some ks → Shape l k (node k p ts) ts ks 1
  value : {v : ℕ} → Shape l k (token v) nil [] 2

-- The operands of the tree t, which starts at `at`, stand from `to` on; their kinds stand in s from q up to e.
pub record Opens (index s bytes : List ℕ) (at k : ℕ) (l : Language) (t : Code) (q e to : ℕ) : Type 0 where
  pub operands : Codes
  pub front : ℕ
  pub shape : Shape l k t operands (slice q e s) front
  pub past : to ≡ at + front
  pub row : Row index s bytes to q e l operands
  pub kinds : KindsIn s q e
