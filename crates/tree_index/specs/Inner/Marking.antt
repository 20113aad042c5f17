-- Entries of an index, as they stand there and as they are written.
use Rattle.std.specs.Prelude.{ℕ, ◌+◌, ◌-◌, ◌*◌, ◌≤◌, ◌≡◌, List, ◌++◌, length, drop}
use Rattle.format_fields.specs.Inner.Writing.{spliced}
use Rattle.tree_index.specs.Operations.{longest}
use Rattle.tree_index.specs.declared.walk.Ends.{Ends}

-- Places in an index are counted up to here: more than two trees' entries need.
abbrev pub last_place : ℕ
last_place = 1000000

-- The bytes v stand in the index from n on.
pub record Has (index : List ℕ) (n : ℕ) (v : List ℕ) : Type 0 where
  pub rest : List ℕ
  pub is : drop n index ≡ v ++ rest

-- The bytes v were written from n up to m, where they have room.
pub record Puts (v o o' : List ℕ) (n m : ℕ) : Type 0 where
  pub end : m ≡ n + length v
  pub put : m ≤ length o → o' ≡ spliced o n v

-- The answer of writing the entries v of what ends at e.
pub record Writes (v o o' : List ℕ) (n e : ℕ) (r : Ends) : Type 0 where
  pub trees : r.trees ≡ e
  pub puts : Puts v o o' n r.entries

-- What is asked of the numbers: starts and lengths are numbers of two bytes, and the entries that may still come, one for
-- each byte, end before the last place that is counted.
pub record Small (b : List ℕ) (base at n : ℕ) : Type 0 where
  pub short : base + length b ≤ longest
  pub few : n + 4 * (length b - at) ≤ last_place
