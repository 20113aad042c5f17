-- The memory of a search by its bytes. For each position of the tree there are 36: four hold the kind of the tree that starts
-- there, in five bits, and where it ends, in 27; then comes a byte for each source kind. And there are 32 bytes for trees of
-- which nothing is asked.
use Rattle.std.specs.Prelude.{ℕ, ◌+◌, ◌*◌, ◌/◌, ◌%◌, ◌<◌, ◌≡◌, ◌⊎◌, cond, List, Option, None, Some, length, get_or, set, leb}

-- The kind and the end that are kept for a position.
unfoldable pub kept_kind : (memory : List ℕ) (at : ℕ) → ℕ
kept_kind memory at = get_or memory (at * 36) 0 / 8

unfoldable pub kept_end : (memory : List ℕ) (at : ℕ) → ℕ
kept_end memory at =
    get_or memory (at * 36) 0 % 8 * 16777216
    + (get_or memory (at * 36 + 1) 0 * 65536 + (get_or memory (at * 36 + 2) 0 * 256 + get_or memory (at * 36 + 3) 0))

-- What is said of an end that is looked up: none where none is kept for the kind, and where 0 is.
pub data Recalls (memory : List ℕ) (k at : ℕ) : Option ℕ → Type 0 where
  nothing : Recalls memory k at None
  kept : {r : ℕ} → kept_kind memory at ≡ k → r ≡ kept_end memory at → (r ≡ 0 → ⊥) → Recalls memory k at (Some r)

-- The end of a tree was kept, or nothing was.
pub record Keeps (before after : List ℕ) (k at end : ℕ) : Type 0 where
  pub long : length after ≡ length before
  pub levels : (p j : ℕ) → j < 32 → get_or after (p * 36 + (4 + j)) 0 ≡ get_or before (p * 36 + (4 + j)) 0
  pub ends : (p : ℕ) → ((kept_kind after p ≡ kept_kind before p) × (kept_end after p ≡ kept_end before p))
      ⊎ ((p ≡ at) × (kept_kind after p ≡ k) × (kept_end after p ≡ end))

-- The byte for kind k at a position of a tree of n bytes, or where nothing is asked: 0 where there is no room for one.
unfoldable pub byte_for : (memory free : List ℕ) (n k at : ℕ) → ℕ
byte_for memory free n k at =
    cond (leb n at) (get_or free k 0) (cond (leb (length memory / 36) at) 0 (get_or memory (at * 36 + (4 + k)) 0))

-- The memory with a byte kept.
unfoldable pub memory_with : (memory : List ℕ) (n k at byte : ℕ) → List ℕ
memory_with memory n k at byte =
    cond (leb n at) memory (cond (leb (length memory / 36) at) memory (set memory (at * 36 + (4 + k)) byte))

-- The bytes for trees of which nothing is asked, with a byte kept.
unfoldable pub free_with : (free : List ℕ) (n k at byte : ℕ) → List ℕ
free_with free n k at byte = cond (leb n at) (set free k byte) free
