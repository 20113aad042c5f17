-- Counting by position: what a code writes itself and how often it uses each argument by each number, sign by sign over
-- its bytes. What code of number 0 counts for number 0 stands in a table along the bytes of the source. All else stands in
-- a table of entries, for each position of the source one behind the other.
use Rattle.std.specs.Prelude.{ℕ, Option, Some, None, ◌<◌, ◌≡◌, zero, suc, ◌+◌, ◌*◌, ◌-◌, ◌/◌, ◌≤◌, true, false, cond, List, [], ◌∷◌, length, get_or, set, ltb, leb, eqb}
use Rattle.format_fields.specs.Fields.{byte_at, pair_at}
use Rattle.format_fields.specs.Inner.Places.{field_end, places}

-- A table of counts, and a table of entries. In the latter stand, below 1,024, for each position of the source where its
-- last entry stands, or 0; then the entries, each in three: where the one before it stands, its key (256 times the clause's
-- number and the use's number), and how much it counts.
abbrev pub Tables : Type 0
Tables = List ℕ × List ℕ

-- The entry before one at e: where it says, if that is well before it.
abbrev pub before : ℕ → ℕ → ℕ
before e next = cond (ltb e (next + 3)) 0 next

-- The entry at e is gone on from: its key and how much it counts, and where the one before it stands. Below 1,024 there is none.
abbrev pub Follows : List ℕ → ℕ → Option (ℕ × ℕ) → List ℕ → ℕ → Type 0
Follows entries e None rest next = e < 1024
Follows entries e (Some (key, n)) rest next =
    (1024 ≤ e) × (key ≡ get_or entries (e + 1) 0) × (key < 65536) × (n ≡ get_or entries (e + 2) 0) × (n < 65536)
    × (rest ≡ entries) × (next ≡ before e (get_or entries e 0))

-- How much the entry at e and those before it count for a key.
unfoldable pub linked : ℕ → List ℕ → ℕ → ℕ → ℕ
linked zero entries e key = 0
linked (suc fuel) entries e key =
    cond (ltb e 1024) 0
    (cond (eqb (get_or entries (e + 1) 0) key) (get_or entries (e + 2) 0) 0 + linked fuel entries (before e (get_or entries e 0)) key)

-- How much is counted for a key at position q of the source.
unfoldable pub times_at : Tables → ℕ → ℕ → ℕ
times_at t q key = cond (eqb 0 key) (get_or t.0 q 0) 0 + linked (get_or t.1 q 0) t.1 (get_or t.1 q 0) key

-- The counts with n more at i.
abbrev pub add_at : List ℕ → ℕ → ℕ → List ℕ
add_at counts i n = set counts i (get_or counts i 0 + n)

-- The entries with one at e, for position q.
abbrev pub add_entry : List ℕ → ℕ → ℕ → ℕ → ℕ → List ℕ
add_entry entries e q key n =
    cond (ltb (length entries) (e + 3)) entries
    (cond (leb 1024 q) entries
    (set (set (set (set entries e (get_or entries q 0)) (e + 1) key) (e + 2) n) q e))

-- Where the entry of the sign at p stands: a sign has two bytes at least.
abbrev pub entry_of : ℕ → ℕ
entry_of p = 1024 + p / 2 * 3

-- The tables with n more for a key at position q, from the sign at p.
abbrev pub add_sign : Tables → ℕ → ℕ → ℕ → ℕ → Tables
add_sign t p q key n = cond (eqb key 0) (add_at t.0 q n, t.1) (t.0, add_entry t.1 (entry_of p) q key n)

-- What a sign counts for: a token two bytes, a name one, an argument one use.
abbrev pub amount_of : ℕ → ℕ
amount_of sign = cond (eqb sign 2) 2 1

-- Where it counts: a use at the argument's number, what the code writes itself at 0.
abbrev pub slot_of : ℕ → ℕ → ℕ
slot_of sign number = cond (eqb sign 3) number (cond (eqb sign 4) number 0)

-- By which number: that of a use behind 04, else 0.
abbrev pub by_of : ℕ → ℕ → ℕ
by_of sign number = cond (eqb sign 4) number 0

-- How many bytes it has, with what belongs to it.
abbrev pub step_of : ℕ → ℕ
step_of sign = cond (eqb sign 2) 3 (cond (eqb sign 4) 3 2)

-- The tables with the sign at p, in a clause whose number gives keys from `first` on.
abbrev pub count_sign : List ℕ → ℕ → ℕ → ℕ → Tables → Tables
count_sign s p own first t =
    add_sign t p (own + slot_of (byte_at s p) (byte_at s (p + 1))) (first + by_of (byte_at s p) (byte_at s (p + 2))) (amount_of (byte_at s p))

-- The tables with the signs from p up to e: their own bytes at `own`, the uses behind.
unfoldable pub count_in : ℕ → List ℕ → ℕ → ℕ → ℕ → ℕ → Tables → Tables
count_in zero s p e own first t = t
count_in (suc fuel) s p e own first t =
    elim (leb e p) [
      | true ↦ t
      | false ↦ count_in fuel s (p + step_of (byte_at s p)) e own first (count_sign s p own first t)
    ]

-- The same, with fuel for all bytes.
unfoldable pub count_code : List ℕ → ℕ → ℕ → ℕ → ℕ → Tables → Tables
count_code s p e own first t = count_in (e - p) s p e own first t

-- The tables with the code of the clause at p, where its production has a place; other fields count for nothing.
abbrev pub count_clause : List ℕ → List ℕ → ℕ → Tables → Tables
count_clause s index p t =
    cond (eqb (get_or index (32 + pair_at s (p + 3)) 0) 0) t
    (cond (eqb (byte_at s p) 0x23) (count_code s (p + 5) (field_end s p) (get_or index (32 + pair_at s (p + 3)) 0 + 3) 0 t)
    (cond (eqb (byte_at s p) 0x29) (count_code s (p + 6) (field_end s p) (get_or index (32 + pair_at s (p + 3)) 0 + 3) (256 * byte_at s (p + 5)) t)
    t))

-- The tables with the clauses at places, one after the other.
unfoldable pub count_all : List ℕ → List ℕ → List ℕ → Tables → Tables
count_all s index [] t = t
count_all s index (p ∷ l) t = count_all s index l (count_clause s index p t)

-- No count is over what was passed over, three bytes aside, nor over the end.
abbrev pub Below : List ℕ → ℕ → ℕ → Type 0
Below counts q e = (j : ℕ) → (get_or counts j 0 + 3 ≤ q) × (get_or counts j 0 ≤ e)

-- A width n, or one more than the number of the mapping at p where that is more.
abbrev pub wider_at : List ℕ → ℕ → ℕ → ℕ
wider_at s p n = cond (eqb (byte_at s p) 0x28) (cond (ltb (byte_at s (p + 4)) n) n (byte_at s (p + 4) + 1)) n

-- The same over places, one after the other.
unfoldable pub width_in : List ℕ → List ℕ → ℕ → ℕ
width_in s [] n = n
width_in s (p ∷ l) n = width_in s l (wider_at s p n)

-- How many weights a kind may have: one more than the largest number of a mapping of the body.
unfoldable pub width_of : List ℕ → ℕ
width_of s = width_in s (places s) 1
