-- The starred examples (paper 01, "Strap examples") and the 16 of paper 02, 2026-07, as rows of one table. C, K and the body are those of the paper.
use Rattle.std.specs.Prelude.{ℕ, zero, suc, Bool, ◌&&◌, List, [], ◌∷◌, eqb}
use Rattle.outcome.specs.Outcome.{Result, value, refused, ◌>>=◌, number_of, written}
use Rattle.format_fields.specs.Lists.{same_numbers}
use Rattle.format_fields.specs.Fields.{Field, field, encode_fields}
use Rattle.format_translation.specs.Operations.{run_bytes}
use Rattle.reduce_operation.specs.Operations.{reduce_bytes}

-- A pack that is reduced with the least workspace and output, or then run on a tree: the number and the bytes that
-- come of it, no bytes where it is refused.
pub data Row : Type 0 where
  reduced : (pack : List Field) (number : ℕ) (bytes : List ℕ) → Row
  ran : (pack : List Field) (root : ℕ) (tree : List ℕ) (room : ℕ) (number : ℕ) (bytes : List ℕ) → Row

-- The bytes of a result, none where it is refused.
abbrev pub bytes_of : Result (List ℕ) → List ℕ
bytes_of (value bytes) = bytes
bytes_of (refused r) = []

-- The result has this number and these bytes.
abbrev pub comes_to : Result (List ℕ) → ℕ → List ℕ → Bool
comes_to result number bytes = eqb (number_of (written result)) number && same_numbers (bytes_of result) bytes

-- The row comes out as it says.
unfoldable pub holds : Row → Bool
holds (reduced pack number bytes) = comes_to (reduce_bytes (encode_fields pack) 65536 4096) number bytes
holds (ran pack root tree room number bytes) =
    comes_to (reduce_bytes (encode_fields pack) 65536 4096 >>= λ f. run_bytes f root 0 tree room) number bytes

-- C: class 2 of 1 to 240; productions 1.1 (2), 1.2 (1 1), 1.3 (2).
abbrev pub c : Field
c =
    field 0x30 (
    0x11 ∷ 0 ∷ 5 ∷ 2 ∷ 0 ∷ 1 ∷ 0 ∷ 240 ∷ 0x12 ∷ 0 ∷ 3 ∷ 1 ∷ 1 ∷ 2 ∷ 0x12 ∷ 0 ∷ 4 ∷ 1 ∷ 2 ∷ 1 ∷ 1 ∷ 0x12 ∷ 0 ∷ 3 ∷ 1 ∷ 3 ∷ 2 ∷ []
    )

-- K: production 1.4 (1).
abbrev pub k : Field
k = field 0x30 (0x12 ∷ 0 ∷ 3 ∷ 1 ∷ 4 ∷ 1 ∷ [])

-- A language with production 1.4 (2).
abbrev other : Field
other = field 0x30 (0x12 ∷ 0 ∷ 3 ∷ 1 ∷ 4 ∷ 2 ∷ [])

-- The body from K to C: 1 to 1; 1.4 is 01 02 03 01 03 01.
abbrev pub twice : Field
twice = field 0x31 (0x22 ∷ 0 ∷ 2 ∷ 1 ∷ 1 ∷ 0x23 ∷ 0 ∷ 8 ∷ 1 ∷ 4 ∷ 1 ∷ 2 ∷ 3 ∷ 1 ∷ 3 ∷ 1 ∷ [])

-- From C to C: 1.3 is 01 01 03 01, others identity.
abbrev pub rest : Field
rest =
    field 0x31 (
    0x22 ∷ 0 ∷ 2 ∷ 1 ∷ 1 ∷ 0x22 ∷ 0 ∷ 2 ∷ 2 ∷ 2 ∷ 0x23 ∷ 0 ∷ 6 ∷ 1 ∷ 1 ∷ 1 ∷ 1 ∷ 3 ∷ 1
    ∷ 0x23 ∷ 0 ∷ 8 ∷ 1 ∷ 2 ∷ 1 ∷ 2 ∷ 3 ∷ 1 ∷ 3 ∷ 2 ∷ 0x23 ∷ 0 ∷ 6 ∷ 1 ∷ 3 ∷ 1 ∷ 1 ∷ 3 ∷ 1 ∷ []
    )

-- A term as field 32 of a pack.
abbrev term : List ℕ → Field
term bytes = field 0x32 bytes

-- 53 50 40 00 40 01 00 55 40 01: the body from K to C, and the identity of C.
abbrev sum : List ℕ
sum = 0x53 ∷ 0x50 ∷ 0x40 ∷ 0 ∷ 0x40 ∷ 1 ∷ 0 ∷ 0x55 ∷ 0x40 ∷ 1 ∷ []

-- The pack of 71 bytes, with that term.
abbrev sum_pack : List Field
sum_pack = k ∷ c ∷ twice ∷ term sum ∷ []

-- A pack with that sum as the second operand of a join, whose first is the body `rest` from C to C.
abbrev join_pack : List Field
join_pack = k ∷ c ∷ twice ∷ rest ∷ term (0x54 ∷ 0x50 ∷ 0x40 ∷ 1 ∷ 0x40 ∷ 1 ∷ 1 ∷ sum) ∷ []

-- The translation from the empty language to itself, in bytes.
abbrev empty : List ℕ
empty = 0x20 ∷ 0 ∷ 0 ∷ 0x21 ∷ 0 ∷ 0 ∷ []

-- A byte so many times before other bytes.
unfoldable pub times : ℕ → ℕ → List ℕ → List ℕ
times zero b s = s
times (suc n) b s = b ∷ times n b s

-- The table.
unfoldable pub rows : List Row
rows =
    ran sum_pack 1 (4 ∷ 1 ∷ 0 ∷ 5 ∷ []) 7 0 (2 ∷ 1 ∷ 0 ∷ 5 ∷ 1 ∷ 0 ∷ 5 ∷ [])
    ∷ ran sum_pack 1 (4 ∷ 1 ∷ 0 ∷ 5 ∷ []) 6 17 []
    ∷ ran sum_pack 1 (1 ∷ 0 ∷ 0xF0 ∷ []) 4096 0 (1 ∷ 0 ∷ 0xF0 ∷ [])
    ∷ ran sum_pack 1 (1 ∷ 0 ∷ 0xF1 ∷ []) 4096 15 []
    ∷ ran sum_pack 1 (1 ∷ 0 ∷ 0 ∷ []) 4096 15 []
    ∷ ran sum_pack 1 [] 4096 15 []
    ∷ ran sum_pack 1 (1 ∷ 0 ∷ 5 ∷ 0 ∷ []) 4096 15 []
    ∷ ran sum_pack 9 (1 ∷ 0 ∷ 5 ∷ []) 4096 14 []
    ∷ ran sum_pack 1 (times 64 4 (1 ∷ 0 ∷ 5 ∷ [])) 4096 16 []
    ∷ ran join_pack 1 (4 ∷ 3 ∷ 0 ∷ 3 ∷ []) 4096 0 (2 ∷ 1 ∷ 0 ∷ 3 ∷ 1 ∷ 0 ∷ 3 ∷ [])
    ∷ reduced (field 0x30 [] ∷ term (0x55 ∷ 0x40 ∷ 0 ∷ []) ∷ []) 0 empty
    ∷ reduced (k ∷ other ∷ term (0x55 ∷ 0x43 ∷ 0x40 ∷ 0 ∷ 0x40 ∷ 1 ∷ []) ∷ []) 12 []
    ∷ reduced (c ∷ term (0x55 ∷ 0x42 ∷ 0x40 ∷ 0 ∷ 0x40 ∷ 0 ∷ []) ∷ []) 0 empty
    ∷ []
