-- What holds of every pack: what reduce puts out is accepted by the check of a translation (document 000: C.14, C.16, C.18), and
-- name bytes by formula (paper 02, 2026-04).
use Rattle.std.specs.Prelude.{ℕ, ◌+◌, ◌%◌, ◌≡◌, Bool, true, false, List, ltb, Ok}
use Rattle.outcome.specs.Outcome.{value}
use Rattle.format_fields.specs.Fields.{byte_at}
use Rattle.format_pack.specs.Terms.{Sort, Term, constant, source_of, target_of, make, join, identity, variable, without, sum, bind, write_term}
use Rattle.format_translation.specs.Operations.{check_translation}
use Rattle.reduce_operation.specs.Operations.{reduce_bytes}

-- Whatever reduce accepts checks with 0.
abbrev pub ReducedChecks : Type 0
ReducedChecks =
    (pack : List ℕ) (workspace output : ℕ) (bytes : List ℕ) → reduce_bytes pack workspace output ≡ value bytes
    → check_translation bytes ≡ Ok 0

-- A number follows the sign of a term, or ends it, as b does (paper 01, "The sixteen term signs").
abbrev pub has_number : (s : Sort) → Term s → Bool
has_number s (constant c) = true
has_number s (source_of x) = false
has_number s (target_of x) = false
has_number s (make l m b) = true
has_number s (join x y) = false
has_number s (identity l) = false
has_number s (variable v) = true
has_number s (without x l) = false
has_number s (sum x y) = false
has_number s (bind r v x y) = true

-- The sign with which a term begins.
abbrev pub sign_of : (s : Sort) → Term s → ℕ
sign_of s t = byte_at (write_term t) 0

-- A sign with low digit d has a name byte exactly if (d + 2) mod 8 is under 4 (paper 02, 2026-04).
abbrev pub NumbersByFormula : Type 0
NumbersByFormula = (s : Sort) (t : Term s) → has_number s t ≡ ltb ((sign_of s t % 16 + 2) % 8) 4
