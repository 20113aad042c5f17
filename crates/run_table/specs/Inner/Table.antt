-- The table that a run looks things up in, one row of numbers: the index of the source, the index of the body's items, the
-- bytes of the source, the bytes of the body, for each position in the body where the code of a production starts the
-- position where that code ends, and hints where clauses of other numbers than 0 stand.
use Rattle.std.specs.Prelude.{ℕ, ◌+◌, ◌<◌, ◌≤◌, ◌≡◌, Bool, true, ◌&&◌, List, length, get_or, eqb}
use Rattle.std.proofs.Math.Option.{some}
use Rattle.format_fields.specs.Fields.{byte_at}
use Rattle.format_fields.specs.Lists.{any, is_some}
use Rattle.format_fields.specs.Inner.Places.{places}
use Rattle.format_language.specs.Language.{Range, range_of, arguments_of, production_key}
use Rattle.tree_reader.specs.Code.{Code, node, token, argument, Codes, nil, cons, levels}
use Rattle.tree_reader.specs.Typing.{Typed}
use Rattle.tree_reader.specs.Syntax.{write, code}
use Rattle.tree_reader.specs.Inner.Index.{table_length}
use Rattle.format_translation.specs.Translation.{Translation, mapping_of, mapped}
use Rattle.format_translation.specs.Running.{uses_of, clauses_of}
use Rattle.outcome.specs.Outcome.{value}
use Rattle.format_translation.specs.TranslationFile.{translation_of}
use Rattle.format_translation.specs.Inner.Pieces.{Pieces}
use Rattle.run_table.specs.Inner.Stands.{Stands}

-- Where the index of the body's items starts.
abbrev pub items_start : ℕ
items_start = 8224

-- Where the bytes of the source start.
abbrev pub source_start : ℕ
source_start = 16448

-- Where the bytes of the body start.
abbrev pub body_start : ℕ
body_start = 17472

-- Where the ends of the productions' codes start.
abbrev pub spans_start : ℕ
spans_start = 21568

-- Where the places of the clauses of other numbers than 0 start.
abbrev pub hints_start : ℕ
hints_start = 25664

-- What the index of the source holds under a key.
abbrev pub index_entry : List ℕ → ℕ → ℕ
index_entry t key = get_or t key 0

-- What the index of the body's items holds under a key.
abbrev pub clause_entry : List ℕ → ℕ → ℕ
clause_entry t key = get_or t (items_start + key) 0

-- Byte i of the source.
abbrev pub source_byte : List ℕ → ℕ → ℕ
source_byte t i = get_or t (source_start + i) 0

-- Byte c of the body.
abbrev pub body_byte : List ℕ → ℕ → ℕ
body_byte t c = get_or t (body_start + c) 0

-- Where the production's code ends that starts at c in the body.
abbrev pub span_entry : List ℕ → ℕ → ℕ
span_entry t c = get_or t (spans_start + c) 0

-- The place that hint i holds, or 0.
abbrev pub hint_entry : List ℕ → ℕ → ℕ
hint_entry t i = get_or t (hints_start + i) 0

-- The kinds ks stand in the source from q on.
pub record KindsAt (t : List ℕ) (q : ℕ) (ks : List ℕ) : Type 0 where
  pub inside : q + length ks ≤ 1024
  pub stands : Stands t (source_start + q) ks
  pub below : (j : ℕ) → j < length ks → get_or ks j 0 < 32

-- The code a stands in the body from c on, and so does the end of each production's code in it.
unfoldable mutual
  pub SpansAt : List ℕ → ℕ → Code → Type 0
  SpansAt t c (node k p ts) = (span_entry t c ≡ c + length (write code (node k p ts))) × SpansAllAt t (c + 2) ts
  SpansAt t c (token v) = Unit {0}
  SpansAt t c (argument i j) = Unit {0}

  pub SpansAllAt : List ℕ → ℕ → Codes → Type 0
  SpansAllAt t c nil = Unit {0}
  SpansAllAt t c (cons a ts) = SpansAt t c a × SpansAllAt t (c + length (write code a)) ts

-- Where a production of the source stands: its field before `place`, its argument kinds from place + 4 on.
pub record Production (t : List ℕ) (place : ℕ) (ks : List ℕ) : Type 0 where
  pub count : source_byte t (place + 1) ≡ length ks + 2
  pub kinds : KindsAt t (place + 4) ks
  pub few : length ks ≤ 8

-- Where the code a of a clause stands in the body: from c on.
pub record Clause (t : List ℕ) (c : ℕ) (a : Code) : Type 0 where
  pub inside : c + length (write code a) ≤ 4096
  pub stands : Stands t (body_start + c) (write code a)
  pub spans : SpansAt t c a
  pub within : levels a ≤ 16
  pub narrow : (i : ℕ) → c ≤ i → i < c + length (write code a) → body_byte t i < 256

-- A field of the body b starts at x.
abbrev pub is_place : List ℕ → ℕ → Bool
is_place b x = any (eqb x) (places b)

-- The field at x is the clause of kind k, name p and number j, which is not 0.
pub record NumberedAt (b : List ℕ) (x k p j : ℕ) : Type 0 where
  pub place : is_place b x ≡ true
  pub inside : x + 6 ≤ length b
  pub tag : byte_at b x ≡ 0x29
  pub kind : byte_at b (x + 3) ≡ k
  pub name : byte_at b (x + 4) ≡ p
  pub number : byte_at b (x + 5) ≡ j

-- The same, as the table holds the body.
unfoldable pub numbered_is : List ℕ → ℕ → ℕ → ℕ → ℕ → Bool
numbered_is t x k p j =
    eqb (body_byte t x) 0x29 && (eqb (body_byte t (x + 3)) k && (eqb (body_byte t (x + 4)) p && eqb (body_byte t (x + 5)) j))

-- The body b of f stands in the table, with a clause for each number of a production's result; hints are places in it.
pub record Held (t b : List ℕ) (f : Translation) : Type 0 where
  pub short : length b ≤ 4096
  pub same : (i : ℕ) → i < length b → body_byte t i ≡ byte_at b i
  pub there : (k p j : ℕ) (ks : List ℕ) → 0 < j → arguments_of f.source k p ≡ some ks → is_some (mapping_of f.body k j) ≡ true
      → (x : ℕ) × NumberedAt b x k p j
  pub clause : (x k p j : ℕ) → NumberedAt b x k p j → Clause t (x + 6) (clauses_of f k p j)
  pub whole : (x : ℕ) → is_place b x ≡ true → byte_at b x ≡ 0x29 → x + 6 ≤ length b
  pub hint : (i : ℕ) → 0 < hint_entry t i → is_place b (hint_entry t i) ≡ true

-- The table is that of the translation f: what is looked up in it is what stands in f.
pub record Ready (t : List ℕ) (f : Translation) : Type 0 where
  pub long : length t ≡ table_length
  pub class : (k : ℕ) (c : Range) → k < 32 → range_of f.source k ≡ some c → 0 < index_entry t k
  pub name : (k p : ℕ) (ks : List ℕ) → k < 32 → arguments_of f.source k p ≡ some ks → index_entry t k ≡ 0
  pub production : (k p : ℕ) (ks : List ℕ) → k < 32 → p < 256 → arguments_of f.source k p ≡ some ks
      → Production t (index_entry t (production_key k p)) ks
  pub clause : (k p : ℕ) (ks : List ℕ) → k < 32 → p < 256 → arguments_of f.source k p ≡ some ks
      → Clause t (clause_entry t (production_key k p) + 4) (clauses_of f k p 0)
  pub typed : (k p j : ℕ) (ks : List ℕ) → k < 32 → p < 256 → arguments_of f.source k p ≡ some ks → is_some (mapping_of f.body k j) ≡ true
      → Typed f.target (uses_of f k p) (clauses_of f k p j) (mapped f.body k j)
  pub bytes : List ℕ
  pub held : Held t bytes f

-- The production of kind k and name p has a clause of number j.
pub record NumberedAsks (t : List ℕ) (k p j : ℕ) (f : Translation) (ks : List ℕ) : Type 0 where
  pub ready : Ready t f
  pub arguments : arguments_of f.source k p ≡ some ks
  pub mapped : is_some (mapping_of f.body k j) ≡ true

-- The bytes s, b and t hold the source, the body and the target of f, which a check of the file accepted.
pub record Checked (s t b : List ℕ) (f : Translation) : Type 0 where
  pub pieces : Pieces s t b f
  pub short : length b ≤ 4096
  pub file : List ℕ
  pub accepted : translation_of file ≡ value f
