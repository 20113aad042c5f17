-- What the functions that fill the table ask for and give.
use Rattle.std.specs.Prelude.{ℕ, Option, Some, None, ◌+◌, ◌<◌, ◌≤◌, ◌≡◌, true, cond, ◌&&◌, List, length, get_or, drop, set, eqb, ltb}
use Rattle.format_fields.specs.Fields.{byte_at, pair_at}
use Rattle.format_language.specs.Language.{Language, production_key}
use Rattle.tree_reader.specs.Code.{Code, levels}
use Rattle.tree_reader.specs.Typing.{Uses, Typed}
use Rattle.tree_reader.specs.Syntax.{write, code}
use Rattle.format_translation.specs.Translation.{Translation}
use Rattle.format_translation.specs.Running.{clauses_of}
use Rattle.format_translation.specs.Inner.Items.{is_clause_tag, code_start, clause_number}
use Rattle.format_translation.specs.Inner.ItemIndex.{mapped_by}
use Rattle.run_table.specs.Inner.Stands.{Stands}
use Rattle.tree_reader.specs.Inner.Index.{index_length, table_length, Built, Around, Indexed}
use Rattle.run_table.specs.Inner.Table.{items_start, source_start, spans_start, hints_start, clause_entry, hint_entry, source_byte, body_byte, SpansAt, is_place}

-- The part of the table in which the index of the target stands first.
abbrev pub target_index : List ℕ → List ℕ
target_index t = drop items_start t

-- The indexes of the source s and of the target g stand in the table t, and its hints are all zero.
pub record Begun (s g t : List ℕ) : Type 0 where
  pub long : length t ≡ table_length
  pub source : Built 0x11 s t 0
  pub target : Built 0x11 g t items_start
  pub hints : (i : ℕ) → hint_entry t i ≡ 0

-- The table u is t with the bytes of the source s and of the body b.
pub record Filled (s b t u : List ℕ) : Type 0 where
  pub around : Around t u source_start spans_start
  pub source : (j : ℕ) → j < length s → source_byte u j ≡ get_or s j 0
  pub body : (j : ℕ) → j < length b → body_byte u j ≡ get_or b j 0

-- The table u is t but for spans from `at` on.
pub record Below (t u : List ℕ) (at : ℕ) : Type 0 where
  pub long : length u ≡ length t
  pub same : (j : ℕ) → j < spans_start + at → get_or u j 0 ≡ get_or t j 0
  pub past : (j : ℕ) → hints_start ≤ j → get_or u j 0 ≡ get_or t j 0

-- The table u is t but for spans.
abbrev pub Beside : List ℕ → List ℕ → Type 0
Beside t u = Below t u 0

-- The table u is t but for hints, and those are places of the body b.
pub record Hinted (b t u : List ℕ) : Type 0 where
  pub long : length u ≡ length t
  pub same : (j : ℕ) → j < hints_start → get_or u j 0 ≡ get_or t j 0
  pub hint : (i : ℕ) → 0 < hint_entry u i → is_place b (hint_entry u i) ≡ true

-- What an index holds under a key, as the place that it is: 0 is none.
abbrev pub PlaceIs : ℕ → Option ℕ → Type 0
PlaceIs entry (Some place) = (place ≡ entry) × (0 < place) × (place < 65536)
PlaceIs entry None = entry ≡ 0

-- A leaf of a code stands in the body b at `at` and ends at r: two bytes behind 03, three behind 02 and 04.
pub record Leaf (b : List ℕ) (at r : ℕ) : Type 0 where
  pub inside : at < length b
  pub leaf : byte_at b at ≡ 1 → ⊥
  pub argument : byte_at b at ≡ 3 → r ≡ at + 2
  pub other : (byte_at b at ≡ 3 → ⊥) → r ≡ at + 3

-- The leaf of a code in the body b at `at`; none where a production's code stands there, or nothing.
abbrev pub LeafEnds : List ℕ → ℕ → Option ℕ → Type 0
LeafEnds b at (Some r) = Leaf b at r
LeafEnds b at None = at < length b → byte_at b at ≡ 1

-- The code a of a kind of language l, whose bytes are s, stands in the body from `at` on.
pub record CodeAsks (s index b : List ℕ) (k at n : ℕ) (l : Language) (given : Uses) (a : Code) : Type 0 where
  pub indexed : Indexed index s l
  pub typed : Typed l given a k
  pub stands : Stands b at (write code a)
  pub within : levels a ≤ n

-- The spans of the code a at `at`, up to r, were put into the table t.
pub record Spanned (t u : List ℕ) (at : ℕ) (a : Code) (r : ℕ) : Type 0 where
  pub to : r ≡ at + length (write code a)
  pub spans : SpansAt u at a
  pub below : Below t u at

-- Where the field at p is a clause, its code is a.
pub record FieldAsks (s index b uses : List ℕ) (p : ℕ) (l : Language) (given : Uses) (a : Code) : Type 0 where
  pub kind : is_clause_tag (byte_at b p) ≡ true → mapped_by uses (byte_at b (p + 3)) (clause_number b p) < 32
  pub code : is_clause_tag (byte_at b p) ≡ true → CodeAsks s index b (mapped_by uses (byte_at b (p + 3)) (clause_number b p)) (code_start b p) 16 l given a

-- Where the field at p is a clause, its spans were put into the table t.
pub record FieldSpanned (b : List ℕ) (p : ℕ) (t u : List ℕ) (a : Code) : Type 0 where
  pub below : Below t u p
  pub spans : is_clause_tag (byte_at b p) ≡ true → SpansAt u (code_start b p) a

-- The spans of all clauses were put into the table t.
pub record AllSpanned (b t u : List ℕ) (f : Translation) : Type 0 where
  pub below : Below t u 0
  pub spans : (x : ℕ) → is_place b x ≡ true → is_clause_tag (byte_at b x) ≡ true
      → SpansAt u (code_start b x) (clauses_of f (byte_at b (x + 3)) (byte_at b (x + 4)) (clause_number b x))

-- The table t with the place of the clause at x of the body b, where that is one of number 0, at its key.
unfoldable pub with_clause : List ℕ → ℕ → List ℕ → List ℕ
with_clause b x t =
    cond (eqb (byte_at b x) 0x23 && ltb (32 + pair_at b (x + 3)) index_length) (set t (items_start + (32 + pair_at b (x + 3))) (x + 1)) t

-- At the key of kind k and name p stands the place of a clause of theirs, of number 0.
pub record ItemAt (b t : List ℕ) (k p : ℕ) : Type 0 where
  pub place : ℕ
  pub is : clause_entry t (production_key k p) ≡ place + 1
  pub there : is_place b place ≡ true
  pub tag : byte_at b place ≡ 0x23
  pub kind : byte_at b (place + 3) ≡ k
  pub name : byte_at b (place + 4) ≡ p

-- The table u is t with the places of the clauses of number 0 of the body b.
pub record Itemed (b t u : List ℕ) : Type 0 where
  pub around : Around t u items_start source_start
  pub items : (x : ℕ) → is_place b x ≡ true → byte_at b x ≡ 0x23 → byte_at b (x + 3) < 32 → ItemAt b u (byte_at b (x + 3)) (byte_at b (x + 4))
