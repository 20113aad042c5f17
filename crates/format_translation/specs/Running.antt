-- Running (paper 01, "Translations", last paragraph; document 000: C.7 and C.9; by a number, paper 02, 2026-13).
use Rattle.std.specs.Prelude.{ℕ, zero, suc, ◌+◌, ◌*◌, List, [], ◌∷◌, map}
use Rattle.std.proofs.Math.Option.{Option, none, some, get_or}
use Rattle.format_language.specs.Language.{arguments_of}
use Rattle.tree_reader.specs.Code.{Code, node, token, argument, Codes, nil, cons}
use Rattle.tree_reader.specs.Typing.{Uses}
use Rattle.tree_reader.specs.Syntax.{Read, done, deep, broken, read, code}
use Rattle.format_translation.specs.Translation.{Translation, mapping_of, mapped, clause_of}

-- What replaces a use: by argument, counted from 1, and number.
abbrev pub Replacing : Type 0
Replacing = ℕ → ℕ → Code

-- A code with each use replaced (C.7, substitution).
unfoldable mutual
  pub substitute : Replacing → Code → Code
  substitute s (node k p t) = node k p (substitute_all s t)
  substitute s (token v) = token v
  substitute s (argument i j) = s i j

  pub substitute_all : Replacing → Codes → Codes
  substitute_all s nil = nil
  substitute_all s (cons a t) = cons (substitute s a) (substitute_all s t)

-- Arguments counted from 1, by what stands at each place from 0; number 0 is a fixed token, which no typed code reaches.
unfoldable pub from_one : Replacing → Replacing
from_one s zero j = token 0
from_one s (suc i) j = s i j

-- The code of each production, by kind, name and number.
abbrev pub Clauses : Type 0
Clauses = ℕ → ℕ → ℕ → Code

-- Number i of the second of two translations paired with number j of the first.
abbrev pub paired : ℕ → ℕ → ℕ
paired i j = 16 * i + j

-- A run by number j. A token stays itself; a production becomes its code of number j with each use replaced by the run of
-- that operand by the use's number (C.7). A use that is run, by number i, is kept by i and j paired.
unfoldable mutual
  pub run : Clauses → ℕ → Code → Code
  run f j (node k p t) = substitute (from_one (λ i by. run_operand f t i by)) (f k p j)
  run f j (token v) = token v
  run f j (argument a i) = argument a (paired i j)

  -- The operand at a place, counted from 0, run by a number; past the end a fixed token, which no typed code reaches.
  pub run_operand : Clauses → Codes → ℕ → ℕ → Code
  run_operand f nil i j = token 0
  run_operand f (cons a t) zero j = run f j a
  run_operand f (cons a t) (suc i) j = run_operand f t i j

-- Codes have at most 16 levels.
abbrev pub code_levels : ℕ
code_levels = 16

-- What the code of a clause may use: each argument of its production by the numbers that its kind has.
unfoldable pub uses_of : Translation → ℕ → ℕ → Uses
uses_of f k p = map (mapping_of f.body) (get_or (arguments_of f.source k p) [])

-- The code of a clause of number j read: of the kind that the result maps to by j, where 03 i has the kind that argument
-- i's kind maps to by 0, and 04 i m the kind that it maps to by m.
unfoldable pub read_clause : Translation → ℕ → ℕ → ℕ → List ℕ → Read Code
read_clause f k p j bytes = read code f.target (uses_of f k p) code_levels (mapped f.body k j) bytes

-- The code that was read, with nothing after it.
abbrev pub whole_code : Read Code → Option Code
whole_code (done c []) = some c
whole_code (done c (b ∷ s)) = none
whole_code deep = none
whole_code broken = none

-- The clauses of a translation. A well-formed one has a code for each source production and each number of its result.
unfoldable pub clauses_of : Translation → Clauses
clauses_of f k p j = get_or (whole_code (read_clause f k p j (get_or (clause_of f.body k p j) []))) (token 0)

-- The transformation function (C.9), by a number.
unfoldable pub transform : Translation → ℕ → Code → Code
transform f j c = run (clauses_of f) j c
