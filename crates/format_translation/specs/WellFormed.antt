-- Well-formed translations (paper 01, "Translations", "Well formed means"; document 000: C.6 as condensed there; with
-- numbers, paper 02, 2026-13).
use Rattle.std.specs.Prelude.{ℕ, Bool, true, false, not, ◌&&◌, List}
use Rattle.std.specs.Bool.{beq}
use Rattle.std.proofs.Math.Option.{Option, none, some}
use Rattle.outcome.specs.Outcome.{Result, value, refuse_if}
use Rattle.outcome.specs.declared.Reason.TheVariants.{WrongMapping, WrongClauses, IllegalCode}
use Rattle.format_fields.specs.Lists.{all, is_some, count_up}
use Rattle.format_language.specs.Language.{Entry, class, production, Range, range_within, is_in, range_of, arguments_of}
use Rattle.format_translation.specs.Translation.{Translation, Item, mapping, clause, mapping_of, clause_of, numbers_of}
use Rattle.format_translation.specs.Running.{read_clause, whole_code}

-- The kinds 0 to 31.
unfoldable pub kinds : List ℕ
kinds = count_up 32 0

-- Exactly the kinds in the source are mapped by number 0.
unfoldable pub kinds_mapped : Translation → Bool
kinds_mapped f = all (λ k. beq (is_some (mapping_of f.body k 0)) (is_in f.source k)) kinds

-- A mapping, of any number, is that of a kind in the source, and goes to a kind in the target.
unfoldable pub reaches_target : Translation → Item → Bool
reaches_target f (mapping s j t) = is_in f.source s && is_in f.target t
reaches_target f (clause r p j code) = true

-- There is a range, and the first lies in it.
abbrev pub lies_in : Range → Option Range → Bool
lies_in c none = false
lies_in c (some d) = range_within c d

-- The range of a source class, if there is one, lies in that of the target.
abbrev pub keeps_range : Option Range → Option Range → Bool
keeps_range none d = true
keeps_range (some c) d = lies_in c d

-- A source class maps, by each number that it has, to a target class that contains its range (paper 02, 2026-01 and 2026-10).
unfoldable pub class_kept : Translation → Item → Bool
class_kept f (mapping s j t) = keeps_range (range_of f.source s) (range_of f.target t)
class_kept f (clause r p j code) = true

-- The mapping is as required: 5 where it is not.
unfoldable pub mapping_fits : Translation → Bool
mapping_fits f = kinds_mapped f && (all (reaches_target f) f.body && all (class_kept f) f.body)

-- Each source production has a clause for each number of its result. (A second one is out of order.)
unfoldable pub has_clause : Translation → Entry → Bool
has_clause f (class k c) = true
has_clause f (production r p arguments) = all (λ j. is_some (clause_of f.body r p j)) (numbers_of f.body r)

-- Each clause has its production in the source, and its number is one of the result's.
unfoldable pub has_production : Translation → Item → Bool
has_production f (mapping s j t) = true
has_production f (clause r p j code) = is_some (arguments_of f.source r p) && is_some (mapping_of f.body r j)

-- No clause is missing and none is extra: 6 where it is not so.
unfoldable pub clauses_fit : Translation → Bool
clauses_fit f = all (has_clause f) f.source && all (has_production f) f.body

-- A clause's code, with nothing after it, is of the kind that its result maps to by its number.
unfoldable pub code_fits : Translation → Item → Bool
code_fits f (mapping s j t) = true
code_fits f (clause r p j code) = is_some (whole_code (read_clause f r p j code))

-- All codes are of their kinds: 7 where one is not.
unfoldable pub codes_fit : Translation → Bool
codes_fit f = all (code_fits f) f.body

-- 5, 6 or 7, the lowest, where the translation is not well formed.
unfoldable pub well_formed : Translation → Result Translation
well_formed f =
    refuse_if (not (mapping_fits f)) WrongMapping
    (refuse_if (not (clauses_fit f)) WrongClauses
    (refuse_if (not (codes_fit f)) IllegalCode
    (value f)))
