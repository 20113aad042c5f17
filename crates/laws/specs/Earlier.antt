-- What the earlier rule of levels accepted is accepted by the current one, with the same bytes (paper 02, 2026-07).
use Rattle.std.specs.Prelude.{ℕ, ◌≡◌, Bool, true, not, ◌||◌, List, [], length, ltb}
use Rattle.std.proofs.Math.Option.{Option, get_or}
use Rattle.outcome.specs.Outcome.{Result, value, refuse_if, ◌>>=◌}
use Rattle.outcome.specs.declared.Reason.TheVariants.{TooLong, OutOfOrder, ClassIsResult, WrongMapping, WrongClauses, IllegalCode, UnknownRoot}
use Rattle.format_fields.specs.Fields.{has_over}
use Rattle.format_fields.specs.Lists.{all, is_some}
use Rattle.format_language.specs.Language.{Language, is_in, clashes}
use Rattle.format_language.specs.LanguageFile.{language_limit, whole}
use Rattle.tree_reader.specs.Code.{Code, token}
use Rattle.tree_reader.specs.Typing.{Uses}
use Rattle.tree_reader.specs.Syntax.{Syntax, tree, code, write, done, Rule, earlier, current, read_by, read}
use Rattle.tree_reader.specs.Operations.{tree_levels, whole_tree}
use Rattle.format_translation.specs.Translation.{Translation, Item, mapping, clause, mapping_of, clause_of, mapped}
use Rattle.format_translation.specs.Running.{Clauses, run, code_levels, uses_of, whole_code}
use Rattle.format_translation.specs.WellFormed.{mapping_fits, clauses_fit}
use Rattle.format_translation.specs.TranslationFile.{parts_of, translation_limit, is_language_tag, all_rising}
use Rattle.format_translation.specs.Operations.{fitted, run_bytes}

-- Whatever the earlier rule reads, as a tree or as a code, the current rule reads to the same term and rest.
abbrev pub LawOfRules : Type 0
LawOfRules =
    (x : Syntax) (l : Language) (uses : Uses) (n k : ℕ) (bytes : List ℕ) (a : Code) (rest : List ℕ)
    → read_by earlier x l uses n k bytes ≡ done a rest → read x l uses n k bytes ≡ done a rest

-- The code of a clause of number j by a rule of levels, with nothing after it.
unfoldable pub code_by : Rule → Translation → ℕ → ℕ → ℕ → List ℕ → Option Code
code_by c f k p j bytes = whole_code (read_by c code f.target (uses_of f k p) code_levels (mapped f.body k j) bytes)

-- The clauses of a translation by a rule.
unfoldable pub clauses_by : Rule → Translation → Clauses
clauses_by c f k p j = get_or (code_by c f k p j (get_or (clause_of f.body k p j) [])) (token 0)

-- A clause's code is of the mapped result kind by a rule.
unfoldable pub code_fits_by : Rule → Translation → Item → Bool
code_fits_by c f (mapping s j t) = true
code_fits_by c f (clause r p j bytes) = is_some (code_by c f r p j bytes)

-- 5, 6 or 7, the lowest, where the translation is not well formed by a rule.
unfoldable pub well_formed_by : Rule → Translation → Result Translation
well_formed_by c f =
    refuse_if (not (mapping_fits f)) WrongMapping
    (refuse_if (not (clauses_fit f)) WrongClauses
    (refuse_if (not (all (code_fits_by c f) f.body)) IllegalCode
    (value f)))

-- The translation that a file holds by a rule: 1 to 7, the lowest, where it holds none that is well formed.
unfoldable pub translation_by : Rule → List ℕ → Result Translation
translation_by c s =
    refuse_if (ltb translation_limit (length s) || has_over is_language_tag language_limit s) TooLong
    (whole (parts_of s) >>= λ f.
    refuse_if (not (all_rising f)) OutOfOrder
    (refuse_if (clashes f.source f.source || clashes f.target f.target) ClassIsResult
    (well_formed_by c f)))

-- The legal tree of kind root that the bytes are by a rule: 14, 15 or 16 where they are none.
unfoldable pub tree_by : Rule → Language → ℕ → List ℕ → Result Code
tree_by c l root bytes = refuse_if (not (is_in l root)) UnknownRoot (whole_tree (read_by c tree l [] tree_levels root bytes))

-- Run by a number, by a rule.
unfoldable pub run_by : Rule → List ℕ → ℕ → ℕ → List ℕ → ℕ → Result (List ℕ)
run_by c translation root number bytes room =
    translation_by c translation >>= λ f.
    refuse_if (not (is_some (mapping_of f.body root number))) UnknownRoot
    (tree_by c f.source root bytes >>= λ t.
    fitted room (write tree (run (clauses_by c f) number t)))

-- By the current rule that is run, as the operation has it.
abbrev pub RunByCurrent : Type 0
RunByCurrent =
    (translation : List ℕ) (root number : ℕ) (bytes : List ℕ) (room : ℕ)
    → run_by current translation root number bytes room ≡ run_bytes translation root number bytes room

-- Sessions accepted earlier give the same bytes.
abbrev pub SessionsStay : Type 0
SessionsStay =
    (translation : List ℕ) (root number : ℕ) (bytes : List ℕ) (room : ℕ) (result : List ℕ)
    → run_by earlier translation root number bytes room ≡ value result → run_bytes translation root number bytes room ≡ value result
