-- The score of a tree (paper 02, 2026-03).
use Rattle.std.specs.Prelude.{ℕ, not, List, ℤ, pos}
use Rattle.outcome.specs.Outcome.{Result, value, refused, refuse_if, ◌>>=◌, checked, Outcome}
use Rattle.outcome.specs.declared.Reason.TheVariants.{ScoreOutOfRange}
use Rattle.format_language.specs.LanguageFile.{language_of}
use Rattle.tree_reader.specs.Code.{Code}
use Rattle.tree_reader.specs.Operations.{tree_of}
use Rattle.score_tree.specs.Figures.{is_score}
use Rattle.score_tree.specs.LoadTable.{Table, table_of, figure_of}
use Rattle.score_tree.specs.Linear.{form, passes}

-- The score of a legal tree: 19 where the score of some node lies outside the range.
unfoldable pub score_of : Table → Code → Result ℤ
score_of w t = refuse_if (not (passes is_score (figure_of w) t 0)) ScoreOutOfRange (value (form (figure_of w) t 0))

-- Score: 1 to 4 for the language, 18 for the table, 14, then 15 and 16 in reading order, 19 over the whole tree.
unfoldable pub score_bytes : List ℕ → ℕ → List ℕ → List ℕ → Result ℤ
score_bytes language root bytes table =
    language_of language >>= λ l.
    table_of l table >>= λ w.
    tree_of l root bytes >>= λ t.
    score_of w t

-- All that a score answers.
pub record Scoring : Type 0 where
  pub outcome : Outcome
  pub score : ℤ

-- A refused score is 0.
abbrev pub score_in : Result ℤ → ℤ
score_in (value z) = z
score_in (refused r) = pos 0

-- Score, as it is answered. There is no output, so the length is 0.
unfoldable pub score_tree : List ℕ → ℕ → List ℕ → List ℕ → Scoring
score_tree language root bytes table =
    let result = score_bytes language root bytes table in
    record { outcome = checked result; score = score_in result }
