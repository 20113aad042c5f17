-- The score of a loose plan (paper 02, 2026-14).
use Rattle.std.specs.Prelude.{ℕ, not, List, [], ◌∷◌, ℤ, pos}
use Rattle.outcome.specs.Outcome.{Result, value, refused, refuse_if, ◌>>=◌, checked, Outcome}
use Rattle.outcome.specs.declared.Reason.TheVariants.{UnknownRoot, IllegalTree, TooDeep, ScoreOutOfRange}
use Rattle.format_language.specs.Language.{Language, is_in}
use Rattle.format_language.specs.LanguageFile.{language_of}
use Rattle.tree_reader.specs.Syntax.{Read, done, deep, broken}
use Rattle.tree_reader.specs.Operations.{tree_levels}
use Rattle.score_tree.specs.LoadTable.{Table, table_of, figure_of}
use Rattle.score_loose.specs.Plans.{Loose, read_loose}
use Rattle.score_loose.specs.Ends.{low, high, end, both_within}

-- What was read, with nothing after it: 16 and 15 in reading order, last 15 for leftover bytes.
abbrev pub whole_plan : Read Loose → Result Loose
whole_plan (done t []) = value t
whole_plan (done t (b ∷ s)) = refused IllegalTree
whole_plan deep = refused TooDeep
whole_plan broken = refused IllegalTree

-- The loose plan of kind root that the bytes are: 14, 15 or 16 where they are none.
unfoldable pub loose_of : Language → ℕ → List ℕ → Result Loose
loose_of l root bytes = refuse_if (not (is_in l root)) UnknownRoot (whole_plan (read_loose l tree_levels root bytes))

-- The two ends of a score.
pub record Ends : Type 0 where
  pub least : ℤ
  pub greatest : ℤ

abbrev pub ends : ℤ → ℤ → Ends
ends a z = record { least = a; greatest = z }

-- The ends of the score of a loose plan: 19 where an end of some node's score lies outside the range.
unfoldable pub ends_of : Table → Loose → Result Ends
ends_of w t =
    refuse_if (not (both_within (figure_of w) t)) ScoreOutOfRange
    (value (ends (end low (figure_of w) t) (end high (figure_of w) t)))

-- Score of a loose plan: 1 to 4 for the language, 18 for the table, 14, then 15 and 16 in reading order, 19 over the whole plan.
unfoldable pub loose_bytes : List ℕ → ℕ → List ℕ → List ℕ → Result Ends
loose_bytes language root bytes table =
    language_of language >>= λ l.
    table_of l table >>= λ w.
    loose_of l root bytes >>= λ t.
    ends_of w t

-- All that it answers.
pub record LooseScoring : Type 0 where
  pub outcome : Outcome
  pub least : ℤ
  pub greatest : ℤ

-- A refused one gives 0 and 0.
abbrev pub ends_in : Result Ends → Ends
ends_in (value e) = e
ends_in (refused r) = ends (pos 0) (pos 0)

-- Score of a loose plan, as it is answered. There is no output, so the length is 0.
unfoldable pub score_loose : List ℕ → ℕ → List ℕ → List ℕ → LooseScoring
score_loose language root bytes table =
    let result = loose_bytes language root bytes table in
    record { outcome = checked result; least = (ends_in result).least; greatest = (ends_in result).greatest }
