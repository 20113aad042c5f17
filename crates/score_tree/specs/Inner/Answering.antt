-- What the functions below the scores ask for and answer.
use Rattle.std.specs.Prelude as Std
use Rattle.std.specs.Prelude.{ℕ, ◌<◌, ◌≤◌, ◌≡◌, false, not, List, [], ◌∷◌, length, ℤ}
use Rattle.std.proofs.Math.Option.{some}
use Rattle.outcome.specs.Outcome.{Result, value, refused, refuse_if, ◌>>=◌}
use Rattle.outcome.specs.declared.Reason.{Reason}
use Rattle.outcome.specs.declared.Reason.TheVariants.{UnknownRoot, IllegalTree, TooDeep, ScoreOutOfRange}
use Rattle.format_language.specs.Language.{Language, clashes, is_in}
use Rattle.format_language.specs.LanguageFile.{entries_of, language_of}
use Rattle.tree_reader.specs.Syntax.{Read, done, deep, broken}
use Rattle.tree_reader.specs.Operations.{tree_levels}
use Rattle.score_tree.specs.LoadTable.{Table, table_of, figure_of}
use Rattle.score_tree.specs.Inner.Kept.{Kept}
use Rattle.score_tree.specs.Inner.Spreads.{Spread, read_spread}
use Rattle.score_tree.specs.Inner.Sums.{ends}
use Rattle.score_tree.specs.declared.figures.Ends.{Ends}
use Rattle.score_tree.specs.declared.walk.Tokens.{Tokens}

-- What a score answers.
abbrev pub answered : Result Spread → Std.Result Ends Reason
answered (value t) = Std.Ok (ends t.least t.greatest)
answered (refused r) = Std.Err r

-- The bytes s are those of language l, and the figures those of its table w.
pub record Held (s : List ℕ) (figures : List ℤ) (l : Language) (w : Table) : Type 0 where
  pub entries : entries_of s ≡ some l
  pub apart : clashes l l ≡ false
  pub short : length s ≤ 1024
  pub kept : Kept figures s w

-- A language and a table of it.
pub record Ground : Type 0 where
  pub language : Language
  pub table : Table

abbrev pub ground : Language → Table → Ground
ground l w = record { language = l; table = w }

-- Language and table of a score, where the root is in the language: 1 to 4, 18, 14, the first links of the chain of a score.
unfoldable pub ground_of : List ℕ → ℕ → List ℕ → Result Ground
ground_of s root t =
    language_of s >>= λ l.
    table_of l t >>= λ w.
    refuse_if (not (is_in l root)) UnknownRoot (value (ground l w))

-- What is known where they were accepted.
pub record Prepared (s : List ℕ) (figures : List ℤ) (root : ℕ) (g : Ground) : Type 0 where
  pub held : Held s figures g.language g.table
  pub kind : root < 32

-- What was read, with nothing after it: 16 and 15 in reading order, 15 for leftover bytes, last 19 over the whole plan.
abbrev pub whole_spread : Read Spread → Result Spread
whole_spread (done t []) = refuse_if (not t.within) ScoreOutOfRange (value t)
whole_spread (done t (b ∷ s)) = refused IllegalTree
whole_spread deep = refused TooDeep
whole_spread broken = refused IllegalTree

-- The ends of a plan's score by language and table, with such tokens: the last links of the chain.
unfoldable pub ends_on : Tokens → Language → Table → ℕ → List ℕ → Result Spread
ends_on tokens l w root bytes = whole_spread (read_spread tokens l (figure_of w) tree_levels root bytes)

-- The whole chain.
unfoldable pub plan_ends : Tokens → List ℕ → ℕ → List ℕ → List ℕ → Result Spread
plan_ends tokens s root bytes t = ground_of s root t >>= λ g. ends_on tokens g.language g.table root bytes
