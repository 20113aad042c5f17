-- What a joined table promises (paper 02, 2026-03), over all translations, tables, roots, trees and outputs.
use Rattle.std.specs.Prelude.{ℕ, ◌≡◌, List, ℤ}
use Rattle.outcome.specs.Outcome.{value}
use Rattle.format_language.specs.LanguageFile.{language_of}
use Rattle.format_translation.specs.Translation.{Translation, mapped}
use Rattle.format_translation.specs.TranslationFile.{translation_of}
use Rattle.format_translation.specs.Operations.{run_bytes}
use Rattle.score_tree.specs.LoadTable.{Table, table_of}
use Rattle.score_tree.specs.Operations.{score_bytes}
use Rattle.score_join.specs.Joined.{join_bytes}

-- A joined table is a table of the source: 18 never follows.
abbrev pub JoinedIsTable : Type 0
JoinedIsTable =
    (translation table joined : List ℕ) (room : ℕ) (f : Translation)
    → translation_of translation ≡ value f
    → join_bytes translation table room ≡ value joined
    → (v : Table) × (table_of f.source joined ≡ value v)

-- Where the joined table's score of a tree and the table's score of its run are both accepted, they are equal. The run's bytes
-- are scored as a tree of the kind in the target to which the root maps. A translation that a table is joined onto
-- has no number but 0, so the run is by 0.
abbrev pub ScoresAgree : Type 0
ScoresAgree =
    (translation table joined source target tree output : List ℕ) (room space root : ℕ) (f : Translation) (x y : ℤ)
    → translation_of translation ≡ value f
    → language_of source ≡ value f.source
    → language_of target ≡ value f.target
    → join_bytes translation table room ≡ value joined
    → run_bytes translation root 0 tree space ≡ value output
    → score_bytes source root tree joined ≡ value x
    → score_bytes target (mapped f.body root 0) output table ≡ value y
    → x ≡ y
