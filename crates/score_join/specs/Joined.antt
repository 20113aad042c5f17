-- A load table joined onto a translation (paper 02, 2026-03): it gives a source tree the score that the table gives its run. The
-- translation has number 0 only (paper 02, 2026-13).
use Rattle.std.specs.Prelude.{ℕ, suc, Bool, true, not, ◌&&◌, List, [], ◌∷◌, map, length}
use Rattle.outcome.specs.Outcome.{Result, value, refuse_if, ◌>>=◌, written, output_after, Outcome}
use Rattle.outcome.specs.declared.Reason.TheVariants.{NumberUnfit, ValueTooLarge}
use Rattle.format_fields.specs.Lists.{all, concat_map, count_up}
use Rattle.format_language.specs.Language.{Entry, class, production}
use Rattle.tree_reader.specs.Code.{Code}
use Rattle.format_translation.specs.Translation.{Translation}
use Rattle.format_translation.specs.Running.{clauses_of}
use Rattle.format_translation.specs.TranslationFile.{translation_of}
use Rattle.format_translation.specs.Operations.{fitted}
use Rattle.format_translation.specs.Plain.{plain}
use Rattle.score_tree.specs.Figures.{is_figure}
use Rattle.score_tree.specs.LoadTable.{load, Table, table_of, figure_of, encode_table}
use Rattle.score_tree.specs.Linear.{Loads, form, passes}

-- Place j of a code's form fits two bytes, at each production of the code and at its root.
unfoldable pub place_fits : Loads → Code → ℕ → Bool
place_fits w c j = passes is_figure w c j && is_figure (form w c j)

-- The places of a production with n arguments: the constant, and a factor for each.
abbrev pub places_of : ℕ → List ℕ
places_of n = count_up (suc n) 0

-- All places of the clause of a production fit.
unfoldable pub load_fits : Translation → Loads → Entry → Bool
load_fits f w (class k c) = true
load_fits f w (production r p ks) = all (place_fits w (clauses_of f r p 0)) (places_of (length ks))

-- The load of a production is the form of its clause's code; a class has none.
unfoldable pub joined_load : Translation → Loads → Entry → Table
joined_load f w (class k c) = []
joined_load f w (production r p ks) = load r p (map (form w (clauses_of f r p 0)) (places_of (length ks))) ∷ []

-- The joined table: a load for each production of the source.
unfoldable pub joined_table : Translation → Loads → Table
joined_table f w = concat_map (joined_load f w) f.source

-- The same, or 11 where a figure does not fit.
unfoldable pub joined_of : Translation → Table → Result Table
joined_of f w = refuse_if (not (all (load_fits f (figure_of w)) f.source)) ValueTooLarge (value (joined_table f (figure_of w)))

-- Join a table: 1 to 7 for the translation, 26 where it has any number but 0, 18 against the target, 11, and 17 last.
unfoldable pub join_bytes : List ℕ → List ℕ → ℕ → Result (List ℕ)
join_bytes translation table room =
    translation_of translation >>= λ f.
    refuse_if (not (plain f.body)) NumberUnfit
    (table_of f.target table >>= λ w.
    joined_of f w >>= λ v.
    fitted room (encode_table v))

-- All that the operation answers and leaves.
pub record Joining : Type 0 where
  pub outcome : Outcome
  pub output : List ℕ

-- Join a table, with the output as it is lent.
unfoldable pub join_table : List ℕ → List ℕ → List ℕ → Joining
join_table translation table output =
    let result = join_bytes translation table (length output) in
    record { outcome = written result; output = output_after output result }
