-- The last links of the chains of tests of `check_tree` and `check_translation`, as the code has them.
use Rattle.tree_reader.specs.declared.node.ReadError.TheVariants.{Deep, Broken}
use Rattle.tree_reader.specs.Inner.Positions.{Read}
use Rattle.std.specs.Prelude.{ℕ, cond, not, ◌||◌, eqb, Err, Ok}
use Rattle.outcome.specs.Outcome.{Result, refuse_if, Outcome}
use Rattle.outcome.specs.declared.Reason.TheVariants.{OutOfOrder, ClassIsResult, IllegalTree, TooDeep}
use Rattle.format_language.specs.Language.{clashes}
use Rattle.format_translation.specs.Translation.{Translation}
use Rattle.format_translation.specs.TranslationFile.{all_rising}
use Rattle.format_translation.specs.WellFormed.{well_formed}

-- What a whole tree comes to, where the bytes are n long.
abbrev pub whole_at : Read → ℕ → Outcome
whole_at (Ok e) n = cond (eqb e n) (Ok 0) (Err IllegalTree)
whole_at (Err Deep) n = Err TooDeep
whole_at (Err Broken) n = Err IllegalTree

-- What is asked of a translation that is whole: 3 to 7, the last links of the chain of `translation_of`.
abbrev pub in_order : Translation → Result Translation
in_order f =
    refuse_if (not (all_rising f)) OutOfOrder
    (refuse_if (clashes f.source f.source || clashes f.target f.target) ClassIsResult
    (well_formed f))
