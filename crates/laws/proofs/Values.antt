-- Whatever reduce accepts is a translation that the check accepts (document 000: C.14, C.16, C.18, and "without").
use Rattle.std.specs.Prelude.{Ok}
use Prim.Native.Nat.{ℕ}
use mathlib.Core.Path.{◌≡◌, ap, sym, ◌∙◌}
use mathlib.Core.List.{List}
use Rattle.outcome.specs.Outcome.{value, checked}
use Rattle.format_translation.specs.TranslationFile.{encode_translation, translation_of}
use Rattle.format_translation.specs.Operations.{check_translation}
use Rattle.reduce_operators.proofs.Proper.{good_back}
use Rattle.reduce_signs.specs.Evaluation.{constants_of, nothing_bound, evaluate}
use Rattle.reduce_operation.specs.Operations.{ready, work, reduce_bytes}
use Rattle.reduce_terms.proofs.Evaluated.{step_value, value_inj}
use Rattle.reduce_operation.proofs.Operation.{ready_value}
use Rattle.laws.proofs.Reductions.{constants_good}
use Rattle.laws.proofs.Signs.{value_good}

pub reduced_checked : (pack : List ℕ) (workspace output : ℕ) (bytes : List ℕ) → reduce_bytes pack workspace output ≡ value bytes
    → check_translation bytes ≡ Ok 0
unfolding reduce_bytes work check_translation
reduced_checked pack workspace output bytes e =
    let a = step_value (ready pack workspace output) work e in
    let r = ready_value pack workspace output a.0 a.1 in
    let b = step_value (evaluate (constants_of a.0.pack) nothing_bound a.0.term) (λ f. value (encode_translation f)) a.2 in
    let good = value_good (constants_of a.0.pack) (constants_good pack a.0.pack r.0) a.0.term b.0 b.1 in
    ap checked (ap translation_of (sym (value_inj b.2)) ∙ good_back b.0 good)
