-- Export and import undo each other: the laws of specs/Laws.antt.
use Prim.Native.Nat.{ℕ}
use mathlib.Core.Path.{◌≡◌, sym, ap, ◌∙◌}
use mathlib.Core.Bool.{false, not}
use mathlib.Core.List.{List, [], ◌∷◌, append-nil}
use Rattle.outcome.specs.Outcome.{value}
use Rattle.outcome.specs.declared.Reason.TheVariants.{UnknownRoot}
use Rattle.format_fields.proofs.Codec.{refused_value, value_inj}
use Rattle.format_language.specs.Language.{Language, is_in}
use Rattle.format_language.proofs.Codec.{language_good}
use Rattle.tree_reader.specs.Code.{Code}
use Rattle.tree_reader.specs.Syntax.{Read, done, deep, broken, read, tree}
use Rattle.tree_reader.specs.Operations.{tree_levels, whole_tree, tree_of}
use Rattle.tree_reader.proofs.Larger.{apart}
use Rattle.tree_reader.proofs.Sound.{read_done}
use Rattle.format_translation.proofs.Fitting.{refuse_value}
use Rattle.check_operations.proofs.Legal.{tree_done}
use Rattle.xml_text.specs.Text.{export}
use Rattle.xml_text.specs.Import.{read_text}
use Rattle.xml_operations.specs.Operations.{whole_text, import_of}
use Rattle.xml_operations.specs.Laws.{LawOfExports, LawOfImports, LawOfTexts}
use Rattle.xml_text.proofs.Round.{round, sound}

-- What was read whole.
text_done : (o : Read Code) (t : Code) → whole_text o ≡ value t → o ≡ done t []
text_done (done u []) t e = ap (λ (x : Code). done x []) (value_inj e)
text_done (done u (b ∷ s)) t e = refused_value e
text_done deep t e = refused_value e
text_done broken t e = refused_value e

import_read : (l : Language) (root : ℕ) (text : List ℕ) (t : Code) → import_of l root text ≡ value t → read_text l tree_levels root text ≡ done t []
unfolding import_of
import_read l root text t e =
    text_done _ t (refuse_value (not (is_in l root)) UnknownRoot (whole_text (read_text l tree_levels root text)) e).1

import_of_lem : (l : Language) (root : ℕ) (text : List ℕ) (t : Code) → not (is_in l root) ≡ false → read_text l tree_levels root text ≡ done t []
    → import_of l root text ≡ value t
unfolding import_of
import_of_lem l root text t i e = rw (i, e)

pub law_of_exports : LawOfExports
unfolding tree_of
law_of_exports file l root bytes t f e =
    let r = refuse_value (not (is_in l root)) UnknownRoot (whole_tree (read tree l [] tree_levels root bytes)) e in
    let d = read_done tree l [] tree_levels root bytes t [] (tree_done _ t r.1) in
    let z = round l (apart l (language_good file l f).1.apart) d.0 tree_levels [] d.1 in
    import_of_lem l root (export l root t) t r.0 (ap (read_text l tree_levels root) (sym (append-nil (export l root t))) ∙ z)

pub law_of_imports : LawOfImports
law_of_imports l root text t e =
    let w = sound l tree_levels root text t [] (import_read l root text t e) in
    (w.2 ∙ append-nil (export l root t), w.0, w.1)

pub law_of_texts : LawOfTexts
law_of_texts l root first second t e f =
    (law_of_imports l root first t e).0 ∙ sym (law_of_imports l root second t f).0
