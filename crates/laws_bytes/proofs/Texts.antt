-- Export and import undo each other, in bytes.
use Prim.Native.Nat.{ℕ, ◌<◌, ◌≤◌}
use mathlib.Core.Path.{◌≡◌, sym, ap, ◌∙◌}
use mathlib.Core.Bool.{true, not}
use mathlib.Core.List.{List, [], append-nil}
use lib.ListN.{length}
use lib.Dec.{ltb}
use borrow.Author.Tests.{le-ltb}
use Rattle.outcome.specs.Outcome.{value, ◌>>=◌}
use Rattle.format_fields.specs.Fields.{byte_at}
use Rattle.outcome.specs.declared.Reason.TheVariants.{OutputTooShort, UnknownRoot}
use Rattle.format_fields.proofs.Truth.{true_not}
use Rattle.format_fields.proofs.Codec.{step_value, value_inj}
use Rattle.format_language.specs.Language.{Language, is_in}
use Rattle.format_language.specs.LanguageFile.{language_of}
use Rattle.format_language.proofs.Codec.{language_good}
use Rattle.tree_reader.specs.Code.{Code, levels}
use Rattle.tree_reader.specs.Typing.{Typed}
use Rattle.tree_reader.specs.Syntax.{read, write, tree, done}
use Rattle.tree_reader.specs.Operations.{tree_levels, tree_of}
use Rattle.tree_reader.proofs.RoundTrip.{Apart, as_tree, round}
use Rattle.tree_reader.proofs.Larger.{apart}
use Rattle.check_operations.proofs.Legal.{tree_of_lem}
use Rattle.format_translation.specs.Operations.{fitted}
use Rattle.format_translation.proofs.Fitting.{refuse_value}
use Rattle.tree_index.proofs.Checking.{tree_bytes}
use Rattle.xml_text.specs.Text.{export}
use Rattle.xml_text.specs.Import.{read_text}
use Rattle.xml_operations.specs.Operations.{whole_text, import_of, export_text, import_bytes}
use Rattle.xml_operations.proofs.Inverse.{law_of_exports, law_of_imports}
use Rattle.laws_bytes.specs.Texts.{ExactlyTheExports}

-- A result that fits is what was to be put out; what is not longer than the room fits.
pub fitted_value : (room : ℕ) (bytes result : List ℕ) → fitted room bytes ≡ value result → bytes ≡ result
fitted_value room bytes result e = value_inj (refuse_value (ltb room (length bytes)) OutputTooShort (value bytes) e).1

pub fits : (room : ℕ) (bytes : List ℕ) → length bytes ≤ room → fitted room bytes ≡ value bytes
fits room bytes h = rw (le-ltb room (length bytes) h)

-- A legal tree within the levels is read back from its bytes.
pub written_back : (l : Language) → Apart l → (k : ℕ) (t : Code) → is_in l k ≡ true → Typed l [] t k → levels t ≤ tree_levels → tree_of l k (write tree t) ≡ value t
written_back l a k t i h d =
    tree_of_lem l k (write tree t) (done t []) i (ap (read tree l [] tree_levels k) (sym (append-nil (write tree t))) ∙ round l a h as_tree tree_levels [] d)

-- The root of what import accepts is in the language.
import_in : (l : Language) (root : ℕ) (text : List ℕ) (t : Code) → import_of l root text ≡ value t → is_in l root ≡ true
unfolding import_of
import_in l root text t e = true_not (is_in l root) (refuse_value (not (is_in l root)) UnknownRoot (whole_text (read_text l tree_levels root text)) e).0

module _ (language : List ℕ) (root : ℕ) (bytes text : List ℕ) (room space : ℕ) where
  export_imports : ((i : ℕ) → byte_at bytes i < 256) → length bytes ≤ space → export_text language root bytes room ≡ value text
      → import_bytes language root text space ≡ value bytes
  unfolding export_text import_bytes
  export_imports narrow h e =
      let a = step_value (language_of language) (λ l. tree_of l root bytes >>= λ t. fitted room (export l root t)) e in
      let b = step_value (tree_of a.0 root bytes) (λ t. fitted room (export a.0 root t)) a.2 in
      let x = fitted_value room (export a.0 root b.0) text b.2 in
      let i = law_of_exports language a.0 root bytes b.0 a.1 b.1 in
      let w = tree_bytes a.0 root bytes b.0 narrow b.1 in
      let m : import_of a.0 root text ≡ value b.0 = ap (import_of a.0 root) (sym x) ∙ i in
      rw (a.1, m, w) (fits space bytes h)

  import_exports : length text ≤ room → import_bytes language root text space ≡ value bytes → export_text language root bytes room ≡ value text
  unfolding export_text import_bytes
  import_exports h e =
      let a = step_value (language_of language) (λ l. import_of l root text >>= λ t. fitted space (write tree t)) e in
      let b = step_value (import_of a.0 root text) (λ t. fitted space (write tree t)) a.2 in
      let x = fitted_value space (write tree b.0) bytes b.2 in
      let w = law_of_imports a.0 root text b.0 b.1 in
      let i = import_in a.0 root text b.0 b.1 in
      let r = written_back a.0 (apart a.0 (language_good language a.0 a.1).1.apart) root b.0 i w.1 w.2 in
      let m : tree_of a.0 root bytes ≡ value b.0 = ap (tree_of a.0 root) (sym x) ∙ r in
      rw (a.1, m, ← w.0) (fits room text h)

pub exactly_the_exports : ExactlyTheExports
exactly_the_exports language root bytes text room space narrow h k =
    (export_imports language root bytes text room space narrow k, import_exports language root bytes text room space h)
