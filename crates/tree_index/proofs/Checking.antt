-- A tree that was accepted lies in its bytes, and the language's index is at hand.
use Rattle.std.specs.Prelude.{Ok}
use Prim.Native.Nat.{ℕ, ◌<◌}
use mathlib.Core.Path.{◌≡◌, sym, ◌∙◌}
use mathlib.Core.List.{List, [], append-nil}
use mathlib.Core.Option.{some}
use native.Mathlib.Omega.{arith}
use lib.ListN.{get_or}
use Rattle.format_fields.specs.Fields.{byte_at}
use Rattle.outcome.specs.Outcome.{value, Outcome}
use Rattle.format_fields.proofs.Codec.{bytes_from}
use Rattle.format_language.specs.Language.{Language}
use Rattle.format_language.specs.LanguageFile.{entries_of}
use Rattle.tree_reader.specs.Code.{Code}
use Rattle.tree_reader.specs.Syntax.{write, tree}
use Rattle.tree_reader.specs.Operations.{tree_of, check_tree}
use Rattle.tree_reader.specs.Inner.Index.{Indexed}
use Rattle.tree_reader.proofs.Members.{in_below}
use Rattle.check_operations.proofs.Opening.{language_facts}
use Rattle.check_operations.proofs.Legal.{tree_right, Checked, accepted_tree}
use Rattle.tree_index.specs.Inner.Lying.{Lies, There}

-- A tree that was accepted is its bytes, and lies in them.
pub tree_bytes : (l : Language) (k : ℕ) (b : List ℕ) (t : Code) → ((i : ℕ) → byte_at b i < 256) → tree_of l k b ≡ value t → write tree t ≡ b
tree_bytes l k b t bytes e = sym (((tree_right l k b t e).1.2 (bytes_from b (λ i j. bytes i))).0 ∙ append-nil (write tree t))

pub tree_lies : (l : Language) (k : ℕ) (b : List ℕ) (t : Code) → ((i : ℕ) → byte_at b i < 256) → tree_of l k b ≡ value t → Lies l b 0 k t
tree_lies l k b t bytes e =
    let w = tree_right l k b t e in
    record {
      rest = [];
      is = sym (append-nil (write tree t) ∙ tree_bytes l k b t bytes e);
      inside = omega arith;
      typed = w.1.0;
      within = w.1.1;
      known = w.0;
    }

module _ (s : List ℕ) (root : ℕ) (b : List ℕ) {o : Outcome} (eo : o ≡ check_tree s root b) {n : ℕ} (accepted : o ≡ Ok n) where
  pub checked_tree : Checked s root b
  checked_tree = accepted_tree s root b (sym eo ∙ accepted)

  pub root_small : root < 32
  root_small =
      let c = checked_tree in
      in_below s root c.language (language_facts s c.language c.is).0 (tree_right c.language root b c.subject c.tree_is).0

  pub tree_there : (index : List ℕ) → ((i : ℕ) → get_or b i 0 < 256)
      → ((m : ℕ) (l : Language) → o ≡ Ok m → entries_of s ≡ some l → Indexed index s l)
      → There index s b 0 root checked_tree.language checked_tree.subject
  tree_there index bytes indexed =
      let c = checked_tree in
      let f = language_facts s c.language c.is in
      record {
        index_of = record { indexed = indexed n c.language accepted f.0; apart = f.1 };
        lies = tree_lies c.language root b c.subject bytes c.tree_is;
      }
