-- What is shown of every tree that is found (paper 02, 2026-09), on trees: it runs to the target tree, nothing that does comes before
-- it, and where none is found, none does. `laws_bytes/Searches` says it of bytes.
use Rattle.std.specs.Prelude.{ℕ, ◌<◌, ◌≤◌, ◌≡◌, false, List, []}
use Rattle.std.proofs.Math.Option.{none, some}
use Rattle.outcome.specs.Outcome.{value}
use Rattle.format_fields.specs.Fields.{byte_at}
use Rattle.tree_reader.specs.Code.{Code, levels}
use Rattle.tree_reader.specs.Typing.{Typed}
use Rattle.tree_reader.specs.Syntax.{write, tree}
use Rattle.format_translation.specs.Translation.{Translation}
use Rattle.format_translation.specs.TranslationFile.{translation_of}
use Rattle.format_translation.specs.Running.{transform}
use Rattle.search_sources.specs.Sources.{before, search_of}

-- A legal source tree of kind k within n levels whose run by number 0, the only one where a search is made, is in bytes the
-- target tree.
pub record Gives (f : Translation) (n k : ℕ) (target : List ℕ) (t : Code) : Type 0 where
  pub legal : Typed f.source [] t k
  pub within : levels t ≤ n
  pub runs : write tree (transform f 0 t) ≡ target

-- What is found is such a tree.
abbrev pub FoundGives : Type 0
FoundGives =
    (f : Translation) (n k : ℕ) (target bytes : List ℕ) → search_of f n k target ≡ some bytes
    → (t : Code) × Gives f n k target t × (bytes ≡ write tree t)

-- In a translation from a file of bytes no such tree comes before it in byte order.
abbrev pub NothingBefore : Type 0
NothingBefore =
    (file : List ℕ) (f : Translation) → translation_of file ≡ value f → ((i : ℕ) → byte_at file i < 256) → (n k : ℕ) (target bytes : List ℕ)
    → search_of f n k target ≡ some bytes → (t : Code) → Gives f n k target t → before (write tree t) bytes ≡ false

-- In such a translation there is none where none is found.
abbrev pub NoneGives : Type 0
NoneGives =
    (file : List ℕ) (f : Translation) → translation_of file ≡ value f → ((i : ℕ) → byte_at file i < 256) → (n k : ℕ) (target : List ℕ)
    → search_of f n k target ≡ none → (t : Code) → Gives f n k target t → ⊥
