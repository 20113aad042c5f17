-- Export and import undo each other, in bytes (paper 02, 2026-05: "Import accepts exactly the exports of legal trees of the given
-- root kind within the levels, and gives the tree back").
use Rattle.std.specs.Prelude.{ℕ, ◌≤◌, ◌≡◌, List, length}
use Rattle.outcome.specs.Outcome.{value}
use Rattle.xml_operations.specs.Operations.{export_text, import_bytes}
use Rattle.laws_bytes.specs.Files.{OfBytes}

-- Export puts out a text for a tree exactly if import puts out that tree for the text, where the outputs have room: the import of
-- an export is the caller's bytes, the export of an import the caller's text, and no other text is accepted.
abbrev pub ExactlyTheExports : Type 0
ExactlyTheExports =
    (language : List ℕ) (root : ℕ) (bytes text : List ℕ) (room space : ℕ)
    → OfBytes bytes → length text ≤ room → length bytes ≤ space
    → (export_text language root bytes room ≡ value text → import_bytes language root text space ≡ value bytes)
    × (import_bytes language root text space ≡ value bytes → export_text language root bytes room ≡ value text)
