-- The search back (paper 02, 2026-09).
use Rattle.std.specs.Prelude.{ℕ, Bool, not, ◌&&◌, List, length, replicate, leb}
use Rattle.std.proofs.Math.Option.{Option, none, some}
use Rattle.outcome.specs.Outcome.{Result, value, refused, refuse_if, ◌>>=◌, written, output_after, Outcome}
use Rattle.outcome.specs.declared.Reason.TheVariants.{UnknownRoot, NoSource, LimitOutOfRange, NumberUnfit}
use Rattle.format_language.specs.Language.{is_in}
use Rattle.tree_reader.specs.Operations.{tree_of}
use Rattle.format_translation.specs.Translation.{Translation, mapped}
use Rattle.format_translation.specs.TranslationFile.{translation_of}
use Rattle.format_translation.specs.Operations.{fitted}
use Rattle.format_translation.specs.Plain.{plain}
use Rattle.search_sources.specs.Sources.{search_of}

-- A limit is 1 to 16.
abbrev pub is_limit : ℕ → Bool
is_limit n = leb 1 n && leb n 16

-- What is asked before a search is made: 1 to 7 for the translation, 26 where it has any number but 0 (paper 02, 2026-13), 14
-- for the source kind, 15 and 16 for the target tree against the kind that it maps to, 24 for the limit.
unfoldable pub ready : (translation : List ℕ) (root : ℕ) (target : List ℕ) (limit : ℕ) → Result Translation
ready translation root target limit =
    translation_of translation >>= λ f.
    refuse_if (not (plain f.body)) NumberUnfit
    (refuse_if (not (is_in f.source root)) UnknownRoot
    (tree_of f.target (mapped f.body root 0) target >>= λ u.
    refuse_if (not (is_limit limit)) LimitOutOfRange
    (value f)))

-- 23 where there is no source tree.
abbrev pub found : Option (List ℕ) → Result (List ℕ)
found none = refused NoSource
found (some bytes) = value bytes

-- The search itself: 23 where there is no source tree within the limit, 17; then the bytes of the first one.
unfoldable pub found_in : Translation → (root : ℕ) (target : List ℕ) (limit room : ℕ) → Result (List ℕ)
found_in f root target limit room = found (search_of f limit root target) >>= λ bytes. fitted room bytes

-- Search back.
unfoldable pub search_bytes : (translation : List ℕ) (root : ℕ) (target : List ℕ) (limit room : ℕ) → Result (List ℕ)
search_bytes translation root target limit room =
    ready translation root target limit >>= λ f. found_in f root target limit room

-- The lent workspace at exit: all zero where a search was made, which answers 0, 23 or 17, and unchanged otherwise.
abbrev pub workspace_after : List ℕ → Result Translation → List ℕ
workspace_after workspace (value f) = replicate (length workspace) 0
workspace_after workspace (refused r) = workspace

-- All that the search answers and leaves.
pub record Searched : Type 0 where
  pub outcome : Outcome
  pub workspace : List ℕ
  pub output : List ℕ

-- The search, with workspace and output as they are lent.
unfoldable pub search_tree : (translation : List ℕ) (root : ℕ) (target : List ℕ) (limit : ℕ) (workspace output : List ℕ) → Searched
search_tree translation root target limit workspace output =
    let result = search_bytes translation root target limit (length output) in
    record {
      outcome = written result;
      workspace = workspace_after workspace (ready translation root target limit);
      output = output_after output result;
    }
