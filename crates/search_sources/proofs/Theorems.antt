-- The theorems on the search back.
use Prim.Native.Nat.{ℕ, ◌<◌}
use mathlib.Core.Path.{◌≡◌, ap, ◌∙◌}
use mathlib.Core.List.{List}
use mathlib.Core.Option.{Option, none, some}
use Rattle.outcome.specs.Outcome.{value}
use Rattle.format_fields.specs.Fields.{byte_at}
use Rattle.format_fields.specs.Lists.{keep, same_numbers}
use Rattle.format_fields.proofs.Truth.{Mem, keep_cases, mem_keep, mem_map, map_cases, numbers_equal, equal_numbers}
use Rattle.tree_reader.specs.Code.{Code}
use Rattle.tree_reader.specs.Syntax.{write, tree}
use Rattle.tree_reader.proofs.RoundTrip.{Apart}
use Rattle.tree_reader.proofs.Larger.{apart}
use Rattle.format_translation.specs.Translation.{Translation}
use Rattle.format_translation.specs.TranslationFile.{translation_of}
use Rattle.format_translation.proofs.Codec.{translation_whole}
use Rattle.search_sources.specs.Trees.{trees_within}
use Rattle.search_sources.specs.Sources.{runs_to, sources_of, search_of}
use Rattle.search_sources.specs.Inner.Giving.{Gives, FoundGives, NothingBefore, NoneGives}
use Rattle.search_sources.proofs.Ordering.{FirstIn, first_in}
use Rattle.search_sources.proofs.Names.{source_names}
use Rattle.search_sources.proofs.Within.{within_legal, legal_within}

-- What is found is the first of the source trees that run to the target.
module _ (f : Translation) (n k : ℕ) (target : List ℕ) (o : Option (List ℕ)) (e : search_of f n k target ≡ o) where
  first_source : FirstIn (sources_of f n k target) o
  unfolding search_of
  first_source = rw e at (first_in (sources_of f n k target))

  module _ (file : List ℕ) (accepted : translation_of file ≡ value f) (narrow : (i : ℕ) → byte_at file i < 256) where
    separate : Apart f.source
    separate = apart f.source (translation_whole file f accepted).1.source_apart

    gives_source : (t : Code) → Gives f n k target t → Mem (write tree t) (sources_of f n k target)
    unfolding sources_of runs_to
    gives_source t h =
        mem_map (write tree) t (keep (runs_to f target) (trees_within f.source n k))
        (mem_keep (runs_to f target) t (trees_within f.source n k) (legal_within f.source separate (source_names file f accepted narrow) n h.legal h.within)
        (ap (λ (s : List ℕ). same_numbers s target) h.runs ∙ equal_numbers target))

pub found_gives : FoundGives
unfolding sources_of runs_to
found_gives f n k target bytes e =
    let w = first_source f n k target (some bytes) e in
    let z = map_cases (write tree) bytes (keep (runs_to f target) (trees_within f.source n k)) w.0 in
    let y = keep_cases (runs_to f target) z.0 (trees_within f.source n k) z.1 in
    let x = within_legal f.source n k z.0 y.0 in
    (z.0, record { legal = x.0; within = x.1; runs = numbers_equal _ _ y.1 }, z.2)

pub nothing_before : NothingBefore
nothing_before file f accepted narrow n k target bytes e t h =
    (first_source f n k target (some bytes) e).1 (write tree t) (gives_source f n k target (some bytes) e file accepted narrow t h)

pub none_gives : NoneGives
none_gives file f accepted narrow n k target e t h =
    first_source f n k target none e (write tree t) (gives_source f n k target none e file accepted narrow t h)
