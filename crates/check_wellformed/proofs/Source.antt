-- The index of the source, by which the tests are stated: what is looked up through it is what stands in the source.
use Prim.Native.Nat.{ℕ, ◌<◌}
use mathlib.Core.Path.{refl}
use mathlib.Core.List.{List}
use lib.ListN.{get_or, replicate, length-replicate}
use Rattle.tree_reader.specs.Inner.Index.{Indexed}
use Rattle.tree_reader.proofs.Indexed.{build_is}
use Rattle.tree_reader.proofs.Lookup.{zeros}
use Rattle.format_translation.specs.Translation.{Translation}
use Rattle.check_wellformed.specs.Inner.Ready.{Ready, index_of}

pub source_indexed : (s t it b u : List ℕ) (f : Translation) → Ready s t it b u f → ((i : ℕ) → get_or s i 0 < 256) → Indexed (index_of s) s f.source
unfolding index_of
source_indexed s t it b u f z bytes =
    build_is s (replicate 8224 0) bytes z.short (length-replicate {A = ℕ} 8224 0) (zeros 8224) f.source z.source refl
