-- The index of the source as the front of the table of a run.
use Prim.Native.Nat.{ℕ, ◌+◌, ◌<◌}
use mathlib.Core.Path.{◌≡◌, refl, sym, ◌∙◌}
use mathlib.Core.List.{List, [], ◌∷◌}
use native.Mathlib.Omega.{arith}
use lib.ListN.{length, get_or, take}
use lib.Seq.{get_or-take, length-take-le}
use Rattle.format_language.specs.Language.{production_key}
use Rattle.tree_reader.specs.Inner.Index.{Built}
use Rattle.format_translation.specs.Translation.{Translation}
use Rattle.run_measure.specs.Inner.Counting.{Tables}
use Rattle.run_measure.specs.Inner.Measuring.{Counted}

-- What is counted by the index of a longer table is what is counted by its front.
module _ (index table : List ℕ) (same : (j : ℕ) → j < 8224 → get_or table j 0 ≡ get_or index j 0) where
  pub counted_front : (t : Tables) (width : ℕ) (f : Translation) → Counted t width index f → Counted t width table f
  counted_front t width f z = record {
    owns = λ k p j u ks h i e q. rw (same (production_key k p) (omega arith)) (z.owns k p j u ks h i e q);
    used = λ k p j u ks h i e q a m n l. rw (same (production_key k p) (omega arith)) (z.used k p j u ks h i e q a m n l);
    narrow = z.narrow;
  }

-- begin: the index is the front of the table.
module _ (s table : List ℕ) (long : length table ≡ 26184) where
  pub front_length : length (take 8224 table) ≡ 8224
  front_length = length-take-le 8224 table (omega arith)

  pub front_same : (j : ℕ) → j < 8224 → get_or table j 0 ≡ get_or (take 8224 table) j 0
  front_same j h = sym (get_or-take 8224 table j 0 h)

  pub front_built : Built 0x11 s table 0 → Built 0x11 s (take 8224 table) 0
  front_built w = record { zeros = w.zeros; long = w.long; zero = w.zero; is = λ j h. get_or-take 8224 table (0 + j) 0 (omega arith) ∙ w.is j h }

-- measure_single: no entries are lent.
no_entries : (l : List ℕ) → length l ≡ 0 → l ≡ []
no_entries [] e = refl
no_entries (x ∷ t) e = absurd (omega arith)

pub counted_none : (counts entries index : List ℕ) (f : Translation) → length entries ≡ 0 → Counted (counts, entries) 1 index f → Counted (counts, []) 1 index f
counted_none counts entries index f e z = rw (no_entries entries e) at z
