-- An accepted join of sound translations: what its kinds are mapped to, its codes, and how it runs.
use Prim.Native.Nat.{ℕ, ◌<◌}
use mathlib.Core.Path.{◌≡◌, sym, subst, ◌∙◌}
use mathlib.Core.Bool.{true, false}
use mathlib.Core.Option.{some}
use mathlib.Core.List.{List, []}
use Rattle.format_fields.proofs.Truth.{Mem}
use Rattle.format_language.specs.Language.{arguments_of}
use Rattle.tree_reader.specs.Code.{Code}
use Rattle.tree_reader.specs.Typing.{Uses, Typed}
use Rattle.format_translation.specs.Translation.{Item, mapping, Body, Translation, number_of, mapping_of, mapped}
use Rattle.format_translation.specs.Running.{paired, run, clauses_of, transform}
use Rattle.format_translation.proofs.Lookup.{mapping_mem}
use Rattle.format_translation.proofs.Running.{ByZero, pair_first, pair_second}
use Rattle.reduce_operators.specs.Operators.{numbers_low, joined}
use Rattle.reduce_operators.specs.Limits.{code_is_deep}
use Rattle.reduce_operators.proofs.Accepted.{code_shallow}
use Rattle.reduce_operators.proofs.Proper.{Sound}
use Rattle.reduce_operators.proofs.JoinRises.{low_is}
use Rattle.reduce_operators.proofs.JoinSound.{join_mapped, join_chained, join_clauses, join_codes, join_runs}
use Rattle.laws.proofs.Signs.{Joins}

-- The kind that a kind with this number maps to.
pub mapped_to : (b : Body) (k j u : ℕ) → mapping_of b k j ≡ some u → mapped b k j ≡ u
unfolding mapped
mapped_to b k j u e = rw e

-- Where a translation has low numbers only, a kind is mapped by low numbers only.
pub mapping_low : (f : Translation) → numbers_low f ≡ true → (k j t : ℕ) → mapping_of f.body k j ≡ some t → j < 16
unfolding number_of
mapping_low f low k j t e = low_is f low (mapping k j t) (mapping_mem f.body k j t e)

-- A join that was tested, of sound translations, and is sound.
pub record SoundJoin (f g : Translation) : Type 0 where
  pub first : Sound f
  pub second : Sound g
  pub whole : Sound (joined f g)
  pub says : Joins f g (joined f g)

-- A join with a sound value is one.
pub sound_value : (f g v : Translation) → Sound f → Sound g → Sound v → Joins f g v → SoundJoin f g
sound_value f g v sf sg sv j = record {
  first = sf;
  second = sg;
  whole = subst Sound (sym j.is) sv;
  says = subst (Joins f g) (sym j.is) j;
}

module _ (f g : Translation) (s : SoundJoin f g) where
  -- What a kind maps to by two numbers paired.
  pub mapped_pair : (k i u j t : ℕ) → mapping_of g.body k i ≡ some u → mapping_of f.body u j ≡ some t → mapping_of (joined f g).body k (paired i j) ≡ some t
  mapped_pair = join_mapped f g s.first s.second s.says.fits s.says.low_first s.says.low_second

  -- And it maps by them only so.
  pub pair_mapped : (k i j t : ℕ) → j < 16 → mapping_of (joined f g).body k (paired i j) ≡ some t
      → (u : ℕ) × (mapping_of g.body k i ≡ some u) × (mapping_of f.body u j ≡ some t)
  pair_mapped = join_chained f g s.first s.second s.says.fits s.says.low_first s.says.low_second

  -- No code of it is too deep.
  shallows : (a : Item) → Mem a (joined f g).body → code_is_deep (joined f g) a ≡ false
  shallows = code_shallow (joined f g) s.whole

  -- The code of a production by two numbers paired is that of the second, run through the first.
  pub code_joined : (r p i u j t : ℕ) (ks : List ℕ) → arguments_of g.source r p ≡ some ks → mapping_of g.body r i ≡ some u → mapping_of f.body u j ≡ some t
      → clauses_of (joined f g) r p (paired i j) ≡ run (clauses_of f) j (clauses_of g r p i)
  code_joined r p i u j t ks e m n =
      let low = mapping_low f s.says.low_first u j t n in
      sym (join_clauses f g s.first s.second s.says.fits s.says.low_first s.says.low_second shallows r p (paired i j) t ks e (mapped_pair r i u j t m n))
      ∙ (λ z. run (clauses_of f) (pair_second i j low z) (clauses_of g r p (pair_first i j low z)))

  -- A code that uses by number 0 only is run through the second and then the first.
  pub code_runs : {uses : Uses} {a : Code} {k : ℕ} (i u j t : ℕ) → Typed g.source uses a k → ByZero a → mapping_of g.body k i ≡ some u → mapping_of f.body u j ≡ some t
      → run (clauses_of (joined f g)) (paired i j) a ≡ run (clauses_of f) j (run (clauses_of g) i a)
  code_runs = join_codes f g s.first s.second s.says.fits s.says.low_first s.says.low_second shallows

  -- So is a tree.
  pub tree_runs : {a : Code} {k : ℕ} (i u j t : ℕ) → Typed g.source [] a k → mapping_of g.body k i ≡ some u → mapping_of f.body u j ≡ some t
      → transform (joined f g) (paired i j) a ≡ transform f j (transform g i a)
  tree_runs = join_runs f g s.first s.second s.says.fits s.says.low_first s.says.low_second shallows
