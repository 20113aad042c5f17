-- A translation that lies in another has the same codes, and is joined alike.
use Prim.Native.Nat.{ℕ}
use mathlib.Core.Path.{◌≡◌, refl, ap, sym, ◌∙◌}
use mathlib.Core.Bool.{true}
use mathlib.Core.List.{List, map}
use Rattle.format_fields.specs.Keyed.{holds, within}
use Rattle.format_fields.proofs.Truth.{Mem, all_mem, mem_all}
use Rattle.tree_reader.specs.Code.{Code}
use Rattle.tree_reader.specs.Syntax.{write, code}
use Rattle.format_translation.specs.Translation.{Item, mapping, clause, Translation, numbers_of}
use Rattle.format_translation.specs.Running.{paired, run, clauses_of}
use Rattle.format_translation.proofs.Lookup.{mem_mapped}
use Rattle.format_translation.proofs.Fitting.{clause_code}
use Rattle.reduce_operators.specs.Operators.{entry_within, low_number, numbers_low, join_fits, join_item}
use Rattle.reduce_operators.specs.Inner.Paired.{reached, paired_item}
use Rattle.reduce_operators.proofs.Proper.{Sound}
use Rattle.reduce_operators.proofs.SumSound.{Part, part_code}
use Rattle.reduce_operators.proofs.JoinRises.{join_item_lem}
use Rattle.laws.proofs.Subsets.{Lies}

-- Where the join after a translation fits, so does the join after one that lies in it.
pub part_fits : (f g v : Translation) → Lies g v → join_fits f v ≡ true → join_fits f g ≡ true
unfolding join_fits within
part_fits f g v l h = mem_all (holds entry_within f.source) g.target (λ a m. all_mem (holds entry_within f.source) v.target h a (l.target a m))

-- Where no number of a translation is above 15, none is in one that lies in it.
pub part_low : (g v : Translation) → Lies g v → numbers_low v ≡ true → numbers_low g ≡ true
unfolding numbers_low
part_low g v l h = mem_all low_number g.body (λ a m. all_mem low_number v.body h a (l.body a m))

-- A translation g lies in another, v, both sound.
module _ (g v : Translation) (sg : Sound g) (sv : Sound v) (l : Lies g v) where
  -- It is a part of the other.
  lies_part : Part g v
  lies_part = record {
    source_rises = sg.source.rises;
    whole_rises = sv.source.rises;
    body_rises = sg.rises;
    whole_body_rises = sv.rises;
    target = l.target;
    target_rises = sv.target.rises;
    mappings = λ k j t i m. l.body _ m;
    numbers = l.numbers;
  }

  -- The clauses of g have the same codes in v.
  code_alike : (r p i : ℕ) (d : List ℕ) → Mem (clause r p i d) g.body → clauses_of g r p i ≡ clauses_of v r p i
  code_alike r p i d m =
      let x = (sg.fits.clauses_only r p i d m).0 in
      let a = sg.fits.codes r p i d m in
      clause_code g sg.rises r p i d a.0 m a.1
      ∙ sym (clause_code v sv.rises r p i d a.0 (l.body _ m) (part_code g v sg.fits lies_part r p i x.0 d x.1 (l.source _ x.1) m))

  -- The items of g reach the same kinds in v.
  pub reached_alike : (a : Item) → Mem a g.body → reached g a ≡ reached v a
  reached_alike (mapping s i t) m = refl
  reached_alike (clause r p i d) m =
      let t = (sg.fits.clauses_only r p i d m).1 in
      mem_mapped g.body sg.rises r i t.0 t.1 ∙ sym (mem_mapped v.body sv.rises r i t.0 (l.body _ t.1))

  module _ (f : Translation) where
    -- What comes of an item of g and a number is the same in the join of f after g and in that after v.
    pub paired_alike : (a : Item) → Mem a g.body → (j : ℕ) → paired_item f g a j ≡ paired_item f v a j
    paired_alike (mapping s i t) m j = refl
    paired_alike (clause r p i d) m j = ap (λ (x : Code). clause r p (paired i j) (write code (run (clauses_of f) j x))) (code_alike r p i d m)

    -- So is all that comes of the item.
    pub item_alike : (a : Item) → Mem a g.body → join_item f g a ≡ join_item f v a
    item_alike a m =
        join_item_lem f g a
        ∙ ((λ z. map (λ j. paired_alike a m j z) (numbers_of f.body (reached_alike a m z)))
        ∙ sym (join_item_lem f v a))
