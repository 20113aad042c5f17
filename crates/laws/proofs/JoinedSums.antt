-- Joining f after the sum of g and h comes to the sum of the two joins (paper 02, 2026-11).
use Prim.Native.Nat.{ℕ}
use mathlib.Core.Path.{◌≡◌, refl, ap, sym, subst, ◌∙◌}
use mathlib.Core.Logic.{inl, inr, ⊎_elim}
use mathlib.Core.Bool.{true, false}
use Rattle.outcome.specs.Outcome.{value}
use Rattle.format_fields.proofs.Truth.{Mem}
use Rattle.format_language.specs.Language.{is_in}
use Rattle.format_translation.specs.Translation.{Item, mapping, clause, Translation, numbers_of}
use Rattle.format_pack.specs.Terms.{Term, translations, sum, join}
use Rattle.reduce_operators.specs.Operators.{numbers_low, join_fits, joined}
use Rattle.reduce_operators.specs.Limits.{is_deep, code_is_deep}
use Rattle.reduce_operators.specs.Inner.Paired.{reached, paired_item}
use Rattle.reduce_operators.proofs.Proper.{Sound, GoodTranslation}
use Rattle.reduce_operators.proofs.SumSound.{Part, part_code}
use Rattle.format_translation.proofs.ItemParts.{mapping_parts, mapping_clause}
use Rattle.reduce_operators.proofs.JoinRises.{mem_join, join_cases, joined_rises}
use Rattle.reduce_operators.proofs.JoinSound.{clause_source, sound_join}
use Rattle.reduce_signs.specs.Evaluation.{Constants, nothing_bound, evaluate}
use Rattle.reduce_terms.proofs.Evaluated.{GoodConstants}
use Rattle.laws.proofs.Subsets.{Subset, Lies, InEither, lies_within}
use Rattle.laws.proofs.Alike.{part_fits, part_low, reached_alike, paired_alike}
use Rattle.laws.proofs.Signs.{Joins, join_value, value_join, value_good, sum_parts, value_whole}

-- A translation g lies in another, v, both sound: the join of f after g lies in the join of f after v.
module _ (g v : Translation) (sg : Sound g) (sv : Sound v) (l : Lies g v) (f : Translation) where
  -- Each item of the join after g is one of the join after v.
  joined_onward : Subset (joined f g).body (joined f v).body
  joined_onward x m =
      let q = join_cases f g x m in
      let n = subst (λ (k : ℕ). Mem q.1 (numbers_of f.body k)) (reached_alike g v sg sv l q.0 q.2) q.3 in
      subst (λ (z : Item). Mem z (joined f v).body) (sym (q.4 ∙ paired_alike g v sg sv l f q.0 q.2 q.1)) (mem_join f v q.0 q.1 (l.body _ q.2) n)

  -- What comes of an item of g in the join after v is in the join after g.
  joined_back : (a : Item) (j : ℕ) → Mem a g.body → Mem j (numbers_of f.body (reached v a)) → Mem (paired_item f v a j) (joined f g).body
  joined_back a j m n =
      subst (λ (z : Item). Mem z (joined f g).body) (paired_alike g v sg sv l f a m j)
      (mem_join f g a j m (subst (λ (k : ℕ). Mem j (numbers_of f.body k)) (sym (reached_alike g v sg sv l a m)) n))

  -- A kind of g has in the join after g all numbers that it has in the join after v.
  joined_numbers : (k n t : ℕ) → is_in g.source k ≡ true → Mem (mapping k n t) (joined f v).body → Mem (mapping k n t) (joined f g).body
  joined_numbers k n t i m = let q = join_cases f v (mapping k n t) m in go q.0 q.1 q.2 q.3 q.4
    where
      go : (a : Item) (j : ℕ) → Mem a v.body → Mem j (numbers_of f.body (reached v a)) → mapping k n t ≡ paired_item f v a j → Mem (mapping k n t) (joined f g).body
      go (mapping s y u) j a b e =
          let here = subst (λ (z : ℕ). is_in g.source z ≡ true) (mapping_parts e).0 i in
          subst (λ (z : Item). Mem z (joined f g).body) (sym e) (joined_back (mapping s y u) j (l.numbers s y u here a) b)
      go (clause r p y d) j a b e = mapping_clause e

  -- So the one join lies in the other.
  joined_lies : Lies (joined f g) (joined f v)
  unfolding joined
  joined_lies = record { source = l.source; target = λ a m. m; body = joined_onward; numbers = joined_numbers }

  -- The join after g is sound where the join after v is.
  module _ (sf : Sound f) (sj : Sound (joined f v)) (fits : join_fits f g ≡ true) (first : numbers_low f ≡ true) (second : numbers_low g ≡ true) where
    -- The join after g has the target of the join after v, and maps the kinds of g as that does.
    back_part : Part (joined f v) (joined f g)
    unfolding joined
    back_part = record {
      source_rises = sv.source.rises;
      whole_rises = sg.source.rises;
      body_rises = sj.rises;
      whole_body_rises = joined_rises f g sf.rises first sg.rises second;
      target = λ a m. m;
      target_rises = sf.target.rises;
      mappings = λ k j t i m. joined_numbers k j t i m;
      numbers = λ k j t i m. joined_onward _ m;
    }

    -- No code of the join after g is too deep: it is read as in the join after v.
    joined_shallow : (a : Item) → Mem a (joined f g).body → code_is_deep (joined f g) a ≡ false
    unfolding code_is_deep joined
    joined_shallow (mapping s j t) m = refl
    joined_shallow (clause r p n d) m =
        let x = clause_source f g sf sg fits first second r p n d m in
        ap is_deep (part_code (joined f v) (joined f g) sj.fits back_part r p n x.0 d (l.source _ x.1) x.1 (joined_onward _ m))

    -- So it is sound.
    part_sound : Sound (joined f g)
    part_sound = sound_join f g sf sg fits first second joined_shallow

-- Where all of w is in x or y, all of the join after w is in the join after x or the one after y.
joined_either : (f x y w : Translation) → Sound x → Sound y → Sound w → Lies x w → Lies y w → InEither x y w → InEither (joined f x) (joined f y) (joined f w)
unfolding joined
joined_either f x y w sx sy sw lx ly h = record {
  source = h.source;
  target = λ a m. inl m;
  body = λ a m.
      let q = join_cases f w a m in
      ⊎_elim
      (λ n. inl (subst (λ (z : Item). Mem z (joined f x).body) (sym q.4) (joined_back x w sx sw lx f q.0 q.1 n q.3)))
      (λ n. inr (subst (λ (z : Item). Mem z (joined f y).body) (sym q.4) (joined_back y w sy sw ly f q.0 q.1 n q.3)))
      (h.body q.0 q.2);
}

module _ (c : Constants) (good : GoodConstants c) where
  -- Where joining f after w is accepted, so is joining it after a term whose value lies in w.
  join_part : (f g : Term translations) (x y w v : Translation) → evaluate c nothing_bound f ≡ value x → evaluate c nothing_bound g ≡ value y
      → Sound w → Lies y w → GoodTranslation (joined x w) → Joins x w v → evaluate c nothing_bound (join f g) ≡ value (joined x y)
  join_part f g x y w v p q sw l j says =
      let sx = (value_good c good f x p).sound in
      let sy = (value_good c good g y q).sound in
      let h = part_fits x y w l says.fits in
      let low = part_low y w l says.low_second in
      let s = part_sound y w sy sw l x sx j.sound h says.low_first low in
      value_join c f g x y p q h says.low_first low (lies_within (joined x y) (joined x w) s j (joined_lies y w sy sw l x))

  -- If joining f after the sum of g and h is accepted, so is the sum of the two joins, with the same value.
  pub joined_sum_lem : (f g h : Term translations) (v : Translation)
      → evaluate c nothing_bound (join f (sum g h)) ≡ value v → evaluate c nothing_bound (sum (join f g) (join f h)) ≡ value v
  joined_sum_lem f g h v e =
      let p = join_value c f (sum g h) v e in
      let x = p.first in
      let w = p.second in
      let q = sum_parts c good g h w p.second_value in
      let sw = (value_good c good (sum g h) w p.second_value).sound in
      let sy = (value_good c good g q.0 q.2).sound in
      let sz = (value_good c good h q.1 q.3).sound in
      let j = subst GoodTranslation (sym p.says.is) (value_good c good (join f (sum g h)) v e) in
      let a = join_part f g x q.0 w v p.first_value q.2 sw q.4 j p.says in
      let b = join_part f h x q.1 w v p.first_value q.3 sw q.5 j p.says in
      value_whole c good (join f g) (join f h) (joined x q.0) (joined x q.1) (joined x w) a b j
      (joined_lies q.0 w sy sw q.4 x) (joined_lies q.1 w sz sw q.5 x)
      (joined_either x q.0 q.1 w sy sz sw q.4 q.5 q.6) ∙ ap value p.says.is
