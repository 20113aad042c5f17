-- The law of sums holds.
use Prim.Native.Nat.{ℕ}
use mathlib.Core.Path.{◌≡◌, refl, ap, sym, subst, ◌∙◌}
use mathlib.Core.Logic.{inl, inr, ⊎_elim}
use mathlib.Core.Bool.{true}
use mathlib.Core.List.{List}
use Rattle.outcome.specs.Outcome.{value}
use Rattle.format_fields.proofs.Truth.{and_both, both_and, mem_append, append_cases}
use Rattle.format_translation.specs.Translation.{Translation}
use Rattle.format_pack.specs.Terms.{Term, translations, scoped}
use Rattle.reduce_operators.specs.Operators.{translation_union}
use Rattle.reduce_signs.specs.Evaluation.{Constants, nothing_bound, evaluate}
use Rattle.reduce_operators.proofs.Proper.{GoodTranslation}
use Rattle.reduce_terms.proofs.Evaluated.{value_inj, GoodConstants}
use Rattle.laws.specs.Sums.{Sum, alone, plus, as_term, built_from, In, SumOver, LawOfSums}
use Rattle.laws.proofs.Comparing.{ScopedToo, ValueToo, accepted_alike}
use Rattle.laws.proofs.Subsets.{Lies, lies_itself, lies_further, lies_equal}
use Rattle.laws.proofs.Signs.{value_good, sum_parts, value_part}

module _ (c : Constants) (good : GoodConstants c) where
  -- A term has a value that lies in v.
  abbrev ValueIn : Translation → Term translations → Type 0
  ValueIn v t = (x : Translation) × (evaluate c nothing_bound t ≡ value x) × Lies x v

  -- What a sum is built from has values, and they lie in its value.
  built_lies : (s : Sum) (v : Translation) → evaluate c nothing_bound (as_term s) ≡ value v → (t : Term translations) → In t (built_from s) → ValueIn v t
  unfolding as_term built_from
  built_lies (alone u) v e t (inl q) = (v, ap (evaluate c nothing_bound) q ∙ e, lies_itself v)
  built_lies (plus a b) v e t m =
      let p = sum_parts c good (as_term a) (as_term b) v e in
      ⊎_elim
      (λ n. let r = built_lies a p.0 p.2 t n in (r.0, r.1, lies_further r.2 p.4))
      (λ n. let r = built_lies b p.1 p.3 t n in (r.0, r.1, lies_further r.2 p.5))
      (append_cases t (built_from a) (built_from b) m)
  built_lies (alone u) v e t (inr x3) = elim x3 [ ]

  -- A sum built from terms whose values lie in a good translation has a value that lies in it.
  lies_built : (s : Sum) (v : Translation) → GoodTranslation v → ((t : Term translations) → In t (built_from s) → ValueIn v t) → ValueIn v (as_term s)
  unfolding as_term built_from
  lies_built (alone u) v g h = h u (inl refl)
  lies_built (plus a b) v g h =
      let p = lies_built a v g (λ t m. h t (mem_append t (built_from a) (built_from b) (inl m))) in
      let q = lies_built b v g (λ t m. h t (mem_append t (built_from a) (built_from b) (inr m))) in
      let r = value_part c good (as_term a) (as_term b) p.0 q.0 v p.1 q.1 g p.2 q.2 in
      (translation_union p.0 q.0, r.0, r.1)

  -- Two sums of the same terms have the same value.
  same_value : (a b : Sum) → ((t : Term translations) → In t (built_from b) → In t (built_from a)) → ((t : Term translations) → In t (built_from a) → In t (built_from b))
      → (v : Translation) → evaluate c nothing_bound (as_term a) ≡ value v → evaluate c nothing_bound (as_term b) ≡ value v
  same_value a b f g v e =
      let gv = value_good c good (as_term a) v e in
      let p = lies_built b v gv (λ t m. built_lies a v e t (f t m)) in
      let w = p.0 in
      let gw = value_good c good (as_term b) w p.1 in
      let q = lies_built a w gw (λ t m. built_lies b w p.1 t (g t m)) in
      let z : q.0 ≡ v = value_inj (sym q.1 ∙ e) in
      p.1 ∙ ap value (lies_equal w v gw.sound gv.sound p.2 (subst (λ (x : Translation). Lies x w) z q.2))

-- A sum is in scope where all that it is built from is.
scoped_built : (l b : ℕ) (s : Sum) → scoped l b (as_term s) ≡ true → (t : Term translations) → In t (built_from s) → scoped l b t ≡ true
unfolding as_term built_from scoped
scoped_built l b (alone u) e t (inl q) = ap (scoped l b) q ∙ e
scoped_built l b (plus x y) e t m =
    let r = and_both (scoped l b (as_term x)) (scoped l b (as_term y)) e in
    ⊎_elim (λ n. scoped_built l b x r.0 t n) (λ n. scoped_built l b y r.1 t n) (append_cases t (built_from x) (built_from y) m)
scoped_built l b (alone u) e t (inr x3) = elim x3 [ ]

built_scoped : (l b : ℕ) (s : Sum) → ((t : Term translations) → In t (built_from s) → scoped l b t ≡ true) → scoped l b (as_term s) ≡ true
unfolding as_term built_from scoped
built_scoped l b (alone u) h = h u (inl refl)
built_scoped l b (plus x y) h =
    both_and (scoped l b (as_term x)) (scoped l b (as_term y))
    (built_scoped l b x (λ t m. h t (mem_append t (built_from x) (built_from y) (inl m))))
    (built_scoped l b y (λ t m. h t (mem_append t (built_from x) (built_from y) (inr m))))

-- A sum is in scope, and comes to a value, where another over the same set is and does.
scoped_too : (set : List (Term translations)) (a b : Sum) → SumOver set a → SumOver set b → ScopedToo (as_term a) (as_term b)
scoped_too set a b p q l n s = built_scoped l n b (λ t m. scoped_built l n a s t (p.each t (q.only t m)))

value_too : (set : List (Term translations)) (a b : Sum) → SumOver set a → SumOver set b → ValueToo (as_term a) (as_term b)
value_too set a b p q c good v e = same_value c good a b (λ t m. p.each t (q.only t m)) (λ t m. q.each t (p.only t m)) v e

-- The law of sums.
pub law_of_sums : LawOfSums
law_of_sums set a b p q =
    accepted_alike (as_term a) (as_term b) (scoped_too set a b p q) (scoped_too set b a q p) (value_too set a b p q) (value_too set b a q p)
