-- C.9: what the transformation relation gives is the project's run; and C.15: the project's join is the composition.
use Prim.Native.Nat.{ℕ}
use mathlib.Core.Path.{◌≡◌, refl, subst}
use mathlib.Core.Logic.{◌↔◌}
use mathlib.Core.Bool.{true}
use mathlib.Core.List.{List}
use native.Mathlib.Omega.{arith}
use borrow.Author.Tests.{lt-ltb}
use Rattle.format_fields.proofs.Truth.{Mem, mem_all}
use Rattle.format_fields.proofs.Keyed.{rising_is}
use Rattle.format_language.specs.Language.{production, Language}
use Rattle.tree_reader.specs.Code.{Code, Codes, nil, cons}
use Rattle.tree_reader.specs.Syntax.{write, code}
use Rattle.format_translation.specs.Translation.{Item, mapping, clause, Translation, number_of, item_key, mapped, numbers_of}
use Rattle.format_translation.specs.Running.{Replacing, paired, substitute, substitute_all, from_one, Clauses, run, run_operand, clauses_of}
use Rattle.format_translation.proofs.Lookup.{mem_mapped, number_mem, mem_number}
use Rattle.format_translation.proofs.Fitting.{Fitting}
use Rattle.reduce_operators.specs.Operators.{low_number, numbers_low, joined}
use Rattle.reduce_operators.specs.Inner.Paired.{reached, paired_item}
use Rattle.reduce_operators.proofs.JoinRises.{mem_join, join_cases, joined_rises}
use Rattle.report.specs.Sets.{◌∈◌}
use Rattle.report.specs.Languages.{LiesWithin}
use Rattle.report.specs.Typing.{Picked, picked_first, picked_later, Gaps, HasKind, has_argument, has_token, has_node, HaveKinds, have_none, have_more}
use Rattle.report.specs.Transformation.{Fillings, Substitutes, substitutes_node, substitutes_token, substitutes_argument, SubstitutesAll, substitutes_none, substitutes_more, At, at_first, at_later, Reconstructor, Transforms, transforms_node, transforms_token, transforms_argument, TransformsAll, transforms_none, transforms_more}
use Rattle.report.specs.WellFormed.{WellFormed}
use Rattle.report.specs.Translations.{Composed, composed_kind, composed_code, IsComposition}
use Rattle.report.proofs.Sets.{mem_in, in_mem}
use Rattle.report.proofs.Typing.{has_larger}
use Rattle.report.proofs.Languages.{within_kinds}
use Rattle.report.proofs.Transformation.{transforms_one}
use Rattle.report.proofs.WellFormed.{clause_reconstructs, body_rises, mapping_zero, clause_zero, formed_bytes}

-- Codes run one by one.
abbrev runs : Clauses → Codes → Codes
runs c nil = nil
runs c (cons a t) = cons (run c 0 a) (runs c t)

at_run : (c : Clauses) {l : Language} {ρ : Gaps} {ts : Codes} {ks : List ℕ} {i k : ℕ} → HaveKinds l ρ ts ks → Picked ks i k
    → At (runs c ts) i (from_one (λ i by. run_operand c ts i by) i 0)
unfolding run from_one
at_run c (have_more x xs) picked_first = at_first
at_run c (have_more x xs) (picked_later p) = at_later (at_run c xs p)
at_run c {l = l} {ρ = ρ} {i = i} {k = k} have_none x4 = elim x4 [ ]

-- A code is substituted by what the project puts in.
module _ {l : Language} {σ : Gaps} {ρ : Fillings} (s : Replacing) (h : (i k : ℕ) → σ i k → ρ i (s i 0)) where
  mutual
    unfolding substitute

    replaced : {a : Code} {k : ℕ} → HasKind l σ a k → Substitutes ρ a (substitute s a)
    replaced (has_argument {i = i} {n = n} r) = substitutes_argument (h i n r)
    replaced (has_token x e) = substitutes_token
    replaced (has_node x hs) = substitutes_node (all_replaced hs)

    all_replaced : {t : Codes} {ks : List ℕ} → HaveKinds l σ t ks → SubstitutesAll ρ t (substitute_all s t)
    all_replaced have_none = substitutes_none
    all_replaced (have_more x xs) = substitutes_more (replaced x) (all_replaced xs)

module _ (f : Translation) (w : WellFormed f) (fits : Fitting f) where
  -- The code of a source production, as the project has it.
  pub the_code : (n p : ℕ) (ks : List ℕ) → production n p ks ∈ f.source → Reconstructor f n p (clauses_of f n p 0)
  the_code n p ks x =
      let c = w.covers n p ks x in
      (clause_reconstructs f w.one_number w.source w.target (body_rises f w) (formed_bytes f w) fits n p c.0 (in_mem c.1)).1

  mutual
    unfolding run

    pub run_transforms : {ρ : Gaps} {a : Code} {k : ℕ} → HasKind f.source ρ a k → Transforms f a (run (clauses_of f) 0 a)
    run_transforms (has_node {n = n} {p = p} {t = ts} {ks = ks} x hs) =
        let r = the_code n p ks x in
        let e : r.arguments ≡ ks = w.source.one_production r.entry x in
        transforms_node (runs_transform hs) r
        (replaced (from_one (λ i by. run_operand (clauses_of f) ts i by)) (λ i k q. at_run (clauses_of f) hs (subst (λ (js : List ℕ). Picked js i q.0) e q.1)) r.typed)
    run_transforms (has_token x e) = transforms_token
    run_transforms (has_argument r) = transforms_argument

    runs_transform : {ρ : Gaps} {t : Codes} {ks : List ℕ} → HaveKinds f.source ρ t ks → TransformsAll f t (runs (clauses_of f) t)
    runs_transform have_none = transforms_none
    runs_transform (have_more x xs) = transforms_more (run_transforms x) (runs_transform xs)

  -- C.9: A ⟶ B exactly if B is the run of A.
  pub transforms_run : {ρ : Gaps} {a : Code} {k : ℕ} → HasKind f.source ρ a k → (b : Code) → Transforms f a b ↔ (b ≡ run (clauses_of f) 0 a)
  transforms_run h b = (λ t. transforms_one f w t (run_transforms h), λ e. rw e (run_transforms h))

-- All numbers are 0, so none is above 15.
pub numbers_low_lem : (f : Translation) → WellFormed f → numbers_low f ≡ true
unfolding numbers_low low_number
numbers_low_lem f w = mem_all low_number f.body (λ a m. let z = w.one_number a (mem_in _ _ m) in lt-ltb (number_of a) 16 (omega arith))

-- C.15.
module _ (f g : Translation) (wf : WellFormed f) (wg : WellFormed g) (ff : Fitting f) (fg : Fitting g) (w : LiesWithin g.target f.source) where
  kind_composed : (s i u j t : ℕ) (a : Item) → Mem (mapping s i u) g.body → Mem (mapping u j t) f.body
      → a ≡ mapping s (paired i j) (mapped f.body u j) → Composed f g a
  kind_composed s i u j t a x y e =
      let zi = mapping_zero g wg s i u x in
      let zj = mapping_zero f wf u j t y in
      let q : mapped f.body u 0 ≡ t = mem_mapped f.body (body_rises f wf) u 0 t (rw zj at y) in
      let r : Composed f g (mapping s 0 t) = composed_kind (mem_in _ _ (rw zi at x)) (mem_in _ _ (rw zj at y)) in
      rw (e, zi, zj, q) r

  -- The code of a clause of the second, run through the first.
  code_composed : (n p : ℕ) (c : List ℕ) → Mem (clause n p 0 c) g.body → Composed f g (clause n p 0 (write code (run (clauses_of f) 0 (clauses_of g n p 0))))
  code_composed n p c m =
      let x = (wg.has_codes n p c (mem_in _ _ m)).2 in
      let r = the_code g wg fg n p x.arguments x.entry in
      composed_code r (run_transforms f wf ff (has_larger w (λ i t q. q) r.typed))

  joined_composed : (a : Item) → Mem a (joined f g).body → Composed f g a
  joined_composed a m = let x = join_cases f g a m in go x.0 x.1 x.2 x.3 x.4
    where
      go : (b : Item) (j : ℕ) → Mem b g.body → Mem j (numbers_of f.body (reached g b)) → a ≡ paired_item f g b j → Composed f g a
      go (mapping s i u) j x y e =
          let t = number_mem f.body u j y in
          kind_composed s i u j t.0 a x t.1 e
      go (clause n p i c) j x y e =
          let zi = clause_zero g wg n p i c x in
          let t = number_mem f.body (mapped g.body n i) j y in
          let zj = mapping_zero f wf (mapped g.body n i) j t.0 t.1 in
          rw (e, zi, zj) (code_composed n p c (rw zi at x))

  composed_joined : (a : Item) → Composed f g a → Mem a (joined f g).body
  composed_joined a (composed_kind {n = n} {u = u} {t = t} x y) =
      rw (mem_mapped f.body (body_rises f wf) u 0 t (in_mem y)) at (mem_join f g (mapping n 0 u) 0 (in_mem x) (mem_number f.body u 0 t (in_mem y)))
  composed_joined a (composed_code {n = n} {p = p} {a = b} {b = d} x y) =
      let s = the_code g wg fg n p x.arguments x.entry in
      let q : b ≡ clauses_of g n p 0 = wg.one_code n p b (clauses_of g n p 0) x s in
      let r : d ≡ run (clauses_of f) 0 (clauses_of g n p 0) = (transforms_run f wf ff (has_larger w (λ i t q. q) s.typed) d).0 (subst (λ (z : Code). Transforms f z d) q y) in
      let t = wf.maps.each s.kind (within_kinds w (wg.maps.only n s.kind s.to).1) in
      rw r (mem_join f g (clause n p 0 (write code b)) 0 (in_mem x.stands) (rw (mem_mapped g.body (body_rises g wg) n 0 s.kind (in_mem s.to)) (mem_number f.body s.kind 0 t.0 (in_mem t.1))))

  pub joined_is : IsComposition f g (joined f g)
  unfolding joined
  joined_is = record {
    source = refl;
    target = refl;
    body = record {
      in_order = rising_is item_key _ (joined_rises f g (body_rises f wf) (numbers_low_lem f wf) (body_rises g wg) (numbers_low_lem g wg));
      members = λ a. (λ x. joined_composed a (in_mem x), λ x. mem_in _ _ (composed_joined a x));
    };
  }
