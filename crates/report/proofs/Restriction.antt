-- [RES] of appendix A: X \ L is X ∘ (idx(src(X)) \ L).
use Prim.Native.Nat.{ℕ, zero, suc, ◌+◌}
use mathlib.Core.Path.{◌≡◌, refl, ap, sym, subst, ◌∙◌}
use mathlib.Core.Logic.{◌↔◌}
use mathlib.Core.List.{List, [], ◌∷◌}
use native.Mathlib.Omega.{arith}
use Rattle.format_language.specs.Language.{Entry, production, Language}
use Rattle.tree_reader.specs.Code.{Code, node, argument, Codes, cons}
use Rattle.format_translation.specs.Translation.{Item, mapping, clause, Translation}
use Rattle.report.specs.Sets.{◌∈◌}
use Rattle.report.specs.Languages.{IsDifference}
use Rattle.report.specs.Typing.{Picked, picked_first, picked_later, Gaps, HasKind, has_argument, has_token, has_node, HaveKinds, have_none, have_more}
use Rattle.report.specs.Transformation.{Fillings, Substitutes, substitutes_node, substitutes_token, substitutes_argument, SubstitutesAll, substitutes_none, substitutes_more, At, at_first, at_later, Reconstructor, Transforms, transforms_node, transforms_argument, TransformsAll, transforms_none, transforms_more}
use Rattle.report.specs.WellFormed.{WellFormed}
use Rattle.report.specs.Translations.{Holds, ItemOf, kind_of, production_of_lem, IsDifferenceX, Composed, composed_kind, composed_code, IsComposition, gaps_from, same_kind, IsIdentity}
use Rattle.report.proofs.Sets.{in_mem}
use Rattle.report.proofs.Languages.{kinds_larger, difference_one}
use Rattle.report.proofs.Sums.{Part, part_reconstructs}
use Rattle.report.proofs.Identities.{unchanged_kind, identity_formed, identity_reconstructs}
use Rattle.report.proofs.Differences.{of_kind, of_production, difference_reconstructs}
use Rattle.report.proofs.WellFormed.{mapping_zero, clause_zero}

-- Gaps in order are transformed to themselves, and to nothing else.
gaps_transform : (f : Translation) (m : ℕ) (ks : List ℕ) → TransformsAll f (gaps_from m ks) (gaps_from m ks)
unfolding gaps_from
gaps_transform f m [] = transforms_none
gaps_transform f m (k ∷ ks) = transforms_more transforms_argument (gaps_transform f (suc m) ks)

argument_stays : {f : Translation} {i : ℕ} {b : Code} → Transforms f (argument i 0) b → b ≡ argument i 0
argument_stays transforms_argument = refl

gaps_stay : (f : Translation) (m : ℕ) (ks : List ℕ) (u : Codes) → TransformsAll f (gaps_from m ks) u → u ≡ gaps_from m ks
unfolding gaps_from
gaps_stay f m [] u transforms_none = refl
gaps_stay f m (k ∷ ks) u (transforms_more {u = v} x xs) = λ i. cons (argument_stays x i) (gaps_stay f (suc m) ks v xs i)

-- What stands among them at a place is the argument of that place.
gap_at : (ks : List ℕ) (m i : ℕ) (a : Code) → At (gaps_from (suc m) ks) (suc i) a → a ≡ argument (suc (m + i)) 0
unfolding gaps_from
gap_at (k ∷ ks) m zero a at_first = let z : suc m ≡ suc (m + 0) = omega arith in ap (λ (x : ℕ). argument x 0) z
gap_at (k ∷ ks) m (suc i) a (at_later x) = let z : suc (suc m + i) ≡ suc (m + suc i) = omega arith in gap_at ks (suc m) i a x ∙ ap (λ (y : ℕ). argument y 0) z
gap_at [] m i a x' = elim x' [ ]

first_gap : (m k : ℕ) (ks : List ℕ) → At (gaps_from (suc m) (k ∷ ks)) (suc zero) (argument (suc (m + 0)) 0)
unfolding gaps_from
first_gap m k ks = let z : suc m ≡ suc (m + 0) = omega arith in subst (λ (x : ℕ). At (cons (argument (suc m) 0) (gaps_from (suc (suc m)) ks)) (suc zero) (argument x 0)) z at_first

later_gap : (m i j : ℕ) (ks : List ℕ) → At (gaps_from (suc (suc m)) ks) (suc i) (argument (suc (suc m + i)) 0) → At (gaps_from (suc m) (j ∷ ks)) (suc (suc i)) (argument (suc (m + suc i)) 0)
unfolding gaps_from
later_gap m i j ks x =
    let z : suc (suc m + i) ≡ suc (m + suc i) = omega arith in
    at_later (subst (λ (y : ℕ). At (gaps_from (suc (suc m)) ks) (suc i) (argument y 0)) z x)

-- No code and no kind stands at place 0.
at_some : {t : Codes} {i : ℕ} {a : Code} → At t i a → i ≡ 0 → ⊥
at_some at_first e = omega arith
at_some (at_later x) e = omega arith

picked_some : {ks : List ℕ} {i k : ℕ} → Picked ks i k → i ≡ 0 → ⊥
picked_some picked_first e = omega arith
picked_some (picked_later x) e = omega arith

at_gap : {ks : List ℕ} {i k : ℕ} (m : ℕ) → Picked ks (suc i) k → At (gaps_from (suc m) ks) (suc i) (argument (suc (m + i)) 0)
at_gap {ks} {i} {k} m p = go ks i m p
  where
    go : (ks : List ℕ) (i m : ℕ) → Picked ks (suc i) k → At (gaps_from (suc m) ks) (suc i) (argument (suc (m + i)) 0)
    go (k ∷ ks) zero m picked_first = first_gap m k ks
    go (j ∷ ks) (suc i) m (picked_later q) = later_gap m i j ks (go ks i (suc m) q)
    go [] _ m x' = elim x' [ ]

at_place : (ks : List ℕ) (i : ℕ) (a : Code) → At (gaps_from 1 ks) i a → a ≡ argument i 0
at_place ks zero a x = absurd (at_some x refl)
at_place ks (suc i) a x = let z : suc (0 + i) ≡ suc i = omega arith in gap_at ks 0 i a x ∙ ap (λ (y : ℕ). argument y 0) z

-- Where each gap is filled by itself, a code stays itself.
module _ {ρ : Fillings} (h : (i : ℕ) (a : Code) → ρ i a → a ≡ argument i 0) where
  mutual
    substitutes_same : {a b : Code} → Substitutes ρ a b → b ≡ a
    substitutes_same (substitutes_node {n = n} {p = p} x) = ap (node n p) (substitutes_all_same x)
    substitutes_same substitutes_token = refl
    substitutes_same (substitutes_argument {i = i} {a = a} r) = h i a r

    substitutes_all_same : {t u : Codes} → SubstitutesAll ρ t u → u ≡ t
    substitutes_all_same substitutes_none = refl
    substitutes_all_same (substitutes_more x xs) = λ i. cons (substitutes_same x i) (substitutes_all_same xs i)

module _ {l : Language} {σ : Gaps} {ρ : Fillings} (h : (i k : ℕ) → σ i k → ρ i (argument i 0)) where
  mutual
    same_substitutes : {a : Code} {k : ℕ} → HasKind l σ a k → Substitutes ρ a a
    same_substitutes (has_argument {i = i} {n = n} r) = substitutes_argument (h i n r)
    same_substitutes (has_token x e) = substitutes_token
    same_substitutes (has_node x hs) = substitutes_node (same_all_substitutes hs)

    same_all_substitutes : {t : Codes} {ks : List ℕ} → HaveKinds l σ t ks → SubstitutesAll ρ t t
    same_all_substitutes have_none = substitutes_none
    same_all_substitutes (have_more x xs) = substitutes_more (same_substitutes x) (same_all_substitutes xs)

place_at : (ks : List ℕ) (i k : ℕ) → Picked ks i k → At (gaps_from 1 ks) i (argument i 0)
place_at ks zero k p = absurd (picked_some p refl)
place_at ks (suc i) k p = let z : suc (0 + i) ≡ suc i = omega arith in subst (λ (x : ℕ). At (gaps_from 1 ks) (suc i) (argument x 0)) z (at_gap 0 p)

-- A production with its arguments in order is transformed to its code, and to nothing else.
pub order_transforms : (f : Translation) (w : WellFormed f) {n p : ℕ} {ks : List ℕ} {b : Code} → production n p ks ∈ f.source → Reconstructor f n p b → Transforms f (node n p (gaps_from 1 ks)) b
order_transforms f w {ks = ks} m r =
    let e : r.arguments ≡ ks = w.source.one_production r.entry m in
    transforms_node (gaps_transform f 1 ks) r (same_substitutes (λ i k q. place_at ks i q.0 (subst (λ (js : List ℕ). Picked js i q.0) e q.1)) r.typed)

pub transforms_order : (f : Translation) {n p : ℕ} (ks : List ℕ) {b : Code} → Transforms f (node n p (gaps_from 1 ks)) b → Reconstructor f n p b
transforms_order f {n} {p} ks {b} (transforms_node {u = u} {a = a} ts r q) =
    let e = gaps_stay f 1 ks u ts in
    let z : b ≡ a = substitutes_same (λ i c x. at_place ks i c x) (rw e at q) in
    rw z r

module _ (f : Translation) (w : WellFormed f) (l : Language) (i j : Translation) (di : IsIdentity f.source i) (dj : IsDifferenceX i l j) where
  wi : WellFormed i
  wi = identity_formed f.source i w.source di

  -- The entries of what is left are entries of the source.
  was : (a : Entry) → a ∈ j.source → a ∈ f.source
  was a x = subst (λ (m : Language). a ∈ m) di.source ((dj.source.members a).0 x).0

  part : Part j i
  part = record {
    source = λ a x. ((dj.source.members a).0 x).0;
    target = λ a x. subst (λ (m : Language). a ∈ m) dj.target x;
    body = λ a x. ((dj.body.members a).0 x).0;
  }

  composed_left : (a : Item) → Composed f j a → (a ∈ f.body) × ItemOf j.source a
  composed_left a (composed_kind {n = n} {u = u} {t = t} x y) =
      let q = (dj.body.members (mapping n 0 u)).0 x in
      let e : u ≡ n = (unchanged_kind ((di.body.members (mapping n 0 u)).0 q.0)).1 in
      (subst (λ (k : ℕ). mapping k 0 t ∈ f.body) e y, kind_of (of_kind q.1))
  composed_left a (composed_code {n = n} {p = p} {a = c} {b = b} x y) =
      let e : c ≡ node n p (gaps_from 1 x.arguments) = wi.one_code n p c _ (part_reconstructs part x) (identity_reconstructs f.source i w.source di (was _ x.entry)) in
      let r : Reconstructor f n p b = transforms_order f x.arguments (subst (λ (z : Code). Transforms f z b) e y) in
      (r.stands, production_of_lem x.entry)

  left_mapping : (n t : ℕ) → mapping n 0 t ∈ f.body → ItemOf j.source (mapping n 0 t) → Composed f j (mapping n 0 t)
  left_mapping n t m x =
      let k = of_kind x in
      composed_kind ((dj.body.members (mapping n 0 n)).1 ((di.body.members (mapping n 0 n)).1 (same_kind (kinds_larger was k)), kind_of k)) m

  left_clause : (n p : ℕ) (c : List ℕ) → clause n p 0 c ∈ f.body → ItemOf j.source (clause n p 0 c) → Composed f j (clause n p 0 c)
  left_clause n p c m x =
      let k = of_production x in
      let r = w.has_codes n p c m in
      let d = difference_reconstructs i l j wi dj k.1 (identity_reconstructs f.source i w.source di (was _ k.1)) in
      subst (λ (z : List ℕ). Composed f j (clause n p 0 z)) r.1 (composed_code d (order_transforms f w (was _ k.1) r.2))

  left_composed : (a : Item) → (a ∈ f.body) × ItemOf j.source a → Composed f j a
  left_composed (mapping n o t) x =
      let z = mapping_zero f w n o t (in_mem x.0) in
      subst (λ (k : ℕ). Composed f j (mapping n k t)) (sym z) (left_mapping n t (rw z at x.0) (rw z at x.1))
  left_composed (clause n p o c) x =
      let z = clause_zero f w n p o c (in_mem x.0) in
      subst (λ (k : ℕ). Composed f j (clause n p k c)) (sym z) (left_clause n p c (rw z at x.0) (rw z at x.1))

  -- The source of the identity without the language is that of the translation without it.
  less : IsDifference f.source l j.source
  less = subst (λ (m : Language). IsDifference m l j.source) di.source dj.source

  pub restriction : (h : Translation) → IsDifferenceX f l h ↔ IsComposition f j h
  restriction h = (
    λ d.
        let e : h.source ≡ j.source = difference_one f.source l h.source j.source d.source less in
        let b : Holds h.body (λ a. (a ∈ f.body) × ItemOf j.source a) = rw e at d.body in
        record {
          source = e;
          target = d.target;
          body = record { in_order = d.body.in_order; members = λ a. (λ x. left_composed a ((b.members a).0 x), λ x. (b.members a).1 (composed_left a x)) };
        },
    λ d.
        let b : Holds h.body (λ a. (a ∈ f.body) × ItemOf j.source a) = record {
          in_order = d.body.in_order;
          members = λ a. (λ x. composed_left a ((d.body.members a).0 x), λ x. (d.body.members a).1 (left_composed a x));
        } in
        record {
          source = subst (IsDifference f.source l) (sym d.source) less;
          target = d.target;
          body = subst (λ (m : Language). Holds h.body (λ a. (a ∈ f.body) × ItemOf m a)) (sym d.source) b;
        },
  )
