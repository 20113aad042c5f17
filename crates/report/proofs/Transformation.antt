-- Appendix C.2 and what is proved there: C.8, C.10 and C.11, of any well-formed translation.
use Prim.Native.Nat.{ℕ}
use mathlib.Core.Path.{◌≡◌, refl, ap, subst}
use mathlib.Core.List.{List}
use Rattle.format_language.specs.Language.{production, Language}
use Rattle.tree_reader.specs.Code.{Code, node, token, argument, Codes, nil, cons}
use Rattle.format_translation.specs.Translation.{mapping, Translation, plain_key, number_of, item_key}
use Rattle.format_translation.proofs.ItemParts.{mapping_parts}
use Rattle.report.specs.Sets.{◌∈◌}
use Rattle.report.specs.Typing.{Picked, picked_first, picked_later, Gaps, HasKind, has_argument, has_token, has_node, HaveKinds, have_none, have_more, Through, Mapped}
use Rattle.report.specs.Transformation.{Fillings, Substitutes, substitutes_node, substitutes_token, substitutes_argument, SubstitutesAll, substitutes_none, substitutes_more, At, at_first, at_later, Reconstructor, Transforms, transforms_node, transforms_token, transforms_argument, TransformsAll, transforms_none, transforms_more}
use Rattle.report.specs.WellFormed.{WellFormed}
use Rattle.report.proofs.Sets.{one_of_key}

-- The relations are functional.
at_one : {t : Codes} {a b : Code} {i : ℕ} → At t i a → At t i b → a ≡ b
at_one at_first at_first = refl
at_one (at_later h) (at_later k) = at_one h k

module _ {ρ : Fillings} (one : (i : ℕ) (a b : Code) → ρ i a → ρ i b → a ≡ b) where
  mutual
    pub substitutes_one : {a b c : Code} → Substitutes ρ a b → Substitutes ρ a c → b ≡ c
    substitutes_one (substitutes_node {n = n} {p = p} h) (substitutes_node k) = ap (node n p) (substitutes_all_one h k)
    substitutes_one substitutes_token substitutes_token = refl
    substitutes_one (substitutes_argument {i = i} {a = a} h) (substitutes_argument {a = b} k) = one i a b h k

    pub substitutes_all_one : {a b c : Codes} → SubstitutesAll ρ a b → SubstitutesAll ρ a c → b ≡ c
    substitutes_all_one substitutes_none substitutes_none = refl
    substitutes_all_one (substitutes_more h hs) (substitutes_more k ks) = λ i. cons (substitutes_one h k i) (substitutes_all_one hs ks i)

module _ (f : Translation) (w : WellFormed f) where
  mutual
    -- C.8, first half.
    pub transforms_one : {a b c : Code} → Transforms f a b → Transforms f a c → b ≡ c
    transforms_one {b = b} (transforms_node {n = n} {p = p} {u = u} {a = a} h r v) (transforms_node {u = x} {a = d} k q y) =
        let e : u ≡ x = transforms_all_one h k in
        let z : a ≡ d = w.one_code n p a d r q in
        substitutes_one (λ i a b. at_one) v (rw (e, z) y)
    transforms_one transforms_token transforms_token = refl
    transforms_one transforms_argument transforms_argument = refl

    pub transforms_all_one : {a b c : Codes} → TransformsAll f a b → TransformsAll f a c → b ≡ c
    transforms_all_one transforms_none transforms_none = refl
    transforms_all_one (transforms_more h hs) (transforms_more k ks) = λ i. cons (transforms_one h k i) (transforms_all_one hs ks i)

-- A kind has one mapping.
pub mapping_one : (f : Translation) → WellFormed f → {n t u : ℕ} → mapping n 0 t ∈ f.body → mapping n 0 u ∈ f.body → t ≡ u
unfolding item_key plain_key number_of
mapping_one f w {n} {t} {u} x y = (mapping_parts (one_of_key item_key f.body w.in_order (mapping n 0 t) (mapping n 0 u) x y refl)).2

-- A code whose gaps are filled is substituted.
module _ {l : Language} {σ : Gaps} {ρ : Fillings} (h : (i k : ℕ) → σ i k → (b : Code) × ρ i b) where
  mutual
    pub typed_substitutes : {a : Code} {k : ℕ} → HasKind l σ a k → (b : Code) × Substitutes ρ a b
    typed_substitutes (has_argument {i = i} {n = n} r) = let q = h i n r in (q.0, substitutes_argument q.1)
    typed_substitutes (has_token {w = v} x e) = (token v, substitutes_token)
    typed_substitutes (has_node {n = n} {p = p} x hs) = let q = typed_all_substitutes hs in (node n p q.0, substitutes_node q.1)

    pub typed_all_substitutes : {t : Codes} {ks : List ℕ} → HaveKinds l σ t ks → (u : Codes) × SubstitutesAll ρ t u
    typed_all_substitutes have_none = (nil, substitutes_none)
    typed_all_substitutes (have_more x xs) =
        let a = typed_substitutes x in
        let t = typed_all_substitutes xs in
        (cons a.0 t.0, substitutes_more a.1 t.1)

-- There are as many codes as kinds after a transformation too.
pub filled : {f : Translation} {l : Language} {ρ : Gaps} {t u : Codes} {ks : List ℕ} {i k : ℕ} → HaveKinds l ρ t ks → TransformsAll f t u → Picked ks i k → (b : Code) × At u i b
filled (have_more x xs) (transforms_more {b = b} y ys) picked_first = (b, at_first)
filled (have_more x xs) (transforms_more y ys) (picked_later p) = let q = filled xs ys p in (q.0, at_later q.1)
filled {f = f} {l = l} {ρ = ρ} {u = u} {i = i} {k = k} have_none _ x8 = elim x8 [ ]

-- The reconstructor of a source production.
pub has_reconstructor : (f : Translation) → WellFormed f → (n p : ℕ) (ks : List ℕ) → production n p ks ∈ f.source
    → (a : Code) × Reconstructor f n p a
has_reconstructor f w n p ks x =
    let c = w.covers n p ks x in
    let r = w.has_codes n p c.0 c.1 in
    (r.0, r.2)

module _ (f : Translation) (w : WellFormed f) {ρ : Gaps} where
  -- A filled reconstructor: its gaps are those of the production's arguments.
  reconstructs : {n p : ℕ} {ks : List ℕ} {t u : Codes} {a : Code} → production n p ks ∈ f.source → HaveKinds f.source ρ t ks → TransformsAll f t u
      → Reconstructor f n p a → (b : Code) × Substitutes (At u) a b
  reconstructs {n} {p} {ks} x hs ts r =
      let e : r.arguments ≡ ks = w.source.one_production r.entry x in
      typed_substitutes (λ i k q. filled hs ts (subst (λ (js : List ℕ). Picked js i q.0) e q.1)) r.typed

  mutual
    -- C.8, second half.
    pub typed_transforms : {a : Code} {k : ℕ} → HasKind f.source ρ a k → (b : Code) × Transforms f a b
    typed_transforms (has_argument {i = i} r) = (argument i 0, transforms_argument)
    typed_transforms (has_token {w = v} x e) = (token v, transforms_token)
    typed_transforms (has_node {n = n} {p = p} {ks = ks} x hs) =
        let u = typed_all_transforms hs in
        let r = has_reconstructor f w n p ks x in
        let b = reconstructs x hs u.1 r.1 in
        (b.0, transforms_node u.1 r.1 b.1)

    pub typed_all_transforms : {t : Codes} {ks : List ℕ} → HaveKinds f.source ρ t ks → (u : Codes) × TransformsAll f t u
    typed_all_transforms have_none = (nil, transforms_none)
    typed_all_transforms (have_more x xs) =
        let a = typed_transforms x in
        let t = typed_all_transforms xs in
        (cons a.0 t.0, transforms_more a.1 t.1)

-- C.10.
module _ {l : Language} {σ ρ : Gaps} {θ : Fillings} (h : (i n : ℕ) (b : Code) → σ i n → θ i b → HasKind l ρ b n) where
  mutual
    pub substituted_has : {a b : Code} {n : ℕ} → HasKind l σ a n → Substitutes θ a b → HasKind l ρ b n
    substituted_has (has_argument {i = i} {n = n} r) (substitutes_argument {a = b} q) = h i n b r q
    substituted_has (has_token x e) substitutes_token = has_token x e
    substituted_has (has_node x hs) (substitutes_node qs) = has_node x (substituted_have hs qs)

    pub substituted_have : {t u : Codes} {ks : List ℕ} → HaveKinds l σ t ks → SubstitutesAll θ t u → HaveKinds l ρ u ks
    substituted_have have_none substitutes_none = have_none
    substituted_have (have_more x xs) (substitutes_more y ys) = have_more (substituted_has x y) (substituted_have xs ys)

-- C.11.
module _ (f : Translation) (w : WellFormed f) {ρ : Gaps} where
  mutual
    pub transformed_has : {a b : Code} {n t : ℕ} → HasKind f.source ρ a n → Transforms f a b → mapping n 0 t ∈ f.body
        → HasKind f.target (Through f.body ρ) b t
    transformed_has (has_argument {n = n} r) transforms_argument m = has_argument (n, r, m)
    transformed_has {t = t} (has_token {w = v} {n = n} {c = c} x e) transforms_token m =
        let d = w.keeps_ranges n t c x m in has_token d.1 (d.2 v e)
    transformed_has {t = t} (has_node {n = n} {p = p} {ks = ks} x hs) (transforms_node {a = a} ts r q) m =
        let e : r.arguments ≡ ks = w.source.one_production r.entry x in
        let z : r.kind ≡ t = mapping_one f w r.to m in
        let y : HasKind f.target (Mapped f.body ks) a t = rw (← e, ← z) r.typed in
        substituted_has (λ i k b g s. transformed_at hs ts g.1 s g.2) y q

    pub transformed_at : {ts us : Codes} {ks : List ℕ} {i k t : ℕ} {b : Code} → HaveKinds f.source ρ ts ks → TransformsAll f ts us → Picked ks i k → At us i b
        → mapping k 0 t ∈ f.body → HasKind f.target (Through f.body ρ) b t
    transformed_at (have_more x xs) (transforms_more y ys) picked_first at_first m = transformed_has x y m
    transformed_at (have_more x xs) (transforms_more y ys) (picked_later p) (at_later q) m = transformed_at xs ys p q m
    transformed_at {us = us} {i = i} {k = k} {t = t} {b = b} have_none _ x17 _ m = elim x17 [ ]
