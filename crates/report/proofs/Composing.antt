-- C.15 defines a translation: the items of the second, each taken on by the first, in the order that they have.
use Prim.Native.Nat.{ℕ, suc, ◌+◌, ◌*◌, ◌≤◌}
use mathlib.Core.Path.{◌≡◌, refl, ap, sym, subst, ◌∙◌}
use mathlib.Core.Logic.{inl, inr}
use mathlib.Core.List.{List, [], ◌∷◌}
use native.Mathlib.Omega.{arith}
use Rattle.format_fields.proofs.Truth.{Mem}
use Rattle.format_fields.proofs.Keyed.{From, rising_is}
use Rattle.format_language.specs.Language.{production}
use Rattle.tree_reader.specs.Code.{Code}
use Rattle.tree_reader.specs.Syntax.{write, code}
use Rattle.format_translation.specs.Translation.{Item, mapping, clause, Body, Translation, plain_key, number_of, item_key}
use Rattle.report.specs.Sets.{◌∈◌, here, later}
use Rattle.report.specs.Languages.{LiesWithin}
use Rattle.report.specs.Transformation.{Reconstructor, Transforms}
use Rattle.report.specs.WellFormed.{WellFormed}
use Rattle.report.specs.Translations.{Composed, composed_kind, composed_code, IsComposition}
use Rattle.report.proofs.Sets.{mem_in, in_mem}
use Rattle.report.proofs.Typing.{has_larger}
use Rattle.report.proofs.Languages.{within_kinds, kind_below}
use Rattle.report.proofs.Transformation.{typed_transforms, transforms_one, mapping_one}
use Rattle.report.proofs.WellFormed.{body_rises, mapping_zero, clause_zero}

-- The key of a clause of number 0 tells its production.
key_parts : (n p m q : ℕ) → suc p ≤ 256 → suc q ≤ 256 → (32 + (n * 256 + p)) * 256 + 0 ≡ (32 + (m * 256 + q)) * 256 + 0 → (n ≡ m) × (p ≡ q)
key_parts n p m q h k e =
    let z : n ≡ m = omega arith in
    let y : p ≡ q = omega arith in
    (z, y)

module _ (f g : Translation) (w : LiesWithin g.target f.source) (wf : WellFormed f) (wg : WellFormed g) where
  -- What an item of the second is taken on to: a composed item of the same key.
  abbrev Image : Item → Type 0
  Image a = (x : Item) × Composed f g x × (item_key x ≡ item_key a)

  kind_image : (n u : ℕ) → mapping n 0 u ∈ g.body → Image (mapping n 0 u)
  unfolding item_key plain_key number_of
  kind_image n u x =
      let t = wf.maps.each u (within_kinds w (wg.maps.only n u x).1) in
      (mapping n 0 t.0, composed_kind x t.1, refl)

  code_image : (n p : ℕ) (c : List ℕ) → clause n p 0 c ∈ g.body → Image (clause n p 0 c)
  unfolding item_key plain_key number_of
  code_image n p c x =
      let r = (wg.has_codes n p c x).2 in
      let y = typed_transforms f wf (has_larger w (λ i t q. q) r.typed) in
      (clause n p 0 (write code y.0), composed_code r y.1, refl)

  image : (a : Item) → a ∈ g.body → Image a
  image (mapping n j u) x =
      let z = mapping_zero g wg n j u (in_mem x) in
      subst (λ (i : ℕ). Image (mapping n i u)) (sym z) (kind_image n u (rw z at x))
  image (clause n p j c) x =
      let z = clause_zero g wg n p j c (in_mem x) in
      subst (λ (i : ℕ). Image (clause n p i c)) (sym z) (code_image n p c (rw z at x))

  -- Of each key there is one composed item.
  kinds_one : (n m u v s t : ℕ) → mapping n 0 u ∈ g.body → mapping u 0 s ∈ f.body → mapping m 0 v ∈ g.body → mapping v 0 t ∈ f.body
      → n ≡ m → mapping n 0 s ≡ mapping m 0 t
  kinds_one n m u v s t x y x' y' e =
      let z : u ≡ v = mapping_one g wg x (subst (λ (k : ℕ). mapping k 0 v ∈ g.body) (sym e) x') in
      let q : s ≡ t = mapping_one f wf y (subst (λ (k : ℕ). mapping k 0 t ∈ f.body) (sym z) y') in
      λ i. mapping (e i) 0 (q i)

  codes_one : (n p m q : ℕ) (a b c d : Code) → Reconstructor g n p a → Transforms f a b → Reconstructor g m q c → Transforms f c d
      → n ≡ m → p ≡ q → clause n p 0 (write code b) ≡ clause m q 0 (write code d)
  codes_one n p m q a b c d x y x' y' e o =
      let r : Reconstructor g n p c = subst (λ (k : ℕ). Reconstructor g n k c) (sym o) (subst (λ (k : ℕ). Reconstructor g k q c) (sym e) x') in
      let z : c ≡ a = wg.one_code n p c a r x in
      let s : b ≡ d = transforms_one f wf y (subst (λ (k : Code). Transforms f k d) z y') in
      λ i. clause (e i) (o i) 0 (write code (s i))

  kind_small : (n u : ℕ) → mapping n 0 u ∈ g.body → suc n ≤ 32
  kind_small n u x = kind_below wg.source (wg.maps.only n u x).0

  name_small : (n p : ℕ) (a : Code) → Reconstructor g n p a → suc p ≤ 256
  name_small n p a x = (wg.source.writable (production n p x.arguments) x.entry).1

  composed_one : (x y : Item) → Composed f g x → Composed f g y → item_key x ≡ item_key y → x ≡ y
  unfolding item_key plain_key number_of
  composed_one x y (composed_kind {n = n} {u = u} {t = s} a b) (composed_kind {n = m} {u = v} {t = t} c d) e = kinds_one n m u v s t a b c d (omega arith)
  composed_one x y (composed_kind {n = n} {u = u} a b) (composed_code c d) e = let h = kind_small n u a in absurd (omega arith)
  composed_one x y (composed_code a b) (composed_kind {n = n} {u = u} c d) e = let h = kind_small n u c in absurd (omega arith)
  composed_one x y (composed_code {n = n} {p = p} {a = a} {b = b} i j) (composed_code {n = m} {p = q} {a = c} {b = d} k l) e =
      let z = key_parts n p m q (name_small n p a i) (name_small m q c k) e in
      codes_one n p m q a b c d i j k l z.0 z.1

  -- The images of items, in order.
  images : (l : Body) → ((a : Item) → a ∈ l → a ∈ g.body) → Body
  images [] h = []
  images (a ∷ l) h = (image a (h a here)).0 ∷ images l (λ b m. h b (later m))

  images_rise : (k : ℕ) (l : Body) (h : (a : Item) → a ∈ l → a ∈ g.body) → From item_key k l → From item_key k (images l h)
  unfolding images
  images_rise k [] h r = tt
  images_rise k (a ∷ l) h r =
      let e = (image a (h a here)).2 in
      (subst (λ (x : ℕ). k ≤ x) (sym e) r.0, subst (λ (x : ℕ). From item_key (suc x) (images l (λ b m. h b (later m)))) (sym e) (images_rise (suc (item_key a)) l (λ b m. h b (later m)) r.1))

  images_composed : (l : Body) (h : (a : Item) → a ∈ l → a ∈ g.body) (x : Item) → Mem x (images l h) → Composed f g x
  unfolding images
  images_composed (a ∷ l) h x (inl e) = subst (Composed f g) (sym e) (image a (h a here)).1
  images_composed (a ∷ l) h x (inr m) = images_composed l (λ b n. h b (later n)) x m
  images_composed [] h x x3 = elim x3 [ ]

  composed_images : (l : Body) (h : (a : Item) → a ∈ l → a ∈ g.body) (a x : Item) → Mem a l → Composed f g x → item_key x ≡ item_key a → Mem x (images l h)
  unfolding images
  composed_images (b ∷ l) h a x (inl e) c k = let i = image b (h b here) in inl (composed_one x i.0 c i.1 (k ∙ (ap item_key e ∙ sym i.2)))
  composed_images (b ∷ l) h a x (inr m) c k = inr (composed_images l (λ d n. h d (later n)) a x m c k)
  composed_images [] h a x x5 c k = elim x5 [ ]

  -- A composed item has the key of an item of the second.
  origin : (x : Item) → Composed f g x → (a : Item) × (a ∈ g.body) × (item_key x ≡ item_key a)
  unfolding item_key plain_key number_of
  origin x (composed_kind {n = n} {u = u} a b) = (mapping n 0 u, a, refl)
  origin x (composed_code {n = n} {p = p} {a = c} a b) = (clause n p 0 (write code c), a.stands, refl)

  pub composition : (h : Translation) × IsComposition f g h
  composition = (
    record { source = g.source; target = f.target; body = images g.body (λ a m. m) },
    record {
      source = refl;
      target = refl;
      body = record {
        in_order = rising_is item_key _ (images_rise 0 g.body (λ a m. m) (body_rises g wg));
        members = λ x. (
          λ m. images_composed g.body (λ a n. n) x (in_mem m),
          λ c. let o = origin x c in mem_in _ _ (composed_images g.body (λ a n. n) o.0 x (in_mem o.1) c o.2),
        );
      };
    },
  )
