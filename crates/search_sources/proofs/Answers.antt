-- The least levels and the first trees, step by step: of operands, of a name, of the names of a kind, of a class.
use Prim.Native.Nat.{ℕ, zero, suc, max, ◌≤◌, ◌<◌}
use mathlib.Core.Path.{◌≡◌, refl, ap, sym, ◌∙◌}
use mathlib.Core.Logic.{inl}
use mathlib.Core.List.{List, [], ◌∷◌}
use mathlib.Core.Option.{none, some}
use native.Mathlib.Omega.{arith}
use Rattle.format_fields.proofs.Truth.{none_some, some_inj}
use Rattle.format_language.specs.Language.{Language, range_of, arguments_of}
use Rattle.tree_reader.specs.Code.{Code, node, Codes, nil, cons, levels, levels_all}
use Rattle.tree_reader.specs.Typing.{kind_at, Typed, TypedAll, typed_node, typed_token, typed_argument, typed_nil, typed_cons}
use Rattle.format_translation.specs.Running.{Clauses}
use Rattle.search_sources.specs.Inner.Order.{UptoAll}
use Rattle.search_sources.specs.Inner.Goals.{Goal, Meets, MeetsAll, Fits, FitsAll, First, FirstAll, Matches}
use Rattle.search_sources.specs.Inner.Levels.{Needs, NeedsAll, NeedsNamed}
use Rattle.search_sources.proofs.Order.{node_upto, first_upto, rest_upto, upto_same, not_upto, Tri, below, level, above, tri}

pub no_kind : (i j : ℕ) {k : ℕ} {A : Type 0} → kind_at [] i j ≡ some k → A
no_kind zero j e = none_some e
no_kind (suc i) j e = none_some e

-- More levels do not hurt.
pub fits_more : {l : Language} {f : Clauses} {n m k : ℕ} {g : Goal} {t : Code} → n ≤ m → Fits l f n k g t → Fits l f m k g t
fits_more h q = record { legal = q.legal; within = omega (arith, q.within); meets = q.meets }

-- There is one first tree.
pub first_one : {l : Language} {f : Clauses} {n k : ℕ} {g : Goal} {s t : Code} → First l f n k g s → First l f n k g t → s ≡ t
first_one h q = upto_same (h.least _ q.fits) (q.least _ h.fits)

-- Operands.
module _ (l : Language) (f : Clauses) (n : ℕ) where
  fits_cons : (k : ℕ) (ks : List ℕ) (g : ℕ → Goal) (a : Code) (t : Codes) → Fits l f n k (g 0) a → FitsAll l f n ks (λ j. g (suc j)) t
      → FitsAll l f n (k ∷ ks) g (cons a t)
  unfolding levels
  fits_cons k ks g a t h hs =
      record { legal = typed_cons h.legal hs.legal; within = omega (arith, h.within, hs.within); meets = (h.meets, hs.meets) }

  pub cons_fits : (k : ℕ) (ks : List ℕ) (g : ℕ → Goal) (t : Codes) → FitsAll l f n (k ∷ ks) g t
      → (a : Code) × (r : Codes) × (t ≡ cons a r) × Fits l f n k (g 0) a × FitsAll l f n ks (λ j. g (suc j)) r
  unfolding levels
  cons_fits k ks g t h = go h.legal h.within h.meets
    where
      go : {t : Codes} → TypedAll l [] t (k ∷ ks) → levels_all t ≤ n → MeetsAll f (k ∷ ks) g t
          → (a : Code) × (r : Codes) × (t ≡ cons a r) × Fits l f n k (g 0) a × FitsAll l f n ks (λ j. g (suc j)) r
      go (typed_cons {a = a} {t = r} q qs) w m =
          (a, r, refl, record { legal = q; within = omega arith; meets = m.0 }, record { legal = qs; within = omega arith; meets = m.1 })

  -- The first operands are each the first of its own.
  pub cons_first : (k : ℕ) (ks : List ℕ) (g : ℕ → Goal) (t : Codes) → FirstAll l f n (k ∷ ks) g t
      → (a : Code) × (r : Codes) × (t ≡ cons a r) × First l f n k (g 0) a × FirstAll l f n ks (λ j. g (suc j)) r
  cons_first k ks g t h =
      let z = cons_fits k ks g t h.fits in
      let low : (s : Codes) → FitsAll l f n (k ∷ ks) g s → UptoAll (cons z.0 z.1) s = λ s q. rw (← z.2) (h.least s q) in (
        z.0,
        z.1,
        z.2,
        record { fits = z.3; least = λ s q. first_upto (low (cons s z.1) (fits_cons k ks g s z.1 q z.4)) },
        record { fits = z.4; least = λ s q. rest_upto (low (cons z.0 s) (fits_cons k ks g z.0 s z.3 q)) },
      )

  pub nil_first : (g : ℕ → Goal) → FirstAll l f n [] g nil
  unfolding levels
  nil_first g = record { fits = record { legal = typed_nil; within = omega arith; meets = tt }; least = λ s q. nothing q.legal }
    where
      nothing : {t : Codes} → TypedAll l [] t [] → UptoAll nil t
      nothing typed_nil = inl refl

  pub first_nil : (g : ℕ → Goal) (t : Codes) → FirstAll l f n [] g t → t ≡ nil
  first_nil g t h = go h.fits.legal
    where
      go : {t : Codes} → TypedAll l [] t [] → t ≡ nil
      go typed_nil = refl

-- More levels do not hurt operands either.
all_more : {l : Language} {f : Clauses} {n m : ℕ} {ks : List ℕ} {g : ℕ → Goal} {t : Codes} → n ≤ m → FitsAll l f n ks g t → FitsAll l f m ks g t
all_more h q = record { legal = q.legal; within = omega (arith, q.within); meets = q.meets }

module _ (l : Language) (f : Clauses) (m : ℕ) where
  pub needs_nil : (g : ℕ → Goal) → NeedsAll l f m [] g 0
  needs_nil g = record { bound = omega arith; finds = λ q. (nil, (nil_first l f 0 g).fits); least = λ n t h q. omega arith }

  pub needs_cons : (k : ℕ) (ks : List ℕ) (g : ℕ → Goal) (x y : ℕ) → Needs l f m k (g 0) x → NeedsAll l f m ks (λ j. g (suc j)) y
      → NeedsAll l f m (k ∷ ks) g (max x y)
  needs_cons k ks g x y h hs = record {
    bound = omega (arith, h.bound, hs.bound);
    finds = λ q.
        let a = h.finds (omega arith) in
        let t = hs.finds (omega arith) in
        (cons a.0 t.0, fits_cons l f (max x y) k ks g a.0 t.0 (fits_more (omega arith) a.1) (all_more (omega arith) t.1));
    least = λ n t i q. let z = cons_fits l f n k ks g t q in omega (arith, h.least n z.0 i z.3, hs.least n z.1 i z.4);
  }

-- A node of a name whose production asks for operands of kinds ks, where the code matches.
module _ (l : Language) (f : Clauses) (k p : ℕ) (ks : List ℕ) (g : Goal) (b : ℕ → Goal) (known : arguments_of l k p ≡ some ks)
    (match : Matches l f k p ks g b) where
  pub node_fits : (n : ℕ) (t : Codes) → FitsAll l f n ks b t → Fits l f (suc n) k g (node k p t)
  unfolding levels
  node_fits n t h = record { legal = typed_node known h.legal; within = omega (arith, h.within); meets = match.up t h.legal h.meets }

  operands_legal : (j : ℕ) (t : Codes) → Typed l [] (node k p t) j → TypedAll l [] t ks
  operands_legal j t (typed_node d h) = rw (some_inj (sym d ∙ known)) at h

  fits_operands : (n : ℕ) (t : Codes) → Fits l f (suc n) k g (node k p t) → FitsAll l f n ks b t
  unfolding levels
  fits_operands n t h =
      let q = operands_legal k t h.legal in
      record { legal = q; within = omega (arith, h.within); meets = match.down t q h.meets }

  -- The first tree of that name has the first operands.
  pub node_first : (n : ℕ) (t : Codes) → First l f (suc n) k g (node k p t) → FirstAll l f n ks b t
  node_first n t h = record {
    fits = fits_operands n t h.fits;
    least = λ s q. node_upto (h.least (node k p s) (node_fits n s q));
  }

  pub needs_node : (m x : ℕ) → NeedsAll l f m ks b x → NeedsNamed l f m k p (suc p) g x
  needs_node m x h = record {
    bound = h.bound;
    finds = λ q. let t = h.finds q in (p, omega arith, omega arith, t.0, node_fits x t.0 t.1);
    least = λ n r s i y z w. let e : r ≡ p = omega arith in h.least n s i (fits_operands n s (rw e at w));
  }

-- No tree of a name.
pub needs_nothing : (l : Language) (f : Clauses) (m k p : ℕ) (g : Goal) → ((n : ℕ) (t : Codes) → Fits l f (suc n) k g (node k p t) → ⊥)
    → NeedsNamed l f m k p (suc p) g (suc m)
needs_nothing l f m k p g h = record {
  bound = omega arith;
  finds = λ q. absurd (omega arith);
  least = λ n r s i y z w. let e : r ≡ p = omega arith in absurd (h n s (rw e at w));
}

-- There is no production of the name.
unknown : {l : Language} {k j p : ℕ} {t : Codes} → arguments_of l k p ≡ none → Typed l [] (node k p t) j → ⊥
unknown e (typed_node d h) = none_some (sym e ∙ d)

pub needs_unknown : (l : Language) (f : Clauses) (m k p : ℕ) (g : Goal) → arguments_of l k p ≡ none → NeedsNamed l f m k p (suc p) g (suc m)
needs_unknown l f m k p g e = needs_nothing l f m k p g (λ n t q. unknown e q.legal)

-- The code does not match.
pub needs_unmatched : (l : Language) (f : Clauses) (m k p : ℕ) (ks : List ℕ) (g : Goal) → arguments_of l k p ≡ some ks
    → ((t : Codes) → TypedAll l [] t ks → Meets f g (node k p t) → ⊥) → NeedsNamed l f m k p (suc p) g (suc m)
needs_unmatched l f m k p ks g e h = needs_nothing l f m k p g (λ n t q. go n t q q.legal)
  where
    go : (n : ℕ) (t : Codes) → Fits l f (suc n) k g (node k p t) → {j : ℕ} → Typed l [] (node k p t) j → ⊥
    go n t q (typed_node d y) = h t (rw (some_inj (sym d ∙ e)) at y) q.meets

-- No names.
pub names_none : (l : Language) (f : Clauses) (m k : ℕ) (g : Goal) (p : ℕ) → NeedsNamed l f m k p p g (suc m)
names_none l f m k g p = record { bound = omega arith; finds = λ q. absurd (omega arith); least = λ n r s i y z w. absurd (omega arith) }

-- A kind that is no class has nodes only, with names under 256.
abbrev pub Named : Language → Type 0
Named l = (k p : ℕ) (ks : List ℕ) → arguments_of l k p ≡ some ks → p < 256

module _ (l : Language) (f : Clauses) (named : Named l) (k : ℕ) (g : Goal) (plain : range_of l k ≡ none) where
  pub kind_node : {t : Code} → Typed l [] t k → (p : ℕ) × (r : Codes) × (t ≡ node k p r) × (p < 256)
  kind_node (typed_node {p = p} {t = t} {ks = ks} d h) = (p, t, refl, named k p ks d)
  kind_node (typed_token d h) = none_some (sym plain ∙ d)
  kind_node (typed_argument {i = i} {j = j} d) = no_kind i j d

  no_level : (p : ℕ) (r : Codes) → Fits l f 0 k g (node k p r) → ⊥
  unfolding levels
  no_level p r h = omega (arith, h.within)

  no_tree : (t : Code) → Fits l f 0 k g t → ⊥
  no_tree t q = let z = kind_node q.legal in no_level z.0 z.1 (rw z.2 at q)

  pub needs_zero : Needs l f 0 k g 1
  needs_zero = record {
    bound = omega arith;
    finds = λ q. absurd (omega arith);
    least = λ n t i q. absurd (no_tree t (fits_more i q));
  }

  pub needs_kind : (m x : ℕ) → NeedsNamed l f m k 0 256 g x → Needs l f (suc m) k g (suc x)
  needs_kind m x h = record {
    bound = omega (arith, h.bound);
    finds = λ q. let t = h.finds (omega arith) in (node k t.0 t.3, t.4);
    least = least;
  }
    where
      least : (n : ℕ) (t : Code) → n ≤ suc m → Fits l f n k g t → suc x ≤ n
      least zero t i q = absurd (no_tree t q)
      least (suc n) t i q =
          let z = kind_node q.legal in
          let y = h.least n z.0 z.1 (omega arith) (omega arith) z.3 (rw z.2 at q) in omega arith

  -- The name of the first tree: with n levels for the operands some tree has it, and no tree has a lesser name.
  pub first_name : (n p : ℕ) (t : Code) → First l f (suc n) k g t → ((q : ℕ) (s : Codes) → q < p → Fits l f (suc n) k g (node k q s) → ⊥)
      → (s : Codes) → Fits l f (suc n) k g (node k p s) → (r : Codes) × (t ≡ node k p r)
  first_name n p t h lesser s w = let z = kind_node h.fits.legal in go z.0 z.1 z.2 (tri z.0 p)
    where
      go : (q : ℕ) (r : Codes) → t ≡ node k q r → Tri q p → (r : Codes) × (t ≡ node k p r)
      go q r e (below d) = absurd (lesser q r d (rw e at h.fits))
      go q r e (level d) = (r, e ∙ ap (λ (x : ℕ). node k x r) d)
      go q r e (above d) = absurd (not_upto (rw e at (h.least (node k p s) w)) d)
