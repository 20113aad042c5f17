-- Byte order of trees of one kind, and the first of lists of bytes.
use Prim.Native.Nat.{ℕ, ◌<◌}
use mathlib.Core.Path.{◌≡◌, refl, ap, sym, ◌∙◌}
use mathlib.Core.Logic.{◌⊎◌, inl, inr}
use mathlib.Core.Bool.{Bool, true, false, cond, ◌&&◌}
use mathlib.Core.List.{List, [], ◌∷◌}
use mathlib.Core.Option.{Option, none, some}
use native.Mathlib.Omega.{arith}
use lib.Dec.{ltb, eqb}
use borrow.Author.Tests.{ltb-true, lt-ltb, eqb-true, eq-eqb}
use Rattle.format_fields.proofs.Truth.{Mem, false_true, none_some, some_inj, or_cases, or_left, or_right, and_both, both_and, refuted, not_both}
use Rattle.format_language.specs.Language.{Language, arguments_of}
use Rattle.tree_reader.specs.Code.{Code, node, token, Codes, cons}
use Rattle.tree_reader.specs.Typing.{Typed, TypedAll, typed_node, typed_token, typed_argument, typed_nil, typed_cons}
use Rattle.tree_reader.specs.Syntax.{write, tree}
use Rattle.tree_reader.proofs.RoundTrip.{Apart}
use Rattle.search_sources.specs.Inner.Order.{Earlier, EarlierAll, by_name, by_operands, by_value, at_first, after, Upto, Parts, here, on}
use Rattle.search_sources.proofs.Order.{Tri, below, level, above, tri, earlier_parts}
use Rattle.search_sources.proofs.Answers.{no_kind}
use Rattle.search_sources.specs.Sources.{before, earlier, first_of}

-- Two trees, and two rows of operands, compared.
pub data Ordered (a b : Code) : Type 0 where
  equal : a ≡ b → Ordered a b
  first : Earlier a b → Ordered a b
  second : Earlier b a → Ordered a b

pub data OrderedAll (t r : Codes) : Type 0 where
  equal : t ≡ r → OrderedAll t r
  first : EarlierAll t r → OrderedAll t r
  second : EarlierAll r t → OrderedAll t r

order_node : (k p q : ℕ) (t r : Codes) → Tri p q → (p ≡ q → OrderedAll t r) → Ordered (node k p t) (node k q r)
order_node k p q t r (below h) c = Ordered.first (by_name h)
order_node k p q t r (above h) c = Ordered.second (by_name h)
order_node k p q t r (level e) c = rest (c e)
  where
    rest : OrderedAll t r → Ordered (node k p t) (node k q r)
    rest (OrderedAll.equal d) = Ordered.equal (λ i. node k (e i) (d i))
    rest (OrderedAll.first h) = Ordered.first (rw e (by_operands h))
    rest (OrderedAll.second h) = Ordered.second (rw e (by_operands h))

order_token : (v w : ℕ) → Tri v w → Ordered (token v) (token w)
order_token v w (below h) = Ordered.first (by_value h)
order_token v w (level e) = Ordered.equal (ap token e)
order_token v w (above h) = Ordered.second (by_value h)

order_cons : (a b : Code) (t r : Codes) → Ordered a b → OrderedAll t r → OrderedAll (cons a t) (cons b r)
order_cons a b t r (Ordered.first h) c = OrderedAll.first (at_first h)
order_cons a b t r (Ordered.second h) c = OrderedAll.second (at_first h)
order_cons a b t r (Ordered.equal e) (OrderedAll.equal d) = OrderedAll.equal (λ i. cons (e i) (d i))
order_cons a b t r (Ordered.equal e) (OrderedAll.first h) = OrderedAll.first (rw e (after h))
order_cons a b t r (Ordered.equal e) (OrderedAll.second h) = OrderedAll.second (rw e (after h))

module _ (l : Language) (apart : Apart l) where
  mutual
    -- Two trees of one kind are equal, or one comes earlier.
    pub order : {a b : Code} {k : ℕ} → Typed l [] a k → Typed l [] b k → Ordered a b
    order (typed_node {k = k} {p = p} {t = t} e h) (typed_node {p = q} {t = r} d g) =
        order_node k p q t r (tri p q) (λ z. order_all h (rw (some_inj (sym d ∙ (ap (arguments_of l k) (sym z) ∙ e))) at g))
    order (typed_node {k = k} {p = p} {ks = ks} e h) (typed_token d g) = none_some (sym (apart k p ks e) ∙ d)
    order (typed_token {k = k} e h) (typed_node {p = q} {ks = ks} d g) = none_some (sym (apart k q ks d) ∙ e)
    order (typed_token {v = v} e h) (typed_token {v = w} d g) = order_token v w (tri v w)
    order (typed_argument {i = i} {j = j} e) g = no_kind i j e
    order (typed_node e h) (typed_argument {i = i} {j = j} d) = no_kind i j d
    order (typed_token e h) (typed_argument {i = i} {j = j} d) = no_kind i j d

    order_all : {t r : Codes} {ks : List ℕ} → TypedAll l [] t ks → TypedAll l [] r ks → OrderedAll t r
    order_all typed_nil typed_nil = OrderedAll.equal refl
    order_all (typed_cons {a = a} {t = t} h hs) (typed_cons {a = b} {t = r} g gs) = order_cons a b t r (order h g) (order_all hs gs)

-- The earlier tree's bytes come before the other's.
parts_before : {s t : List ℕ} → Parts s t → before s t ≡ true
unfolding before
parts_before (here {a = a} {b = b} h) = or_left (ltb a b) _ (lt-ltb a b h)
parts_before (on {b = b} h) = or_right (ltb b b) _ (both_and (eqb b b) _ (eq-eqb b b refl) (parts_before h))

pub earlier_before : {a b : Code} → Earlier a b → before (write tree a) (write tree b) ≡ true
earlier_before h = parts_before (earlier_parts h)

-- Of trees of a kind, one whose bytes no other's come before is up to each other.
pub least_upto : (l : Language) → Apart l → {a b : Code} {k : ℕ} → Typed l [] a k → Typed l [] b k → before (write tree b) (write tree a) ≡ false → Upto a b
least_upto l apart {a} {b} h g e = go (order l apart h g)
  where
    go : Ordered a b → Upto a b
    go (Ordered.equal d) = inl d
    go (Ordered.first q) = inr q
    go (Ordered.second q) = not_both (earlier_before q) e

-- Byte order is an order.
cases : (a b : ℕ) (s t : List ℕ) → before (a ∷ s) (b ∷ t) ≡ true → (a < b) ⊎ ((a ≡ b) × (before s t ≡ true))
unfolding before
cases a b s t e = go (or_cases (ltb a b) (eqb a b && before s t) e)
  where
    go : (ltb a b ≡ true) ⊎ ((eqb a b && before s t) ≡ true) → (a < b) ⊎ ((a ≡ b) × (before s t ≡ true))
    go (inl q) = inl (ltb-true a b q)
    go (inr q) = let z = and_both (eqb a b) (before s t) q in inr (eqb-true a b z.0, z.1)

by_less : (a b : ℕ) (s t : List ℕ) → a < b → before (a ∷ s) (b ∷ t) ≡ true
unfolding before
by_less a b s t h = or_left (ltb a b) _ (lt-ltb a b h)

by_rest : (a b : ℕ) (s t : List ℕ) → a ≡ b → before s t ≡ true → before (a ∷ s) (b ∷ t) ≡ true
unfolding before
by_rest a b s t h e = or_right (ltb a b) _ (both_and (eqb a b) _ (eq-eqb a b h) e)

pub one_way : (s t : List ℕ) → before s t ≡ true → before t s ≡ true → ⊥
unfolding before
one_way [] [] e d = false_true e
one_way [] (b ∷ t) e d = false_true d
one_way (a ∷ s) [] e d = false_true e
one_way (a ∷ s) (b ∷ t) e d = go (λ x y. one_way s t x y) (cases a b s t e) (cases b a t s d)
  where
    go : (before s t ≡ true → before t s ≡ true → ⊥) → (a < b) ⊎ ((a ≡ b) × (before s t ≡ true)) → (b < a) ⊎ ((b ≡ a) × (before t s ≡ true)) → ⊥
    go r (inl x) (inl y) = omega arith
    go r (inl x) (inr y) = omega (arith, y.0)
    go r (inr x) (inl y) = omega (arith, x.0)
    go r (inr x) (inr y) = r x.1 y.1

-- Not before is passed on: where x comes before s, it comes before t, or t comes before s.
between : (x s t : List ℕ) → before x s ≡ true → (before x t ≡ true) ⊎ (before t s ≡ true)
unfolding before
between [] [] t e = false_true e
between [] (b ∷ s) [] e = inr refl
between [] (b ∷ s) (c ∷ t) e = inl refl
between (a ∷ x) [] t e = false_true e
between (a ∷ x) (b ∷ s) [] e = inr refl
between (a ∷ x) (b ∷ s) (c ∷ t) e = go (λ z. between x s t z) (cases a b x s e) (tri a c)
  where
    rest : a ≡ c → a ≡ b → (before x t ≡ true) ⊎ (before t s ≡ true) → (before (a ∷ x) (c ∷ t) ≡ true) ⊎ (before (c ∷ t) (b ∷ s) ≡ true)
    rest d q (inl z) = inl (by_rest a c x t d z)
    rest d q (inr z) = inr (by_rest c b t s (sym d ∙ q) z)

    go : (before x s ≡ true → (before x t ≡ true) ⊎ (before t s ≡ true)) → (a < b) ⊎ ((a ≡ b) × (before x s ≡ true)) → Tri a c
        → (before (a ∷ x) (c ∷ t) ≡ true) ⊎ (before (c ∷ t) (b ∷ s) ≡ true)
    go r q (below h) = inl (by_less a c x t h)
    go r (inl q) (above h) = inr (by_less c b t s (omega arith))
    go r (inr q) (above h) = inr (by_less c b t s (omega (arith, q.0)))
    go r (inl q) (level d) = inr (by_less c b t s (omega arith))
    go r (inr q) (level d) = rest d q.0 (r q.1)

-- The first of lists of bytes is one of them, and none comes before it.
abbrev pub FirstIn : List (List ℕ) → Option (List ℕ) → Type 0
FirstIn l none = (x : List ℕ) → Mem x l → ⊥
FirstIn l (some s) = Mem s l × ((x : List ℕ) → Mem x l → before x s ≡ false)

pub first_in : (l : List (List ℕ)) → FirstIn l (first_of l)
unfolding first_of earlier
first_in [] = λ x m. m
first_in (s ∷ l) = go (first_of l) (first_in l)
  where
    go : (o : Option (List ℕ)) → FirstIn l o → FirstIn (s ∷ l) (earlier s o)
    go none h = (inl refl, λ x m. self x m)
      where
        self : (x : List ℕ) → Mem x (s ∷ l) → before x s ≡ false
        self x (inl e) = refuted (before x s) (λ d. one_way s s (rw e at d) (rw e at d))
        self x (inr m) = absurd (h x m)
    go (some t) h = pick (before t s) refl
      where
        lower : before t s ≡ true → (x : List ℕ) → Mem x (s ∷ l) → before x t ≡ false
        lower e x (inl d) = refuted (before x t) (λ q. one_way t s e (rw d at q))
        lower e x (inr m) = h.1 x m

        stays : before t s ≡ false → (x : List ℕ) → Mem x (s ∷ l) → before x s ≡ false
        stays e x (inl d) = refuted (before x s) (λ q. one_way s s (rw d at q) (rw d at q))
        stays e x (inr m) = refuted (before x s) (λ q. last (between x s t q))
          where
            last : (before x t ≡ true) ⊎ (before t s ≡ true) → ⊥
            last (inl z) = not_both z (h.1 x m)
            last (inr z) = not_both z e

        pick : (b : Bool) → before t s ≡ b → FirstIn (s ∷ l) (cond b (some t) (some s))
        pick true e = (inr h.0, lower e)
        pick false e = (inl refl, stays e)
