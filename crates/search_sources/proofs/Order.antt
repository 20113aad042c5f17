-- Written trees of one kind are prefix-free: two of them are equal, or part at a byte.
use Prim.Native.Nat.{ℕ, ◌/◌, ◌%◌, ◌≤◌, ◌<◌}
use mathlib.Core.Path.{◌≡◌, refl, ap, sym}
use mathlib.Core.Logic.{◌⊎◌, inl, inr}
use mathlib.Core.Bool.{Bool, true, false}
use mathlib.Core.List.{List, [], ◌∷◌, ◌++◌}
use native.Mathlib.Omega.{arith}
use lib.Dec.{ltb}
use borrow.Author.Tests.{ltb-true, ltb-false}
use Rattle.tree_reader.specs.Code.{Code, node, token, argument, Codes, nil, cons}
use Rattle.tree_reader.specs.Syntax.{write, write_all, tree}
use Rattle.search_sources.specs.Inner.Order.{Earlier, EarlierAll, by_name, by_operands, by_value, at_first, after, Upto, UptoAll, Parts, here, on}

-- Two numbers compared, with the fact.
pub data Tri (m n : ℕ) : Type 0 where
  below : m < n → Tri m n
  level : m ≡ n → Tri m n
  above : n < m → Tri m n

pub tri : (m n : ℕ) → Tri m n
tri m n = go (ltb m n) (ltb n m) refl refl
  where
    go : (a b : Bool) → ltb m n ≡ a → ltb n m ≡ b → Tri m n
    go true b e f = below (ltb-true m n e)
    go false true e f = above (ltb-true n m f)
    go false false e f = level (omega (arith, ltb-false m n e, ltb-false n m f))

-- Whatever follows, they part there; and so they do behind equal bytes.
pub parts_append : {s t : List ℕ} → Parts s t → (x y : List ℕ) → Parts (s ++ x) (t ++ y)
parts_append (here h) x y = here h
parts_append (on h) x y = on (parts_append h x y)

parts_behind : (c : List ℕ) {s t : List ℕ} → Parts s t → Parts (c ++ s) (c ++ t)
parts_behind [] h = h
parts_behind (b ∷ c) h = on (parts_behind c h)

-- Equal lists do not part, and two lists do not part both ways.
abbrev Apart-at : List ℕ → List ℕ → Type 0
Apart-at [] t = ⊥
Apart-at (a ∷ s) [] = ⊥
Apart-at (a ∷ s) (b ∷ t) = (a < b) ⊎ ((a ≡ b) × Apart-at s t)

apart_at : {s t : List ℕ} → Parts s t → Apart-at s t
apart_at (here h) = inl h
apart_at (on h) = inr (refl, apart_at h)

no_apart : (s : List ℕ) → Apart-at s s → ⊥
no_apart [] h = h
no_apart (b ∷ s) (inl h) = omega arith
no_apart (b ∷ s) (inr h) = no_apart s h.1

pub parts_not_same : {s t : List ℕ} → Parts s t → s ≡ t → ⊥
parts_not_same {s} {t} h e = no_apart t (rw e at (apart_at h))

not_both_ways : {s t : List ℕ} → Parts s t → Apart-at t s → ⊥
not_both_ways (here h) (inl q) = omega arith
not_both_ways (here h) (inr q) = omega arith
not_both_ways (on h) (inl q) = omega arith
not_both_ways (on h) (inr q) = not_both_ways h q.1

pub parts_one_way : {s t : List ℕ} → Parts s t → Parts t s → ⊥
parts_one_way h q = not_both_ways h (apart_at q)

-- An earlier tree's bytes part from the other's.
token_parts : (v w : ℕ) → v < w → Tri (v / 256) (w / 256) → Parts (write tree (token v)) (write tree (token w))
unfolding write
token_parts v w h (below q) = here q
token_parts v w h (level q) = let z : v % 256 < w % 256 = omega arith in rw q (on (here z))
token_parts v w h (above q) = absurd (omega arith)

mutual
  unfolding write

  pub earlier_parts : {a b : Code} → Earlier a b → Parts (write tree a) (write tree b)
  earlier_parts (by_name h) = here h
  earlier_parts (by_operands h) = on (earlier_all_parts h)
  earlier_parts (by_value {v = v} {w = w} h) = token_parts v w h (tri (v / 256) (w / 256))

  pub earlier_all_parts : {t r : Codes} → EarlierAll t r → Parts (write_all tree t) (write_all tree r)
  earlier_all_parts (at_first {t = t} {r = r} h) = parts_append (earlier_parts h) (write_all tree t) (write_all tree r)
  earlier_all_parts (after {a = a} h) = parts_behind (write tree a) (earlier_all_parts h)

-- Each up to the other: they are equal.
pub upto_same : {a b : Code} → Upto a b → Upto b a → a ≡ b
upto_same (inl e) q = e
upto_same (inr h) (inl e) = sym e
upto_same (inr h) (inr q) = absurd (parts_one_way (earlier_parts h) (earlier_parts q))

-- Steps of the order.
pub upto_cons : (a b : Code) (t r : Codes) → Upto a b → UptoAll t r → UptoAll (cons a t) (cons b r)
upto_cons a b t r (inl e) (inl d) = inl (λ i. cons (e i) (d i))
upto_cons a b t r (inl e) (inr h) = inr (rw e (after h))
upto_cons a b t r (inr h) d = inr (at_first h)

pub upto_node : (k p : ℕ) (t r : Codes) → UptoAll t r → Upto (node k p t) (node k p r)
upto_node k p t r (inl e) = inl (ap (node k p) e)
upto_node k p t r (inr h) = inr (by_operands h)

pub upto_token : (v w : ℕ) → v ≤ w → Upto (token v) (token w)
upto_token v w h = go (tri v w)
  where
    go : Tri v w → Upto (token v) (token w)
    go (below q) = inr (by_value q)
    go (level e) = inl (ap token e)
    go (above q) = absurd (omega arith)

-- The same taken back.
abbrev Sooner : Code → Code → Type 0
Sooner (node k p t) (node j q r) = (p < q) ⊎ ((p ≡ q) × EarlierAll t r)
Sooner (node k p t) (token v) = Unit {0}
Sooner (node k p t) (argument i j) = Unit {0}
Sooner (token v) b = Unit {0}
Sooner (argument i j) b = Unit {0}

sooner : {a b : Code} → Earlier a b → Sooner a b
sooner (by_name h) = inl h
sooner (by_operands h) = inr (refl, h)
sooner (by_value h) = tt

abbrev SoonerAll : Codes → Codes → Type 0
SoonerAll nil r = Unit {0}
SoonerAll (cons a t) nil = Unit {0}
SoonerAll (cons a t) (cons b r) = Earlier a b ⊎ ((a ≡ b) × EarlierAll t r)

sooner_all : {t r : Codes} → EarlierAll t r → SoonerAll t r
sooner_all (at_first h) = inl h
sooner_all (after h) = inr (refl, h)

node_operands : {k p : ℕ} {t r : Codes} → node k p t ≡ node k p r → t ≡ r
node_operands e = cc

pub node_upto : {k p : ℕ} {t r : Codes} → Upto (node k p t) (node k p r) → UptoAll t r
node_upto (inl e) = inl (node_operands e)
node_upto {k} {p} {t} {r} (inr h) = go (sooner h)
  where
    go : (p < p) ⊎ ((p ≡ p) × EarlierAll t r) → UptoAll t r
    go (inl q) = absurd (omega arith)
    go (inr q) = inr q.1

-- A node of a greater name does not come up to one of a lesser.
pub not_upto : {k p q : ℕ} {t r : Codes} → Upto (node k p t) (node k q r) → q < p → ⊥
not_upto {k} {p} {q} {t} {r} (inl e) h = let z : p ≡ q = node_name e in omega arith
  where
    node_name : {k p q : ℕ} {t r : Codes} → node k p t ≡ node k q r → p ≡ q
    node_name e = cc
not_upto {k} {p} {q} {t} {r} (inr e) h = go (sooner e)
  where
    go : (p < q) ⊎ ((p ≡ q) × EarlierAll t r) → ⊥
    go (inl z) = omega arith
    go (inr z) = omega (arith, z.0)

cons_both : {a b : Code} {t r : Codes} → cons a t ≡ cons b r → (a ≡ b) × (t ≡ r)
cons_both e = (cc, cc)

pub first_upto : {a b : Code} {t : Codes} → UptoAll (cons a t) (cons b t) → Upto a b
first_upto (inl e) = inl (cons_both e).0
first_upto {a} {b} {t} (inr h) = go (sooner_all h)
  where
    go : Earlier a b ⊎ ((a ≡ b) × EarlierAll t t) → Upto a b
    go (inl q) = inr q
    go (inr q) = inl q.0

pub rest_upto : {a : Code} {t r : Codes} → UptoAll (cons a t) (cons a r) → UptoAll t r
rest_upto (inl e) = inl (cons_both e).1
rest_upto {a} {t} {r} (inr h) = go (sooner_all h)
  where
    go : Earlier a a ⊎ ((a ≡ a) × EarlierAll t r) → UptoAll t r
    go (inl q) = absurd (parts_not_same (earlier_parts q) refl)
    go (inr q) = inr q.1
