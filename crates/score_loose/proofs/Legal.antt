-- Whatever is read as a loose plan is legal, and a tree that settles it has no more levels than were left.
use Prim.Native.Nat.{ℕ, zero, suc, ◌+◌, ◌*◌, ◌≤◌}
use mathlib.Core.Path.{◌≡◌, refl}
use mathlib.Core.Bool.{Bool, true, false, cond}
use mathlib.Core.List.{List, [], ◌∷◌}
use mathlib.Core.Option.{Option, none, some}
use native.Mathlib.Omega.{arith}
use Rattle.format_language.specs.Language.{Language, Range, range_of, arguments_of}
use Rattle.tree_reader.specs.Code.{Code, Codes, levels, levels_all}
use Rattle.tree_reader.specs.Syntax.{Read, done, deep, broken, and_then}
use Rattle.score_loose.specs.Plans.{Loose, node, token, Looses, nil, cons, is_loose, loose_token, read_pair, read_looses, read_operands, read_name, by_class, read_loose}
use Rattle.score_loose.specs.Laws.{Settles, settles_node, settles_token, SettlesAll, settles_nil, settles_cons}

-- A loose plan is of a kind.
mutual
  pub data Legal (l : Language) : Loose → ℕ → Type 0 where
    legal_node : {k p : ℕ} {t : Looses} {ks : List ℕ} → arguments_of l k p ≡ some ks → LegalAll l t ks → Legal l (node k p t) k
    legal_token : {a b k : ℕ} {c : Range} → range_of l k ≡ some c → is_loose c a b ≡ true → Legal l (token a b) k

  pub data LegalAll (l : Language) : Looses → List ℕ → Type 0 where
    legal_nil : LegalAll l nil []
    legal_cons : {a : Loose} {k : ℕ} {t : Looses} {ks : List ℕ} → Legal l a k → LegalAll l t ks → LegalAll l (cons a t) (k ∷ ks)

-- What reading came to is right.
abbrev Right : Language → ℕ → ℕ → Read Loose → Type 0
Right l n k (done t r) = Legal l t k × ((c : Code) → Settles c t → levels c ≤ n)
Right l n k deep = Unit {0}
Right l n k broken = Unit {0}

abbrev RightAll : Language → ℕ → List ℕ → Read Looses → Type 0
RightAll l n ks (done t r) = LegalAll l t ks × ((c : Codes) → SettlesAll c t → levels_all c ≤ n)
RightAll l n ks deep = Unit {0}
RightAll l n ks broken = Unit {0}

-- A token has no levels.
token_flat : {a b : ℕ} (c : Code) → Settles c (token a b) → levels c ≡ 0
unfolding levels
token_flat c (settles_token h k) = refl

module _ (l : Language) (n k : ℕ) (c : Range) (e : range_of l k ≡ some c) where
  token_right : (a b : ℕ) (s : List ℕ) (t : Bool) → is_loose c a b ≡ t → Right l n k (cond t (done (token a b) s) broken)
  token_right a b s true q = (legal_token e q, λ x h. let z = token_flat x h in omega arith)
  token_right a b s false q = tt

  pair_right : (s : List ℕ) → Right l n k (read_pair c s)
  unfolding read_pair loose_token
  pair_right [] = tt
  pair_right (x ∷ []) = tt
  pair_right (x ∷ y ∷ []) = tt
  pair_right (x ∷ y ∷ z ∷ []) = tt
  pair_right (x ∷ y ∷ z ∷ u ∷ s) = token_right (x * 256 + y) (z * 256 + u) s (is_loose c (x * 256 + y) (z * 256 + u)) refl

nil_flat : (c : Codes) → SettlesAll c nil → levels_all c ≡ 0
unfolding levels_all
nil_flat c settles_nil = refl

cons_deep : {a : Loose} {t : Looses} (n : ℕ) (c : Codes) → ((x : Code) → Settles x a → levels x ≤ n) → ((x : Codes) → SettlesAll x t → levels_all x ≤ n)
    → SettlesAll c (cons a t) → levels_all c ≤ n
unfolding levels_all
cons_deep n c f g (settles_cons {c = x} {t = y} h k) = let p = f x h in let q = g y k in omega arith

node_deep : {k p : ℕ} {t : Looses} (n : ℕ) (c : Code) → ((x : Codes) → SettlesAll x t → levels_all x ≤ n) → Settles c (node k p t) → levels c ≤ suc n
unfolding levels
node_deep n c g (settles_node {t = y} h) = let q = g y h in omega arith

module _ (l : Language) (n : ℕ) (reads : ℕ → List ℕ → Read Loose) (right : (k : ℕ) (s : List ℕ) → Right l n k (reads k s)) where
  rest_right : (k : ℕ) (ks : List ℕ) (a : Loose) → Legal l a k × ((c : Code) → Settles c a → levels c ≤ n) → (o : Read Looses) → RightAll l n ks o
      → RightAll l n (k ∷ ks) (and_then o λ t u. done (cons a t) u)
  rest_right k ks a h (done t u) g = (legal_cons h.0 g.0, λ c y. cons_deep n c h.1 g.1 y)
  rest_right k ks a h deep g = tt
  rest_right k ks a h broken g = tt

  first_right : (k : ℕ) (ks : List ℕ) (o : Read Loose) → Right l n k o → ((r : List ℕ) → RightAll l n ks (read_looses reads ks r))
      → RightAll l n (k ∷ ks) (and_then o λ a r. and_then (read_looses reads ks r) λ t u. done (cons a t) u)
  first_right k ks (done a r) h g = rest_right k ks a h (read_looses reads ks r) (g r)
  first_right k ks deep h g = tt
  first_right k ks broken h g = tt

  all_right : (ks s : List ℕ) → RightAll l n ks (read_looses reads ks s)
  unfolding read_looses
  all_right [] s = (legal_nil, λ c h. let z = nil_flat c h in omega arith)
  all_right (k ∷ ks) s = first_right k ks (reads k s) (right k s) (λ r. all_right ks r)

  node_right : (k p : ℕ) (ks : List ℕ) → arguments_of l k p ≡ some ks → (o : Read Looses) → RightAll l n ks o → Right l (suc n) k (and_then o λ t r. done (node k p t) r)
  node_right k p ks e (done t r) g = (legal_node e g.0, λ c h. node_deep n c g.1 h)
  node_right k p ks e deep g = tt
  node_right k p ks e broken g = tt

  operands_right : (k p : ℕ) (s : List ℕ) (o : Option (List ℕ)) → arguments_of l k p ≡ o → Right l (suc n) k (read_operands reads k p o s)
  unfolding read_operands
  operands_right k p s none e = tt
  operands_right k p s (some ks) e = node_right k p ks e (read_looses reads ks s) (all_right ks s)

  name_right : (k : ℕ) (s : List ℕ) → Right l (suc n) k (read_name reads l k s)
  unfolding read_name
  name_right k [] = tt
  name_right k (p ∷ s) = operands_right k p s (arguments_of l k p) refl

class_right : (l : Language) (n k : ℕ) (s : List ℕ) (o : Option Range) → range_of l k ≡ o → (named : Read Loose) → Right l n k named → Right l n k (by_class o s named)
unfolding by_class
class_right l n k s (some c) e named h = pair_right l n k c e s
class_right l n k s none e named h = h

read_right : (l : Language) (n k : ℕ) (s : List ℕ) → Right l n k (read_loose l n k s)
unfolding read_loose
read_right l zero k s = class_right l zero k s (range_of l k) refl deep tt
read_right l (suc n) k s =
    class_right l (suc n) k s (range_of l k) refl (read_name (read_loose l n) l k s) (name_right l n (read_loose l n) (λ j r. read_right l n j r) k s)

pub read_legal : (l : Language) (n k : ℕ) (s : List ℕ) (t : Loose) (r : List ℕ) → read_loose l n k s ≡ done t r
    → Legal l t k × ((c : Code) → Settles c t → levels c ≤ n)
read_legal l n k s t r e = rw e at (read_right l n k s)
