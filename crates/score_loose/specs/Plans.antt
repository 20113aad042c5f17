-- Loose plans (paper 02, 2026-14): trees in which a token is two values, a least and a greatest, in four bytes.
use Rattle.std.specs.Prelude.{ℕ, zero, suc, ◌+◌, ◌*◌, Bool, cond, ◌&&◌, List, [], ◌∷◌, leb}
use Rattle.std.proofs.Math.Option.{Option, none, some}
use Rattle.format_language.specs.Language.{Language, Range, range_of, arguments_of, in_range}
use Rattle.tree_reader.specs.Syntax.{Read, done, deep, broken, and_then}

-- A production of a kind with its operands, or a token that is not settled yet.
mutual
  pub data Loose : Type 0 where
    node : (kind name : ℕ) (operands : Looses) → Loose
    token : (least greatest : ℕ) → Loose

  pub data Looses : Type 0 where
    nil : Looses
    cons : Loose → Looses → Looses

-- Two values make a loose token of a class: each is legal, and the least is not above the greatest.
unfoldable pub is_loose : Range → ℕ → ℕ → Bool
is_loose c a b = in_range c a && (in_range c b && leb a b)

-- The token of two values, where they make one.
unfoldable pub loose_token : Range → ℕ → ℕ → List ℕ → Read Loose
loose_token c a b s = cond (is_loose c a b) (done (token a b) s) broken

-- A token of the class in four bytes: the least value, then the greatest.
unfoldable pub read_pair : Range → List ℕ → Read Loose
read_pair c [] = broken
read_pair c (x ∷ []) = broken
read_pair c (x ∷ y ∷ []) = broken
read_pair c (x ∷ y ∷ z ∷ []) = broken
read_pair c (x ∷ y ∷ z ∷ u ∷ s) = loose_token c (x * 256 + y) (z * 256 + u) s

-- Loose plans of the given kinds, one after the other.
unfoldable pub read_looses : (ℕ → List ℕ → Read Loose) → List ℕ → List ℕ → Read Looses
read_looses reads [] s = done nil s
read_looses reads (k ∷ ks) s = and_then (reads k s) λ a r. and_then (read_looses reads ks r) λ t u. done (cons a t) u

-- The operands that a production asks for; an unknown production is broken.
unfoldable pub read_operands : (ℕ → List ℕ → Read Loose) → ℕ → ℕ → Option (List ℕ) → List ℕ → Read Loose
read_operands reads k p none s = broken
read_operands reads k p (some ks) s = and_then (read_looses reads ks s) λ t r. done (node k p t) r

-- A production name of the kind, then its operands in order.
unfoldable pub read_name : (ℕ → List ℕ → Read Loose) → Language → ℕ → List ℕ → Read Loose
read_name reads l k [] = broken
read_name reads l k (p ∷ s) = read_operands reads k p (arguments_of l k p) s

-- A class has a token, which is no level; what any other kind has comes last.
unfoldable pub by_class : Option Range → List ℕ → Read Loose → Read Loose
by_class (some c) s named = read_pair c s
by_class none s named = named

-- A loose plan of kind k off the front of the bytes, with so many levels left. Past the last one only a token is read (paper
-- 02, 2026-07, as for trees).
unfoldable pub read_loose : Language → ℕ → ℕ → List ℕ → Read Loose
read_loose l zero k s = by_class (range_of l k) s deep
read_loose l (suc n) k s = by_class (range_of l k) s (read_name (read_loose l n) l k s)
