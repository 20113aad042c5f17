-- What the walk over a plan reads in tokens of four bytes is the loose plan, and its two ends are those of the plan's score.
use Prim.Native.Nat.{ℕ, zero, suc, ◌*◌, ◌+◌}
use mathlib.Core.Path.{◌≡◌, refl, ap, ◌∙◌}
use mathlib.Core.Bool.{Bool, true, false, cond, ◌&&◌}
use mathlib.Core.List.{List, [], ◌∷◌}
use mathlib.Core.Option.{Option, none, some}
use lib.IntN.{ℤ, pos, ◌+ℤ◌, ◌*ℤ◌}
use lib.Signed.{lt_z}
use Rattle.format_language.specs.Language.{Language, Range, range_of, arguments_of}
use Rattle.tree_reader.specs.Syntax.{Read, done, deep, broken, and_then}
use Rattle.score_tree.specs.Figures.{is_score}
use Rattle.score_tree.specs.Linear.{Loads}
use Rattle.score_tree.specs.Inner.Sums.{turned}
use Rattle.score_tree.specs.Inner.Spreads as Walk
use Rattle.score_tree.specs.Inner.Spreads.{Spread, spread, row_sum, row_within, node_spread, read_loosely, pair_spread, read_row, read_spread}
use Rattle.score_tree.specs.declared.walk.Tokens.TheVariants as Kinds
use Rattle.score_tree.proofs.Fixed.{measured}
use Rattle.score_loose.specs.Plans.{Loose, node, token, Looses, nil, cons, is_loose, loose_token, read_pair, read_looses, read_operands, read_name, by_class, read_loose}
use Rattle.score_loose.specs.Ends.{End, low, high, other_end, end_by, end, end_all, both_within, all_within}

-- What a loose plan comes to, and a row of them.
abbrev pub loose_spread : Loads → Loose → Spread
loose_spread w t = spread (end low w t) (end high w t) (both_within w t)

unfoldable loose_row : Loads → Looses → List Spread
loose_row w nil = []
loose_row w (cons a t) = loose_spread w a ∷ loose_row w t

module _ (w : Loads) where
  end_taken : (e : End) (f : ℤ) (a : Loose) → turned f (end e w a) (end (other_end e) w a) ≡ end (end_by f e) w a
  unfolding turned end_by
  end_taken e f a = go (lt_z f (pos 0))
    where
      go : (c : Bool) → cond c (end (other_end e) w a) (end e w a) ≡ end (cond c (other_end e) e) w a
      go true = refl
      go false = refl

  row_sum_lem : (e : End) (same other : Spread → ℤ) → ((a : Loose) → same (loose_spread w a) ≡ end e w a) → ((a : Loose) → other (loose_spread w a) ≡ end (other_end e) w a)
      → (factor : ℕ → ℤ) (t : Looses) → row_sum same other factor (loose_row w t) ≡ end_all e w factor t
  unfolding row_sum loose_row end_all
  row_sum_lem e same other h g factor nil = refl
  row_sum_lem e same other h g factor (cons a t) =
      let x : turned (factor 0) (same (loose_spread w a)) (other (loose_spread w a)) ≡ end (end_by (factor 0) e) w a =
      (λ i. turned (factor 0) (h a i) (g a i)) ∙ end_taken e (factor 0) a in
      let rest = row_sum_lem e same other h g (λ i. factor (suc i)) t in
      λ i. factor 0 *ℤ x i +ℤ rest i

  row_within_lem : (t : Looses) → row_within (loose_row w t) ≡ all_within w t
  unfolding row_within loose_row all_within
  row_within_lem nil = refl
  row_within_lem (cons a t) = ap (λ (b : Bool). both_within w a && b) (row_within_lem t)

  node_is : (k p : ℕ) (t : Looses) → node_spread w k p (loose_row w t) ≡ loose_spread w (node k p t)
  unfolding node_spread end both_within
  node_is k p t =
      let a = ap (λ (z : ℤ). w k p 0 +ℤ z) (row_sum_lem low (λ x. x.least) (λ x. x.greatest) (λ c. refl) (λ c. refl) (λ i. w k p (suc i)) t) in
      let z = ap (λ (z : ℤ). w k p 0 +ℤ z) (row_sum_lem high (λ x. x.greatest) (λ x. x.least) (λ c. refl) (λ c. refl) (λ i. w k p (suc i)) t) in
      λ i. spread (a i) (z i) (row_within_lem t i && (is_score (a i) && is_score (z i)))

  token_is : (c : Range) (s : List ℕ) → read_loosely c s ≡ measured (loose_spread w) (read_pair c s)
  unfolding read_loosely pair_spread read_pair loose_token is_loose end both_within
  token_is c [] = refl
  token_is c (x ∷ []) = refl
  token_is c (x ∷ y ∷ []) = refl
  token_is c (x ∷ y ∷ z ∷ []) = refl
  token_is c (x ∷ y ∷ z ∷ u ∷ s) = go (is_loose c (x * 256 + y) (z * 256 + u))
    where
      go : (b : Bool) → cond b (done (spread (pos (x * 256 + y)) (pos (z * 256 + u)) true) s) broken ≡ measured (loose_spread w) (cond b (done (token (x * 256 + y) (z * 256 + u)) s) broken)
      go true = refl
      go false = refl

  module _ (reads : ℕ → List ℕ → Read Spread) (plans : ℕ → List ℕ → Read Loose) (same : (k : ℕ) (s : List ℕ) → reads k s ≡ measured (loose_spread w) (plans k s)) where
    rest_is : (a : Loose) (o : Read Looses) → (and_then (measured (loose_row w) o) λ t u. done (loose_spread w a ∷ t) u) ≡ measured (loose_row w) (and_then o λ t u. done (cons a t) u)
    unfolding loose_row
    rest_is a (done t u) = refl
    rest_is a deep = refl
    rest_is a broken = refl

    first_is : (ks : List ℕ) → ((r : List ℕ) → read_row reads ks r ≡ measured (loose_row w) (read_looses plans ks r)) → (o : Read Loose)
        → (and_then (measured (loose_spread w) o) λ a r. and_then (read_row reads ks r) λ t u. done (a ∷ t) u)
        ≡ measured (loose_row w) (and_then o λ a r. and_then (read_looses plans ks r) λ t u. done (cons a t) u)
    first_is ks h (done a r) = ap (λ (o : Read (List Spread)). and_then o λ t u. done (loose_spread w a ∷ t) u) (h r) ∙ rest_is a (read_looses plans ks r)
    first_is ks h deep = refl
    first_is ks h broken = refl

    row_is : (ks s : List ℕ) → read_row reads ks s ≡ measured (loose_row w) (read_looses plans ks s)
    unfolding read_row read_looses loose_row
    row_is [] s = refl
    row_is (k ∷ ks) s = ap (λ (o : Read Spread). and_then o λ a r. and_then (read_row reads ks r) λ t u. done (a ∷ t) u) (same k s) ∙ first_is ks (λ r. row_is ks r) (plans k s)

    operands_are : (k p : ℕ) (o : Option (List ℕ)) (s : List ℕ) → Walk.read_operands reads w k p o s ≡ measured (loose_spread w) (read_operands plans k p o s)
    unfolding Walk.read_operands read_operands
    operands_are k p none s = refl
    operands_are k p (some ks) s = ap (λ (o : Read (List Spread)). and_then o λ t r. done (node_spread w k p t) r) (row_is ks s) ∙ go (read_looses plans ks s)
      where
        go : (o : Read Looses) → (and_then (measured (loose_row w) o) λ t r. done (node_spread w k p t) r) ≡ measured (loose_spread w) (and_then o λ t r. done (node k p t) r)
        go (done t r) = ap (λ (x : Spread). done x r) (node_is k p t)
        go deep = refl
        go broken = refl

    name_is : (l : Language) (k : ℕ) (s : List ℕ) → Walk.read_name reads l w k s ≡ measured (loose_spread w) (read_name plans l k s)
    unfolding Walk.read_name read_name
    name_is l k [] = refl
    name_is l k (p ∷ s) = operands_are k p (arguments_of l k p) s

  class_is : (o : Option Range) (s : List ℕ) (named : Read Spread) (plan : Read Loose) → named ≡ measured (loose_spread w) plan
      → Walk.by_class Kinds.Loose o s named ≡ measured (loose_spread w) (by_class o s plan)
  unfolding Walk.by_class by_class
  class_is (some c) s named plan e = token_is c s
  class_is none s named plan e = e

-- What the walk reads in tokens of four bytes.
pub loose_reads : (l : Language) (w : Loads) (n k : ℕ) (s : List ℕ) → read_spread Kinds.Loose l w n k s ≡ measured (loose_spread w) (read_loose l n k s)
unfolding read_spread read_loose
loose_reads l w zero k s = class_is w (range_of l k) s deep deep refl
loose_reads l w (suc n) k s =
    class_is w (range_of l k) s (Walk.read_name (read_spread Kinds.Loose l w n) l w k s) (read_name (read_loose l n) l k s)
    (name_is w (read_spread Kinds.Loose l w n) (read_loose l n) (λ j r. loose_reads l w n j r) l k s)
