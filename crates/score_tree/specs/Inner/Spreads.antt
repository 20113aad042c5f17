-- The ends of a plan's score, worked out while the plan is read, for fixed and loose plans alike: a fixed plan is one whose two
-- ends are equal. What is read is by the forms of the reader.
use Rattle.std.specs.Prelude.{ℕ, zero, suc, ◌+◌, ◌*◌, Bool, true, cond, ◌&&◌, List, [], ◌∷◌, leb, ℤ, pos, ◌+ℤ◌, ◌*ℤ◌}
use Rattle.std.proofs.Math.Option.{Option, none, some}
use Rattle.format_language.specs.Language.{Language, Range, range_of, arguments_of, in_range}
use Rattle.tree_reader.specs.Syntax.{Read, done, deep, broken, and_then}
use Rattle.score_tree.specs.Figures.{is_score}
use Rattle.score_tree.specs.Linear.{Loads}
use Rattle.score_tree.specs.Inner.Sums.{turned}
use Rattle.score_tree.specs.declared.walk.Tokens.{Tokens}
use Rattle.score_tree.specs.declared.walk.Tokens.TheVariants.{Fixed, Loose}

-- The ends of a plan's score, and whether both ends of each score in it are in the range.
pub record Spread : Type 0 where
  pub least : ℤ
  pub greatest : ℤ
  pub within : Bool

abbrev pub spread : ℤ → ℤ → Bool → Spread
spread a z t = record { least = a; greatest = z; within = t }

-- An end of the sum of a row of operands: one end of each stands in `same`, the other in `other`.
unfoldable pub row_sum : (Spread → ℤ) → (Spread → ℤ) → (ℕ → ℤ) → List Spread → ℤ
row_sum same other factor [] = pos 0
row_sum same other factor (x ∷ t) =
    factor 0 *ℤ turned (factor 0) (same x) (other x) +ℤ row_sum same other (λ i. factor (suc i)) t

abbrev pub low_sum : (ℕ → ℤ) → List Spread → ℤ
low_sum factor t = row_sum (λ x. x.least) (λ x. x.greatest) factor t

abbrev pub high_sum : (ℕ → ℤ) → List Spread → ℤ
high_sum factor t = row_sum (λ x. x.greatest) (λ x. x.least) factor t

-- All operands are within.
unfoldable pub row_within : List Spread → Bool
row_within [] = true
row_within (x ∷ t) = x.within && row_within t

-- A production p of kind k by its operands; only finished scores are tested.
unfoldable pub node_spread : Loads → ℕ → ℕ → List Spread → Spread
node_spread w k p t =
    let a = w k p 0 +ℤ low_sum (λ i. w k p (suc i)) t in
    let z = w k p 0 +ℤ high_sum (λ i. w k p (suc i)) t in
    spread a z (row_within t && (is_score a && is_score z))

-- A token of the class in two bytes: its value is both ends.
unfoldable pub read_fixed : Range → List ℕ → Read Spread
read_fixed c [] = broken
read_fixed c (x ∷ []) = broken
read_fixed c (x ∷ y ∷ s) =
    cond (in_range c (x * 256 + y)) (done (spread (pos (x * 256 + y)) (pos (x * 256 + y)) true) s) broken

-- Two values make a token, where each is legal and the first is not above the other.
unfoldable pub pair_spread : Range → ℕ → ℕ → List ℕ → Read Spread
pair_spread c a b s = cond (in_range c a && (in_range c b && leb a b)) (done (spread (pos a) (pos b) true) s) broken

-- A token of the class in four bytes: the least value, then the greatest.
unfoldable pub read_loosely : Range → List ℕ → Read Spread
read_loosely c [] = broken
read_loosely c (x ∷ []) = broken
read_loosely c (x ∷ y ∷ []) = broken
read_loosely c (x ∷ y ∷ z ∷ []) = broken
read_loosely c (x ∷ y ∷ z ∷ u ∷ s) = pair_spread c (x * 256 + y) (z * 256 + u) s

-- How many bytes a token has: 2 in fixed plans, 4 in loose ones.
abbrev pub token_size : Tokens → ℕ
token_size Fixed = 2
token_size Loose = 4

-- A token in so many bytes.
abbrev pub read_values : Tokens → Range → List ℕ → Read Spread
read_values Fixed c s = read_fixed c s
read_values Loose c s = read_loosely c s

-- Plans of the given kinds, one after the other.
unfoldable pub read_row : (ℕ → List ℕ → Read Spread) → List ℕ → List ℕ → Read (List Spread)
read_row reads [] s = done [] s
read_row reads (k ∷ ks) s = and_then (reads k s) λ a r. and_then (read_row reads ks r) λ t u. done (a ∷ t) u

-- The operands that a production asks for; an unknown production is broken.
unfoldable pub read_operands : (ℕ → List ℕ → Read Spread) → Loads → ℕ → ℕ → Option (List ℕ) → List ℕ → Read Spread
read_operands reads w k p none s = broken
read_operands reads w k p (some ks) s = and_then (read_row reads ks s) λ t r. done (node_spread w k p t) r

-- A production name of the kind, then its operands in order.
unfoldable pub read_name : (ℕ → List ℕ → Read Spread) → Language → Loads → ℕ → List ℕ → Read Spread
read_name reads l w k [] = broken
read_name reads l w k (p ∷ s) = read_operands reads w k p (arguments_of l k p) s

-- A class has a token, which is no level; what any other kind has comes last.
unfoldable pub by_class : Tokens → Option Range → List ℕ → Read Spread → Read Spread
by_class tokens (some c) s named = read_values tokens c s
by_class tokens none s named = named

-- The plan of kind k off the front of the bytes, with so many levels left. Past the last one only a token is read.
unfoldable pub read_spread : Tokens → Language → Loads → ℕ → ℕ → List ℕ → Read Spread
read_spread tokens l w zero k s = by_class tokens (range_of l k) s deep
read_spread tokens l w (suc n) k s = by_class tokens (range_of l k) s (read_name (read_spread tokens l w n) l w k s)
