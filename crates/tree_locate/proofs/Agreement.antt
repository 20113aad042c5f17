-- Where reading stops and what it comes to agree: the walk over the stops is that of the reader of trees.
use Prim.Native.Nat.{ℕ, zero, suc, ◌+◌, ◌*◌}
use mathlib.Core.Path.{◌≡◌, refl, sym, ◌∙◌}
use mathlib.Core.Bool.{Bool, true, false}
use mathlib.Core.List.{List, [], ◌∷◌}
use mathlib.Core.Option.{Option, none, some}
use Rattle.format_language.specs.Language.{Language, Range, range_of, arguments_of, in_range}
use Rattle.tree_reader.specs.Code.{Code, node, token, cons}
use Rattle.tree_reader.specs.Syntax.{Read, done, broken, and_then, tree, read_all, read_operands, read_node, read_token, read_tree_level, read_level, past_levels, read_by, read}
use Rattle.tree_reader.specs.Syntax as Meant
use Rattle.tree_reader.specs.Inner.Positions.{Rest, rest, rest_of}
use Rattle.tree_reader.specs.Inner.Positions as Left
use Rattle.tree_locate.specs.Faults.{Stop, passes, ends, unfit, deep, onward, stop_all, stop_operands, stop_node, stop_token, stop}

-- What is left of the input, by a stop.
abbrev pub rest_by : Stop → Rest
rest_by (passes s) = rest s
rest_by ends = Left.broken
rest_by (unfit s) = Left.broken
rest_by (deep s) = Left.deep

token_agrees : (c : Range) (s : List ℕ) → rest_by (stop_token c s) ≡ rest_of (read_token (some c) s)
unfolding stop_token read_token
token_agrees c [] = refl
token_agrees c (x ∷ []) = refl
token_agrees c (x ∷ y ∷ s) = go (in_range c (x * 256 + y))
  where
    go : (t : Bool) → rest_by (elim t [ true ↦ passes s | false ↦ unfit (x ∷ y ∷ s) ])
        ≡ rest_of {A = Code} (elim t [ true ↦ done (token (x * 256 + y)) s | false ↦ broken ])
    go true = refl
    go false = refl

-- What is made of what was read leaves the same rest.
made : {A B : Type 0} (f : A → B) (o : Read A) → rest_of (and_then o λ a r. done (f a) r) ≡ rest_of o
made f (done a r) = refl
made f Meant.deep = refl
made f broken = refl

module _ (stops : ℕ → List ℕ → Stop) (reads : ℕ → List ℕ → Read Code) (agree : (k : ℕ) (s : List ℕ) → rest_by (stops k s) ≡ rest_of (reads k s)) where
  next_agrees : (ks : List ℕ) (o : Stop) (p : Read Code) → rest_by o ≡ rest_of p → ((s : List ℕ) → rest_by (stop_all stops ks s) ≡ rest_of (read_all reads ks s))
      → rest_by (onward o (stop_all stops ks)) ≡ rest_of (and_then p λ a r. and_then (read_all reads ks r) λ t u. done (cons a t) u)
  next_agrees ks (passes s) (done a r) e h =
      let z : s ≡ r = cc in
      rw z (h r ∙ sym (made (λ t. cons a t) (read_all reads ks r)))
  next_agrees ks (passes s) Meant.deep e h = cc
  next_agrees ks (passes s) broken e h = cc
  next_agrees ks ends (done a r) e h = cc
  next_agrees ks ends Meant.deep e h = cc
  next_agrees ks ends broken e h = refl
  next_agrees ks (unfit s) (done a r) e h = cc
  next_agrees ks (unfit s) Meant.deep e h = cc
  next_agrees ks (unfit s) broken e h = refl
  next_agrees ks (deep s) (done a r) e h = cc
  next_agrees ks (deep s) Meant.deep e h = refl
  next_agrees ks (deep s) broken e h = cc

  all_agrees : (ks s : List ℕ) → rest_by (stop_all stops ks s) ≡ rest_of (read_all reads ks s)
  unfolding stop_all read_all
  all_agrees [] s = refl
  all_agrees (k ∷ ks) s = next_agrees ks (stops k s) (reads k s) (agree k s) (λ r. all_agrees ks r)

  operands_agree : (k p : ℕ) (o : Option (List ℕ)) (s : List ℕ) → rest_by (stop_operands stops o p s) ≡ rest_of (read_operands reads k p o s)
  unfolding stop_operands read_operands
  operands_agree k p none s = refl
  operands_agree k p (some ks) s = all_agrees ks s ∙ sym (made (λ t. node k p t) (read_all reads ks s))

  node_agrees : (l : Language) (k : ℕ) (s : List ℕ) → rest_by (stop_node stops l k s) ≡ rest_of (read_node reads l k s)
  unfolding stop_node read_node
  node_agrees l k [] = refl
  node_agrees l k (p ∷ s) = operands_agree k p (arguments_of l k p) s

  level_agrees : (l : Language) (k : ℕ) (s : List ℕ) (o : Option Range)
      → rest_by (elim o [ some c ↦ stop_token c s | none ↦ stop_node stops l k s ])
      ≡ rest_of {A = Code} (elim o [ some c ↦ read_token (some c) s | none ↦ read_node reads l k s ])
  level_agrees l k s none = node_agrees l k s
  level_agrees l k s (some c) = token_agrees c s

past_agrees : (s : List ℕ) (o : Option Range)
    → rest_by (elim o [ some c ↦ stop_token c s | none ↦ deep s ]) ≡ rest_of {A = Code} (elim o [ some c ↦ read_token (some c) s | none ↦ Meant.deep ])
past_agrees s none = refl
past_agrees s (some c) = token_agrees c s

-- What is left by the stop is what is left by the reading.
pub stop_agrees : (l : Language) (n k : ℕ) (s : List ℕ) → rest_by (stop l n k s) ≡ rest_of (read tree l [] n k s)
unfolding stop read_by read_level read_tree_level past_levels
stop_agrees l zero k s = past_agrees s (range_of l k)
stop_agrees l (suc n) k s = level_agrees (stop l n) (read tree l [] n) (λ j r. stop_agrees l n j r) l k s (range_of l k)
