-- A tree is a plan whose two ends are equal: what the walk reads in tokens of two bytes is the tree, and both ends are its score.
use Prim.Native.Nat.{ℕ, zero, suc, ◌*◌, ◌+◌}
use mathlib.Core.Path.{◌≡◌, refl, sym, ap, ◌∙◌}
use mathlib.Core.Bool.{Bool, true, false, cond, ◌&&◌}
use mathlib.Core.List.{List, [], ◌∷◌}
use mathlib.Core.Option.{Option, none, some}
use lib.IntN.{ℤ, pos, ◌+ℤ◌, ◌*ℤ◌}
use lib.Signed.{lt_z}
use Rattle.format_language.specs.Language.{Language, Range, in_range, range_of, arguments_of}
use Rattle.tree_reader.specs.Code.{Code, node, token, Codes, nil, cons}
use Rattle.tree_reader.specs.Syntax as Trees
use Rattle.tree_reader.specs.Syntax.{Read, done, deep, broken, and_then, tree, read, read_token, read_all, read_node}
use Rattle.check_operations.proofs.Reading.{read_class, read_node_lem, read_past}
use Rattle.score_tree.specs.Figures.{is_score}
use Rattle.score_tree.specs.Linear.{Loads, constant, form, form_all, passes, passes_all}
use Rattle.score_tree.specs.Inner.Sums.{turned}
use Rattle.score_tree.specs.Inner.Spreads.{Spread, spread, row_sum, row_within, node_spread, read_fixed, read_values, read_row, read_operands, read_name, read_spread}
use Rattle.score_tree.specs.declared.walk.Tokens.TheVariants.{Fixed}
use Rattle.score_tree.proofs.Plans.{class_read, past_read, name_read}

-- What was read, measured.
abbrev pub measured : {A B : Type 0} → (A → B) → Read A → Read B
measured f o = and_then o λ a r. done (f a) r

-- What a tree comes to, and a row of them.
abbrev pub fixed_spread : Loads → Code → Spread
fixed_spread w t = spread (form w t 0) (form w t 0) (passes is_score w t 0)

unfoldable fixed_row : Loads → Codes → List Spread
fixed_row w nil = []
fixed_row w (cons a t) = fixed_spread w a ∷ fixed_row w t

turned_one : (f x : ℤ) → turned f x x ≡ x
unfolding turned
turned_one f x = go (lt_z f (pos 0))
  where
    go : (c : Bool) → cond c x x ≡ x
    go true = refl
    go false = refl

and_same : (t : Bool) → (t && t) ≡ t
and_same true = refl
and_same false = refl

module _ (w : Loads) where
  row_sum_lem : (same other : Spread → ℤ) → ((a : Code) → same (fixed_spread w a) ≡ form w a 0) → ((a : Code) → other (fixed_spread w a) ≡ form w a 0)
      → (factor : ℕ → ℤ) (t : Codes) → row_sum same other factor (fixed_row w t) ≡ form_all w factor t 0
  unfolding row_sum fixed_row form_all
  row_sum_lem same other h g factor nil = refl
  row_sum_lem same other h g factor (cons a t) =
      let x : turned (factor 0) (same (fixed_spread w a)) (other (fixed_spread w a)) ≡ form w a 0 =
      (λ i. turned (factor 0) (h a i) (g a i)) ∙ turned_one (factor 0) (form w a 0) in
      let rest = row_sum_lem same other h g (λ i. factor (suc i)) t in
      λ i. factor 0 *ℤ x i +ℤ rest i

  row_within_lem : (t : Codes) → row_within (fixed_row w t) ≡ passes_all is_score w t 0
  unfolding row_within fixed_row passes_all
  row_within_lem nil = refl
  row_within_lem (cons a t) = ap (λ (b : Bool). passes is_score w a 0 && b) (row_within_lem t)

  node_is : (k p : ℕ) (t : Codes) → node_spread w k p (fixed_row w t) ≡ fixed_spread w (node k p t)
  unfolding node_spread form passes constant
  node_is k p t =
      let a = ap (λ (z : ℤ). w k p 0 +ℤ z) (row_sum_lem (λ x. x.least) (λ x. x.greatest) (λ c. refl) (λ c. refl) (λ i. w k p (suc i)) t) in
      let z = ap (λ (z : ℤ). w k p 0 +ℤ z) (row_sum_lem (λ x. x.greatest) (λ x. x.least) (λ c. refl) (λ c. refl) (λ i. w k p (suc i)) t) in
      let s = is_score (w k p 0 +ℤ form_all w (λ i. w k p (suc i)) t 0) in
      (λ i. spread (a i) (z i) (row_within_lem t i && (is_score (a i) && is_score (z i))))
      ∙ ap (λ (b : Bool). spread (form w (node k p t) 0) (form w (node k p t) 0) (passes_all is_score w t 0 && b)) (and_same s)

  token_is : (c : Range) (s : List ℕ) → read_fixed c s ≡ measured (fixed_spread w) (read_token (some c) s)
  unfolding read_fixed read_token form constant passes
  token_is c [] = refl
  token_is c (x ∷ []) = refl
  token_is c (x ∷ y ∷ s) = go (in_range c (x * 256 + y))
    where
      go : (b : Bool) → cond b (done (spread (pos (x * 256 + y)) (pos (x * 256 + y)) true) s) broken ≡ measured (fixed_spread w) (elim b [ true ↦ done (token (x * 256 + y)) s | false ↦ broken ])
      go true = refl
      go false = refl

  module _ (reads : ℕ → List ℕ → Read Spread) (codes : ℕ → List ℕ → Read Code) (same : (k : ℕ) (s : List ℕ) → reads k s ≡ measured (fixed_spread w) (codes k s)) where
    rest_is : (a : Code) (o : Read Codes) → (and_then (measured (fixed_row w) o) λ t u. done (fixed_spread w a ∷ t) u) ≡ measured (fixed_row w) (and_then o λ t u. done (cons a t) u)
    unfolding fixed_row
    rest_is a (done t u) = refl
    rest_is a deep = refl
    rest_is a broken = refl

    first_is : (ks : List ℕ) → ((r : List ℕ) → read_row reads ks r ≡ measured (fixed_row w) (read_all codes ks r)) → (o : Read Code)
        → (and_then (measured (fixed_spread w) o) λ a r. and_then (read_row reads ks r) λ t u. done (a ∷ t) u)
        ≡ measured (fixed_row w) (and_then o λ a r. and_then (read_all codes ks r) λ t u. done (cons a t) u)
    first_is ks h (done a r) = ap (λ (o : Read (List Spread)). and_then o λ t u. done (fixed_spread w a ∷ t) u) (h r) ∙ rest_is a (read_all codes ks r)
    first_is ks h deep = refl
    first_is ks h broken = refl

    row_is : (ks s : List ℕ) → read_row reads ks s ≡ measured (fixed_row w) (read_all codes ks s)
    unfolding read_row read_all fixed_row
    row_is [] s = refl
    row_is (k ∷ ks) s = ap (λ (o : Read Spread). and_then o λ a r. and_then (read_row reads ks r) λ t u. done (a ∷ t) u) (same k s) ∙ first_is ks (λ r. row_is ks r) (codes k s)

    operands_are : (k p : ℕ) (o : Option (List ℕ)) (s : List ℕ) → read_operands reads w k p o s ≡ measured (fixed_spread w) (Trees.read_operands codes k p o s)
    unfolding read_operands Trees.read_operands
    operands_are k p none s = refl
    operands_are k p (some ks) s = ap (λ (o : Read (List Spread)). and_then o λ t r. done (node_spread w k p t) r) (row_is ks s) ∙ go (read_all codes ks s)
      where
        go : (o : Read Codes) → (and_then (measured (fixed_row w) o) λ t r. done (node_spread w k p t) r) ≡ measured (fixed_spread w) (and_then o λ t r. done (node k p t) r)
        go (done t r) = ap (λ (x : Spread). done x r) (node_is k p t)
        go deep = refl
        go broken = refl

    name_is : (l : Language) (k : ℕ) (s : List ℕ) → read_name reads l w k s ≡ measured (fixed_spread w) (read_node codes l k s)
    unfolding read_name read_node
    name_is l k [] = refl
    name_is l k (p ∷ s) = operands_are k p (arguments_of l k p) s

module _ (l : Language) (w : Loads) where
  values_are : (c : Range) (s : List ℕ) → read_values Fixed c s ≡ measured (fixed_spread w) (read_token (some c) s)
  values_are c s = token_is w c s

  class_is : (n k : ℕ) (s : List ℕ) (c : Range) → range_of l k ≡ some c → read_spread Fixed l w n k s ≡ measured (fixed_spread w) (read tree l [] n k s)
  class_is n k s c e = class_read Fixed l w k n s c e ∙ (values_are c s ∙ sym (ap (measured (fixed_spread w)) (read_class l k s n c e)))

  past_is : (k : ℕ) (s : List ℕ) (o : Option Range) → range_of l k ≡ o → read_spread Fixed l w 0 k s ≡ measured (fixed_spread w) (read tree l [] 0 k s)
  past_is k s (some c) e = class_is 0 k s c e
  past_is k s none e = past_read Fixed l w k s e ∙ sym (ap (measured (fixed_spread w)) (read_past l k s e))

  level_is : (n : ℕ) → ((k : ℕ) (s : List ℕ) → read_spread Fixed l w n k s ≡ measured (fixed_spread w) (read tree l [] n k s))
      → (k : ℕ) (s : List ℕ) (o : Option Range) → range_of l k ≡ o → read_spread Fixed l w (suc n) k s ≡ measured (fixed_spread w) (read tree l [] (suc n) k s)
  level_is n h k s (some c) e = class_is (suc n) k s c e
  level_is n h k s none e =
      name_read Fixed l w k n s e
      ∙ (name_is w (read_spread Fixed l w n) (read tree l [] n) h l k s ∙ sym (ap (measured (fixed_spread w)) (read_node_lem l k s n e)))

  -- What the walk reads in tokens of two bytes.
  pub fixed_reads : (n k : ℕ) (s : List ℕ) → read_spread Fixed l w n k s ≡ measured (fixed_spread w) (read tree l [] n k s)
  fixed_reads zero k s = past_is k s (range_of l k) refl
  fixed_reads (suc n) k s = level_is n (λ j r. fixed_reads n j r) k s (range_of l k) refl
