-- The length and the cost of a run by what codes count themselves and how often they use each argument.
use Prim.Native.Nat.{ℕ, zero, suc, ◌+◌, ◌*◌, ◌≤◌, ◌<◌}
use mathlib.Core.Path.{◌≡◌, refl, ap, sym, ◌∙◌}
use mathlib.Core.Bool.{Bool, true, false, ◌&&◌}
use mathlib.Core.List.{List, []}
use mathlib.Core.Option.{some}
use native.Mathlib.Omega.{arith}
use native.Mathlib.Nat.{add-mul}
use lib.ListN.{length, length-append}
use lib.Dec.{eqb}
use borrow.Author.Tests.{eq-eqb, ne_eqb}
use Rattle.format_fields.proofs.Truth.{none_some}
use Rattle.format_language.specs.Language.{Language, arguments_of}
use Rattle.tree_reader.specs.Code.{Code, node, token, argument, Codes, nil, cons}
use Rattle.tree_reader.specs.Typing.{Typed, TypedAll, typed_node, typed_token, typed_argument, typed_nil, typed_cons}
use Rattle.tree_reader.specs.Syntax.{write, write_all, tree}
use Rattle.format_translation.specs.Running.{Replacing, substitute, substitute_all, from_one, Clauses, run, run_operand}
use Rattle.run_measure.specs.Cost.{over_uses, over_all_uses, count_from_one, cost, cost_operand}
use Rattle.run_measure.specs.Inner.Sizes.{size, own, own_all, same_use, uses, uses_all, sum_to, numbers, weighted, amount, amount_all}
use Rattle.run_measure.proofs.Sums.{sum_zero, sum_pick, sum_add, weighted_gather, weighted_add, weighted_none, weighted_pick, weighted_zero, none_of, once_of}

-- Every use is of an argument from 1 to n, by a number below 256.
abbrev mutual
  pub Bounded : ℕ → Code → Type 0
  Bounded n (node k p t) = BoundedAll n t
  Bounded n (token v) = Unit {0}
  Bounded n (argument i j) = (1 ≤ i) × (i ≤ n) × (j < numbers)

  pub BoundedAll : ℕ → Codes → Type 0
  BoundedAll n nil = Unit {0}
  BoundedAll n (cons a t) = Bounded n a × BoundedAll n t

-- How often a use is met.
hit : (i j : ℕ) → same_use i j i j ≡ 1
hit i j = rw (eq-eqb i i refl, eq-eqb j j refl)

pub miss_first : (a b i j : ℕ) → (a ≡ i → ⊥) → same_use a b i j ≡ 0
miss_first a b i j h = rw (ne_eqb a i h)

and_false : (b : Bool) → (b && false) ≡ false
and_false true = refl
and_false false = refl

pub miss_second : (a b i j : ℕ) → (b ≡ j → ⊥) → same_use a b i j ≡ 0
miss_second a b i j h = rw (ne_eqb b j h, and_false (eqb a i))

-- The sum over all uses: how often each, times what it comes to.
abbrev pub shares : ℕ → (ℕ → ℕ → ℕ) → (ℕ → ℕ → ℕ) → ℕ
shares n u s = sum_to n (λ i. weighted (λ j. u i j) (λ j. s i j))

module _ (n : ℕ) (s : ℕ → ℕ → ℕ) where
  shares_zero : shares n (λ i j. 0) s ≡ 0
  shares_zero = sum_zero n _ (λ i. weighted_zero _ _ (λ j. let z : 0 * s i j ≡ 0 = omega arith in z))

  shares_add : (u v : ℕ → ℕ → ℕ) → shares n (λ i j. u i j + v i j) s ≡ shares n u s + shares n v s
  unfolding weighted
  shares_add u v =
      (λ x. sum_to n (λ i. sum_to numbers (λ j. add-mul (u i j) (v i j) (s i j) x)))
      ∙ ((λ x. sum_to n (λ i. sum_add numbers (λ j. u i j * s i j) (λ j. v i j * s i j) x))
      ∙ sum_add n (λ i. sum_to numbers (λ j. u i j * s i j)) (λ i. sum_to numbers (λ j. v i j * s i j)))

  -- One use.
  shares_one : (a b : ℕ) → a < n → b < numbers → shares n (λ i j. same_use (suc a) b (suc i) j) s ≡ s a b
  shares_one a b h l =
      sum_pick n a _ h (λ i q. weighted_zero _ _ (λ j. none_of _ (miss_first (suc a) b (suc i) j (λ z. q (let y : a ≡ i = omega arith in y)))))
      ∙ (weighted_pick _ _ b l (λ j q. none_of _ (miss_second (suc a) b (suc a) j q))
      ∙ once_of _ (hit (suc a) b))

  -- What the uses in a code come to: each as often as it is made.
  mutual
    unfolding over_uses count_from_one uses

    pub uses_shares : (a : Code) → Bounded n a → over_uses (count_from_one s) a ≡ shares n (λ i j. uses (suc i) j a) s
    uses_shares (node k p t) h = uses_shares_all t h
    uses_shares (token v) h = sym shares_zero
    uses_shares (argument zero j) h = absurd (omega arith)
    uses_shares (argument (suc i) j) h = sym (shares_one i j (omega arith) h.2)

    uses_shares_all : (t : Codes) → BoundedAll n t → over_all_uses (count_from_one s) t ≡ shares n (λ i j. uses_all (suc i) j t) s
    uses_shares_all nil h = sym shares_zero
    uses_shares_all (cons a t) h =
        (λ x. uses_shares a h.0 x + uses_shares_all t h.1 x) ∙ sym (shares_add (λ i j. uses (suc i) j a) (λ i j. uses_all (suc i) j t))

-- The length of a code with each use replaced: its own bytes, and those of what replaces its uses.
mutual
  unfolding substitute from_one write own over_uses count_from_one

  pub size_substitute : (n : ℕ) (s : Replacing) (a : Code) → Bounded n a
      → size (substitute (from_one s) a) ≡ own a + over_uses (count_from_one (λ i j. size (s i j))) a
  size_substitute n s (node k p t) h = let w = size_substitute_all n s t h in omega arith
  size_substitute n s (token v) h = refl
  size_substitute n s (argument zero j) h = absurd (omega arith)
  size_substitute n s (argument (suc i) j) h = omega arith

  size_substitute_all : (n : ℕ) (s : Replacing) (t : Codes) → BoundedAll n t
      → length (write_all tree (substitute_all (from_one s) t)) ≡ own_all t + over_all_uses (count_from_one (λ i j. size (s i j))) t
  size_substitute_all n s nil h = refl
  size_substitute_all n s (cons a t) h =
      let v = size_substitute n s a h.0 in
      let w = size_substitute_all n s t h.1 in
      let y = length-append (write tree (substitute (from_one s) a)) (write_all tree (substitute_all (from_one s) t)) in
      omega arith

-- Over legal trees, where codes use the arguments and numbers that there are.
module _ (l : Language) (f : Clauses) (bounded : (k p j : ℕ) (ks : List ℕ) → arguments_of l k p ≡ some ks → Bounded (length ks) (f k p j)) where
  -- The length of a run is what own bytes come to.
  mutual
    unfolding amount run write sum_to run_operand

    pub run_amount : {a : Code} {k : ℕ} (j : ℕ) → Typed l [] a k → size (run f j a) ≡ amount own 2 f j a
    run_amount j (typed_node {k = k} {p = p} {t = t} {ks = ks} e h) =
        size_substitute (length ks) (λ i by. run_operand f t i by) (f k p j) (bounded k p j ks e)
        ∙ ap (λ (x : ℕ). own (f k p j) + x) (uses_shares (length ks) _ (f k p j) (bounded k p j ks e)
        ∙ run_amount_all (λ i by. uses (suc i) by (f k p j)) h)
    run_amount j (typed_token e g) = refl
    run_amount j (typed_argument {i = zero} e) = none_some e
    run_amount j (typed_argument {i = suc i} e) = none_some e

    run_amount_all : {t : Codes} {ks : List ℕ} (u : ℕ → ℕ → ℕ) → TypedAll l [] t ks
        → shares (length ks) u (λ i by. size (run_operand f t i by)) ≡ amount_all own 2 f u t
    run_amount_all u typed_nil = refl
    run_amount_all u (typed_cons h hs) = λ x. weighted (λ by. u 0 by) (λ by. run_amount by h x) + run_amount_all (λ i by. u (suc i) by) hs x

  -- The cost of a run is what one for each clause comes to.
  mutual
    unfolding amount cost sum_to

    pub cost_amount : {a : Code} {k : ℕ} (j : ℕ) → Typed l [] a k → cost f j a ≡ amount (λ c. 1) 0 f j a
    cost_amount j (typed_node {k = k} {p = p} {t = t} {ks = ks} e h) =
        ap (λ (x : ℕ). 1 + x) (uses_shares (length ks) _ (f k p j) (bounded k p j ks e)
        ∙ cost_amount_all (λ i by. uses (suc i) by (f k p j)) h)
    cost_amount j (typed_token e g) = refl
    cost_amount j (typed_argument e) = refl

    cost_amount_all : {t : Codes} {ks : List ℕ} (u : ℕ → ℕ → ℕ) → TypedAll l [] t ks
        → shares (length ks) u (λ i by. cost_operand f t i by) ≡ amount_all (λ c. 1) 0 f u t
    cost_amount_all u typed_nil = refl
    cost_amount_all u (typed_cons h hs) = λ x. weighted (λ by. u 0 by) (λ by. cost_amount by h x) + cost_amount_all (λ i by. u (suc i) by) hs x

-- From above: what operands come to is linear in the weights of their row.
module _ (e : Code → ℕ) (z : ℕ) (f : Clauses) where
  amount_linear : (w : ℕ → ℕ) (u : ℕ → ℕ → ℕ → ℕ) (t : Codes)
      → amount_all e z f (λ i by. weighted w (λ j. u j i by)) t ≡ weighted w (λ j. amount_all e z f (λ i by. u j i by) t)
  unfolding amount_all
  amount_linear w u nil = sym (weighted_none w)
  amount_linear w u (cons a t) =
      (λ x. weighted_gather w (λ j by. u j 0 by) (λ by. amount e z f by a) x + amount_linear w (λ j i by. u j (suc i) by) t x)
      ∙ weighted_add w (λ j. weighted (λ by. u j 0 by) (λ by. amount e z f by a)) (λ j. amount_all e z f (λ i by. u j (suc i) by) t)

  -- A node that counts w j times by number j: its codes' own part, and each operand by the weights that its codes give it.
  pub node_amount : (w : ℕ → ℕ) (k p : ℕ) (t : Codes)
      → weighted w (λ j. e (f k p j)) + amount_all e z f (λ i by. weighted w (λ j. uses (suc i) by (f k p j))) t
      ≡ weighted w (λ j. amount e z f j (node k p t))
  unfolding amount
  node_amount w k p t =
      ap (λ (x : ℕ). weighted w (λ j. e (f k p j)) + x) (amount_linear w (λ j i by. uses (suc i) by (f k p j)) t)
      ∙ weighted_add w (λ j. e (f k p j)) (λ j. amount_all e z f (λ i by. uses (suc i) by (f k p j)) t)
