-- The substitution lemma with numbers, and the run of a joined translation: one run after the other.
use Prim.Native.Nat.{ℕ, zero, suc, ◌/◌, ◌%◌, ◌<◌}
use mathlib.Core.Path.{◌≡◌, refl, ap, sym, ◌∙◌}
use native.Mathlib.Omega.{arith}
use Rattle.tree_reader.specs.Code.{Code, node, token, argument, Codes, nil, cons}
use Rattle.format_translation.specs.Running.{Replacing, substitute, substitute_all, from_one, Clauses, paired, run, run_operand}

-- One substitution after another.
mutual
  unfolding substitute

  pub substitute_substitute : (s r : Replacing) (a : Code) → substitute s (substitute r a) ≡ substitute (λ i j. substitute s (r i j)) a
  substitute_substitute s r (node k p t) = ap (node k p) (substitute_substitute_all s r t)
  substitute_substitute s r (token v) = refl
  substitute_substitute s r (argument i j) = refl

  pub substitute_substitute_all : (s r : Replacing) (t : Codes)
      → substitute_all s (substitute_all r t) ≡ substitute_all (λ i j. substitute s (r i j)) t
  substitute_substitute_all s r nil = refl
  substitute_substitute_all s r (cons a t) = λ i. cons (substitute_substitute s r a i) (substitute_substitute_all s r t i)

-- Every use is by a number below 16.
abbrev mutual
  pub Small : Code → Type 0
  Small (node k p t) = SmallAll t
  Small (token v) = Unit {0}
  Small (argument i j) = j < 16

  pub SmallAll : Codes → Type 0
  SmallAll nil = Unit {0}
  SmallAll (cons a t) = Small a × SmallAll t

-- Every use is by number 0. A tree has no use, so it is such a code.
abbrev mutual
  pub ByZero : Code → Type 0
  ByZero (node k p t) = ByZeroAll t
  ByZero (token v) = Unit {0}
  ByZero (argument i j) = j ≡ 0

  pub ByZeroAll : Codes → Type 0
  ByZeroAll nil = Unit {0}
  ByZeroAll (cons a t) = ByZero a × ByZeroAll t

-- Replacements that agree on numbers below 16 do the same to such a code.
module _ (s r : Replacing) (e : (i j : ℕ) → j < 16 → s i j ≡ r i j) where
  mutual
    unfolding substitute

    pub small_alike : (a : Code) → Small a → substitute s a ≡ substitute r a
    small_alike (node k p t) h = ap (node k p) (small_alike_all t h)
    small_alike (token v) h = refl
    small_alike (argument i j) h = e i j h

    pub small_alike_all : (t : Codes) → SmallAll t → substitute_all s t ≡ substitute_all r t
    small_alike_all nil h = refl
    small_alike_all (cons a t) h = λ i. cons (small_alike a h.0 i) (small_alike_all t h.1 i)

-- The replacements of a code that was run through f: a use by i and j paired is the run by j of what replaces it by i.
abbrev pub after : Clauses → Replacing → Replacing
after f s a n = run f (n % 16) (s a (n / 16))

-- Arguments counted from 1, under a substitution.
from_one_lem : (s : Replacing) (q r : Replacing) → ((i j : ℕ) → j < 16 → q i j ≡ substitute s (r i j))
    → (i j : ℕ) → j < 16 → from_one q i j ≡ substitute s (from_one r i j)
unfolding from_one substitute
from_one_lem s q r e zero j h = refl
from_one_lem s q r e (suc i) j h = e i j h

-- The two parts of a pair.
pub pair_first : (i j : ℕ) → j < 16 → paired i j / 16 ≡ i
pair_first i j h = omega arith

pub pair_second : (i j : ℕ) → j < 16 → paired i j % 16 ≡ j
pair_second i j h = omega arith

pub pair_whole : (n : ℕ) → paired (n / 16) (n % 16) ≡ n
pair_whole n = omega arith

-- The substitution lemma: running after a substitution is substituting runs into the run.
module _ (f : Clauses) (w : (k p j : ℕ) → Small (f k p j)) (s : Replacing) where
  mutual
    unfolding substitute run

    pub run_substitute : (a : Code) (j : ℕ) → j < 16 → run f j (substitute s a) ≡ substitute (after f s) (run f j a)
    run_substitute (node k p t) j h =
        small_alike _ _
        (from_one_lem (after f s) (λ i by. run_operand f (substitute_all s t) i by) (λ i by. run_operand f t i by) (λ i by l. operand_substitute t i by l))
        (f k p j) (w k p j)
        ∙ sym (substitute_substitute (after f s) (from_one (λ i by. run_operand f t i by)) (f k p j))
    run_substitute (token v) j h = refl
    run_substitute (argument a i) j h = sym (λ x. run f (pair_second i j h x) (s a (pair_first i j h x)))

    pub operand_substitute : (t : Codes) (i j : ℕ) → j < 16 → run_operand f (substitute_all s t) i j ≡ substitute (after f s) (run_operand f t i j)
    operand_substitute nil i j h = refl
    operand_substitute (cons a t) zero j h = run_substitute a j h
    operand_substitute (cons a t) (suc i) j h = operand_substitute t i j h

-- Clauses of the second, each run through the first: of i and j paired, the code of number i run by j.
abbrev pub chained : Clauses → Clauses → Clauses
chained f g k p n = run f (n % 16) (g k p (n / 16))

-- The run of the joined clauses by i and j paired is the run of the second by i and then of the first by j, on trees and on
-- codes that use by 0 only.
module _ (f g : Clauses) (w : (k p j : ℕ) → Small (f k p j)) where
  chained_one : (q r : Replacing) → ((i n : ℕ) → q i n ≡ run f (n % 16) (r i (n / 16))) → (i n : ℕ) → from_one q i n ≡ after f (from_one r) i n
  unfolding from_one run
  chained_one q r e zero n = refl
  chained_one q r e (suc i) n = e i n

  mutual
    unfolding run

    pub run_chained : (a : Code) (n : ℕ) → ByZero a → run (chained f g) n a ≡ run f (n % 16) (run g (n / 16) a)
    run_chained (node k p t) n c =
        (λ x. substitute (λ i m. chained_one (λ i by. run_operand (chained f g) t i by) (λ i by. run_operand g t i by) (λ i by. operand_chained t i by c) i m x)
        (run f (n % 16) (g k p (n / 16))))
        ∙ sym (run_substitute f w (from_one (λ i by. run_operand g t i by)) (g k p (n / 16)) (n % 16) (omega arith))
    run_chained (token v) n c = refl
    run_chained (argument a i) n c = ap (argument a) (let e : paired i n ≡ paired (paired i (n / 16)) (n % 16) = omega arith in e)

    pub operand_chained : (t : Codes) (i n : ℕ) → ByZeroAll t → run_operand (chained f g) t i n ≡ run f (n % 16) (run_operand g t i (n / 16))
    operand_chained nil i n c = refl
    operand_chained (cons a t) zero n c = run_chained a n c.0
    operand_chained (cons a t) (suc i) n c = operand_chained t i n c.1

  -- The same, said with the two numbers.
  pub run_pair : (a : Code) (i j : ℕ) → ByZero a → j < 16 → run (chained f g) (paired i j) a ≡ run f j (run g i a)
  run_pair a i j c h = run_chained a (paired i j) c ∙ (λ x. run f (pair_second i j h x) (run g (pair_first i j h x) a))
