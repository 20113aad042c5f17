-- The linear form of a code (paper 02, 2026-03): its score is a constant plus a factor for each argument. A tree is a code
-- without arguments, so its score is the constant of its form.
use Rattle.std.specs.Prelude.{ℕ, zero, suc, Bool, true, cond, ◌&&◌, eqb, ℤ, pos, ◌+ℤ◌, ◌*ℤ◌}
use Rattle.tree_reader.specs.Code.{Code, node, token, argument, Codes, nil, cons}

-- The figures of each production by kind, name and place: place 0 is the constant, place i the factor of argument i.
abbrev pub Loads : Type 0
Loads = ℕ → ℕ → ℕ → ℤ

-- A form has places in the same way. This one is a constant alone.
unfoldable pub constant : ℤ → ℕ → ℤ
constant z zero = z
constant z (suc j) = pos 0

-- And this one is argument i alone, counted from 1.
unfoldable pub used : ℕ → ℕ → ℤ
used i zero = pos 0
used i (suc j) = cond (eqb i (suc j)) (pos 1) (pos 0)

-- What stands at place j in the form of a code. A token scores its value, an argument stands for its own place by whatever
-- number it is used (a table is joined only where that is 0); a production its constant plus each factor times
-- that operand's form, added from the last operand to the first.
unfoldable mutual
  pub form : Loads → Code → ℕ → ℤ
  form w (node k p t) j = constant (w k p 0) j +ℤ form_all w (λ i. w k p (suc i)) t j
  form w (token v) j = constant (pos v) j
  form w (argument i n) j = used i j

  pub form_all : Loads → (ℕ → ℤ) → Codes → ℕ → ℤ
  form_all w factor nil j = pos 0
  form_all w factor (cons a t) j = factor 0 *ℤ form w a j +ℤ form_all w (λ i. factor (suc i)) t j

-- Place j passes the test at every production of a code. Only finished forms are tested, and a token or an argument is none.
unfoldable mutual
  pub passes : (ℤ → Bool) → Loads → Code → ℕ → Bool
  passes test w (node k p t) j = passes_all test w t j && test (form w (node k p t) j)
  passes test w (token v) j = true
  passes test w (argument i n) j = true

  pub passes_all : (ℤ → Bool) → Loads → Codes → ℕ → Bool
  passes_all test w nil j = true
  passes_all test w (cons a t) j = passes test w a j && passes_all test w t j
