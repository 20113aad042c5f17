-- A code that is an argument alone: it matches any tree, to which the argument is bound.
use Prim.Native.Nat.{ℕ, zero, suc, ◌+◌, ◌-◌, ◌≤◌, ◌<◌}
use mathlib.Core.Path.{◌≡◌, refl, ap, ◌∙◌}
use mathlib.Core.Bool.{true, false, not}
use mathlib.Core.List.{List}
use native.Mathlib.Omega.{arith}
use lib.Dec.{eqb}
use borrow.Author.Tests.{eq-eqb}
use Rattle.format_fields.proofs.Truth.{false_true}
use Rattle.std.specs.Prelude.{None, Some}
use lib.ListN.{length, get_or, set}
use Rattle.tree_reader.specs.Code.{Code, node, token, argument}
use Rattle.tree_reader.specs.Syntax.{write, tree, code}
use Rattle.format_translation.specs.Translation.{Translation}
use Rattle.format_translation.specs.Running.{clauses_of}
use Rattle.run_table.specs.Inner.Stands.{Stands}
use Rattle.run_table.specs.Inner.Table.{body_start, body_byte}
use Rattle.run_table.proofs.Standing.{stands_head}
use Rattle.search_sources.specs.Inner.Goals.{Goal}
use Rattle.search_levels.specs.Inner.Clauses.{StepAsks, StepGives, MatchAsks, MatchGives}
use Rattle.search_levels.proofs.Steps.{argument_new, width_other}
use Rattle.search_levels.proofs.Turns.{argument_next, number_there, number_is, argument_asks, argument_step, first_differs}
use Rattle.search_levels.proofs.Whole.{Going, production, the_clause, match_start, match_step, match_stops, match_next, match_done}

-- A code that starts with 03 has two bytes.
alone : (t : List ℕ) (c : ℕ) (a : Code) → Stands t (body_start + c) (write code a) → body_byte t c ≡ 3 → length (write code a) ≡ 2
unfolding write
alone t c (node k p ts) h e = let x = (stands_head t (body_start + c) _ _ h).1 in absurd (omega arith)
alone t c (token v) h e = let x = (stands_head t (body_start + c) _ _ h).1 in absurd (omega arith)
alone t c (argument i zero) h e = refl
alone t c (argument i (suc j)) h e = let x = (stands_head t (body_start + c) _ _ h).1 in absurd (omega arith)

some_code : (a : Code) → 0 < length (write code a)
unfolding write
some_code (node j q t) = omega arith
some_code (token x) = omega arith
some_code (argument i zero) = omega arith
some_code (argument i (suc j)) = omega arith

pub clause_starts : (table target places kinds bytes memory bound : List ℕ) (place clause at : ℕ) (f : Translation) (k p : ℕ) (ks : List ℕ) (g : Goal)
    → MatchAsks table target places kinds bytes memory bound place clause at f k p ks g → clause + 4 < 4096
clause_starts table target places kinds bytes memory bound place clause at f k p ks g h =
    let x = (the_clause table target places kinds bytes memory bound place clause at f k p ks g h).inside in
    let y = some_code (clauses_of f k p 0) in
    omega arith

-- root_differs
two_bytes_lem : (a : Code) → 2 ≤ length (write code a)
unfolding write
two_bytes_lem (node j q t) = omega arith
two_bytes_lem (token x) = omega arith
two_bytes_lem (argument i zero) = omega arith
two_bytes_lem (argument i (suc j)) = omega arith

module _ (table target places kinds bytes memory bound : List ℕ) (place clause at : ℕ) (f : Translation) (k p : ℕ) (ks : List ℕ) (g : Goal)
    (h : MatchAsks table target places kinds bytes memory bound place clause at f k p ks g) where
  pub root_inside : clause + 5 < 4096
  root_inside =
      let x = (the_clause table target places kinds bytes memory bound place clause at f k p ks g h).inside in
      let y = two_bytes_lem (clauses_of f k p 0) in
      omega arith

  module _ (there : at < length bytes) (sign : body_byte table (clause + 4) ≡ 3 → ⊥) (other : body_byte table (clause + 5) ≡ get_or bytes at 0 → ⊥) where
    abbrev root_stop : ℕ
    root_stop = clause + 4 + length (write code (clauses_of f k p 0))

    root_start : Going table bytes bound (clause + 4) root_stop at f k p ks g
    root_start = match_start table target places kinds bytes memory bound place clause at f k p ks g h there root_stop refl

    root_asks : StepAsks table target places kinds bytes memory bound place (clause + 4) root_stop at f ks root_start.kinds root_start.codes root_start.trees root_start.so_far
    root_asks =
        match_step table target places kinds bytes memory bound place clause at f k p ks g h bound (clause + 4) root_stop at root_start
        (let y = two_bytes_lem (clauses_of f k p 0) in omega arith)

    pub root_other : MatchGives bytes bound false f k p ks g
    root_other =
        match_stops table target places kinds bytes memory bound place clause at f k p ks g h bound (clause + 4) root_stop at root_start bound None
        (first_differs table target places kinds bytes memory bound place (clause + 4) root_stop at f ks _ _ _ _ root_asks sign
        (λ e. other (ap (body_byte table) (let z : clause + 5 ≡ clause + 4 + 1 = omega arith in z) ∙ e))) refl

module _ (table target places kinds bytes memory bound : List ℕ) (place clause at : ℕ) (f : Translation) (k p : ℕ) (ks : List ℕ) (g : Goal)
    (h : MatchAsks table target places kinds bytes memory bound place clause at f k p ks g) (there : at < length bytes) (sign : body_byte table (clause + 4) ≡ 3) where
  abbrev stop : ℕ
  stop = clause + 4 + length (write code (clauses_of f k p 0))

  ends : stop ≡ clause + 6
  ends =
      let y = alone table (clause + 4) (clauses_of f k p 0) (the_clause table target places kinds bytes memory bound place clause at f k p ks g h).stands sign in
      omega arith

  start : Going table bytes bound (clause + 4) stop at f k p ks g
  start = match_start table target places kinds bytes memory bound place clause at f k p ks g h there stop refl

  asks : StepAsks table target places kinds bytes memory bound place (clause + 4) stop at f ks start.kinds start.codes start.trees start.so_far
  asks = match_step table target places kinds bytes memory bound place clause at f k p ks g h bound (clause + 4) stop at start (let x = ends in omega arith)

  abbrev subtree : Code
  subtree = (argument_next table target places kinds bytes memory bound place (clause + 4) stop at f ks _ _ _ _ asks sign).subtree

  pub clause_inside : clause + 5 < 4096
  clause_inside =
      let x = (the_clause table target places kinds bytes memory bound place clause at f k p ks g h).inside in
      let y = alone table (clause + 4) (clauses_of f k p 0) (the_clause table target places kinds bytes memory bound place clause at f k p ks g h).stands sign in
      omega arith

  module _ (m : ℕ) (is : m ≡ body_byte table (clause + 5)) where
    byte : m ≡ body_byte table (clause + 4 + 1)
    byte = let e : clause + 5 ≡ clause + 4 + 1 = omega arith in is ∙ ap (body_byte table) e

    pub number_inside : (1 ≤ m) × (m - 1 < 8)
    number_inside =
        let x = (number_there table target places kinds bytes memory bound place (clause + 4) stop at f ks _ _ _ _ asks sign).0 in
        let y = number_is table target places kinds bytes memory bound place (clause + 4) stop at f ks _ _ _ _ asks sign byte in
        let z = (production table target places kinds bytes memory bound place clause at f k p ks g h).few in
        let w = (argument_next table target places kinds bytes memory bound place (clause + 4) stop at f ks _ _ _ _ asks sign).byte in
        let b = byte in
        (omega arith, omega arith)

    gives : StepGives table bytes (set bound (m - 1) at) (clause + 4) stop (Some (at + length (write tree subtree))) f ks start.codes start.trees start.so_far
    gives =
        argument_step table target places kinds bytes memory bound place (clause + 4) stop at f ks _ _ _ _ asks sign byte
        (argument_new target places bytes memory bound _ at (m - 1) f ks _ _
        (argument_asks table target places kinds bytes memory bound place (clause + 4) stop at f ks _ _ _ _ asks sign byte refl refl)
        (h.empty (m - 1) number_inside.1) _ refl)

    pub alone_matches : MatchGives bytes (set bound (m - 1) at) true f k p ks g
    alone_matches =
        match_done table target places kinds bytes memory bound place clause at f k p ks g h (set bound (m - 1) at) (clause + 4 + 2) stop (at + length (write tree subtree))
        (match_next table target places kinds bytes memory bound place clause at f k p ks g h bound (clause + 4) stop at start (set bound (m - 1) at)
        (Some (at + length (write tree subtree))) gives _ refl {n = 2} (width_other (body_byte table (clause + 4)) (λ z. omega arith)))
        (let x = ends in omega arith)

-- The test of two numbers says that they differ.
pub differ : {a b : ℕ} → not (eqb a b) ≡ true → a ≡ b → ⊥
differ {a} {b} e q = false_true (rw (eq-eqb a b q) at e)
