-- The law of levels holds, and an undefined kind has no legal tree.
use Prim.Native.Nat.{ℕ, zero, suc, ◌+◌, ◌<◌}
use mathlib.Core.Path.{◌≡◌, refl, sym, ◌∙◌}
use mathlib.Core.Logic.{⊎_elim}
use mathlib.Core.Bool.{true, false, not}
use mathlib.Core.List.{List, [], ◌++◌}
use mathlib.Core.Option.{some}
use native.Mathlib.Omega.{arith}
use borrow.Author.Tests.{eq-eqb}
use Rattle.format_fields.specs.Lists.{any, is_some}
use Rattle.format_fields.proofs.Truth.{and_both, not_true, not_both, none_some, mem_any, is_some_lem}
use Rattle.format_language.specs.Language.{Language, production, range_of, arguments_of, result_is, is_in, is_undefined, clashes}
use Rattle.format_language.proofs.Lookup.{arguments_mem}
use Rattle.tree_reader.specs.Code.{Code, levels}
use Rattle.tree_reader.specs.Typing.{Uses, kind_at, Typed, typed_node, typed_token, typed_argument}
use Rattle.tree_reader.specs.Syntax.{Syntax, deep, read, write, tree, code}
use Rattle.tree_reader.proofs.RoundTrip.{Written, as_tree, as_code, round}
use Rattle.tree_reader.proofs.Sound.{read_done, more_levels}
use Rattle.tree_reader.proofs.Larger.{apart}
use Rattle.laws.specs.Levels.{uses_in, LawOfLevels, UndefinedHasNoTree}

-- Either syntax can write the arguments that it has.
can_write : (x : Syntax) (uses : Uses) → Written x (uses_in x uses)
can_write tree uses = as_tree
can_write code uses = as_code

-- With fewer levels than the code has, reading is too deep: otherwise it would give a code within the levels.
below_deep : (l : Language) → clashes l l ≡ false → (x : Syntax) (uses : Uses) (c : Code) (k : ℕ) → Typed l (uses_in x uses) c k
    → (n : ℕ) (rest : List ℕ) → n < levels c → read x l (uses_in x uses) n k (write x c ++ rest) ≡ deep
below_deep l e x uses c k h n rest few =
    let all = round l (apart l e) h (can_write x uses) (n + levels c) rest (omega arith) in
    ⊎_elim
    (λ q. q)
    (λ q. absurd (omega (arith, few, (read_done x l (uses_in x uses) n k (write x c ++ rest) c rest (sym q ∙ all)).1)))
    (more_levels x l (uses_in x uses) n (n + levels c) k (write x c ++ rest) (omega arith))

pub law_of_levels : LawOfLevels
law_of_levels l e x uses c k h n rest = record {
  too_deep = below_deep l e x uses c k h n rest;
  enough = round l (apart l e) h (can_write x uses) n rest;
}

-- A tree has no arguments.
no_argument : (i j k : ℕ) → kind_at [] i j ≡ some k → ⊥
no_argument zero j k e = none_some e
no_argument (suc i) j k e = none_some e

-- An undefined kind has neither class nor production.
module _ (l : Language) (k : ℕ) (u : is_undefined l k ≡ true) where
  neither : (not (is_some (range_of l k)) ≡ true) × (not (any (result_is k) l) ≡ true)
  unfolding is_undefined
  neither = and_both _ _ (and_both (is_in l k) _ u).1

  no_production : (p : ℕ) (ks : List ℕ) → arguments_of l k p ≡ some ks → ⊥
  unfolding result_is
  no_production p ks e =
      not_both (mem_any (result_is k) l (production k p ks) (arguments_mem l k p ks e) (eq-eqb k k refl)) (not_true _ neither.1)

  no_typed : (t : Code) → Typed l [] t k → ⊥
  no_typed t (typed_node e h) = no_production _ _ e
  no_typed t (typed_token e h) = not_both (is_some_lem (range_of l k) e) (not_true _ neither.0)
  no_typed t (typed_argument {i = i} {j = j} e) = no_argument i j k e

pub undefined_has_no_tree : UndefinedHasNoTree
undefined_has_no_tree l k u = record {
  typed = no_typed l k u;
  reads = λ n bytes rest t e. no_typed l k u t (read_done tree l [] n k bytes t rest e).0;
}
