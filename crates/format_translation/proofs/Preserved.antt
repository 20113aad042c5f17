-- Typing is preserved by substitution and by a run, by its number (document 000: C.10, C.11).
use Prim.Native.Nat.{ℕ, zero, suc, ◌<◌}
use mathlib.Core.Path.{◌≡◌, refl, ap, ◌∙◌}
use mathlib.Core.Bool.{true}
use mathlib.Core.Option.{Option, some}
use mathlib.Core.List.{List, [], ◌∷◌, map}
use lib.ListN.{get_elem?}
use Rattle.format_fields.proofs.Truth.{none_some, some_inj}
use Rattle.format_language.specs.Language.{Language, Range, range_of, arguments_of, range_within}
use Rattle.format_language.proofs.Ranges.{value_within}
use Rattle.tree_reader.specs.Code.{Code, node, Codes, cons}
use Rattle.tree_reader.specs.Typing.{Uses, kind_by, kind_at, Typed, TypedAll, typed_node, typed_token, typed_argument, typed_nil, typed_cons}
use Rattle.format_translation.specs.Running.{Replacing, substitute, substitute_all, from_one, Clauses, paired, run, run_operand}
use Rattle.format_translation.proofs.Running.{Small, SmallAll, ByZero, ByZeroAll}

-- The kind that each kind maps to, by number.
abbrev pub Mappings : Type 0
Mappings = ℕ → ℕ → Option ℕ

-- The class of kind k contains the range.
abbrev pub Contains : Language → ℕ → Range → Type 0
Contains l k c = (d : Range) × (range_of l k ≡ some d) × (range_within c d ≡ true)

-- What the clauses f, with kinds mapped by `to`, must be from l to m (C.6).
pub record Carries (l m : Language) (to : Mappings) (f : Clauses) : Type 0 where
  pub nodes : (k p j t : ℕ) (ks : List ℕ) → arguments_of l k p ≡ some ks → to k j ≡ some t → Typed m (map to ks) (f k p j) t
  pub tokens : (k j t : ℕ) (c : Range) → to k j ≡ some t → range_of l k ≡ some c → Contains m t c

-- Replacements fit: what replaces a use is of the use's kind.
abbrev pub Fits : Language → Uses → Uses → Replacing → Type 0
Fits m u v s = (i j k : ℕ) → kind_at u i j ≡ some k → Typed m v (s i j) k

-- C.10.
mutual
  unfolding substitute

  pub typed_substitute : {m : Language} {u v : Uses} {s : Replacing} {a : Code} {k : ℕ} → Fits m u v s → Typed m u a k → Typed m v (substitute s a) k
  typed_substitute g (typed_node e h) = typed_node e (typed_substitute_all g h)
  typed_substitute g (typed_token e h) = typed_token e h
  typed_substitute g (typed_argument {i = i} {j = j} {k = k} e) = g i j k e

  pub typed_substitute_all : {m : Language} {u v : Uses} {s : Replacing} {t : Codes} {ks : List ℕ} → Fits m u v s → TypedAll m u t ks → TypedAll m v (substitute_all s t) ks
  typed_substitute_all g typed_nil = typed_nil
  typed_substitute_all g (typed_cons h hs) = typed_cons (typed_substitute g h) (typed_substitute_all g hs)

-- A use that has a kind: its argument has one, and that one has the number.
pub use_kind : (to : Mappings) (ks : List ℕ) (i j t : ℕ) → kind_by (get_elem? (map to ks) i) j ≡ some t
    → (k : ℕ) × (get_elem? ks i ≡ some k) × (to k j ≡ some t)
use_kind to [] i j t e = none_some e
use_kind to (k ∷ ks) zero j t e = (k, refl, e)
use_kind to (k ∷ ks) (suc i) j t e = use_kind to ks i j t e

-- An argument's kind and a number give a use.
pub kind_use : (to : Mappings) (ks : List ℕ) (i j k : ℕ) → get_elem? ks i ≡ some k → kind_by (get_elem? (map to ks) i) j ≡ to k j
kind_use to [] i j k e = none_some e
kind_use to (x ∷ ks) zero j k e = ap (λ (y : ℕ). to y j) (some_inj e)
kind_use to (x ∷ ks) (suc i) j k e = kind_use to ks i j k e

-- What fits each operand and number fits a clause's uses.
from_fits : (m : Language) (to : Mappings) (v : Uses) (ks : List ℕ) (s : Replacing)
    → ((i j k t : ℕ) → get_elem? ks i ≡ some k → to k j ≡ some t → Typed m v (s i j) t) → Fits m (map to ks) v (from_one s)
unfolding from_one
from_fits m to v ks s h zero j t e = none_some e
from_fits m to v ks s h (suc i) j t e = let q = use_kind to ks i j t e in h i j q.0 t q.1 q.2

-- The kinds of uses that a run keeps: of i and j paired, what the kind that the use has by i maps to by j.
abbrev pub Kept : Mappings → Uses → Uses → Type 0
Kept to u v = (a i j k t : ℕ) → kind_at u a i ≡ some k → to k j ≡ some t → kind_at v a (paired i j) ≡ some t

-- Nothing is kept of a tree's uses.
pub kept_tree : (to : Mappings) → Kept to [] []
kept_tree to zero i j k t e q = none_some e
kept_tree to (suc a) i j k t e q = none_some e

-- C.11: a run by number j of a code of kind k is of the kind that k maps to by j.
module _ {l m : Language} {to : Mappings} {f : Clauses} (w : Carries l m to f) {u v : Uses} (kept : Kept to u v) where
  mutual
    unfolding run

    pub typed_run : {a : Code} {k : ℕ} (j t : ℕ) → Typed l u a k → to k j ≡ some t → Typed m v (run f j a) t
    typed_run j t (typed_node {k = k} {p = p} {t = ts} {ks = ks} e h) q =
        typed_substitute
        (from_fits m to v ks (λ i by. run_operand f ts i by) (λ i by c d x y. typed_operand i by c d h x y))
        (w.nodes k p j t ks e q)
    typed_run j t (typed_token {v = x} {k = k} {c = c} e h) q = let d = w.tokens k j t c q e in typed_token d.1 (value_within c d.0 d.2 x h)
    typed_run j t (typed_argument {i = a} {j = i} {k = k} e) q = typed_argument (kept a i j k t e q)

    pub typed_operand : {ts : Codes} {ks : List ℕ} (i j k t : ℕ) → TypedAll l u ts ks → get_elem? ks i ≡ some k → to k j ≡ some t → Typed m v (run_operand f ts i j) t
    typed_operand i j k t typed_nil e q = none_some e
    typed_operand zero j k t (typed_cons h hs) e q = typed_run j t h (ap (λ (x : ℕ). to x j) (some_inj e) ∙ q)
    typed_operand (suc i) j k t (typed_cons h hs) e q = typed_operand i j k t hs e q

-- A use that is typed is by a number that a mapping has: where those are below 16, so are all uses.
module _ {m : Language} {u : Uses} (low : (i j k : ℕ) → kind_at u i j ≡ some k → j < 16) where
  mutual
    pub typed_small : {a : Code} {k : ℕ} → Typed m u a k → Small a
    typed_small (typed_node e h) = typed_small_all h
    typed_small (typed_token e h) = tt
    typed_small (typed_argument {i = i} {j = j} {k = k} e) = low i j k e

    pub typed_small_all : {t : Codes} {ks : List ℕ} → TypedAll m u t ks → SmallAll t
    typed_small_all typed_nil = tt
    typed_small_all (typed_cons h hs) = (typed_small h, typed_small_all hs)

-- A tree uses nothing.
no_use : (i j : ℕ) {k : ℕ} {A : Type 0} → kind_at [] i j ≡ some k → A
no_use zero j e = none_some e
no_use (suc i) j e = none_some e

mutual
  pub typed_tree : {l : Language} {a : Code} {k : ℕ} → Typed l [] a k → ByZero a
  typed_tree (typed_node e h) = typed_trees h
  typed_tree (typed_token e h) = tt
  typed_tree (typed_argument {i = i} {j = j} e) = no_use i j e

  pub typed_trees : {l : Language} {t : Codes} {ks : List ℕ} → TypedAll l [] t ks → ByZeroAll t
  typed_trees typed_nil = tt
  typed_trees (typed_cons h hs) = (typed_tree h, typed_trees hs)

-- Replacements that agree on typed uses do the same to a typed code.
module _ {m : Language} {u : Uses} (s r : Replacing) (e : (i j k : ℕ) → kind_at u i j ≡ some k → s i j ≡ r i j) where
  mutual
    unfolding substitute

    pub typed_alike : {a : Code} {k : ℕ} → Typed m u a k → substitute s a ≡ substitute r a
    typed_alike (typed_node {k = k} {p = p} d h) = ap (node k p) (typed_alike_all h)
    typed_alike (typed_token d h) = refl
    typed_alike (typed_argument {i = i} {j = j} {k = k} d) = e i j k d

    pub typed_alike_all : {t : Codes} {ks : List ℕ} → TypedAll m u t ks → substitute_all s t ≡ substitute_all r t
    typed_alike_all typed_nil = refl
    typed_alike_all (typed_cons h hs) = λ i. cons (typed_alike h i) (typed_alike_all hs i)

-- The same of operands counted from 0 and uses counted from 1.
from_alike : (to : Mappings) (ks : List ℕ) (s r : Replacing)
    → ((i j k t : ℕ) → get_elem? ks i ≡ some k → to k j ≡ some t → s i j ≡ r i j)
    → (i j t : ℕ) → kind_at (map to ks) i j ≡ some t → from_one s i j ≡ from_one r i j
unfolding from_one
from_alike to ks s r h zero j t e = none_some e
from_alike to ks s r h (suc i) j t e = let q = use_kind to ks i j t e in h i j q.0 t q.1 q.2

-- Clauses that agree on the productions of a language, by the numbers that their results have, run its codes alike.
module _ {l m : Language} {to : Mappings} {f g : Clauses} (w : Carries l m to g)
    (same : (k p j t : ℕ) (ks : List ℕ) → arguments_of l k p ≡ some ks → to k j ≡ some t → f k p j ≡ g k p j) where
  mutual
    unfolding run

    pub run_alike : {u : Uses} {a : Code} {k : ℕ} (j t : ℕ) → Typed l u a k → to k j ≡ some t → run f j a ≡ run g j a
    run_alike j t (typed_node {k = k} {p = p} {t = ts} {ks = ks} e h) q =
        ap (substitute (from_one (λ i by. run_operand f ts i by))) (same k p j t ks e q)
        ∙ typed_alike _ _
        (from_alike to ks (λ i by. run_operand f ts i by) (λ i by. run_operand g ts i by) (λ i by c d x y. operand_alike i by c d h x y))
        (w.nodes k p j t ks e q)
    run_alike j t (typed_token e h) q = refl
    run_alike j t (typed_argument e) q = refl

    pub operand_alike : {u : Uses} {ts : Codes} {ks : List ℕ} (i j k t : ℕ) → TypedAll l u ts ks → get_elem? ks i ≡ some k → to k j ≡ some t
        → run_operand f ts i j ≡ run_operand g ts i j
    operand_alike i j k t typed_nil e q = none_some e
    operand_alike zero j k t (typed_cons h hs) e q = run_alike j t h (ap (λ (x : ℕ). to x j) (some_inj e) ∙ q)
    operand_alike (suc i) j k t (typed_cons h hs) e q = operand_alike i j k t hs e q
