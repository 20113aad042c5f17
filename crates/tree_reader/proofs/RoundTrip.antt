-- Reading what was written gives the same code, where the levels suffice.
use Prim.Native.Nat.{ℕ, zero, suc, ◌+◌, ◌*◌, ◌/◌, ◌%◌, ◌≤◌}
use mathlib.Core.Path.{◌≡◌, refl}
use mathlib.Core.Bool.{true}
use mathlib.Core.List.{List, [], ◌∷◌, ◌++◌, append_assoc}
use mathlib.Core.Option.{none, some}
use native.Mathlib.Omega.{arith}
use borrow.Author.Tests.{eq-eqb}
use Rattle.format_fields.proofs.Truth.{none_some}
use Rattle.format_language.specs.Language.{Language, Range, range_of, arguments_of, in_range}
use Rattle.tree_reader.specs.Code.{Code, node, token, argument, Codes, levels, levels_all}
use Rattle.tree_reader.specs.Typing.{Uses, kind_at, Typed, TypedAll, typed_node, typed_token, typed_argument, typed_nil, typed_cons}
use Rattle.tree_reader.specs.Syntax.{Syntax, tree, code, sign, write, write_all, Read, done, broken, read_all, read_operands, read_node, read_token, use_of, read_argument, read_numbered, read_use, read_tree_level, read_code_level, read_level, current, past_levels, read_by, read}

-- A kind that has productions is no class.
abbrev pub Apart : Language → Type 0
Apart l = (k p : ℕ) (ks : List ℕ) → arguments_of l k p ≡ some ks → range_of l k ≡ none

-- What a syntax can write: a tree has no uses.
pub data Written : Syntax → Uses → Type 0 where
  as_tree : Written tree []
  as_code : {uses : Uses} → Written code uses

no_kind : (i j : ℕ) {k : ℕ} {A : Type 0} → kind_at [] i j ≡ some k → A
no_kind zero j e = none_some e
no_kind (suc i) j e = none_some e

two_bytes_lem : (v : ℕ) → v / 256 * 256 + v % 256 ≡ v
two_bytes_lem v = omega arith

-- One level, for each form of code, in both syntaxes.
module _ (reads : ℕ → List ℕ → Read Code) (l : Language) where
  node_level : {x : Syntax} {uses : Uses} → Written x uses → (k p : ℕ) (s : List ℕ) → range_of l k ≡ none
      → read_level x reads l uses k (sign x 1 ++ p ∷ s) ≡ read_node reads l k (p ∷ s)
  unfolding read_level read_tree_level read_code_level
  node_level as_tree k p s e = cc
  node_level as_code k p s e = refl

  token_level : {x : Syntax} {uses : Uses} → Written x uses → (k : ℕ) (c : Range) (s : List ℕ) → range_of l k ≡ some c
      → read_level x reads l uses k (sign x 2 ++ s) ≡ read_token (some c) s
  unfolding read_level read_tree_level read_code_level
  token_level as_tree k c s e = cc
  token_level as_code k c s e = cc

  token_done : (c : Range) (v : ℕ) (s : List ℕ) → in_range c v ≡ true → read_token (some c) (v / 256 ∷ v % 256 ∷ s) ≡ done (token v) s
  unfolding read_token
  token_done c v s e = cc (two_bytes_lem v)

  token_past : {x : Syntax} {uses : Uses} → Written x uses → (k : ℕ) (c : Range) (s : List ℕ) → range_of l k ≡ some c
      → past_levels current x l k (sign x 2 ++ s) ≡ read_token (some c) s
  unfolding past_levels
  token_past as_tree k c s e = cc
  token_past as_code k c s e = cc

  argument_level : {x : Syntax} {uses : Uses} → Written x uses → (k i j : ℕ) (s : List ℕ) → kind_at uses i j ≡ some k
      → read_level x reads l uses k (write x (argument i j) ++ s) ≡ done (argument i j) s
  unfolding read_level read_code_level read_use read_argument read_numbered use_of write
  argument_level as_tree k i j s e = no_kind i j e
  argument_level as_code k i zero s e = cc (eq-eqb k k refl)
  argument_level as_code k i (suc j) s e = cc (eq-eqb k k refl)

  node_done : (k p : ℕ) (ks s r : List ℕ) (t : Codes) → arguments_of l k p ≡ some ks → read_all reads ks s ≡ done t r
      → read_node reads l k (p ∷ s) ≡ done (node k p t) r
  unfolding read_node read_operands
  node_done k p ks s r t e f = rw (e, f)

sign_append : (x : Syntax) (b : ℕ) (s r : List ℕ) → (sign x b ++ s) ++ r ≡ sign x b ++ (s ++ r)
sign_append x b s r = append_assoc (sign x b) s r

module _ (l : Language) (apart : Apart l) where
  mutual
    unfolding read_by write levels read_all

    -- Reading what was written gives the same code.
    pub round : {x : Syntax} {uses : Uses} {a : Code} {k : ℕ} → Typed l uses a k → Written x uses → (n : ℕ) (r : List ℕ) → levels a ≤ n
        → read x l uses n k (write x a ++ r) ≡ done a r
    round (typed_node e h) w zero r d = absurd (omega arith)
    round {x} (typed_token {v = v} {k = k} {c = c} e h) w zero r d =
        rw (sign_append x 2 (v / 256 ∷ v % 256 ∷ []) r, token_past (λ j s. broken) l w k c (v / 256 ∷ v % 256 ∷ r) e)
        (token_done (λ j s. broken) l c v r h)
    round (typed_argument e) w zero r d = absurd (omega arith)
    round {x} {uses} (typed_node {k = k} {p = p} {t = t} {ks = ks} e h) w (suc n) r d =
        rw (sign_append x 1 (p ∷ write_all x t) r, node_level (read x l uses n) l w k p (write_all x t ++ r) (apart k p ks e))
        (node_done (read x l uses n) l k p ks (write_all x t ++ r) r t e (round_all h w n r (omega arith)))
    round {x} {uses} (typed_token {v = v} {k = k} {c = c} e h) w (suc n) r d =
        rw (sign_append x 2 (v / 256 ∷ v % 256 ∷ []) r, token_level (read x l uses n) l w k c (v / 256 ∷ v % 256 ∷ r) e)
        (token_done (read x l uses n) l c v r h)
    round {x} {uses} (typed_argument {i = i} {j = j} {k = k} e) w (suc n) r d = argument_level (read x l uses n) l w k i j r e

    pub round_all : {x : Syntax} {uses : Uses} {t : Codes} {ks : List ℕ} → TypedAll l uses t ks → Written x uses → (n : ℕ) (r : List ℕ) → levels_all t ≤ n
        → read_all (read x l uses n) ks (write_all x t ++ r) ≡ done t r
    round_all typed_nil w n r d = refl
    round_all {x} {uses} (typed_cons {a = a} {t = t} h hs) w n r d =
        rw (append_assoc, round h w n (write_all x t ++ r) (omega arith), round_all hs w n r (omega arith))
