-- Typing of codes (document 000: C.5; paper 01, "Languages", legal trees, and "Translations", 03 i; paper 02,
-- 2026-13, 04 i j).
use Rattle.std.specs.Prelude.{ℕ, zero, suc, ◌≡◌, true, List, [], ◌∷◌}
use Rattle.std.proofs.Math.Option.{Option, none, some}
use Rattle.std.proofs.Math.ListN.{get_elem?}
use Rattle.format_language.specs.Language.{Language, Range, range_of, arguments_of, in_range}
use Rattle.tree_reader.specs.Code.{Code, node, token, argument, Codes, nil, cons}

-- What a code may use: for each argument the kind that it has by each number of a mapping, where it has one.
abbrev pub Uses : Type 0
Uses = List (ℕ → Option ℕ)

-- The kind by number j, where there is an argument.
abbrev pub kind_by : Option (ℕ → Option ℕ) → ℕ → Option ℕ
kind_by none j = none
kind_by (some to) j = to j

-- The kind of argument i, counted from 1, by number j.
abbrev pub kind_at : Uses → ℕ → ℕ → Option ℕ
kind_at uses zero j = none
kind_at uses (suc i) j = kind_by (get_elem? uses i) j

-- A code over language l is of a kind, with the given uses of arguments.
mutual
  pub data Typed (l : Language) (uses : Uses) : Code → ℕ → Type 0 where
    typed_node : {k p : ℕ} {t : Codes} {ks : List ℕ} → arguments_of l k p ≡ some ks → TypedAll l uses t ks
        → Typed l uses (node k p t) k
    typed_token : {v k : ℕ} {c : Range} → range_of l k ≡ some c → in_range c v ≡ true → Typed l uses (token v) k
    typed_argument : {i j k : ℕ} → kind_at uses i j ≡ some k → Typed l uses (argument i j) k

  pub data TypedAll (l : Language) (uses : Uses) : Codes → List ℕ → Type 0 where
    typed_nil : TypedAll l uses nil []
    typed_cons : {a : Code} {k : ℕ} {t : Codes} {ks : List ℕ} → Typed l uses a k → TypedAll l uses t ks
        → TypedAll l uses (cons a t) (k ∷ ks)
