-- What a body with number 0 only says of mappings and of uses.
use Prim.Native.Nat.{ℕ, zero, suc}
use mathlib.Core.Path.{◌≡◌}
use mathlib.Core.Bool.{true}
use mathlib.Core.List.{List, []}
use mathlib.Core.Option.{some, get_or}
use borrow.Author.Tests.{eqb-true}
use Rattle.format_fields.proofs.Truth.{Mem, none_some, all_mem}
use Rattle.format_language.specs.Language.{Language, arguments_of}
use Rattle.tree_reader.specs.Code.{Code, Codes}
use Rattle.tree_reader.specs.Typing.{Uses, kind_at, Typed, TypedAll, typed_node, typed_token, typed_argument, typed_nil, typed_cons}
use Rattle.format_translation.specs.Translation.{Item, mapping, Body, Translation, number_of, mapping_of}
use Rattle.format_translation.specs.Running.{uses_of}
use Rattle.format_translation.proofs.Lookup.{mapping_mem}
use Rattle.format_translation.proofs.Running.{ByZero, ByZeroAll}
use Rattle.format_translation.proofs.Preserved.{use_kind}
use Rattle.format_translation.specs.Plain.{by_zero, plain}

module _ (b : Body) (h : plain b ≡ true) where
  pub item_zero : (a : Item) → Mem a b → number_of a ≡ 0
  unfolding plain by_zero
  item_zero a m = eqb-true (number_of a) 0 (all_mem by_zero b h a m)

  -- A kind is mapped by no other number.
  pub mapping_zero : (k j t : ℕ) → mapping_of b k j ≡ some t → j ≡ 0
  unfolding number_of
  mapping_zero k j t e = item_zero (mapping k j t) (mapping_mem b k j t e)

-- An argument is used by no other number.
pub use_zero : (f : Translation) → plain f.body ≡ true → (k p i j t : ℕ) → kind_at (uses_of f k p) i j ≡ some t → j ≡ 0
unfolding uses_of
use_zero f h k p zero j t e = none_some e
use_zero f h k p (suc i) j t e =
    let (a, m, s) = use_kind (mapping_of f.body) (get_or (arguments_of f.source k p) []) i j t e in
    mapping_zero f.body h a j t s

-- A typed code that may use arguments by number 0 only does so.
module _ {m : Language} {u : Uses} (zero_only : (i j t : ℕ) → kind_at u i j ≡ some t → j ≡ 0) where
  mutual
    pub typed_zero : {a : Code} {k : ℕ} → Typed m u a k → ByZero a
    typed_zero (typed_node e h) = typed_zero_all h
    typed_zero (typed_token e h) = tt
    typed_zero (typed_argument {i = i} {j = j} {k = k} e) = zero_only i j k e

    pub typed_zero_all : {t : Codes} {ks : List ℕ} → TypedAll m u t ks → ByZeroAll t
    typed_zero_all typed_nil = tt
    typed_zero_all (typed_cons h hs) = (typed_zero h, typed_zero_all hs)
