-- Sets as lists: what it means that an element is in one.
use Rattle.std.specs.Prelude.{List, ◌∷◌}

infix 50 ◌∈◌
-- a ∈ l: the element stands in the list, first or later.
pub data ◌∈◌ {A : Type 0} (a : A) : List A → Type 0 where
  here : {l : List A} → a ∈ (a ∷ l)
  later : {b : A} {l : List A} → a ∈ l → a ∈ (b ∷ l)
