-- The order of trees that byte order comes to: by name, then operand by operand; tokens by value.
use Rattle.std.specs.Prelude.{ℕ, ◌<◌, ◌≡◌, ◌⊎◌, List, ◌∷◌}
use Rattle.tree_reader.specs.Code.{Code, node, token, Codes, cons}

-- Of two trees of one kind the first comes earlier.
mutual
  pub data Earlier : Code → Code → Type 0 where
    by_name : {k p q : ℕ} {t r : Codes} → p < q → Earlier (node k p t) (node k q r)
    by_operands : {k p : ℕ} {t r : Codes} → EarlierAll t r → Earlier (node k p t) (node k p r)
    by_value : {v w : ℕ} → v < w → Earlier (token v) (token w)

  pub data EarlierAll : Codes → Codes → Type 0 where
    at_first : {a b : Code} {t r : Codes} → Earlier a b → EarlierAll (cons a t) (cons b r)
    after : {a : Code} {t r : Codes} → EarlierAll t r → EarlierAll (cons a t) (cons a r)

-- The first is the second or earlier.
abbrev pub Upto : Code → Code → Type 0
Upto a b = (a ≡ b) ⊎ Earlier a b

-- The same of operands.
abbrev pub UptoAll : Codes → Codes → Type 0
UptoAll t r = (t ≡ r) ⊎ EarlierAll t r

-- Two lists part at a byte, where the first has the lower one.
pub data Parts : List ℕ → List ℕ → Type 0 where
  here : {a b : ℕ} {s t : List ℕ} → a < b → Parts (a ∷ s) (b ∷ t)
  on : {b : ℕ} {s t : List ℕ} → Parts s t → Parts (b ∷ s) (b ∷ t)
