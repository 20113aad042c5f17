-- What stands at a position of a text.
use Rattle.std.specs.Prelude.{ℕ, ◌+◌, ◌-◌, ◌<◌, ◌≤◌, ◌≡◌, Bool, true, false, List, [], ◌∷◌, ◌++◌, length, take, drop, Option, Some, None}
use Rattle.format_language.specs.Language.{Range}
use Rattle.tree_reader.specs.Code.{Code, token}
use Rattle.tree_reader.specs.Syntax.{Read, done, deep, broken}
use Rattle.format_fields.specs.Decimal.{decimal}
use Rattle.xml_text.specs.Import.{read_token}

-- A position that was reached lies in the text, and not before `from`.
pub record Reached (text : List ℕ) (from e : ℕ) : Type 0 where
  pub past : from ≤ e
  pub inside : e ≤ length text

-- The answer r says what the reading o comes to.
pub record Stands (o : Read (Unit {0})) (text : List ℕ) (from : ℕ) (r : Option ℕ) : Type 0 where
  pub found : (e : ℕ) → r ≡ Some e → o ≡ done tt (drop e text)
  pub reached : (e : ℕ) → r ≡ Some e → Reached text from e
  pub nothing : r ≡ None → o ≡ broken

-- What an opening tag begins with: "<", a sign, a kind, and the byte behind it.
unfoldable pub begins : ℕ → ℕ → ℕ → List ℕ
begins sign k end = 60 ∷ sign ∷ (decimal k ++ (end ∷ []))

-- The closing tag of that size for the opening tag at `tag`: the same bytes, with "/" behind the first.
unfoldable pub closes : ℕ → ℕ → List ℕ → List ℕ
closes tag size text = 60 ∷ 47 ∷ take (size - 2) (drop (tag + 1) text)

-- No number below 65,536 was read.
abbrev pub NoNumber : Read ℕ → Type 0
NoNumber (done v r) = 65536 ≤ v
NoNumber deep = ⊥
NoNumber broken = Unit {0}

-- The answer r says what the reading o of a number comes to; there is none above 65,535 that is wanted.
pub record Numbers (o : Read ℕ) (text : List ℕ) (from : ℕ) (r : Option (ℕ × ℕ)) : Type 0 where
  pub found : (v e : ℕ) → r ≡ Some (v, e) → o ≡ done v (drop e text)
  pub small : (v e : ℕ) → r ≡ Some (v, e) → v < 65536
  pub reached : (v e : ℕ) → r ≡ Some (v, e) → Reached text from e
  pub nothing : r ≡ None → NoNumber o

-- The answer r says what the reading o of a token comes to.
pub record Tokens (o : Read Code) (text : List ℕ) (from : ℕ) (r : Option (ℕ × ℕ)) : Type 0 where
  pub found : (v e : ℕ) → r ≡ Some (v, e) → o ≡ done (token v) (drop e text)
  pub small : (v e : ℕ) → r ≡ Some (v, e) → v < 65536
  pub reached : (v e : ℕ) → r ≡ Some (v, e) → Reached text from e
  pub nothing : r ≡ None → o ≡ broken

-- No token of a class stands at `at`.
abbrev pub NoToken : List ℕ → ℕ → Type 0
NoToken text at = (k : ℕ) (c : Range) → c.high < 65536 → read_token k c (drop at text) ≡ broken

-- The answer r says whether a token is to be read at `at`: there is a class, and one may stand there.
pub record TellsToken (class : ℕ) (text : List ℕ) (at : ℕ) (r : Bool) : Type 0 where
  pub some : r ≡ true → class ≡ 0 → ⊥
  pub none : r ≡ false → (class ≡ 0 → ⊥) → NoToken text at
