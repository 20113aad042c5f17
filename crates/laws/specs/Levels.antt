-- The levels that reading counts are those of the code that is read, and an undefined kind has no legal tree
-- (paper 01, "Languages" and "Check a tree").
use Rattle.std.specs.Prelude.{ℕ, ◌<◌, ◌≤◌, ◌≡◌, true, false, List, [], ◌++◌}
use Rattle.format_language.specs.Language.{Language, is_undefined, clashes}
use Rattle.tree_reader.specs.Code.{Code, levels}
use Rattle.tree_reader.specs.Typing.{Uses, Typed}
use Rattle.tree_reader.specs.Syntax.{Syntax, Read, done, deep, read, write, tree, code}

-- The uses of arguments that a syntax can write: a tree has none.
abbrev pub uses_in : Syntax → Uses → Uses
uses_in tree uses = []
uses_in code uses = uses

-- What reading with n levels gives of bytes that start with the written code c, which is too deep exactly if
-- n is below its levels.
pub record ReadsByLevels (n : ℕ) (c : Code) (rest : List ℕ) (result : Read Code) : Type 0 where
  pub too_deep : n < levels c → result ≡ deep
  pub enough : levels c ≤ n → result ≡ done c rest

-- The law of levels, for a language in which no kind is both a class and a result, in either syntax, with any bytes
-- behind the code.
abbrev pub LawOfLevels : Type 0
LawOfLevels =
    (l : Language) → clashes l l ≡ false → (x : Syntax) (uses : Uses) (c : Code) (k : ℕ)
    → Typed l (uses_in x uses) c k → (n : ℕ) (rest : List ℕ)
    → ReadsByLevels n c rest (read x l (uses_in x uses) n k (write x c ++ rest))

-- No tree is legal of the kind, and reading never gives one, whatever the levels.
pub record NoTree (l : Language) (k : ℕ) : Type 0 where
  pub typed : (t : Code) → Typed l [] t k → ⊥
  pub reads : (n : ℕ) (bytes rest : List ℕ) (t : Code) → read tree l [] n k bytes ≡ done t rest → ⊥

-- An undefined kind has no legal tree.
abbrev pub UndefinedHasNoTree : Type 0
UndefinedHasNoTree = (l : Language) (k : ℕ) → is_undefined l k ≡ true → NoTree l k
