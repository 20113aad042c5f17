-- Why the position is told that is told: of each refusal, what the bytes up to there decide.
use Rattle.std.specs.Prelude.{ℕ, ◌+◌, ◌<◌, ◌≤◌, ◌≡◌, true, false, List, [], ◌++◌, length, take, Err, Ok}
use Rattle.outcome.specs.Outcome.{value, refused, Outcome}
use Rattle.outcome.specs.declared.Reason.{Reason}
use Rattle.outcome.specs.declared.Reason.TheVariants.{IllegalTree, TooDeep}
use Rattle.format_language.specs.Language.{Language, is_in}
use Rattle.format_language.specs.LanguageFile.{language_of}
use Rattle.tree_reader.specs.Code.{Code, levels}
use Rattle.tree_reader.specs.Typing.{Typed}
use Rattle.tree_reader.specs.Syntax.{Read, done, broken, read, write, tree}
use Rattle.tree_reader.specs.Syntax as Reading
use Rattle.tree_reader.specs.Operations.{tree_levels, tree_of}
use Rattle.tree_locate.specs.Faults.{Stop, passes, ends, unfit, deep, stop}
use Rattle.tree_locate.specs.Operations.{Located, locate_tree}

-- What reading comes to, by where it stops: a tree with the bytes behind it; broken where the input ends or a node cannot be; deep
-- where a level is too many.
abbrev pub Agrees : Stop → Read Code → Type 0
Agrees (passes s) o = (t : Code) × (o ≡ done t s)
Agrees ends o = o ≡ broken
Agrees (unfit s) o = o ≡ broken
Agrees (deep s) o = o ≡ Reading.deep

-- Where reading stops and what it comes to agree, in every language, at every level, for every kind and input.
abbrev pub StopsAsRead : Type 0
StopsAsRead = (l : Language) (n k : ℕ) (s : List ℕ) → Agrees (stop l n k s) (read tree l [] n k s)

-- A legal tree of a kind, within the levels, begins with these bytes.
pub record Begins (l : Language) (root : ℕ) (front : List ℕ) : Type 0 where
  pub subject : Code
  pub typed : Typed l [] subject root
  pub within : levels subject ≤ tree_levels
  pub behind : List ℕ
  pub is : write tree subject ≡ front ++ behind

-- The answer for an input that only ends too early: 15, at its own end.
abbrev pub cut_at : ℕ → Located
cut_at n = record { outcome = Err IllegalTree; position = n }

-- The first n bytes decide: no legal tree within the levels begins with them, whatever follows, and any fewer are refused only
-- because they end.
pub record DecidedBy (language : List ℕ) (l : Language) (root : ℕ) (bytes : List ℕ) (n : ℕ) : Type 0 where
  pub never : Begins l root (take n bytes) → ⊥
  pub before : (q : ℕ) → q < n → locate_tree language root (take q bytes) ≡ cut_at q

-- Why an outcome comes with a position.
pub data Because (language : List ℕ) (l : Language) (root : ℕ) (bytes : List ℕ) : Outcome → ℕ → Type 0 where
  -- the whole input is a legal tree
  whole : {t : Code} → tree_of l root bytes ≡ value t → Because language l root bytes (Ok 0) 0
  -- the bytes before the position are a legal tree within the levels, and there are more
  leftover : {p : ℕ} {t : Code} → p < length bytes → tree_of l root (take p bytes) ≡ value t
      → Because language l root bytes (Err IllegalTree) p
  -- the input ends: no front of it, nor the input itself, is a legal tree within the levels, and each is refused only because it ends
  ended : ((q : ℕ) (w : Begins l root (take q bytes)) → w.behind ≡ [] → ⊥)
      → ((q : ℕ) → q ≤ length bytes → locate_tree language root (take q bytes) ≡ cut_at q)
      → Because language l root bytes (Err IllegalTree) (length bytes)
  -- a name stands at the position with which no legal tree goes on
  unknown : {p : ℕ} → p < length bytes → DecidedBy language l root bytes (p + 1) → Because language l root bytes (Err IllegalTree) p
  -- a token of two bytes stands at the position with which no legal tree goes on
  out_of_range : {p : ℕ} → p + 1 < length bytes → DecidedBy language l root bytes (p + 2)
      → Because language l root bytes (Err IllegalTree) p
  -- the bytes before the position already ask for level 65
  too_deep_lem : {p : ℕ} → p ≤ length bytes → DecidedBy language l root bytes p → Because language l root bytes (Err TooDeep) p

-- Every answer about a tree that is looked at has such a reason.
abbrev pub PositionsHaveReasons : Type 0
PositionsHaveReasons =
    (language : List ℕ) (root : ℕ) (bytes : List ℕ) (l : Language)
    → language_of language ≡ value l → is_in l root ≡ true
    → Because language l root bytes (locate_tree language root bytes).outcome (locate_tree language root bytes).position

-- Where the language or the root is refused, the position is 0.
abbrev pub UnreadIsZero : Type 0
UnreadIsZero =
    (language : List ℕ) (root : ℕ) (bytes : List ℕ)
    → ((r : Reason) → language_of language ≡ refused r → locate_tree language root bytes ≡ record { outcome = Err r; position = 0 })
    × ((l : Language) → language_of language ≡ value l → is_in l root ≡ false → (locate_tree language root bytes).position ≡ 0)
