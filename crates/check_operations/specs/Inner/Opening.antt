-- A language that is opened with a root, as every operation on trees begins.
use Rattle.std.specs.Prelude.{ℕ, ◌<◌, ◌≡◌, true, false, not, List}
use Rattle.outcome.specs.Outcome.{Result, value, refuse_if, ◌>>=◌}
use Rattle.outcome.specs.declared.Reason.TheVariants.{UnknownRoot}
use Rattle.format_language.specs.Language.{Language, is_in, clashes}
use Rattle.format_language.specs.LanguageFile.{language_of}
use Rattle.tree_reader.specs.Inner.Index.{Indexed}

-- The language, where the root is one of its kinds: 14.
abbrev pub root_in : ℕ → Language → Result Language
root_in root l = refuse_if (not (is_in l root)) UnknownRoot (value l)

-- The language in the bytes, with its root: 1 to 4, 14.
unfoldable pub rooted_of : List ℕ → ℕ → Result Language
rooted_of language root = language_of language >>= root_in root

-- A language l that was accepted, whose bytes are s, and its index.
pub record OpenedAlone (s index : List ℕ) (l : Language) : Type 0 where
  pub is : language_of s ≡ value l
  pub indexed : Indexed index s l
  pub apart : clashes l l ≡ false

-- The same with a root that is one of its kinds.
pub record Opened (s index : List ℕ) (root : ℕ) (l : Language) : Type 0 where
  pub alone : OpenedAlone s index l
  pub known : is_in l root ≡ true
  pub kind : root < 32
