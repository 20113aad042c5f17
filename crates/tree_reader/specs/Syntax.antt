-- Codes in bytes, written and read (paper 01: "Languages", legal trees; "Translations", the prefix form of code; paper 02,
-- 2026-13, 04).
use Rattle.std.specs.Prelude.{ℕ, zero, suc, ◌+◌, ◌*◌, Bool, true, false, List, [], ◌∷◌, ◌++◌, eqb}
use Rattle.std.proofs.Math.Option.{Option, none, some}
use Rattle.format_fields.specs.Fields.{two_bytes}
use Rattle.format_language.specs.Language.{Language, Range, range_of, arguments_of, in_range}
use Rattle.tree_reader.specs.Code.{Code, node, token, argument, Codes, nil, cons}
use Rattle.tree_reader.specs.Typing.{Uses, kind_at}

-- Trees are written without signs; in a code 01 stands before a name, 02 before a token, 03 before an argument number,
-- 04 before an argument number and the number of a mapping that is not 0.
pub data Syntax : Type 0 where
  tree code : Syntax

-- The sign that stands in front, in code syntax.
abbrev pub sign : Syntax → ℕ → List ℕ
sign tree n = []
sign code n = n ∷ []

-- The bytes of a code: a name, then the operands in order; a token is its value in two bytes.
unfoldable mutual
  pub write : Syntax → Code → List ℕ
  write s (node k p t) = sign s 1 ++ p ∷ write_all s t
  write s (token v) = sign s 2 ++ two_bytes v
  write s (argument i zero) = sign s 3 ++ i ∷ []
  write s (argument i (suc j)) = sign s 4 ++ i ∷ suc j ∷ []

  pub write_all : Syntax → Codes → List ℕ
  write_all s nil = []
  write_all s (cons a t) = write s a ++ write_all s t

-- What reading comes to: a value and the bytes after it, one level too many, or bytes that are no such code.
pub data Read (A : Type 0) : Type 0 where
  done : A → List ℕ → Read A
  deep : Read A
  broken : Read A

-- The next reading, on what was read and what is left; the first that fails ends it.
abbrev pub and_then : {A B : Type 0} → Read A → (A → List ℕ → Read B) → Read B
and_then (done a r) f = f a r
and_then deep f = deep
and_then broken f = broken

-- Codes of the given kinds, one after the other.
unfoldable pub read_all : (ℕ → List ℕ → Read Code) → List ℕ → List ℕ → Read Codes
read_all reads [] s = done nil s
read_all reads (k ∷ ks) s = and_then (reads k s) λ a r. and_then (read_all reads ks r) λ t u. done (cons a t) u

-- The operands that a production asks for; an unknown production is broken.
unfoldable pub read_operands : (ℕ → List ℕ → Read Code) → ℕ → ℕ → Option (List ℕ) → List ℕ → Read Code
read_operands reads k p none s = broken
read_operands reads k p (some ks) s = and_then (read_all reads ks s) λ t r. done (node k p t) r

-- A production name of the kind, then its operands in order.
unfoldable pub read_node : (ℕ → List ℕ → Read Code) → Language → ℕ → List ℕ → Read Code
read_node reads l k [] = broken
read_node reads l k (p ∷ s) = read_operands reads k p (arguments_of l k p) s

-- A value of two bytes, in the range of the class; a kind that is no class has none.
unfoldable pub read_token : Option Range → List ℕ → Read Code
read_token none s = broken
read_token (some c) [] = broken
read_token (some c) (x ∷ []) = broken
read_token (some c) (x ∷ y ∷ s) = elim (in_range c (x * 256 + y)) [ true ↦ done (token (x * 256 + y)) s | false ↦ broken ]

-- Whether a kind is the one that is wanted.
abbrev pub is_the : ℕ → Option ℕ → Bool
is_the k none = false
is_the k (some j) = eqb j k

-- Argument i by number j, where its kind by that number is the one that is wanted.
unfoldable pub use_of : Uses → ℕ → ℕ → ℕ → List ℕ → Read Code
use_of uses k i j s = elim (is_the k (kind_at uses i j)) [ true ↦ done (argument i j) s | false ↦ broken ]

-- Behind 03: an argument number; it is used by number 0.
unfoldable pub read_argument : Uses → ℕ → List ℕ → Read Code
read_argument uses k [] = broken
read_argument uses k (i ∷ s) = use_of uses k i 0 s

-- Behind 04: an argument number, and the number that it is used by, which is not 0.
unfoldable pub read_numbered : Uses → ℕ → List ℕ → Read Code
read_numbered uses k [] = broken
read_numbered uses k (i ∷ []) = broken
read_numbered uses k (i ∷ zero ∷ s) = broken
read_numbered uses k (i ∷ suc j ∷ s) = use_of uses k i (suc j) s

-- A use of an argument, behind its sign; any other sign is broken.
unfoldable pub read_use : Uses → ℕ → ℕ → List ℕ → Read Code
read_use uses k b s =
    elim (eqb b 3) [
      | true ↦ read_argument uses k s
      | false ↦ elim (eqb b 4) [ true ↦ read_numbered uses k s | false ↦ broken ]
    ]

-- One level in tree syntax: a class has a token, any other kind a name.
unfoldable pub read_tree_level : (ℕ → List ℕ → Read Code) → Language → ℕ → List ℕ → Read Code
read_tree_level reads l k s =
    elim (range_of l k) [ some c ↦ read_token (some c) s | none ↦ read_node reads l k s ]

-- One level in code syntax: its sign says what follows.
unfoldable pub read_code_level : (ℕ → List ℕ → Read Code) → Language → Uses → ℕ → List ℕ → Read Code
read_code_level reads l uses k [] = broken
read_code_level reads l uses k (b ∷ s) =
    elim (eqb b 1) [
      | true ↦ read_node reads l k s
      | false ↦
          elim (eqb b 2) [
            | true ↦ read_token (range_of l k) s
            | false ↦ read_use uses k b s
          ]
    ]

-- One level in either syntax.
unfoldable pub read_level : Syntax → (ℕ → List ℕ → Read Code) → Language → Uses → ℕ → List ℕ → Read Code
read_level tree reads l uses k s = read_tree_level reads l k s
read_level code reads l uses k s = read_code_level reads l uses k s

-- What counts as a level: by the earlier rule every node, token and argument (paper 01, "Languages" and "Translations"),
-- by the current one no token (paper 02, 2026-07).
pub data Rule : Type 0 where
  earlier current : Rule

-- What stands past the last level. By the current rule a token is no level and is read: in a tree that of a class,
-- in a code what stands behind 02. Anything else is too deep, before a byte of it is looked at (paper 01, "Check a tree";
-- paper 02, 2026-07).
unfoldable pub past_levels : Rule → Syntax → Language → ℕ → List ℕ → Read Code
past_levels earlier x l k s = deep
past_levels current tree l k s = elim (range_of l k) [ some c ↦ read_token (some c) s | none ↦ deep ]
past_levels current code l k [] = deep
past_levels current code l k (b ∷ s) = elim (eqb b 2) [ true ↦ read_token (range_of l k) s | false ↦ deep ]

-- A code of kind k off the front of the bytes, with so many levels left by a rule.
unfoldable pub read_by : Rule → Syntax → Language → Uses → ℕ → ℕ → List ℕ → Read Code
read_by c x l uses zero k s = past_levels c x l k s
read_by c x l uses (suc n) k s = read_level x (read_by c x l uses n) l uses k s

-- Reading by the current rule.
abbrev pub read : Syntax → Language → Uses → ℕ → ℕ → List ℕ → Read Code
read x l uses n k s = read_by current x l uses n k s
