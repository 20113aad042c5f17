-- Reading by position: what stands where in the bytes, looked up through the index of the language.
use Rattle.tree_reader.specs.declared.node.ReadError.TheVariants.{Deep, Broken}
use Rattle.tree_reader.specs.declared.node.ReadError.{ReadError}
use Rattle.std.specs.Prelude.{Result}
use Rattle.outcome.specs.declared.Reason.{Reason}
use Rattle.outcome.specs.declared.Reason.TheVariants.{TooDeep, IllegalTree}
use Rattle.std.specs.Prelude.{ℕ, zero, suc, ◌+◌, ◌-◌, ◌*◌, ◌<◌, ◌≤◌, Bool, false, cond, List, map, length, get_or, drop, ltb, leb, eqb, Err, Ok}
use Rattle.std.proofs.Math.Option.{Option, none, some}
use Rattle.format_fields.specs.Fields.{pair_at}
use Rattle.format_language.specs.Language.{production_key, in_range, mentions}
use Rattle.format_language.specs.Inner.Entries.{entry_at, class_range}
use Rattle.tree_reader.specs.Typing.{Uses}
use Rattle.tree_reader.specs.Syntax as Meant
use Rattle.tree_reader.specs.declared.node.Syntax.{Syntax}
use Rattle.tree_reader.specs.declared.node.Syntax.TheVariants.{Tree, Code}
use Rattle.tree_reader.specs.declared.node.Node.{Node}
use Rattle.tree_reader.specs.declared.node.Node.TheVariants.{Leaf, Operands}

-- What reading comes to: the position after what was read, or why nothing can be read.
abbrev pub Read : Type 0
Read = Result ℕ ReadError

-- What an operation refuses a tree with that cannot be read.
abbrev pub refusal_of : ReadError → Reason
refusal_of Deep = TooDeep
refusal_of Broken = IllegalTree

-- A token of the class whose field stands before `place`, at `at`; there is no class at 0.
unfoldable pub token_at : List ℕ → ℕ → List ℕ → ℕ → Read
token_at s place b at =
    cond (eqb place 0) (Err Broken)
    (cond (ltb (length b - at) 2) (Err Broken)
    (cond (in_range (class_range s (place - 1)) (pair_at b at)) (Ok (at + 2)) (Err Broken)))

-- The operands of the production whose field stands before `place`; there is no production at 0.
unfoldable pub operands_at : List ℕ → ℕ → ℕ → Node
operands_at s place at = cond (eqb place 0) (Leaf (Err Broken)) (Operands (place + 4) (place + 2 + pair_at s place) at)

-- A production name of kind k at `at`.
unfoldable pub name_at : List ℕ → List ℕ → ℕ → List ℕ → ℕ → Node
name_at s index k b at =
    cond (leb (length b) at) (Leaf (Err Broken)) (operands_at s (get_or index (production_key k (get_or b at 0)) 0) (at + 1))

-- The uses in bytes: for each kind k and number j the kind that it maps to, plus one, at 256 k + j, or 0 where it has none;
-- behind these the kinds of the arguments, one after the other.
abbrev pub uses_length : ℕ
uses_length = 8192

-- The kind before a number; 0 has none.
abbrev pub kind_before : ℕ → Option ℕ
kind_before zero = none
kind_before (suc k) = some k

-- The kind that kind k maps to by number j.
unfoldable pub mapped_in : List ℕ → ℕ → ℕ → Option ℕ
mapped_in u k j = cond (ltb j 256) (kind_before (get_or u (k * 256 + j) 0)) none

-- The uses that the bytes say.
unfoldable pub uses_in : List ℕ → Uses
uses_in u = map (mapped_in u) (drop uses_length u)

-- Argument i by number j is of kind k.
unfoldable pub argument_is : List ℕ → ℕ → ℕ → ℕ → Bool
argument_is u k i j =
    cond (eqb i 0) false
    (cond (leb (length u) (8191 + i)) false (eqb (get_or u (get_or u (8191 + i) 0 * 256 + j) 0) (k + 1)))

-- An argument number at `at`.
unfoldable pub argument_at : List ℕ → ℕ → List ℕ → ℕ → Read
argument_at u k b at =
    cond (leb (length b) at) (Err Broken) (cond (argument_is u k (get_or b at 0) 0) (Ok (at + 1)) (Err Broken))

-- An argument number at `at`, and behind it the number that it is used by.
unfoldable pub numbered_at : List ℕ → ℕ → List ℕ → ℕ → Read
numbered_at u k b at =
    cond (ltb (length b - at) 2) (Err Broken)
    (cond (eqb (get_or b (at + 1) 0) 0) (Err Broken)
    (cond (argument_is u k (get_or b at 0) (get_or b (at + 1) 0)) (Ok (at + 2)) (Err Broken)))

-- What stands at `at` in a tree.
unfoldable pub tree_node : List ℕ → List ℕ → ℕ → List ℕ → ℕ → Node
tree_node s index k b at =
    cond (eqb (get_or index k 0) 0) (name_at s index k b at) (Leaf (token_at s (get_or index k 0) b at))

-- The place of the class that a token of kind k is read by: 0 in a code, where a sign stands before it.
unfoldable pub class_place : Syntax → List ℕ → ℕ → ℕ
class_place Tree index k = get_or index k 0
class_place Code index k = 0

-- How many bytes a production's name takes, with its sign in a code.
abbrev pub name_length : Syntax → ℕ
name_length Tree = 1
name_length Code = 2

-- The place of the production of kind k whose name stands at `at`, or 0: in a code the sign 01 stands before the name.
unfoldable pub production_place : Syntax → List ℕ → ℕ → List ℕ → ℕ → ℕ
production_place Tree index k b at = cond (leb (length b) at) 0 (get_or index (production_key k (get_or b at 0)) 0)
production_place Code index k b at =
    cond (leb (length b) (at + 1)) 0
    (cond (eqb (get_or b at 0) 1) (get_or index (production_key k (get_or b (at + 1) 0)) 0) 0)

-- A leaf of a code at `at`: 02 and a token, 03 and an argument, or 04 and an argument by a number.
unfoldable pub code_leaf : List ℕ → List ℕ → List ℕ → ℕ → List ℕ → ℕ → Read
code_leaf s index uses k b at =
    cond (leb (length b) at) (Err Broken)
    (cond (eqb (get_or b at 0) 3) (argument_at uses k b (at + 1))
    (cond (eqb (get_or b at 0) 2) (token_at s (get_or index k 0) b (at + 1))
    (cond (eqb (get_or b at 0) 4) (numbered_at uses k b (at + 1)) (Err Broken))))

-- What stands at `at` in a code.
unfoldable pub code_node : List ℕ → List ℕ → List ℕ → ℕ → List ℕ → ℕ → Node
code_node s index uses k b at =
    cond (leb (length b) at) (Leaf (Err Broken))
    (cond (eqb (get_or b at 0) 1) (name_at s index k b (at + 1)) (Leaf (code_leaf s index uses k b at)))

-- What stands at `at` where no production of kind k does, and no token of a class in a tree.
unfoldable pub leaf_at : Syntax → List ℕ → List ℕ → List ℕ → ℕ → List ℕ → ℕ → Read
leaf_at Tree s index uses k b at = Err Broken
leaf_at Code s index uses k b at = code_leaf s index uses k b at

-- What stands at `at`, in either syntax.
unfoldable pub node_at : Syntax → List ℕ → List ℕ → List ℕ → ℕ → List ℕ → ℕ → Node
node_at Tree s index uses k b at = tree_node s index k b at
node_at Code s index uses k b at = code_node s index uses k b at

-- As many operands as the number says, whose kinds stand in s from q on.
unfoldable pub operands_from : (ℕ → ℕ → Read) → List ℕ → ℕ → ℕ → ℕ → Read
operands_from f s zero q at = Ok at
operands_from f s (suc m) q at =
    elim (f (get_or s q 0) at) [ Ok e ↦ operands_from f s m (q + 1) e | Err x ↦ Err x ]

-- What a node comes to, where f reads its operands.
abbrev pub follow : (ℕ → ℕ → Read) → List ℕ → Node → Read
follow f s (Leaf r) = r
follow f s (Operands q e to) = operands_from f s (e - q) q to

-- What stands at `at` past the last level: a token is read, anything else is too deep.
unfoldable pub past_at : Syntax → List ℕ → List ℕ → ℕ → List ℕ → ℕ → Read
past_at Tree s index k b at = cond (eqb (get_or index k 0) 0) (Err Deep) (token_at s (get_or index k 0) b at)
past_at Code s index k b at =
    cond (leb (length b) at) (Err Deep) (cond (eqb (get_or b at 0) 2) (token_at s (get_or index k 0) b (at + 1)) (Err Deep))

-- A code of kind k at `at`, with so many levels left.
unfoldable pub read_at : Syntax → List ℕ → List ℕ → List ℕ → List ℕ → ℕ → ℕ → ℕ → Read
read_at x s index uses b zero k at = past_at x s index k b at
read_at x s index uses b (suc n) k at =
    follow (read_at x s index uses b n) s (node_at x s index uses k b at)

-- A position that was reached lies in the bytes.
abbrev pub EndsBy : ℕ → Read → Type 0
EndsBy n (Ok e) = e ≤ n
EndsBy n (Err x) = Unit {0}

-- The bytes of s from q up to e are there, and are kinds.
abbrev pub KindsIn : List ℕ → ℕ → ℕ → Type 0
KindsIn s q e = (x : ℕ) → q ≤ x → x < e → (x < length s) × (get_or s x 0 < 32)

-- What stands at a node lies in the bytes and in the language.
abbrev pub NodeIn : List ℕ → List ℕ → Node → Type 0
NodeIn s b (Leaf r) = EndsBy (length b) r
NodeIn s b (Operands q e to) = (to ≤ length b) × KindsIn s q e

-- What reading comes to, without the code that was read.
pub data Rest : Type 0 where
  rest : List ℕ → Rest
  deep : Rest
  broken : Rest

-- What is left, where a position was reached.
abbrev pub rest_at : List ℕ → Read → Rest
rest_at b (Ok e) = rest (drop e b)
rest_at b (Err Deep) = deep
rest_at b (Err Broken) = broken

-- What is left after a value was read.
abbrev pub rest_of : {A : Type 0} → Meant.Read A → Rest
rest_of (Meant.done a r) = rest r
rest_of Meant.deep = deep
rest_of Meant.broken = broken

-- The syntax of the definitions for that of the code.
abbrev pub syntax_of : Syntax → Meant.Syntax
syntax_of Tree = Meant.tree
syntax_of Code = Meant.code

-- The entry at p mentions kind k.
unfoldable pub mentions_at : List ℕ → ℕ → ℕ → Bool
mentions_at s k p = mentions k (entry_at s p)
