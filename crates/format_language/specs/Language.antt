-- Languages (paper 01, "Languages"; document 000: B.1, B.2). A kind is document 000's nonterminal.
use Rattle.std.specs.Prelude.{ℕ, ◌+◌, ◌*◌, Bool, false, cond, not, ◌&&◌, ◌||◌, List, eqb}
use Rattle.std.proofs.Math.Option.{Option, none, some}
use Rattle.format_fields.specs.Lists.{any, first, is_some, same_numbers}
pub use Rattle.format_language.specs.Ranges.{Range, range}
unfoldable pub use Rattle.format_language.specs.Ranges.{in_range, same_range, legal_too, range_within}

-- A token class gives a kind its range; a production has a result kind, a name and argument kinds.
pub data Entry : Type 0 where
  class : (kind : ℕ) (values : Range) → Entry
  production : (result name : ℕ) (arguments : List ℕ) → Entry

-- A language is its entries: the classes by rising kind, then the productions by rising (result, name).
abbrev pub Language : Type 0
Language = List Entry

-- The key of what belongs to a kind, and of what belongs to a production: kinds are 0 to 31 and come first.
abbrev pub kind_key : ℕ → ℕ
kind_key kind = kind

-- The key of a production, or of its clause.
abbrev pub production_key : ℕ → ℕ → ℕ
production_key result name = 32 + (result * 256 + name)

-- The key of an entry.
unfoldable pub entry_key : Entry → ℕ
entry_key (class k c) = kind_key k
entry_key (production r p arguments) = production_key r p

-- Two entries are the same: of equal kind and range, or equal in result, name and arguments.
unfoldable pub same_entry : Entry → Entry → Bool
same_entry (class k c) (class j d) = eqb k j && same_range c d
same_entry (class k c) (production s q js) = false
same_entry (production r p ks) (class j d) = false
same_entry (production r p ks) (production s q js) = eqb r s && (eqb p q && same_numbers ks js)

-- The range of the class of kind k, if k is one.
unfoldable pub range_at : ℕ → Entry → Option Range
range_at k (class j c) = cond (eqb j k) (some c) none
range_at k (production r p arguments) = none

-- The same in a language.
unfoldable pub range_of : Language → ℕ → Option Range
range_of l k = first (range_at k) l

-- The argument kinds of production p of kind k, if there is one.
unfoldable pub arguments_at : ℕ → ℕ → Entry → Option (List ℕ)
arguments_at k p (class j c) = none
arguments_at k p (production r q arguments) = cond (eqb r k && eqb q p) (some arguments) none

-- The same in a language.
unfoldable pub arguments_of : Language → ℕ → ℕ → Option (List ℕ)
arguments_of l k p = first (arguments_at k p) l

-- A kind is the result of a production.
unfoldable pub result_is : ℕ → Entry → Bool
result_is k (class j c) = false
result_is k (production r p arguments) = eqb r k

-- A kind is in a language if it has a class, is a result, or is an argument.
unfoldable pub mentions : ℕ → Entry → Bool
mentions k (class j c) = eqb j k
mentions k (production r p arguments) = eqb r k || any (λ a. eqb a k) arguments

-- The same in a language.
unfoldable pub is_in : Language → ℕ → Bool
is_in l k = any (mentions k) l

-- A kind that is in and has neither class nor production is undefined: it has no legal tree.
unfoldable pub is_undefined : Language → ℕ → Bool
is_undefined l k = is_in l k && (not (is_some (range_of l k)) && not (any (result_is k) l))

-- Some kind is a class in the first and a result in the second.
unfoldable pub class_is_result : Language → Entry → Bool
class_is_result m (class k c) = any (result_is k) m
class_is_result m (production r p arguments) = false

-- The same over all entries of the first.
unfoldable pub clashes : Language → Language → Bool
clashes l m = any (class_is_result m) l
