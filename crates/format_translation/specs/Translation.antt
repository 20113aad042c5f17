-- Translations (paper 01, "Translations"; document 000: C.2; with several mappings of a kind, paper 02, 2026-13). A clause's
-- code is kept in its bytes.
use Rattle.std.specs.Prelude.{ℕ, ◌+◌, ◌*◌, Bool, false, cond, ◌&&◌, List, [], ◌∷◌, eqb}
use Rattle.std.proofs.Math.Option.{Option, none, some, get_or}
use Rattle.format_fields.specs.Lists.{first, concat_map, same_numbers}
use Rattle.format_language.specs.Language.{Language, kind_key, production_key}

-- A mapping takes a source kind by a number to a target kind; a clause gives a source production its code of a number.
pub data Item : Type 0 where
  mapping : (source number target : ℕ) → Item
  clause : (result name number : ℕ) (code : List ℕ) → Item

-- The mappings by rising (source kind, number), then the clauses by rising (result, name, number).
abbrev pub Body : Type 0
Body = List Item

-- A translation: its source, its target and its body.
pub record Translation : Type 0 where
  pub source : Language
  pub target : Language
  pub body : Body

-- The key of an item without its number: that of its kind or of its production.
unfoldable pub plain_key : Item → ℕ
plain_key (mapping s j t) = kind_key s
plain_key (clause r p j code) = production_key r p

-- The number of an item.
unfoldable pub number_of : Item → ℕ
number_of (mapping s j t) = j
number_of (clause r p j code) = j

-- The key of an item: numbers are below 256.
unfoldable pub item_key : Item → ℕ
item_key a = plain_key a * 256 + number_of a

-- Two items are the same: the same kind mapped alike by one number, or the same production with equal code of one number.
unfoldable pub same_item : Item → Item → Bool
same_item (mapping s i t) (mapping u j v) = eqb s u && (eqb i j && eqb t v)
same_item (mapping s i t) (clause q m j d) = false
same_item (clause r p i c) (mapping u j v) = false
same_item (clause r p i c) (clause q m j d) = eqb r q && (eqb p m && (eqb i j && same_numbers c d))

-- The kind that a source kind maps to by number j, if it has that number.
unfoldable pub target_at : ℕ → ℕ → Item → Option ℕ
target_at k j (mapping s i t) = cond (eqb s k && eqb i j) (some t) none
target_at k j (clause r p i code) = none

-- The same in a body.
unfoldable pub mapping_of : Body → ℕ → ℕ → Option ℕ
mapping_of b k j = first (target_at k j) b

-- The code of number j of a source production, if it has a clause of that number.
unfoldable pub code_at : ℕ → ℕ → ℕ → Item → Option (List ℕ)
code_at k p j (mapping s i t) = none
code_at k p j (clause r q i code) = cond (eqb r k && (eqb q p && eqb i j)) (some code) none

-- The same in a body.
unfoldable pub clause_of : Body → ℕ → ℕ → ℕ → Option (List ℕ)
clause_of b k p j = first (code_at k p j) b

-- The kind that a kind with this number maps to by it.
unfoldable pub mapped : Body → ℕ → ℕ → ℕ
mapped b k j = get_or (mapping_of b k j) 0

-- The number that an item gives kind k.
unfoldable pub number_at : ℕ → Item → List ℕ
number_at k (mapping s j t) = cond (eqb s k) (j ∷ []) []
number_at k (clause r p j code) = []

-- The numbers that kind k has, rising.
unfoldable pub numbers_of : Body → ℕ → List ℕ
numbers_of b k = concat_map (number_at k) b
