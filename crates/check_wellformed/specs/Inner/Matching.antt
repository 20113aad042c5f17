-- Source productions and clauses side by side: both stand by rising key, so that where each production has its clauses, one
-- for each number of its result, and there is no other, their keys are the same, one for one.
use Rattle.std.specs.Prelude.{ℕ, Option, Some, None, ◌+◌, ◌*◌, ◌<◌, ◌≤◌, ◌≡◌, Bool, true, false, List, [], ◌++◌, map, length}
use Rattle.format_fields.specs.Lists.{all, concat_map, same_numbers}
use Rattle.format_fields.specs.Keyed.{rising_from, rising}
use Rattle.format_fields.specs.Inner.Places.{places_from, places, key_at, order_at}
use Rattle.format_language.specs.Language.{Entry, class, production, production_key}
use Rattle.format_language.specs.Inner.Entries.{entry_whole, entry_at}
use Rattle.format_translation.specs.Translation.{Body, numbers_of}
use Rattle.format_translation.specs.Inner.Items.{item_whole, item_at}

-- The items of a body from p on.
unfoldable pub items_from : List ℕ → ℕ → Body
items_from b p = map (item_at b) (places_from b p)

-- Their keys.
unfoldable pub orders_from : List ℕ → ℕ → List ℕ
orders_from b p = map (order_at 0x22 b) (places_from b p)

-- The keys of the clauses of a production of this key, one for each of the numbers.
unfoldable pub clause_keys : ℕ → List ℕ → List ℕ
clause_keys key numbers = map (λ j. key * 256 + j) numbers

-- The keys of the clauses that an entry asks for.
unfoldable pub wanted_keys : Body → Entry → List ℕ
wanted_keys b (class k c) = []
wanted_keys b (production r p arguments) = clause_keys (production_key r p) (numbers_of b r)

-- Those that the entries from q on ask for.
unfoldable pub wanted_from : List ℕ → ℕ → Body → List ℕ
wanted_from s q b = concat_map (λ x. wanted_keys b (entry_at s x)) (places_from s q)

-- They are the keys of the items of b from p on, one for one.
unfoldable pub keys_match : List ℕ → ℕ → List ℕ → ℕ → Bool
keys_match s q b p = same_numbers (wanted_from s q (items_from b 0)) (orders_from b p)

-- What the walk over both asks: whole entries and items by rising key, productions from q on.
pub record Sides (s : List ℕ) (q : ℕ) (b : List ℕ) (p : ℕ) : Type 0 where
  pub entries : all (entry_whole s) (places_from s q) ≡ true
  pub productions : rising_from (key_at 0x11 s) 32 (places_from s q) ≡ true
  pub items : all (item_whole b) (places b) ≡ true
  pub rises : rising (order_at 0x22 b) (places b) ≡ true
  pub clauses : all (item_whole b) (places_from b p) ≡ true
  pub inside : p ≤ length b

-- What the search for the clauses of a production asks: the mappings of its result are the first from m on.
pub record Asked (b : List ℕ) (m kind p : ℕ) : Type 0 where
  pub below : kind < 32
  pub mappings : all (item_whole b) (places_from b m) ≡ true
  pub rises : rising_from (order_at 0x22 b) (kind * 256) (places_from b m) ≡ true
  pub clauses : all (item_whole b) (places_from b p) ≡ true
  pub inside : p ≤ length b

-- From p on stand the clauses of the key, one for each number that the kind has in the items from m on, and they end at r;
-- there is no r where one is missing.
pub record Cleared (b : List ℕ) (m kind key p : ℕ) (r : Option ℕ) : Type 0 where
  pub missing : r ≡ None → (l : List ℕ) → same_numbers (clause_keys key (numbers_of (items_from b m) kind) ++ l) (orders_from b p) ≡ false
  pub there : (e : ℕ) → r ≡ Some e → (l : List ℕ)
      → same_numbers (clause_keys key (numbers_of (items_from b m) kind) ++ l) (orders_from b p) ≡ same_numbers l (orders_from b e)
  pub inside : (e : ℕ) → r ≡ Some e → e ≤ length b
  pub whole : (e : ℕ) → r ≡ Some e → all (item_whole b) (places_from b e) ≡ true
