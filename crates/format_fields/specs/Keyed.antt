-- Lists of entries that rise strictly by a key: languages and bodies are both such lists, so what paper 01 says of
-- order, sums, "without" and lying within (its "Rules") is said here once for both (document 000: B.3, B.4, B.6, B.8).
use Rattle.std.specs.Prelude.{ℕ, suc, Bool, true, false, not, ◌&&◌, ◌||◌, List, [], ◌∷◌, ltb, leb, eqb}
use Rattle.format_fields.specs.Lists.{all, any, keep}

-- How two keys compare.
pub data Order : Type 0 where
  below same above : Order

-- From the two tests, whether the first is less and whether the second is.
abbrev pub ordered : Bool → Bool → Order
ordered true b = below
ordered false true = above
ordered false false = same

-- How the first number stands to the second.
abbrev pub order : ℕ → ℕ → Order
order m n = ordered (ltb m n) (ltb n m)

module _ {A : Type 0} (key : A → ℕ) where
  -- Each key is at least n, and above the one before it.
  unfoldable pub rising_from : ℕ → List A → Bool
  rising_from n [] = true
  rising_from n (a ∷ l) = leb n (key a) && rising_from (suc (key a)) l

  -- The keys rise strictly: in order, and none twice.
  unfoldable pub rising : List A → Bool
  rising l = rising_from 0 l

  -- a goes before b, in its place, or further on into what follows b.
  abbrev pub place : A → A → List A → List A → Order → List A
  place a b l further below = a ∷ b ∷ l
  place a b l further same = a ∷ l
  place a b l further above = b ∷ further

  -- An entry put where its key belongs.
  unfoldable pub insert : A → List A → List A
  insert a [] = a ∷ []
  insert a (b ∷ l) = place a b l (insert a l) (order (key a) (key b))

  -- The union of two lists by key.
  unfoldable pub union : List A → List A → List A
  union [] m = m
  union (a ∷ l) m = insert a (union l m)

module _ {A : Type 0} (alike : A → A → Bool) where
  -- The entry stands in the list.
  unfoldable pub holds : List A → A → Bool
  holds l a = any (alike a) l

  -- Every entry of the first list stands in the second.
  unfoldable pub within : List A → List A → Bool
  within l m = all (holds m) l

  -- The first list without the entries of the second.
  unfoldable pub without : List A → List A → List A
  without l m = keep (λ a. not (holds m a)) l

module _ {A : Type 0} (key : A → ℕ) (alike : A → A → Bool) where
  -- Entries of one key are the same entry.
  unfoldable pub agree : List A → List A → Bool
  agree l m = all (λ a. all (λ b. not (eqb (key a) (key b)) || alike a b) m) l
