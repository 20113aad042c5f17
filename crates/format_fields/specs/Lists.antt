-- Small words on lists and choices that the definitions share. Nothing here is of paper 01.
use Rattle.std.specs.Prelude.{ℕ, zero, suc, Bool, true, false, cond, ◌&&◌, ◌||◌, List, [], ◌∷◌, ◌++◌, eqb}
use Rattle.std.proofs.Math.Option.{Option, none, some}

-- There is a value.
abbrev pub is_some : {A : Type 0} → Option A → Bool
is_some none = false
is_some (some a) = true

-- Every element passes.
unfoldable pub all : {A : Type 0} → (A → Bool) → List A → Bool
all f [] = true
all f (a ∷ l) = f a && all f l

-- Some element passes.
unfoldable pub any : {A : Type 0} → (A → Bool) → List A → Bool
any f [] = false
any f (a ∷ l) = f a || any f l

-- The elements that pass.
unfoldable pub keep : {A : Type 0} → (A → Bool) → List A → List A
keep f [] = []
keep f (a ∷ l) = cond (f a) (a ∷ keep f l) (keep f l)

-- What comes first: the value at the earliest element that has one.
unfoldable pub first : {A B : Type 0} → (A → Option B) → List A → Option B
first f [] = none
first f (a ∷ l) = elim (f a) [ some b ↦ some b | none ↦ first f l ]

-- The lists of the elements, one after the other.
unfoldable pub concat_map : {A B : Type 0} → (A → List B) → List A → List B
concat_map f [] = []
concat_map f (a ∷ l) = f a ++ concat_map f l

-- An element in front of more, where both are there.
abbrev pub before : {A : Type 0} → Option A → Option (List A) → Option (List A)
before none l = none
before (some a) none = none
before (some a) (some l) = some (a ∷ l)

-- The values of all elements, or none where one has none.
unfoldable pub traverse : {A B : Type 0} → (A → Option B) → List A → Option (List B)
traverse f [] = some []
traverse f (a ∷ l) = before (f a) (traverse f l)

-- The numbers from n on, as many as the first argument says.
unfoldable pub count_up : ℕ → ℕ → List ℕ
count_up zero n = []
count_up (suc m) n = n ∷ count_up m (suc n)

-- Two lists of numbers are the same.
unfoldable pub same_numbers : List ℕ → List ℕ → Bool
same_numbers [] [] = true
same_numbers [] (b ∷ m) = false
same_numbers (a ∷ l) [] = false
same_numbers (a ∷ l) (b ∷ m) = eqb a b && same_numbers l m
