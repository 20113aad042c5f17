-- What is written for each entry of a language, in a walk over them.
use Rattle.std.specs.Prelude.{ℕ, ◌<◌, ◌≤◌, ◌≡◌, true, List, length, Option}
use Rattle.std.specs.Borrow.{Bor, MutBor}
use Rattle.format_fields.specs.Inner.Places.{EndsAt}
use Rattle.format_fields.specs.Inner.Writing.{Stores}
use Rattle.format_language.specs.Inner.Entries.{entry_whole}

-- There is an entry of s from p up to e, for which something is written from n on over the output o.
pub record EntryAsks (s : List ℕ) (p e : ℕ) (o : List ℕ) (n : ℕ) : Type 0 where
  pub whole : entry_whole s p ≡ true
  pub ends : EndsAt s p e
  pub here : p < length s
  pub room : n ≤ length o

-- A call for such an entry ends, by `post`, with the piece of the entry written.
pub record Puts (post : Bor (List ℕ) → ℕ → ℕ → MutBor (List ℕ) → ℕ → Option ℕ → MutBor (List ℕ) → Type 0) (piece : List ℕ → ℕ → List ℕ) : Type 0 where
  pub stores : (s : Bor (List ℕ)) (p e n : ℕ) (o o' : MutBor (List ℕ)) (r : Option ℕ) → EntryAsks s.now p e o.now n → post s p e o n r o' → Stores (piece s.now p) o.now o'.now n r
