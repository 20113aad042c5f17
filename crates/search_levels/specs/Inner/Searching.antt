-- What the search asks for, of what is searched as one record.
use Rattle.std.specs.Prelude.{ℕ, List}
use Rattle.tree_reader.specs.Code.{Code, Codes}
use Rattle.format_translation.specs.Translation.{Translation}
use Rattle.search_sources.specs.Inner.Goals.{Goal}
use Rattle.search_levels.specs.declared.searched.Searched.{Searched}
use Rattle.search_levels.specs.Inner.Setting.{Seeks, SeeksAll}
use Rattle.search_levels.specs.Inner.Clauses.{ArgumentAsks, StepAsks, MatchAsks}

-- A source tree of a kind is sought for a goal, which stands at a position.
abbrev pub SeeksIn : Searched → (memory free : List ℕ) → (k at : ℕ) → Translation → Goal → Type 0
SeeksIn s memory free k at f g = Seeks s.table.now s.source.now s.target.now s.places.now s.kinds.now s.tree.now memory free k at f g

-- Operands of a production are sought.
abbrev pub SeeksAllIn : Searched → (memory free bound : List ℕ) → (place : ℕ) → Translation → List ℕ → (ℕ → Goal) → Type 0
SeeksAllIn s memory free bound place f ks b =
    SeeksAll s.table.now s.source.now s.target.now s.places.now s.kinds.now s.tree.now memory free bound place f ks b

-- A clause is matched, a step of it is made, and an argument comes in it.
abbrev pub MatchAsksIn : Searched → (memory bound : List ℕ) → (place clause at : ℕ) → Translation → (k p : ℕ) → List ℕ → Goal → Type 0
MatchAsksIn s memory bound place clause at f k p ks g =
    MatchAsks s.table.now s.target.now s.places.now s.kinds.now s.tree.now memory bound place clause at f k p ks g

abbrev pub StepAsksIn : Searched → (memory bound : List ℕ) → (place c stop to : ℕ) → Translation → (ks js : List ℕ) → (cs us : Codes) → (ℕ → Goal) → Type 0
StepAsksIn s memory bound place c stop to f ks js cs us b =
    StepAsks s.table.now s.target.now s.places.now s.kinds.now s.tree.now memory bound place c stop to f ks js cs us b

abbrev pub ArgumentAsksIn : Searched → (memory bound : List ℕ) → (kind to i : ℕ) → Translation → List ℕ → (ℕ → Goal) → Code → Type 0
ArgumentAsksIn s memory bound kind to i f ks b u = ArgumentAsks s.target.now s.places.now s.tree.now memory bound kind to i f ks b u
