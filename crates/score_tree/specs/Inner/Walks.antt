-- What the walk that reads and scores a plan asks for and gives.
use Rattle.std.specs.Prelude.{ℕ, ◌≤◌, ◌≡◌, Bool, cond, ◌&&◌, List, length, drop, ℤ, Option, None, Some, Result, Ok, Err}
use Rattle.format_language.specs.Language.{Language}
use Rattle.tree_reader.specs.Syntax.{Read, done, deep, broken}
use Rattle.score_tree.specs.Figures.{is_score}
use Rattle.score_tree.specs.Linear.{Loads}
use Rattle.score_tree.specs.Inner.Terms.{World, ProductionAt}
use Rattle.score_tree.specs.Inner.Spreads.{Spread}
use Rattle.score_tree.specs.Inner.Sums.{ends, Near}
use Rattle.score_tree.specs.declared.figures.Ends.{Ends}
use Rattle.score_tree.specs.declared.loaded.Loaded.{Loaded}
use Rattle.score_tree.specs.declared.walk.Bounds.{Bounds}
use Rattle.tree_reader.specs.declared.node.ReadError.{ReadError}
use Rattle.tree_reader.specs.declared.node.ReadError.TheVariants.{Deep, Broken}

-- Ends, none where they are not in the range, and where their plan ends.
abbrev pub bounds : Bool → ℤ → ℤ → ℕ → Bounds
bounds within a z e = record { ends = cond within (Some (ends a z)) None; end = e }

-- What a finished score comes to.
unfoldable pub tested_at : ℤ → ℤ → ℕ → Bounds
tested_at a z e = bounds (is_score a && is_score z) a z e

-- What the walk gives for a plan that ends at e.
unfoldable pub bounds_of : Spread → ℕ → Bounds
bounds_of t e = bounds t.within t.least t.greatest e

-- What the walk says of what was read from the bytes b.
abbrev pub Says : List ℕ → Read Spread → Result Bounds ReadError → Type 0
Says b (done t s) r = (e : ℕ) × (e ≤ length b) × (drop e b ≡ s) × (r ≡ Ok (bounds_of t e))
Says b deep r = r ≡ Err Deep
Says b broken r = r ≡ Err Broken

-- Ends that are given are in the range of scores.
abbrev pub NearEnds : Option Ends → Type 0
NearEnds None = Unit {0}
NearEnds (Some e) = Near e

abbrev pub NearBounds : Result Bounds ReadError → Type 0
NearBounds (Ok r) = NearEnds r.ends
NearBounds (Err e) = Unit {0}

-- The field of production p of kind k, whose arguments are of the kinds ks, stands before `place` in the language; its operands
-- are read from `at` on.
pub record RowAsks (d : Loaded) (place : ℕ) (b : List ℕ) (at : ℕ) (l : Language) (w : Loads) (k p : ℕ) (ks : List ℕ) : Type 0 where
  pub world : World d.language.now d.index.now d.figures.now l w
  pub production : ProductionAt d.language.now d.figures.now place w k p ks
  pub inside : at ≤ length b
