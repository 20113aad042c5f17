-- What the lookup hands back (paper 02, 2026-06: "as a part of the lent tree, not a copy").
use Rattle.std.specs.Prelude.{ℕ, ◌+◌, ◌≤◌, ◌≡◌, List, length, take, drop, Ok, Err}
use Rattle.std.specs.Prelude.{Result as Answered}
use Rattle.std.specs.Borrow.{Bor}
use Rattle.outcome.specs.Outcome.{refused, number_of, length_of}
use Rattle.outcome.specs.declared.Reason.{Reason}
use Rattle.tree_block.specs.Operations.{Shown, shown}
use Rattle.tree_block.specs.declared.show.Placed.{Placed}
use Rattle.tree_block.specs.declared.show.Spot.{Spot}
use Rattle.tree_block.specs.declared.show.Part.{Part}

-- The slice r is the part of the slice s that starts so many bytes into it: it lies in the memory of s, and ends within s.
pub record PartOf (s : Bor (List ℕ)) (start : ℕ) (r : Bor (List ℕ)) : Type 0 where
  pub place : r.ref_ptr ≡ (s.ref_ptr.0, start + s.ref_ptr.1)
  pub inside : start + length r.now ≤ length s.now

-- A place says what is shown: outcome and kind, and from where to where in the tree its bytes stand.
pub record Places (d : Shown) (tree : List ℕ) (r : Placed) : Type 0 where
  pub outcome : r.outcome ≡ d.outcome
  pub start : r.start ≡ d.start
  pub stop : r.stop ≡ d.start + length d.bytes
  pub kind : r.kind ≡ d.kind
  pub inside : r.stop ≤ length tree
  pub bytes : take (length d.bytes) (drop d.start tree) ≡ d.bytes

-- A block that is shown lies here: from the start on so many bytes of the tree.
pub record LiesAt (d : Shown) (tree : List ℕ) (r : Spot) : Type 0 where
  pub outcome : d.outcome ≡ Ok r.size
  pub start : r.start ≡ d.start
  pub size : r.size ≡ length d.bytes
  pub kind : r.kind ≡ d.kind
  pub inside : r.start + r.size ≤ length tree
  pub bytes : take r.size (drop r.start tree) ≡ d.bytes

-- What is shown is found: the block, or the refusal.
abbrev pub Finds : Shown → List ℕ → Answered Spot Reason → Type 0
Finds d tree (Ok r) = LiesAt d tree r
Finds d tree (Err e) = d ≡ shown (refused e)

-- A block that is shown, as the part of the lent tree where it starts, and its kind.
pub record HandedAs (d : Shown) (tree : Bor (List ℕ)) (r : Part) : Type 0 where
  pub outcome : d.outcome ≡ Ok (length r.bytes.now)
  pub kind : r.kind ≡ d.kind
  pub bytes : r.bytes.now ≡ d.bytes
  pub part : PartOf tree d.start r.bytes

-- What is shown is handed back: the block, or the refusal.
abbrev pub Handed : Shown → Bor (List ℕ) → Answered Part Reason → Type 0
Handed d tree (Ok r) = HandedAs d tree r
Handed d tree (Err e) = d ≡ shown (refused e)

-- What is shown is told by numbers, for a caller to whom no slice can be handed: the so many bytes of the tree from the
-- start on are the block's.
pub record Told (d : Shown) (tree : List ℕ) (number start long kind : ℕ) : Type 0 where
  pub number_is : number ≡ number_of d.outcome
  pub start_is : start ≡ d.start
  pub long_is : long ≡ length_of d.outcome
  pub kind_is : kind ≡ d.kind
  pub inside : start + long ≤ length tree
  pub bytes : take long (drop start tree) ≡ d.bytes
