-- Sums of scores at an end, each times its factor.
use Rattle.std.specs.Prelude.{ℕ, ◌≤◌, cond, List, [], ◌∷◌, get_or, ℤ, pos, nat_abs, ◌+ℤ◌, ◌*ℤ◌}
use Rattle.std.specs.Int.Signed.{lt_z}
use Rattle.score_tree.specs.declared.figures.Ends.{Ends}

-- The end of an operand that stands behind an end of its production: a factor below 0 takes the other one.
unfoldable pub turned : ℤ → ℤ → ℤ → ℤ
turned factor same other = cond (lt_z factor (pos 0)) other same

-- The two ends of an operand.
abbrev pub ends : ℤ → ℤ → Ends
ends a z = record { least = a; greatest = z }

abbrev pub low : Ends → ℤ
low e = e.least

abbrev pub high : Ends → ℤ
high e = e.greatest

-- The scores of operands, each times its factor, from the last to the first: one end of each is `same`, the other is `other`.
unfoldable pub weighed : (Ends → ℤ) → (Ends → ℤ) → List ℤ → List Ends → ℤ
weighed same other [] t = pos 0
weighed same other (f ∷ factors) [] = pos 0
weighed same other (f ∷ factors) (e ∷ t) = f *ℤ turned f (same e) (other e) +ℤ weighed same other factors t

-- Ends that were tested.
pub record Near (e : Ends) : Type 0 where
  pub least : nat_abs e.least ≤ 1000000000
  pub greatest : nat_abs e.greatest ≤ 1000000000

-- All of them were.
unfoldable pub AllNear : List Ends → Type 0
AllNear l = (i : ℕ) → Near (get_or l i (ends (pos 0) (pos 0)))
