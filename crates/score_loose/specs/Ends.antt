-- The least and the greatest score of a loose plan (paper 02, 2026-14).
use Rattle.std.specs.Prelude.{ℕ, suc, Bool, true, cond, ◌&&◌, ℤ, pos, ◌+ℤ◌, ◌*ℤ◌}
use Rattle.std.specs.Int.Signed.{lt_z}
use Rattle.score_tree.specs.Figures.{is_score}
use Rattle.score_tree.specs.Linear.{Loads}
use Rattle.score_loose.specs.Plans.{Loose, node, token, Looses, nil, cons}

-- The low end is the least score, the high end the greatest.
pub data End : Type 0 where
  low high : End

abbrev pub other_end : End → End
other_end low = high
other_end high = low

-- The end of an operand that stands behind an end of its production: a factor below 0 takes the other one.
unfoldable pub end_by : ℤ → End → End
end_by factor e = cond (lt_z factor (pos 0)) (other_end e) e

-- The value of a token at an end.
abbrev pub value_at : End → ℕ → ℕ → ℕ
value_at low a b = a
value_at high a b = b

-- The score at an end. A token scores its value there; a production its constant plus each factor times an end of that operand,
-- added from the last operand to the first.
unfoldable mutual
  pub end : End → Loads → Loose → ℤ
  end e w (node k p t) = w k p 0 +ℤ end_all e w (λ i. w k p (suc i)) t
  end e w (token a b) = pos (value_at e a b)

  pub end_all : End → Loads → (ℕ → ℤ) → Looses → ℤ
  end_all e w factor nil = pos 0
  end_all e w factor (cons a t) = factor 0 *ℤ end (end_by (factor 0) e) w a +ℤ end_all e w (λ i. factor (suc i)) t

-- Both ends of every production are in the range of scores; only finished scores are tested.
unfoldable mutual
  pub both_within : Loads → Loose → Bool
  both_within w (node k p t) = all_within w t && (is_score (end low w (node k p t)) && is_score (end high w (node k p t)))
  both_within w (token a b) = true

  pub all_within : Loads → Looses → Bool
  all_within w nil = true
  all_within w (cons a t) = both_within w a && all_within w t
