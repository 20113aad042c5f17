-- Where long terms of an input end, kept for when it is asked again. Two numbers stand for each: 32 times the position where
-- the term starts plus its kind, and the position where it ends; 0 there stands for none.
use Rattle.std.specs.Prelude.{ℕ, ◌+◌, ◌*◌, ◌<◌, ◌≡◌, List, get_or}

-- It is kept that the term of kind k at `at` ends at e.
pub record Kept (ends : List ℕ) (k at e : ℕ) : Type 0 where
  pub slot : ℕ
  pub key : get_or ends (2 * slot) 0 ≡ at * 32 + k
  pub end : get_or ends (2 * slot + 1) 0 ≡ e
  pub some : 0 < e
  pub kind : k < 32
