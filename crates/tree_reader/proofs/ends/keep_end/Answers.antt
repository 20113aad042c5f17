use mathlib.Core.Logic.{inl}
use native.Mathlib.Omega.{arith}
use Rattle.tree_reader.proofs.Keeping.{kept_both}
use Rattle.tree_reader.proofs.ends.keep_end.Goals as goal

pub returns-then-end-at : goal.returns-then-end-at
returns-then-end-at c = λ k p e h. inl h

pub returns-then-ends-lt-SHORT_TABLE : goal.returns-then-ends-lt-SHORT_TABLE
returns-then-ends-lt-SHORT_TABLE c = λ k p e h. inl h

pub returns-then-end-gt-LAST_POSITION : goal.returns-then-end-gt-LAST_POSITION
returns-then-end-gt-LAST_POSITION c = λ k p e h. inl h

pub returns-then-length_at-end : goal.returns-then-length_at-end
returns-then-length_at-end c = kept_both _ _ _ _ _ _ _ _ c.requires.0 (omega (arith, c.first_place.ensures, c.shorter_place-place.ensures)) c.last_place-last.ensures c.put_end.ensures c.put_end-then-length_at-end.ensures

pub returns-else-length_at-end : goal.returns-else-length_at-end
returns-else-length_at-end c = λ k p e h. inl h
