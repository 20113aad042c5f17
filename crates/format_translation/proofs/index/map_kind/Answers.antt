use native.Mathlib.Omega.{arith}
use mathlib.Core.Path.{◌∙◌, ap}
use lib.ListN.{get_or}
use Prim.Native.Nat.{ℕ}
use Rattle.format_translation.proofs.IndexedItems.{kind_none, kind_there, kind_in}
use Rattle.format_translation.proofs.index.map_kind.Goals as goal

pub returns-then-place-eq0 : goal.returns-then-place-eq0
returns-then-place-eq0 c = (kind_none _ _ _ _ (c.place_at-place.ensures ∙ ap (λ (i : ℕ). get_or c.args.index.now i 0) c.from.ensures) c.if-place-eq0.true, omega arith)

pub overflow_add-result : goal.overflow_add-result
overflow_add-result c = let k = kind_in _ _ _ _ (c.place_at-place.ensures ∙ ap (λ (i : ℕ). get_or c.args.index.now i 0) c.from.ensures) c.requires.0 c.requires.1 c.if-place-eq0.false in omega (arith, k.0, c.requires.0.short)

pub bounds-body-place : goal.bounds-body-place
bounds-body-place c = (kind_in _ _ _ _ (c.place_at-place.ensures ∙ ap (λ (i : ℕ). get_or c.args.index.now i 0) c.from.ensures) c.requires.0 c.requires.1 c.if-place-eq0.false).0

pub returns : goal.returns
returns c = (kind_there _ _ _ _ (c.place_at-place.ensures ∙ ap (λ (i : ℕ). get_or c.args.index.now i 0) c.from.ensures) c.if-place-eq0.false, (kind_in _ _ _ _ (c.place_at-place.ensures ∙ ap (λ (i : ℕ). get_or c.args.index.now i 0) c.from.ensures) c.requires.0 c.requires.1 c.if-place-eq0.false).1)
