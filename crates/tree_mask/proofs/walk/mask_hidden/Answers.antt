use native.Mathlib.Omega.{arith}
use Rattle.tree_mask.proofs.Masks.{at_hidden, not_behind}
use Rattle.tree_mask.proofs.Rows.{kind_small, row_short}
use Rattle.tree_mask.proofs.Walks.{advance, ended}
use borrow.Author.Rules.{rules}
use Rattle.tree_mask.proofs.walk.mask_hidden.Goals as goal

pub end_at-e-requires : goal.end_at-e-requires
end_at-e-requires c = record { sound = c.requires.0.sound; kind = kind_small c.args.language.now c.args.index.now c.args.tree.now c.args.row c.requires.0 c.requires.1 c.requires.2; inside = c.requires.0.inside }

pub returns-then-e-row : goal.returns-then-e-row
returns-then-e-row c = λ seen h. ended c.args.language.now c.args.index.now c.args.tree.now seen c.args.row c.requires.0 c.args.out.now c.requires.1 c.requires.2 c.ended.ensures c.args.out.now (not_behind c.args.language.now c.args.index.now c.args.tree.now seen _ c.args.row.tree c.args.out.now c.args.row.text c.args.row.levels (kind_small c.args.language.now c.args.index.now c.args.tree.now c.args.row c.requires.0 c.requires.1 c.requires.2) (λ i. omega (arith, c.type_inv.tree i)) c.end_at-e.ensures c.if-e-row.true)

pub overflow_add-row : goal.overflow_add-row
overflow_add-row c = let y = c.requires.0.inside in let z = c.requires.0.behind in search rules

pub behind-requires : goal.behind-requires
behind-requires c = row_short c.args.language.now c.args.index.now c.args.tree.now c.args.row c.requires.0 c.requires.1

pub returns : goal.returns
returns c = λ seen h. advance c.args.language.now c.args.index.now c.args.tree.now seen c.args.row c.requires.0 c.args.out.now c.requires.1 c.requires.2 _ _ c.behind.ensures _ (at_hidden c.args.language.now c.args.index.now c.args.tree.now seen _ c.args.row.tree c.args.out.now c.args.row.text c.args.row.levels h c.end_at-e.ensures c.put.ensures) c.end_at-e.ensures.inside (omega (arith, c.requires.0.behind, c.if-e-row.false))
