use mathlib.Core.Path.{sym, ◌∙◌}
use native.Mathlib.Omega.{arith}
use Rattle.run_emit.proofs.Rows.{term_below, term_room, term_low, term_leaf, term_asks, term_gives}
use Rattle.run_emit.proofs.run.run.Goals as goal

pub is_leaf-is_whole-requires : goal.is_leaf-is_whole-requires
is_leaf-is_whole-requires c = term_below c.requires.1.3

pub put_argument-requires : goal.put_argument-requires
put_argument-requires c = (tt, (term_room c.requires.1.3 (sym c.is_leaf-is_whole.ensures ∙ c.if-is_whole.true), term_low c.requires.1.3 (sym c.is_leaf-is_whole.ensures ∙ c.if-is_whole.true)), omega arith, c.requires.0)

pub returns-then-is_whole : goal.returns-then-is_whole
returns-then-is_whole c = λ f given u a. term_leaf a (sym c.is_leaf-is_whole.ensures ∙ c.if-is_whole.true) c.put_argument.ensures.0

pub run_node-requires : goal.run_node-requires
run_node-requires c = (c.requires.0, omega arith, tt, (c.requires.1.0, c.requires.1.1, c.requires.1.2, term_asks c.requires.1.3 (sym c.is_leaf-is_whole.ensures ∙ c.if-is_whole.false)))

pub returns : goal.returns
returns c = λ f given u a. term_gives a (c.run_node.ensures f given u (term_asks a (sym c.is_leaf-is_whole.ensures ∙ c.if-is_whole.false))).0
