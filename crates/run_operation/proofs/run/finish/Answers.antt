use Rattle.run_operation.proofs.Laws.{tree_more, tree_long, tree_fits}
use Rattle.run_operation.proofs.run.finish.Goals as goal

pub returns-then-figures-given : goal.returns-then-figures-given
returns-then-figures-given c = λ t f top z has over most w. tree_more z top _ _ has _ over w c.if-figures-given.true

pub returns-then-output-figures : goal.returns-then-output-figures
returns-then-output-figures c = λ t f top z has over most w. tree_long z top _ _ has _ over w c.if-figures-given.false c.if-output-figures.true

pub returns : goal.returns
returns c = λ t f top z has over most w. tree_fits z top _ _ has _ over w c.if-figures-given.false c.if-output-figures.false most c.reported.ensures (λ a y l. c.write_tree.ensures t f a z y l)
