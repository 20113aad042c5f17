use Rattle.reduce_operation.proofs.Operation.{work_context, work_stands, work_says}
use Rattle.reduce_operation.proofs.reduce.work.Goals as goal

pub translation_term-requires : goal.translation_term-requires
translation_term-requires c = let d = c.requires.0 in (record { context = work_context c.args.pack.now c.args.workspace.now c.nothing.result d.0.pack d.1 c.nothing.ensures c.requires.1; stands = work_stands d.0.pack d.0.term _ (c.term_start-start.ensures.1 d.0.pack d.1) d.2 }, c.requires.2)

pub returns : goal.returns
returns c = (λ d z w. work_says d z w (c.term_start-start.ensures.1 d.pack z) c.nothing.ensures c.requires.1 c.translation_term.ensures, c.translation_term.ensures.kept.long)
