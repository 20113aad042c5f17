use mathlib.Core.Path.{refl, ◌∙◌}
use Rattle.tree_reader.proofs.Members.{in_done, in_fits, in_stop, in_next, in_is, entries_whole}
use Rattle.tree_reader.proofs.kinds.is_in.Goals as goal

pub loop-p-init : goal.loop-p-init
loop-p-init c = (refl, entries_whole _ c.requires)

pub mentions_kind-requires : goal.mentions_kind-requires
mentions_kind-requires c = in_fits _ c.args.kind _ _ c.loop-p.invariant.0 c.loop-p.invariant.1 _ c.loop-p-test.true c.field_end-e.ensures.is

pub returns-then-mentions_kind : goal.returns-then-mentions_kind
returns-then-mentions_kind c = λ l e. in_stop _ _ _ _ c.loop-p.invariant.0 c.loop-p.invariant.1 _ c.loop-p-test.true c.field_end-e.ensures.is c.mentions_kind.ensures c.if-mentions_kind.true ∙ in_is _ _ l e

pub loop-p-preserved : goal.loop-p-preserved
loop-p-preserved c = in_next _ _ _ _ c.loop-p.invariant.0 c.loop-p.invariant.1 _ c.loop-p-test.true c.field_end-e.ensures.is c.mentions_kind.ensures c.if-mentions_kind.false

pub returns : goal.returns
returns c = λ l e. in_done _ _ _ _ c.loop-p.invariant.0 c.loop-p.invariant.1 c.loop-p-test.false ∙ in_is _ _ l e
