use mathlib.Core.Path.{refl, ◌∙◌}
use borrow.Author.Rules.{rules}
use Rattle.std.proofs.lemmas.Iterator.{YieldsList-from_range}
use Rattle.std.proofs.lemmas.Iterator.Search.{all_from_yields_List}
use Rattle.check_wellformed.specs.Inner.Tests.{mapped_if}
use Rattle.check_wellformed.proofs.Mappings.{all_kinds}
use Rattle.check_wellformed.proofs.mapping.kinds_mapped.Goals as goal

pub returns : goal.returns
returns c = all_from_yields_List (mapped_if c.args.uses.now c.args.kinds.now) _ _ _ c.all.ensures.ran (YieldsList-from_range 0 32 32 refl refl) (λ x b q k. search rules) ∙ all_kinds (mapped_if c.args.uses.now c.args.kinds.now)
