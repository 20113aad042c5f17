use borrow.Author.Rules.{rules}
use native.Mathlib.Omega.{arith}
use mathlib.Core.Path.{◌∙◌}
use Rattle.format_fields.proofs.Places.{every_here}
use Rattle.check_wellformed.proofs.Marked.{entries_marked, entries_mark}
use Rattle.format_language.proofs.Facts.{entry_kind}
use Rattle.format_translation.proofs.Whole.{entries_on}
use Rattle.check_wellformed.proofs.kinds.mark_entries.Goals as goal

pub whole_end-e-requires : goal.whole_end-e-requires
whole_end-e-requires c = let k = entry_kind _ _ (every_here _ _ _ c.loop-p.invariant.1 c.loop-p-test.true).0 in omega (arith, k.0)

pub mark_entry-requires : goal.mark_entry-requires
mark_entry-requires c = ((every_here _ _ _ c.loop-p.invariant.1 c.loop-p-test.true).0, c.whole_end-e.ensures.is, c.loop-p.invariant.0 ∙ c.requires.1)

pub loop-p-preserved : goal.loop-p-preserved
loop-p-preserved c = (search rules, entries_on _ _ c.loop-p.invariant.1 _ c.whole_end-e.ensures.is c.loop-p-test.true, entries_mark _ _ _ _ c.loop-p.invariant.2 _ c.mark_entry.ensures _ c.whole_end-e.ensures.is c.loop-p-test.true)

pub returns : goal.returns
returns c = entries_marked _ _ _ _ c.loop-p.invariant.2 c.loop-p-test.false
