use mathlib.Core.Path.{refl}
use Rattle.tree_reader.proofs.Members.{entries_whole}
use Rattle.check_wellformed.proofs.Marked.{table_is}
use Rattle.check_wellformed.proofs.Mappings.{fits_kinds, fits_items}
use Rattle.check_wellformed.proofs.mapping.mapping_fits.Goals as goal

pub mark_entries-requires : goal.mark_entries-requires
mark_entries-requires c = (entries_whole _ (_, c.requires.1.source), refl)

pub returns-then-not-kinds_mapped : goal.returns-then-not-kinds_mapped
returns-then-not-kinds_mapped c = λ f z. fits_kinds _ _ _ _ _ f z c.args.parts.now.source_bytes _ (table_is _ _ z.source c.mark_entries.ensures) _ c.kinds_mapped.ensures (c.if-not-kinds_mapped.true)

pub mark_entries-requires-2 : goal.mark_entries-requires-2
mark_entries-requires-2 c = (entries_whole _ (_, c.requires.1.target.entries), refl)

pub returns : goal.returns
returns c = λ f z. fits_items _ _ _ _ _ f z c.args.parts.now.source_bytes _ (table_is _ _ z.source c.mark_entries.ensures) _ (table_is _ _ z.target.entries c.mark_entries-2.ensures) _ c.kinds_mapped.ensures (c.if-not-kinds_mapped.false) _ c.mappings_fit.ensures
