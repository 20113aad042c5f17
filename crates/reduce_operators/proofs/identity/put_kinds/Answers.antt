use mathlib.Core.Path.{refl}
use Rattle.tree_reader.proofs.Members.{entries_whole}
use Rattle.check_wellformed.proofs.Marked.{table_is}
use borrow.Author.Rules.{rules}
use Rattle.reduce_operators.proofs.identity.put_kinds.Goals as goal

pub mark_entries-requires : goal.mark_entries-requires
mark_entries-requires c = (entries_whole _ (c.requires.0, c.requires.1), refl)

pub put_marked-requires : goal.put_marked-requires
put_marked-requires c = (search rules, (c.requires.0, table_is _ _ c.requires.1 c.mark_entries.ensures))

pub returns : goal.returns
returns c = λ l e. c.put_marked.ensures l (table_is _ _ e c.mark_entries.ensures)
