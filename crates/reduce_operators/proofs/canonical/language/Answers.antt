use Rattle.format_language.proofs.Codec.{language_good}
use Rattle.reduce_operators.proofs.Accepted.{language_copied}
use Rattle.reduce_operators.proofs.Rewriting.{language_rewritten}
use Rattle.reduce_operators.specs.Inner.Canonical.{entry_bytes}
use Rattle.reduce_operators.proofs.canonical.language.Goals as goal

pub put_entries-requires-clause-entries : goal.put_entries-requires-clause-entries
put_entries-requires-clause-entries c = (_, (language_good _ _ c.requires.0.1).0)

pub put_entries-requires-clause-puts : goal.put_entries-requires-clause-puts
put_entries-requires-clause-puts c = (entry_bytes, record { stores = λ s p e n o o' r asks post. post })

pub returns : goal.returns
returns c = λ l e. language_copied _ _ c.put_entries.auto.out _ _ l _ (language_rewritten _ l (language_good _ l e).0) c.requires.1 (c.put_entries.ensures entry_bytes (record { stores = λ s p e n o o' r asks post. post })) c.limited.ensures
