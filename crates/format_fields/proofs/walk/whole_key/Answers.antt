use mathlib.Core.Path.{refl}
use Rattle.format_fields.proofs.Keys.{key_first, key_second}
use borrow.Author.Rules.{rules}
use Rattle.format_fields.proofs.walk.whole_key.Goals as goal

pub returns-then-s-p : goal.returns-then-s-p
returns-then-s-p c = (key_first _ _ _ _ _ refl c.if-s-p.true c.from.ensures, search rules)

pub returns : goal.returns
returns c = (key_second _ _ _ _ _ refl c.if-s-p.false c.pair_in.ensures.0, search rules)
