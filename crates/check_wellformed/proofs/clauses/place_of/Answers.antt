use Rattle.check_wellformed.proofs.Along.{place_end, place_long, place_here, place_other}
use Rattle.check_wellformed.proofs.clauses.place_of.Goals as goal

pub returns-then-s-q : goal.returns-then-s-q
returns-then-s-q c = place_end _ c.requires.0 _ _ c.requires.1 c.requires.2 c.if-s-q.true

pub whole_key-requires : goal.whole_key-requires
whole_key-requires c = place_long _ c.requires.0 _ _ c.requires.1 c.requires.2 c.if-s-q.false

pub returns-then-whole_key-key : goal.returns-then-whole_key-key
returns-then-whole_key-key c = place_other _ c.requires.0 _ _ c.requires.1 c.requires.2 c.if-s-q.false _ c.whole_key.ensures.0 c.if-whole_key-key.true

pub returns : goal.returns
returns c = place_here _ c.requires.0 _ _ c.requires.1 c.requires.2 c.if-s-q.false _ c.whole_key.ensures.0 c.if-whole_key-key.false
