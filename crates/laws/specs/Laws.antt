-- Four more laws (paper 02, 2026-11), over every number of a translation (2026-13).
use Rattle.format_pack.specs.Terms.{Term, languages, translations, join, identity, without, sum}
use Rattle.laws.specs.Packed.{AcceptedToo, AcceptedAlike, EqualWhereAccepted, Compared}

-- If joining f after the sum of g and h is accepted, so is the sum of the two joins, with equal bytes.
abbrev pub LawOfJoinedSums : Type 0
LawOfJoinedSums = (f g h : Term translations) → Compared AcceptedToo (join f (sum g h)) (sum (join f g) (join f h))

-- If a join without a language is accepted, so is the join whose second operand had it removed, with equal bytes.
abbrev pub LawOfJoinsWithout : Type 0
LawOfJoinsWithout = (f g : Term translations) (l : Term languages) → Compared AcceptedToo (without (join f g) l) (join f (without g l))

-- The identity of a sum of languages and the sum of their identities are accepted together and equal.
abbrev pub LawOfIdentities : Type 0
LawOfIdentities = (l m : Term languages) → Compared AcceptedAlike (identity (sum l m)) (sum (identity l) (identity m))

-- Two groupings of three joins, where both are accepted, are equal.
abbrev pub LawOfGroupings : Type 0
LawOfGroupings = (f g h : Term translations) → Compared EqualWhereAccepted (join (join f g) h) (join f (join g h))
