-- The four laws of paper 02, 2026-11, hold.
use mathlib.Core.Bool.{◌&&◌}
use Rattle.format_fields.proofs.Truth.{and_both, both_and}
use Rattle.format_pack.specs.Terms.{Term, languages, translations, join, identity, without, sum, scoped}
use Rattle.laws.specs.Laws.{LawOfJoinedSums, LawOfJoinsWithout, LawOfIdentities, LawOfGroupings}
use Rattle.laws.proofs.Comparing.{ScopedToo, accepted_too, accepted_alike, equal_where_accepted}
use Rattle.laws.proofs.JoinedSums.{joined_sum_lem}
use Rattle.laws.proofs.JoinsWithout.{joined_without}
use Rattle.laws.proofs.Identities.{identity_sum, sum_identity}
use Rattle.laws.proofs.Groupings.{regrouped}

-- Both sides of each law name the same constants and variables.
scoped_sum : (f g h : Term translations) → ScopedToo (join f (sum g h)) (sum (join f g) (join f h))
unfolding scoped
scoped_sum f g h l n s =
    let a = and_both (scoped l n f) (scoped l n g && scoped l n h) s in
    let b = and_both (scoped l n g) (scoped l n h) a.1 in
    both_and (scoped l n f && scoped l n g) (scoped l n f && scoped l n h)
    (both_and (scoped l n f) (scoped l n g) a.0 b.0) (both_and (scoped l n f) (scoped l n h) a.0 b.1)

scoped_without : (f g : Term translations) (m : Term languages) → ScopedToo (without (join f g) m) (join f (without g m))
unfolding scoped
scoped_without f g m l n s =
    let a = and_both (scoped l n f && scoped l n g) (scoped l n m) s in
    let b = and_both (scoped l n f) (scoped l n g) a.0 in
    both_and (scoped l n f) (scoped l n g && scoped l n m) b.0 (both_and (scoped l n g) (scoped l n m) b.1 a.1)

scoped_identity : (l m : Term languages) → ScopedToo (identity (sum l m)) (sum (identity l) (identity m))
unfolding scoped
scoped_identity l m a n s = s

scoped_identities : (l m : Term languages) → ScopedToo (sum (identity l) (identity m)) (identity (sum l m))
unfolding scoped
scoped_identities l m a n s = s

pub law_of_joined_sums : LawOfJoinedSums
law_of_joined_sums f g h =
    accepted_too (join f (sum g h)) (sum (join f g) (join f h)) (scoped_sum f g h) (λ c good v e. joined_sum_lem c good f g h v e)

pub law_of_joins_without : LawOfJoinsWithout
law_of_joins_without f g l =
    accepted_too (without (join f g) l) (join f (without g l)) (scoped_without f g l) (λ c good v e. joined_without c good f g l v e)

pub law_of_identities : LawOfIdentities
law_of_identities l m =
    accepted_alike (identity (sum l m)) (sum (identity l) (identity m)) (scoped_identity l m) (scoped_identities l m)
    (λ c good v e. identity_sum c good l m v e) (λ c good v e. sum_identity c good l m v e)

pub law_of_groupings : LawOfGroupings
law_of_groupings f g h =
    equal_where_accepted (join (join f g) h) (join f (join g h)) (λ c good u v p q. regrouped c good f g h u v p q)
