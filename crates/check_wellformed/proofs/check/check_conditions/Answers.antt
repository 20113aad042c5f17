use mathlib.Core.Path.{◌∙◌, refl}
use Rattle.check_wellformed.proofs.Formed.{formed_mapping, formed_clauses, formed_codes, formed_all}
use Rattle.check_wellformed.proofs.Matching.{source_long, body_long, sides, match_is, clauses_are, codes_are}
use Rattle.check_wellformed.proofs.check.check_conditions.Goals as goal

pub returns-then-not-mapping_fits : goal.returns-then-not-mapping_fits
returns-then-not-mapping_fits c = λ f z. (formed_mapping f _ (c.mapping_fits.ensures f z) (c.if-not-mapping_fits.true) refl, z.uses)

pub skip_below-q-requires : goal.skip_below-q-requires
skip_below-q-requires c = source_long _ _ _ _ _ _ c.requires.1 c.args.parts.now.source_bytes c.args.parts.now.body_bytes

pub skip_below-p-requires : goal.skip_below-p-requires
skip_below-p-requires c = body_long _ _ _ _ _ _ c.requires.1 c.args.parts.now.source_bytes c.args.parts.now.body_bytes

pub clauses_match-requires : goal.clauses_match-requires
clauses_match-requires c = sides _ _ _ _ _ _ c.requires.1 c.args.parts.now.source_bytes c.args.parts.now.body_bytes _ _ c.skip_below-q.ensures c.skip_below-p.ensures

pub returns-then-not-clauses_match : goal.returns-then-not-clauses_match
returns-then-not-clauses_match c = λ f z. (formed_clauses f _ (c.mapping_fits.ensures f z) (c.if-not-mapping_fits.false) _ (c.clauses_match.ensures ∙ match_is _ _ _ _ _ f z c.args.parts.now.source_bytes c.args.parts.now.body_bytes _ _ c.skip_below-q.ensures c.skip_below-p.ensures) (c.if-not-clauses_match.true) refl, z.uses)

pub codes_typed-requires : goal.codes_typed-requires
codes_typed-requires c = (clauses_are _ _ _ _ _ _ c.requires.1 c.args.parts.now.source_bytes c.args.parts.now.body_bytes _ _ c.skip_below-q.ensures c.skip_below-p.ensures, c.skip_below-q.ensures, c.skip_below-p.ensures, c.requires)

pub returns-then-not-codes_typed : goal.returns-then-not-codes_typed
returns-then-not-codes_typed c = λ f z. (formed_codes f _ (c.mapping_fits.ensures f z) (c.if-not-mapping_fits.false) _ (c.clauses_match.ensures ∙ match_is _ _ _ _ _ f z c.args.parts.now.source_bytes c.args.parts.now.body_bytes _ _ c.skip_below-q.ensures c.skip_below-p.ensures) (c.if-not-clauses_match.false) _ ((c.codes_typed.ensures f z).0 ∙ codes_are _ _ _ _ _ f z c.args.parts.now.source_bytes c.args.parts.now.body_bytes _ _ c.skip_below-q.ensures c.skip_below-p.ensures) (c.if-not-codes_typed.true) refl, (c.codes_typed.ensures f z).1.uses)

pub returns : goal.returns
returns c = λ f z. (formed_all f _ (c.mapping_fits.ensures f z) (c.if-not-mapping_fits.false) _ (c.clauses_match.ensures ∙ match_is _ _ _ _ _ f z c.args.parts.now.source_bytes c.args.parts.now.body_bytes _ _ c.skip_below-q.ensures c.skip_below-p.ensures) (c.if-not-clauses_match.false) _ ((c.codes_typed.ensures f z).0 ∙ codes_are _ _ _ _ _ f z c.args.parts.now.source_bytes c.args.parts.now.body_bytes _ _ c.skip_below-q.ensures c.skip_below-p.ensures) (c.if-not-codes_typed.false) refl, (c.codes_typed.ensures f z).1.uses)
