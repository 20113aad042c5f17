-- The propositions of the report.
use Rattle.reduce_operators.specs.Operators.{language_union, language_without, translation_union, identity_of}
use Rattle.report.specs.Propositions.{PropositionB5, PropositionB7, PropositionB9, PropositionC8, LemmaC10, PropositionC11, PropositionC14, PropositionC16, PropositionC18, DefinitionB4, DefinitionB6, DefinitionC13, DefinitionC15, DefinitionC17}
use Rattle.report.proofs.Languages.{sum_formed, difference_formed, within_kinds, sum_one, difference_one, formed_proper, formed_rises, compatible_fit, union_is, without_is}
use Rattle.report.proofs.Transformation.{transforms_one, typed_transforms, substituted_has, transformed_has}
use Rattle.report.proofs.Sums.{sum_formed_x, sum_regular, sum_one_x, compatible_fit_x, union_is_x}
use Rattle.report.proofs.Compositions.{composition_formed, composition_regular, composition_one}
use Rattle.report.proofs.Composing.{composition}
use Rattle.report.proofs.Identities.{identity_formed, identity_regular, identity_one, identity_is}

pub proposition_b5 : PropositionB5
proposition_b5 l m s c wl wm d = sum_formed l m s c wl wm d

pub proposition_b7 : PropositionB7
proposition_b7 l m s w d = difference_formed l m s w d

pub proposition_b9 : PropositionB9
proposition_b9 l m w n x = within_kinds w x

pub proposition_c8 : PropositionC8
proposition_c8 f w ρ a n h = let b = typed_transforms f w h in (b.0, b.1, λ c x. transforms_one f w b.1 x)

pub lemma_c10 : LemmaC10
lemma_c10 l σ ρ θ a b n x h y = substituted_has h x y

pub proposition_c11 : PropositionC11
proposition_c11 f w ρ a b n t x m y = transformed_has f w x y m

pub proposition_c14 : PropositionC14
proposition_c14 f g h c wf wg d = (sum_formed_x f g h c wf wg d, sum_regular f g h c wf wg d)

pub proposition_c16 : PropositionC16
proposition_c16 f g h w wf wg d = (composition_formed f g h w wf wg d, composition_regular f g h w wf wg d)

pub proposition_c18 : PropositionC18
proposition_c18 l h w d = (identity_formed l h w d, identity_regular l h w d)

pub definition_b4 : DefinitionB4
definition_b4 l m c wl wm =
    let d = union_is l m (formed_rises l wl) (formed_rises m wm) (compatible_fit l m wl wm c) in
    (language_union l m, d, λ t x. sum_one l m (language_union l m) t d x)

pub definition_b6 : DefinitionB6
definition_b6 l m w =
    let d = without_is l m (formed_proper l w) in
    (language_without l m, d, λ t x. difference_one l m (language_without l m) t d x)

pub definition_c13 : DefinitionC13
definition_c13 f g c wf wg =
    let d = union_is_x f g wf wg (compatible_fit_x f g wf wg c) in
    (translation_union f g, d, λ k x. sum_one_x f g (translation_union f g) k d x)

pub definition_c15 : DefinitionC15
definition_c15 f g w wf wg =
    let h = composition f g w wf wg in
    (h.0, h.1, λ k x. composition_one f g h.0 k h.1 x)

pub definition_c17 : DefinitionC17
definition_c17 l w = let d = identity_is l w in (identity_of l, d, λ k x. identity_one l (identity_of l) k d x)
