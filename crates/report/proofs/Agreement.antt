-- The project's definitions are the report's.
use Prim.Native.Nat.{ℕ}
use mathlib.Core.Path.{◌≡◌, refl, ap, subst, ◌∙◌}
use mathlib.Core.Logic.{◌↔◌}
use mathlib.Core.List.{List}
use Rattle.outcome.specs.Outcome.{value}
use Rattle.format_fields.proofs.Codec.{step_value, value_inj}
use Rattle.format_language.specs.Language.{Language}
use Rattle.format_language.proofs.Codec.{language_back}
use Rattle.format_translation.specs.Translation.{Translation}
use Rattle.format_translation.specs.Running.{transform}
use Rattle.format_translation.specs.TranslationFile.{encode_translation}
use Rattle.format_pack.specs.Terms.{languages, translations, Term, source_of, join, identity, without}
use Rattle.format_pack.specs.Pack.{Pack, pack_of}
use Rattle.reduce_operators.specs.Operators.{identity_of, translation_without}
use Rattle.reduce_operators.proofs.Proper.{good_back}
use Rattle.reduce_signs.specs.Evaluation.{Constants, constants_of, nothing_bound, evaluate}
use Rattle.reduce_terms.proofs.Evaluated.{fair_good}
use Rattle.reduce_operation.specs.Operations.{Ready, ready, work, reduce_bytes}
use Rattle.reduce_operation.proofs.Operation.{ready_value}
use Rattle.report.specs.Languages.{LiesWithin}
use Rattle.report.specs.Translations.{IsIdentity}
use Rattle.report.specs.Reduction.{EnvironmentOf, empty, src_l, ReducesX, res_x, comp_x, idx_x}
use Rattle.report.specs.Agreement.{InBytes, AcceptedLanguage, LanguageAccepted, AcceptedTranslation, TranslationAccepted, LegalIsTyped, CodeIsTyped, TransformationIsRun, OneValue, BoundFormed, ValuesFormed, OneNumberPack, Reduced, ReduceIsFigure, FigureIsReduce, WithoutIsComposition, WithoutIsTerm}
use Rattle.report.proofs.Sets.{mem_bytes}
use Rattle.report.proofs.Typing.{code_has, code_typed, typed_legal, legal_typed}
use Rattle.report.proofs.Languages.{within_larger, formed_proper, formed_rises}
use Rattle.report.proofs.WellFormed.{mapped_number, body_rises, formed_sound, formed_tests}
use Rattle.report.proofs.Identities.{identity_formed, identity_is}
use Rattle.report.proofs.Differences.{without_is_x}
use Rattle.report.proofs.Restriction.{restriction}
use Rattle.report.proofs.Runs.{transforms_run}
use Rattle.report.proofs.Values.{value_l, value_x}
use Rattle.report.proofs.Functional.{Inverted, inverted_l, inverted_x, reduces_one}
use Rattle.report.proofs.Reduction.{shallow, ConstantsFit, evaluate_reduces}
use Rattle.report.proofs.Files.{held_language, accepted, accepted_formed, pack_constants}

pub accepted_language : AcceptedLanguage
accepted_language file l b e = held_language file l (mem_bytes file b) e

pub language_accepted : LanguageAccepted
language_accepted l w s = language_back l (fair_good languages l (formed_proper l w) s)

pub accepted_translation : AcceptedTranslation
accepted_translation file f b e one = accepted_formed f (accepted file f (mem_bytes file b) e) one

pub translation_accepted : TranslationAccepted
translation_accepted f w s = (formed_tests f w (shallow f s), good_back f (fair_good translations f (formed_sound f w (shallow f s)) s))

pub legal_is_typed : LegalIsTyped
legal_is_typed l w a n = (λ x. legal_typed (formed_rises l w) x, λ x. typed_legal x)

pub code_is_typed : CodeIsTyped
code_is_typed f w ks a t = (λ x. code_typed (formed_rises f.target w.target) f.body (body_rises f w) ks x, λ x. code_has f.body (mapped_number f.body w.one_number) ks x)

pub transformation_is_run : TransformationIsRun
unfolding transform
transformation_is_run file f i e one a n x b =
    let h = accepted file f (mem_bytes file i) e in
    transforms_run f (accepted_formed f h one) h.fits x b

pub one_value : OneValue
one_value c α β = (λ t l m x y. reduces_one c α β t l m x y, λ t f g x y. reduces_one c α β t f g x y)

pub values_formed : ValuesFormed
values_formed c α β b = (λ t l x. value_l b.languages b.translations x, λ t f x. value_x b.languages b.translations x)

-- The constants of a pack that is ready.
ready_constants : (pack : List ℕ) (workspace output : ℕ) → InBytes pack → ((p : Pack) → pack_of pack ≡ value p → OneNumberPack p) → (r : Ready) → ready pack workspace output ≡ value r
    → ConstantsFit (constants_of r.pack)
ready_constants pack workspace output b one r e =
    let p = (ready_value pack workspace output r e).0 in
    pack_constants pack r.pack (mem_bytes pack b) p (one r.pack p)

-- Working out what is ready.
work_reduced : (r : Ready) → ConstantsFit (constants_of r.pack) → (bytes : List ℕ) → (work r ≡ value bytes) ↔ Reduced r bytes
unfolding work
work_reduced r k bytes =
    let c = constants_of r.pack in (
      λ q.
          let s = step_value (evaluate c nothing_bound r.term) (λ f. value (encode_translation f)) q in
          let d = (evaluate_reduces c k r.term s.0).0 s.1 in
          record { result = s.0; reduces = d.0; within = d.1; written = value_inj s.2 },
      λ d.
          let s = (evaluate_reduces c k r.term d.result).1 (d.reduces, d.within) in
          rw (s, d.written),
    )

pub reduce_is_figure : ReduceIsFigure
unfolding reduce_bytes
reduce_is_figure pack workspace output b one bytes = (
  λ q.
      let s = step_value (ready pack workspace output) work q in
      (s.0, s.1, (work_reduced s.0 (ready_constants pack workspace output b one s.0 s.1) bytes).0 s.2),
  λ q. rw q.1 ((work_reduced q.0 (ready_constants pack workspace output b one q.0 q.1) bytes).1 q.2),
)

pub figure_is_reduce : FigureIsReduce
unfolding reduce_bytes
figure_is_reduce pack workspace output b one bytes q r e f d =
    let s = (work_reduced r (ready_constants pack workspace output b one r e) bytes).0 (rw e at q) in
    ap encode_translation (reduces_one (constants_of r.pack) empty empty r.term f s.result d s.reduces) ∙ s.written

pub without_is_composition : WithoutIsComposition
without_is_composition f w l i j h x y = restriction f w l i j x y h

module _ (c : Constants) (α : EnvironmentOf Language) (β : EnvironmentOf Translation) (b : BoundFormed α β) (x : Term translations) (y : Term languages) (h : Translation) where
  abbrev spelt : Term translations
  spelt = join x (without (identity (source_of x)) y)

  -- The target of the identity without a language is the source.
  itself_lies : (f : Translation) (l : Language) → LiesWithin (translation_without (identity_of f.source) l).target f.source
  unfolding translation_without identity_of
  itself_lies f l = within_larger (λ a m. m)

  less_spelt : ReducesX c α β (without x y) h → ReducesX c α β spelt h
  unfolding Inverted
  less_spelt z =
      let a = inverted_x z in
      let f = a.0 in
      let w = value_x b.languages b.translations a.2 in
      let i = identity_of f.source in
      let ii = identity_is f.source w.source in
      let dd = without_is_x i a.1 (identity_formed f.source i w.source ii) in
      comp_x a.2 (res_x (idx_x (src_l a.2 refl) ii) a.3 dd) (itself_lies f a.1)
      ((restriction f w a.1 i (translation_without i a.1) ii dd h).0 a.4)

  spelt_less : ReducesX c α β spelt h → ReducesX c α β (without x y) h
  unfolding Inverted
  spelt_less z =
      let a = inverted_x z in
      let d = inverted_x a.3 in
      let i = inverted_x d.2 in
      let s = inverted_l i.1 in
      let f = a.0 in
      let w = value_x b.languages b.translations a.2 in
      let g : i.0 ≡ f.source = s.2 ∙ ap (λ (t : Translation). t.source) (reduces_one c α β x s.0 f s.1 a.2) in
      let ii : IsIdentity f.source d.0 = subst (λ (l : Language). IsIdentity l d.0) g i.2 in
      res_x a.2 d.3 ((restriction f w d.1 d.0 a.1 ii d.4 h).1 a.4)

pub without_is_term : WithoutIsTerm
without_is_term c α β b x y h = (less_spelt c α β b x y h, spelt_less c α β b x y h)
