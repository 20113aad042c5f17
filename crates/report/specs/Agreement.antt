-- What is proved of the project's definitions by the report's rules. A translation has number 0 only, since the report has one
-- mapping a kind; files are lists of bytes, each below 256.
use Rattle.std.specs.Prelude.{ℕ, ◌<◌, ◌≡◌, ◌↔◌, List, [], map}
use Rattle.std.proofs.Math.Option.{some}
use Rattle.outcome.specs.Outcome.{value}
use Rattle.format_language.specs.Language.{Language}
use Rattle.format_language.specs.LanguageFile.{encode_language, language_of}
use Rattle.tree_reader.specs.Code.{Code}
use Rattle.tree_reader.specs.Typing.{Typed}
use Rattle.format_translation.specs.Translation.{Body, Translation, mapping_of}
use Rattle.format_translation.specs.Running.{transform}
use Rattle.format_translation.specs.TranslationFile.{encode_translation, translation_of}
use Rattle.format_translation.specs.WellFormed.{well_formed}
use Rattle.format_pack.specs.Terms.{languages, translations, Term, source_of, join, identity, without}
use Rattle.format_pack.specs.Pack.{Pack, pack_of}
use Rattle.reduce_signs.specs.Evaluation.{Constants, constants_of}
use Rattle.reduce_operation.specs.Operations.{Ready, ready, reduce_bytes}
use Rattle.report.specs.Sets.{◌∈◌}
use Rattle.report.specs.Languages.{WellFormedLanguage}
use Rattle.report.specs.Typing.{HasKind, Mapped, Legal}
use Rattle.report.specs.Transformation.{Transforms}
use Rattle.report.specs.WellFormed.{OneNumber, WellFormed}
use Rattle.report.specs.Translations.{IsDifferenceX, IsComposition, IsIdentity}
use Rattle.report.specs.Reduction.{EnvironmentOf, empty, ReducesL, ReducesX}
use Rattle.report.specs.Limits.{SmallL, SmallX, WithinX}

-- A file is a list of bytes.
abbrev pub InBytes : List ℕ → Type 0
InBytes s = (x : ℕ) → x ∈ s → x < 256

-- B.2: a language that is accepted is well formed.
abbrev pub AcceptedLanguage : Type 0
AcceptedLanguage = (file : List ℕ) (l : Language) → InBytes file → language_of file ≡ value l → WellFormedLanguage l

-- B.2: a well-formed language of at most 1,024 bytes is accepted.
abbrev pub LanguageAccepted : Type 0
LanguageAccepted = (l : Language) → WellFormedLanguage l → SmallL l → language_of (encode_language l) ≡ value l

-- C.6: a translation that is accepted is well formed. (By conditions: `Conditions`.)
abbrev pub AcceptedTranslation : Type 0
AcceptedTranslation = (file : List ℕ) (f : Translation) → InBytes file → translation_of file ≡ value f → OneNumber f.body → WellFormed f

-- C.6: a well-formed translation within the limits is accepted.
abbrev pub TranslationAccepted : Type 0
TranslationAccepted = (f : Translation) → WellFormed f → SmallX f → (well_formed f ≡ value f) × (translation_of (encode_translation f) ≡ value f)

-- C.5: the typing of trees is the project's.
abbrev pub LegalIsTyped : Type 0
LegalIsTyped = (l : Language) → WellFormedLanguage l → (a : Code) (n : ℕ) → Legal l a n ↔ Typed l [] a n

-- C.5: the typing of the codes of clauses is the project's.
abbrev pub CodeIsTyped : Type 0
CodeIsTyped =
    (f : Translation) → WellFormed f → (ks : List ℕ) (a : Code) (t : ℕ)
    → HasKind f.target (Mapped f.body ks) a t ↔ Typed f.target (map (mapping_of f.body) ks) a t

-- C.9: a legal tree is transformed to its run, and to nothing else.
abbrev pub TransformationIsRun : Type 0
TransformationIsRun =
    (file : List ℕ) (f : Translation) → InBytes file → translation_of file ≡ value f → OneNumber f.body
    → (a : Code) (n : ℕ) → Legal f.source a n → (b : Code) → Transforms f a b ↔ (b ≡ transform f 0 a)

-- Figure A.1 gives a term one value at most, in any environments.
abbrev pub OneValue : Type 0
OneValue =
    (c : Constants) (α : EnvironmentOf Language) (β : EnvironmentOf Translation)
    → ((t : Term languages) (l m : Language) → ReducesL c α β t l → ReducesL c α β t m → l ≡ m)
    × ((t : Term translations) (f g : Translation) → ReducesX c α β t f → ReducesX c α β t g → f ≡ g)

-- All that is bound is well formed.
pub record BoundFormed (α : EnvironmentOf Language) (β : EnvironmentOf Translation) : Type 0 where
  pub languages : (v : ℕ) (l : Language) → α v ≡ some l → WellFormedLanguage l
  pub translations : (w : ℕ) (f : Translation) → β w ≡ some f → WellFormed f

-- What figure A.1 reduces a term to is well formed.
abbrev pub ValuesFormed : Type 0
ValuesFormed =
    (c : Constants) (α : EnvironmentOf Language) (β : EnvironmentOf Translation) → BoundFormed α β
    → ((t : Term languages) (l : Language) → ReducesL c α β t l → WellFormedLanguage l)
    × ((t : Term translations) (f : Translation) → ReducesX c α β t f → WellFormed f)

-- All bodies of a pack have number 0 only.
abbrev pub OneNumberPack : Pack → Type 0
OneNumberPack p = (b : Body) → b ∈ p.bodies → OneNumber b

-- Figure A.1 reduces the pack's term to f over values within the limits, and the bytes are those of f.
pub record Reduced (r : Ready) (bytes : List ℕ) : Type 0 where
  pub result : Translation
  pub reduces : ReducesX (constants_of r.pack) empty empty r.term result
  pub within : WithinX reduces
  pub written : encode_translation result ≡ bytes

-- Reduce puts out bytes exactly if the pack and its term are ready (not 1 to 4, 8 or 9) and figure A.1 reduces the term to the
-- translation that they are, with every value on the way within the limits.
abbrev pub ReduceIsFigure : Type 0
ReduceIsFigure =
    (pack : List ℕ) (workspace output : ℕ) → InBytes pack → ((p : Pack) → pack_of pack ≡ value p → OneNumberPack p)
    → (bytes : List ℕ) → (reduce_bytes pack workspace output ≡ value bytes) ↔ ((r : Ready) × (ready pack workspace output ≡ value r) × Reduced r bytes)

-- Where reduce puts out bytes, whatever figure A.1 reduces the term to, within the limits or not, is what they are.
abbrev pub FigureIsReduce : Type 0
FigureIsReduce =
    (pack : List ℕ) (workspace output : ℕ) → InBytes pack → ((p : Pack) → pack_of pack ≡ value p → OneNumberPack p)
    → (bytes : List ℕ) → reduce_bytes pack workspace output ≡ value bytes → (r : Ready) → ready pack workspace output ≡ value r
    → (f : Translation) → ReducesX (constants_of r.pack) empty empty r.term f → encode_translation f ≡ bytes

-- Appendix A, [RES]: X \ L is X ∘ (idx(src(X)) \ L), of translations.
abbrev pub WithoutIsComposition : Type 0
WithoutIsComposition =
    (f : Translation) → WellFormed f → (l : Language) (i j h : Translation) → IsIdentity f.source i → IsDifferenceX i l j
    → IsDifferenceX f l h ↔ IsComposition f j h

-- Appendix A, [RES]: the same of terms, which reduce alike.
abbrev pub WithoutIsTerm : Type 0
WithoutIsTerm =
    (c : Constants) (α : EnvironmentOf Language) (β : EnvironmentOf Translation) → BoundFormed α β
    → (x : Term translations) (y : Term languages) (h : Translation)
    → ReducesX c α β (without x y) h ↔ ReducesX c α β (join x (without (identity (source_of x)) y)) h
