-- The numbered propositions of document 000, appendices B and C, each under its number, over any languages and translations. Those
-- on C.6 hold as 01 asks for it, and with the first half of (ii) too.
use Rattle.std.specs.Prelude.{ℕ, ◌≡◌}
use Rattle.format_language.specs.Language.{Language}
use Rattle.tree_reader.specs.Code.{Code}
use Rattle.format_translation.specs.Translation.{mapping, Translation}
use Rattle.report.specs.Sets.{◌∈◌}
use Rattle.report.specs.Languages.{Nonterminal, WellFormedLanguage, Compatible, IsSum, IsDifference, LiesWithin}
use Rattle.report.specs.Typing.{Gaps, HasKind, Through}
use Rattle.report.specs.Transformation.{Fillings, Substitutes, Transforms}
use Rattle.report.specs.WellFormed.{FromRegular, WellFormed}
use Rattle.report.specs.Translations.{CompatibleX, IsSumX, IsComposition, IsIdentity}

-- B.5: addition preserves well-formedness.
abbrev pub PropositionB5 : Type 0
PropositionB5 = (l m s : Language) → Compatible l m → WellFormedLanguage l → WellFormedLanguage m → IsSum l m s → WellFormedLanguage s

-- B.7: subtraction preserves well-formedness. The condition l ∼ m of the report is not needed.
abbrev pub PropositionB7 : Type 0
PropositionB7 = (l m s : Language) → WellFormedLanguage l → IsDifference l m s → WellFormedLanguage s

-- B.9: inclusion is inclusion of nonterminals too.
abbrev pub PropositionB9 : Type 0
PropositionB9 = (l m : Language) → LiesWithin l m → (n : ℕ) → Nonterminal l n → Nonterminal m n

-- C.8: the transformation relation is a function, which is defined wherever a code can be typed.
abbrev pub PropositionC8 : Type 1
PropositionC8 =
    (f : Translation) → WellFormed f → (ρ : Gaps) (a : Code) (n : ℕ) → HasKind f.source ρ a n
    → (b : Code) × Transforms f a b × ((c : Code) → Transforms f a c → b ≡ c)

-- C.10: typing of the substitute relation.
abbrev pub LemmaC10 : Type 1
LemmaC10 =
    (l : Language) (σ ρ : Gaps) (θ : Fillings) (a b : Code) (n : ℕ)
    → HasKind l σ a n → ((i k : ℕ) (c : Code) → σ i k → θ i c → HasKind l ρ c k) → Substitutes θ a b → HasKind l ρ b n

-- C.11: typing of a transformed reconstructor.
abbrev pub PropositionC11 : Type 1
PropositionC11 =
    (f : Translation) → WellFormed f → (ρ : Gaps) (a b : Code) (n t : ℕ)
    → HasKind f.source ρ a n → mapping n 0 t ∈ f.body → Transforms f a b → HasKind f.target (Through f.body ρ) b t

-- C.14: addition preserves well-formedness.
abbrev pub PropositionC14 : Type 0
PropositionC14 =
    (f g h : Translation) → CompatibleX f g → WellFormed f → WellFormed g → IsSumX f g h
    → WellFormed h × (FromRegular f → FromRegular g → FromRegular h)

-- C.16: composition preserves well-formedness.
abbrev pub PropositionC16 : Type 0
PropositionC16 =
    (f g h : Translation) → LiesWithin g.target f.source → WellFormed f → WellFormed g → IsComposition f g h
    → WellFormed h × (FromRegular f → FromRegular g → FromRegular h)

-- C.18: the identity of a well-formed grammar is well formed.
abbrev pub PropositionC18 : Type 0
PropositionC18 = (l : Language) (h : Translation) → WellFormedLanguage l → IsIdentity l h → WellFormed h × FromRegular h

-- B.4 defines something: there is such a language, and one only.
abbrev pub DefinitionB4 : Type 0
DefinitionB4 = (l m : Language) → Compatible l m → WellFormedLanguage l → WellFormedLanguage m → (s : Language) × IsSum l m s × ((t : Language) → IsSum l m t → s ≡ t)

-- B.6 does, whatever is taken away.
abbrev pub DefinitionB6 : Type 0
DefinitionB6 = (l m : Language) → WellFormedLanguage l → (s : Language) × IsDifference l m s × ((t : Language) → IsDifference l m t → s ≡ t)

-- C.13 does, where the two are compatible.
abbrev pub DefinitionC13 : Type 0
DefinitionC13 = (f g : Translation) → CompatibleX f g → WellFormed f → WellFormed g → (h : Translation) × IsSumX f g h × ((k : Translation) → IsSumX f g k → h ≡ k)

-- C.15 does, where the target of the second lies within the source of the first.
abbrev pub DefinitionC15 : Type 0
DefinitionC15 =
    (f g : Translation) → LiesWithin g.target f.source → WellFormed f → WellFormed g
    → (h : Translation) × IsComposition f g h × ((k : Translation) → IsComposition f g k → h ≡ k)

-- C.17 does.
abbrev pub DefinitionC17 : Type 0
DefinitionC17 = (l : Language) → WellFormedLanguage l → (h : Translation) × IsIdentity l h × ((k : Translation) → IsIdentity l k → h ≡ k)
