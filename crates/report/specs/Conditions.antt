-- C.6 against the project's test of translations, condition by condition: which refusal of 01 is which condition of the report.
use Rattle.std.specs.Prelude.{ℕ, ◌<◌, ◌≡◌, ◌↔◌, true, false, List, [], ◌∷◌}
use Rattle.outcome.specs.Outcome.{value}
use Rattle.format_fields.specs.Keyed.{rising}
use Rattle.format_language.specs.Language.{class, production, range}
use Rattle.format_translation.specs.Translation.{Item, mapping, clause, Translation, item_key}
use Rattle.format_translation.specs.TranslationFile.{encode_translation, translation_of}
use Rattle.format_translation.specs.WellFormed.{mapping_fits, clauses_fit, codes_fit}
use Rattle.reduce_operators.specs.Limits.{code_is_deep}
use Rattle.report.specs.Sets.{◌∈◌}
use Rattle.report.specs.Languages.{WellFormedLanguage}
use Rattle.report.specs.WellFormed.{OneNumber, Maps, FromRegular, FromProduced, KeepsRanges, Covers, HasCodes, OneCode, WellFormed}

-- What the report's notation has of itself, and 01 refuses with 1 to 4: (i) both languages are well formed, the items are a set,
-- and codes are bytes. Numbers are 0 only.
pub record Noted (f : Translation) : Type 0 where
  pub one_number : OneNumber f.body
  pub in_order : rising item_key f.body ≡ true
  pub source : WellFormedLanguage f.source
  pub target : WellFormedLanguage f.target
  pub in_bytes : (n p : ℕ) (bytes : List ℕ) → clause n p 0 bytes ∈ f.body → (x : ℕ) → x ∈ bytes → x < 256

-- 5: the mapping is that of C.2, and (iii).
abbrev pub FiveIsMapping : Type 0
FiveIsMapping = (f : Translation) → Noted f → (mapping_fits f ≡ true) ↔ (Maps f × KeepsRanges f)

-- The first part of (v): a clause is that of a source production.
abbrev pub HasProductions : Translation → Type 0
HasProductions f = (n p : ℕ) (bytes : List ℕ) → clause n p 0 bytes ∈ f.body → (ks : List ℕ) × (production n p ks ∈ f.source)

-- 6, where 5 is not given: (iv), and the first part of (v).
abbrev pub SixIsClauses : Type 0
SixIsClauses = (f : Translation) → Noted f → mapping_fits f ≡ true → (clauses_fit f ≡ true) ↔ (Covers f × HasProductions f)

-- No code has more than 16 levels, which is 7 too by 01 and has no place in the report.
abbrev pub Shallow : Translation → Type 0
Shallow f = (a : Item) → a ∈ f.body → code_is_deep f a ≡ false

-- 7, where 5 and 6 are not given: (v).
abbrev pub SevenIsCodes : Type 0
SevenIsCodes = (f : Translation) → Noted f → Shallow f → mapping_fits f ≡ true → clauses_fit f ≡ true → (codes_fit f ≡ true) ↔ HasCodes f

-- (vi) holds of all that is in order.
abbrev pub OrderIsOneCode : Type 0
OrderIsOneCode = (f : Translation) → Noted f → OneCode f

-- (ii), second half, is in (iii).
abbrev pub RangesAreProduced : Type 0
RangesAreProduced = (f : Translation) → KeepsRanges f → FromProduced f

-- (ii), first half, is not asked for by 01: kind 1 has a production and maps to a class.
abbrev pub to_class : Translation
to_class = record {
  source = class 2 (range 0 9 1) ∷ production 1 1 (2 ∷ []) ∷ [];
  target = class 2 (range 0 9 1) ∷ [];
  body = mapping 1 0 2 ∷ mapping 2 0 2 ∷ clause 1 1 0 (0x03 ∷ 1 ∷ []) ∷ [];
}

-- It is accepted, and it is not as the report asks.
abbrev pub RegularNotAsked : Type 0
RegularNotAsked = (translation_of (encode_translation to_class) ≡ value to_class) × WellFormed to_class × (FromRegular to_class → ⊥)
