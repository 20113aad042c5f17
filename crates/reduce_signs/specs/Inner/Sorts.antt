-- What stands once for both sorts of terms: the bytes of a value, and the operators by what they take and give.
use Rattle.std.specs.Prelude.{ℕ, List}
use Rattle.outcome.specs.Outcome.{Result, value, refuse_if, ◌>>=◌}
use Rattle.outcome.specs.declared.Reason.TheVariants.{ValueTooLarge}
use Rattle.format_language.specs.LanguageFile.{encode_language}
use Rattle.format_translation.specs.TranslationFile.{encode_translation}
use Rattle.reduce_operators.specs.Inner.Values.{exact_language, exact_translation}
use Rattle.reduce_operators.specs.Operators.{language_sum, language_without, translation_sum, translation_without, translation_join, identity_of}
use Rattle.format_pack.specs.Terms.{Sort, languages, translations, Term, source_of, target_of, identity, join, without, sum}
use Rattle.reduce_signs.specs.declared.sorts.Sort as Told
use Rattle.reduce_signs.specs.declared.sorts.Sort.TheVariants.{Language, Translation}
use Rattle.reduce_signs.specs.declared.sorts.Binary.{Binary}
use Rattle.reduce_signs.specs.declared.sorts.Binary.TheVariants.{LanguageWithout, LanguageSum, TranslationWithout, TranslationSum, Join}
use Rattle.reduce_signs.specs.declared.sorts.Unary.{Unary}
use Rattle.reduce_signs.specs.declared.sorts.Unary.TheVariants.{Source, Target, Identity}
use Rattle.reduce_signs.specs.Evaluation.{Value, exceeds}

-- The sort that the code names.
abbrev pub sort_of : Told.Sort → Sort
sort_of Language = languages
sort_of Translation = translations

-- The bytes of a value.
abbrev pub encode_as : (s : Sort) → Value s → List ℕ
encode_as languages l = encode_language l
encode_as translations f = encode_translation f

-- The value whose own bytes these are.
abbrev pub value_in : (s : Sort) → List ℕ → Result (Value s)
value_in languages b = exact_language b
value_in translations b = exact_translation b

-- The bytes of what a sign comes to, or 11 where it exceeds a limit.
abbrev pub bytes_of : (s : Sort) → Result (Value s) → Result (List ℕ)
bytes_of s r = r >>= λ v. refuse_if (exceeds s v) ValueTooLarge (value (encode_as s v))

-- The sort of the first operand of an operator on two, and of what it gives.
abbrev pub first_sort : Binary → Sort
first_sort LanguageWithout = languages
first_sort LanguageSum = languages
first_sort TranslationWithout = translations
first_sort TranslationSum = translations
first_sort Join = translations

-- The sort of the second operand.
abbrev pub second_sort : Binary → Sort
second_sort LanguageWithout = languages
second_sort LanguageSum = languages
second_sort TranslationWithout = languages
second_sort TranslationSum = translations
second_sort Join = translations

-- The sign of an operator on two.
abbrev pub binary_sign : Binary → ℕ
binary_sign LanguageWithout = 0x42
binary_sign LanguageSum = 0x43
binary_sign TranslationWithout = 0x52
binary_sign TranslationSum = 0x53
binary_sign Join = 0x54

-- The term that it makes.
abbrev pub binary_term : (o : Binary) → Term (first_sort o) → Term (second_sort o) → Term (first_sort o)
binary_term LanguageWithout x y = without x y
binary_term LanguageSum x y = sum x y
binary_term TranslationWithout x y = without x y
binary_term TranslationSum x y = sum x y
binary_term Join x y = join x y

-- What it gives.
abbrev pub binary_of : (o : Binary) → Value (first_sort o) → Value (second_sort o) → Result (Value (first_sort o))
binary_of LanguageWithout l m = value (language_without l m)
binary_of LanguageSum l m = language_sum l m
binary_of TranslationWithout f m = value (translation_without f m)
binary_of TranslationSum f g = translation_sum f g
binary_of Join f g = translation_join f g

-- The sort of the operand of an operator on one.
abbrev pub operand_sort : Unary → Sort
operand_sort Source = translations
operand_sort Target = translations
operand_sort Identity = languages

-- The sort of what it gives.
abbrev pub unary_sort : Unary → Sort
unary_sort Source = languages
unary_sort Target = languages
unary_sort Identity = translations

-- The sign of an operator on one.
abbrev pub unary_sign : Unary → ℕ
unary_sign Source = 0x44
unary_sign Target = 0x45
unary_sign Identity = 0x55

-- The term that it makes.
abbrev pub unary_term : (o : Unary) → Term (operand_sort o) → Term (unary_sort o)
unary_term Source x = source_of x
unary_term Target x = target_of x
unary_term Identity x = identity x

-- What it gives.
abbrev pub unary_of : (o : Unary) → Value (operand_sort o) → Value (unary_sort o)
unary_of Source f = f.source
unary_of Target f = f.target
unary_of Identity l = identity_of l
