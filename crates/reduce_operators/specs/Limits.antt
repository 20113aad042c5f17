-- The limits on values (paper 01, "Reduce": 11): 1,024 or 4,096 bytes, 16 levels.
use Rattle.std.specs.Prelude.{Bool, true, false, ◌||◌, length, ltb}
use Rattle.format_fields.specs.Lists.{any}
use Rattle.format_language.specs.Language.{Language}
use Rattle.format_language.specs.LanguageFile.{encode_language, language_limit}
use Rattle.tree_reader.specs.Code.{Code}
use Rattle.tree_reader.specs.Syntax.{Read, done, deep, broken}
use Rattle.format_translation.specs.Translation.{Item, mapping, clause, Translation}
use Rattle.format_translation.specs.Running.{read_clause}
use Rattle.format_translation.specs.TranslationFile.{encode_translation, translation_limit}

-- A clause's code goes deeper than 16 levels.
abbrev pub is_deep : Read Code → Bool
is_deep (done c s) = false
is_deep deep = true
is_deep broken = false

-- The same of an item; a mapping has no code.
unfoldable pub code_is_deep : Translation → Item → Bool
code_is_deep f (mapping s j t) = false
code_is_deep f (clause r p j bytes) = is_deep (read_clause f r p j bytes)

-- A value exceeds a limit: 1,024 bytes of a language, 4,096 of a translation, 16 levels of a code.
unfoldable pub language_exceeds : Language → Bool
language_exceeds l = ltb language_limit (length (encode_language l))

-- Both languages, the whole file, and each code.
unfoldable pub translation_exceeds : Translation → Bool
translation_exceeds f =
    language_exceeds f.source
    || (language_exceeds f.target
    || (ltb translation_limit (length (encode_translation f)) || any (code_is_deep f) f.body))
