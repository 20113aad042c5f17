-- The items of an identity, in bytes.
use Rattle.std.specs.Prelude.{ℕ, ◌-◌, ◌<◌, ◌≡◌, Bool, false, cond, List, [], map, get_or}
use Rattle.format_fields.specs.Lists.{concat_map, count_up}
use Rattle.format_fields.specs.Fields.{encode_field, encode_fields}
use Rattle.format_language.specs.Language.{Language, is_in}
use Rattle.format_language.specs.Inner.Entries.{entry_at}
use Rattle.format_translation.specs.Translation.{mapping}
use Rattle.format_translation.specs.TranslationFile.{item_field}
use Rattle.reduce_operators.specs.Operators.{identity_clause}

-- The mapping of kind k to itself, where the kind is in the language.
unfoldable pub kind_item : Language → ℕ → List ℕ
kind_item l k = cond (is_in l k) (encode_field (item_field (mapping k 0 k))) []

-- The kinds that are in the language are marked, and no others.
abbrev pub Marks : List Bool → Language → Type 0
Marks marked l = (k : ℕ) → k < 32 → get_or marked k false ≡ is_in l k

-- The mappings of the kinds from k on.
unfoldable pub kind_items : Language → ℕ → List ℕ
kind_items l k = concat_map (kind_item l) (count_up (32 - k) k)

-- The clause of the production at q, if there is one there, that changes nothing.
unfoldable pub clause_item : List ℕ → ℕ → List ℕ
clause_item s q = encode_fields (map item_field (identity_clause (entry_at s q)))
