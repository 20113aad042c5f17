-- The entries of a file as a value writes them.
use Rattle.std.specs.Prelude.{ℕ, ◌+◌, Bool, ◌&&◌, List, eqb}
use Rattle.format_fields.specs.Fields.{byte_at, pair_at, encode_field}
use Rattle.format_language.specs.LanguageFile.{entry_field}
use Rattle.format_language.specs.Inner.Entries.{size_at, entry_at}

-- The entry at p is a class that writes a step of 1.
unfoldable pub spare_step : List ℕ → ℕ → Bool
spare_step s p = eqb (byte_at s p) 0x11 && (eqb (size_at s p) 7 && eqb (pair_at s (p + 8)) 1)

-- The entry at p, as a value writes it.
unfoldable pub entry_bytes : List ℕ → ℕ → List ℕ
entry_bytes s p = encode_field (entry_field (entry_at s p))
