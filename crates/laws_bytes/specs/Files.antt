-- Files of bytes: what every caller hands in.
use Rattle.std.specs.Prelude.{ℕ, ◌<◌, List}
use Rattle.format_fields.specs.Fields.{byte_at}

-- Each number of the file is a byte.
abbrev pub OfBytes : List ℕ → Type 0
OfBytes file = (i : ℕ) → byte_at file i < 256
