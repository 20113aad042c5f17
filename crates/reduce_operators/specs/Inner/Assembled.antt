-- A translation in bytes from the bytes of its parts, and the answer once a value is written.
use Rattle.outcome.specs.Outcome.{Outcome}
use Rattle.std.specs.Prelude.{ℕ, cond, List, ◌++◌, ltb, Err, None, Ok, Option, Some}
use Rattle.format_fields.specs.Fields.{field, encode_field}
use Rattle.outcome.specs.declared.Reason.TheVariants.{ValueTooLarge}

-- Field 20 with the source, field 21 with the target, then the body.
unfoldable pub assembled : List ℕ → List ℕ → List ℕ → List ℕ
assembled s t b = encode_field (field 0x20 s) ++ (encode_field (field 0x21 t) ++ b)

-- What was written from the start ends within the limit: its length is the answer; if not, 11.
abbrev pub limited : ℕ → Option ℕ → Outcome
limited limit (Some n) = cond (ltb limit n) (Err ValueTooLarge) (Ok n)
limited limit None = Err ValueTooLarge
