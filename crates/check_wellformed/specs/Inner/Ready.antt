-- What the tests of "well formed" are given.
use Rattle.std.specs.Prelude.{◌≡◌, true, List, ℕ, ◌≤◌, length, replicate}
use Rattle.std.proofs.Math.Option.{some}
use Rattle.format_fields.specs.Inner.Places.{places}
use Rattle.format_language.specs.LanguageFile.{entries_of}
use Rattle.tree_reader.specs.Inner.Index.{put_all, index_length, Indexed}
use Rattle.format_translation.specs.Translation.{Translation}
use Rattle.check_wellformed.specs.declared.parts.Parts.{Parts}
use Rattle.format_translation.specs.TranslationFile.{body_of, all_rising}
use Rattle.format_translation.specs.Inner.ItemIndex.{Mapped}

-- How many bytes the uses have: those of the mappings, and room for the kinds of eight arguments.
abbrev pub uses_room : ℕ
uses_room = 8200

-- How many numbers the indexes of both languages have, one behind the other.
abbrev pub indexes_length : ℕ
indexes_length = 16448

-- The index of a language. The tests say by it where the entries of the source stand; the code does not build it, but walks
-- along the source.
unfoldable pub index_of : List ℕ → List ℕ
index_of s = put_all 0x11 s (replicate index_length 0) (places s)

-- The three parts of f, whose keys rise: the source, the target with its index, the body with what kinds map to by number.
pub record Ready (s t it b u : List ℕ) (f : Translation) : Type 0 where
  pub source : entries_of s ≡ some f.source
  pub short : length s ≤ 1024
  pub target : Indexed it t f.target
  pub body : body_of b ≡ some f.body
  pub room : length u ≡ uses_room
  pub uses : Mapped u f.body
  pub rises : all_rising f ≡ true

-- The parts are those of f.
abbrev pub Holds : Parts → List ℕ → Translation → Type 0
Holds p u f = Ready p.source.now p.target.now p.targets.now p.body.now u f
