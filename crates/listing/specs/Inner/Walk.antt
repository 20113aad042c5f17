-- The text as the code makes it: by a walk over the fields of a translation's bytes, from place to place.
-- `proofs/Walk.antt` shows that it is the text of the translation.
use Rattle.std.specs.Prelude.{ℕ, cond, ◌&&◌, List, [], ◌++◌, length, take, drop, leb, eqb, Err, Ok}
use Rattle.format_fields.specs.Lists.{concat_map}
use Rattle.format_fields.specs.Fields.{byte_at}
use Rattle.outcome.specs.Outcome.{reason_number, Outcome}
use Rattle.format_fields.specs.Inner.Places.{is_whole, contents_at, places}
use Rattle.program_text.specs.Text.{accepted_word, refused_word, first_line}
use Rattle.listing.specs.Text.{clause_line, numbered_line}

-- The line of a clause of number 0, from the contents of its field: result, name, code.
unfoldable pub contents_line : List ℕ → List ℕ
contents_line contents = clause_line (byte_at contents 0) (byte_at contents 1) (drop 2 contents)

-- The line of a clause of another number: result, name, number, code.
unfoldable pub numbered_contents : List ℕ → List ℕ
numbered_contents contents = numbered_line (byte_at contents 0) (byte_at contents 1) (byte_at contents 2) (drop 3 contents)

-- What a field adds, by its tag and contents: a clause its line, another field nothing.
unfoldable pub field_line : ℕ → List ℕ → List ℕ
field_line tag contents =
    cond (eqb tag 0x23 && leb 2 (length contents)) (contents_line contents)
    (cond (eqb tag 0x29 && leb 3 (length contents)) (numbered_contents contents) [])

-- What the field at p adds, where it is whole.
unfoldable pub line_at : List ℕ → ℕ → List ℕ
line_at s p = cond (is_whole s p) (field_line (byte_at s p) (contents_at s p)) []

-- The lines of the clauses in a translation's bytes, in order.
unfoldable pub clause_lines : List ℕ → List ℕ
clause_lines s = concat_map (line_at s) (places s)

-- The whole text, from the outcome of reduce and the output that it leaves.
abbrev pub outcome_text : Outcome → List ℕ → List ℕ
outcome_text (Ok n) output = first_line accepted_word n ++ clause_lines (take n output)
outcome_text (Err r) output = first_line refused_word (reason_number r)
