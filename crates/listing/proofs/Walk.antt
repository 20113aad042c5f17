-- The walk over a translation's bytes gives the lines of its clauses.
use Prim.Native.Nat.{ℕ, zero, suc}
use mathlib.Core.Path.{◌≡◌, refl, sym, ap, ◌∙◌}
use mathlib.Core.Bool.{true}
use mathlib.Core.List.{List, [], ◌∷◌, map}
use native.Mathlib.Omega.{arith}
use lib.ListN.{length}
use borrow.Author.Tests.{le-leb}
use Rattle.format_fields.specs.Lists.{all, concat_map}
use Rattle.format_fields.specs.Fields.{Field, field}
use Rattle.format_fields.specs.Inner.Places.{is_whole, field_at, places}
use Rattle.format_fields.proofs.Lists.{all_true}
use Rattle.format_fields.proofs.Codec.{cond_some, fields_encode}
use Rattle.format_fields.proofs.Split.{fields_at_places}
use Rattle.format_translation.specs.Translation.{Item, mapping, clause, Body, Translation}
use Rattle.format_translation.specs.TranslationFile.{item_field, translation_fields, encode_translation}
use Rattle.listing.specs.Text.{item_line}
use Rattle.listing.specs.Inner.Walk.{contents_line, numbered_contents, field_line, line_at, clause_lines}

-- What a field adds.
abbrev line_of : Field → List ℕ
line_of (field tag c) = field_line tag c

-- At a whole field that is what its place adds.
line_is : (s : List ℕ) (p : ℕ) → is_whole s p ≡ true → line_at s p ≡ line_of (field_at s p)
unfolding line_at field_at
line_is s p whole = rw whole refl

-- The places of whole fields add what the fields add.
lines_are : (s l : List ℕ) → all (is_whole s) l ≡ true → concat_map (line_at s) l ≡ concat_map line_of (map (field_at s) l)
unfolding concat_map
lines_are s [] h = refl
lines_are s (p ∷ l) h =
    let w = all_true (is_whole s) p l h in
    rw (line_is s p w.0, lines_are s l w.1)

-- The fields of a body add the lines of its items.
item_line_lem : (a : Item) → line_of (item_field a) ≡ item_line a
unfolding item_field item_line field_line contents_line numbered_contents
item_line_lem (mapping s zero t) = refl
item_line_lem (mapping s (suc j) t) = refl
item_line_lem (clause r p zero code) = rw (le-leb 2 (length (r ∷ p ∷ code)) (omega arith))
item_line_lem (clause r p (suc j) code) = rw (le-leb 3 (length (r ∷ p ∷ suc j ∷ code)) (omega arith))

body_lines : (b : Body) → concat_map line_of (map item_field b) ≡ concat_map item_line b
unfolding concat_map
body_lines [] = refl
body_lines (a ∷ b) = rw (item_line_lem a, body_lines b)

-- The lines of the clauses in the bytes of any translation are those of its body.
pub clause_lines_lem : (f : Translation) → clause_lines (encode_translation f) ≡ concat_map item_line f.body
unfolding clause_lines encode_translation translation_fields concat_map field_line
clause_lines_lem f =
    let s = encode_translation f in
    let w = cond_some _ _ _ (sym (fields_at_places s) ∙ fields_encode (translation_fields f)) in
    lines_are s (places s) w.0 ∙ (ap (concat_map line_of) w.1 ∙ body_lines f.body)
