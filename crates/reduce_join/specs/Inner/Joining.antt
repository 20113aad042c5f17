-- What the join knows of its two translations.
use Rattle.std.specs.Prelude.{ℕ, ◌+◌, ◌-◌, ◌/◌, ◌%◌, ◌<◌, ◌≤◌, ◌≡◌, true, cond, List, [], ◌∷◌, ◌++◌, map, length, get_or, take, drop, replicate, eqb, Err, Ok}
use Rattle.std.proofs.Math.Option.{some}
use Rattle.outcome.specs.Outcome.{value, Outcome}
use Rattle.format_fields.specs.Lists.{is_some}
use Rattle.outcome.specs.declared.Reason.TheVariants.{ValueTooLarge}
use Rattle.format_fields.specs.Fields.{encode_field, encode_fields}
use Rattle.format_fields.specs.Inner.Places.{field_end, places_from, places}
use Rattle.tree_reader.specs.Typing.{Uses}
use Rattle.tree_reader.specs.declared.node.Syntax.TheVariants.{Code}
use Rattle.format_translation.specs.Translation.{clause, Translation, number_of, mapping_of}
use Rattle.format_translation.specs.TranslationFile.{item_field, body_of, translation_of}
use Rattle.format_translation.specs.Running.{clauses_of}
use Rattle.format_translation.specs.Inner.Items.{item_whole, item_at, is_clause_tag}
use Rattle.format_translation.specs.Inner.ItemIndex.{Mapped}
use Rattle.run_table.specs.Inner.Table.{Ready}
use Rattle.run_emit.specs.Inner.Runs.{TermAsks}
use Rattle.reduce_operators.specs.Operators.{numbers_low, join_fits, join_item, joined}
use Rattle.reduce_operators.specs.Inner.Paired.{reached, paired_item}
use Rattle.reduce_operators.specs.Inner.EncodedParts.{EncodedParts}
use Rattle.reduce_operators.specs.declared.parts.Parts.{Parts}

-- A file can hold the translation.
abbrev pub Held : Translation → Type 0
Held f = (bytes : List ℕ) × (translation_of bytes ≡ value f)

-- The first translation, f, by the table of its run and the table of what its kinds map to, by numbers below the limit; and the
-- second, g, by its body and the table of what its kinds map to.
pub record Joining (t u b u' : List ℕ) (limit : ℕ) (f g : Translation) : Type 0 where
  pub first : Held f
  pub second : Held g
  pub fits : join_fits f g ≡ true
  pub first_low : numbers_low f ≡ true
  pub second_low : numbers_low g ≡ true
  pub table : Ready t f
  pub uses : Mapped u f.body
  pub items : body_of b ≡ some g.body
  pub second_uses : Mapped u' g.body
  pub below : (k j : ℕ) → is_some (mapping_of f.body k j) ≡ true → j < limit
  pub few : limit ≤ 16

-- A field of s starts at p, or s ends there: the walk over its fields comes by p.
pub record Reached (s : List ℕ) (p : ℕ) : Type 0 where
  pub before : List ℕ
  pub walk : places s ≡ before ++ places_from s p

-- The parts of two translations that fit: all of the first's, and the source and the body of the second.
pub record Fitted (s t b s' b' : List ℕ) (f g : Translation) : Type 0 where
  pub first : EncodedParts s t b f
  pub second : (t' : List ℕ) × EncodedParts s' t' b' g
  pub first_low : numbers_low f ≡ true
  pub second_low : numbers_low g ≡ true
  pub fits : join_fits f g ≡ true

-- The same of the parts that are lent.
abbrev pub FittedParts : (first second : Parts) → Translation → Translation → Type 0
FittedParts first second f g = Fitted first.source.now first.target.now first.body.now second.source.now second.body.now f g

-- How many bytes stand before the code in the field of a clause of this number.
unfoldable pub head_length : ℕ → ℕ
head_length number = cond (eqb number 0) 5 6

-- Those bytes: the tag, the length of the contents, the result, the name, and the number where it is not 0.
unfoldable pub clause_head : ℕ → ℕ → ℕ → ℕ → List ℕ
clause_head result name number size =
    cond (eqb number 0) (0x23 ∷ size / 256 ∷ size % 256 ∷ result ∷ name ∷ [])
    (0x29 ∷ size / 256 ∷ size % 256 ∷ result ∷ name ∷ number ∷ [])

-- The bytes of s from q up to e, as a slice of them is lent.
abbrev pub between : List ℕ → ℕ → ℕ → List ℕ
between s q e = take (e - q) (drop q s)

-- The clause of number i at p, which ends at e, and the run of its code by number j of the first.
pub record ClauseAsks (t b : List ℕ) (p e kind i j : ℕ) (f g : Translation) : Type 0 where
  pub bytes : List ℕ
  pub item : item_at b p ≡ clause (get_or b (p + 3) 0) (get_or b (p + 4) 0) i bytes
  pub past : p + head_length i ≤ e
  pub ends : e ≤ length b
  pub second_low : i < 16
  pub first_low : j < 16
  pub given : Uses
  pub asks : TermAsks Code t (between b (p + head_length i) e) (replicate 2 0) 16 kind j f given (clauses_of g (get_or b (p + 3) 0) (get_or b (p + 4) 0) i)

-- The item of number i at p of the body b of g, which ends at e, and the table of what the kinds of g map to. Where it is a
-- clause, its result is mapped by its number.
pub record ReachAsks (b u : List ℕ) (p e i : ℕ) (g : Translation) : Type 0 where
  pub whole : item_whole b p ≡ true
  pub end : e ≡ field_end b p
  pub number : i ≡ number_of (item_at b p)
  pub low : i < 16
  pub uses : Mapped u g.body
  pub goes : is_clause_tag (get_or b p 0) ≡ true → (t : ℕ) × (mapping_of g.body (get_or b (p + 3) 0) i ≡ some t) × (t < 32)

-- The item of number i at p, which ends at e and reaches the kind, and number j of the first.
pub record NumberAsks (t u b : List ℕ) (p e kind i j : ℕ) (f g : Translation) : Type 0 where
  pub whole : item_whole b p ≡ true
  pub uses : Mapped u f.body
  pub reaches : kind ≡ reached g (item_at b p)
  pub below : kind < 32
  pub number : i ≡ number_of (item_at b p)
  pub second_low : i < 16
  pub first_low : j < 16
  pub code : is_clause_tag (get_or b p 0) ≡ true → is_some (mapping_of f.body kind j) ≡ true → ClauseAsks t b p e kind i j f g

-- The field of the item at p of the second's body b, joined by number j of the first.
unfoldable pub paired_field : Translation → Translation → List ℕ → ℕ → ℕ → List ℕ
paired_field f g b p j = encode_field (item_field (paired_item f g (item_at b p) j))

-- The same, where the kind reached has the number.
unfoldable pub number_field : Translation → Translation → List ℕ → ℕ → ℕ → List ℕ
number_field f g b p j = cond (is_some (mapping_of f.body (reached g (item_at b p)) j)) (paired_field f g b p j) []

-- The fields of the item at p, joined by all numbers.
unfoldable pub joined_field : Translation → Translation → List ℕ → ℕ → List ℕ
joined_field f g b p = encode_fields (map item_field (join_item f g (item_at b p)))

-- The body of the join in bytes.
abbrev pub joined_body : Translation → Translation → List ℕ
joined_body f g = encode_fields (map item_field (joined f g).body)

-- The answer for a value by what the check of it answers: its length, or 11 where the check refuses it.
abbrev pub checked_length : List ℕ → Outcome → Outcome
checked_length v (Ok n) = Ok (length v)
checked_length v (Err r) = Err ValueTooLarge
