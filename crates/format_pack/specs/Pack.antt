-- Packs in bytes (paper 01, "The sixteen term signs", fields 30 to 32; "Reduce").
use Rattle.std.specs.Prelude.{ℕ, Bool, true, cond, not, ◌&&◌, ◌||◌, List, [], ◌∷◌, length, ltb, leb, eqb}
use Rattle.std.proofs.Math.Option.{Option, none, some}
use Rattle.outcome.specs.Outcome.{Result, value, refused, refuse_if, ◌>>=◌}
use Rattle.outcome.specs.declared.Reason.TheVariants.{TooLong, OutOfOrder, ClassIsResult, IllegalTerm}
use Rattle.format_fields.specs.Lists.{all, any, traverse, concat_map}
use Rattle.format_fields.specs.Fields.{Field, field, fields_of, has_over}
use Rattle.format_fields.specs.Keyed.{rising}
use Rattle.format_language.specs.Language.{Language, entry_key, clashes}
use Rattle.format_language.specs.LanguageFile.{entries_of, language_limit, whole}
use Rattle.format_translation.specs.Translation.{Body, item_key}
use Rattle.format_translation.specs.TranslationFile.{body_of}
use Rattle.format_pack.specs.Terms as Terms
use Rattle.format_pack.specs.Terms.{translations, Parse, read_term, scoped}

-- Languages and bodies, numbered from 0, and the bytes of the term.
pub record Pack : Type 0 where
  pub languages : List Language
  pub bodies : List Body
  pub term : List ℕ

-- One field of a pack: a language, a body, or the term.
pub data Part : Type 0 where
  language_part : Language → Part
  body_part : Body → Part
  term_part : List ℕ → Part

-- A part that is a language, where its entries are there.
abbrev pub language_in : Option Language → Option Part
language_in none = none
language_in (some l) = some (language_part l)

-- A part that is a body, where its items are there.
abbrev pub body_in : Option Body → Option Part
body_in none = none
body_in (some b) = some (body_part b)

-- Fields 30, 31 and 32.
unfoldable pub part_of : Field → Option Part
part_of (field tag c) =
    cond (eqb tag 0x30) (language_in (entries_of c))
    (cond (eqb tag 0x31) (body_in (body_of c))
    (cond (eqb tag 0x32) (some (term_part c)) none))

-- The order of the groups: languages, bodies, the term.
abbrev pub group : Part → ℕ
group (language_part l) = 0
group (body_part b) = 1
group (term_part t) = 2

-- The parts stand in the order of their groups.
unfoldable pub in_groups : ℕ → List Part → Bool
in_groups n [] = true
in_groups n (p ∷ l) = leb n (group p) && in_groups (group p) l

-- The language in a part, if it is one.
abbrev pub as_language : Part → List Language
as_language (language_part l) = l ∷ []
as_language (body_part b) = []
as_language (term_part t) = []

-- The body in a part, if it is one.
abbrev pub as_body : Part → List Body
as_body (language_part l) = []
as_body (body_part b) = b ∷ []
as_body (term_part t) = []

-- The term in a part, if it is one.
abbrev pub as_term : Part → List (List ℕ)
as_term (language_part l) = []
as_term (body_part b) = []
as_term (term_part t) = t ∷ []

-- Up to 32 languages, up to 32 bodies, then one term.
unfoldable pub pack_with : List Language → List Body → List (List ℕ) → Option Pack
pack_with ls bs [] = none
pack_with ls bs (t ∷ []) =
    cond (leb (length ls) 32 && leb (length bs) 32) (some (record { languages = ls; bodies = bs; term = t })) none
pack_with ls bs (t ∷ u ∷ ts) = none

-- The pack that parts make, in their groups.
unfoldable pub pack_in : List Part → Option Pack
pack_in ps =
    cond (in_groups 0 ps) (pack_with (concat_map as_language ps) (concat_map as_body ps) (concat_map as_term ps)) none

-- The same, where the parts are there.
abbrev pub pack_in_parts : Option (List Part) → Option Pack
pack_in_parts none = none
pack_in_parts (some ps) = pack_in ps

-- The same, of fields.
abbrev pub pack_in_fields : Option (List Field) → Option Pack
pack_in_fields none = none
pack_in_fields (some fs) = pack_in_parts (traverse part_of fs)

-- The same, of bytes.
unfoldable pub pack_parts : List ℕ → Option Pack
pack_parts s = pack_in_fields (fields_of s)

-- At most 32,768 bytes.
abbrev pub pack_limit : ℕ
pack_limit = 32768

-- The tag of a language in a pack.
abbrev pub is_language_tag : ℕ → Bool
is_language_tag tag = eqb tag 0x30

-- The pack that a file holds: 1 to 4, the lowest, where it holds none.
unfoldable pub pack_of : List ℕ → Result Pack
pack_of s =
    refuse_if (ltb pack_limit (length s) || has_over is_language_tag language_limit s) TooLong
    (whole (pack_parts s) >>= λ p.
    refuse_if (not (all (rising entry_key) p.languages && all (rising item_key) p.bodies)) OutOfOrder
    (refuse_if (any (λ l. clashes l l) p.languages) ClassIsResult
    (value p)))

-- At most 12 levels.
abbrev pub term_limit : ℕ
term_limit = 12

-- Exactly one translation term, with nothing after it, whose constants are there and whose variables are 0 to 15.
abbrev pub whole_term : ℕ → ℕ → Parse (Terms.Term translations) → Result (Terms.Term translations)
whole_term l b none = refused IllegalTerm
whole_term l b (some r) =
    elim r.1 [ [] ↦ refuse_if (not (scoped l b r.0)) IllegalTerm (value r.0) | x ∷ s ↦ refused IllegalTerm ]

-- The term of a pack, or 8.
unfoldable pub term_of : Pack → Result (Terms.Term translations)
term_of p = whole_term (length p.languages) (length p.bodies) (read_term term_limit translations p.term)
