-- A viewer's card (paper 02, 2026-12): "a field 27 whose contents are the kinds that a person may see, rising".
use Rattle.std.specs.Prelude.{ℕ, Bool, cond, not, ◌&&◌, List, [], ◌∷◌, eqb, leb}
use Rattle.std.proofs.Math.Option.{Option, none, some}
use Rattle.format_fields.specs.Lists.{all, any}
use Rattle.format_fields.specs.Fields.{Field, field, fields_of}
use Rattle.format_fields.specs.Keyed.{rising}
use Rattle.outcome.specs.Outcome.{Result, value, refused, refuse_if, ◌>>=◌, reason_number}
use Rattle.outcome.specs.declared.Reason.{Reason}
use Rattle.outcome.specs.declared.Reason.TheVariants.{OutOfOrder}
use Rattle.format_language.specs.LanguageFile.{is_kind, whole}

-- A card is the kinds that may be seen.
abbrev pub Card : Type 0
Card = List ℕ

-- The card sees a kind.
unfoldable pub sees : Card → ℕ → Bool
sees card k = any (λ a. eqb a k) card

-- One field 27 and nothing else, and each byte of its contents is a kind.
unfoldable pub card_in : Option (List Field) → Option Card
card_in none = none
card_in (some []) = none
card_in (some (field tag contents ∷ [])) = cond (eqb tag 0x27 && all is_kind contents) (some contents) none
card_in (some (f ∷ g ∷ fs)) = none

-- The card that a file holds: 2 where it is broken, 3 where its kinds do not rise. It has no limit of bytes of its own:
-- a card whose kinds rise has at most 35.
unfoldable pub card_of : List ℕ → Result Card
card_of bytes = whole (card_in (fields_of bytes)) >>= λ card. refuse_if (not (rising (λ k. k) card)) OutOfOrder (value card)

-- The lower of two refusals.
unfoldable pub lower : Reason → Reason → Reason
lower r s = cond (leb (reason_number r) (reason_number s)) r s

-- Two files that are handed in together: the lowest refusal of either, and the next step on both values.
abbrev pub together : {A B C : Type 0} → Result A → Result B → (A → B → Result C) → Result C
together (value a) (value b) f = f a b
together (value a) (refused s) f = refused s
together (refused r) (value b) f = refused r
together (refused r) (refused s) f = refused (lower r s)
