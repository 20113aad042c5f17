-- Sets of kinds in one number, and what reading a card comes to.
use Rattle.std.specs.Prelude.{ℕ, ◌-◌, ◌/◌, ◌%◌, ◌^◌, ◌≡◌, Bool, cond, not, ◌&&◌, List, length, get_or, eqb, leb, Ok, Err}
use Rattle.std.proofs.Math.Option.{none, some}
use Rattle.format_fields.specs.Lists.{all}
use Rattle.format_fields.specs.Fields.{pair_at}
use Rattle.format_fields.specs.Keyed.{rising}
use Rattle.outcome.specs.Outcome.{Result, value, refused, refuse_if, ◌>>=◌, Outcome}
use Rattle.outcome.specs.declared.Reason.{Reason}
use Rattle.outcome.specs.declared.Reason.TheVariants.{OutOfOrder}
use Rattle.format_language.specs.LanguageFile.{is_kind, whole}
use Rattle.format_card.specs.Card.{Card, sees, lower}

-- Kind k is in the set: bit k is 1.
unfoldable pub in_set : ℕ → ℕ → Bool
in_set kinds k = eqb (kinds / 2 ^ k % 2) 1

-- The set has the kinds that the card sees.
abbrev pub Holds : ℕ → Card → Type 0
Holds kinds card = (k : ℕ) → in_set kinds k ≡ sees card k

-- The bytes are one field of the card's tag.
unfoldable pub is_card : List ℕ → Bool
is_card s = leb 3 (length s) && (eqb (get_or s 0 0) 0x27 && eqb (pair_at s 1) (length s - 3))

-- What the contents of the one field of a card come to.
unfoldable pub card_with : List ℕ → Result Card
card_with contents = whole (cond (all is_kind contents) (some contents) none) >>= λ card. refuse_if (not (rising (λ k. k) card)) OutOfOrder (value card)

-- What reading a card answers: the set of its kinds, or its refusal.
pub record Reads (result : Result Card) (r : Outcome) : Type 0 where
  pub holds : (kinds : ℕ) → r ≡ Ok kinds → (card : Card) × (result ≡ value card) × Holds kinds card
  pub refuses : (reason : Reason) → r ≡ Err reason → result ≡ refused reason

-- The lowest of two refusals; where only one refuses, that one.
abbrev pub lowest_of : Outcome → Outcome → Outcome
lowest_of first (Ok n) = first
lowest_of (Ok m) (Err s) = Err s
lowest_of (Err r) (Err s) = Err (lower r s)

-- What is read of a card where the first is accepted too; else the lowest refusal of both.
abbrev pub with_card : Outcome → Outcome → Outcome
with_card (Ok n) card = card
with_card (Err r) (Ok kinds) = Err r
with_card (Err r) (Err s) = Err (lower r s)
