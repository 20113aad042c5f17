-- The lowest of two refusals: a law for each return of `lowest` and of `with_card`, and what it says of a card that is handed in with something else.
use Rattle.std.specs.Prelude.{Err, Ok}
use Prim.Native.Nat.{ℕ, ◌<◌, ◌≤◌}
use mathlib.Core.Path.{◌≡◌, refl, sym, ap, ◌∙◌}
use mathlib.Core.Bool.{Bool, true, false, cond, not}
use mathlib.Core.List.{List}
use mathlib.Core.Option.{Option, none, some}
use native.Mathlib.Omega.{arith}
use borrow.Author.Tests.{le-leb, lt-leb}
use Rattle.format_fields.specs.Fields.{fields_of}
use Rattle.format_fields.specs.Keyed.{rising}
use Rattle.outcome.specs.Outcome.{Result, value, refused, refuse_if, ◌>>=◌, checked, reason_number, Outcome}
use Rattle.outcome.specs.declared.Reason.{Reason}
use Rattle.outcome.specs.declared.Reason.TheVariants.{OutOfOrder}
use Rattle.format_fields.proofs.Codec.{refused_value}
use Rattle.format_language.specs.LanguageFile.{whole}
use Rattle.format_card.specs.Card.{Card, card_in, card_of, lower, together}
use Rattle.format_card.specs.Inner.Sets.{Reads, lowest_of, with_card}

pub same_refusal : {A : Type 0} {p q : Reason} → ◌≡◌ {A = Result A} (refused p) (refused q) → p ≡ q
same_refusal e = cc

same_reason : {p q : Reason} → ◌≡◌ {A = Outcome} (Err p) (Err q) → p ≡ q
same_reason e = cc

lower_second : (r s : Reason) → reason_number s < reason_number r → lower r s ≡ s
unfolding lower
lower_second r s h = ap (λ (b : Bool). cond b r s) (lt-leb (reason_number r) (reason_number s) h)

lower_first : (r s : Reason) → reason_number r ≤ reason_number s → lower r s ≡ r
unfolding lower
lower_first r s h = ap (λ (b : Bool). cond b r s) (le-leb (reason_number r) (reason_number s) h)

module _ (r s : Reason) {a b : ℕ} (ea : a ≡ reason_number s) (eb : b ≡ reason_number r) where
  pub lowest_second : a < b → Err s ≡ lowest_of (Err r) (Err s)
  lowest_second h = ap Err (sym (lower_second r s (omega arith)))

  pub lowest_first : b ≤ a → Err r ≡ lowest_of (Err r) (Err s)
  lowest_first h = ap Err (sym (lower_first r s (omega arith)))

-- A card is refused by 2 or 3.
card_low : (c : List ℕ) (q : Reason) → card_of c ≡ refused q → reason_number q < 4
unfolding card_of
card_low c q e = go (card_in (fields_of c)) e
  where
    by_order : (b : Bool) (card : Card) → refuse_if b OutOfOrder (value card) ≡ refused q → reason_number q < 4
    by_order true card h = rw (← same_refusal {A = Card} h) (omega arith)
    by_order false card h = refused_value (sym h)

    go : (o : Option Card) → (whole o >>= λ card. refuse_if (not (rising (λ k. k) card)) OutOfOrder (value card)) ≡ refused q → reason_number q < 4
    go none h = rw (← same_refusal {A = Card} h) (omega arith)
    go (some card) h = by_order (not (rising (λ k. k) card)) card h

-- Where the lowest is accepted, both are.
pub lowest_accepted : (a b : Outcome) (n : ℕ) → lowest_of a b ≡ Ok n → (a ≡ Ok n) × (m : ℕ) × (b ≡ Ok m)
lowest_accepted a (Ok m) n e = (e, m, refl)
lowest_accepted (Ok i) (Err q) n e = cc
lowest_accepted (Err p) (Err q) n e = cc

-- Where a set of kinds is given, both are accepted, and it is the card's.
pub with_card_accepted : (a d : Outcome) {k : ℕ} → with_card a d ≡ Ok k → ((n : ℕ) × (a ≡ Ok n)) × (d ≡ Ok k)
with_card_accepted (Ok n) d e = ((n, refl), e)
with_card_accepted (Err r) (Ok i) e = cc
with_card_accepted (Err r) (Err s) e = cc

-- A card's answer as one of a file that is accepted with no length.
abbrev pub as_file : Outcome → Outcome
as_file (Ok k) = Ok 0
as_file (Err s) = Err s

-- `with_card` gives the refusal of the lowest, and else the card's.
pub with_card_refused : (a d : Outcome) {x : Reason} → lowest_of a (as_file d) ≡ Err x → Err x ≡ with_card a d
with_card_refused (Ok n) (Ok k) e = cc
with_card_refused (Ok n) (Err s) e = sym e
with_card_refused (Err r) (Ok k) e = sym e
with_card_refused (Err r) (Err s) e = sym e

pub with_card_held : (a d : Outcome) {n : ℕ} → lowest_of a (as_file d) ≡ Ok n → d ≡ with_card a d
with_card_held (Ok m) d e = refl
with_card_held (Err r) (Ok k) e = cc
with_card_held (Err r) (Err s) e = cc

-- What `together` gives comes of both values.
pub together_value : {A B C : Type 0} (m : Result A) (d : Result B) (f : A → B → Result C) {v : C} → together m d f ≡ value v
    → (a : A) × (b : B) × (m ≡ value a) × (d ≡ value b) × (f a b ≡ value v)
together_value (value a) (value b) f e = (a, b, refl, refl, e)
together_value (value a) (refused s) f e = refused_value e
together_value (refused r) (value b) f e = refused_value e
together_value (refused r) (refused s) f e = refused_value e

-- A refusal of `with_card` is the lowest of what the card comes to.
lowest_read : (c : List ℕ) (a d : Outcome) → Reads (card_of c) d → {x : Reason} → with_card a d ≡ Err x → lowest_of a (checked (card_of c)) ≡ Err x
lowest_read c (Ok n) (Ok k) w h = cc
lowest_read c (Ok n) (Err s) w h = rw (w.refuses s refl) h
lowest_read c (Err r) (Ok k) w h = let (card, e, held) = w.holds k refl in rw e h
lowest_read c (Err r) (Err s) w h = rw (w.refuses s refl) h

-- Something is read, and a step is made on it whose refusals come after 3. The lowest refusal of that step and of a card is what
-- `together` refuses, whatever goes on from there.
module _ {A B C : Type 0} (step : A → Result B) (high : (a : A) (p : Reason) → step a ≡ refused p → 3 < reason_number p)
    (more : A → Card → B → Result C) (c : List ℕ) {r : Reason} where
  step_stays : (a : A) (card : Card) (m : Result B) → checked m ≡ Err r → (m >>= more a card) ≡ refused r
  step_stays a card (value b) h = cc
  step_stays a card (refused p) h = ap refused (same_reason h)

  card_stays : (q : Reason) (a : A) (m : Result B) → card_of c ≡ refused q → step a ≡ m
      → lowest_of (checked m) (Err q) ≡ Err r → ◌≡◌ {A = Result C} (refused q) (refused r)
  card_stays q a (value b) e f h = ap refused (same_reason h)
  card_stays q a (refused p) e f h =
      let i : reason_number q < reason_number p = omega (arith, card_low c q e, high a p f) in
      ap refused (sym (lower_second p q i) ∙ same_reason h)

  stays : (m : Result A) (d : Result Card) → card_of c ≡ d → lowest_of (checked (m >>= step)) (checked d) ≡ Err r
      → together m d (λ a card. step a >>= more a card) ≡ refused r
  stays (value a) (value card) e h = step_stays a card (step a) h
  stays (value a) (refused q) e h = card_stays q a (step a) e refl h
  stays (refused p) (value card) e h = ap refused (same_reason h)
  stays (refused p) (refused q) e h = ap refused (same_reason h)

  pub together_refused : (m : Result A) → lowest_of (checked (m >>= step)) (checked (card_of c)) ≡ Err r
      → together m (card_of c) (λ a card. step a >>= more a card) ≡ refused r
  together_refused m h = stays m (card_of c) refl h

  -- The same of what reading the card answers.
  pub together_with_card : (m : Result A) (d : Outcome) → Reads (card_of c) d → with_card (checked (m >>= step)) d ≡ Err r
      → together m (card_of c) (λ a card. step a >>= more a card) ≡ refused r
  together_with_card m d w h = together_refused m (lowest_read c (checked (m >>= step)) d w h)
