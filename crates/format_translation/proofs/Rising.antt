-- A law for each return of the functions on the order of keys and on clashes.
use mathlib.Core.Path.{◌≡◌, ◌∙◌}
use mathlib.Core.Bool.{Bool, true, false, ◌&&◌, ◌||◌}
use mathlib.Core.List.{List}
use Prim.Native.Nat.{ℕ}
use Rattle.format_fields.specs.Keyed.{rising}
use Rattle.format_fields.specs.Inner.Places.{places, key_at, order_at}
use Rattle.format_fields.proofs.Truth.{and_both}
use Rattle.format_language.specs.Language.{clashes}
use Rattle.format_language.specs.Inner.Entries.{result_is_class}
use Rattle.format_language.proofs.Holds.{holds_entries}
use Rattle.format_language.proofs.Chain.{rising_is}
use Rattle.format_language.proofs.Clashes.{clash_is}
use Rattle.format_translation.specs.Translation.{Translation}
use Rattle.format_translation.specs.TranslationFile.{all_rising}
use Rattle.format_translation.specs.Inner.Pieces.{Pieces}
use Rattle.format_translation.proofs.Items.{holds_items, rising_is as items-rise}

module _ (s t b : List ℕ) (f : Translation) (w : Pieces s t b f) where
  -- The order of all keys, by the walk over the three parts.
  rising_three : (rising (key_at 0x11 s) (places s) && (rising (key_at 0x11 t) (places t) && rising (order_at 0x22 b) (places b))) ≡ all_rising f
  unfolding all_rising
  rising_three =
      rw (
        rising_is s f.source (holds_entries s f.source w.source),
        rising_is t f.target (holds_entries t f.target w.target),
        items-rise b f.body (holds_items b f.body w.body),
      )

  pub both_rise : all_rising f ≡ true → (rising (key_at 0x11 s) (places s) ≡ true) × (rising (key_at 0x11 t) (places t) ≡ true)
  both_rise h =
      let u = and_both (rising (key_at 0x11 s) (places s)) (rising (key_at 0x11 t) (places t) && rising (order_at 0x22 b) (places b)) (rising_three ∙ h) in
      let v = and_both (rising (key_at 0x11 t) (places t)) (rising (order_at 0x22 b) (places b)) u.1 in
      (u.0, v.0)

  -- in_order
  module _ (x : Bool) (ex : x ≡ rising (key_at 0x11 s) (places s)) where
    pub order_source : x ≡ false → false ≡ all_rising f
    order_source h = rw (← ex, h) at rising_three

    module _ (xt : x ≡ true) (y : Bool) (ey : y ≡ rising (key_at 0x11 t) (places t)) where
      pub order_target : y ≡ false → false ≡ all_rising f
      order_target h = rw (← ex, xt, ← ey, h) at rising_three

      pub order_body : y ≡ true → (z : Bool) → z ≡ rising (order_at 0x22 b) (places b) → z ≡ all_rising f
      order_body h z ez = rw (← ex, xt, ← ey, h, ← ez) at rising_three

  -- Clashes, by the walk over the two languages.
  clash_two : (result_is_class s || result_is_class t) ≡ (clashes f.source f.source || clashes f.target f.target)
  clash_two =
      rw (
        clash_is s f.source (holds_entries s f.source w.source),
        clash_is t f.target (holds_entries t f.target w.target),
      )

  -- languages_clash
  module _ (x : Bool) (ex : x ≡ result_is_class s) where
    pub clash_source : x ≡ true → true ≡ (clashes f.source f.source || clashes f.target f.target)
    clash_source h = rw (← ex, h) at clash_two

    pub clash_target : x ≡ false → (y : Bool) → y ≡ result_is_class t → y ≡ (clashes f.source f.source || clashes f.target f.target)
    clash_target h y ey = rw (← ex, h, ← ey) at clash_two
