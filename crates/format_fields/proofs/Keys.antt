-- Keys by place, in the terms of the code: a law for each return of `key_at` and `whole_key`, and for each turn of `keys_rise`.
use Prim.Native.Nat.{ℕ, ◌+◌, ◌*◌, ◌<◌, ◌≤◌}
use mathlib.Core.Path.{◌≡◌, refl}
use mathlib.Core.Bool.{Bool, true, false}
use mathlib.Core.List.{List}
use native.Mathlib.Numerals.{add-one}
use lib.ListN.{length, get_or}
use borrow.Author.Tests.{lt-ltb, le-ltb, eq-eqb, ne_eqb}
use Rattle.format_fields.specs.Fields.{pair_at}
use Rattle.format_fields.specs.Keyed.{rising_from}
use Rattle.format_fields.specs.Inner.Places.{field_end, places_from, key_at, slot_at, item_order, order_at}
use Rattle.format_fields.proofs.Lists.{rising_stop, rising_next}
use Rattle.format_fields.proofs.Places.{pass_done, pass_next}

module _ (first tag x : ℕ) (s : List ℕ) (p : ℕ) (et : tag ≡ get_or s p 0) where
  pub key_first : tag ≡ first → x ≡ get_or s (p + 3) 0 → x ≡ key_at first s p
  unfolding key_at
  key_first h e = cc (eq-eqb tag first h)

  pub key_second : (tag ≡ first → ⊥) → x ≡ pair_at s (p + 3) → 32 + x ≡ key_at first s p
  unfolding key_at
  key_second h e = cc (ne_eqb tag first h)

-- slot_at
module _ (first tag x : ℕ) (s : List ℕ) (p : ℕ) (et : tag ≡ get_or s p 0) where
  pub slot_plain : tag < 0x28 → x ≡ key_at first s p → x ≡ slot_at first s p
  unfolding slot_at
  slot_plain h e = cc (lt-ltb tag 0x28 h)

  pub slot_none : 0x28 ≤ tag → 65568 ≡ slot_at first s p
  unfolding slot_at
  slot_none h = cc (le-ltb tag 0x28 h)

-- item_order and order_at
module _ (tag : ℕ) (s : List ℕ) (p : ℕ) (et : tag ≡ get_or s p 0) where
  pub order_plain : {x : ℕ} → tag < 0x28 → x ≡ key_at 0x22 s p → x * 256 ≡ item_order s p
  unfolding item_order
  order_plain h e = cc (lt-ltb tag 0x28 h)

  pub order_mapping : {x : ℕ} → 0x28 ≤ tag → tag ≡ 0x28 → x ≡ pair_at s (p + 3) → x ≡ item_order s p
  unfolding item_order
  order_mapping h i e = cc (le-ltb tag 0x28 h, eq-eqb tag 0x28 i)

  module _ {x n : ℕ} (h : 0x28 ≤ tag) (i : tag ≡ 0x28 → ⊥) (e : x ≡ pair_at s (p + 3)) (en : n ≡ pair_at s (p + 1)) where
    pub order_short : n < 3 → (32 + x) * 256 ≡ item_order s p
    unfolding item_order
    order_short k = cc (le-ltb tag 0x28 h, ne_eqb tag 0x28 i, lt-ltb n 3 k)

    pub order_clause : {y : ℕ} → 3 ≤ n → y ≡ get_or s (p + 5) 0 → (32 + x) * 256 + y ≡ item_order s p
    unfolding item_order
    order_clause k d = cc (le-ltb tag 0x28 h, ne_eqb tag 0x28 i, le-ltb n 3 k)

pub order_item : (leading x : ℕ) (s : List ℕ) (p : ℕ) → leading ≡ 0x22 → x ≡ item_order s p → x ≡ order_at leading s p
unfolding order_at
order_item leading x s p h e = cc (eq-eqb leading 0x22 h)

pub order_other : (leading x : ℕ) (s : List ℕ) (p : ℕ) → (leading ≡ 0x22 → ⊥) → x ≡ key_at leading s p → x ≡ order_at leading s p
unfolding order_at
order_other leading x s p h e = cc (ne_eqb leading 0x22 h)

module _ (first least : ℕ) (s : List ℕ) (p : ℕ) (all : Bool) (inv : rising_from (order_at first s) least (places_from s p) ≡ all) where
  pub keys_done : length s ≤ p → true ≡ all
  unfolding rising_from
  keys_done h = pass_done (rising_from (order_at first s) least) s p all inv h

  pub keys_stop : (key : ℕ) → p < length s → key ≡ order_at first s p → key < least → false ≡ all
  keys_stop key h e k =
      rising_stop (order_at first s) least p _ (pass_next (rising_from (order_at first s) least) s p all inv _ h refl) (rw e at k)

  pub keys_next : (key end : ℕ) → p < length s → key ≡ order_at first s p → end ≡ field_end s p → least ≤ key
      → rising_from (order_at first s) (key + 1) (places_from s end) ≡ all
  keys_next key end h e d k =
      rw (add-one, e)
      (rising_next (order_at first s) least p _ (pass_next (rising_from (order_at first s) least) s p all inv end h d) (rw e at k))
