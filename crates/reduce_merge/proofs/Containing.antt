-- Whether one language lies within another: a law for each return and turn of `lies_at` and `lies_within`.
use Prim.Native.Nat.{ℕ, ◌+◌, ◌<◌, ◌≤◌}
use mathlib.Core.Path.{◌≡◌, refl, sym, ap, ◌∙◌}
use mathlib.Core.Bool.{Bool, true, false, cond, ◌&&◌}
use mathlib.Core.Logic.{◌⊎◌, ⊎_elim}
use mathlib.Core.List.{List, [], ◌∷◌}
use native.Mathlib.Omega.{arith}
use lib.ListN.{length, take, get_or}
use lib.Seq.{get_or-take, get_or-drop}
use lib.Dec.{ltb, eqb}
use borrow.Author.Tests.{lt-ltb, le-ltb, ltb-true, ltb-false, lt-leb, eqb-true}
use Rattle.format_fields.specs.Lists.{all, same_numbers}
use Rattle.format_fields.specs.Keyed.{within}
use Rattle.format_fields.specs.Fields.{pair_at}
use Rattle.format_fields.specs.Inner.Places.{field_end, key_at, order_at}
use Rattle.format_fields.proofs.Truth.{by_test}
use Rattle.format_fields.proofs.Lists.{all_true}
use Rattle.format_language.specs.Language.{range_within}
use Rattle.format_language.specs.Inner.Entries.{size_at, step_at, class_range, entry_whole, IsClass}
use Rattle.format_language.proofs.Facts.{entry_facts}
use Rattle.reduce_merge.specs.Inner.Parts.{Part, same_key, part_within, class_part, piece_at, part_at, parts_from, WholeAt, WholeFrom, seek, SoughtAt, leads, lies_within}
use Rattle.reduce_merge.proofs.Walks.{parts_done, parts_next, whole_here, keyed_not, met_there, met_keys, met_more, seek_skip, seek_stop}
use Rattle.reduce_merge.proofs.Turns.{Rest, rest_next, rest_sought, within_turned}

-- A field in a file and its own bytes.
module _ (s : List ℕ) (p : ℕ) (w : WholeAt s p) where
  piece_byte : (i : ℕ) → i < 3 + pair_at s (p + 1) → get_or (piece_at s p) i 0 ≡ get_or s (p + i) 0
  unfolding field_end
  piece_byte i j = get_or-drop p (take (field_end s p) s) i 0 ∙ get_or-take (field_end s p) s (p + i) 0 (omega arith)

  piece_pair : (i : ℕ) → i + 1 < 3 + pair_at s (p + 1) → pair_at (piece_at s p) i ≡ pair_at s (p + i)
  unfolding pair_at
  piece_pair i j =
      let d : p + (i + 1) ≡ p + i + 1 = omega arith in
      cc (piece_byte i (omega arith), piece_byte (i + 1) j)

  piece_size : size_at (piece_at s p) 0 ≡ size_at s p
  piece_size = piece_pair 1 (omega arith)

  piece_tag : get_or (piece_at s p) 0 0 ≡ get_or s p 0
  piece_tag = let d : p + 0 ≡ p = omega arith in piece_byte 0 (omega arith) ∙ ap (λ (i : ℕ). get_or s i 0) d

  module _ (h : IsClass (piece_at s p) 0) where
    size_here : (size_at s p ≡ 5) ⊎ (size_at s p ≡ 7)
    size_here = rw piece_size at h.size

    size_five : 5 ≤ size_at s p
    size_five = ⊎_elim (λ e. omega arith) (λ e. omega arith) size_here

    step_there : step_at (piece_at s p) 0 ≡ step_at s p
    unfolding step_at
    step_there =
        by_test (eqb (size_at s p) 7)
        (λ e. let n : size_at s p ≡ 7 = eqb-true (size_at s p) 7 e in cc (piece_size, piece_pair 8 (omega arith)))
        (λ e. cc piece_size)

    -- the range of a class is the same in its bytes and in the file
    range_there : class_range (piece_at s p) 0 ≡ class_range s p
    unfolding class_range
    range_there =
        let n = size_five in
        cc (piece_pair 4 (omega arith), piece_pair 6 (omega arith), step_there)

    -- so is that it is a class
    class_there : IsClass s p
    class_there =
        let n = size_five in
        record {
          tag = sym piece_tag ∙ h.tag;
          fits = w.fits;
          size = size_here;
          kind = rw (piece_byte 3 (omega arith)) at h.kind;
          range = rw (piece_pair 4 (omega arith), piece_pair 6 (omega arith)) at h.range;
          step = rw step_there at h.step;
        }

  -- A field with the key of a class that is whole.
  class_piece : class_part (part_at 0x11 s p) ≡ true → order_at 0x11 s p < 32 → IsClass (piece_at s p) 0
  unfolding class_part part_at order_at key_at
  class_piece h k =
      let e : entry_whole (piece_at s p) 0 ≡ true = rw (lt-leb 32 (order_at 0x11 s p) k) at h in
      ⊎_elim (λ c. c)
      (λ c.
      let t : get_or s p 0 ≡ 0x12 = sym piece_tag ∙ c.tag in
      let z : order_at 0x11 s p ≡ 32 + pair_at s (p + 3) = rw t in
      absurd (omega arith))
      (entry_facts (piece_at s p) 0 e)

-- `lies_at`: the entries at p and q
module _ (a : List ℕ) (p : ℕ) (b : List ℕ) (q : ℕ) where
  abbrev more : Part → Part → Bool
  more x y = cond (ltb x.key 32) (range_within (class_range x.bytes 0) (class_range y.bytes 0)) (same_numbers x.bytes y.bytes)

  pub no_lie : false ≡ leads same_key (part_at 0x11 a p) (parts_from 0x11 b q) → false ≡ leads part_within (part_at 0x11 a p) (parts_from 0x11 b q)
  unfolding part_within
  no_lie h = sym (keyed_not more _ _ (sym h))

  -- they have one key, which is j
  module _ (met : true ≡ leads same_key (part_at 0x11 a p) (parts_from 0x11 b q)) (j : ℕ) (ej : j ≡ order_at 0x11 a p) where
    met_lies : more (part_at 0x11 a p) (part_at 0x11 b q) ≡ leads part_within (part_at 0x11 a p) (parts_from 0x11 b q)
    unfolding part_within
    met_lies = met_more 0x11 a p b q met more

    pub lies_same : 32 ≤ j → same_numbers (piece_at a p) (piece_at b q) ≡ leads part_within (part_at 0x11 a p) (parts_from 0x11 b q)
    unfolding part_at
    lies_same h =
        let d : ltb (order_at 0x11 a p) 32 ≡ false = le-ltb _ 32 (omega arith) in
        rw d at met_lies

    module _ (h : j < 32) (wa : WholeAt a p) (wb : WholeFrom b q) (la : class_part (part_at 0x11 a p) ≡ true) (lb : all class_part (parts_from 0x11 b q) ≡ true) where
      there : q < length b
      there = met_there 0x11 a p b q met

      left_class : IsClass (piece_at a p) 0
      left_class = class_piece a p wa la (omega arith)

      right_class : IsClass (piece_at b q) 0
      right_class =
          let l = (all_true class_part (part_at 0x11 b q) (parts_from 0x11 b (field_end b q)) (rw (parts_next 0x11 b q there) at lb)).0 in
          class_piece b q (whole_here b q wb there) l (omega (arith, met_keys 0x11 a p b q met))

      pub classes_here : IsClass a p × IsClass b q
      classes_here = (class_there a p wa left_class, class_there b q (whole_here b q wb there) right_class)

      pub lies_range : range_within (class_range a p) (class_range b q) ≡ leads part_within (part_at 0x11 a p) (parts_from 0x11 b q)
      unfolding part_at
      lies_range =
          let d : ltb (order_at 0x11 a p) 32 ≡ true = lt-ltb _ 32 (omega arith) in
          rw (range_there a p wa left_class, range_there b q (whole_here b q wb there) right_class, d) at met_lies

-- What holds of all fields holds of those that are left.
all_seek : (f : Part → Bool) (k : ℕ) (m : List Part) → all f m ≡ true → all f (seek k m) ≡ true
unfolding all seek
all_seek f k [] h = refl
all_seek f k (a ∷ m) h =
    by_test (ltb a.key k)
    (λ e. rw (seek_skip k a m (ltb-true a.key k e)) (all_seek f k m (all_true f a m h).1))
    (λ e. rw (seek_stop k a m (ltb-false a.key k e)) h)

-- Where `lies_within` is: the entries from p on and those from q on give the answer.
pub record Containing (a b : List ℕ) (p q : ℕ) : Type 0 where
  pub left : Rest 0x11 a p
  pub right : Rest 0x11 b q
  pub left_long : all class_part (parts_from 0x11 a p) ≡ true
  pub right_long : all class_part (parts_from 0x11 b q) ≡ true
  pub answer : within part_within (parts_from 0x11 a p) (parts_from 0x11 b q) ≡ lies_within a b

module _ (a b : List ℕ) (p q : ℕ) (h : Containing a b p q) where
  pub containing_end : length a ≤ p → true ≡ lies_within a b
  unfolding within all
  containing_end e = sym (ap (λ (r : List Part). within part_within r (parts_from 0x11 b q)) (parts_done 0x11 a p e)) ∙ h.answer

  module _ (here : p < length a) where
    long_here : (class_part (part_at 0x11 a p) ≡ true) × (all class_part (parts_from 0x11 a (field_end a p)) ≡ true)
    long_here = all_true class_part (part_at 0x11 a p) (parts_from 0x11 a (field_end a p)) (rw (parts_next 0x11 a p here) at h.left_long)

    module _ (key : ℕ) (ek : key ≡ order_at 0x11 a p) (r : ℕ) (w : SoughtAt 0x11 b q key r) where
      pub containing_meets : WholeAt a p × WholeFrom b r × (class_part (part_at 0x11 a p) ≡ true) × (all class_part (parts_from 0x11 b r) ≡ true)
      containing_meets = (
        whole_here a p h.left.from here,
        w.from,
        long_here.0,
        rw w.rest (all_seek class_part key (parts_from 0x11 b q) h.right_long),
      )

      module _ (lies : Bool) (es : lies ≡ leads part_within (part_at 0x11 a p) (parts_from 0x11 b r)) where
        turned : (t : Bool) → lies ≡ t → (e : ℕ) → e ≡ field_end a p → t && within part_within (parts_from 0x11 a e) (parts_from 0x11 b r) ≡ lies_within a b
        turned t z e ee =
            ap (λ (u : Bool). u && within part_within (parts_from 0x11 a e) (parts_from 0x11 b r)) (sym z)
            ∙ (sym (within_turned 0x11 a b p q h.left h.right here key ek r w e ee lies es) ∙ h.answer)

        pub containing_stop : lies ≡ false → false ≡ lies_within a b
        containing_stop z = turned false z (field_end a p) refl

        pub containing_on : lies ≡ true → (e : ℕ) → e ≡ field_end a p → Containing a b e r
        containing_on z e ee = record {
          left = rest_next 0x11 a p h.left here e ee;
          right = rest_sought 0x11 b q key r h.right w;
          left_long = rw ee long_here.1;
          right_long = containing_meets.3;
          answer = turned true z e ee;
        }
