-- The fields that two files begin with alike: a law for each return and turn of the functions of `prefix`, and what the
-- operators make of such fields.
use Prim.Native.Nat.{ℕ, suc, ◌+◌, ◌<◌, ◌≤◌}
use mathlib.Core.Path.{◌≡◌, refl, sym, ap, ◌∙◌}
use mathlib.Core.Bool.{Bool, true, false}
use mathlib.Core.List.{List, [], ◌∷◌, ◌++◌, append_assoc, append-nil}
use native.Mathlib.Omega.{arith}
use lib.ListN.{length, take, drop, get_or}
use lib.Seq.{slice, slice_empty, take_all, take-take, get_or-take}
use lib.Dec.{ltb}
use borrow.Author.Tests.{eq-eqb, ltb-false}
use Rattle.format_fields.specs.Lists.{all}
use Rattle.format_fields.specs.Keyed.{agree, union, within, without}
use Rattle.format_fields.specs.Fields.{pair_at}
use Rattle.format_fields.specs.Inner.Places.{field_end, key_at, item_order, order_at}
use Rattle.format_fields.proofs.Truth.{by_test, equal_numbers}
use Rattle.format_fields.proofs.Lists.{all_true}
use Rattle.format_fields.proofs.Keyed.{From, is_rising}
use Rattle.format_fields.proofs.Places.{end_past, places_done}
use Rattle.reduce_merge.specs.Inner.Parts.{Part, part_key, same_part, part_within, class_part, bytes_of, piece_at, part_at, parts_from, parts, WholeFrom, Sorted, SortedEntries, Alike, Shared, parts_clash, agrees, lies_within, united, removed}
use Rattle.format_fields.proofs.Splices.{slice_join}
use Rattle.reduce_merge.proofs.Walks.{parts_done, parts_next, whole_next}
use Rattle.reduce_merge.proofs.Linear.{union_same, within_same, without_same, differ, self, outside, inside_itself}
use Rattle.reduce_merge.proofs.Writing.{writing_start}
use Rattle.reduce_merge.proofs.Turns.{Rest, Going, Merging, bytes_append, bytes_cons, bytes_none, all_bytes}
use Rattle.reduce_merge.proofs.Containing.{Containing}
use Rattle.reduce_merge.proofs.Agreeing.{Agreeing, agree_pass, agree_drop}

-- What lies in the first n bytes is the same.
module _ (a b : List ℕ) (n : ℕ) (h : Alike a b n) where
  byte_same : (i : ℕ) → i < n → get_or a i 0 ≡ get_or b i 0
  byte_same i k = sym (get_or-take n a i 0 k) ∙ (ap (λ (l : List ℕ). get_or l i 0) h.same ∙ get_or-take n b i 0 k)

  slice_same : (p e : ℕ) → e ≤ n → slice p e a ≡ slice p e b
  slice_same p e k =
      ap (drop p) (sym (take-take e n a k) ∙ (ap (take e) h.same ∙ take-take e n b k))

  module _ (p : ℕ) (k : p + 5 ≤ n) where
    end_same : field_end a p ≡ field_end b p
    unfolding field_end pair_at
    end_same = rw (byte_same (p + 1) (omega arith), byte_same (p + 1 + 1) (omega arith))

    pair_same : (i : ℕ) → i + 2 ≤ n → pair_at a i ≡ pair_at b i
    unfolding pair_at
    pair_same i l = rw (byte_same i (omega arith), byte_same (i + 1) (omega arith))

    plain_same : (first : ℕ) → key_at first a p ≡ key_at first b p
    unfolding key_at
    plain_same first = rw (byte_same p (omega arith), byte_same (p + 3) (omega arith), pair_same (p + 3) (omega arith))

    item_same : field_end a p ≤ n → item_order a p ≡ item_order b p
    unfolding item_order field_end
    item_same f =
        by_test (ltb (pair_at a (p + 1)) 3)
        (λ t. let u : ltb (pair_at b (p + 1)) 3 ≡ true = rw (pair_same (p + 1) (omega arith)) at t in
        rw (t, u, byte_same p (omega arith), plain_same 0x22, pair_same (p + 3) (omega arith)))
        (λ t. let u : ltb (pair_at b (p + 1)) 3 ≡ false = rw (pair_same (p + 1) (omega arith)) at t in
        let l : 3 ≤ pair_at a (p + 1) = ltb-false _ _ t in
        rw (t, u, byte_same p (omega arith), plain_same 0x22, pair_same (p + 3) (omega arith), byte_same (p + 5) (omega arith)))

    key_same : (first : ℕ) → field_end a p ≤ n → order_at first a p ≡ order_at first b p
    unfolding order_at
    key_same first f = rw (item_same f, plain_same first)

    part_same : (first : ℕ) → field_end a p ≤ n → part_at first a p ≡ part_at first b p
    unfolding part_at
    part_same first f =
        let d : piece_at a p ≡ piece_at b p = slice_same p (field_end a p) f ∙ ap (λ (e : ℕ). slice p e b) end_same in
        cc (key_same first f)

-- `shared`: no field is passed
pub shared_start : (first : ℕ) (a b : List ℕ) → WholeFrom a 0 → WholeFrom b 0 → Shared first a b 0
shared_start first a b u v = record {
  fields = [];
  left = refl;
  right = refl;
  bytes = slice_empty 0 a ∙ sym bytes_none;
  left_from = u;
  right_from = v;
}

-- past the field at p
module _ (first : ℕ) (a b : List ℕ) (p n : ℕ) (h : Shared first a b p) (w : Alike a b n) (k : p + 5 ≤ n) (f : field_end a p ≤ n) where
  here_left : p < length a
  here_left = omega (arith, w.left)

  here_right : p < length b
  here_right = omega (arith, w.right)

  abbrev x : Part
  x = part_at first a p

  right_next : parts_from first b p ≡ x ∷ parts_from first b (field_end a p)
  right_next =
      parts_next first b p here_right
      ∙ (ap (λ (y : Part). y ∷ parts_from first b (field_end b p)) (sym (part_same a b n w p k first f))
      ∙ ap (λ (e : ℕ). x ∷ parts_from first b e) (sym (end_same a b n w p k)))

  more_bytes : slice 0 (field_end a p) a ≡ bytes_of (h.fields ++ x ∷ [])
  unfolding part_at
  more_bytes =
      sym (slice_join a 0 p (field_end a p) (omega arith) (omega (arith, end_past a p)) (omega (arith, w.left)))
      ∙ (ap (λ (l : List ℕ). l ++ piece_at a p) h.bytes
      ∙ (ap (λ (l : List ℕ). bytes_of h.fields ++ l) (sym (bytes_cons x [] ∙ (ap (λ (l : List ℕ). piece_at a p ++ l) bytes_none ∙ append-nil (piece_at a p))))
      ∙ sym (bytes_append h.fields (x ∷ []))))

  shared_on : (e : ℕ) → e ≡ field_end a p → Shared first a b e
  shared_on e q = rw q (record {
    fields = h.fields ++ x ∷ [];
    left = h.left ∙ (ap (λ (l : List Part). h.fields ++ l) (parts_next first a p here_left) ∙ sym (append_assoc h.fields (x ∷ []) (parts_from first a (field_end a p))));
    right = h.right ∙ (ap (λ (l : List Part). h.fields ++ l) right_next ∙ sym (append_assoc h.fields (x ∷ []) (parts_from first b (field_end a p))));
    bytes = more_bytes;
    left_from = whole_next a p h.left_from here_left (field_end a p) refl;
    right_from = whole_next b p h.right_from here_right (field_end a p) (end_same a b n w p k);
  })

pub shared_step : (first : ℕ) (a b : List ℕ) (p n : ℕ) → Shared first a b p → Alike a b n → p + 5 ≤ n → (e : ℕ) → e ≡ field_end a p → e ≤ n → Shared first a b e
shared_step first a b p n h w k e q g = shared_on first a b p n h w k (rw q at g) e q

-- the files are the same
whole_end : (s : List ℕ) → WholeFrom s (length s)
unfolding all
whole_end s =
    let e = places_done s (length s) (omega arith) in
    record { inside = omega arith; long = rw e; whole = rw e }

pub shared_all : (first : ℕ) (a b : List ℕ) (n : ℕ) → WholeFrom a 0 → Alike a b n → length a ≡ n → length b ≡ n → Shared first a b n
shared_all first a b n u w la lb =
    let same : a ≡ b = sym (take_all n a (omega arith)) ∙ (w.same ∙ take_all n b (omega arith)) in
    record {
      fields = parts first a;
      left = sym (append-nil (parts first a)) ∙ ap (λ (l : List Part). parts first a ++ l) (sym (parts_done first a n (omega arith)));
      right = ap (parts first) (sym same) ∙ (sym (append-nil (parts first a)) ∙ ap (λ (l : List Part). parts first a ++ l) (sym (parts_done first b n (omega arith))));
      bytes = rw (← la) (sym (all_bytes (suc (length a)) first a 0 (omega arith) u));
      left_from = rw (← la) (whole_end a);
      right_from = rw (← lb) (whole_end b);
    }

-- A list that rises has parts that rise.
from_rest : (l m : List Part) (n : ℕ) → From part_key n (l ++ m) → (k : ℕ) × From part_key k m
from_rest [] m n h = (n, h)
from_rest (x ∷ l) m n h = from_rest l m (suc x.key) h.1

-- A field does not clash with itself.
no_self : (x : Part) → parts_clash x x ≡ false
unfolding parts_clash
no_self x = rw (eq-eqb x.key x.key refl, equal_numbers x.bytes)

-- What the operators make of two rising lists that begin with the same fields.
agree_alike : (l u v : List Part) (m n : ℕ) → From part_key m (l ++ u) → From part_key n (l ++ v)
    → agree part_key same_part (l ++ u) (l ++ v) ≡ agree part_key same_part u v
agree_alike [] u v m n f g = refl
agree_alike (x ∷ l) u v m n f g =
    agree_pass x x (l ++ u) (l ++ v) f.1 (omega arith) (no_self x)
    ∙ (agree_drop x (l ++ u) (l ++ v) g.1 ∙ agree_alike l u v (suc x.key) (suc x.key) f.1 g.1)

union_alike : (l u v : List Part) (m n : ℕ) → From part_key m (l ++ u) → From part_key n (l ++ v)
    → union part_key (l ++ u) (l ++ v) ≡ l ++ union part_key u v
union_alike [] u v m n f g = refl
union_alike (x ∷ l) u v m n f g =
    union_same x x (l ++ u) (l ++ v) n f.1 g refl
    ∙ ap (λ (t : List Part). x ∷ t) (union_alike l u v (suc x.key) (suc x.key) f.1 g.1)

within_alike : (l u v : List Part) (m : ℕ) → From part_key m (l ++ u) → within part_within (l ++ u) (l ++ v) ≡ within part_within u v
within_alike [] u v m f = refl
within_alike (x ∷ l) u v m f = within_same part_within outside inside_itself x (l ++ u) f.1 (l ++ v) ∙ within_alike l u v (suc x.key) f.1

without_alike : (l u v : List Part) (m : ℕ) → From part_key m (l ++ u) → without same_part (l ++ u) (l ++ v) ≡ without same_part u v
without_alike [] u v m f = refl
without_alike (x ∷ l) u v m f = without_same same_part differ self x (l ++ u) f.1 (l ++ v) ∙ without_alike l u v (suc x.key) f.1

-- `agree`, `merge` and the others go on where the fields end that are the same.
module _ (first : ℕ) (a b : List ℕ) (r : ℕ) (h : Sorted first a × Sorted first b) (s : Shared first a b r) where
  left_rises : From part_key 0 (s.fields ++ parts_from first a r)
  left_rises = rw s.left at (is_rising part_key (parts first a) h.0.rises)

  right_rises : From part_key 0 (s.fields ++ parts_from first b r)
  right_rises = rw s.right at (is_rising part_key (parts first b) h.1.rises)

  rest_left : Rest first a r
  rest_left = let k = from_rest s.fields (parts_from first a r) 0 left_rises in record { from = s.left_from; least = k.0; rises = k.1 }

  rest_right : Rest first b r
  rest_right = let k = from_rest s.fields (parts_from first b r) 0 right_rises in record { from = s.right_from; least = k.0; rises = k.1 }

  pub shared_agree : Agreeing first a b r r
  unfolding agrees
  shared_agree = record {
    left = rest_left;
    right = rest_right;
    answer =
        sym (agree_alike s.fields (parts_from first a r) (parts_from first b r) 0 0 left_rises right_rises)
        ∙ (ap (λ (l : List Part). agree part_key same_part l (s.fields ++ parts_from first b r)) (sym s.left)
        ∙ ap (λ (l : List Part). agree part_key same_part (parts first a) l) (sym s.right));
  }

  united_is : united first a b ≡ slice 0 r a ++ bytes_of (union part_key (parts_from first a r) (parts_from first b r))
  unfolding united
  united_is =
      ap (λ (l : List Part). bytes_of (union part_key l (parts first b))) s.left
      ∙ (ap (λ (l : List Part). bytes_of (union part_key (s.fields ++ parts_from first a r) l)) s.right
      ∙ (ap bytes_of (union_alike s.fields (parts_from first a r) (parts_from first b r) 0 0 left_rises right_rises)
      ∙ (bytes_append s.fields (union part_key (parts_from first a r) (parts_from first b r))
      ∙ ap (λ (l : List ℕ). l ++ bytes_of (union part_key (parts_from first a r) (parts_from first b r))) (sym s.bytes))))

  pub shared_merge : (o : List ℕ) → Merging first a b o o 0 r r 0
  shared_merge o = record {
    writing = writing_start _ _ o 0 united_is;
    room = omega arith;
    rise = omega arith;
    left = rest_left;
    right = rest_right;
  }

  removed_is : removed first a b ≡ bytes_of (without same_part (parts_from first a r) (parts_from first b r))
  unfolding removed
  removed_is =
      ap (λ (l : List Part). bytes_of (without same_part l (parts first b))) s.left
      ∙ (ap (λ (l : List Part). bytes_of (without same_part (s.fields ++ parts_from first a r) l)) s.right
      ∙ ap bytes_of (without_alike s.fields (parts_from first a r) (parts_from first b r) 0 left_rises))

  pub shared_remove : (o : List ℕ) → Going (without same_part) (removed first a b) first a b o o r r 0
  shared_remove o = record {
    writing = writing_start _ _ o 0 removed_is;
    room = omega arith;
    left = rest_left;
    right = rest_right;
  }

-- What holds of all fields holds of the last ones.
all_last : (f : Part → Bool) (l m : List Part) → all f (l ++ m) ≡ true → all f m ≡ true
unfolding all
all_last f [] m h = h
all_last f (x ∷ l) m h = all_last f l m (all_true f x (l ++ m) h).1

-- `lies_within` goes on there too.
module _ (a b : List ℕ) (r : ℕ) (h : SortedEntries a × SortedEntries b) (s : Shared 0x11 a b r) where
  pub shared_within : Containing a b r r
  unfolding lies_within
  shared_within =
      let z : Sorted 0x11 a × Sorted 0x11 b = (h.0.sorted, h.1.sorted) in
      record {
        left = rest_left 0x11 a b r z s;
        right = rest_right 0x11 a b r z s;
        left_long = all_last class_part s.fields (parts_from 0x11 a r) (rw s.left at h.0.classes);
        right_long = all_last class_part s.fields (parts_from 0x11 b r) (rw s.right at h.1.classes);
        answer =
            sym (within_alike s.fields (parts_from 0x11 a r) (parts_from 0x11 b r) 0 (left_rises 0x11 a b r z s))
            ∙ (ap (λ (l : List Part). within part_within l (s.fields ++ parts_from 0x11 b r)) (sym s.left)
            ∙ ap (λ (l : List Part). within part_within (parts 0x11 a) l) (sym s.right));
      }
