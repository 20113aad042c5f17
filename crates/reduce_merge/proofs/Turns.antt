-- The operators on bytes, a turn of their loops at a time: a law for each return and turn of `merge`.
use Rattle.std.specs.Prelude.{None, Option, Some}
use Prim.Native.Nat.{ℕ, zero, suc, ◌-◌, ◌<◌, ◌≤◌}
use mathlib.Core.Path.{◌≡◌, refl, sym, ap, subst, ◌∙◌}
use mathlib.Core.Bool.{Bool, true, false, cond, not, ◌&&◌}
use mathlib.Core.List.{List, [], ◌∷◌, ◌++◌, append_assoc, append-nil}
use native.Mathlib.Omega.{arith}
use lib.ListN.{length}
use lib.Seq.{slice, slice_empty}
use lib.Dec.{ltb, leb}
use borrow.Author.Tests.{ltb-true, ltb-false, leb-true, leb-false}
use Rattle.format_fields.specs.Lists.{keep, concat_map}
use Rattle.format_fields.specs.Keyed.{union, within, without}
use Rattle.format_fields.specs.Inner.Places.{field_end, order_at}
use Rattle.format_fields.specs.Inner.Writing.{Inside, Stores}
use Rattle.format_fields.proofs.Truth.{by_test}
use Rattle.format_fields.proofs.Codec.{concat_append}
use Rattle.format_fields.proofs.Keyed.{From}
use Rattle.format_fields.proofs.Places.{end_past}
use Rattle.reduce_merge.specs.Inner.Parts.{Part, part_key, same_part, part_within, bytes_of, piece_at, part_at, parts_from, WholeAt, WholeFrom, lower, seek, SoughtAt, leads, united, removed}
use Rattle.format_fields.proofs.Splices.{slice_join}
use Rattle.reduce_merge.proofs.Walks.{parts_done, parts_next, whole_here, whole_next}
use Rattle.reduce_merge.proofs.Writing.{Writing, writing_full, writing_room, writing_next, writing_done}
use Rattle.reduce_merge.proofs.Linear.{union_none, union_low, union_same, union_nothing, union_high, without_turn, within_turn, seek_from, differ, outside}

-- What is known of the fields from p on.
pub record Rest (first : ℕ) (s : List ℕ) (p : ℕ) : Type 0 where
  pub from : WholeFrom s p
  pub least : ℕ
  pub rises : From part_key least (parts_from first s p)

rest_rises : (first : ℕ) (s : List ℕ) (p k r : ℕ) → Rest first s p → SoughtAt first s p k r → From part_key k (parts_from first s r)
rest_rises first s p k r h w = rw w.rest (seek_from k h.least (parts_from first s p) h.rises)

pub rest_sought : (first : ℕ) (s : List ℕ) (p k r : ℕ) → Rest first s p → SoughtAt first s p k r → Rest first s r
rest_sought first s p k r h w = record {
  from = w.from;
  least = k;
  rises = rest_rises first s p k r h w;
}

-- The field at p, and what comes after it.
module _ (first : ℕ) (s : List ℕ) (p : ℕ) (h : Rest first s p) (here : p < length s) where
  pub here_rises : From part_key (suc (order_at first s p)) (parts_from first s (field_end s p))
  unfolding part_at
  here_rises = let r : From part_key h.least (part_at first s p ∷ parts_from first s (field_end s p)) = rw (parts_next first s p here) at h.rises in r.1

  pub rest_next : (e : ℕ) → e ≡ field_end s p → Rest first s e
  rest_next e q = rw q (record {
    from = whole_next s p h.from here (field_end s p) refl;
    least = suc (order_at first s p);
    rises = here_rises;
  })

  pub field_inside : (e : ℕ) → e ≡ field_end s p → Inside s p e
  field_inside e q = rw q (record { rise = omega (arith, end_past s p); fits = (whole_here s p h.from here).fits })

-- The bytes of fields in front of others.
pub bytes_append : (l m : List Part) → bytes_of (l ++ m) ≡ bytes_of l ++ bytes_of m
unfolding bytes_of
bytes_append l m = concat_append (λ a. a.bytes) l m

pub bytes_cons : (x : Part) (l : List Part) → bytes_of (x ∷ l) ≡ x.bytes ++ bytes_of l
unfolding bytes_of concat_map
bytes_cons x l = refl

pub bytes_none : bytes_of [] ≡ []
unfolding bytes_of concat_map
bytes_none = refl

bytes_cond : (t : Bool) (x : Part) (l : List Part) → bytes_of (cond t (x ∷ l) l) ≡ cond t x.bytes [] ++ bytes_of l
bytes_cond true x l = bytes_cons x l
bytes_cond false x l = refl

-- The bytes of the fields from p on are the bytes from p on.
piece_join : (first : ℕ) (s : List ℕ) (p : ℕ) → WholeAt s p → (part_at first s p).bytes ++ slice (field_end s p) (length s) s ≡ slice p (length s) s
unfolding part_at
piece_join first s p f = slice_join s p (field_end s p) (length s) (omega (arith, end_past s p)) f.fits (omega arith)

pub all_bytes : (fuel first : ℕ) (s : List ℕ) (p : ℕ) → length s - p < fuel → WholeFrom s p → bytes_of (parts_from first s p) ≡ slice p (length s) s
all_bytes zero first s p h w = absurd (omega arith)
all_bytes (suc fuel) first s p h w =
    by_test (leb (length s) p)
    (λ e.
    let i : length s ≤ p = leb-true _ _ e in
    let d : p ≡ length s = omega (arith, w.inside) in
    ap bytes_of (parts_done first s p i) ∙ (bytes_none ∙ (sym (slice_empty (length s) s) ∙ ap (λ (k : ℕ). slice k (length s) s) (sym d))))
    (λ e.
    let here : p < length s = leb-false _ _ e in
    let f = whole_here s p w here in
    let m : length s - field_end s p < fuel = omega (arith, end_past s p) in
    ap bytes_of (parts_next first s p here)
    ∙ (bytes_cons (part_at first s p) (parts_from first s (field_end s p))
    ∙ (ap (λ (r : List ℕ). (part_at first s p).bytes ++ r) (all_bytes fuel first s (field_end s p) m (whole_next s p w here (field_end s p) refl))
    ∙ piece_join first s p f)))

-- A turn of the two walks: the field of a at p, and b sought through from q on for its key.
module _ (first : ℕ) (a b : List ℕ) (p q : ℕ) (ra : Rest first a p) (rb : Rest first b q) (here : p < length a) (key : ℕ) (ek : key ≡ order_at first a p) where
  next : parts_from first a p ≡ part_at first a p ∷ parts_from first a (field_end a p)
  next = parts_next first a p here

  -- b is sought through: what is left of it begins with a field to which the one at p stands by the test, or does not
  module _ (r : ℕ) (w : SoughtAt first b q key r) where
    pub sought : seek (order_at first a p) (parts_from first b q) ≡ parts_from first b r
    sought = sym (rw ek at w.rest)

    pub leads_is : (alike : Part → Part → Bool) (stands : Bool) → stands ≡ leads alike (part_at first a p) (parts_from first b r)
        → leads alike (part_at first a p) (seek (order_at first a p) (parts_from first b q)) ≡ stands
    leads_is alike stands es = ap (leads alike (part_at first a p)) sought ∙ sym es

    -- `remove`
    remove_turn : (e : ℕ) → e ≡ field_end a p → (stands : Bool) → stands ≡ leads same_part (part_at first a p) (parts_from first b r)
        → bytes_of (without same_part (parts_from first a p) (parts_from first b q))
        ≡ cond (not stands) (slice p e a) [] ++ bytes_of (without same_part (parts_from first a e) (parts_from first b r))
    unfolding part_at
    remove_turn e ee stands es =
        let l = parts_from first a (field_end a p) in
        let m = parts_from first b q in
        let k = order_at first a p in
        rw (ee, ← sought)
        (ap bytes_of (ap (λ (r : List Part). without same_part r m) next ∙ without_turn same_part differ (part_at first a p) l (here_rises first a p ra here) rb.least m rb.rises)
        ∙ (ap (λ (t : Bool). bytes_of (cond (not t) (part_at first a p ∷ without same_part l (seek k m)) (without same_part l (seek k m)))) (leads_is same_part stands es)
        ∙ bytes_cond (not stands) (part_at first a p) (without same_part l (seek k m))))

    -- `lies_within`
    pub within_turned : (e : ℕ) → e ≡ field_end a p → (lies : Bool) → lies ≡ leads part_within (part_at first a p) (parts_from first b r)
        → within part_within (parts_from first a p) (parts_from first b q)
        ≡ lies && within part_within (parts_from first a e) (parts_from first b r)
    unfolding part_at
    within_turned e ee lies es =
        let l = parts_from first a (field_end a p) in
        let m = parts_from first b q in
        rw (ee, ← sought)
        (ap (λ (r : List Part). within part_within r m) next
        ∙ (within_turn part_within outside (part_at first a p) l (here_rises first a p ra here) rb.least m rb.rises
        ∙ ap (λ (t : Bool). t && within part_within l (seek (order_at first a p) m)) (leads_is part_within lies es)))

-- At the end of a.
module _ (first : ℕ) (a b : List ℕ) (p q : ℕ) (end : length a ≤ p) where
  pub merge_end : WholeFrom b q → bytes_of (union part_key (parts_from first a p) (parts_from first b q)) ≡ slice q (length b) b
  merge_end w =
      ap bytes_of (ap (λ (r : List Part). union part_key r (parts_from first b q)) (parts_done first a p end) ∙ union_none part_key (parts_from first b q))
      ∙ all_bytes (suc (length b)) first b q (omega arith) w

  remove_end : bytes_of (without same_part (parts_from first a p) (parts_from first b q)) ≡ []
  unfolding without keep
  remove_end = ap (λ (r : List Part). bytes_of (without same_part r (parts_from first b q))) (parts_done first a p end) ∙ bytes_none

-- Where `remove` is: the result so far, by what the operator makes of the fields that are left.
pub record Going (op : List Part → List Part → List Part) (result : List ℕ) (first : ℕ) (a b o out : List ℕ) (p q n : ℕ) : Type 0 where
  pub writing : Writing result (bytes_of (op (parts_from first a p) (parts_from first b q))) o out 0 n
  pub room : n ≤ length out
  pub left : Rest first a p
  pub right : Rest first b q

module _ (first : ℕ) (a b o out : List ℕ) (p q n : ℕ) (h : Going (without same_part) (removed first a b) first a b o out p q n) where
  -- nothing is left of a
  pub removing_done : length a ≤ p → Stores (removed first a b) o out 0 (Some n)
  removing_done d = writing_done _ _ _ _ _ _ h.writing (remove_end first a b p q d) h.room

  -- past the field of a at p, where b is sought through
  module _ (here : p < length a) (key : ℕ) (ek : key ≡ order_at first a p) (r : ℕ) (w : SoughtAt first b q key r) (e : ℕ) (ee : e ≡ field_end a p)
      (stands : Bool) (es : stands ≡ leads same_part (part_at first a p) (parts_from first b r)) (out' : List ℕ) (x : Option ℕ)
      (s : Stores (cond (not stands) (slice p e a) []) out out' n x) where
    turn : bytes_of (without same_part (parts_from first a p) (parts_from first b q)) ≡ cond (not stands) (slice p e a) [] ++ bytes_of (without same_part (parts_from first a e) (parts_from first b r))
    turn = remove_turn first a b p q h.left h.right here key ek r w e ee stands es

    pub removing_full : x ≡ None → Stores (removed first a b) o out' 0 None
    removing_full z = writing_full _ _ _ _ _ _ h.writing _ _ turn out' x s z

    pub removing_on : (m : ℕ) → x ≡ Some m → length out' ≡ length out → Going (without same_part) (removed first a b) first a b o out' e r m
    removing_on m z l = record {
      writing = writing_next _ _ _ _ _ _ h.writing _ _ turn out' x s m z l;
      room = writing_room _ _ _ _ _ _ h.writing _ _ turn out' x s m z l;
      left = rest_next first a p h.left here e ee;
      right = rest_sought first b q key r h.right w;
    }

-- Where `merge` is: the bytes of a from `from` up to p come next, and then the union of what is left.
pub record Merging (first : ℕ) (a b o out : List ℕ) (from p q n : ℕ) : Type 0 where
  pub writing : Writing (united first a b) (slice from p a ++ bytes_of (union part_key (parts_from first a p) (parts_from first b q))) o out 0 n
  pub room : n ≤ length out
  pub rise : from ≤ p
  pub left : Rest first a p
  pub right : Rest first b q

module _ (first : ℕ) (a b o out : List ℕ) (from p q n : ℕ) (h : Merging first a b o out from p q n) where
  pub merging_inside : Inside a from p
  merging_inside = record { rise = h.rise; fits = h.left.from.inside }

  -- nothing is left of one of them
  pub merging_done : length a ≤ p → (out' : List ℕ) (x : Option ℕ) → Stores (slice from (length a) a ++ slice q (length b) b) out out' n x
      → Stores (united first a b) o out' 0 x
  merging_done d out' x w =
      let e : p ≡ length a = omega (arith, h.left.from.inside) in
      h.writing.rest out' x (subst (λ (v : List ℕ). Stores v out out' n x) (sym (ap (λ (i : ℕ). slice from i a ++ bytes_of (union part_key (parts_from first a p) (parts_from first b q))) e
      ∙ ap (λ (r : List ℕ). slice from (length a) a ++ r) (merge_end first a b p q d h.right.from))) w)

  pub merging_out : length b ≤ q → (out' : List ℕ) (x : Option ℕ) → Stores (slice from (length a) a ++ slice q (length b) b) out out' n x
      → Stores (united first a b) o out' 0 x
  merging_out d out' x w =
      let e : q ≡ length b = omega (arith, h.right.from.inside) in
      let none : slice q (length b) b ≡ [] = ap (λ (i : ℕ). slice i (length b) b) e ∙ slice_empty (length b) b in
      let rest : bytes_of (union part_key (parts_from first a p) (parts_from first b q)) ≡ slice p (length a) a =
      ap (λ (r : List Part). bytes_of (union part_key (parts_from first a p) r)) (parts_done first b q d)
      ∙ (ap bytes_of (union_nothing h.left.least (parts_from first a p) h.left.rises) ∙ all_bytes (suc (length a)) first a p (omega arith) h.left.from) in
      h.writing.rest out' x (subst (λ (v : List ℕ). Stores v out out' n x) (sym (ap (λ (r : List ℕ). slice from p a ++ r) rest
      ∙ (slice_join a from p (length a) h.rise h.left.from.inside (omega arith)
      ∙ (sym (append-nil (slice from (length a) a)) ∙ ap (λ (r : List ℕ). slice from (length a) a ++ r) (sym none))))) w)

  module _ (there : p < length a) where
    abbrev x : Part
    x = part_at first a p

    abbrev l : List Part
    l = parts_from first a (field_end a p)

    -- past a field of a, which comes next
    past : (m : List Part) → union part_key (x ∷ l) (parts_from first b q) ≡ x ∷ union part_key l m
        → slice from p a ++ bytes_of (union part_key (parts_from first a p) (parts_from first b q)) ≡ slice from (field_end a p) a ++ bytes_of (union part_key l m)
    unfolding part_at
    past m u =
        ap (λ (r : List Part). slice from p a ++ bytes_of (union part_key r (parts_from first b q))) (parts_next first a p there)
        ∙ (ap (λ (r : List Part). slice from p a ++ bytes_of r) u
        ∙ (ap (λ (r : List ℕ). slice from p a ++ r) (bytes_cons x (union part_key l m))
        ∙ (sym (append_assoc (slice from p a) (piece_at a p) (bytes_of (union part_key l m)))
        ∙ ap (λ (r : List ℕ). r ++ bytes_of (union part_key l m))
        (slice_join a from p (field_end a p) h.rise (omega (arith, end_past a p)) (whole_here a p h.left.from there).fits))))

    module _ (here : q < length b) (j k : ℕ) (ej : j ≡ order_at first a p) (ek : k ≡ order_at first b q) where
      next_right : parts_from first b q ≡ part_at first b q ∷ parts_from first b (field_end b q)
      next_right = parts_next first b q here

      right_rises : From part_key h.right.least (part_at first b q ∷ parts_from first b (field_end b q))
      right_rises = rw next_right at h.right.rises

      pub merging_low : j ≤ k → (j ≡ k → ⊥) → (e : ℕ) → e ≡ field_end a p → Merging first a b o out from e q n
      unfolding part_at
      merging_low u v e ee =
          let d : order_at first a p < order_at first b q =
          by_test (ltb j k) (λ t. let z : j < k = ltb-true _ _ t in omega arith) (λ t. absurd (v (omega (arith, ltb-false j k t)))) in
          let w : union part_key (x ∷ l) (parts_from first b q) ≡ x ∷ union part_key l (parts_from first b q) =
          rw next_right (union_low x (part_at first b q) l (parts_from first b (field_end b q)) h.right.least (here_rises first a p h.left there) right_rises d) in
          rw ee (record {
            writing = rw (← past (parts_from first b q) w) h.writing;
            room = h.room;
            rise = omega (arith, h.rise, end_past a p);
            left = rest_next first a p h.left there (field_end a p) refl;
            right = h.right;
          })

      pub merging_both : j ≡ k → (e : ℕ) → e ≡ field_end a p → (d : ℕ) → d ≡ field_end b q → Merging first a b o out from e d n
      unfolding part_at
      merging_both v e ee d ed =
          let f : order_at first b q ≡ order_at first a p = omega arith in
          let w : union part_key (x ∷ l) (parts_from first b q) ≡ x ∷ union part_key l (parts_from first b (field_end b q)) =
          rw next_right (union_same x (part_at first b q) l (parts_from first b (field_end b q)) h.right.least (here_rises first a p h.left there) right_rises f) in
          rw (ee, ed) (record {
            writing = rw (← past (parts_from first b (field_end b q)) w) h.writing;
            room = h.room;
            rise = omega (arith, h.rise, end_past a p);
            left = rest_next first a p h.left there (field_end a p) refl;
            right = rest_next first b q h.right here (field_end b q) refl;
          })

      -- b is sought through for the key of the field of a
      module _ (low : k < j) (d : ℕ) (s : SoughtAt first b q j d) where
        pub merging_moves : q < d
        unfolding part_at
        merging_moves =
            by_test (ltb q d) (λ t. ltb-true _ _ t)
            (λ t.
            let e : d ≡ q = omega (arith, ltb-false q d t, s.past) in
            let r : From part_key j (parts_from first b d) = rest_rises first b q j d h.right s in
            let r' : From part_key j (part_at first b q ∷ parts_from first b (field_end b q)) = rw (e, next_right) at r in
            absurd (omega (arith, r'.0)))

        split : slice from p a ++ bytes_of (union part_key (parts_from first a p) (parts_from first b q))
            ≡ (slice from p a ++ slice q d b) ++ bytes_of (union part_key (parts_from first a p) (parts_from first b d))
        unfolding part_at
        split =
            let m = parts_from first b q in
            let t : union part_key (parts_from first a p) m ≡ lower j m ++ union part_key (parts_from first a p) (parts_from first b d) =
            rw (s.rest, ej, parts_next first a p there) (union_high x l (here_rises first a p h.left there) h.right.least m h.right.rises) in
            ap (λ (r : List Part). slice from p a ++ bytes_of r) t
            ∙ (ap (λ (r : List ℕ). slice from p a ++ r) (bytes_append (lower j m) (union part_key (parts_from first a p) (parts_from first b d)))
            ∙ (ap (λ (r : List ℕ). slice from p a ++ (r ++ bytes_of (union part_key (parts_from first a p) (parts_from first b d)))) (sym s.skipped)
            ∙ sym (append_assoc (slice from p a) (slice q d b) (bytes_of (union part_key (parts_from first a p) (parts_from first b d))))))

        module _ (out' : List ℕ) (y : Option ℕ) (w : Stores (slice from p a ++ slice q d b) out out' n y) where
          pub merging_full : y ≡ None → Stores (united first a b) o out' 0 None
          merging_full e = writing_full _ _ _ _ _ _ h.writing _ _ split out' y w e

          pub merging_high : (m : ℕ) → y ≡ Some m → length out' ≡ length out → Merging first a b o out' p p d m
          merging_high m e i = record {
            writing = rw (slice_empty p a) (writing_next _ _ _ _ _ _ h.writing _ _ split out' y w m e i);
            room = writing_room _ _ _ _ _ _ h.writing _ _ split out' y w m e i;
            rise = omega arith;
            left = h.left;
            right = rest_sought first b q j d h.right s;
          }
