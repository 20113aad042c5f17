-- Entries of the old index put at their new places: a law for each return and turn of the functions of moves.rt.
use Rattle.std.specs.Prelude.{None, Option, Some}
use Prim.Native.Nat.{ℕ, ◌+◌, ◌-◌, ◌<◌, ◌≤◌}
use mathlib.Core.Path.{◌≡◌, refl, sym, ap, ◌∙◌}
use mathlib.Core.List.{List, [], ◌∷◌, ◌++◌, map, append_assoc, append-nil}
use native.Mathlib.Omega.{arith}
use lib.ListN.{length, take, drop, length-append, length-drop}
use lib.Seq.{slice, drop-drop, drop-append_seam, length-take-le, take-length}
use borrow.Author.Tests.{lt-ltb, le-ltb, le-leb, lt-leb}
use Rattle.format_fields.specs.Fields.{pair_at}
use Rattle.format_fields.specs.Lists.{concat_map}
use Rattle.format_fields.specs.Inner.Writing.{spliced, Stores}
use Rattle.format_fields.proofs.Splices.{splice_splice, nothing_spliced}
use Rattle.format_language.specs.Language.{Language}
use Rattle.tree_reader.specs.Code.{Code}
use Rattle.tree_index.specs.Spans.{Span, span, size, spans, entry, entries}
use Rattle.tree_index.specs.Operations.{longest}
use Rattle.tree_index.specs.Inner.Marking.{last_place}
use Rattle.tree_index.proofs.Pairs.{entry_length, Entry, entry_read}
use Rattle.tree_index.proofs.Walking.{entries_append, entries_cons, entries_few}
use Rattle.tree_index.proofs.Starts.{no_entries, entries_long}
use Rattle.tree_edit.specs.Inner.Moving.{moved, Movable, Part, Fits, Rewrites, moved_spans}

-- move_entry
module _ (start old new : ℕ) (i o o' : List ℕ) (at n : ℕ) {from z : ℕ} (ef : from ≡ pair_at i at) (ez : z ≡ pair_at i (at + 2)) where
  pub put_behind : start + old ≤ from → o' ≡ spliced o n (entry (span (from + new - old) z)) → o' ≡ spliced o n (entry (moved start old new (span (pair_at i at) (pair_at i (at + 2)))))
  unfolding moved
  put_behind h e = rw (← ef, ← ez, le-leb (start + old) from h) e

  pub put_around : from < start + old → start < from + z → o' ≡ spliced o n (entry (span from (z + new - old)))
      → o' ≡ spliced o n (entry (moved start old new (span (pair_at i at) (pair_at i (at + 2)))))
  unfolding moved
  put_around h k e = rw (← ef, ← ez, lt-leb (start + old) from h, lt-ltb start (from + z) k) e

  pub put_before : from < start + old → from + z ≤ start → o' ≡ spliced o n (entry (span from z))
      → o' ≡ spliced o n (entry (moved start old new (span (pair_at i at) (pair_at i (at + 2)))))
  unfolding moved
  put_before h k e = rw (← ef, ← ez, lt-leb (start + old) from h, le-ltb start (from + z) k) e

-- Entries are as many bytes as before.
pub moved_long : (start old new : ℕ) (e : Span) → length (entry (moved start old new e)) ≡ 4
moved_long start old new e = go (moved start old new e)
  where
    go : (e : Span) → length (entry e) ≡ 4
    go (span s z) = entry_length s z

pub map_long : (h : Span → Span) → ((e : Span) → length (entry (h e)) ≡ 4) → (l : List Span) → length (entries (map h l)) ≡ length (entries l)
map_long h q [] = refl
map_long h q (span s z ∷ l) =
    ap length (entries_cons (h (span s z)) (map h l))
    ∙ (length-append (entry (h (span s z))) (entries (map h l)) ∙ (omega (arith, q (span s z), map_long h q l, entries_long s z l)))

no_more : (v : List ℕ) → v ++ entries [] ≡ v
unfolding entries concat_map
no_more v = append-nil v

-- move_entries: the entries that are still to be put, and what was put.
pub record Moving (i o o' : List ℕ) (from stop start old new n p : ℕ) (l : List Span) : Type 0 where
  pub left : List Span
  pub dealt : List ℕ
  pub part : Part i p stop left
  pub all : entries (map (moved start old new) l) ≡ dealt ++ entries (map (moved start old new) left)
  pub put : o' ≡ spliced o n dealt
  pub end : p ≡ from + length dealt
  pub movable : (top : ℕ) → Movable start old top l → Movable start old top left

pub move_begin : {i o : List ℕ} {from stop start old new n : ℕ} {l : List Span} → Part i from stop l → Moving i o o from stop start old new n from l
move_begin {i} {o} {from} {stop} {start} {old} {new} {n} {l} h = record {
  left = l;
  dealt = [];
  part = h;
  all = refl;
  put = nothing_spliced o n;
  end = omega arith;
  movable = λ top q. q;
}

-- The first of the entries that are left.
pub record First (i : List ℕ) (p stop : ℕ) (left : List Span) : Type 0 where
  pub start : ℕ
  pub long : ℕ
  pub others : List Span
  pub is : left ≡ span start long ∷ others
  pub part : Part i (p + 4) stop others
  pub read : (v : List ℕ) × Entry i p start long v
  pub room : p + 4 ≤ stop

first_of : (i : List ℕ) (p stop : ℕ) (left : List Span) → Part i p stop left → p < stop → First i p stop left
first_of i p stop [] h k = let e = h.end in absurd (omega (arith, no_entries))
first_of i p stop (span s z ∷ others) h k =
    let e : drop p i ≡ entry (span s z) ++ (entries others ++ h.rest) =
    h.is ∙ (ap (λ (v : List ℕ). v ++ h.rest) (entries_cons (span s z) others) ∙ append_assoc (entry (span s z)) (entries others) h.rest) in
    let r = entry_read i p s z (entries others ++ h.rest) e in
    let n = entries_long s z others in
    let q = h.end in
    record {
      start = s;
      long = z;
      others = others;
      is = refl;
      part = record { rest = h.rest; is = r.others; end = omega arith };
      read = (entries others ++ h.rest, r);
      room = omega arith;
    }

module _ {i o o' : List ℕ} {from stop start old new n p : ℕ} {l : List Span} (w : Moving i o o' from stop start old new n p l) where
  pub move_done : stop ≤ p → o' ≡ spliced o n (entries (map (moved start old new) l))
  move_done h =
      let mv = moved start old new in
      let none : w.left ≡ [] = go w.left w.part in
      let z : entries (map mv l) ≡ w.dealt = w.all ∙ (ap (λ (v : List Span). w.dealt ++ entries (map mv v)) none ∙ no_more w.dealt) in
      w.put ∙ ap (spliced o n) (sym z)
    where
      go : (left : List Span) → Part i p stop left → left ≡ []
      go [] q = refl
      go (span s x ∷ left) q = let e = q.end in absurd (omega (arith, entries_long s x left))

  module _ (here : p < stop) where
    pub move_first : First i p stop w.left
    move_first = first_of i p stop w.left w.part here

    -- What `move_entry` asks for.
    pub move_inside : (p + 4 ≤ length i) × (p + 4 ≤ stop) × (from ≤ p)
    move_inside = let d = w.end in (move_first.read.1.inside, move_first.room, omega arith)

    module _ {top : ℕ} (movable : Movable start old top l) (fits : Fits old new top) where
      first_movable : (move_first.start + move_first.long ≤ top) × (start < move_first.start + move_first.long → move_first.start < start + old → old ≤ move_first.long)
      first_movable =
          let v : Movable start old top (span move_first.start move_first.long ∷ move_first.others) = rw move_first.is at (w.movable top movable) in
          (v.0, v.1)

      pub move_fits : Fits old new (pair_at i p + pair_at i (p + 2))
      move_fits =
          let r = move_first.read.1 in
          let v = first_movable in
          record { before = omega (arith, r.start, r.long, v.0, fits.before); after = omega (arith, r.start, r.long, v.0, fits.after) }

      pub move_apart : start < pair_at i p + pair_at i (p + 2) → pair_at i p < start + old → old ≤ pair_at i (p + 2)
      move_apart h k =
          let r = move_first.read.1 in
          let a : start < move_first.start + move_first.long = omega (arith, h, r.start, r.long) in
          let b : move_first.start < start + old = omega (arith, k, r.start) in
          omega (arith, first_movable.1 a b, r.long)

    pub move_next : n + (stop - from) ≤ length o → {o'' : List ℕ} → o'' ≡ spliced o' (n + (p - from)) (entry (moved start old new (span (pair_at i p) (pair_at i (p + 2)))))
        → Moving i o o'' from stop start old new n (p + 4) l
    move_next room {o''} e =
        let f = move_first in
        let r = f.read.1 in
        let mv = moved start old new in
        let one = entry (mv (span f.start f.long)) in
        let four = moved_long start old new (span f.start f.long) in
        let m : n + (p - from) ≡ n + length w.dealt = omega (arith, w.end) in
        let e' : o'' ≡ spliced o' (n + (p - from)) one =
        e ∙ (ap (λ (x : ℕ). spliced o' (n + (p - from)) (entry (mv (span x (pair_at i (p + 2)))))) r.start ∙ ap (λ (x : ℕ). spliced o' (n + (p - from)) (entry (mv (span f.start x)))) r.long) in
        let fit : n + length w.dealt ≤ length o = omega (arith, w.end, f.room) in
        record {
          left = f.others;
          dealt = w.dealt ++ one;
          part = f.part;
          all =
              w.all ∙ (ap (λ (v : List Span). w.dealt ++ entries (map mv v)) f.is
              ∙ (ap (λ (v : List ℕ). w.dealt ++ v) (entries_cons (mv (span f.start f.long)) (map mv f.others))
              ∙ sym (append_assoc w.dealt one (entries (map mv f.others)))));
          put = e' ∙ (ap (λ (v : List ℕ). spliced v (n + (p - from)) one) w.put ∙ (ap (λ (j : ℕ). spliced (spliced o n w.dealt) j one) m ∙ splice_splice o n w.dealt fit one));
          end = omega (arith, w.end, length-append w.dealt one, four);
          movable = λ top y.
              let v : Movable start old top (span f.start f.long ∷ f.others) = rw f.is at (w.movable top y) in
              v.2;
        }

-- put_plan
stores_fit : (v o o' : List ℕ) (n : ℕ) (r : Option ℕ) → Stores v o o' n r → n + length v ≤ length o → o' ≡ spliced o n v
stores_fit v o o' n (Some m) w h = (w.done m refl).bytes
stores_fit v o o' n None w h = absurd (omega (arith, w.full refl))

module _ (b : List ℕ) (start stop : ℕ) (block o o₁ o₂ : List ℕ) (rise : start ≤ stop) (inside : stop ≤ length b)
    (room : start + length block + (length b - stop) ≤ length o) where
  first_slice : slice 0 start b ≡ take start b
  first_slice = refl

  block_slice : slice 0 (length block) block ≡ block
  block_slice = take-length block

  last_slice : slice stop (length b) b ≡ drop stop b
  last_slice = ap (drop stop) (take-length b)

  pub plan_put : (r r' : Option ℕ) → Stores (slice 0 start b ++ slice 0 (length block) block) o o₁ 0 r → length o₁ ≡ length o
      → Stores (slice stop (length b) b) o₁ o₂ (start + length block) r' → o₂ ≡ spliced o 0 (take start b ++ (block ++ drop stop b))
  plan_put r r' w long v =
      let n : length (take start b) ≡ start = length-take-le start b (omega arith) in
      let c = length-append (take start b) block in
      let d : length (drop stop b) ≡ length b - stop = length-drop stop b in
      let w' : Stores (take start b ++ block) o o₁ 0 r = rw (first_slice, block_slice) at w in
      let v' : Stores (drop stop b) o₁ o₂ (start + length block) r' = rw last_slice at v in
      let x : o₁ ≡ spliced o 0 (take start b ++ block) = stores_fit (take start b ++ block) o o₁ 0 r w' (omega arith) in
      let y : o₂ ≡ spliced o₁ (start + length block) (drop stop b) = stores_fit (drop stop b) o₁ o₂ (start + length block) r' v' (omega arith) in
      let z : start + length block ≡ 0 + length (take start b ++ block) = omega arith in
      y ∙ (ap (λ (u : List ℕ). spliced u (start + length block) (drop stop b)) x
      ∙ (ap (λ (j : ℕ). spliced (spliced o 0 (take start b ++ block)) j (drop stop b)) z
      ∙ (splice_splice o 0 (take start b ++ block) (omega arith) (drop stop b) ∙ ap (spliced o 0) (append_assoc (take start b) block (drop stop b)))))

-- put_index
module _ {x s block i : List ℕ} {of start old top p q : ℕ} {l : Language} {a u : Code} {front back : List Span}
    (w : Rewrites x s block i of start old top p q l a u front back) where
  all_entries : i ≡ entries front ++ (entries (spans start a) ++ entries back)
  all_entries =
      w.parted.is ∙ (entries_append front (spans start a ++ back) ∙ ap (λ (v : List ℕ). entries front ++ v) (entries_append (spans start a) back))

  pub front_part : Part i 0 p front
  front_part = record { rest = entries (spans start a) ++ entries back; is = all_entries; end = w.first ∙ omega arith }

  pub index_long : length i ≡ length (entries front) + (length (entries (spans start a)) + length (entries back))
  index_long =
      ap length all_entries ∙ (length-append (entries front) (entries (spans start a) ++ entries back)
      ∙ ap (λ (n : ℕ). length (entries front) + n) (length-append (entries (spans start a)) (entries back)))

  pub back_part : Part i q (length i) back
  back_part =
      let n = index_long in
      let f = w.first in
      let g = w.last in
      let e : q ≡ length (entries front) + length (entries (spans start a)) = omega arith in
      record {
        rest = [];
        is =
            ap (λ (j : ℕ). drop j i) e
            ∙ (sym (drop-drop (length (entries (spans start a))) (length (entries front)) i)
            ∙ (ap (λ (v : List ℕ). drop (length (entries (spans start a))) (drop (length (entries front)) v)) all_entries
            ∙ (ap (drop (length (entries (spans start a)))) (drop-append_seam (entries front) (entries (spans start a) ++ entries back))
            ∙ (drop-append_seam (entries (spans start a)) (entries back) ∙ sym (append-nil (entries back))))));
        end = omega arith;
      }

  -- The lengths of the three parts.
  pub new_long : length (entries (moved_spans start old u front back)) ≡ p + length (entries (spans start u)) + (length i - q)
  new_long =
      let mv = moved start old (size u) in
      let n = index_long in
      let f = w.first in
      let g = w.last in
      let a' = map_long mv (moved_long start old (size u)) front in
      let b' = map_long mv (moved_long start old (size u)) back in
      ap length (entries_append (map mv front) (spans start u ++ map mv back))
      ∙ (length-append (entries (map mv front)) (entries (spans start u ++ map mv back))
      ∙ (ap (λ (j : ℕ). length (entries (map mv front)) + j) (ap length (entries_append (spans start u) (map mv back)) ∙ length-append (entries (spans start u)) (entries (map mv back)))
      ∙ omega arith))

  -- The places of the parts.
  pub parts_room : (room : ℕ) → length (entries (moved_spans start old u front back)) ≤ room
      → (p ≤ room) × (p ≤ 400000) × (p + length (entries (spans start u)) + (length i - q) ≤ room) × (p + length (entries (spans start u)) + (length i - q) < last_place)
      × (start + old ≤ longest)
  parts_room room h =
      let n = index_long in
      let f = w.first in
      let g = w.last in
      let long = new_long in
      let few = entries_few u start in
      let k = w.few in
      let short = w.short in
      let e = w.whole in
      let top = w.inside in
      let b = w.fits.before in
      (omega arith, omega arith, omega arith, omega arith, omega arith)

  module _ (o : List ℕ) {o₁ o₂ o₃ : List ℕ} (room : length (entries (moved_spans start old u front back)) ≤ length o) {m : ℕ} where
    pub index_put : o₁ ≡ spliced o 0 (entries (map (moved start old (length block)) front)) → length o₁ ≡ length o
        → (m ≡ p + length (entries (spans start u))) × (m ≤ length o₁ → o₂ ≡ spliced o₁ p (entries (spans start u))) → length o₂ ≡ length o₁
        → o₃ ≡ spliced o₂ m (entries (map (moved start old (length block)) back)) → o₃ ≡ spliced o 0 (entries (moved_spans start old u front back))
    index_put e₁ l₁ e₂ l₂ e₃ =
        let size-u : length block ≡ size u = w.whole in
        let mv = moved start old (size u) in
        let f₁ : o₁ ≡ spliced o 0 (entries (map mv front)) = e₁ ∙ ap (λ (j : ℕ). spliced o 0 (entries (map (moved start old j) front))) size-u in
        let f₃ : o₃ ≡ spliced o₂ m (entries (map mv back)) = e₃ ∙ ap (λ (j : ℕ). spliced o₂ m (entries (map (moved start old j) back))) size-u in
        let long = new_long in
        let a' = map_long mv (moved_long start old (size u)) front in
        let f = w.first in
        let fit : m ≤ length o₁ = omega (arith, e₂.0) in
        let x = entries (map mv front) in
        let y = entries (spans start u) in
        let z = entries (map mv back) in
        let g₁ : p ≡ 0 + length x = omega arith in
        let g₂ : m ≡ 0 + length (x ++ y) = omega (arith, e₂.0, length-append x y) in
        let two : o₂ ≡ spliced o 0 (x ++ y) =
        e₂.1 fit ∙ (ap (λ (v : List ℕ). spliced v p y) f₁ ∙ (ap (λ (j : ℕ). spliced (spliced o 0 x) j y) g₁ ∙ splice_splice o 0 x (omega arith) y)) in
        f₃ ∙ (ap (λ (v : List ℕ). spliced v m z) two
        ∙ (ap (λ (j : ℕ). spliced (spliced o 0 (x ++ y)) j z) g₂
        ∙ (splice_splice o 0 (x ++ y) (omega (arith, length-append x y)) z
        ∙ ap (spliced o 0) (append_assoc x y z ∙ sym (entries_append (map mv front) (spans start u ++ map mv back) ∙ ap (λ (v : List ℕ). x ++ v) (entries_append (spans start u) (map mv back)))))))
