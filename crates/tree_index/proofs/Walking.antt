-- The walk that writes the entries of trees in a row: a law for each return and turn of `write_row`.
use Prim.Native.Nat.{ℕ, zero, suc, ◌+◌, ◌-◌, ◌*◌, ◌<◌, ◌≤◌}
use mathlib.Core.Path.{◌≡◌, refl, sym, ap, ◌∙◌}
use mathlib.Core.List.{List, [], ◌∷◌, ◌++◌, append_assoc, append-nil}
use native.Mathlib.Omega.{arith}
use lib.ListN.{length, get_or, drop, take, length-append}
use lib.Seq.{slice, drop-drop, drop-append_seam, take-append-le, drop_at, length-take-le, take-take}
use Rattle.format_fields.specs.Inner.Writing.{spliced}
use Rattle.format_fields.specs.Lists.{concat_map}
use Rattle.format_fields.proofs.Codec.{concat_append}
use Rattle.format_fields.proofs.Lists.{part_next}
use Rattle.format_fields.proofs.Splices.{opened, splice_splice, nothing_spliced}
use Rattle.format_language.specs.Language.{Language}
use Rattle.tree_reader.specs.Code.{Code, node, token, argument, Codes, nil, cons, levels, levels_all}
use Rattle.tree_reader.specs.Syntax.{write, write_all, tree}
use Rattle.tree_reader.specs.Inner.Positions.{KindsIn}
use Rattle.tree_index.specs.Spans.{Span, span, size, spans, spans_all, entry, entries}
use Rattle.tree_index.specs.Inner.Lying.{Row, Shape, production, value, Opens}
use Rattle.tree_index.specs.Inner.Marking.{last_place, Has, Puts, Writes}
use Rattle.tree_index.specs.declared.walk.Ends.{Ends}
use Rattle.tree_index.proofs.Rows.{kinds_end, Turn, turn, none_left}
use Rattle.tree_index.proofs.Pairs.{entry_length}

-- A tree by its shape.
pub shape_size : {l : Language} {k : ℕ} {t : Code} {ts : Codes} {ks : List ℕ} {f : ℕ} → Shape l k t ts ks f → size t ≡ f + length (write_all tree ts)
unfolding write
shape_size (production e) = omega arith
shape_size value = refl

pub shape_spans : {l : Language} {k : ℕ} {t : Code} {ts : Codes} {ks : List ℕ} {f : ℕ} → Shape l k t ts ks f → (a : ℕ)
    → spans a t ≡ span a (size t) ∷ spans_all (a + f) ts
unfolding spans
shape_spans (production e) a = refl
shape_spans value a = refl

pub shape_front : {l : Language} {k : ℕ} {t : Code} {ts : Codes} {ks : List ℕ} {f : ℕ} → Shape l k t ts ks f → 0 < f
shape_front (production e) = omega arith
shape_front value = omega arith

-- Operands have fewer levels than their node.
shape_levels : {l : Language} {k : ℕ} {t : Code} {ts : Codes} {ks : List ℕ} {f : ℕ} → Shape l k t ts ks f
    → (levels_all ts ≤ levels t) × (0 < length ks → levels_all ts < levels t)
unfolding levels
shape_levels (production e) = (omega arith, λ h. omega arith)
shape_levels value = (omega arith, λ h. absurd (omega arith))

-- The bytes of spans.
pub entries_append : (x y : List Span) → entries (x ++ y) ≡ entries x ++ entries y
unfolding entries
entries_append x y = concat_append entry x y

pub entries_cons : (e : Span) (y : List Span) → entries (e ∷ y) ≡ entry e ++ entries y
unfolding entries concat_map
entries_cons e y = refl

entries_none : length (entries []) ≡ 0
unfolding entries concat_map
entries_none = refl

-- There are no more entries than bytes.
mutual
  unfolding spans write

  pub entries_few : (t : Code) (a : ℕ) → length (entries (spans a t)) ≤ 4 * size t
  entries_few (node k p ts) a =
      let e = ap length (entries_cons (span a (size (node k p ts))) (spans_all (a + 1) ts)) ∙ length-append (entry (span a (size (node k p ts)))) (entries (spans_all (a + 1) ts)) in
      omega (arith, e, entry_length a (size (node k p ts)), entries_few_all ts (a + 1))
  entries_few (token v) a =
      let e = ap length (entries_cons (span a 2) []) ∙ length-append (entry (span a 2)) (entries []) in
      omega (arith, e, entry_length a 2, entries_none)
  entries_few (argument i zero) a =
      let e = ap length (entries_cons (span a 1) []) ∙ length-append (entry (span a 1)) (entries []) in
      omega (arith, e, entry_length a 1, entries_none)
  entries_few (argument i (suc j)) a =
      let e = ap length (entries_cons (span a 2) []) ∙ length-append (entry (span a 2)) (entries []) in
      omega (arith, e, entry_length a 2, entries_none)

  pub entries_few_all : (ts : Codes) (a : ℕ) → length (entries (spans_all a ts)) ≤ 4 * length (write_all tree ts)
  entries_few_all nil a = omega (arith, entries_none)
  entries_few_all (cons t ts) a =
      let e = ap length (entries_append (spans a t) (spans_all (a + size t) ts)) ∙ length-append (entries (spans a t)) (entries (spans_all (a + size t) ts)) in
      omega (arith, e, length-append (write tree t) (write_all tree ts), entries_few t a, entries_few_all ts (a + size t))

-- What stands in an index, one part behind another.
module _ (i : List ℕ) (n : ℕ) (v u : List ℕ) where
  pub has_front : Has i n (v ++ u) → Has i n v
  has_front h = record { rest = u ++ h.rest; is = h.is ∙ append_assoc v u h.rest }

  pub has_back : Has i n (v ++ u) → (m : ℕ) → m ≡ n + length v → Has i m u
  has_back h m e = rw e (record {
    rest = h.rest;
    is = sym (drop-drop (length v) n i) ∙ (ap (drop (length v)) (h.is ∙ append_assoc v u h.rest) ∙ drop-append_seam v (u ++ h.rest));
  })

  pub has_both : Has i n v → (m : ℕ) → m ≡ n + length v → Has i m u → Has i n (v ++ u)
  has_both h m e k =
      let z : h.rest ≡ u ++ k.rest = sym (drop-append_seam v h.rest) ∙ (ap (drop (length v)) (sym h.is) ∙ (drop-drop (length v) n i ∙ (ap (λ (j : ℕ). drop j i) (sym e) ∙ k.is))) in
      record { rest = k.rest; is = h.is ∙ (ap (λ (r : List ℕ). v ++ r) z ∙ sym (append_assoc v u k.rest)) }

-- What is written in front of what was written.
splice_before : (o : List ℕ) (n m : ℕ) (e v : List ℕ) → m ≡ n + length e → m + length v ≤ length o → spliced (spliced o m v) n e ≡ spliced o n (e ++ v)
splice_before o n m e v q h =
    let rest = drop (m + length v) o in
    let front : length (take m o) ≡ m = length-take-le m o (omega arith) in
    let a : take n (take m o ++ (v ++ rest)) ≡ take n o = take-append-le n (take m o) (v ++ rest) (omega arith) ∙ take-take n m o (omega arith) in
    let b : drop (n + length e) (take m o ++ (v ++ rest)) ≡ v ++ rest = ap (λ (j : ℕ). drop j (take m o ++ (v ++ rest))) (sym q) ∙ drop_at (take m o) (v ++ rest) m front in
    let c : m + length v ≡ n + length (e ++ v) = omega (arith, length-append e v) in
    rw (opened o m v, opened (take m o ++ (v ++ rest)) n e, a, b, opened o n (e ++ v), ← c, append_assoc e v rest) refl

-- One part written behind another, or in front of it.
module _ (v u o o₁ o₂ : List ℕ) where
  pub puts_then : (n m k : ℕ) → Puts v o o₁ n m → Puts u o₁ o₂ m k → length o₁ ≡ length o → Puts (v ++ u) o o₂ n k
  puts_then n m k a b l = record {
    end = omega (arith, length-append v u, a.end, b.end);
    put = λ h.
        let be = b.end in
        let f : n + length v ≤ length o = omega (arith, a.end) in
        b.put (omega arith) ∙ (ap (λ (p : List ℕ). spliced p m u) (a.put (omega arith)) ∙ (ap (λ (j : ℕ). spliced (spliced o n v) j u) a.end ∙ splice_splice o n v f u));
  }

  pub puts_before : (n m k : ℕ) → Puts u o o₁ m k → Puts v o₁ o₂ n m → length o₁ ≡ length o → Puts (v ++ u) o o₂ n k
  puts_before n m k a b l = record {
    end = omega (arith, length-append v u, a.end, b.end);
    put = λ h.
        let ae = a.end in
        b.put (omega arith) ∙ (ap (λ (p : List ℕ). spliced p n v) (a.put h) ∙ splice_before o n m v u b.end (omega arith));
  }

pub puts_nothing : (o : List ℕ) (n : ℕ) → Puts [] o o n n
puts_nothing o n = record { end = omega arith; put = λ h. nothing_spliced o n }

-- An entry that was put, where its span is told by other numbers.
pub puts_entry : (o o' : List ℕ) (n s z t y : ℕ) → (n + 4 ≤ length o → o' ≡ spliced o n (entry (span s z))) → s ≡ t → z ≡ y → Puts (entry (span t y)) o o' n (n + 4)
puts_entry o o' n s z t y f e g = rw (← e, ← g) (record { end = omega (arith, entry_length s z); put = f })

-- Where no trees are left.
pub no_trees : (a : ℕ) (ts : Codes) → ts ≡ nil → (entries (spans_all a ts) ≡ []) × (length (write_all tree ts) ≡ 0)
unfolding spans write entries concat_map
no_trees a ts e = rw e (refl, refl)

-- The first of trees in a row, by its operands, and the others.
module _ (x s b : List ℕ) (to q last : ℕ) (l : Language) (ts : Codes) (v : Turn x s b to q last l ts) where
  pub turn_long : length (write_all tree ts) ≡ size v.head + length (write_all tree v.tail)
  unfolding write
  turn_long = ap (λ (c : Codes). length (write_all tree c)) v.is ∙ length-append (write tree v.head) (write_all tree v.tail)

  pub turn_spans : (a : ℕ) → entries (spans_all a ts) ≡ entries (spans a v.head) ++ entries (spans_all (a + size v.head) v.tail)
  unfolding spans
  turn_spans a = ap (λ (c : Codes). entries (spans_all a c)) v.is ∙ entries_append (spans a v.head) (spans_all (a + size v.head) v.tail)

  pub turn_levels : (levels v.head ≤ levels_all ts) × (levels_all v.tail ≤ levels_all ts)
  unfolding levels
  turn_levels = let e : levels_all ts ≡ levels_all (cons v.head v.tail) = ap levels_all v.is in (omega arith, omega arith)

  module _ (k f e t : ℕ) (p : Opens x s b to k l v.head f e t) where
    pub turn_flat : levels_all p.operands ≤ levels_all ts
    turn_flat = omega (arith, (shape_levels p.shape).0, turn_levels.0)

    pub turn_below : f < e → levels_all p.operands < levels_all ts
    turn_below h =
        let i = kinds_end s f e f p.kinds (omega arith) h in
        let g : slice f e s ≡ get_or s f 0 ∷ slice (f + 1) e s = sym (part_next (λ (z : List ℕ). z) s f e (slice f e s) refl h i) in
        let n : 0 < length (slice f e s) = rw g (omega arith) in
        omega (arith, (shape_levels p.shape).1 n, turn_levels.0)

    pub turn_ahead : (to < t) × (t ≤ length b)
    turn_ahead = let y = shape_front p.shape in (omega (arith, p.past), p.row.lie.inside)

    pub turn_end : to + size v.head ≡ t + length (write_all tree p.operands)
    turn_end = let y = shape_size p.shape in omega (arith, p.past)

    module _ (base a c d : ℕ) (ea : a ≡ base + to) (ec : c ≡ base + t) (ed : d ≡ base + (to + size v.head)) where
      pub turn_are : entries (spans_all a ts) ≡ entry (span a (size v.head)) ++ (entries (spans_all c p.operands) ++ entries (spans_all d v.tail))
      turn_are =
          let y : a + p.front ≡ c = omega (arith, p.past) in
          let z : a + size v.head ≡ d = omega arith in
          turn_spans a
          ∙ (ap (λ (j : ℕ). entries (spans a v.head) ++ entries (spans_all j v.tail)) z
          ∙ (ap (λ (g : List Span). entries g ++ entries (spans_all d v.tail)) (shape_spans p.shape a ∙ ap (λ (j : ℕ). span a (size v.head) ∷ spans_all j p.operands) y)
          ∙ (ap (λ (g : List ℕ). g ++ entries (spans_all d v.tail)) (entries_cons (span a (size v.head)) (spans_all c p.operands))
          ∙ append_assoc (entry (span a (size v.head))) (entries (spans_all c p.operands)) (entries (spans_all d v.tail)))))

-- Where the loop stands: the trees whose entries are still to be written, and the entries of those before them.
pub record Walking (x s b : List ℕ) (base : ℕ) (o o' : List ℕ) (n at : ℕ) (ts : Codes) (q last to m : ℕ) (l : Language) : Type 0 where
  pub others : Codes
  pub dealt : List ℕ
  pub row : Row x s b to q last l others
  pub kinds : KindsIn s q last
  pub puts : Puts dealt o o' n m
  pub all : entries (spans_all (base + at) ts) ≡ dealt ++ entries (spans_all (base + to) others)
  pub ends : to + length (write_all tree others) ≡ at + length (write_all tree ts)
  pub few : m + 4 * (length b - to) ≤ last_place
  pub flat : levels_all others ≤ levels_all ts

module _ {x s b : List ℕ} {base : ℕ} {o : List ℕ} {n at : ℕ} {ts : Codes} {l : Language} where
  pub walk_begin : {first last : ℕ} → KindsIn s first last → Row x s b at first last l ts → n + 4 * (length b - at) ≤ last_place → Walking x s b base o o n at ts first last at n l
  walk_begin k r h = record { others = ts; dealt = []; row = r; kinds = k; puts = puts_nothing o n; all = refl; ends = refl; few = h; flat = omega arith }

  module _ {o' : List ℕ} {q last to m : ℕ} (w : Walking x s b base o o' n at ts q last to m l) where
    pub walk_done : last ≤ q → {r : Ends} → r.trees ≡ to → r.entries ≡ m → Writes (entries (spans_all (base + at) ts)) o o' n (at + length (write_all tree ts)) r
    walk_done done {r} et em =
        let z = no_trees (base + to) w.others (none_left x s b to q last l w.others w.row done) in
        let a : entries (spans_all (base + at) ts) ≡ w.dealt = w.all ∙ (ap (λ (v : List ℕ). w.dealt ++ v) z.0 ∙ append-nil w.dealt) in
        record { trees = omega (arith, w.ends, z.1); puts = rw (a, em) w.puts }

    module _ (here : q < last) where
      pub walk_turn : Turn x s b to q last l w.others
      walk_turn = turn x s b to q last l w.others w.row here (kinds_end s q last q w.kinds (omega arith) here)

      pub walk_kind : q < length s
      walk_kind = (w.kinds q (omega arith) here).0

      module _ {f e t : ℕ} (p : Opens x s b to (get_or s q 0) l walk_turn.head f e t) where
        abbrev inner : List ℕ
        inner = entries (spans_all (base + t) p.operands)

        -- The operands have fewer levels than all trees.
        pub walk_below : f < e → levels_all p.operands < levels_all ts
        walk_below h = omega (arith, turn_below x s b to q last l w.others walk_turn (get_or s q 0) f e t p h, w.flat)

        -- What is known of the numbers.
        pub walk_ahead : (to < t) × (t ≤ length b)
        walk_ahead = turn_ahead x s b to q last l w.others walk_turn (get_or s q 0) f e t p

        pub walk_few : m + 4 + 4 * (length b - t) ≤ last_place
        walk_few = omega (arith, w.few, walk_ahead.0, walk_ahead.1)

        -- The operands end in the bytes.
        pub walk_inside : t + length (write_all tree p.operands) ≤ length b
        walk_inside =
            let y = turn_end x s b to q last l w.others walk_turn (get_or s q 0) f e t p in
            omega (arith, walk_turn.row.lie.inside)

        -- The operands' entries are written, then the node's own.
        module _ {o₁ o₂ : List ℕ} {k end a z : ℕ} (pi : Puts inner o' o₁ (m + 4) k) (ee : end ≡ t + length (write_all tree p.operands))
            (ea : a ≡ base + to) (ez : z ≡ end - to) (ep : m + 4 ≤ length o₁ → o₂ ≡ spliced o₁ m (entry (span a z))) where
          pub walk_next : length o' ≡ length o → length o₁ ≡ length o' → Walking x s b base o o₂ n at ts (q + 1) last end k l
          walk_next long same =
              let y : end ≡ to + size walk_turn.head = ee ∙ sym (turn_end x s b to q last l w.others walk_turn (get_or s q 0) f e t p) in
              let own = puts_entry o₁ o₂ m a z (base + to) (size walk_turn.head) ep ea (omega arith) in
              let both = puts_before (entry (span (base + to) (size walk_turn.head))) inner o' o₁ o₂ m (m + 4) k pi own same in
              let v = entry (span (base + to) (size walk_turn.head)) ++ inner in
              let are = turn_are x s b to q last l w.others walk_turn (get_or s q 0) f e t p base (base + to) (base + t) (base + end) refl refl (omega arith) in
              let behind = entries (spans_all (base + end) walk_turn.tail) in
              let len = turn_long x s b to q last l w.others walk_turn in
              let small = entries_few_all p.operands (base + t) in
              record {
                others = walk_turn.tail;
                dealt = w.dealt ++ v;
                row = rw y walk_turn.row;
                kinds = λ j c d. w.kinds j (omega arith) d;
                puts = puts_then w.dealt v o o' o₂ n m k w.puts both long;
                all = w.all
                    ∙ (ap (λ (g : List ℕ). w.dealt ++ g) (are ∙ sym (append_assoc (entry (span (base + to) (size walk_turn.head))) inner behind))
                    ∙ sym (append_assoc w.dealt v behind));
                ends = omega (arith, w.ends);
                few = omega (arith, w.few, pi.end, walk_ahead.0, walk_ahead.1, walk_inside);
                flat = omega (arith, w.flat, (turn_levels x s b to q last l w.others walk_turn).1);
              }

        -- A node that has no operands.
        module _ (none : e ≤ f) where
          none_inner : (inner ≡ []) × (length (write_all tree p.operands) ≡ 0)
          none_inner = no_trees (base + t) p.operands (none_left x s b t f e l p.operands p.row none)

          pub leaf_next : {o₂ : List ℕ} {a z : ℕ} → a ≡ base + to → z ≡ t - to → (m + 4 ≤ length o' → o₂ ≡ spliced o' m (entry (span a z)))
              → length o' ≡ length o → Walking x s b base o o₂ n at ts (q + 1) last t (m + 4) l
          leaf_next ea ez ep long =
              walk_next (rw none_inner.0 (puts_nothing o' (m + 4))) (omega (arith, none_inner.1)) ea ez ep long refl
