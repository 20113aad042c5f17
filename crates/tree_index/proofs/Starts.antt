-- Spans by their starts: a law for each return and turn of `entry_from`.
use Prim.Native.Nat.{ℕ, zero, suc, ◌+◌, ◌-◌, ◌<◌, ◌≤◌}
use mathlib.Core.Path.{◌≡◌, refl, sym, ap, ◌∙◌}
use mathlib.Core.List.{List, [], ◌∷◌, ◌++◌, append_assoc, append-nil}
use native.Mathlib.Omega.{arith}
use lib.ListN.{length, drop, length-append, length-drop}
use Rattle.format_fields.specs.Fields.{pair_at}
use Rattle.format_fields.specs.Lists.{concat_map}
use Rattle.tree_reader.specs.Code.{Code, node, token, argument, Codes, nil, cons}
use Rattle.tree_reader.specs.Syntax.{write, write_all, tree}
use Rattle.tree_index.specs.Spans.{Span, span, size, spans, spans_all, entry, entries, index_of}
use Rattle.tree_index.specs.Inner.Starts.{Below, Behind, Splits, Entered}
use Rattle.tree_index.proofs.Pairs.{entry_length, Entry, entry_read}
use Rattle.tree_index.proofs.Walking.{entries_append, entries_cons}

-- The first span of a tree is its own.
pub own_span : (a : ℕ) (t : Code) → (r : List Span) × (spans a t ≡ span a (size t) ∷ r)
unfolding spans
own_span a (node k p ts) = (spans_all (a + 1) ts, refl)
own_span a (token v) = ([], refl)
own_span a (argument i j) = ([], refl)

pub below_append : (x : ℕ) (l m : List Span) → Below x l → Below x m → Below x (l ++ m)
below_append x [] m h k = k
below_append x (span s n ∷ l) m h k = (h.0, below_append x l m h.1 k)

-- The spans of a tree start before it ends.
mutual
  unfolding spans write

  pub spans_below : (t : Code) (a x : ℕ) → a + size t ≤ x → Below x (spans a t)
  spans_below (node k p ts) a x h = (omega arith, spans_all_below ts (a + 1) x (omega arith))
  spans_below (token v) a x h = (omega arith, tt)
  spans_below (argument i zero) a x h = (omega arith, tt)
  spans_below (argument i (suc j)) a x h = (omega arith, tt)

  pub spans_all_below : (ts : Codes) (a x : ℕ) → a + length (write_all tree ts) ≤ x → Below x (spans_all a ts)
  spans_all_below nil a x h = tt
  spans_all_below (cons t ts) a x h =
      let n = length-append (write tree t) (write_all tree ts) in
      below_append x (spans a t) (spans_all (a + size t) ts) (spans_below t a x (omega arith)) (spans_all_below ts (a + size t) x (omega arith))

-- What stands behind trees in a row starts where they end, or behind.
pub row_behind : (ts : Codes) (a : ℕ) (rest : List Span) → Behind (a + length (write_all tree ts)) rest → Behind a (spans_all a ts ++ rest)
unfolding spans write
row_behind nil a [] h = tt
row_behind nil a (span s n ∷ rest) h = omega arith
row_behind (cons t ts) a rest h =
    let o = own_span a t in
    let e : spans_all a (cons t ts) ++ rest ≡ span a (size t) ∷ (o.0 ++ (spans_all (a + size t) ts ++ rest)) =
    ap (λ (z : List Span). (z ++ spans_all (a + size t) ts) ++ rest) o.1 ∙ ap (λ (z : List Span). span a (size t) ∷ z) (append_assoc o.0 (spans_all (a + size t) ts) rest) in
    rw e (omega arith)

-- The entry of a tree is its first.
pub entered_own : (i : List ℕ) (p at : ℕ) (t : Code) → Entered i p at t → (v : List ℕ) × Entry i p at (size t) v
entered_own i p at t h =
    let o = own_span at t in
    let e : drop p i ≡ entry (span at (size t)) ++ entries (o.0 ++ h.rest) =
    h.is ∙ (ap (λ (z : List Span). entries (z ++ h.rest)) o.1 ∙ entries_cons (span at (size t)) (o.0 ++ h.rest)) in
    (entries (o.0 ++ h.rest), entry_read i p at (size t) (entries (o.0 ++ h.rest)) e)

-- The entries of a whole tree, in its own index.
pub own_entered : (i : List ℕ) (t : Code) → i ≡ index_of t → Entered i 0 0 t
unfolding index_of
own_entered i t e = record { rest = []; is = e ∙ ap entries (sym (append-nil (spans 0 t))); behind = tt }

-- entry_from: the spans that are still to be passed.
pub record Passing (i : List ℕ) (entry position p : ℕ) (front back : List Span) : Type 0 where
  pub left : List Span
  pub splits : Splits i p position left back
  pub same : p + length (entries left) ≡ entry + length (entries front)

first_read : (i : List ℕ) (p s n : ℕ) (l : List Span) → drop p i ≡ entries (span s n ∷ l) → Entry i p s n (entries l)
first_read i p s n l e = entry_read i p s n (entries l) (e ∙ entries_cons (span s n) l)

pub entries_long : (s n : ℕ) (l : List Span) → length (entries (span s n ∷ l)) ≡ 4 + length (entries l)
entries_long s n l = ap length (entries_cons (span s n) l) ∙ (length-append (entry (span s n)) (entries l) ∙ ap (λ (m : ℕ). m + length (entries l)) (entry_length s n))

pub no_entries : length (entries []) ≡ 0
unfolding entries concat_map
no_entries = refl

module _ (i : List ℕ) (position p : ℕ) where
  none_here : (left back : List Span) → Splits i p position left back → position ≤ pair_at i p → length (entries left) ≡ 0
  none_here [] back w h = no_entries
  none_here (span s n ∷ left) back w h =
      let r = first_read i p s n (left ++ back) w.is in
      absurd (omega (arith, r.start, w.below.0))

  past_here : (left back : List Span) → Splits i p position left back → p < length i → pair_at i p < position
      → (l : List Span) × Splits i (p + 4) position l back × (length (entries left) ≡ 4 + length (entries l))
  past_here [] [] w h k =
      let z : length i - p ≡ length (entries []) = sym (length-drop p i) ∙ ap length w.is in
      absurd (omega (arith, no_entries))
  past_here [] (span s n ∷ back) w h k =
      let r = first_read i p s n back w.is in
      absurd (omega (arith, r.start, w.behind))
  past_here (span s n ∷ left) back w h k =
      let r = first_read i p s n (left ++ back) w.is in
      (left, record { is = r.others; below = w.below.1; behind = w.behind }, entries_long s n left)

module _ (i : List ℕ) (entry position p : ℕ) (front back : List Span) (w : Passing i entry position p front back) (x : ℕ) (ex : x ≡ pair_at i p) where
  pub pass_stop : position ≤ x → p ≡ entry + length (entries front)
  pass_stop h = let z = none_here i position p w.left back w.splits (omega arith) in omega (arith, w.same)

  pub pass_on : p < length i → (position ≤ x → ⊥) → Passing i entry position (p + 4) front back
  pass_on h k =
      let z = past_here i position p w.left back w.splits h (omega arith) in
      record { left = z.0; splits = z.1; same = omega (arith, w.same, z.2) }

-- How long the entries are that stand in an index from a place on.
splits_long : {i : List ℕ} {p x : ℕ} {front back : List Span} → Splits i p x front back → length i - p ≡ length (entries front) + length (entries back)
splits_long {i} {p} {x} {front} {back} w =
    sym (length-drop p i) ∙ (ap length (w.is ∙ entries_append front back) ∙ length-append (entries front) (entries back))

-- Behind the last entry: the index has those of the front, and no others.
pub pass_end : (i : List ℕ) (entry position p : ℕ) (front back : List Span) → Passing i entry position p front back → Splits i entry position front back
    → entry ≤ length i → length i ≤ p → length i ≡ entry + length (entries front)
pass_end i entry position p front back w h e d = omega (arith, splits_long w.splits, splits_long h)
