-- A tree with one block replaced: its bytes and its spans are the old ones in front of the block and behind it, moved.
use Prim.Native.Nat.{ℕ, zero, suc, ◌+◌, ◌-◌, ◌<◌, ◌≤◌}
use mathlib.Core.Path.{◌≡◌, refl, sym, ap, subst, ◌∙◌}
use mathlib.Core.Bool.{Bool, true, false, cond}
use mathlib.Core.List.{List, [], ◌∷◌, ◌++◌, map, append_assoc, append-nil}
use mathlib.Core.Option.{Option, none, some, get_or}
use native.Mathlib.Omega.{arith}
use lib.ListN.{length, take, drop, length-append}
use lib.Seq.{take-append_seam, drop-append_seam, drop-append-add}
use borrow.Author.Tests.{lt-ltb, le-ltb, le-leb, lt-leb}
use Rattle.format_fields.proofs.Truth.{none_some, some_inj}
use Rattle.format_language.specs.Language.{Language, arguments_of}
use Rattle.tree_reader.specs.Code.{Code, node, token, argument, Codes, nil, cons}
use Rattle.tree_reader.specs.Syntax.{write, write_all, tree}
use Rattle.tree_index.specs.Spans.{Span, span, size, spans, spans_all}
use Rattle.tree_index.specs.Inner.Starts.{Below, Behind}
use Rattle.tree_index.proofs.Starts.{own_span, below_append, spans_below}
use Rattle.tree_block.specs.Blocks.{Block, block_of, argument_after, argument_of, reached, nowhere, hidden, block_at}
use Rattle.tree_block.proofs.Reaching.{reached_inj, not_reached, nowhere_reached}
use Rattle.tree_edit.specs.Plans.{replace_after, replace_at}
use Rattle.tree_edit.specs.Inner.Moving.{moved, Movable}

-- The second tree is the first with its block a, which starts at s, replaced by b at a path. Both trees start at `at`.
mutual
  pub data Edited (a b : Code) (s : ℕ) : List ℕ → ℕ → Code → Code → Type 0 where
    whole : {c d : Code} {at : ℕ} → c ≡ a → d ≡ b → at ≡ s → Edited a b s [] at c d
    inside : {n k p at : ℕ} {path : List ℕ} {ts us : Codes} → EditedIn a b s n path (at + 1) ts us
        → Edited a b s (suc n ∷ path) at (node k p ts) (node k p us)

  pub data EditedIn (a b : Code) (s : ℕ) : ℕ → List ℕ → ℕ → Codes → Codes → Type 0 where
    here : {at : ℕ} {path : List ℕ} {c d : Code} {ts : Codes} → Edited a b s path at c d → EditedIn a b s 0 path at (cons c ts) (cons d ts)
    past : {n at : ℕ} {path : List ℕ} {c : Code} {ts us : Codes} → EditedIn a b s n path (at + size c) ts us
        → EditedIn a b s (suc n) path at (cons c ts) (cons c us)

-- Sizes.
pub size_some : (a : Code) → 1 ≤ size a
unfolding write
size_some (node k p t) = omega arith
size_some (token v) = omega arith
size_some (argument i zero) = omega arith
size_some (argument i (suc m)) = omega arith

size_cons : (a : Code) (ts : Codes) → length (write_all tree (cons a ts)) ≡ size a + length (write_all tree ts)
unfolding write
size_cons a ts = length-append (write tree a) (write_all tree ts)

-- Lists of spans.
map_append : (h : Span → Span) (x y : List Span) → map h (x ++ y) ≡ map h x ++ map h y
map_append h [] y = refl
map_append h (e ∷ x) y = ap (λ (z : List Span). h e ∷ z) (map_append h x y)

behind_append : (x : ℕ) (l m : List Span) → Behind x l → Behind x m → Behind x (l ++ m)
behind_append x [] m h k = k
behind_append x (span s n ∷ l) m h k = h

behind_row : (ts : Codes) (x y : ℕ) → x ≤ y → Behind x (spans_all y ts)
unfolding spans
behind_row nil x y h = tt
behind_row (cons t ts) x y h =
    let o = own_span y t in
    let e : spans_all y (cons t ts) ≡ span y (size t) ∷ (o.0 ++ spans_all (y + size t) ts) = ap (λ (z : List Span). z ++ spans_all (y + size t) ts) o.1 in
    rw e h

module _ (s old top : ℕ) where
  movable_append : (l m : List Span) → Movable s old top l → Movable s old top m → Movable s old top (l ++ m)
  movable_append [] m h k = k
  movable_append (span x n ∷ l) m h k = (h.0, h.1, movable_append l m h.2 k)

  -- The spans of a tree can be moved, where each of them can.
  abbrev Apart : ℕ → ℕ → Type 0
  Apart from to = (x n : ℕ) → from ≤ x → x + n ≤ to → s < x + n → x < s + old → old ≤ n

  mutual
    unfolding spans write

    movable_spans : (c : Code) (at : ℕ) → at + size c ≤ top → Apart at (at + size c) → Movable s old top (spans at c)
    movable_spans (node k p ts) at h q =
        (h, q at (size (node k p ts)) (omega arith) (omega arith), movable_all ts (at + 1) (omega arith) (λ x n i j. q x n (omega arith) (omega arith)))
    movable_spans (token v) at h q = (h, q at 2 (omega arith) (omega arith), tt)
    movable_spans (argument i zero) at h q = (h, q at 1 (omega arith) (omega arith), tt)
    movable_spans (argument i (suc m)) at h q = (h, q at 2 (omega arith) (omega arith), tt)

    movable_all : (ts : Codes) (at : ℕ) → at + length (write_all tree ts) ≤ top → Apart at (at + length (write_all tree ts)) → Movable s old top (spans_all at ts)
    movable_all nil at h q = tt
    movable_all (cons a ts) at h q =
        let n = length-append (write tree a) (write_all tree ts) in
        movable_append (spans at a) (spans_all (at + size a) ts) (movable_spans a at (omega arith) (λ x m i j. q x m i (omega arith)))
        (movable_all ts (at + size a) (omega arith) (λ x m i j. q x m (omega arith) (omega arith)))

-- One span moved.
module _ (s old new : ℕ) (some : 1 ≤ old) where
  moved_stays : (x n : ℕ) → x + n ≤ s → moved s old new (span x n) ≡ span x n
  unfolding moved
  moved_stays x n h = rw (lt-leb (s + old) x (omega arith), le-ltb s (x + n) h)

  moved_grows : (x n m : ℕ) → x < s → s < x + n → m ≡ n + new - old → moved s old new (span x n) ≡ span x m
  unfolding moved
  moved_grows x n m h i e = rw (lt-leb (s + old) x (omega arith), lt-ltb s (x + n) i, e)

  moved_shifts : (x n : ℕ) → s + old ≤ x → moved s old new (span x n) ≡ span (x + new - old) n
  unfolding moved
  moved_shifts x n h = rw (le-leb (s + old) x h)

  -- The spans of a tree before the block stay.
  mutual
    unfolding spans write

    spans_stay : (c : Code) (at : ℕ) → at + size c ≤ s → map (moved s old new) (spans at c) ≡ spans at c
    spans_stay (node k p ts) at h = λ i. moved_stays at (size (node k p ts)) h i ∷ spans_all_stay ts (at + 1) (omega arith) i
    spans_stay (token v) at h = ap (λ (z : Span). z ∷ []) (moved_stays at 2 h)
    spans_stay (argument j m) at h = ap (λ (z : Span). z ∷ []) (moved_stays at (size (argument j m)) h)

    spans_all_stay : (ts : Codes) (at : ℕ) → at + length (write_all tree ts) ≤ s → map (moved s old new) (spans_all at ts) ≡ spans_all at ts
    spans_all_stay nil at h = refl
    spans_all_stay (cons a ts) at h =
        let e = length-append (write tree a) (write_all tree ts) in
        map_append (moved s old new) (spans at a) (spans_all (at + size a) ts)
        ∙ (ap (λ (z : List Span). z ++ map (moved s old new) (spans_all (at + size a) ts)) (spans_stay a at (omega arith))
        ∙ ap (λ (z : List Span). spans at a ++ z) (spans_all_stay ts (at + size a) (omega arith)))

  -- Those of a tree behind it are shifted.
  mutual
    unfolding spans write

    spans_shift : (c : Code) (at : ℕ) → s + old ≤ at → map (moved s old new) (spans at c) ≡ spans (at + new - old) c
    spans_shift (node k p ts) at h =
        let e : at + 1 + new - old ≡ at + new - old + 1 = omega arith in
        (λ i. moved_shifts at (size (node k p ts)) h i ∷ spans_all_shift ts (at + 1) (omega arith) i)
        ∙ ap (λ (j : ℕ). span (at + new - old) (size (node k p ts)) ∷ spans_all j ts) e
    spans_shift (token v) at h = ap (λ (z : Span). z ∷ []) (moved_shifts at 2 h)
    spans_shift (argument j m) at h = ap (λ (z : Span). z ∷ []) (moved_shifts at (size (argument j m)) h)

    spans_all_shift : (ts : Codes) (at : ℕ) → s + old ≤ at → map (moved s old new) (spans_all at ts) ≡ spans_all (at + new - old) ts
    spans_all_shift nil at h = refl
    spans_all_shift (cons a ts) at h =
        let e : at + size a + new - old ≡ at + new - old + size a = omega arith in
        map_append (moved s old new) (spans at a) (spans_all (at + size a) ts)
        ∙ (ap (λ (z : List Span). z ++ map (moved s old new) (spans_all (at + size a) ts)) (spans_shift a at h)
        ∙ (ap (λ (z : List Span). spans (at + new - old) a ++ z) (spans_all_shift ts (at + size a) (omega arith))
        ∙ ap (λ (j : ℕ). spans (at + new - old) a ++ spans_all j ts) e))

-- Bytes and spans before and after the edit, in parts.
pub record Moved (a b : Code) (s at top : ℕ) (bytes bytes' : List ℕ) (old-spans new-spans : List Span) : Type 0 where
  pub head : List ℕ
  pub tail : List ℕ
  pub front : List Span
  pub back : List Span
  pub starts : s ≡ at + length head
  pub bytes_were : bytes ≡ head ++ (write tree a ++ tail)
  pub bytes_are : bytes' ≡ head ++ (write tree b ++ tail)
  pub spans_were : old-spans ≡ front ++ (spans s a ++ back)
  pub spans_are : new-spans ≡ map (moved s (size a) (size b)) front ++ (spans s b ++ map (moved s (size a) (size b)) back)
  pub below : Below s front
  pub behind : Behind (s + size a) back
  pub in_front : Movable s (size a) top front
  pub at_back : Movable s (size a) top back

-- The bytes before and after the block are the old ones.
pub around : {a b : Code} {s top : ℕ} {w w' : List ℕ} {old-spans new-spans : List Span} → Moved a b s 0 top w w' old-spans new-spans
    → w' ≡ take s w ++ (write tree b ++ drop (s + size a) w)
around {a} {b} {s} {top} {w} m =
    let e : s ≡ length m.head = m.starts ∙ omega arith in
    let h : take s w ≡ m.head = ap (λ (n : ℕ). take n w) e ∙ (ap (take (length m.head)) m.bytes_were ∙ take-append_seam m.head (write tree a ++ m.tail)) in
    let n : s + size a ≡ length m.head + size a = ap (λ (j : ℕ). j + size a) e in
    let d : drop (s + size a) w ≡ m.tail =
    ap (λ (j : ℕ). drop j w) n
    ∙ (ap (drop (length m.head + size a)) m.bytes_were
    ∙ (drop-append-add m.head (write tree a ++ m.tail) (size a) ∙ drop-append_seam (write tree a) m.tail)) in
    m.bytes_are ∙ (λ j. sym h j ++ (write tree b ++ sym d j))

three : (x y z : List ℕ) → length (x ++ (y ++ z)) ≡ length x + (length y + length z)
three x y z = length-append x (y ++ z) ∙ ap (λ (n : ℕ). length x + n) (length-append y z)

regroup : {A : Type 0} (x y z w : List A) → (x ++ (y ++ z)) ++ w ≡ x ++ (y ++ (z ++ w))
regroup x y z w = append_assoc x (y ++ z) w ∙ ap (λ (v : List _). x ++ v) (append_assoc y z w)

module _ (a b : Code) (s top : ℕ) where
  abbrev mv : Span → Span
  mv = moved s (size a) (size b)

  moved_whole : (at : ℕ) → at ≡ s → Moved a b s at top (write tree a) (write tree b) (spans at a) (spans at b)
  moved_whole at e = rw e (record {
    head = [];
    tail = [];
    front = [];
    back = [];
    starts = omega arith;
    bytes_were = sym (append-nil (write tree a));
    bytes_are = sym (append-nil (write tree b));
    spans_were = sym (append-nil (spans s a));
    spans_are = sym (append-nil (spans s b));
    below = tt;
    behind = tt;
    in_front = tt;
    at_back = tt;
  })

  moved_node : (at k p : ℕ) (ts us : Codes) → at + size (node k p ts) ≤ top
      → Moved a b s (at + 1) top (write_all tree ts) (write_all tree us) (spans_all (at + 1) ts) (spans_all (at + 1) us)
      → Moved a b s at top (write tree (node k p ts)) (write tree (node k p us)) (spans at (node k p ts)) (spans at (node k p us))
  unfolding spans write
  moved_node at k p ts us fits m =
      let n = ap length m.bytes_were ∙ three m.head (write tree a) m.tail in
      let n' = ap length m.bytes_are ∙ three m.head (write tree b) m.tail in
      let one = size_some a in
      let st = m.starts in
      let before : at < s = omega arith in
      let around : s < at + size (node k p ts) = omega arith in
      let grown : size (node k p us) ≡ size (node k p ts) + size b - size a = omega arith in
      let enough : size a ≤ size (node k p ts) = omega arith in
      record {
        head = p ∷ m.head;
        tail = m.tail;
        front = span at (size (node k p ts)) ∷ m.front;
        back = m.back;
        starts = omega arith;
        bytes_were = ap (λ (z : List ℕ). p ∷ z) m.bytes_were;
        bytes_are = ap (λ (z : List ℕ). p ∷ z) m.bytes_are;
        spans_were = ap (λ (z : List Span). span at (size (node k p ts)) ∷ z) m.spans_were;
        spans_are = λ i. sym (moved_grows s (size a) (size b) one at (size (node k p ts)) (size (node k p us)) before around grown) i ∷ m.spans_are i;
        below = (before, m.below);
        behind = m.behind;
        in_front = (fits, (λ x y. enough), m.in_front);
        at_back = m.at_back;
      }

  moved_here : (at : ℕ) (c d : Code) (ts : Codes) → at + length (write_all tree (cons c ts)) ≤ top
      → Moved a b s at top (write tree c) (write tree d) (spans at c) (spans at d)
      → Moved a b s at top (write_all tree (cons c ts)) (write_all tree (cons d ts)) (spans_all at (cons c ts)) (spans_all at (cons d ts))
  unfolding spans write
  moved_here at c d ts fits m =
      let n = ap length m.bytes_were ∙ three m.head (write tree a) m.tail in
      let n' = ap length m.bytes_are ∙ three m.head (write tree b) m.tail in
      let long = length-append (write tree c) (write_all tree ts) in
      let st = m.starts in
      let one = size_some a in
      let low : s + size a ≤ at + size c = omega arith in
      let e : at + size c + size b - size a ≡ at + size d = omega arith in
      let later = spans_all (at + size c) ts in
      let shifted : map mv later ≡ spans_all (at + size d) ts = spans_all_shift s (size a) (size b) one ts (at + size c) low ∙ ap (λ (j : ℕ). spans_all j ts) e in
      record {
        head = m.head;
        tail = m.tail ++ write_all tree ts;
        front = m.front;
        back = m.back ++ later;
        starts = m.starts;
        bytes_were = ap (λ (z : List ℕ). z ++ write_all tree ts) m.bytes_were ∙ regroup m.head (write tree a) m.tail (write_all tree ts);
        bytes_are = ap (λ (z : List ℕ). z ++ write_all tree ts) m.bytes_are ∙ regroup m.head (write tree b) m.tail (write_all tree ts);
        spans_were = ap (λ (z : List Span). z ++ later) m.spans_were ∙ regroup m.front (spans s a) m.back later;
        spans_are =
            ap (λ (z : List Span). z ++ spans_all (at + size d) ts) m.spans_are
            ∙ (regroup (map mv m.front) (spans s b) (map mv m.back) (spans_all (at + size d) ts)
            ∙ ap (λ (z : List Span). map mv m.front ++ (spans s b ++ z))
            (ap (λ (z : List Span). map mv m.back ++ z) (sym shifted) ∙ sym (map_append mv m.back later)));
        below = m.below;
        behind = behind_append (s + size a) m.back later m.behind (behind_row ts (s + size a) (at + size c) low);
        in_front = m.in_front;
        at_back = movable_append s (size a) top m.back later m.at_back (movable_all s (size a) top ts (at + size c) (omega arith) (λ x y i j k l. omega arith));
      }

  moved_past : (at : ℕ) (c : Code) (ts us : Codes) → at + length (write_all tree (cons c ts)) ≤ top
      → Moved a b s (at + size c) top (write_all tree ts) (write_all tree us) (spans_all (at + size c) ts) (spans_all (at + size c) us)
      → Moved a b s at top (write_all tree (cons c ts)) (write_all tree (cons c us)) (spans_all at (cons c ts)) (spans_all at (cons c us))
  unfolding spans write
  moved_past at c ts us fits m =
      let long = length-append (write tree c) (write_all tree ts) in
      let n = length-append (write tree c) m.head in
      let st = m.starts in
      let one = size_some a in
      let high : at + size c ≤ s = omega arith in
      let stay = spans_stay s (size a) (size b) one c at high in
      record {
        head = write tree c ++ m.head;
        tail = m.tail;
        front = spans at c ++ m.front;
        back = m.back;
        starts = omega arith;
        bytes_were = ap (λ (z : List ℕ). write tree c ++ z) m.bytes_were ∙ sym (append_assoc (write tree c) m.head (write tree a ++ m.tail));
        bytes_are = ap (λ (z : List ℕ). write tree c ++ z) m.bytes_are ∙ sym (append_assoc (write tree c) m.head (write tree b ++ m.tail));
        spans_were = ap (λ (z : List Span). spans at c ++ z) m.spans_were ∙ sym (append_assoc (spans at c) m.front (spans s a ++ m.back));
        spans_are =
            ap (λ (z : List Span). spans at c ++ z) m.spans_are
            ∙ (sym (append_assoc (spans at c) (map mv m.front) (spans s b ++ map mv m.back))
            ∙ ap (λ (z : List Span). z ++ (spans s b ++ map mv m.back))
            (ap (λ (z : List Span). z ++ map mv m.front) (sym stay) ∙ sym (map_append mv (spans at c) m.front)));
        below = below_append s (spans at c) m.front (spans_below c at s high) m.below;
        behind = m.behind;
        in_front = movable_append s (size a) top (spans at c) m.front (movable_spans s (size a) top c at (omega arith) (λ x y i j k l. omega arith)) m.in_front;
        at_back = m.at_back;
      }

  mutual
    unfolding write

    pub edited_moved : {path : List ℕ} {at : ℕ} {t r : Code} → Edited a b s path at t r → at + size t ≤ top → Moved a b s at top (write tree t) (write tree r) (spans at t) (spans at r)
    edited_moved {at = at} (whole e d q) h = rw (e, d) (moved_whole at q)
    edited_moved {at = at} (inside {k = k} {p = p} {ts = ts} {us = us} w) h = moved_node at k p ts us h (edited_moved_in w (omega arith))

    edited_moved_in : {n at : ℕ} {path : List ℕ} {ts us : Codes} → EditedIn a b s n path at ts us → at + length (write_all tree ts) ≤ top
        → Moved a b s at top (write_all tree ts) (write_all tree us) (spans_all at ts) (spans_all at us)
    edited_moved_in {at = at} (here {c = c} {d = d} {ts = ts} w) h =
        let n = size_cons c ts in moved_here at c d ts h (edited_moved w (omega arith))
    edited_moved_in {at = at} (past {c = c} {ts = ts} {us = us} w) h =
        let n = size_cons c ts in moved_past at c ts us h (edited_moved_in w (omega arith))

-- What replacing makes is such an edit, where the path leads to a block.
module _ (sees : ℕ → Bool) (l : Language) (b : Code) (c : Block) where
  after_edited : (path : List ℕ) (h : Code → Code) (ks : List ℕ) (ts : Codes) (n at : ℕ) (d : Block) → argument_after ks ts n at ≡ some d
      → Edited c.subtree b c.start path d.start d.subtree (h d.subtree) → EditedIn c.subtree b c.start n path at ts (replace_after n h ts)
  unfolding argument_after replace_after
  after_edited path h [] ts n at d e w = none_some e
  after_edited path h (k ∷ ks) nil n at d e w = none_some e
  after_edited path h (k ∷ ks) (cons t ts) zero at d e w =
      let q : block_of at k t ≡ d = some_inj e in
      let v : Edited c.subtree b c.start path at t (h t) = subst (λ (x : Block). Edited c.subtree b c.start path x.start x.subtree (h x.subtree)) (sym q) w in
      here v
  after_edited path h (k ∷ ks) (cons t ts) (suc n) at d e w = past (after_edited path h ks ts n (at + size t) d e w)

  argument_edited : (path : List ℕ) (i at : ℕ) (t : Code) (d : Block) → argument_of l at t i ≡ some d
      → Edited c.subtree b c.start path d.start d.subtree (replace_at path b d.subtree) → Edited c.subtree b c.start (i ∷ path) at t (replace_at (i ∷ path) b t)
  unfolding argument_of replace_at
  argument_edited path zero at (node k p ts) d e w = none_some e
  argument_edited path (suc n) at (node k p ts) d e w = inside (after_edited path (replace_at path b) (get_or (arguments_of l k p) []) ts n (at + 1) d e w)
  argument_edited path i at (token v) d e w = none_some e
  argument_edited path i at (argument j m) d e w = none_some e

  cond_reached : (t : Bool) (x : Block) → cond t (reached x) hidden ≡ reached c → x ≡ c
  cond_reached true x e = reached_inj e
  cond_reached false x e = not_reached hidden refl e

  pub replaced : (path : List ℕ) (x : Block) → block_at sees l path x ≡ reached c
      → Edited c.subtree b c.start path x.start x.subtree (replace_at path b x.subtree)
  unfolding block_at replace_at
  replaced [] x e = let q : x ≡ c = cond_reached (sees x.kind) x e in whole (ap (λ (y : Block). y.subtree) q) refl (ap (λ (y : Block). y.start) q)
  replaced (i ∷ path) x e =
      see (sees x.kind) (argument_of l x.start x.subtree i) (λ d q f. argument_edited path i x.start x.subtree d q (replaced path d f)) e
    where
      go : (o : Option Block) → ((d : Block) → o ≡ some d → block_at sees l path d ≡ reached c → Edited c.subtree b c.start (i ∷ path) x.start x.subtree (replace_at (i ∷ path) b x.subtree))
          → elim o [ none ↦ nowhere | some d ↦ block_at sees l path d ] ≡ reached c → Edited c.subtree b c.start (i ∷ path) x.start x.subtree (replace_at (i ∷ path) b x.subtree)
      go none g f = nowhere_reached f
      go (some d) g f = g d refl f

      see : (t : Bool) (o : Option Block) → ((d : Block) → o ≡ some d → block_at sees l path d ≡ reached c → Edited c.subtree b c.start (i ∷ path) x.start x.subtree (replace_at (i ∷ path) b x.subtree))
          → elim t [ false ↦ hidden | true ↦ elim o [ none ↦ nowhere | some d ↦ block_at sees l path d ] ] ≡ reached c → Edited c.subtree b c.start (i ∷ path) x.start x.subtree (replace_at (i ∷ path) b x.subtree)
      see true o g f = go o g f
      see false o g f = not_reached hidden refl f
