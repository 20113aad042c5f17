-- Steps from a block to its arguments: a law for each return and turn of `argument_among` and `argument`.
use Prim.Native.Nat.{ℕ, suc, ◌+◌, ◌-◌, ◌<◌, ◌≤◌}
use mathlib.Core.Path.{◌≡◌, refl, sym, ap, ◌∙◌}
use mathlib.Core.List.{List, [], ◌∷◌, ◌++◌, append_assoc}
use mathlib.Core.Option
use mathlib.Core.Option.{Option, none, some}
use Rattle.std.specs.Prelude.{Some, None}
use Rattle.std.specs.Prelude.{Option as Maybe}
use native.Mathlib.Omega.{arith}
use lib.ListN.{length, get_or, drop, length-append}
use lib.Seq.{slice, drop-drop, drop-append_seam}
use Rattle.format_fields.specs.Fields.{pair_at}
use Rattle.format_fields.proofs.Lists.{part_done}
use Rattle.format_language.specs.Language.{Language}
use Rattle.tree_reader.specs.Code.{Code, node, token, argument, Codes}
use Rattle.tree_reader.specs.Syntax.{write, write_all, tree}
use Rattle.tree_reader.specs.Inner.Positions.{KindsIn}
use Rattle.tree_index.specs.Spans.{Span, span, size, spans, spans_all, entry, entries}
use Rattle.tree_index.specs.Operations.{longest}
use Rattle.tree_index.specs.Inner.Lying.{Shape, production, value, Opens}
use Rattle.tree_index.specs.Inner.Starts.{Behind, Splits}
use Rattle.tree_index.proofs.Lying.{past_inside}
use Rattle.tree_index.proofs.Rows.{kinds_end, Turn, turn}
use Rattle.tree_index.proofs.Pairs.{Entry, entry_read}
use Rattle.tree_index.proofs.Walking.{shape_size, shape_spans, entries_append, entries_cons}
use Rattle.tree_index.proofs.Starts.{spans_below, row_behind, entered_own}
use Rattle.tree_block.specs.Blocks.{block_of, argument_after, argument_of}
use Rattle.tree_block.specs.Inner.Descent.{Along, AlongRow, Leads}
use Rattle.tree_block.specs.declared.descent.BlockAt.{BlockAt}

-- The first of the arguments that are left, by the index.
pub record Next (x s b i : List ℕ) (to p q last : ℕ) (l : Language) (ts : Codes) : Type 0 where
  pub head : Code
  pub tail : Codes
  pub along : Along x s b i to (get_or s q 0) p l head
  pub after : List Span
  pub splits : Splits i p (to + size head) (spans to head) after
  pub row : (p' : ℕ) → p' ≡ p + length (entries (spans to head)) → AlongRow x s b i (to + size head) p' (q + 1) last l tail
  pub here : argument_after (slice q last s) ts 0 to ≡ some (block_of to (get_or s q 0) head)
  pub next : (n : ℕ) → argument_after (slice q last s) ts (suc n) to ≡ argument_after (slice (q + 1) last s) tail n (to + size head)

module _ (x s b i : List ℕ) (to p q last : ℕ) (l : Language) (ts : Codes) (w : AlongRow x s b i to p q last l ts) (h : q < last) (end : last ≤ length s) where
  abbrev one : Turn x s b to q last l ts
  one = turn x s b to q last l ts w.row h end

  abbrev behind_one : List Span
  behind_one = spans_all (to + size one.head) one.tail ++ w.rest

  all_are : drop p i ≡ entries (spans to one.head ++ behind_one)
  unfolding spans
  all_are =
      w.is ∙ (ap (λ (c : Codes). entries (spans_all to c ++ w.rest)) one.is
      ∙ ap entries (append_assoc (spans to one.head) (spans_all (to + size one.head) one.tail) w.rest))

  ends_are : to + length (write_all tree ts) ≡ to + size one.head + length (write_all tree one.tail)
  unfolding write
  ends_are =
      let n : length (write_all tree ts) ≡ size one.head + length (write_all tree one.tail) =
      ap (λ (c : Codes). length (write_all tree c)) one.is ∙ length-append (write tree one.head) (write_all tree one.tail) in
      omega arith

  behind_is : Behind (to + size one.head) behind_one
  behind_is = row_behind one.tail (to + size one.head) w.rest (rw ends_are at w.behind)

  pub next_argument : Next x s b i to p q last l ts
  unfolding argument_after
  next_argument = record {
    head = one.head;
    tail = one.tail;
    along = record { there = one.there; entered = record { rest = behind_one; is = all_are; behind = behind_is }; short = w.short };
    after = behind_one;
    splits = record { is = all_are; below = spans_below one.head to (to + size one.head) (omega arith); behind = behind_is };
    row = λ p' e. rw e (record {
      row = one.row;
      short = w.short;
      rest = w.rest;
      is =
          sym (drop-drop (length (entries (spans to one.head))) p i)
          ∙ (ap (drop (length (entries (spans to one.head)))) (all_are ∙ entries_append (spans to one.head) behind_one)
          ∙ drop-append_seam (entries (spans to one.head)) (entries behind_one));
      behind = rw ends_are at w.behind;
    });
    here = ap (λ (v : List ℕ). argument_after v ts 0 to) one.kinds ∙ ap (λ (c : Codes). argument_after (get_or s q 0 ∷ slice (q + 1) last s) c 0 to) one.is;
    next = λ n. ap (λ (v : List ℕ). argument_after v ts (suc n) to) one.kinds ∙ ap (λ (c : Codes). argument_after (get_or s q 0 ∷ slice (q + 1) last s) c (suc n) to) one.is;
  }

-- argument_among: the walk stands at the argument that so many numbers are left to.
pub record Walking (x s b i : List ℕ) (first last at number q to p left : ℕ) (l : Language) (ts : Codes) : Type 0 where
  pub others : Codes
  pub row : AlongRow x s b i to p q last l others
  pub same : argument_after (slice q last s) others (left - 1) to ≡ argument_after (slice first last s) ts (number - 1) at

module _ {x s b i : List ℕ} {first last at number q to p left : ℕ} {l : Language} {ts : Codes} (w : Walking x s b i first last at number q to p left l ts) where
  pub walk_done : last ≤ q → Leads x s b i l (argument_after (slice first last s) ts (number - 1) at) None
  unfolding argument_after
  walk_done h =
      (sym (part_done (λ (v : List ℕ). argument_after v w.others (left - 1) to) s q last _ refl h ∙ w.same))

  module _ (kinds : KindsIn s first last) (low : first ≤ q) (here : q < last) where
    pub walk_next : Next x s b i to p q last l w.others
    walk_next = next_argument x s b i to p q last l w.others w.row here (kinds_end s first last q kinds low here)

    pub walk_here : left ≡ 1
        → Leads x s b i l (argument_after (slice first last s) ts (number - 1) at) (Some (record { start = to; kind = get_or s q 0; entry = p }))
    walk_here h =
        let z : 0 ≡ left - 1 = omega arith in
        (walk_next.head, sym w.same ∙ (ap (λ (n : ℕ). argument_after (slice q last s) w.others n to) (sym z) ∙ walk_next.here), walk_next.along)

    -- The argument ends in the bytes.
    pub walk_inside : to + size walk_next.head ≤ longest
    walk_inside =
        let v = walk_next.along.there.lies in
        let e = past_inside b to (write tree walk_next.head) v.rest v.inside v.is in
        omega (arith, walk_next.along.short)

    -- The entry of the argument, and the one behind its entries.
    pub walk_entry : (v : List ℕ) × Entry i p to (size walk_next.head) v
    walk_entry = entered_own i p to walk_next.head walk_next.along.entered

    module _ {n : ℕ} (en : n ≡ pair_at i (p + 2)) where
      pub size_read : n ≡ size walk_next.head
      size_read = en ∙ walk_entry.1.long

      pub walk_splits : Splits i p (to + n) (spans to walk_next.head) walk_next.after
      walk_splits = rw size_read walk_next.splits

      pub walk_on : (left ≡ 1 → ⊥) → 0 < left → {p' : ℕ} → p' ≡ p + length (entries (spans to walk_next.head))
          → Walking x s b i first last at number (q + 1) (to + n) p' (left - 1) l ts
      walk_on h j {p'} e =
          let z : suc (left - 1 - 1) ≡ left - 1 = omega arith in
          rw size_read (record {
            others = walk_next.tail;
            row = walk_next.row p' e;
            same = sym (walk_next.next (left - 1 - 1)) ∙ (ap (λ (m : ℕ). argument_after (slice q last s) w.others m to) z ∙ w.same);
          })

-- argument
shape_numbered : {l : Language} {k : ℕ} {t : Code} {ts : Codes} {ks : List ℕ} {f : ℕ} → Shape l k t ts ks f → (at n : ℕ)
    → argument_of l at t (suc n) ≡ argument_after ks ts n (at + f)
unfolding argument_of argument_after
shape_numbered (production {ts = ts} e) at n = ap (λ (o : Option (List ℕ)). argument_after (Option.get_or o []) ts n (at + 1)) e
shape_numbered value at n = refl

no_zeroth : (l : Language) (at : ℕ) (t : Code) → argument_of l at t 0 ≡ none
unfolding argument_of
no_zeroth l at (node k p ts) = refl
no_zeroth l at (token v) = refl
no_zeroth l at (argument j m) = refl

module _ {x s b i : List ℕ} {at k p : ℕ} {l : Language} {t : Code} (w : Along x s b i at k p l t) where
  pub zero_none : (n : ℕ) → n ≡ 0 → Leads x s b i l (argument_of l at t n) None
  zero_none n e = rw e (no_zeroth l at t)

  pub entry_inside : p + 4 ≤ length i
  entry_inside = (entered_own i p at t w.entered).1.inside

  module _ {first last to : ℕ} (o : Opens x s b at k l t first last to) where
    pub opened_row : AlongRow x s b i to (p + 4) first last l o.operands
    opened_row =
        let y : at + o.front ≡ to = sym o.past in
        let n = shape_size o.shape in
        let z : at + size t ≡ to + length (write_all tree o.operands) = omega arith in
        let e : drop p i ≡ entry (span at (size t)) ++ entries (spans_all to o.operands ++ w.entered.rest) =
        w.entered.is
        ∙ (ap (λ (v : List Span). entries (v ++ w.entered.rest)) (shape_spans o.shape at ∙ ap (λ (j : ℕ). span at (size t) ∷ spans_all j o.operands) y)
        ∙ entries_cons (span at (size t)) (spans_all to o.operands ++ w.entered.rest)) in
        record {
          row = o.row;
          short = w.short;
          rest = w.entered.rest;
          is = (entry_read i p at (size t) _ e).others;
          behind = rw z at w.entered.behind;
        }

    pub argument_leads : (n : ℕ) → (n ≡ 0 → ⊥) → (r : Maybe BlockAt) → Leads x s b i l (argument_after (slice first last s) o.operands (n - 1) to) r
        → Leads x s b i l (argument_of l at t n) r
    argument_leads n h r v =
        let m : suc (n - 1) ≡ n = omega arith in
        let y : at + o.front ≡ to = sym o.past in
        let e : argument_after (slice first last s) o.operands (n - 1) to ≡ argument_of l at t n =
        ap (argument_after (slice first last s) o.operands (n - 1)) (sym y) ∙ (sym (shape_numbered o.shape at (n - 1)) ∙ ap (argument_of l at t) m) in
        rw (← e) v
