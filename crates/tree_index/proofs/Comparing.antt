-- The comparison of an index with the entries of trees in a row: a law for each return and turn of `compare_row`.
use Prim.Native.Nat.{ℕ, ◌+◌, ◌<◌, ◌≤◌}
use mathlib.Core.Path.{◌≡◌, refl, sym, ap, ◌∙◌}
use mathlib.Core.List.{List, [], ◌++◌, append_assoc}
use native.Mathlib.Omega.{arith}
use Rattle.std.specs.Prelude.{Some, None}
use lib.ListN.{length, get_or, drop, length-append}
use Rattle.format_language.specs.Language.{Language}
use Rattle.tree_reader.specs.Code.{Code, Codes, nil, levels_all}
use Rattle.tree_reader.specs.Syntax.{write_all, tree}
use Rattle.tree_reader.specs.Inner.Positions.{KindsIn}
use Rattle.tree_index.specs.Spans.{Span, span, size, spans_all, entry, entries}
use Rattle.tree_index.specs.Inner.Lying.{Row, Opens}
use Rattle.tree_index.specs.Inner.Marking.{Has}
use Rattle.tree_index.specs.Inner.Comparing.{Claims, Compares}
use Rattle.tree_index.proofs.Rows.{kinds_end, Turn, turn, none_left}
use Rattle.tree_index.proofs.Pairs.{entry_length, entry_same}
use Rattle.tree_index.proofs.Walking.{entries_cons, has_front, has_back, has_both, no_trees, turn_long, turn_spans, turn_levels, turn_flat, turn_below, turn_ahead, turn_end, turn_are}
use Rattle.tree_index.proofs.Starts.{own_span}

-- Where the loop stands: the trees that are still to be compared. The index has the entries of all exactly if it has theirs.
pub record Comparing (x s b i : List ℕ) (n at : ℕ) (ts : Codes) (stop q end to m : ℕ) (l : Language) : Type 0 where
  pub others : Codes
  pub row : Row x s b to q end l others
  pub kinds : KindsIn s q end
  pub onto : Claims i m to others stop → Claims i n at ts stop
  pub back : Claims i n at ts stop → Claims i m to others stop
  pub long : m + length (entries (spans_all to others)) ≡ n + length (entries (spans_all at ts))
  pub flat : levels_all others ≤ levels_all ts

module _ {x s b i : List ℕ} {n at : ℕ} {ts : Codes} {stop : ℕ} {l : Language} where
  pub compare_begin : {first last : ℕ} → KindsIn s first last → Row x s b at first last l ts → Comparing x s b i n at ts stop first last at n l
  compare_begin k r = record { others = ts; row = r; kinds = k; onto = λ h. h; back = λ h. h; long = refl; flat = omega arith }

  module _ {q end to m : ℕ} (w : Comparing x s b i n at ts stop q end to m l) where
    pub compare_inside : to ≤ length b
    compare_inside = w.row.lie.inside

    module _ (done : end ≤ q) where
      nothing_left : w.others ≡ nil
      nothing_left = none_left x s b to q end l w.others w.row done

      pub compare_short : (to ≡ stop → ⊥) → Compares i n at ts stop None
      compare_short h c = let z = (no_trees to w.others nothing_left).1 in h (omega (arith, (w.back c).ends))

      pub compare_done : to ≡ stop → Compares i n at ts stop (Some m)
      compare_done e =
          let z = no_trees to w.others nothing_left in
          let k : length (entries (spans_all to w.others)) ≡ 0 = ap length z.0 in
          let c : Claims i m to w.others stop = record { has = rw z.0 (record { rest = drop m i; is = refl }); ends = omega (arith, z.1) } in
          (w.onto c, omega (arith, w.long))

    module _ (here : q < end) where
      pub compare_turn : Turn x s b to q end l w.others
      compare_turn = turn x s b to q end l w.others w.row here (kinds_end s q end q w.kinds (omega arith) here)

      pub compare_kind : q < length s
      compare_kind = (w.kinds q (omega arith) here).0

      abbrev head : Code
      head = compare_turn.head

      abbrev tail : Codes
      tail = compare_turn.tail

      others_long : length (write_all tree w.others) ≡ size head + length (write_all tree tail)
      others_long = turn_long x s b to q end l w.others compare_turn

      -- An entry that starts elsewhere.
      pub start_other : ((z : ℕ) → Has i m (entry (span to z)) → ⊥) → Compares i n at ts stop None
      start_other h c =
          let o = own_span to head in
          let behind = entries (spans_all (to + size head) tail) in
          let v : entries (spans_all to w.others) ≡ entry (span to (size head)) ++ (entries o.0 ++ behind) =
          turn_spans x s b to q end l w.others compare_turn to
          ∙ (ap (λ (z : List Span). entries z ++ behind) o.1
          ∙ (ap (λ (z : List ℕ). z ++ behind) (entries_cons (span to (size head)) o.0)
          ∙ append_assoc (entry (span to (size head))) (entries o.0) behind)) in
          h (size head) (has_front i m (entry (span to (size head))) (entries o.0 ++ behind) (rw v at (w.back c).has))

      module _ {f e t : ℕ} (p : Opens x s b to (get_or s q 0) l head f e t) where
        abbrev own : List ℕ
        own = entry (span to (size head))

        abbrev inner : List ℕ
        inner = entries (spans_all t p.operands)

        abbrev behind : List ℕ
        behind = entries (spans_all (to + size head) tail)

        -- The operands have fewer levels than all trees.
        pub opens_below : f < e → levels_all p.operands < levels_all ts
        opens_below h = omega (arith, turn_below x s b to q end l w.others compare_turn (get_or s q 0) f e t p h, w.flat)

        pub opens_ahead : (to < t) × (t ≤ length b)
        opens_ahead = turn_ahead x s b to q end l w.others compare_turn (get_or s q 0) f e t p

        node_end : to + size head ≡ t + length (write_all tree p.operands)
        node_end = turn_end x s b to q end l w.others compare_turn (get_or s q 0) f e t p

        all_are : entries (spans_all to w.others) ≡ own ++ (inner ++ behind)
        all_are = turn_are x s b to q end l w.others compare_turn (get_or s q 0) f e t p 0 to t (to + size head) (omega arith) (omega arith) (omega arith)

        all_long : length (entries (spans_all to w.others)) ≡ 4 + (length inner + length behind)
        all_long = let a = entry_length to (size head) in ap length all_are ∙ (length-append own (inner ++ behind) ∙ omega (arith, length-append inner behind))

        four : m + 4 ≡ m + length own
        four = omega (arith, entry_length to (size head))

        -- The entry of the node, by the length that it says.
        module _ (z : ℕ) (said : Has i m (entry (span to z))) where
          -- What follows where the index has the entries of all.
          module _ (c : Claims i n at ts stop) where
            all_has : Has i m (own ++ (inner ++ behind))
            all_has = rw all_are at (w.back c).has

            own_next : to + z ≡ to + size head
            own_next = ap (λ (y : ℕ). to + y) (entry_same to z (size head) said (has_front i m own (inner ++ behind) all_has))

            behind_own : Has i (m + 4) (inner ++ behind)
            behind_own = has_back i m own (inner ++ behind) all_has (m + 4) four

            inner_claims : Claims i (m + 4) t p.operands (to + z)
            inner_claims = record { has = has_front i (m + 4) inner behind behind_own; ends = sym node_end ∙ sym own_next }

            behind_claims : (k : ℕ) → k ≡ m + 4 + length inner → Claims i k (to + size head) tail stop
            behind_claims k ek = record { has = has_back i (m + 4) inner behind behind_own k ek; ends = omega (arith, (w.back c).ends, others_long) }

          -- The index has the entries of all, where the node ends as it says and it has those of the operands and of the others.
          joined : to + z ≡ to + size head → Has i (m + 4) inner → (k : ℕ) → k ≡ m + 4 + length inner → Claims i k (to + size head) tail stop → Claims i m to w.others stop
          joined a h k ek c =
              let y : z ≡ size head = omega arith in
              record {
                has = rw all_are (has_both i m own (inner ++ behind) (rw y at said) (m + 4) four (has_both i (m + 4) inner behind h k ek c.has));
                ends = omega (arith, c.ends, others_long);
              }

          -- Behind a node that ends as it says: the others.
          go_on : to + z ≡ to + size head → Has i (m + 4) inner → (k : ℕ) → k ≡ m + 4 + length inner → Comparing x s b i n at ts stop (q + 1) end (to + z) k l
          go_on a h k ek = rw a (record {
            others = tail;
            row = compare_turn.row;
            kinds = λ j u v. w.kinds j (omega arith) v;
            onto = λ c. w.onto (joined a h k ek c);
            back = λ c. behind_claims c k ek;
            long = omega (arith, w.long, all_long);
            flat = omega (arith, w.flat, (turn_levels x s b to q end l w.others compare_turn).1);
          })

          -- A node that has no operands.
          module _ (none : e ≤ f) where
            none_inner : (inner ≡ []) × (length (write_all tree p.operands) ≡ 0)
            none_inner = no_trees t p.operands (none_left x s b t f e l p.operands p.row none)

            pub leaf_other : (to + z ≡ t → ⊥) → Compares i n at ts stop None
            leaf_other h c = h (own_next c ∙ omega (arith, node_end, none_inner.1))

            pub leaf_next : to + z ≡ t → Comparing x s b i n at ts stop (q + 1) end t (m + 4) l
            leaf_next h =
                let k : length inner ≡ 0 = ap length none_inner.0 in
                rw h at (go_on (h ∙ omega (arith, node_end, none_inner.1)) (rw none_inner.0 (record { rest = drop (m + 4) i; is = refl })) (m + 4) (omega arith))

          -- Operands that were compared one call deeper.
          pub call_other : Compares i (m + 4) t p.operands (to + z) None → Compares i n at ts stop None
          call_other h c = h (inner_claims c)

          module _ {r : ℕ} (c : Compares i (m + 4) t p.operands (to + z) (Some r)) where
            pub call_ahead : (to < to + z) × (to + z ≤ length b)
            call_ahead =
                let a : to + z ≡ to + size head = sym c.0.ends ∙ sym node_end in
                (omega (arith, node_end, opens_ahead.0), rw a compare_turn.row.lie.inside)

            pub call_next : Comparing x s b i n at ts stop (q + 1) end (to + z) r l
            call_next = go_on (sym c.0.ends ∙ sym node_end) c.0.has r c.1

          -- The operands of the last of the trees.
          module _ (last : end ≤ q + 1) where
            none_behind : (behind ≡ []) × (length (write_all tree tail) ≡ 0)
            none_behind = no_trees (to + size head) tail (none_left x s b (to + size head) (q + 1) end l tail compare_turn.row last)

            pub last_other : (to + z ≡ stop → ⊥) → Compares i n at ts stop None
            last_other h c = h (omega (arith, own_next c, (w.back c).ends, others_long, none_behind.1))

            pub last_next : to + z ≡ stop → Comparing x s b i n at ts stop f e t (m + 4) l
            last_next h =
                let k : length behind ≡ 0 = ap length none_behind.0 in
                record {
                  others = p.operands;
                  row = p.row;
                  kinds = p.kinds;
                  onto = λ c.
                      let a : to + z ≡ to + size head = omega (arith, c.ends, node_end) in
                      w.onto (joined a c.has (m + 4 + length inner) refl (record { has = rw none_behind.0 (record { rest = drop (m + 4 + length inner) i; is = refl }); ends = omega (arith, none_behind.1) }));
                  back = λ c. rw h at (inner_claims c);
                  long = omega (arith, w.long, all_long);
                  flat = omega (arith, w.flat, turn_flat x s b to q end l w.others compare_turn (get_or s q 0) f e t p);
                }
