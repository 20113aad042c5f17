-- The definitions by position, one turn at a time, in the terms of the code: a law for each return.
use Rattle.tree_reader.specs.declared.node.ReadError.TheVariants.{Deep, Broken}
use Rattle.tree_reader.specs.declared.node.ReadError.{ReadError}
use Prim.Native.Nat.{ℕ, zero, suc, ◌+◌, ◌*◌, ◌-◌, ◌<◌, ◌≤◌}
use mathlib.Core.Path.{◌≡◌, refl, sym, ap, ◌∙◌}
use mathlib.Core.List.{List, []}
use mathlib.Core.Bool.{Bool, true, false, cond}
use native.Mathlib.Omega.{arith}
use lib.ListN.{length, get_or, set}
use lib.Seq.{get_or-set_same, get_or-set_other}
use lib.Dec.{ltb, leb, eqb}
use borrow.Author.Tests.{eqb-true, eqb-false, ltb-true, ltb-false}
use Rattle.std.proofs.lemmas.Grind.{common_steps}
use Rattle.format_fields.specs.Fields.{pair_at}
use Rattle.format_language.specs.Language.{in_range}
use Rattle.format_language.specs.Inner.Entries.{class_range}
use Rattle.format_fields.proofs.Truth.{by_test}
use Rattle.tree_reader.proofs.Laws as Read-laws
use Rattle.tree_reader.specs.declared.node.Syntax.TheVariants.{Tree}
use Rattle.tree_reader.specs.declared.node.Node.TheVariants.{Leaf, Operands}
use Rattle.tree_reader.specs.Inner.Positions.{production_place, token_at, operands_at, name_at, tree_node, node_at, past_at, read_at, EndsBy, KindsIn, Read}
use Rattle.std.specs.Prelude.{Ok, Err}
use Rattle.run_measure.specs.declared.measure.Row.{Row}
use Rattle.run_measure.specs.Inner.Measuring.{Measured}
use Rattle.run_measure.specs.Inner.Sizes.{capped}
use Rattle.run_measure.specs.Inner.Weighing.{Weights, sum_of}
use Rattle.run_measure.specs.Inner.Descent.{Step, measured, row_at, Weighing, leaf_down, down_from, down_at, down_row, out_of_levels, unwind, leaf_step, goes_on, StepIn, Childless}

-- leaf
pub leaf_end : (top total sum cost : ℕ) {r : Read} {e n : ℕ} → r ≡ Ok e → n ≡ capped top (sum + total * 2) → row_at 0 0 e n cost ≡ leaf_step top total sum cost r
leaf_end top total sum cost y h = cc

-- Where there is no production, there is a token of a class, or nothing legal.
pub token_node : (s index : List ℕ) (k : ℕ) (b : List ℕ) (at : ℕ) {class place : ℕ} → class ≡ get_or index k 0
    → place ≡ cond (eqb class 0) (production_place Tree index k b at) 0 → place ≡ 0
    → Leaf (token_at s class b at) ≡ node_at Tree s index [] k b at
unfolding node_at tree_node name_at operands_at production_place token_at
token_node s index k b at {class} {place} ec ep none =
    by_test (eqb class 0)
    (λ d. by_test (leb (length b) at) (λ e. cc) (λ e. cc))
    (λ d. cc)

-- A token is two bytes, or it is not there.
token_past : (s : List ℕ) (class : ℕ) (b : List ℕ) (at : ℕ) (P : Read → Type 0) → P (Err Broken) → P (Ok (at + 2)) → P (token_at s class b at)
unfolding token_at
token_past s class b at P h k = go (eqb class 0) (ltb (length b - at) 2) (in_range (class_range s (class - 1)) (pair_at b at))
  where
    go : (t u v : Bool) → P (cond t (Err Broken) (cond u (Err Broken) (cond v (Ok (at + 2)) (Err Broken))))
    go true u v = h
    go false true v = h
    go false false false = h
    go false false true = k

-- A token goes on behind its two bytes.
pub token_in : (s : List ℕ) (class : ℕ) (b : List ℕ) (top w at sum cost : ℕ) → cost ≤ top → {r : Read} → r ≡ token_at s class b at
    → {x : Step} → x ≡ leaf_step top w sum cost r → EndsBy (length b) r → StepIn s (length b) top at x
token_in s class b top w at sum cost low er ex h =
    rw (ex, er) (token_past s class b at (λ (u : Read). EndsBy (length b) u → StepIn s (length b) top at (leaf_step top w sum cost u))
    (λ z. tt) (λ z. (omega arith, z, omega arith, low, λ i j l. absurd (omega arith))) (rw er at h))

-- step
module _ (s index : List ℕ) (v : Weighing) (b : List ℕ) (top : ℕ) (w : Weights) (k at sum cost : ℕ) where
  abbrev pub Goes : Step → Type 0
  Goes x = (n : ℕ) → goes_on s index v b top n w x ≡ down_at s index v b top (suc n) w k at sum cost

  goes_token : (class n : ℕ) → goes_on s index v b top n w (leaf_step top (sum_of top w) sum cost (token_at s class b at)) ≡ leaf_down top w sum cost (token_at s class b at)
  unfolding down_from
  goes_token class n = token_past s class b at (λ (u : Read). goes_on s index v b top n w (leaf_step top (sum_of top w) sum cost u) ≡ leaf_down top w sum cost u) refl refl

  -- A token: what it adds.
  pub token_goes : (class : ℕ) {total : ℕ} → total ≡ sum_of top w → {r : Read} → r ≡ token_at s class b at → {x : Step} → x ≡ leaf_step top total sum cost r
      → Leaf (token_at s class b at) ≡ node_at Tree s index [] k b at → Goes x
  unfolding down_at
  token_goes class et er ex h n = rw (ex, et, ← h, er) (goes_token class n)

  -- A production's name.
  pub name_goes : (place : ℕ) {first last o total u : ℕ} → Operands first last (at + 1) ≡ node_at Tree s index [] k b at → first ≡ place + 4
      → o ≡ capped top (sum + v (place + 3) w 0) → total ≡ sum_of top w → u ≡ capped top (cost + total) → Goes (row_at first last (at + 1) o u)
  unfolding down_at
  name_goes place {first} h ef eo et eu m = let z : first - 1 ≡ place + 3 = omega arith in rw (← h, z, ← eo, ← et, ← eu)

-- out_of_levels
out_both : (index : List ℕ) (k n : ℕ) → out_of_levels index k n ≡ true → (n ≡ 0) × (get_or index k 0 ≡ 0)
out_both index k n h = grind (arith, common_steps)

none_class : (index : List ℕ) (k n : ℕ) → n ≡ 0 → out_of_levels index k n ≡ false → get_or index k 0 ≡ 0 → ⊥
none_class index k n y h z = grind (arith, common_steps)

-- Where none is left, a class is read as with one more.
module _ (s index b : List ℕ) (k at : ℕ) where
  class_past : (get_or index k 0 ≡ 0 → ⊥) → token_at s (get_or index k 0) b at ≡ past_at Tree s index k b at
  class_past h = Read-laws.past_token s index k b at refl refl h refl

  class_node : (get_or index k 0 ≡ 0 → ⊥) → Leaf (token_at s (get_or index k 0) b at) ≡ node_at Tree s index [] k b at
  class_node h = Read-laws.node_tree s index [] k b at refl (Read-laws.tree_token s index k b at refl refl h refl)

  pub read_one : (n : ℕ) → out_of_levels index k n ≡ false → read_at Tree s index [] b n k at ≡ read_at Tree s index [] b (suc (n - 1)) k at
  unfolding read_at
  read_one zero h = let c = none_class index k 0 refl h in cc (class_past c, class_node c)
  read_one (suc n) h = let z : suc n - 1 ≡ n = omega arith in rw z

  module _ (v : Weighing) (top : ℕ) (w : Weights) (sum cost : ℕ) where
    down_one : (n : ℕ) → out_of_levels index k n ≡ false
        → down_at s index v b top n w k at sum cost ≡ down_at s index v b top (suc (n - 1)) w k at sum cost
    unfolding down_at
    down_one zero h = let c = none_class index k 0 refl h in cc (class_past c, class_node c)
    down_one (suc n) h = let z : suc n - 1 ≡ n = omega arith in rw z

    down_out : (n : ℕ) → out_of_levels index k n ≡ true → down_at s index v b top n w k at sum cost ≡ Err Deep
    unfolding down_at
    down_out n h = let z = out_both index k n h in rw z.0 (cc (Read-laws.past_name s index k b at refl refl z.1))

-- A tree with operands has a level left for them.
pub deeper : (index : List ℕ) (k levels d : ℕ) → d ≤ levels → out_of_levels index k (levels - d) ≡ false
    → (x : Step) → Childless (get_or index k 0) x → {here : Row} → x ≡ Ok here → here.first < here.last → d < levels
deeper index k levels d under h x c ex more =
    by_test (eqb (levels - d) 0)
    (λ t. absurd (none (eqb-true (levels - d) 0 t)))
    (λ t. let z = eqb-false (levels - d) 0 t in by_test (ltb d levels) (λ u. ltb-true d levels u) (λ u. let w = ltb-false d levels u in absurd (z (omega arith))))
  where
    row : (x : Step) → Childless (get_or index k 0) x → {here : Row} → x ≡ Ok here → (get_or index k 0 ≡ 0 → ⊥) → here.last ≤ here.first
    row x c ex = rw ex at c

    none : levels - d ≡ 0 → ⊥
    none y = let w = row x c ex (none_class index k (levels - d) y h) in omega arith

-- What is known of a step, once its case is known.
pub step_row : (s : List ℕ) (n top at : ℕ) {here : Row} (x : Step) → x ≡ Ok here → StepIn s n top at x
    → (at < here.done.end) × (here.done.end ≤ n) × (here.done.length ≤ top) × (here.done.cost ≤ top) × KindsIn s here.first here.last
step_row s n top at x y h = rw y at h

-- measure_rows
abbrev after : Measured → (ℕ → ℕ → ℕ → Measured) → Measured
after (Ok m) next = next m.end m.length m.cost
after (Err e) next = Err e

module _ (s index : List ℕ) (v : Weighing) (b : List ℕ) (top levels : ℕ) where
  abbrev row : ℕ → Weights → ℕ → ℕ → ℕ → ℕ → ℕ → Measured
  row d w q e to sum cost = down_row s index v b top (levels - d) w q e to sum cost

  row_done : (n : ℕ) (w : Weights) (q e to sum cost : ℕ) → e ≤ q → down_row s index v b top n w q e to sum cost ≡ measured to sum cost
  unfolding down_from
  row_done n w q e to sum cost h = let z : e - q ≡ 0 = omega arith in rw z

  row_next : (n : ℕ) (w : Weights) (q e to sum cost : ℕ) → q < e → down_row s index v b top n w q e to sum cost
      ≡ after (down_at s index v b top n (v q w) (get_or s q 0) to sum cost) (λ t a c. down_row s index v b top n w (q + 1) e t a c)
  unfolding down_from
  row_next n w q e to sum cost h =
      let z : e - q ≡ suc (e - (q + 1)) = omega arith in
      rw z (go (down_at s index v b top n (v q w) (get_or s q 0) to sum cost))
    where
      go : (r : Measured) → (elim r [
        | Ok m ↦ down_from (down_at s index v b top n) s v (e - (q + 1)) w (q + 1) m.end m.length m.cost
        | Err e ↦ Err e
      ]) ≡ after r (λ t a c. down_row s index v b top n w (q + 1) e t a c)
      go (Ok m) = refl
      go (Err e) = refl

  module _ (firsts lasts : List ℕ) (rows : ℕ → Weights) where
    abbrev rest : ℕ → Measured → Measured
    rest d r = unwind s index v b top levels firsts lasts rows d r

    rest_err : (d : ℕ) (x : ReadError) → rest d (Err x) ≡ Err x
    unfolding unwind
    rest_err zero x = refl
    rest_err (suc d) x = refl

    rest_none : (r : Measured) → rest 0 r ≡ r
    unfolding unwind
    rest_none r = refl

    rest_one : (d to sum cost : ℕ) → rest (suc d) (measured to sum cost) ≡ rest d (row d (rows d) (get_or firsts d 0) (get_or lasts d 0) to sum cost)
    unfolding unwind
    rest_one d to sum cost = refl

  -- Only what stands at the rows that wait counts.
  rest_same : (firsts lasts f l : List ℕ) (rows r : ℕ → Weights) (d : ℕ) (x : Measured)
      → ((j : ℕ) → j < d → (get_or f j 0 ≡ get_or firsts j 0) × (get_or l j 0 ≡ get_or lasts j 0) × (r j ≡ rows j))
      → unwind s index v b top levels f l r d x ≡ unwind s index v b top levels firsts lasts rows d x
  unfolding unwind
  rest_same firsts lasts f l rows r zero x same = refl
  rest_same firsts lasts f l rows r (suc d) (Ok m) same =
      let z = same d (omega arith) in
      rw (z.0, z.1, z.2)
      (rest_same firsts lasts f l rows r d (row d (rows d) (get_or firsts d 0) (get_or lasts d 0) m.end m.length m.cost) (λ j h. same j (omega arith)))
  rest_same firsts lasts f l rows r (suc d) (Err x) same = refl

  -- A row that is put behind the others waits; those before it stay.
  module _ (firsts lasts : List ℕ) (rows r : ℕ → Weights) (d q e : ℕ) (same : (j : ℕ) → j ≤ d → r j ≡ rows j) where
    abbrev rest_before : ℕ → Measured → Measured
    rest_before j x = unwind s index v b top levels firsts lasts rows j x

    abbrev rest_then : ℕ → Measured → Measured
    rest_then j x = unwind s index v b top levels (set firsts d q) (set lasts d e) r j x

    kept : (x : Measured) → rest_then d x ≡ rest_before d x
    kept x =
        rest_same firsts lasts (set firsts d q) (set lasts d e) rows r d x
        (λ j h.
        let ne : j ≡ d → ⊥ = λ y. omega arith in
        (get_or-set_other firsts d j q 0 ne, get_or-set_other lasts d j e 0 ne, same j (omega arith)))

    one_more : (x : Measured) → rest_then (suc d) x ≡ rest_then (d + 1) x
    one_more x = let y : suc d ≡ d + 1 = omega arith in ap (λ (j : ℕ). rest_then j x) y

    push : d < length firsts → d < length lasts → (x : Measured)
        → rest_before d (after x (λ t a c. row d (rows d) q e t a c)) ≡ rest_then (d + 1) x
    push hf hl (Ok m) =
        let z : row d (r d) (get_or (set firsts d q) d 0) (get_or (set lasts d e) d 0) m.end m.length m.cost ≡ row d (rows d) q e m.end m.length m.cost =
        rw (get_or-set_same firsts d q 0 hf, get_or-set_same lasts d e 0 hl, same d (omega arith)) in
        sym (kept (row d (rows d) q e m.end m.length m.cost))
        ∙ (ap (rest_then d) (sym z) ∙ (sym (rest_one (set firsts d q) (set lasts d e) r d m.end m.length m.cost) ∙ one_more (Ok m)))
    push hf hl (Err x) = rest_err firsts lasts rows d x ∙ sym (rest_err (set firsts d q) (set lasts d e) r (d + 1) x)

  module _ (firsts lasts : List ℕ) (rows : ℕ → Weights) where
    pub rows_start : (q e to sum cost : ℕ) → rest firsts lasts rows 0 (row 0 (rows 0) q e to sum cost) ≡ down_row s index v b top levels (rows 0) q e to sum cost
    rows_start q e to sum cost = rest_none firsts lasts rows _ ∙ (let z : levels - 0 ≡ levels = omega arith in rw z)

    module _ (d q e to sum cost : ℕ) where
      abbrev left : Measured
      left = rest firsts lasts rows d (row d (rows d) q e to sum cost)

      pub rows_done : e ≤ q → d ≡ 0 → left ≡ measured to sum cost
      rows_done h y = ap (rest firsts lasts rows d) (row_done _ (rows d) q e to sum cost h) ∙ (rw y (rest_none firsts lasts rows (measured to sum cost)))

      -- The rows that wait have stayed.
      pub rows_back : {c : ℕ} → e ≤ q → (d ≡ 0 → ⊥) → (r : ℕ → Weights) → ((j : ℕ) → j ≤ c → r j ≡ rows j) → c ≡ d - 1
          → left ≡ rest firsts lasts r c (row c (r c) (get_or firsts c 0) (get_or lasts c 0) to sum cost)
      rows_back {c} h y r same ec =
          ap (rest firsts lasts rows d) (row_done _ (rows d) q e to sum cost h)
          ∙ ((let z : d ≡ suc c = omega arith in ap (λ (j : ℕ). rest firsts lasts rows j (measured to sum cost)) z)
          ∙ (rest_one firsts lasts rows c to sum cost
          ∙ (sym (rest_same firsts lasts firsts lasts rows r c (row c (rows c) (get_or firsts c 0) (get_or lasts c 0) to sum cost) (λ j l. (refl, refl, same j (omega arith))))
          ∙ rw (same c (omega arith)))))

      module _ (more : q < e) where
        pub rows_deep : out_of_levels index (get_or s q 0) (levels - d) ≡ true → left ≡ Err Deep
        rows_deep y =
            let z = down_out s index b (get_or s q 0) to v top (v q (rows d)) sum cost (levels - d) y in
            ap (rest firsts lasts rows d) (row_next (levels - d) (rows d) q e to sum cost more ∙ rw z) ∙ rest_err firsts lasts rows d Deep

        module _ (part : Weights) (under : out_of_levels index (get_or s q 0) (levels - d) ≡ false) (ep : part ≡ v q (rows d)) (x : Step)
            (goes : Goes s index v b top part (get_or s q 0) to sum cost x) where
          row_step : row d (rows d) q e to sum cost ≡ after (goes_on s index v b top (levels - (d + 1)) part x) (λ t a c. row d (rows d) (q + 1) e t a c)
          row_step =
              let z : suc (levels - d - 1) ≡ suc (levels - (d + 1)) = omega arith in
              let y : down_at s index v b top (levels - d) (v q (rows d)) (get_or s q 0) to sum cost ≡ goes_on s index v b top (levels - (d + 1)) part x =
              down_one s index b (get_or s q 0) to v top (v q (rows d)) sum cost (levels - d) under ∙ rw (← ep, z) (sym (goes (levels - (d + 1)))) in
              row_next (levels - d) (rows d) q e to sum cost more ∙ ap (λ (r : Measured). after r (λ t a c. row d (rows d) (q + 1) e t a c)) y

          pub rows_err : {why : ReadError} → x ≡ Err why → left ≡ Err why
          rows_err {why} y = ap (rest firsts lasts rows d) (row_step ∙ rw y) ∙ rest_err firsts lasts rows d why

          -- The rows after it: those that wait and this one have stayed, and the next one's weights are those of what was found.
          module _ {here : Row} (ex : x ≡ Ok here) (r : ℕ → Weights) (same : (j : ℕ) → j ≤ d → r j ≡ rows j) where
            row_row : row d (rows d) q e to sum cost ≡ after (row (d + 1) part here.first here.last here.done.end here.done.length here.done.cost) (λ t a c. row d (rows d) (q + 1) e t a c)
            row_row = row_step ∙ rw ex

            pub rows_on : here.last ≤ here.first → left ≡ rest firsts lasts r d (row d (r d) (q + 1) e here.done.end here.done.length here.done.cost)
            rows_on h =
                ap (rest firsts lasts rows d) (row_row ∙ rw (row_done (levels - (d + 1)) part here.first here.last here.done.end here.done.length here.done.cost h))
                ∙ (sym (rest_same firsts lasts firsts lasts rows r d (row d (rows d) (q + 1) e here.done.end here.done.length here.done.cost) (λ j l. (refl, refl, same j (omega arith))))
                ∙ rw (same d (omega arith)))

            pub rows_down : {c : ℕ} → c ≡ d + 1 → d < length firsts → d < length lasts → r (d + 1) ≡ part
                → left ≡ unwind s index v b top levels (set firsts d (q + 1)) (set lasts d e) r c (row c (r c) here.first here.last here.done.end here.done.length here.done.cost)
            rows_down {c} ec hf hl part_is =
                ap (rest firsts lasts rows d) row_row
                ∙ (push firsts lasts rows r d (q + 1) e same hf hl (row (d + 1) part here.first here.last here.done.end here.done.length here.done.cost)
                ∙ (ap (λ (p : Weights). unwind s index v b top levels (set firsts d (q + 1)) (set lasts d e) r (d + 1) (row (d + 1) p here.first here.last here.done.end here.done.length here.done.cost)) (sym part_is)
                ∙ ap (λ (j : ℕ). unwind s index v b top levels (set firsts d (q + 1)) (set lasts d e) r j (row j (r j) here.first here.last here.done.end here.done.length here.done.cost)) (sym ec)))
