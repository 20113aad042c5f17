-- A turn of the loop over rows: what is left to measure stays the same.
use Rattle.tree_reader.specs.declared.node.ReadError.{ReadError}
use Rattle.tree_reader.specs.declared.node.ReadError.TheVariants.{Deep}
use Prim.Native.Nat.{ℕ, ◌+◌, ◌*◌, ◌-◌, ◌<◌, ◌≤◌}
use mathlib.Core.Path.{◌≡◌, refl, sym, ap, ◌∙◌}
use mathlib.Core.Bool.{true, false}
use mathlib.Core.List.{List}
use native.Mathlib.Omega.{arith}
use native.Mathlib.Nat.{mul-le-mul}
use lib.ListN.{length, get_or, set, length-set}
use lib.Seq.{get_or-set_same, get_or-set_other}
use lib.Dec.{eqb}
use borrow.Author.Tests.{eqb-true, eqb-false}
use Rattle.format_fields.proofs.Truth.{by_test}
use Rattle.tree_reader.specs.Inner.Positions.{KindsIn}
use Rattle.std.specs.Prelude.{Ok, Err}
use Rattle.run_measure.specs.declared.measure.Row.{Row}
use Rattle.run_measure.specs.Inner.Measuring.{Measured}
use Rattle.run_measure.specs.Inner.Weighing.{Weights, window, KeptBelow}
use Rattle.run_measure.specs.Inner.Descent.{Step, measured, Weighing, down_row, out_of_levels, unwind, Waiting, StepIn}
use Rattle.run_measure.proofs.Laws.{Goes, step_row, rows_start, rows_done, rows_back, rows_deep, rows_err, rows_on, rows_down}
use Rattle.run_measure.specs.Inner.Entering.{NoneFrom, OnlyBy, Wiped}
use Rattle.run_measure.proofs.Windows.{kept_then, window_kept, windows_below, window_room}

-- The weights of the row at each depth.
abbrev pub rows_of : ℕ → List ℕ → ℕ → Weights
rows_of width weights d = window width weights (d * width)

-- The row from q up to e is open at depth d, the rows above it wait, and all of them together come to the answer.
pub record Open (s index : List ℕ) (v : Weighing) (b : List ℕ) (top levels width : ℕ) (answer : Measured) (firsts lasts weights : List ℕ)
    (d base q e to sum cost : ℕ) : Type 0 where
  pub inside : to ≤ length b
  pub under : sum ≤ top
  pub cheap : cost ≤ top
  pub shallow : d ≤ levels
  pub kinds : KindsIn s q e
  pub waiting : Waiting s firsts lasts d
  pub first_long : length firsts ≡ 64
  pub last_long : length lasts ≡ 64
  pub long : 66 * width ≤ length weights
  pub based : base ≡ d * width
  pub comes : unwind s index v b top levels firsts lasts (rows_of width weights) d (down_row s index v b top (levels - d) (rows_of width weights d) q e to sum cost) ≡ answer

-- A row that is open lies in the source.
row_in : (s : List ℕ) (q e : ℕ) → length s ≤ 1024 → KindsIn s q e → q < e → (q < length s) × (get_or s q 0 < 32) × (q < 1024) × (e ≤ 1024)
row_in s q e short h more =
    let a = h q (omega arith) more in
    let z = h (e - 1) (omega arith) (omega arith) in
    (a.0, a.1, omega (arith, a.0), omega (arith, z.0))

module _ (s index : List ℕ) (v : Weighing) (b : List ℕ) (top levels width : ℕ) where
  pub open_start : (firsts lasts weights : List ℕ) (q e to sum cost : ℕ) → KindsIn s q e → to ≤ length b → sum ≤ top → cost ≤ top
      → length firsts ≡ 64 → length lasts ≡ 64 → 66 * width ≤ length weights
      → Open s index v b top levels width (down_row s index v b top levels (window width weights 0) q e to sum cost) firsts lasts weights 0 0 q e to sum cost
  open_start firsts lasts weights q e to sum cost h i u c hf hl hw =
      let z : 0 * width ≡ 0 = omega arith in
      record {
        inside = i;
        under = u;
        cheap = c;
        shallow = omega arith;
        kinds = h;
        waiting = λ j l. absurd (omega arith);
        first_long = hf;
        last_long = hl;
        long = hw;
        based = omega arith;
        comes = rows_start s index v b top levels firsts lasts (rows_of width weights) q e to sum cost
            ∙ ap (λ (i : ℕ). down_row s index v b top levels (window width weights i) q e to sum cost) z;
      }

  module _ {answer : Measured} {firsts lasts weights : List ℕ} {d base q e to sum cost : ℕ}
      (o : Open s index v b top levels width answer firsts lasts weights d base q e to sum cost) where
    pub open_done : e ≤ q → d ≡ 0 → measured to sum cost ≡ answer
    open_done h y = sym (rows_done s index v b top levels firsts lasts (rows_of width weights) d q e to sum cost h y) ∙ o.comes

    -- The rows above have stayed.
    pub open_back : {then : List ℕ} → KeptBelow weights then base → e ≤ q → (d ≡ 0 → ⊥)
        → Open s index v b top levels width answer firsts lasts then (d - 1) (base - width) (get_or firsts (d - 1) 0) (get_or lasts (d - 1) 0) to sum cost
    open_back {then} kept h y =
        let below = windows_below width d y o.based in
        record {
          inside = o.inside;
          under = o.under;
          cheap = o.cheap;
          shallow = omega (arith, o.shallow);
          kinds = (o.waiting (d - 1) (omega arith)).2;
          waiting = λ j l. o.waiting j (omega arith);
          first_long = o.first_long;
          last_long = o.last_long;
          long = omega (arith, o.long, kept.long);
          based = below.1;
          comes = sym (rows_back s index v b top levels firsts lasts (rows_of width weights) d q e to sum cost h y (rows_of width then)
              (λ j l. window_kept width weights then (base - width) (d - 1) j below.1 l (let z : base ≡ base - width + width = omega arith in rw (← z) kept)) refl) ∙ o.comes;
        }

    -- There is room for the weights of an operand, and of what belongs to it.
    pub open_room : levels < 64 → base + width + 2 * width ≤ length weights
    open_room fits = window_room width weights d o.based o.long (omega (arith, o.shallow))

    module _ (more : q < e) where
      pub open_in : length s ≤ 1024 → (q < length s) × (get_or s q 0 < 32) × (q < 1024) × (e ≤ 1024)
      open_in short = row_in s q e short o.kinds more

      pub open_deep : out_of_levels index (get_or s q 0) (levels - d) ≡ true → Err Deep ≡ answer
      open_deep y = sym (rows_deep s index v b top levels firsts lasts (rows_of width weights) d q e to sum cost more y) ∙ o.comes

      -- The weights of the operand were worked out, and then those of what belongs to it.
      module _ (below : out_of_levels index (get_or s q 0) (levels - d) ≡ false) (mid : List ℕ)
          (mid-is : window width mid (base + width) ≡ v q (window width weights base)) (x : Step)
          (goes : Goes s index v b top (window width mid (base + width)) (get_or s q 0) to sum cost x) where
        part_is : window width mid (base + width) ≡ v q (rows_of width weights d)
        part_is = mid-is ∙ ap (λ (i : ℕ). v q (window width weights i)) o.based

        pub open_err : {why : ReadError} → x ≡ Err why → Err why ≡ answer
        open_err y =
            sym (rows_err s index v b top levels firsts lasts (rows_of width weights) d q e to sum cost more (window width mid (base + width)) below part_is x goes y) ∙ o.comes

        module _ {here : Row} (ex : x ≡ Ok here) (within : StepIn s (length b) top to x) (then : List ℕ)
            (kept : KeptBelow weights then (base + width)) where
          found : (to < here.done.end) × (here.done.end ≤ length b) × (here.done.length ≤ top) × (here.done.cost ≤ top) × KindsIn s here.first here.last
          found = step_row s (length b) top to x ex within

          stays : (j : ℕ) → j ≤ d → rows_of width then j ≡ rows_of width weights j
          stays j h = window_kept width weights then base d j o.based h kept

          pub open_on : here.last ≤ here.first → Open s index v b top levels width answer firsts lasts then d base (q + 1) e here.done.end here.done.length here.done.cost
          open_on h =
              record {
                inside = found.1;
                under = found.2;
                cheap = found.3;
                shallow = o.shallow;
                kinds = λ i j l. o.kinds i (omega arith) l;
                waiting = o.waiting;
                first_long = o.first_long;
                last_long = o.last_long;
                long = omega (arith, o.long, kept.long);
                based = o.based;
                comes = sym (rows_on s index v b top levels firsts lasts (rows_of width weights) d q e to sum cost more (window width mid (base + width)) below part_is x goes ex (rows_of width then) stays h) ∙ o.comes;
              }

          module _ (on : window width then (base + width) ≡ window width mid (base + width)) (short : length s ≤ 1024) (fits : levels < 64) (deep : d < levels) where
            waits : Waiting s (set firsts d (q + 1)) (set lasts d e) (d + 1)
            waits j l =
                by_test (eqb j d)
                (λ t.
                let y : j ≡ d = eqb-true j d t in
                let hf : d < length firsts = omega (arith, o.first_long) in
                let hl : d < length lasts = omega (arith, o.last_long) in
                let z = row_in s q e short o.kinds more in
                rw (y, get_or-set_same firsts d (q + 1) 0 hf, get_or-set_same lasts d e 0 hl)
                (omega (arith, z.2), z.3, λ i k m. o.kinds i (omega arith) m))
                (λ t.
                let y : j ≡ d → ⊥ = eqb-false j d t in
                rw (get_or-set_other firsts d j (q + 1) 0 y, get_or-set_other lasts d j e 0 y) (o.waiting j (omega arith)))

            pub open_down : Open s index v b top levels width answer (set firsts d (q + 1)) (set lasts d e) then (d + 1) (base + width) here.first here.last here.done.end here.done.length here.done.cost
            open_down =
                let hf : d < length firsts = omega (arith, o.first_long) in
                let hl : d < length lasts = omega (arith, o.last_long) in
                let next : base + width ≡ (d + 1) * width = omega (arith, o.based) in
                record {
                  inside = found.1;
                  under = found.2;
                  cheap = found.3;
                  shallow = omega arith;
                  kinds = found.4;
                  waiting = waits;
                  first_long = length-set firsts d (q + 1) ∙ o.first_long;
                  last_long = length-set lasts d e ∙ o.last_long;
                  long = omega (arith, o.long, kept.long);
                  based = next;
                  comes = sym (rows_down s index v b top levels firsts lasts (rows_of width weights) d q e to sum cost more (window width mid (base + width)) below part_is x goes ex (rows_of width then) stays refl hf hl
                      (ap (window width then) (sym next) ∙ on)) ∙ o.comes;
                }

-- Behind the open row's window all weights are zero, and the window of each row that was opened has those alone that the entries
-- of its tree's position count for.
pub record Tidy (entries : List ℕ) (width : ℕ) (firsts weights : List ℕ) (d base : ℕ) : Type 0 where
  pub none : NoneFrom weights (base + width)
  pub only : (j : ℕ) → j < d → OnlyBy entries (get_or entries (get_or firsts j 0 - 1) 0) weights (j * width + width) width

module _ (entries : List ℕ) (width : ℕ) (firsts weights : List ℕ) where
  pub tidy_start : NoneFrom weights width → Tidy entries width firsts weights 0 0
  tidy_start none = record { none = λ i l. none i (omega arith); only = λ j l. absurd (omega arith) }

  module _ {d base : ℕ} (o : Tidy entries width firsts weights d base) (eb : base ≡ d * width) where
    -- The deepest row's window.
    pub tidy_deepest : (d ≡ 0 → ⊥) → OnlyBy entries (get_or entries (get_or firsts (d - 1) 0 - 1) 0) weights base width
    tidy_deepest some =
        let below = windows_below width d some eb in
        let z : (d - 1) * width + width ≡ base = omega arith in
        rw z at (o.only (d - 1) (omega arith))

    only_kept : {then : List ℕ} (c to : ℕ) → c ≤ d → c * width ≤ to → KeptBelow weights then (to + width)
        → (j : ℕ) → j < c → OnlyBy entries (get_or entries (get_or firsts j 0 - 1) 0) then (j * width + width) width
    only_kept c to lc lt kept j l m some more none =
        let y : (j + 1) * width ≤ c * width = mul-le-mul (let z : j + 1 ≤ c = omega arith in z) (let z : width ≤ width = omega arith in z) in
        kept.same (j * width + width + m) (omega arith) ∙ o.only j (omega arith) m some more none

    pub tidy_back : {then : List ℕ} → Wiped weights then base → (d ≡ 0 → ⊥) → Tidy entries width firsts then (d - 1) (base - width)
    tidy_back {then} wiped some =
        let below = windows_below width d some eb in
        let z : base ≡ base - width + width = omega arith in
        record {
          none = rw (← z) wiped.none;
          only = only_kept {then = then} (d - 1) (base - width) (omega arith) (omega arith) (rw (← z) wiped.kept);
        }

    pub tidy_on : {mid then : List ℕ} → KeptBelow weights mid (base + width) → Wiped mid then (base + width) → Tidy entries width firsts then d base
    tidy_on {mid} {then} kept wiped = record {
      none = wiped.none;
      only = only_kept {then = then} d base (omega arith) (omega arith) (kept_then kept wiped.kept);
    }

    pub tidy_down : {mid : List ℕ} (q : ℕ) → d < length firsts → KeptBelow weights mid (base + width) → NoneFrom mid (base + width + width)
        → OnlyBy entries (get_or entries q 0) mid (base + width) width → Tidy entries width (set firsts d (q + 1)) mid (d + 1) (base + width)
    tidy_down {mid} q hf kept none only = record {
      none = none;
      only = λ j l. by_test (eqb j d)
          (λ t.
          let y = eqb-true j d t in
          let z : q + 1 - 1 ≡ q = omega arith in
          let x : d * width + width ≡ base + width = omega arith in
          rw (y, get_or-set_same firsts d (q + 1) 0 hf, z, x) only)
          (λ t.
          let y = eqb-false j d t in
          rw (get_or-set_other firsts d j (q + 1) 0 y) (only_kept {then = mid} d base (omega arith) (omega arith) kept j (omega arith)));
    }
