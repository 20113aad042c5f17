-- Windows of weights, one behind the other.
use Prim.Native.Nat.{ℕ, zero, suc, ◌+◌, ◌*◌, ◌-◌, ◌/◌, ◌%◌, ◌<◌, ◌≤◌}
use mathlib.Core.Path.{◌≡◌, refl, sym, ap, ◌∙◌}
use mathlib.Core.Bool.{cond}
use mathlib.Core.List.{List}
use native.Mathlib.Omega.{arith}
use native.Mathlib.Nat.{mul-le-mul}
use lib.ListN.{length, get_or, set, length-set}
use lib.Seq.{get_or-set_same, get_or-set_other}
use lib.Dec.{ltb, eqb}
use borrow.Author.Tests.{lt-ltb, le-ltb, ltb-true, ltb-false, eqb-true, eqb-false, eq-eqb, ne_eqb}
use Rattle.format_fields.proofs.Truth.{by_test}
use Rattle.run_measure.specs.Inner.Sizes.{weighted, capped}
use Rattle.run_measure.specs.Inner.Counting.{before, linked, times_at}
use Rattle.run_measure.specs.Inner.Weighing.{Weights, window, weigh_at, sum_of, once_by, KeptBelow}
use Rattle.run_measure.specs.Inner.Entering.{NoneFrom, OnlyBy, Shared, Entered}
use Rattle.run_measure.proofs.Sums.{weighted_add, weighted_plus, weighted_none, weighted_zero, weighted_alike, weighted_pick, capped_weighted, none_of, of_none}
use Rattle.run_measure.proofs.Entries.{linked_none, linked_one, linked_enough}

-- A weight in a window, and none past it.
pub window_in : (width : ℕ) (ws : List ℕ) (at j : ℕ) → j < width → window width ws at j ≡ get_or ws (at + j) 0
unfolding window
window_in width ws at j h = cc (lt-ltb j width h)

pub window_out : (width : ℕ) (ws : List ℕ) (at j : ℕ) → width ≤ j → window width ws at j ≡ 0
unfolding window
window_out width ws at j h = cc (le-ltb j width h)

-- The first weight of a window.
pub first_weight : (width : ℕ) (ws : List ℕ) (at : ℕ) (u : Weights) → 0 < width → window width ws at ≡ u → get_or ws at 0 ≡ u 0
first_weight width ws at u some e =
    let z : at ≡ at + 0 = omega arith in
    ap (λ (i : ℕ). get_or ws i 0) z ∙ (sym (window_in width ws at 0 some) ∙ (λ x. e x 0))

-- Two windows with the same weights.
window_alike : (width : ℕ) (ws vs : List ℕ) (at to : ℕ) → ((j : ℕ) → j < width → get_or vs (to + j) 0 ≡ get_or ws (at + j) 0)
    → window width vs to ≡ window width ws at
window_alike width ws vs at to same = λ x j. point j x
  where
    point : (j : ℕ) → window width vs to j ≡ window width ws at j
    point j =
        by_test (ltb j width)
        (λ t. let h = ltb-true j width t in window_in width vs to j h ∙ (same j h ∙ sym (window_in width ws at j h)))
        (λ t. let h = ltb-false j width t in window_out width vs to j h ∙ sym (window_out width ws at j h))

-- What stays below a position keeps the windows below it.
pub window_same : (width : ℕ) (ws vs : List ℕ) (at : ℕ) → ((i : ℕ) → i < at + width → get_or vs i 0 ≡ get_or ws i 0) → window width vs at ≡ window width ws at
window_same width ws vs at same = window_alike width ws vs at at (λ j h. same (at + j) (omega arith))

pub window_kept : (width : ℕ) (ws vs : List ℕ) (base d j : ℕ) → base ≡ d * width → j ≤ d
    → KeptBelow ws vs (base + width) → window width vs (j * width) ≡ window width ws (j * width)
window_kept width ws vs base d j eb h k =
    let m : j * width ≤ d * width = mul-le-mul h (let z : width ≤ width = omega arith in z) in
    window_same width ws vs (j * width) (λ i l. k.same i (omega arith))

-- The window before.
pub windows_below : (width : ℕ) {base : ℕ} (d : ℕ) → (d ≡ 0 → ⊥) → base ≡ d * width → (width ≤ base) × (base - width ≡ (d - 1) * width)
windows_below width zero some h = absurd (some refl)
windows_below width (suc d) some h = let z : suc d - 1 ≡ d = omega arith in let y : suc d * width ≡ d * width + width = omega arith in rw z (omega arith)

pub window_room : (width : ℕ) {base : ℕ} (ws : List ℕ) (d : ℕ) → base ≡ d * width → 66 * width ≤ length ws → d ≤ 63 → base + width + 2 * width ≤ length ws
window_room width ws d eb h l =
    let m : d * width ≤ 63 * width = mul-le-mul l (let z : width ≤ width = omega arith in z) in
    omega arith

pub kept_all : (ws : List ℕ) (at : ℕ) → KeptBelow ws ws at
kept_all ws at = record { long = refl; same = λ i l. refl }

pub kept_then : {ws mid vs : List ℕ} {at : ℕ} → KeptBelow ws mid at → KeptBelow mid vs at → KeptBelow ws vs at
kept_then k on = record { long = on.long ∙ k.long; same = λ i l. on.same i l ∙ k.same i l }

-- The sum of a window.
pub sum_under : (top : ℕ) (w : Weights) → sum_of top w ≤ top
unfolding sum_of
sum_under top w = omega arith

pub sum_none : (top width : ℕ) (ws : List ℕ) (at : ℕ) → ((m : ℕ) → m < width → get_or ws (at + m) 0 ≡ 0) → 0 ≡ sum_of top (window width ws at)
unfolding sum_of
sum_none top width ws at zeros = let z = weighted_zero (window width ws at) (λ j. 1) (λ j. none_of 1 (point j)) in omega arith
  where
    point : (j : ℕ) → window width ws at j ≡ 0
    point j = by_test (ltb j width) (λ t. let h = ltb-true j width t in window_in width ws at j h ∙ zeros j h) (λ t. window_out width ws at j (ltb-false j width t))

-- One weight more at a number: so much more in the sum, each up to the top.
pub sum_more : (top : ℕ) (w v : Weights) (to x : ℕ) → to < 256 → ((m : ℕ) → v m ≡ capped top (w m + cond (eqb to m) x 0))
    → {before after : ℕ} → after ≡ capped top (before + x) → before ≡ sum_of top w → after ≡ sum_of top v
unfolding sum_of
sum_more top w v to x h adds ea eb =
    let a = capped_weighted top v (λ m. w m + cond (eqb to m) x 0) (λ j. 1) (λ m. let y = adds m in omega arith) in
    let b = weighted_plus w (λ m. cond (eqb to m) x 0) (λ j. 1) in
    let d : weighted (λ m. cond (eqb to m) x 0) (λ j. 1) ≡ x =
    weighted_pick (λ m. cond (eqb to m) x 0) (λ j. 1) to h (λ i ne. none_of 1 (rw (ne_eqb to i ne))) ∙ rw (eq-eqb to to refl) (omega arith) in
    omega arith

-- add_one
module _ (ws : List ℕ) (from width key n top before : ℕ) (narrow : width ≤ 256) (under : (m : ℕ) → m < width → get_or ws (from + width + m) 0 ≤ top) where
  share_zero : (x : ℕ) → x ≤ top → (y : ℕ) → y ≡ 0 → x ≡ capped top (x + y)
  share_zero x l y e = omega arith

  module _ {at c weight after : ℕ} (room : from + 2 * width ≤ length ws) (k : key % 256 < width) (ea : at ≡ from + width + key % 256)
      (ew : weight ≡ window width ws from (key / 256)) (ec : c ≡ capped top (get_or ws at 0 + weight * n)) (er : after ≡ capped top (before + weight * n)) where
    adds : (m : ℕ) → m < width
        → get_or (set ws at c) (from + width + m) 0 ≡ capped top (get_or ws (from + width + m) 0 + cond (eqb (key % 256) m) (window width ws from (key / 256) * n) 0)
    adds m l =
        by_test (eqb (key % 256) m)
        (λ t.
        let e = eqb-true (key % 256) m t in
        let d : from + width + m ≡ at = omega arith in
        rw (t, d, ← ew) (get_or-set_same ws at c 0 (omega arith) ∙ ec))
        (λ t.
        let e = eqb-false (key % 256) m t in
        rw t (get_or-set_other ws at (from + width + m) c 0 (λ y. e (omega arith)) ∙ share_zero (get_or ws (from + width + m) 0) (under m l) 0 refl))

    more : (m : ℕ) → window width (set ws at c) (from + width) m ≡ capped top (window width ws (from + width) m + cond (eqb (key % 256) m) (weight * n) 0)
    more m =
        by_test (ltb m width)
        (λ t. let l = ltb-true m width t in rw (window_in width (set ws at c) (from + width) m l, window_in width ws (from + width) m l, ew) (adds m l))
        (λ t.
        let l = ltb-false m width t in
        rw (window_out width (set ws at c) (from + width) m l, window_out width ws (from + width) m l, ne_eqb (key % 256) m (λ e. omega arith)) (omega arith))

    pub one_adds : Shared ws (set ws at c) from width key n top before after
    one_adds = record {
      kept = record { long = length-set ws at c; same = λ i l. get_or-set_other ws at i c 0 (λ e. omega arith) };
      behind = λ i l. get_or-set_other ws at i c 0 (λ e. omega arith);
      adds = adds;
      sums = sum_more top (window width ws (from + width)) (window width (set ws at c) (from + width)) (key % 256) (weight * n) (omega arith) more er;
    }

-- before_entry
pub before_none : (e next : ℕ) → e < next + 3 → 0 ≡ before e next
before_none e next h = cc (lt-ltb e (next + 3) h)

pub before_some : (e next : ℕ) → next + 3 ≤ e → next ≡ before e next
before_some e next h = cc (le-ltb e (next + 3) h)

pub before_less : (e next : ℕ) → 1024 ≤ e → before e next < e
before_less e next h =
    by_test (ltb e (next + 3))
    (λ t. let z = before_none e next (ltb-true _ _ t) in omega arith)
    (λ t. let k = ltb-false _ _ t in let z = before_some e next k in omega arith)

-- One entry, by the number of its clause.
one_key : (key n m j : ℕ) → key < 65536 → m < 256 → cond (eqb key (256 * j + m)) n 0 ≡ cond (eqb (key % 256) m) (cond (eqb (key / 256) j) n 0) 0
one_key key n m j h l =
    by_test (eqb key (256 * j + m))
    (λ t.
    let e = eqb-true key (256 * j + m) t in
    let a : key % 256 ≡ m = omega arith in
    let b : key / 256 ≡ j = omega arith in
    rw (t, eq-eqb (key % 256) m a, eq-eqb (key / 256) j b))
    (λ t.
    let e = eqb-false key (256 * j + m) t in
    rw t (by_test (eqb (key % 256) m)
    (λ u.
    let a = eqb-true (key % 256) m u in
    rw (u, ne_eqb (key / 256) j (λ b. e (omega arith))))
    (λ u. rw u)))

pub one_weight : (w : Weights) (key n m : ℕ) → key < 65536 → m < 256
    → weighted w (λ j. cond (eqb key (256 * j + m)) n 0) ≡ cond (eqb (key % 256) m) (w (key / 256) * n) 0
one_weight w key n m h l =
    weighted_alike w _ w _ (λ j. ap (λ (x : ℕ). w j * x) (one_key key n m j h l))
    ∙ by_test (eqb (key % 256) m)
    (λ t. rw t
    (weighted_pick w (λ j. cond (eqb (key / 256) j) n 0) (key / 256) (omega arith) (λ i ne. of_none (w i) (rw (ne_eqb (key / 256) i ne)))
    ∙ rw (eq-eqb (key / 256) (key / 256) refl)))
    (λ t. rw t (weighted_none w))

-- The entry at e, and those before it.
pub linked_step : (entries : List ℕ) (e key : ℕ) → 1024 ≤ e
    → linked e entries e key
    ≡ cond (eqb (get_or entries (e + 1) 0) key) (get_or entries (e + 2) 0) 0 + linked (before e (get_or entries e 0)) entries (before e (get_or entries e 0)) key
linked_step entries e key h =
    let b = before_less e (get_or entries e 0) h in
    let s : e ≡ suc (e - 1) = omega arith in
    ap (λ (i : ℕ). linked i entries e key) s
    ∙ (linked_one (e - 1) entries e key h
    ∙ ap (λ (x : ℕ). cond (eqb (get_or entries (e + 1) 0) key) (get_or entries (e + 2) 0) 0 + x)
    (linked_enough (e - 1) (before e (get_or entries e 0)) entries (before e (get_or entries e 0)) key (omega arith) (omega arith)))

pub linked_turn : (entries : List ℕ) (w : Weights) (e m : ℕ) → 1024 ≤ e → m < 256 → get_or entries (e + 1) 0 < 65536
    → weighted w (λ j. linked e entries e (256 * j + m))
    ≡ cond (eqb (get_or entries (e + 1) 0 % 256) m) (w (get_or entries (e + 1) 0 / 256) * get_or entries (e + 2) 0) 0
    + weighted w (λ j. linked (before e (get_or entries e 0)) entries (before e (get_or entries e 0)) (256 * j + m))
linked_turn entries w e m h l byte =
    weighted_alike w _ w _ (λ j. ap (λ (x : ℕ). w j * x) (linked_step entries e (256 * j + m) h))
    ∙ (sym (weighted_add w (λ j. cond (eqb (get_or entries (e + 1) 0) (256 * j + m)) (get_or entries (e + 2) 0) 0)
    (λ j. linked (before e (get_or entries e 0)) entries (before e (get_or entries e 0)) (256 * j + m)))
    ∙ ap (λ (x : ℕ). x + weighted w (λ j. linked (before e (get_or entries e 0)) entries (before e (get_or entries e 0)) (256 * j + m)))
    (one_weight w (get_or entries (e + 1) 0) (get_or entries (e + 2) 0) m byte l))

pub linked_left : (entries : List ℕ) (w : Weights) (e m : ℕ) → e < 1024 → weighted w (λ j. linked e entries e (256 * j + m)) ≡ 0
linked_left entries w e m h = weighted_zero w (λ j. linked e entries e (256 * j + m)) (λ j. of_none (w j) (linked_none e entries e (256 * j + m) h))

-- add_entries: what is left of the entries comes to the same.
pub record Entering (entries : List ℕ) (head : ℕ) (old ws : List ℕ) (from width top sum e total : ℕ) : Type 0 where
  pub kept : KeptBelow old ws (from + width)
  pub behind : (i : ℕ) → from + width + width ≤ i → get_or ws i 0 ≡ get_or old i 0
  pub under : (m : ℕ) → m < width → get_or ws (from + width + m) 0 ≤ top
  pub low : e < 65536
  pub less : total ≤ top
  pub left : (m : ℕ) → m < width
      → capped top (get_or ws (from + width + m) 0 + weighted (window width old from) (λ j. linked e entries e (256 * j + m)))
      ≡ capped top (get_or old (from + width + m) 0 + weighted (window width old from) (λ j. linked head entries head (256 * j + m)))
  pub sums : sum ≡ sum_of top (window width old (from + width)) → total ≡ sum_of top (window width ws (from + width))

module _ (entries : List ℕ) (head : ℕ) (old : List ℕ) (from width top sum : ℕ) where
  pub enter_start : sum ≤ top → ((m : ℕ) → m < width → get_or old (from + width + m) 0 ≤ top) → {e : ℕ} → e ≡ head → e < 65536
      → Entering entries head old old from width top sum e sum
  enter_start s h eh l = record {
    kept = kept_all old (from + width);
    behind = λ i l. refl;
    under = h;
    low = l;
    less = s;
    left = λ m l x. capped top (get_or old (from + width + m) 0 + weighted (window width old from) (λ j. linked (eh x) entries (eh x) (256 * j + m)));
    sums = λ e. e;
  }

  pub enter_done : {ws : List ℕ} {e total : ℕ} → e < 1024 → Entering entries head old ws from width top sum e total
      → (total ≤ top) × Entered entries head old ws from width top sum total
  enter_done {ws} {e} h o = (
    o.less,
    record {
      kept = o.kept;
      behind = o.behind;
      adds = λ m l.
          let z = linked_left entries (window width old from) e m h in
          let y = o.left m l in
          let u = o.under m l in
          omega arith;
      sums = o.sums;
    },
  )

  module _ (ws vs : List ℕ) {e key n next o total more : ℕ} (w : Entering entries head old ws from width top sum e total) (some : 1024 ≤ e) (narrow : width ≤ 256)
      (ek : key ≡ get_or entries (e + 1) 0) (small : key < 65536) (en : n ≡ get_or entries (e + 2) 0) (ex : next ≡ get_or entries e 0) (eo : o ≡ before e next)
      (s : (more ≤ top) × Shared ws vs from width key n top total more) where
    same_window : window width ws from ≡ window width old from
    same_window = window_same width old ws from w.kept.same

    pub enter_next : Entering entries head old vs from width top sum o more
    enter_next = record {
      kept = kept_then w.kept s.1.kept;
      behind = λ i l. s.1.behind i l ∙ w.behind i l;
      under = λ m l. let z = s.1.adds m l in omega arith;
      low = let z = before_less e next some in let y = w.low in omega arith;
      less = s.0;
      left = λ m l.
          let a = s.1.adds m l in
          let b = linked_turn entries (window width old from) e m some (omega arith) (rw (← ek) small) in
          let c = w.left m l in
          let d : cond (eqb (key % 256) m) (window width ws from (key / 256) * n) 0
          ≡ cond (eqb (get_or entries (e + 1) 0 % 256) m) (window width old from (get_or entries (e + 1) 0 / 256) * get_or entries (e + 2) 0) 0 = rw (← ek, ← en, same_window) in
          rw (eo, ex) (omega arith);
      sums = λ y. s.1.sums (w.sums y);
    }

-- weigh
module _ (counts entries : List ℕ) (q : ℕ) (ws one vs : List ℕ) (from width top : ℕ) (some : 0 < width) (narrow : width ≤ 256)
    (zeros : (m : ℕ) → m < width → get_or ws (from + width + m) 0 ≡ 0) where
  pub none_under : (m : ℕ) → m < width → get_or ws (from + width + m) 0 ≤ top
  none_under m l = let z = zeros m l in omega arith

  module _ {c one_sum : ℕ} (ec : c ≡ get_or counts q 0) (shared : Shared ws one from width 0 c top 0 one_sum) where
    pub one_under : (m : ℕ) → m < width → get_or one (from + width + m) 0 ≤ top
    one_under m l = let z = shared.adds m l in omega arith

    module _ {sum : ℕ} (entered : Entered entries (get_or entries q 0) one vs from width top one_sum sum) where
      pub weigh_kept : KeptBelow ws vs (from + width)
      weigh_kept = kept_then shared.kept entered.kept

      one_window : window width one from ≡ window width ws from
      one_window = window_same width ws one from shared.kept.same

      inside : (m : ℕ) → m < width → get_or vs (from + width + m) 0 ≡ capped top (weighted (window width ws from) (λ j. times_at (counts, entries) q (256 * j + m)))
      unfolding times_at
      inside m l =
          let a = entered.adds m l in
          let b = shared.adds m l in
          let o = zeros m l in
          let cw : weighted (window width one from) (λ j. linked (get_or entries q 0) entries (get_or entries q 0) (256 * j + m))
          ≡ weighted (window width ws from) (λ j. linked (get_or entries q 0) entries (get_or entries q 0) (256 * j + m)) = rw one_window in
          let d = one_weight (window width ws from) 0 (get_or counts q 0) m (omega arith) (omega arith) in
          let g : cond (eqb (0 % 256) m) (window width ws from (0 / 256) * c) 0 ≡ cond (eqb (0 % 256) m) (window width ws from (0 / 256) * get_or counts q 0) 0 = rw ec in
          let h = weighted_add (window width ws from) (λ j. cond (eqb 0 (256 * j + m)) (get_or counts q 0) 0) (λ j. linked (get_or entries q 0) entries (get_or entries q 0) (256 * j + m)) in
          omega arith

      point : (m : ℕ) → window width vs (from + width) m ≡ weigh_at (counts, entries) top width q (window width ws from) m
      unfolding weigh_at
      point m =
          by_test (ltb m width)
          (λ t. let l = ltb-true m width t in rw t (window_in width vs (from + width) m l ∙ inside m l))
          (λ t. rw t (window_out width vs (from + width) m (ltb-false m width t)))

      pub weigh_is : window width vs (from + width) ≡ weigh_at (counts, entries) top width q (window width ws from)
      weigh_is = λ x m. point m x

      pub weigh_sums : sum ≡ sum_of top (window width vs (from + width))
      weigh_sums = entered.sums (shared.sums (sum_none top width ws (from + width) zeros))

      pub weigh_none : NoneFrom ws (from + width) → NoneFrom vs (from + width + width)
      weigh_none none i l = entered.behind i l ∙ (shared.behind i l ∙ none i (omega arith))

-- What position q counts nothing for has no weight.
pub weighed_only : (counts entries : List ℕ) (q top width : ℕ) (w : Weights) (vs : List ℕ) (at : ℕ)
    → window width vs at ≡ weigh_at (counts, entries) top width q w → OnlyBy entries (get_or entries q 0) vs at width
unfolding weigh_at times_at
weighed_only counts entries q top width w vs at e m some l none =
    let z : (j : ℕ) → times_at (counts, entries) q (256 * j + m) ≡ 0 = λ j. rw (ne_eqb 0 (256 * j + m) (λ y. omega arith)) (let x = none j in omega arith) in
    let y = weighted_zero w (λ j. times_at (counts, entries) q (256 * j + m)) (λ j. of_none (w j) (z j)) in
    let x : capped top (weighted w (λ j. times_at (counts, entries) q (256 * j + m))) ≡ 0 = omega arith in
    sym (window_in width vs at m l) ∙ ((λ i. e i m) ∙ rw (lt-ltb m width l) x)

-- weigh: one weight, and no entry
module _ (counts entries : List ℕ) (q : ℕ) (ws : List ℕ) (from top : ℕ) {v c e w : ℕ} (room : from + 2 ≤ length ws) (ec : c ≡ get_or counts q 0) (ee : e ≡ get_or entries q 0)
    (none : e < 1024) (ew : w ≡ get_or ws from 0) (ev : v ≡ capped top (0 + w * c)) where
  off : List ℕ
  off = set ws (from + 1) 0

  one : List ℕ
  one = set ws (from + 1) v

  other : (i x : ℕ) → i < from + 1 → get_or (set ws (from + 1) x) i 0 ≡ get_or ws i 0
  other i x l = get_or-set_other ws (from + 1) i x 0 (λ h. absurd (omega arith))

  here : (m x : ℕ) → m < 1 → get_or (set ws (from + 1) x) (from + 1 + m) 0 ≡ x
  here m x l = let z : from + 1 + m ≡ from + 1 = omega arith in ap (λ (i : ℕ). get_or (set ws (from + 1) x) i 0) z ∙ get_or-set_same ws (from + 1) x 0 (omega arith)

  off_zero : (m : ℕ) → m < 1 → get_or off (from + 1 + m) 0 ≡ 0
  unfolding off
  off_zero m l = here m 0 l

  off_window : window 1 off from ≡ window 1 ws from
  unfolding off
  off_window = window_same 1 ws (set ws (from + 1) 0) from (λ i l. other i 0 l)

  abbrev one_sum : ℕ
  one_sum = sum_of top (window 1 one (from + 1))

  one_is : Shared off one from 1 0 c top 0 one_sum
  unfolding off one window
  one_is = record {
    kept = record { long = length-set ws (from + 1) v ∙ sym (length-set ws (from + 1) 0); same = λ i l. other i v l ∙ sym (other i 0 l) };
    behind = λ i l.
        get_or-set_other ws (from + 1) i v 0 (λ h. absurd (omega arith)) ∙ sym (get_or-set_other ws (from + 1) i 0 0 (λ h. absurd (omega arith)));
    adds = λ m l.
        let z : m ≡ 0 = omega arith in
        let f : get_or (set ws (from + 1) 0) (from + 0) 0 ≡ w = ap (λ (i : ℕ). get_or (set ws (from + 1) 0) i 0) (let y : from + 0 ≡ from = omega arith in y) ∙ (other from 0 (omega arith) ∙ sym ew) in
        here m v l ∙ rw (here m 0 l, z, f) ev;
    sums = λ y. refl;
  }

  none_is : Entered entries (get_or entries q 0) one one from 1 top one_sum one_sum
  unfolding one
  none_is =
      (enter_done _ _ _ _ _ _ _ (omega arith)
      (enter_start entries (get_or entries q 0) one from 1 top one_sum (sum_under top _) (λ m l. let z = here m v l in omega arith) ee (omega arith))).1

  pub weigh_one : (width : ℕ) → width ≡ 1
      → KeptBelow ws (set ws (from + 1) v) (from + width) × (window width (set ws (from + 1) v) (from + width) ≡ weigh_at (counts, entries) top width q (window width ws from))
  unfolding one
  weigh_one width h =
      rw h (
        record { long = length-set ws (from + 1) v; same = λ i l. other i v l },
        weigh_is counts entries q off one one from 1 top (omega arith) (omega arith) off_zero ec one_is none_is ∙ ap (weigh_at (counts, entries) top 1 q) off_window,
      )

-- begin
module _ (ws : List ℕ) (number width top : ℕ) (none : NoneFrom ws 0) where
  pub begin_out : 0 ≡ sum_of top (window width ws 0)
  begin_out = sum_none top width ws 0 (λ m l. none (0 + m) (omega arith))

  module _ (room : width ≤ length ws) (narrow : width ≤ 256) {at : ℕ} (ea : at ≡ number) (h : number < width) where
    begin_is : window width (set ws at 1) 0 ≡ once_by number
    begin_is = λ x j. point j x
      where
        point : (j : ℕ) → window width (set ws at 1) 0 j ≡ once_by number j
        point j =
            by_test (eqb number j)
            (λ t.
            let e = eqb-true number j t in
            let d : 0 + j ≡ at = omega arith in
            rw t (window_in width (set ws at 1) 0 j (omega arith) ∙ rw d (get_or-set_same ws at 1 0 (omega arith))))
            (λ t.
            let e = eqb-false number j t in
            rw t (by_test (ltb j width)
            (λ r. window_in width (set ws at 1) 0 j (ltb-true j width r) ∙ (get_or-set_other ws at (0 + j) 1 0 (λ y. e (omega arith)) ∙ none (0 + j) (omega arith)))
            (λ r. window_out width (set ws at 1) 0 j (ltb-false j width r))))

    once_sum : capped top (0 + 1) ≡ sum_of top (once_by number)
    unfolding sum_of
    once_sum =
        let z = weighted_pick (once_by number) (λ j. 1) number (omega arith) (λ i ne. none_of 1 (rw (ne_eqb number i ne))) in
        let y : once_by number number ≡ 1 = rw (eq-eqb number number refl) in
        omega arith

    pub begun : {sum : ℕ} → sum ≡ capped top (0 + 1)
        → (length (set ws at 1) ≡ length ws) × ((number < width → window width (set ws at 1) 0 ≡ once_by number)
        × ((sum ≡ sum_of top (window width (set ws at 1) 0)) × NoneFrom (set ws at 1) width))
    begun es =
        (length-set ws at 1, (λ l. begin_is, (es ∙ (once_sum ∙ ap (sum_of top) (sym begin_is)), λ i l. get_or-set_other ws at i 1 0 (λ e. omega arith) ∙ none i (omega arith))))
