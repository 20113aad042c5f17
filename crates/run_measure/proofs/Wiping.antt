-- Weights set back to zero along entries, and what entries count for number 0 alone.
use Prim.Native.Nat.{ℕ, ◌+◌, ◌*◌, ◌-◌, ◌/◌, ◌%◌, ◌<◌, ◌≤◌}
use mathlib.Core.Path.{◌≡◌, ◌∙◌}
use mathlib.Core.Bool.{cond}
use mathlib.Core.List.{List}
use native.Mathlib.Omega.{arith}
use lib.ListN.{get_or}
use lib.Dec.{ltb, eqb}
use borrow.Author.Tests.{lt-ltb, ltb-true, ltb-false, eqb-true, eqb-false, ne_eqb}
use Rattle.format_fields.proofs.Truth.{by_test}
use Rattle.run_measure.specs.Inner.Sizes.{weighted, capped}
use Rattle.run_measure.specs.Inner.Counting.{before, linked, times_at}
use Rattle.run_measure.specs.Inner.Weighing.{window, weigh_at, KeptBelow}
use Rattle.run_measure.specs.Inner.Entering.{NoneFrom, OnlyBy, Wiped}
use Rattle.run_measure.proofs.Sums.{weighted_add}
use Rattle.run_measure.proofs.Entries.{linked_none}
use Rattle.run_measure.proofs.Windows.{kept_then, before_less, one_weight, linked_step, linked_turn, linked_left}

-- wipe_one
abbrev Less : List ℕ → List ℕ → Type 0
Less ws vs = (i : ℕ) → get_or ws i 0 ≡ 0 → get_or vs i 0 ≡ 0

-- wipe: what is not zero yet, the entries that are left count for.
pub record Wiping (entries old ws : List ℕ) (at width e : ℕ) : Type 0 where
  pub kept : KeptBelow old ws at
  pub none : NoneFrom ws (at + width)
  pub low : e < 65536
  pub first : get_or ws (at + 0) 0 ≡ 0
  pub only : OnlyBy entries e ws at width

module _ (entries old : List ℕ) (at width : ℕ) where
  pub wipe_done : {ws : List ℕ} {e : ℕ} → e < 1024 → Wiping entries old ws at width e → Wiped old ws at
  wipe_done {ws} {e} h o = record { kept = o.kept; none = all }
    where
      all : NoneFrom ws at
      all i l =
          by_test (ltb i (at + width))
          (λ t.
          let k = ltb-true i (at + width) t in
          let z : i ≡ at + (i - at) = omega arith in
          by_test (eqb (i - at) 0)
          (λ u. let y = eqb-true (i - at) 0 u in let x : i ≡ at + 0 = omega arith in rw x o.first)
          (λ u.
          let y = eqb-false (i - at) 0 u in
          rw z (o.only (i - at) (omega arith) (omega arith) (λ j. linked_none e entries e (256 * j + (i - at)) h))))
          (λ t. o.none i (ltb-false i (at + width) t))

  module _ {ws vs : List ℕ} {e key next after : ℕ} (w : Wiping entries old ws at width e) (some : 1024 ≤ e) (ek : key ≡ get_or entries (e + 1) 0)
      (ex : next ≡ get_or entries e 0) (eo : after ≡ before e next)
      (s : KeptBelow ws vs at × (Less ws vs × (key % 256 < width → get_or vs (at + key % 256) 0 ≡ 0))) where
    other : (m j : ℕ) → (key % 256 ≡ m → ⊥) → m < 256 → linked after entries after (256 * j + m) ≡ 0 → linked e entries e (256 * j + m) ≡ 0
    other m j ne l h =
        let a = linked_step entries e (256 * j + m) some in
        let b = ne_eqb (get_or entries (e + 1) 0) (256 * j + m) (λ y. ne (omega arith)) in
        let d : linked (before e (get_or entries e 0)) entries (before e (get_or entries e 0)) (256 * j + m) ≡ 0 = rw (← ex, ← eo) h in
        a ∙ rw (b, d)

    pub wipe_next : width ≤ 256 → Wiping entries old vs at width after
    wipe_next narrow = record {
      kept = kept_then w.kept s.0;
      none = λ i l. s.1.0 i (w.none i l);
      low = let z = before_less e next some in let y = w.low in omega arith;
      first = s.1.0 (at + 0) w.first;
      only = λ m a b z. by_test (eqb (key % 256) m)
          (λ t. let y = eqb-true (key % 256) m t in rw (← y) (s.1.1 (omega arith)))
          (λ t. s.1.0 (at + m) (w.only m a b (λ j. other m j (eqb-false (key % 256) m t) (omega arith) (z j))));
    }

-- add_own: the sum and what the entries that are left count for number 0.
pub record Owning (counts entries : List ℕ) (q : ℕ) (ws : List ℕ) (from width top before e sum : ℕ) : Type 0 where
  pub under : sum ≤ top
  pub low : e < 65536
  pub left : capped top (sum + weighted (window width ws from) (λ j. linked e entries e (256 * j + 0))) ≡ capped top (before + weigh_at (counts, entries) top width q (window width ws from) 0)

module _ (counts entries : List ℕ) (q : ℕ) (ws : List ℕ) (from width top first : ℕ) where
  pub own_start : {c e sum : ℕ} → 0 < width → c ≡ get_or counts q 0 → e ≡ get_or entries q 0 → e < 65536
      → sum ≡ capped top (first + cond (eqb (0 % 256) 0) (window width ws from (0 / 256) * c) 0) → Owning counts entries q ws from width top first e sum
  unfolding weigh_at times_at
  own_start {c} {e} {sum} some ec ee l es = record {
    under = omega arith;
    low = l;
    left =
        let d = one_weight (window width ws from) 0 (get_or counts q 0) 0 (omega arith) (omega arith) in
        let g : cond (eqb (0 % 256) 0) (window width ws from (0 / 256) * c) 0 ≡ cond (eqb (0 % 256) 0) (window width ws from (0 / 256) * get_or counts q 0) 0 = rw ec in
        let h = weighted_add (window width ws from) (λ j. cond (eqb 0 (256 * j + 0)) (get_or counts q 0) 0) (λ j. linked (get_or entries q 0) entries (get_or entries q 0) (256 * j + 0)) in
        rw (ee, lt-ltb 0 width some) (omega arith);
  }

  pub own_done : {e sum : ℕ} → e < 1024 → Owning counts entries q ws from width top first e sum
      → sum ≡ capped top (first + weigh_at (counts, entries) top width q (window width ws from) 0)
  own_done {e} h o =
      let z = linked_left entries (window width ws from) e 0 h in
      let y = o.left in
      let x = o.under in
      omega arith

  module _ {e key n next after sum more : ℕ} (w : Owning counts entries q ws from width top first e sum) (some : 1024 ≤ e)
      (ek : key ≡ get_or entries (e + 1) 0) (small : key < 65536) (en : n ≡ get_or entries (e + 2) 0) (ex : next ≡ get_or entries e 0) (eo : after ≡ before e next)
      (s : more ≡ capped top (sum + cond (eqb (key % 256) 0) (window width ws from (key / 256) * n) 0)) where
    pub own_next : Owning counts entries q ws from width top first after more
    own_next = record {
      under = omega arith;
      low = let z = before_less e next some in let y = w.low in omega arith;
      left =
          let b = linked_turn entries (window width ws from) e 0 some (omega arith) (rw (← ek) small) in
          let c = w.left in
          let d : cond (eqb (key % 256) 0) (window width ws from (key / 256) * n) 0
          ≡ cond (eqb (get_or entries (e + 1) 0 % 256) 0) (window width ws from (get_or entries (e + 1) 0 / 256) * get_or entries (e + 2) 0) 0 = rw (← ek, ← en) in
          rw (eo, ex) (omega arith);
    }
