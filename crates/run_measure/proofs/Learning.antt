-- Where the terms that are open end: what is left to read decides it, row by row.
use Prim.Native.Nat.{ℕ, zero, suc, ◌+◌, ◌-◌, ◌<◌, ◌≤◌}
use mathlib.Core.Path.{◌≡◌, refl, ap, subst, ◌∙◌}
use mathlib.Core.Logic.{◌⊎◌, inl, inr, ⊎_elim}
use mathlib.Core.Bool.{false}
use mathlib.Core.List.{List, []}
use native.Mathlib.Omega.{arith}
use lib.ListN.{length, get_or, set, length-set}
use lib.Seq.{get_or-set_same, get_or-set_other}
use lib.Dec.{eqb}
use borrow.Author.Tests.{eqb-true, eqb-false}
use Rattle.format_fields.proofs.Truth.{by_test}
use Rattle.tree_reader.specs.declared.node.Syntax.TheVariants.{Tree}
use Rattle.tree_reader.specs.declared.node.Node.TheVariants.{Leaf, Operands}
use Rattle.tree_reader.specs.Inner.Positions.{node_at, operands_from, read_at, Read}
use Rattle.tree_reader.specs.Inner.Ends.{Kept}
use Rattle.std.specs.Prelude.{Ok, Err}
use Rattle.run_measure.specs.declared.measure.Row.{Row}
use Rattle.run_measure.specs.Inner.Descent.{Step, out_of_levels, leaf_step}
use Rattle.run_measure.proofs.Laws.{read_one}
use Rattle.run_measure.specs.Inner.Learning.{Learnt, Decides}

-- What follows where reading has come to an end.
abbrev behind : Read → (ℕ → Read) → Read
behind (Ok e) next = next e
behind (Err e) next = Err e

-- step_at
module _ (s index b : List ℕ) (k at : ℕ) where
  leaf_decides : (top w sum cost : ℕ) (r : Read) → Leaf r ≡ node_at Tree s index [] k b at → Decides s index b k at (leaf_step top w sum cost r)
  unfolding read_at operands_from
  leaf_decides top w sum cost (Ok e) h = λ n. rw (← h)
  leaf_decides top w sum cost (Err e) h = tt

  -- A token ends where it is read.
  pub token_decides : (top w sum cost : ℕ) {r u : Read} → r ≡ u → {x : Step} → x ≡ leaf_step top w sum cost r → Leaf u ≡ node_at Tree s index [] k b at
      → Decides s index b k at x
  token_decides top w sum cost {r} er ex h = rw ex (leaf_decides top w sum cost r (ap Leaf er ∙ h))

  -- The operands behind a name decide.
  pub name_decides : (q e to : ℕ) → Operands q e to ≡ node_at Tree s index [] k b at
      → (n : ℕ) → read_at Tree s index [] b (suc n) k at ≡ operands_from (read_at Tree s index [] b n) s (e - q) q to
  unfolding read_at
  name_decides q e to h n = rw (← h)

-- What is known of a step that found a row.
decides_row : (s index b : List ℕ) (k at : ℕ) {here : Row} (x : Step) → x ≡ Ok here → Decides s index b k at x
    → (n : ℕ) → read_at Tree s index [] b (suc n) k at ≡ operands_from (read_at Tree s index [] b n) s (here.last - here.first) here.first here.done.end
decides_row s index b k at x y h = rw y at h

-- keep_end: an end that is kept is where the reader ends.
learnt_more : (s index b before : List ℕ) {ends after : List ℕ} {kind at to : ℕ} → Learnt s index b before ends
    → (n : ℕ) → read_at Tree s index [] b n kind at ≡ Ok to → to ≤ length b
    → ((k p e : ℕ) → Kept after k p e → Kept ends k p e ⊎ ((k ≡ kind) × (p ≡ at) × (e ≡ to)))
    → Learnt s index b before after
learnt_more s index b before h n y inside more k p e z =
    ⊎_elim (λ i. h k p e i) (λ i. inr (n, rw (i.0, i.1, i.2) y, omega (arith, i.2))) (more k p e z)

module _ (s index b : List ℕ) (levels : ℕ) where
  -- A term of kind k at a position, under d open ones.
  abbrev term : ℕ → ℕ → ℕ → Read
  term d k at = read_at Tree s index [] b (levels - d) k at

  -- A row from q up to e of such terms.
  abbrev row : ℕ → ℕ → ℕ → ℕ → Read
  row d q e to = operands_from (read_at Tree s index [] b (levels - d)) s (e - q) q to

  row_done : (d q e to : ℕ) → e ≤ q → row d q e to ≡ Ok to
  unfolding operands_from
  row_done d q e to h = let z : e - q ≡ 0 = omega arith in rw z

  row_next : (d q e to : ℕ) → q < e → row d q e to ≡ behind (term d (get_or s q 0) to) (λ t. row d (q + 1) e t)
  unfolding operands_from
  row_next d q e to h =
      let z : e - q ≡ suc (e - (q + 1)) = omega arith in
      rw z (go (term d (get_or s q 0) to))
    where
      go : (r : Read) → (elim r [
        | Ok t ↦ operands_from (read_at Tree s index [] b (levels - d)) s (e - (q + 1)) (q + 1) t
        | Err e ↦ Err e
      ]) ≡ behind r (λ t. row d (q + 1) e t)
      go (Ok t) = refl
      go (Err e) = refl

  -- The terms that are open, the deepest first: where the deepest ends is r, where the next one ends is what the row that
  -- waits comes to from there.
  unfoldable pub Decided : List ℕ → List ℕ → List ℕ → ℕ → Read → Type 0
  Decided firsts lasts starts zero r = Unit {0}
  Decided firsts lasts starts (suc d) r =
      (term d (get_or s (get_or firsts d 0 - 1) 0) (get_or starts d 0) ≡ r)
      × Decided firsts lasts starts d (behind r (λ t. row d (get_or firsts d 0) (get_or lasts d 0) t))

  -- Only what stands at the open terms counts.
  decided_same : (firsts lasts starts f l a : List ℕ) (d : ℕ) (r : Read)
      → ((j : ℕ) → j < d → (get_or f j 0 ≡ get_or firsts j 0) × (get_or l j 0 ≡ get_or lasts j 0) × (get_or a j 0 ≡ get_or starts j 0))
      → Decided firsts lasts starts d r → Decided f l a d r
  unfolding Decided
  decided_same firsts lasts starts f l a zero r same h = tt
  decided_same firsts lasts starts f l a (suc d) r same h =
      let z = same d (omega arith) in
      rw (z.0, z.1, z.2)
      (h.0, decided_same firsts lasts starts f l a d (behind r (λ t. row d (get_or firsts d 0) (get_or lasts d 0) t)) (λ j i. same j (omega arith)) h.1)

  module _ (firsts lasts starts : List ℕ) where
    -- The deepest term has ended.
    decided_ends : (d to : ℕ) → (d ≡ 0 → ⊥) → Decided firsts lasts starts d (Ok to)
        → (term (d - 1) (get_or s (get_or firsts (d - 1) 0 - 1) 0) (get_or starts (d - 1) 0) ≡ Ok to)
        × Decided firsts lasts starts (d - 1) (row (d - 1) (get_or firsts (d - 1) 0) (get_or lasts (d - 1) 0) to)
    unfolding Decided
    decided_ends zero to some h = absurd (some refl)
    decided_ends (suc d) to some h = let z : suc d - 1 ≡ d = omega arith in rw z h

  -- A term that was just found is open, above the others.
  module _ (firsts lasts starts : List ℕ) (d q e to : ℕ) (hf : d < length firsts) (hl : d < length lasts) (hs : d < length starts) (r : Read) where
    decided_one : term d (get_or s q 0) to ≡ r → Decided firsts lasts starts d (behind r (λ t. row d (q + 1) e t))
        → Decided (set firsts d (q + 1)) (set lasts d e) (set starts d to) (suc d) r
    unfolding Decided
    decided_one h k =
        let z : q + 1 - 1 ≡ q = omega arith in
        rw (get_or-set_same firsts d (q + 1) 0 hf, get_or-set_same lasts d e 0 hl, get_or-set_same starts d to 0 hs, z) (
          h,
          decided_same firsts lasts starts (set firsts d (q + 1)) (set lasts d e) (set starts d to) d (behind r (λ t. row d (q + 1) e t))
              (λ j i.
              let ne : j ≡ d → ⊥ = λ y. omega arith in
              (get_or-set_other firsts d j (q + 1) 0 ne, get_or-set_other lasts d j e 0 ne, get_or-set_other starts d j to 0 ne))
              k,
        )

    decided_down : term d (get_or s q 0) to ≡ r → Decided firsts lasts starts d (behind r (λ t. row d (q + 1) e t))
        → Decided (set firsts d (q + 1)) (set lasts d e) (set starts d to) (d + 1) r
    decided_down h k =
        let z : suc d ≡ d + 1 = omega arith in
        subst (λ (j : ℕ). Decided (set firsts d (q + 1)) (set lasts d e) (set starts d to) j r) z (decided_one h k)

-- Each open term has its kind in the source before the row that waits, and began no later than here.
abbrev Begun : List ℕ → List ℕ → List ℕ → ℕ → ℕ → Type 0
Begun s firsts starts d to =
    (j : ℕ) → j < d
    → (0 < get_or firsts j 0) × (get_or firsts j 0 - 1 < length s) × (get_or s (get_or firsts j 0 - 1) 0 < 32) × (get_or starts j 0 ≤ to)

-- The row from q up to e is read below d open terms, and what is kept so far is where the reader ends.
pub record Learning (s index b : List ℕ) (levels : ℕ) (before firsts lasts starts ends : List ℕ) (d q e to : ℕ) : Type 0 where
  pub start_long : length starts ≡ 64
  pub begun : Begun s firsts starts d to
  pub decided : Decided s index b levels firsts lasts starts d (row s index b levels d q e to)
  pub learnt : Learnt s index b before ends

module _ (s index b : List ℕ) (levels : ℕ) where
  pub learn_start : (firsts lasts starts ends : List ℕ) (q e to : ℕ) → length starts ≡ 64
      → Learning s index b levels ends firsts lasts starts ends 0 q e to
  unfolding Decided
  learn_start firsts lasts starts ends q e to h = record {
    start_long = h;
    begun = λ j l. absurd (omega arith);
    decided = tt;
    learnt = λ k p e z. inl z;
  }

  module _ {before firsts lasts starts ends : List ℕ} {d q e to : ℕ} (o : Learning s index b levels before firsts lasts starts ends d q e to) where
    -- It ends, and its end may be kept.
    pub learn_back : {after : List ℕ} → e ≤ q → (d ≡ 0 → ⊥) → to ≤ length b
        → ((k p x : ℕ) → Kept after k p x → Kept ends k p x ⊎ ((k ≡ get_or s (get_or firsts (d - 1) 0 - 1) 0) × (p ≡ get_or starts (d - 1) 0) × (x ≡ to)))
        → Learning s index b levels before firsts lasts starts after (d - 1) (get_or firsts (d - 1) 0) (get_or lasts (d - 1) 0) to
    learn_back h some inside more =
        let z = decided_ends s index b levels firsts lasts starts d to some
        (subst (λ (r : Read). Decided s index b levels firsts lasts starts d r) (row_done s index b levels d q e to h) o.decided) in
        record {
          start_long = o.start_long;
          begun = λ j l. o.begun j (omega arith);
          decided = z.1;
          learnt = learnt_more s index b before o.learnt (levels - (d - 1)) z.0 inside more;
        }

    module _ (more : q < e) (under : out_of_levels index (get_or s q 0) (levels - d) ≡ false) (x : Step) (decides : Decides s index b (get_or s q 0) to x)
        {here : Row} (ex : x ≡ Ok here) (past : to < here.done.end) where
      found : term s index b levels d (get_or s q 0) to ≡ row s index b levels (d + 1) here.first here.last here.done.end
      found =
          let z : suc (levels - d - 1) ≡ suc (levels - (d + 1)) = omega arith in
          read_one s index b (get_or s q 0) to (levels - d) under
          ∙ ap (λ (m : ℕ). read_at Tree s index [] b m (get_or s q 0) to) z ∙ decides_row s index b (get_or s q 0) to x ex decides (levels - (d + 1))

      whole : row s index b levels d q e to ≡ behind (row s index b levels (d + 1) here.first here.last here.done.end) (λ a. row s index b levels d (q + 1) e a)
      whole =
          row_next s index b levels d q e to more
          ∙ ap (λ (r : Read). behind r (λ a. row s index b levels d (q + 1) e a)) found

      -- A term without operands has ended; where it starts is written above the open ones.
      pub learn_on : here.last ≤ here.first → Learning s index b levels before firsts lasts (set starts d to) ends d (q + 1) e here.done.end
      learn_on h =
          let z : row s index b levels d q e to ≡ row s index b levels d (q + 1) e here.done.end =
          whole ∙ ap (λ (r : Read). behind r (λ a. row s index b levels d (q + 1) e a)) (row_done s index b levels (d + 1) here.first here.last here.done.end h) in
          let kept : (j : ℕ) → j < d → get_or (set starts d to) j 0 ≡ get_or starts j 0 =
          λ j l. let ne : j ≡ d → ⊥ = λ y. omega arith in get_or-set_other starts d j to 0 ne in
          record {
            start_long = length-set starts d to ∙ o.start_long;
            begun = λ j l. let w = o.begun j l in (w.0, w.1, w.2, omega (arith, kept j l, w.3));
            decided = decided_same s index b levels firsts lasts starts firsts lasts (set starts d to) d (row s index b levels d (q + 1) e here.done.end)
                (λ j l. (refl, refl, kept j l)) (subst (λ (r : Read). Decided s index b levels firsts lasts starts d r) z o.decided);
            learnt = o.learnt;
          }

      module _ (hf : length firsts ≡ 64) (hl : length lasts ≡ 64) (fits : levels < 64) (deep : d < levels) (inside : q < length s) (kind : get_or s q 0 < 32) where
        begins : Begun s (set firsts d (q + 1)) (set starts d to) (d + 1) here.done.end
        begins j l =
            by_test (eqb j d)
            (λ c.
            let y : j ≡ d = eqb-true j d c in
            let kf : d < length firsts = omega arith in
            let ks : d < length starts = omega (arith, o.start_long) in
            let z : q + 1 - 1 ≡ q = omega arith in
            rw (y, get_or-set_same firsts d (q + 1) 0 kf, get_or-set_same starts d to 0 ks, z) (omega arith, inside, kind, omega arith))
            (λ c.
            let y : j ≡ d → ⊥ = eqb-false j d c in
            let w = o.begun j (omega arith) in
            rw (get_or-set_other firsts d j (q + 1) 0 y, get_or-set_other starts d j to 0 y) (w.0, w.1, w.2, omega (arith, w.3)))

        -- A term whose operands follow is open.
        pub learn_down : Learning s index b levels before (set firsts d (q + 1)) (set lasts d e) (set starts d to) ends (d + 1) here.first here.last here.done.end
        learn_down =
            let kf : d < length firsts = omega arith in
            let kl : d < length lasts = omega arith in
            let ks : d < length starts = omega (arith, o.start_long) in
            record {
              start_long = length-set starts d to ∙ o.start_long;
              begun = begins;
              decided = decided_down s index b levels firsts lasts starts d q e to kf kl ks (row s index b levels (d + 1) here.first here.last here.done.end) found
                  (subst (λ (r : Read). Decided s index b levels firsts lasts starts d r) whole o.decided);
              learnt = o.learnt;
            }
