-- The least levels and the first trees of a class: a token is no level.
use Prim.Native.Nat.{ℕ, suc, ◌-◌, ◌%◌, ◌≤◌}
use mathlib.Core.Path.{◌≡◌, refl, ap, sym, ◌∙◌}
use mathlib.Core.Logic.{inl}
use mathlib.Core.Bool.{Bool, true, false, ◌&&◌}
use mathlib.Core.List.{[]}
use mathlib.Core.Option.{none, some}
use native.Mathlib.Omega.{arith}
use native.Mathlib.Nat.{zero-mod}
use lib.Dec.{leb, eqb}
use borrow.Author.Tests.{leb-true, le-leb, eq-eqb}
use Rattle.format_fields.proofs.Truth.{none_some, some_inj, false_true, and_both, both_and}
use Rattle.format_language.specs.Language.{Language, Range, range_of, in_range}
use Rattle.tree_reader.specs.Code.{Code, token, levels}
use Rattle.tree_reader.specs.Typing.{Typed, typed_node, typed_token, typed_argument}
use Rattle.tree_reader.proofs.RoundTrip.{Apart}
use Rattle.format_translation.specs.Running.{Clauses, run}
use Rattle.search_sources.specs.Inner.Goals.{Goal, Meets, Fits, First}
use Rattle.search_sources.specs.Inner.Levels.{Needs}
use Rattle.search_sources.proofs.Order.{upto_token}
use Rattle.search_sources.proofs.Answers.{no_kind, first_one}

-- The lowest value is legal where some value is.
pub range_low : (c : Range) (v : ℕ) → in_range c v ≡ true → (c.low ≤ v) × (in_range c c.low ≡ true)
unfolding in_range
range_low c v e =
    let z = and_both (leb c.low v) (leb v c.high && eqb ((v - c.low) % c.step) 0) e in
    let y = and_both (leb v c.high) (eqb ((v - c.low) % c.step) 0) z.1 in
    let a : c.low ≤ v = leb-true c.low v z.0 in
    let b : v ≤ c.high = leb-true v c.high y.0 in
    let d : c.low - c.low ≡ 0 = omega arith in
    let x : (c.low - c.low) % c.step ≡ 0 = rw d (zero-mod c.step) in
    (a, both_and _ _ (le-leb c.low c.low (omega arith)) (both_and _ _ (le-leb c.low c.high (omega arith)) (eq-eqb _ 0 x)))

module _ (l : Language) (f : Clauses) (apart : Apart l) (k : ℕ) (c : Range) (class : range_of l k ≡ some c) where
  pub class_token : {t : Code} → Typed l [] t k → (v : ℕ) × (t ≡ token v) × (in_range c v ≡ true)
  class_token (typed_node {p = p} {ks = ks} d h) = none_some (sym (apart k p ks d) ∙ class)
  class_token (typed_token {v = v} d h) = (v, refl, rw (some_inj (sym d ∙ class)) at h)
  class_token (typed_argument {i = i} {j = j} d) = no_kind i j d

  token_fits : (n v : ℕ) (g : Goal) → in_range c v ≡ true → Meets f g (token v) → Fits l f n k g (token v)
  unfolding levels
  token_fits n v g h m = record { legal = typed_token class h; within = omega arith; meets = m }

  -- The first tree for no goal is the lowest value.
  pub low_first : (n : ℕ) → in_range c c.low ≡ true → First l f n k none (token c.low)
  low_first n h = record {
    fits = token_fits n c.low none h tt;
    least = λ t q. let z = class_token q.legal in rw z.1 (upto_token c.low z.0 (range_low c z.0 z.2).0);
  }

  token_value : {v w : ℕ} → token v ≡ token w → v ≡ w
  token_value e = cc

  runs_to : (n v : ℕ) (t : Code) → Fits l f n k (some (token v)) t → (t ≡ token v) × (in_range c v ≡ true)
  unfolding run
  runs_to n v t q =
      let z = class_token q.legal in
      let y : run f 0 (token z.0) ≡ token v = rw z.1 at q.meets in
      let x : z.0 ≡ v = token_value y in
      (z.1 ∙ ap token x, ap (in_range c) (sym x) ∙ z.2)

  -- That for a token is the token.
  pub value_first : (n v : ℕ) → in_range c v ≡ true → First l f n k (some (token v)) (token v)
  unfolding run
  value_first n v h = record {
    fits = token_fits n v (some (token v)) h refl;
    least = λ t q. inl (sym (runs_to n v t q).0);
  }

  -- The value that stands for a goal: the lowest where nothing is asked.
  abbrev pub ValueFor : Goal → ℕ → Type 0
  ValueFor none v = v ≡ c.low
  ValueFor (some u) v = u ≡ token v

  pub goal_first : (g : Goal) (n v : ℕ) → ValueFor g v → in_range c v ≡ true → First l f n k g (token v)
  goal_first none n v e h = rw e (low_first n (ap (in_range c) (sym e) ∙ h))
  goal_first (some u) n v e h = rw e (value_first n v h)

  goal_none : (g : Goal) (n v : ℕ) → ValueFor g v → in_range c v ≡ false → (t : Code) → Fits l f n k g t → ⊥
  goal_none none n v e h t q =
      let z = class_token q.legal in
      false_true (sym h ∙ (ap (in_range c) e ∙ (range_low c z.0 z.2).1))
  goal_none (some u) n v e h t q = let w : Fits l f n k (some (token v)) t = rw e at q in false_true (sym h ∙ (runs_to n v t w).1)

  pub needs_token : (g : Goal) (m v : ℕ) → ValueFor g v → in_range c v ≡ true → Needs l f m k g 0
  needs_token g m v e h =
      record { bound = omega arith; finds = λ q. (token v, (goal_first g 0 v e h).fits); least = λ n t i q. omega arith }

  pub needs_no_token : (g : Goal) (m v : ℕ) → ValueFor g v → in_range c v ≡ false → Needs l f m k g (suc m)
  needs_no_token g m v e h = record {
    bound = omega arith;
    finds = λ q. absurd (omega arith);
    least = λ n t i q. absurd (goal_none g n v e h t q);
  }

  pub first_token : (g : Goal) (n v : ℕ) (t : Code) → ValueFor g v → First l f n k g t → t ≡ token v
  first_token g n v t e h = go (in_range c v) refl
    where
      go : (b : Bool) → in_range c v ≡ b → t ≡ token v
      go true q = first_one h (goal_first g n v e q)
      go false q = absurd (goal_none g n v e q t h.fits)
