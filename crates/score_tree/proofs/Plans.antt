-- The walk that reads and scores a plan: a law for each turn and each return of the functions of `walk`.
use Prim.Native.Nat.{ℕ, zero, suc, ◌+◌, ◌-◌, ◌*◌, ◌<◌, ◌≤◌}
use mathlib.Core.Path.{◌≡◌, refl, sym, ap, ◌∙◌}
use mathlib.Core.Bool.{Bool, true, false, cond, ◌&&◌}
use mathlib.Core.List.{List, [], ◌∷◌, ◌++◌, map}
use mathlib.Core.Option.{Option, none, some}
use native.Mathlib.Omega.{arith}
use lib.ListN.{length, get_or, drop, take, set, replicate, length-drop, drop_of_length-le}
use Rattle.std.specs.Prelude.{Some, None, Result, Ok, Err}
use Rattle.std.proofs.lemmas.List.{get_or-take, get_or-drop, length-take}
use lib.Dec.{leb}
use lib.IntN.{ℤ, pos, nat_abs, ◌+ℤ◌}
use borrow.Author.Tests.{le-leb, lt-leb}
use Rattle.format_fields.specs.Fields.{pair_at}
use Rattle.format_fields.proofs.Split.{front}
use Rattle.format_fields.proofs.Truth.{both_and}
use Rattle.format_language.specs.Language.{Language, Range, in_range, range_of, arguments_of, production_key}
use Rattle.format_language.specs.Inner.Entries.{class_range}
use Rattle.tree_reader.specs.Syntax.{Read, done, deep, broken, and_then}
use Rattle.tree_reader.specs.Inner.Index.{range_before, arguments_before}
use Rattle.check_operations.proofs.Reading.{two}
use Rattle.score_tree.specs.Figures.{is_score}
use Rattle.score_tree.specs.Linear.{Loads}
use Rattle.score_tree.specs.Inner.Sums.{ends, low, high, weighed, Near}
use Rattle.score_tree.specs.Inner.Terms.{World, KindsAt, ProductionAt}
use Rattle.score_tree.specs.Inner.Spreads.{Spread, spread, row_sum, row_within, node_spread, token_size, read_fixed, pair_spread, read_loosely, read_values, read_row, read_operands, read_name, by_class, read_spread}
use Rattle.score_tree.specs.Inner.Walks.{bounds, tested_at, bounds_of, Says, NearEnds, NearBounds, RowAsks}
use Rattle.score_tree.specs.declared.walk.Bounds.{Bounds}
use Rattle.tree_reader.specs.declared.node.ReadError.{ReadError}
use Rattle.tree_reader.specs.declared.node.ReadError.TheVariants.{Deep, Broken}
use Rattle.score_tree.specs.declared.walk.Tokens.{Tokens}
use Rattle.score_tree.specs.declared.walk.Tokens.TheVariants.{Fixed, Loose}
use Rattle.score_tree.specs.declared.figures.Ends.{Ends}
use Rattle.score_tree.specs.declared.loaded.Loaded.{Loaded}
use Rattle.score_tree.proofs.Integers.{score_near}
use Rattle.score_tree.proofs.Terms.{production_at}
use Rattle.score_tree.proofs.Rows.{snoc, length_snoc, within_snoc, ends_in, no_ends, Held, held_none, held_next, held_skip, weighed_row, row_kept, behind_done, behind_deep, behind_broken, behind_none, behind_first}

-- What an answer says of what was read.
ok_is : {x y : Bounds} → ◌≡◌ {A = Result Bounds ReadError} (Ok x) (Ok y) → x ≡ y
ok_is e = cc

some_is : (t : Bool) (u v : ℤ) (e : Ends) → cond t (Some (ends u v)) None ≡ Some e → (t ≡ true) × (ends u v ≡ e)
some_is true u v e q = (refl, cc)
some_is false u v e q = cc

none_is : (t : Bool) (u v : ℤ) → cond t (Some (ends u v)) None ≡ None → t ≡ false
none_is true u v q = cc
none_is false u v q = refl

-- A plan that was read, up to e.
pub record Reached (b : List ℕ) (o : Read Spread) (e : ℕ) (within : Bool) : Type 0 where
  pub plan : Spread
  pub is : o ≡ done plan (drop e b)
  pub inside : e ≤ length b
  pub fits : plan.within ≡ within

module _ (b : List ℕ) where
  -- The plan, its ends and its end.
  record SaysPlan (o : Read Spread) (m : Bounds) : Type 0 where
    plan : Spread
    is : o ≡ done plan (drop m.end b)
    inside : m.end ≤ length b
    bounds : m ≡ bounds_of plan m.end

  says_plan : (o : Read Spread) (r : Result Bounds ReadError) → Says b o r → (m : Bounds) → r ≡ Ok m → SaysPlan o m
  unfolding bounds_of
  says_plan (done t s) r (n, i, d, q) m h =
      let same : bounds_of t n ≡ m = ok_is (sym q ∙ h) in
      let z : n ≡ m.end = ap (λ (x : Bounds). x.end) same in
      record {
        plan = t;
        is = ap (done t) (sym d ∙ ap (λ (k : ℕ). drop k b) z);
        inside = rw z at i;
        bounds = sym same ∙ ap (bounds_of t) z;
      }
  says_plan deep r q m h = cc
  says_plan broken r q m h = cc

  pub says_between : (o : Read Spread) (r : Result Bounds ReadError) → Says b o r → (m : Bounds) → r ≡ Ok m → (e : Ends) → m.ends ≡ Some e
      → (x : Reached b o m.end true) × (e ≡ ends_in x.plan)
  unfolding bounds_of
  says_between o r er m h e q =
      let s = says_plan o r er m h in
      let f = some_is s.plan.within s.plan.least s.plan.greatest e (sym (ap (λ (x : Bounds). x.ends) s.bounds) ∙ q) in
      (record { plan = s.plan; is = s.is; inside = s.inside; fits = f.0 }, sym f.1)

  pub says_outside : (o : Read Spread) (r : Result Bounds ReadError) → Says b o r → (m : Bounds) → r ≡ Ok m → m.ends ≡ None → Reached b o m.end false
  unfolding bounds_of
  says_outside o r er m h q =
      let s = says_plan o r er m h in
      record {
        plan = s.plan;
        is = s.is;
        inside = s.inside;
        fits = none_is s.plan.within s.plan.least s.plan.greatest (sym (ap (λ (x : Bounds). x.ends) s.bounds) ∙ q);
      }

  pub says_deep : (o : Read Spread) (r : Result Bounds ReadError) → Says b o r → r ≡ Err Deep → o ≡ deep
  says_deep (done t s) r (n, i, d, q) h = cc
  says_deep deep r q h = refl
  says_deep broken r q h = cc

  pub says_broken : (o : Read Spread) (r : Result Bounds ReadError) → Says b o r → r ≡ Err Broken → o ≡ broken
  says_broken (done t s) r (n, i, d, q) h = cc
  says_broken deep r q h = cc
  says_broken broken r q h = refl

-- Ends that are given are in the range.
pub near_of : (r : Result Bounds ReadError) (m : Bounds) (e : Ends) → NearBounds r → r ≡ Ok m → m.ends ≡ Some e → Near e
near_of r m e h q s =
    let n : NearBounds (Ok m) = rw q at h in
    let k : NearEnds (Some e) = rw s at n in
    k

-- finished
pub least_out : (a z : ℤ) (e : ℕ) → is_score a ≡ false → bounds false a z e ≡ tested_at a z e
unfolding tested_at
least_out a z e q = rw q refl

pub greatest_out : (a z : ℤ) (e : ℕ) → is_score a ≡ true → is_score z ≡ false → bounds false a z e ≡ tested_at a z e
unfolding tested_at
greatest_out a z e p q = rw (p, q) refl

pub both_in : (a z : ℤ) (e : ℕ) → is_score a ≡ true → is_score z ≡ true → (bounds true a z e ≡ tested_at a z e) × Near (ends a z)
unfolding tested_at
both_in a z e p q = (rw (p, q) refl, record { least = score_near a p; greatest = score_near z q })

-- A value as a score: x is what the machine reads of it.
pub value_near : (v : ℕ) (x : ℤ) → x ≡ pos v → v < 65536 → nat_abs x ≤ 1000000000
value_near v x e h = rw e (omega arith)

-- token_ends
fixed_cut : (c : Range) (u : List ℕ) → length u < 2 → read_fixed c u ≡ broken
unfolding read_fixed
fixed_cut c [] h = refl
fixed_cut c (x ∷ []) h = refl
fixed_cut c (x ∷ y ∷ u) h = absurd (omega arith)

loose_cut : (c : Range) (u : List ℕ) → length u < 4 → read_loosely c u ≡ broken
unfolding read_loosely
loose_cut c [] h = refl
loose_cut c (x ∷ []) h = refl
loose_cut c (x ∷ y ∷ []) h = refl
loose_cut c (x ∷ y ∷ z ∷ []) h = refl
loose_cut c (x ∷ y ∷ z ∷ u ∷ s) h = absurd (omega arith)

pub size_some : (m : Tokens) → 2 ≤ token_size m
size_some Fixed = omega arith
size_some Loose = omega arith

values_cut : (m : Tokens) (c : Range) (u : List ℕ) → length u < token_size m → read_values m c u ≡ broken
values_cut Fixed c u h = fixed_cut c u h
values_cut Loose c u h = loose_cut c u h

same_value : (c : Range) (v : ℕ) (s : List ℕ) → cond (in_range c v) (done (spread (pos v) (pos v) true) s) broken ≡ pair_spread c v v s
unfolding pair_spread
same_value c v s = rw (le-leb v v (omega arith)) (go (in_range c v))
  where
    go : (t : Bool) → cond t (done (spread (pos v) (pos v) true) s) broken ≡ cond (t && (t && true)) (done (spread (pos v) (pos v) true) s) broken
    go true = refl
    go false = refl

-- A token's first value and its last.
values_are : (m : Tokens) (c : Range) (b : List ℕ) (at : ℕ) → token_size m ≤ length b - at
    → read_values m c (drop at b) ≡ pair_spread c (pair_at b at) (pair_at b (at + token_size m - 2)) (drop (at + token_size m) b)
unfolding read_fixed read_loosely pair_at
values_are Fixed c b at h =
    let z : at + 2 - 2 ≡ at = omega arith in
    ap (read_fixed c) (two b at h)
    ∙ (same_value c (get_or b at 0 * 256 + get_or b (at + 1) 0) (drop (at + 2) b)
    ∙ ap (λ (n : ℕ). pair_spread c (get_or b at 0 * 256 + get_or b (at + 1) 0) (get_or b n 0 * 256 + get_or b (n + 1) 0) (drop (at + 2) b)) (sym z))
values_are Loose c b at h =
    let z : at + 2 + 2 ≡ at + 4 = omega arith in
    let y : at + 4 - 2 ≡ at + 2 = omega arith in
    ap (read_loosely c)
    (two b at (omega arith)
    ∙ ap (λ (u : List ℕ). get_or b at 0 ∷ get_or b (at + 1) 0 ∷ u)
    (two b (at + 2) (omega arith) ∙ ap (λ (n : ℕ). get_or b (at + 2) 0 ∷ get_or b (at + 2 + 1) 0 ∷ drop n b) z))
    ∙ ap (λ (n : ℕ). pair_spread c (get_or b at 0 * 256 + get_or b (at + 1) 0) (get_or b n 0 * 256 + get_or b (n + 1) 0) (drop (at + 4) b)) (sym y)

-- n is how many bytes a token has.
module _ (m : Tokens) (c : Range) (b : List ℕ) (at n : ℕ) (en : n ≡ token_size m) where
  pub pair_short : length b - at < n → Says b (read_values m c (drop at b)) (Err Broken)
  pair_short h =
      let k : length (drop at b) < token_size m = rw length-drop (omega arith) in
      let d : read_values m c (drop at b) ≡ broken = values_cut m c (drop at b) k in
      rw d refl

  module _ (h : n ≤ length b - at) (x y : ℕ) (ex : x ≡ pair_at b at) (ey : y ≡ pair_at b (at + n - 2)) where
    pair_is : read_values m c (drop at b) ≡ pair_spread c x y (drop (at + n) b)
    pair_is = rw (ex, ey, en) (values_are m c b at (omega arith))

    not_pair : (in_range c x && (in_range c y && leb x y)) ≡ false → Says b (read_values m c (drop at b)) (Err Broken)
    unfolding pair_spread
    not_pair q = let d : read_values m c (drop at b) ≡ broken = pair_is ∙ rw q refl in rw d refl

    pub pair_first : in_range c x ≡ false → Says b (read_values m c (drop at b)) (Err Broken)
    pair_first p = not_pair (rw p refl)

    module _ (p : in_range c x ≡ true) where
      pub pair_second : in_range c y ≡ false → Says b (read_values m c (drop at b)) (Err Broken)
      pair_second q = not_pair (rw (p, q) refl)

      module _ (q : in_range c y ≡ true) where
        pub pair_order : y < x → Says b (read_values m c (drop at b)) (Err Broken)
        pair_order o = not_pair (rw (p, q) (lt-leb x y o))

        pub pair_good : x ≤ y → (u v : ℤ) → u ≡ pos x → v ≡ pos y → Says b (read_values m c (drop at b)) (Ok (bounds true u v (at + n)))
        unfolding pair_spread bounds_of
        pair_good o u v eu ev =
            let t : (in_range c x && (in_range c y && leb x y)) ≡ true = both_and _ _ p (both_and _ _ q (le-leb x y o)) in
            let d : read_values m c (drop at b) ≡ done (spread (pos x) (pos y) true) (drop (at + n) b) = pair_is ∙ rw t refl in
            let s = size_some m in
            rw d (at + n, omega arith, refl, rw (eu, ev) refl)

-- A fixed token has one value, which is its first and its last.
pub one_good : (m : Tokens) (c : Range) (b : List ℕ) (at n : ℕ) → n ≡ token_size m → m ≡ Fixed → n ≤ length b - at → (x : ℕ) → x ≡ pair_at b at → in_range c x ≡ true
    → Says b (read_values m c (drop at b)) (Ok (bounds true (pos x) (pos x) (at + n)))
one_good m c b at n en f h x ex p =
    let w : n ≡ 2 = en ∙ ap token_size f in
    let z : at + n - 2 ≡ at = omega arith in
    pair_good m c b at n en h x x ex (ex ∙ ap (pair_at b) (sym z)) p p (omega arith) (pos x) (pos x) refl refl

-- Where the loop of `node_ends` stands: i operands are read by a reading.
pub record Going (reads : ℕ → List ℕ → Read Spread) (s : List ℕ) (place : ℕ) (b : List ℕ) (at : ℕ) (ks : List ℕ) (number : ℕ) (operands : List Ends) (within : Bool) (i to : ℕ) : Type 0 where
  pub row : List Spread
  pub kinds : List ℕ
  pub many : i ≡ length row
  pub known : KindsAt s (place + 4 + i) kinds
  pub rest : i + length kinds ≡ number
  pub few : number ≤ 8
  pub inside : to ≤ length b
  pub reading : read_row reads ks (drop at b) ≡ (and_then (read_row reads kinds (drop to b)) λ t u. done (row ++ t) u)
  pub fits : within ≡ row_within row
  pub held : Held row operands

-- The first kind of those that are left.
record First (ks : List ℕ) : Type 0 where
  kind : ℕ
  others : List ℕ
  is : ks ≡ kind ∷ others

first_of : (ks : List ℕ) → 0 < length ks → First ks
first_of [] h = absurd (omega arith)
first_of (k ∷ ks) h = record { kind = k; others = ks; is = refl }

none_left : (ks : List ℕ) → length ks ≡ 0 → ks ≡ []
none_left [] h = refl
none_left (k ∷ ks) h = absurd (omega arith)

module _ {ld : Loaded} {place : ℕ} {b : List ℕ} {at : ℕ} {l : Language} {w : Loads} {k p : ℕ} {ks : List ℕ}
    (a : RowAsks ld place b at l w k p ks) where
  -- What the code may ask of the production.
  pub node_in : (place + 4 ≤ length ld.language.now) × (length ld.language.now ≤ 1024) × (length ld.figures.now ≡ 1024) × (2 ≤ pair_at ld.language.now place)
  node_in = let c = a.production.size in (a.production.there, a.world.indexed.sound.short, a.world.long, omega arith)

  pub number_is : (n : ℕ) → n + 2 ≡ pair_at ld.language.now place → (n ≡ length ks) × (n ≤ 8) × (place + 4 + n ≤ 1024)
  number_is n e =
      let c = a.production.size in
      let f = a.production.few in
      let i = a.production.kinds.inside in
      let m = node_in in
      (omega arith, omega arith, omega (arith, m.1))

  factor_at : (i : ℕ) → i < length ks → get_or ld.figures.now (place + 4 + i) (pos 0) ≡ w k p (suc i)
  factor_at i h = let d : place + 4 + i ≡ place + 3 + suc i = omega arith in ap (λ (m : ℕ). get_or ld.figures.now m (pos 0)) d ∙ a.production.figures_are (suc i) (omega arith)

  module _ (reads : ℕ → List ℕ → Read Spread) (number : ℕ) (sized : number + 2 ≡ pair_at ld.language.now place) where
    pub going_begin : Going reads ld.language.now place b at ks number (replicate 8 no_ends) true 0 at
    unfolding row_within
    going_begin =
        let z : place + 4 + 0 ≡ place + 4 = omega arith in
        let c = number_is number sized in
        record {
          row = [];
          kinds = ks;
          many = refl;
          known = rw z a.production.kinds;
          rest = omega (arith, c.0);
          few = c.1;
          inside = a.inside;
          reading = behind_first (read_row reads ks (drop at b));
          fits = refl;
          held = held_none;
        }

    module _ {operands : List Ends} {within : Bool} {i to : ℕ} (v : Going reads ld.language.now place b at ks number operands within i to) where
      module _ (h : i < number) where
        ahead : First v.kinds
        ahead = first_of v.kinds (let c = v.rest in omega arith)

        pub row_in : (place + 4 + i < length ld.language.now) × (place + 4 + i < 1024) × (i < 8)
        row_in =
            let d = v.known.inside in
            let c = v.rest in
            let m = node_in in
            let f = v.few in
            (omega arith, omega (arith, m.1), omega arith)

        kind_here : (get_or ld.language.now (place + 4 + i) 0 ≡ ahead.kind) × (get_or ld.language.now (place + 4 + i) 0 < 32)
        kind_here =
            let c = v.rest in
            let g = v.known.is 0 (omega arith) in
            let z : place + 4 + i + 0 ≡ place + 4 + i = omega arith in
            let e : get_or v.kinds 0 0 ≡ ahead.kind = ap (λ (r : List ℕ). get_or r 0 0) ahead.is in
            let f : get_or ld.language.now (place + 4 + i) 0 ≡ ahead.kind = ap (λ (n : ℕ). get_or ld.language.now n 0) (sym z) ∙ (g.0 ∙ e) in
            (f, rw (f ∙ sym e) g.1)

        pub kind_in : (q : ℕ) → q ≡ place + 4 + i → get_or ld.language.now q 0 < 32
        kind_in q e = rw e kind_here.1

        -- What the next operand was read as: it stands at q, where the kind is.
        module _ (q : ℕ) (eq : q ≡ place + 4 + i) (r : Result Bounds ReadError) (er : Says b (reads (get_or ld.language.now q 0) (drop to b)) r) where
          same_read : reads (get_or ld.language.now q 0) (drop to b) ≡ reads ahead.kind (drop to b)
          same_read = ap (λ (n : ℕ). reads n (drop to b)) (ap (λ (n : ℕ). get_or ld.language.now n 0) eq ∙ kind_here.0)

          ahead_reads : read_row reads ks (drop at b) ≡ (and_then (read_row reads (ahead.kind ∷ ahead.others) (drop to b)) λ t u. done (v.row ++ t) u)
          ahead_reads = v.reading ∙ ap (λ (x : List ℕ). and_then (read_row reads x (drop to b)) λ t u. done (v.row ++ t) u) ahead.is

          going_deep : r ≡ Err Deep → Says b (read_operands reads w k p (some ks) (drop at b)) (Err Deep)
          unfolding read_operands
          going_deep e =
              let o : reads ahead.kind (drop to b) ≡ deep = sym same_read ∙ says_deep b (reads (get_or ld.language.now q 0) (drop to b)) r er e in
              let d : read_row reads ks (drop at b) ≡ deep = ahead_reads ∙ behind_deep reads v.row ahead.kind ahead.others (drop to b) o in
              rw d refl

          going_broken : r ≡ Err Broken → Says b (read_operands reads w k p (some ks) (drop at b)) (Err Broken)
          unfolding read_operands
          going_broken e =
              let o : reads ahead.kind (drop to b) ≡ broken = sym same_read ∙ says_broken b (reads (get_or ld.language.now q 0) (drop to b)) r er e in
              let d : read_row reads ks (drop at b) ≡ broken = ahead_reads ∙ behind_broken reads v.row ahead.kind ahead.others (drop to b) o in
              rw d refl

          pub going_refused : (x : ReadError) → r ≡ Err x → Says b (read_operands reads w k p (some ks) (drop at b)) (Err x)
          going_refused Deep e = going_deep e
          going_refused Broken e = going_broken e

          -- The kinds that are left.
          others_known : KindsAt ld.language.now (place + 4 + (i + 1)) ahead.others
          others_known =
              let d = v.known.inside in
              let m : length v.kinds ≡ suc (length ahead.others) = ap length ahead.is in
              record {
                inside = omega arith;
                is = λ n g.
                    let x = v.known.is (suc n) (omega arith) in
                    let at' : place + 4 + i + suc n ≡ place + 4 + (i + 1) + n = omega arith in
                    let same : get_or v.kinds (suc n) 0 ≡ get_or ahead.others n 0 = ap (λ (y : List ℕ). get_or y (suc n) 0) ahead.is in
                    (ap (λ (m' : ℕ). get_or ld.language.now m' 0) (sym at') ∙ (x.0 ∙ same), rw (← same) x.1);
              }

          others_rest : i + 1 + length ahead.others ≡ number
          others_rest = let c = v.rest in let m : length v.kinds ≡ suc (length ahead.others) = ap length ahead.is in omega arith

          next_reads : (t : Spread) (e : ℕ) → reads (get_or ld.language.now q 0) (drop to b) ≡ done t (drop e b)
              → read_row reads ks (drop at b) ≡ (and_then (read_row reads ahead.others (drop e b)) λ x u. done (snoc v.row t ++ x) u)
          next_reads t e d = ahead_reads ∙ behind_done reads v.row ahead.kind ahead.others (drop to b) t (drop e b) (sym same_read ∙ d)

          -- The operand was read.
          module _ (m : Bounds) (em : r ≡ Ok m) where
            -- It is out of the range.
            pub going_outside : m.ends ≡ None → Going reads ld.language.now place b at ks number operands false (i + 1) m.end
            going_outside d =
                let x = says_outside b (reads (get_or ld.language.now q 0) (drop to b)) r er m em d in
                let t = x.plan in
                record {
                  row = snoc v.row t;
                  kinds = ahead.others;
                  many = let c = v.many in omega (arith, length_snoc v.row t);
                  known = others_known;
                  rest = others_rest;
                  few = v.few;
                  inside = x.inside;
                  reading = next_reads t m.end x.is;
                  fits = sym (within_snoc v.row t ∙ none_of (row_within v.row) t.within x.fits);
                  held = held_skip v.held t x.fits;
                }
              where
                none_of : (x y : Bool) → y ≡ false → (x && y) ≡ false
                none_of true y q = q
                none_of false y q = refl

            -- It has ends.
            pub going_next : (e : Ends) → m.ends ≡ Some e → NearBounds r → Going reads ld.language.now place b at ks number (set operands i e) within (i + 1) m.end
            going_next e d n =
                let (x, f) = says_between b (reads (get_or ld.language.now q 0) (drop to b)) r er m em e d in
                let t = x.plan in
                record {
                  row = snoc v.row t;
                  kinds = ahead.others;
                  many = let c = v.many in omega (arith, length_snoc v.row t);
                  known = others_known;
                  rest = others_rest;
                  few = v.few;
                  inside = x.inside;
                  reading = next_reads t m.end x.is;
                  fits = v.fits ∙ sym (within_snoc v.row t ∙ all_of (row_within v.row) t.within x.fits);
                  held = held_next v.held t i row_in.2 v.many e f (near_of r m e n em d);
                }
              where
                all_of : (x y : Bool) → y ≡ true → (x && y) ≡ x
                all_of true y q = q
                all_of false y q = refl

      module _ (h : number ≤ i) where
        all_read : read_operands reads w k p (some ks) (drop at b) ≡ done (node_spread w k p v.row) (drop to b)
        unfolding read_operands
        all_read =
            let c = v.rest in
            let z : v.kinds ≡ [] = none_left v.kinds (omega arith) in
            let d : read_row reads ks (drop at b) ≡ done v.row (drop to b) =
            v.reading ∙ (ap (λ (x : List ℕ). and_then (read_row reads x (drop to b)) λ t u. done (v.row ++ t) u) z ∙ behind_none reads v.row (drop to b)) in
            rw d refl

        pub going_out : within ≡ false → Says b (read_operands reads w k p (some ks) (drop at b)) (Ok (bounds false (pos 0) (pos 0) to))
        unfolding bounds_of node_spread
        going_out q = let f : row_within v.row ≡ false = sym v.fits ∙ q in rw all_read (to, v.inside, refl, rw f refl)

        -- The sums by the ends that are kept, from the first factor on, are those of the row.
        module _ (q : within ≡ true) (first : ℕ) (ef : first ≡ place + 4) where
          every : number ≡ length v.row
          every = let c = v.rest in let m = v.many in omega arith

          fits_all : row_within v.row ≡ true
          fits_all = sym v.fits ∙ q

          factors : List ℤ
          factors = take number (drop first ld.figures.now)

          factors_long : length factors ≡ length v.row
          unfolding factors
          factors_long =
              let n = number_is number sized in
              let c = node_in in
              omega (arith, every, n.2, c.2, ef, length-take number (drop first ld.figures.now), length-drop first ld.figures.now)

          factors_are : (j : ℕ) → j < length v.row → get_or factors j (pos 0) ≡ w k p (suc j)
          unfolding factors
          factors_are j g =
              let n = number_is number sized in
              let e : first + j ≡ place + 4 + j = omega arith in
              get_or-take number (drop first ld.figures.now) j (pos 0) (omega (arith, every))
              ∙ (get_or-drop first ld.figures.now j (pos 0) ∙ (ap (λ (m : ℕ). get_or ld.figures.now m (pos 0)) e ∙ factor_at j (omega (arith, n.0, every))))

          kept : take number operands ≡ map ends_in v.row
          kept =
              let n = number_is number sized in
              ap (λ (m : ℕ). take m operands) every ∙ row_kept v.row operands v.held (omega (arith, n.1, every)) fits_all

          low_is : weighed low high factors (take number operands) ≡ row_sum (λ x. x.least) (λ x. x.greatest) (λ n. w k p (suc n)) v.row
          low_is = ap (weighed low high factors) kept ∙ weighed_row low high v.row factors (λ n. w k p (suc n)) factors_long factors_are

          high_is : weighed high low factors (take number operands) ≡ row_sum (λ x. x.greatest) (λ x. x.least) (λ n. w k p (suc n)) v.row
          high_is = ap (weighed high low factors) kept ∙ weighed_row high low v.row factors (λ n. w k p (suc n)) factors_long factors_are

          constant_is : get_or ld.figures.now (first - 1) (pos 0) ≡ w k p 0
          constant_is =
              let z : first - 1 ≡ place + 3 + 0 = omega arith in
              ap (λ (m : ℕ). get_or ld.figures.now m (pos 0)) z ∙ a.production.figures_are 0 (omega arith)

          pub going_end : (r : Bounds)
              → r ≡ tested_at (get_or ld.figures.now (first - 1) (pos 0) +ℤ weighed low high (take number (drop first ld.figures.now)) (take number operands)) (get_or ld.figures.now (first - 1) (pos 0) +ℤ weighed high low (take number (drop first ld.figures.now)) (take number operands)) to
              → Says b (read_operands reads w k p (some ks) (drop at b)) (Ok r)
          unfolding bounds_of node_spread tested_at factors
          going_end r er = rw all_read (to, v.inside, refl, ap Ok (rw (constant_is, low_is, high_is) at er ∙ rw fits_all refl))

-- ends_at
production_from : {s : List ℕ} {fig : List ℤ} {w : Loads} {k p : ℕ} {ks : List ℕ} {n m : ℕ} → n ≡ m → ProductionAt s fig m w k p ks → ProductionAt s fig n w k p ks
production_from e h = rw e h

no_range : (s : List ℕ) (n : ℕ) → n ≡ 0 → range_before s n ≡ none
no_range s zero e = refl
no_range s (suc n) e = absurd (omega arith)

a_range : (s : List ℕ) (n : ℕ) → 0 < n → range_before s n ≡ some (class_range s (n - 1))
a_range s zero e = absurd (omega arith)
a_range s (suc n) e = let z : n ≡ suc n - 1 = omega arith in ap (λ (m : ℕ). some (class_range s m)) z

no_arguments : (s : List ℕ) (n : ℕ) → n ≡ 0 → arguments_before s n ≡ none
no_arguments s zero e = refl
no_arguments s (suc n) e = absurd (omega arith)

some_arguments : (s : List ℕ) (n : ℕ) → 0 < n → (ks : List ℕ) × (arguments_before s n ≡ some ks)
some_arguments s zero e = absurd (omega arith)
some_arguments s (suc n) e = (_, refl)

-- Reading by whether the kind is a class.
module _ (tokens : Tokens) (l : Language) (w : Loads) (k : ℕ) where
  pub class_read : (n : ℕ) (s : List ℕ) (c : Range) → range_of l k ≡ some c → read_spread tokens l w n k s ≡ read_values tokens c s
  unfolding read_spread by_class
  class_read zero s c e = rw e refl
  class_read (suc n) s c e = rw e refl

  pub past_read : (s : List ℕ) → range_of l k ≡ none → read_spread tokens l w 0 k s ≡ deep
  unfolding read_spread by_class
  past_read s e = rw e refl

  pub name_read : (n : ℕ) (s : List ℕ) → range_of l k ≡ none → read_spread tokens l w (suc n) k s ≡ read_name (read_spread tokens l w n) l w k s
  unfolding read_spread by_class
  name_read n s e = rw e refl

module _ (tokens : Tokens) (ld : Loaded) {l : Language} {w : Loads} (world : World ld.language.now ld.index.now ld.figures.now l w) (b : List ℕ) (k : ℕ) (kind : k < 32) (at : ℕ)
    (j class : ℕ) (ej : j ≡ k) (ec : class ≡ get_or ld.index.now j 0) where
  class_is : class ≡ get_or ld.index.now k 0
  class_is = ec ∙ ap (λ (n : ℕ). get_or ld.index.now n 0) ej

  range_is : range_of l k ≡ range_before ld.language.now class
  range_is = world.indexed.range k kind ∙ ap (range_before ld.language.now) (sym class_is)

  pub class_said : (class ≡ 0 → ⊥) → (n : ℕ) (r : Result Bounds ReadError) → Says b (read_values tokens (class_range ld.language.now (class - 1)) (drop at b)) r → Says b (read_spread tokens l w n k (drop at b)) r
  class_said h n r e =
      let more : 0 < class = omega (arith, h) in
      let d : read_spread tokens l w n k (drop at b) ≡ read_values tokens (class_range ld.language.now (class - 1)) (drop at b) = class_read tokens l w k n (drop at b) (class_range ld.language.now (class - 1)) (range_is ∙ a_range ld.language.now class more) in
      rw d e

  module _ (none_here : class ≡ 0) where
    no_class : range_of l k ≡ none
    no_class = range_is ∙ no_range ld.language.now class none_here

    pub deep_said : (n : ℕ) → n ≡ 0 → Says b (read_spread tokens l w n k (drop at b)) (Err Deep)
    deep_said zero e = let d : read_spread tokens l w 0 k (drop at b) ≡ deep = past_read tokens l w k (drop at b) no_class in rw d refl
    deep_said (suc n) e = absurd (omega arith)

    named : (n : ℕ) → (n ≡ 0 → ⊥) → read_spread tokens l w n k (drop at b) ≡ read_name (read_spread tokens l w (n - 1)) l w k (drop at b)
    named zero h = absurd (h refl)
    named (suc n) h =
        let z : n ≡ suc n - 1 = omega arith in
        name_read tokens l w k n (drop at b) no_class ∙ ap (λ (m : ℕ). read_name (read_spread tokens l w m) l w k (drop at b)) z

    module _ (n : ℕ) (some_left : n ≡ 0 → ⊥) where
      pub end_said : length b ≤ at → Says b (read_spread tokens l w n k (drop at b)) (Err Broken)
      unfolding read_name
      end_said h =
          let d : read_name (read_spread tokens l w (n - 1)) l w k (drop at b) ≡ broken = ap (read_name (read_spread tokens l w (n - 1)) l w k) (drop_of_length-le b h) in
          rw (named n some_left ∙ d) refl

      -- m is the kind, p the name and place what the ld.index.now has for them
      module _ (h : at < length b) (m p key place : ℕ) (em : m ≡ k) (ep : p ≡ get_or b at 0) (few : p < 256) (ey : key ≡ production_key m p) (e : place ≡ get_or ld.index.now key 0) where
        place_is : place ≡ get_or ld.index.now (production_key k p) 0
        place_is = e ∙ ap (λ (i : ℕ). get_or ld.index.now i 0) (ey ∙ ap (λ (i : ℕ). production_key i p) em)

        read_is : read_spread tokens l w n k (drop at b) ≡ read_operands (read_spread tokens l w (n - 1)) w k p (arguments_of l k p) (drop (at + 1) b)
        unfolding read_name
        read_is =
            named n some_left
            ∙ (ap (read_name (read_spread tokens l w (n - 1)) l w k) (front b at h)
            ∙ ap (λ (i : ℕ). read_operands (read_spread tokens l w (n - 1)) w k i (arguments_of l k i) (drop (at + 1) b)) (sym ep))

        known : arguments_of l k p ≡ arguments_before ld.language.now place
        known = world.indexed.arguments k p kind few ∙ ap (arguments_before ld.language.now) (sym place_is)

        pub unknown_said : place ≡ 0 → Says b (read_spread tokens l w n k (drop at b)) (Err Broken)
        unfolding read_operands
        unknown_said z =
            let d : read_spread tokens l w n k (drop at b) ≡ broken = read_is ∙ ap (λ (o : Option (List ℕ)). read_operands (read_spread tokens l w (n - 1)) w k p o (drop (at + 1) b)) (known ∙ no_arguments ld.language.now place z) in
            rw d refl

        module _ (there : place ≡ 0 → ⊥) where
          found : (ks : List ℕ) × (arguments_before ld.language.now place ≡ some ks)
          found = some_arguments ld.language.now place (omega (arith, there))

          pub kinds_of : List ℕ
          kinds_of = found.0

          pub node_asked : RowAsks ld place b (at + 1) l w k p kinds_of
          unfolding kinds_of
          node_asked = record { world = world; production = production_from place_is (production_at world k p found.0 kind few (known ∙ found.1)); inside = omega arith }

          pub node_said : (r : Result Bounds ReadError) → Says b (read_operands (read_spread tokens l w (n - 1)) w k p (some kinds_of) (drop (at + 1) b)) r → Says b (read_spread tokens l w n k (drop at b)) r
          unfolding kinds_of
          node_said r q = rw (read_is ∙ ap (λ (o : Option (List ℕ)). read_operands (read_spread tokens l w (n - 1)) w k p o (drop (at + 1) b)) (known ∙ found.1)) q
