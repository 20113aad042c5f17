-- The loop of `form_node`: the operands that are still to be added, a law for each turn and each return.
use Rattle.std.specs.Prelude.{Option, Some, None, ⊤}
use Prim.Native.Nat.{ℕ, zero, suc, max, ◌+◌, ◌*◌, ◌-◌, ◌<◌, ◌≤◌}
use mathlib.Core.Path.{◌≡◌, refl, sym, ap, ◌∙◌}
use mathlib.Core.Bool.{Bool, true, false, ◌&&◌}
use mathlib.Core.List.{List, ◌∷◌, ◌++◌}
use native.Mathlib.Omega.{arith}
use lib.ListN.{length, get_or, set, length-set, replicate, get_or-replicate, get_or-eq_default, length-replicate, length-append}
use lib.Seq.{get_or-set_same, get_or-set_other}
use lib.Dec.{ltb}
use lib.IntN.{ℤ, pos, nat_abs, ◌+ℤ◌, ◌*ℤ◌, +ℤ_assoc, +ℤ_idr}
use mir.Syntax.{w32}
use mir.Val.{to_z, of_z}
use borrow.Author.Tests.{ltb-true, ltb-false}
use Rattle.format_fields.specs.Fields.{pair_at}
use Rattle.format_fields.proofs.Truth.{by_test}
use Rattle.format_language.specs.Language.{Language}
use Rattle.tree_reader.specs.Code.{Code, node, Codes, nil, cons, levels, levels_all}
use Rattle.tree_reader.specs.Typing.{Uses, Typed, TypedAll, typed_nil, typed_cons}
use Rattle.tree_reader.specs.Syntax.{write_all}
use Rattle.run_table.specs.Inner.Stands.{Stands}
use Rattle.run_table.proofs.Standing.{stands_both}
use Rattle.score_tree.specs.declared.loaded.Loaded.{Loaded}
use Rattle.score_tree.specs.Figures.{is_figure}
use Rattle.score_tree.specs.Linear.{Loads, constant, form, form_all, passes, passes_all}
use Rattle.score_tree.specs.Inner.Terms.{bytes_of, all_bytes, TermAsks, KindsAt, NodeAsks, Asked, Added, AddsRow, Adds}
use Rattle.score_tree.proofs.Integers.{mul_within, add_within}
use Rattle.score_tree.proofs.Weighing.{factor_back, factor_near}
use Rattle.score_tree.proofs.Leaves.{added_as}
use Rattle.score_tree.proofs.Terms.{adds_as}

-- Each operand's form times the figure kept for it, the first figure at q.
unfoldable pub weigh : Loads → List ℤ → ℕ → Codes → ℕ → ℤ
weigh w fig q nil j = pos 0
weigh w fig q (cons a t) j = get_or fig q (pos 0) *ℤ form w a j +ℤ weigh w fig (q + 1) t j

weigh_is : {l : Language} {given : Uses} {ts : Codes} {ks : List ℕ} → TypedAll l given ts ks → (w : Loads) (fig : List ℤ) (g : ℕ → ℤ) (q j : ℕ)
    → ((i : ℕ) → i < length ks → get_or fig (q + i) (pos 0) ≡ g i) → weigh w fig q ts j ≡ form_all w g ts j
unfolding weigh form_all
weigh_is typed_nil w fig g q j h = refl
weigh_is (typed_cons {a = a} {t = t} {ks = ks} y ys) w fig g q j h =
    let z : q ≡ q + 0 = omega arith in
    let e : get_or fig q (pos 0) ≡ g 0 = ap (λ (n : ℕ). get_or fig n (pos 0)) z ∙ h 0 (omega arith) in
    let more : weigh w fig (q + 1) t j ≡ form_all w (λ i. g (suc i)) t j =
    weigh_is ys w fig (λ i. g (suc i)) (q + 1) j (λ i k. let d : q + 1 + i ≡ q + suc i = omega arith in ap (λ (n : ℕ). get_or fig n (pos 0)) d ∙ h (suc i) (omega arith)) in
    ap (λ (v : ℤ). v *ℤ form w a j +ℤ weigh w fig (q + 1) t j) e ∙ ap (λ (v : ℤ). g 0 *ℤ form w a j +ℤ v) more

-- A row of zeros, and one with a constant.
pub zero_at : (n j : ℕ) → get_or (replicate n (pos 0)) j (pos 0) ≡ pos 0
zero_at n j = by_test (ltb j n)
    (λ h. get_or-replicate n j (pos 0) (pos 0) (ltb-true j n h))
    (λ h. get_or-eq_default (replicate n (pos 0)) (pos 0) {n = j} (rw length-replicate (ltb-false j n h)))

row_begin : (z : ℤ) (j : ℕ) → get_or (set (replicate 9 (pos 0)) 0 z) j (pos 0) ≡ constant z j
unfolding constant
row_begin z zero = get_or-set_same (replicate 9 (pos 0)) 0 z (pos 0) (rw length-replicate (omega arith))
row_begin z (suc j) = get_or-set_other (replicate 9 (pos 0)) 0 (suc j) z (pos 0) (λ e. absurd (omega arith)) ∙ zero_at 9 (suc j)

constant_near : (z : ℤ) (j : ℕ) → nat_abs z ≤ 32768 → nat_abs (constant z j) ≤ 32768
unfolding constant
constant_near z zero h = h
constant_near z (suc j) h = omega arith

-- Where the loop stands: the operands from q on are still to be added to the row; those before them passed.
pub record Walking (s : List ℕ) (fig : List ℤ) (b : List ℕ) (l : Language) (given : Uses) (w : Loads) (u : Code) (ts : Codes) (stop end left count : ℕ) (row : List ℤ) (q to : ℕ) : Type 0 where
  pub codes : Codes
  pub kinds : List ℕ
  pub typed : TypedAll l given codes kinds
  pub stands : Stands b to (all_bytes codes)
  pub levels : levels_all codes ≤ left
  pub known : KindsAt s q kinds
  pub rest : q + length kinds ≡ stop
  pub few : length kinds ≤ 8
  pub ends : to + length (all_bytes codes) ≡ end
  pub long : length row ≡ 9
  pub near : (j : ℕ) → nat_abs (get_or row j (pos 0)) ≤ 32768 + (8 - length kinds) * 2147450880
  pub sum : (j : ℕ) → j < count → get_or row j (pos 0) +ℤ weigh w fig q codes j ≡ form w u j
  pub pass : (j : ℕ) → j < count → passes_all is_figure w ts j ≡ passes_all is_figure w codes j

-- The first operand that is still to be added, and the others.
record First (l : Language) (given : Uses) (cs : Codes) (ks : List ℕ) : Type 0 where
  code : Code
  kind : ℕ
  codes : Codes
  kinds : List ℕ
  is_codes : cs ≡ cons code codes
  is_kinds : ks ≡ kind ∷ kinds
  typed : Typed l given code kind
  others : TypedAll l given codes kinds

first_of : {l : Language} {given : Uses} {cs : Codes} {ks : List ℕ} → TypedAll l given cs ks → 0 < length ks → First l given cs ks
first_of typed_nil h = absurd (omega arith)
first_of (typed_cons {a = a} {k = k} {t = t} {ks = ks} y ys) h =
    record { code = a; kind = k; codes = t; kinds = ks; is_codes = refl; is_kinds = refl; typed = y; others = ys }

none_left : {l : Language} {given : Uses} {cs : Codes} {ks : List ℕ} → TypedAll l given cs ks → length ks ≡ 0 → cs ≡ nil
none_left typed_nil h = refl
none_left (typed_cons y ys) h = absurd (omega arith)

-- A place that does not fit.
pub adds_outside : {w : Loads} {u : Code} {factor : ℤ} {count : ℕ} {before after : List ℤ} {end : ℕ} → ((j : ℕ) × (j < count) × (passes is_figure w u j ≡ false))
    → Adds w u factor count before after end None
adds_outside h = record { done = λ e q. cc; outside = λ q. h }

module _ {ld : Loaded} {place : ℕ} {b : List ℕ} {at left : ℕ} {l : Language} {given : Uses} {w : Loads} {k p : ℕ} {ts : Codes} {ks : List ℕ}
    (a : NodeAsks ld place b at left l given w k p ts ks) where
  -- What the code may ask of the production.
  pub node_in : (place + 4 ≤ length ld.language.now) × (length ld.language.now ≤ 1024) × (length ld.figures.now ≡ 1024)
  node_in = (a.production.there, a.world.indexed.sound.short, a.world.long)

  pub stop_is : (n : ℕ) → n ≡ pair_at ld.language.now place → (place + 2 + n ≡ place + 4 + length ks) × (place + 2 + n ≤ length ld.language.now)
  stop_is n e =
      let c = a.production.size in
      let i = a.production.kinds.inside in
      (omega arith, omega arith)

  pub figure_back : (i : ℕ) → to_z w32 (of_z w32 (get_or ld.figures.now i (pos 0))) ≡ get_or ld.figures.now i (pos 0)
  figure_back i = factor_back ld.figures.now i a.world.small

  pub figure_near : (i : ℕ) → nat_abs (to_z w32 (of_z w32 (get_or ld.figures.now i (pos 0)))) ≤ 32768
  figure_near i = factor_near ld.figures.now i a.world.small

  -- z is what the code puts for the constant f
  begun : (count n : ℕ) → n ≡ pair_at ld.language.now place → (z f : ℤ) → z ≡ f → f ≡ to_z w32 (of_z w32 (get_or ld.figures.now (place + 3) (pos 0)))
      → Walking ld.language.now ld.figures.now b l given w (node k p ts) ts (place + 2 + n) (at + length (all_bytes ts)) left count (set (replicate 9 (pos 0)) 0 z) (place + 4) at
  unfolding form
  begun count n en z f ez ef =
      let more : (j : ℕ) → weigh w ld.figures.now (place + 4) ts j ≡ form_all w (λ i. w k p (suc i)) ts j = λ j. weigh_is a.typed w ld.figures.now (λ i. w k p (suc i)) (place + 4) j
      (λ i h. let d : place + 4 + i ≡ place + 3 + suc i = omega arith in ap (λ (m : ℕ). get_or ld.figures.now m (pos 0)) d ∙ a.production.figures_are (suc i) (omega arith)) in
      let here : place + 3 ≡ place + 3 + 0 = omega arith in
      let kept : z ≡ get_or ld.figures.now (place + 3) (pos 0) = ez ∙ (ef ∙ figure_back (place + 3)) in
      let is : z ≡ w k p 0 = kept ∙ (ap (λ (m : ℕ). get_or ld.figures.now m (pos 0)) here ∙ a.production.figures_are 0 (omega arith)) in
      let small : nat_abs z ≤ 32768 = rw (ez ∙ ef) (figure_near (place + 3)) in
      let c = stop_is n en in
      let g = a.production.few in
      record {
        codes = ts;
        kinds = ks;
        typed = a.typed;
        stands = a.stands;
        levels = a.levels;
        known = a.production.kinds;
        rest = omega (arith, c.0);
        few = g;
        ends = refl;
        long = length-set (replicate 9 (pos 0)) 0 z ∙ length-replicate 9 (pos 0);
        near = λ j. let h = constant_near z j small in rw (row_begin z j) (omega arith);
        sum = λ j h.
            ap (λ (v : ℤ). v +ℤ weigh w ld.figures.now (place + 4) ts j) (row_begin z j ∙ ap (λ (v : ℤ). constant v j) is)
            ∙ ap (λ (v : ℤ). constant (w k p 0) j +ℤ v) (more j);
        pass = λ j h. refl;
      }

  -- Its operands stand from q up to stop.
  pub walk_begin : (count stop q : ℕ) → stop ≡ place + 2 + pair_at ld.language.now place → q ≡ place + 4 → (z f : ℤ) → z ≡ f → f ≡ to_z w32 (of_z w32 (get_or ld.figures.now (place + 3) (pos 0)))
      → Walking ld.language.now ld.figures.now b l given w (node k p ts) ts stop (at + length (all_bytes ts)) left count (set (replicate 9 (pos 0)) 0 z) q at
  walk_begin count stop q es eq z f ez ef = rw (es, eq) (begun count (pair_at ld.language.now place) refl z f ez ef)

  module _ {stop end count : ℕ} {row : List ℤ} {q to : ℕ} (v : Walking ld.language.now ld.figures.now b l given w (node k p ts) ts stop end left count row q to) where
    pub row_asked : {factor : ℤ} {sum : List ℤ} → Asked factor count sum → (f : ℤ) → nat_abs f ≤ 32768 → Asked f count row
    row_asked c f h = record { long = v.long; some = c.some; few = c.few; small = h; room = λ j. let n = v.near j in omega arith }

    module _ (h : q < stop) where
      ahead : First l given v.codes v.kinds
      ahead = first_of v.typed (let c = v.rest in omega arith)

      pub row_in : (q < length ld.language.now) × (q < 1024)
      row_in =
          let d = v.known.inside in
          let c = v.rest in
          let m = node_in in
          (omega arith, omega (arith, m.1))

      here : (get_or ld.language.now q 0 ≡ ahead.kind) × (ahead.kind < 32)
      here =
          let c = v.rest in
          let g = v.known.is 0 (omega arith) in
          let z : q + 0 ≡ q = omega arith in
          let e : get_or v.kinds 0 0 ≡ ahead.kind = ap (λ (r : List ℕ). get_or r 0 0) ahead.is_kinds in
          (ap (λ (n : ℕ). get_or ld.language.now n 0) (sym z) ∙ (g.0 ∙ e), rw (← e) g.1)

      bytes_are : all_bytes v.codes ≡ bytes_of ahead.code ++ all_bytes ahead.codes
      unfolding write_all
      bytes_are = ap all_bytes ahead.is_codes

      both : Stands b to (bytes_of ahead.code) × Stands b (to + length (bytes_of ahead.code)) (all_bytes ahead.codes)
      both = stands_both b to _ _ (rw bytes_are at v.stands)

      deep : (levels ahead.code ≤ left) × (levels_all ahead.codes ≤ left)
      unfolding levels_all
      deep = let n = v.levels in let m : levels_all v.codes ≡ max (levels ahead.code) (levels_all ahead.codes) = ap levels_all ahead.is_codes in (omega arith, omega arith)

      -- The operand that the code goes on to.
      pub operand : Code
      operand = ahead.code

      pub operand_asks : TermAsks ld b (get_or ld.language.now q 0) to left l given w operand
      unfolding operand
      operand_asks =
          let g = here in
          rw g.0 (record { world = a.world; plain = a.plain; typed = ahead.typed; kind = g.1; stands = both.0; levels = deep.0 })

      module _ {f : ℤ} {after : List ℤ} {r : Option ℕ} (d : Adds w operand f count row after (to + length (bytes_of operand)) r) where
        pub walk_outside : r ≡ None → (j : ℕ) × (j < count) × (passes is_figure w (node k p ts) j ≡ false)
        unfolding passes passes_all operand
        walk_outside y =
            let (j, i, o) = d.outside y in
            let g : passes_all is_figure w v.codes j ≡ false = ap (λ (c : Codes). passes_all is_figure w c j) ahead.is_codes ∙ rw o refl in
            (j, i, rw (v.pass j i ∙ g) refl)

        -- f is what the machine reads of the factor
        module _ (e : ℕ) (ee : r ≡ Some e) (ef : f ≡ to_z w32 (of_z w32 (get_or ld.figures.now q (pos 0)))) where
          told : (e ≡ to + length (bytes_of ahead.code)) × ((j : ℕ) → j < count → passes is_figure w ahead.code j ≡ true) × Added (form w ahead.code) f count row after
          unfolding operand
          told = d.done e ee

          more : (j : ℕ) → j < count → get_or after j (pos 0) +ℤ weigh w ld.figures.now (q + 1) ahead.codes j ≡ form w (node k p ts) j
          unfolding weigh
          more j i =
              let g = get_or row j (pos 0) in
              let x = get_or ld.figures.now q (pos 0) *ℤ form w ahead.code j in
              let y = weigh w ld.figures.now (q + 1) ahead.codes j in
              let product : f *ℤ form w ahead.code j ≡ x = ap (λ (n : ℤ). n *ℤ form w ahead.code j) (ef ∙ figure_back q) in
              ap (λ (n : ℤ). n +ℤ y) (told.2.sums j i ∙ ap (λ (n : ℤ). g +ℤ n) product)
              ∙ (+ℤ_assoc g x y ∙ (ap (λ (c : Codes). g +ℤ weigh w ld.figures.now q c j) (sym ahead.is_codes) ∙ v.sum j i))

          bound : (j : ℕ) → nat_abs (get_or after j (pos 0)) ≤ nat_abs (get_or row j (pos 0)) + 2147450880
          bound j = by_test (ltb j count)
              (λ y.
              let i = ltb-true j count y in
              let m = mul_within f (form w ahead.code j) 32768 65535 (rw ef (figure_near q)) (told.2.near j i) in
              let o = add_within (get_or row j (pos 0)) (f *ℤ form w ahead.code j) (nat_abs (get_or row j (pos 0))) 2147450880 (omega arith) (omega arith) in
              rw (told.2.sums j i) o)
              (λ y. rw (told.2.others j (ltb-false j count y)) (omega arith))

          pub walk_next : Walking ld.language.now ld.figures.now b l given w (node k p ts) ts stop end left count after (q + 1) e
          unfolding passes_all
          walk_next =
              let c = v.rest in
              let i = v.known.inside in
              let o = v.ends in
              let m : length v.kinds ≡ suc (length ahead.kinds) = ap length ahead.is_kinds in
              let g = v.few in
              let n : length (all_bytes v.codes) ≡ length (bytes_of ahead.code) + length (all_bytes ahead.codes) = ap length bytes_are ∙ length-append (bytes_of ahead.code) (all_bytes ahead.codes) in
              record {
                codes = ahead.codes;
                kinds = ahead.kinds;
                typed = ahead.others;
                stands = rw told.0 both.1;
                levels = deep.1;
                known = record {
                  inside = omega arith;
                  is = λ h' g'.
                      let x = v.known.is (suc h') (omega arith) in
                      let at' : q + suc h' ≡ q + 1 + h' = omega arith in
                      let same : get_or v.kinds (suc h') 0 ≡ get_or ahead.kinds h' 0 = ap (λ (r' : List ℕ). get_or r' (suc h') 0) ahead.is_kinds in
                      (ap (λ (n' : ℕ). get_or ld.language.now n' 0) (sym at') ∙ (x.0 ∙ same), rw (← same) x.1);
                };
                rest = omega arith;
                few = omega arith;
                ends = omega (arith, told.0);
                long = told.2.long ∙ v.long;
                near = λ j. let x = bound j in let y = v.near j in omega arith;
                sum = more;
                pass = λ j y. v.pass j y ∙ (ap (λ (c' : Codes). passes_all is_figure w c' j) ahead.is_codes ∙ ap (λ (y' : Bool). y' && passes_all is_figure w ahead.codes j) (told.1 j y));
              }

    module _ (h : stop ≤ q) where
      none : v.codes ≡ nil
      none = none_left v.typed (let c = v.rest in omega arith)

      finished : (j : ℕ) → j < count → get_or row j (pos 0) ≡ form w (node k p ts) j
      unfolding weigh
      finished j i = sym (+ℤ_idr (get_or row j (pos 0))) ∙ (ap (λ (c : Codes). get_or row j (pos 0) +ℤ weigh w ld.figures.now q c j) (sym none) ∙ v.sum j i)

      passed : (j : ℕ) → j < count → passes_all is_figure w ts j ≡ true
      unfolding passes_all
      passed j i = v.pass j i ∙ ap (λ (c : Codes). passes_all is_figure w c j) none

      pub walk_ends : to ≡ end
      unfolding write_all
      walk_ends = let o : length (all_bytes v.codes) ≡ 0 = ap (λ (c : Codes). length (all_bytes c)) none in omega (arith, v.ends)

      -- f is what the machine reads of the factor
      module _ {f : ℤ} {before after : List ℤ} {r : Option ⊤} (d : AddsRow row f count before after r) where
        pub walk_wide : r ≡ None → (j : ℕ) × (j < count) × (passes is_figure w (node k p ts) j ≡ false)
        unfolding passes
        walk_wide y =
            let (j, i, o) = d.outside y in
            let e : is_figure (form w (node k p ts) j) ≡ false = rw (← finished j i) o in
            (j, i, rw (passed j i, e) refl)

        pub walk_end : {factor : ℤ} → f ≡ factor → {u : ⊤} → r ≡ Some u → Adds w (node k p ts) factor count before after end (Some to)
        unfolding passes
        walk_end ef y =
            let (x, g) = d.done _ y in
            adds_as refl ef refl (record {
              done = λ e q. (
                (let i : to ≡ e = cc in sym i ∙ walk_ends),
                (λ j i. let o : is_figure (form w (node k p ts) j) ≡ true = rw (← finished j i) (x j i) in rw (passed j i, o) refl),
                added_as finished g,
              );
              outside = λ q. cc;
            })
