-- A code of the input: what stands at a leaf, and what follows the name of a production.
use Rattle.std.specs.Prelude.{Option, Some}
use Prim.Native.Nat.{ℕ, zero, suc, ◌+◌, ◌-◌, ◌/◌, ◌%◌, ◌<◌, ◌≤◌}
use mathlib.Core.Path.{◌≡◌, refl, sym, ap, ◌∙◌}
use mathlib.Core.Bool.{true}
use mathlib.Core.List.{List, [], ◌∷◌}
use mathlib.Core.Option.{some}
use native.Mathlib.Omega.{arith}
use lib.ListN.{length, get_or, take}
use lib.Seq.{slice, length-slice, get_or-drop, get_or-take}
use lib.Dec.{ltb}
use lib.IntN.{ℤ, pos}
use borrow.Author.Tests.{ltb-true, ltb-false}
use Rattle.format_fields.specs.Fields.{pair_at}
use Rattle.format_fields.specs.Inner.Places.{field_end}
use Rattle.format_fields.proofs.Truth.{by_test, none_some, some_inj}
use Rattle.format_language.specs.Language.{Language, arguments_of, production_key}
use Rattle.tree_reader.specs.Code.{Code, node, Codes, levels, levels_all}
use Rattle.tree_reader.specs.Typing.{Uses, kind_at, Typed, TypedAll, typed_node, typed_token, typed_argument}
use Rattle.tree_reader.specs.Syntax.{write}
use Rattle.tree_reader.specs.declared.node.Syntax.TheVariants as Syntaxes
use Rattle.tree_reader.specs.Inner.Positions.{KindsIn}
use Rattle.tree_reader.specs.Inner.Index.{Indexed, arguments_before}
use Rattle.run_table.specs.Inner.Stands.{Stands}
use Rattle.run_table.proofs.Standing.{stands_head}
use Rattle.run_emit.proofs.Skips.{some_bytes}
use Rattle.score_tree.specs.declared.loaded.Loaded.{Loaded}
use Rattle.score_tree.specs.Figures.{is_figure}
use Rattle.score_tree.specs.Linear.{Loads, constant, used, form, passes}
use Rattle.score_tree.specs.Inner.Terms.{bytes_of, all_bytes, World, KindsAt, ProductionAt, Plain, TermAsks, NodeAsks, leaf_size, leaf_form, LeafIn, AddsLeaf, Adds}
use Rattle.score_tree.proofs.Leaves.{added_as}

-- Arguments are counted from 1.
counted_from : (given : Uses) (i j : ℕ) {k : ℕ} → kind_at given i j ≡ some k → 0 < i
counted_from given zero j h = none_some h
counted_from given (suc i) j h = omega arith

-- The value of a token in its two bytes.
module _ (b : List ℕ) (at v : ℕ) where
  pub pair_is : Stands b at (v / 256 ∷ v % 256 ∷ []) → pair_at b at ≡ v
  unfolding pair_at
  pair_is h =
      let a = stands_head b at (v / 256) (v % 256 ∷ []) h in
      let c = stands_head b (at + 1) (v % 256) [] a.2 in
      omega (arith, a.1, c.1)

-- What is known of a leaf.
pub record LeafIs (b : List ℕ) (at : ℕ) (w : Loads) (u : Code) : Type 0 where
  pub long : length (bytes_of u) ≡ leaf_size b at
  pub is : (j : ℕ) → leaf_form b at j ≡ form w u j
  pub passed : (j : ℕ) → passes is_figure w u j ≡ true
  pub counted : (get_or b at 0 ≡ 2 → ⊥) → 0 < get_or b (at + 1) 0

-- What is known of a production.
pub record NodeIs (b : List ℕ) (at : ℕ) (l : Language) (given : Uses) (u : Code) (k : ℕ) : Type 0 where
  pub name : ℕ
  pub operands : Codes
  pub kinds : List ℕ
  pub is : u ≡ node k name operands
  pub known : arguments_of l k name ≡ some kinds
  pub typed : TypedAll l given operands kinds
  pub inside : at + 2 ≤ length b
  pub named : get_or b (at + 1) 0 ≡ name
  pub stands : Stands b (at + 2) (all_bytes operands)
  pub long : length (bytes_of u) ≡ 2 + length (all_bytes operands)
  pub deep : levels u ≡ suc (levels_all operands)

module _ (b : List ℕ) (at : ℕ) (l : Language) (given : Uses) where
  leaf_of : (w : Loads) → Plain given → {u : Code} {k : ℕ} → Typed l given u k → Stands b at (bytes_of u) → (get_or b at 0 ≡ 1 → ⊥) → LeafIs b at w u
  unfolding leaf_form form passes write
  leaf_of w plain (typed_node e h) st y = let a = stands_head b at 1 _ st in absurd (y a.1)
  leaf_of w plain (typed_token {v = v} {k = k} e h) st y =
      let a = stands_head b at 2 (v / 256 ∷ v % 256 ∷ []) st in
      record {
        long = rw a.1 refl;
        is = λ j. rw a.1 (ap (λ (n : ℕ). constant (pos n) j) (pair_is b (at + 1) v a.2));
        passed = λ j. refl;
        counted = λ n. absurd (n a.1);
      }
  leaf_of w plain (typed_argument {i = n} {j = suc m} {k = k} e) st y = absurd (omega (arith, plain n (suc m) k e))
  leaf_of w plain (typed_argument {i = n} {j = zero} e) st y =
      let a = stands_head b at 3 (n ∷ []) st in
      let c = stands_head b (at + 1) n [] a.2 in
      record {
        long = rw a.1 refl;
        is = λ j. rw a.1 (ap (λ (m : ℕ). used m j) c.1);
        passed = λ j. refl;
        counted = λ m. rw c.1 (counted_from given n 0 e);
      }

  pub node_of : {u : Code} {k : ℕ} → Typed l given u k → Stands b at (bytes_of u) → get_or b at 0 ≡ 1 → NodeIs b at l given u k
  unfolding write levels
  node_of (typed_node {k = k} {p = p} {t = ts} {ks = ks} e h) st y =
      let a = stands_head b at 1 (p ∷ all_bytes ts) st in
      let c = stands_head b (at + 1) p (all_bytes ts) a.2 in
      let z : at + 1 + 1 ≡ at + 2 = omega arith in
      record {
        name = p;
        operands = ts;
        kinds = ks;
        is = refl;
        known = e;
        typed = h;
        inside = let n = c.0 in omega arith;
        named = c.1;
        stands = rw (← z) c.2;
        long = omega arith;
        deep = refl;
      }
  node_of (typed_token {v = v} {k = k} e h) st y =
      let a = stands_head b at 2 (v / 256 ∷ v % 256 ∷ []) st in absurd (omega (arith, a.1))
  node_of (typed_argument {i = n} {j = zero} e) st y =
      let a = stands_head b at 3 (n ∷ []) st in absurd (omega (arith, a.1))
  node_of (typed_argument {i = n} {j = suc m} e) st y =
      let a = stands_head b at 4 (n ∷ suc m ∷ []) st in absurd (omega (arith, a.1))

-- The kinds of a production by its place.
arguments_some : (s : List ℕ) (place : ℕ) (ks : List ℕ) → arguments_before s place ≡ some ks → (p : ℕ) × (place ≡ suc p) × (slice (p + 5) (field_end s p) s ≡ ks)
arguments_some s zero ks e = none_some e
arguments_some s (suc p) ks e = (p, refl, some_inj e)

slice_get : (s : List ℕ) (p e i : ℕ) → p + i < e → get_or (slice p e s) i 0 ≡ get_or s (p + i) 0
slice_get s p e i h = get_or-drop p (take e s) i 0 ∙ get_or-take e s (p + i) 0 h

pub record Placed (s : List ℕ) (place : ℕ) (ks : List ℕ) : Type 0 where
  pub some : 0 < place
  pub there : place + 4 ≤ length s
  pub size : pair_at s place - 2 ≡ length ks
  pub kinds : KindsAt s (place + 4) ks

module _ {s index : List ℕ} {l : Language} (ind : Indexed index s l) (k p : ℕ) (h : k < 32) (i : p < 256) (ks : List ℕ) (e : arguments_of l k p ≡ some ks) where
  abbrev spot : ℕ
  spot = get_or index (production_key k p) 0

  pub placed : Placed s spot ks
  unfolding field_end
  placed =
      let (q, is, part) = arguments_some s spot ks (sym (ind.arguments k p h i) ∙ e) in
      let more : 0 < spot = omega (arith, is) in
      let there = ind.sound.name k p h i more in
      let row : KindsIn s (spot + 4) (spot + 2 + pair_at s spot) = ind.sound.operands k p h i more in
      let z : spot ≡ q + 1 = omega (arith, is) in
      let pr : pair_at s spot ≡ pair_at s (q + 1) = ap (pair_at s) z in
      let fits : spot + 2 + pair_at s spot ≤ length s =
      by_test (ltb 2 (pair_at s spot))
      (λ y. let n = ltb-true 2 (pair_at s spot) y in let m = row (spot + 1 + pair_at s spot) (omega arith) (omega arith) in omega (arith, m.0))
      (λ y. let n = ltb-false 2 (pair_at s spot) y in omega arith) in
      let len : length ks ≡ q + 3 + pair_at s (q + 1) - (q + 5) = ap length (sym part) ∙ length-slice (q + 5) (q + 3 + pair_at s (q + 1)) s (omega arith) in
      record {
        some = more;
        there = there;
        size = omega arith;
        kinds = record {
          inside = omega arith;
          is = λ j g.
              let m = row (spot + 4 + j) (omega arith) (omega arith) in
              let at : q + 5 + j ≡ spot + 4 + j = omega arith in
              let same : get_or ks j 0 ≡ get_or s (spot + 4 + j) 0 = ap (λ (r : List ℕ). get_or r j 0) (sym part) ∙ (slice_get s (q + 5) (q + 3 + pair_at s (q + 1)) j (omega arith) ∙ ap (λ (n : ℕ). get_or s n 0) at) in
              (sym same, rw same m.1);
        };
      }

-- A production of the language by the index.
pub production_at : {s index : List ℕ} {fig : List ℤ} {l : Language} {w : Loads} → World s index fig l w → (k p : ℕ) (ks : List ℕ) → k < 32 → p < 256
    → arguments_of l k p ≡ some ks → ProductionAt s fig (get_or index (production_key k p) 0) w k p ks
production_at world k p ks h i e =
    let at = placed world.indexed k p h i ks e in
    let n = world.sized k p ks h i e in
    record { there = at.there; size = n.0; few = n.1; kinds = at.kinds; figures_are = world.is k p ks h i e }

-- What an answer says.
pub adds_as : {w : Loads} {u v : Code} {f factor : ℤ} {count : ℕ} {before after : List ℤ} {e end : ℕ} {r : Option ℕ} → u ≡ v → f ≡ factor → e ≡ end
    → Adds w v f count before after e r → Adds w u factor count before after end r
adds_as eu ef ee h = rw (eu, ← ef, ← ee) h

-- What `form_at` asks and answers.
module _ {ld : Loaded} {b : List ℕ} {k at left : ℕ} {l : Language} {given : Uses} {w : Loads} {u : Code}
    (a : TermAsks ld b k at left l given w u) where
  pub term_in : at < length b
  term_in = let n = some_bytes Syntaxes.Code u in let i = a.stands.inside in omega arith

  module _ (y : get_or b at 0 ≡ 1 → ⊥) where
    leaf : LeafIs b at w u
    leaf = leaf_of b at l given w a.plain a.typed a.stands y

    pub leaf_in : LeafIn b at
    leaf_in = let f = leaf in let i = a.stands.inside in record { inside = omega (arith, f.long); counted = f.counted }

    -- The leaf is added: f is what the machine reads of the factor.
    pub leaf_adds : {f factor : ℤ} {count : ℕ} {before after : List ℤ} {e : ℕ} → f ≡ factor → AddsLeaf b at f count before after e
        → Adds w u factor count before after (at + length (bytes_of u)) (Some e)
    leaf_adds {e = e} ef h = adds_as refl ef refl (record {
      done = λ m q. (let i : e ≡ m = cc in omega (arith, i, h.end, leaf.long), (λ j i. leaf.passed j), added_as (λ j i. leaf.is j) h.added);
      outside = λ q. cc;
    })

  module _ (y : get_or b at 0 ≡ 1) where
    abbrev ns : NodeIs b at l given u k
    ns = node_of b at l given a.typed a.stands y

    pub node_left : 0 < left
    node_left = let d = ns.deep in let n = a.levels in omega arith

    pub name_in : at + 2 ≤ length b
    name_in = ns.inside

    -- place is what the ld.index.now has for the name
    module _ (n h place : ℕ) (en : n ≡ get_or b (at + 1) 0) (small : n < 256) (eh : h ≡ k) (ep : place ≡ get_or ld.index.now (production_key h n) 0) where
      same : n ≡ ns.name
      same = en ∙ ns.named

      at_place : place ≡ get_or ld.index.now (production_key k ns.name) 0
      at_place = ep ∙ (ap (λ (i : ℕ). get_or ld.index.now (production_key i n) 0) eh ∙ ap (λ (i : ℕ). get_or ld.index.now (production_key k i) 0) same)

      pub node_asked : NodeAsks ld place b (at + 2) (left - 1) l given w k ns.name ns.operands ns.kinds
      node_asked =
          let few : ns.name < 256 = rw same at small in
          let p = production_at a.world k ns.name ns.kinds a.kind few ns.known in
          let d = ns.deep in
          let v = a.levels in
          record { world = a.world; plain = a.plain; production = rw at_place p; typed = ns.typed; stands = ns.stands; levels = omega arith }

      pub node_adds : {f factor : ℤ} {count : ℕ} {before after : List ℤ} {r : Option ℕ} → f ≡ factor
          → Adds w (node k ns.name ns.operands) f count before after (at + 2 + length (all_bytes ns.operands)) r
          → Adds w u factor count before after (at + length (bytes_of u)) r
      node_adds ef h =
          let z : at + 2 + length (all_bytes ns.operands) ≡ at + length (bytes_of u) = omega (arith, ns.long) in
          adds_as ns.is ef z h
