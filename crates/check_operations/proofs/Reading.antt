-- What was read of a tree at a position, by what stands there: a token or a production.
use Prim.Native.Nat.{ℕ, zero, suc, ◌+◌, ◌*◌, ◌-◌, ◌<◌, ◌≤◌}
use mathlib.Core.Path.{◌≡◌, refl, sym, ap, ◌∙◌}
use mathlib.Core.Bool.{cond}
use mathlib.Core.List.{List, [], ◌∷◌}
use mathlib.Core.Option.{Option, none, some}
use native.Mathlib.Omega.{arith}
use lib.ListN.{length, get_or, drop, drop_of_length-le, length-drop}
use lib.Seq.{slice}
use lib.Dec.{ltb, leb, eqb}
use borrow.Author.Tests.{leb-true, leb-false, eqb-true, eqb-false, eq-eqb, ltb-true, ltb-false}
use Rattle.format_fields.specs.Fields.{pair_at}
use Rattle.format_fields.specs.Inner.Places.{field_end}
use Rattle.format_fields.proofs.Truth.{by_test}
use Rattle.format_fields.proofs.Split.{front}
use Rattle.format_language.specs.Language.{Language, Range, range_of, arguments_of, in_range, production_key}
use Rattle.format_language.specs.Inner.Entries.{class_range}
use Rattle.tree_reader.specs.Code.{Code, node, token, Codes}
use Rattle.tree_reader.specs.Syntax.{Read, done, deep, broken, and_then, tree, read_all, read_operands, read_node, read_token, read_tree_level, read_level, past_levels, read_by, read}
use Rattle.tree_reader.specs.Inner.Index.{range_before, arguments_before, Sound, Indexed}
use Rattle.tree_reader.specs.Inner.Positions.{production_place, KindsIn}
use Rattle.tree_reader.specs.declared.node.Syntax.TheVariants.{Tree}
use Rattle.tree_reader.proofs.Laws.{name_in, kinds_in}

-- What was read, and what is left of it.
abbrev read_or : {A : Type 0} → A → Read A → A
read_or d (done a r) = a
read_or d deep = d
read_or d broken = d

abbrev left : {A : Type 0} → Read A → List ℕ
left (done a r) = r
left deep = []
left broken = []

pub same_done : {A : Type 0} (a b : A) (r u : List ℕ) → done a r ≡ done b u → (a ≡ b) × (r ≡ u)
same_done a b r u e = (ap (read_or a) e, ap left e)

pub deep_not : {A B : Type 0} {a : A} {r : List ℕ} → deep ≡ done a r → B
deep_not e = let z : ◌≡◌ {A = ℕ} 0 1 = cc in absurd (omega arith)

pub broken_not : {A B : Type 0} {a : A} {r : List ℕ} → broken ≡ done a r → B
broken_not e = let z : ◌≡◌ {A = ℕ} 0 1 = cc in absurd (omega arith)

-- Where the next reading was done, the one before it was.
pub then_done : {A B : Type 0} (o : Read A) (f : A → List ℕ → Read B) (b : B) (u : List ℕ) → and_then o f ≡ done b u
    → (a : A) × (r : List ℕ) × (o ≡ done a r) × (f a r ≡ done b u)
then_done (done a r) f b u e = (a, r, refl, e)
then_done deep f b u e = deep_not e
then_done broken f b u e = broken_not e

-- The class and the production of a kind, by the index.
module _ (s index : List ℕ) (l : Language) (z : Indexed index s l) (k : ℕ) (kind : k < 32) where
  pub class_known : (class : ℕ) → class ≡ get_or index k 0 → (class ≡ 0 → ⊥) → range_of l k ≡ some (class_range s (class - 1))
  class_known zero e h = absurd (h refl)
  class_known (suc p) e h =
      let q : p ≡ suc p - 1 = omega arith in
      z.range k kind ∙ (ap (range_before s) (sym e) ∙ ap (λ (j : ℕ). some (class_range s j)) q)

  pub class_none : (class : ℕ) → class ≡ get_or index k 0 → class ≡ 0 → range_of l k ≡ none
  class_none class e h = z.range k kind ∙ ap (range_before s) (sym e ∙ h)

  arguments_in : (place : ℕ) → (place ≡ 0 → ⊥) → arguments_before s place ≡ some (slice (place + 4) (place + 2 + pair_at s place) s)
  unfolding field_end
  arguments_in zero h = absurd (h refl)
  arguments_in (suc q) h =
      let n : pair_at s (q + 1) ≡ pair_at s (suc q) = ap (pair_at s) (omega arith) in
      let from : q + 5 ≡ suc q + 4 = omega arith in
      let stop : q + 3 + pair_at s (q + 1) ≡ suc q + 2 + pair_at s (suc q) = omega arith in
      ap (λ (j : ℕ). some (slice j (q + 3 + pair_at s (q + 1)) s)) from ∙ ap (λ (j : ℕ). some (slice (suc q + 4) j s)) stop

  module _ (p : ℕ) (byte : p < 256) (place : ℕ) (found : place ≡ get_or index (production_key k p) 0) where
    pub production_none : place ≡ 0 → arguments_of l k p ≡ none
    production_none h = z.arguments k p kind byte ∙ ap (arguments_before s) (sym found ∙ h)

    pub production_known : {n : ℕ} → (place ≡ 0 → ⊥) → n ≡ pair_at s place → arguments_of l k p ≡ some (slice (place + 4) (place + 2 + n) s)
    production_known {n} h e =
        z.arguments k p kind byte ∙ (ap (arguments_before s) (sym found) ∙ (arguments_in place h ∙ ap (λ (j : ℕ). some (slice (place + 4) (place + 2 + j) s)) (sym e)))

-- One level of a tree.
module _ (l : Language) (k : ℕ) (u : List ℕ) where
  pub read_class : (n : ℕ) (c : Range) → range_of l k ≡ some c → read tree l [] n k u ≡ read_token (some c) u
  unfolding read_by read_level read_tree_level past_levels
  read_class zero c e = cc
  read_class (suc n) c e = cc

  pub read_node_lem : (n : ℕ) → range_of l k ≡ none → read tree l [] (suc n) k u ≡ read_node (read tree l [] n) l k u
  unfolding read_by read_level read_tree_level
  read_node_lem n e = cc

  pub read_past : range_of l k ≡ none → read tree l [] 0 k u ≡ deep
  unfolding read_by past_levels
  read_past e = cc

  -- Where no level is left, or nothing stands, no production is read.
  pub past_not : {a : Code} {r : List ℕ} {A : Type 0} (n : ℕ) → n ≡ 0 → range_of l k ≡ none → read tree l [] n k u ≡ done a r → A
  past_not n h e f = deep_not (sym (read_past e) ∙ (ap (λ (m : ℕ). read tree l [] m k u) (sym h) ∙ f))

pub token_cut : (c : Range) (u : List ℕ) → length u < 2 → read_token (some c) u ≡ broken
unfolding read_token
token_cut c [] h = refl
token_cut c (x ∷ []) h = refl
token_cut c (x ∷ y ∷ u) h = absurd (omega arith)

-- A tree of a kind that is no class is a production, one level fewer, and none where no name of one stands.
module _ (s index : List ℕ) (l : Language) (z : Indexed index s l) (k : ℕ) (kind : k < 32) (b : List ℕ) (at : ℕ) {class : ℕ} (class_is : class ≡ get_or index k 0)
    (no : class ≡ 0) where
  pub level_read : (levels : ℕ) → (levels ≡ 0 → ⊥) → read tree l [] levels k (drop at b) ≡ read_node (read tree l [] (levels - 1)) l k (drop at b)
  level_read levels some_level =
      let m : levels ≡ suc (levels - 1) = omega arith in
      ap (λ (i : ℕ). read tree l [] i k (drop at b)) m ∙ read_node_lem l k (drop at b) (levels - 1) (class_none s index l z k kind class class_is no)

  pub none_read : {place : ℕ} → ((i : ℕ) → get_or b i 0 < 256) → place ≡ cond (eqb class 0) (production_place Tree index k b at) 0 → place ≡ 0
      → (n : ℕ) → read_node (read tree l [] n) l k (drop at b) ≡ broken
  unfolding read_node read_operands production_place
  none_read {place} bytes ep p n =
      by_test (leb (length b) at)
      (λ t. let w = drop_of_length-le b {i = at} (leb-true _ _ t) in cc)
      (λ t.
      let i : at < length b = leb-false _ _ t in
      let y : place ≡ get_or index (production_key k (get_or b at 0)) 0 = cc (eq-eqb class 0 no) in
      let w = production_none s index l z k kind (get_or b at 0) (bytes at) place y p in
      cc (front b at i))

pub two : (b : List ℕ) (at : ℕ) → 2 ≤ length b - at → drop at b ≡ get_or b at 0 ∷ get_or b (at + 1) 0 ∷ drop (at + 2) b
two b at h =
    let i : at < length b = omega arith in
    let j : at + 1 < length b = omega arith in
    let k : at + 1 + 1 ≡ at + 2 = omega arith in
    cc (front b at i, front b (at + 1) j)

-- What was read of a token.
pub record ReadToken (b : List ℕ) (at : ℕ) (a : Code) (rest : List ℕ) : Type 0 where
  pub there : 2 ≤ length b - at
  pub is : a ≡ token (pair_at b at)
  pub left : drop (at + 2) b ≡ rest

module _ (b : List ℕ) (at : ℕ) (a : Code) (rest : List ℕ) (c : Range) where
  value_read : (v : ℕ) → v ≡ get_or b at 0 * 256 + get_or b (at + 1) 0 → 2 ≤ length b - at
      → read_token (some c) (get_or b at 0 ∷ get_or b (at + 1) 0 ∷ drop (at + 2) b) ≡ done a rest → ReadToken b at a rest
  unfolding read_token pair_at
  value_read v ev h e =
      by_test (in_range c v)
      (λ d.
      let w = same_done (token v) a (drop (at + 2) b) rest (cc) in
      record { there = h; is = sym w.0 ∙ ap token ev; left = w.1 })
      (λ d. broken_not {a = a} {r = rest} (cc))

  token_read : read_token (some c) (drop at b) ≡ done a rest → ReadToken b at a rest
  token_read e =
      by_test (ltb (length b - at) 2)
      (λ d.
      let h : length (drop at b) < 2 = omega (arith, ltb-true (length b - at) 2 d, length-drop at b) in
      broken_not (sym (token_cut c (drop at b) h) ∙ e))
      (λ d. let h = ltb-false (length b - at) 2 d in value_read _ refl h (ap (read_token (some c)) (sym (two b at h)) ∙ e))

-- What was read of a production.
pub record ReadNode (s : List ℕ) (l : Language) (k : ℕ) (b : List ℕ) (at levels from stop : ℕ) (a : Code) (rest : List ℕ) : Type 0 where
  pub operands : Codes
  pub reads : read_all (read tree l [] (levels - 1)) (slice from stop s) (drop (at + 1) b) ≡ done operands rest
  pub is : a ≡ node k (get_or b at 0) operands
  pub known : arguments_of l k (get_or b at 0) ≡ some (slice from stop s)

module _ (s index : List ℕ) (b : List ℕ) (k at : ℕ) (kind : k < 32) (bytes : (i : ℕ) → get_or b i 0 < 256) {j class place : ℕ} (ej : j ≡ k)
    (ec : class ≡ get_or index j 0) (ep : place ≡ cond (eqb class 0) (production_place Tree index k b at) 0) where
  class_is : class ≡ get_or index k 0
  class_is = ec ∙ ap (λ (i : ℕ). get_or index i 0) ej

  -- A production was found: it is no class, and its name stands there.
  pub found_class : (place ≡ 0 → ⊥) → class ≡ 0
  found_class pos = by_test (eqb class 0) (λ t. eqb-true class 0 t) (λ t. absurd (pos (cc)))

  pub found_name : (place ≡ 0 → ⊥) → (at < length b) × (place ≡ get_or index (production_key k (get_or b at 0)) 0)
  unfolding production_place
  found_name pos =
      let c = eq-eqb class 0 (found_class pos) in
      by_test (leb (length b) at) (λ t. absurd (pos (cc))) (λ t. (leb-false _ _ t, cc))

  -- Where its operands stand, and what reading it comes to.
  module _ (pos : place ≡ 0 → ⊥) where
    pub at_name : at < length b
    at_name = (found_name pos).0

    pub at_place : Sound index s → (place + 4 ≤ length s) × (length s ≤ 1024)
    at_place z = name_in index s z refl kind (bytes at) (found_name pos).1 pos

    module _ {n : ℕ} (en : n ≡ pair_at s place) where
      pub at_kinds : Sound index s → KindsIn s (place + 4) (place + 2 + n)
      at_kinds z = kinds_in index s z refl kind (bytes at) (found_name pos).1 pos en

      pub at_known : (l : Language) → Indexed index s l → arguments_of l k (get_or b at 0) ≡ some (slice (place + 4) (place + 2 + n) s)
      at_known l z = production_known s index l z k kind (get_or b at 0) (bytes at) place (found_name pos).1 pos en

      pub at_reads : (levels : ℕ) → (levels ≡ 0 → ⊥) → (l : Language) → Indexed index s l
          → read tree l [] levels k (drop at b)
          ≡ (and_then (read_all (read tree l [] (levels - 1)) (slice (place + 4) (place + 2 + n) s) (drop (at + 1) b)) λ t r. done (node k (get_or b at 0) t) r)
      unfolding read_node read_operands
      at_reads levels some_level l z =
          level_read s index l z k kind b at class_is (found_class pos) levels some_level
          ∙ (ap (read_node (read tree l [] (levels - 1)) l k) (front b at at_name)
          ∙ ap (λ (o : Option (List ℕ)). read_operands (read tree l [] (levels - 1)) k (get_or b at 0) o (drop (at + 1) b)) (at_known l z))

  module _ (l : Language) (z : Indexed index s l) (levels : ℕ) (a : Code) (rest : List ℕ) (e : read tree l [] levels k (drop at b) ≡ done a rest) where
    no_production : (n : ℕ) → levels ≡ n → class ≡ 0 → place ≡ 0 → ReadToken b at a rest
    no_production zero h i p = past_not l k (drop at b) levels h (class_none s index l z k kind class class_is i) e
    no_production (suc n) h i p =
        broken_not (sym (none_read s index l z k kind b at class_is i bytes ep p n) ∙ (sym (read_node_lem l k (drop at b) n (class_none s index l z k kind class class_is i)) ∙ (ap (λ (m : ℕ). read tree l [] m k (drop at b)) (sym h) ∙ e)))

    -- Where no production was found, a token stands.
    pub read_token_lem : place ≡ 0 → ReadToken b at a rest
    read_token_lem p =
        by_test (eqb class 0)
        (λ t. no_production levels refl (eqb-true class 0 t) p)
        (λ t.
        let c = class_known s index l z k kind class class_is (eqb-false class 0 t) in
        token_read b at a rest _ (sym (read_class l k (drop at b) levels _ c) ∙ e))

    -- A production is a level.
    pub read_deep : {A : Type 0} → (place ≡ 0 → ⊥) → levels ≡ 0 → A
    read_deep pos h = past_not l k (drop at b) levels h (class_none s index l z k kind class class_is (found_class pos)) e

    module _ {n : ℕ} (pos : place ≡ 0 → ⊥) (some_level : levels ≡ 0 → ⊥) (en : n ≡ pair_at s place) where
      -- Where a production was found, it was read with its operands.
      pub read_production : ReadNode s l k b at levels (place + 4) (place + 2 + n) a rest
      read_production =
          let x = then_done (read_all (read tree l [] (levels - 1)) (slice (place + 4) (place + 2 + n) s) (drop (at + 1) b)) _ a rest
          (sym (at_reads pos en levels some_level l z) ∙ e) in
          let w = same_done (node k (get_or b at 0) x.0) a x.1 rest x.3 in
          record {
            operands = x.0;
            reads = x.2 ∙ ap (done x.0) w.1;
            is = sym w.0;
            known = at_known pos en l z;
          }
