-- The walk that finds where reading stops: a law for each return.
use Rattle.std.specs.Prelude.{Err, Ok}
use Rattle.std.specs.Result.{MatchResult}
use Rattle.tree_reader.specs.declared.node.ReadError.TheVariants.{Broken}
use Prim.Native.Nat.{ℕ, zero, suc, ◌+◌, ◌*◌, ◌-◌, ◌<◌, ◌≤◌}
use mathlib.Core.Path.{◌≡◌, refl, sym, ap, ◌∙◌}
use mathlib.Core.Bool.{true, false, cond}
use mathlib.Core.List.{List, [], ◌∷◌}
use mathlib.Core.Option.{Option, none, some}
use native.Mathlib.Omega.{arith}
use lib.ListN.{length, get_or, drop, drop_of_length-le, length-drop}
use lib.Seq.{slice}
use lib.Dec.{leb, eqb}
use borrow.Author.Tests.{leb-true, leb-false, le-ltb, eq-eqb, ne_eqb}
use Rattle.format_fields.specs.Fields.{pair_at}
use Rattle.format_fields.proofs.Truth.{by_test}
use Rattle.format_fields.proofs.Split.{front}
use Rattle.format_fields.proofs.Lists.{part_done, part_next}
use Rattle.format_language.specs.Language.{Language, Range, range_of, in_range, production_key}
use Rattle.format_language.specs.Inner.Entries.{class_range}
use Rattle.tree_reader.specs.Inner.Index.{Sound, Indexed}
use Rattle.tree_reader.specs.Inner.Positions.{token_at, production_place, KindsIn, Read}
use Rattle.tree_reader.specs.declared.node.Syntax.TheVariants.{Tree}
use Rattle.tree_reader.proofs.Laws.{kinds_from}
use Rattle.check_operations.proofs.Reading.{two, class_known, class_none, production_none, found_name, at_known}
use Rattle.tree_locate.specs.Faults.{Stop, passes, ends, unfit, deep, onward, stop_all, stop_operands, stop_node, stop_token, stop}
use Rattle.tree_locate.specs.Operations.{position_of}
use Rattle.tree_locate.specs.Inner.Places.{past, stopped, place_of, place_at, Walk, WalkIn}

-- The position at which so much is left is the one it starts from.
pub position_is : (b : List ℕ) (at : ℕ) → at ≤ length b → position_of b (drop at b) ≡ at
position_is b at h = rw length-drop (omega arith)

-- walk_token
pub token_cut : (c : Range) (u : List ℕ) → length u < 2 → stop_token c u ≡ ends
unfolding stop_token
token_cut c [] h = refl
token_cut c (x ∷ []) h = refl
token_cut c (x ∷ y ∷ u) h = absurd (omega arith)

pub token_in : (c : Range) (x y v : ℕ) (u : List ℕ) → v ≡ x * 256 + y → in_range c v ≡ true → stop_token c (x ∷ y ∷ u) ≡ passes u
unfolding stop_token
token_in c x y v u e h = cc

pub token_out : (c : Range) (x y v : ℕ) (u : List ℕ) → v ≡ x * 256 + y → in_range c v ≡ false → stop_token c (x ∷ y ∷ u) ≡ unfit (x ∷ y ∷ u)
unfolding stop_token
token_out c x y v u e h = cc

module _ (s : List ℕ) (class : ℕ) (b : List ℕ) (at : ℕ) where
  abbrev range : Range
  range = class_range s (class - 1)

  pub token_short : length b - at < 2 → place_at b (Err (length b)) ≡ place_of b (stop_token range (drop at b))
  unfolding place_at place_of
  token_short h = let k : length (drop at b) < 2 = rw length-drop h in sym (ap (place_of b) (token_cut range (drop at b) k))

  module _ (inside : at ≤ length b) (some_class : 0 < class) (there : 2 ≤ length b - at) where
    value : pair_at b at ≡ get_or b at 0 * 256 + get_or b (at + 1) 0
    unfolding pair_at
    value = refl

    token_read : token_at s class b at ≡ cond (in_range range (pair_at b at)) (Ok (at + 2)) (Err Broken)
    unfolding token_at
    token_read = let h : class ≡ 0 → ⊥ = λ e. omega arith in simp (ne_eqb class 0 h, le-ltb (length b - at) 2 there)

    in_end : in_range range (pair_at b at) ≡ true → stop_token range (drop at b) ≡ passes (drop (at + 2) b)
    in_end h = ap (stop_token range) (two b at there) ∙ token_in range _ _ (pair_at b at) (drop (at + 2) b) value h

    out_stop : in_range range (pair_at b at) ≡ false → stop_token range (drop at b) ≡ unfit (drop at b)
    out_stop h =
        ap (stop_token range) (two b at there)
        ∙ (token_out range _ _ (pair_at b at) (drop (at + 2) b) value h ∙ ap unfit (sym (two b at there)))

    token_past : {r : Read} {e : ℕ} → r ≡ token_at s class b at → r ≡ Ok e
        → (place_at b (Ok e) ≡ place_of b (stop_token range (drop at b))) × (e ≤ length b)
    unfolding place_at place_of
    token_past {r} {e} er h =
        by_test (in_range range (pair_at b at))
        (λ t.
        let z : e ≡ at + 2 = cc token_read in
        (ap (λ (j : ℕ). past (drop j b)) z ∙ sym (ap (place_of b) (in_end t)), omega arith))
        (λ t. let z : ◌≡◌ {A = ℕ} 0 1 = cc token_read in absurd (omega arith))

    token_stopped : {r : Read} → r ≡ token_at s class b at → ((e : ℕ) → r ≡ Ok e → ⊥)
        → place_at b (Err at) ≡ place_of b (stop_token range (drop at b))
    unfolding place_at place_of
    token_stopped {r} er h =
        by_test (in_range range (pair_at b at))
        (λ t. absurd (h (at + 2) (cc token_read)))
        (λ t. sym (ap (place_of b) (out_stop t) ∙ ap stopped (position_is b at inside)))

    pub token_walked : (r : Read) (w : Walk) → r ≡ token_at s class b at → MatchResult r (λ e. w ≡ Ok e) (λ x. w ≡ Err at)
        → (place_at b w ≡ place_of b (stop_token range (drop at b))) × WalkIn (length b) w
    token_walked (Ok e) w er m = rw m (token_past er refl)
    token_walked (Err x) w er m = rw m (token_stopped er (λ e h. cc), tt)

-- walk_tree
module _ (l : Language) (k : ℕ) (u : List ℕ) where
  pub stop_class : (n : ℕ) (c : Range) → range_of l k ≡ some c → stop l n k u ≡ stop_token c u
  unfolding stop
  stop_class zero c e = cc
  stop_class (suc n) c e = cc

  pub stop_node_lem : (n : ℕ) → range_of l k ≡ none → stop l (suc n) k u ≡ stop_node (stop l n) l k u
  unfolding stop
  stop_node_lem n e = cc

  pub stop_deep : range_of l k ≡ none → stop l 0 k u ≡ deep u
  unfolding stop
  stop_deep e = cc

module _ (s index : List ℕ) (l : Language) (z : Indexed index s l) (k : ℕ) (kind : k < 32) (b : List ℕ) (at n : ℕ) {j class : ℕ}
    (ej : j ≡ k) (ec : class ≡ get_or index j 0) where
  class_is : class ≡ get_or index k 0
  class_is = ec ∙ ap (λ (i : ℕ). get_or index i 0) ej

  pub tree_token : (class ≡ 0 → ⊥) → (w : Walk) → place_at b w ≡ place_of b (stop_token (class_range s (class - 1)) (drop at b))
      → place_at b w ≡ place_of b (stop l n k (drop at b))
  unfolding place_at place_of
  tree_token h w e = e ∙ sym (ap (place_of b) (stop_class l k (drop at b) n _ (class_known s index l z k kind class class_is h)))

  module _ (no : class ≡ 0) (inside : at ≤ length b) where
    no_class : range_of l k ≡ none
    no_class = class_none s index l z k kind class class_is no

    pub tree_deep : n ≡ 0 → place_at b (Err at) ≡ place_of b (stop l n k (drop at b))
    unfolding place_at place_of
    tree_deep h =
        sym (ap (λ (m : ℕ). place_of b (stop l m k (drop at b))) h ∙ (ap (place_of b) (stop_deep l k (drop at b) no_class) ∙ ap stopped (position_is b at inside)))

    level : (n ≡ 0 → ⊥) → stop l n k (drop at b) ≡ stop_node (stop l (n - 1)) l k (drop at b)
    level h =
        let m : n ≡ suc (n - 1) = omega arith in
        ap (λ (i : ℕ). stop l i k (drop at b)) m ∙ stop_node_lem l k (drop at b) (n - 1) no_class

    module _ (bytes : (i : ℕ) → get_or b i 0 < 256) {place : ℕ} (ep : place ≡ cond (eqb class 0) (production_place Tree index k b at) 0) where
      place_is : place ≡ production_place Tree index k b at
      place_is = cc (eq-eqb class 0 no)

      node_ends : length b ≤ at → stop_node (stop l (n - 1)) l k (drop at b) ≡ ends
      unfolding stop_node
      node_ends h = rw (drop_of_length-le b {i = at} h)

      node_unknown : at < length b → place ≡ 0 → stop_node (stop l (n - 1)) l k (drop at b) ≡ unfit (drop at b)
      unfolding stop_node stop_operands production_place
      node_unknown i p =
          let y : place ≡ get_or index (production_key k (get_or b at 0)) 0 = place_is ∙ rw (below at i) in
          let w = production_none s index l z k kind (get_or b at 0) (bytes at) place y p in
          rw (front b at i) (rw w)
        where
          below : (q : ℕ) → q < length b → leb (length b) q ≡ false
          below q h = by_test (leb (length b) q) (λ t. let i = leb-true (length b) q t in absurd (omega arith)) (λ t. t)

      pub tree_unknown : (n ≡ 0 → ⊥) → place ≡ 0 → place_at b (Err at) ≡ place_of b (stop l n k (drop at b))
      unfolding place_at place_of
      tree_unknown h p =
          by_test (leb (length b) at)
          (λ t.
          let i = leb-true (length b) at t in
          let e : at ≡ length b = omega arith in
          ap stopped e ∙ sym (ap (place_of b) (level h ∙ node_ends i)))
          (λ t.
          let i = leb-false (length b) at t in
          sym (ap (place_of b) (level h ∙ node_unknown i p) ∙ ap stopped (position_is b at inside)))

      pub tree_row : (n ≡ 0 → ⊥) → (place ≡ 0 → ⊥) → {first last : ℕ} → first ≡ place + 4 → last ≡ place + 2 + pair_at s place → (w : Walk)
          → place_at b w ≡ place_of b (stop_all (stop l (n - 1)) (slice first last s) (drop (at + 1) b))
          → place_at b w ≡ place_of b (stop l n k (drop at b))
      unfolding stop_node stop_operands place_at place_of
      tree_row h pos {first} {last} ef el w e =
          let i : at < length b = (found_name s index b k at kind bytes ej ec ep pos).0 in
          let y = at_known s index b k at kind bytes ej ec ep pos refl l z in
          let q : stop_node (stop l (n - 1)) l k (drop at b) ≡ stop_all (stop l (n - 1)) (slice (place + 4) (place + 2 + pair_at s place) s) (drop (at + 1) b) =
          ap (stop_node (stop l (n - 1)) l k) (front b at i) ∙ ap (λ (o : Option (List ℕ)). stop_operands (stop l (n - 1)) o (get_or b at 0) (drop (at + 1) b)) y in
          let same : stop_all (stop l (n - 1)) (slice (place + 4) (place + 2 + pair_at s place) s) (drop (at + 1) b) ≡ stop_all (stop l (n - 1)) (slice first last s) (drop (at + 1) b) = rw (ef, el) in
          e ∙ sym (ap (place_of b) (level h ∙ (q ∙ same)))

-- walk_row
pub past_of : (b : List ℕ) (o : Stop) (u : List ℕ) → past u ≡ place_of b o → o ≡ passes u
unfolding place_at place_of
past_of b (passes s) u e = cc
past_of b ends u e = let z : ◌≡◌ {A = ℕ} 0 1 = cc in absurd (omega arith)
past_of b (unfit s) u e = let z : ◌≡◌ {A = ℕ} 0 1 = cc in absurd (omega arith)
past_of b (deep s) u e = let z : ◌≡◌ {A = ℕ} 0 1 = cc in absurd (omega arith)

stays : (b : List ℕ) (o : Stop) (f : List ℕ → Stop) (p : ℕ) → stopped p ≡ place_of b o → stopped p ≡ place_of b (onward o f)
unfolding place_at place_of
stays b (passes s) f p e = let z : ◌≡◌ {A = ℕ} 0 1 = cc in absurd (omega arith)
stays b ends f p e = e
stays b (unfit s) f p e = e
stays b (deep s) f p e = e

module _ (l : Language) (n : ℕ) (s b : List ℕ) (last q to : ℕ) where
  pub row_done : last ≤ q → place_at b (Ok to) ≡ place_of b (stop_all (stop l n) (slice q last s) (drop to b))
  unfolding stop_all place_at place_of
  row_done h = ap (place_of b) (part_done (λ (v : List ℕ). stop_all (stop l n) v (drop to b)) s q last _ refl h)

  module _ (h : q < last) (i : last ≤ length s) where
    one_more : slice q last s ≡ get_or s q 0 ∷ slice (q + 1) last s
    one_more = sym (part_next (λ (v : List ℕ). v) s q last _ refl h i)

    pub row_next : {w : Walk} {e : ℕ} → w ≡ Ok e → place_at b w ≡ place_of b (stop l n (get_or s q 0) (drop to b))
        → stop_all (stop l n) (slice (q + 1) last s) (drop e b) ≡ stop_all (stop l n) (slice q last s) (drop to b)
    unfolding stop_all place_at place_of
    row_next {w} {e} ew h =
        let g : past (drop e b) ≡ place_of b (stop l n (get_or s q 0) (drop to b)) = sym (ap (place_at b) ew) ∙ h in
        let p = past_of b (stop l n (get_or s q 0) (drop to b)) (drop e b) g in
        rw one_more (rw p refl)

    pub row_stopped : {w v : Walk} {p : ℕ} → w ≡ Err p → v ≡ Err p → place_at b w ≡ place_of b (stop l n (get_or s q 0) (drop to b))
        → place_at b v ≡ place_of b (stop_all (stop l n) (slice q last s) (drop to b))
    unfolding stop_all place_at place_of
    row_stopped {w = w} {p = p} ew ev h =
        let g : stopped p ≡ place_of b (stop l n (get_or s q 0) (drop to b)) = sym (ap (place_at b) ew) ∙ h in
        ap (place_at b) ev ∙ rw one_more (stays b (stop l n (get_or s q 0) (drop to b)) (stop_all (stop l n) (slice (q + 1) last s)) p g)

-- A row that has a kind left lies in the language.
pub row_inside : (s : List ℕ) (q last : ℕ) → KindsIn s q last → q < last → last ≤ length s
row_inside s q last h i = let j = h (last - 1) (omega arith) (omega arith) in omega arith

-- The operands of a production that was found.
pub tree_kinds : (s index b : List ℕ) (k at : ℕ) → k < 32 → ((i : ℕ) → get_or b i 0 < 256) → {j class place : ℕ} → j ≡ k → class ≡ get_or index j 0
    → place ≡ cond (eqb class 0) (production_place Tree index k b at) 0 → (place ≡ 0 → ⊥) → Sound index s → {first last : ℕ} → first ≡ place + 4 → last ≡ place + 2 + pair_at s place
    → KindsIn s first last
tree_kinds s index b k at kind bytes ej ec ep pos z ef el =
    kinds_from index s z refl kind (bytes at) (found_name s index b k at kind bytes ej ec ep pos).1 pos ef el
