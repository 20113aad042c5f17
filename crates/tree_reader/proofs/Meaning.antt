-- Reading by position, through the index, is the reading of specs/Syntax.antt.
use Rattle.std.specs.Prelude.{Err, Ok}
use Rattle.tree_reader.specs.declared.node.ReadError.TheVariants.{Deep, Broken}
use Prim.Native.Nat.{ℕ, zero, suc, ◌+◌, ◌*◌, ◌-◌, ◌<◌, ◌≤◌}
use mathlib.Core.Path.{◌≡◌, refl, sym, ap, ◌∙◌}
use mathlib.Core.Bool.{true, false}
use mathlib.Core.List.{List, [], ◌∷◌, map}
use mathlib.Core.Option.{Option, none, some}
use native.Mathlib.Omega.{arith}
use lib.ListN.{length, get_or, get_elem?, drop, length-drop, drop_of_length-le}
use lib.Seq.{slice, get_or-drop}
use lib.Dec.{ltb, leb, eqb}
use borrow.Author.Tests.{lt-ltb, le-leb, lt-leb, eq-eqb, ne_eqb, leb-true, leb-false, ltb-true, ltb-false, eqb-true, eqb-false}
use Rattle.format_fields.specs.Fields.{pair_at}
use Rattle.format_fields.specs.Inner.Places.{field_end}
use Rattle.format_fields.proofs.Truth.{by_test}
use Rattle.format_fields.proofs.Lists.{part_done, part_next}
use Rattle.format_fields.proofs.Split.{front}
use Rattle.format_language.specs.Language.{Language, Range, in_range, production_key}
use Rattle.format_language.specs.Inner.Entries.{class_range}
use Rattle.tree_reader.specs.Code.{node, token, cons}
use Rattle.tree_reader.specs.Code as C
use Rattle.tree_reader.specs.Typing.{Uses, kind_by, kind_at}
use Rattle.tree_reader.specs.Syntax as Meant
use Rattle.tree_reader.specs.Syntax.{and_then, read_all, read_operands, read_node, read_token, use_of, read_argument, read_numbered, read_use, is_the, read_tree_level, read_code_level, read_level, past_levels, current}
use Rattle.tree_reader.specs.declared.node.Syntax.{Syntax}
use Rattle.tree_reader.specs.declared.node.Syntax.TheVariants.{Tree, Code}
use Rattle.tree_reader.proofs.Laws as Laws
use Rattle.tree_reader.specs.Inner.Index.{Indexed, range_before, arguments_before}
use Rattle.tree_reader.specs.Inner.Positions.{token_at, operands_at, name_at, uses_length, kind_before, mapped_in, uses_in, argument_is, argument_at, numbered_at, tree_node, code_node, node_at, operands_from, follow, past_at, read_at, KindsIn, rest, deep, broken, rest_at, rest_of, syntax_of, Read}

-- What was read, by what is left of it.
pub done_of : {A : Type 0} (g : Meant.Read A) (u : List ℕ) → rest_of g ≡ rest u → (a : A) × (g ≡ Meant.done a u)
done_of (Meant.done a r) u e = (a, cc)
done_of Meant.deep u e = let z : ◌≡◌ {A = ℕ} 0 1 = cc in absurd (omega arith)
done_of Meant.broken u e = let z : ◌≡◌ {A = ℕ} 0 1 = cc in absurd (omega arith)

pub deep_of : {A : Type 0} (g : Meant.Read A) → rest_of g ≡ deep → g ≡ Meant.deep
deep_of (Meant.done a r) e = let z : ◌≡◌ {A = ℕ} 0 1 = cc in absurd (omega arith)
deep_of Meant.deep e = refl
deep_of Meant.broken e = let z : ◌≡◌ {A = ℕ} 0 1 = cc in absurd (omega arith)

pub broken_of : {A : Type 0} (g : Meant.Read A) → rest_of g ≡ broken → g ≡ Meant.broken
broken_of (Meant.done a r) e = let z : ◌≡◌ {A = ℕ} 0 1 = cc in absurd (omega arith)
broken_of Meant.deep e = let z : ◌≡◌ {A = ℕ} 0 1 = cc in absurd (omega arith)
broken_of Meant.broken e = refl

-- What is made of a value leaves the same rest.
made : {A B : Type 0} (f : A → B) (g : Meant.Read A) → rest_of (and_then g λ a r. Meant.done (f a) r) ≡ rest_of g
made f (Meant.done a r) = refl
made f Meant.deep = refl
made f Meant.broken = refl

-- A token.
token_cut : (c : Range) (u : List ℕ) → length u < 2 → read_token (some c) u ≡ Meant.broken
unfolding read_token
token_cut c [] h = refl
token_cut c (x ∷ []) h = refl
token_cut c (x ∷ y ∷ u) h = absurd (omega arith)

module _ (c : Range) (x y v : ℕ) (u : List ℕ) (e : v ≡ x * 256 + y) where
  token_out : in_range c v ≡ false → read_token (some c) (x ∷ y ∷ u) ≡ Meant.broken
  unfolding read_token
  token_out h = cc

  token_good : in_range c v ≡ true → read_token (some c) (x ∷ y ∷ u) ≡ Meant.done (token v) u
  unfolding read_token
  token_good h = cc

two : (b : List ℕ) (at : ℕ) → 2 ≤ length b - at → drop at b ≡ get_or b at 0 ∷ get_or b (at + 1) 0 ∷ drop (at + 2) b
two b at h =
    let i : at < length b = omega arith in
    let j : at + 1 < length b = omega arith in
    let k : at + 1 + 1 ≡ at + 2 = omega arith in
    cc (front b at i, front b (at + 1) j)

module _ (s : List ℕ) (p : ℕ) (b : List ℕ) (at : ℕ) where
  some_place : suc p ≡ 0 → ⊥
  some_place h = omega arith

  abbrev range : Range
  range = class_range s p

  here : range ≡ class_range s (suc p - 1)
  here = ap (class_range s) (omega arith)

  value : pair_at b at ≡ get_or b at 0 * 256 + get_or b (at + 1) 0
  unfolding pair_at
  value = refl

  token_in : 2 ≤ length b - at → rest_at b (token_at s (suc p) b at) ≡ rest_of (read_token (some range) (drop at b))
  token_in h =
      let same : in_range range (pair_at b at) ≡ in_range (class_range s (suc p - 1)) (pair_at b at) = ap (λ (c : Range). in_range c (pair_at b at)) here in
      rw (two b at h) (by_test (in_range range (pair_at b at))
      (λ d. cc (Laws.token_good s (suc p) b at some_place h refl same d, token_good range _ _ _ (drop (at + 2) b) value d))
      (λ d. cc (Laws.token_out s (suc p) b at some_place h refl same d, token_out range _ _ _ (drop (at + 2) b) value d)))

  token_short : length b - at < 2 → rest_at b (token_at s (suc p) b at) ≡ rest_of (read_token (some range) (drop at b))
  token_short h =
      let k : length (drop at b) < 2 = rw length-drop h in
      cc (Laws.token_short s (suc p) b at some_place h, token_cut range (drop at b) k)

token_same : (s : List ℕ) (place : ℕ) (b : List ℕ) (at : ℕ) → rest_at b (token_at s place b at) ≡ rest_of (read_token (range_before s place) (drop at b))
unfolding read_token
token_same s zero b at = cc (Laws.token_none s 0 b at refl)
token_same s (suc p) b at =
    by_test (ltb (length b - at) 2) (λ e. token_short s p b at (ltb-true _ _ e)) (λ e. token_in s p b at (ltb-false _ _ e))

-- An argument.
past : (l : List ℕ) (i : ℕ) → length l ≤ i → get_elem? l i ≡ none
past [] i h = refl
past (a ∷ l) zero h = absurd (omega arith)
past (a ∷ l) (suc i) h = past l i (omega arith)

inside : (l : List ℕ) (i : ℕ) → i < length l → get_elem? l i ≡ some (get_or l i 0)
inside [] i h = absurd (omega arith)
inside (a ∷ l) zero h = refl
inside (a ∷ l) (suc i) h = inside l i (omega arith)

-- A kind is the one that is wanted where its number plus one stands there.
kind_before_lem : (k x : ℕ) → eqb x (k + 1) ≡ is_the k (kind_before x)
kind_before_lem k zero = ne_eqb 0 (k + 1) (λ h. omega arith)
kind_before_lem k (suc x) =
    by_test (eqb x k)
    (λ e. let h : x ≡ k = eqb-true _ _ e in cc (eq-eqb (suc x) (k + 1) (omega arith)))
    (λ e. let h : x ≡ k → ⊥ = eqb-false _ _ e in cc (ne_eqb (suc x) (k + 1) (λ w. h (omega arith))))

-- The uses of bytes, by the kinds that stand in them.
used : (f : ℕ → ℕ → Option ℕ) (l : List ℕ) (i j : ℕ) → i < length l → kind_by (get_elem? (map f l) i) j ≡ f (get_or l i 0) j
used f [] i j h = absurd (omega arith)
used f (a ∷ l) zero j h = refl
used f (a ∷ l) (suc i) j h = used f l i j (omega arith)

unused : (f : ℕ → ℕ → Option ℕ) (l : List ℕ) (i j : ℕ) → length l ≤ i → kind_by (get_elem? (map f l) i) j ≡ none
unused f [] i j h = refl
unused f (a ∷ l) zero j h = absurd (omega arith)
unused f (a ∷ l) (suc i) j h = unused f l i j (omega arith)

kind_in : (u : List ℕ) (k i j : ℕ) → j < 256 → 8191 + suc i < length u → argument_is u k (suc i) j ≡ is_the k (kind_at (uses_in u) (suc i) j)
unfolding uses_in mapped_in
kind_in u k i j small h =
    let pos : suc i ≡ 0 → ⊥ = λ w. omega arith in
    let n : i < length (drop uses_length u) = rw length-drop (omega arith) in
    let g : get_or (drop uses_length u) i 0 ≡ get_or u (8191 + suc i) 0 = get_or-drop uses_length u i 0 ∙ ap (λ x. get_or u x 0) (omega arith) in
    sym (Laws.is_there u k (suc i) j pos h) ∙ (kind_before_lem k (get_or u (get_or u (8191 + suc i) 0 * 256 + j) 0)
    ∙ ap (is_the k) (sym (used (mapped_in u) (drop uses_length u) i j n ∙ same g)))
  where
    same : get_or (drop uses_length u) i 0 ≡ get_or u (8191 + suc i) 0
        → mapped_in u (get_or (drop uses_length u) i 0) j ≡ kind_before (get_or u (get_or u (8191 + suc i) 0 * 256 + j) 0)
    same e = rw (e, lt-ltb j 256 small)

kind_past : (u : List ℕ) (k i j : ℕ) → length u ≤ 8191 + suc i → argument_is u k (suc i) j ≡ is_the k (kind_at (uses_in u) (suc i) j)
unfolding uses_in
kind_past u k i j h =
    let pos : suc i ≡ 0 → ⊥ = λ w. omega arith in
    let n : length (drop uses_length u) ≤ i = rw length-drop (omega arith) in
    sym (Laws.is_past u k (suc i) j pos h) ∙ ap (is_the k) (sym (unused (mapped_in u) (drop uses_length u) i j n))

is_same : (u : List ℕ) (k i j : ℕ) → j < 256 → argument_is u k i j ≡ is_the k (kind_at (uses_in u) i j)
is_same u k zero j small = sym (Laws.is_zero u k 0 j refl)
is_same u k (suc i) j small =
    by_test (leb (length u) (8191 + suc i)) (λ e. kind_past u k i j (leb-true _ _ e)) (λ e. kind_in u k i j small (leb-false _ _ e))

module _ (u : List ℕ) (k : ℕ) (b : List ℕ) (at : ℕ) where
  argument_end : length b ≤ at → rest_at b (argument_at u k b at) ≡ rest_of (read_argument (uses_in u) k (drop at b))
  unfolding argument_at read_argument
  argument_end h = cc (le-leb (length b) at h, drop_of_length-le b h)

  argument_in : at < length b → rest_at b (argument_at u k b at) ≡ rest_of (read_argument (uses_in u) k (drop at b))
  unfolding argument_at read_argument use_of
  argument_in h =
      rw (front b at h) (by_test (argument_is u k (get_or b at 0) 0)
      (λ d. cc (lt-leb (length b) at h, is_same u k (get_or b at 0) 0 (omega arith)))
      (λ d. cc (lt-leb (length b) at h, is_same u k (get_or b at 0) 0 (omega arith))))

  argument_same : rest_at b (argument_at u k b at) ≡ rest_of (read_argument (uses_in u) k (drop at b))
  argument_same = by_test (leb (length b) at) (λ e. argument_end (leb-true _ _ e)) (λ e. argument_in (leb-false _ _ e))

-- An argument by a number.
numbered_cut : (u : Uses) (k : ℕ) (s : List ℕ) → length s < 2 → read_numbered u k s ≡ Meant.broken
unfolding read_numbered
numbered_cut u k [] h = refl
numbered_cut u k (i ∷ []) h = refl
numbered_cut u k (i ∷ j ∷ s) h = absurd (omega arith)

numbered_zero : (u : Uses) (k i j : ℕ) (s : List ℕ) → j ≡ 0 → read_numbered u k (i ∷ j ∷ s) ≡ Meant.broken
unfolding read_numbered
numbered_zero u k i zero s e = refl
numbered_zero u k i (suc j) s e = absurd (omega arith)

numbered_some : (u : Uses) (k i j : ℕ) (s : List ℕ) → (j ≡ 0 → ⊥) → read_numbered u k (i ∷ j ∷ s) ≡ use_of u k i j s
unfolding read_numbered
numbered_some u k i zero s e = absurd (e refl)
numbered_some u k i (suc j) s e = refl

module _ (u : List ℕ) (k : ℕ) (b : List ℕ) (at : ℕ) (bytes : (i : ℕ) → get_or b i 0 < 256) where
  is_itself : (p : ℕ) → argument_is u k (get_or b p 0) (get_or b (p + 1) 0) ≡ argument_is u k (get_or b p 0) (get_or b (p + 1) 0)
  is_itself p = refl

  numbered_in : 2 ≤ length b - at → (get_or b (at + 1) 0 ≡ 0 → ⊥) → rest_at b (numbered_at u k b at) ≡ rest_of (use_of (uses_in u) k (get_or b at 0) (get_or b (at + 1) 0) (drop (at + 2) b))
  unfolding use_of
  numbered_in h z =
      by_test (argument_is u k (get_or b at 0) (get_or b (at + 1) 0))
      (λ d. cc (Laws.numbered_good u k b at h refl refl z (is_itself at) d, is_same u k (get_or b at 0) (get_or b (at + 1) 0) (bytes (at + 1))))
      (λ d. cc (Laws.numbered_bad u k b at h refl refl z (is_itself at) d, is_same u k (get_or b at 0) (get_or b (at + 1) 0) (bytes (at + 1))))

  numbered_there : 2 ≤ length b - at → rest_at b (numbered_at u k b at) ≡ rest_of (read_numbered (uses_in u) k (drop at b))
  numbered_there h =
      rw (two b at h) (by_test (eqb (get_or b (at + 1) 0) 0)
      (λ e. let z : get_or b (at + 1) 0 ≡ 0 = eqb-true _ _ e in cc (Laws.numbered_zero u k b at h z, numbered_zero (uses_in u) k (get_or b at 0) (get_or b (at + 1) 0) (drop (at + 2) b) z))
      (λ e. let z : get_or b (at + 1) 0 ≡ 0 → ⊥ = eqb-false _ _ e in numbered_in h z ∙ ap rest_of (sym (numbered_some (uses_in u) k (get_or b at 0) (get_or b (at + 1) 0) (drop (at + 2) b) z))))

  numbered_same : rest_at b (numbered_at u k b at) ≡ rest_of (read_numbered (uses_in u) k (drop at b))
  numbered_same =
      by_test (ltb (length b - at) 2)
      (λ e. let h : length b - at < 2 = ltb-true _ _ e in
      let n : length (drop at b) < 2 = rw length-drop h in
      cc (Laws.numbered_end u k b at h, numbered_cut (uses_in u) k (drop at b) n))
      (λ e. numbered_there (ltb-false _ _ e))

-- A part of a list, an element at a time.
no_slice : (s : List ℕ) (q e : ℕ) → e ≤ q → slice q e s ≡ []
no_slice s q e h = sym (part_done (λ l. l) s q e (slice q e s) refl h)

one_slice : (s : List ℕ) (q e : ℕ) → q < e → e ≤ length s → slice q e s ≡ get_or s q 0 ∷ slice (q + 1) e s
one_slice s q e h k = sym (part_next (λ l. l) s q e (slice q e s) refl h k)

-- Operands, and what else stands at a level, where the levels below are read alike.
module _ (s index u b : List ℕ) (l : Language) (z : Indexed index s l) (bytes : (i : ℕ) → get_or b i 0 < 256)
    (f : ℕ → ℕ → Read) (g : ℕ → List ℕ → Meant.Read C.Code)
    (below : (k at : ℕ) → k < 32 → rest_at b (f k at) ≡ rest_of (g k (drop at b))) where
  code_next : (m q at e : ℕ) → f (get_or s q 0) at ≡ Ok e → operands_from f s (suc m) q at ≡ operands_from f s m (q + 1) e
  unfolding operands_from
  code_next m q at e y = cc

  meant_next : (k : ℕ) (ks u v : List ℕ) (a : C.Code) → g k u ≡ Meant.done a v → rest_of (read_all g (k ∷ ks) u) ≡ rest_of (read_all g ks v)
  unfolding read_all
  meant_next k ks u v a y = rw y (made (λ t. cons a t) (read_all g ks v))

  next : (r : Read) (m q : ℕ) (ks : List ℕ) (at : ℕ) → f (get_or s q 0) at ≡ r → rest_at b r ≡ rest_of (g (get_or s q 0) (drop at b))
      → ((e : ℕ) → rest_at b (operands_from f s m (q + 1) e) ≡ rest_of (read_all g ks (drop e b)))
      → rest_at b (operands_from f s (suc m) q at) ≡ rest_of (read_all g (get_or s q 0 ∷ ks) (drop at b))
  unfolding operands_from read_all
  next (Ok e) m q ks at y h ih =
      let d = done_of (g (get_or s q 0) (drop at b)) (drop e b) (sym h) in
      ap (rest_at b) (code_next m q at e y) ∙ (ih e ∙ sym (meant_next (get_or s q 0) ks (drop at b) (drop e b) d.0 d.1))
  next (Err Deep) m q ks at y h ih = cc (deep_of (g (get_or s q 0) (drop at b)) (sym h))
  next (Err Broken) m q ks at y h ih = cc (broken_of (g (get_or s q 0) (drop at b)) (sym h))

  operands_same : (m q e at : ℕ) → e - q ≡ m → KindsIn s q e → rest_at b (operands_from f s m q at) ≡ rest_of (read_all g (slice q e s) (drop at b))
  unfolding operands_from read_all
  operands_same zero q e at y h = rw (no_slice s q e (omega arith))
  operands_same (suc m) q e at y h =
      let i = h q (omega arith) (omega arith) in
      let j = h (e - 1) (omega arith) (omega arith) in
      rw (one_slice s q e (omega arith) (omega arith))
      (next (f (get_or s q 0) at) m q (slice (q + 1) e s) at refl (below (get_or s q 0) at i.1)
      λ d. operands_same m (q + 1) e d (omega arith) λ x a c. h x (omega arith) c)

  -- A production name and its operands.
  name_end : (k at : ℕ) → length b ≤ at → rest_at b (follow f s (name_at s index k b at)) ≡ rest_of (read_node g l k (drop at b))
  unfolding read_node
  name_end k at h = cc (Laws.name_end s index k b at h, drop_of_length-le b h)

  name_found : (place k p at : ℕ) → place ≡ get_or index (production_key k p) 0 → k < 32 → p < 256
      → rest_at b (follow f s (operands_at s place at)) ≡ rest_of (read_operands g k p (arguments_before s place) (drop at b))
  unfolding operands_at read_operands field_end
  name_found zero k p at e h j = cc
  name_found (suc q) k p at e h j =
      let pos : suc q ≡ 0 → ⊥ = λ w. omega arith in
      let from : suc q + 4 ≡ q + 5 = omega arith in
      let n : pair_at s (suc q) ≡ pair_at s (q + 1) = ap (pair_at s) (omega arith) in
      let stop : suc q + 2 + pair_at s (suc q) ≡ q + 3 + pair_at s (q + 1) = omega arith in
      let w = Laws.kinds_in index s z.sound refl h j e pos refl in
      rw (ne_eqb (suc q) 0 pos, stop, from)
      (operands_same _ (q + 5) (q + 3 + pair_at s (q + 1)) at refl (λ x a c. w x (omega arith) (omega arith))
      ∙ sym (made (λ t. node k p t) (read_all g (slice (q + 5) (q + 3 + pair_at s (q + 1)) s) (drop at b))))

  name_in : (k at : ℕ) → k < 32 → at < length b → rest_at b (follow f s (name_at s index k b at)) ≡ rest_of (read_node g l k (drop at b))
  unfolding name_at read_node
  name_in k at h i =
      rw (front b at i, lt-leb (length b) at i, z.arguments k (get_or b at 0) h (bytes at))
      (name_found (get_or index (production_key k (get_or b at 0)) 0) k (get_or b at 0) (at + 1) refl h (bytes at))

  name_same : (k at : ℕ) → k < 32 → rest_at b (follow f s (name_at s index k b at)) ≡ rest_of (read_node g l k (drop at b))
  name_same k at h = by_test (leb (length b) at) (λ e. name_end k at (leb-true _ _ e)) (λ e. name_in k at h (leb-false _ _ e))

  -- One level of a tree.
  tree_same : (place k at : ℕ) → place ≡ get_or index k 0 → k < 32 → rest_at b (follow f s (tree_node s index k b at)) ≡ rest_of (read_tree_level g l k (drop at b))
  unfolding read_tree_level
  tree_same zero k at e h =
      cc (Laws.tree_name s index k b at refl e refl refl, name_same k at h, z.range k h)
  tree_same (suc p) k at e h =
      let pos : suc p ≡ 0 → ⊥ = λ w. omega arith in
      cc (Laws.tree_token s index k b at refl e pos refl, token_same s (suc p) b at, z.range k h)

  -- One level of a code.
  module _ (k at : ℕ) (kind : k < 32) where
    code_end : length b ≤ at → rest_at b (follow f s (code_node s index u k b at)) ≡ rest_of (read_code_level g l (uses_in u) k (drop at b))
    unfolding read_code_level
    code_end h = cc (Laws.code_end s index u k b at h, drop_of_length-le b h)

    module _ (there : at < length b) where
      code_in : rest_at b (follow f s (code_node s index u k b at)) ≡ rest_of (read_code_level g l (uses_in u) k (get_or b at 0 ∷ drop (at + 1) b))
      unfolding read_code_level read_use
      code_in =
          by_test (eqb (get_or b at 0) 1)
          (λ d. cc (Laws.code_name s index u k b at there (eqb-true _ _ d) refl, name_same k (at + 1) kind))
          (λ d. by_test (eqb (get_or b at 0) 2)
          (λ e. cc (Laws.code_token s index u k b at there (eqb-false _ _ d) (eqb-true _ _ e) refl refl refl, token_same s (get_or index k 0) b (at + 1), z.range k kind))
          (λ e. by_test (eqb (get_or b at 0) 3)
          (λ c. cc (Laws.code_argument s index u k b at there (eqb-false _ _ d) (eqb-true _ _ c) refl, argument_same u k b (at + 1)))
          (λ c. by_test (eqb (get_or b at 0) 4)
          (λ g. cc (Laws.code_numbered s index u k b at there (eqb-false _ _ d) (eqb-true _ _ g) refl, numbered_same u k b (at + 1) bytes))
          (λ g. cc (Laws.code_other s index u k b at there (eqb-false _ _ d) (eqb-false _ _ c) (eqb-false _ _ e) (eqb-false _ _ g))))))

    code_same : rest_at b (follow f s (code_node s index u k b at)) ≡ rest_of (read_code_level g l (uses_in u) k (drop at b))
    code_same =
        by_test (leb (length b) at)
        (λ e. code_end (leb-true _ _ e))
        (λ e. let h : at < length b = leb-false _ _ e in rw (front b at h) (code_in h))

  level_same : (x : Syntax) (k at : ℕ) → k < 32
      → rest_at b (follow f s (node_at x s index u k b at)) ≡ rest_of (read_level (syntax_of x) g l (uses_in u) k (drop at b))
  unfolding node_at read_level
  level_same Tree k at h = tree_same (get_or index k 0) k at refl h
  level_same Code k at h = code_same k at h

-- What stands past the last level.
module _ (s index b : List ℕ) (l : Language) (z : Indexed index s l) where
  past_tree : (place k at : ℕ) → place ≡ get_or index k 0 → k < 32 → rest_at b (past_at Tree s index k b at) ≡ rest_of (past_levels current Meant.tree l k (drop at b))
  unfolding past_levels
  past_tree zero k at e h = cc (Laws.past_name s index k b at refl e refl, z.range k h)
  past_tree (suc p) k at e h =
      let pos : suc p ≡ 0 → ⊥ = λ w. omega arith in
      cc (Laws.past_token s index k b at refl e pos refl, token_same s (suc p) b at, z.range k h)

  past_code : (k at : ℕ) → k < 32 → rest_at b (past_at Code s index k b at) ≡ rest_of (past_levels current Meant.code l k (drop at b))
  unfolding past_levels
  past_code k at kind =
      by_test (leb (length b) at)
      (λ e. let h : length b ≤ at = leb-true _ _ e in cc (Laws.past_end s index k b at h, drop_of_length-le b h))
      (λ e.
      let there : at < length b = leb-false _ _ e in
      rw (front b at there) (by_test (eqb (get_or b at 0) 2)
      (λ d. cc (Laws.past_sign s index k b at there (eqb-true _ _ d) refl refl refl, token_same s (get_or index k 0) b (at + 1), z.range k kind))
      (λ d. cc (Laws.past_other s index k b at there (eqb-false _ _ d)))))

  past_same : (x : Syntax) (k at : ℕ) → k < 32 → rest_at b (past_at x s index k b at) ≡ rest_of (past_levels current (syntax_of x) l k (drop at b))
  past_same Tree k at h = past_tree (get_or index k 0) k at refl h
  past_same Code k at h = past_code k at h

-- Reading by position is reading.
pub read_same : (x : Syntax) (s index u b : List ℕ) (l : Language) → Indexed index s l → ((i : ℕ) → get_or b i 0 < 256)
    → (n k at : ℕ) → k < 32 → rest_at b (read_at x s index u b n k at) ≡ rest_of (Meant.read (syntax_of x) l (uses_in u) n k (drop at b))
unfolding read_at Meant.read_by
read_same x s index u b l z bytes zero k at h = past_same s index b l z x k at h
read_same x s index u b l z bytes (suc n) k at h =
    level_same s index u b l z bytes (read_at x s index u b n) (Meant.read (syntax_of x) l (uses_in u) n)
    (λ j e i. read_same x s index u b l z bytes n j e i) x k at h

-- The same of what was read by position.
pub read_meant : (x : Syntax) (s index u b : List ℕ) (l : Language) → Indexed index s l → ((i : ℕ) → get_or b i 0 < 256)
    → (n k at : ℕ) → k < 32 → (r : Read) → r ≡ read_at x s index u b n k at → rest_at b r ≡ rest_of (Meant.read (syntax_of x) l (uses_in u) n k (drop at b))
read_meant x s index u b l z bytes n k at h r e = ap (rest_at b) e ∙ read_same x s index u b l z bytes n k at h

-- Of trees, which have no uses.
pub tree_meant : (s index b : List ℕ) (l : Language) → Indexed index s l → ((i : ℕ) → get_or b i 0 < 256)
    → (n k at : ℕ) → k < 32 → (r : Read) → r ≡ read_at Tree s index [] b n k at → rest_at b r ≡ rest_of (Meant.read Meant.tree l [] n k (drop at b))
unfolding uses_in
tree_meant s index b l z bytes n k at h r e = read_meant Tree s index [] b l z bytes n k at h r e
