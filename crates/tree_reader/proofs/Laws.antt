-- The definitions by position, one turn at a time, in the terms of the code: a law for each return.
use Rattle.std.specs.Prelude.{Err, Ok}
use Rattle.tree_reader.specs.declared.node.ReadError.{ReadError}
use Rattle.tree_reader.specs.declared.node.ReadError.TheVariants.{Deep, Broken}
use Prim.Native.Nat.{ℕ, suc, ◌+◌, ◌*◌, ◌-◌, ◌<◌, ◌≤◌}
use mathlib.Core.Path.{◌≡◌, refl, sym, ap, ◌∙◌}
use mathlib.Core.List.{List}
use mathlib.Core.Bool.{Bool, true, false, cond}
use native.Mathlib.Omega.{arith}
use lib.ListN.{length, get_or, get_or-eq_default}
use lib.Dec.{ltb, leb, eqb}
use borrow.Author.Tests.{ltb-true, ltb-false, leb-false, eqb-true, eqb-false, lt-ltb, le-ltb, leb-true, le-leb, lt-leb, eq-eqb, ne_eqb}
use Rattle.format_fields.specs.Fields.{pair_at}
use Rattle.format_fields.proofs.Truth.{by_test}
use Rattle.format_language.specs.Language.{production_key, in_range}
use Rattle.format_language.specs.Inner.Entries.{class_range, IsClass}
use Rattle.tree_reader.specs.declared.node.Syntax.{Syntax}
use Rattle.tree_reader.specs.declared.node.Syntax.TheVariants.{Tree, Code}
use Rattle.tree_reader.specs.declared.node.Node.{Node}
use Rattle.tree_reader.specs.declared.node.Node.TheVariants.{Leaf, Operands}
use Rattle.tree_reader.specs.Inner.Index.{Sound}
use Rattle.tree_reader.specs.Inner.Positions.{name_length, production_place, token_at, operands_at, name_at, argument_is, argument_at, numbered_at, tree_node, class_place, code_leaf, code_node, node_at, leaf_at, operands_from, past_at, read_at, EndsBy, NodeIn, KindsIn, Read}

-- Past the end of a list its default stands.
past_zero : (u : List ℕ) (i : ℕ) → length u ≤ i → get_or u i 0 ≡ 0
past_zero u i h = get_or-eq_default u 0 h

-- What the index holds at a key.
pub at_key : (index : List ℕ) {n m place : ℕ} → place ≡ get_or index n 0 → n ≡ m → place ≡ get_or index m 0
at_key index e d = e ∙ ap (λ (i : ℕ). get_or index i 0) d

-- token
module _ (s : List ℕ) (place : ℕ) (b : List ℕ) (at : ℕ) where
  pub token_none : place ≡ 0 → Err Broken ≡ token_at s place b at
  unfolding token_at
  token_none h = simp (eq-eqb place 0 h)

  pub token_short : (place ≡ 0 → ⊥) → length b - at < 2 → Err Broken ≡ token_at s place b at
  unfolding token_at
  token_short h i = simp (ne_eqb place 0 h, lt-ltb (length b - at) 2 i)

  module _ {v : ℕ} {x : Bool} (some : place ≡ 0 → ⊥) (there : 2 ≤ length b - at) (ev : v ≡ pair_at b at)
      (ex : x ≡ in_range (class_range s (place - 1)) v) where
    pub token_out : x ≡ false → Err Broken ≡ token_at s place b at
    unfolding token_at
    token_out h = cc (ne_eqb place 0 some, le-ltb (length b - at) 2 there)

    pub token_good : x ≡ true → Ok (at + 2) ≡ token_at s place b at
    unfolding token_at
    token_good h = cc (ne_eqb place 0 some, le-ltb (length b - at) 2 there)

-- name
module _ (s index : List ℕ) (k : ℕ) (b : List ℕ) (at : ℕ) where
  pub name_end : length b ≤ at → Leaf (Err Broken) ≡ name_at s index k b at
  unfolding name_at
  name_end h = simp (le-leb (length b) at h)

  module _ {j p place : ℕ} (there : at < length b) (ej : j ≡ k) (ep : p ≡ get_or b at 0) (ei : place ≡ get_or index (production_key j p) 0) where
    pub name_unknown : place ≡ 0 → Leaf (Err Broken) ≡ name_at s index k b at
    unfolding name_at operands_at
    name_unknown h = cc (lt-leb (length b) at there)

    pub name_known : {first last : ℕ} → (place ≡ 0 → ⊥) → first ≡ place + 4 → last ≡ place + 2 + pair_at s place → Operands first last (at + 1) ≡ name_at s index k b at
    unfolding name_at operands_at
    name_known h e d = cc (lt-leb (length b) at there, ne_eqb place 0 h)

-- argument_is
module _ (u : List ℕ) (k i j : ℕ) where
  pub is_zero : i ≡ 0 → false ≡ argument_is u k i j
  unfolding argument_is
  is_zero h = simp (eq-eqb i 0 h)

  pub is_past : (i ≡ 0 → ⊥) → length u ≤ 8191 + i → false ≡ argument_is u k i j
  unfolding argument_is
  is_past h g = simp (ne_eqb i 0 h, le-leb (length u) (8191 + i) g)

  pub is_there : (i ≡ 0 → ⊥) → 8191 + i < length u → eqb (get_or u (get_or u (8191 + i) 0 * 256 + j) 0) (k + 1) ≡ argument_is u k i j
  unfolding argument_is
  is_there h g = simp (ne_eqb i 0 h, lt-leb (length u) (8191 + i) g)

  module _ {x : ℕ} (some : i ≡ 0 → ⊥) (there : 8191 + i < length u) (ex : x ≡ get_or u (8191 + i) 0) where
    pub is_outside : length u ≤ x * 256 + j → false ≡ argument_is u k i j
    is_outside o =
        let z : get_or u (get_or u (8191 + i) 0 * 256 + j) 0 ≡ 0 = past_zero u _ (rw (sym ex) o) in
        let n : 0 ≡ k + 1 → ⊥ = λ q. omega arith in
        sym (ne_eqb 0 (k + 1) n) ∙ (ap (λ y. eqb y (k + 1)) (sym z) ∙ is_there some there)

    pub is_kind : {a b : ℕ} → a ≡ get_or u (x * 256 + j) 0 → b ≡ k → eqb a (b + 1) ≡ argument_is u k i j
    is_kind ea eb = rw (ea, eb, ex) (is_there some there)

-- argument
module _ (u : List ℕ) (k : ℕ) (b : List ℕ) (at : ℕ) where
  pub argument_end : length b ≤ at → Err Broken ≡ argument_at u k b at
  unfolding argument_at
  argument_end h = simp (le-leb (length b) at h)

  module _ {i : ℕ} {t : Bool} (there : at < length b) (ei : i ≡ get_or b at 0) (et : t ≡ argument_is u k i 0) where
    pub argument_good : t ≡ true → Ok (at + 1) ≡ argument_at u k b at
    unfolding argument_at
    argument_good h = cc (lt-leb (length b) at there)

    pub argument_bad : t ≡ false → Err Broken ≡ argument_at u k b at
    unfolding argument_at
    argument_bad h = cc (lt-leb (length b) at there)

-- numbered
module _ (u : List ℕ) (k : ℕ) (b : List ℕ) (at : ℕ) where
  pub numbered_end : length b - at < 2 → Err Broken ≡ numbered_at u k b at
  unfolding numbered_at
  numbered_end h = simp (lt-ltb (length b - at) 2 h)

  pub numbered_zero : 2 ≤ length b - at → get_or b (at + 1) 0 ≡ 0 → Err Broken ≡ numbered_at u k b at
  unfolding numbered_at
  numbered_zero h e = simp (le-ltb (length b - at) 2 h, eq-eqb (get_or b (at + 1) 0) 0 e)

  module _ {i j : ℕ} {t : Bool} (there : 2 ≤ length b - at) (ei : i ≡ get_or b at 0) (ej : j ≡ get_or b (at + 1) 0)
      (some : get_or b (at + 1) 0 ≡ 0 → ⊥) (et : t ≡ argument_is u k i j) where
    pub numbered_good : t ≡ true → Ok (at + 2) ≡ numbered_at u k b at
    unfolding numbered_at
    numbered_good h = cc (le-ltb (length b - at) 2 there, ne_eqb (get_or b (at + 1) 0) 0 some)

    pub numbered_bad : t ≡ false → Err Broken ≡ numbered_at u k b at
    unfolding numbered_at
    numbered_bad h = cc (le-ltb (length b - at) 2 there, ne_eqb (get_or b (at + 1) 0) 0 some)

-- tree_node
module _ (s index : List ℕ) (k : ℕ) (b : List ℕ) (at : ℕ) {j place : ℕ} (ej : j ≡ k) (ei : place ≡ get_or index j 0) where
  pub tree_name : {r : Node} → place ≡ 0 → r ≡ name_at s index k b at → r ≡ tree_node s index k b at
  unfolding tree_node
  tree_name h e = cc (eq-eqb place 0 h)

  pub tree_token : {r : Read} → (place ≡ 0 → ⊥) → r ≡ token_at s place b at → Leaf r ≡ tree_node s index k b at
  unfolding tree_node
  tree_token h e = cc (ne_eqb place 0 h)

-- code_leaf
module _ (s index u : List ℕ) (k : ℕ) (b : List ℕ) (at : ℕ) where
  pub leaf_end : length b ≤ at → Err Broken ≡ code_leaf s index u k b at
  unfolding code_leaf
  leaf_end h = simp (le-leb (length b) at h)

  module _ (there : at < length b) where
    pub leaf_argument : {r : Read} → get_or b at 0 ≡ 3 → r ≡ argument_at u k b (at + 1) → r ≡ code_leaf s index u k b at
    unfolding code_leaf
    leaf_argument h e = cc (lt-leb (length b) at there)

    pub leaf_token : {r : Read} {j place : ℕ} → get_or b at 0 ≡ 2 → j ≡ k → place ≡ get_or index j 0 → r ≡ token_at s place b (at + 1)
        → r ≡ code_leaf s index u k b at
    unfolding code_leaf
    leaf_token h ej ei e = cc (lt-leb (length b) at there)

    pub leaf_numbered : {r : Read} → get_or b at 0 ≡ 4 → r ≡ numbered_at u k b (at + 1) → r ≡ code_leaf s index u k b at
    unfolding code_leaf
    leaf_numbered h e = cc (lt-leb (length b) at there)

    pub leaf_other : (get_or b at 0 ≡ 3 → ⊥) → (get_or b at 0 ≡ 2 → ⊥) → (get_or b at 0 ≡ 4 → ⊥) → Err Broken ≡ code_leaf s index u k b at
    unfolding code_leaf
    leaf_other h i j = cc (lt-leb (length b) at there, ne_eqb (get_or b at 0) 3 h, ne_eqb (get_or b at 0) 2 i, ne_eqb (get_or b at 0) 4 j)

-- code_node
module _ (s index u : List ℕ) (k : ℕ) (b : List ℕ) (at : ℕ) where
  pub code_end : length b ≤ at → Leaf (Err Broken) ≡ code_node s index u k b at
  unfolding code_node
  code_end h = simp (le-leb (length b) at h)

  module _ (there : at < length b) where
    pub code_name : {r : Node} → get_or b at 0 ≡ 1 → r ≡ name_at s index k b (at + 1) → r ≡ code_node s index u k b at
    unfolding code_node
    code_name h e = cc (lt-leb (length b) at there)

    pub code_leaf_lem : {r : Read} → (get_or b at 0 ≡ 1 → ⊥) → r ≡ code_leaf s index u k b at → Leaf r ≡ code_node s index u k b at
    unfolding code_node
    code_leaf_lem h e = cc (lt-leb (length b) at there, ne_eqb (get_or b at 0) 1 h)

    module _ (other : get_or b at 0 ≡ 1 → ⊥) where
      pub code_token : {r : Read} {j place : ℕ} → get_or b at 0 ≡ 2 → j ≡ k → place ≡ get_or index j 0 → r ≡ token_at s place b (at + 1)
          → Leaf r ≡ code_node s index u k b at
      code_token h ej ei e = code_leaf_lem other (leaf_token s index u k b at there h ej ei e)

      pub code_argument : {r : Read} → get_or b at 0 ≡ 3 → r ≡ argument_at u k b (at + 1) → Leaf r ≡ code_node s index u k b at
      code_argument h e = code_leaf_lem other (leaf_argument s index u k b at there h e)

      pub code_numbered : {r : Read} → get_or b at 0 ≡ 4 → r ≡ numbered_at u k b (at + 1) → Leaf r ≡ code_node s index u k b at
      code_numbered h e = code_leaf_lem other (leaf_numbered s index u k b at there h e)

      pub code_other : (get_or b at 0 ≡ 3 → ⊥) → (get_or b at 0 ≡ 2 → ⊥) → (get_or b at 0 ≡ 4 → ⊥) → Leaf (Err Broken) ≡ code_node s index u k b at
      code_other h i j = code_leaf_lem other (leaf_other s index u k b at there h i j)

-- node_at
module _ (s index u : List ℕ) (k : ℕ) (b : List ℕ) (at : ℕ) {x : Syntax} {r : Node} where
  pub node_tree : x ≡ Tree → r ≡ tree_node s index k b at → r ≡ node_at x s index u k b at
  unfolding node_at
  node_tree h e = cc

  pub node_code : x ≡ Code → r ≡ code_node s index u k b at → r ≡ node_at x s index u k b at
  unfolding node_at
  node_code h e = cc

-- The operands, a turn at a time: e - q are left.
module _ (f : ℕ → ℕ → Read) (s : List ℕ) (e q at : ℕ) where
  pub operands_done : e ≤ q → operands_from f s (e - q) q at ≡ Ok at
  unfolding operands_from
  operands_done h = let z : e - q ≡ 0 = omega arith in rw z

  module _ {r : Read} (more : q < e) (er : r ≡ f (get_or s q 0) at) where
    left : e - q ≡ suc (e - (q + 1))
    left = omega arith

    pub operands_next : {x : ℕ} → r ≡ Ok x → operands_from f s (e - q) q at ≡ operands_from f s (e - (q + 1)) (q + 1) x
    unfolding operands_from
    operands_next y = rw left (cc)

    pub operands_err : {x : ReadError} → r ≡ Err x → operands_from f s (e - q) q at ≡ Err x
    unfolding operands_from
    operands_err y = rw left (cc)

-- The last operand alone.
pub operands_last : (f : ℕ → ℕ → Read) (s : List ℕ) (e q at : ℕ) {r : Read} → q + 1 ≡ e → r ≡ f (get_or s q 0) at
    → r ≡ operands_from f s (e - q) q at
unfolding operands_from
operands_last f s e q at h y = let z : e - q ≡ 1 = omega arith in rw z (y ∙ go (f (get_or s q 0) at))
  where
    go : (r : Read) → r ≡ (elim r [ Ok e ↦ Ok e | Err x ↦ Err x ])
    go (Ok e) = refl
    go (Err x) = refl

-- Kinds in a row are no more than the language has bytes.
pub row_short : (s : List ℕ) (q e : ℕ) → length s ≤ 1024 → KindsIn s q e → e - q ≤ 1024
row_short s q e h k =
    by_test (ltb q e)
    (λ t. let l = ltb-true q e t in let b = k (e - 1) (omega arith) (omega arith) in omega (arith, b.0))
    (λ t. let l = ltb-false q e t in omega arith)

-- past_tree
module _ (s index : List ℕ) (k : ℕ) (b : List ℕ) (at : ℕ) {j place : ℕ} (ej : j ≡ k) (ei : place ≡ get_or index j 0) where
  pub past_name : place ≡ 0 → Err Deep ≡ past_at Tree s index k b at
  unfolding past_at
  past_name h = cc (eq-eqb place 0 h)

  pub past_token : {r : Read} → (place ≡ 0 → ⊥) → r ≡ token_at s place b at → r ≡ past_at Tree s index k b at
  unfolding past_at
  past_token h e = cc (ne_eqb place 0 h)

-- past_code
module _ (s index : List ℕ) (k : ℕ) (b : List ℕ) (at : ℕ) where
  pub past_end : length b ≤ at → Err Deep ≡ past_at Code s index k b at
  unfolding past_at
  past_end h = simp (le-leb (length b) at h)

  module _ (there : at < length b) where
    pub past_other : (get_or b at 0 ≡ 2 → ⊥) → Err Deep ≡ past_at Code s index k b at
    unfolding past_at
    past_other h = cc (lt-leb (length b) at there, ne_eqb (get_or b at 0) 2 h)

    pub past_sign : {r : Read} {j place : ℕ} → get_or b at 0 ≡ 2 → j ≡ k → place ≡ get_or index j 0 → r ≡ token_at s place b (at + 1)
        → r ≡ past_at Code s index k b at
    unfolding past_at
    past_sign h ej ei e = cc (lt-leb (length b) at there)

-- past_levels
module _ (s index : List ℕ) (k : ℕ) (b : List ℕ) (at : ℕ) {x : Syntax} {r : Read} where
  pub past_tree : x ≡ Tree → r ≡ past_at Tree s index k b at → r ≡ past_at x s index k b at
  past_tree h e = cc

  pub past_code : x ≡ Code → r ≡ past_at Code s index k b at → r ≡ past_at x s index k b at
  past_code h e = cc

-- read_at
module _ (x : Syntax) (s index u b : List ℕ) (n k at : ℕ) where
  pub read_past : {r : Read} → n ≡ 0 → r ≡ past_at x s index k b at → r ≡ read_at x s index u b n k at
  unfolding read_at
  read_past h e = rw h e

  module _ {d : Node} (pos : n ≡ 0 → ⊥) (ed : d ≡ node_at x s index u k b at) where
    one_less : n ≡ suc (n - 1)
    one_less = omega arith

    pub read_leaf : {r : Read} → d ≡ Leaf r → r ≡ read_at x s index u b n k at
    unfolding read_at
    read_leaf y = rw one_less (cc)

    pub read_operands : {q e to : ℕ} → d ≡ Operands q e to
        → operands_from (read_at x s index u b (n - 1)) s (e - q) q to ≡ read_at x s index u b n k at
    unfolding read_at
    read_operands {q} {e} {to} y =
        (let z : operands_from (read_at x s index u b (n - 1)) s (e - q) q to ≡ read_at x s index u b (suc (n - 1)) k at = cc in z)
        ∙ ap (λ (m : ℕ). read_at x s index u b m k at) (sym one_less)

-- class_place
pub place_tree : {x : Syntax} {j r : ℕ} (index : List ℕ) (k : ℕ) → x ≡ Tree → j ≡ k → r ≡ get_or index j 0 → r ≡ class_place x index k
unfolding class_place
place_tree index k h d e = cc

pub place_code : {x : Syntax} (index : List ℕ) (k : ℕ) → x ≡ Code → 0 ≡ class_place x index k
unfolding class_place
place_code index k h = cc

-- A token of a tree, read by the place of its class.
pub in_tree : (x : Syntax) (index : List ℕ) (k : ℕ) → (class_place x index k ≡ 0 → ⊥) → (x ≡ Tree) × (class_place x index k ≡ get_or index k 0)
unfolding class_place
in_tree Tree index k h = (refl, refl)
in_tree Code index k h = absurd (h refl)

module _ (x : Syntax) (s index u b : List ℕ) (n k at : ℕ) where
  pub read_token_lem : {place : ℕ} {r : Read} → place ≡ class_place x index k → (place ≡ 0 → ⊥) → r ≡ token_at s place b at
      → r ≡ read_at x s index u b n k at
  read_token_lem {place} e h t =
      let w = in_tree x index k (λ z. h (e ∙ z)) in
      by_test (eqb n 0)
      (λ z. read_past x s index u b n k at (eqb-true n 0 z) (past_tree s index k b at w.0 (past_token s index k b at refl (e ∙ w.1) h t)))
      (λ z. read_leaf x s index u b n k at (eqb-false n 0 z) (node_tree s index u k b at w.0 (tree_token s index k b at refl (e ∙ w.1) h t)) refl)

-- leaf
module _ (x : Syntax) (s index u b : List ℕ) (n k at : ℕ) where
  -- An unknown name in a tree, where no token of a class is to be.
  tree_nothing : get_or index k 0 ≡ 0 → production_place Tree index k b at ≡ 0 → Leaf (Err Broken) ≡ tree_node s index k b at
  unfolding production_place
  tree_nothing e h =
      by_test (leb (length b) at)
      (λ t. tree_name s index k b at refl (sym e) refl (name_end s index k b at (leb-true (length b) at t)))
      (λ t.
      let there : at < length b = leb-false (length b) at t in
      let z : get_or index (production_key k (get_or b at 0)) 0 ≡ 0 = rw (lt-leb (length b) at there) at h in
      tree_name s index k b at refl (sym e) refl (name_unknown s index k b at there refl refl (sym z) refl))

  -- The same in a code.
  code_nothing : production_place Code index k b at ≡ 0 → Leaf (code_leaf s index u k b at) ≡ code_node s index u k b at
  unfolding production_place
  code_nothing h =
      by_test (leb (length b) at)
      (λ t.
      let over : length b ≤ at = leb-true (length b) at t in
      ap Leaf (sym (leaf_end s index u k b at over)) ∙ code_end s index u k b at over)
      (λ t.
      let there : at < length b = leb-false (length b) at t in
      by_test (eqb (get_or b at 0) 1)
      (λ d. let one : get_or b at 0 ≡ 1 = eqb-true _ _ d in ap Leaf (sym (leaf_other s index u k b at there (λ z. omega arith) (λ z. omega arith) (λ z. omega arith))) ∙ code_name s index u k b at there one (unknown there one h))
      (λ d. code_leaf_lem s index u k b at there (eqb-false _ _ d) refl))
    where
      unknown : at < length b → get_or b at 0 ≡ 1
          → cond (leb (length b) (at + 1)) 0 (cond (eqb (get_or b at 0) 1) (get_or index (production_key k (get_or b (at + 1) 0)) 0) 0) ≡ 0
          → Leaf (Err Broken) ≡ name_at s index k b (at + 1)
      unknown there one h =
          by_test (leb (length b) (at + 1))
          (λ t. name_end s index k b (at + 1) (leb-true _ _ t))
          (λ t.
          let inner : at + 1 < length b = leb-false _ _ t in
          let z : get_or index (production_key k (get_or b (at + 1) 0)) 0 ≡ 0 = rw (lt-leb (length b) (at + 1) inner, eq-eqb (get_or b at 0) 1 one) at h in
          name_unknown s index k b (at + 1) inner refl refl (sym z) refl)

-- name_place
module _ (index : List ℕ) (k : ℕ) (b : List ℕ) (at : ℕ) where
  pub place_end : length b ≤ at → 0 ≡ production_place Tree index k b at
  unfolding production_place
  place_end h = simp (le-leb (length b) at h)

  pub place_name : {j p place : ℕ} → at < length b → j ≡ k → p ≡ get_or b at 0 → place ≡ get_or index (production_key j p) 0
      → place ≡ production_place Tree index k b at
  unfolding production_place
  place_name there ej ep ei = cc (lt-leb (length b) at there)

-- production_place
module _ (x : Syntax) (index : List ℕ) (k : ℕ) (b : List ℕ) (at class : ℕ) where
  pub place_class : (class ≡ 0 → ⊥) → 0 ≡ cond (eqb class 0) (production_place x index k b at) 0
  place_class h = simp (ne_eqb class 0 h)

  module _ (none : class ≡ 0) where
    pub place_in_tree : {r : ℕ} → x ≡ Tree → r ≡ production_place Tree index k b at → r ≡ cond (eqb class 0) (production_place x index k b at) 0
    place_in_tree h e = cc (eq-eqb class 0 none)

    pub place_short : x ≡ Code → length b - at < 2 → 0 ≡ cond (eqb class 0) (production_place x index k b at) 0
    unfolding production_place
    place_short h i = let j : length b ≤ at + 1 = omega arith in cc (eq-eqb class 0 none, le-leb (length b) (at + 1) j)

    pub place_sign : x ≡ Code → 2 ≤ length b - at → (get_or b at 0 ≡ 1 → ⊥) → 0 ≡ cond (eqb class 0) (production_place x index k b at) 0
    unfolding production_place
    place_sign h i j =
        let l : at + 1 < length b = omega arith in
        cc (eq-eqb class 0 none, lt-leb (length b) (at + 1) l, ne_eqb (get_or b at 0) 1 j)

    pub place_in_code : {r : ℕ} → x ≡ Code → 2 ≤ length b - at → get_or b at 0 ≡ 1 → r ≡ production_place Tree index k b (at + 1)
        → r ≡ cond (eqb class 0) (production_place x index k b at) 0
    unfolding production_place
    place_in_code h i j e =
        let l : at + 1 < length b = omega arith in cc (eq-eqb class 0 none, lt-leb (length b) (at + 1) l)

-- leaf_at
module _ (s index u : List ℕ) (k : ℕ) (b : List ℕ) (at : ℕ) {x : Syntax} where
  pub leaf_tree : x ≡ Tree → Err Broken ≡ leaf_at x s index u k b at
  unfolding leaf_at
  leaf_tree h = cc

  pub leaf_code : {r : Read} → x ≡ Code → r ≡ code_leaf s index u k b at → r ≡ leaf_at x s index u k b at
  unfolding leaf_at
  leaf_code h e = cc

-- leaf, where no production was found and no token of a class in a tree is to be read
module _ (x : Syntax) (s index u b : List ℕ) (n k at : ℕ) where
  nothing_node : {r : Read} → class_place x index k ≡ 0 → production_place x index k b at ≡ 0 → r ≡ leaf_at x s index u k b at
      → Leaf r ≡ node_at x s index u k b at
  unfolding class_place leaf_at node_at
  nothing_node {r} e h y = go x e h y
    where
      go : (x : Syntax) → class_place x index k ≡ 0 → production_place x index k b at ≡ 0 → r ≡ leaf_at x s index u k b at
          → Leaf r ≡ node_at x s index u k b at
      go Tree e h y = ap Leaf y ∙ tree_nothing Tree s index u b n k at e h
      go Code e h y = ap Leaf y ∙ code_nothing Code s index u b n k at h

  pub leaf_read : {r : Read} {class : ℕ} → (n ≡ 0 → ⊥) → r ≡ leaf_at x s index u k b at → class ≡ class_place x index k → class ≡ 0
      → production_place x index k b at ≡ 0 → r ≡ read_at x s index u b n k at
  leaf_read pos y e z h = read_leaf x s index u b n k at pos (nothing_node (sym e ∙ z) h y) refl

-- No production was found.
pub none_found : (x : Syntax) (index : List ℕ) (k : ℕ) (b : List ℕ) (at : ℕ) {class place : ℕ} → class ≡ 0
    → place ≡ cond (eqb class 0) (production_place x index k b at) 0 → place ≡ 0 → production_place x index k b at ≡ 0
none_found x index k b at {class} z e h = let w : eqb class 0 ≡ true = eq-eqb class 0 z in cc

-- What is known of a result, once its case is known.
pub end_in : {n e : ℕ} (r : Read) → r ≡ Ok e → EndsBy n r → e ≤ n
end_in {n} r y h = rw y at h

pub leaf_in : (s b : List ℕ) (d : Node) (r : Read) → d ≡ Leaf r → NodeIn s b d → EndsBy (length b) r
leaf_in s b d r y h = rw y at h

pub operands_in : (s b : List ℕ) (d : Node) (q e to : ℕ) → d ≡ Operands q e to → NodeIn s b d → (to ≤ length b) × KindsIn s q e
operands_in s b d q e to y h = rw y at h

-- A place that was looked up is that of a whole field.
module _ (index s : List ℕ) (z : Sound index s) {j k : ℕ} (ej : j ≡ k) (kind : k < 32) where
  in_kinds : j < 32
  in_kinds = omega arith

  pub class_in : {place : ℕ} → place ≡ get_or index j 0 → 0 < place → IsClass s (place - 1)
  class_in e h = rw e (z.class j in_kinds (rw e at h))

  module _ {p place : ℕ} (byte : p < 256) (e : place ≡ get_or index (production_key j p) 0) (pos : place ≡ 0 → ⊥) where
    there : 0 < get_or index (production_key j p) 0
    there = omega arith

    pub name_in : (place + 4 ≤ length s) × (length s ≤ 1024)
    name_in = (rw e (z.name j p in_kinds byte there), z.short)

    pub kinds_in : {n : ℕ} → n ≡ pair_at s place → KindsIn s (place + 4) (place + 2 + n)
    kinds_in en = rw (en, e) (z.operands j p in_kinds byte there)

    pub kinds_from : {first last : ℕ} → first ≡ place + 4 → last ≡ place + 2 + pair_at s place → KindsIn s first last
    kinds_from f l = rw (f, l) (kinds_in refl)

-- The class of a token of a tree stands in the language.
pub class_at : (x : Syntax) (s index : List ℕ) {place k : ℕ} → Sound index s → k < 32 → place ≡ class_place x index k → (place ≡ 0 → ⊥)
    → IsClass s (place - 1)
class_at x s index {place} {k} z kind e h =
    let w = in_tree x index k (λ q. h (e ∙ q)) in
    let d : place ≡ get_or index k 0 = e ∙ w.1 in
    let pos : 0 < place = omega arith in
    class_in index s z refl kind d pos

-- A production that was found: its name stands at i, and the node is a name.
pub record Named (x : Syntax) (s index u : List ℕ) (k : ℕ) (b : List ℕ) (at place : ℕ) : Type 0 where
  pub name : ℕ
  pub next : name + 1 ≡ at + name_length x
  pub inside : name < length b
  pub found : place ≡ get_or index (production_key k (get_or b name 0)) 0
  pub node : name_at s index k b name ≡ node_at x s index u k b at

named_by : (x : Syntax) (s index u : List ℕ) (k : ℕ) (b : List ℕ) (at place : ℕ) → class_place x index k ≡ 0
    → place ≡ production_place x index k b at → (place ≡ 0 → ⊥) → Named x s index u k b at place
unfolding class_place production_place node_at tree_node code_node
named_by Tree s index u k b at place none e pos =
    by_test (leb (length b) at)
    (λ t. absurd (pos (cc)))
    (λ t. record { name = at; next = refl; inside = leb-false _ _ t; found = cc; node = cc (eq-eqb (get_or index k 0) 0 none) })
named_by Code s index u k b at place none e pos =
    by_test (leb (length b) (at + 1))
    (λ t. absurd (pos (cc)))
    (λ t.
    by_test (eqb (get_or b at 0) 1)
    (λ u.
    let l = leb-false (length b) (at + 1) t in
    let m : at < length b = omega arith in
    record { name = at + 1; next = omega arith; inside = l; found = cc; node = cc (lt-leb (length b) at m) })
    (λ u. absurd (pos (cc))))

-- A production that was found is a level.
past_named : (x : Syntax) (s index : List ℕ) (k : ℕ) (b : List ℕ) (at place : ℕ) → class_place x index k ≡ 0
    → place ≡ production_place x index k b at → (place ≡ 0 → ⊥) → Err Deep ≡ past_at x s index k b at
unfolding class_place production_place
past_named Tree s index k b at place none e pos = past_name s index k b at refl refl none
past_named Code s index k b at place none e pos =
    by_test (leb (length b) (at + 1))
    (λ t. absurd (pos (cc)))
    (λ t.
    by_test (eqb (get_or b at 0) 1)
    (λ u.
    let l = leb-false (length b) (at + 1) t in
    let m : at < length b = omega arith in
    let one = eqb-true (get_or b at 0) 1 u in
    past_other s index k b at m (λ w. omega (arith, one, w)))
    (λ u. absurd (pos (cc))))

module _ (x : Syntax) (s index u : List ℕ) (k : ℕ) (b : List ℕ) (at : ℕ) {class place : ℕ} (ec : class ≡ class_place x index k) (ep : place ≡ cond (eqb class 0) (production_place x index k b at) 0) (pos : place ≡ 0 → ⊥) where
  pub named : Named x s index u k b at place
  named =
      by_test (eqb class 0)
      (λ t. named_by x s index u k b at place (sym ec ∙ eqb-true class 0 t) (ep ∙ ap (λ (u : Bool). cond u (production_place x index k b at) 0) t) pos)
      (λ t. absurd (pos (ep ∙ ap (λ (u : Bool). cond u (production_place x index k b at) 0) t)))

  -- The node that was found, and where its operands and their kinds stand.
  pub named_node : {first last m : ℕ} → first ≡ place + 4 → last ≡ place + 2 + pair_at s place → m ≡ name_length x → Operands first last (at + m) ≡ node_at x s index u k b at
  named_node {first} {last} f l d =
      ap (λ (j : ℕ). Operands first last j) (ap (λ (j : ℕ). at + j) d ∙ sym named.next)
      ∙ (name_known s index k b named.name named.inside refl refl named.found pos f l ∙ named.node)

  pub named_past : Err Deep ≡ past_at x s index k b at
  named_past =
      by_test (eqb class 0)
      (λ t. past_named x s index k b at place (sym ec ∙ eqb-true class 0 t) (ep ∙ ap (λ (u : Bool). cond u (production_place x index k b at) 0) t) pos)
      (λ t. absurd (pos (ep ∙ ap (λ (u : Bool). cond u (production_place x index k b at) 0) t)))

  module _ (z : Sound index s) (kind : k < 32) (bytes : (i : ℕ) → get_or b i 0 < 256) where
    pub named_in : (place + 4 ≤ length s) × (length s ≤ 1024)
    named_in = name_in index s z refl kind (bytes named.name) named.found pos

    pub named_kinds : {first last : ℕ} → first ≡ place + 4 → last ≡ place + 2 + pair_at s place → KindsIn s first last
    named_kinds = kinds_from index s z refl kind (bytes named.name) named.found pos

  pub named_end : {m : ℕ} → m ≡ name_length x → at + m ≤ length b
  named_end d = omega (arith, named.next, named.inside)
