-- A block that is reached lies in the bytes of the tree.
use Prim.Native.Nat.{ℕ, zero, suc, ◌+◌}
use mathlib.Core.Path.{◌≡◌, refl, sym, ap, ◌∙◌}
use mathlib.Core.Bool.{Bool, true, false, cond}
use mathlib.Core.List.{List, [], ◌∷◌}
use mathlib.Core.Option.{Option, none, some, get_or}
use native.Mathlib.Omega.{arith}
use lib.ListN.{length}
use Rattle.format_fields.proofs.Truth.{none_some, some_inj}
use Rattle.format_language.specs.Language.{Language}
use Rattle.tree_reader.specs.Code.{Code, Codes, nil, cons}
use Rattle.tree_reader.specs.Typing.{Typed, typed_node, typed_token, typed_argument}
use Rattle.tree_reader.specs.Syntax.{write, tree}
use Rattle.tree_index.specs.Inner.Lying.{Lies, LieAll}
use Rattle.tree_index.proofs.Lying.{node_lies, head_lies, tail_lie}
use Rattle.tree_block.specs.Blocks.{Block, argument_after, argument_of, Reached, reached, nowhere, hidden, block_at, every_kind}

-- A block that is an argument lies in the bytes.
module _ (l : Language) (b : List ℕ) (c : Block) where
  after_lies : (ks : List ℕ) (ts : Codes) (n at : ℕ) → LieAll l b at ks ts → argument_after ks ts n at ≡ some c → Lies l b c.start c.kind c.subtree
  unfolding argument_after
  after_lies [] ts n at h e = none_some e
  after_lies (k ∷ ks) nil n at h e = none_some e
  after_lies (k ∷ ks) (cons t ts) zero at h e = rw (← (some_inj e)) (head_lies l b at k ks t ts h)
  after_lies (k ∷ ks) (cons t ts) (suc n) at h e = after_lies ks ts n (at + length (write tree t)) (tail_lie l b at k ks t ts h) e

  typed_lies : (at k : ℕ) (t : Code) (i : ℕ) → Typed l [] t k → Lies l b at k t → argument_of l at t i ≡ some c → Lies l b c.start c.kind c.subtree
  unfolding argument_of
  typed_lies at k t zero (typed_node e w) h q = none_some q
  typed_lies at k t (suc n) (typed_node {p = p} {t = ts} {ks = ks} e w) h q =
      after_lies ks ts n (at + 1) (node_lies l b at k p ts h ks e w)
      (sym (ap (λ (o : Option (List ℕ)). argument_after (get_or o []) ts n (at + 1)) e) ∙ q)
  typed_lies at k t i (typed_token e w) h q = none_some q
  typed_lies at k t i (typed_argument e) h q = none_some q

  pub argument_lies : (at k : ℕ) (t : Code) (i : ℕ) → Lies l b at k t → argument_of l at t i ≡ some c → Lies l b c.start c.kind c.subtree
  argument_lies at k t i h q = typed_lies at k t i h.typed h q

-- Answers of a path.
pub reached_inj : {b c : Block} → reached b ≡ reached c → b ≡ c
reached_inj e = cc

pub not_reached : {A : Type 0} {b : Block} (d : Reached) → d ≡ hidden → d ≡ reached b → A
not_reached d e f = let z : ◌≡◌ {A = ℕ} 0 1 = cc in absurd (omega arith)

pub nowhere_reached : {A : Type 0} {b : Block} → nowhere ≡ reached b → A
nowhere_reached e = let z : ◌≡◌ {A = ℕ} 0 1 = cc in absurd (omega arith)

cond_reached : (t : Bool) (b c : Block) → cond t (reached b) hidden ≡ reached c → b ≡ c
cond_reached true b c e = reached_inj e
cond_reached false b c e = not_reached hidden refl e

-- So does the block at a path.
pub path_lies : (sees : ℕ → Bool) (l : Language) (b : List ℕ) (c : Block) (path : List ℕ) (a : Block) → Lies l b a.start a.kind a.subtree
    → block_at sees l path a ≡ reached c → Lies l b c.start c.kind c.subtree
unfolding block_at
path_lies sees l b c [] a h e = rw (← (cond_reached (sees a.kind) a c e)) h
path_lies sees l b c (i ∷ path) a h e =
    see (sees a.kind) (argument_of l a.start a.subtree i) (λ d q f. path_lies sees l b c path d (argument_lies l b d a.start a.kind a.subtree i h q) f) e
  where
    go : (o : Option Block) → ((d : Block) → o ≡ some d → block_at sees l path d ≡ reached c → Lies l b c.start c.kind c.subtree)
        → elim o [ none ↦ nowhere | some d ↦ block_at sees l path d ] ≡ reached c → Lies l b c.start c.kind c.subtree
    go none g f = nowhere_reached f
    go (some d) g f = g d refl f

    see : (t : Bool) (o : Option Block) → ((d : Block) → o ≡ some d → block_at sees l path d ≡ reached c → Lies l b c.start c.kind c.subtree)
        → elim t [ false ↦ hidden | true ↦ elim o [ none ↦ nowhere | some d ↦ block_at sees l path d ] ] ≡ reached c → Lies l b c.start c.kind c.subtree
    see true o g f = go o g f
    see false o g f = not_reached hidden refl f

-- A block that is reached where some kinds may be seen is reached where all may be.
pub seen_reached : (sees : ℕ → Bool) (l : Language) (c : Block) (path : List ℕ) (a : Block) → block_at sees l path a ≡ reached c → block_at every_kind l path a ≡ reached c
unfolding block_at
seen_reached sees l c [] a e = ap reached (cond_reached (sees a.kind) a c e)
seen_reached sees l c (i ∷ path) a e = see (λ d f. seen_reached sees l c path d f) (sees a.kind) (argument_of l a.start a.subtree i) e
  where
    go : ((d : Block) → block_at sees l path d ≡ reached c → block_at every_kind l path d ≡ reached c) → (o : Option Block)
        → elim o [ none ↦ nowhere | some d ↦ block_at sees l path d ] ≡ reached c → elim o [ none ↦ nowhere | some d ↦ block_at every_kind l path d ] ≡ reached c
    go g none f = nowhere_reached f
    go g (some d) f = g d f

    see : ((d : Block) → block_at sees l path d ≡ reached c → block_at every_kind l path d ≡ reached c) → (t : Bool) (o : Option Block)
        → elim t [ false ↦ hidden | true ↦ elim o [ none ↦ nowhere | some d ↦ block_at sees l path d ] ] ≡ reached c
        → elim o [ none ↦ nowhere | some d ↦ block_at every_kind l path d ] ≡ reached c
    see g true o f = go g o f
    see g false o f = not_reached hidden refl f
