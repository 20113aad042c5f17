-- A path can be extended by the numbers of the arguments that are told, and by no other.
use Rattle.std.specs.Prelude.{Ok}
use Prim.Native.Nat.{ℕ, zero, suc, ◌+◌, ◌≤◌, ◌<◌}
use mathlib.Core.Path.{◌≡◌, refl, ap, ◌∙◌}
use mathlib.Core.Logic.{◌⊎◌, inl, inr}
use mathlib.Core.List.{List, [], ◌∷◌, ◌++◌}
use mathlib.Core.Option.{Option, none, some, get_or}
use native.Mathlib.Omega.{arith}
use lib.ListN.{length}
use Rattle.outcome.specs.Outcome.{Result, value, refused}
use Rattle.format_fields.proofs.Codec.{step_value}
use Rattle.check_operations.proofs.Opening.{unaccepted}
use Rattle.format_language.specs.Language.{Language, arguments_of}
use Rattle.format_language.specs.LanguageFile.{language_of}
use Rattle.tree_reader.specs.Code.{Code, Codes, nil, cons}
use Rattle.tree_reader.specs.Syntax.{write, tree}
use Rattle.tree_reader.specs.Typing.{Typed, typed_node, typed_token, typed_argument}
use Rattle.tree_index.specs.Operations.{indexed_tree}
use Rattle.tree_block.specs.Blocks.{Block, block_of, argument_after, argument_of, reached, nowhere, block_at, every_kind}
use Rattle.tree_block.specs.Operations.{found, find_block}
use Rattle.tree_block.proofs.Legal.{found_reached, blocks_are_legal}
use Rattle.tree_block.proofs.Paths.{path_ends, step_stops, step_leads}
use Rattle.tree_block.proofs.Reaching.{reached_inj, nowhere_reached}
use Rattle.tree_node.specs.Nodes.{count, argument_count}
use Rattle.tree_node.specs.Operations.{node_shown, show_node}
use Rattle.tree_node.specs.Laws.{NumbersAreArguments}
use Rattle.tree_node.proofs.Shapes.{as_many, no_use}

-- A path goes on from the block that it has reached.
module _ (l : Language) (b : Block) (more : List ℕ) where
  step_on : (path : List ℕ) (o : Option Block) → ((c : Block) → block_at every_kind l path c ≡ reached b → block_at every_kind l (path ++ more) c ≡ block_at every_kind l more b)
      → (elim o [ none ↦ nowhere | some c ↦ block_at every_kind l path c ]) ≡ reached b
      → (elim o [ none ↦ nowhere | some c ↦ block_at every_kind l (path ++ more) c ]) ≡ block_at every_kind l more b
  step_on path none ih h = nowhere_reached h
  step_on path (some c) ih h = ih c h

  path_on : (path : List ℕ) (a : Block) → block_at every_kind l path a ≡ reached b → block_at every_kind l (path ++ more) a ≡ block_at every_kind l more b
  unfolding block_at
  path_on [] a h = ap (block_at every_kind l more) (reached_inj h)
  path_on (i ∷ path) a h = step_on path (argument_of l a.start a.subtree i) (λ c g. path_on path c g) h

-- Of so many arguments there are the first, the second and so on, and no more.
argument_some : (ks : List ℕ) (ts : Codes) (n start : ℕ) → count ts ≡ length ks → n < count ts → (c : Block) × (argument_after ks ts n start ≡ some c)
unfolding argument_after count
argument_some [] nil n start e h = absurd (omega arith)
argument_some [] (cons t ts) n start e h = absurd (omega arith)
argument_some (k ∷ ks) nil n start e h = absurd (omega arith)
argument_some (k ∷ ks) (cons t ts) zero start e h = (block_of start k t, refl)
argument_some (k ∷ ks) (cons t ts) (suc n) start e h = argument_some ks ts n (start + length (write tree t)) (omega arith) (omega arith)

argument_none : (ks : List ℕ) (ts : Codes) (n start : ℕ) → count ts ≤ n → argument_after ks ts n start ≡ none
unfolding argument_after count
argument_none [] ts n start h = refl
argument_none (k ∷ ks) nil n start h = refl
argument_none (k ∷ ks) (cons t ts) zero start h = absurd (omega arith)
argument_none (k ∷ ks) (cons t ts) (suc n) start h = argument_none ks ts n (start + length (write tree t)) (omega arith)

module _ {l : Language} (start : ℕ) where
  numbered_some : {t : Code} {k : ℕ} → Typed l [] t k → (i : ℕ) → 1 ≤ i → i ≤ argument_count t → (c : Block) × (argument_of l start t i ≡ some c)
  unfolding argument_of
  numbered_some (typed_node e w) zero h g = absurd (omega arith)
  numbered_some (typed_node {t = ts} {ks = ks} e w) (suc n) h g = rw e (argument_some ks ts n (start + 1) (as_many w) (omega arith))
  numbered_some (typed_token e w) i h g = absurd (omega arith)
  numbered_some (typed_argument {i = a} {j = m} e) i h g = no_use a m e

  numbered_none : {t : Code} {k : ℕ} → Typed l [] t k → (i : ℕ) → (i ≡ 0) ⊎ (argument_count t < i) → argument_of l start t i ≡ none
  unfolding argument_of
  numbered_none (typed_node e w) zero h = refl
  numbered_none (typed_node {k = k} {p = p} {t = ts} e w) (suc n) (inl h) = absurd (omega arith)
  numbered_none (typed_node {k = k} {p = p} {t = ts} e w) (suc n) (inr h) = argument_none (get_or (arguments_of l k p) []) ts n (start + 1) (omega arith)
  numbered_none (typed_token e w) i h = refl
  numbered_none (typed_argument e) i h = refl

accepted_block : (m : Result Block) → (node_shown m).outcome ≡ Ok 0 → (b : Block) × (m ≡ value b)
accepted_block (value b) e = (b, refl)
accepted_block (refused r) e = unaccepted {n = 0} refl e

found_by : (language : List ℕ) (root : ℕ) (bytes index path : List ℕ) (l : Language) (t : Code) → language_of language ≡ value l
    → indexed_tree l root bytes index ≡ value t → find_block language root bytes index path ≡ found (block_at every_kind l path (block_of 0 root t))
unfolding find_block
found_by language root bytes index path l t e f = rw (e, f)

pub numbers_are_arguments : NumbersAreArguments
unfolding show_node find_block
numbers_are_arguments language root bytes index path i byte accepted =
    let f = accepted_block (find_block language root bytes index path) accepted in
    let b = f.0 in
    let l = step_value (language_of language) _ f.1 in
    let t = step_value (indexed_tree l.0 root bytes index) _ l.2 in
    let legal = blocks_are_legal language root bytes index path l.0 b byte l.1 f.1 in
    let on : block_at every_kind l.0 (path ++ i ∷ []) (block_of 0 root t.0) ≡ block_at every_kind l.0 (i ∷ []) b = path_on l.0 b (i ∷ []) path (block_of 0 root t.0) (found_reached _ b t.2) in
    let same : find_block language root bytes index (path ++ i ∷ []) ≡ found (block_at every_kind l.0 (i ∷ []) b) = found_by language root bytes index (path ++ i ∷ []) l.0 t.0 l.1 t.1 ∙ ap found on in
    let many : (node_shown (find_block language root bytes index path)).arguments ≡ argument_count b.subtree = ap (λ (m : Result Block). (node_shown m).arguments) f.1 in (
      (λ h g.
          let c = numbered_some b.start legal.typed i h (rw many at g) in
          ap (λ (m : Result Block). (node_shown m).outcome) (same ∙ ap found (step_leads every_kind l.0 b refl i [] c.1 ∙ path_ends every_kind l.0 c.0 refl))),
      λ h.
          ap (λ (m : Result Block). (node_shown m).outcome) (same ∙ ap found (step_stops every_kind l.0 b refl i [] (numbered_none b.start legal.typed i (rw many at h)))),
    )
