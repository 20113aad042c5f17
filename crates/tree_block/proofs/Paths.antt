-- The descent along a path: a law for each return and turn of `descend`.
use Prim.Native.Nat.{ℕ, ◌+◌, ◌<◌, ◌≤◌}
use mathlib.Core.Path.{◌≡◌, refl, sym, ap, ◌∙◌}
use mathlib.Core.Bool.{Bool, true, false}
use mathlib.Core.List.{List, [], ◌∷◌}
use mathlib.Core.Option.{none, some}
use native.Mathlib.Omega.{arith}
use lib.ListN.{length, get_or, drop, drop_of_length-le}
use Rattle.format_fields.specs.Lists.{all, count_up}
use Rattle.format_fields.proofs.Split.{front}
use Rattle.format_fields.proofs.Truth.{all_mem, mem_count}
use Rattle.format_language.specs.Language.{Language}
use Rattle.tree_reader.specs.Code.{Code}
use Rattle.tree_index.proofs.Rows.{there_ready}
use Rattle.tree_block.specs.Blocks.{Block, block_of, argument_of, reached, nowhere, hidden, block_at, every_kind}
use Rattle.format_card.specs.Inner.Sets.{in_set}
use Rattle.tree_block.specs.Inner.Descent.{SetOf, Along, Leads, Ends}
use Rattle.tree_block.specs.Operations.{found}
use Rattle.tree_block.specs.declared.descent.BlockAt.{BlockAt}
use Rattle.outcome.specs.declared.Reason.TheVariants.{NoBlock, Hidden}
use Rattle.std.specs.Prelude.{Some, None, Ok, Err}

-- The set of all kinds.
pub every_kind_lem : SetOf 4294967295 every_kind
unfolding in_set all count_up
every_kind_lem k h = all_mem (in_set 4294967295) (count_up 32 0) refl k (mem_count 32 0 k (omega arith) h)

-- A block whose kind may not be seen, and a step of a path from one that may.
pub unseen_hidden : (sees : ℕ → Bool) (l : Language) (path : List ℕ) (b : Block) → sees b.kind ≡ false → block_at sees l path b ≡ hidden
unfolding block_at
unseen_hidden sees l [] b h = rw h
unseen_hidden sees l (i ∷ path) b h = cc

module _ (sees : ℕ → Bool) (l : Language) (b : Block) (seen : sees b.kind ≡ true) where
  pub path_ends : block_at sees l [] b ≡ reached b
  unfolding block_at
  path_ends = rw seen

  pub step_stops : (i : ℕ) (path : List ℕ) → argument_of l b.start b.subtree i ≡ none → block_at sees l (i ∷ path) b ≡ nowhere
  unfolding block_at
  step_stops i path e = cc

  pub step_leads : (i : ℕ) (path : List ℕ) {c : Block} → argument_of l b.start b.subtree i ≡ some c → block_at sees l (i ∷ path) b ≡ block_at sees l path c
  unfolding block_at
  step_leads i path e = cc

-- The descent stands at a block from where the rest of the path leads on.
pub record Going (x s b i path : List ℕ) (kind : ℕ) (block : BlockAt) (j : ℕ) (l : Language) (t : Code) (sees : ℕ → Bool) : Type 0 where
  pub subtree : Code
  pub along : Along x s b i block.start block.kind block.entry l subtree
  pub same : block_at sees l (drop j path) (block_of block.start block.kind subtree) ≡ block_at sees l path (block_of 0 kind t)

pub along_kind : {x s b i : List ℕ} {at k p : ℕ} {l : Language} {t : Code} → Along x s b i at k p l t → k < 32
along_kind {x} {s} {b} {i} {at} {k} {p} {l} {t} w = (there_ready x s b at k l t w.there).kind

module _ {x s b i path : List ℕ} {kind : ℕ} {block : BlockAt} {j : ℕ} {l : Language} {t : Code} {sees : ℕ → Bool} (w : Going x s b i path kind block j l t sees) where
  abbrev here : Block
  here = block_of block.start block.kind w.subtree

  module _ (set : ℕ) (known : SetOf set sees) where
    kind_seen : in_set set block.kind ≡ sees block.kind
    kind_seen = known block.kind (along_kind w.along)

    pub path_hidden : false ≡ in_set set block.kind → Ends x s b i l (block_at sees l path (block_of 0 kind t)) (Err Hidden)
    path_hidden e = ap found (sym w.same ∙ unseen_hidden sees l (drop j path) here (sym (e ∙ kind_seen)))

    module _ (e : true ≡ in_set set block.kind) where
      seen : sees block.kind ≡ true
      seen = sym (e ∙ kind_seen)

      pub path_done : length path ≤ j → Ends x s b i l (block_at sees l path (block_of 0 kind t)) (Ok block)
      path_done h = (
        w.subtree,
        sym w.same ∙ (ap (λ (v : List ℕ). block_at sees l v here) (drop_of_length-le path {i = j} h) ∙ path_ends sees l here seen),
        w.along,
      )

      module _ (more : j < length path) where
        opened : block_at sees l (get_or path j 0 ∷ drop (j + 1) path) here ≡ block_at sees l path (block_of 0 kind t)
        opened = ap (λ (v : List ℕ). block_at sees l v here) (sym (front path j more)) ∙ w.same

        pub path_stops : Leads x s b i l (argument_of l block.start w.subtree (get_or path j 0)) None
            → Ends x s b i l (block_at sees l path (block_of 0 kind t)) (Err NoBlock)
        path_stops h = ap found (sym opened ∙ step_stops sees l here seen (get_or path j 0) (drop (j + 1) path) h)

        pub path_next : {next : BlockAt} → Leads x s b i l (argument_of l block.start w.subtree (get_or path j 0)) (Some next)
            → Going x s b i path kind next (j + 1) l t sees
        path_next z = record {
          subtree = z.0;
          along = z.2;
          same = sym (step_leads sees l here seen (get_or path j 0) (drop (j + 1) path) z.1) ∙ opened;
        }
