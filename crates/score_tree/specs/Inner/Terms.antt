-- What the functions that work out the form of a code ask for and give.
use Rattle.std.specs.Prelude.{ℕ, ◌+◌, ◌<◌, ◌≤◌, ◌≡◌, true, false, cond, List, length, get_or, eqb, ℤ, pos, nat_abs, ◌+ℤ◌, ◌*ℤ◌, Option, Some, None, ⊤}
use Rattle.std.proofs.Math.Option.{none, some}
use Rattle.format_fields.specs.Fields.{pair_at}
use Rattle.format_language.specs.Language.{Language, range_of, arguments_of, production_key}
use Rattle.tree_reader.specs.Code.{Code, Codes, levels, levels_all}
use Rattle.tree_reader.specs.Typing.{Uses, kind_at, Typed, TypedAll}
use Rattle.tree_reader.specs.Syntax.{code, write, write_all}
use Rattle.tree_reader.specs.Inner.Index.{Indexed}
use Rattle.run_table.specs.Inner.Stands.{Stands}
use Rattle.score_tree.specs.declared.loaded.Loaded.{Loaded}
use Rattle.score_tree.specs.Figures.{is_figure}
use Rattle.score_tree.specs.Linear.{Loads, constant, used, form, passes}
use Rattle.score_tree.specs.Inner.Kept.{Small, figures_length}

-- The bytes of a code, and of codes.
abbrev pub bytes_of : Code → List ℕ
bytes_of u = write code u

abbrev pub all_bytes : Codes → List ℕ
all_bytes ts = write_all code ts

-- The index and the figures are those of language l and of loads w, by the language's bytes s.
pub record World (s index : List ℕ) (figures : List ℤ) (l : Language) (w : Loads) : Type 0 where
  pub indexed : Indexed index s l
  pub apart : (k p : ℕ) (ks : List ℕ) → arguments_of l k p ≡ some ks → range_of l k ≡ none
  pub small : Small figures
  pub long : length figures ≡ figures_length
  pub is : (k p : ℕ) (ks : List ℕ) → k < 32 → p < 256 → arguments_of l k p ≡ some ks → (i : ℕ) → i ≤ length ks
      → get_or figures (get_or index (production_key k p) 0 + 3 + i) (pos 0) ≡ w k p i
  pub sized : (k p : ℕ) (ks : List ℕ) → k < 32 → p < 256 → arguments_of l k p ≡ some ks
      → (pair_at s (get_or index (production_key k p) 0) ≡ length ks + 2) × (length ks ≤ 8)

-- The kinds ks stand in the language from q on.
pub record KindsAt (s : List ℕ) (q : ℕ) (ks : List ℕ) : Type 0 where
  pub inside : q + length ks ≤ length s
  pub is : (i : ℕ) → i < length ks → (get_or s (q + i) 0 ≡ get_or ks i 0) × (get_or ks i 0 < 32)

-- Production p of kind k, with arguments of the kinds ks, has its field before `place` in the language, and its figures there.
pub record ProductionAt (s : List ℕ) (figures : List ℤ) (place : ℕ) (w : Loads) (k p : ℕ) (ks : List ℕ) : Type 0 where
  pub there : place + 4 ≤ length s
  pub size : pair_at s place ≡ length ks + 2
  pub few : length ks ≤ 8
  pub kinds : KindsAt s (place + 4) ks
  pub figures_are : (i : ℕ) → i ≤ length ks → get_or figures (place + 3 + i) (pos 0) ≡ w k p i

-- Arguments are used by number 0 only.
abbrev pub Plain : Uses → Type 0
Plain given = (i j k : ℕ) → kind_at given i j ≡ some k → j ≡ 0

-- The code u of kind k stands in the input from `at` on, and has no more levels than are left.
pub record TermAsks (d : Loaded) (b : List ℕ) (k at left : ℕ) (l : Language) (given : Uses) (w : Loads) (u : Code) : Type 0 where
  pub world : World d.language.now d.index.now d.figures.now l w
  pub plain : Plain given
  pub typed : Typed l given u k
  pub kind : k < 32
  pub stands : Stands b at (bytes_of u)
  pub levels : levels u ≤ left

-- The operands ts of production p of kind k, whose field stands before `place` in the language, stand in the input from `at`
-- on.
pub record NodeAsks (d : Loaded) (place : ℕ) (b : List ℕ) (at left : ℕ) (l : Language) (given : Uses) (w : Loads) (k p : ℕ) (ts : Codes) (ks : List ℕ) : Type 0 where
  pub world : World d.language.now d.index.now d.figures.now l w
  pub plain : Plain given
  pub production : ProductionAt d.language.now d.figures.now place w k p ks
  pub typed : TypedAll l given ts ks
  pub stands : Stands b at (all_bytes ts)
  pub levels : levels_all ts ≤ left

-- How long the leaf at `at` is: a token, or an argument.
abbrev pub leaf_size : List ℕ → ℕ → ℕ
leaf_size b at = cond (eqb (get_or b at 0) 2) 3 2

-- What place j of its form is.
unfoldable pub leaf_form : List ℕ → ℕ → ℕ → ℤ
leaf_form b at j = cond (eqb (get_or b at 0) 2) (constant (pos (pair_at b (at + 1))) j) (used (get_or b (at + 1) 0) j)

-- The leaf at `at` is inside, and the arguments are counted from 1.
pub record LeafIn (b : List ℕ) (at : ℕ) : Type 0 where
  pub inside : at + leaf_size b at ≤ length b
  pub counted : (get_or b at 0 ≡ 2 → ⊥) → 0 < get_or b (at + 1) 0

-- So many places are asked for, a factor is a figure, and what stands in the sum leaves room for what is added.
pub record Asked (factor : ℤ) (count : ℕ) (sum : List ℤ) : Type 0 where
  pub long : length sum ≡ 9
  pub some : 0 < count
  pub few : count ≤ 9
  pub small : nat_abs factor ≤ 32768
  pub room : (j : ℕ) → nat_abs (get_or sum j (pos 0)) ≤ 40000000000000000

-- A factor times each of the first places was added to a sum.
pub record Added (place : ℕ → ℤ) (factor : ℤ) (count : ℕ) (before after : List ℤ) : Type 0 where
  pub long : length after ≡ length before
  pub sums : (j : ℕ) → j < count → get_or after j (pos 0) ≡ get_or before j (pos 0) +ℤ factor *ℤ place j
  pub others : (j : ℕ) → count ≤ j → get_or after j (pos 0) ≡ get_or before j (pos 0)
  pub near : (j : ℕ) → j < count → nat_abs (place j) ≤ 65535

-- The form of the leaf at `at`, which ends at r, was added.
pub record AddsLeaf (b : List ℕ) (at : ℕ) (factor : ℤ) (count : ℕ) (before after : List ℤ) (r : ℕ) : Type 0 where
  pub end : r ≡ at + leaf_size b at
  pub added : Added (leaf_form b at) factor count before after

-- The places of a row were added, if each fits two bytes.
pub record AddsRow (row : List ℤ) (factor : ℤ) (count : ℕ) (before after : List ℤ) (r : Option ⊤) : Type 0 where
  pub done : (u : ⊤) → r ≡ Some u → ((j : ℕ) → j < count → is_figure (get_or row j (pos 0)) ≡ true) × Added (λ j. get_or row j (pos 0)) factor count before after
  pub outside : r ≡ None → (j : ℕ) × (j < count) × (is_figure (get_or row j (pos 0)) ≡ false)

-- The form of code u, which ends at `end`, was added, if each of its places fits two bytes at each production.
pub record Adds (w : Loads) (u : Code) (factor : ℤ) (count : ℕ) (before after : List ℤ) (end : ℕ) (r : Option ℕ) : Type 0 where
  pub done : (e : ℕ) → r ≡ Some e → (e ≡ end) × ((j : ℕ) → j < count → passes is_figure w u j ≡ true) × Added (form w u) factor count before after
  pub outside : r ≡ None → (j : ℕ) × (j < count) × (passes is_figure w u j ≡ false)
