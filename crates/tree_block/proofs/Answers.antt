-- The operation that shows a block: a law for each return.
use Prim.Native.Nat.{ℕ, ◌+◌, ◌<◌, ◌≤◌}
use mathlib.Core.Path.{◌≡◌, refl, sym, ap, ◌∙◌}
use mathlib.Core.List.{List}
use mathlib.Core.Option.{some}
use native.Mathlib.Omega.{arith}
use lib.ListN.{length, get_or}
use Rattle.std.specs.Prelude.{Err, Ok}
use Rattle.std.specs.Prelude.{Result as Answered}
use Rattle.format_fields.specs.Fields.{pair_at}
use Rattle.outcome.specs.Outcome.{Result, value, refused, number_of, length_of, Outcome}
use Rattle.outcome.specs.declared.Reason.{Reason}
use Rattle.format_language.specs.Language.{Language}
use Rattle.format_language.specs.LanguageFile.{entries_of}
use Rattle.tree_reader.specs.Code.{Code}
use Rattle.tree_reader.specs.Syntax.{write, tree}
use Rattle.tree_reader.specs.Inner.Index.{Indexed}
use Rattle.tree_index.specs.Spans.{size}
use Rattle.tree_index.specs.Operations.{check_indexed}
use Rattle.tree_index.proofs.Lying.{past_inside, part_is}
use Rattle.tree_index.proofs.Pairs.{Entry}
use Rattle.tree_index.proofs.Starts.{entered_own, own_entered}
use Rattle.tree_index.proofs.Owning.{Owned, accepted_own, refused_own, owned_small, owned_there}
use Rattle.tree_block.specs.Blocks.{Block, block_of, block_at, every_kind}
use Rattle.tree_block.specs.Operations.{found, find_block, shown, show_block}
use Rattle.tree_block.specs.Parts.{LiesAt, Finds, Places, Told}
use Rattle.tree_block.specs.Inner.Descent.{Along}
use Rattle.tree_block.specs.declared.show.Placed.{Placed}
use Rattle.tree_block.specs.declared.show.Spot.{Spot}

-- A block that the descent stands at, and its place.
module _ {x s b i : List ℕ} {at k p : ℕ} {l : Language} {t : Code} (w : Along x s b i at k p l t) where
  own_entry : (v : List ℕ) × Entry i p at (size t) v
  own_entry = entered_own i p at t w.entered

  pub entry_there : p + 4 ≤ length i
  entry_there = own_entry.1.inside

  pub spot_at : {r : Spot} → r.start ≡ at → r.size ≡ pair_at i (p + 2) → r.kind ≡ k → LiesAt (shown (value (block_of at k t))) b r
  spot_at {r} es ez ek =
      let v = w.there.lies in
      let y : r.size ≡ size t = ez ∙ own_entry.1.long in
      let e = past_inside b at (write tree t) v.rest v.inside v.is in
      record {
        outcome = ap Ok (sym y);
        start = es;
        size = y;
        kind = ek;
        inside = omega arith;
        bytes = rw (es, y) (part_is b at (write tree t) v.rest v.inside v.is);
      }

-- find
module _ (s : List ℕ) (root : ℕ) (b i : List ℕ) {o : Outcome} (eo : o ≡ check_indexed s root b i) where
  pub find_refused : (path : List ℕ) {x : Reason} → o ≡ Err x → Finds (show_block s root b i path) b (Err x)
  unfolding show_block find_block
  find_refused path q = ap shown (refused_own s root b i (λ l t. found (block_at every_kind l path (block_of 0 root t))) (sym eo ∙ q))

  module _ {n : ℕ} (accepted : o ≡ Ok n) where
    pub owned : Owned s root b i
    owned = accepted_own s root b i (sym eo ∙ accepted)

    pub root_small : root < 32
    root_small = owned_small s root b i owned.language owned.subject owned.by

    module _ (places : List ℕ) (bytes : (j : ℕ) → get_or b j 0 < 256)
        (indexed : (m : ℕ) (l : Language) → o ≡ Ok m → entries_of s ≡ some l → Indexed places s l) where
      pub tree_along : Along places s b i 0 root 0 owned.language owned.subject
      tree_along = record {
        there = owned_there s root b i owned.language owned.subject owned.by places bytes (λ l e. indexed n l accepted e);
        entered = own_entered i owned.subject owned.by.own;
        short = owned.by.short;
      }

      pub find_found : (path : List ℕ) (p : Answered Spot Reason) → Finds (shown (found (block_at every_kind owned.language path (block_of 0 root owned.subject)))) b p
          → Finds (show_block s root b i path) b p
      unfolding show_block find_block
      find_found path p w = let c = owned in rw (c.by.is, c.by.indexed_is) w

-- A place, told by numbers.
shown_length : (m : Result Block) → length_of (shown m).outcome ≡ length (shown m).bytes
shown_length (value b) = refl
shown_length (refused r) = refl

module _ (s : List ℕ) (root : ℕ) (b i path : List ℕ) (r : Placed) (w : Places (show_block s root b i path) b r) where
  block_length : length_of (show_block s root b i path).outcome ≡ length (show_block s root b i path).bytes
  unfolding show_block
  block_length = shown_length (find_block s root b i path)

  pub tells : (n m : ℕ) → n ≡ number_of r.outcome → m ≡ length_of r.outcome → Told (show_block s root b i path) b n r.start m r.kind
  tells n m en em =
      let d = show_block s root b i path in
      let y : m ≡ length_of d.outcome = em ∙ ap length_of w.outcome in
      let z : m ≡ length d.bytes = y ∙ block_length in
      record {
        number_is = en ∙ ap number_of w.outcome;
        start_is = w.start;
        long_is = y;
        kind_is = w.kind;
        inside = omega (arith, w.start, w.stop, w.inside);
        bytes = rw (z, w.start) w.bytes;
      }
