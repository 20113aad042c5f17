-- Every block that is shown is a legal tree of its kind and a part of the tree; the empty path gives the whole tree.
use Prim.Native.Nat.{ℕ}
use mathlib.Core.Path.{◌≡◌, refl, sym, ap, ◌∙◌}
use mathlib.Core.List.{List, [], append-nil}
use Rattle.outcome.specs.Outcome.{value}
use Rattle.format_fields.proofs.Codec.{refused_value, value_inj, step_value}
use Rattle.format_language.specs.Language.{Language}
use Rattle.format_language.specs.LanguageFile.{language_of}
use Rattle.tree_reader.specs.Syntax.{done, read, tree}
use Rattle.tree_reader.specs.Operations.{tree_levels}
use Rattle.tree_reader.proofs.Larger.{apart}
use Rattle.tree_reader.proofs.RoundTrip.{round, as_tree}
use Rattle.check_operations.proofs.Legal.{tree_of_lem}
use Rattle.tree_block.specs.Blocks.{Block, block_of, bytes_of, Reached, reached, nowhere, hidden, block_at, every_kind}
use Rattle.tree_block.specs.Operations.{found, find_block}
use Rattle.tree_block.specs.Legal.{LegalPart, BlocksAreLegal, EmptyPathIsWhole}
use Rattle.tree_index.specs.Operations.{indexed_tree}
use Rattle.tree_index.specs.Inner.Lying.{Lies}
use Rattle.tree_index.proofs.Lying.{past_inside, part_is}
use Rattle.check_operations.proofs.Opening.{language_facts}
use Rattle.tree_index.proofs.Checking.{tree_bytes, tree_lies}
use Rattle.tree_index.proofs.Owning.{Owned, indexed_owned}
use Rattle.tree_block.proofs.Reaching.{reached_inj, path_lies}

pub found_reached : (o : Reached) (b : Block) → found o ≡ value b → o ≡ reached b
found_reached (reached c) b e = ap reached (value_inj e)
found_reached nowhere b e = refused_value e
found_reached hidden b e = refused_value e

-- The tree that a block was found in.
record In (language : List ℕ) (root : ℕ) (bytes index path : List ℕ) (b : Block) : Type 0 where
  owned : Owned language root bytes index
  there : block_at every_kind owned.language path (block_of 0 root owned.subject) ≡ reached b

found_in : (language : List ℕ) (root : ℕ) (bytes index path : List ℕ) (b : Block) → find_block language root bytes index path ≡ value b → In language root bytes index path b
unfolding find_block
found_in language root bytes index path b e =
    let l = step_value (language_of language) _ e in
    let t = step_value (indexed_tree l.0 root bytes index) _ l.2 in
    record {
      owned = record { language = l.0; subject = t.0; by = indexed_owned language root bytes index l.0 t.0 l.1 t.1 };
      there = found_reached _ b t.2;
    }

legal_part : (s bytes : List ℕ) (l : Language) (b : Block) → language_of s ≡ value l → Lies l bytes b.start b.kind b.subtree → LegalPart l bytes b
legal_part s bytes l b e h =
    let v = bytes_of b in
    let back : read tree l [] tree_levels b.kind v ≡ done b.subtree [] =
    ap (read tree l [] tree_levels b.kind) (sym (append-nil v))
    ∙ round l (apart l (language_facts s l e).1) h.typed as_tree tree_levels [] h.within in
    record {
      typed = h.typed;
      accepted = tree_of_lem l b.kind v (done b.subtree []) h.known back;
      inside = past_inside bytes b.start v _ h.inside h.is;
      part = part_is bytes b.start v _ h.inside h.is;
    }

pub blocks_are_legal : BlocksAreLegal
blocks_are_legal language root bytes index path l b byte e f =
    let w = found_in language root bytes index path b f in
    let o = w.owned in
    let z : o.language ≡ l = value_inj (sym o.by.is ∙ e) in
    let h = path_lies every_kind o.language bytes b path (block_of 0 root o.subject)
    (tree_lies o.language root bytes o.subject byte o.by.tree_is) w.there in
    legal_part language bytes l b e (rw z at h)

pub empty_path_is_whole : EmptyPathIsWhole
unfolding block_at
empty_path_is_whole language root bytes index b byte f =
    let w = found_in language root bytes index [] b f in
    let o = w.owned in
    let q : block_of 0 root o.subject ≡ b = reached_inj w.there in
    rw (← q) (refl, refl, tree_bytes o.language root bytes o.subject byte o.by.tree_is)
