-- What measuring keeps of a tree is right for its run: a tree that was read and a tree that stands there end alike.
use Rattle.std.specs.Prelude.{Ok}
use Prim.Native.Nat.{ℕ, ◌+◌, ◌*◌, ◌-◌, ◌≤◌, ◌<◌}
use mathlib.Core.Path.{◌≡◌, sym, ap, ◌∙◌}
use mathlib.Core.Logic.{◌⊎◌, inl, inr}
use mathlib.Core.List.{List, []}
use native.Mathlib.Omega.{arith}
use lib.ListN.{length, get_or, drop, length-drop}
use Rattle.format_language.specs.Language.{Language}
use Rattle.tree_reader.specs.Code.{Code, levels}
use Rattle.tree_reader.specs.Typing.{Typed}
use Rattle.tree_reader.specs.Syntax as Meant
use Rattle.tree_reader.specs.declared.node.Syntax.TheVariants.{Tree}
use Rattle.tree_reader.specs.Inner.Index.{Indexed}
use Rattle.tree_reader.specs.Inner.Positions.{read_at}
use Rattle.tree_reader.specs.Inner.Ends.{Kept}
use Rattle.tree_reader.proofs.RoundTrip.{Apart, round, as_tree}
use Rattle.tree_reader.proofs.Larger.{deep_done}
use Rattle.tree_reader.proofs.Meaning.{done_of, tree_meant}
use Rattle.tree_reader.proofs.Sound.{More, more_levels}
use Rattle.run_measure.specs.Inner.Learning.{Learnt}
use Rattle.run_table.specs.Inner.Stands.{Stands}
use Rattle.run_emit.specs.Inner.Runs.{Right}
use Rattle.run_table.proofs.Standing.{stands_drop}

-- What is left after a reading.
abbrev left : Meant.Read Code → List ℕ
left (Meant.done a r) = r
left Meant.deep = []
left Meant.broken = []

-- A reading that came to an end comes to the same with more levels.
more_done : {o p : Meant.Read Code} {a : Code} {r : List ℕ} → More o p → o ≡ Meant.done a r → p ≡ Meant.done a r
more_done (inl z) e = deep_done (sym z ∙ e)
more_done (inr z) e = z ∙ e

-- Positions in the bytes behind which the same is left are the same.
same_place : (b : List ℕ) (e p : ℕ) → e ≤ length b → p ≤ length b → drop e b ≡ drop p b → e ≡ p
same_place b e p h i q =
    let z : length b - e ≡ length b - p = sym (length-drop e b) ∙ (ap length q ∙ length-drop p b) in
    omega arith

module _ (s index b : List ℕ) (l : Language) (indexed : Indexed index s l) (apart : Apart l) (bytes : (i : ℕ) → get_or b i 0 < 256) where
  -- Where the reader ends, any tree of the kind that stands there ends.
  read_ends : (n k at e : ℕ) → k < 32 → read_at Tree s index [] b n k at ≡ Ok e → e ≤ length b
      → (u : Code) → Typed l [] u k → Stands b at (Meant.write Meant.tree u) → e ≡ at + length (Meant.write Meant.tree u)
  read_ends n k at e small r i u typed stands =
      let v = Meant.write Meant.tree u in
      let to = at + length v in
      let m = n + levels u in
      let d = done_of (Meant.read Meant.tree l [] n k (drop at b)) (drop e b) (sym (tree_meant s index b l indexed bytes n k at small (Ok e) (sym r))) in
      let first : Meant.read Meant.tree l [] m k (drop at b) ≡ Meant.done d.0 (drop e b) =
      more_done (more_levels Meant.tree l [] n m k (drop at b) (omega arith)) d.1 in
      let second : Meant.read Meant.tree l [] m k (drop at b) ≡ Meant.done u (drop to b) =
      ap (Meant.read Meant.tree l [] m k) (stands_drop b at v stands) ∙ round l apart typed as_tree m (drop to b) (omega arith) in
      same_place b e to i stands.inside (ap left (sym first ∙ second))

  -- What was kept by measuring, in a table that was all zero, is right.
  pub learnt_right : (before after : List ℕ) → ((j : ℕ) → get_or before j 0 ≡ 0) → Learnt s index b before after → Right Tree after b l []
  learnt_right before after zeros learnt k at e h u typed stands = by_case (learnt k at e h)
    where
      by_case : Kept before k at e ⊎ ((n : ℕ) × (read_at Tree s index [] b n k at ≡ Ok e) × (e ≤ length b)) → e ≡ at + length (Meant.write Meant.tree u)
      by_case (inl z) = absurd (omega (arith, z.some, z.end, zeros (2 * z.slot + 1)))
      by_case (inr z) = read_ends z.0 k at e h.kind z.1 z.2 u typed stands
