-- Where a legal tree ends: a law for each return of `end_of`.
use Rattle.std.specs.Prelude.{IsOk, Err, Ok}
use Rattle.tree_reader.specs.declared.node.ReadError.TheVariants.{Deep, Broken}
use Prim.Native.Nat.{ℕ, ◌+◌, ◌-◌, ◌≤◌}
use mathlib.Core.Path.{◌≡◌, refl, sym, ap, ◌∙◌}
use mathlib.Core.List.{List, []}
use native.Mathlib.Omega.{arith}
use lib.ListN.{length, drop, length-drop}
use Rattle.format_language.specs.Language.{Language}
use Rattle.tree_reader.specs.Code.{Code}
use Rattle.tree_reader.specs.Syntax as Meant
use Rattle.tree_reader.specs.Syntax.{write, tree}
use Rattle.tree_reader.specs.Operations.{tree_levels}
use Rattle.tree_reader.specs.Inner.Index.{Ready}
use Rattle.tree_reader.specs.Inner.Positions.{EndsBy, rest_at, rest_of, rest, deep, broken, Read}
use Rattle.tree_reader.proofs.Larger.{apart}
use Rattle.tree_reader.proofs.Members.{in_below}
use Rattle.tree_reader.proofs.RoundTrip.{round, as_tree}
use Rattle.tree_index.specs.Inner.Lying.{There}
use Rattle.tree_index.proofs.Lying.{past_inside, past_is}

module _ (index s b : List ℕ) (at k : ℕ) (l : Language) (t : Code) (h : There index s b at k l t) where
  -- What the reader asks for.
  pub there_ready : Ready index s k b at
  there_ready = record {
    sound = h.index_of.indexed.sound;
    kind = in_below s k l h.index_of.indexed.entries h.lies.known;
    inside = h.lies.inside;
  }

  read_is : Meant.read Meant.tree l [] tree_levels k (drop at b) ≡ Meant.done t h.lies.rest
  read_is =
      ap (Meant.read Meant.tree l [] tree_levels k) h.lies.is
      ∙ round l (apart l h.index_of.apart) h.lies.typed as_tree tree_levels h.lies.rest h.lies.within

  module _ (f : Read) (ef : rest_at b f ≡ rest_of (Meant.read Meant.tree l [] 64 k (drop at b))) where
    left : rest_at b f ≡ rest h.lies.rest
    left = ef ∙ ap rest_of read_is

    pub ends_there : (e : ℕ) → f ≡ Ok e → EndsBy (length b) f → e ≡ at + length (write tree t)
    ends_there e q inside =
        let i : e ≤ length b = rw q at inside in
        let a : drop e b ≡ h.lies.rest = let z : rest (drop e b) ≡ rest h.lies.rest = sym (ap (rest_at b) q) ∙ left in cc in
        let v = write tree t in
        let j : at + length v ≤ length b = past_inside b at v _ h.lies.inside h.lies.is in
        let d : drop (at + length v) b ≡ h.lies.rest = past_is b at v _ h.lies.inside h.lies.is in
        let z : length b - e ≡ length b - (at + length v) = sym (length-drop e b) ∙ (ap length (a ∙ sym d) ∙ length-drop (at + length v) b) in
        omega arith

    not_deep : {A : Type 0} → f ≡ (Err Deep) → A
    not_deep q = let y : deep ≡ rest h.lies.rest = sym (ap (rest_at b) q) ∙ left in let z : ◌≡◌ {A = ℕ} 0 1 = cc in absurd (omega arith)

    not_broken : {A : Type 0} → f ≡ (Err Broken) → A
    not_broken q = let y : broken ≡ rest h.lies.rest = sym (ap (rest_at b) q) ∙ left in let z : ◌≡◌ {A = ℕ} 0 1 = cc in absurd (omega arith)

    pub some_end : IsOk f
    some_end = go f refl
      where
        go : (x : Read) → f ≡ x → IsOk x
        go (Ok e) q = refl
        go (Err Deep) q = not_deep q
        go (Err Broken) q = not_broken q
