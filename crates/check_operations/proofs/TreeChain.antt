-- The check of a tree by its chain of tests: a law for each return of `check_indexed`.
use Rattle.std.specs.Prelude.{Err, Ok}
use Rattle.tree_reader.specs.declared.node.ReadError.TheVariants.{Deep, Broken}
use Prim.Native.Nat.{ℕ, ◌+◌, ◌<◌, ◌≤◌}
use mathlib.Core.Path.{◌≡◌, sym, ap, ◌∙◌}
use mathlib.Core.List.{List, [], ◌∷◌}
use mathlib.Core.Option.{some}
use native.Mathlib.Omega.{arith}
use lib.ListN.{length, get_or, drop, drop_of_length-le}
use lib.Dec.{eqb}
use borrow.Author.Tests.{eqb-true, eqb-false}
use Rattle.outcome.specs.Outcome.{Result, value, checked, ◌>>=◌, Outcome}
use Rattle.outcome.specs.declared.Reason.{Reason}
use Rattle.format_fields.proofs.Truth.{by_test}
use Rattle.format_fields.proofs.Split.{front}
use Rattle.format_language.specs.Language.{Language}
use Rattle.format_language.specs.LanguageFile.{entries_of}
use Rattle.tree_reader.specs.Code as C
use Rattle.tree_reader.specs.Syntax as Meant
use Rattle.tree_reader.specs.Operations.{tree_levels, whole_tree, check_tree}
use Rattle.tree_reader.specs.Inner.Positions.{EndsBy, rest_at, rest_of, Read}
use Rattle.tree_reader.specs.Inner.Index.{Indexed}
use Rattle.tree_reader.proofs.Meaning.{done_of, deep_of, broken_of}
use Rattle.check_operations.specs.Inner.Opening.{rooted_of, Opened}
use Rattle.check_operations.specs.Inner.Chains.{whole_at}
use Rattle.check_operations.proofs.Opening.{opened_not, rooted_tree}
pub use Rattle.check_operations.proofs.Opening.{Accepts, accepts}

-- What was read is a whole tree where nothing is left.
module _ (b : List ℕ) (g : Meant.Read C.Code) where
  whole_end : (e : ℕ) → rest_at b (Ok e) ≡ rest_of g → e ≤ length b → whole_at (Ok e) (length b) ≡ checked (whole_tree g)
  whole_end e y h =
      let d = done_of g (drop e b) (sym y) in
      by_test (eqb e (length b))
      (λ k.
      let j : length b ≤ e = omega (arith, eqb-true e (length b) k) in
      let w : g ≡ Meant.done d.0 [] = d.1 ∙ ap (Meant.done d.0) (drop_of_length-le b {i = e} j) in
      rw w (cc))
      (λ k.
      let j : e < length b = omega (arith, eqb-false e (length b) k) in
      let w : g ≡ Meant.done d.0 (get_or b e 0 ∷ drop (e + 1) b) = d.1 ∙ ap (Meant.done d.0) (front b e j) in
      rw w (cc))

  whole_is : (r : Read) → rest_at b r ≡ rest_of g → EndsBy (length b) r → whole_at r (length b) ≡ checked (whole_tree g)
  whole_is (Ok e) y h = whole_end e y h
  whole_is (Err Deep) y h = cc (deep_of g (sym y))
  whole_is (Err Broken) y h = cc (broken_of g (sym y))

-- check_indexed
module _ (s : List ℕ) (root : ℕ) (b : List ℕ) {out : Outcome} where
  pub tree_refused : {o : Outcome} {r : Reason} → o ≡ checked (rooted_of s root) → o ≡ Err r → out ≡ Err r → out ≡ check_tree s root b
  unfolding check_tree
  tree_refused eo h i =
      i ∙ sym (ap checked (rooted_tree s root b ∙ ap (λ (m : Result Language). m >>= λ l. whole_tree (Meant.read Meant.tree l [] tree_levels root b)) (opened_not s root eo h)))

  pub tree_read_lem : (l : Language) → rooted_of s root ≡ value l → (f : Read) → rest_at b f ≡ rest_of (Meant.read Meant.tree l [] tree_levels root b) → EndsBy (length b) f
      → out ≡ whole_at f (length b) → out ≡ check_tree s root b
  unfolding check_tree
  tree_read_lem l e f y i j =
      j ∙ (whole_is b (Meant.read Meant.tree l [] tree_levels root b) f y i
      ∙ sym (ap checked (rooted_tree s root b ∙ ap (λ (m : Result Language). m >>= λ l. whole_tree (Meant.read Meant.tree l [] tree_levels root b)) e)))

-- What was built is the index of the language that the entries are.
pub tree_indexed : (s index : List ℕ) (root : ℕ) (l k : Language) → Opened s index root l → entries_of s ≡ some k → Indexed index s k
tree_indexed s index root l k o e = let z : l ≡ k = cc o.alone.indexed.entries in rw z at o.alone.indexed
