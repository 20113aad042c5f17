-- Trees that lie in the bytes: which one lies where, and equal parts of the bytes.
use Prim.Native.Nat.{ℕ, ◌+◌, ◌-◌, ◌≤◌}
use mathlib.Core.Path.{◌≡◌, ap, sym, ◌∙◌}
use mathlib.Core.Bool.{Bool, true, false}
use mathlib.Core.List.{List, [], ◌++◌}
use native.Mathlib.Omega.{arith}
use lib.Pointwise.{pointwise}
use Rattle.std.proofs.Common.{nat_eq}
use Rattle.std.specs.Cmp.Lexicographic.{same_text, other_text}
use lib.ListN.{length, take, drop, take-append-drop}
use Rattle.format_language.specs.Language.{Language}
use Rattle.tree_reader.specs.Code.{Code, levels}
use Rattle.tree_reader.specs.Typing.{Typed, typed_node, typed_token, typed_argument}
use Rattle.tree_reader.specs.Syntax.{done, write, tree, read}
use Rattle.tree_reader.proofs.RoundTrip.{Apart, round, as_tree}
use Rattle.tree_index.specs.Inner.Lying.{Lies}
use Rattle.tree_index.proofs.Lying.{part_is}
use Rattle.search_sources.proofs.Answers.{no_kind}

done_both : {a b : Code} {r s : List ℕ} → done a r ≡ done b s → (a ≡ b) × (r ≡ s)
done_both e = (cc, cc)

-- Written trees of one kind that start the same bytes are the same.
pub written_same : (l : Language) → Apart l → (k : ℕ) (a b : Code) → Typed l [] a k → Typed l [] b k → (n : ℕ) → levels a ≤ n → levels b ≤ n → (r s : List ℕ)
    → write tree a ++ r ≡ write tree b ++ s → a ≡ b
written_same l apart k a b h g n x y r s e =
    (done_both (sym (round l apart h as_tree n r x) ∙ (ap (read tree l [] n k) e ∙ round l apart g as_tree n s y))).0

module _ (l : Language) (apart : Apart l) (b : List ℕ) (k : ℕ) where
  -- One tree of a kind lies at a position.
  pub lies_one : (at : ℕ) (u w : Code) → Lies l b at k u → Lies l b at k w → u ≡ w
  lies_one at u w h g =
      written_same l apart k u w h.typed g.typed 64 h.within g.within h.rest g.rest (sym h.is ∙ g.is)

  -- Trees whose bytes are equal, as far as the second's go, are equal.
  pub same_tree : (a c : ℕ) (w u : Code) → Lies l b a k w → Lies l b c k u
      → take (length (write tree u)) (drop a b) ≡ take (length (write tree u)) (drop c b) → w ≡ u
  same_tree a c w u h g e =
      let n = length (write tree u) in
      let p : take n (drop c b) ≡ write tree u = part_is b c (write tree u) g.rest g.inside g.is in
      let q : drop a b ≡ write tree u ++ drop n (drop a b) =
      sym (take-append-drop n (drop a b)) ∙ ap (λ (s : List ℕ). s ++ drop n (drop a b)) (e ∙ p) in
      written_same l apart k w u h.typed g.typed 64 h.within g.within h.rest (drop n (drop a b)) (sym h.is ∙ q)

  pub tree_same : (a c : ℕ) (w u : Code) → Lies l b a k w → Lies l b c k u → w ≡ u
      → take (length (write tree u)) (drop a b) ≡ take (length (write tree u)) (drop c b)
  tree_same a c w u h g e =
      let d : Lies l b a k u = rw (← e) h in
      part_is b a (write tree u) d.rest d.inside d.is ∙ sym (part_is b c (write tree u) g.rest g.inside g.is)

-- A tree has a byte.
pub some_byte : {l : Language} {u : Code} {k : ℕ} → Typed l [] u k → 1 ≤ length (write tree u)
unfolding write
some_byte (typed_node e h) = omega arith
some_byte (typed_token e h) = omega arith
some_byte (typed_argument {i = i} {j = j} e) = no_kind i j e

-- same_part
pub part_same : (t : List ℕ) (a b n : ℕ) {r : Bool} → r ≡ pointwise nat_eq (take (a + n - a) (drop a t)) (take (b + n - b) (drop b t))
    → (r ≡ true → take n (drop a t) ≡ take n (drop b t)) × (r ≡ false → take n (drop a t) ≡ take n (drop b t) → ⊥)
part_same t a b n e =
    let x : a + n - a ≡ n = omega arith in
    let y : b + n - b ≡ n = omega arith in
    let q = rw (x, y) at e in
    (λ h. same_text _ _ (sym h ∙ q), λ h. other_text _ _ (sym h ∙ q))
