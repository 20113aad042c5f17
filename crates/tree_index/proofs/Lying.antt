-- Trees that lie in bytes: what lies behind them, and their operands.
use Prim.Native.Nat.{ℕ, suc, ◌+◌, ◌-◌, ◌<◌, ◌≤◌}
use mathlib.Core.Path.{◌≡◌, sym, ap, ◌∙◌}
use mathlib.Core.List.{List, [], ◌∷◌, ◌++◌, append_assoc}
use mathlib.Core.Option.{some}
use native.Mathlib.Omega.{arith}
use lib.ListN.{length, get_or, take, drop, length-append, length-drop}
use lib.Seq.{drop-drop, drop-append_seam, take-append_seam}
use Rattle.format_fields.proofs.Truth.{mem_all}
use Rattle.format_fields.proofs.Lists.{all_true}
use Rattle.format_fields.proofs.Split.{front}
use Rattle.format_language.specs.Language.{Language, is_in, arguments_of}
use Rattle.format_language.proofs.Lookup.{arguments_mem, argument_in}
use Rattle.tree_reader.specs.Code.{Code, node, Codes, cons, levels}
use Rattle.tree_reader.specs.Typing.{Typed, TypedAll, typed_cons}
use Rattle.tree_reader.specs.Syntax.{write, write_all, tree}
use Rattle.tree_index.specs.Inner.Lying.{Lies, LieAll}

-- What lies behind bytes that lie somewhere.
module _ (b : List ℕ) (at : ℕ) (v r : List ℕ) (inside : at ≤ length b) (is : drop at b ≡ v ++ r) where
  pub past_inside : at + length v ≤ length b
  past_inside =
      let n : length b - at ≡ length v + length r = sym (length-drop at b) ∙ (ap length is ∙ length-append v r) in
      omega arith

  pub past_is : drop (at + length v) b ≡ r
  past_is = sym (drop-drop (length v) at b) ∙ (ap (drop (length v)) is ∙ drop-append_seam v r)

  pub part_is : take (length v) (drop at b) ≡ v
  part_is = ap (take (length v)) is ∙ take-append_seam v r

cons_both : {x y : ℕ} {r s : List ℕ} → x ∷ r ≡ y ∷ s → (x ≡ y) × (r ≡ s)
cons_both e = (cc, cc)

-- The first byte, and the others.
pub first_byte : (b : List ℕ) (at y : ℕ) (v : List ℕ) → at ≤ length b → drop at b ≡ y ∷ v → (at < length b) × (get_or b at 0 ≡ y) × (drop (at + 1) b ≡ v)
first_byte b at y v h e =
    let n : length b - at ≡ suc (length v) = sym (length-drop at b) ∙ ap length e in
    let l : at < length b = omega arith in
    let c = cons_both (sym (front b at l) ∙ e) in
    (l, c.0, c.1)

-- The arguments of a production.
module _ (l : Language) (b : List ℕ) (at k p : ℕ) (ts : Codes) (h : Lies l b at k (node k p ts)) where
  pub node_byte : (at < length b) × (get_or b at 0 ≡ p) × (drop (at + 1) b ≡ write_all tree ts ++ h.rest)
  unfolding write
  node_byte = first_byte b at p (write_all tree ts ++ h.rest) h.inside h.is

  pub node_lies : (ks : List ℕ) → arguments_of l k p ≡ some ks → TypedAll l [] ts ks → LieAll l b (at + 1) ks ts
  unfolding levels
  node_lies ks e typed =
      let w = node_byte in
      let d = h.within in
      record {
        rest = h.rest;
        is = w.2;
        inside = omega (arith, w.0);
        typed = typed;
        within = omega arith;
        known = mem_all (is_in l) ks (λ j m. argument_in l k p ks (arguments_mem l k p ks e) j m);
      }

-- The first of trees in a row, and the others.
typed_both : {l : Language} {t : Code} {ts : Codes} {k : ℕ} {ks : List ℕ} → TypedAll l [] (cons t ts) (k ∷ ks) → Typed l [] t k × TypedAll l [] ts ks
typed_both (typed_cons h hs) = (h, hs)

module _ (l : Language) (b : List ℕ) (at k : ℕ) (ks : List ℕ) (t : Code) (ts : Codes) (h : LieAll l b at (k ∷ ks) (cons t ts)) where
  both_is : drop at b ≡ write tree t ++ (write_all tree ts ++ h.rest)
  unfolding write
  both_is = h.is ∙ append_assoc (write tree t) (write_all tree ts) h.rest

  pub head_lies : Lies l b at k t
  unfolding levels
  head_lies =
      let d = h.within in
      record {
        rest = write_all tree ts ++ h.rest;
        is = both_is;
        inside = h.inside;
        typed = (typed_both h.typed).0;
        within = omega arith;
        known = (all_true (is_in l) k ks h.known).0;
      }

  pub tail_lie : LieAll l b (at + length (write tree t)) ks ts
  unfolding levels
  tail_lie =
      let d = h.within in
      record {
        rest = h.rest;
        is = past_is b at (write tree t) _ h.inside both_is;
        inside = past_inside b at (write tree t) _ h.inside both_is;
        typed = (typed_both h.typed).1;
        within = omega arith;
        known = (all_true (is_in l) k ks h.known).1;
      }
