-- The operation that builds an index, and the test of one: a law for each return of the functions of build.rt.
use Prim.Native.Nat.{ℕ, ◌+◌, ◌*◌, ◌<◌, ◌≤◌}
use mathlib.Core.Path.{◌≡◌, refl, sym, ap, ◌∙◌}
use mathlib.Core.Bool.{Bool, true, false}
use mathlib.Core.List.{List, [], ◌∷◌, ◌++◌, append-nil}
use native.Mathlib.Omega.{arith}
use Rattle.std.specs.Prelude.{Option, Some, None, MatchOption, Err, Ok}
use lib.ListN.{length, drop, length-append}
use lib.Dec.{eqb, ltb}
use borrow.Author.Tests.{eq-eqb, eqb-true, lt-ltb, le-ltb}
use Rattle.format_fields.specs.Lists.{same_numbers}
use Rattle.format_fields.specs.Inner.Writing.{spliced}
use Rattle.outcome.specs.Outcome.{refused, refuse_if, written, output_after, Outcome}
use Rattle.outcome.specs.declared.Reason.{Reason}
use Rattle.outcome.specs.declared.Reason.TheVariants.{OutputTooShort, NotIndexed}
use Rattle.format_fields.proofs.Truth.{refuted, same_truth, numbers_equal, equal_numbers}
use Rattle.format_fields.proofs.Splices.{opened}
use Rattle.format_language.specs.Language.{Language}
use Rattle.tree_reader.specs.Code.{Code}
use Rattle.tree_reader.specs.Syntax.{write, write_all, tree}
use Rattle.tree_reader.specs.Operations.{check_tree}
use Rattle.format_translation.specs.Operations.{fitted}
use Rattle.check_operations.proofs.Legal.{Checked, refused_tree}
use Rattle.tree_index.specs.Spans.{span, size, spans, spans_all, entry, entries, index_of}
use Rattle.tree_index.specs.Operations.{longest, is_long, index_bytes, index_tree}
use Rattle.tree_index.specs.Inner.Lying.{There, Opens}
use Rattle.tree_index.specs.Inner.Marking.{Has, Writes}
use Rattle.tree_index.specs.Inner.Comparing.{Claims, Compares}
use Rattle.tree_index.specs.declared.walk.Ends.{Ends}
use Rattle.tree_index.proofs.Lying.{past_inside}
use Rattle.tree_index.proofs.Checking.{checked_tree}
use Rattle.tree_index.proofs.Pairs.{entry_length, entry_same}
use Rattle.tree_index.proofs.Walking.{shape_size, shape_spans, entries_cons, entries_few, has_front, has_back, has_both, puts_entry, puts_before}
use Rattle.tree_index.proofs.Starts.{own_span}

-- write_index
module _ (x s b : List ℕ) (k : ℕ) (l : Language) (t : Code) (f e to : ℕ) (p : Opens x s b 0 k l t f e to) (base n : ℕ) (o o₁ : List ℕ) (r : Ends)
    (w : Writes (entries (spans_all (base + to) p.operands)) o o₁ (n + 4) (to + length (write_all tree p.operands)) r) where
  tree_end : r.trees ≡ size t
  tree_end = let y = shape_size p.shape in omega (arith, p.past, w.trees)

  pub tree_inside : r.trees ≤ length b
  tree_inside = let h = past_inside b to (write_all tree p.operands) p.row.lie.rest p.row.lie.inside p.row.lie.is in omega (arith, w.trees)

  pub index_written : (o₂ : List ℕ) → (n + 4 ≤ length o₁ → o₂ ≡ spliced o₁ n (entry (span base r.trees))) → length o₁ ≡ length o
      → (r.entries ≡ n + length (entries (spans base t))) × (r.entries ≤ length o → o₂ ≡ spliced o n (entries (spans base t)))
  index_written o₂ h same =
      let inner = entries (spans_all (base + to) p.operands) in
      let z : base + p.front ≡ base + to = omega (arith, p.past) in
      let own = puts_entry o₁ o₂ n base r.trees base (size t) h refl tree_end in
      let v = puts_before (entry (span base (size t))) inner o o₁ o₂ n (n + 4) r.entries w.puts own same in
      let are : entries (spans base t) ≡ entry (span base (size t)) ++ inner =
      ap entries (shape_spans p.shape base ∙ ap (λ (j : ℕ). span base (size t) ∷ spans_all j p.operands) z)
      ∙ entries_cons (span base (size t)) (spans_all (base + to) p.operands) in
      rw are (v.end, v.put)

-- is_own
empty_rest : (v r : List ℕ) → length (v ++ r) ≡ length v → r ≡ []
empty_rest v [] e = refl
empty_rest v (x ∷ r) e = absurd (omega (arith, length-append v (x ∷ r)))

module _ (i : List ℕ) (t : Code) where
  own_has : same_numbers i (index_of t) ≡ true → Has i 0 (entries (spans 0 t))
  unfolding index_of
  own_has y = record { rest = []; is = numbers_equal i (index_of t) y ∙ sym (append-nil (entries (spans 0 t))) }

  -- An index that has the entries of the tree, and nothing behind them, is its own.
  has_own : Has i 0 (entries (spans 0 t)) → length i ≡ length (entries (spans 0 t)) → same_numbers i (index_of t) ≡ true
  unfolding index_of
  has_own h n =
      let v = entries (spans 0 t) in
      let k : length (v ++ h.rest) ≡ length v = sym (ap length h.is) ∙ n in
      let j : i ≡ v = h.is ∙ (ap (λ (z : List ℕ). v ++ z) (empty_rest v h.rest k) ∙ append-nil v) in
      rw (← j) (equal_numbers i)

  own_long : same_numbers i (index_of t) ≡ true → length i ≡ length (entries (spans 0 t))
  unfolding index_of
  own_long y = ap length (numbers_equal i (index_of t) y)

  pub own_start : ((z : ℕ) → Has i 0 (entry (span 0 z)) → ⊥) → false ≡ same_numbers i (index_of t)
  own_start h =
      let o = own_span 0 t in
      let v : entries (spans 0 t) ≡ entry (span 0 (size t)) ++ entries o.0 = ap entries o.1 ∙ entries_cons (span 0 (size t)) o.0 in
      sym (refuted (same_numbers i (index_of t)) (λ y. h (size t) (has_front i 0 (entry (span 0 (size t))) (entries o.0) (rw v at (own_has y)))))

  module _ (x s b : List ℕ) (k : ℕ) (l : Language) (f e to : ℕ) (p : Opens x s b 0 k l t f e to) where
    abbrev own : List ℕ
    own = entry (span 0 (size t))

    abbrev inner : List ℕ
    inner = entries (spans_all to p.operands)

    own_are : entries (spans 0 t) ≡ own ++ inner
    own_are =
        let z : 0 + p.front ≡ to = omega (arith, p.past) in
        ap entries (shape_spans p.shape 0 ∙ ap (λ (j : ℕ). span 0 (size t) ∷ spans_all j p.operands) z)
        ∙ entries_cons (span 0 (size t)) (spans_all to p.operands)

    own_end : size t ≡ to + length (write_all tree p.operands)
    own_end = omega (arith, shape_size p.shape, p.past)

    entries_four : length (entries (spans 0 t)) ≡ 4 + length inner
    entries_four = ap length own_are ∙ (length-append own inner ∙ ap (λ (j : ℕ). j + length inner) (entry_length 0 (size t)))

    own_four : 4 ≡ 0 + length own
    own_four = omega (arith, entry_length 0 (size t))

    module _ (z : ℕ) (said : Has i 0 (entry (span 0 z))) where
      own_claims : same_numbers i (index_of t) ≡ true → Claims i 4 to p.operands z
      own_claims q =
          let h : Has i 0 (own ++ inner) = rw own_are at (own_has q) in
          record { has = has_back i 0 own inner h 4 own_four; ends = sym own_end ∙ entry_same 0 (size t) z (has_front i 0 own inner h) said }

      -- The answer of comparing is the end of the index exactly if the index is the tree's own.
      pub own_compared : (r : Option ℕ) → Compares i 4 to p.operands z r → (b : Bool) → MatchOption r (b ≡ false) (λ m. b ≡ eqb m (length i))
          → b ≡ same_numbers i (index_of t)
      own_compared None h b e = same_truth b (same_numbers i (index_of t)) (λ q. absurd (let f = sym e ∙ q in cc)) (λ q. absurd (h (own_claims q)))
      own_compared (Some r) h b e =
          same_truth b (same_numbers i (index_of t))
          (λ q.
          let n = eqb-true r (length i) (sym e ∙ q) in
          let a : z ≡ size t = sym h.0.ends ∙ sym own_end in
          has_own (rw own_are (has_both i 0 own inner (rw a at said) 4 own_four h.0.has)) (omega (arith, h.1, entries_four)))
          (λ q. e ∙ eq-eqb r (length i) (omega (arith, h.1, own_long q, entries_four)))

-- What is put at the start of an output.
pub put_first : (o v : List ℕ) → spliced o 0 v ≡ v ++ drop (length v) o
put_first o v = let z : 0 + length v ≡ length v = omega arith in opened o 0 v ∙ ap (λ (j : ℕ). v ++ drop j o) z

-- index_legal
pub legal_room : (x s b : List ℕ) (k : ℕ) (l : Language) (t : Code) → There x s b 0 k l t → (o : List ℕ) (n : ℕ)
    → n ≡ 0 + length (entries (spans 0 t)) → length b * 4 ≤ length o → n ≤ length o
legal_room x s b k l t h o n en room =
    let y = past_inside b 0 (write tree t) h.lies.rest h.lies.inside h.lies.is in
    omega (arith, entries_few t 0)

module _ (t : Code) (o : List ℕ) (n : ℕ) (en : n ≡ 0 + length (entries (spans 0 t))) where
  pub legal_short : length o < n → (Err OutputTooShort ≡ written (fitted (length o) (index_of t))) × (o ≡ output_after o (fitted (length o) (index_of t)))
  unfolding index_of
  legal_short h = let y : ltb (length o) (length (entries (spans 0 t))) ≡ true = lt-ltb (length o) (length (entries (spans 0 t))) (omega arith) in rw y (refl, refl)

  pub legal_put : n ≤ length o → (o' : List ℕ) (m : ℕ) → (m ≡ 0 + length (entries (spans 0 t))) × (m ≤ length o → o' ≡ spliced o 0 (entries (spans 0 t)))
      → (Ok n ≡ written (fitted (length o) (index_of t))) × (o' ≡ output_after o (fitted (length o) (index_of t)))
  unfolding index_of
  legal_put h o' m w =
      let y : ltb (length o) (length (entries (spans 0 t))) ≡ false = le-ltb (length o) (length (entries (spans 0 t))) (omega arith) in
      rw y (ap Ok (en ∙ omega arith), w.1 (omega (arith, w.0)) ∙ put_first o (entries (spans 0 t)))

-- index_checked
module _ (s : List ℕ) (root : ℕ) (b o : List ℕ) {out : Outcome} (eo : out ≡ check_tree s root b) where
  pub index_refused : {x : Reason} → out ≡ Err x → (Err x ≡ (index_tree s root b o).outcome) × (o ≡ (index_tree s root b o).output)
  unfolding index_tree index_bytes
  index_refused {x} q =
      let e : index_bytes s root b (length o) ≡ refused x = refused_tree s root b (λ l t. refuse_if (is_long b) NotIndexed (fitted (length o) (index_of t))) (sym eo ∙ q) in
      (sym (ap written e), sym (ap (output_after o) e))

  module _ {n : ℕ} (accepted : out ≡ Ok n) where
    abbrev c : Checked s root b
    c = checked_tree s root b eo accepted

    index_is : index_bytes s root b (length o) ≡ refuse_if (is_long b) NotIndexed (fitted (length o) (index_of c.subject))
    unfolding index_bytes
    index_is = rw (c.is, c.tree_is) refl

    pub index_long : longest < length b → (Err NotIndexed ≡ (index_tree s root b o).outcome) × (o ≡ (index_tree s root b o).output)
    unfolding index_tree
    index_long h = let t : is_long b ≡ true = lt-ltb longest (length b) h in rw (index_is, t) (refl, refl)

    pub index_given : length b ≤ longest → {y : Outcome} {o' : List ℕ}
        → (y ≡ written (fitted (length o) (index_of c.subject))) × (o' ≡ output_after o (fitted (length o) (index_of c.subject)))
        → (y ≡ (index_tree s root b o).outcome) × (o' ≡ (index_tree s root b o).output)
    unfolding index_tree
    index_given h w = let t : is_long b ≡ false = le-ltb longest (length b) h in rw (index_is, t) w
