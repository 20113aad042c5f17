-- The law of runs holds.
use Rattle.std.specs.Prelude.{Err}
use Prim.Native.Nat.{ℕ, ◌<◌}
use mathlib.Core.Path.{◌≡◌, refl, ap, sym, subst, ◌∙◌}
use mathlib.Core.Logic.{◌⊎◌, inl, inr, ⊎_elim}
use mathlib.Core.Bool.{Bool, true, false}
use mathlib.Core.List.{List, [], ◌++◌, append-nil}
use mathlib.Core.Option.{Option, none, some}
use native.Mathlib.Omega.{arith}
use lib.ListN.{length}
use lib.Dec.{ltb}
use borrow.Author.Tests.{ltb-true, ltb-false}
use Rattle.outcome.specs.Outcome.{Result, value, refused, ◌>>=◌, refuse_if, reason_number, number_of, written, output_after}
use Rattle.format_fields.specs.Fields.{Field}
use Rattle.format_fields.specs.Lists.{is_some}
use Rattle.outcome.specs.declared.Reason.{Reason}
use Rattle.outcome.specs.declared.Reason.TheVariants.{UnknownRoot, TooDeep, OutputTooShort}
use Rattle.format_fields.proofs.Truth.{by_test, false_true, none_some, some_inj, some_is}
use Rattle.format_fields.proofs.Codec.{refused_value}
use Rattle.format_language.specs.Language.{Language, is_in, clashes}
use Rattle.format_language.proofs.Lookup.{none_clashes}
use Rattle.tree_reader.specs.Code.{Code, levels}
use Rattle.tree_reader.specs.Typing.{Typed}
use Rattle.tree_reader.specs.Syntax.{done, deep, read, write, tree}
use Rattle.tree_reader.specs.Operations.{tree_levels, tree_of}
use Rattle.tree_reader.proofs.Larger.{typed_larger}
use Rattle.check_operations.proofs.Legal.{tree_right, tree_of_lem}
use Rattle.format_translation.specs.Translation.{Translation, mapping_of, mapped}
use Rattle.format_translation.specs.Running.{paired, transform}
use Rattle.format_translation.specs.TranslationFile.{encode_translation, translation_of}
use Rattle.format_translation.specs.Operations.{fitted, run_bytes, run_tree}
use Rattle.format_translation.proofs.Preserved.{kept_tree, typed_run}
use Rattle.format_translation.proofs.Fitting.{refuse_value, fit_carries}
use Rattle.format_pack.specs.Terms.{Term, translations, join}
use Rattle.reduce_operators.specs.Operators.{joined}
use Rattle.reduce_signs.specs.Evaluation.{constants_of}
use Rattle.reduce_operation.specs.Operations.{reduce_bytes, reduce}
use Rattle.reduce_operators.proofs.Proper.{Sound, GoodTranslation, good_back}
use Rattle.reduce_operators.proofs.JoinSound.{target_larger, join_lies}
use Rattle.reduce_terms.proofs.Evaluated.{step_value, value_inj}
use Rattle.laws.specs.Packed.{packed, put_out}
use Rattle.laws.specs.Runs.{Legal, maps_to, target_in, ReducesTo, OfTree, of_root, of_bytes, of_levels, SameRun, RunsOfJoin, LawOfRuns, has_number}
use Rattle.laws.proofs.Levels.{law_of_levels}
use Rattle.laws.proofs.Reductions.{accepted_value, put_out_lem, Reduction, reduction, reduction_good, value_under}
use Rattle.laws.proofs.Signs.{operands_join, value_good}
use Rattle.laws.proofs.Joined.{mapped_to, SoundJoin, sound_value, mapped_pair, pair_mapped, tree_runs}

-- A transformation of a typed tree is typed.
transform_typed : (f : Translation) → Sound f → (t : Code) (k j u : ℕ) → mapping_of f.body k j ≡ some u → Typed f.source [] t k → Typed f.target [] (transform f j t) u
unfolding transform
transform_typed f s t k j u e h = typed_run (fit_carries f s.rises s.fits) (kept_tree (mapping_of f.body)) j u h e

-- What is a tree is typed.
tree_typed : (l : Language) (k : ℕ) (bytes : List ℕ) (t : Code) → tree_of l k bytes ≡ value t → Typed l [] t k × (is_in l k ≡ true)
tree_typed l k bytes t e = let r = tree_right l k bytes t e in (r.1.0, r.0)

-- There is nothing, or something.
by_option : {A B : Type 0} (o : Option A) → (o ≡ none → B) → ((a : A) → o ≡ some a → B) → B
by_option none f g = f refl
by_option (some a) f g = g a refl

is_none : {A : Type 0} (o : Option A) → is_some o ≡ false → o ≡ none
is_none none e = refl
is_none (some a) e = false_true (sym e)

-- A written tree is read back, or is too deep to be handed in.
written_tree : (l : Language) (k : ℕ) (t : Code) → clashes l l ≡ false → is_in l k ≡ true → Typed l [] t k
    → (tree_of l k (write tree t) ≡ refused TooDeep) ⊎ (tree_of l k (write tree t) ≡ value t)
written_tree l k t apart i h =
    let r = law_of_levels l apart tree [] t k h tree_levels [] in
    let whole : read tree l [] tree_levels k (write tree t) ≡ read tree l [] tree_levels k (write tree t ++ [])
    = ap (read tree l [] tree_levels k) (sym (append-nil (write tree t))) in
    by_test (ltb tree_levels (levels t))
    (λ e. inl (tree_of_lem l k (write tree t) deep i (whole ∙ r.too_deep (ltb-true _ _ e))))
    (λ e. inr (tree_of_lem l k (write tree t) (done t []) i (whole ∙ r.enough (ltb-false _ _ e))))

-- The bytes of a translation term's value, as a run sees them.
record Operand (f : Translation) (bytes : List ℕ) : Type 0 where
  good : GoodTranslation f
  encodes : encode_translation f ≡ bytes

operand_opens : (f : Translation) (bytes : List ℕ) → Operand f bytes → translation_of bytes ≡ value f
operand_opens f bytes p = ap translation_of (sym p.encodes) ∙ good_back f p.good

-- What a run comes to where the root has the number, and where it lacks it.
module _ (f : Translation) (bytes : List ℕ) (p : Operand f bytes) (root number : ℕ) (input : List ℕ) (room : ℕ) where
  operand_has : (u : ℕ) → mapping_of f.body root number ≡ some u
      → run_bytes bytes root number input room ≡ (tree_of f.source root input >>= λ t. fitted room (write tree (transform f number t)))
  unfolding run_bytes
  operand_has u e = rw (operand_opens f bytes p, e)

  operand_lacks : mapping_of f.body root number ≡ none → run_bytes bytes root number input room ≡ refused UnknownRoot
  unfolding run_bytes
  operand_lacks e = rw (operand_opens f bytes p, e)

  -- Where it is accepted, the root has the number.
  operand_number : (result : List ℕ) → run_bytes bytes root number input room ≡ value result → (u : ℕ) × (mapping_of f.body root number ≡ some u)
  operand_number result e = by_option (mapping_of f.body root number) (λ q. refused_value (sym (operand_lacks q) ∙ e)) (λ u q. (u, q))

-- A result that fits.
fitted_value : (room : ℕ) (bytes result : List ℕ) → fitted room bytes ≡ value result → bytes ≡ result
fitted_value room bytes result e = value_inj (refuse_value (ltb room (length bytes)) OutputTooShort (value bytes) e).1

-- The number of a result.
abbrev numbered : Result (List ℕ) → ℕ
numbered r = number_of (written r)

-- What does not fit is not refused because of the tree.
fitted_refused : (over : Bool) (bytes : List ℕ) (r : Reason) → OfTree r → refuse_if over OutputTooShort (value bytes) ≡ refused r → ⊥
fitted_refused over bytes r k e = clash over r k (ap numbered e)
  where
    clash : (over : Bool) (r : Reason) → OfTree r → numbered (refuse_if over OutputTooShort (value bytes)) ≡ reason_number r → ⊥
    clash true r of_root n = omega arith
    clash false r of_root n = omega arith
    clash true r of_bytes n = omega arith
    clash false r of_bytes n = omega arith
    clash true r of_levels n = omega arith
    clash false r of_levels n = omega arith

-- A refusal that comes of the first step comes whatever the next step is.
first_refused : (o : Result Code) (next other : Code → Result (List ℕ)) (r : Reason) → ((t : Code) → next t ≡ refused r → ⊥)
    → (o >>= next) ≡ refused r → (o >>= other) ≡ refused r
first_refused (value t) next other r never e = absurd (never t e)
first_refused (refused q) next other r never e = e

-- An accepted run puts out a legal tree of the kind to which the root is mapped by the number.
run_legal : (f : Translation) (F : List ℕ) → Operand f F → (root number : ℕ) (bytes : List ℕ) (room : ℕ) (result : List ℕ)
    → run_bytes F root number bytes room ≡ value result → Legal f.target (mapped f.body root number) result
run_legal f F p root number bytes room result e =
    let n = operand_number f F p root number bytes room result e in
    let a = step_value (tree_of f.source root bytes) (λ t. fitted room (write tree (transform f number t))) (sym (operand_has f F p root number bytes room n.0 n.1) ∙ e) in
    let h = tree_typed f.source root bytes a.0 a.1 in
    let u = transform_typed f p.good.sound a.0 root number n.0 n.1 h.0 in (
      transform f number a.0,
      rw (mapped_to f.body root number n.0 n.1) u,
      fitted_value room (write tree (transform f number a.0)) result a.2,
    )

-- A run refuses the tree exactly as reading it does.
run_refused : (g : Translation) (G : List ℕ) → Operand g G → (root number u : ℕ) → mapping_of g.body root number ≡ some u → (bytes : List ℕ) (room : ℕ) (r : Reason) → OfTree r
    → run_bytes G root number bytes room ≡ refused r → (other : Code → Result (List ℕ)) → (tree_of g.source root bytes >>= other) ≡ refused r
run_refused g G pg root number u n bytes room r k e other =
    first_refused (tree_of g.source root bytes) (λ t. fitted room (write tree (transform g number t))) other r
    (λ t q. fitted_refused (ltb room (length (write tree (transform g number t)))) (write tree (transform g number t)) r k q)
    (sym (operand_has g G pg root number bytes room u n) ∙ e)

-- A refused operation put out nothing, an accepted one its value, whatever the buffer.
put_same : (r : Result (List ℕ)) (b c : List ℕ) → put_out (written r) (output_after b r) ≡ put_out (written r) (output_after c r)
put_same (value x) b c = put_out_lem b (value x) x refl ∙ sym (put_out_lem c (value x) x refl)
put_same (refused r) b c = refl

refused_written : (r : Result (List ℕ)) (q : Reason) → r ≡ refused q → written r ≡ Err q
refused_written r q e = rw e

written_refused : (r : Result (List ℕ)) (q : Reason) → written r ≡ Err q → r ≡ refused q
written_refused (value x) q e = cc
written_refused (refused p) q e = let i : p ≡ q = cc in ap refused i

-- Two runs that come to the same are the same with equally long outputs.
same_run : (J F bytes middle : List ℕ) (root n kind number : ℕ) (b c : List ℕ) → length c ≡ length b
    → run_bytes J root n bytes (length b) ≡ run_bytes F kind number middle (length b)
    → SameRun (run_tree J root n bytes c) (run_tree F kind number middle b)
unfolding run_tree
same_run J F bytes middle root n kind number b c l e =
    let q : run_bytes J root n bytes (length c) ≡ run_bytes F kind number middle (length b) = ap (run_bytes J root n bytes) l ∙ e in
    record {
      outcome = ap written q;
      bytes = put_same (run_bytes J root n bytes (length c)) c b ∙ ap (λ (r : Result (List ℕ)). put_out (written r) (output_after b r)) q;
    }

-- What a pack reduces to.
reduces : (fields : List Field) (t : Term translations) (w o bytes : List ℕ) → ReducesTo (packed fields t) w o bytes → Reduction fields t bytes
unfolding reduce
reduces fields t w o bytes e =
    let r = reduce_bytes (packed fields t) (length w) (length o) in
    let v = accepted_value r e.0 in
    let q : v.0 ≡ bytes = sym (put_out_lem o r v.0 v.1) ∙ e.1 in
    (reduction fields t (length w) (length o) bytes (v.1 ∙ ap value q)).0

-- The value of a reduced term, as a run sees it.
operand : {fields : List Field} {t : Term translations} {x : List ℕ} (r : Reduction fields t x) → Operand r.result x
operand {t = t} r = record {
  good = value_good (constants_of r.pack) (reduction_good r) t r.result r.evaluates;
  encodes = r.encodes;
}

-- A join has the source of its second.
source_is : (f g : Translation) → (joined f g).source ≡ g.source
unfolding joined
source_is f g = refl

-- The law, of the translations that the three files hold.
module _ (f g : Translation) (F G J : List ℕ) (pf : Operand f F) (pg : Operand g G) (pj : Operand (joined f g) J)
    (s : SoundJoin f g) (root i j : ℕ) (low : j < 16) where
  -- The two numbers paired.
  abbrev n : ℕ
  n = paired i j

  -- The root lacks the paired number in the join where the kind that it reaches by i in the second lacks j in the first.
  unmapped : (u : ℕ) → mapping_of g.body root i ≡ some u → mapping_of f.body u j ≡ none → mapping_of (joined f g).body root n ≡ none
  unmapped u e d =
      by_option (mapping_of (joined f g).body root n)
      (λ q. q)
      (λ t q.
      let c = pair_mapped f g s root i j t low q in
      let z : u ≡ c.0 = some_inj (sym e ∙ c.1) in
      none_some (sym d ∙ (ap (λ (x : ℕ). mapping_of f.body x j) z ∙ c.2)))

  -- The tree read and run by the join, where the root has its number.
  join_reads : (t : ℕ) → mapping_of (joined f g).body root n ≡ some t → (bytes : List ℕ) (room : ℕ)
      → run_bytes J root n bytes room ≡ (tree_of g.source root bytes >>= λ x. fitted room (write tree (transform (joined f g) n x)))
  join_reads t e bytes room =
      operand_has (joined f g) J pj root n bytes room t e
      ∙ ap (λ (l : Language). tree_of l root bytes >>= λ x. fitted room (write tree (transform (joined f g) n x))) (source_is f g)

  -- The join's run and the second run come to the same.
  module _ (bytes middle : List ℕ) (room space : ℕ) (e : run_bytes G root i bytes room ≡ value middle) where
    -- The kind that the root reaches.
    u : ℕ
    u = (operand_number g G pg root i bytes room middle e).0

    reaches : mapping_of g.body root i ≡ some u
    unfolding u
    reaches = (operand_number g G pg root i bytes room middle e).1

    -- Where it lacks the number in the first, both refuse it.
    lacking : mapping_of f.body u j ≡ none → run_bytes J root n bytes space ≡ run_bytes F u j middle space
    lacking q =
        operand_lacks (joined f g) J pj root n bytes space (unmapped u reaches q)
        ∙ sym (operand_lacks f F pf u j middle space q)

    having : (t : ℕ) → mapping_of f.body u j ≡ some t → (run_bytes F u j middle space ≡ refused TooDeep → ⊥) → run_bytes J root n bytes space ≡ run_bytes F u j middle space
    having t q shallow =
        let a = step_value (tree_of g.source root bytes) (λ x. fitted room (write tree (transform g i x))) (sym (operand_has g G pg root i bytes room u reaches) ∙ e) in
        let x = a.0 in
        let h = tree_typed g.source root bytes x a.1 in
        let m : write tree (transform g i x) ≡ middle = fitted_value room (write tree (transform g i x)) middle a.2 in
        let y = transform_typed g s.second x root i u reaches h.0 in
        let join-run : run_bytes J root n bytes space ≡ fitted space (write tree (transform f j (transform g i x)))
        = join_reads t (mapped_pair f g s root i u j t reaches q) bytes space
        ∙ (ap (λ (o : Result Code). o >>= λ z. fitted space (write tree (transform (joined f g) n z))) a.1
        ∙ ap (λ (z : Code). fitted space (write tree z))
        (tree_runs f g s i u j t h.0 reaches q)) in
        let second_run : (o : Result Code) → tree_of f.source u (write tree (transform g i x)) ≡ o
        → run_bytes F u j middle space ≡ (o >>= λ z. fitted space (write tree (transform f j z)))
        = λ o d.
        operand_has f F pf u j middle space t q
        ∙ (ap (λ (b : List ℕ). tree_of f.source u b >>= λ z. fitted space (write tree (transform f j z))) (sym m)
        ∙ ap (λ (z : Result Code). z >>= λ c. fitted space (write tree (transform f j c))) d) in
        ⊎_elim
        (λ d. absurd (shallow (second_run (refused TooDeep) d)))
        (λ d. join-run ∙ sym (second_run (value (transform g i x)) d))
        (written_tree f.source u (transform g i x) (none_clashes f.source f.source s.first.source.apart)
        (join_lies f g s.first s.second s.says.fits root i u reaches) (typed_larger (target_larger f g s.first s.second s.says.fits) y))

    join_same : (run_bytes F (mapped g.body root i) j middle space ≡ refused TooDeep → ⊥)
        → run_bytes J root n bytes space ≡ run_bytes F (mapped g.body root i) j middle space
    join_same shallow =
        let z = mapped_to g.body root i u reaches in
        rw z (by_option (mapping_of f.body u j) lacking (λ t q. having t q (λ d. shallow (rw z d))))

  runs_of_join : (bytes a b c : List ℕ)
      → RunsOfJoin (run_tree G root i bytes a)
      (run_tree F (mapped g.body root i) j (put_out (run_tree G root i bytes a).outcome (run_tree G root i bytes a).output) b)
      (run_tree J root n bytes c) b c (joined f g).target (mapped (joined f g).body root n) (is_some (mapping_of (joined f g).body root n))
  unfolding run_tree
  runs_of_join bytes a b c =
      let one = run_bytes G root i bytes (length a) in
      let middle = put_out (written one) (output_after a one) in
      let two = run_bytes F (mapped g.body root i) j middle (length b) in
      let whole = run_bytes J root n bytes (length c) in
      record {
        legal = λ z.
            let v = accepted_value whole z in
            subst (Legal (joined f g).target (mapped (joined f g).body root n)) (sym (put_out_lem c whole v.0 v.1))
            (run_legal (joined f g) J pj root n bytes (length c) v.0 v.1);
        lacks = λ z. refused_written whole UnknownRoot (operand_lacks (joined f g) J pj root n bytes (length c) (is_none (mapping_of (joined f g).body root n) z));
        refused = λ z r k d.
            let t = some_is (mapping_of (joined f g).body root n) z in
            let u = pair_mapped f g s root i j t.0 low t.1 in
            refused_written whole r
            (join_reads t.0 t.1 bytes (length c)
            ∙ run_refused g G pg root i u.0 u.1 bytes (length a) r k (written_refused one r d) (λ x. fitted (length c) (write tree (transform (joined f g) n x))));
        agrees = λ z shallow l.
            let v = accepted_value one z in
            let m : one ≡ value middle = v.1 ∙ ap value (sym (put_out_lem a one v.0 v.1)) in
            same_run J F bytes middle root n (mapped g.body root i) j b c l
            (join_same bytes middle (length a) (length b) m (λ q. shallow (refused_written two TooDeep q)));
      }

-- The law of runs.
pub law_of_runs : LawOfRuns
law_of_runs fields f g w w₁ w₂ o o₁ o₂ J G F hj hg hf root i j low bytes a b c =
    let rj = reduces fields (join f g) w o J hj in
    let rg = reduces fields g w₁ o₁ G hg in
    let rf = reduces fields f w₂ o₂ F hf in
    let v = operands_join (constants_of rj.pack) f g rf.result rg.result rj.result (value_under rj rf) (value_under rj rg) rj.evaluates in
    let pj : Operand (joined rf.result rg.result) J = subst (λ (x : Translation). Operand x J) (sym v.is) (operand rj) in
    let s = sound_value rf.result rg.result rj.result (operand rf).good.sound (operand rg).good.sound (operand rj).good.sound v in
    let n = paired i j in
    let one = run_tree G root i bytes a in
    let middle = put_out one.outcome one.output in
    subst (λ (x : Result Translation). RunsOfJoin one (run_tree F (maps_to x root i) j middle b) (run_tree J root n bytes c) b c (target_in (translation_of J)) (maps_to (translation_of J) root n) (has_number (translation_of J) root n))
    (sym (operand_opens rg.result G (operand rg)))
    (subst (λ (x : Result Translation). RunsOfJoin one (run_tree F (mapped rg.result.body root i) j middle b) (run_tree J root n bytes c) b c (target_in x) (maps_to x root n) (has_number x root n))
    (sym (operand_opens (joined rf.result rg.result) J pj))
    (runs_of_join rf.result rg.result F G J (operand rf) (operand rg) pj s root i j low bytes a b c))
