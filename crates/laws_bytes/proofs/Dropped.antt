-- Where a clause drops an argument, what a search puts there is the first legal tree of its kind within the levels left: any
-- earlier one, put in its place, would give an earlier tree with the same run.
use Prim.Native.Nat.{ℕ, zero, suc, ◌≤◌}
use mathlib.Core.Path.{◌≡◌, refl, sym, ap, ◌∙◌}
use mathlib.Core.Bool.{true, false}
use mathlib.Core.List.{List, []}
use mathlib.Core.Option.{some}
use native.Mathlib.Omega.{arith}
use borrow.Author.Tests.{eq-eqb}
use Rattle.outcome.specs.Outcome.{value}
use Rattle.format_fields.proofs.Truth.{some_inj, false_true, or_false, refuted, not_both}
use Rattle.format_fields.proofs.Codec.{value_inj}
use Rattle.format_language.specs.Language.{Language, arguments_of}
use Rattle.format_language.proofs.Lookup.{result_in, arguments_mem}
use Rattle.tree_reader.specs.Code.{Code, node, token, argument, Codes, nil, cons, levels, levels_all}
use Rattle.tree_reader.specs.Typing.{kind_at, Typed, TypedAll, typed_node, typed_cons}
use Rattle.tree_reader.specs.Syntax.{write, tree}
use Rattle.tree_reader.specs.Operations.{tree_of}
use Rattle.format_translation.specs.Translation.{Translation, mapped}
use Rattle.format_translation.specs.TranslationFile.{translation_of}
use Rattle.format_translation.specs.Running.{Replacing, substitute, substitute_all, from_one, Clauses, run, run_operand, clauses_of, transform}
use Rattle.format_translation.specs.Plain.{plain}
use Rattle.format_translation.proofs.Running.{ByZero, ByZeroAll}
use Rattle.format_translation.proofs.Fitting.{uses_are}
use Rattle.format_translation.proofs.PlainUses.{use_zero, typed_zero}
use Rattle.search_sources.specs.Sources.{before, search_of}
use Rattle.search_sources.specs.Inner.Giving.{Gives}
use Rattle.search_sources.specs.Inner.Order.{Earlier, EarlierAll, by_operands, at_first, after}
use Rattle.search_sources.proofs.Ordering.{Ordered, equal, first, second, order, earlier_before, one_way}
use Rattle.search_sources.proofs.Theorems.{found_gives, nothing_before}
use Rattle.laws_bytes.specs.Searches as Laws
use Rattle.laws_bytes.specs.Searches.{Operand, Below, itself, under, uses, uses_any, DroppedAreFirst}
use Rattle.laws_bytes.proofs.Opened.{has_zero, carries, source_apart}
use Rattle.laws_bytes.proofs.Searches.{Readied, search_found}
use Rattle.laws_bytes.proofs.Texts.{written_back}

-- Two replacements do the same to a code whose uses are by number 0 and at arguments at which they agree.
module _ (Good : ℕ → Type 0) where
  abbrev mutual
    Agreed : Code → Type 0
    Agreed (node k p t) = AgreedAll t
    Agreed (token v) = Unit {0}
    Agreed (argument i j) = (j ≡ 0) × Good i

    AgreedAll : Codes → Type 0
    AgreedAll nil = Unit {0}
    AgreedAll (cons a t) = Agreed a × AgreedAll t

  module _ (s r : Replacing) (e : (i : ℕ) → Good i → s i 0 ≡ r i 0) where
    mutual
      unfolding substitute

      alike : (a : Code) → Agreed a → substitute s a ≡ substitute r a
      alike (node k p t) h = ap (node k p) (alike_all t h)
      alike (token v) h = refl
      alike (argument i j) h = rw h.0 (e i h.1)

      alike_all : (t : Codes) → AgreedAll t → substitute_all s t ≡ substitute_all r t
      alike_all nil h = refl
      alike_all (cons a t) h = λ i. cons (alike a h.0 i) (alike_all t h.1 i)

-- A code whose uses are by number 0: at any argument, and where it does not use argument i, at others.
mutual
  anywhere : (a : Code) → ByZero a → Agreed (λ i. Unit {0}) a
  anywhere (node k p t) h = anywhere_all t h
  anywhere (token v) h = tt
  anywhere (argument i j) h = (h, tt)

  anywhere_all : (t : Codes) → ByZeroAll t → AgreedAll (λ i. Unit {0}) t
  anywhere_all nil h = tt
  anywhere_all (cons a t) h = (anywhere a h.0, anywhere_all t h.1)

module _ (i : ℕ) where
  mutual
    unfolding uses

    elsewhere : (a : Code) → ByZero a → uses i a ≡ false → Agreed (λ x. x ≡ i → ⊥) a
    elsewhere (node k p t) h e = elsewhere_all t h e
    elsewhere (token v) h e = tt
    elsewhere (argument x j) h e = (h, λ d. false_true (sym e ∙ eq-eqb x i d))

    elsewhere_all : (t : Codes) → ByZeroAll t → uses_any i t ≡ false → AgreedAll (λ x. x ≡ i → ⊥) t
    elsewhere_all nil h e = tt
    elsewhere_all (cons a t) h e = let z = or_false (uses i a) (uses_any i t) e in (elsewhere a h.0 z.0, elsewhere_all t h.1 z.1)

-- A row with one operand replaced.
abbrev put : {k : ℕ} {u : Code} {i : ℕ} {ks : List ℕ} {t : Codes} → Operand k u i ks t → Code → Codes
put (Laws.first {t = t}) v = cons v t
put (Laws.later {a = a} o) v = cons a (put o v)

operand_typed : {l : Language} {k : ℕ} {u : Code} {i : ℕ} {ks : List ℕ} {t : Codes} → Operand k u i ks t → TypedAll l [] t ks → Typed l [] u k
operand_typed Laws.first (typed_cons h hs) = h
operand_typed (Laws.later o) (typed_cons h hs) = operand_typed o hs

operand_within : {k : ℕ} {u : Code} {i n : ℕ} {ks : List ℕ} {t : Codes} → Operand k u i ks t → levels_all t ≤ n → levels u ≤ n
unfolding levels
operand_within Laws.first d = omega arith
operand_within (Laws.later o) d = operand_within o (omega arith)

module _ (v : Code) where
  put_typed : {l : Language} {k : ℕ} {u : Code} {i : ℕ} {ks : List ℕ} {t : Codes} (o : Operand k u i ks t) → TypedAll l [] t ks → Typed l [] v k → TypedAll l [] (put o v) ks
  put_typed Laws.first (typed_cons h hs) g = typed_cons g hs
  put_typed (Laws.later o) (typed_cons h hs) g = typed_cons h (put_typed o hs g)

  put_within : {k : ℕ} {u : Code} {i n : ℕ} {ks : List ℕ} {t : Codes} (o : Operand k u i ks t) → levels_all t ≤ n → levels v ≤ n → levels_all (put o v) ≤ n
  unfolding levels
  put_within Laws.first d w = omega arith
  put_within (Laws.later o) d w = let r = put_within o (omega arith) w in omega arith

  put_earlier : {k : ℕ} {u : Code} {i : ℕ} {ks : List ℕ} {t : Codes} (o : Operand k u i ks t) → Earlier v u → EarlierAll (put o v) t
  put_earlier Laws.first h = at_first h
  put_earlier (Laws.later o) h = after (put_earlier o h)

  module _ (c : Clauses) where
    -- The other operands stay, and so does the replaced one's run, where it is the same.
    put_others : {k : ℕ} {u : Code} {i : ℕ} {ks : List ℕ} {t : Codes} (o : Operand k u i ks t) (x : ℕ) → (suc x ≡ i → ⊥) → run_operand c (put o v) x 0 ≡ run_operand c t x 0
    unfolding run
    put_others Laws.first zero h = absurd (h refl)
    put_others Laws.first (suc x) h = refl
    put_others (Laws.later o) zero h = refl
    put_others (Laws.later o) (suc x) h = put_others o x (λ e. h (ap suc e))

    put_same : {k : ℕ} {u : Code} {i : ℕ} {ks : List ℕ} {t : Codes} (o : Operand k u i ks t) → run c 0 v ≡ run c 0 u → (x : ℕ) → run_operand c (put o v) x 0 ≡ run_operand c t x 0
    unfolding run
    put_same Laws.first e zero = e
    put_same Laws.first e (suc x) = refl
    put_same (Laws.later o) e zero = refl
    put_same (Laws.later o) e (suc x) = put_same o e x

-- A tree that is like another but earlier: legal, within the levels, with the same run.
record Swapped (l : Language) (c : Clauses) (m kind : ℕ) (t : Code) : Type 0 where
  new : Code
  typed : Typed l [] new kind
  within : levels new ≤ m
  sooner : Earlier new t
  same : run c 0 new ≡ run c 0 t

module _ (file : List ℕ) (f : Translation) (accepted : translation_of file ≡ value f) (zero_only : plain f.body ≡ true) where
  clause_zero : (k p : ℕ) (ks : List ℕ) → arguments_of f.source k p ≡ some ks → ByZero (clauses_of f k p 0)
  clause_zero k p ks e =
      let z = has_zero file f accepted k (result_in f.source k p ks (arguments_mem f.source k p ks e)) in
      typed_zero (λ i j t q. use_zero f zero_only k p i j t (ap (λ u. kind_at u i j) (uses_are f k p ks e) ∙ q))
      ((carries file f accepted).nodes k p 0 (mapped f.body k 0) ks e z)

  -- The run of a production does not see an operand that its clause drops, nor one whose run stays the same.
  dropped_same : (k p : ℕ) {i j : ℕ} {u : Code} (v : Code) {ks : List ℕ} {t : Codes} → arguments_of f.source k p ≡ some ks → (o : Operand j u i ks t) → uses i (clauses_of f k p 0) ≡ false
      → run (clauses_of f) 0 (node k p (put o v)) ≡ run (clauses_of f) 0 (node k p t)
  unfolding run from_one
  dropped_same k p {i = i} v {ks = ks} {t = t} e o h =
      alike (λ x. x ≡ i → ⊥) (from_one (λ x j. run_operand (clauses_of f) (put o v) x j)) (from_one (λ x j. run_operand (clauses_of f) t x j)) agree
      (clauses_of f k p 0) (elsewhere i (clauses_of f k p 0) (clause_zero k p ks e) h)
    where
      agree : (x : ℕ) → (x ≡ i → ⊥) → from_one (λ x j. run_operand (clauses_of f) (put o v) x j) x 0 ≡ from_one (λ x j. run_operand (clauses_of f) t x j) x 0
      agree zero q = refl
      agree (suc x) q = put_others v (clauses_of f) o x q

  replaced_same : (k p : ℕ) {i j : ℕ} {u : Code} (v : Code) {ks : List ℕ} {t : Codes} → arguments_of f.source k p ≡ some ks → (o : Operand j u i ks t) → run (clauses_of f) 0 v ≡ run (clauses_of f) 0 u
      → run (clauses_of f) 0 (node k p (put o v)) ≡ run (clauses_of f) 0 (node k p t)
  unfolding run from_one
  replaced_same k p v {ks = ks} {t = t} e o h =
      alike (λ x. Unit {0}) (from_one (λ x j. run_operand (clauses_of f) (put o v) x j)) (from_one (λ x j. run_operand (clauses_of f) t x j)) agree
      (clauses_of f k p 0) (anywhere (clauses_of f k p 0) (clause_zero k p ks e))
    where
      agree : (x : ℕ) → Unit {0} → from_one (λ x j. run_operand (clauses_of f) (put o v) x j) x 0 ≡ from_one (λ x j. run_operand (clauses_of f) t x j) x 0
      agree zero q = refl
      agree (suc x) q = put_same v (clauses_of f) o h x

  -- A row of a production has the kinds of its arguments.
  row_typed : (k p : ℕ) {kind : ℕ} {ks : List ℕ} {t : Codes} → arguments_of f.source k p ≡ some ks → Typed f.source [] (node k p t) kind → TypedAll f.source [] t ks × (kind ≡ k)
  row_typed k p e (typed_node d h) = (rw (some_inj (sym d ∙ e)) at h, refl)

  -- A tree with an operand replaced by an earlier one whose run is the same, or which is dropped, is such a tree.
  swap_operand : (m k p : ℕ) {i j kind : ℕ} {u : Code} (v : Code) {ks : List ℕ} {t : Codes} → arguments_of f.source k p ≡ some ks → (o : Operand j u i ks t) → Typed f.source [] (node k p t) kind
      → levels_all t ≤ m → Typed f.source [] v j → levels v ≤ m → Earlier v u → run (clauses_of f) 0 (node k p (put o v)) ≡ run (clauses_of f) 0 (node k p t)
      → Swapped f.source (clauses_of f) (suc m) kind (node k p t)
  unfolding levels
  swap_operand m k p v e o h d g w q same =
      let (hs, is) = row_typed k p e h in
      let x = put_within v o d w in
      record {
        new = node k p (put o v);
        typed = rw is (typed_node e (put_typed v o hs g));
        within = omega arith;
        sooner = by_operands (put_earlier v o q);
        same = same;
      }

  -- What stands below a legal tree is a legal tree of some kind.
  below_typed : {n : ℕ} {b : Code} {m : ℕ} {t : Code} → Below f n b m t → (kind : ℕ) → Typed f.source [] t kind → (k : ℕ) × Typed f.source [] b k
  below_typed itself kind h = (kind, h)
  below_typed (under {j = j} {k = k} {p = p} e o b) kind h = below_typed b j (operand_typed o (row_typed k p e h).0)

  -- What stands below is replaced.
  swap : {n : ℕ} {b : Code} {m : ℕ} {t : Code} → Below f n b m t → (kind : ℕ) → Typed f.source [] t kind → levels t ≤ m
      → ((k : ℕ) → Typed f.source [] b k → levels b ≤ n → Swapped f.source (clauses_of f) n k b) → Swapped f.source (clauses_of f) m kind t
  unfolding levels
  swap itself kind h d s = s kind h d
  swap (under {m = m} {j = j} {k = k} {p = p} {t = t} {a = a} e o b) kind h d s =
      let (hs, is) = row_typed k p e h in
      let low : levels_all t ≤ m = omega arith in
      let r = swap b j (operand_typed o hs) (operand_within o low) s in
      swap_operand m k p r.new e o h low r.typed r.within r.sooner (replaced_same k p r.new e o r.same)

pub dropped_are_first : DroppedAreFirst
unfolding transform levels
dropped_are_first translation root target limit room bytes names e s n k p i j ks t u b args o unused v h w =
    refuted (before (write tree v) (write tree u)) (λ sooner. go sooner)
  where
    f : Translation
    f = s.through

    -- The tree that was found, with the operand replaced, would come before it.
    none_sooner : Readied translation root target limit f → search_of f limit root target ≡ some bytes → Gives f limit root target s.plan → write tree s.plan ≡ bytes → Earlier v u → ⊥
    none_sooner r found gives is q =
        let base : (kind : ℕ) → Typed f.source [] (node k p t) kind → levels (node k p t) ≤ suc n → Swapped f.source (clauses_of f) (suc n) kind (node k p t) =
        λ kind g d. swap_operand translation f s.opened r.zero_only n k p v args o g (omega arith) h w q (dropped_same translation f s.opened r.zero_only k p v args o unused) in
        let x = swap translation f s.opened r.zero_only b root gives.legal gives.within base in
        let new : Gives f limit root target x.new = record { legal = x.typed; within = x.within; runs = ap (write tree) x.same ∙ gives.runs } in
        let z : before (write tree x.new) bytes ≡ true = ap (λ (y : List ℕ). before (write tree x.new) y) (sym is) ∙ earlier_before x.sooner in
        not_both z (nothing_before translation f s.opened names limit root target bytes found x.new new)

    decide : Readied translation root target limit f → search_of f limit root target ≡ some bytes → Gives f limit root target s.plan → write tree s.plan ≡ bytes
        → before (write tree v) (write tree u) ≡ true → Ordered v u → ⊥
    decide r found gives is sooner (equal d) = one_way (write tree v) (write tree u) sooner (ap (λ (x : Code). before (write tree u) (write tree x)) d ∙ (ap (λ (x : Code). before (write tree x) (write tree u)) (sym d) ∙ sooner))
    decide r found gives is sooner (first q) = none_sooner r found gives is q
    decide r found gives is sooner (second q) = one_way (write tree v) (write tree u) sooner (earlier_before q)

    go : before (write tree v) (write tree u) ≡ true → ⊥
    go sooner =
        let (g, ready, search) = search_found translation root target limit room bytes e in
        let same : g ≡ f = value_inj (sym ready.opened ∙ s.opened) in
        let r : Readied translation root target limit f = rw same at ready in
        let found : search_of f limit root target ≡ some bytes = rw same at search in
        let (x, gives, is) = found_gives f limit root target bytes found in
        let low = r.low in
        let deep = gives.within in
        let back = written_back f.source (source_apart translation f s.opened) root x r.known gives.legal (omega arith) in
        let plan_is : s.plan ≡ x = value_inj (sym s.is_plan ∙ (ap (tree_of f.source root) is ∙ back)) in
        let mine : Gives f limit root target s.plan = rw (← plan_is) at gives in
        let typed-u = operand_typed o (row_typed translation f s.opened r.zero_only k p args (below_typed translation f s.opened r.zero_only b root mine.legal).1).0 in
        decide r found mine (ap (write tree) plan_is ∙ sym is) sooner (order f.source (source_apart translation f s.opened) h typed-u)
