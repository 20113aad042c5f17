-- The match of a clause's code with a tree, one step for each form of code, and what a whole match says of a production's trees.
use Prim.Native.Nat.{ℕ, zero, suc}
use mathlib.Core.Path.{◌≡◌, refl, ap, sym, ◌∙◌}
use mathlib.Core.Bool.{Bool, true, false, cond}
use mathlib.Core.List.{List, [], ◌++◌, append_assoc}
use mathlib.Core.Option.{none, some}
use native.Mathlib.Omega.{arith}
use lib.Dec.{eqb}
use borrow.Author.Tests.{eqb-true, eqb-false, eq-eqb}
use Rattle.format_fields.proofs.Truth.{none_some, some_inj, by_test}
use Rattle.format_language.specs.Language.{Language}
use Rattle.tree_reader.specs.Code.{Code, node, token, argument, Codes, nil, cons}
use Rattle.tree_reader.specs.Typing.{Uses, TypedAll, typed_nil, typed_cons}
use Rattle.tree_reader.specs.Syntax.{Syntax, write, write_all}
use Rattle.format_translation.specs.Running.{Replacing, substitute, substitute_all, from_one, Clauses, run, run_operand}
use Rattle.search_sources.specs.Inner.Goals.{Goal, Meets, MeetsAll, Matches}
use Rattle.search_sources.specs.Inner.Matching.{followed, bind, nothing_bound, Inside, Agrees, Solves, Alike}

-- Codes behind each other.
pub typed_followed : {l : Language} {r : Uses} {t u : Codes} {ks js : List ℕ} → TypedAll l r t ks → TypedAll l r u js → TypedAll l r (followed t u) (ks ++ js)
unfolding followed
typed_followed typed_nil h = h
typed_followed (typed_cons q qs) h = typed_cons q (typed_followed qs h)

pub write_followed : (x : Syntax) (t u : Codes) → write_all x (followed t u) ≡ write_all x t ++ write_all x u
unfolding followed write
write_followed x nil u = refl
write_followed x (cons a t) u = ap (λ (s : List ℕ). write x a ++ s) (write_followed x t u) ∙ sym (append_assoc (write x a) (write_all x t) (write_all x u))

substitute_followed : (s : Replacing) (t u : Codes) → substitute_all s (followed t u) ≡ followed (substitute_all s t) (substitute_all s u)
unfolding followed substitute
substitute_followed s nil u = refl
substitute_followed s (cons a t) u = ap (cons (substitute s a)) (substitute_followed s t u)

cons_both : {a b : Code} {t r : Codes} → cons a t ≡ cons b r → (a ≡ b) × (t ≡ r)
cons_both e = (cc, cc)

-- As many on both sides.
followed_both : {l m : Language} {x y : Uses} {t r : Codes} {ks : List ℕ} (s : Replacing) → TypedAll l x t ks → TypedAll m y r ks → (u v : Codes)
    → followed (substitute_all s t) u ≡ followed r v → (substitute_all s t ≡ r) × (u ≡ v)
unfolding followed substitute
followed_both s typed_nil typed_nil u v e = (refl, e)
followed_both s (typed_cons {a = a} {t = t} h hs) (typed_cons {a = b} {t = r} g gs) u v e =
    let z = cons_both e in
    let y = followed_both s hs gs u v z.1 in
    (λ i. cons (z.0 i) (y.0 i), y.1)

-- A production.
module _ (b : ℕ → Goal) (k p : ℕ) (t cs r us : Codes) where
  pub step_node : {l m : Language} {x y : Uses} {ks : List ℕ} → TypedAll l x t ks → TypedAll m y r ks
      → Alike b (cons (node k p t) cs) (cons (node k p r) us) b (followed t cs) (followed r us)
  unfolding substitute
  step_node h g = record {
    there = λ s q.
        let z = cons_both q.same in
        let y : substitute_all s t ≡ r = node_operands z.0 in
        record { agrees = q.agrees; same = substitute_followed s t cs ∙ (λ i. followed (y i) (z.1 i)) };
    back = λ s q.
        let z = followed_both s h g (substitute_all s cs) us (sym (substitute_followed s t cs) ∙ q.same) in
        record { agrees = q.agrees; same = λ i. cons (node k p (z.0 i)) (z.1 i) };
  }
    where
      node_operands : {k p : ℕ} {t r : Codes} → node k p t ≡ node k p r → t ≡ r
      node_operands e = cc

  pub no_node : (q : ℕ) → (p ≡ q → ⊥) → (s : Replacing) → Solves b (cons (node k p t) cs) (cons (node k q r) us) s → ⊥
  unfolding substitute
  no_node q n s h = n (node_name (cons_both h.same).0)
    where
      node_name : {k p q : ℕ} {t r : Codes} → node k p t ≡ node k q r → p ≡ q
      node_name e = cc

-- A token.
module _ (b : ℕ → Goal) (v : ℕ) (cs us : Codes) where
  pub step_token : Alike b (cons (token v) cs) (cons (token v) us) b cs us
  unfolding substitute
  step_token = record {
    there = λ s q. record { agrees = q.agrees; same = (cons_both q.same).1 };
    back = λ s q. record { agrees = q.agrees; same = ap (cons (token v)) q.same };
  }

  pub no_token : (w : ℕ) → (v ≡ w → ⊥) → (s : Replacing) → Solves b (cons (token v) cs) (cons (token w) us) s → ⊥
  unfolding substitute
  no_token w n s h = n (token_value (cons_both h.same).0)
    where
      token_value : {v w : ℕ} → token v ≡ token w → v ≡ w
      token_value e = cc

-- An argument.
module _ (b : ℕ → Goal) (j : ℕ) (u : Code) (cs us : Codes) where
  pub step_known : b j ≡ some u → Alike b (cons (argument (suc j) 0) cs) (cons u us) b cs us
  unfolding substitute
  step_known e = record {
    there = λ s q. record { agrees = q.agrees; same = (cons_both q.same).1 };
    back = λ s q. record { agrees = q.agrees; same = λ i. cons (q.agrees j u e i) (q.same i) };
  }

  pub no_known : (w : Code) → b j ≡ some w → (w ≡ u → ⊥) → (s : Replacing) → Solves b (cons (argument (suc j) 0) cs) (cons u us) s → ⊥
  unfolding substitute
  no_known w e n s h = n (sym (h.agrees j w e) ∙ (cons_both h.same).0)

  bind_agrees : (s : Replacing) → Agrees b s → s (suc j) 0 ≡ u → Agrees (bind j u b) s
  unfolding bind
  bind_agrees s h e i w q = go (eqb i j) refl q
    where
      go : (t : Bool) → eqb i j ≡ t → cond t (some u) (b i) ≡ some w → s (suc i) 0 ≡ w
      go true y z = ap (λ (x : ℕ). s (suc x) 0) (eqb-true i j y) ∙ (e ∙ some_inj z)
      go false y z = h i w z

  pub bind_here : bind j u b j ≡ some u
  unfolding bind
  bind_here = rw (eq-eqb j j refl)

  pub bind_other : (i : ℕ) → (i ≡ j → ⊥) → bind j u b i ≡ b i
  unfolding bind
  bind_other i n = by_test (eqb i j) (λ e. absurd (n (eqb-true i j e))) (λ e. rw e)

  agrees_bind : b j ≡ none → (s : Replacing) → Agrees (bind j u b) s → Agrees b s × (s (suc j) 0 ≡ u)
  agrees_bind e s h = (λ i w q. go i w q (eqb i j) refl, h j u bind_here)
    where
      go : (i : ℕ) (w : Code) → b i ≡ some w → (t : Bool) → eqb i j ≡ t → s (suc i) 0 ≡ w
      go i w q true y = none_some (sym e ∙ (ap b (sym (eqb-true i j y)) ∙ q))
      go i w q false y = h i w (bind_other i (eqb-false i j y) ∙ q)

  pub step_new : b j ≡ none → Alike b (cons (argument (suc j) 0) cs) (cons u us) (bind j u b) cs us
  unfolding substitute
  step_new e = record {
    there = λ s q. let z = cons_both q.same in record { agrees = bind_agrees s q.agrees z.0; same = z.1 };
    back = λ s q. let z = agrees_bind e s q.agrees in record { agrees = z.0; same = λ i. cons (z.1 i) (q.same i) };
  }

pub alike_same : (b : ℕ → Goal) (cs us : Codes) → Alike b cs us b cs us
alike_same b cs us = record { there = λ s q. q; back = λ s q. q }

pub alike_then : {b d e : ℕ → Goal} {cs us es vs xs ys : Codes} → Alike b cs us d es vs → Alike d es vs e xs ys → Alike b cs us e xs ys
alike_then h g = record { there = λ s q. g.there s (h.there s q); back = λ s q. h.back s (g.back s q) }

-- The runs of the operands of a production.
abbrev runs : Clauses → Codes → Replacing
runs f t = from_one (λ i by. run_operand f t i by)

-- What the match says of the trees of a production.
module _ {l : Language} (f : Clauses) where
  meets_agree : {t : Codes} {ks : List ℕ} → TypedAll l [] t ks → (g : ℕ → Goal) → Inside ks g → MeetsAll f ks g t → Agrees g (runs f t)
  unfolding run from_one
  meets_agree typed_nil g i h j w e = absurd (omega (arith, i j w e))
  meets_agree (typed_cons {a = a} q qs) g i h zero w e = go (g 0) e h.0
    where
      go : (o : Goal) → o ≡ some w → Meets f o a → run f 0 a ≡ w
      go none y z = none_some y
      go (some u) y z = z ∙ some_inj y
  meets_agree (typed_cons q qs) g i h (suc j) w e = meets_agree qs (λ m. g (suc m)) (λ m v y. omega (arith, i (suc m) v y)) h.1 j w e

  agree_meets : {t : Codes} {ks : List ℕ} → TypedAll l [] t ks → (g : ℕ → Goal) → Agrees g (runs f t) → MeetsAll f ks g t
  unfolding run from_one
  agree_meets typed_nil g h = tt
  agree_meets (typed_cons {a = a} q qs) g h = (go (g 0) refl, agree_meets qs (λ i. g (suc i)) (λ j w e. h (suc j) w e))
    where
      go : (o : Goal) → g 0 ≡ o → Meets f o a
      go none e = tt
      go (some u) e = h 0 u e

-- A whole match, and none.
module _ (l : Language) (f : Clauses) (k p : ℕ) (ks : List ℕ) (u : Code) where
  solves_run : (t : Codes) → Meets f (some u) (node k p t) → Solves nothing_bound (cons (f k p 0) nil) (cons u nil) (runs f t)
  unfolding run substitute
  solves_run t h = record { agrees = λ j w e. none_some e; same = ap (λ (a : Code). cons a nil) h }

  run_solves : (t : Codes) → Solves nothing_bound (cons (f k p 0) nil) (cons u nil) (runs f t) → Meets f (some u) (node k p t)
  unfolding run substitute
  run_solves t h = (cons_both h.same).0

  pub matched : (b : ℕ → Goal) → Inside ks b → Alike nothing_bound (cons (f k p 0) nil) (cons u nil) b nil nil → Matches l f k p ks (some u) b
  unfolding substitute
  matched b i h = record {
    down = λ t q m. agree_meets f q b (h.there (runs f t) (solves_run t m)).agrees;
    up = λ t q m. run_solves t (h.back (runs f t) (record { agrees = meets_agree f q b i m; same = refl }));
  }

  pub unmatched : (b : ℕ → Goal) (cs us : Codes) → Alike nothing_bound (cons (f k p 0) nil) (cons u nil) b cs us
      → ((s : Replacing) → Solves b cs us s → ⊥) → (t : Codes) → TypedAll l [] t ks → Meets f (some u) (node k p t) → ⊥
  unmatched b cs us h n t q m = n (runs f t) (h.there (runs f t) (solves_run t m))

-- Where nothing is asked, nothing is asked of the operands.
pub matches_none : (l : Language) (f : Clauses) (k p : ℕ) (ks : List ℕ) → Matches l f k p ks none nothing_bound
matches_none l f k p ks = record { down = λ t q m. agree_meets f q nothing_bound (λ j w e. none_some e); up = λ t q m. tt }
