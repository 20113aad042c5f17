-- What the earlier rule of levels accepted is accepted by the current one, with the same bytes.
use Prim.Native.Nat.{ℕ}
use mathlib.Core.Path.{◌≡◌, refl, sym, ap, subst, ◌∙◌}
use mathlib.Core.Logic.{inl, inr}
use mathlib.Core.Bool.{true, not, ◌||◌}
use mathlib.Core.List.{List, []}
use mathlib.Core.Option.{Option, none, some, get_or}
use lib.ListN.{length}
use lib.Dec.{ltb}
use Rattle.outcome.specs.Outcome.{value, refuse_if, ◌>>=◌}
use Rattle.outcome.specs.declared.Reason.TheVariants.{TooLong, OutOfOrder, ClassIsResult, WrongMapping, WrongClauses, IllegalCode, UnknownRoot}
use Rattle.format_fields.specs.Fields.{has_over}
use Rattle.format_fields.specs.Lists.{all, is_some}
use Rattle.format_fields.proofs.Truth.{true_not, all_mem, mem_all, some_is}
use Rattle.format_language.specs.Language.{Language, is_in, clashes}
use Rattle.format_language.specs.LanguageFile.{language_limit, whole}
use Rattle.tree_reader.specs.Code.{Code, token}
use Rattle.tree_reader.specs.Syntax.{tree, code, write, Read, done, read_level, read_code_level, earlier, current, read_by}
use Rattle.tree_reader.specs.Operations.{tree_levels, tree_of}
use Rattle.tree_reader.proofs.Sound.{More, rules_more}
use Rattle.tree_reader.proofs.Larger.{deep_done}
use Rattle.format_translation.specs.Translation.{Translation, Item, mapping, clause, mapping_of, clause_of, mapped}
use Rattle.format_translation.specs.Running.{run, code_levels, uses_of, whole_code, read_clause, clauses_of, transform}
use Rattle.format_translation.specs.WellFormed.{mapping_fits, clauses_fit, code_fits, codes_fit, well_formed}
use Rattle.format_translation.specs.TranslationFile.{parts_of, translation_limit, is_language_tag, all_rising, translation_of}
use Rattle.format_translation.specs.Operations.{fitted, run_bytes}
use Rattle.format_translation.proofs.Lookup.{clause_mem}
use Rattle.format_translation.proofs.Fitting.{whole_done, refuse_value}
use Rattle.reduce_terms.proofs.Evaluated.{step_value, value_inj}
use Rattle.laws.specs.Earlier.{LawOfRules, code_by, clauses_by, code_fits_by, well_formed_by, translation_by, tree_by, run_by, RunByCurrent, SessionsStay}
use Rattle.check_operations.proofs.Legal.{tree_done}

more_done : (o p : Read Code) (a : Code) (r : List ℕ) → More o p → o ≡ done a r → p ≡ done a r
more_done o p a r (inl e) d = deep_done (sym e ∙ d)
more_done o p a r (inr e) d = e ∙ d

pub law_of_rules : LawOfRules
law_of_rules x l uses n k s a r e = more_done _ _ a r (rules_more x l uses n k s) e

module _ (f : Translation) where
  code_stays : (k p j : ℕ) (bytes : List ℕ) (a : Code) → code_by earlier f k p j bytes ≡ some a → read_clause f k p j bytes ≡ done a []
  unfolding code_by read_clause
  code_stays k p j bytes a e =
      law_of_rules code f.target (uses_of f k p) code_levels (mapped f.body k j) bytes a [] (whole_done _ a e)

  fits_stay : (i : Item) → code_fits_by earlier f i ≡ true → code_fits f i ≡ true
  unfolding code_fits_by code_fits
  fits_stay (mapping s j t) e = refl
  fits_stay (clause r p j c) e = let q = some_is (code_by earlier f r p j c) e in rw (code_stays r p j c q.0 q.1)

  module _ (fits : all (code_fits_by earlier f) f.body ≡ true) where
    codes_stay : codes_fit f ≡ true
    unfolding codes_fit
    codes_stay = mem_all (code_fits f) f.body (λ i m. fits_stay i (all_mem (code_fits_by earlier f) f.body fits i m))

    -- Where there is no clause there is no code by either rule.
    no_clause : (k p j : ℕ) → code_by earlier f k p j [] ≡ whole_code (read_clause f k p j [])
    unfolding code_by read_clause read_by read_level read_code_level
    no_clause k p j = refl

    clause_stays : (k p j : ℕ) (o : Option (List ℕ)) → clause_of f.body k p j ≡ o
        → code_by earlier f k p j (get_or o []) ≡ whole_code (read_clause f k p j (get_or o []))
    unfolding code_fits_by
    clause_stays k p j none e = no_clause k p j
    clause_stays k p j (some c) e =
        let q = some_is (code_by earlier f k p j c) (all_mem (code_fits_by earlier f) f.body fits (clause k p j c) (clause_mem f.body k p j c e)) in
        rw (q.1, code_stays k p j c q.0 q.1)

    clauses_stay : (k p j : ℕ) → clauses_by earlier f k p j ≡ clauses_of f k p j
    unfolding clauses_by clauses_of
    clauses_stay k p j = ap (λ (o : Option Code). get_or o (token 0)) (clause_stays k p j (clause_of f.body k p j) refl)

    run_stays : (number : ℕ) (t : Code) → run (clauses_by earlier f) number t ≡ transform f number t
    unfolding transform
    run_stays number t = λ i. run (λ k p j. clauses_stay k p j i) number t

  formed_stays : (g : Translation) → well_formed_by earlier f ≡ value g
      → (well_formed f ≡ value g) × (all (code_fits_by earlier f) f.body ≡ true) × (f ≡ g)
  unfolding well_formed_by well_formed
  formed_stays g e =
      let a = refuse_value (not (mapping_fits f)) WrongMapping _ e in
      let b = refuse_value (not (clauses_fit f)) WrongClauses _ a.1 in
      let c = refuse_value (not (all (code_fits_by earlier f) f.body)) IllegalCode _ b.1 in
      let d = true_not _ c.0 in
      (rw (a.0, b.0, codes_stay d) c.1, d, value_inj c.1)

translation_stays : (s : List ℕ) (g : Translation) → translation_by earlier s ≡ value g
    → (translation_of s ≡ value g) × (all (code_fits_by earlier g) g.body ≡ true)
unfolding translation_by translation_of
translation_stays s g e =
    let a = refuse_value (ltb translation_limit (length s) || has_over is_language_tag language_limit s) TooLong _ e in
    let b = step_value (whole (parts_of s)) _ a.1 in
    let c = refuse_value (not (all_rising b.0)) OutOfOrder _ b.2 in
    let d = refuse_value (clashes b.0.source b.0.source || clashes b.0.target b.0.target) ClassIsResult _ c.1 in
    let w = formed_stays b.0 g d.1 in (
      rw (a.0, b.1, c.0, d.0) w.0,
      subst (λ (h : Translation). all (code_fits_by earlier h) h.body ≡ true) w.2 w.1,
    )

tree_stays : (l : Language) (root : ℕ) (bytes : List ℕ) (t : Code) → tree_by earlier l root bytes ≡ value t → tree_of l root bytes ≡ value t
unfolding tree_by tree_of
tree_stays l root bytes t e =
    let a = refuse_value (not (is_in l root)) UnknownRoot _ e in
    rw (a.0, law_of_rules tree l [] tree_levels root bytes t [] (tree_done _ t a.1))

pub sessions_stay : SessionsStay
unfolding run_by run_bytes
sessions_stay s root number bytes room result e =
    let a = step_value (translation_by earlier s) _ e in
    let w = translation_stays s a.0 a.1 in
    let h = refuse_value (not (is_some (mapping_of a.0.body root number))) UnknownRoot _ a.2 in
    let b = step_value (tree_by earlier a.0.source root bytes) _ h.1 in
    rw (w.0, h.0, tree_stays a.0.source root bytes b.0 b.1)
    (ap (λ (c : Code). fitted room (write tree c)) (sym (run_stays a.0 w.1 number b.0)) ∙ b.2)

-- By the current rule these are the definitions of the operations.
fits_same : (f : Translation) (i : Item) → code_fits_by current f i ≡ code_fits f i
unfolding code_fits_by code_fits code_by read_clause
fits_same f (mapping s j t) = refl
fits_same f (clause r p j c) = refl

formed_same : (f : Translation) → well_formed_by current f ≡ well_formed f
unfolding well_formed_by well_formed codes_fit
formed_same f = λ i.
    refuse_if (not (mapping_fits f)) WrongMapping
    (refuse_if (not (clauses_fit f)) WrongClauses
    (refuse_if (not (all (λ j. fits_same f j i) f.body)) IllegalCode
    (value f)))

translation_same : (s : List ℕ) → translation_by current s ≡ translation_of s
unfolding translation_by translation_of
translation_same s = λ i.
    refuse_if (ltb translation_limit (length s) || has_over is_language_tag language_limit s) TooLong
    (whole (parts_of s) >>= λ f.
    refuse_if (not (all_rising f)) OutOfOrder
    (refuse_if (clashes f.source f.source || clashes f.target f.target) ClassIsResult
    (formed_same f i)))

clauses_same : (f : Translation) (k p j : ℕ) → clauses_by current f k p j ≡ clauses_of f k p j
unfolding clauses_by clauses_of code_by read_clause
clauses_same f k p j = refl

tree_same : (l : Language) (root : ℕ) (bytes : List ℕ) → tree_by current l root bytes ≡ tree_of l root bytes
unfolding tree_by tree_of
tree_same l root bytes = refl

pub run_by_current : RunByCurrent
unfolding run_by run_bytes transform
run_by_current s root number bytes room = λ i.
    translation_same s i >>= λ f.
    refuse_if (not (is_some (mapping_of f.body root number))) UnknownRoot
    (tree_same f.source root bytes i >>= λ t.
    fitted room (write tree (run (λ k p j. clauses_same f k p j i) number t)))
