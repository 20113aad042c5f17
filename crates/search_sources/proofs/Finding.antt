-- The first source tree by the definitions is the first by its levels, names and operands.
use Prim.Native.Nat.{ℕ, max}
use mathlib.Core.Path.{◌≡◌, ap, sym, ◌∙◌}
use mathlib.Core.Bool.{true}
use mathlib.Core.List.{List, [], ◌++◌}
use mathlib.Core.Option.{none, some}
use native.Mathlib.Omega.{arith}
use Rattle.format_fields.specs.Lists.{keep, same_numbers}
use Rattle.format_fields.proofs.Truth.{Mem, keep_cases, mem_keep, mem_map, map_cases, numbers_equal, equal_numbers}
use Rattle.format_language.specs.Language.{Language, is_in}
use Rattle.format_language.proofs.Lookup.{range_mem, arguments_mem, class_in, result_in}
use Rattle.tree_reader.specs.Code.{Code, levels}
use Rattle.tree_reader.specs.Typing.{Typed, typed_node, typed_token, typed_argument}
use Rattle.tree_reader.specs.Syntax.{write, tree, done, read}
use Rattle.tree_reader.proofs.RoundTrip.{Apart, round, as_tree}
use Rattle.format_translation.specs.Translation.{Translation, mapping_of, mapped}
use Rattle.format_translation.specs.Running.{clauses_of, run, transform}
use Rattle.format_translation.proofs.Preserved.{Carries, kept_tree, typed_run}
use Rattle.search_sources.specs.Inner.Goals.{Fits, First}
use Rattle.search_sources.proofs.Answers.{Named, no_kind}
use Rattle.search_sources.specs.Trees.{trees_within}
use Rattle.search_sources.specs.Sources.{runs_to, sources_of, search_of, before}
use Rattle.search_sources.proofs.Ordering.{FirstIn, first_in, least_upto}
use Rattle.search_sources.proofs.Within.{within_legal, legal_within}

-- Bytes of trees of one kind are equal where the trees are, whatever their levels.
done_code : {a b : Code} {r s : List ℕ} → done a r ≡ done b s → a ≡ b
done_code e = cc

pub write_same : (l : Language) → Apart l → {a b : Code} {k : ℕ} → Typed l [] a k → Typed l [] b k → write tree a ≡ write tree b → a ≡ b
write_same l apart {a} {b} {k} h g e =
    let n : ℕ = max (levels a) (levels b) in
    done_code
    (sym (round l apart h as_tree n [] (omega arith))
    ∙ (ap (λ (s : List ℕ). read tree l [] n k (s ++ [])) e ∙ round l apart g as_tree n [] (omega arith)))

-- The kind of a tree is in the language.
typed_in : {l : Language} {t : Code} {k : ℕ} → Typed l [] t k → is_in l k ≡ true
typed_in {l = l} (typed_node {k = k} {p = p} {ks = ks} e h) = result_in l k p ks (arguments_mem l k p ks e)
typed_in {l = l} (typed_token {k = k} {c = c} e h) = class_in l k c (range_mem l k c e)
typed_in (typed_argument {i = i} {j = j} e) = no_kind i j e

module _ (f : Translation) (source_apart : Apart f.source) (target_apart : Apart f.target) (named : Named f.source)
    (carries : Carries f.source f.target (mapping_of f.body) (clauses_of f))
    (has_zero : (k : ℕ) → is_in f.source k ≡ true → mapping_of f.body k 0 ≡ some (mapped f.body k 0)) (n k : ℕ) (u : Code)
    (typed : Typed f.target [] u (mapped f.body k 0)) where
  abbrev target : List ℕ
  target = write tree u

  -- The run of a tree is of the kind that its own maps to.
  run_legal : (t : Code) → Typed f.source [] t k → Typed f.target [] (run (clauses_of f) 0 t) (mapped f.body k 0)
  run_legal t h = typed_run carries (kept_tree (mapping_of f.body)) 0 (mapped f.body k 0) h (has_zero k (typed_in h))

  -- Candidates are the trees that fit.
  runs_fits : (t : Code) → Mem t (keep (runs_to f target) (trees_within f.source n k)) → Fits f.source (clauses_of f) n k (some u) t
  unfolding runs_to transform
  runs_fits t m =
      let z = keep_cases (runs_to f target) t (trees_within f.source n k) m in
      let y = within_legal f.source n k t z.0 in
      record { legal = y.0; within = y.1; meets = write_same f.target target_apart (run_legal t y.0) typed (numbers_equal _ _ z.1) }

  fits_runs : (t : Code) → Fits f.source (clauses_of f) n k (some u) t → Mem t (keep (runs_to f target) (trees_within f.source n k))
  unfolding runs_to transform
  fits_runs t h =
      mem_keep (runs_to f target) t (trees_within f.source n k) (legal_within f.source source_apart named n h.legal h.within)
      (ap (λ (s : List ℕ). same_numbers s target) (ap (write tree) h.meets) ∙ equal_numbers target)

  fits_source : (t : Code) → Fits f.source (clauses_of f) n k (some u) t → Mem (write tree t) (sources_of f n k target)
  unfolding sources_of
  fits_source t h = mem_map (write tree) t (keep (runs_to f target) (trees_within f.source n k)) (fits_runs t h)

  -- What the definitions find is the first tree that fits; where they find none, none fits.
  pub search_first : (bytes : List ℕ) → search_of f n k target ≡ some bytes → (t : Code) × First f.source (clauses_of f) n k (some u) t × (bytes ≡ write tree t)
  unfolding search_of sources_of
  search_first bytes e =
      let w : FirstIn (sources_of f n k target) (some bytes) = rw e at (first_in (sources_of f n k target)) in
      let z = map_cases (write tree) bytes (keep (runs_to f target) (trees_within f.source n k)) w.0 in
      let h = runs_fits z.0 z.1 in (
        z.0,
        record {
          fits = h;
          least = λ s q. least_upto f.source source_apart h.legal q.legal (ap (before (write tree s)) (sym z.2) ∙ w.1 (write tree s) (fits_source s q));
        },
        z.2,
      )

  pub search_none : search_of f n k target ≡ none → (t : Code) → Fits f.source (clauses_of f) n k (some u) t → ⊥
  unfolding search_of
  search_none e t h =
      let w : FirstIn (sources_of f n k target) none = rw e at (first_in (sources_of f n k target)) in
      w (write tree t) (fits_source t h)
