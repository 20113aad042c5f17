-- The first source tree found, or none: a law for each return of `find`.
use Rattle.std.specs.Prelude.{Err, Ok}
use Rattle.outcome.specs.Outcome.{Outcome}
use Prim.Native.Nat.{ℕ, min, ◌+◌, ◌≤◌, ◌<◌}
use mathlib.Core.Path.{◌≡◌, refl, ap, ◌∙◌}
use mathlib.Core.List.{List, ◌++◌}
use mathlib.Core.Option.{Option, none, some}
use native.Mathlib.Omega.{arith}
use lib.ListN.{length, drop}
use borrow.Author.Tests.{le-ltb, lt-ltb}
use Rattle.outcome.specs.declared.Reason.TheVariants.{NoSource, OutputTooShort}
use Rattle.format_fields.specs.Inner.Writing.{spliced}
use Rattle.tree_reader.specs.Code.{Code}
use Rattle.tree_reader.specs.Syntax.{write, tree}
use Rattle.tree_reader.proofs.Larger.{apart}
use Rattle.format_translation.specs.Translation.{Translation, mapping_of}
use Rattle.format_translation.specs.Running.{clauses_of}
use Rattle.format_translation.proofs.Preserved.{Carries}
use Rattle.format_translation.proofs.Fitting.{fit_carries}
use Rattle.run_table.proofs.Clauses as Clauses
use Rattle.search_sources.specs.Inner.Goals.{Fits, First}
use Rattle.search_sources.specs.Inner.Levels.{Needs}
use Rattle.search_sources.proofs.Answers.{fits_more}
use Rattle.search_levels.specs.Inner.Setting.{Seeks}
use Rattle.search_sources.specs.Sources.{search_of}
use Rattle.search_sources.specs.Operations.{found_in}
use Rattle.search_sources.proofs.Finding.{search_first, search_none}
use Rattle.search_first.specs.Inner.Puts.{Puts}
use Rattle.search_operation.specs.Inner.Finding.{Rooted, Answers}

module _ (table source target places kinds bytes memory free : List ℕ) (k : ℕ) (f : Translation) (u : Code)
    (h : Seeks table source target places kinds bytes memory free k 0 f (some u)) (w : Rooted source target bytes f u) (limit : ℕ) where
  carries : Carries f.source f.target (mapping_of f.body) (clauses_of f)
  carries = fit_carries f (Clauses.body_rises w.checked) (Clauses.fits w.checked)

  first_by : (v : List ℕ) → search_of f limit k (write tree u) ≡ some v → (t : Code) × First f.source (clauses_of f) limit k (some u) t × (v ≡ write tree t)
  first_by v e =
      search_first f (apart f.source h.setting.apart) (apart f.target h.setting.targeted.target_index.apart) h.setting.named carries
      h.setting.targeted.has_zero limit k u h.asked.1.typed v e

  none_by : search_of f limit k (write tree u) ≡ none → (t : Code) → Fits f.source (clauses_of f) limit k (some u) t → ⊥
  none_by e =
      search_none f (apart f.source h.setting.apart) (apart f.target h.setting.targeted.target_index.apart) h.setting.named carries
      h.setting.targeted.has_zero limit k u h.asked.1.typed e

  module _ (needed : ℕ) (n : Needs f.source (clauses_of f) limit k (some u) needed) where
    searched_none : limit < needed → search_of f limit k bytes ≡ none
    searched_none past = go (search_of f limit k (write tree u)) refl
      where
        go : (x : Option (List ℕ)) → search_of f limit k (write tree u) ≡ x → search_of f limit k bytes ≡ none
        go none e = ap (search_of f limit k) w.whole ∙ e
        go (some v) e = let t = first_by v e in let z = n.least limit t.0 (omega arith) t.1.fits in absurd (omega arith)

    pub the_first : needed ≤ limit → (t : Code) × First f.source (clauses_of f) limit k (some u) t × (search_of f limit k bytes ≡ some (write tree t))
    the_first within = go (search_of f limit k (write tree u)) refl
      where
        go : (x : Option (List ℕ)) → search_of f limit k (write tree u) ≡ x
            → (t : Code) × First f.source (clauses_of f) limit k (some u) t × (search_of f limit k bytes ≡ some (write tree t))
        go none e = let t = n.finds within in absurd (none_by e t.0 (fits_more within t.1))
        go (some v) e = let t = first_by v e in (t.0, t.1, ap (search_of f limit k) w.whole ∙ (e ∙ ap some t.2))

    pub find_none : (o : List ℕ) (out : Outcome) → limit < needed → out ≡ Err NoSource → Answers (found_in f k bytes limit (length o)) o o out
    unfolding found_in
    find_none o out past e = rw (searched_none past) (record { answer = e; left = refl })

    module _ (within : needed ≤ limit) (o : List ℕ) (m : ℕ) (spare spare' : List ℕ)
        (p : (t : Code) → First f.source (clauses_of f) limit k (some u) t → Puts (length o + 1) (write tree t) spare spare' 0 m) where
      abbrev first_bytes : List ℕ
      first_bytes = write tree (the_first within).0

      measured : m ≡ min (length o + 1) (0 + length first_bytes)
      measured = (p (the_first within).0 (the_first within).1).to

      pub find_long : (out : Outcome) → length o < m → out ≡ Err OutputTooShort → Answers (found_in f k bytes limit (length o)) o o out
      unfolding found_in
      find_long out past e =
          let x = measured in
          let l : length o < length first_bytes = omega arith in
          rw ((the_first within).2, lt-ltb (length o) (length first_bytes) l) (record { answer = e; left = refl })

      pub find_there : (out : Outcome) (r : ℕ) (after : List ℕ) → m ≤ length o
          → ((t : Code) → First f.source (clauses_of f) limit k (some u) t → Puts (length o + 1) (write tree t) o after 0 r)
          → out ≡ Ok m → Answers (found_in f k bytes limit (length o)) o after out
      unfolding found_in spliced
      find_there out r after fits q e =
          let x = measured in
          let y = q (the_first within).0 (the_first within).1 in
          let z = y.to in
          let l : length first_bytes ≤ length o = omega arith in
          let d : m ≡ length first_bytes = omega arith in
          let a : 0 + length first_bytes ≡ length first_bytes = omega arith in
          let s = y.is (omega arith) (omega arith) in
          rw ((the_first within).2, le-ltb (length o) (length first_bytes) l)
          (record { answer = e ∙ ap Ok d; left = s ∙ ap (λ (i : ℕ). first_bytes ++ drop i o) a })
