-- What a search puts out, in bytes: it runs to the target, nothing comes before it, and 23 is given exactly if there is none.
use Prim.Native.Nat.{ℕ, ◌≤◌}
use mathlib.Core.Path.{◌≡◌, refl, sym, ap, ◌∙◌}
use mathlib.Core.Bool.{Bool, true, false, not}
use mathlib.Core.List.{List}
use mathlib.Core.Option.{Option, none, some}
use native.Mathlib.Omega.{arith}
use lib.ListN.{length}
use lib.Dec.{leb, ltb}
use borrow.Author.Tests.{leb-true}
use Rattle.outcome.specs.Outcome.{Result, value, refused, ◌>>=◌, refuse_if, number_of, written}
use Rattle.outcome.specs.declared.Reason.TheVariants.{UnknownRoot, NoSource, LimitOutOfRange, NumberUnfit, OutputTooShort}
use Rattle.format_fields.specs.Lists.{is_some}
use Rattle.format_fields.proofs.Truth.{true_not, and_both}
use Rattle.format_fields.proofs.Codec.{refused_value, step_value, value_inj}
use Rattle.format_language.specs.Language.{is_in}
use Rattle.tree_reader.specs.Code.{Code}
use Rattle.tree_reader.specs.Syntax.{write, tree}
use Rattle.tree_reader.specs.Operations.{tree_of}
use Rattle.check_operations.proofs.Legal.{tree_right}
use Rattle.tree_index.proofs.Checking.{tree_bytes}
use Rattle.format_translation.specs.Translation.{Translation, mapping_of, mapped}
use Rattle.format_translation.specs.TranslationFile.{translation_of}
use Rattle.format_translation.specs.Running.{transform}
use Rattle.format_translation.specs.Operations.{fitted, run_bytes}
use Rattle.format_translation.specs.Plain.{plain}
use Rattle.format_translation.proofs.Fitting.{refuse_value}
use Rattle.search_sources.specs.Sources.{search_of}
use Rattle.search_sources.specs.Operations.{is_limit, ready, found, found_in, search_bytes}
use Rattle.search_sources.specs.Inner.Giving.{Gives}
use Rattle.search_sources.proofs.Theorems.{found_gives, nothing_before, none_gives}
use Rattle.laws_bytes.specs.Files.{OfBytes}
use Rattle.laws_bytes.specs.Searches.{Source, FoundRuns, NothingEarlier, NoneExactly}
use Rattle.laws_bytes.proofs.Opened.{has_zero, source_apart, tree_narrow}
use Rattle.laws_bytes.proofs.Texts.{fitted_value, fits, written_back}

-- The number of a result.
abbrev numbered : Result (List ℕ) → ℕ
numbered r = number_of (written r)

-- What was accepted before a search is made.
pub record Readied (translation : List ℕ) (root : ℕ) (target : List ℕ) (limit : ℕ) (f : Translation) : Type 0 where
  pub opened : translation_of translation ≡ value f
  pub zero_only : plain f.body ≡ true
  pub known : is_in f.source root ≡ true
  pub low : limit ≤ 16
  pub goal : Code
  pub goal_is : tree_of f.target (mapped f.body root 0) target ≡ value goal

pub readied : (translation : List ℕ) (root : ℕ) (target : List ℕ) (limit : ℕ) (f : Translation) → ready translation root target limit ≡ value f
    → Readied translation root target limit f
unfolding ready
readied translation root target limit f e =
    let a = step_value (translation_of translation) (λ g.
    refuse_if (not (plain g.body)) NumberUnfit
    (refuse_if (not (is_in g.source root)) UnknownRoot
    (tree_of g.target (mapped g.body root 0) target >>= λ u.
    refuse_if (not (is_limit limit)) LimitOutOfRange (value g)))) e in
    let g = a.0 in
    let b = refuse_value (not (plain g.body)) NumberUnfit (refuse_if (not (is_in g.source root)) UnknownRoot
    (tree_of g.target (mapped g.body root 0) target >>= λ u. refuse_if (not (is_limit limit)) LimitOutOfRange (value g))) a.2 in
    let c = refuse_value (not (is_in g.source root)) UnknownRoot
    (tree_of g.target (mapped g.body root 0) target >>= λ u. refuse_if (not (is_limit limit)) LimitOutOfRange (value g)) b.1 in
    let d = step_value (tree_of g.target (mapped g.body root 0) target) (λ u. refuse_if (not (is_limit limit)) LimitOutOfRange (value g)) c.1 in
    let h = refuse_value (not (is_limit limit)) LimitOutOfRange (value g) d.2 in
    let same : g ≡ f = value_inj h.1 in
    let r : Readied translation root target limit g = record {
      opened = a.1;
      zero_only = true_not (plain g.body) b.0;
      known = true_not (is_in g.source root) c.0;
      low = leb-true limit 16 (and_both (leb 1 limit) (leb limit 16) (true_not (is_limit limit) h.0)).1;
      goal = d.0;
      goal_is = d.1;
    } in
    rw same at r

-- What is found, and how the search and the run come to it.
module _ (translation : List ℕ) (root : ℕ) (target : List ℕ) (limit room : ℕ) where
  -- A search that gives bytes found them.
  pub search_found : (bytes : List ℕ) → search_bytes translation root target limit room ≡ value bytes
      → (f : Translation) × Readied translation root target limit f × (search_of f limit root target ≡ some bytes)
  unfolding search_bytes found_in
  search_found bytes e =
      let a = step_value (ready translation root target limit) (λ f. found_in f root target limit room) e in
      let b = step_value (found (search_of a.0 limit root target)) (λ s. fitted room s) a.2 in
      let x = fitted_value room b.0 bytes b.2 in
      (a.0, readied translation root target limit a.0 a.1, found_some (search_of a.0 limit root target) b.0 b.1 ∙ ap some x)
    where
      found_some : (o : Option (List ℕ)) (s : List ℕ) → found o ≡ value s → o ≡ some s
      found_some none s e = refused_value e
      found_some (some t) s e = ap some (value_inj e)

  -- A tree that gives the target is a source, and a source gives it.
  pub gives_source : (f : Translation) → Readied translation root target limit f → (t : Code) → Gives f limit root target t
      → Source translation root target limit (write tree t)
  unfolding run_bytes
  gives_source f r t g =
      let low = r.low in
      let z = has_zero translation f r.opened root r.known in
      let w = g.within in
      let back = written_back f.source (source_apart translation f r.opened) root t r.known g.legal (omega arith) in
      record {
        through = f;
        opened = r.opened;
        plan = t;
        is_plan = back;
        within = g.within;
        runs = rw (r.opened, z, back, g.runs) (fits (length target) target (omega arith));
      }

  pub source_gives : (f : Translation) → translation_of translation ≡ value f → (bytes : List ℕ) → OfBytes bytes → (s : Source translation root target limit bytes)
      → (t : Code) × Gives f limit root target t × (write tree t ≡ bytes)
  unfolding run_bytes
  source_gives f opened bytes narrow s =
      let same : s.through ≡ f = value_inj (sym s.opened ∙ opened) in
      let is : tree_of f.source root bytes ≡ value s.plan = rw same at s.is_plan in
      let a = step_value (translation_of translation) (λ g.
      refuse_if (not (is_some (mapping_of g.body root 0))) UnknownRoot (tree_of g.source root bytes >>= λ t. fitted (length target) (write tree (transform g 0 t)))) s.runs in
      let g : a.0 ≡ f = value_inj (sym a.1 ∙ opened) in
      let b : refuse_if (not (is_some (mapping_of f.body root 0))) UnknownRoot (tree_of f.source root bytes >>= λ t. fitted (length target) (write tree (transform f 0 t))) ≡ value target = rw g at a.2 in
      let c = refuse_value (not (is_some (mapping_of f.body root 0))) UnknownRoot (tree_of f.source root bytes >>= λ t. fitted (length target) (write tree (transform f 0 t))) b in
      let d = step_value (tree_of f.source root bytes) (λ t. fitted (length target) (write tree (transform f 0 t))) c.1 in
      let same_plan : d.0 ≡ s.plan = value_inj (sym d.1 ∙ is) in
      let runs : write tree (transform f 0 s.plan) ≡ target = rw same_plan at (fitted_value (length target) (write tree (transform f 0 d.0)) target d.2) in
      (s.plan, record { legal = (tree_right f.source root bytes s.plan is).1.0; within = s.within; runs = runs }, tree_bytes f.source root bytes s.plan narrow is)

pub found_runs : FoundRuns
found_runs translation root target limit room bytes e =
    let (f, r, h) = search_found translation root target limit room bytes e in
    let (t, g, is) = found_gives f limit root target bytes h in
    rw is (gives_source translation root target limit room f r t g)

pub nothing_earlier : NothingEarlier
nothing_earlier translation root target limit room bytes names e other narrow s =
    let (f, r, h) = search_found translation root target limit room bytes e in
    let (t, g, is) = source_gives translation root target limit room f r.opened other narrow s in
    rw (← is) (nothing_before translation f r.opened names limit root target bytes h t g)

-- Where all else is accepted, the search itself decides.
module _ (translation : List ℕ) (root : ℕ) (target : List ℕ) (limit room : ℕ) (f : Translation) (e : ready translation root target limit ≡ value f) where
  not_found : (o : Option (List ℕ)) → (found o >>= λ bytes. fitted room bytes) ≡ refused NoSource → o ≡ none
  not_found none h = refl
  not_found (some s) h = absurd (fitted_not (ltb room (length s)) s h)
    where
      fitted_not : (b : Bool) (s : List ℕ) → refuse_if b OutputTooShort (value s) ≡ refused NoSource → ⊥
      fitted_not true s h = let z : ◌≡◌ {A = ℕ} 17 23 = ap numbered h in omega arith
      fitted_not false s h = refused_value (sym h)

  refused_none : search_bytes translation root target limit room ≡ refused NoSource → search_of f limit root target ≡ none
  unfolding search_bytes found_in
  refused_none h = not_found (search_of f limit root target) (rw e at h)

  none_refused : search_of f limit root target ≡ none → search_bytes translation root target limit room ≡ refused NoSource
  unfolding search_bytes found_in
  none_refused h = rw (e, h)

pub none_exactly : NoneExactly
none_exactly translation root target limit room f names e =
    let r = readied translation root target limit f e in (
      λ h other narrow s.
          let (t, g, is) = source_gives translation root target limit room f r.opened other narrow s in
          none_gives translation f r.opened names limit root target (refused_none translation root target limit room f e h) t g,
      λ never. none_refused translation root target limit room f e (go (search_of f limit root target) refl r never),
    )
  where
    go : (o : Option (List ℕ)) → search_of f limit root target ≡ o → Readied translation root target limit f
        → ((other : List ℕ) → OfBytes other → Source translation root target limit other → ⊥) → search_of f limit root target ≡ none
    go none h r never = h
    go (some bytes) h r never =
        let (t, g, is) = found_gives f limit root target bytes h in
        absurd (never (write tree t) (tree_narrow translation f r.opened names t root g.legal) (gives_source translation root target limit room f r t g))
