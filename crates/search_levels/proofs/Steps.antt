-- The steps of the match: a law for each return of the functions of `clause`.
use Prim.Native.Nat.{ℕ, ◌+◌, ◌-◌, ◌≤◌, ◌<◌}
use mathlib.Core.Path.{◌≡◌, refl, ap, sym, ◌∙◌}
use mathlib.Core.List.{List}
use mathlib.Core.Option.{none, some}
use native.Mathlib.Omega.{arith}
use Rattle.std.specs.Prelude.{None, Some}
use native.Mathlib.Decide.{ℕ_discrete}
use lib.ListN.{length, get_or, set, take, drop, length-set}
use lib.Seq.{get_or-set_same, get_or-set_other}
use borrow.Author.Tests.{eq-eqb, ne_eqb}
use Rattle.tree_reader.specs.Code.{Code, nil}
use Rattle.tree_reader.specs.Syntax.{write, tree}
use Rattle.tree_reader.proofs.Larger.{apart}
use Rattle.format_translation.specs.Translation.{Translation, mapped}
use Rattle.tree_index.specs.Inner.Lying.{Lies, There}
use Rattle.tree_index.proofs.Lying.{past_inside}
use Rattle.search_sources.specs.Inner.Goals.{Goal}
use Rattle.search_sources.specs.Inner.Matching.{bind}
use Rattle.search_sources.proofs.Matching.{step_known, no_known, step_new, bind_here, bind_other}
use Rattle.search_levels.specs.Inner.Setting.{Asked}
use Rattle.search_levels.specs.Inner.Clauses.{Bound, ArgumentAsks, ArgumentGives, width}
use Rattle.search_levels.proofs.Lying.{same_tree, tree_same, some_byte}

-- width_of
pub width_token : (sign : ℕ) → sign ≡ 2 → 3 ≡ width sign
unfolding width
width_token sign h = rw (eq-eqb sign 2 h)

pub width_other : (sign : ℕ) → (sign ≡ 2 → ⊥) → 2 ≡ width sign
unfolding width
width_other sign h = rw (ne_eqb sign 2 h)

-- argument
module _ (target places bytes memory bound : List ℕ) (kind to i : ℕ) (f : Translation) (ks : List ℕ) (b : ℕ → Goal) (u : Code)
    (h : ArgumentAsks target places bytes memory bound kind to i f ks b u) where
  pub argument_there : There places target bytes to kind f.target u
  argument_there = record { index_of = h.target_index; lies = h.lies }

  pub argument_inside : to + length (write tree u) ≤ length bytes
  argument_inside = past_inside bytes to (write tree u) h.lies.rest h.lies.inside h.lies.is

  asked_free : (g : Goal) → Asked f bytes (get_or bound i 0) (get_or ks i 0) g → length bytes ≤ get_or bound i 0 → g ≡ none
  asked_free none q z = refl
  asked_free (some w) q z = absurd (omega (arith, q.0))

  asked_tree : (g : Goal) → Asked f bytes (get_or bound i 0) (get_or ks i 0) g → get_or bound i 0 < length bytes
      → (w : Code) × (g ≡ some w) × Lies f.target bytes (get_or bound i 0) (mapped f.body (get_or ks i 0) 0) w
  asked_tree none q z = absurd (omega arith)
  asked_tree (some w) q z = (w, refl, q.1)

  lies_kind : Lies f.target bytes to (mapped f.body (get_or ks i 0) 0) u
  lies_kind = rw (← h.kind_is) h.lies

  -- The argument comes first here.
  module _ (free : length bytes ≤ get_or bound i 0) where
    unbound : b i ≡ none
    unbound = asked_free (b i) (h.is.at i h.number) free

    newly : (e : ℕ) → e ≡ to + length (write tree u) → Bound f bytes (set bound i to) e ks (bind i u b)
    newly e d = record { long = length-set bound i to ∙ h.is.long; at = λ j q. at_new j q (ℕ_discrete j i); before = λ j w q. old j w q (ℕ_discrete j i); inside = λ j w q. within j w q (ℕ_discrete j i) }
      where
        grows : 1 ≤ length (write tree u)
        grows = some_byte h.lies.typed

        small : i < length bound
        small = let x = h.number in let y = h.few in let z = h.is.long in omega arith

        at_new : (j : ℕ) → j < length ks → Dec (j ≡ i) → Asked f bytes (get_or (set bound i to) j 0) (get_or ks j 0) (bind i u b j)
        at_new j q (yes z) =
            let y : Asked f bytes to (get_or ks i 0) (some u) = (let x = argument_inside in let v = grows in omega arith, lies_kind) in
            rw (z, get_or-set_same bound i to 0 small, bind_here b i u nil nil) y
        at_new j q (no z) = rw (get_or-set_other bound i j to 0 z, bind_other b i u nil nil j z) (h.is.at j q)

        old : (j : ℕ) (w : Code) → bind i u b j ≡ some w → Dec (j ≡ i) → get_or (set bound i to) j 0 < e
        old j w q (yes z) = rw (z, get_or-set_same bound i to 0 small) (let v = grows in omega arith)
        old j w q (no z) =
            let y = h.is.before j w (sym (bind_other b i u nil nil j z) ∙ q) in
            rw (get_or-set_other bound i j to 0 z) (let v = grows in omega arith)

        within : (j : ℕ) (w : Code) → bind i u b j ≡ some w → Dec (j ≡ i) → j < length ks
        within j w q (yes z) = rw z h.number
        within j w q (no z) = h.is.inside j w (sym (bind_other b i u nil nil j z) ∙ q)

    pub argument_new : (e : ℕ) → e ≡ to + length (write tree u) → ArgumentGives bytes (set bound i to) to i (Some e) f ks b u
    argument_new e d = record {
      goes = λ x n. let z : x ≡ to + length (write tree u) = cc in (z, bind i u b, newly x z, λ cs us. step_new b i u cs us unbound);
      stops = λ z. absurd cc;
    }

  -- The argument has come before.
  module _ (there : get_or bound i 0 < length bytes) where
    abbrev earlier : (w : Code) × (b i ≡ some w) × Lies f.target bytes (get_or bound i 0) (mapped f.body (get_or ks i 0) 0) w
    earlier = asked_tree (b i) (h.is.at i h.number) there

    pub argument_starts : get_or bound i 0 ≤ to
    argument_starts = let z = h.is.before i earlier.0 earlier.1 in omega arith

    target_apart : Rattle.tree_reader.proofs.RoundTrip.Apart f.target
    target_apart = apart f.target h.target_index.apart

    later : (e : ℕ) → e ≡ to + length (write tree u) → Bound f bytes bound e ks b
    later e d = record { long = h.is.long; at = h.is.at; before = λ j w q. let z = h.is.before j w q in omega arith; inside = h.is.inside }

    pub argument_same : (e : ℕ) → e ≡ to + length (write tree u) → take (e - to) (drop (get_or bound i 0) bytes) ≡ take (e - to) (drop to bytes)
        → ArgumentGives bytes bound to i (Some e) f ks b u
    argument_same e d q =
        let n : e - to ≡ length (write tree u) = omega arith in
        let z : earlier.0 ≡ u = same_tree f.target target_apart bytes (mapped f.body (get_or ks i 0) 0) (get_or bound i 0) to earlier.0 u earlier.2 lies_kind (rw n at q) in
        record {
          goes = λ x m. let y : x ≡ to + length (write tree u) = cc in (y, b, later x y, λ cs us. step_known b i u cs us (earlier.1 ∙ ap some z));
          stops = λ x. absurd cc;
        }

    pub argument_other : (e : ℕ) → e ≡ to + length (write tree u) → (take (e - to) (drop (get_or bound i 0) bytes) ≡ take (e - to) (drop to bytes) → ⊥)
        → ArgumentGives bytes bound to i None f ks b u
    argument_other e d q =
        let n : e - to ≡ length (write tree u) = omega arith in
        record {
          goes = λ x m. absurd cc;
          stops = λ x cs us s y.
              no_known b i u cs us earlier.0 earlier.1
              (λ z. q (rw n (tree_same f.target target_apart bytes (mapped f.body (get_or ks i 0) 0) (get_or bound i 0) to earlier.0 u earlier.2 lies_kind z))) s y;
        }
