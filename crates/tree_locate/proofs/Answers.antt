-- The operation that tells where reading stopped: a law for each return.
use Rattle.std.specs.Prelude.{Err, Ok}
use Rattle.tree_reader.specs.declared.node.ReadError.{ReadError}
use Rattle.tree_reader.specs.declared.node.ReadError.TheVariants.{Deep, Broken}
use Prim.Native.Nat.{ℕ, ◌<◌, ◌≤◌}
use mathlib.Core.Path.{◌≡◌, refl, sym, ap, ◌∙◌}
use mathlib.Core.List.{List, []}
use native.Mathlib.Omega.{arith}
use lib.ListN.{length, drop, drop_of_length-le}
use Rattle.outcome.specs.Outcome.{Result, value, checked, ◌>>=◌, Outcome}
use Rattle.outcome.specs.declared.Reason.{Reason}
use Rattle.outcome.specs.declared.Reason.TheVariants.{IllegalTree}
use Rattle.format_fields.proofs.Split.{front}
use Rattle.format_language.specs.Language.{Language}
use Rattle.tree_reader.specs.Code.{Code}
use Rattle.tree_reader.specs.Syntax as Meant
use Rattle.tree_reader.specs.Operations.{tree_levels, whole_tree, check_tree}
use Rattle.tree_reader.specs.Inner.Positions.{rest, rest_at, rest_of, refusal_of, EndsBy, Read}
use Rattle.tree_reader.specs.Inner.Positions as Left
use Rattle.tree_reader.proofs.Meaning.{done_of, deep_of, broken_of}
use Rattle.check_operations.specs.Inner.Opening.{rooted_of}
use Rattle.check_operations.proofs.Opening.{opened_not, rooted_steps, rooted_tree}
use Rattle.check_operations.proofs.TreeChain.{tree_refused}
use Rattle.tree_locate.specs.Faults.{Stop, passes, ends, unfit, deep, stop}
use Rattle.tree_locate.specs.Operations.{Located, position_of, stop_position, stop_of, told_position, locate_tree}
use Rattle.tree_locate.specs.Inner.Places.{stopped, place_of, place_at, Walk, NotPast, Answers}
use Rattle.tree_locate.proofs.Agreement.{rest_by, stop_agrees}
use Rattle.tree_locate.proofs.Walks.{past_of, position_is}

-- fault_at
module _ (b : List ℕ) (o : Stop) {w : Walk} where
  pub fault_past : {e : ℕ} {A : Type 0} → w ≡ Ok e → place_at b w ≡ place_of b o → NotPast o → A
  unfolding place_at place_of
  fault_past {e} ew h n = absurd (n (drop e b) (past_of b o (drop e b) (sym (ap (place_at b) ew) ∙ h)))

  pub fault_stopped : {p : ℕ} → w ≡ Err p → place_at b w ≡ place_of b o → p ≡ stop_position b o
  unfolding place_at place_of
  fault_stopped {p} ew h = go o (sym (ap (place_at b) ew) ∙ h)
    where
      go : (o : Stop) → stopped p ≡ place_of b o → p ≡ stop_position b o
      go (passes s) e = let z : ◌≡◌ {A = ℕ} 0 1 = cc in absurd (omega arith)
      go ends e = cc
      go (unfit s) e = cc
      go (deep s) e = cc

-- What is left tells the stop.
pub passes_by : (o : Stop) (u : List ℕ) → rest_by o ≡ rest u → o ≡ passes u
passes_by (passes s) u e = cc
passes_by ends u e = let z : ◌≡◌ {A = ℕ} 0 1 = cc in absurd (omega arith)
passes_by (unfit s) u e = let z : ◌≡◌ {A = ℕ} 0 1 = cc in absurd (omega arith)
passes_by (deep s) u e = let z : ◌≡◌ {A = ℕ} 0 1 = cc in absurd (omega arith)

deep_by : (o : Stop) → rest_by o ≡ Left.deep → NotPast o
deep_by o e s h = let z : ◌≡◌ {A = ℕ} 0 1 = cc in omega arith

broken_by : (o : Stop) → rest_by o ≡ Left.broken → NotPast o
broken_by o e s h = let z : ◌≡◌ {A = ℕ} 0 1 = cc in omega arith

-- locate_in
module _ (l : Language) (k : ℕ) (b : List ℕ) (f : Read) (er : rest_at b f ≡ rest_of (Meant.read Meant.tree l [] tree_levels k b)) where
  abbrev reading : Meant.Read Code
  reading = Meant.read Meant.tree l [] tree_levels k b

  abbrev halt : Stop
  halt = stop l tree_levels k b

  left_same : rest_by halt ≡ rest_at b f
  left_same = stop_agrees l tree_levels k b ∙ sym er

  module _ (e : ℕ) (ef : f ≡ Ok e) where
    read_to : (t : Code) × (reading ≡ Meant.done t (drop e b))
    read_to = done_of reading (drop e b) (sym er ∙ ap (rest_at b) ef)

    halt_to : halt ≡ passes (drop e b)
    halt_to = passes_by halt (drop e b) (left_same ∙ ap (rest_at b) ef)

    pub answer_leftover : EndsBy (length b) f → (e ≡ length b → ⊥) → Answers b reading halt (record { outcome = Err IllegalTree; position = e })
    answer_leftover w h =
        let v : e ≤ length b = rw ef at w in
        let m : e < length b = omega arith in
        let c = front b e m in
        let x : checked (whole_tree reading) ≡ Err IllegalTree = ap (λ (g : Meant.Read Code). checked (whole_tree g)) (read_to.1 ∙ ap (Meant.done read_to.0) c) in
        let y : stop_position b halt ≡ position_of b (drop e b) = ap (stop_position b) (halt_to ∙ ap passes c) ∙ ap (position_of b) (sym c) in
        record { outcome = sym x; position = sym (y ∙ position_is b e v) }

    pub answer_whole : e ≡ length b → Answers b reading halt (record { outcome = Ok 0; position = 0 })
    answer_whole h =
        let m : length b ≤ e = omega arith in
        let c = drop_of_length-le b {i = e} m in
        record {
          outcome = sym (ap (λ (g : Meant.Read Code). checked (whole_tree g)) (read_to.1 ∙ ap (Meant.done read_to.0) c));
          position = sym (ap (stop_position b) (halt_to ∙ ap passes c));
        }

  pub answer_refused : {x : ReadError} → f ≡ Err x → {p : ℕ} → (NotPast halt → p ≡ stop_position b halt)
      → Answers b reading halt (record { outcome = Err (refusal_of x); position = p })
  answer_refused {x = Deep} h e = record {
    outcome = sym (ap (λ (g : Meant.Read Code). checked (whole_tree g)) (deep_of reading (sym er ∙ ap (rest_at b) h)));
    position = e (deep_by halt (left_same ∙ ap (rest_at b) h));
  }
  answer_refused {x = Broken} h e = record {
    outcome = sym (ap (λ (g : Meant.Read Code). checked (whole_tree g)) (broken_of reading (sym er ∙ ap (rest_at b) h)));
    position = e (broken_by halt (left_same ∙ ap (rest_at b) h));
  }

-- locate
same : {r d : Located} → r.outcome ≡ d.outcome → r.position ≡ d.position → r ≡ d
same e h = λ i. record { outcome = e i; position = h i }

module _ (s : List ℕ) (root : ℕ) (b : List ℕ) where
  -- The position by the language that is opened with its root.
  told_by : (locate_tree s root b).position ≡ told_position (rooted_of s root >>= λ l. value (stop_position b (stop l tree_levels root b)))
  unfolding locate_tree stop_of
  told_by = ap told_position (rooted_steps s root (λ l. value (stop_position b (stop l tree_levels root b))))

  pub located_refused : {o : Outcome} {x : Reason} → o ≡ checked (rooted_of s root) → o ≡ Err x → record { outcome = Err x; position = 0 } ≡ locate_tree s root b
  unfolding locate_tree
  located_refused {x = x} eo h =
      same
      (tree_refused s root b eo h refl)
      (sym (told_by ∙ ap (λ (m : Result Language). told_position (m >>= λ l. value (stop_position b (stop l tree_levels root b)))) (opened_not s root eo h)))

  pub located_read : (l : Language) → rooted_of s root ≡ value l → {r : Located}
      → Answers b (Meant.read Meant.tree l [] tree_levels root b) (stop l tree_levels root b) r → r ≡ locate_tree s root b
  unfolding locate_tree check_tree
  located_read l e a =
      same
      (a.outcome ∙ sym (ap checked (rooted_tree s root b ∙ ap (λ (m : Result Language). m >>= λ l. whole_tree (Meant.read Meant.tree l [] tree_levels root b)) e)))
      (a.position ∙ sym (told_by ∙ ap (λ (m : Result Language). told_position (m >>= λ l. value (stop_position b (stop l tree_levels root b)))) e))
