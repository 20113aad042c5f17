-- What "well formed" says, by the members of the two languages and of the body.
use Prim.Native.Nat.{ℕ, ◌<◌}
use mathlib.Core.Path.{◌≡◌, refl, ap, sym, ◌∙◌}
use mathlib.Core.Logic.{inl, inr}
use mathlib.Core.Bool.{Bool, true, false, not, ◌&&◌, beq}
use mathlib.Core.Option.{Option, none, some}
use mathlib.Core.List.{List, [], ◌∷◌, map}
use native.Mathlib.Omega.{arith}
use Rattle.format_fields.specs.Lists.{all, is_some}
use Rattle.outcome.specs.Outcome.{Result, value, refuse_if}
use Rattle.outcome.specs.declared.Reason.{Reason}
use Rattle.outcome.specs.declared.Reason.TheVariants.{WrongMapping, WrongClauses, IllegalCode as CodeRefused}
use Rattle.format_fields.proofs.Truth.{Mem, none_some, some_inj, false_true, and_both, same_truth, all_mem, mem_all, some_is, is_some_lem, mem_count, true_not, both_and}
use Rattle.format_fields.proofs.Keyed.{Rising}
use Rattle.format_fields.proofs.Codec.{refused_value, value_inj}
use Rattle.format_language.specs.Language.{Entry, class, production, Language, entry_key, Range, range_within, is_in, range_of, arguments_of}
use Rattle.format_language.proofs.Lookup.{arguments_mem, mem_arguments}
use Rattle.tree_reader.specs.Code.{Code}
use Rattle.tree_reader.specs.Typing.{Uses, Typed}
use Rattle.tree_reader.specs.Syntax.{Read, done, deep, broken, code}
use Rattle.tree_reader.proofs.Sound.{read_done}
use Rattle.tree_reader.proofs.Larger.{Larger, read_keeps, keeps}
use Rattle.format_translation.specs.Translation.{Item, mapping, clause, Translation, item_key, mapping_of, clause_of, mapped, numbers_of}
use Rattle.format_translation.specs.Running.{uses_of, read_clause, whole_code, clauses_of, code_levels}
use Rattle.format_translation.specs.WellFormed.{kinds, kinds_mapped, reaches_target, lies_in, keeps_range, class_kept, mapping_fits, has_clause, has_production, clauses_fit, code_fits, codes_fit, well_formed}
use Rattle.format_translation.proofs.Lookup.{mapping_mem, clause_mem, mem_mapping, mem_mapped, mem_clause, number_mem, mem_number}
use Rattle.format_translation.proofs.Preserved.{Contains, Carries}

pub record Fitting (f : Translation) : Type 0 where
  -- Each kind in the source has number 0; all mappings go from the source to the target.
  pub maps : (k : ℕ) → is_in f.source k ≡ true → (t : ℕ) × Mem (mapping k 0 t) f.body
  pub maps_only : (s j t : ℕ) → Mem (mapping s j t) f.body → (is_in f.source s ≡ true) × (is_in f.target t ≡ true)
  -- A source class maps, by each number, to a target class that contains its range.
  pub classes : (s j t : ℕ) (c : Range) → Mem (mapping s j t) f.body → range_of f.source s ≡ some c → Contains f.target t c
  -- Each source production has a clause for each number of its result, and there is no other.
  pub clauses : (r p j t : ℕ) (ks : List ℕ) → Mem (production r p ks) f.source → Mem (mapping r j t) f.body
      → (c : List ℕ) × Mem (clause r p j c) f.body
  pub clauses_only : (r p j : ℕ) (c : List ℕ) → Mem (clause r p j c) f.body
      → ((ks : List ℕ) × Mem (production r p ks) f.source) × ((t : ℕ) × Mem (mapping r j t) f.body)
  -- A clause's code, with nothing after it, is of the kind that its result maps to by its number.
  pub codes : (r p j : ℕ) (c : List ℕ) → Mem (clause r p j c) f.body → (a : Code) × (read_clause f r p j c ≡ done a [])

-- All kinds in the language are kinds.
abbrev pub KindsBelow : Translation → Type 0
KindsBelow f = (k : ℕ) → is_in f.source k ≡ true → k < 32

beq_equal : (a b : Bool) → beq a b ≡ true → a ≡ b
beq_equal true true e = refl
beq_equal false false e = refl
beq_equal true false e = false_true e
beq_equal false true e = false_true e

equal_beq : (a b : Bool) → a ≡ b → beq a b ≡ true
equal_beq true true e = refl
equal_beq false false e = refl
equal_beq true false e = false_true (sym e)
equal_beq false true e = false_true e

lies_in_lem : (c : Range) (o : Option Range) → lies_in c o ≡ true → (d : Range) × (o ≡ some d) × (range_within c d ≡ true)
lies_in_lem c none e = false_true e
lies_in_lem c (some d) e = (d, refl, e)

pub whole_done : (o : Read Code) (a : Code) → whole_code o ≡ some a → o ≡ done a []
whole_done (done c []) a e = ap (λ (x : Code). done x []) (some_inj e)
whole_done (done c (b ∷ s)) a e = none_some e
whole_done deep a e = none_some e
whole_done broken a e = none_some e

-- What is kept of a class's range.
keeps_range_lem : (o d : Option Range) (c : Range) → keeps_range o d ≡ true → o ≡ some c → lies_in c d ≡ true
keeps_range_lem none d c e h = none_some h
keeps_range_lem (some x) d c e h = ap (λ (y : Range). lies_in y d) (sym (some_inj h)) ∙ e

mapping_tests : (f : Translation) → mapping_fits f ≡ true
    → (kinds_mapped f ≡ true) × (all (reaches_target f) f.body ≡ true) × (all (class_kept f) f.body ≡ true)
unfolding mapping_fits
mapping_tests f e =
    let r = and_both (kinds_mapped f) (all (reaches_target f) f.body && all (class_kept f) f.body) e in
    let s = and_both (all (reaches_target f) f.body) (all (class_kept f) f.body) r.1 in
    (r.0, s.0, s.1)

pub clause_tests : (f : Translation) → clauses_fit f ≡ true → (all (has_clause f) f.source ≡ true) × (all (has_production f) f.body ≡ true)
unfolding clauses_fit
clause_tests f e = and_both (all (has_clause f) f.source) (all (has_production f) f.body) e

module _ (f : Translation) (below : KindsBelow f) (rises : Rising item_key f.body) where
  -- Exactly the kinds in the source are mapped by 0: the test at each kind.
  mapped_test : kinds_mapped f ≡ true → (k : ℕ) → k < 32 → is_some (mapping_of f.body k 0) ≡ is_in f.source k
  unfolding kinds_mapped kinds
  mapped_test e k h = beq_equal _ _ (all_mem _ kinds e k (mem_count 32 0 k (omega arith) h))

  -- The tests say that it fits.
  pub tests_fit : mapping_fits f ≡ true → clauses_fit f ≡ true → codes_fit f ≡ true → Fitting f
  unfolding reaches_target class_kept has_clause has_production codes_fit code_fits
  tests_fit e c d =
      let g = mapping_tests f e in
      let h = clause_tests f c in
      record {
        maps = λ k i.
            let r = some_is (mapping_of f.body k 0) (mapped_test g.0 k (below k i) ∙ i) in
            (r.0, mapping_mem f.body k 0 r.0 r.1);
        maps_only = λ s j t m.
            let r = and_both (is_in f.source s) (is_in f.target t) (all_mem (reaches_target f) f.body g.1 (mapping s j t) m) in
            (r.0, r.1);
        classes = λ s j t b m q. lies_in_lem b _ (keeps_range_lem _ _ b (all_mem (class_kept f) f.body g.2 (mapping s j t) m) q);
        clauses = λ r p j t ks m n.
            let y = all_mem (has_clause f) f.source h.0 (production r p ks) m in
            let q = some_is (clause_of f.body r p j) (all_mem _ (numbers_of f.body r) y j (mem_number f.body r j t n)) in
            (q.0, clause_mem f.body r p j q.0 q.1);
        clauses_only = λ r p j b m.
            let y = and_both (is_some (arguments_of f.source r p)) (is_some (mapping_of f.body r j)) (all_mem (has_production f) f.body h.1 (clause r p j b) m) in
            let q = some_is (arguments_of f.source r p) y.0 in
            let o = some_is (mapping_of f.body r j) y.1 in
            ((q.0, arguments_mem f.source r p q.0 q.1), (o.0, mapping_mem f.body r j o.0 o.1));
        codes = λ r p j b m.
            let q = some_is (whole_code (read_clause f r p j b)) (all_mem (code_fits f) f.body d (clause r p j b) m) in
            (q.0, whole_done (read_clause f r p j b) q.0 q.1);
      }

  module _ (source_rises : Rising entry_key f.source) (w : Fitting f) where
    kinds_mapped_lem : kinds_mapped f ≡ true
    unfolding kinds_mapped kinds
    kinds_mapped_lem =
        mem_all _ kinds (λ k n. equal_beq _ _ (same_truth (is_some (mapping_of f.body k 0)) (is_in f.source k)
        (λ e. let r = some_is (mapping_of f.body k 0) e in (w.maps_only k 0 r.0 (mapping_mem f.body k 0 r.0 r.1)).0)
        (λ e. let r = w.maps k e in is_some_lem (mapping_of f.body k 0) (mem_mapping f.body rises k 0 r.0 r.1))))

    reaches : (a : Item) → Mem a f.body → reaches_target f a ≡ true
    unfolding reaches_target
    reaches (mapping s j t) m = let q = w.maps_only s j t m in both_and _ _ q.0 q.1
    reaches (clause r p j c) m = refl

    kept : (a : Item) → Mem a f.body → class_kept f a ≡ true
    unfolding class_kept
    kept (mapping s j t) m = go (range_of f.source s) refl
      where
        go : (o : Option Range) → range_of f.source s ≡ o → keeps_range o (range_of f.target t) ≡ true
        go none e = refl
        go (some c) e = let d = w.classes s j t c m e in rw d.1 d.2
    kept (clause r p j c) m = refl

    has_clause_lem : (a : Entry) → Mem a f.source → has_clause f a ≡ true
    unfolding has_clause
    has_clause_lem (class k c) m = refl
    has_clause_lem (production r p ks) m =
        mem_all _ (numbers_of f.body r) (λ j n.
        let t = number_mem f.body r j n in
        let q = w.clauses r p j t.0 ks m t.1 in
        is_some_lem (clause_of f.body r p j) (mem_clause f.body rises r p j q.0 q.1))

    has_production_lem : (a : Item) → Mem a f.body → has_production f a ≡ true
    unfolding has_production
    has_production_lem (mapping s j t) m = refl
    has_production_lem (clause r p j c) m =
        let q = w.clauses_only r p j c m in
        both_and _ _ (is_some_lem (arguments_of f.source r p) (mem_arguments f.source source_rises r p q.0.0 q.0.1))
        (is_some_lem (mapping_of f.body r j) (mem_mapping f.body rises r j q.1.0 q.1.1))

    code_fits_lem : (a : Item) → Mem a f.body → code_fits f a ≡ true
    unfolding code_fits
    code_fits_lem (mapping s j t) m = refl
    code_fits_lem (clause r p j c) m = let q = w.codes r p j c m in rw q.1

    -- What fits passes the tests.
    pub fit_tests : well_formed f ≡ value f
    unfolding well_formed mapping_fits clauses_fit codes_fit
    fit_tests =
        rw (
          kinds_mapped_lem,
          mem_all (reaches_target f) f.body reaches,
          mem_all (class_kept f) f.body kept,
          mem_all (has_clause f) f.source has_clause_lem,
          mem_all (has_production f) f.body has_production_lem,
          mem_all (code_fits f) f.body code_fits_lem,
        )

pub refuse_value : {A : Type 0} {a : A} (t : Bool) (r : Reason) (o : Result A) → refuse_if t r o ≡ value a → (t ≡ false) × (o ≡ value a)
refuse_value true r o e = refused_value e
refuse_value false r o e = (refl, e)

-- A translation that is well formed fits.
pub formed_fits : (f g : Translation) → KindsBelow f → Rising item_key f.body → well_formed f ≡ value g → Fitting f × (f ≡ g)
unfolding well_formed
formed_fits f g below rises e =
    let a = refuse_value (not (mapping_fits f)) WrongMapping _ e in
    let b = refuse_value (not (clauses_fit f)) WrongClauses _ a.1 in
    let c = refuse_value (not (codes_fit f)) CodeRefused _ b.1 in
    (tests_fit f below rises (true_not _ a.0) (true_not _ b.0) (true_not _ c.0), value_inj c.1)

-- What a clause's code was read as.
pub clause_code : (f : Translation) → Rising item_key f.body → (k p j : ℕ) (c : List ℕ) (a : Code) → Mem (clause k p j c) f.body
    → read_clause f k p j c ≡ done a [] → clauses_of f k p j ≡ a
unfolding clauses_of
clause_code f rises k p j c a m e = rw (mem_clause f.body rises k p j c m, e)

-- The uses of a production's arguments.
pub uses_are : (f : Translation) (k p : ℕ) (ks : List ℕ) → arguments_of f.source k p ≡ some ks → uses_of f k p ≡ map (mapping_of f.body) ks
unfolding uses_of
uses_are f k p ks e = rw e

-- A typed code, under equal names.
typed_as : {m : Language} {u v : Uses} {a c : Code} {k t : ℕ} → c ≡ a → u ≡ v → k ≡ t → Typed m u a k → Typed m v c t
typed_as e q h x = rw (e, ← q, ← h) x

-- The clauses of a fitting translation carry its source to its target (C.6).
pub fit_carries : (f : Translation) → Rising item_key f.body → Fitting f → Carries f.source f.target (mapping_of f.body) (clauses_of f)
unfolding read_clause
fit_carries f rises w = record {
  nodes = λ k p j t ks e q.
      let c = w.clauses k p j t ks (arguments_mem f.source k p ks e) (mapping_mem f.body k j t q) in
      let a = w.codes k p j c.0 c.1 in
      let d = read_done code f.target (uses_of f k p) code_levels (mapped f.body k j) c.0 a.0 [] a.1 in
      let y : mapped f.body k j ≡ t = mem_mapped f.body rises k j t (mapping_mem f.body k j t q) in
      typed_as (clause_code f rises k p j c.0 a.0 c.1 a.1) (uses_are f k p ks e) y d.0;
  tokens = λ k j t c q e. w.classes k j t c (mapping_mem f.body k j t q) e;
}

-- A clause's code is read alike in another translation, with a larger target, that maps the kinds at hand alike.
pub clause_alike : (f g : Translation) → Larger f.target g.target → (k p j : ℕ) (ks : List ℕ)
    → arguments_of f.source k p ≡ some ks → arguments_of g.source k p ≡ some ks
    → mapped f.body k j ≡ mapped g.body k j
    → ((i : ℕ) → Mem i ks → (m : ℕ) → mapping_of f.body i m ≡ mapping_of g.body i m)
    → (c : List ℕ) (a : Code) → read_clause f k p j c ≡ done a [] → read_clause g k p j c ≡ done a []
unfolding read_clause
clause_alike f g w k p j ks e d q h c a r =
    let z : uses_of f k p ≡ uses_of g k p = uses_are f k p ks e ∙ (maps_alike ks h ∙ sym (uses_are g k p ks d)) in
    rw (← z, ← q) (keeps (read_keeps w (uses_of f k p) code_levels (mapped f.body k j) c) r)
  where
    maps_alike : (l : List ℕ) → ((i : ℕ) → Mem i l → (m : ℕ) → mapping_of f.body i m ≡ mapping_of g.body i m)
        → map (mapping_of f.body) l ≡ map (mapping_of g.body) l
    maps_alike [] h = refl
    maps_alike (x ∷ l) h = λ i. (λ m. h x (inl refl) m i) ∷ maps_alike l (λ y n. h y (inr n)) i
