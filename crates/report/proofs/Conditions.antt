-- C.6 against the project's test, condition by condition.
use Prim.Native.Nat.{ℕ}
use mathlib.Core.Path.{◌≡◌, refl, ap, sym, subst, ◌∙◌}
use mathlib.Core.Bool.{Bool, true, false, not, ◌&&◌, beq}
use mathlib.Core.Option.{Option, none, some}
use mathlib.Core.List.{List}
use native.Mathlib.Omega.{arith}
use Rattle.outcome.specs.declared.Reason.TheVariants.{WrongMapping, WrongClauses, IllegalCode as CodeRefused}
use Rattle.format_fields.specs.Lists.{all, is_some}
use Rattle.format_fields.proofs.Truth.{Mem, none_some, some_inj, false_true, and_both, both_and, same_truth, all_mem, mem_all, some_is, is_some_lem, mem_count, true_not}
use Rattle.format_fields.proofs.Keyed.{Rising, is_rising}
use Rattle.format_language.specs.Language.{Entry, class, production, Range, range_within, is_in, range_of, arguments_of}
use Rattle.format_language.proofs.Lookup.{range_mem, mem_range, arguments_mem, mem_arguments}
use Rattle.format_language.proofs.Ranges.{all_within_lem, value_within}
use Rattle.format_translation.specs.Translation.{Item, mapping, clause, Translation, item_key, mapping_of, clause_of, numbers_of}
use Rattle.format_translation.specs.WellFormed.{kinds, kinds_mapped, reaches_target, keeps_range, class_kept, mapping_fits, has_clause, has_production, clauses_fit, codes_fit, well_formed}
use Rattle.format_translation.proofs.Lookup.{mapping_mem, clause_mem, mem_mapping, mem_clause, number_mem, mem_number}
use Rattle.format_translation.proofs.Fitting.{tests_fit, refuse_value}
use Rattle.reduce_operators.proofs.Proper.{kinds_below}
use Rattle.report.specs.Sets.{◌∈◌}
use Rattle.report.specs.Languages.{has_production_lem}
use Rattle.report.specs.WellFormed.{Maps, KeepsRanges, Covers, HasCodes, WellFormed}
use Rattle.report.specs.Conditions.{Noted, FiveIsMapping, HasProductions, SixIsClauses, Shallow, SevenIsCodes, OrderIsOneCode, RangesAreProduced}
use Rattle.report.proofs.Sets.{mem_in, in_mem, mem_bytes}
use Rattle.report.proofs.Languages.{nonterminal_in, in_nonterminal, formed_proper, formed_rises, kind_below}
use Rattle.report.proofs.WellFormed.{mapping_number, clause_number_lem, code_one, ranges_produced, fits_formed, formed_tests}

-- Two tests that agree.
beq_true : (a b : Bool) → beq a b ≡ true → b ≡ true → a ≡ true
beq_true true b e h = refl
beq_true false true e h = e
beq_true false false e h = h

equal_beq : (a b : Bool) → a ≡ b → beq a b ≡ true
equal_beq true true e = refl
equal_beq false false e = refl
equal_beq true false e = false_true (sym e)
equal_beq false true e = false_true e

kept_range : (o d : Option Range) (c : Range) → keeps_range o d ≡ true → o ≡ some c → (e : Range) × (d ≡ some e) × (range_within c e ≡ true)
kept_range none d c e h = none_some h
kept_range (some x) none c e h = false_true e
kept_range (some x) (some y) c e h = (y, refl, subst (λ (z : Range). range_within z y ≡ true) (some_inj h) e)

range_kept_lem : (o d : Option Range) → ((c : Range) → o ≡ some c → (e : Range) × (d ≡ some e) × (range_within c e ≡ true)) → keeps_range o d ≡ true
range_kept_lem none d h = refl
range_kept_lem (some c) d h = let r = h c refl in rw r.1 r.2

module _ (f : Translation) (n : Noted f) where
  rises : Rising item_key f.body
  rises = is_rising item_key f.body n.in_order

  mapping_zero : (k j t : ℕ) → Mem (mapping k j t) f.body → j ≡ 0
  mapping_zero k j t m = mapping_number f.body n.one_number k j t m

  clause_zero : (k p j : ℕ) (c : List ℕ) → Mem (clause k p j c) f.body → j ≡ 0
  clause_zero k p j c m = clause_number_lem f.body n.one_number k p j c m

  -- From the test of the mapping.
  module _ (e : mapping_fits f ≡ true) where
    tests : (kinds_mapped f ≡ true) × (all (reaches_target f) f.body ≡ true) × (all (class_kept f) f.body ≡ true)
    unfolding mapping_fits
    tests =
        let r = and_both (kinds_mapped f) (all (reaches_target f) f.body && all (class_kept f) f.body) e in
        let s = and_both (all (reaches_target f) f.body) (all (class_kept f) f.body) r.1 in
        (r.0, s.0, s.1)

    is_mapped : (k : ℕ) → is_in f.source k ≡ true → is_some (mapping_of f.body k 0) ≡ true
    unfolding kinds_mapped kinds
    is_mapped k i =
        beq_true (is_some (mapping_of f.body k 0)) (is_in f.source k) (all_mem _ kinds tests.0 k (mem_count 32 0 k (omega arith) (kind_below n.source (in_nonterminal f.source k i)))) i

    fits_maps : Maps f
    unfolding reaches_target
    fits_maps = record {
      each = λ k x. let r = some_is (mapping_of f.body k 0) (is_mapped k (nonterminal_in x)) in (r.0, mem_in _ _ (mapping_mem f.body k 0 r.0 r.1));
      only = λ k t m.
          let r = and_both (is_in f.source k) (is_in f.target t) (all_mem (reaches_target f) f.body tests.1 (mapping k 0 t) (in_mem m)) in
          (in_nonterminal f.source k r.0, in_nonterminal f.target t r.1);
    }

    fits_ranges : KeepsRanges f
    unfolding class_kept
    fits_ranges k t c x m =
        let r = kept_range (range_of f.source k) (range_of f.target t) c (all_mem (class_kept f) f.body tests.2 (mapping k 0 t) (in_mem m)) (mem_range f.source (formed_rises f.source n.source) k c (in_mem x)) in
        (r.0, mem_in _ _ (range_mem f.target t r.0 r.1), value_within c r.0 r.2)

  -- And to it.
  module _ (m : Maps f) (r : KeepsRanges f) where
    maps_kinds : kinds_mapped f ≡ true
    unfolding kinds_mapped kinds
    maps_kinds =
        mem_all _ kinds (λ k x. equal_beq _ _ (same_truth (is_some (mapping_of f.body k 0)) (is_in f.source k)
        (λ e. let t = some_is (mapping_of f.body k 0) e in nonterminal_in (m.only k t.0 (mem_in _ _ (mapping_mem f.body k 0 t.0 t.1))).0)
        (λ e. let t = m.each k (in_nonterminal f.source k e) in is_some_lem (mapping_of f.body k 0) (mem_mapping f.body rises k 0 t.0 (in_mem t.1)))))

    maps_reach : (a : Item) → Mem a f.body → reaches_target f a ≡ true
    unfolding reaches_target
    maps_reach (mapping k j t) x = let q = m.only k t (mem_in _ _ (rw (mapping_zero k j t x) at x)) in both_and _ _ (nonterminal_in q.0) (nonterminal_in q.1)
    maps_reach (clause k p j c) x = refl

    ranges_kept : (a : Item) → Mem a f.body → class_kept f a ≡ true
    unfolding class_kept
    ranges_kept (mapping k j t) x =
        let y : mapping k 0 t ∈ f.body = mem_in _ _ (rw (mapping_zero k j t x) at x) in
        range_kept_lem (range_of f.source k) (range_of f.target t) (λ c e.
        let d = r k t c (mem_in _ _ (range_mem f.source k c e)) y in
        (d.0, mem_range f.target (formed_rises f.target n.target) t d.0 (in_mem d.1), all_within_lem c d.0 d.2))
    ranges_kept (clause k p j c) x = refl

    maps_fit : mapping_fits f ≡ true
    unfolding mapping_fits
    maps_fit = rw (maps_kinds, mem_all (reaches_target f) f.body maps_reach, mem_all (class_kept f) f.body ranges_kept)

  -- From the test of the clauses, and to it.
  module _ (m : Maps f) where
    clauses_cover : clauses_fit f ≡ true → Covers f
    unfolding clauses_fit has_clause
    clauses_cover e k p ks x =
        let h = and_both (all (has_clause f) f.source) (all (has_production f) f.body) e in
        let t = m.each k (has_production_lem {p = p} {ks = ks} x) in
        let y = all_mem (has_clause f) f.source h.0 (production k p ks) (in_mem x) in
        let q = some_is (clause_of f.body k p 0) (all_mem _ (numbers_of f.body k) y 0 (mem_number f.body k 0 t.0 (in_mem t.1))) in
        (q.0, mem_in _ _ (clause_mem f.body k p 0 q.0 q.1))

    clauses_produced : clauses_fit f ≡ true → HasProductions f
    unfolding clauses_fit has_production
    clauses_produced e k p c x =
        let h = and_both (all (has_clause f) f.source) (all (has_production f) f.body) e in
        let y = and_both (is_some (arguments_of f.source k p)) (is_some (mapping_of f.body k 0)) (all_mem (has_production f) f.body h.1 (clause k p 0 c) (in_mem x)) in
        let q = some_is (arguments_of f.source k p) y.0 in
        (q.0, mem_in _ _ (arguments_mem f.source k p q.0 q.1))

    covered : Covers f → (a : Entry) → Mem a f.source → has_clause f a ≡ true
    unfolding has_clause
    covered c (class k r) x = refl
    covered c (production k p ks) x =
        mem_all _ (numbers_of f.body k) (λ j y.
        let t = number_mem f.body k j y in
        let z = mapping_zero k j t.0 t.1 in
        let q = c k p ks (mem_in _ _ x) in
        is_some_lem (clause_of f.body k p j) (mem_clause f.body rises k p j q.0 (subst (λ (i : ℕ). Mem (clause k p i q.0) f.body) (sym z) (in_mem q.1))))

    produced : HasProductions f → (a : Item) → Mem a f.body → has_production f a ≡ true
    unfolding has_production
    produced h (mapping k j t) x = refl
    produced h (clause k p j c) x =
        let z = clause_zero k p j c x in
        let q = h k p c (mem_in _ _ (rw z at x)) in
        let t = m.each k (has_production_lem {p = p} {ks = q.0} q.1) in
        let o : mapping_of f.body k j ≡ some t.0 = ap (mapping_of f.body k) z ∙ mem_mapping f.body rises k 0 t.0 (in_mem t.1) in
        both_and _ _ (is_some_lem (arguments_of f.source k p) (mem_arguments f.source (formed_rises f.source n.source) k p q.0 (in_mem q.1))) (is_some_lem (mapping_of f.body k j) o)

    clauses_fit_lem : Covers f → HasProductions f → clauses_fit f ≡ true
    unfolding clauses_fit
    clauses_fit_lem c h = rw (mem_all (has_clause f) f.source (covered c), mem_all (has_production f) f.body (produced h))

  -- From the test of the codes, and to it.
  module _ (e : mapping_fits f ≡ true) (d : clauses_fit f ≡ true) where
    codes_are : codes_fit f ≡ true → HasCodes f
    codes_are h =
        (fits_formed f n.one_number n.source n.target rises (λ k p c m. mem_bytes c (n.in_bytes k p c (mem_in _ _ m)))
        (tests_fit f (kinds_below f (formed_proper f.source n.source)) rises e d h)).has_codes

    all_formed : HasCodes f → WellFormed f
    all_formed h = record {
      one_number = n.one_number;
      in_order = n.in_order;
      source = n.source;
      target = n.target;
      maps = fits_maps e;
      from_produced = ranges_produced f (fits_ranges e);
      keeps_ranges = fits_ranges e;
      covers = clauses_cover (fits_maps e) d;
      has_codes = h;
      one_code = code_one f rises n.source n.target;
    }

    codes_fit_lem : Shallow f → HasCodes f → codes_fit f ≡ true
    unfolding well_formed
    codes_fit_lem s h =
        let w = formed_tests f (all_formed h) (λ a m. s a (mem_in _ _ m)) in
        let a = refuse_value (not (mapping_fits f)) WrongMapping _ w in
        let b = refuse_value (not (clauses_fit f)) WrongClauses _ a.1 in
        true_not _ (refuse_value (not (codes_fit f)) CodeRefused _ b.1).0

pub five_is_mapping : FiveIsMapping
five_is_mapping f n = (λ e. (fits_maps f n e, fits_ranges f n e), λ h. maps_fit f n h.0 h.1)

pub six_is_clauses : SixIsClauses
six_is_clauses f n e =
    let m = fits_maps f n e in
    (λ d. (clauses_cover f n m d, clauses_produced f n m d), λ h. clauses_fit_lem f n m h.0 h.1)

pub seven_is_codes : SevenIsCodes
seven_is_codes f n s e d = (codes_are f n e d, codes_fit_lem f n e d s)

pub order_is_one_code : OrderIsOneCode
order_is_one_code f n = code_one f (is_rising item_key f.body n.in_order) n.source n.target

pub ranges_are_produced : RangesAreProduced
ranges_are_produced f h = ranges_produced f h
