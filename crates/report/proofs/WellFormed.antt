-- C.6 and the project's test are the same, condition by condition.
use Prim.Native.Nat.{ℕ, ◌+◌, ◌<◌}
use mathlib.Core.Path.{◌≡◌, refl, ap, sym, subst, ◌∙◌}
use mathlib.Core.Logic.{inl, inr}
use mathlib.Core.Bool.{true, false, ◌&&◌}
use mathlib.Core.List.{List, [], ◌++◌, map, append-nil}
use mathlib.Core.Option.{some}
use native.Mathlib.Omega.{arith}
use lib.Dec.{ltb}
use borrow.Author.Tests.{lt-ltb}
use Rattle.outcome.specs.Outcome.{value}
use Rattle.format_fields.proofs.Truth.{Mem, false_true, some_inj, both_and}
use Rattle.format_fields.proofs.Keyed.{Rising, is_rising, rising_is}
use Rattle.format_language.specs.Language.{production}
use Rattle.format_language.specs.LanguageFile.{is_kind}
use Rattle.format_language.proofs.Lookup.{range_mem, mem_range, mem_arguments}
use Rattle.format_language.proofs.Ranges.{all_within_lem, value_within}
use Rattle.tree_reader.specs.Code.{Code, levels}
use Rattle.tree_reader.specs.Syntax.{Read, done, read, write, code}
use Rattle.tree_reader.proofs.RoundTrip.{round, as_code}
use Rattle.tree_reader.proofs.Sound.{More, more_levels, read_done}
use Rattle.format_fields.proofs.Codec.{Bytes}
use Rattle.format_translation.specs.Translation.{Item, mapping, clause, Body, Translation, plain_key, number_of, item_key, mapping_of, mapped}
use Rattle.format_translation.specs.Running.{read_clause, uses_of, code_levels, clauses_of}
use Rattle.format_translation.specs.WellFormed.{well_formed}
use Rattle.format_translation.proofs.Codec.{item_whole}
use Rattle.format_translation.proofs.Lookup.{mem_mapping, mem_mapped, mapping_mem}
use Rattle.format_translation.proofs.Fitting.{Fitting, fit_tests, uses_are, fit_carries, clause_code}
use Rattle.reduce_operators.specs.Limits.{is_deep, code_is_deep}
use Rattle.reduce_operators.proofs.Proper.{proper_apart, Sound, kinds_below}
use Rattle.format_translation.proofs.ItemParts.{clause_parts}
use Rattle.report.specs.Sets.{◌∈◌}
use Rattle.report.specs.Languages.{has_production_lem, WellFormedLanguage}
use Rattle.report.specs.Transformation.{Reconstructor}
use Rattle.report.specs.WellFormed.{OneNumber, Maps, FromProduced, KeepsRanges, Covers, HasCodes, OneCode, WellFormed}
use Rattle.report.proofs.Sets.{mem_in, in_mem, one_of_key}
use Rattle.report.proofs.Typing.{code_has, code_typed}
use Rattle.report.proofs.Languages.{nonterminal_in, in_nonterminal, formed_proper, formed_rises, kind_below}
use Rattle.report.proofs.Codes.{written_one, has_bytes, picked_few}

-- Items of a body with number 0 only.
pub mapping_number : (b : Body) → OneNumber b → (k j t : ℕ) → Mem (mapping k j t) b → j ≡ 0
unfolding number_of
mapping_number b one k j t m = one (mapping k j t) (mem_in _ _ m)

pub clause_number_lem : (b : Body) → OneNumber b → (n p j : ℕ) (c : List ℕ) → Mem (clause n p j c) b → j ≡ 0
unfolding number_of
clause_number_lem b one n p j c m = one (clause n p j c) (mem_in _ _ m)

pub mapped_number : (b : Body) → OneNumber b → (k j t : ℕ) → mapping_of b k j ≡ some t → j ≡ 0
mapped_number b one k j t e = mapping_number b one k j t (mapping_mem b k j t e)

-- The codes of a body are in bytes.
abbrev pub ByteCodes : Translation → Type 0
ByteCodes f = (n p : ℕ) (c : List ℕ) → Mem (clause n p 0 c) f.body → Bytes c

-- C.6 (vi) holds wherever the body is in order: the bytes tell the code.
pub code_one : (f : Translation) → Rising item_key f.body → WellFormedLanguage f.source → WellFormedLanguage f.target → OneCode f
unfolding item_key plain_key number_of
code_one f r ws wt n p a b x y =
    let ks : y.arguments ≡ x.arguments = ws.one_production y.entry x.entry in
    let k : y.kind ≡ x.kind = some_inj (sym (mem_mapping f.body r n 0 _ (in_mem y.to)) ∙ mem_mapping f.body r n 0 _ (in_mem x.to)) in
    let e : write code a ≡ write code b = (clause_parts (one_of_key item_key f.body (rising_is item_key f.body r) (clause n p 0 (write code a)) (clause n p 0 (write code b)) x.stands y.stands refl)).3 in
    written_one f.target wt f.body r x.arguments x.typed (rw (ks, k) at y.typed) e

-- The second half of C.6 (ii) follows from (iii).
pub ranges_produced : (f : Translation) → KeepsRanges f → FromProduced f
ranges_produced f h n t m p c x = let d = h n t c x m in p d.0 d.1

-- What fits is well formed.
module _ (f : Translation) (one : OneNumber f.body) (ws : WellFormedLanguage f.source) (wt : WellFormedLanguage f.target) (r : Rising item_key f.body) (bytes : ByteCodes f) (fits : Fitting f) where
  -- A clause's code, as the project reads it, is the reconstructor.
  pub clause_reconstructs : (n p : ℕ) (c : List ℕ) → Mem (clause n p 0 c) f.body → (write code (clauses_of f n p 0) ≡ c) × Reconstructor f n p (clauses_of f n p 0)
  unfolding read_clause
  clause_reconstructs n p c m =
      let o = fits.clauses_only n p 0 c m in
      let ks = o.0.0 in
      let t = o.1.0 in
      let a = fits.codes n p 0 c m in
      let d = read_done code f.target (uses_of f n p) code_levels (mapped f.body n 0) c a.0 [] a.1 in
      let e = mem_arguments f.source (formed_rises f.source ws) n p ks o.0.1 in
      let z : write code a.0 ≡ c = sym (append-nil (write code a.0)) ∙ sym (d.2 (bytes n p c m)).0 in
      let y : write code (clauses_of f n p 0) ≡ c = ap (write code) (clause_code f r n p 0 c a.0 m a.1) ∙ z in (
        y,
        record {
          arguments = ks;
          kind = t;
          entry = mem_in _ _ o.0.1;
          to = mem_in _ _ o.1.1;
          typed = code_has f.body (mapped_number f.body one) ks ((fit_carries f r fits).nodes n p 0 t ks e (mem_mapping f.body r n 0 t o.1.1));
          stands = mem_in _ _ (subst (λ (x : List ℕ). Mem (clause n p 0 x) f.body) (sym y) m);
        },
      )

  -- C.2 and C.6 (iii) to (v).
  fits_maps : Maps f
  fits_maps = record {
    each = λ n x. let t = fits.maps n (nonterminal_in x) in (t.0, mem_in _ _ t.1);
    only = λ n t m. let q = fits.maps_only n 0 t (in_mem m) in (in_nonterminal f.source n q.0, in_nonterminal f.target t q.1);
  }

  fits_ranges : KeepsRanges f
  fits_ranges n t c x m =
      let d = fits.classes n 0 t c (in_mem m) (mem_range f.source (formed_rises f.source ws) n c (in_mem x)) in
      (d.0, mem_in _ _ (range_mem f.target t d.0 d.1), value_within c d.0 d.2)

  fits_covers : Covers f
  fits_covers n p ks x =
      let t = fits.maps n (nonterminal_in (has_production_lem {p = p} {ks = ks} x)) in
      let c = fits.clauses n p 0 t.0 ks (in_mem x) t.1 in
      (c.0, mem_in _ _ c.1)

  fits_codes : HasCodes f
  fits_codes n p c m = let q = clause_reconstructs n p c (in_mem m) in (clauses_of f n p 0, q.0, q.1)

  pub fits_formed : WellFormed f
  fits_formed = record {
    one_number = one;
    in_order = rising_is item_key f.body r;
    source = ws;
    target = wt;
    maps = fits_maps;
    from_produced = ranges_produced f fits_ranges;
    keeps_ranges = fits_ranges;
    covers = fits_covers;
    has_codes = fits_codes;
    one_code = code_one f r ws wt;
  }

-- A reading that is not too deep with few levels is what more levels give.
not_deep : {o p : Read Code} {a : Code} → More o p → is_deep o ≡ false → p ≡ done a [] → o ≡ done a []
not_deep (inl e) d q = false_true (sym (rw e at d))
not_deep (inr e) d q = sym e ∙ q

-- What is well formed fits, where no code is too deep.
module _ (f : Translation) (w : WellFormed f) where
  pub body_rises : Rising item_key f.body
  body_rises = is_rising item_key f.body w.in_order

  pub mapping_zero : (k j t : ℕ) → Mem (mapping k j t) f.body → j ≡ 0
  mapping_zero k j t m = mapping_number f.body w.one_number k j t m

  pub clause_zero : (n p j : ℕ) (c : List ℕ) → Mem (clause n p j c) f.body → j ≡ 0
  clause_zero n p j c m = clause_number_lem f.body w.one_number n p j c m

  pub mapping_kinds : (k j t : ℕ) → Mem (mapping k j t) f.body → (k < 32) × (t < 32)
  mapping_kinds k j t m =
      let z = mapping_zero k j t m in
      let r = w.maps.only k t (mem_in _ _ (rw z at m)) in
      (kind_below w.source r.0, kind_below w.target r.1)

  -- The production of a clause.
  pub clause_entry_lem : (n p j : ℕ) (c : List ℕ) → Mem (clause n p j c) f.body → (ks : List ℕ) × (production n p ks ∈ f.source)
  clause_entry_lem n p j c m =
      let z = clause_zero n p j c m in
      let x = (w.has_codes n p c (mem_in _ _ (rw z at m))).2 in
      (x.arguments, x.entry)

  whole_item : (a : Item) → Mem a f.body → item_whole a ≡ true
  unfolding item_whole
  whole_item (mapping k j t) m =
      let z = mapping_zero k j t m in
      let b = mapping_kinds k j t m in
      both_and (is_kind k) (is_kind t && ltb j 256) (lt-ltb k 32 b.0) (both_and (is_kind t) (ltb j 256) (lt-ltb t 32 b.1) (lt-ltb j 256 (omega arith)))
  whole_item (clause n p j c) m =
      let z = clause_zero n p j c m in
      let b = clause_entry_lem n p j c m in
      both_and (is_kind n) (ltb j 256) (lt-ltb n 32 (w.source.writable _ b.1).0) (lt-ltb j 256 (omega arith))

  module _ (shallow : (a : Item) → Mem a f.body → code_is_deep f a ≡ false) where
    code_read : (n p : ℕ) (a : Code) → Mem (clause n p 0 (write code a)) f.body → Reconstructor f n p a → read_clause f n p 0 (write code a) ≡ done a []
    unfolding read_clause code_is_deep
    code_read n p a m x =
        let u = uses_are f n p x.arguments (mem_arguments f.source (formed_rises f.source w.source) n p x.arguments (in_mem x.entry)) in
        let t = mem_mapped f.body body_rises n 0 x.kind (in_mem x.to) in
        let d : is_deep (read_clause f n p 0 (write code a)) ≡ false = shallow (clause n p 0 (write code a)) m in
        let us = map (mapping_of f.body) x.arguments in
        let z = code_levels + levels a in
        let e : write code a ≡ write code a ++ [] = sym (append-nil (write code a)) in
        let big = ap (read code f.target us z x.kind) e ∙ round f.target (proper_apart f.target (formed_proper f.target w.target)) (code_typed (formed_rises f.target w.target) f.body body_rises x.arguments x.typed) as_code z [] (omega arith) in
        rw (u, t)
        (not_deep (more_levels code f.target us code_levels z x.kind (write code a) (omega arith)) (rw (u, t) at d) big)

    clause_read : (n p : ℕ) (c : List ℕ) → Mem (clause n p 0 c) f.body → (a : Code) × (read_clause f n p 0 c ≡ done a [])
    clause_read n p c m =
        let x = w.has_codes n p c (mem_in _ _ m) in
        (x.0, subst (λ (s : List ℕ). read_clause f n p 0 s ≡ done x.0 []) x.1 (code_read n p x.0 (in_mem x.2.stands) x.2))

    pub formed_fitting : Fitting f
    formed_fitting = record {
      maps = λ k e. let t = w.maps.each k (in_nonterminal f.source k e) in (t.0, in_mem t.1);
      maps_only = λ k j t m.
          let z = mapping_zero k j t m in
          let q = w.maps.only k t (mem_in _ _ (rw z at m)) in
          (nonterminal_in q.0, nonterminal_in q.1);
      classes = λ k j t c m e.
          let z = mapping_zero k j t m in
          let q = w.keeps_ranges k t c (mem_in _ _ (range_mem f.source k c e)) (mem_in _ _ (rw z at m)) in
          (q.0, mem_range f.target (formed_rises f.target w.target) t q.0 (in_mem q.1), all_within_lem c q.0 q.2);
      clauses = λ n p j t ks m k.
          let z = mapping_zero n j t k in
          let c = w.covers n p ks (mem_in _ _ m) in
          (c.0, rw z (in_mem c.1));
      clauses_only = λ n p j c m.
          let z = clause_zero n p j c m in
          let x = (w.has_codes n p c (mem_in _ _ (rw z at m))).2 in
          ((x.arguments, in_mem x.entry), (x.kind, subst (λ (i : ℕ). Mem (mapping n i x.kind) f.body) (sym z) (in_mem x.to)));
      codes = λ n p j c m.
          let z = clause_zero n p j c m in
          let x = clause_read n p c (rw z at m) in
          (x.0, subst (λ (i : ℕ). read_clause f n p i c ≡ done x.0 []) (sym z) x.1);
    }

    pub formed_sound : Sound f
    formed_sound = record {
      source = formed_proper f.source w.source;
      target = formed_proper f.target w.target;
      whole = whole_item;
      rises = body_rises;
      fits = formed_fitting;
    }

    pub formed_tests : well_formed f ≡ value f
    formed_tests = fit_tests f (kinds_below f (formed_proper f.source w.source)) body_rises (formed_rises f.source w.source) formed_fitting

  -- The bytes of a clause are bytes.
  pub formed_bytes : ByteCodes f
  formed_bytes n p c m =
      let x = w.has_codes n p c (mem_in _ _ m) in
      let y = x.2 in
      let h = (w.source.writable _ y.entry).2 in
      subst Bytes x.1 (has_bytes w.target (λ i k q. let z = picked_few q.1 in omega arith) y.typed)
