-- A join of sound translations whose codes are not too deep is sound (document 000: C.16), and runs as its two parts.
use Prim.Native.Nat.{ℕ, zero, suc, ◌+◌, ◌/◌, ◌%◌, ◌<◌}
use mathlib.Core.Path.{◌≡◌, refl, ap, sym, subst, ◌∙◌}
use mathlib.Core.Logic.{inl, inr}
use mathlib.Core.Bool.{true, false}
use mathlib.Core.Option.{Option, none, some, get_or}
use mathlib.Core.List.{List, [], map, append-nil}
use native.Mathlib.Omega.{arith}
use lib.Dec.{ltb, eqb}
use borrow.Author.Tests.{lt-ltb, eqb-true}
use Rattle.format_fields.specs.Keyed.{holds, within}
use Rattle.format_fields.proofs.Truth.{Mem, none_some, and_both, both_and, false_true, all_mem, any_mem}
use Rattle.format_fields.proofs.Keyed.{Rising}
use Rattle.format_language.specs.Language.{Entry, class, production, Range, range_within, range_of, mentions, is_in, arguments_of}
use Rattle.format_language.specs.LanguageFile.{is_kind}
use Rattle.format_language.proofs.Lookup.{same_equal, range_mem, arguments_mem, mem_range, mem_arguments, in_mem, mem_in}
use Rattle.format_language.proofs.Ranges.{within_both}
use Rattle.tree_reader.specs.Code.{Code, token, levels}
use Rattle.tree_reader.specs.Typing.{Uses, kind_at, Typed}
use Rattle.tree_reader.specs.Syntax.{Read, done, write, code}
use Rattle.tree_reader.proofs.RoundTrip.{round, as_code}
use Rattle.tree_reader.proofs.Sound.{more_levels, More, read_done}
use Rattle.tree_reader.proofs.Larger.{Larger, typed_larger}
use Rattle.format_translation.specs.Translation.{Item, mapping, clause, Translation, number_of, item_key, mapping_of, clause_of, mapped, numbers_of}
use Rattle.format_translation.specs.Running.{paired, run, uses_of, read_clause, whole_code, clauses_of, transform, code_levels}
use Rattle.format_translation.proofs.Codec.{item_whole}
use Rattle.format_translation.proofs.Lookup.{mapping_mem, mem_mapping, mem_mapped, number_mem, mem_number}
use Rattle.format_translation.proofs.Running.{Small, ByZero, chained, pair_first, pair_second, run_pair}
use Rattle.format_translation.proofs.Preserved.{Kept, use_kind, kind_use, typed_run, typed_small, typed_tree, run_alike}
use Rattle.format_translation.proofs.Fitting.{Fitting, whole_done, clause_code, uses_are, fit_carries}
use Rattle.reduce_operators.specs.Operators.{entry_within, numbers_low, join_fits, joined}
use Rattle.reduce_operators.specs.Limits.{is_deep, code_is_deep}
use Rattle.reduce_operators.specs.Inner.Paired.{reached, paired_item}
use Rattle.reduce_operators.proofs.Proper.{proper_apart, Sound}
use Rattle.format_translation.proofs.ItemParts.{mapping_parts, clause_parts, mapping_clause}
use Rattle.reduce_operators.proofs.JoinRises.{mem_join, join_cases, low_is, joined_rises}

-- A reading that is not too deep with few levels is what more levels give.
shallow : (o p : Read Code) {a : Code} {r : List ℕ} → More o p → is_deep o ≡ false → p ≡ done a r → o ≡ done a r
shallow o p (inl e) d q = false_true (sym (rw e at d))
shallow o p (inr e) d q = sym e ∙ q

-- An entry mentions the kinds of one that lies in it.
entry_mentions : (k : ℕ) (a b : Entry) → entry_within a b ≡ true → mentions k a ≡ true → mentions k b ≡ true
unfolding entry_within mentions
entry_mentions k (class i c) (class j d) e m =
    let q : i ≡ j = eqb-true i j (and_both (eqb i j) (range_within c d) e).0 in rw (← q) m
entry_mentions k (class i c) (production s q js) e m = false_true e
entry_mentions k (production r p ks) b e m = rw (← same_equal (production r p ks) b e) m

module _ (f g : Translation) (sf : Sound f) (sg : Sound g) (h : join_fits f g ≡ true) where
  -- Each entry of the second's target lies in one of the first's source.
  lies : (a : Entry) → Mem a g.target → (b : Entry) × Mem b f.source × (entry_within a b ≡ true)
  unfolding join_fits within holds
  lies a m = any_mem (entry_within a) f.source (all_mem (holds entry_within f.source) g.target h a m)

  -- A kind in the second's target is in the first's source.
  lies_in_lem : (k : ℕ) → is_in g.target k ≡ true → is_in f.source k ≡ true
  lies_in_lem k e =
      let a = in_mem g.target k e in
      let b = lies a.0 a.1 in
      mem_in f.source k b.0 b.1 (entry_mentions k a.0 b.0 b.2 a.2)

  class_lies : (k : ℕ) (c : Range) (b : Entry) → Mem b f.source → entry_within (class k c) b ≡ true
      → (d : Range) × (range_of f.source k ≡ some d) × (range_within c d ≡ true)
  unfolding entry_within
  class_lies k c (class j d) m e =
      let w = and_both (eqb k j) (range_within c d) e in
      (d, rw (eqb-true k j w.0) (mem_range f.source sf.source.rises j d m), w.1)
  class_lies k c (production s q js) m e = false_true e

  production_lies : (k p : ℕ) (ks : List ℕ) (b : Entry) → Mem b f.source → entry_within (production k p ks) b ≡ true → Mem (production k p ks) f.source
  unfolding entry_within
  production_lies k p ks b m e = rw (same_equal (production k p ks) b e) m

  -- The first's source is larger than the second's target.
  pub target_larger : Larger g.target f.source
  target_larger = record {
    classes = λ k c e. let b = lies _ (range_mem g.target k c e) in class_lies k c b.0 b.1 b.2;
    productions = λ k p ks e.
        let b = lies _ (arguments_mem g.target k p ks e) in
        mem_arguments f.source sf.source.rises k p ks (production_lies k p ks b.0 b.1 b.2);
  }

  -- A kind of the second's source is mapped, by each number, into the first's source.
  pub join_lies : (k i u : ℕ) → mapping_of g.body k i ≡ some u → is_in f.source u ≡ true
  join_lies k i u e = lies_in_lem u (sg.fits.maps_only k i u (mapping_mem g.body k i u e)).1

  module _ (low_first : numbers_low f ≡ true) (low_second : numbers_low g ≡ true) where
    -- Its items rise.
    pub body_rises : Rising item_key (joined f g).body
    body_rises = joined_rises f g sf.rises low_first sg.rises low_second

    first_low : (k j t : ℕ) → Mem (mapping k j t) f.body → j < 16
    unfolding number_of
    first_low k j t m = low_is f low_first (mapping k j t) m

    -- A mapping of the join: one of the second, by i, and one of the first, by j, of the kind reached.
    record Chained (s n t : ℕ) : Type 0 where
      by_second : ℕ
      by_first : ℕ
      reaches : ℕ
      second : Mem (mapping s by_second reaches) g.body
      first : Mem (mapping reaches by_first t) f.body
      number : n ≡ paired by_second by_first

    chained_mapping : (s n t : ℕ) → Mem (mapping s n t) (joined f g).body → Chained s n t
    chained_mapping s n t m = let x = join_cases f g (mapping s n t) m in go x.0 x.1 x.2 x.3 x.4
      where
        go : (a : Item) (j : ℕ) → Mem a g.body → Mem j (numbers_of f.body (reached g a)) → mapping s n t ≡ paired_item f g a j → Chained s n t
        go (mapping v i u) j a b e =
            let q = mapping_parts e in
            let z = number_mem f.body u j b in
            let y : t ≡ z.0 = q.2 ∙ mem_mapped f.body sf.rises u j z.0 z.1 in
            record { by_second = i; by_first = j; reaches = u; second = rw q.0 a; first = rw y z.1; number = q.1 }
        go (clause r p i c) j a b e = mapping_clause e

    mapping_joined : (s i u j t : ℕ) → Mem (mapping s i u) g.body → Mem (mapping u j t) f.body → Mem (mapping s (paired i j) t) (joined f g).body
    mapping_joined s i u j t m n =
        rw (mem_mapped f.body sf.rises u j t n) at (mem_join f g (mapping s i u) j m (mem_number f.body u j t n))

    -- What a kind maps to by two numbers paired.
    pub join_mapped : (k i u j t : ℕ) → mapping_of g.body k i ≡ some u → mapping_of f.body u j ≡ some t → mapping_of (joined f g).body k (paired i j) ≡ some t
    join_mapped k i u j t e d =
        mem_mapping (joined f g).body body_rises k (paired i j) t
        (mapping_joined k i u j t (mapping_mem g.body k i u e) (mapping_mem f.body u j t d))

    -- And it maps by them only so.
    pub join_chained : (k i j t : ℕ) → j < 16 → mapping_of (joined f g).body k (paired i j) ≡ some t
        → (u : ℕ) × (mapping_of g.body k i ≡ some u) × (mapping_of f.body u j ≡ some t)
    join_chained k i j t l e =
        let x = chained_mapping k (paired i j) t (mapping_mem (joined f g).body k (paired i j) t e) in
        let n = x.number in
        let b = first_low x.reaches x.by_first t x.first in
        let second : x.by_second ≡ i = omega arith in
        let first : x.by_first ≡ j = omega arith in (
          x.reaches,
          mem_mapping g.body sg.rises k i x.reaches (rw second at x.second),
          mem_mapping f.body sf.rises x.reaches j t (rw first at x.first),
        )

    -- A clause of the join: that of the second, its code run through the first.
    record Composed (r p n : ℕ) (c : List ℕ) : Type 0 where
      by_second : ℕ
      by_first : ℕ
      reaches : ℕ
      target : ℕ
      arguments : List ℕ
      bytes : List ℕ
      entry : Mem (production r p arguments) g.source
      whole : Mem (clause r p by_second bytes) g.body
      second : Mem (mapping r by_second reaches) g.body
      first : Mem (mapping reaches by_first target) f.body
      number : n ≡ paired by_second by_first
      written : c ≡ write code (run (clauses_of f) by_first (clauses_of g r p by_second))

    composed_clause : (r p n : ℕ) (c : List ℕ) → Mem (clause r p n c) (joined f g).body → Composed r p n c
    composed_clause r p n c m = let x = join_cases f g (clause r p n c) m in go x.0 x.1 x.2 x.3 x.4
      where
        go : (a : Item) (j : ℕ) → Mem a g.body → Mem j (numbers_of f.body (reached g a)) → clause r p n c ≡ paired_item f g a j → Composed r p n c
        go (mapping v i u) j a b e = mapping_clause (sym e)
        go (clause s q i d) j a b e =
            let z = clause_parts e in
            let y = sg.fits.clauses_only s q i d a in
            let u = y.1.0 in
            let x : mapped g.body s i ≡ u = mem_mapped g.body sg.rises s i u y.1.1 in
            let t = number_mem f.body u j (rw x at b) in
            record {
              by_second = i;
              by_first = j;
              reaches = u;
              target = t.0;
              arguments = y.0.0;
              bytes = d;
              entry = rw (z.0, z.1) y.0.1;
              whole = rw (z.0, z.1) a;
              second = rw z.0 y.1.1;
              first = t.1;
              number = z.2;
              written = rw (z.0, z.1) z.3;
            }

    -- It is of a production of the second.
    pub clause_source : (r p n : ℕ) (c : List ℕ) → Mem (clause r p n c) (joined f g).body → (ks : List ℕ) × Mem (production r p ks) g.source
    clause_source r p n c m = let x = composed_clause r p n c m in (x.arguments, x.entry)

    clause_joined : (r p i : ℕ) (d : List ℕ) (u j t : ℕ) → Mem (clause r p i d) g.body → Mem (mapping r i u) g.body → Mem (mapping u j t) f.body
        → Mem (clause r p (paired i j) (write code (run (clauses_of f) j (clauses_of g r p i)))) (joined f g).body
    clause_joined r p i d u j t m q n =
        mem_join f g (clause r p i d) j m (rw (mem_mapped g.body sg.rises r i u q) (mem_number f.body u j t n))

    -- The uses that a code of the second keeps through the first.
    kept_uses : (ks : List ℕ) → Kept (mapping_of f.body) (map (mapping_of g.body) ks) (map (mapping_of (joined f g).body) ks)
    kept_uses ks zero i j k t e d = none_some e
    kept_uses ks (suc a) i j k t e d =
        let q = use_kind (mapping_of g.body) ks a i k e in
        kind_use (mapping_of (joined f g).body) ks a (paired i j) q.0 q.1 ∙ join_mapped q.0 i k j t q.2 d

    -- The joined code of a production.
    join_typed : (r p i u j t : ℕ) (ks : List ℕ) → Mem (production r p ks) g.source → Mem (mapping r i u) g.body → Mem (mapping u j t) f.body
        → Typed f.target (map (mapping_of (joined f g).body) ks) (run (clauses_of f) j (clauses_of g r p i)) t
    join_typed r p i u j t ks m n o =
        let e = mem_arguments g.source sg.source.rises r p ks m in
        let y = (fit_carries g sg.rises sg.fits).nodes r p i u ks e (mem_mapping g.body sg.rises r i u n) in
        typed_run (fit_carries f sf.rises sf.fits) (kept_uses ks) j t (typed_larger target_larger y) (mem_mapping f.body sf.rises u j t o)

    pair_below : (s i u j t n : ℕ) → n ≡ paired i j → Mem (mapping s i u) g.body → Mem (mapping u j t) f.body → ltb n 256 ≡ true
    unfolding number_of
    pair_below s i u j t n e a b =
        let x : i < 16 = low_is g low_second (mapping s i u) a in
        let y : j < 16 = first_low u j t b in
        lt-ltb n 256 (omega arith)

    -- A file can hold its items.
    pub join_whole : (a : Item) → Mem a (joined f g).body → item_whole a ≡ true
    unfolding item_whole
    join_whole (mapping s n t) m =
        let x = chained_mapping s n t m in
        let y = and_both (is_kind s) _ (sg.whole (mapping s x.by_second x.reaches) x.second) in
        let z = and_both (is_kind x.reaches) _ (sf.whole (mapping x.reaches x.by_first t) x.first) in
        let k = and_both (is_kind t) _ z.1 in
        both_and (is_kind s) _ y.0 (both_and (is_kind t) _ k.0 (pair_below s _ _ _ t n x.number x.second x.first))
    join_whole (clause r p n c) m =
        let x = composed_clause r p n c m in
        let y = and_both (is_kind r) _ (sg.whole (clause r p x.by_second x.bytes) x.whole) in
        both_and (is_kind r) _ y.0 (pair_below r _ _ _ _ n x.number x.second x.first)

    module _ (shallows : (a : Item) → Mem a (joined f g).body → code_is_deep (joined f g) a ≡ false) where
      join_read : (r p n : ℕ) (c : List ℕ) (m : Mem (clause r p n c) (joined f g).body) (x : Composed r p n c)
          → read_clause (joined f g) r p n c ≡ done (run (clauses_of f) x.by_first (clauses_of g r p x.by_second)) []
      unfolding read_clause code_is_deep joined mapped
      join_read r p n c m x =
          let a = run (clauses_of f) x.by_first (clauses_of g r p x.by_second) in
          let i = x.by_second in
          let j = x.by_first in
          let ks = x.arguments in
          let e = mem_arguments g.source sg.source.rises r p ks x.entry in
          let q : uses_of (joined f g) r p ≡ map (mapping_of (joined f g).body) ks = uses_are (joined f g) r p ks e in
          let y : mapping_of (joined f g).body r n ≡ some x.target = ap (mapping_of (joined f g).body r) x.number
          ∙ join_mapped r i x.reaches j x.target (mem_mapping g.body sg.rises r i _ x.second) (mem_mapping f.body sf.rises _ j _ x.first) in
          let typed = join_typed r p i x.reaches j x.target ks x.entry x.second x.first in
          let big = round f.target (proper_apart f.target sf.target) typed as_code (code_levels + levels a) [] (omega arith) in
          shallow _ _
          (more_levels code f.target (uses_of (joined f g) r p) code_levels (code_levels + levels a) (mapped (joined f g).body r n) c (omega arith))
          (shallows (clause r p n c) m)
          (rw (x.written ∙ sym (append-nil (write code a)), q, y) big)

      join_fits_lem : Fitting (joined f g)
      unfolding joined
      join_fits_lem = record {
        maps = λ k e.
            let u = sg.fits.maps k e in
            let t = sf.fits.maps u.0 (lies_in_lem u.0 (sg.fits.maps_only k 0 u.0 u.1).1) in
            (t.0, mapping_joined k 0 u.0 0 t.0 u.1 t.1);
        maps_only = λ s n t m.
            let x = chained_mapping s n t m in
            ((sg.fits.maps_only s _ _ x.second).0, (sf.fits.maps_only _ _ t x.first).1);
        classes = λ s n t b m e.
            let x = chained_mapping s n t m in
            let c = sg.fits.classes s _ _ b x.second e in
            let d = target_larger.classes x.reaches c.0 c.1 in
            let y = sf.fits.classes _ _ t d.0 x.first d.1 in
            (y.0, y.1, within_both b d.0 y.0 (within_both b c.0 d.0 c.2 d.2) y.2);
        clauses = λ r p n t ks m q.
            let x = chained_mapping r n t q in
            let c = sg.fits.clauses r p _ _ ks m x.second in
            let y = clause_joined r p _ c.0 _ _ t c.1 x.second x.first in
            let bytes = write code (run (clauses_of f) x.by_first (clauses_of g r p x.by_second)) in
            (bytes, subst (λ (z : ℕ). Mem (clause r p z bytes) (joined f g).body) (sym x.number) y);
        clauses_only = λ r p n c m.
            let x = composed_clause r p n c m in
            let y = mapping_joined r _ _ _ x.target x.second x.first in
            ((x.arguments, x.entry), (x.target, subst (λ (z : ℕ). Mem (mapping r z x.target) (joined f g).body) (sym x.number) y));
        codes = λ r p n c m. (_, join_read r p n c m (composed_clause r p n c m));
      }

      -- C.16.
      pub sound_join : Sound (joined f g)
      unfolding joined
      sound_join = record { source = sg.source; target = sf.target; whole = join_whole; rises = body_rises; fits = join_fits_lem }

      -- Its clauses are those of the second run through the first.
      pub join_clauses : (k p n t : ℕ) (ks : List ℕ) → arguments_of g.source k p ≡ some ks → mapping_of (joined f g).body k n ≡ some t
          → chained (clauses_of f) (clauses_of g) k p n ≡ clauses_of (joined f g) k p n
      unfolding joined
      join_clauses k p n t ks e q =
          let c = join_fits_lem.clauses k p n t ks (arguments_mem g.source k p ks e) (mapping_mem (joined f g).body k n t q) in
          let x = composed_clause k p n c.0 c.1 in
          let l = first_low x.reaches x.by_first x.target x.first in
          let i : n / 16 ≡ x.by_second = ap (λ (z : ℕ). z / 16) x.number ∙ pair_first x.by_second x.by_first l in
          let j : n % 16 ≡ x.by_first = ap (λ (z : ℕ). z % 16) x.number ∙ pair_second x.by_second x.by_first l in
          (λ z. run (clauses_of f) (j z) (clauses_of g k p (i z)))
          ∙ sym (clause_code (joined f g) body_rises k p n c.0 _ c.1 (join_read k p n c.0 c.1 x))

      -- The codes of the first use by low numbers only.
      first_small : (k p j : ℕ) → Small (clauses_of f k p j)
      unfolding clauses_of read_clause uses_of
      first_small k p j = go (whole_code (read_clause f k p j bytes)) refl
        where
          bytes : List ℕ
          bytes = get_or (clause_of f.body k p j) []

          uses_low : (i n t : ℕ) → kind_at (uses_of f k p) i n ≡ some t → n < 16
          uses_low zero n t e = none_some e
          uses_low (suc i) n t e =
              let q = use_kind (mapping_of f.body) (get_or (arguments_of f.source k p) []) i n t e in
              first_low q.0 n t (mapping_mem f.body q.0 n t q.2)

          go : (o : Option Code) → whole_code (read_clause f k p j bytes) ≡ o → Small (get_or o (token 0))
          go none e = tt
          go (some a) e =
              let d = read_done code f.target (uses_of f k p) code_levels (mapped f.body k j) bytes a [] (whole_done (read_clause f k p j bytes) a e) in
              typed_small uses_low d.0

      -- A code that uses by number 0 only, run through the join by two numbers paired, is run through the second and then the first.
      pub join_codes : {uses : Uses} {a : Code} {k : ℕ} (i u j t : ℕ) → Typed g.source uses a k → ByZero a → mapping_of g.body k i ≡ some u → mapping_of f.body u j ≡ some t
          → run (clauses_of (joined f g)) (paired i j) a ≡ run (clauses_of f) j (run (clauses_of g) i a)
      unfolding joined
      join_codes {a = a} {k = k} i u j t y z e d =
          sym (run_alike (fit_carries (joined f g) body_rises join_fits_lem) join_clauses (paired i j) t y (join_mapped k i u j t e d))
          ∙ run_pair (clauses_of f) (clauses_of g) first_small a i j z (first_low u j t (mapping_mem f.body u j t d))

      -- So is a tree.
      pub join_runs : {a : Code} {k : ℕ} (i u j t : ℕ) → Typed g.source [] a k → mapping_of g.body k i ≡ some u → mapping_of f.body u j ≡ some t
          → transform (joined f g) (paired i j) a ≡ transform f j (transform g i a)
      unfolding transform
      join_runs i u j t y e d = join_codes i u j t y (typed_tree y) e d
