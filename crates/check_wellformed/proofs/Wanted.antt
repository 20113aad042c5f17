-- Each production has its clauses, and no clause is extra, exactly if the keys that the productions ask for are those of the
-- clauses: both lists rise, so they are equal where they have the same members.
use Prim.Native.Nat.{ℕ, suc, ◌+◌, ◌*◌, ◌<◌, ◌≤◌}
use mathlib.Core.Path.{◌≡◌, refl}
use mathlib.Core.Logic.{inl, inr}
use mathlib.Core.Bool.{Bool, true, false, cond, ◌&&◌}
use mathlib.Core.List.{List, [], ◌∷◌, ◌++◌, map}
use native.Mathlib.Omega.{arith}
use lib.Dec.{eqb}
use borrow.Author.Tests.{eqb-true}
use Rattle.format_fields.specs.Lists.{concat_map, same_numbers, is_some}
use Rattle.format_fields.proofs.Truth.{Mem, same_truth, both_and, and_both, all_mem, mem_all, mem_map, map_cases, concat_cases, mem_concat, numbers_equal, equal_numbers, some_is, is_some_lem}
use Rattle.format_fields.proofs.Keyed.{From, Rising, from_weaken, rising_ext}
use Rattle.format_language.specs.Language.{Entry, class, production, Language, entry_key, production_key, arguments_of}
use Rattle.format_language.proofs.Lookup.{mem_arguments, arguments_mem}
use Rattle.format_translation.specs.Translation.{Item, mapping, clause, Body, Translation, plain_key, number_of, item_key, number_at, numbers_of, mapping_of, clause_of}
use Rattle.format_translation.specs.WellFormed.{has_clause, has_production, clauses_fit}
use Rattle.format_translation.proofs.Fitting.{clause_tests}
use Rattle.format_translation.proofs.Lookup.{clause_mem, mem_clause, mapping_mem, mem_mapping, number_mem, mem_number}
use Rattle.check_wellformed.specs.Inner.Matching.{clause_keys, wanted_keys}
use Rattle.check_wellformed.proofs.Bounds.{Bounded, Within}

-- Numbers that rise with one start in front rise with another.
move : (c d n m : ℕ) (l : List ℕ) → ((x : ℕ) → n ≤ c + x → m ≤ d + x) → From (λ (x : ℕ). c + x) n l → From (λ (x : ℕ). x) m (map (λ x. d + x) l)
move c d n m [] h f = tt
move c d n m (x ∷ l) h f = (h x f.0, move c d (suc (c + x)) (suc (d + x)) l (λ y i. omega arith) f.1)

-- One rising list behind another.
append_from : (n m : ℕ) (l r : List ℕ) → From (λ (x : ℕ). x) n l → ((x : ℕ) → Mem x l → x < m) → From (λ (x : ℕ). x) m r → n ≤ m
    → From (λ (x : ℕ). x) n (l ++ r)
append_from n m [] r f h g i = from_weaken (λ (x : ℕ). x) r i g
append_from n m (x ∷ l) r f h g i = (f.0, append_from (suc x) m l r f.1 (λ y q. h y (inr q)) g (h x (inl refl)))

-- The numbers of a kind rise.
numbers_rise : (k n : ℕ) (b : Body) → From item_key n b → From (λ (j : ℕ). k * 256 + j) n (numbers_of b k)
unfolding numbers_of concat_map number_at item_key plain_key number_of
numbers_rise k n [] f = tt
numbers_rise k n (mapping s j t ∷ b) f =
    go (eqb s k) refl (numbers_rise k (suc (s * 256 + j)) b f.1) (numbers_rise k n b (from_weaken item_key b (omega (arith, f.0)) f.1))
  where
    go : (x : Bool) → eqb s k ≡ x → From (λ (j : ℕ). k * 256 + j) (suc (s * 256 + j)) (numbers_of b k) → From (λ (j : ℕ). k * 256 + j) n (numbers_of b k)
        → From (λ (j : ℕ). k * 256 + j) n (cond x (j ∷ []) [] ++ numbers_of b k)
    go true e g h =
        let d : s ≡ k = eqb-true s k e in
        let i = f.0 in
        (omega arith, rw d at g)
    go false e g h = h
numbers_rise k n (clause r p j c ∷ b) f = numbers_rise k n b (from_weaken item_key b (omega (arith, f.0)) f.1)

pub same_key : (r n j s m i : ℕ) → n < 256 → j < 256 → m < 256 → i < 256 → production_key r n * 256 + j ≡ production_key s m * 256 + i
    → (r ≡ s) × (n ≡ m) × (j ≡ i)
same_key r n j s m i a b c d e = (omega arith, omega arith, omega arith)

-- Lookups under equal names.
clause_as : (b : Body) (r p j s q i : ℕ) → (r ≡ s) × (p ≡ q) × (j ≡ i) → is_some (clause_of b s q i) ≡ true → is_some (clause_of b r p j) ≡ true
clause_as b r p j s q i d h = rw (d.0, d.1, d.2) h

found_as : (l : Language) (b : Body) (r p j s q i : ℕ) → (r ≡ s) × (p ≡ q) × (j ≡ i)
    → (is_some (arguments_of l s q) && is_some (mapping_of b s i)) ≡ true → (is_some (arguments_of l r p) && is_some (mapping_of b r j)) ≡ true
found_as l b r p j s q i d h = rw (d.0, d.1, d.2) h

module _ (f : Translation) (source_rises : Rising entry_key f.source) (body_rises : Rising item_key f.body)
    (entries : (a : Entry) → Mem a f.source → Within a) (items : (a : Item) → Mem a f.body → Bounded a) where
  abbrev wanted : List ℕ
  wanted = concat_map (wanted_keys f.body) f.source

  number_below : (k j : ℕ) → Mem j (numbers_of f.body k) → j < 256
  number_below k j m = let r = number_mem f.body k j m in (items (mapping k j r.0) r.1).1

  block_rise : (key k : ℕ) → From (λ (x : ℕ). x) (key * 256) (clause_keys key (numbers_of f.body k))
  unfolding clause_keys
  block_rise key k = move (k * 256) (key * 256) 0 (key * 256) (numbers_of f.body k) (λ x i. omega arith) (numbers_rise k 0 f.body body_rises)

  block_below : (key k x : ℕ) → Mem x (clause_keys key (numbers_of f.body k)) → x < suc key * 256
  unfolding clause_keys
  block_below key k x m =
      let r = map_cases (λ (j : ℕ). key * 256 + j) x (numbers_of f.body k) m in
      let e = r.2 in
      let h = number_below k r.0 r.1 in
      omega arith

  wanted_rise : (n : ℕ) (l : Language) → From entry_key n l → From (λ (x : ℕ). x) (n * 256) (concat_map (wanted_keys f.body) l)
  unfolding concat_map wanted_keys entry_key
  wanted_rise n [] g = tt
  wanted_rise n (class k c ∷ l) g =
      let h = g.0 in
      from_weaken (λ (x : ℕ). x) (concat_map (wanted_keys f.body) l) (omega arith) (wanted_rise (suc k) l g.1)
  wanted_rise n (production r p ks ∷ l) g =
      let h = g.0 in
      from_weaken (λ (x : ℕ). x) (clause_keys (production_key r p) (numbers_of f.body r) ++ concat_map (wanted_keys f.body) l) (omega arith)
      (append_from (production_key r p * 256) (suc (production_key r p) * 256) (clause_keys (production_key r p) (numbers_of f.body r)) (concat_map (wanted_keys f.body) l)
      (block_rise (production_key r p) r) (block_below (production_key r p) r) (wanted_rise (suc (production_key r p)) l g.1) (omega arith))

  -- What is asked for.
  is_wanted : (r p j : ℕ) (ks : List ℕ) → Mem (production r p ks) f.source → Mem j (numbers_of f.body r) → Mem (production_key r p * 256 + j) wanted
  unfolding wanted_keys clause_keys
  is_wanted r p j ks m n =
      mem_concat (wanted_keys f.body) (production r p ks) (production_key r p * 256 + j) f.source m
      (mem_map (λ (i : ℕ). production_key r p * 256 + i) j (numbers_of f.body r) n)

  wanted_is : (k : ℕ) → Mem k wanted
      → (r : ℕ) × (p : ℕ) × (j : ℕ) × (ks : List ℕ) × Mem (production r p ks) f.source × Mem j (numbers_of f.body r) × (k ≡ production_key r p * 256 + j)
  unfolding wanted_keys clause_keys
  wanted_is k m = let a = concat_cases (wanted_keys f.body) k f.source m in go a.0 a.1 a.2
    where
      go : (a : Entry) → Mem a f.source → Mem k (wanted_keys f.body a)
          → (r : ℕ) × (p : ℕ) × (j : ℕ) × (ks : List ℕ) × Mem (production r p ks) f.source × Mem j (numbers_of f.body r) × (k ≡ production_key r p * 256 + j)
      go (class i c) n q = absurd q
      go (production r p ks) n q =
          let u = map_cases (λ (i : ℕ). production_key r p * 256 + i) k (numbers_of f.body r) q in
          (r, p, u.0, ks, n, u.1, u.2)

  -- The keys are those of the clauses.
  module _ (keys : List ℕ) (rises : From (λ (x : ℕ). x) 0 keys)
      (is_key : (r p j : ℕ) (c : List ℕ) → Mem (clause r p j c) f.body → Mem (production_key r p * 256 + j) keys)
      (key_is : (k : ℕ) → Mem k keys → (r : ℕ) × (p : ℕ) × (j : ℕ) × (c : List ℕ) × Mem (clause r p j c) f.body × (k ≡ production_key r p * 256 + j)) where
    module _ (fits : clauses_fit f ≡ true) where
      clause_found : (k : ℕ) → Mem k wanted → Mem k keys
      unfolding has_clause
      clause_found k m =
          let (r, p, j, ks, n, q, e) = wanted_is k m in
          let y = all_mem (has_clause f) f.source (clause_tests f fits).0 (production r p ks) n in
          let v = some_is (clause_of f.body r p j) (all_mem _ (numbers_of f.body r) y j q) in
          rw e (is_key r p j v.0 (clause_mem f.body r p j v.0 v.1))

      production_found : (k : ℕ) → Mem k keys → Mem k wanted
      unfolding has_production
      production_found k m =
          let (r, p, j, c, n, e) = key_is k m in
          let y = and_both (is_some (arguments_of f.source r p)) (is_some (mapping_of f.body r j)) (all_mem (has_production f) f.body (clause_tests f fits).1 (clause r p j c) n) in
          let q = some_is (arguments_of f.source r p) y.0 in
          let o = some_is (mapping_of f.body r j) y.1 in
          rw e (is_wanted r p j q.0 (arguments_mem f.source r p q.0 q.1) (mem_number f.body r j o.0 (mapping_mem f.body r j o.0 o.1)))

      fits_same : same_numbers wanted keys ≡ true
      fits_same =
          let e = rising_ext (λ (x : ℕ). x) 0 0 wanted keys (wanted_rise 0 f.source source_rises) rises clause_found production_found in
          rw e (equal_numbers keys)

    module _ (same : same_numbers wanted keys ≡ true) where
      equal : wanted ≡ keys
      equal = numbers_equal wanted keys same

      has_clause_lem : (a : Entry) → Mem a f.source → has_clause f a ≡ true
      unfolding has_clause
      has_clause_lem (class k c) m = refl
      has_clause_lem (production r p ks) m =
          mem_all _ (numbers_of f.body r) (λ j n.
          let (s, q, i, c, o, e) = key_is (production_key r p * 256 + j) (rw equal at (is_wanted r p j ks m n)) in
          let x = entries (production r p ks) m in
          let y = items (clause s q i c) o in
          let d = same_key r p j s q i x.1 (number_below r j n) y.1 y.2 e in
          clause_as f.body r p j s q i d (is_some_lem (clause_of f.body s q i) (mem_clause f.body body_rises s q i c o)))

      has_production_lem : (a : Item) → Mem a f.body → has_production f a ≡ true
      unfolding has_production
      has_production_lem (mapping s j t) m = refl
      has_production_lem (clause r p j c) m =
          let (s, q, i, ks, n, o, e) = wanted_is (production_key r p * 256 + j) (rw (← equal) at (is_key r p j c m)) in
          let x = items (clause r p j c) m in
          let y = entries (production s q ks) n in
          let d = same_key r p j s q i x.1 x.2 y.1 (number_below s i o) e in
          let t = number_mem f.body s i o in
          found_as f.source f.body r p j s q i d (both_and _ _
          (is_some_lem (arguments_of f.source s q) (mem_arguments f.source source_rises s q ks n))
          (is_some_lem (mapping_of f.body s i) (mem_mapping f.body body_rises s i t.0 t.1)))

      same_fits : clauses_fit f ≡ true
      unfolding clauses_fit
      same_fits = both_and _ _ (mem_all (has_clause f) f.source has_clause_lem) (mem_all (has_production f) f.body has_production_lem)

    pub wanted_keys_lem : same_numbers wanted keys ≡ clauses_fit f
    wanted_keys_lem = same_truth (same_numbers wanted keys) (clauses_fit f) same_fits fits_same
