-- The identity of a proper language is sound (document 000: C.18).
use Prim.Native.Nat.{ℕ, zero, suc, ◌+◌, ◌*◌, ◌≤◌, ◌<◌}
use mathlib.Core.Path.{◌≡◌, refl, ap, sym, ◌∙◌}
use mathlib.Core.Logic.{◌⊎◌, inl, inr, ⊎_elim}
use mathlib.Core.Bool.{true}
use mathlib.Core.Option.{some}
use mathlib.Core.List.{List, [], ◌∷◌, ◌++◌, map, append-nil, append_assoc}
use native.Mathlib.Omega.{arith}
use lib.ListN.{length, get_elem?}
use borrow.Author.Tests.{lt-ltb}
use Rattle.format_fields.specs.Lists.{keep, concat_map, count_up}
use Rattle.format_fields.proofs.Truth.{Mem, both_and, keep_cases, mem_keep, mem_map, map_cases, mem_append, append_cases, mem_concat, concat_cases, mem_count, count_mem}
use Rattle.format_fields.proofs.Keyed.{Rising, From, from_weaken, keep_from}
use Rattle.format_language.specs.Language.{Entry, class, production, Language, entry_key, is_in}
use Rattle.format_language.specs.LanguageFile.{is_kind}
use Rattle.format_language.proofs.Lookup.{mem_arguments, result_in, argument_in}
use Rattle.format_language.proofs.Ranges.{within_itself}
use Rattle.tree_reader.specs.Code.{node, levels, levels_all}
use Rattle.tree_reader.specs.Typing.{TypedAll, typed_node, typed_argument, typed_nil, typed_cons}
use Rattle.tree_reader.specs.Syntax.{done, write, code}
use Rattle.tree_reader.proofs.RoundTrip.{round, as_code}
use Rattle.format_translation.specs.Translation.{Item, mapping, clause, Body, plain_key, number_of, item_key, mapping_of, mapped}
use Rattle.format_translation.specs.Running.{uses_of, read_clause, code_levels}
use Rattle.format_translation.specs.WellFormed.{kinds}
use Rattle.format_translation.proofs.Codec.{item_whole}
use Rattle.format_translation.proofs.Lookup.{mem_mapping}
use Rattle.format_translation.proofs.Preserved.{Mappings, kind_use}
use Rattle.format_translation.proofs.Fitting.{Fitting, uses_are}
use Rattle.reduce_operators.specs.Operators.{arguments_from, identity_clause, identity_of}
use Rattle.reduce_operators.proofs.Proper.{Proper, proper_apart, proper_below, Sound}
use Rattle.format_translation.proofs.ItemParts.{mapping_parts, clause_parts, mapping_clause}

-- The arguments in order are of the kinds in order.
get_append : (r : List ℕ) (k : ℕ) (ks : List ℕ) → get_elem? (r ++ k ∷ ks) (length r) ≡ some k
get_append [] k ks = refl
get_append (x ∷ r) k ks = get_append r k ks

snoc : (r : List ℕ) (k : ℕ) (ks : List ℕ) → (r ++ k ∷ []) ++ ks ≡ r ++ k ∷ ks
snoc r k ks = append_assoc r (k ∷ []) ks

length_snoc : (r : List ℕ) (k : ℕ) → length (r ++ k ∷ []) ≡ suc (length r)
length_snoc [] k = refl
length_snoc (x ∷ r) k = ap suc (length_snoc r k)

-- Kinds that map to themselves by number 0.
abbrev Same : Mappings → List ℕ → Type 0
Same to ks = (k : ℕ) → Mem k ks → to k 0 ≡ some k

arguments_typed : (l : Language) (to : Mappings) (r ks : List ℕ) → Same to ks → TypedAll l (map to (r ++ ks)) (arguments_from (suc (length r)) ks) ks
unfolding arguments_from
arguments_typed l to r [] h = typed_nil
arguments_typed l to r (k ∷ ks) h =
    let rest : TypedAll l (map to (r ++ k ∷ ks)) (arguments_from (suc (suc (length r))) ks) ks
    = rw (← snoc r k ks, ← length_snoc r k) (arguments_typed l to (r ++ k ∷ []) ks (λ j m. h j (inr m))) in
    typed_cons (typed_argument (kind_use to (r ++ k ∷ ks) (length r) 0 k (get_append r k ks) ∙ h k (inl refl))) rest

arguments_levels : (i : ℕ) (ks : List ℕ) → levels_all (arguments_from i ks) ≤ 1
unfolding arguments_from levels
arguments_levels i [] = omega arith
arguments_levels i (k ∷ ks) = omega (arith, arguments_levels (suc i) ks)

-- A list below n, then one from n on.
pub from_append : {A : Type 0} (key : A → ℕ) (n m : ℕ) (l r : List A) → From key n l → n ≤ m → ((a : A) → Mem a l → key a < m) → From key m r → From key n (l ++ r)
from_append key n m [] r f h below g = from_weaken key r h g
from_append key n m (x ∷ l) r f h below g = (f.0, from_append key (suc (key x)) m l r f.1 (below x (inl refl)) (λ a q. below a (inr q)) g)

pub count_from : (m n : ℕ) → From (λ k. k) n (count_up m n)
unfolding count_up
count_from zero n = tt
count_from (suc m) n = (omega arith, count_from m (suc n))

mappings_from : (n : ℕ) (l : List ℕ) → From (λ k. k) n l → From item_key (n * 256) (map (λ k. mapping k 0 k) l)
unfolding item_key plain_key number_of
mappings_from n [] f = tt
mappings_from n (k ∷ l) f =
    let w : suc (k * 256 + 0) ≤ suc k * 256 = omega arith in
    (omega (arith, f.0), from_weaken item_key (map (λ k. mapping k 0 k) l) w (mappings_from (suc k) l f.1))

clauses_from : (n m : ℕ) (l : Language) → From entry_key n l → m ≤ n * 256 → From item_key m (concat_map identity_clause l)
unfolding concat_map identity_clause entry_key item_key plain_key number_of
clauses_from n m [] f h = tt
clauses_from n m (class k c ∷ l) f h = clauses_from (suc k) m l f.1 (omega (arith, f.0))
clauses_from n m (production r p ks ∷ l) f h = (omega (arith, f.0), clauses_from _ _ l f.1 (omega arith))

-- Clauses come only from productions.
clause_from : (a : Item) (e : Entry) → Mem a (identity_clause e)
    → (r : ℕ) × (p : ℕ) × (ks : List ℕ) × (e ≡ production r p ks) × (a ≡ clause r p 0 (write code (node r p (arguments_from 1 ks))))
unfolding identity_clause
clause_from a (production r p ks) (inl e) = (r, p, ks, refl, e)
clause_from a (production r p ks) (inr x3) = elim x3 [ ]
clause_from a (class kind values) x' = elim x' [ ]

-- Their keys are past the kinds.
clauses_past : (n : ℕ) (b : Body) → From item_key n b → ((a : Item) → Mem a b → 8192 ≤ item_key a) → From item_key 8192 b
clauses_past n [] f h = tt
clauses_past n (a ∷ b) f h = (h a (inl refl), f.1)

module _ (l : Language) (s : Proper l) where
  -- The two halves of the body.
  abbrev kept : List ℕ
  kept = keep (is_in l) kinds

  abbrev mappings : Body
  mappings = map (λ k. mapping k 0 k) kept

  abbrev clauses : Body
  clauses = concat_map identity_clause l

  mem_mappings : (k : ℕ) → is_in l k ≡ true → Mem (mapping k 0 k) (identity_of l).body
  unfolding identity_of kinds
  mem_mappings k e =
      mem_append (mapping k 0 k) mappings clauses (inl (mem_map (λ j. mapping j 0 j) k kept (mem_keep (is_in l) k kinds (mem_count 32 0 k (omega arith) (proper_below l s k e)) e)))

  mem_clauses : (r p : ℕ) (ks : List ℕ) → Mem (production r p ks) l → Mem (clause r p 0 (write code (node r p (arguments_from 1 ks)))) (identity_of l).body
  unfolding identity_of identity_clause
  mem_clauses r p ks m =
      let a = clause r p 0 (write code (node r p (arguments_from 1 ks))) in
      mem_append a mappings clauses (inr (mem_concat identity_clause (production r p ks) a l m (inl refl)))

  -- A member is the mapping of a kind in the language, or the clause of a production.
  cases : (a : Item) → Mem a (identity_of l).body
      → ((k : ℕ) × (is_in l k ≡ true) × (k < 32) × (a ≡ mapping k 0 k))
      ⊎ ((r : ℕ) × (p : ℕ) × (ks : List ℕ) × Mem (production r p ks) l × (a ≡ clause r p 0 (write code (node r p (arguments_from 1 ks)))))
  unfolding identity_of kinds
  cases a m =
      ⊎_elim
      (λ q.
      let r = map_cases (λ j. mapping j 0 j) a kept q in
      let t = keep_cases (is_in l) r.0 kinds r.1 in
      inl (r.0, t.1, (count_mem 32 0 r.0 t.0).1, r.2))
      (λ q.
      let r = concat_cases identity_clause a l q in
      let t = clause_from a r.0 r.2 in
      inr (t.0, t.1, t.2, rw t.3 at r.1, t.4))
      (append_cases a mappings clauses m)

  past_kinds : (a : Item) → Mem a clauses → 8192 ≤ item_key a
  unfolding item_key plain_key number_of
  past_kinds a m =
      let r = concat_cases identity_clause a l m in
      let t = clause_from a r.0 r.2 in
      rw t.4 (omega arith)

  mappings_below : (a : Item) → Mem a mappings → item_key a < 8192
  unfolding item_key plain_key number_of kinds
  mappings_below a m =
      let r = map_cases (λ j. mapping j 0 j) a kept m in
      let h = (count_mem 32 0 r.0 (keep_cases (is_in l) r.0 kinds r.1).0).1 in
      rw r.2 (omega (arith, h))

  identity_rises : Rising item_key (identity_of l).body
  unfolding identity_of kinds
  identity_rises =
      from_append item_key 0 8192 mappings clauses
      (mappings_from 0 kept (keep_from (λ k. k) (is_in l) 0 kinds (count_from 32 0))) (omega arith) mappings_below
      (clauses_past 0 clauses (clauses_from 0 0 l s.rises (omega arith)) past_kinds)

  identity_mapped : (k : ℕ) → is_in l k ≡ true → mapping_of (identity_of l).body k 0 ≡ some k
  identity_mapped k e = mem_mapping (identity_of l).body identity_rises k 0 k (mem_mappings k e)

  identity_levels : (r p : ℕ) (ks : List ℕ) → levels (node r p (arguments_from 1 ks)) ≤ code_levels
  unfolding levels
  identity_levels r p ks = omega (arith, arguments_levels 1 ks)

  identity_read : (r p : ℕ) (ks : List ℕ) → Mem (production r p ks) l
      → read_clause (identity_of l) r p 0 (write code (node r p (arguments_from 1 ks))) ≡ done (node r p (arguments_from 1 ks)) []
  unfolding read_clause identity_of mapped
  identity_read r p ks m =
      let e = mem_arguments l s.rises r p ks m in
      let to = mapping_of (identity_of l).body in
      let q : uses_of (identity_of l) r p ≡ map to ks = uses_are (identity_of l) r p ks e in
      let h : Same to ks = λ j n. identity_mapped j (argument_in l r p ks m j n) in
      rw (q, identity_mapped r (result_in l r p ks m), ← append-nil (write code (node r p (arguments_from 1 ks))))
      (round l (proper_apart l s) (typed_node e (arguments_typed l to [] ks h)) as_code code_levels [] (identity_levels r p ks))

  -- A mapping is that of a kind to itself by number 0.
  identity_mapping : (x j t : ℕ) → Mem (mapping x j t) (identity_of l).body → (is_in l x ≡ true) × (j ≡ 0) × (t ≡ x)
  identity_mapping x j t m =
      ⊎_elim
      (λ q. let e = mapping_parts q.3 in (rw e.0 q.1, e.1, e.2 ∙ sym e.0))
      (λ q. mapping_clause q.4)
      (cases (mapping x j t) m)

  -- A clause is that of a production with its code.
  identity_clause_lem : (r p j : ℕ) (c : List ℕ) → Mem (clause r p j c) (identity_of l).body
      → (ks : List ℕ) × Mem (production r p ks) l × (j ≡ 0) × (c ≡ write code (node r p (arguments_from 1 ks)))
  identity_clause_lem r p j c m =
      ⊎_elim
      (λ q. mapping_clause (sym q.3))
      (λ q. let e = clause_parts q.4 in (q.2, rw (e.0, e.1) q.3, e.2, rw (e.0, e.1) e.3))
      (cases (clause r p j c) m)

  identity_fits : Fitting (identity_of l)
  unfolding identity_of
  identity_fits = record {
    maps = λ k e. (k, mem_mappings k e);
    maps_only = λ x j t m. let q = identity_mapping x j t m in (q.0, rw q.2 q.0);
    classes = λ x j t c m e. (c, rw (identity_mapping x j t m).2 e, within_itself c);
    clauses = λ r p j t ks m n. (write code (node r p (arguments_from 1 ks)), rw (identity_mapping r j t n).1 (mem_clauses r p ks m));
    clauses_only = λ r p j c m.
        let q = identity_clause_lem r p j c m in
        ((q.0, q.1), (r, rw q.2 (mem_mappings r (result_in l r p q.0 q.1))));
    codes = λ r p j c m.
        let q = identity_clause_lem r p j c m in
        (node r p (arguments_from 1 q.0), (λ x. read_clause (identity_of l) r p (q.2 x) (q.3 x)) ∙ identity_read r p q.0 q.1);
  }

  result_kind : (r p : ℕ) (ks : List ℕ) → Mem (production r p ks) l → is_kind r ≡ true
  result_kind r p ks m = lt-ltb r 32 (proper_below l s r (result_in l r p ks m))

  identity_whole : (a : Item) → Mem a (identity_of l).body → item_whole a ≡ true
  unfolding item_whole
  identity_whole a m =
      ⊎_elim
      (λ q. let h = lt-ltb q.0 32 q.2 in rw q.3 (both_and (is_kind q.0) _ h (both_and (is_kind q.0) true h refl)))
      (λ q. rw q.4 (both_and (is_kind q.0) true (result_kind q.0 q.1 q.2 q.3) refl))
      (cases a m)

  -- C.18.
  pub sound_identity : Sound (identity_of l)
  unfolding identity_of
  sound_identity = record { source = s; target = s; whole = identity_whole; rises = identity_rises; fits = identity_fits }
