-- The identity of a sum of languages and the sum of their identities have the same value (paper 02, 2026-11).
use Prim.Native.Nat.{ℕ}
use mathlib.Core.Path.{◌≡◌, ap, sym, subst, ◌∙◌}
use mathlib.Core.Logic.{◌⊎◌, inl, inr, ⊎_elim}
use mathlib.Core.Bool.{true}
use mathlib.Core.List.{map}
use Rattle.outcome.specs.Outcome.{value}
use Rattle.format_fields.specs.Lists.{keep, concat_map}
use Rattle.format_fields.proofs.Truth.{Mem, keep_cases, mem_keep, mem_map, map_cases, mem_append, append_cases, mem_concat, concat_cases}
use Rattle.format_fields.proofs.Keyed.{union_cases}
use Rattle.format_language.specs.Language.{Entry, class, production, Language, entry_key, is_in}
use Rattle.format_language.proofs.Lookup.{in_larger, in_union}
use Rattle.format_translation.specs.Translation.{Item, mapping, Body, Translation}
use Rattle.format_translation.specs.WellFormed.{kinds}
use Rattle.format_pack.specs.Terms.{Term, languages, sum, identity}
use Rattle.reduce_operators.specs.Operators.{language_union, translation_union, identity_clause, identity_of}
use Rattle.reduce_operators.proofs.Proper.{Proper, good_proper, GoodTranslation}
use Rattle.reduce_operators.proofs.SumSound.{LanguagesFit, fit_languages, languages_fit_lem, proper_union, fit_translations, union_covers, Covers}
use Rattle.format_translation.proofs.ItemParts.{mapping_parts, mapping_clause}
use Rattle.reduce_operators.proofs.IdentitySound.{sound_identity}
use Rattle.reduce_signs.specs.Evaluation.{Constants, nothing_bound, evaluate}
use Rattle.reduce_terms.proofs.Evaluated.{GoodConstants}
use Rattle.laws.proofs.Subsets.{Subset, Lies, InEither, short_language, lies_within, good_within, sum_whole}
use Rattle.laws.proofs.Signs.{sum_value, value_sum, identity_value, value_identity, value_good, value_whole}

-- The mapping of a kind to itself by number 0.
abbrev itself : ℕ → Item
itself k = mapping k 0 k

-- The two halves of an identity's body: one mapping for each kind of the language, one clause for each production.
abbrev mappings : Language → Body
mappings l = map itself (keep (is_in l) kinds)

abbrev clauses : Language → Body
clauses l = concat_map identity_clause l

-- The mapping of a kind in the language is in the identity.
mapping_in : (l : Language) (k : ℕ) → Mem k kinds → is_in l k ≡ true → Mem (itself k) (identity_of l).body
unfolding identity_of
mapping_in l k m e = mem_append (itself k) (mappings l) (clauses l) (inl (mem_map itself k (keep (is_in l) kinds) (mem_keep (is_in l) k kinds m e)))

-- So is the clause of an entry of the language.
clause_in : (l : Language) (a : Entry) (x : Item) → Mem a l → Mem x (identity_clause a) → Mem x (identity_of l).body
unfolding identity_of
clause_in l a x m n = mem_append x (mappings l) (clauses l) (inr (mem_concat identity_clause a x l m n))

-- An item of an identity is one or the other.
item_cases : (l : Language) (x : Item) → Mem x (identity_of l).body
    → ((k : ℕ) × Mem k kinds × (is_in l k ≡ true) × (x ≡ itself k)) ⊎ ((a : Entry) × Mem a l × Mem x (identity_clause a))
unfolding identity_of
item_cases l x m =
    ⊎_elim
    (λ q.
    let r = map_cases itself x (keep (is_in l) kinds) q in
    let t = keep_cases (is_in l) r.0 kinds r.1 in
    inl (r.0, t.0, t.1, r.2))
    (λ q. inr (concat_cases identity_clause x l q))
    (append_cases x (mappings l) (clauses l) m)

-- No clause is a mapping.
no_mapping : {A : Type 0} (k j t : ℕ) (a : Entry) → Mem (mapping k j t) (identity_clause a) → A
unfolding identity_clause
no_mapping k j t (production r p ks) (inl e) = mapping_clause e
no_mapping {A = A} k j t (production r p ks) (inr x3) = elim x3 [ ]
no_mapping {A = A} k j t (class kind values) x' = elim x' [ ]

-- The identity of a language lies in that of a larger one.
module _ (l u : Language) (h : Subset l u) where
  -- Its items are items of the other.
  body_lies : Subset (identity_of l).body (identity_of u).body
  body_lies x m =
      ⊎_elim
      (λ q. subst (λ (z : Item). Mem z (identity_of u).body) (sym q.3) (mapping_in u q.0 q.1 (in_larger l u h q.0 q.2)))
      (λ q. clause_in u q.0 x (h q.0 q.1) q.2)
      (item_cases l x m)

  -- Its kinds have all numbers that they have in the other.
  numbers_lie : (k j t : ℕ) → is_in l k ≡ true → Mem (mapping k j t) (identity_of u).body → Mem (mapping k j t) (identity_of l).body
  numbers_lie k j t i m =
      ⊎_elim
      (λ q.
      let here = subst (λ (z : ℕ). is_in l z ≡ true) (mapping_parts q.3).0 i in
      subst (λ (z : Item). Mem z (identity_of l).body) (sym q.3) (mapping_in l q.0 q.1 here))
      (λ q. no_mapping k j t q.0 q.2)
      (item_cases u (mapping k j t) m)

  -- So the one identity lies in the other.
  identity_lies : Lies (identity_of l) (identity_of u)
  unfolding identity_of
  identity_lies = record { source = h; target = h; body = body_lies; numbers = numbers_lie }

-- All of the identity of a union is in the identity of the one or of the other.
identity_either : (l m : Language) → InEither (identity_of l) (identity_of m) (identity_of (language_union l m))
unfolding identity_of language_union
identity_either l m = record {
  source = λ a q. union_cases entry_key a l m q;
  target = λ a q. union_cases entry_key a l m q;
  body = λ x q.
      ⊎_elim
      (λ r.
      ⊎_elim
      (λ i. inl (subst (λ (z : Item). Mem z (identity_of l).body) (sym r.3) (mapping_in l r.0 r.1 i)))
      (λ i. inr (subst (λ (z : Item). Mem z (identity_of m).body) (sym r.3) (mapping_in m r.0 r.1 i)))
      (in_union l m r.0 r.2))
      (λ r.
      ⊎_elim
      (λ i. inl (clause_in l r.0 x i r.2))
      (λ i. inr (clause_in m r.0 x i r.2))
      (union_cases entry_key r.0 l m r.1))
      (item_cases (language_union l m) x q);
}

-- Two languages that fit.
module _ (l m : Language) (p : Proper l) (h : LanguagesFit l m) where
  -- The union has the members of both.
  union_holds : Covers l m (language_union l m)
  unfolding language_union
  union_holds = union_covers entry_key l m p.rises h.agrees

  -- The identity of the first lies in that of the union.
  left_lies : Lies (identity_of l) (identity_of (language_union l m))
  left_lies = identity_lies l (language_union l m) union_holds.left

  -- So does the identity of the second.
  right_lies : Lies (identity_of m) (identity_of (language_union l m))
  right_lies = identity_lies m (language_union l m) union_holds.right

module _ (c : Constants) (good : GoodConstants c) where
  -- Where the identity of a sum of languages is accepted, so is the sum of their identities, with the same value.
  pub identity_sum : (l m : Term languages) (v : Translation)
      → evaluate c nothing_bound (identity (sum l m)) ≡ value v → evaluate c nothing_bound (sum (identity l) (identity m)) ≡ value v
  identity_sum l m v e =
      let p = identity_value c (sum l m) v e in
      let q = sum_value c l m p.0 p.1 in
      let x = q.0 in
      let y = q.1 in
      let u = language_union x y in
      let z : identity_of u ≡ v = ap identity_of q.5 ∙ p.2 in
      let g = subst GoodTranslation (sym z) (value_good c good (identity (sum l m)) v e) in
      let px = good_proper x (value_good c good l x q.2) in
      let py = good_proper y (value_good c good m y q.3) in
      let h = fit_languages x y q.4 in
      let lx = left_lies x y px h in
      let ly = right_lies x y px h in
      let a = value_identity c l x q.2 (lies_within (identity_of x) (identity_of u) (sound_identity x px) g lx) in
      let b = value_identity c m y q.3 (lies_within (identity_of y) (identity_of u) (sound_identity y py) g ly) in
      value_whole c good (identity l) (identity m) (identity_of x) (identity_of y) (identity_of u) a b g lx ly (identity_either x y) ∙ ap value z

  -- Where the sum of the identities is accepted, so is the identity of the sum, with the same value.
  pub sum_identity : (l m : Term languages) (v : Translation)
      → evaluate c nothing_bound (sum (identity l) (identity m)) ≡ value v → evaluate c nothing_bound (identity (sum l m)) ≡ value v
  unfolding translation_union identity_of
  sum_identity l m v e =
      let r = sum_value c (identity l) (identity m) v e in
      let p = identity_value c l r.0 r.2 in
      let q = identity_value c m r.1 r.3 in
      let x = p.0 in
      let y = q.0 in
      let u = language_union x y in
      let px = good_proper x (value_good c good l x p.1) in
      let py = good_proper y (value_good c good m y q.1) in
      let h = (fit_translations r.0 r.1 r.4).source in
      let half : LanguagesFit x r.1.source = subst (λ (z : Translation). LanguagesFit z.source r.1.source) (sym p.2) h in
      let fits : LanguagesFit x y = subst (λ (z : Translation). LanguagesFit x z.source) (sym q.2) half in
      let same : translation_union (identity_of x) (identity_of y) ≡ identity_of u = sum_whole (identity_of x) (identity_of y) (identity_of u)
      (sound_identity x px) (sound_identity y py) (sound_identity u (proper_union x y px py fits)) (left_lies x y px fits) (right_lies x y px fits) (identity_either x y) in
      let z : identity_of u ≡ v = sym same ∙ ((λ i. translation_union (p.2 i) (q.2 i)) ∙ r.5) in
      let g = subst GoodTranslation (sym z) (value_good c good (sum (identity l) (identity m)) v e) in
      let s = value_sum c l m x y p.1 q.1 (languages_fit_lem x y fits) (short_language u g.source_short) in
      value_identity c (sum l m) u s (good_within (identity_of u) g) ∙ ap value z
