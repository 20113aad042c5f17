-- What counting relies on: fields that are found do not overlap, and the items of a body are the clauses.
use Prim.Native.Nat.{ℕ, zero, suc, ◌+◌, ◌*◌, ◌<◌, ◌≤◌}
use mathlib.Core.Path.{◌≡◌, refl, sym, ap, ◌∙◌}
use mathlib.Core.Logic.{◌⊎◌, inl, inr, ⊎_elim}
use mathlib.Core.Bool.{true}
use mathlib.Core.List.{List, [], ◌∷◌}
use mathlib.Core.Option.{some}
use native.Mathlib.Omega.{arith}
use lib.ListN.{length, get_or}
use lib.Seq.{slice}
use lib.Dec.{leb, eqb}
use borrow.Author.Tests.{leb-true, leb-false, eq-eqb, ne_eqb, eqb-true, eqb-false}
use Rattle.format_fields.specs.Fields.{pair_at}
use Rattle.format_fields.specs.Inner.Places.{field_end, places_in, places_from, places, slot_at, order_at}
use Rattle.format_fields.proofs.Truth.{Mem, by_test, mem_map, map_cases, all_mem}
use Rattle.format_fields.proofs.Keyed.{From, Rising}
use Rattle.format_fields.proofs.Places.{end_past, in_done, in_next}
use Rattle.format_language.proofs.Lookup.{arguments_mem}
use Rattle.format_translation.specs.Translation.{mapping, clause, Translation, item_key, plain_key, number_of, mapping_of}
use Rattle.format_translation.specs.Inner.Items.{item_whole, item_at, IsClause, IsNumberedClause, ItemFacts, plain_mapping, plain_clause, numbered_mapping_lem, numbered_clause_lem, HoldsItems}
use Rattle.format_translation.proofs.Items.{item_facts, mapping_is, clause_is, numbered_mapping_is, numbered_clause_is, key_is}
use Rattle.tree_reader.specs.Code.{Code}
use Rattle.tree_reader.specs.Syntax.{done}
use Rattle.format_translation.specs.Running.{read_clause, clauses_of}
use Rattle.format_translation.proofs.Lookup.{mapping_mem, mem_mapping}
use Rattle.format_translation.proofs.Fitting.{Fitting, clause_code}
use Rattle.run_measure.specs.Inner.Counting.{width_of}
use Rattle.run_measure.proofs.Counts.{clause_unknown, clause_plain, clause_numbered, clause_other, width_over, width_some}
use Rattle.run_measure.proofs.Clauses.{ClauseAt, Nothing, Clauses, Apart, Along, number_at, start_at, clause_pair}

-- The places of a file's fields, from q on: none before q, and no two fields overlap.
place_least : (m : ℕ) (s : List ℕ) (q a : ℕ) → Mem a (places_in m s q) → q ≤ a
unfolding places_in
place_least zero s q a h = absurd h
place_least (suc m) s q a h =
    by_test (leb (length s) q)
    (λ e. absurd (rw (in_done s q m (leb-true _ _ e)) at h))
    (λ e.
    ⊎_elim
    (λ d. omega arith)
    (λ g. let u = place_least m s (field_end s q) a g in omega (arith, end_past s q))
    (rw (in_next s q m (leb-false _ _ e)) at h))

abbrev Beside : List ℕ → ℕ → ℕ → Type 0
Beside s a b = (field_end s a ≤ b) ⊎ (field_end s b ≤ a)

places_beside : (m : ℕ) (s : List ℕ) (q a b : ℕ) → Mem a (places_in m s q) → Mem b (places_in m s q) → (a ≡ b → ⊥) → Beside s a b
unfolding places_in
places_beside zero s q a b h k ne = absurd h
places_beside (suc m) s q a b h k ne =
    by_test (leb (length s) q)
    (λ e. absurd (rw (in_done s q m (leb-true _ _ e)) at h))
    (λ e. let n = in_next s q m (leb-false _ _ e) in go (λ d g. places_beside m s (field_end s q) a b d g ne) (rw n at h) (rw n at k))
  where
    go : (Mem a (places_in m s (field_end s q)) → Mem b (places_in m s (field_end s q)) → Beside s a b) → Mem a (q ∷ places_in m s (field_end s q)) → Mem b (q ∷ places_in m s (field_end s q)) → Beside s a b
    go more (inl d) (inl g) = absurd (ne (d ∙ sym g))
    go more (inl d) (inr g) = inl (rw d (place_least m s (field_end s q) b g))
    go more (inr d) (inl g) = inr (rw g (place_least m s (field_end s q) a d))
    go more (inr d) (inr g) = more d g

-- The places stand one behind the other.
along_in : (m : ℕ) (s : List ℕ) (q : ℕ) → Along s q (places_in m s q)
unfolding places_in
along_in zero s q = tt
along_in (suc m) s q =
    by_test (leb (length s) q)
    (λ e. rw (in_done s q m (leb-true _ _ e)) tt)
    (λ e. rw (in_next s q m (leb-false _ _ e)) (omega arith, along_in m s (field_end s q)))

pub places_along : (s : List ℕ) → Along s 0 (places s)
unfolding places_from
places_along s = along_in (suc (length s)) s 0

pub field_up : (s : List ℕ) (p : ℕ) → p ≤ field_end s p
field_up s p = omega (arith, end_past s p)

-- What is found of an index: for each key the place of a field of that key.
abbrev pub Finds : List ℕ → List ℕ → Type 0
Finds index s = (j : ℕ) → 0 < get_or index j 0 → (p : ℕ) × (get_or index j 0 ≡ p + 1) × Mem p (places s) × (slot_at 0x11 s p ≡ j)

pub finds_apart : (index s : List ℕ) → Finds index s → Apart index s
unfolding places_from field_end
finds_apart index s f = record {
  apart = λ i j ne h k.
      let (a, ea, ma, ka) = f i h in
      let (b, eb, mb, kb) = f j k in
      let pa : pair_at s (get_or index i 0) ≡ pair_at s (a + 1) = ap (pair_at s) ea in
      let pb : pair_at s (get_or index j 0) ≡ pair_at s (b + 1) = ap (pair_at s) eb in
      ⊎_elim (λ u. inl (omega arith)) (λ u. inr (omega arith))
      (places_beside (suc (length s)) s 0 a b ma mb (λ e. ne (sym ka ∙ (ap (slot_at 0x11 s) e ∙ kb))));
}

clause_kind : {k n j r p i : ℕ} {c d : List ℕ} → clause k n j c ≡ clause r p i d → k ≡ r
clause_kind e = cc

clause_name : {k n j r p i : ℕ} {c d : List ℕ} → clause k n j c ≡ clause r p i d → n ≡ p
clause_name e = cc

clause_number_lem : {k n j r p i : ℕ} {c d : List ℕ} → clause k n j c ≡ clause r p i d → j ≡ i
clause_number_lem e = cc

mapping_number : {k j t r i u : ℕ} → mapping k j t ≡ mapping r i u → j ≡ i
mapping_number e = cc

mapping_clause : {A : Type 0} {k j t r p i : ℕ} {d : List ℕ} → mapping k j t ≡ clause r p i d → A
mapping_clause e = let z : ◌≡◌ {A = ℕ} 0 1 = cc in absurd (omega arith)

-- A field that is no clause.
nothing : (s : List ℕ) (p : ℕ) → (get_or s p 0 ≡ 0x23 → ⊥) → (get_or s p 0 ≡ 0x29 → ⊥) → Nothing s p
nothing s p a b index x =
    by_test (eqb (get_or index (32 + pair_at s (p + 3)) 0) 0)
    (λ e. sym (clause_unknown s index p x refl refl (eqb-true _ _ e)))
    (λ e. sym (clause_other s index p x refl refl (eqb-false _ _ e) refl refl a b))

-- The key of a clause with its number.
clause_order : (s : List ℕ) (p j : ℕ) (c : List ℕ) → item_whole s p ≡ true → item_at s p ≡ clause (get_or s (p + 3) 0) (get_or s (p + 4) 0) j c
    → order_at 0x22 s p ≡ (32 + pair_at s (p + 3)) * 256 + j
unfolding item_key plain_key number_of
clause_order s p j c w e = sym (key_is s p w) ∙ (ap item_key e ∙ (let z = clause_pair s p in omega arith))

module _ (s : List ℕ) (f : Translation) (h : HoldsItems s f.body) (rises : Rising item_key f.body) (fits : Fitting f) where
  whole_at : (p : ℕ) → Mem p (places s) → item_whole s p ≡ true
  whole_at p m = all_mem (item_whole s) (places s) h.whole p m

  member : (p : ℕ) → Mem p (places s) → Mem (item_at s p) f.body
  member p m = rw (← h.items) (mem_map (item_at s) p (places s) m)

  -- The clause at p, by what its number is and where its code starts.
  module _ (p : ℕ) (m : Mem p (places s)) (j start : ℕ) (en : number_at s p ≡ j) (es : start_at s p ≡ start)
      (is : item_at s p ≡ clause (get_or s (p + 3) 0) (get_or s (p + 4) 0) j (slice start (field_end s p) s)) where
    here : Mem (clause (get_or s (p + 3) 0) (get_or s (p + 4) 0) j (slice start (field_end s p) s)) f.body
    here = rw is at (member p m)

    code_at_lem : read_clause f (get_or s (p + 3) 0) (get_or s (p + 4) 0) (number_at s p) (slice (start_at s p) (field_end s p) s)
        ≡ done (clauses_of f (get_or s (p + 3) 0) (get_or s (p + 4) 0) (number_at s p)) []
    code_at_lem =
        let (a, r) = fits.codes (get_or s (p + 3) 0) (get_or s (p + 4) 0) j (slice start (field_end s p) s) here in
        rw (en, es) (r ∙ ap (λ (c : Code). done c []) (sym (clause_code f rises (get_or s (p + 3) 0) (get_or s (p + 4) 0) j (slice start (field_end s p) s) a here r)))

    has_at : (t : ℕ) × (mapping_of f.body (get_or s (p + 3) 0) (number_at s p) ≡ some t)
    has_at =
        let (t, d) = (fits.clauses_only (get_or s (p + 3) 0) (get_or s (p + 4) 0) j (slice start (field_end s p) s) here).1 in
        (t, rw en (mem_mapping f.body rises (get_or s (p + 3) 0) j t d))

    order_at_lem : order_at 0x22 s p ≡ (32 + pair_at s (p + 3)) * 256 + number_at s p
    order_at_lem = rw en (clause_order s p j (slice start (field_end s p) s) (whole_at p m) is)

  plain_at : (p : ℕ) → Mem p (places s) → IsClause s p → ClauseAt s f p
  plain_at p m a =
      let ne = ne_eqb (get_or s p 0) 0x29 (λ d. let z = a.tag in omega arith) in
      let en : number_at s p ≡ 0 = rw ne in
      let es : start_at s p ≡ p + 5 = rw ne in
      let is = clause_is s p a in
      record {
        kind = a.result;
        ends = a.ends;
        from = rw es (omega arith);
        past = rw es a.past;
        order = order_at_lem p m 0 (p + 5) en es is;
        code = code_at_lem p m 0 (p + 5) en es is;
        has = has_at p m 0 (p + 5) en es is;
        counts = λ index x found. let z : 256 * 0 ≡ 0 = omega arith in rw (en, es, z) (sym (clause_plain s index p x refl refl found refl refl a.tag refl));
      }

  numbered_at_lem : (p : ℕ) → Mem p (places s) → IsNumberedClause s p → ClauseAt s f p
  numbered_at_lem p m a =
      let eq = eq-eqb (get_or s p 0) 0x29 a.tag in
      let en : number_at s p ≡ get_or s (p + 5) 0 = rw eq in
      let es : start_at s p ≡ p + 6 = rw eq in
      let is = numbered_clause_is s p a in
      record {
        kind = a.result;
        ends = a.ends;
        from = rw es (omega arith);
        past = rw es a.past;
        order = order_at_lem p m (get_or s (p + 5) 0) (p + 6) en es is;
        code = code_at_lem p m (get_or s (p + 5) 0) (p + 6) en es is;
        has = has_at p m (get_or s (p + 5) 0) (p + 6) en es is;
        counts = λ index x found.
            rw (en, es) (sym (clause_numbered s index p x refl refl found refl refl (λ d. let z = a.tag in omega arith) a.tag refl refl));
      }

  item_at_lem : (p : ℕ) → Mem p (places s) → ClauseAt s f p ⊎ Nothing s p
  item_at_lem p m = go (item_facts s p (whole_at p m))
    where
      go : ItemFacts s p → ClauseAt s f p ⊎ Nothing s p
      go (plain_mapping a) = inr (nothing s p (λ d. let z = a.tag in omega arith) (λ d. let z = a.tag in omega arith))
      go (plain_clause a) = inl (plain_at p m a)
      go (numbered_mapping_lem a) = inr (nothing s p (λ d. let z = a.tag in omega arith) (λ d. let z = a.tag in omega arith))
      go (numbered_clause_lem a) = inl (numbered_at_lem p m a)

  -- The place of a clause that the body has.
  clause_at_lem : (k n j : ℕ) (c : List ℕ) → Mem (clause k n j c) f.body
      → (p : ℕ) × Mem p (places s) × ClauseAt s f p × (get_or s (p + 3) 0 ≡ k) × (get_or s (p + 4) 0 ≡ n) × (number_at s p ≡ j)
  clause_at_lem k n j c m =
      let (p, i, e) = map_cases (item_at s) (clause k n j c) (places s) (rw (← h.items) at m) in
      go p i e (item_facts s p (whole_at p i))
    where
      go : (p : ℕ) → Mem p (places s) → clause k n j c ≡ item_at s p → ItemFacts s p
          → (p : ℕ) × Mem p (places s) × ClauseAt s f p × (get_or s (p + 3) 0 ≡ k) × (get_or s (p + 4) 0 ≡ n) × (number_at s p ≡ j)
      go p i e (plain_mapping a) = mapping_clause (sym (mapping_is s p a) ∙ sym e)
      go p i e (plain_clause a) =
          let d = sym (clause_is s p a) ∙ sym e in
          let ne = ne_eqb (get_or s p 0) 0x29 (λ d. let z = a.tag in omega arith) in
          (p, i, plain_at p i a, clause_kind d, clause_name d, (let z : number_at s p ≡ 0 = rw ne in z ∙ clause_number_lem d))
      go p i e (numbered_mapping_lem a) = mapping_clause (sym (numbered_mapping_is s p a) ∙ sym e)
      go p i e (numbered_clause_lem a) =
          let d = sym (numbered_clause_is s p a) ∙ sym e in
          let eq = eq-eqb (get_or s p 0) 0x29 a.tag in
          (p, i, numbered_at_lem p i a, clause_kind d, clause_name d, (let z : number_at s p ≡ get_or s (p + 5) 0 = rw eq in z ∙ clause_number_lem d))

  -- The number of a mapping that the body has: a byte, and below the width.
  number_low : (k j t : ℕ) → mapping_of f.body k j ≡ some t → (j < 256) × (j < width_of s)
  number_low k j t e =
      let (p, i, d) = map_cases (item_at s) (mapping k j t) (places s) (rw (← h.items) at (mapping_mem f.body k j t e)) in
      go p i d (item_facts s p (whole_at p i))
    where
      go : (p : ℕ) → Mem p (places s) → mapping k j t ≡ item_at s p → ItemFacts s p → (j < 256) × (j < width_of s)
      go p i d (plain_mapping a) = let z = mapping_number (d ∙ mapping_is s p a) in (omega arith, omega (arith, width_some s))
      go p i d (plain_clause a) = mapping_clause (d ∙ clause_is s p a)
      go p i d (numbered_mapping_lem a) =
          let z = mapping_number (d ∙ numbered_mapping_is s p a) in
          (omega (arith, a.byte), omega (arith, width_over s p i a.tag))
      go p i d (numbered_clause_lem a) = mapping_clause (d ∙ numbered_clause_is s p a)

  -- The items of a body that fits are its clauses, one for each production and number.
  pub items_clauses : From (order_at 0x22 s) 0 (places s) → Clauses s f
  items_clauses orders = record {
    item = item_at_lem;
    unknown = λ p index x e. sym (clause_unknown s index p x refl refl e);
    every = λ k n j t ks there maps.
        let (c, m) = fits.clauses k n j t ks (arguments_mem f.source k n ks there) (mapping_mem f.body k j t maps) in
        clause_at_lem k n j c m;
    rises = orders;
    bytes = λ k j t e. (number_low k j t e).0;
  }

  pub number_narrow : (k j t : ℕ) → mapping_of f.body k j ≡ some t → j < width_of s
  number_narrow k j t e = (number_low k j t e).1
