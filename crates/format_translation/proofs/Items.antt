-- The items by place are the items of `body_of`, and a law for each return of the functions on items.
use Prim.Native.Nat.{ℕ, suc, ◌+◌, ◌<◌, ◌≤◌}
use mathlib.Core.Path.{◌≡◌, refl, sym, ap, ◌∙◌}
use mathlib.Core.Bool.{Bool, true, false, cond, not, ◌&&◌, ◌||◌}
use mathlib.Core.List.{List, [], ◌∷◌, map}
use mathlib.Core.Option.{Option, none, some}
use native.Mathlib.Omega.{arith}
use lib.ListN.{length, get_or}
use lib.Seq.{slice}
use lib.Dec.{ltb, leb, eqb}
use borrow.Author.Tests.{lt-ltb, le-ltb, le-leb, lt-leb, eq-eqb, ne_eqb, leb-true, ltb-true, eqb-true}
use Rattle.format_fields.specs.Lists.{all, is_some}
use Rattle.format_fields.specs.Fields.{Field, pair_at, fields_of, decoded_in}
use Rattle.format_fields.specs.Keyed.{rising, rising_from}
use Rattle.format_fields.specs.Inner.Places.{field_end, is_whole, WholeEnd, contents_at, field_at, places, places_from, key_at, item_order, order_at}
use Rattle.format_fields.proofs.Truth.{by_test, false_true, and_both}
use Rattle.format_fields.proofs.Codec.{cond_some}
use Rattle.format_fields.proofs.Lists.{there_if, all_true}
use Rattle.format_fields.proofs.Places.{end_whole, pass_done, pass_next}
use Rattle.format_fields.proofs.Split.{contents_length, contents_first, contents_second, contents_third, contents_after, contents_past, four_tags, decoded_at_places}
use Rattle.format_language.specs.LanguageFile.{is_kind}
use Rattle.format_language.specs.Inner.Entries.{size_at}
use Rattle.format_translation.specs.Translation.{mapping, clause, Body, plain_key, number_of, item_key}
use Rattle.format_translation.specs.TranslationFile.{is_number, mapping_field, numbered_mapping, clause_field, numbered_clause, item_of, is_clause, grouped, in_groups, items_in, body_in, body_of}
use Rattle.format_translation.specs.Inner.Items.{mapping_whole, numbered_mapping_whole, clause_whole, numbered_clause_whole, item_good, item_whole, item_at, IsMapping, IsClause, IsNumberedMapping, IsNumberedClause, ItemFacts, plain_mapping, plain_clause, numbered_mapping_lem, numbered_clause_lem, is_clause_tag, items_whole, HoldsItems}

-- The whole field at p.
module _ (s : List ℕ) (p : ℕ) (w : is_whole s p ≡ true) where
  -- a mapping
  mapping_here : mapping_field (contents_at s p) ≡ cond (mapping_whole s p) (some (mapping (get_or s (p + 3) 0) 0 (get_or s (p + 4) 0))) none
  unfolding mapping_field mapping_whole
  mapping_here =
      by_test (eqb (size_at s p) 2)
      (λ e.
      let h : size_at s p ≡ 2 = eqb-true _ _ e in
      cc (contents_length s p w, contents_first s p w (omega arith), contents_second s p w (omega arith)))
      (λ e. cc (contents_length s p w))

  -- a clause
  clause_here : clause_field (contents_at s p)
      ≡ cond (clause_whole s p) (some (clause (get_or s (p + 3) 0) (get_or s (p + 4) 0) 0 (slice (p + 5) (field_end s p) s))) none
  unfolding clause_field clause_whole
  clause_here =
      by_test (leb 2 (size_at s p))
      (λ e.
      let h : 2 ≤ size_at s p = leb-true _ _ e in
      cc (contents_length s p w, contents_first s p w (omega arith), contents_second s p w h, contents_after s p w))
      (λ e. cc (contents_length s p w))

  -- a mapping by another number
  numbered_mapping_here : numbered_mapping (contents_at s p)
      ≡ cond (numbered_mapping_whole s p) (some (mapping (get_or s (p + 3) 0) (get_or s (p + 4) 0) (get_or s (p + 5) 0))) none
  unfolding numbered_mapping numbered_mapping_whole
  numbered_mapping_here =
      by_test (eqb (size_at s p) 3)
      (λ e.
      let h : size_at s p ≡ 3 = eqb-true _ _ e in
      cc (contents_length s p w, contents_first s p w (omega arith), contents_second s p w (omega arith), contents_third s p w (omega arith)))
      (λ e. cc (contents_length s p w))

  -- a clause of another number
  numbered_clause_here : numbered_clause (contents_at s p)
      ≡ cond (numbered_clause_whole s p) (some (clause (get_or s (p + 3) 0) (get_or s (p + 4) 0) (get_or s (p + 5) 0) (slice (p + 6) (field_end s p) s))) none
  unfolding numbered_clause numbered_clause_whole
  numbered_clause_here =
      by_test (leb 3 (size_at s p))
      (λ e.
      let h : 3 ≤ size_at s p = leb-true _ _ e in
      cc (contents_length s p w, contents_first s p w (omega arith), contents_second s p w (omega arith), contents_third s p w h, contents_past s p w))
      (λ e. cc (contents_length s p w))

  item_here : item_of (field_at s p) ≡ cond (item_good s p) (some (item_at s p)) none
  unfolding item_of field_at item_good item_at
  item_here =
      four_tags (eqb (get_or s p 0) 0x22) (eqb (get_or s p 0) 0x23) (eqb (get_or s p 0) 0x28) (eqb (get_or s p 0) 0x29) _ _ _ _ _ _ _ _
      mapping_here clause_here numbered_mapping_here numbered_clause_here

module _ (s : List ℕ) (p : ℕ) where
  mapping_facts : is_whole s p ≡ true → get_or s p 0 ≡ 0x22 → mapping_whole s p ≡ true → IsMapping s p
  unfolding is_whole mapping_whole field_end
  mapping_facts w t h =
      let a = and_both (eqb (size_at s p) 2) _ h in
      let b = and_both (is_kind (get_or s (p + 3) 0)) (is_kind (get_or s (p + 4) 0)) a.1 in
      let f : p + 3 + size_at s p ≤ length s = leb-true _ _ w in
      let n : size_at s p ≡ 2 = eqb-true (size_at s p) 2 a.0 in
      let g : p + 5 ≤ length s = omega arith in
      record { tag = t; fits = g; source = ltb-true _ _ b.0; target = ltb-true _ _ b.1 }

  clause_facts : is_whole s p ≡ true → get_or s p 0 ≡ 0x23 → clause_whole s p ≡ true → IsClause s p
  unfolding is_whole clause_whole field_end
  clause_facts w t h =
      let a = and_both _ _ h in
      let n : 2 ≤ size_at s p = leb-true _ _ a.0 in
      record { tag = t; ends = leb-true _ _ w; past = omega arith; result = ltb-true _ _ a.1 }

  numbered_mapping_facts : is_whole s p ≡ true → get_or s p 0 ≡ 0x28 → numbered_mapping_whole s p ≡ true → IsNumberedMapping s p
  unfolding is_whole numbered_mapping_whole field_end
  numbered_mapping_facts w t h =
      let a = and_both (eqb (size_at s p) 3) _ h in
      let b = and_both (is_kind (get_or s (p + 3) 0)) _ a.1 in
      let c = and_both (is_number (get_or s (p + 4) 0)) (is_kind (get_or s (p + 5) 0)) b.1 in
      let o = and_both (ltb 0 (get_or s (p + 4) 0)) (ltb (get_or s (p + 4) 0) 256) c.0 in
      let f : p + 3 + size_at s p ≤ length s = leb-true _ _ w in
      let n : size_at s p ≡ 3 = eqb-true (size_at s p) 3 a.0 in
      let g : p + 6 ≤ length s = omega arith in
      record { tag = t; fits = g; source = ltb-true _ _ b.0; number = ltb-true _ _ o.0; byte = ltb-true _ _ o.1; target = ltb-true _ _ c.1 }

  numbered_clause_facts : is_whole s p ≡ true → get_or s p 0 ≡ 0x29 → numbered_clause_whole s p ≡ true → IsNumberedClause s p
  unfolding is_whole numbered_clause_whole field_end
  numbered_clause_facts w t h =
      let a = and_both (leb 3 (size_at s p)) _ h in
      let b = and_both (is_kind (get_or s (p + 3) 0)) (is_number (get_or s (p + 5) 0)) a.1 in
      let o = and_both (ltb 0 (get_or s (p + 5) 0)) (ltb (get_or s (p + 5) 0) 256) b.1 in
      let n : 3 ≤ size_at s p = leb-true _ _ a.0 in
      record { tag = t; ends = leb-true _ _ w; past = omega arith; result = ltb-true _ _ b.0; number = ltb-true _ _ o.0; byte = ltb-true _ _ o.1 }

  -- A whole item has one of the four forms.
  pub item_facts : item_whole s p ≡ true → ItemFacts s p
  unfolding item_whole item_good
  item_facts h =
      let a = and_both _ _ h in
      by_test (eqb (get_or s p 0) 0x22)
      (λ e. plain_mapping (mapping_facts a.0 (eqb-true _ _ e) (rw e at a.1)))
      (λ e. by_test (eqb (get_or s p 0) 0x23)
      (λ d. plain_clause (clause_facts a.0 (eqb-true _ _ d) (rw (e, d) at a.1)))
      (λ d. by_test (eqb (get_or s p 0) 0x28)
      (λ c. numbered_mapping_lem (numbered_mapping_facts a.0 (eqb-true _ _ c) (rw (e, d, c) at a.1)))
      (λ c. by_test (eqb (get_or s p 0) 0x29)
      (λ b. numbered_clause_lem (numbered_clause_facts a.0 (eqb-true _ _ b) (rw (e, d, c, b) at a.1)))
      (λ b. false_true (rw (e, d, c, b) at a.1)))))

  -- The item at each of the four.
  pub mapping_is : IsMapping s p → item_at s p ≡ mapping (get_or s (p + 3) 0) 0 (get_or s (p + 4) 0)
  unfolding item_at
  mapping_is h = cc h.tag

  pub clause_is : IsClause s p → item_at s p ≡ clause (get_or s (p + 3) 0) (get_or s (p + 4) 0) 0 (slice (p + 5) (field_end s p) s)
  unfolding item_at
  clause_is h = cc h.tag

  pub numbered_mapping_is : IsNumberedMapping s p → item_at s p ≡ mapping (get_or s (p + 3) 0) (get_or s (p + 4) 0) (get_or s (p + 5) 0)
  unfolding item_at
  numbered_mapping_is h = cc h.tag

  pub numbered_clause_is : IsNumberedClause s p
      → item_at s p ≡ clause (get_or s (p + 3) 0) (get_or s (p + 4) 0) (get_or s (p + 5) 0) (slice (p + 6) (field_end s p) s)
  unfolding item_at
  numbered_clause_is h = cc h.tag

  clause_number_lem : IsNumberedClause s p → 3 ≤ pair_at s (p + 1)
  unfolding field_end
  clause_number_lem m = let f = m.past in omega arith

  -- The key at a place is the key of the item there.
  pub key_is : item_whole s p ≡ true → item_key (item_at s p) ≡ order_at 0x22 s p
  unfolding item_key plain_key number_of order_at item_order key_at pair_at
  key_is w = go (item_facts w)
    where
      d : p + 3 + 1 ≡ p + 4
      d = omega arith

      clause_size : IsNumberedClause s p → 3 ≤ pair_at s (p + 1)
      clause_size m = clause_number_lem m

      go : ItemFacts s p → item_key (item_at s p) ≡ order_at 0x22 s p
      go (plain_mapping m) = rw (mapping_is m, m.tag) (omega arith)
      go (plain_clause m) = rw (clause_is m, m.tag, d) (omega arith)
      go (numbered_mapping_lem m) = rw (numbered_mapping_is m, m.tag, d) (omega arith)
      go (numbered_clause_lem m) = rw (numbered_clause_is m, m.tag, d, le-ltb (pair_at s (p + 1)) 3 (clause_size m)) (omega arith)

-- The groups of items by place.
module _ (s : List ℕ) (p : ℕ) where
  is_clause_lem : item_whole s p ≡ true → is_clause (item_at s p) ≡ is_clause_tag (get_or s p 0)
  is_clause_lem w = go (item_facts s p w)
    where
      go : ItemFacts s p → is_clause (item_at s p) ≡ is_clause_tag (get_or s p 0)
      go (plain_mapping m) = rw (mapping_is s p m, m.tag)
      go (plain_clause m) = rw (clause_is s p m, m.tag)
      go (numbered_mapping_lem m) = rw (numbered_mapping_is s p m, m.tag)
      go (numbered_clause_lem m) = rw (numbered_clause_is s p m, m.tag)

groups_at : (s : List ℕ) (past : Bool) (l : List ℕ)
    → items_whole s past l ≡ (all (item_whole s) l && grouped past (map (item_at s) l))
unfolding items_whole all grouped
groups_at s past [] = refl
groups_at s past (p ∷ l) =
    by_test (item_whole s p)
    (λ e. rw (e, is_clause_lem s p e, groups_at s (is_clause_tag (get_or s p 0)) l)
    (and_swap (is_clause_tag (get_or s p 0) || not past) (all (item_whole s) l) (grouped (is_clause_tag (get_or s p 0)) (map (item_at s) l))))
    (λ e. rw e)
  where
    and_swap : (a b c : Bool) → (a && (b && c)) ≡ (b && (a && c))
    and_swap true b c = refl
    and_swap false true c = refl
    and_swap false false c = refl

in_groups_lem : (a : Bool) (b : Body) → in_groups (cond a (some b) none) ≡ cond (a && grouped false b) (some b) none
in_groups_lem true b = refl
in_groups_lem false b = refl

body_in_lem : (o : Option (List Field)) → body_in o ≡ in_groups (decoded_in item_of o)
unfolding items_in
body_in_lem none = refl
body_in_lem (some fs) = refl

-- The items of a body are those at its places, and are there if each is whole and in its group.
pub items_at_places : (s : List ℕ) → body_of s ≡ cond (items_whole s false (places s)) (some (map (item_at s) (places s))) none
unfolding body_of item_whole
items_at_places s =
    body_in_lem (fields_of s)
    ∙ (ap in_groups (decoded_at_places item_of (item_good s) (item_at s) s (item_here s))
    ∙ (in_groups_lem (all (item_whole s) (places s)) (map (item_at s) (places s))
    ∙ rw (groups_at s false (places s))))

-- What `body_whole` tests.
pub body_there : (s : List ℕ) → items_whole s false (places s) ≡ is_some (body_of s)
body_there s = sym (ap is_some (items_at_places s) ∙ there_if _ _)

-- The walk over a file of items b meets exactly the items of b.
pub holds_items : (s : List ℕ) (b : Body) → body_of s ≡ some b → HoldsItems s b
holds_items s b e =
    let w = cond_some _ _ b (sym (items_at_places s) ∙ e) in
    let v = and_both _ _ (sym (groups_at s false (places s)) ∙ w.0) in
    record { items = w.1; whole = v.0 }

-- Keys that are the same at each whole place rise alike.
rising_whole : (s : List ℕ) (n : ℕ) (l : List ℕ) → all (item_whole s) l ≡ true
    → rising_from (order_at 0x22 s) n l ≡ rising_from item_key n (map (item_at s) l)
unfolding rising_from
rising_whole s n [] h = refl
rising_whole s n (p ∷ l) h =
    let w = all_true (item_whole s) p l h in
    rw (key_is s p w.0) (ap (λ (x : Bool). leb n (order_at 0x22 s p) && x) (rising_whole s (suc (order_at 0x22 s p)) l w.1))

-- A file of items b has rising keys if b has.
pub rising_is : (s : List ℕ) (b : Body) → HoldsItems s b → rising (order_at 0x22 s) (places s) ≡ rising item_key b
unfolding rising
rising_is s b h = rising_whole s 0 (places s) h.whole ∙ ap (rising_from item_key 0) h.items

-- mapping_whole and clause_whole: n is the length of the contents, k the first byte of it
module _ (s : List ℕ) (p n k : ℕ) (en : n ≡ size_at s p) (ek : k ≡ get_or s (p + 3) 0) where
  pub mapping_size : (n ≡ 2 → ⊥) → false ≡ mapping_whole s p
  unfolding mapping_whole
  mapping_size h = cc (ne_eqb n 2 h)

  pub mapping_source : n ≡ 2 → 32 ≤ k → false ≡ mapping_whole s p
  unfolding mapping_whole
  mapping_source h j = cc (eq-eqb n 2 h, le-ltb k 32 j)

  pub mapping_target : n ≡ 2 → k < 32 → (x : ℕ) → x ≡ get_or s (p + 4) 0 → ltb x 32 ≡ mapping_whole s p
  unfolding mapping_whole
  mapping_target h j x ex = cc (eq-eqb n 2 h, lt-ltb k 32 j)

  pub numbered_size : (n ≡ 3 → ⊥) → false ≡ numbered_mapping_whole s p
  unfolding numbered_mapping_whole
  numbered_size h = cc (ne_eqb n 3 h)

  pub numbered_source : n ≡ 3 → 32 ≤ k → false ≡ numbered_mapping_whole s p
  unfolding numbered_mapping_whole
  numbered_source h j = cc (eq-eqb n 3 h, le-ltb k 32 j)

  pub numbered_zero : n ≡ 3 → k < 32 → get_or s (p + 4) 0 ≡ 0 → false ≡ numbered_mapping_whole s p
  unfolding numbered_mapping_whole
  numbered_zero h j z = cc (eq-eqb n 3 h, lt-ltb k 32 j)

  pub numbered_target : n ≡ 3 → k < 32 → ((i : ℕ) → get_or s i 0 < 256) → (get_or s (p + 4) 0 ≡ 0 → ⊥) → (x : ℕ) → x ≡ get_or s (p + 5) 0 → ltb x 32 ≡ numbered_mapping_whole s p
  unfolding numbered_mapping_whole
  numbered_target h j b z x ex = cc (eq-eqb n 3 h, lt-ltb k 32 j, lt-ltb 0 (get_or s (p + 4) 0) (omega arith), lt-ltb (get_or s (p + 4) 0) 256 (b (p + 4)))

  pub numbered_short : n < 3 → false ≡ numbered_clause_whole s p
  unfolding numbered_clause_whole
  numbered_short h = cc (lt-leb 3 n h)

  pub numbered_out : 3 ≤ n → 32 ≤ k → false ≡ numbered_clause_whole s p
  unfolding numbered_clause_whole
  numbered_out h j = cc (le-leb 3 n h, le-ltb k 32 j)

  pub numbered_result : 3 ≤ n → k < 32 → (x : ℕ) → x ≡ get_or s (p + 5) 0 → ((i : ℕ) → get_or s i 0 < 256) → ltb 0 x ≡ numbered_clause_whole s p
  unfolding numbered_clause_whole
  numbered_result h j x ex b = go (ltb 0 x) refl
    where
      go : (t : Bool) → ltb 0 x ≡ t → ltb 0 x ≡ numbered_clause_whole s p
      go true e = cc (le-leb 3 n h, lt-ltb k 32 j, lt-ltb (get_or s (p + 5) 0) 256 (b (p + 5)))
      go false e = cc (le-leb 3 n h, lt-ltb k 32 j)

  pub clause_short : n < 2 → false ≡ clause_whole s p
  unfolding clause_whole
  clause_short h = cc (lt-leb 2 n h)

  pub clause_result : 2 ≤ n → ltb k 32 ≡ clause_whole s p
  unfolding clause_whole
  clause_result h = cc (le-leb 2 n h)

-- item_good
module _ (s : List ℕ) (p tag : ℕ) (et : tag ≡ get_or s p 0) where
  pub good_mapping : tag ≡ 0x22 → (x : Bool) → x ≡ mapping_whole s p → x ≡ item_good s p
  unfolding item_good
  good_mapping h x ex = cc (eq-eqb tag 0x22 h)

  module _ (other : tag ≡ 0x22 → ⊥) where
    pub good_clause : tag ≡ 0x23 → (x : Bool) → x ≡ clause_whole s p → x ≡ item_good s p
    unfolding item_good
    good_clause h x ex = cc (ne_eqb tag 0x22 other, eq-eqb tag 0x23 h)

    module _ (third : tag ≡ 0x23 → ⊥) where
      pub good_numbered : tag ≡ 0x28 → (x : Bool) → x ≡ numbered_mapping_whole s p → x ≡ item_good s p
      unfolding item_good
      good_numbered h x ex = cc (ne_eqb tag 0x22 other, ne_eqb tag 0x23 third, eq-eqb tag 0x28 h)

      pub good_numbered_clause : (tag ≡ 0x28 → ⊥) → tag ≡ 0x29 → (x : Bool) → x ≡ numbered_clause_whole s p → x ≡ item_good s p
      unfolding item_good
      good_numbered_clause h i x ex = cc (ne_eqb tag 0x22 other, ne_eqb tag 0x23 third, ne_eqb tag 0x28 h, eq-eqb tag 0x29 i)

      pub good_neither : (tag ≡ 0x28 → ⊥) → (tag ≡ 0x29 → ⊥) → false ≡ item_good s p
      unfolding item_good
      good_neither h i = cc (ne_eqb tag 0x22 other, ne_eqb tag 0x23 third, ne_eqb tag 0x28 h, ne_eqb tag 0x29 i)

-- body_whole
module _ (s : List ℕ) (p : ℕ) where
  pub item_cut : is_whole s p ≡ false → false ≡ item_whole s p
  unfolding item_whole
  item_cut h = rw h

  pub item_is : (e : ℕ) → WholeEnd s p e → (x : Bool) → x ≡ item_good s p → x ≡ item_whole s p
  unfolding item_whole
  item_is e w x ex = rw (end_whole s p e w) ex

-- is_clause
pub clause_tag : (tag : ℕ) → tag ≡ 0x23 → true ≡ is_clause_tag tag
clause_tag tag h = rw h

pub clause_tag_else : (tag : ℕ) → (tag ≡ 0x23 → ⊥) → eqb tag 0x29 ≡ is_clause_tag tag
clause_tag_else tag h = rw (ne_eqb tag 0x23 h)

-- body_whole: a turn
module _ (s : List ℕ) (p : ℕ) (past all : Bool) (inv : items_whole s past (places_from s p) ≡ all) where
  pub items_done : length s ≤ p → true ≡ all
  unfolding items_whole
  items_done h = pass_done (items_whole s past) s p all inv h

  module _ (here : p < length s) (e : ℕ) (ee : e ≡ field_end s p) where
    next : items_whole s past (p ∷ places_from s e) ≡ all
    next = pass_next (items_whole s past) s p all inv e here ee

    module _ (x : Bool) (ex : x ≡ item_whole s p) where
      pub items_broken : x ≡ false → false ≡ all
      unfolding items_whole
      items_broken h = rw (← ex, h) at next

      module _ (good : x ≡ true) (c : Bool) (ec : c ≡ is_clause_tag (get_or s p 0)) where
        pub items_late : past ≡ true → c ≡ false → false ≡ all
        unfolding items_whole
        items_late h i = rw (← ex, good, ← ec, i, h) at next

        pub items_clause : c ≡ true → items_whole s c (places_from s e) ≡ all
        unfolding items_whole
        items_clause i = rw i (rw (← ex, good, ← ec, i) at next)

        pub items_early : past ≡ false → items_whole s c (places_from s e) ≡ all
        unfolding items_whole
        items_early h = let w : items_whole s past (p ∷ places_from s e) ≡ all = next in go c refl (rw (← ex, good, ← ec, h) at w)
          where
            go : (d : Bool) → c ≡ d → (((true && (d || true)) && items_whole s c (places_from s e)) ≡ all) → items_whole s c (places_from s e) ≡ all
            go true q y = y
            go false q y = y
