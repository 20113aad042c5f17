-- A walk along the source beside the items of a body: both stand by rising key, so that the entry of an item's key, if there is
-- one, is the first whose key is not below it.
use Prim.Native.Nat.{ℕ, suc, ◌+◌, ◌-◌, ◌*◌, ◌<◌, ◌≤◌}
use mathlib.Core.Path.{◌≡◌, refl, sym, ap, ◌∙◌}
use mathlib.Core.Logic.{inl, inr, ⊎_elim}
use mathlib.Core.Bool.{true, false}
use mathlib.Core.List.{List, [], ◌∷◌, ◌++◌, append_assoc}
use native.Mathlib.Omega.{arith}
use lib.ListN.{length, get_or, replicate, length-replicate}
use Rattle.std.specs.Prelude.{Some, None}
use lib.Dec.{ltb}
use borrow.Author.Tests.{eq-eqb, ne_eqb, lt-ltb}
use Rattle.format_fields.specs.Lists.{all}
use Rattle.format_fields.specs.Keyed.{rising}
use Rattle.format_fields.specs.Inner.Places.{field_end, is_whole, long_at, places_from, places, key_at, order_at, slot_at, Skipped}
use Rattle.format_fields.proofs.Truth.{Mem, and_both, all_mem, mem_all, mem_append, append_cases}
use Rattle.format_fields.proofs.Keyed.{From, from_weaken, from_mem, is_rising}
use Rattle.format_fields.proofs.Places.{places_done, places_next, every_here}
use Rattle.format_language.specs.Inner.Entries.{entry_whole, RisingEntries}
use Rattle.format_language.proofs.Facts.{entry_facts, entry_kind}
use Rattle.tree_reader.proofs.Placed.{place_of, puts_place}
use Rattle.tree_reader.proofs.Lookup.{zeros}
use Rattle.format_translation.specs.Translation.{mapping, item_key, plain_key, number_of}
use Rattle.format_translation.specs.Inner.Items.{item_whole, is_clause_tag}
use Rattle.format_translation.proofs.Items.{key_is as item-key-is}
use Rattle.check_wellformed.specs.Inner.Ready.{index_of}
use Rattle.check_wellformed.specs.Inner.Tests.{place_before, is_clause_at, ClauseAt}
use Rattle.check_wellformed.proofs.Bounds.{Bounded, bounded_at}
use Rattle.check_wellformed.proofs.Coded.{clause_at_lem, clause_key}
use Rattle.check_wellformed.proofs.Mappings.{mapping_at}
use Rattle.check_wellformed.proofs.Matching.{order_key, skip_rest, before_below, rest_keys}

-- The key of an entry is that of the index.
slot_key : (s : List ℕ) (x : ℕ) → entry_whole s x ≡ true → slot_at 0x11 s x ≡ key_at 0x11 s x
unfolding slot_at
slot_key s x w = ⊎_elim (λ c. rw c.tag refl) (λ c. rw c.tag refl) (entry_facts s x w)

-- Entries of other keys are passed over.
place_past : (s : List ℕ) (j : ℕ) (l m : List ℕ) → ((x : ℕ) → Mem x l → slot_at 0x11 s x ≡ j → ⊥) → place_of 0x11 s j (l ++ m) ≡ place_of 0x11 s j m
unfolding place_of
place_past s j [] m h = refl
place_past s j (x ∷ l) m h = rw (ne_eqb _ _ (h x (inl refl))) (place_past s j l m (λ y k. h y (inr k)))

place_none : (s : List ℕ) (j : ℕ) (l : List ℕ) → ((x : ℕ) → Mem x l → slot_at 0x11 s x ≡ j → ⊥) → place_of 0x11 s j l ≡ 0
unfolding place_of
place_none s j [] h = refl
place_none s j (x ∷ l) h = rw (ne_eqb _ _ (h x (inl refl))) (place_none s j l (λ y k. h y (inr k)))

orders_rise : (s : List ℕ) → RisingEntries s → From (order_at 0x11 s) 0 (places s)
unfolding order_at key_at
orders_rise s r = is_rising (key_at 0x11 s) (places s) r.rises

-- place_of
module _ (s : List ℕ) (r : RisingEntries s) (key q : ℕ) (z : Skipped 0x11 key s 0 q) (below : key < 8224) where
  looked_up : get_or (index_of s) key 0 ≡ place_of 0x11 s key (places_from s q)
  unfolding index_of
  looked_up =
      puts_place 0x11 s (places s) (replicate 8224 0) key (rw (length-replicate {A = ℕ} 8224 0) below) (zeros 8224 key)
      ∙ (ap (place_of 0x11 s key) z.are
      ∙ place_past s key z.before (places_from s q) (λ x m e.
      let w = all_mem (entry_whole s) (places s) r.whole x (rw z.are (mem_append x z.before (places_from s q) (inl m))) in
      omega (arith, before_below 0x11 key s 0 q z x m, order_key s x, slot_key s x w, e)))

  pub place_end : length s ≤ q → None ≡ place_before (get_or (index_of s) key 0)
  unfolding place_of
  place_end h = ap place_before (sym (looked_up ∙ ap (place_of 0x11 s key) (places_done s q h)))

  module _ (here : q < length s) where
    whole_from : all (entry_whole s) (places_from s q) ≡ true
    whole_from = skip_rest 0x11 key s 0 q z (entry_whole s) r.whole

    whole_here : entry_whole s q ≡ true
    whole_here = (every_here (entry_whole s) s q whole_from here).0

    pub place_long : q + 4 < length s
    place_long = (entry_kind s q whole_here).0

    module _ (k : ℕ) (ek : k ≡ key_at 0x11 s q) where
      pub place_here : k ≡ key → Some q ≡ place_before (get_or (index_of s) key 0)
      unfolding place_of
      place_here h =
          let e : slot_at 0x11 s q ≡ key = slot_key s q whole_here ∙ (sym ek ∙ h) in
          let i : q + 1 ≡ suc q = omega arith in
          let d : get_or (index_of s) key 0 ≡ suc q = looked_up ∙ rw (places_next s q here, eq-eqb _ _ e, i) refl in
          sym (ap place_before d)

      pub place_other : (k ≡ key → ⊥) → None ≡ place_before (get_or (index_of s) key 0)
      place_other h = ap place_before (sym (looked_up ∙ place_none s key (places_from s q) none_of))
        where
          none_of : (x : ℕ) → Mem x (places_from s q) → slot_at 0x11 s x ≡ key → ⊥
          none_of x m e =
              let g = rw (places_next s q here) at (rest_keys 0x11 key s 0 q z (orders_rise s r)) in
              let n : key < key_at 0x11 s q = omega (arith, z.stops here, order_key s q, h, ek) in
              let g' : From (order_at 0x11 s) (suc key) (places_from s q) = rw (places_next s q here) (omega (arith, order_key s q), g.1) in
              let w = all_mem (entry_whole s) (places_from s q) whole_from x m in
              omega (arith, from_mem (order_at 0x11 s) (places_from s q) g' m, order_key s x, slot_key s x w, e)

-- The entries of the source before `from` have keys below those of the items from `to` on.
pub record Along (s : List ℕ) (from : ℕ) (b : List ℕ) (to : ℕ) : Type 0 where
  pub least : ℕ
  pub behind : Skipped 0x11 least s 0 from
  pub rises : From (order_at 0x22 b) (least * 256) (places_from b to)

-- Where the walk starts: at the first mapping, and at the first clause.
pub along_first : (s b : List ℕ) → rising (order_at 0x22 b) (places b) ≡ true → Along s 0 b 0
unfolding all
along_first s b h = record {
  least = 0;
  behind = record { before = []; are = refl; below = refl; stops = λ i. omega arith; inside = λ w i. i };
  rises = is_rising (order_at 0x22 b) (places b) h;
}

pub along_clauses : (s b : List ℕ) (q p : ℕ) → Skipped 0x11 32 s 0 q → Skipped 0x22 8192 b 0 p → rising (order_at 0x22 b) (places b) ≡ true → Along s q b p
along_clauses s b q p x y h = record {
  least = 32;
  behind = x;
  rises = rest_keys 0x22 8192 b 0 p y (is_rising (order_at 0x22 b) (places b) h);
}

-- The key of the item at p is that of an entry, with a number.
record KeyOf (b : List ℕ) (p key : ℕ) : Type 0 where
  pub from : key * 256 ≤ order_at 0x22 b p
  pub near : order_at 0x22 b p < key * 256 + 256

key_clause : (b : List ℕ) (p : ℕ) → is_clause_at b p ≡ true → (key : ℕ) → key ≡ key_at 0x22 b p → KeyOf b p key
unfolding item_key plain_key number_of is_clause_at
key_clause b p h key ek =
    let c : ClauseAt b p = clause_at_lem b p h in
    let i = rw c.is at (item-key-is b p (and_both (item_whole b p) _ h).0) in
    let k = clause_key b p c in
    let n = c.number in
    record { from = omega arith; near = omega arith }

key_mapping : (b : List ℕ) → ((i : ℕ) → get_or b i 0 < 256) → (p : ℕ) → item_whole b p ≡ true → is_clause_tag (get_or b p 0) ≡ false
    → (key : ℕ) → key ≡ get_or b (p + 3) 0 → KeyOf b p key
unfolding item_key plain_key number_of
key_mapping b bytes p w t key ek =
    let (m, j, e) = mapping_at b p w t in
    let v : Bounded (mapping (get_or b (p + 3) 0) j (get_or b (field_end b p - 1) 0)) = rw e at (bounded_at b bytes p w) in
    let i : item_key (mapping (get_or b (p + 3) 0) j (get_or b (field_end b p - 1) 0)) ≡ order_at 0x22 b p = rw e at (item-key-is b p w) in
    let n = v.1 in
    record { from = omega arith; near = omega arith }

pub skipped_by : (s : List ℕ) (q n key : ℕ) → key ≡ n → Skipped 0x11 n s 0 q → Skipped 0x11 key s 0 q
skipped_by s q n key e z = rw e z

module _ (s : List ℕ) (from : ℕ) (b : List ℕ) (to : ℕ) (z : Along s from b to) where
  pub along_long : all (long_at s) (places s) ≡ true → all (long_at s) (places_from s from) ≡ true
  along_long h = skip_rest 0x11 z.least s 0 from z.behind (long_at s) h

  module _ (here : to < length b) (key : ℕ) (k : KeyOf b to key) (r : ℕ) (x : Skipped 0x11 key s from r) where
    key_least : z.least ≤ key
    key_least = let g = rw (places_next b to here) at z.rises in omega (arith, g.0, k.near)

    along_here : Skipped 0x11 key s 0 r
    along_here =
        let y = z.behind in
        record {
          before = y.before ++ x.before;
          are = y.are ∙ (ap (λ (l : List ℕ). y.before ++ l) x.are ∙ sym (append_assoc y.before x.before (places_from s r)));
          below = mem_all (λ v. ltb (order_at 0x11 s v) key) (y.before ++ x.before) (λ v m.
              ⊎_elim
              (λ n. lt-ltb (order_at 0x11 s v) key (omega (arith, before_below 0x11 z.least s 0 from y v n, key_least)))
              (λ n. lt-ltb (order_at 0x11 s v) key (before_below 0x11 key s from r x v n))
              (append_cases v y.before x.before m));
          stops = x.stops;
          inside = λ w i. x.inside (skip_rest 0x11 z.least s 0 from y (is_whole s) w) (y.inside w i);
        }

    along_next : (e : ℕ) → e ≡ field_end b to → Along s r b e
    along_next e ee =
        let g = rw (places_next b to here) at z.rises in
        record {
          least = key;
          behind = along_here;
          rises = rw ee (from_weaken (order_at 0x22 b) (places_from b (field_end b to)) (omega (arith, k.from)) g.1);
        }

  -- codes_typed
  module _ (here : to < length b) (w : is_clause_at b to ≡ true) (key : ℕ) (ek : key ≡ key_at 0x22 b to) (r : ℕ) (x : Skipped 0x11 key s from r) where
    pub clause_beside : Skipped 0x11 (key_at 0x22 b to) s 0 r
    clause_beside = skipped_by s r key (key_at 0x22 b to) (sym ek) (along_here here key (key_clause b to w key ek) r x)

    pub clause_next : (e : ℕ) → e ≡ field_end b to → Along s r b e
    clause_next = along_next here key (key_clause b to w key ek) r x

  -- mappings_fit
  module _ (bytes : (i : ℕ) → get_or b i 0 < 256) (here : to < length b) (w : item_whole b to ≡ true) (t : is_clause_tag (get_or b to 0) ≡ false)
      (key : ℕ) (ek : key ≡ get_or b (to + 3) 0) (r : ℕ) (x : Skipped 0x11 key s from r) where
    pub mapping_beside : Skipped 0x11 (get_or b (to + 3) 0) s 0 r
    mapping_beside = skipped_by s r key (get_or b (to + 3) 0) (sym ek) (along_here here key (key_mapping b bytes to w t key ek) r x)

    pub mapping_next : (e : ℕ) → e ≡ field_end b to → Along s r b e
    mapping_next = along_next here key (key_mapping b bytes to w t key ek) r x
