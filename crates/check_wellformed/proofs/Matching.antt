-- Source productions and clauses side by side: a law for each return of the functions on them, and what they say of
-- the translation.
use Prim.Native.Nat.{ℕ, suc, ◌+◌, ◌-◌, ◌*◌, ◌<◌, ◌≤◌}
use mathlib.Core.Path.{◌≡◌, refl, sym, ap, ◌∙◌}
use mathlib.Core.Logic.{inl, inr, ⊎_elim}
use mathlib.Core.Bool.{Bool, true, false}
use mathlib.Core.List.{List, [], ◌∷◌, ◌++◌, map}
use native.Mathlib.Omega.{arith}
use lib.ListN.{length, get_or}
use Rattle.std.specs.Prelude.{Option, Some, None}
use lib.Dec.{ltb, leb}
use borrow.Author.Tests.{eq-eqb, ne_eqb, lt-ltb, ltb-true, leb-true, leb-false}
use Rattle.format_fields.specs.Lists.{all, concat_map, same_numbers}
use Rattle.format_fields.specs.Fields.{pair_at}
use Rattle.format_fields.specs.Keyed.{rising}
use Rattle.format_fields.specs.Inner.Places.{field_end, is_whole, long_at, places_from, places, key_at, order_at, Skipped}
use Rattle.format_fields.proofs.Truth.{Mem, by_test, and_both, both_and, all_mem, mem_all, mem_append, append_cases, mem_map, map_cases}
use Rattle.format_fields.proofs.Lists.{all_true}
use Rattle.format_fields.proofs.Skips.{all_append}
use Rattle.format_fields.proofs.Keyed.{From, Rising, from_weaken, from_mem, from_rising, rising_from_lem, is_rising}
use Rattle.format_fields.proofs.Places.{places_done, places_next, every_here, every_after}
use Rattle.format_language.specs.Language.{entry_key, production_key}
use Rattle.format_language.specs.Inner.Entries.{entry_whole, entry_at, IsProduction, RisingEntries}
use Rattle.format_language.proofs.Facts.{entry_facts, class_is, production_is, production_here, entries_long}
use Rattle.format_language.proofs.Holds.{holds_entries}
use Rattle.format_language.proofs.Chain.{rising_is}
use Rattle.format_translation.specs.Translation.{Item, mapping, clause, Body, Translation, plain_key, number_of, item_key, number_at, numbers_of}
use Rattle.format_translation.specs.WellFormed.{clauses_fit, code_fits, codes_fit}
use Rattle.format_translation.specs.Inner.Items.{item_whole, item_at, is_clause_tag}
use Rattle.format_translation.proofs.Codec.{rises_parts}
use Rattle.format_translation.proofs.Items.{holds_items, key_is as item-key-is, rising_is as items-rise}
use Rattle.format_translation.proofs.Whole.{item_long, items_long}
use Rattle.check_wellformed.specs.Inner.Ready.{Ready}
use Rattle.check_wellformed.specs.Inner.Tests.{is_clause_at, ClauseAt}
use Rattle.check_wellformed.specs.Inner.Matching.{items_from, orders_from, clause_keys, wanted_keys, wanted_from, keys_match, Sides, Asked, Cleared}
use Rattle.check_wellformed.proofs.Bounds.{Bounded, bounded_at, bounded, item_place, within}
use Rattle.check_wellformed.proofs.Wanted.{wanted_keys_lem}
use Rattle.check_wellformed.proofs.Coded.{clause_at_lem}
use Rattle.check_wellformed.proofs.Mappings.{mapping_at, items_alike}

-- The key of a production, by its place.
production_key_lem : (s : List ℕ) (q : ℕ) → IsProduction s q → key_at 0x11 s q ≡ production_key (get_or s (q + 3) 0) (get_or s (q + 4) 0)
unfolding key_at pair_at
production_key_lem s q w = let i : q + 3 + 1 ≡ q + 4 = omega arith in rw (w.tag, i) refl

-- What holds of all places holds of those that are left.
all_rest : {A : Type 0} (f : A → Bool) (l m : List A) → all f (l ++ m) ≡ true → all f m ≡ true
unfolding all
all_rest f [] m h = h
all_rest f (a ∷ l) m h = all_rest f l m (all_true f a (l ++ m) h).1

all_front : {A : Type 0} (f : A → Bool) (l m : List A) → all f (l ++ m) ≡ true → all f l ≡ true
unfolding all
all_front f [] m h = refl
all_front f (a ∷ l) m h = let w = all_true f a (l ++ m) h in both_and (f a) (all f l) w.0 (all_front f l m w.1)

from_rest : (key : ℕ → ℕ) (n : ℕ) (l m : List ℕ) → From key n (l ++ m) → From key n m
from_rest key n [] m f = f
from_rest key n (a ∷ l) m f =
    let h : n ≤ suc (key a) = omega (arith, f.0) in
    from_rest key n l m (from_weaken key (l ++ m) h f.1)

module _ (tag least : ℕ) (s : List ℕ) (p r : ℕ) (z : Skipped tag least s p r) where
  pub skip_rest : (f : ℕ → Bool) → all f (places_from s p) ≡ true → all f (places_from s r) ≡ true
  skip_rest f h = all_rest f z.before (places_from s r) (rw z.are at h)

  skip_front : (f : ℕ → Bool) → all f (places_from s p) ≡ true → all f z.before ≡ true
  skip_front f h = all_front f z.before (places_from s r) (rw z.are at h)

  pub before_below : (x : ℕ) → Mem x z.before → order_at tag s x < least
  before_below x m = ltb-true _ _ (all_mem (λ x. ltb (order_at tag s x) least) z.before z.below x m)

  rest_mem : (x : ℕ) → Mem x (places_from s r) → Mem x (places_from s p)
  rest_mem x m = rw z.are (mem_append x z.before (places_from s r) (inr m))

  -- An entry whose key is not below is among those that are left.
  mem_rest : (x : ℕ) → Mem x (places_from s p) → least ≤ order_at tag s x → Mem x (places_from s r)
  mem_rest x m h =
      ⊎_elim
      (λ n. absurd (omega (arith, before_below x n)))
      (λ n. n)
      (append_cases x z.before (places_from s r) (rw z.are at m))

  -- Where the keys rise, only keys that are not below are left.
  pub rest_keys : From (order_at tag s) 0 (places_from s p) → From (order_at tag s) least (places_from s r)
  rest_keys g =
      let f = from_rest (order_at tag s) 0 z.before (places_from s r) (rw z.are at g) in
      by_test (leb (length s) r)
      (λ e. rw (places_done s r (leb-true _ _ e)) tt)
      (λ e.
      let h : r < length s = leb-false _ _ e in
      let g = rw (places_next s r h) at f in
      rw (places_next s r h) (z.stops h, g.1))

-- The number that an item gives a kind, by the item's key.
module _ (k : ℕ) where
  number_below : (a : Item) → Bounded a → item_key a < k * 256 → number_at k a ≡ []
  unfolding number_at item_key plain_key number_of
  number_below (mapping s j t) b h =
      let n : s ≡ k → ⊥ = λ e. omega arith in
      rw (ne_eqb s k n)
  number_below (clause r p j c) b h = refl

  number_above : (a : Item) → Bounded a → k * 256 + 256 ≤ item_key a → number_at k a ≡ []
  unfolding number_at item_key plain_key number_of
  number_above (mapping s j t) b h =
      let i = b.1 in
      let n : s ≡ k → ⊥ = λ e. omega arith in
      rw (ne_eqb s k n)
  number_above (clause r p j c) b h = refl

  number_here : (a : Item) → Bounded a → k < 32 → k * 256 ≤ item_key a → item_key a < k * 256 + 256 → number_at k a ≡ (item_key a - k * 256) ∷ []
  unfolding number_at item_key plain_key number_of
  number_here (mapping s j t) b d h g =
      let i = b.1 in
      let n : s ≡ k = omega arith in
      let o : s * 256 + j - k * 256 ≡ j = omega arith in
      rw (eq-eqb s k n, o)
  number_here (clause r p j c) b d h g = absurd (omega arith)

-- The numbers of a kind, from a place on.
module _ (b : List ℕ) (bytes : (i : ℕ) → get_or b i 0 < 256) (k : ℕ) where
  numbers_next : (p : ℕ) → p < length b → numbers_of (items_from b p) k ≡ number_at k (item_at b p) ++ numbers_of (items_from b (field_end b p)) k
  unfolding numbers_of items_from concat_map
  numbers_next p h = rw (places_next b p h)

  numbers_done : (p : ℕ) → length b ≤ p → numbers_of (items_from b p) k ≡ []
  unfolding numbers_of items_from concat_map
  numbers_done p h = rw (places_done b p h)

  none_above : (l : List ℕ) → all (item_whole b) l ≡ true → (n : ℕ) → From (order_at 0x22 b) n l → k * 256 + 256 ≤ n → numbers_of (map (item_at b) l) k ≡ []
  unfolding numbers_of concat_map
  none_above [] w n f h = refl
  none_above (x ∷ l) w n f h =
      let v = all_true (item_whole b) x l w in
      let g = f.0 in
      let e = item-key-is b x v.0 in
      rw (number_above k (item_at b x) (bounded_at b bytes x v.0) (omega arith)) (none_above l v.1 (suc (order_at 0x22 b x)) f.1 (omega arith))

  skip_numbers : (l m : List ℕ) → all (item_whole b) l ≡ true → ((x : ℕ) → Mem x l → order_at 0x22 b x < k * 256)
      → numbers_of (map (item_at b) (l ++ m)) k ≡ numbers_of (map (item_at b) m) k
  unfolding numbers_of concat_map
  skip_numbers [] m w h = refl
  skip_numbers (x ∷ l) m w h =
      let v = all_true (item_whole b) x l w in
      let e = item-key-is b x v.0 in
      let g = h x (inl refl) in
      rw (number_below k (item_at b x) (bounded_at b bytes x v.0) (omega arith)) (skip_numbers l m v.1 (λ y q. h y (inr q)))

  numbers_skip : (p r least : ℕ) → Skipped 0x22 least b p r → least ≤ k * 256 → all (item_whole b) (places_from b p) ≡ true
      → numbers_of (items_from b p) k ≡ numbers_of (items_from b r) k
  unfolding items_from
  numbers_skip p r least z h w =
      ap (λ (l : List ℕ). numbers_of (map (item_at b) l) k) z.are
      ∙ skip_numbers z.before (places_from b r) (skip_front 0x22 least b p r z (item_whole b) w)
      (λ x m. omega (arith, before_below 0x22 least b p r z x m))

-- Whole items lie in the bytes.
pub items_whole_lem : (b : List ℕ) (l : List ℕ) → all (item_whole b) l ≡ true → all (is_whole b) l ≡ true
unfolding item_whole
items_whole_lem b l h = mem_all (is_whole b) l (λ x m. (and_both (is_whole b x) _ (all_mem (item_whole b) l h x m)).0)

whole_inside : (b : List ℕ) (p e : ℕ) → item_whole b p ≡ true → e ≡ field_end b p → e ≤ length b
unfolding item_whole is_whole
whole_inside b p e w ee = rw ee (leb-true _ _ (and_both (leb (field_end b p) (length b)) _ w).0)

-- clauses_end: what was asked for from the start is what is asked for from `at` and `to` on.
pub record Clearing (b : List ℕ) (m kind key p at to : ℕ) : Type 0 where
  pub asked : Asked b at kind to
  pub same : (l : List ℕ) → same_numbers (clause_keys key (numbers_of (items_from b m) kind) ++ l) (orders_from b p)
      ≡ same_numbers (clause_keys key (numbers_of (items_from b at) kind) ++ l) (orders_from b to)

orders_next : (b : List ℕ) (p : ℕ) → p < length b → orders_from b p ≡ order_at 0x22 b p ∷ orders_from b (field_end b p)
unfolding orders_from
orders_next b p h = rw (places_next b p h)

orders_done : (b : List ℕ) (p : ℕ) → length b ≤ p → orders_from b p ≡ []
unfolding orders_from
orders_done b p h = rw (places_done b p h)

module _ (b : List ℕ) (bytes : (i : ℕ) → get_or b i 0 < 256) (m kind key p at to : ℕ) (z : Clearing b m kind key p at to) where
  clear_none : numbers_of (items_from b at) kind ≡ [] → Cleared b m kind key p (Some to)
  unfolding clause_keys
  clear_none e = record {
    missing = λ h. cc;
    there = λ r h l. let i : to ≡ r = cc in rw (← i) (rw e at (z.same l));
    inside = λ r h. let i : to ≡ r = cc in rw (← i) z.asked.inside;
    whole = λ r h. let i : to ≡ r = cc in rw (← i) z.asked.clauses;
  }

  pub clear_done : length b ≤ at → Cleared b m kind key p (Some to)
  clear_done h = clear_none (numbers_done b bytes kind at h)

  module _ (here : at < length b) (order : ℕ) (eo : order ≡ order_at 0x22 b at) where
    order_from : kind * 256 ≤ order_at 0x22 b at
    order_from =
        let f = from_rising (order_at 0x22 b) (kind * 256) (places_from b at) z.asked.rises in
        (rw (places_next b at here) at f).0

    pub order_least : kind * 256 ≤ order
    order_least = rw eo order_from

    pub clear_past : kind * 256 + 256 ≤ order → Cleared b m kind key p (Some to)
    unfolding items_from
    clear_past h =
        let f = from_rising (order_at 0x22 b) (kind * 256) (places_from b at) z.asked.rises in
        let g = rw (places_next b at here) at f in
        let k : From (order_at 0x22 b) (order_at 0x22 b at) (places_from b at) = rw (places_next b at here) (omega arith, g.1) in
        clear_none (none_above b bytes kind (places_from b at) z.asked.mappings (order_at 0x22 b at) k (omega arith))

    module _ (near : order < kind * 256 + 256) where
      item_in : item_whole b at ≡ true
      item_in = (every_here (item_whole b) b at z.asked.mappings here).0

      numbers_are : numbers_of (items_from b at) kind ≡ (order - kind * 256) ∷ numbers_of (items_from b (field_end b at)) kind
      numbers_are =
          let e = item-key-is b at item_in in
          let h = order_from in
          let d : item_key (item_at b at) - kind * 256 ≡ order - kind * 256 = omega arith in
          numbers_next b bytes kind at here
          ∙ rw (number_here kind (item_at b at) (bounded_at b bytes at item_in) z.asked.below (omega arith) (omega arith), d) refl

      -- What is asked for next.
      turn : (l : List ℕ) → same_numbers (clause_keys key (numbers_of (items_from b m) kind) ++ l) (orders_from b p)
          ≡ same_numbers ((key * 256 + (order - kind * 256)) ∷ (clause_keys key (numbers_of (items_from b (field_end b at)) kind) ++ l)) (orders_from b to)
      unfolding clause_keys
      turn l = rw numbers_are at (z.same l)

      missing_all : ((l : List ℕ) → same_numbers (clause_keys key (numbers_of (items_from b m) kind) ++ l) (orders_from b p) ≡ false)
          → Cleared b m kind key p None
      missing_all h = record {
        missing = λ i l. h l;
        there = λ e i. cc;
        inside = λ e i. cc;
        whole = λ e i. cc;
      }

      pub clear_short : length b ≤ to → Cleared b m kind key p None
      unfolding same_numbers
      clear_short h = missing_all (λ l. turn l ∙ rw (orders_done b to h))

      module _ (there : to < length b) (other : ℕ) (et : other ≡ order_at 0x22 b to) where
        pub clear_other : (other ≡ key * 256 + (order - kind * 256) → ⊥) → Cleared b m kind key p None
        unfolding same_numbers
        clear_other h =
            let n : key * 256 + (order - kind * 256) ≡ order_at 0x22 b to → ⊥ = λ d. h (et ∙ sym d) in
            missing_all (λ l. turn l ∙ rw (orders_next b to there, ne_eqb _ _ n))

        pub clear_next : other ≡ key * 256 + (order - kind * 256) → (d e : ℕ) → d ≡ field_end b at → e ≡ field_end b to
            → Clearing b m kind key p d e
        unfolding same_numbers
        clear_next h d e ed ee =
            let n : key * 256 + (order - kind * 256) ≡ order_at 0x22 b to = sym h ∙ et in
            let f = from_rising (order_at 0x22 b) (kind * 256) (places_from b at) z.asked.rises in
            let g = rw (places_next b at here) at f in
            let i : kind * 256 ≤ suc (order_at 0x22 b at) = omega (arith, order_from) in
            let w = every_here (item_whole b) b to z.asked.clauses there in
            record {
              asked = record {
                below = z.asked.below;
                mappings = every_after (item_whole b) b at d ed z.asked.mappings here;
                rises = rw ed (rising_from_lem (order_at 0x22 b) (kind * 256) (places_from b (field_end b at)) (from_weaken (order_at 0x22 b) (places_from b (field_end b at)) i g.1));
                clauses = every_after (item_whole b) b to e ee z.asked.clauses there;
                inside = whole_inside b to e w.0 ee;
              };
              same = λ l. turn l ∙ rw (orders_next b to there, eq-eqb _ _ n, ed, ee);
            }

-- clauses_match: a walk over both that has come to `from`, `to` and m.
pub record Walk (s : List ℕ) (q : ℕ) (b : List ℕ) (p from to m : ℕ) : Type 0 where
  pub least : ℕ
  pub entries : all (entry_whole s) (places_from s from) ≡ true
  pub productions : From (key_at 0x11 s) (32 + least * 256) (places_from s from)
  pub mappings : all (item_whole b) (places_from b m) ≡ true
  pub rises : From (order_at 0x22 b) 0 (places_from b m)
  pub ahead : (k : ℕ) → least ≤ k → numbers_of (items_from b m) k ≡ numbers_of (items_from b 0) k
  pub clauses : all (item_whole b) (places_from b to) ≡ true
  pub inside : to ≤ length b
  pub match : same_numbers (wanted_from s from (items_from b 0)) (orders_from b to) ≡ keys_match s q b p

pub walk_start : (s : List ℕ) (q : ℕ) (b : List ℕ) (p : ℕ) → Sides s q b p → Walk s q b p q p 0
unfolding keys_match
walk_start s q b p z = record {
  least = 0;
  entries = z.entries;
  productions = from_rising (key_at 0x11 s) 32 (places_from s q) z.productions;
  mappings = z.items;
  rises = is_rising (order_at 0x22 b) (places b) z.rises;
  ahead = λ k h. refl;
  clauses = z.clauses;
  inside = z.inside;
  match = refl;
}

wanted_next : (s : List ℕ) (q : ℕ) (m : Body) → q < length s → wanted_from s q m ≡ wanted_keys m (entry_at s q) ++ wanted_from s (field_end s q) m
unfolding wanted_from concat_map
wanted_next s q m h = rw (places_next s q h)

wanted_done : (s : List ℕ) (q : ℕ) (m : Body) → length s ≤ q → wanted_from s q m ≡ []
unfolding wanted_from concat_map
wanted_done s q m h = rw (places_done s q h)

module _ (s : List ℕ) (q : ℕ) (b : List ℕ) (p from to m : ℕ) (z : Walk s q b p from to m) where
  -- The items that are searched have their first five bytes.
  pub walk_long : all (long_at b) (places_from b m) ≡ true
  unfolding long_at
  walk_long = mem_all _ (places_from b m) (λ x k. lt-ltb _ _ (item_long b x (all_mem (item_whole b) (places_from b m) z.mappings x k)))

  pub walk_done : length s ≤ from → leb (length b) to ≡ keys_match s q b p
  unfolding same_numbers
  walk_done h =
      by_test (leb (length b) to)
      (λ e. e ∙ (rw (wanted_done s from (items_from b 0) h, orders_done b to (leb-true _ _ e)) at z.match))
      (λ e. e ∙ (rw (wanted_done s from (items_from b 0) h, orders_next b to (leb-false _ _ e)) at z.match))

  module _ (source_bytes_lem : (i : ℕ) → get_or s i 0 < 256) (bytes : (i : ℕ) → get_or b i 0 < 256) (here : from < length s) where
    entry_in : (entry_whole s from ≡ true) × (32 + z.least * 256 ≤ key_at 0x11 s from) × From (key_at 0x11 s) (suc (key_at 0x11 s from)) (places_from s (field_end s from))
    entry_in =
        let g = rw (places_next s from here) at z.productions in
        ((every_here (entry_whole s) s from z.entries here).0, g.0, g.1)

    pub is_production : IsProduction s from
    is_production = let e = entry_in in production_here s from e.0 (omega (arith, e.1))

    key_of : key_at 0x11 s from ≡ production_key (get_or s (from + 3) 0) (get_or s (from + 4) 0)
    key_of = production_key_lem s from is_production

    module _ (kind : ℕ) (ek : kind ≡ get_or s (from + 3) 0) (n : ℕ) (sk : Skipped 0x22 (kind * 256) b m n) where
      kind_least : z.least ≤ kind
      kind_least = let e = entry_in in omega (arith, e.1, key_of, source_bytes_lem (from + 4), ek)

      pub asks : Asked b n kind to
      asks = record {
        below = rw ek is_production.kind;
        mappings = skip_rest 0x22 (kind * 256) b m n sk (item_whole b) z.mappings;
        rises = rising_from_lem (order_at 0x22 b) (kind * 256) (places_from b n) (rest_keys 0x22 (kind * 256) b m n sk z.rises);
        clauses = z.clauses;
        inside = z.inside;
      }

      module _ (key : ℕ) (e-key : key ≡ key_at 0x11 s from) {o : Option ℕ} (cl : Cleared b n kind key to o) where
        -- What the production asks for.
        asked_for : wanted_from s from (items_from b 0) ≡ clause_keys key (numbers_of (items_from b n) kind) ++ wanted_from s (field_end s from) (items_from b 0)
        unfolding wanted_keys
        asked_for =
            let i : numbers_of (items_from b n) kind ≡ numbers_of (items_from b 0) (get_or s (from + 3) 0) =
            sym (numbers_skip b bytes kind m n (kind * 256) sk (omega arith) z.mappings) ∙ (z.ahead kind kind_least ∙ ap (numbers_of (items_from b 0)) ek) in
            wanted_next s from (items_from b 0) here
            ∙ rw (production_is s from is_production, i, e-key, key_of) refl

        pub walk_missing : o ≡ None → false ≡ keys_match s q b p
        walk_missing h = sym (cl.missing h (wanted_from s (field_end s from) (items_from b 0))) ∙ (rw asked_for at z.match)

        pub walk_next : (r : ℕ) → o ≡ Some r → (e : ℕ) → e ≡ field_end s from → Walk s q b p e r n
        walk_next r h e ee =
            let y = entry_in in
            let i : 32 + kind * 256 ≤ suc (key_at 0x11 s from) = omega (arith, key_of, ek) in
            record {
              least = kind;
              entries = every_after (entry_whole s) s from e ee z.entries here;
              productions = rw ee (from_weaken (key_at 0x11 s) (places_from s (field_end s from)) i y.2);
              mappings = skip_rest 0x22 (kind * 256) b m n sk (item_whole b) z.mappings;
              rises = from_weaken (order_at 0x22 b) (places_from b n) (omega arith) (rest_keys 0x22 (kind * 256) b m n sk z.rises);
              ahead = λ k l. sym (numbers_skip b bytes k m n (kind * 256) sk (omega arith) z.mappings) ∙ z.ahead k (omega (arith, kind_least));
              clauses = cl.whole r h;
              inside = cl.inside r h;
              match = rw ee (sym (cl.there r h (wanted_from s (field_end s from) (items_from b 0))) ∙ (rw asked_for at z.match));
            }

-- What the walk says of the translation.
concat_skip : (g : ℕ → List ℕ) (l m : List ℕ) → ((x : ℕ) → Mem x l → g x ≡ []) → concat_map g (l ++ m) ≡ concat_map g m
unfolding concat_map
concat_skip g [] m h = refl
concat_skip g (x ∷ l) m h = rw (h x (inl refl)) (concat_skip g l m (λ y q. h y (inr q)))

concat_map_lem : {A : Type 0} (g : A → List ℕ) (at : ℕ → A) (l : List ℕ) → concat_map (λ x. g (at x)) l ≡ concat_map g (map at l)
unfolding concat_map
concat_map_lem g at [] = refl
concat_map_lem g at (x ∷ l) = ap (λ (t : List ℕ). g (at x) ++ t) (concat_map_lem g at l)

-- The order of a language's entries is that of their keys.
pub order_key : (s : List ℕ) (x : ℕ) → order_at 0x11 s x ≡ key_at 0x11 s x
unfolding order_at
order_key s x = refl

map_keys : (key : ℕ → ℕ) (n : ℕ) (l : List ℕ) → From key n l → From (λ (k : ℕ). k) n (map key l)
map_keys key n [] f = tt
map_keys key n (x ∷ l) f = (f.0, map_keys key (suc (key x)) l f.1)

module _ (s t it b u : List ℕ) (f : Translation) (z : Ready s t it b u f)
    (source_bytes_lem : (i : ℕ) → get_or s i 0 < 256) (bytes : (i : ℕ) → get_or b i 0 < 256) where
  pub body_order : rising (order_at 0x22 b) (places b) ≡ true
  body_order = items-rise b f.body (holds_items b f.body z.body) ∙ (rises_parts f z.rises).2

  items_are : all (item_whole b) (places b) ≡ true
  items_are = (holds_items b f.body z.body).whole

  entries_are : all (entry_whole s) (places s) ≡ true
  entries_are = (holds_entries s f.source z.source).whole

  pub rising_entries : RisingEntries s
  rising_entries = record {
    whole = entries_are;
    rises = rising_is s f.source (holds_entries s f.source z.source) ∙ (rises_parts f z.rises).0;
  }

  source_rises : Rising (key_at 0x11 s) (places s)
  source_rises = is_rising (key_at 0x11 s) (places s) rising_entries.rises

  pub source_long : all (long_at s) (places s) ≡ true
  source_long = entries_long s entries_are

  pub body_long : all (long_at b) (places b) ≡ true
  body_long = items_long b items_are

  module _ (q p : ℕ) (x : Skipped 0x11 32 s 0 q) (y : Skipped 0x22 8192 b 0 p) where
    clause_orders : From (order_at 0x22 b) 8192 (places_from b p)
    clause_orders = rest_keys 0x22 8192 b 0 p y (is_rising (order_at 0x22 b) (places b) body_order)

    pub sides : Sides s q b p
    unfolding order_at key_at
    sides = record {
      entries = skip_rest 0x11 32 s 0 q x (entry_whole s) entries_are;
      productions = rising_from_lem (key_at 0x11 s) 32 (places_from s q) (rest_keys 0x11 32 s 0 q x source_rises);
      items = items_are;
      rises = body_order;
      clauses = skip_rest 0x22 8192 b 0 p y (item_whole b) items_are;
      inside = y.inside (items_whole_lem b (places b) items_are) (omega arith);
    }

    -- An item whose key is that of a clause is one.
    clause_tag : (x : ℕ) → item_whole b x ≡ true → 8192 ≤ order_at 0x22 b x → is_clause_tag (get_or b x 0) ≡ true
    unfolding item_key plain_key number_of
    clause_tag x w h =
        by_test (is_clause_tag (get_or b x 0))
        (λ c. c)
        (λ c.
        let (m, j, e) = mapping_at b x w c in
        let v : Bounded (mapping (get_or b (x + 3) 0) j (get_or b (field_end b x - 1) 0)) = rw e at (bounded_at b bytes x w) in
        let i : item_key (mapping (get_or b (x + 3) 0) j (get_or b (field_end b x - 1) 0)) ≡ order_at 0x22 b x = rw e at (item-key-is b x w) in
        absurd (omega (arith, v.0, v.1, i, h)))

    pub clauses_are : all (is_clause_at b) (places_from b p) ≡ true
    unfolding is_clause_at
    clauses_are =
        mem_all (is_clause_at b) (places_from b p) (λ x m.
        let w = all_mem (item_whole b) (places_from b p) (skip_rest 0x22 8192 b 0 p y (item_whole b) items_are) x m in
        both_and _ _ w (clause_tag x w (from_mem (order_at 0x22 b) (places_from b p) clause_orders m)))

    -- The keys of the clauses.
    is_key : (r n j : ℕ) (c : List ℕ) → Mem (clause r n j c) f.body → Mem (production_key r n * 256 + j) (orders_from b p)
    unfolding orders_from item_key plain_key number_of
    is_key r n j c m =
        let (x, k, e, w) = item_place b bytes f.body z.body (clause r n j c) m in
        let i : item_key (clause r n j c) ≡ order_at 0x22 b x = rw (← e) at (item-key-is b x w) in
        rw i (mem_map (order_at 0x22 b) x (places_from b p) (mem_rest 0x22 8192 b 0 p y x k (omega arith)))

    key_is : (k : ℕ) → Mem k (orders_from b p)
        → (r : ℕ) × (n : ℕ) × (j : ℕ) × (c : List ℕ) × Mem (clause r n j c) f.body × (k ≡ production_key r n * 256 + j)
    unfolding orders_from item_key plain_key number_of
    key_is k m =
        let (x, l, e) = map_cases (order_at 0x22 b) k (places_from b p) m in
        let w = all_mem (item_whole b) (places_from b p) (skip_rest 0x22 8192 b 0 p y (item_whole b) items_are) x l in
        let a : ClauseAt b x = clause_at_lem b x (all_mem (is_clause_at b) (places_from b p) clauses_are x l) in
        let q = mem_map (item_at b) x (places b) (rest_mem 0x22 8192 b 0 p y x l) in
        let o = rw ((holds_items b f.body z.body).items, a.is) at q in
        (_, _, _, _, o, e ∙ (sym (item-key-is b x w) ∙ rw a.is refl))

    -- What the entries ask for.
    wanted_are : wanted_from s q (items_from b 0) ≡ concat_map (wanted_keys f.body) f.source
    unfolding wanted_from items_from wanted_keys
    wanted_are =
        let h = holds_entries s f.source z.source in
        rw (holds_items b f.body z.body).items
        (sym (concat_skip (λ v. wanted_keys f.body (entry_at s v)) x.before (places_from s q) classes)
        ∙ (ap (concat_map (λ v. wanted_keys f.body (entry_at s v))) (sym x.are)
        ∙ (concat_map_lem (wanted_keys f.body) (entry_at s) (places s) ∙ ap (concat_map (wanted_keys f.body)) h.entries)))
      where
        classes : (v : ℕ) → Mem v x.before → wanted_keys f.body (entry_at s v) ≡ []
        classes v m =
            let w = all_mem (entry_whole s) x.before (skip_front 0x11 32 s 0 q x (entry_whole s) entries_are) v m in
            let l = before_below 0x11 32 s 0 q x v m in
            ⊎_elim
            (λ c. rw (class_is s v c) refl)
            (λ c. absurd (omega (arith, l, order_key s v, production_key_lem s v c)))
            (entry_facts s v w)

    -- What `clauses_match` answers.
    pub match_is : keys_match s q b p ≡ clauses_fit f
    unfolding keys_match orders_from
    match_is =
        rw wanted_are
        (wanted_keys_lem f (is_rising entry_key f.source (rises_parts f z.rises).0) (is_rising item_key f.body (rises_parts f z.rises).2)
        (within s source_bytes_lem f.source z.source) (bounded b bytes f.body z.body)
        (orders_from b p) (from_weaken (λ (v : ℕ). v) (orders_from b p) (omega arith) (map_keys (order_at 0x22 b) 8192 (places_from b p) clause_orders))
        is_key key_is)

    -- What `codes_typed` answers.
    pub codes_are : all (λ x. code_fits f (item_at b x)) (places_from b p) ≡ codes_fit f
    unfolding codes_fit code_fits item_key plain_key number_of is_clause_at
    codes_are =
        sym (ap (all (λ x. code_fits f (item_at b x))) y.are
        ∙ all_append (λ x. code_fits f (item_at b x)) y.before (places_from b p) (mem_all _ y.before mappings_fit))
        ∙ items_alike b f.body z.body (λ x. code_fits f (item_at b x)) (code_fits f) (λ x w. refl)
      where
        mappings_fit : (v : ℕ) → Mem v y.before → code_fits f (item_at b v) ≡ true
        mappings_fit v m =
            let w = all_mem (item_whole b) y.before (skip_front 0x22 8192 b 0 p y (item_whole b) items_are) v m in
            let l = before_below 0x22 8192 b 0 p y v m in
            by_test (is_clause_tag (get_or b v 0))
            (λ c.
            let a : ClauseAt b v = clause_at_lem b v (both_and (item_whole b v) (is_clause_tag (get_or b v 0)) w c) in
            let i = rw a.is at (item-key-is b v w) in
            absurd (omega (arith, l, i)))
            (λ c. rw (mapping_at b v w c).2 refl)
