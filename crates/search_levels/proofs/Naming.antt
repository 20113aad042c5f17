-- The names of a kind along the file: a law for each return of `name_behind`, and for the walks over names.
use Prim.Native.Nat.{ℕ, zero, suc, ◌+◌, ◌-◌, ◌≤◌, ◌<◌}
use mathlib.Core.Path.{◌≡◌, refl, ap, sym, ◌∙◌}
use mathlib.Core.Logic.{◌⊎◌, inl, inr, ⊎_elim}
use mathlib.Core.Bool.{true}
use mathlib.Core.List.{List, [], ◌∷◌, ◌++◌}
use native.Mathlib.Omega.{arith}
use Rattle.std.specs.Prelude.{Option as Maybe, None, Some}
use native.Mathlib.Decide.{dec_le}
use lib.Dec.{eqb, leb}
use lib.ListN.{length, get_or}
use borrow.Author.Tests.{eq-eqb, ne_eqb, eqb-true, leb-true, leb-false}
use Rattle.format_fields.specs.Fields.{pair_at}
use Rattle.format_fields.specs.Inner.Places.{field_end, places_in, places_from, places, key_at, slot_at}
use Rattle.format_fields.proofs.Truth.{Mem, by_test, all_mem, mem_append, append_cases}
use Rattle.format_fields.proofs.Keyed.{From, from_mem, is_rising}
use Rattle.format_fields.proofs.Places.{end_past, in_done, in_next, enough, places_done, places_next}
use Rattle.format_language.specs.Language.{production_key}
use Rattle.format_language.specs.Inner.Entries.{entry_whole, IsClass, IsProduction}
use Rattle.format_language.proofs.Facts.{entry_facts, entry_kind}
use Rattle.tree_reader.proofs.Placed.{place_of, puts_place}
use Rattle.tree_reader.proofs.Indexed.{production_key_lem}
use Rattle.search_levels.specs.Inner.Setting.{Filed, Unnamed, Named, IsNamed, up_to}

-- The place of a key is that of an entry that has it.
place_in : (s : List ℕ) (j : ℕ) (l : List ℕ) → 0 < place_of 0x11 s j l → (x : ℕ) × (place_of 0x11 s j l ≡ x + 1) × (slot_at 0x11 s x ≡ j) × Mem x l
unfolding place_of
place_in s j [] h = absurd (omega arith)
place_in s j (x ∷ l) h =
    by_test (eqb (slot_at 0x11 s x) j)
    (λ e. (x, rw (e) refl, eqb-true _ _ e, inl refl))
    (λ e.
    let r = place_in s j l (rw (e) at h) in
    (r.0, rw (e) r.1, r.2, inr r.3))

place_none : (s : List ℕ) (j : ℕ) (l : List ℕ) → ((x : ℕ) → Mem x l → slot_at 0x11 s x ≡ j → ⊥) → place_of 0x11 s j l ≡ 0
unfolding place_of
place_none s j [] h = refl
place_none s j (x ∷ l) h = rw (ne_eqb _ _ (h x (inl refl))) (place_none s j l (λ y k. h y (inr k)))

place_past : (s : List ℕ) (j : ℕ) (l m : List ℕ) → ((x : ℕ) → Mem x l → slot_at 0x11 s x ≡ j → ⊥) → place_of 0x11 s j (l ++ m) ≡ place_of 0x11 s j m
unfolding place_of
place_past s j [] m h = refl
place_past s j (x ∷ l) m h = rw (ne_eqb _ _ (h x (inl refl))) (place_past s j l m (λ y k. h y (inr k)))

place_here : (s : List ℕ) (x : ℕ) (l : List ℕ) → place_of 0x11 s (slot_at 0x11 s x) (x ∷ l) ≡ x + 1
unfolding place_of
place_here s x l = rw (eq-eqb (slot_at 0x11 s x) (slot_at 0x11 s x) refl) refl

-- From a place on, the file goes on with that field.
pub record Splits (s : List ℕ) (l : List ℕ) (x : ℕ) : Type 0 where
  pub before : List ℕ
  pub is : l ≡ before ++ (x ∷ places_from s (field_end s x))

splits : (f : ℕ) (s : List ℕ) (p x : ℕ) → length s - p < f → Mem x (places_in f s p) → Splits s (places_in f s p) x
unfolding places_from
splits zero s p x h m = absurd (omega arith)
splits (suc f) s p x h m =
    by_test (leb (length s) p)
    (λ e. absurd (rw (in_done s p f (leb-true _ _ e)) at m))
    (λ e. let d : p < length s = leb-false _ _ e in
    go d (λ q. splits f s (field_end s p) x (omega (arith, end_past s p)) q) (rw (in_next s p f d) at m))
  where
    go : p < length s → (Mem x (places_in f s (field_end s p)) → Splits s (places_in f s (field_end s p)) x) → (x ≡ p) ⊎ Mem x (places_in f s (field_end s p))
        → Splits s (places_in (suc f) s p) x
    go d on (inl q) = record {
      before = [];
      is = in_next s p f d ∙ (rw q (ap (λ (l : List ℕ). p ∷ l) (enough f (suc (length s)) s (field_end s p) (omega (arith, end_past s p)) (omega (arith, end_past s p)))));
    }
    go d on (inr q) = let r = on q in record { before = p ∷ r.before; is = in_next s p f d ∙ ap (λ (l : List ℕ). p ∷ l) r.is }

-- Keys before it are lower, keys behind it higher.
lower : (key : ℕ → ℕ) (n : ℕ) (l : List ℕ) (x : ℕ) (r : List ℕ) → From key n (l ++ (x ∷ r)) → (y : ℕ) → Mem y l → key y < key x
lower key n (z ∷ l) x r f y (inl e) =
    let m : Mem x (l ++ (x ∷ r)) = mem_append x l (x ∷ r) (inr (inl refl)) in
    let g = from_mem key (l ++ (x ∷ r)) f.1 m in
    rw e (omega arith)
lower key n (z ∷ l) x r f y (inr m) = lower key (suc (key z)) l x r f.1 y m
lower key n [] x r f y x4 = elim x4 [ ]

higher : (key : ℕ → ℕ) (n : ℕ) (l : List ℕ) (x : ℕ) (r : List ℕ) → From key n (l ++ (x ∷ r)) → From key (suc (key x)) r
higher key n [] x r f = f.1
higher key n (z ∷ l) x r f = higher key (suc (key z)) l x r f.1

-- The key of a whole entry, in its index and in the order.
slot_key : (s : List ℕ) (x : ℕ) → entry_whole s x ≡ true → slot_at 0x11 s x ≡ key_at 0x11 s x
unfolding slot_at
slot_key s x w = ⊎_elim (λ c. rw c.tag refl) (λ c. rw c.tag refl) (entry_facts s x w)

class_small : (s : List ℕ) (x : ℕ) → IsClass s x → key_at 0x11 s x < 32
unfolding key_at
class_small s x c = rw (eq-eqb _ _ c.tag) c.kind

module _ (table s : List ℕ) (h : Filed table s) where
  at_key : (j : ℕ) → j < 8224 → get_or table j 0 ≡ place_of 0x11 s j (places s)
  at_key j q = ap (λ (i : ℕ). get_or table i 0) (let z : j ≡ 0 + j = omega arith in z) ∙ (h.built.is j q ∙ puts_place 0x11 s (places s) h.built.zeros j (let z = h.built.long in omega arith) (h.built.zero j))

  rise : From (key_at 0x11 s) 0 (places s)
  rise = is_rising (key_at 0x11 s) (places s) h.rises.rises

  slot_of : (x : ℕ) → Mem x (places s) → slot_at 0x11 s x ≡ key_at 0x11 s x
  slot_of x m = slot_key s x (all_mem (entry_whole s) (places s) h.rises.whole x m)

  -- A field x of the file, and the one behind it.
  module _ (x : ℕ) (here : Mem x (places s)) where
    abbrev key : ℕ
    key = key_at 0x11 s x

    abbrev behind : ℕ
    behind = field_end s x

    parts : Splits s (places s) x
    unfolding places_from
    parts = splits (suc (length s)) s 0 x (omega arith) here

    split_rise : From (key_at 0x11 s) 0 (parts.before ++ (x ∷ places_from s behind))
    split_rise = rw parts.is at rise

    low : (y : ℕ) → Mem y parts.before → key_at 0x11 s y < key
    low y m = lower (key_at 0x11 s) 0 parts.before x (places_from s behind) split_rise y m

    high : From (key_at 0x11 s) (suc key) (places_from s behind)
    high = higher (key_at 0x11 s) 0 parts.before x (places_from s behind) split_rise

    in_all : (y : ℕ) → Mem y parts.before ⊎ Mem y (x ∷ places_from s behind) → Mem y (places s)
    in_all y m = rw parts.is (mem_append y parts.before (x ∷ places_from s behind) m)

    -- No entry has a key between theirs.
    pub between : (j : ℕ) → key < j → (behind < length s → j < key_at 0x11 s behind) → j < 8224 → get_or table j 0 ≡ 0
    between j a b q = at_key j q ∙ place_none s j (places s) none_of
      where
        behind_none : (y : ℕ) → Mem y (places_from s behind) → key_at 0x11 s y ≡ j → ⊥
        behind_none y m e =
            by_test (leb (length s) behind)
            (λ d. rw (places_done s behind (leb-true _ _ d)) at m)
            (λ d.
            let i : behind < length s = leb-false _ _ d in
            let g = rw (places_next s behind i) at high in
            ⊎_elim
            (λ z. let w = ap (key_at 0x11 s) z in let v = b i in omega arith)
            (λ z. let w = from_mem (key_at 0x11 s) (places_from s (field_end s behind)) g.1 z in let v = b i in omega arith)
            (rw (places_next s behind i) at m))

        none_of : (y : ℕ) → Mem y (places s) → slot_at 0x11 s y ≡ j → ⊥
        none_of y m e =
            let k = slot_of y m in
            ⊎_elim
            (λ z. let w = low y z in omega arith)
            (λ z.
            ⊎_elim
            (λ i. let w = ap (key_at 0x11 s) i in omega arith)
            (λ i. behind_none y i (sym k ∙ e))
            z)
            (append_cases y parts.before (x ∷ places_from s behind) (rw parts.is at m))

    module _ (more : behind < length s) where
      pub behind_in : Mem behind (places s)
      behind_in = in_all behind (inr (inr (rw (places_next s behind more) (inl refl))))

      pub behind_whole : entry_whole s behind ≡ true
      behind_whole = all_mem (entry_whole s) (places s) h.rises.whole behind behind_in

      pub behind_higher : key < key_at 0x11 s behind
      behind_higher = let g = rw (places_next s behind more) at high in omega (arith, g.0)

      pub behind_place : slot_at 0x11 s behind < 8224 → get_or table (slot_at 0x11 s behind) 0 ≡ behind + 1
      behind_place q =
          at_key (slot_at 0x11 s behind) q
          ∙ (ap (place_of 0x11 s (slot_at 0x11 s behind)) parts.is
          ∙ (place_past s (slot_at 0x11 s behind) parts.before (x ∷ places_from s behind) (λ y m e.
          let k = slot_of y (in_all y (inl m)) in let w = low y m in let v = behind_higher in let u = slot_of behind behind_in in omega arith)
          ∙ first_past))
        where
          other : slot_at 0x11 s x ≡ slot_at 0x11 s behind → ⊥
          other e = let k = slot_of x here in let u = slot_of behind behind_in in let v = behind_higher in omega arith

          first_past : place_of 0x11 s (slot_at 0x11 s behind) (x ∷ places_from s behind) ≡ behind + 1
          first_past =
              place_past s (slot_at 0x11 s behind) (x ∷ []) (places_from s behind) (λ y m e. ⊎_elim (λ i. other (ap (slot_at 0x11 s) (sym i) ∙ e)) (λ i. i) m)
              ∙ (ap (place_of 0x11 s (slot_at 0x11 s behind)) (places_next s behind more) ∙ place_here s behind (places_from s (field_end s behind)))

      -- Behind a production there are only productions.
      pub behind_production : 32 ≤ key → IsProduction s behind
      behind_production q =
          ⊎_elim (λ c. let w = class_small s behind c in let v = behind_higher in absurd (omega arith)) (λ c. c) (entry_facts s behind behind_whole)

  -- name_behind: the production of kind k and name p.
  module _ (k p : ℕ) (kind : k < 32) (name : p < 256) (known : 0 < get_or table (production_key k p) 0) where
    abbrev found : (x : ℕ) × (place_of 0x11 s (production_key k p) (places s) ≡ x + 1) × (slot_at 0x11 s x ≡ production_key k p) × Mem x (places s)
    found = place_in s (production_key k p) (places s) (rw (at_key (production_key k p) (omega arith)) at known)

    abbrev field : ℕ
    field = found.0

    field_in : Mem field (places s)
    field_in = found.3

    field_key : key_at 0x11 s field ≡ production_key k p
    field_key = sym (slot_of field field_in) ∙ found.2

    place_is : get_or table (production_key k p) 0 ≡ field + 1
    place_is = at_key (production_key k p) (omega arith) ∙ found.1

    entry_of_lem : {r j : ℕ} → r ≡ get_or table j 0 → j ≡ production_key k p → r ≡ get_or table (production_key k p) 0
    entry_of_lem e d = e ∙ ap (λ (x : ℕ). get_or table x 0) d

    pub place_inside : (place j : ℕ) → place ≡ get_or table j 0 → j ≡ production_key k p → (place < 65536) × (place + 1 < length s)
    place_inside place j e d =
        let z : place ≡ get_or table (production_key k p) 0 = entry_of_lem e d in
        let w = entry_kind s field (all_mem (entry_whole s) (places s) h.rises.whole field field_in) in
        let q = place_is in
        let y = h.short in
        (omega (arith, w.0), omega (arith, w.0))

    module _ (place next j : ℕ) (ep : place ≡ get_or table j 0) (ej : j ≡ production_key k p) (d : next ≡ place + 2 + pair_at s place) where
      e : place ≡ get_or table (production_key k p) 0
      e = entry_of_lem ep ej

      next_is : next ≡ field_end s field
      unfolding field_end
      next_is =
          let q : place ≡ field + 1 = e ∙ place_is in
          let n : pair_at s place ≡ pair_at s (field + 1) = ap (pair_at s) q in omega arith

      pub none_behind : length s ≤ next → Unnamed table k (p + 1) 256
      none_behind past = record {
        none = λ q i o. between field field_in (production_key k q) (let z = field_key in omega arith) (λ z. let w = next_is in absurd (omega arith)) (omega arith);
      }

      module _ (more : next < length s) where
        more_too : field_end s field < length s
        more_too = rw (← next_is) more

        is_production : IsProduction s (field_end s field)
        is_production = behind_production field field_in more_too (let z = field_key in omega arith)

        slot_is : slot_at 0x11 s (field_end s field) ≡ production_key (get_or s (next + 3) 0) (get_or s (next + 4) 0)
        slot_is = rw next_is (production_key_lem s (field_end s field) is_production)

        key_is : key_at 0x11 s (field_end s field) ≡ production_key (get_or s (next + 3) 0) (get_or s (next + 4) 0)
        key_is = sym (slot_of (field_end s field) (behind_in field field_in more_too)) ∙ slot_is

        pub next_inside : next + 4 < length s
        next_inside = rw next_is (entry_kind s (field_end s field) (behind_whole field field_in more_too)).0

        pub other_behind : {r : ℕ} → r ≡ get_or s (next + 3) 0 → (r ≡ k → ⊥) → Unnamed table k (p + 1) 256
        other_behind {r} er n =
            let a = field_key in
            let b = key_is in
            let c = behind_higher field field_in more_too in
            let v = h.narrow (next + 4) in
            record { none = λ q i o. between field field_in (production_key k q) (omega arith) (λ z. omega arith) (omega arith) }

        pub next_behind : {r m : ℕ} → r ≡ get_or s (next + 3) 0 → r ≡ k → m ≡ get_or s (next + 4) 0 → (p < m) × IsNamed table k (Some m) × Unnamed table k (p + 1) m
        next_behind {r} {m} er ek em =
            let a = field_key in
            let b = key_is in
            let c = behind_higher field field_in more_too in
            let v = h.narrow (next + 4) in
            let u : slot_at 0x11 s (field_end s field) ≡ production_key k m = slot_is ∙ (λ i. production_key ((sym er ∙ ek) i) (sym em i)) in
            let g : get_or table (production_key k m) 0 ≡ field_end s field + 1 =
            ap (λ (j : ℕ). get_or table j 0) (sym u) ∙ behind_place field field_in more_too (omega arith) in (
              omega arith,
              (omega arith, record { there = λ z. omega arith }),
              record {
                none = λ q i o. between field field_in (production_key k q) (omega arith) (λ z. omega arith) (omega arith);
              },
            )

-- name_from
module _ (table : List ℕ) (k from : ℕ) where
  pub unnamed_start : Unnamed table k from from
  unnamed_start = record { none = λ p i j. absurd (omega arith) }

  pub unnamed_next : (next : ℕ) {r j : ℕ} → r ≡ get_or table j 0 → j ≡ production_key k next → r ≡ 0 → Unnamed table k from next → Unnamed table k from (next + 1)
  unnamed_next next {r} {j} e d z a = record { none = λ p i o. go p i o (dec_le (suc p) next) }
    where
      go : (p : ℕ) → from ≤ p → p < next + 1 → Dec (suc p ≤ next) → get_or table (production_key k p) 0 ≡ 0
      go p i o (yes y) = a.none p i y
      go p i o (no y) =
          let q : p ≡ next = omega arith in
          ap (λ (x : ℕ). get_or table (production_key k x) 0) q ∙ (ap (λ (x : ℕ). get_or table x 0) (sym d) ∙ (sym e ∙ z))

  pub unnamed_all : (name : ℕ) → 256 ≤ name → Unnamed table k from name → Unnamed table k from 256
  unnamed_all name h a = record { none = λ p i o. a.none p i (omega arith) }

pub named_there : (table : List ℕ) (k p : ℕ) {r j : ℕ} → r ≡ get_or table j 0 → j ≡ production_key k p → (r ≡ 0 → ⊥) → Named table k p
named_there table k p e d n = record { there = λ z. let y = e ∙ ap (λ (x : ℕ). get_or table x 0) d in omega arith }

pub up_to_few : (table : List ℕ) (k : ℕ) (r : Maybe ℕ) → IsNamed table k r → up_to r ≤ 256
up_to_few table k None h = omega arith
up_to_few table k (Some p) h = omega (arith, h.0)
