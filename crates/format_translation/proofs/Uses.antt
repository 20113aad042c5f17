-- The mappings in front of a body, put into a table by kind and number: a law for each turn.
use Prim.Native.Nat.{ℕ, zero, suc, ◌+◌, ◌*◌, ◌-◌, ◌<◌, ◌≤◌}
use mathlib.Core.Path.{◌≡◌, refl, sym, ap, ◌∙◌}
use mathlib.Core.Bool.{Bool, true, false, cond, ◌&&◌, ◌||◌}
use mathlib.Core.List.{List, [], ◌∷◌, map}
use mathlib.Core.Option.{Option, none, some}
use native.Mathlib.Omega.{arith}
use native.Mathlib.Numerals.{add-one}
use lib.ListN.{length, get_or}
use lib.Seq.{get_or-set_same, get_or-set_other}
use lib.Dec.{eqb}
use borrow.Author.Tests.{leb-true, lt-ltb, eq-eqb, ne_eqb, eqb-true, eqb-false}
use Rattle.format_fields.specs.Lists.{first}
use Rattle.format_fields.specs.Inner.Places.{field_end, is_whole, places_from, item_order, order_at, key_at}
use Rattle.format_fields.specs.Fields.{pair_at}
use Rattle.format_fields.proofs.Truth.{by_test, false_true, and_both, both_and}
use Rattle.format_fields.proofs.Places.{places_next, places_done}
use Rattle.format_language.specs.Inner.Entries.{size_at}
use Rattle.tree_reader.specs.Inner.Index.{put_at}
use Rattle.tree_reader.specs.Inner.Positions.{kind_before, mapped_in}
use Rattle.tree_reader.proofs.Lookup.{put_not, put_in}
use Rattle.format_translation.specs.Translation.{mapping, Body, target_at, mapping_of}
use Rattle.format_translation.specs.TranslationFile.{body_of}
use Rattle.format_translation.specs.Inner.Items.{item_whole, item_at, mapping_whole, numbered_mapping_whole, item_good, IsMapping, IsNumberedMapping, ItemFacts, plain_mapping, plain_clause, numbered_mapping_lem, numbered_clause_lem, is_clause_tag, items_whole}
use Rattle.format_translation.specs.Inner.ItemIndex.{Mapped}
use Rattle.format_translation.proofs.Lookup.{at_target}
use Rattle.format_translation.proofs.Items.{item_facts, body_there, holds_items, mapping_is, clause_is, numbered_mapping_is, numbered_clause_is}

-- From p on there are whole items, no mapping after a clause.
abbrev pub Front : List ℕ → ℕ → Type 0
Front s p = items_whole s false (places_from s p) ≡ true

pub front_start : (s : List ℕ) (b : Body) → body_of s ≡ some b → Front s 0
front_start s b e = body_there s ∙ rw e

items_cons : (s : List ℕ) (past : Bool) (p : ℕ) (l : List ℕ) → items_whole s past (p ∷ l) ≡ true
    → (item_whole s p ≡ true) × ((is_clause_tag (get_or s p 0) || (elim past [ true ↦ false | false ↦ true ])) ≡ true) × (items_whole s (is_clause_tag (get_or s p 0)) l ≡ true)
unfolding items_whole
items_cons s true p l h =
    let u = and_both (item_whole s p && (is_clause_tag (get_or s p 0) || false)) (items_whole s (is_clause_tag (get_or s p 0)) l) h in
    let v = and_both (item_whole s p) (is_clause_tag (get_or s p 0) || false) u.0 in
    (v.0, v.1, u.1)
items_cons s false p l h =
    let u = and_both (item_whole s p && (is_clause_tag (get_or s p 0) || true)) (items_whole s (is_clause_tag (get_or s p 0)) l) h in
    let v = and_both (item_whole s p) (is_clause_tag (get_or s p 0) || true) u.0 in
    (v.0, v.1, u.1)

-- The mapping at p: its key is its place in the table, its last byte its target.
pub record Put (s : List ℕ) (p : ℕ) : Type 0 where
  pub source : ℕ
  pub number : ℕ
  pub target : ℕ
  pub kind : source < 32
  pub byte : number < 256
  pub goal : target < 32
  pub is : item_at s p ≡ mapping source number target
  pub key : order_at 0x22 s p ≡ source * 256 + number
  pub last : get_or s (field_end s p - 1) 0 ≡ target
  pub ends : (p + 5 ≤ field_end s p) × (field_end s p ≤ length s)

-- The ends of a whole mapping, by its length.
mapping_ends : (s : List ℕ) (p n : ℕ) → is_whole s p ≡ true → size_at s p ≡ n → (field_end s p ≡ p + 3 + n) × (field_end s p ≤ length s)
unfolding is_whole field_end
mapping_ends s p n w e = (omega arith, leb-true _ _ w)

plain_put : (s : List ℕ) (p : ℕ) → item_whole s p ≡ true → IsMapping s p → Put s p
unfolding item_whole item_good mapping_whole order_at item_order key_at
plain_put s p w m =
    let a = and_both (is_whole s p) (item_good s p) w in
    let b : mapping_whole s p ≡ true = rw m.tag at a.1 in
    let c = and_both (eqb (size_at s p) 2) _ b in
    let d = mapping_ends s p 2 a.0 (eqb-true (size_at s p) 2 c.0) in
    record {
      source = get_or s (p + 3) 0;
      number = 0;
      target = get_or s (p + 4) 0;
      kind = m.source;
      byte = omega arith;
      goal = m.target;
      is = mapping_is s p m;
      key = rw m.tag (omega arith);
      last = ap (λ (i : ℕ). get_or s i 0) (omega (arith, d.0));
      ends = (omega (arith, d.0), d.1);
    }

numbered_put : (s : List ℕ) (p : ℕ) → item_whole s p ≡ true → IsNumberedMapping s p → Put s p
unfolding item_whole item_good numbered_mapping_whole order_at item_order pair_at
numbered_put s p w m =
    let a = and_both (is_whole s p) (item_good s p) w in
    let b : numbered_mapping_whole s p ≡ true = rw m.tag at a.1 in
    let c = and_both (eqb (size_at s p) 3) _ b in
    let d = mapping_ends s p 3 a.0 (eqb-true (size_at s p) 3 c.0) in
    let i : p + 3 + 1 ≡ p + 4 = omega arith in
    record {
      source = get_or s (p + 3) 0;
      number = get_or s (p + 4) 0;
      target = get_or s (p + 5) 0;
      kind = m.source;
      byte = m.byte;
      goal = m.target;
      is = numbered_mapping_is s p m;
      key = rw (m.tag, i) refl;
      last = ap (λ (j : ℕ). get_or s j 0) (omega (arith, d.0));
      ends = (omega (arith, d.0), d.1);
    }

-- What `put_use` asks for.
pub put_asks : (s : List ℕ) (p room e key kind : ℕ) (m : Put s p) → e ≡ field_end s p → key ≡ order_at 0x22 s p
    → kind ≡ get_or s (e - 1) 0 → room ≡ 8192 → (key < room) × (kind < 32)
put_asks s p room e key kind m ee ek ev l =
    let k = m.kind in
    let b = m.byte in
    let q : key ≡ m.source * 256 + m.number = ek ∙ m.key in
    let t : kind ≡ m.target = ev ∙ (ap (λ (x : ℕ). get_or s (x - 1) 0) ee ∙ m.last) in
    (omega arith, rw t m.goal)

-- What it puts.
pub put_value : (s : List ℕ) (p e kind : ℕ) (m : Put s p) → e ≡ field_end s p → kind ≡ get_or s (e - 1) 0 → kind + 1 ≡ m.target + 1
put_value s p e kind m ee ev =
    let t : kind ≡ m.target = ev ∙ (ap (λ (x : ℕ). get_or s (x - 1) 0) ee ∙ m.last) in
    ap (λ (x : ℕ). x + 1) t

-- A use that was found first, or what comes after it.
abbrev pub or_else : Option ℕ → Option ℕ → Option ℕ
or_else none o = o
or_else (some k) o = some k

-- What the table says by now, with the items from p on, is what the body says.
abbrev pub Filling : List ℕ → ℕ → List ℕ → Body → Type 0
Filling s p uses b = (k j : ℕ) → k < 32 → j < 256
    → or_else (kind_before (get_or uses (k * 256 + j) 0)) (first (target_at k j) (map (item_at s) (places_from s p))) ≡ mapping_of b k j

pub filling_start : (s uses : List ℕ) (b : Body) → body_of s ≡ some b → ((j : ℕ) → get_or uses j 0 ≡ 0) → Filling s 0 uses b
unfolding mapping_of
filling_start s uses b e zeros k j h i = rw (zeros (k * 256 + j)) (ap (first (target_at k j)) (holds_items s b e).items)

only_clause : (x : Bool) → (x || false) ≡ true → x ≡ true
only_clause true e = refl
only_clause false e = false_true e

clause_none : (s : List ℕ) (k j p : ℕ) (l : List ℕ) → ItemFacts s p → is_clause_tag (get_or s p 0) ≡ true
    → first (target_at k j) (map (item_at s) l) ≡ none → first (target_at k j) (map (item_at s) (p ∷ l)) ≡ none
unfolding first target_at
clause_none s k j p l (plain_mapping m) t h = false_true (rw m.tag at t)
clause_none s k j p l (plain_clause c) t h = rw (clause_is s p c) h
clause_none s k j p l (numbered_mapping_lem m) t h = false_true (rw m.tag at t)
clause_none s k j p l (numbered_clause_lem c) t h = rw (numbered_clause_is s p c) h

-- Items that are clauses map nothing.
clauses_none : (s : List ℕ) (k j : ℕ) (l : List ℕ) → items_whole s true l ≡ true → first (target_at k j) (map (item_at s) l) ≡ none
unfolding first target_at
clauses_none s k j [] h = refl
clauses_none s k j (p ∷ l) h =
    let u = items_cons s true p l h in
    let t = only_clause (is_clause_tag (get_or s p 0)) u.1 in
    clause_none s k j p l (item_facts s p u.0) t (clauses_none s k j l (rw t at u.2))

-- A mapping that is put, at its own kind and number.
first_hit : (s i t : ℕ) (l : Body) → first (target_at s i) (mapping s i t ∷ l) ≡ some t
unfolding first
first_hit s i t l = rw (first, at_target s i t)

hit_use : (s i t v : ℕ) (uses more : List ℕ) (l : Body) → v ≡ t + 1
    → get_or more (s * 256 + i) 0 ≡ cond (eqb (get_or uses (s * 256 + i) 0) 0) v (get_or uses (s * 256 + i) 0)
    → {o : Option ℕ} → or_else (kind_before (get_or uses (s * 256 + i) 0)) (first (target_at s i) (mapping s i t ∷ l)) ≡ o
    → or_else (kind_before (get_or more (s * 256 + i) 0)) (first (target_at s i) l) ≡ o
hit_use s i t v uses more l ev h {o} e = go (get_or uses (s * 256 + i) 0) refl
  where
    go : (x : ℕ) → get_or uses (s * 256 + i) 0 ≡ x → or_else (kind_before (get_or more (s * 256 + i) 0)) (first (target_at s i) l) ≡ o
    go zero q = let z : get_or more (s * 256 + i) 0 ≡ suc t = h ∙ rw q (ev ∙ add-one t) in rw z (rw (q, first_hit s i t l) at e)
    go (suc x) q = let z : get_or more (s * 256 + i) 0 ≡ suc x = h ∙ rw (q, ne_eqb (suc x) 0 (λ w. omega arith)) refl in rw z (rw q at e)

-- At any other.
miss_use : (s i t k j : ℕ) (uses more : List ℕ) (l : Body) → (eqb s k && eqb i j) ≡ false → i < 256 → j < 256
    → ((n : ℕ) → (n ≡ s * 256 + i → ⊥) → get_or more n 0 ≡ get_or uses n 0)
    → {o : Option ℕ} → or_else (kind_before (get_or uses (k * 256 + j) 0)) (first (target_at k j) (mapping s i t ∷ l)) ≡ o
    → or_else (kind_before (get_or more (k * 256 + j) 0)) (first (target_at k j) l) ≡ o
unfolding first target_at
miss_use s i t k j uses more l n b c h e =
    let y : k * 256 + j ≡ s * 256 + i → ⊥ = λ q.
    let es : s ≡ k = omega arith in
    let ei : i ≡ j = omega arith in
    false_true (sym n ∙ rw (es, ei, eq-eqb k k refl, eq-eqb j j refl)) in
    rw (h (k * 256 + j) y) (rw (first, n) at e)

-- The table is filled.
filled_by : (o : Option ℕ) (r t : Option ℕ) → r ≡ none → or_else o r ≡ t → o ≡ t
filled_by none r t e h = sym e ∙ h
filled_by (some x) r t e h = h

module _ (s : List ℕ) (p : ℕ) (w : Front s p) (here : p < length s) where
  turn : (item_whole s p ≡ true) × ((is_clause_tag (get_or s p 0) || true) ≡ true) × (items_whole s (is_clause_tag (get_or s p 0)) (places_from s (field_end s p)) ≡ true)
  turn = items_cons s false p (places_from s (field_end s p)) (rw (places_next s p here) at w)

  -- A mapping that is put into the table.
  pub put_here : is_clause_tag (get_or s p 0) ≡ false → Put s p
  put_here t = go (item_facts s p turn.0)
    where
      go : ItemFacts s p → Put s p
      go (plain_mapping m) = plain_put s p turn.0 m
      go (plain_clause c) = false_true (sym (rw c.tag at t))
      go (numbered_mapping_lem m) = numbered_put s p turn.0 m
      go (numbered_clause_lem c) = false_true (sym (rw c.tag at t))

  pub front_next : is_clause_tag (get_or s p 0) ≡ false → (e : ℕ) → e ≡ field_end s p → Front s e
  front_next t e ee = rw (ee, ← t) turn.2

module _ (s : List ℕ) (p : ℕ) (uses : List ℕ) (b : Body) (w : Front s p) (f : Filling s p uses b) where
  is_mapped : ((k j : ℕ) → first (target_at k j) (map (item_at s) (places_from s p)) ≡ none) → Mapped uses b
  unfolding mapped_in
  is_mapped n = record { is = λ k j h i. rw (lt-ltb j 256 i) (filled_by _ _ _ (n k j) (f k j h i)) }

  pub filled_end : length s ≤ p → Mapped uses b
  unfolding first
  filled_end h = is_mapped (λ k j. rw (places_done s p h))

  module _ (here : p < length s) where
    pub filled_clause : is_clause_tag (get_or s p 0) ≡ true → Mapped uses b
    unfolding items_whole
    filled_clause t = is_mapped (λ k j. rw (places_next s p here) (clauses_none s k j (p ∷ places_from s (field_end s p)) again))
      where
        again : items_whole s true (p ∷ places_from s (field_end s p)) ≡ true
        again = let y = turn s p w here in both_and _ _ (both_and _ _ y.0 (rw t)) y.2

    module _ (t : is_clause_tag (get_or s p 0) ≡ false) (e : ℕ) (ee : e ≡ field_end s p) where
      module _ (long : length uses ≡ 8192) (m : Put s p) (more : List ℕ) (key : ℕ) (ek : key ≡ order_at 0x22 s p)
          (v : ℕ) (ev : v ≡ m.target + 1) (em : more ≡ put_at uses key v) where
        -- At its own kind and number.
        same_use : get_or more (m.source * 256 + m.number) 0 ≡ (cond (eqb (get_or uses (m.source * 256 + m.number) 0) 0) v (get_or uses (m.source * 256 + m.number) 0))
        same_use =
            let q : key ≡ m.source * 256 + m.number = ek ∙ m.key in
            let k = m.kind in
            let y = m.byte in
            by_test (eqb (get_or uses (m.source * 256 + m.number) 0) 0)
            (λ d. let z : get_or uses (m.source * 256 + m.number) 0 ≡ 0 = eqb-true _ _ d in
            rw (em, q, d) (ap (λ (l : List ℕ). get_or l (m.source * 256 + m.number) 0) (sym (put_in uses (m.source * 256 + m.number) v z))
            ∙ get_or-set_same uses (m.source * 256 + m.number) v 0 (omega (arith, long, k, y))))
            (λ d. rw (em, q, d) (ap (λ (l : List ℕ). get_or l (m.source * 256 + m.number) 0) (sym (put_not uses (m.source * 256 + m.number) v (eqb-false _ _ d)))))

        -- At any other.
        other_use : (i : ℕ) → (i ≡ m.source * 256 + m.number → ⊥) → get_or more i 0 ≡ get_or uses i 0
        other_use i n =
            let q : key ≡ m.source * 256 + m.number = ek ∙ m.key in
            by_test (eqb (get_or uses (m.source * 256 + m.number) 0) 0)
            (λ d. rw (em, q) (ap (λ (l : List ℕ). get_or l i 0) (sym (put_in uses (m.source * 256 + m.number) v (eqb-true _ _ d)))
            ∙ get_or-set_other uses (m.source * 256 + m.number) i v 0 n))
            (λ d. rw (em, q) (ap (λ (l : List ℕ). get_or l i 0) (sym (put_not uses (m.source * 256 + m.number) v (eqb-false _ _ d)))))

        -- What was to come is this mapping and the rest.
        before_this : (k j : ℕ) → k < 32 → j < 256
            → or_else (kind_before (get_or uses (k * 256 + j) 0)) (first (target_at k j) (mapping m.source m.number m.target ∷ map (item_at s) (places_from s e))) ≡ mapping_of b k j
        before_this k j h i = rw (places_next s p here, ← ee, m.is) at (f k j h i)

        hit_as : (x y k j : ℕ) → x ≡ k → y ≡ j
            → or_else (kind_before (get_or more (x * 256 + y) 0)) (first (target_at x y) (map (item_at s) (places_from s e))) ≡ mapping_of b x y
            → or_else (kind_before (get_or more (k * 256 + j) 0)) (first (target_at k j) (map (item_at s) (places_from s e))) ≡ mapping_of b k j
        hit_as x y k j ex ey g = rw (← ex, ← ey) g

        pub filling_next : Filling s e more b
        filling_next k j h i =
            by_test (eqb m.source k && eqb m.number j)
            (λ d. let (x, y) = and_both _ _ d in hit_as m.source m.number k j (eqb-true _ _ x) (eqb-true _ _ y) (hit_use m.source m.number m.target v uses more (map (item_at s) (places_from s e)) ev same_use (before_this m.source m.number m.kind m.byte)))
            (λ d. miss_use m.source m.number m.target k j uses more (map (item_at s) (places_from s e)) d m.byte i other_use (before_this k j h i))
