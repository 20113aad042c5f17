-- The index holds the first place of each key, whatever the entries are: what is looked up through it is what stands
-- in the list of the entries.
use Prim.Native.Nat.{ℕ, ◌+◌, ◌<◌, ◌≤◌}
use mathlib.Core.Path.{◌≡◌, refl, sym, ap, ◌∙◌}
use mathlib.Core.Logic.{◌⊎◌, ⊎_elim}
use mathlib.Core.List.{List, [], ◌∷◌, map}
use mathlib.Core.Bool.{Bool, true, cond, ◌&&◌}
use mathlib.Core.Option.{Option, none, some}
use native.Mathlib.Omega.{arith}
use lib.ListN.{length, get_or}
use lib.Seq.{get_or-set_same, get_or-set_other}
use lib.Dec.{eqb}
use borrow.Author.Tests.{eq-eqb, ne_eqb, eqb-true, eqb-false}
use Rattle.format_fields.specs.Lists.{all, first}
use Rattle.format_fields.specs.Inner.Places.{slot_at}
use Rattle.format_fields.proofs.Truth.{by_test}
use Rattle.format_fields.proofs.Lists.{all_true}
use Rattle.format_language.specs.Language.{production_key}
use Rattle.tree_reader.specs.Inner.Index.{put_at, put_all}
use Rattle.tree_reader.proofs.Lookup.{put_not, put_in, put_length}

-- What stands at j after a value was put at a key.
module _ (index : List ℕ) (key v j : ℕ) where
  put_same : key ≡ j → j < length index → get_or index j 0 ≡ 0 → get_or (put_at index key v) j 0 ≡ v
  put_same e h z = cc (put_in index key v (ap (λ (i : ℕ). get_or index i 0) e ∙ z), get_or-set_same index j v 0 h)

  put_kept : (get_or index j 0 ≡ 0 → ⊥) → get_or (put_at index key v) j 0 ≡ get_or index j 0
  put_kept n =
      by_test (eqb (get_or index key 0) 0)
      (λ e.
      let z : get_or index key 0 ≡ 0 = eqb-true _ _ e in
      cc (put_in index key v z, get_or-set_other index key j v 0 (λ d. n (ap (λ (i : ℕ). get_or index i 0) d ∙ z))))
      (λ e. cc (put_not index key v (eqb-false _ _ e)))

  put_other : (key ≡ j → ⊥) → get_or (put_at index key v) j 0 ≡ get_or index j 0
  put_other n =
      by_test (eqb (get_or index key 0) 0)
      (λ e. cc (put_in index key v (eqb-true _ _ e), get_or-set_other index key j v 0 (λ d. n (sym d))))
      (λ e. cc (put_not index key v (eqb-false _ _ e)))

-- The first place of a key, and one more; 0 where it has none. The first entries have the tag t.
unfoldable pub place_of : ℕ → List ℕ → ℕ → List ℕ → ℕ
place_of t s j [] = 0
place_of t s j (p ∷ l) = cond (eqb (slot_at t s p) j) (p + 1) (place_of t s j l)

module _ (t : ℕ) (s : List ℕ) (j p : ℕ) (l : List ℕ) where
  place_here : slot_at t s p ≡ j → place_of t s j (p ∷ l) ≡ p + 1
  unfolding place_of
  place_here h = cc (eq-eqb _ _ h)

  place_on : (slot_at t s p ≡ j → ⊥) → place_of t s j (p ∷ l) ≡ place_of t s j l
  unfolding place_of
  place_on h = cc (ne_eqb _ _ h)

-- The index holds the first place of each key.
pub puts_length : (t : ℕ) (s l index : List ℕ) → length (put_all t s index l) ≡ length index
unfolding put_all
puts_length t s [] index = refl
puts_length t s (p ∷ l) index = puts_length t s l (put_at index (slot_at t s p) (p + 1)) ∙ put_length index (slot_at t s p) (p + 1)

puts_kept : (t : ℕ) (s l index : List ℕ) (j : ℕ) → (get_or index j 0 ≡ 0 → ⊥) → get_or (put_all t s index l) j 0 ≡ get_or index j 0
unfolding put_all
puts_kept t s [] index j n = refl
puts_kept t s (p ∷ l) index j n =
    let k = put_kept index (slot_at t s p) (p + 1) j n in
    puts_kept t s l (put_at index (slot_at t s p) (p + 1)) j (λ z. n (sym k ∙ z)) ∙ k

pub puts_place : (t : ℕ) (s l index : List ℕ) (j : ℕ) → j < length index → get_or index j 0 ≡ 0 → get_or (put_all t s index l) j 0 ≡ place_of t s j l
unfolding put_all place_of
puts_place t s [] index j h z = z
puts_place t s (p ∷ l) index j h z =
    let key : ℕ = slot_at t s p in
    let more : List ℕ = put_at index key (p + 1) in
    by_test (eqb key j)
    (λ e.
    let k = put_same index key (p + 1) j (eqb-true _ _ e) h z in
    puts_kept t s l more j (λ y. let w : p + 1 ≡ 0 = sym k ∙ y in omega arith) ∙ (k ∙ sym (place_here t s j p l (eqb-true _ _ e))))
    (λ e.
    let k = put_other index key (p + 1) j (eqb-false _ _ e) in
    puts_place t s l more j (rw (put_length index key (p + 1)) h) (k ∙ z) ∙ sym (place_on t s j p l (eqb-false _ _ e)))

-- A lookup of an entry by its key.
module _ {E B : Type 0} (f : E → Option B) (a : E) (l : List E) where
  first_some : {b : B} → f a ≡ some b → first f (a ∷ l) ≡ some b
  unfolding first
  first_some h = cc

  first_none : f a ≡ none → first f (a ∷ l) ≡ first f l
  unfolding first
  first_none h = cc

module _ {E B : Type 0} (t : ℕ) (ok : ℕ → Bool) (at : ℕ → E) (look : E → Option B) (through : ℕ → Option B) (empty : through 0 ≡ none) (s : List ℕ) (j : ℕ)
    (hit : (p : ℕ) → ok p ≡ true → slot_at t s p ≡ j → (b : B) × (look (at p) ≡ some b) × (through (p + 1) ≡ some b))
    (miss : (p : ℕ) → ok p ≡ true → (slot_at t s p ≡ j → ⊥) → look (at p) ≡ none) where
  looked : (l : List ℕ) → all ok l ≡ true → first look (map at l) ≡ through (place_of t s j l)
  unfolding first place_of
  looked [] h = sym empty
  looked (p ∷ l) h =
      let w = all_true ok p l h in
      by_test (eqb (slot_at t s p) j)
      (λ e.
      let b = hit p w.0 (eqb-true _ _ e) in
      first_some look (at p) (map at l) b.1 ∙ (sym b.2 ∙ ap through (sym (place_here t s j p l (eqb-true _ _ e)))))
      (λ e.
      first_none look (at p) (map at l) (miss p w.0 (eqb-false _ _ e))
      ∙ (looked l w.1 ∙ ap through (sym (place_on t s j p l (eqb-false _ _ e)))))

-- A place that is not 0 is that of a whole entry of the key.
pub found : (t : ℕ) (ok : ℕ → Bool) (s : List ℕ) (j : ℕ) (l : List ℕ) → all ok l ≡ true → 0 < place_of t s j l
    → (p : ℕ) × (place_of t s j l ≡ p + 1) × (slot_at t s p ≡ j) × (ok p ≡ true)
unfolding place_of
found t ok s j [] h z = absurd (omega arith)
found t ok s j (p ∷ l) h z =
    let w = all_true ok p l h in
    by_test (eqb (slot_at t s p) j)
    (λ e. (p, place_here t s j p l (eqb-true _ _ e), eqb-true _ _ e, w.0))
    (λ e.
    let k = place_on t s j p l (eqb-false _ _ e) in
    let f = found t ok s j l w.1 (rw k at z) in
    (f.0, k ∙ f.1, f.2, f.3))

-- Entries in two groups: the key of one of the first tag is a kind, that of any other a kind and a name. Any other entry has
-- a key past every index.
pub record Groups (t : ℕ) (s : List ℕ) (ok : ℕ → Bool) (First Second Other : ℕ → Type 0) : Type 0 where
  pub facts : (p : ℕ) → ok p ≡ true → First p ⊎ (Second p ⊎ Other p)
  pub kind : (p : ℕ) → First p → get_or s (p + 3) 0 < 32
  pub kind_key : (p : ℕ) → First p → slot_at t s p ≡ get_or s (p + 3) 0
  pub name_key : (p : ℕ) → Second p → slot_at t s p ≡ production_key (get_or s (p + 3) 0) (get_or s (p + 4) 0)
  pub no_key : (p : ℕ) → Other p → slot_at t s p ≡ 65568

module _ (t : ℕ) (s : List ℕ) (ok : ℕ → Bool) (First Second Other : ℕ → Type 0) (g : Groups t s ok First Second Other) where
  pub of_first : (p : ℕ) → ok p ≡ true → slot_at t s p < 32 → First p
  of_first p w h =
      ⊎_elim (λ a. a) (⊎_elim (λ a. absurd (omega (arith, g.name_key p a))) (λ a. absurd (omega (arith, g.no_key p a)))) (g.facts p w)

  pub of_second : (p : ℕ) → ok p ≡ true → 32 ≤ slot_at t s p → slot_at t s p < 8224 → Second p
  of_second p w h i =
      ⊎_elim (λ a. absurd (omega (arith, g.kind_key p a, g.kind p a))) (⊎_elim (λ a. a) (λ a. absurd (omega (arith, g.no_key p a)))) (g.facts p w)

  module _ {E B : Type 0} (at : ℕ → E) (look : E → Option B) (through : ℕ → Option B) (empty : through 0 ≡ none)
      (value : ℕ → B) (here : (p : ℕ) → through (p + 1) ≡ some (value p)) (k : ℕ) (kind : k < 32) where
    -- A lookup by kind.
    module _ (in_first : (p : ℕ) → First p → look (at p) ≡ cond (eqb (get_or s (p + 3) 0) k) (some (value p)) none)
        (in-second : (p : ℕ) → Second p → look (at p) ≡ none) (in-other : (p : ℕ) → Other p → look (at p) ≡ none) where
      kind_hit : (p : ℕ) → ok p ≡ true → slot_at t s p ≡ k → (b : B) × (look (at p) ≡ some b) × (through (p + 1) ≡ some b)
      kind_hit p w e =
          let c = of_first p w (omega arith) in
          let j : get_or s (p + 3) 0 ≡ k = sym (g.kind_key p c) ∙ e in
          (value p, cc (in_first p c, eq-eqb _ _ j), here p)

      kind_miss : (p : ℕ) → ok p ≡ true → (slot_at t s p ≡ k → ⊥) → look (at p) ≡ none
      kind_miss p w n =
          ⊎_elim
          (λ c. cc (in_first p c, ne_eqb (get_or s (p + 3) 0) k (λ d. n (g.kind_key p c ∙ d))))
          (⊎_elim (in-second p) (in-other p))
          (g.facts p w)

      pub looked_kind : (l : List ℕ) → all ok l ≡ true → first look (map at l) ≡ through (place_of t s k l)
      looked_kind = looked t ok at look through empty s k kind_hit kind_miss

    -- A lookup by kind and name.
    module _ (n : ℕ) (byte : n < 256) (bytes : (i : ℕ) → get_or s i 0 < 256) (in_first : (p : ℕ) → First p → look (at p) ≡ none)
        (in-second : (p : ℕ) → Second p
        → look (at p) ≡ cond (eqb (get_or s (p + 3) 0) k && eqb (get_or s (p + 4) 0) n) (some (value p)) none)
        (in-other : (p : ℕ) → Other p → look (at p) ≡ none) where
      name_hit : (p : ℕ) → ok p ≡ true → slot_at t s p ≡ production_key k n
          → (b : B) × (look (at p) ≡ some b) × (through (p + 1) ≡ some b)
      name_hit p w e =
          let c = of_second p w (omega arith) (omega arith) in
          let d : production_key (get_or s (p + 3) 0) (get_or s (p + 4) 0) ≡ production_key k n = sym (g.name_key p c) ∙ e in
          let b = bytes (p + 4) in
          let i : get_or s (p + 3) 0 ≡ k = omega arith in
          let j : get_or s (p + 4) 0 ≡ n = omega arith in
          (value p, cc (in-second p c, eq-eqb _ _ i, eq-eqb _ _ j), here p)

      name_miss : (p : ℕ) → ok p ≡ true → (slot_at t s p ≡ production_key k n → ⊥) → look (at p) ≡ none
      name_miss p w m =
          ⊎_elim
          (in_first p)
          (⊎_elim (λ c. by_test (eqb (get_or s (p + 3) 0) k)
          (λ d. by_test (eqb (get_or s (p + 4) 0) n)
          (λ e.
          let i : get_or s (p + 3) 0 ≡ k = eqb-true _ _ d in
          let j : get_or s (p + 4) 0 ≡ n = eqb-true _ _ e in
          absurd (m (g.name_key p c ∙ cc)))
          (λ e. cc (in-second p c)))
          (λ d. cc (in-second p c))) (in-other p))
          (g.facts p w)

      pub looked_name : (l : List ℕ) → all ok l ≡ true → first look (map at l) ≡ through (place_of t s (production_key k n) l)
      looked_name = looked t ok at look through empty s (production_key k n) name_hit name_miss
