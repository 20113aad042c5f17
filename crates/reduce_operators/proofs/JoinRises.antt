-- The items of a join, by number: what each is made of, and that their keys rise.
use Prim.Native.Nat.{ℕ, suc, ◌+◌, ◌*◌, ◌≤◌, ◌<◌}
use mathlib.Core.Path.{◌≡◌, refl}
use mathlib.Core.Logic.{inl, inr}
use mathlib.Core.Bool.{Bool, true}
use mathlib.Core.List.{List, [], ◌∷◌, map}
use native.Mathlib.Omega.{arith}
use lib.Dec.{eqb}
use borrow.Author.Tests.{ltb-true, eqb-true}
use Rattle.format_fields.specs.Lists.{keep, is_some, concat_map, count_up}
use Rattle.format_fields.proofs.Truth.{Mem, by_test, all_mem, mem_map, map_cases, mem_concat, concat_cases, keep_cases, mem_keep, mem_count, some_is, is_some_lem}
use Rattle.format_fields.proofs.Keyed.{Rising, From, keep_from, rising_ext}
use Rattle.format_translation.specs.Translation.{Item, mapping, clause, Body, Translation, plain_key, number_of, item_key, mapping_of, number_at, numbers_of}
use Rattle.format_translation.proofs.Lookup.{mapping_mem, mem_mapping, number_mem, mem_number}
use Rattle.reduce_operators.specs.Operators.{low_number, numbers_low, join_item, joined}
use Rattle.reduce_operators.specs.Inner.Paired.{reached, paired_item}
use Rattle.reduce_operators.proofs.IdentitySound.{from_append, count_from}

-- An item of the second is joined once for each number.
pub join_item_lem : (f g : Translation) (a : Item) → join_item f g a ≡ map (paired_item f g a) (numbers_of f.body (reached g a))
unfolding join_item
join_item_lem f g (mapping s i t) = refl
join_item_lem f g (clause r p i c) = refl

paired_key : (f g : Translation) (a : Item) (j : ℕ) → item_key (paired_item f g a j) ≡ plain_key a * 256 + 16 * number_of a + j
unfolding item_key plain_key number_of
paired_key f g (mapping s i t) j = omega arith
paired_key f g (clause r p i c) j = omega arith

-- A joined item is there for each item of the second and each number that the kind reached has in the first.
pub mem_join : (f g : Translation) (a : Item) (j : ℕ) → Mem a g.body → Mem j (numbers_of f.body (reached g a)) → Mem (paired_item f g a j) (joined f g).body
unfolding joined
mem_join f g a j m n =
    mem_concat (join_item f g) a (paired_item f g a j) g.body m (rw (join_item_lem f g a) (mem_map (paired_item f g a) j (numbers_of f.body (reached g a)) n))

-- And there is no other.
pub join_cases : (f g : Translation) (x : Item) → Mem x (joined f g).body
    → (a : Item) × (j : ℕ) × Mem a g.body × Mem j (numbers_of f.body (reached g a)) × (x ≡ paired_item f g a j)
unfolding joined
join_cases f g x m =
    let r = concat_cases (join_item f g) x g.body m in
    let q = map_cases (paired_item f g r.0) x (numbers_of f.body (reached g r.0)) (rw (join_item_lem f g r.0) at r.2) in
    (r.0, q.0, r.1, q.1, q.2)

-- A low number.
pub low_is : (f : Translation) → numbers_low f ≡ true → (a : Item) → Mem a f.body → number_of a < 16
unfolding numbers_low low_number
low_is f h a m = ltb-true (number_of a) 16 (all_mem low_number f.body h a m)

-- The numbers of a kind rise.
numbers_from : (k n m : ℕ) (b : Body) → From item_key n b → ((j : ℕ) → n ≤ k * 256 + j → m ≤ j) → From (λ j. j) m (numbers_of b k)
unfolding numbers_of number_at concat_map item_key plain_key number_of
numbers_from k n m [] f h = tt
numbers_from k n m (mapping s i t ∷ b) f h =
    by_test (eqb s k)
    (λ e.
    let q : s ≡ k = eqb-true s k e in
    let z : n ≤ k * 256 + i = rw (← q) f.0 in
    rw e (h i z, numbers_from k (suc (s * 256 + i)) (suc i) b f.1 (λ j l. omega arith)))
    (λ e. rw e (numbers_from k (suc (s * 256 + i)) m b f.1 (λ j l. let y = f.0 in h j (omega arith))))
numbers_from k n m (clause r p i c ∷ b) f h =
    numbers_from k (suc ((32 + (r * 256 + p)) * 256 + i)) m b f.1 (λ j l. let y = f.0 in h j (omega arith))

-- The numbers of a kind, where they are below a limit, are those from 0 on by which it is mapped.
pub numbers_listed : (b : Body) → Rising item_key b → (k limit : ℕ) → ((j t : ℕ) → Mem (mapping k j t) b → j < limit)
    → numbers_of b k ≡ keep (λ j. is_some (mapping_of b k j)) (count_up limit 0)
numbers_listed b rises k limit below =
    let has : ℕ → Bool = λ j. is_some (mapping_of b k j) in
    rising_ext (λ j. j) 0 0 (numbers_of b k) (keep has (count_up limit 0))
    (numbers_from k 0 0 b rises (λ j l. omega arith))
    (keep_from (λ j. j) has 0 (count_up limit 0) (count_from limit 0))
    (λ j m.
    let t = number_mem b k j m in
    let l = below j t.0 t.1 in
    mem_keep has j (count_up limit 0) (mem_count limit 0 j (omega arith) (omega arith)) (is_some_lem (mapping_of b k j) (mem_mapping b rises k j t.0 t.1)))
    (λ j m.
    let t = some_is (mapping_of b k j) (keep_cases has j (count_up limit 0) m).1 in
    mem_number b k j t.0 (mapping_mem b k j t.0 t.1))

-- Items made of rising numbers, with keys in their order.
block_from : (to : ℕ → Item) (base : ℕ) → ((j : ℕ) → item_key (to j) ≡ base + j) → (n m : ℕ) (l : List ℕ) → m ≤ base + n → From (λ j. j) n l → From item_key m (map to l)
block_from to base e n m [] h f = tt
block_from to base e n m (j ∷ l) h f =
    (omega (arith, e j, f.0), block_from to base e (suc j) (suc (item_key (to j))) l (omega (arith, e j)) f.1)

module _ (f g : Translation) (rises : Rising item_key f.body) (low : numbers_low f ≡ true) where
  numbers_low_lem : (k j : ℕ) → Mem j (numbers_of f.body k) → j < 16
  unfolding number_of
  numbers_low_lem k j m = let t = number_mem f.body k j m in low_is f low (mapping k j t.0) t.1

  -- What is made of an item lies between its key and the next.
  item_from : (m : ℕ) (a : Item) → m ≤ plain_key a * 256 + 16 * number_of a → From item_key m (join_item f g a)
  item_from m a h =
      rw (join_item_lem f g a)
      (block_from (paired_item f g a) (plain_key a * 256 + 16 * number_of a) (paired_key f g a) 0 m (numbers_of f.body (reached g a)) (omega arith)
      (numbers_from (reached g a) 0 0 f.body rises (λ j l. omega arith)))

  item_below : (a x : Item) → Mem x (join_item f g a) → item_key x < plain_key a * 256 + 16 * number_of a + 16
  item_below a x m =
      let q = map_cases (paired_item f g a) x (numbers_of f.body (reached g a)) (rw (join_item_lem f g a) at m) in
      rw q.2 (omega (arith, paired_key f g a q.0, numbers_low_lem (reached g a) q.0 q.1))

  items_from_lem : (n m : ℕ) (b : Body) → From item_key n b → ((a : Item) → Mem a b → number_of a < 16)
      → ((k i : ℕ) → i < 16 → n ≤ k * 256 + i → m ≤ k * 256 + 16 * i) → From item_key m (concat_map (join_item f g) b)
  unfolding concat_map item_key
  items_from_lem n m [] h l s = tt
  items_from_lem n m (a ∷ b) h l s =
      let i : number_of a < 16 = l a (inl refl) in
      let w : m ≤ plain_key a * 256 + 16 * number_of a = s (plain_key a) (number_of a) i h.0 in
      from_append item_key m (plain_key a * 256 + 16 * number_of a + 16) (join_item f g a) (concat_map (join_item f g) b)
      (item_from m a w) (omega arith) (item_below a)
      (items_from_lem (suc (plain_key a * 256 + number_of a)) _ b h.1 (λ x q. l x (inr q)) (λ k j y z. omega arith))

  -- The keys of a join rise.
  pub joined_rises : Rising item_key g.body → numbers_low g ≡ true → Rising item_key (joined f g).body
  unfolding joined
  joined_rises h l = items_from_lem 0 0 g.body h (low_is g l) (λ k i y z. omega arith)
