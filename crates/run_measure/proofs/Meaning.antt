-- Measuring by position is reading the tree and measuring its run.
use Rattle.tree_reader.specs.declared.node.ReadError.TheVariants.{Deep, Broken}
use Rattle.tree_reader.specs.declared.node.ReadError.{ReadError}
use Prim.Native.Nat.{ℕ, zero, suc, ◌+◌, ◌*◌, ◌-◌, ◌<◌, ◌≤◌}
use mathlib.Core.Path.{◌≡◌, refl, sym, ap, subst, ◌∙◌}
use mathlib.Core.List.{List, [], ◌∷◌, map}
use mathlib.Core.Bool.{Bool, true, false}
use mathlib.Core.Option
use mathlib.Core.Option.{Option, none, some}
use native.Mathlib.Omega.{arith}
use lib.ListN.{length, get_or, get_elem?, take, drop, drop_of_length-le}
use lib.Seq.{slice, length-slice, get_or-drop, get_or-take}
use lib.Dec.{ltb, leb, eqb}
use borrow.Author.Tests.{lt-leb, lt-ltb, ne_eqb, eq-eqb, eqb-true, eqb-false, leb-true, leb-false, ltb-true, ltb-false}
use Rattle.format_fields.specs.Fields.{pair_at}
use Rattle.format_fields.specs.Inner.Places.{field_end}
use Rattle.format_fields.proofs.Truth.{by_test, none_some}
use Rattle.format_fields.proofs.Lists.{part_done, part_next}
use Rattle.format_fields.proofs.Split.{front}
use Rattle.format_language.specs.Language.{Language, Range, range_of, arguments_of, in_range, production_key}
use Rattle.tree_reader.specs.Code.{Code, node, token, Codes, cons, nil}
use Rattle.tree_reader.specs.Typing.{Uses, kind_at, Typed, TypedAll, typed_node, typed_token, typed_argument, typed_nil, typed_cons}
use Rattle.tree_reader.specs.Syntax as Meant
use Rattle.tree_reader.specs.Syntax.{and_then, read_all, read_operands, read_node, read_token, read_tree_level, read_level, current, past_levels}
use Rattle.tree_reader.specs.declared.node.Syntax.TheVariants.{Tree}
use Rattle.tree_reader.specs.Inner.Index.{Indexed, range_before, arguments_before}
use Rattle.tree_reader.specs.Inner.Positions.{token_at, operands_at, name_at, node_at, past_at, read_at, KindsIn, rest_at, rest_of, Read}
use Rattle.tree_reader.proofs.Laws as Read-laws
use Rattle.tree_reader.proofs.Meaning.{done_of, deep_of, broken_of, read_same}
use Rattle.format_translation.specs.Translation.{Translation, mapping_of, mapped, clause_of}
use Rattle.format_translation.specs.Running.{run, uses_of, read_clause, whole_code, code_levels, clauses_of, transform}
use Rattle.format_translation.proofs.Fitting.{whole_done, uses_are}
use Rattle.format_translation.proofs.Preserved.{kind_use}
use Rattle.tree_reader.proofs.Sound.{read_done}
use Rattle.std.specs.Prelude.{Ok, Err}
use Rattle.run_measure.specs.declared.measure.Row.{Row}
use Rattle.run_measure.specs.Inner.Measuring.{Measured}
use Rattle.run_measure.specs.Cost.{cost}
use Rattle.run_measure.specs.Inner.Sizes.{many, size, own, uses, uses_all, numbers, weighted, amount, amount_all, capped}
use Rattle.run_measure.specs.Inner.Counting.{Tables, times_at}
use Rattle.run_measure.specs.Inner.Weighing.{Weights, weigh_at, sum_of, once_by}
use Rattle.run_measure.specs.Inner.Descent.{Step, measured, Weighing, leaf_down, down_from, weigh_down, down_at, down_row, goes_on}
use Rattle.run_measure.specs.Inner.Measuring.{Sized, sized, deep, broken, sized_at, sized_of, Counted}
use Rattle.run_measure.proofs.Sums.{weighted_none, weighted_zero, weighted_alike, weighted_pick, weighted_times, none_of, of_none, once_of, capped_weighted}
use Rattle.run_measure.proofs.Sizes.{Bounded, BoundedAll, miss_first, miss_second, run_amount, cost_amount, node_amount}
use Rattle.run_measure.proofs.Clauses.{get_inside, use_of_lem}
use Rattle.run_measure.proofs.Laws.{Goes}

-- As many operands are read as there are kinds.
abbrev Many : ℕ → Meant.Read Codes → Type 0
Many n (Meant.done t r) = many t ≡ n
Many n Meant.deep = Unit {0}
Many n Meant.broken = Unit {0}

many_more : (n : ℕ) (a : Code) (o : Meant.Read Codes) → Many n o → Many (suc n) (and_then o λ t u. Meant.done (cons a t) u)
unfolding many
many_more n a (Meant.done t r) h = ap suc h
many_more n a Meant.deep h = tt
many_more n a Meant.broken h = tt

many_first : (n : ℕ) (o : Meant.Read Code) (next : List ℕ → Meant.Read Codes) → ((r : List ℕ) → Many n (next r))
    → Many (suc n) (and_then o λ a r. and_then (next r) λ t u. Meant.done (cons a t) u)
many_first n (Meant.done a r) next h = many_more n a (next r) (h r)
many_first n Meant.deep next h = tt
many_first n Meant.broken next h = tt

read_many : (g : ℕ → List ℕ → Meant.Read Code) (ks s : List ℕ) → Many (length ks) (read_all g ks s)
unfolding read_all many
read_many g [] s = refl
read_many g (k ∷ ks) s = many_first (length ks) (g k s) (read_all g ks) (λ r. read_many g ks r)

-- Codes of clauses: typed, or the token that stands for none.
clause_cases : (f : Translation) (k p j : ℕ) (P : Code → Type 0) → P (token 0)
    → ((a : Code) → Typed f.target (uses_of f k p) a (mapped f.body k j) → P a) → P (clauses_of f k p j)
unfolding clauses_of read_clause
clause_cases f k p j P other typed = go (whole_code (read_clause f k p j (Option.get_or (clause_of f.body k p j) []))) refl
  where
    go : (o : Option Code) → whole_code (read_clause f k p j (Option.get_or (clause_of f.body k p j) [])) ≡ o → P (Option.get_or o (token 0))
    go none e = other
    go (some a) e =
        typed a (read_done Meant.code f.target (uses_of f k p) code_levels (mapped f.body k j) (Option.get_or (clause_of f.body k p j) []) a []
        (whole_done (read_clause f k p j (Option.get_or (clause_of f.body k p j) [])) a e)).0

-- A use that has no kind is not made.
module _ (l : Language) (r : Uses) (i m : ℕ) (off : (t : ℕ) → kind_at r i m ≡ some t → ⊥) where
  mutual
    unfolding uses

    unused : {a : Code} {k : ℕ} → Typed l r a k → uses i m a ≡ 0
    unused (typed_node e h) = unused_all h
    unused (typed_token e g) = refl
    unused (typed_argument {i = a} {j = b} {k = k} e) =
        by_test (eqb a i)
        (λ t.
        let x = eqb-true a i t in
        miss_second a b i m (λ y. off k (rw (← x, ← y) e)))
        (λ t. miss_first a b i m (eqb-false a i t))

    unused_all : {t : Codes} {ks : List ℕ} → TypedAll l r t ks → uses_all i m t ≡ 0
    unused_all typed_nil = refl
    unused_all (typed_cons h hs) = λ x. unused h x + unused_all hs x

-- Uses of a typed code are of the arguments and numbers that there are.
module _ (l : Language) (r : Uses) (n : ℕ) (in_bounds : (i m t : ℕ) → kind_at r i m ≡ some t → (1 ≤ i) × (i ≤ n) × (m < numbers)) where
  mutual
    bounded : {a : Code} {k : ℕ} → Typed l r a k → Bounded n a
    bounded (typed_node e h) = bounded_all h
    bounded (typed_token e g) = tt
    bounded (typed_argument {i = i} {j = j} {k = k} e) = in_bounds i j k e

    bounded_all : {t : Codes} {ks : List ℕ} → TypedAll l r t ks → BoundedAll n t
    bounded_all typed_nil = tt
    bounded_all (typed_cons h hs) = (bounded h, bounded_all hs)

-- What operands come to, up to the top, by weights that are so up to the top.
all_capped : (e : Code → ℕ) (z top : ℕ) (f : ℕ → ℕ → ℕ → Code) (u v : ℕ → ℕ → ℕ) (t : Codes)
    → ((i : ℕ) → i < many t → (m : ℕ) → capped top (u i m) ≡ capped top (v i m)) → capped top (amount_all e z f u t) ≡ capped top (amount_all e z f v t)
unfolding amount_all many
all_capped e z top f u v nil h = refl
all_capped e z top f u v (cons a t) h =
    let a' = capped_weighted top (λ by. u 0 by) (λ by. v 0 by) (λ by. amount e z f by a) (λ m. h 0 (omega arith) m) in
    let b = all_capped e z top f (λ i by. u (suc i) by) (λ i by. v (suc i) by) t (λ i l m. h (suc i) (omega arith) m) in
    omega arith

-- A sum whose last part is known up to the top.
capped_last : (top n x a y : ℕ) → capped top a ≡ capped top y → capped top (n + x + a) ≡ capped top (n + (x + y))
capped_last top n x a y h = omega arith

capped_part : (top n x y : ℕ) → y ≡ capped top x → capped top (capped top n + y) ≡ capped top (n + x)
capped_part top n x y h = omega arith

capped_twice : (top x y : ℕ) → x ≡ capped top y → capped top x ≡ capped top y
capped_twice top x y h = omega arith

sum_is : (top : ℕ) (v : Weights) → sum_of top v ≡ capped top (weighted v (λ j. 1))
unfolding sum_of
sum_is top v = refl

get_some : (l : List ℕ) (j : ℕ) → j < length l → get_elem? l j ≡ some (get_or l j 0)
get_some [] j h = absurd (omega arith)
get_some (x ∷ l) zero h = refl
get_some (x ∷ l) (suc j) h = get_some l j (omega arith)

part_get : (s : List ℕ) (q e j : ℕ) → e ≤ length s → q + j < e → get_elem? (slice q e s) j ≡ some (get_or s (q + j) 0)
part_get s q e j h l =
    let n = length-slice q e s h in
    get_some (slice q e s) j (omega arith)
    ∙ ap some (get_or-drop q (take e s) j 0 ∙ get_or-take e s (q + j) 0 (omega arith))

module _ (f : Translation) (top : ℕ) where
  abbrev codes : ℕ → ℕ → ℕ → Code
  codes = clauses_of f

  -- No weight but for the numbers of a kind.
  abbrev Supported : Weights → ℕ → Type 0
  Supported w k = (j : ℕ) → mapping_of f.body k j ≡ none → w j ≡ 0

  -- What is measured of a tree with weights w, on top of a length n and a cost c.
  abbrev sized_by : Weights → ℕ → ℕ → Meant.Read Code → Sized
  sized_by w n c (Meant.done t r) =
      sized r (capped top (n + weighted w (λ j. amount own 2 codes j t))) (capped top (c + weighted w (λ j. amount (λ a. 1) 0 codes j t)))
  sized_by w n c Meant.deep = deep
  sized_by w n c Meant.broken = broken

  by_done : (w : Weights) (n c : ℕ) (o : Meant.Read Code) (u : List ℕ) (a d : ℕ) → sized_by w n c o ≡ sized u a d
      → (t : Code) × (o ≡ Meant.done t u) × (a ≡ capped top (n + weighted w (λ j. amount own 2 codes j t)))
      × (d ≡ capped top (c + weighted w (λ j. amount (λ a. 1) 0 codes j t)))
  by_done w n c (Meant.done t r) u a d e = (t, cc, cc, cc)
  by_done w n c Meant.deep u a d e = let z : ◌≡◌ {A = ℕ} 0 1 = cc in absurd (omega arith)
  by_done w n c Meant.broken u a d e = let z : ◌≡◌ {A = ℕ} 0 1 = cc in absurd (omega arith)

  by_deep : (w : Weights) (n c : ℕ) (o : Meant.Read Code) → sized_by w n c o ≡ deep → o ≡ Meant.deep
  by_deep w n c (Meant.done a r) e = let z : ◌≡◌ {A = ℕ} 0 1 = cc in absurd (omega arith)
  by_deep w n c Meant.deep e = refl
  by_deep w n c Meant.broken e = let z : ◌≡◌ {A = ℕ} 0 1 = cc in absurd (omega arith)

  by_broken : (w : Weights) (n c : ℕ) (o : Meant.Read Code) → sized_by w n c o ≡ broken → o ≡ Meant.broken
  by_broken w n c (Meant.done a r) e = let z : ◌≡◌ {A = ℕ} 0 1 = cc in absurd (omega arith)
  by_broken w n c Meant.deep e = let z : ◌≡◌ {A = ℕ} 0 1 = cc in absurd (omega arith)
  by_broken w n c Meant.broken e = refl

  -- A token comes to two bytes and no clause, by every number.
  abbrev Two : Meant.Read Code → Type 0
  Two (Meant.done a r) = ((j : ℕ) → amount own 2 codes j a ≡ 2) × ((j : ℕ) → amount (λ a. 1) 0 codes j a ≡ 0)
  Two Meant.deep = Unit {0}
  Two Meant.broken = Unit {0}

  token_two : (c : Range) (u : List ℕ) → Two (read_token (some c) u)
  unfolding read_token amount
  token_two c [] = tt
  token_two c (x ∷ []) = tt
  token_two c (x ∷ y ∷ u) = go (in_range c (x * 256 + y))
    where
      go : (t : Bool) → Two (elim t [ true ↦ Meant.done (token (x * 256 + y)) u | false ↦ Meant.broken ])
      go true = (λ j. refl, λ j. refl)
      go false = tt

  past_two : (k : ℕ) (u : List ℕ) → Two (past_levels current Meant.tree f.source k u)
  unfolding past_levels
  past_two k u = go (range_of f.source k)
    where
      go : (o : Option Range) → Two (elim o [ some c ↦ read_token (some c) u | none ↦ Meant.deep ])
      go none = tt
      go (some c) = token_two c u

  leaf_adds : (w : Weights) (n c : ℕ) (x y : ℕ → ℕ) → ((j : ℕ) → x j ≡ 2) → ((j : ℕ) → y j ≡ 0)
      → (capped top (capped top n + sum_of top w * 2) ≡ capped top (n + weighted w x)) × (capped top c ≡ capped top (c + weighted w y))
  unfolding sum_of
  leaf_adds w n c x y h k =
      let a = weighted_times w 2 in
      let b = weighted_alike w x w (λ j. 2) (λ j. ap (λ (i : ℕ). w j * i) (h j)) in
      let d = weighted_alike w y w (λ j. 0) (λ j. ap (λ (i : ℕ). w j * i) (k j)) in
      let e = weighted_none w in
      (omega arith, omega arith)

  leaf_same : (b : List ℕ) (w : Weights) (n c : ℕ) (r : Read) (o : Meant.Read Code) → Two o → rest_at b r ≡ rest_of o
      → sized_at b (leaf_down top w (capped top n) (capped top c) r) ≡ sized_by w n c o
  leaf_same b w n c (Ok e) o h y =
      let d = done_of o (drop e b) (sym y) in
      let two : ((j : ℕ) → amount own 2 codes j d.0 ≡ 2) × ((j : ℕ) → amount (λ a. 1) 0 codes j d.0 ≡ 0) = rw d.1 at h in
      let a = leaf_adds w n c (λ j. amount own 2 codes j d.0) (λ j. amount (λ a. 1) 0 codes j d.0) two.0 two.1 in
      rw d.1 (λ x. sized (drop e b) (a.0 x) (a.1 x))
  leaf_same b w n c (Err Deep) o h y = rw (deep_of o (sym y))
  leaf_same b w n c (Err Broken) o h y = rw (broken_of o (sym y))

-- What the tables give: the weights of a code's own bytes and of operands.
module _ (t : Tables) (width : ℕ) (index : List ℕ) (f : Translation) (top : ℕ) (w : Counted t width index f) (some-width : 0 < width) (narrow : width ≤ 256) where
  abbrev weighing : Weighing
  weighing = weigh_at t top width

  -- With weights for the numbers of a kind only, what is counted for these is enough.
  alike : (v : Weights) (k : ℕ) → Supported f top v k → (x y : ℕ → ℕ) → ((j u : ℕ) → mapping_of f.body k j ≡ some u → x j ≡ y j) → weighted v x ≡ weighted v y
  alike v k s x y h = weighted_alike v x v y (λ j. go j (mapping_of f.body k j) refl)
    where
      go : (j : ℕ) (o : Option ℕ) → mapping_of f.body k j ≡ o → v j * x j ≡ v j * y j
      go j none e = none_of (x j) (s j e) ∙ sym (none_of (y j) (s j e))
      go j (some u) e = ap (λ (i : ℕ). v j * i) (h j u e)

  module _ (k p : ℕ) (ks : List ℕ) (hk : k < 32) (hp : p < 256) (there : arguments_of f.source k p ≡ some ks) (v : Weights) (s : Supported f top v k) where
    abbrev place : ℕ
    place = get_or index (production_key k p) 0

    own_weight : weighing (place + 3) v 0 ≡ capped top (weighted v (λ j. own (clauses_of f k p j)))
    unfolding weigh_at
    own_weight =
        rw (lt-ltb 0 width some-width)
        (ap (capped top) (alike v k s (λ j. times_at t (place + 3) (256 * j + 0)) (λ j. own (clauses_of f k p j)) (λ j u e. w.owns k p j u ks hk hp there e)))

    -- What is used by a number that the argument's kind lacks.
    none_used : (i m : ℕ) → ((u : ℕ) → kind_at (uses_of f k p) (1 + i) m ≡ some u → ⊥) → (j : ℕ) → uses (1 + i) m (clauses_of f k p j) ≡ 0
    unfolding uses
    none_used i m off j =
        clause_cases f k p j (λ (a : Code). uses (1 + i) m a ≡ 0) refl (λ a d. unused f.target (uses_of f k p) (1 + i) m off d)

    nothing : (x : ℕ → ℕ) → ((j : ℕ) → x j ≡ 0) → capped top (weighted v x) ≡ 0
    nothing x h = let z = weighted_zero v x (λ j. of_none (v j) (h j)) in omega arith

    use_weight : (i m : ℕ) → i < length ks → weighing (place + 4 + i) v m ≡ capped top (weighted v (λ j. uses (1 + i) m (clauses_of f k p j)))
    unfolding weigh_at
    use_weight i m h =
        by_test (ltb m width)
        (λ e.
        let l = ltb-true m width e in
        rw e (ap (capped top) (alike v k s (λ j. times_at t (place + 4 + i) (256 * j + m)) (λ j. uses (1 + i) m (clauses_of f k p j))
        (λ j u d. w.used k p j u ks hk hp there d i m h (omega arith)))))
        (λ e.
        let l = ltb-false m width e in
        rw e (sym (nothing (λ j. uses (1 + i) m (clauses_of f k p j))
        (none_used i m (λ u d. let o = use_of_lem f k p ks there (1 + i) m u d in let y = w.narrow o.2.0 m u o.2.1 in omega arith)))))

    -- The weights of an operand are for the numbers of its kind.
    use_supported : (i c : ℕ) → get_elem? ks i ≡ some c → Supported f top (weighing (place + 4 + i) v) c
    use_supported i c e m lacks =
        use_weight i m (get_inside ks i c e)
        ∙ nothing (λ j. uses (1 + i) m (clauses_of f k p j))
        (none_used i m (λ u d. none_some (sym lacks ∙ (sym (kind_use (mapping_of f.body) ks i m c e) ∙ at_use i m u d))))
      where
        at_use : (i m u : ℕ) → kind_at (uses_of f k p) (1 + i) m ≡ some u → kind_at (map (mapping_of f.body) ks) (suc i) m ≡ some u
        at_use i m u d =
            let z : 1 + i ≡ suc i = omega arith in
            subst (λ (r : Uses). kind_at r (suc i) m ≡ some u) (uses_are f k p ks there) (subst (λ (x : ℕ). kind_at (uses_of f k p) x m ≡ some u) z d)

-- Operands, and what else stands at a level, where the levels below are measured alike.
module _ (s index : List ℕ) (t : Tables) (width : ℕ) (b : List ℕ) (f : Translation) (z : Indexed index s f.source) (w : Counted t width index f)
    (some-width : 0 < width) (narrow : width ≤ 256) (bytes : (i : ℕ) → get_or b i 0 < 256) (top : ℕ)
    (m : Weights → ℕ → ℕ → ℕ → ℕ → Measured) (g : ℕ → List ℕ → Meant.Read Code)
    (below : (v : Weights) (k at n c : ℕ) → k < 32 → Supported f top v k
    → sized_at b (m v k at (capped top n) (capped top c)) ≡ sized_by f top v n c (g k (drop at b))) where
  abbrev by : Weighing
  by = weigh_at t top width

  -- What operands come to, with weights u, on top of n and c.
  abbrev sized_all : (ℕ → ℕ → ℕ) → ℕ → ℕ → Meant.Read Codes → Sized
  sized_all u n c (Meant.done x r) =
      sized r (capped top (n + amount_all own 2 (clauses_of f) u x)) (capped top (c + amount_all (λ a. 1) 0 (clauses_of f) u x))
  sized_all u n c Meant.deep = deep
  sized_all u n c Meant.broken = broken

  all_made : (u : ℕ → ℕ → ℕ) (n c : ℕ) (a : Code) (o : Meant.Read Codes)
      → sized_all u n c (and_then o λ x r. Meant.done (cons a x) r)
      ≡ sized_all (λ i by. u (suc i) by) (n + weighted (u 0) (λ j. amount own 2 (clauses_of f) j a)) (c + weighted (u 0) (λ j. amount (λ a. 1) 0 (clauses_of f) j a)) o
  unfolding amount_all
  all_made u n c a (Meant.done x r) =
      let p : n + (weighted (u 0) (λ j. amount own 2 (clauses_of f) j a) + amount_all own 2 (clauses_of f) (λ i by. u (suc i) by) x)
      ≡ n + weighted (u 0) (λ j. amount own 2 (clauses_of f) j a) + amount_all own 2 (clauses_of f) (λ i by. u (suc i) by) x = omega arith in
      let q : c + (weighted (u 0) (λ j. amount (λ a. 1) 0 (clauses_of f) j a) + amount_all (λ a. 1) 0 (clauses_of f) (λ i by. u (suc i) by) x)
      ≡ c + weighted (u 0) (λ j. amount (λ a. 1) 0 (clauses_of f) j a) + amount_all (λ a. 1) 0 (clauses_of f) (λ i by. u (suc i) by) x = omega arith in
      λ i. sized r (capped top (p i)) (capped top (q i))
  all_made u n c a Meant.deep = refl
  all_made u n c a Meant.broken = refl

  meant_next : (u : ℕ → ℕ → ℕ) (n c k : ℕ) (ks r v : List ℕ) (a : Code) → g k r ≡ Meant.done a v
      → sized_all u n c (read_all g (k ∷ ks) r)
      ≡ sized_all (λ i by. u (suc i) by) (n + weighted (u 0) (λ j. amount own 2 (clauses_of f) j a)) (c + weighted (u 0) (λ j. amount (λ a. 1) 0 (clauses_of f) j a)) (read_all g ks v)
  unfolding read_all
  meant_next u n c k ks r v a y = rw y (all_made u n c a (read_all g ks v))

  code_next : (v : Weights) (i q at n c x l d : ℕ) → m (by q v) (get_or s q 0) at n c ≡ measured x l d
      → down_from m s by (suc i) v q at n c ≡ down_from m s by i v (q + 1) x l d
  unfolding down_from
  code_next v i q at n c x l d y = cc

  next : (v : Weights) (u : ℕ → ℕ → ℕ) (r : Measured) (i q : ℕ) (ks : List ℕ) (at n c : ℕ) → u 0 ≡ by q v
      → m (by q v) (get_or s q 0) at (capped top n) (capped top c) ≡ r → sized_at b r ≡ sized_by f top (by q v) n c (g (get_or s q 0) (drop at b))
      → ((e l d : ℕ) → sized_at b (down_from m s by i v (q + 1) e (capped top l) (capped top d)) ≡ sized_all (λ i by. u (suc i) by) l d (read_all g ks (drop e b)))
      → sized_at b (down_from m s by (suc i) v q at (capped top n) (capped top c)) ≡ sized_all u n c (read_all g (get_or s q 0 ∷ ks) (drop at b))
  unfolding down_from read_all
  next v u (Ok r) i q ks at n c eu y h ih =
      let o = by_done f top (by q v) n c (g (get_or s q 0) (drop at b)) (drop r.end b) r.length r.cost (sym h) in
      let x : ℕ = n + weighted (by q v) (λ j. amount own 2 (clauses_of f) j o.0) in
      let x' : ℕ = c + weighted (by q v) (λ j. amount (λ a. 1) 0 (clauses_of f) j o.0) in
      ap (sized_at b) (code_next v i q at (capped top n) (capped top c) r.end r.length r.cost y)
      ∙ ((λ a. sized_at b (down_from m s by i v (q + 1) r.end (o.2 a) (o.3 a)))
      ∙ (ih r.end x x'
      ∙ (sym (λ a. sized_all (λ i by. u (suc i) by) (n + weighted (eu a) (λ j. amount own 2 (clauses_of f) j o.0)) (c + weighted (eu a) (λ j. amount (λ a. 1) 0 (clauses_of f) j o.0)) (read_all g ks (drop r.end b)))
      ∙ sym (meant_next u n c (get_or s q 0) ks (drop at b) (drop r.end b) o.0 o.1))))
  next v u (Err Deep) i q ks at n c eu y h ih = cc (by_deep f top (by q v) n c (g (get_or s q 0) (drop at b)) (sym h))
  next v u (Err Broken) i q ks at n c eu y h ih = cc (by_broken f top (by q v) n c (g (get_or s q 0) (drop at b)) (sym h))

  operands_same : (v : Weights) (u : ℕ → ℕ → ℕ) (i q e at n c : ℕ) → e - q ≡ i → KindsIn s q e → ((j : ℕ) → u j ≡ by (q + j) v)
      → ((j : ℕ) → q + j < e → Supported f top (by (q + j) v) (get_or s (q + j) 0))
      → sized_at b (down_from m s by i v q at (capped top n) (capped top c)) ≡ sized_all u n c (read_all g (slice q e s) (drop at b))
  unfolding down_from read_all amount_all
  operands_same v u zero q e at n c y h eu su =
      (let d : n + 0 ≡ n = omega arith in let d' : c + 0 ≡ c = omega arith in sym (λ i. sized (drop at b) (capped top (d i)) (capped top (d' i))))
      ∙ part_done (λ (ks : List ℕ). sized_all u n c (read_all g ks (drop at b))) s q e _ refl (omega arith)
  operands_same v u (suc i) q e at n c y h eu su =
      let j = h q (omega arith) (omega arith) in
      let k = h (e - 1) (omega arith) (omega arith) in
      let zq : q + 0 ≡ q = omega arith in
      let first : Supported f top (by q v) (get_or s q 0) = rw zq at (su 0 (omega arith)) in
      next v u (m (by q v) (get_or s q 0) at (capped top n) (capped top c)) i q (slice (q + 1) e s) at n c (eu 0 ∙ ap (λ (x : ℕ). by x v) zq) refl
      (below (by q v) (get_or s q 0) at n c j.1 first)
      (λ d l c'. operands_same v (λ i by. u (suc i) by) i (q + 1) e d l c' (omega arith) (λ x a c. h x (omega arith) c)
      (λ j. eu (suc j) ∙ ap (λ (x : ℕ). by x v) (let p : q + suc j ≡ q + 1 + j = omega arith in p))
      (λ j l. let p : q + suc j ≡ q + 1 + j = omega arith in rw p at (su (suc j) (omega arith))))
      ∙ part_next (λ (ks : List ℕ). sized_all u n c (read_all g ks (drop at b))) s q e _ refl (omega arith) (omega arith)

  -- A production name and its operands.
  node_made : (v : Weights) (u : ℕ → ℕ → ℕ) (k p n c : ℕ) (ks : List ℕ) (o : Meant.Read Codes) → Many (length ks) o
      → ((i : ℕ) → i < length ks → (x : ℕ) → u i x ≡ capped top (weighted v (λ j. uses (suc i) x (clauses_of f k p j))))
      → sized_all u (n + weighted v (λ j. own (clauses_of f k p j))) (c + weighted v (λ j. 1)) o ≡ sized_by f top v n c (and_then o λ t r. Meant.done (node k p t) r)
  node_made v u k p n c ks (Meant.done x r) full eu =
      let near : (i : ℕ) → i < many x → (y : ℕ) → capped top (u i y) ≡ capped top (weighted v (λ j. uses (suc i) y (clauses_of f k p j))) =
      λ i l y. capped_twice top (u i y) (weighted v (λ j. uses (suc i) y (clauses_of f k p j))) (eu i (omega arith) y) in
      let a = all_capped own 2 top (clauses_of f) u (λ i by. weighted v (λ j. uses (suc i) by (clauses_of f k p j))) x near in
      let d = node_amount own 2 (clauses_of f) v k p x in
      let a' = all_capped (λ a. 1) 0 top (clauses_of f) u (λ i by. weighted v (λ j. uses (suc i) by (clauses_of f k p j))) x near in
      let d' = node_amount (λ a. 1) 0 (clauses_of f) v k p x in
      let left : capped top (n + weighted v (λ j. own (clauses_of f k p j)) + amount_all own 2 (clauses_of f) u x) ≡ capped top (n + weighted v (λ j. amount own 2 (clauses_of f) j (node k p x))) =
      capped_last top n _ _ _ a ∙ ap (λ (i : ℕ). capped top (n + i)) d in
      let right : capped top (c + weighted v (λ j. 1) + amount_all (λ a. 1) 0 (clauses_of f) u x) ≡ capped top (c + weighted v (λ j. amount (λ a. 1) 0 (clauses_of f) j (node k p x))) =
      capped_last top c _ _ _ a' ∙ ap (λ (i : ℕ). capped top (c + i)) d' in
      λ i. sized r (left i) (right i)
  node_made v u k p n c ks Meant.deep full eu = refl
  node_made v u k p n c ks Meant.broken full eu = refl

  name_found : (v : Weights) (place k p at n c : ℕ) → place ≡ get_or index (production_key k p) 0 → k < 32 → p < 256 → Supported f top v k
      → arguments_of f.source k p ≡ arguments_before s place
      → sized_at b (weigh_down m s by top v (capped top n) (capped top c) (operands_at s place at)) ≡ sized_by f top v n c (read_operands g k p (arguments_before s place) (drop at b))
  unfolding operands_at read_operands field_end
  name_found v zero k p at n c e h j sv there = cc (eq-eqb 0 0 refl)
  name_found v (suc q) k p at n c e h j sv there =
      let pos : suc q ≡ 0 → ⊥ = λ w. omega arith in
      let from : suc q + 4 ≡ q + 5 = omega arith in
      let before : q + 5 - 1 ≡ suc q + 3 = omega arith in
      let stop : suc q + 2 + pair_at s (suc q) ≡ q + 3 + pair_at s (q + 1) =
      (let n : pair_at s (suc q) ≡ pair_at s (q + 1) = ap (pair_at s) (omega arith) in omega arith) in
      let ks : List ℕ = slice (q + 5) (q + 3 + pair_at s (q + 1)) s in
      let kin = Read-laws.kinds_in index s z.sound refl h j e pos refl in
      rw (ne_eqb (suc q) 0 pos, stop, from, before)
      (sums v q k p at n c e h j sv there
      ∙ (operands_same v (λ i. by (q + 5 + i) v) _ (q + 5) (q + 3 + pair_at s (q + 1)) at (n + weighted v (λ j. own (clauses_of f k p j))) (c + weighted v (λ j. 1)) refl
      (λ x a c. kin x (omega arith) (omega arith)) (λ j. refl) (λ i l. operand v q k p e h j sv there i l (λ x a c. kin x (omega arith) (omega arith)))
      ∙ node_made v (λ i. by (q + 5 + i) v) k p n c ks (read_all g ks (drop at b)) (read_many g ks (drop at b))
      (λ i l x. used_by v q k p e h j sv there i l x)))
    where
      sums : (v : Weights) (q k p at n c : ℕ) → suc q ≡ get_or index (production_key k p) 0 → k < 32 → p < 256 → Supported f top v k
          → arguments_of f.source k p ≡ some (slice (q + 5) (q + 3 + pair_at s (q + 1)) s)
          → sized_at b (down_from m s by (q + 3 + pair_at s (q + 1) - (q + 5)) v (q + 5) at (capped top (capped top n + by (suc q + 3) v 0)) (capped top (capped top c + sum_of top v)))
          ≡ sized_at b (down_from m s by (q + 3 + pair_at s (q + 1) - (q + 5)) v (q + 5) at (capped top (n + weighted v (λ j. own (clauses_of f k p j)))) (capped top (c + weighted v (λ j. 1))))
      sums v q k p at n c e h j sv there =
          let o : by (suc q + 3) v 0 ≡ capped top (weighted v (λ j. own (clauses_of f k p j))) =
          rw e (own_weight t width index f top w some-width narrow k p _ h j there v sv) in
          let a : capped top (capped top n + by (suc q + 3) v 0) ≡ capped top (n + weighted v (λ j. own (clauses_of f k p j))) = capped_part top n _ _ o in
          let d : capped top (capped top c + sum_of top v) ≡ capped top (c + weighted v (λ j. 1)) = capped_part top c _ _ (sum_is top v) in
          λ i. sized_at b (down_from m s by (q + 3 + pair_at s (q + 1) - (q + 5)) v (q + 5) at (a i) (d i))

      used_by : (v : Weights) (q k p : ℕ) → suc q ≡ get_or index (production_key k p) 0 → k < 32 → p < 256 → Supported f top v k
          → arguments_of f.source k p ≡ some (slice (q + 5) (q + 3 + pair_at s (q + 1)) s) → (i : ℕ) → i < length (slice (q + 5) (q + 3 + pair_at s (q + 1)) s) → (x : ℕ)
          → by (q + 5 + i) v x ≡ capped top (weighted v (λ j. uses (suc i) x (clauses_of f k p j)))
      used_by v q k p e h j sv there i l x =
          let from : q + 5 + i ≡ suc q + 4 + i = omega arith in
          let one : suc i ≡ 1 + i = omega arith in
          rw (from, one, e) (use_weight t width index f top w some-width narrow k p _ h j there v sv i x l)

      operand : (v : Weights) (q k p : ℕ) → suc q ≡ get_or index (production_key k p) 0 → k < 32 → p < 256 → Supported f top v k
          → arguments_of f.source k p ≡ some (slice (q + 5) (q + 3 + pair_at s (q + 1)) s) → (i : ℕ) → q + 5 + i < q + 3 + pair_at s (q + 1)
          → KindsIn s (q + 5) (q + 3 + pair_at s (q + 1)) → Supported f top (by (q + 5 + i) v) (get_or s (q + 5 + i) 0)
      operand v q k p e h j sv there i l kin =
          let from : q + 5 + i ≡ suc q + 4 + i = omega arith in
          let last = kin (q + 3 + pair_at s (q + 1) - 1) (omega arith) (omega arith) in
          let one = part_get s (q + 5) (q + 3 + pair_at s (q + 1)) i (omega (arith, last.0)) l in
          let r = use_supported t width index f top w some-width narrow k p _ h j there v sv i (get_or s (q + 5 + i) 0) one in
          λ x y. (let a : by (q + 5 + i) v x ≡ by (get_or index (production_key k p) 0 + 4 + i) v x = ap (λ (d : ℕ). by d v x) (from ∙ ap (λ (d : ℕ). d + 4 + i) e) in a) ∙ r x y

  name_same : (v : Weights) (k at n c : ℕ) → k < 32 → Supported f top v k
      → sized_at b (weigh_down m s by top v (capped top n) (capped top c) (name_at s index k b at)) ≡ sized_by f top v n c (read_node g f.source k (drop at b))
  unfolding name_at read_node
  name_same v k at n c h sv =
      by_test (leb (length b) at)
      (λ e. cc (drop_of_length-le b (leb-true _ _ e)))
      (λ e.
      let i : at < length b = leb-false _ _ e in
      let there = z.arguments k (get_or b at 0) h (bytes at) in
      rw (front b at i, lt-leb (length b) at i, there)
      (name_found v (get_or index (production_key k (get_or b at 0)) 0) k (get_or b at 0) (at + 1) n c refl h (bytes at) sv there))

  -- One level of a tree.
  token_same : (v : Weights) (p k at n c : ℕ) → suc p ≡ get_or index k 0 → k < 32
      → sized_at b (leaf_down top v (capped top n) (capped top c) (token_at s (suc p) b at)) ≡ sized_by f top v n c (read_token (range_before s (suc p)) (drop at b))
  unfolding read_at Meant.read_by read_level node_at read_tree_level
  token_same v p k at n c e h =
      let pos : suc p ≡ 0 → ⊥ = λ v. omega arith in
      let r : rest_at b (read_at Tree s index [] b 1 k at) ≡ rest_of (Meant.read Meant.tree f.source [] 1 k (drop at b)) =
      read_same Tree s index [] b f.source z bytes 1 k at h in
      let q : rest_at b (token_at s (suc p) b at) ≡ rest_of (read_token (range_before s (suc p)) (drop at b)) =
      cc (Read-laws.tree_token s index k b at refl e pos refl, z.range k h) in
      leaf_same f top b v n c (token_at s (suc p) b at) (read_token (range_before s (suc p)) (drop at b)) (token_two f top _ (drop at b)) q

  level_same : (v : Weights) (place k at n c : ℕ) → place ≡ get_or index k 0 → k < 32 → Supported f top v k
      → sized_at b (weigh_down m s by top v (capped top n) (capped top c) (node_at Tree s index [] k b at)) ≡ sized_by f top v n c (read_tree_level g f.source k (drop at b))
  unfolding node_at read_tree_level
  level_same v zero k at n c e h sv = cc (Read-laws.tree_name s index k b at refl e refl refl, name_same v k at n c h sv, z.range k h)
  level_same v (suc p) k at n c e h sv =
      let pos : suc p ≡ 0 → ⊥ = λ v. omega arith in
      cc (Read-laws.tree_token s index k b at refl e pos refl, token_same v p k at n c e h, z.range k h)

-- Measuring by position is measuring what is read.
measure_same : (s index : List ℕ) (t : Tables) (width : ℕ) (b : List ℕ) (f : Translation) → Indexed index s f.source → Counted t width index f
    → 0 < width → width ≤ 256 → ((i : ℕ) → get_or b i 0 < 256) → (top i : ℕ) (v : Weights) (k at n c : ℕ) → k < 32 → Supported f top v k
    → sized_at b (down_at s index (weigh_at t top width) b top i v k at (capped top n) (capped top c)) ≡ sized_by f top v n c (Meant.read Meant.tree f.source [] i k (drop at b))
unfolding down_at Meant.read_by read_level read_at
measure_same s index t width b f z w some-width narrow bytes top zero v k at n c h sv =
    leaf_same f top b v n c (past_at Tree s index k b at) (past_levels current Meant.tree f.source k (drop at b)) (past_two f top k (drop at b))
    (read_same Tree s index [] b f.source z bytes 0 k at h)
measure_same s index t width b f z w some-width narrow bytes top (suc i) v k at n c h sv =
    level_same s index t width b f z w some-width narrow bytes top (down_at s index (weigh_at t top width) b top i) (Meant.read Meant.tree f.source [] i)
    (λ v j e n c l sv. measure_same s index t width b f z w some-width narrow bytes top i v j e n c l sv) v (get_or index k 0) k at n c refl h sv

-- Once by a number, on top of nothing: the length and the cost of the run by it.
once_is : (j : ℕ) (x : ℕ → ℕ) → j < numbers → weighted (once_by j) x ≡ x j
once_is j x h =
    weighted_pick (once_by j) x j h (λ i ne. none_of (x i) (rw (ne_eqb j i ne)))
    ∙ once_of (x j) (rw (eq-eqb j j refl))

measured_is : (f : Translation) (top j : ℕ) → j < numbers
    → ((k p i : ℕ) (ks : List ℕ) → arguments_of f.source k p ≡ some ks → Bounded (length ks) (clauses_of f k p i))
    → (i k : ℕ) (s : List ℕ) (o : Meant.Read Code) → Meant.read Meant.tree f.source [] i k s ≡ o → sized_by f top (once_by j) 0 0 o ≡ sized_of top f j o
unfolding transform
measured_is f top j h bounds i k s (Meant.done t r) e =
    let d = (read_done Meant.tree f.source [] i k s t r e).0 in
    let a = once_is j (λ i. amount own 2 (clauses_of f) i t) h in
    let b = once_is j (λ i. amount (λ c. 1) 0 (clauses_of f) i t) h in
    let x = run_amount f.source (clauses_of f) bounds j d in
    let y = cost_amount f.source (clauses_of f) bounds j d in
    let left : capped top (0 + weighted (once_by j) (λ i. amount own 2 (clauses_of f) i t)) ≡ capped top (size (run (clauses_of f) j t)) = omega arith in
    let right : capped top (0 + weighted (once_by j) (λ i. amount (λ c. 1) 0 (clauses_of f) i t)) ≡ capped top (cost (clauses_of f) j t) = omega arith in
    λ z. sized r (left z) (right z)
measured_is f top j h bounds i k s Meant.deep e = refl
measured_is f top j h bounds i k s Meant.broken e = refl

-- measure
pub same_as : (s index counts entries b : List ℕ) (f : Translation) → Indexed index s f.source → {width : ℕ} → Counted (counts, entries) width index f
    → ((i : ℕ) → get_or b i 0 < 256) → (top i k at j : ℕ) (v : Weights) → k < 32 → 0 < width → width ≤ 256
    → (u : ℕ) → mapping_of f.body k j ≡ some u → (j < width → v ≡ once_by j) → {r : Measured}
    → r ≡ down_at s index (weigh_at (counts, entries) top width) b top i v k at 0 0
    → sized_at b r ≡ sized_of top f j (Meant.read Meant.tree f.source [] i k (drop at b))
same_as s index counts entries b f z {width} w bytes top i k at j v h some-width narrow u maps begins e =
    let l = w.narrow k j u maps in
    let zero-top : 0 ≡ capped top 0 = omega arith in
    ap (sized_at b) (e ∙ (λ x. down_at s index (weigh_at (counts, entries) top width) b top i (begins l x) k at (zero-top x) (zero-top x)))
    ∙ (measure_same s index (counts, entries) width b f z w some-width narrow bytes top i (once_by j) k at 0 0 h
    (λ m lacks. rw (ne_eqb j m (λ d. none_some (sym lacks ∙ (ap (mapping_of f.body k) (sym d) ∙ maps)))))
    ∙ measured_is f top j (omega arith)
    (λ c p a ks there. clause_cases f c p a (λ (x : Code). Bounded (length ks) x) tt
    (λ x d. bounded f.target (uses_of f c p) (length ks)
    (λ q m y g. let o = use_of_lem f c p ks there q m y g in (o.0, o.1, (let n = w.narrow o.2.0 m y o.2.1 in omega arith))) d))
    i k (drop at b) (Meant.read Meant.tree f.source [] i k (drop at b)) refl)

module _ (s index : List ℕ) (v : Weighing) (b : List ℕ) (top : ℕ) (w : Weights) (k at sum cost : ℕ) {n : ℕ} where
  module _ (some-levels : 0 < n) (x : Step) (goes : Goes s index v b top w k at sum cost x) where
    down_goes : goes_on s index v b top (n - 1) w x ≡ down_at s index v b top n w k at sum cost
    down_goes =
        let z : suc (n - 1) ≡ n = omega arith in
        goes (n - 1) ∙ ap (λ (m : ℕ). down_at s index v b top m w k at sum cost) z

    pub down_err : {e : ReadError} → x ≡ Err e → Err e ≡ down_at s index v b top n w k at sum cost
    down_err {e} y = (let z : Err e ≡ goes_on s index v b top (n - 1) w x = rw y in z) ∙ down_goes

    pub down_rows : {here : Row} {r : Measured} → x ≡ Ok here → (u : Weights) → u ≡ w
        → r ≡ down_row s index v b top (n - 1) u here.first here.last here.done.end here.done.length here.done.cost → r ≡ down_at s index v b top n w k at sum cost
    down_rows {here} y u same h =
        h ∙ (ap (λ (u : Weights). down_row s index v b top (n - 1) u here.first here.last here.done.end here.done.length here.done.cost) same
        ∙ ((let z : down_row s index v b top (n - 1) w here.first here.last here.done.end here.done.length here.done.cost ≡ goes_on s index v b top (n - 1) w x = rw y in z) ∙ down_goes))

-- What was read, by what was measured of it.
module _ (f : Translation) (top j : ℕ) where
  pub sized_done : (o : Meant.Read Code) (u : List ℕ) (n c : ℕ) → sized_of top f j o ≡ sized u n c
      → (a : Code) × (o ≡ Meant.done a u) × (n ≡ capped top (size (transform f j a))) × (c ≡ capped top (cost (clauses_of f) j a))
  sized_done (Meant.done a r) u n c e = (a, cc, cc, cc)
  sized_done Meant.deep u n c e = let z : ◌≡◌ {A = ℕ} 0 1 = cc in absurd (omega arith)
  sized_done Meant.broken u n c e = let z : ◌≡◌ {A = ℕ} 0 1 = cc in absurd (omega arith)

  pub sized_deep : (o : Meant.Read Code) → sized_of top f j o ≡ deep → o ≡ Meant.deep
  sized_deep (Meant.done a r) e = let z : ◌≡◌ {A = ℕ} 0 1 = cc in absurd (omega arith)
  sized_deep Meant.deep e = refl
  sized_deep Meant.broken e = let z : ◌≡◌ {A = ℕ} 0 1 = cc in absurd (omega arith)

  pub sized_broken : (o : Meant.Read Code) → sized_of top f j o ≡ broken → o ≡ Meant.broken
  sized_broken (Meant.done a r) e = let z : ◌≡◌ {A = ℕ} 0 1 = cc in absurd (omega arith)
  sized_broken Meant.deep e = let z : ◌≡◌ {A = ℕ} 0 1 = cc in absurd (omega arith)
  sized_broken Meant.broken e = refl
