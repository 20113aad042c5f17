-- The counts over a body are those of each clause's code, where the tables want them.
use Prim.Native.Nat.{ℕ, zero, suc, ◌+◌, ◌*◌, ◌-◌, ◌<◌, ◌≤◌}
use mathlib.Core.Path.{◌≡◌, refl, sym, ap, ◌∙◌}
use mathlib.Core.Logic.{◌⊎◌, inl, inr, ⊎_elim}
use mathlib.Core.List.{List, [], ◌∷◌, ◌++◌, append-nil}
use mathlib.Core.Bool.{cond}
use mathlib.Core.Option.{some}
use native.Mathlib.Omega.{arith}
use lib.ListN.{length, get_or, get_elem?, take, drop, length-take, length-drop, take-append-drop}
use lib.Seq.{slice, length-slice, get_or-drop, get_or-take}
use lib.Dec.{eqb}
use borrow.Author.Tests.{eqb-true, eqb-false}
use Rattle.format_fields.specs.Fields.{pair_at}
use Rattle.format_fields.specs.Inner.Places.{field_end, places, order_at}
use Rattle.format_fields.proofs.Truth.{Mem, by_test, none_some}
use Rattle.format_fields.proofs.Codec.{Bytes, bytes_from}
use Rattle.format_fields.proofs.Keyed.{From, from_mem}
use Rattle.format_fields.proofs.Lists.{part_is}
use Rattle.format_language.specs.Language.{arguments_of, production_key}
use Rattle.tree_reader.specs.Code.{Code}
use Rattle.tree_reader.specs.Typing.{kind_at, Typed}
use Rattle.tree_reader.specs.Syntax.{write, code, done}
use Rattle.tree_reader.specs.Inner.Index.{Indexed, arguments_before}
use Rattle.tree_reader.proofs.Sound.{read_done}
use Rattle.format_translation.specs.Translation.{Translation, mapped, mapping_of}
use Rattle.format_translation.specs.Running.{code_levels, uses_of, read_clause, clauses_of}
use Rattle.format_translation.proofs.Fitting.{uses_are}
use Rattle.format_translation.proofs.Preserved.{use_kind}
use Rattle.run_measure.specs.Inner.Counting.{Tables, times_at, count_code, count_clause, count_all}
use Rattle.run_measure.proofs.Counts.{code_done}
use Rattle.run_measure.proofs.Codes.{added, code_counted, gain, Sound, sound_on, Able, added_sound, added_times, counted, gain_counted, gain_none}

-- The number of the clause at p, and where its code starts.
abbrev pub number_at : List ℕ → ℕ → ℕ
number_at s p = cond (eqb (get_or s p 0) 0x29) (get_or s (p + 5) 0) 0

abbrev pub start_at : List ℕ → ℕ → ℕ
start_at s p = cond (eqb (get_or s p 0) 0x29) (p + 6) (p + 5)

-- What is known of the clause at p of a body, where f is well formed.
pub record ClauseAt (s : List ℕ) (f : Translation) (p : ℕ) : Type 0 where
  pub kind : get_or s (p + 3) 0 < 32
  pub ends : field_end s p ≤ length s
  pub from : p ≤ start_at s p
  pub past : start_at s p ≤ field_end s p
  pub order : order_at 0x22 s p ≡ (32 + pair_at s (p + 3)) * 256 + number_at s p
  pub code : read_clause f (get_or s (p + 3) 0) (get_or s (p + 4) 0) (number_at s p) (slice (start_at s p) (field_end s p) s)
      ≡ done (clauses_of f (get_or s (p + 3) 0) (get_or s (p + 4) 0) (number_at s p)) []
  pub has : (t : ℕ) × (mapping_of f.body (get_or s (p + 3) 0) (number_at s p) ≡ some t)
  pub counts : (index : List ℕ) (x : Tables) → (get_or index (32 + pair_at s (p + 3)) 0 ≡ 0 → ⊥)
      → count_clause s index p x ≡ count_code s (start_at s p) (field_end s p) (get_or index (32 + pair_at s (p + 3)) 0 + 3) (256 * number_at s p) x

-- The field at p, which is not a clause or is not found, counts for nothing.
abbrev pub Nothing : List ℕ → ℕ → Type 0
Nothing s p = (index : List ℕ) (x : Tables) → count_clause s index p x ≡ x

-- The bytes s hold the clauses of f, by rising key, one for each production of its source and number of its result.
pub record Clauses (s : List ℕ) (f : Translation) : Type 0 where
  pub item : (p : ℕ) → Mem p (places s) → ClauseAt s f p ⊎ Nothing s p
  pub unknown : (p : ℕ) (index : List ℕ) (x : Tables) → get_or index (32 + pair_at s (p + 3)) 0 ≡ 0 → count_clause s index p x ≡ x
  pub every : (k n j t : ℕ) (ks : List ℕ) → arguments_of f.source k n ≡ some ks → mapping_of f.body k j ≡ some t
      → (p : ℕ) × Mem p (places s) × ClauseAt s f p × (get_or s (p + 3) 0 ≡ k) × (get_or s (p + 4) 0 ≡ n) × (number_at s p ≡ j)
  pub rises : From (order_at 0x22 s) 0 (places s)
  pub bytes : (k j t : ℕ) → mapping_of f.body k j ≡ some t → j < 256

-- The fields that the index finds do not overlap.
pub record Apart (index s : List ℕ) : Type 0 where
  pub apart : (i j : ℕ) → (i ≡ j → ⊥) → 0 < get_or index i 0 → 0 < get_or index j 0
      → (get_or index i 0 + 2 + pair_at s (get_or index i 0) < get_or index j 0) ⊎ (get_or index j 0 + 2 + pair_at s (get_or index j 0) < get_or index i 0)

-- A part of a list, in front of the rest, and its bytes.
part_front : (s : List ℕ) (q e : ℕ) → q ≤ e → e ≤ length s → drop q s ≡ slice q e s ++ drop (e - q) (drop q s)
part_front s q e h k =
    let d : q + (e - q) ≡ e = omega arith in
    let p : take (e - q) (drop q s) ≡ slice q e s = part_is s q (e - q) (omega arith) ∙ ap (λ (j : ℕ). slice q j s) d in
    sym (take-append-drop (e - q) (drop q s)) ∙ ap (λ (l : List ℕ). l ++ drop (e - q) (drop q s)) p

part_bytes : (s : List ℕ) (q e : ℕ) → e ≤ length s → ((i : ℕ) → get_or s i 0 < 256) → Bytes (slice q e s)
part_bytes s q e k bytes =
    bytes_from (slice q e s)
    (λ i h.
    let n = length-slice q e s k in
    let g : get_or (slice q e s) i 0 ≡ get_or s (q + i) 0 = get_or-drop q (take e s) i 0 ∙ get_or-take e s (q + i) 0 (omega arith) in
    rw g (bytes (q + i)))

part_most : (s : List ℕ) (q e : ℕ) → length (slice q e s) ≤ e - q
part_most s q e = simp (length-drop, length-take) (omega arith)

-- The arguments of a production that the index finds are at most as many as its field has room for.
arguments_most : (s : List ℕ) (place : ℕ) (ks : List ℕ) → arguments_before s place ≡ some ks → (0 < place) × (length ks ≤ pair_at s place - 2)
unfolding field_end
arguments_most s zero ks e = none_some e
arguments_most s (suc q) ks e =
    let d : slice (q + 5) (q + 3 + pair_at s (q + 1)) s ≡ ks = cc in
    let h = part_most s (q + 5) (q + 3 + pair_at s (q + 1)) in
    let n : pair_at s (suc q) ≡ pair_at s (q + 1) = ap (pair_at s) (omega arith) in
    let l : length ks ≡ length (slice (q + 5) (q + 3 + pair_at s (q + 1)) s) = ap length (sym d) in
    omega arith

some_arguments : (s : List ℕ) (place : ℕ) → (place ≡ 0 → ⊥) → (ks : List ℕ) × (arguments_before s place ≡ some ks)
some_arguments s zero h = absurd (h refl)
some_arguments s (suc q) h = (slice (q + 5) (field_end s q) s, refl)

pub clause_pair : (s : List ℕ) (p : ℕ) → pair_at s (p + 3) ≡ get_or s (p + 3) 0 * 256 + get_or s (p + 4) 0
unfolding pair_at
clause_pair s p = let d : p + 3 + 1 ≡ p + 4 = omega arith in rw d

pub get_inside : {A : Type 0} (r : List A) (i : ℕ) (k : A) → get_elem? r i ≡ some k → i < length r
get_inside [] i k e = none_some e
get_inside (x ∷ r) zero k e = omega arith
get_inside (x ∷ r) (suc i) k e = let h = get_inside r i k e in omega arith

-- A use of a clause: its argument is one of the production's, and that one's kind has the number.
pub use_of_lem : (f : Translation) (k p : ℕ) (ks : List ℕ) → arguments_of f.source k p ≡ some ks → (i j t : ℕ) → kind_at (uses_of f k p) i j ≡ some t
    → (1 ≤ i) × (i ≤ length ks) × ((c : ℕ) × (mapping_of f.body c j ≡ some t))
use_of_lem f k p ks there zero j t e = none_some e
use_of_lem f k p ks there (suc i) j t e =
    let u = use_kind (mapping_of f.body) ks i j t (rw (uses_are f k p ks there) at e) in
    (omega arith, (let z = get_inside ks i u.0 u.1 in omega arith), (u.0, u.2))

-- Places one behind the other, from q on.
abbrev pub Along : List ℕ → ℕ → List ℕ → Type 0
Along s q [] = Unit {0}
Along s q (p ∷ l) = (q ≤ p) × Along s (field_end s p) l

module _ (source index s : List ℕ) (f : Translation) (z : Indexed index source f.source) (x : Apart index source)
    (w : Clauses s f) (bytes : (i : ℕ) → get_or s i 0 < 256) (short : length s ≤ 4096)
    (m : ℕ) (plain : (m ≡ 7168) ⊎ ((k j t : ℕ) → mapping_of f.body k j ≡ some t → j ≡ 0)) where
  -- The key of the clause at p, and where the index finds it.
  abbrev key : ℕ → ℕ
  key p = 32 + pair_at s (p + 3)

  abbrev place : ℕ → ℕ
  place j = get_or index j 0

  abbrev code_of : ℕ → Code
  code_of p = clauses_of f (get_or s (p + 3) 0) (get_or s (p + 4) 0) (number_at s p)

  -- A place that is found leaves room for the production's arguments.
  room_of : (k n : ℕ) (ks : List ℕ) → k < 32 → n < 256 → arguments_of f.source k n ≡ some ks
      → (0 < place (production_key k n)) × (length ks ≤ pair_at source (place (production_key k n)) - 2)
      × ((i : ℕ) → i ≤ length ks → place (production_key k n) + 3 + i < 1024)
  room_of k n ks hk hn there =
      let most = arguments_most source (place (production_key k n)) ks (sym (z.arguments k n hk hn) ∙ there) in
      let short = z.sound.short in
      (most.0, most.1, λ i h. let r = go i h most in omega arith)
    where
      go : (i : ℕ) → i ≤ length ks → (0 < place (production_key k n)) × (length ks ≤ pair_at source (place (production_key k n)) - 2)
          → place (production_key k n) + 3 + i < length source
      go zero h most = let v = z.sound.name k n hk hn most.0 in omega arith
      go (suc i) h most =
          let q = most.1 in
          (z.sound.operands k n hk hn most.0 (place (production_key k n) + 3 + suc i) (omega arith) (omega arith)).0

  -- The clause at p, where it is found, adds what its code counts for.
  module _ (p : ℕ) (at_p : ClauseAt s f p) (found : place (key p) ≡ 0 → ⊥) where
    abbrev k : ℕ
    k = get_or s (p + 3) 0

    abbrev n : ℕ
    n = get_or s (p + 4) 0

    abbrev to : ℕ
    to = place (key p) + 3

    abbrev first : ℕ
    first = 256 * number_at s p

    abbrev start : ℕ
    start = start_at s p

    is_key : key p ≡ production_key k n
    is_key = ap (λ (m : ℕ). 32 + m) (clause_pair s p)

    arguments : (ks : List ℕ) × (arguments_of f.source k n ≡ some ks)
    arguments =
        let a = some_arguments source (place (key p)) found in
        let e : arguments_of f.source k n ≡ arguments_before source (place (key p)) = rw is_key (z.arguments k n at_p.kind (bytes (p + 4))) in
        (a.0, e ∙ a.1)

    rooms : (0 < place (key p)) × (length arguments.0 ≤ pair_at source (place (key p)) - 2) × ((i : ℕ) → i ≤ length arguments.0 → to + i < 1024)
    rooms = rw is_key (room_of k n arguments.0 at_p.kind (bytes (p + 4)) arguments.1)

    used : (i j t : ℕ) → kind_at (uses_of f k n) i j ≡ some t → (1 ≤ i) × (i ≤ length arguments.0) × ((c : ℕ) × (mapping_of f.body c j ≡ some t))
    used i j t e = use_of_lem f k n arguments.0 arguments.1 i j t e

    inside : (i j t : ℕ) → kind_at (uses_of f k n) i j ≡ some t → to + i < 1024
    inside i j t e = rooms.2 i (used i j t e).1

    base : to < 1024
    base = let v = rooms.2 0 (omega arith) in omega arith

    able : Able m first (uses_of f k n)
    able =
        ⊎_elim (λ a. inl a)
        (λ a. inr ((let v = a k (number_at s p) at_p.has.0 at_p.has.1 in omega arith), λ i j t e. let u = used i j t e in a u.2.0 j t u.2.1))
        plain

    is_right : Typed f.target (uses_of f k n) (code_of p) (mapped f.body k (number_at s p)) × (slice start (field_end s p) s ≡ write code (code_of p))
    unfolding read_clause
    is_right =
        let r = read_done code f.target (uses_of f k n) code_levels (mapped f.body k (number_at s p)) (slice start (field_end s p) s) (code_of p) [] at_p.code in
        (r.0, (r.2 (part_bytes s start (field_end s p) at_p.ends bytes)).0 ∙ append-nil (write code (code_of p)))

    is_long : start + length (write code (code_of p)) ≡ field_end s p
    is_long =
        let past = at_p.past in
        let d : length (write code (code_of p)) ≡ field_end s p - start = ap length (sym is_right.1) ∙ length-slice start (field_end s p) s at_p.ends in
        omega arith

    step : (t : Tables) → count_clause s index p t ≡ added to first start (code_of p) t
    step t =
        let e : ℕ = field_end s p in
        let d = is_long in
        let front : drop start s ≡ write code (code_of p) ++ drop (e - start) (drop start s) =
        part_front s start e at_p.past at_p.ends ∙ ap (λ (l : List ℕ). l ++ drop (e - start) (drop start s)) is_right.1 in
        at_p.counts index t found
        ∙ (code_counted s e to first (code_of p) start (drop (e - start) (drop start s)) t front (omega arith)
        ∙ code_done s (start + length (write code (code_of p))) e to first (added to first start (code_of p) t) (omega arith))

    step_sound : (t : Tables) → Sound m t p → Sound m (count_clause s index p t) (field_end s p)
    step_sound t h =
        let ends = at_p.ends in
        let d = is_long in
        rw (step t, ← d)
        (added_sound f.target (uses_of f k n) m to first able inside base is_right.0 start t (omega arith) (sound_on h start at_p.from))

    step_times : (t : Tables) → Sound m t p → (q y : ℕ) → q < 1024 → times_at (count_clause s index p t) q y ≡ gain to first q y (code_of p) + times_at t q y
    step_times t h q y l =
        let ends = at_p.ends in
        let d = is_long in
        rw (step t)
        (added_times f.target (uses_of f k n) m to first able inside base is_right.0 start t (omega arith) (sound_on h start at_p.from) q y l)

    -- Where its own counts are.
    step_here : (t : Tables) → Sound m t p → (i j : ℕ) → i ≤ length arguments.0
        → times_at (count_clause s index p t) (to + i) (first + j) ≡ counted i j (code_of p) + times_at t (to + i) (first + j)
    step_here t h i j l =
        step_times t h (to + i) (first + j) (rooms.2 i l)
        ∙ ap (λ (a : ℕ). a + times_at t (to + i) (first + j)) (gain_counted f.target (uses_of f k n) to first is_right.0 i j)

    -- Elsewhere, and for other numbers, they stay.
    step_off : (t : Tables) → Sound m t p → (o i v b : ℕ) → b < 256 → (order_at 0x22 s p ≡ o * 256 + v → ⊥) → 0 < place o → i ≤ pair_at source (place o) - 2
        → place o + 3 + i < 1024
        → times_at (count_clause s index p t) (place o + 3 + i) (256 * v + b) ≡ times_at t (place o + 3 + i) (256 * v + b)
    step_off t h o i v b hb ne pos l low =
        step_times t h (place o + 3 + i) (256 * v + b) low
        ∙ (ap (λ (a : ℕ). a + times_at t (place o + 3 + i) (256 * v + b))
        (gain_none f.target (uses_of f k n) to first (place o + 3 + i) (256 * v + b)
        (λ a c d e.
        let u = used a c d e in
        by_test (eqb (key p) o)
        (λ g. inr (λ y. let r = eqb-true (key p) o g in let q = w.bytes u.2.0 c d u.2.1 in let y' = at_p.order in ne (omega arith)))
        (λ g. inl (λ y. let r = rooms.1 in let y' = u.1 in ⊎_elim (λ a. omega arith) (λ a. omega arith) (x.apart (key p) o (eqb-false (key p) o g) rooms.0 pos))))
        (by_test (eqb (key p) o)
        (λ g. inr (λ y. let r = eqb-true (key p) o g in let y' = at_p.order in ne (omega arith)))
        (λ g. inl (λ y. let r = rooms.1 in ⊎_elim (λ a. omega arith) (λ a. omega arith) (x.apart (key p) o (eqb-false (key p) o g) rooms.0 pos))))
        is_right.0)
        ∙ omega arith)

  -- The field at p adds nothing, or what its code counts for.
  step_cases : (P : Tables → Type 0) (p : ℕ) (t : Tables) → Mem p (places s) → P t
      → ((a : ClauseAt s f p) → (place (key p) ≡ 0 → ⊥) → P (count_clause s index p t)) → P (count_clause s index p t)
  step_cases P p t here same more =
      by_test (eqb (place (key p)) 0)
      (λ e. rw (w.unknown p index t (eqb-true _ _ e)) same)
      (λ e. ⊎_elim (λ a. more a (eqb-false _ _ e)) (λ a. rw (a index t) same) (w.item p here))

  field_sound : (p : ℕ) (t : Tables) → Mem p (places s) → p ≤ field_end s p → Sound m t p → Sound m (count_clause s index p t) (field_end s p)
  field_sound p t here l h = step_cases (λ a. Sound m a (field_end s p)) p t here (sound_on h (field_end s p) l) (λ a found. step_sound p a found t h)

  field_off : (p : ℕ) (t : Tables) → Mem p (places s) → Sound m t p → (o i v b : ℕ) → b < 256 → (order_at 0x22 s p ≡ o * 256 + v → ⊥)
      → 0 < place o → i ≤ pair_at source (place o) - 2 → place o + 3 + i < 1024
      → times_at (count_clause s index p t) (place o + 3 + i) (256 * v + b) ≡ times_at t (place o + 3 + i) (256 * v + b)
  field_off p t here h o i v b hb ne pos l low =
      step_cases (λ a. times_at a (place o + 3 + i) (256 * v + b) ≡ times_at t (place o + 3 + i) (256 * v + b)) p t here refl
      (λ a found. step_off p a found t h o i v b hb ne pos l low)

  module _ (o i v b : ℕ) (hb : b < 256) (pos : 0 < place o) (l : i ≤ pair_at source (place o) - 2) (low : place o + 3 + i < 1024) where
    -- Clauses of other keys and numbers leave the counts of a key and number.
    kept : (ps : List ℕ) (q : ℕ) → ((p : ℕ) → Mem p ps → Mem p (places s)) → Along s q ps → ((p : ℕ) → p ≤ field_end s p) → (t : Tables) → Sound m t q
        → ((p : ℕ) → Mem p ps → order_at 0x22 s p ≡ o * 256 + v → ⊥)
        → times_at (count_all s index ps t) (place o + 3 + i) (256 * v + b) ≡ times_at t (place o + 3 + i) (256 * v + b)
    unfolding count_all
    kept [] q within along up t h ne = refl
    kept (p ∷ ps) q within along up t h ne =
        let y = sound_on h p along.0 in
        kept ps (field_end s p) (λ a b. within a (inr b)) along.1 up (count_clause s index p t) (field_sound p t (within p (inl refl)) (up p) y) (λ a b. ne a (inr b))
        ∙ field_off p t (within p (inl refl)) y o i v b hb (ne p (inl refl)) pos l low

    -- The clause at p is counted once.
    once : (ps : List ℕ) (g q : ℕ) → ((p : ℕ) → Mem p ps → Mem p (places s)) → Along s q ps → ((p : ℕ) → p ≤ field_end s p) → From (order_at 0x22 s) g ps
        → (p : ℕ) → Mem p ps → (a : ClauseAt s f p) → key p ≡ o → number_at s p ≡ v → (ks : List ℕ)
        → arguments_of f.source (get_or s (p + 3) 0) (get_or s (p + 4) 0) ≡ some ks → i ≤ length ks → (t : Tables) → Sound m t q
        → times_at (count_all s index ps t) (place o + 3 + i) (256 * v + b) ≡ counted i b (code_of p) + times_at t (place o + 3 + i) (256 * v + b)
    unfolding count_all
    once (c ∷ ps) g q within along up r p (inl e) a ek ev ks there li t h =
        let y = sound_on h c along.0 in
        let oc : order_at 0x22 s p ≡ order_at 0x22 s c = ap (order_at 0x22 s) e in
        let oa = a.order in
        kept ps (field_end s c) (λ d b. within d (inr b)) along.1 up (count_clause s index c t) (field_sound c t (within c (inl refl)) (up c) y)
        (λ d b' u. let o' = from_mem (order_at 0x22 s) ps r.1 b' in omega arith)
        ∙ (ap (λ (d : ℕ). times_at (count_clause s index d t) (place o + 3 + i) (256 * v + b)) (sym e)
        ∙ rw (← ek, ← ev) (step_here p a (λ d. let d' : place o ≡ 0 = ap place (sym ek) ∙ d in omega arith) t (rw e y) i b (fits ek li)))
      where
        fits : key p ≡ o → i ≤ length ks → i ≤ length (arguments p a (λ d. let d' : place o ≡ 0 = ap place (sym ek) ∙ d in omega arith)).0
        fits u li =
            let aa = arguments p a (λ d. let d' : place o ≡ 0 = ap place (sym ek) ∙ d in omega arith) in
            let same : length ks ≡ length aa.0 = ap length (some_same (sym there ∙ aa.1)) in
            omega arith
          where
            some_same : {ks js : List ℕ} → some ks ≡ some js → ks ≡ js
            some_same e = cc
    once (c ∷ ps) g q within along up r p (inr e) a ek ev ks there li t h =
        let y = sound_on h c along.0 in
        let oa = a.order in
        let u = from_mem (order_at 0x22 s) ps r.1 e in
        once ps (suc (order_at 0x22 s c)) (field_end s c) (λ d b. within d (inr b)) along.1 up r.1 p e a ek ev ks there li (count_clause s index c t)
        (field_sound c t (within c (inl refl)) (up c) y)
        ∙ ap (λ (d : ℕ). counted i b (code_of p) + d) (field_off c t (within c (inl refl)) y o i v b hb (λ d. omega arith) pos l low)
    once [] g q within along up r p x11 a ek ev ks there li t h = elim x11 [ ]

  -- All clauses, from tables that are all zero.
  module _ (t : Tables) (h : Sound m t 0) (clear : (q y : ℕ) → times_at t q y ≡ 0) (along : Along s 0 (places s)) (up : (p : ℕ) → p ≤ field_end s p) where
    pub all_times : (k n j u : ℕ) (ks : List ℕ) → k < 32 → n < 256 → arguments_of f.source k n ≡ some ks → mapping_of f.body k j ≡ some u
        → (i b : ℕ) → i ≤ length ks → b < 256
        → times_at (count_all s index (places s) t) (place (production_key k n) + 3 + i) (256 * j + b) ≡ counted i b (clauses_of f k n j)
    all_times k n j u ks hk hn there maps i b li hb =
        let (p, mem, a, ek, en, ev) = w.every k n j u ks there maps in
        let r = room_of k n ks hk hn there in
        let d : key p ≡ production_key k n = ap (λ (a : ℕ). 32 + a) (clause_pair s p) ∙ rw (ek, en) in
        let e : code_of p ≡ clauses_of f k n j = λ y. clauses_of f (ek y) (en y) (ev y) in
        let q = r.1 in
        let o = once (production_key k n) i j b hb r.0 (omega arith) (r.2 i li) (places s) 0 0 (λ a b. b) along up w.rises p mem a d ev ks
        (rw (ek, en) there) li t h in
        o ∙ ((λ y. counted i b (e y) + clear (place (production_key k n) + 3 + i) (256 * j + b) y) ∙ (let y : counted i b (clauses_of f k n j) + 0 ≡ counted i b (clauses_of f k n j) = omega arith in y))
