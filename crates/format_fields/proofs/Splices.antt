-- Writing into an output: one part behind another, and a law for each return and turn of the functions of copy.rt.
use Rattle.std.specs.Prelude.{None, Option, Some}
use Prim.Native.Nat.{ℕ, suc, ◌+◌, ◌-◌, ◌/◌, ◌%◌, ◌<◌, ◌≤◌}
use mathlib.Core.Path.{◌≡◌, refl, sym, ap, ◌∙◌}
use mathlib.Core.Bool.{Bool, true, false, cond}
use mathlib.Core.List.{List, [], ◌∷◌, ◌++◌, append_assoc}
use native.Mathlib.Nat.{add_assoc, add-zero}
use native.Mathlib.Numerals.{add-one}
use native.Mathlib.Omega.{arith}
use lib.ListN.{length, take, drop, set, get_or, length-append, length-drop, take-append-drop}
use lib.Seq.{slice, take_at, take-add, drop-append-add, drop-drop, length-take-le, length-slice, paste, paste-suc, get_or-drop, sets, sets-eq}
use Rattle.format_fields.proofs.Lists.{part_is}
use Rattle.format_fields.specs.Fields.{two_bytes}
use Rattle.format_fields.specs.Inner.Writing.{spliced, Written, Stores}

-- The bytes from p up to e, as a count of bytes.
pub slice_is : (s : List ℕ) (p e : ℕ) → p ≤ e → e ≤ length s → slice p e s ≡ take (e - p) (drop p s)
slice_is s p e h k =
    let d : p + (e - p) ≡ e = omega arith in
    let i : p ≤ length s = omega arith in
    cc (part_is s p (e - p) i)

-- One part of a file after another.
pub slice_join : (s : List ℕ) (p q e : ℕ) → p ≤ q → q ≤ e → e ≤ length s → slice p q s ++ slice q e s ≡ slice p e s
slice_join s p q e h k f =
    let a : e - p ≡ (q - p) + (e - q) = omega arith in
    let d : p + (q - p) ≡ q = omega arith in
    let i : q ≤ length s = omega arith in
    let j : p ≤ e = omega arith in
    cc (slice_is s p q h i, slice_is s q e k f, slice_is s p e j f, take-add (q - p) (e - q) (drop p s), drop-drop (q - p) p s)

-- What a splice is.
pub opened : (o : List ℕ) (n : ℕ) (v : List ℕ) → spliced o n v ≡ take n o ++ (v ++ drop (n + length v) o)
unfolding spliced
opened o n v = refl

-- What is written after v.
module _ (o : List ℕ) (n : ℕ) (v : List ℕ) (fits : n + length v ≤ length o) where
  head_length_lem : length (take n o ++ v) ≡ n + length v
  head_length_lem = simp (length-append, length-take-le n o (omega arith))

  as_head : spliced o n v ≡ (take n o ++ v) ++ drop (n + length v) o
  as_head = opened o n v ∙ sym (append_assoc (take n o) v (drop (n + length v) o))

  pub splice_splice : (u : List ℕ) → spliced (spliced o n v) (n + length v) u ≡ spliced o n (v ++ u)
  splice_splice u =
      let rest = drop (n + length v) o in
      let t : take (n + length v) (spliced o n v) ≡ take n o ++ v = rw as_head (take_at (take n o ++ v) rest (n + length v) head_length_lem) in
      let d : drop (n + length v + length u) (spliced o n v) ≡ drop (n + length v + length u) o =
      rw as_head (ap (λ (k : ℕ). drop (k + length u) ((take n o ++ v) ++ rest)) (sym head_length_lem) ∙ drop-append-add (take n o ++ v) rest (length u) ∙ drop-drop (length u) (n + length v) o) in
      rw (opened (spliced o n v) (n + length v) u, t, d, opened o n (v ++ u), length-append v u, ← add_assoc n (length v) (length u)) (simp append_assoc)

  pub length_spliced : length (spliced o n v) ≡ length o
  length_spliced = rw (as_head, length-append (take n o ++ v) (drop (n + length v) o), head_length_lem, length-drop) (omega arith)

-- Nothing written.
pub nothing_spliced : (o : List ℕ) (n : ℕ) → o ≡ spliced o n []
nothing_spliced o n = rw (opened o n [], add-zero n) (sym (take-append-drop n o))

-- Bytes set one behind the other.
pub set_stored : (o : List ℕ) (n : ℕ) (v : List ℕ) → n + length v ≤ length o → sets o n v ≡ spliced o n v
unfolding spliced
set_stored o n v h = sets-eq v o n h ∙ append_assoc (take n o) v (drop (n + length v) o)

-- What was written in whole, what there was no room for, and nothing.
pub stored_to : (v o o' : List ℕ) (n m : ℕ) → m ≡ n + length v → m ≤ length o → o' ≡ spliced o n v → Stores v o o' n (Some m)
stored_to v o o' n m e f b = record {
  done = λ k q. let d : m ≡ k = cc in record { end = sym d ∙ e; fits = omega (arith, d, f); bytes = b };
  full = λ q. let z : ◌≡◌ {A = ℕ} 0 1 = cc in absurd (omega arith);
}

pub stored_full : (v o o' : List ℕ) (n : ℕ) → length o < n + length v → Stores v o o' n None
stored_full v o o' n h = record {
  done = λ m q. let z : ◌≡◌ {A = ℕ} 0 1 = cc in absurd (omega arith);
  full = λ q. h;
}

pub stored_nothing : (o : List ℕ) (n : ℕ) → n ≤ length o → Stores [] o o n (Some n)
stored_nothing o n h = stored_to [] o o n n (omega arith) h (nothing_spliced o n)

-- What there is room for is written.
pub stored_there : (v o o' : List ℕ) (n : ℕ) (r : Option ℕ) → Stores v o o' n r → n + length v ≤ length o → o' ≡ spliced o n v
stored_there v o o' n (Some m) w h = (w.done m refl).bytes
stored_there v o o' n None w h = absurd (omega (arith, w.full refl))

-- One part written behind another.
pub written_then : (v u o o' o'' : List ℕ) (n m k : ℕ) → Written v o o' n m → Written u o' o'' m k → length o' ≡ length o → Written (v ++ u) o o'' n k
written_then v u o o' o'' n m k w x e = record {
  end = omega (arith, length-append v u, w.end, x.end);
  fits = omega (arith, x.fits);
  bytes =
      let f : n + length v ≤ length o = omega (arith, w.end, w.fits) in
      x.bytes ∙ (ap (λ (l : List ℕ). spliced l m u) w.bytes ∙ (ap (λ (j : ℕ). spliced (spliced o n v) j u) w.end ∙ splice_splice o n v f u));
}

-- `put`
module _ (s : List ℕ) (p e : ℕ) (o : List ℕ) (n : ℕ) (rise : p ≤ e) (inside : e ≤ length s) where
  pub put_more : (i : ℕ) → n + i < length o → p + i < length s
      → set (paste o n (drop p s) i) (n + i) (get_or s (p + i) 0) ≡ paste o n (drop p s) (i + 1)
  put_more i a b =
      let l : i < length (drop p s) = simp length-drop (omega arith) in
      rw (← get_or-drop p s i 0, add-one i) (paste-suc o n (drop p s) i 0 a l)

  long : length (slice p e s) ≡ e - p
  long = length-slice p e s inside

  pub put_full : length o < n + (e - p) → Stores (slice p e s) o o n None
  put_full h = stored_full (slice p e s) o o n (omega (arith, long))

  pub put_done : (o' : List ℕ) → n + (e - p) ≤ length o → o' ≡ paste o n (drop p s) (e - p)
      → Stores (slice p e s) o o' n (Some (n + (e - p)))
  put_done o' h q =
      stored_to (slice p e s) o o' n (n + (e - p)) (omega (arith, long)) h
      (q ∙ rw (opened o n (slice p e s), long, slice_is s p e rise inside) (append_assoc (take n o) (take (e - p) (drop p s)) (drop (n + (e - p)) o)))

-- `put_if`
module _ (wanted : Bool) (v o : List ℕ) (n : ℕ) where
  pub put_wanted : wanted ≡ true → (o' : List ℕ) (r : Option ℕ) → Stores v o o' n r → Stores (cond wanted v []) o o' n r
  put_wanted e o' r w = rw e w

  pub put_unwanted : wanted ≡ false → n ≤ length o → Stores (cond wanted v []) o o n (Some n)
  put_unwanted e h = rw e (stored_nothing o n h)

-- `put_both`: the first part did not fit, or m is where it ended
module _ (v u o o' : List ℕ) (n : ℕ) (x : Option ℕ) (w : Stores v o o' n x) where
  pub both_full : x ≡ None → Stores (v ++ u) o o' n None
  both_full e = stored_full (v ++ u) o o' n (omega (arith, w.full e, length-append v u))

  pub both_then : (m : ℕ) → x ≡ Some m → (o'' : List ℕ) (y : Option ℕ) → length o' ≡ length o → Stores u o' o'' m y → Stores (v ++ u) o o'' n y
  both_then m e o'' y l x = record {
    done = λ k q. written_then v u o o' o'' n m k (w.done m e) (x.done k q) l;
    full = λ q. omega (arith, x.full q, (w.done m e).end, length-append v u);
  }

-- `put_pair`
pub pair_put : (o : List ℕ) (n a b v : ℕ) → n + 2 ≤ length o → a ≡ v / 256 → b ≡ v % 256 → set (set o n a) (n + 1) b ≡ spliced o n (two_bytes v)
pair_put o n a b v h ea eb =
    let z : n + 1 ≡ suc n = omega arith in
    ap (λ (m : ℕ). set (set o n a) m b) z ∙ (set_stored o n (a ∷ b ∷ []) h ∙ ap (spliced o n) (rw (ea, eb) refl))
