-- Laws of what stands in bytes, and of bytes put in one behind the other.
use Prim.Native.Nat.{ℕ, ◌+◌, ◌≤◌, ◌<◌}
use mathlib.Core.Path.{◌≡◌, refl, sym, ap, ◌∙◌}
use mathlib.Core.List.{List, [], ◌∷◌, ◌++◌, append_assoc}
use native.Mathlib.Nat.{add-zero}
use native.Mathlib.Omega.{arith}
use lib.ListN.{length, get_or, take, drop, length-append, length-drop, take-append-drop}
use lib.Dec.{leb}
use lib.Seq.{take_all, take-take, take_at, take-append_seam, drop-append-add, drop-drop, length-take-le}
use borrow.Author.Tests.{leb-true, leb-false}
use Rattle.format_fields.proofs.Truth.{by_test}
use Rattle.format_fields.proofs.Split.{front}
use Rattle.format_fields.specs.Inner.Writing.{spliced}
use Rattle.format_fields.proofs.Splices.{opened, splice_splice, length_spliced, nothing_spliced}
use Rattle.run_table.specs.Inner.Stands.{Stands, Kept, Wrote}

-- What stands at a position, and what follows it.
pub stands_drop : (b : List ℕ) (at : ℕ) (v : List ℕ) → Stands b at v → drop at b ≡ v ++ drop (at + length v) b
stands_drop b at v h =
    sym (take-append-drop (length v) (drop at b))
    ∙ (ap (λ (l : List ℕ). l ++ drop (length v) (drop at b)) h.bytes ∙ ap (λ (l : List ℕ). v ++ l) (drop-drop (length v) at b))

pub drop_stands : (b : List ℕ) (at : ℕ) (v s : List ℕ) → at ≤ length b → drop at b ≡ v ++ s → Stands b at v
drop_stands b at v s h e =
    let l = length-drop at b in
    let m : length (drop at b) ≡ length v + length s = ap length e ∙ length-append v s in
    record { inside = omega arith; bytes = rw e (take-append_seam v s) }

empty_cons : {A : Type 0} {y : ℕ} {s : List ℕ} → [] ≡ y ∷ s → A
empty_cons e = let z : ◌≡◌ {A = ℕ} 0 1 = cc in absurd (omega arith)

cons_both : {x y : ℕ} {r s : List ℕ} → x ∷ r ≡ y ∷ s → (x ≡ y) × (r ≡ s)
cons_both e = (cc, cc)

-- The first byte, and the others.
pub stands_head : (b : List ℕ) (at y : ℕ) (v : List ℕ) → Stands b at (y ∷ v) → (at < length b) × (get_or b at 0 ≡ y) × Stands b (at + 1) v
stands_head b at y v h =
    let i = h.inside in
    let l : at < length b = omega arith in
    let c = cons_both (sym (front b at l) ∙ stands_drop b at (y ∷ v) h) in
    (l, c.0, drop_stands b (at + 1) v _ (omega arith) c.1)

-- Two parts, one behind the other.
pub stands_both : (b : List ℕ) (at : ℕ) (v w : List ℕ) → Stands b at (v ++ w) → Stands b at v × Stands b (at + length v) w
stands_both b at v w h =
    let i = h.inside in
    let l = length-append v w in
    let d = stands_drop b at (v ++ w) h ∙ append_assoc v w _ in
    let e : drop (at + length v) b ≡ w ++ drop (at + length (v ++ w)) b =
    sym (drop-drop (length v) at b) ∙ (ap (drop (length v)) d ∙ (ap (λ (n : ℕ). drop n (v ++ (w ++ drop (at + length (v ++ w)) b))) (sym (add-zero (length v))) ∙ drop-append-add v (w ++ drop (at + length (v ++ w)) b) 0)) in
    (drop_stands b at v _ (omega arith) d, drop_stands b (at + length v) w _ (omega arith) e)

-- What is put in at a position keeps what stands before it.
pub kept_spliced : (o : List ℕ) (pos : ℕ) (v : List ℕ) → pos + length v ≤ length o → Kept o (spliced o pos v) pos
kept_spliced o pos v fits = record {
  long = length_spliced o pos v fits;
  front = rw (opened o pos v) (take_at (take pos o) _ pos (length-take-le pos o (omega arith)));
}

-- Nothing is put in.
pub wrote_none : (o : List ℕ) (pos : ℕ) → Wrote [] o o pos pos
wrote_none o pos = record { fits = λ i. (omega arith, nothing_spliced o pos); full = λ i. (omega arith, record { long = refl; front = refl }) }

-- Nothing is put in from a position past the output.
pub wrote_past : (v o : List ℕ) (pos : ℕ) → length o < pos → Wrote v o o pos pos
wrote_past v o pos h = record { fits = λ i. absurd (omega arith); full = λ i. (omega arith, record { long = refl; front = refl }) }

-- The output is as long as before, whatever was answered.
pub wrote_long : (v o after : List ℕ) (pos r : ℕ) → Wrote v o after pos r → length after ≡ length o
wrote_long v o after pos r h =
    by_test (leb r (length o))
    (λ t. let i = leb-true _ _ t in let f = h.fits i in f' f i)
    (λ t. (h.full (leb-false _ _ t)).1.long)
  where
    f' : (r ≡ pos + length v) × (after ≡ spliced o pos v) → r ≤ length o → length after ≡ length o
    f' f i = ap length f.1 ∙ length_spliced o pos v (omega (arith, f.0))

take_less : (n k : ℕ) (a b : List ℕ) → n ≤ k → take k a ≡ take k b → take n a ≡ take n b
take_less n k a b le e = sym (take-take n k a le) ∙ (ap (take n) e ∙ take-take n k b le)

-- Bytes w are put in behind v.
module _ (v w o m after : List ℕ) (pos p r : ℕ) (h : Wrote v o m pos p) (k : Wrote w m after p r) where
  then_fits : p ≤ length o → Wrote (v ++ w) o after pos r
  then_fits i =
      let f = h.fits i in
      let room : pos + length v ≤ length o = omega (arith, f.0) in
      let l : length m ≡ length o = ap length f.1 ∙ length_spliced o pos v room in
      let a = length-append v w in
      record {
        fits = λ j.
            let g = k.fits (omega arith) in
            (omega (arith, g.0, f.0), g.1 ∙ (ap (λ (n : ℕ). spliced m n w) f.0 ∙ (ap (λ (n : List ℕ). spliced n (pos + length v) w) f.1 ∙ splice_splice o pos v room w)));
        full = λ j.
            let g = k.full (omega arith) in
            let low : take pos after ≡ take pos m = take_less pos p after m (omega (arith, f.0)) g.1.front in
            (omega (arith, g.0, f.0), record { long = g.1.long ∙ l; front = low ∙ (ap (take pos) f.1 ∙ (kept_spliced o pos v room).front) });
      }

  -- What does not fit does not fit with more behind it.
  then_full : length o < p → Wrote (v ++ w) o after pos r
  then_full i =
      let g = h.full i in
      let l = g.1.long in
      let a = length-append v w in
      record {
        fits = λ j. let d = k.fits (omega arith) in absurd (omega (arith, d.0));
        full = λ j.
            let d = k.full (omega arith) in
            let n = d.1.long in
            let same : after ≡ m = sym (take_all p after (omega arith)) ∙ (d.1.front ∙ take_all p m (omega arith)) in
            (omega (arith, g.0), record { long = n ∙ l; front = ap (take pos) same ∙ g.1.front });
      }

  pub wrote_then : Wrote (v ++ w) o after pos r
  wrote_then = by_test (leb p (length o)) (λ t. then_fits (leb-true _ _ t)) (λ t. then_full (leb-false _ _ t))
