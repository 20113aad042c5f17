-- Entries in bytes: what stands in an index, and a law for each return of the functions of entries.rt.
use Prim.Native.Nat.{ℕ, suc, ◌+◌, ◌-◌, ◌*◌, ◌/◌, ◌%◌, ◌<◌, ◌≤◌}
use mathlib.Core.Path.{◌≡◌, refl, sym, ap, ◌∙◌}
use mathlib.Core.List.{List, ◌∷◌, ◌++◌}
use native.Mathlib.Omega.{arith}
use lib.ListN.{length, get_or, drop, length-drop}
use lib.Seq.{drop-drop}
use Rattle.format_fields.specs.Fields.{pair_at, two_bytes}
use Rattle.format_fields.specs.Inner.Writing.{spliced}
use Rattle.format_fields.proofs.Split.{front, pair_drop}
use Rattle.format_fields.proofs.Splices.{splice_splice}
use Rattle.tree_index.specs.Spans.{span, entry}
use Rattle.tree_index.specs.Inner.Marking.{Has}

pub entry_length : (s z : ℕ) → length (entry (span s z)) ≡ 4
unfolding entry
entry_length s z = refl

-- put_entry
pub entry_put : (o o₁ o₂ : List ℕ) (n s z : ℕ) → n + 4 ≤ length o → o₁ ≡ spliced o n (two_bytes s) → o₂ ≡ spliced o₁ (n + 2) (two_bytes z)
    → o₂ ≡ spliced o n (entry (span s z))
unfolding entry
entry_put o o₁ o₂ n s z h e f = f ∙ (ap (λ (p : List ℕ). spliced p (n + 2) (two_bytes z)) e ∙ splice_splice o n (two_bytes s) (omega arith) (two_bytes z))

-- Two bytes off the front.
pair_front : (i : List ℕ) (n : ℕ) → n + 2 ≤ length i → ((j : ℕ) → get_or i j 0 < 256) → drop n i ≡ two_bytes (pair_at i n) ++ drop (n + 2) i
unfolding pair_at
pair_front i n h b =
    let lo = b (n + 1) in
    let x : get_or i n 0 ≡ (get_or i n 0 * 256 + get_or i (n + 1) 0) / 256 = omega arith in
    let y : get_or i (n + 1) 0 ≡ (get_or i n 0 * 256 + get_or i (n + 1) 0) % 256 = omega arith in
    let two : n + 1 + 1 ≡ n + 2 = omega arith in
    front i n (omega arith)
    ∙ (ap (λ (r : List ℕ). get_or i n 0 ∷ r) (front i (n + 1) (omega arith) ∙ ap (λ (m : ℕ). get_or i (n + 1) 0 ∷ drop m i) two)
    ∙ (ap (λ (m : ℕ). m ∷ get_or i (n + 1) 0 ∷ drop (n + 2) i) x ∙ ap (λ (m : ℕ). (get_or i n 0 * 256 + get_or i (n + 1) 0) / 256 ∷ m ∷ drop (n + 2) i) y))

-- An entry off the front.
pub entry_front : (i : List ℕ) (n : ℕ) → n + 4 ≤ length i → ((j : ℕ) → get_or i j 0 < 256)
    → drop n i ≡ entry (span (pair_at i n) (pair_at i (n + 2))) ++ drop (n + 4) i
unfolding entry
entry_front i n h b =
    let two : n + 2 + 2 ≡ n + 4 = omega arith in
    pair_front i n (omega arith) b
    ∙ ap (λ (r : List ℕ). two_bytes (pair_at i n) ++ r) (pair_front i (n + 2) (omega arith) b ∙ ap (λ (m : ℕ). two_bytes (pair_at i (n + 2)) ++ drop m i) two)

-- What is read where an entry stands.
pub record Entry (i : List ℕ) (n s z : ℕ) (rest : List ℕ) : Type 0 where
  pub inside : n + 4 ≤ length i
  pub start : pair_at i n ≡ s
  pub long : pair_at i (n + 2) ≡ z
  pub others : drop (n + 4) i ≡ rest

pub entry_read : (i : List ℕ) (n s z : ℕ) (rest : List ℕ) → drop n i ≡ entry (span s z) ++ rest → Entry i n s z rest
unfolding entry pair_at
entry_read i n s z rest e =
    let len : length i - n ≡ suc (suc (suc (suc (length rest)))) = sym (length-drop n i) ∙ ap length e in
    let a : pair_at i n ≡ s / 256 * 256 + s % 256 = sym (pair_drop i n 0 n (omega arith)) ∙ ap (λ (r : List ℕ). pair_at r 0) e in
    let b : pair_at i (n + 2) ≡ z / 256 * 256 + z % 256 = sym (pair_drop i n 2 (n + 2) refl) ∙ ap (λ (r : List ℕ). pair_at r 2) e in
    record {
      inside = omega arith;
      start = a ∙ omega arith;
      long = b ∙ omega arith;
      others = sym (drop-drop 4 n i) ∙ ap (drop 4) e;
    }

-- An entry that stands there lies inside, and says one length.
pub entry_inside : {i : List ℕ} {n : ℕ} (s z : ℕ) → Has i n (entry (span s z)) → n + 4 ≤ length i
entry_inside {i} {n} s z w = (entry_read i n s z w.rest w.is).inside

pub entry_same : {i : List ℕ} {n : ℕ} (s y z : ℕ) → Has i n (entry (span s y)) → Has i n (entry (span s z)) → y ≡ z
entry_same {i} {n} s y z v w = sym (entry_read i n s y v.rest v.is).long ∙ (entry_read i n s z w.rest w.is).long

-- size_at
module _ (i : List ℕ) (n s : ℕ) where
  pub size_short : length i < n + 4 → (z : ℕ) → Has i n (entry (span s z)) → ⊥
  size_short h z w = omega (arith, entry_inside s z w)

  pub size_other : (x : ℕ) → x ≡ pair_at i n → (x ≡ s → ⊥) → (z : ℕ) → Has i n (entry (span s z)) → ⊥
  size_other x e h z w = h (e ∙ (entry_read i n s z w.rest w.is).start)

  pub size_said : (x z : ℕ) → x ≡ pair_at i n → x ≡ s → z ≡ pair_at i (n + 2) → n + 4 ≤ length i → ((j : ℕ) → get_or i j 0 < 256) → Has i n (entry (span s z))
  size_said x z ex es ez h b = record { rest = drop (n + 4) i; is = rw (← es, ex, ez) (entry_front i n h b) }
