-- Writing a field: what stands before a part, and what follows it.
use Rattle.std.specs.Prelude.{None, Option, Some}
use Prim.Native.Nat.{ℕ, zero, suc, ◌+◌, ◌/◌, ◌%◌, ◌<◌, ◌≤◌}
use mathlib.Core.Path.{◌≡◌, refl, sym, ap, ◌∙◌}
use mathlib.Core.List.{List, [], ◌∷◌, ◌++◌, append_assoc}
use native.Mathlib.Omega.{arith}
use lib.ListN.{length, take, drop, length-append}
use lib.Seq.{take-append-le, take-take, drop_at, length-take-le}
use borrow.Author.Tests.{eq-eqb, ne_eqb}
use Rattle.run_table.specs.Inner.Stands.{Wrote}
use Rattle.run_table.proofs.Standing.{wrote_long}
use Rattle.format_fields.specs.Fields.{encode_field}
use Rattle.format_fields.specs.Inner.Writing.{spliced, Stores}
use Rattle.format_fields.proofs.Splices.{stored_to, stored_full}
use Rattle.format_translation.specs.Translation.{mapping, clause}
use Rattle.format_translation.specs.TranslationFile.{item_field}
use Rattle.reduce_join.specs.Inner.Joining.{head_length, clause_head}

-- What stands before a part that was written is written after it.
pub head_before : (o : List ℕ) (n k : ℕ) → n + k ≤ length o → (h v : List ℕ) → length h ≡ k → spliced (spliced o (n + k) v) n h ≡ spliced o n (h ++ v)
unfolding spliced
head_before o n k fits h v e =
    let rest : List ℕ = v ++ drop (n + k + length v) o in
    let l : length (take (n + k) o) ≡ n + k = length-take-le (n + k) o fits in
    let t : take n (take (n + k) o ++ rest) ≡ take n o = take-append-le n (take (n + k) o) rest (omega (arith, l)) ∙ take-take n (n + k) o (omega arith) in
    let d : drop (n + length h) (take (n + k) o ++ rest) ≡ rest = drop_at (take (n + k) o) rest (n + length h) (omega (arith, l, e)) in
    let s : n + k + length v ≡ n + length (h ++ v) = omega (arith, length-append h v, e) in
    rw (t, d, s) (ap (λ (x : List ℕ). take n o ++ x) (sym (append_assoc h v (drop (n + length (h ++ v)) o))))

-- What the emitter put in.
module _ (v o o' : List ℕ) (n m : ℕ) (w : Wrote v o o' n m) where
  pub wrote_to : m ≤ length o' → Stores v o o' n (Some m)
  wrote_to h =
      let l = wrote_long v o o' n m w in
      let x = w.fits (omega arith) in
      stored_to v o o' n m x.0 (omega arith) x.1

  pub wrote_over : length o' < m → Stores v o o' n None
  wrote_over h =
      let l = wrote_long v o o' n m w in
      stored_full v o o' n (w.full (omega arith)).0

-- head_length
module _ (number : ℕ) where
  pub length_plain : number ≡ 0 → 5 ≡ head_length number
  unfolding head_length
  length_plain h = rw (eq-eqb number 0 h)

  pub length_numbered : (number ≡ 0 → ⊥) → 6 ≡ head_length number
  unfolding head_length
  length_numbered h = rw (ne_eqb number 0 h)

-- put_mapping
module _ (s number t : ℕ) (o o' : List ℕ) (n : ℕ) (r : Option ℕ) where
  pub mapping_plain : number ≡ 0 → Stores (0x22 ∷ 0 ∷ 2 ∷ s ∷ t ∷ []) o o' n r → Stores (encode_field (item_field (mapping s number t))) o o' n r
  unfolding encode_field item_field
  mapping_plain h w = rw h w

  pub mapping_numbered : (number ≡ 0 → ⊥) → Stores (0x28 ∷ 0 ∷ 3 ∷ s ∷ number ∷ t ∷ []) o o' n r → Stores (encode_field (item_field (mapping s number t))) o o' n r
  unfolding encode_field item_field
  mapping_numbered h w = go number h w
    where
      go : (x : ℕ) → (x ≡ 0 → ⊥) → Stores (0x28 ∷ 0 ∷ 3 ∷ s ∷ x ∷ t ∷ []) o o' n r → Stores (encode_field (item_field (mapping s x t))) o o' n r
      go zero h w = absurd (h refl)
      go (suc x) h w = w

-- put_head
module _ (r p number size : ℕ) (o o' : List ℕ) (n : ℕ) (x : Option ℕ) where
  pub head_plain : number ≡ 0 → Stores (0x23 ∷ size / 256 ∷ size % 256 ∷ r ∷ p ∷ []) o o' n x → Stores (clause_head r p number size) o o' n x
  unfolding clause_head
  head_plain h w = rw (eq-eqb number 0 h) w

  pub head_numbered : (number ≡ 0 → ⊥) → Stores (0x29 ∷ size / 256 ∷ size % 256 ∷ r ∷ p ∷ number ∷ []) o o' n x → Stores (clause_head r p number size) o o' n x
  unfolding clause_head
  head_numbered h w = rw (ne_eqb number 0 h) w

-- The field of a clause: what stands before its code, and the code.
pub clause_field_lem : (r p number : ℕ) (v : List ℕ) (size : ℕ) → size + 3 ≡ head_length number + length v
    → encode_field (item_field (clause r p number v)) ≡ clause_head r p number size ++ v
unfolding encode_field item_field clause_head head_length
clause_field_lem r p zero v size e = let d : size ≡ suc (suc (length v)) = omega (arith, e) in rw d refl
clause_field_lem r p (suc j) v size e =
    let z = ne_eqb (suc j) 0 (λ h. omega arith) in
    let y : size + 3 ≡ 6 + length v = rw z at e in
    let d : size ≡ suc (suc (suc (length v))) = omega (arith, y) in
    rw (z, d) refl

pub head_length_lem : (r p number size : ℕ) → length (clause_head r p number size) ≡ head_length number
unfolding clause_head head_length
head_length_lem r p zero size = refl
head_length_lem r p (suc j) size = rw (ne_eqb (suc j) 0 (λ h. omega arith))
