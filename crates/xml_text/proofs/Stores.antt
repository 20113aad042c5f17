-- Bytes and texts written one behind the other.
use Prim.Native.Nat.{ℕ, ◌+◌, ◌<◌, ◌≤◌}
use mathlib.Core.Path.{◌≡◌, ap, ◌∙◌}
use mathlib.Core.List.{List, [], ◌∷◌, ◌++◌, append_assoc}
use native.Mathlib.Omega.{arith}
use lib.ListN.{length, take, drop, set, length-append}
use lib.Seq.{sets, sets-eq}
use Rattle.format_fields.specs.Inner.Writing.{spliced, Written}
use Rattle.format_fields.proofs.Splices.{splice_splice}

-- Bytes set one behind the other.
pub set_stored : (o : List ℕ) (n : ℕ) (v : List ℕ) → n + length v ≤ length o → sets o n v ≡ spliced o n v
unfolding spliced
set_stored o n v h = sets-eq v o n h ∙ append_assoc (take n o) v (drop (n + length v) o)

pub store_in : (o : List ℕ) (n b : ℕ) → n < length o → set o n b ≡ spliced o n (b ∷ [])
store_in o n b h = set_stored o n (b ∷ []) (omega arith)

-- One text behind another.
pub written_then : {v u o o₁ o₂ : List ℕ} {n m k : ℕ} → Written v o o₁ n m → length o₁ ≡ length o → Written u o₁ o₂ m k → Written (v ++ u) o o₂ n k
written_then {v} {u} {o} {o₁} {o₂} {n} {m} {k} a l b =
    let f : n + length v ≤ length o = omega (arith, a.end, a.fits) in
    record {
      end = omega (arith, length-append v u, a.end, b.end);
      fits = omega (arith, b.fits);
      bytes = b.bytes ∙ (ap (λ (p : List ℕ). spliced p m u) a.bytes ∙ (ap (λ (j : ℕ). spliced (spliced o n v) j u) a.end ∙ splice_splice o n v f u));
    }
