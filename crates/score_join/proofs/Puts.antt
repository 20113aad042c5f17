-- Bytes that fit: a law for each return of `put_figure` and `put_head`.
use Prim.Native.Nat.{ℕ, suc, ◌+◌, ◌≤◌}
use mathlib.Core.Path.{◌≡◌, ap, ◌∙◌}
use mathlib.Core.List.{List, [], ◌∷◌, ◌++◌}
use native.Mathlib.Omega.{arith}
use lib.ListN.{length, set, length-set}
use lib.IntN.{ℤ}
use Rattle.format_fields.specs.Fields.{two_bytes}
use Rattle.format_fields.specs.Inner.Writing.{spliced, Written}
use Rattle.format_fields.proofs.Splices.{length_spliced, set_stored, written_then}
use Rattle.score_tree.specs.Figures.{unsigned, figure_bytes}

pub written_long : (v o after : List ℕ) (n m : ℕ) → Written v o after n m → length after ≡ length o
written_long v o after n m w = ap length w.bytes ∙ length_spliced o n v (let e = w.end in let f = w.fits in omega arith)

-- put_figure
pub figure_put : (z : ℤ) (n : ℕ) (o after : List ℕ) (pos : ℕ) → n ≡ unsigned z → pos + 2 ≤ length o → after ≡ spliced o pos (two_bytes n)
    → Written (figure_bytes z) o after pos (pos + 2)
unfolding figure_bytes
figure_put z n o after pos e h w = rw (← e) (record { end = omega arith; fits = h; bytes = w })

-- put_head
module _ (size x y : ℕ) (o : List ℕ) (pos : ℕ) (room : pos + 5 ≤ length o) where
  one : Written (0x24 ∷ []) o (set o pos 0x24) pos (pos + 1)
  one = record { end = omega arith; fits = omega arith; bytes = set_stored o pos (0x24 ∷ []) (omega arith) }

  first_long : length (set o pos 0x24) ≡ length o
  first_long = length-set o pos 0x24

  module _ (q : List ℕ) (eq : q ≡ spliced (set o pos 0x24) (pos + 1) (two_bytes size)) where
    two : Written (two_bytes size) (set o pos 0x24) q (pos + 1) (pos + 3)
    two = record { end = omega arith; fits = omega (arith, first_long); bytes = eq }

    long : length q ≡ length o
    long = written_long _ (set o pos 0x24) q (pos + 1) (pos + 3) two ∙ first_long

    pub head_put : Written (0x24 ∷ (two_bytes size ++ (x ∷ y ∷ []))) o (set (set q (pos + 3) x) (pos + 4) y) pos (pos + 5)
    head_put =
        let e : pos + 4 ≡ suc (pos + 3) = omega arith in
        let left : pos + 3 + 2 ≤ length q = omega (arith, long) in
        let last : Written (x ∷ y ∷ []) q (set (set q (pos + 3) x) (pos + 4) y) (pos + 3) (pos + 5) = record {
          end = omega arith;
          fits = omega (arith, long);
          bytes = ap (λ (i : ℕ). set (set q (pos + 3) x) i y) e ∙ set_stored q (pos + 3) (x ∷ y ∷ []) left;
        } in
        let front = written_then _ _ o (set o pos 0x24) q pos (pos + 1) (pos + 3) one two first_long in
        written_then _ _ o q (set (set q (pos + 3) x) (pos + 4) y) pos (pos + 3) (pos + 5) front last long
