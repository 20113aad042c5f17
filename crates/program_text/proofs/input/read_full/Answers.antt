use Rattle.std.proofs.Common.{◌≡◌, ℕ, ◌+◌, ◌≤◌, List, ◌++◌, length, take, sym, ap, ◌∙◌, subst, rules, length-take-le}
use Rattle.std.specs.Io.KnownBytes.{Consumes}
use Rattle.std.proofs.KnownBytes.{Consumes-trans}
use Rattle.std.proofs.Math.Seq.{take-append-add}
use Rattle.std.proofs.lemmas.List.{take-append-le}
use borrow.Rule.Slice.PartMut.{put_mid, post_of}
use Rattle.program_text.proofs.input.read_full.Goals as goal

-- The front of a buffer whose rest, from `at` on, was read into.
front_is : (at n k : ℕ) (xs ys : List ℕ) → at ≤ length xs → n ≤ length ys → take at xs ++ take n ys ≡ take (at + n) (put_mid at k xs ys)
front_is at n k xs ys within fits =
    let front = take at xs in
    let after = post_of at k xs in
    sym
    (ap (λ m. take (m + n) (front ++ (ys ++ after))) (sym (length-take-le at xs within))
    ∙ (take-append-add front (ys ++ after) n ∙ ap (λ l. front ++ l) (take-append-le n ys after fits)))

pub loop-done-preserved : goal.loop-done-preserved
loop-done-preserved g c = record {
  within = search rules;
  taken =
      subst (Consumes _ _)
      (front_is _ _ _ _ _ c.loop-done.invariant.within c.in-Ok.ensures.bound.0)
      (Consumes-trans _ _ _ _ _ c.loop-done.invariant.taken c.in-Ok.ensures.bytes.0);
}
