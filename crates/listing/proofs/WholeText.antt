-- The whole text: a law for each return of the code, and that it is the text of the pack.
use Rattle.std.specs.Prelude.{Ok}
use Prim.Native.Nat.{ℕ, ◌≤◌}
use mathlib.Core.Path.{◌≡◌, refl, sym, ap, ◌∙◌, subst}
use mathlib.Core.List.{List, ◌++◌}
use native.Mathlib.Omega.{arith}
use lib.ListN.{length, take, drop, length-append}
use lib.Seq.{take-append_seam, length-take-le}
use Rattle.io.specs.Counts.{IsPrefixLen}
use Rattle.outcome.specs.Outcome.{Result, value, refused, ◌>>=◌, written, output_after, Outcome}
use Rattle.format_translation.specs.Translation.{Translation}
use Rattle.format_translation.specs.TranslationFile.{encode_translation}
use Rattle.reduce_signs.specs.Evaluation.{constants_of, nothing_bound, evaluate}
use Rattle.reduce_operation.specs.Operations.{Ready, ready, work, reduce_bytes, reduce}
use Rattle.program_text.specs.Text.{accepted_word, first_line}
use Rattle.listing.specs.Listing.{reduced, text_of, listing}
use Rattle.listing.specs.Inner.Walk.{clause_lines, outcome_text}
use Rattle.program_text.specs.Inner.Putting.{Puts}
use Rattle.listing.proofs.Walk.{clause_lines_lem}

-- The length of what is accepted lies within the output.
within : (output : List ℕ) (n : ℕ) (result : Result (List ℕ)) → written result ≡ Ok n → n ≤ length (output_after output result)
within output n (value bytes) e = let k : length bytes ≡ n = cc in omega (arith, length-append bytes (drop (length bytes) output))
within output n (refused r) e = let z : ◌≡◌ {A = ℕ} 0 1 = cc in absurd (omega arith)

-- The bytes of a translation that may be refused.
abbrev bytes_of : Result Translation → Result (List ℕ)
bytes_of result = result >>= λ f. value (encode_translation f)

-- Reduce writes the bytes of the translation that the pack is reduced to.
pub reduced_bytes : (pack : List ℕ) → reduce_bytes pack 65536 4096 ≡ bytes_of (reduced pack)
unfolding reduce_bytes work reduced
reduced_bytes pack = step (ready pack 65536 4096)
  where
    step : (r : Result Ready) → (r >>= work) ≡ bytes_of (r >>= λ x. evaluate (constants_of x.pack) nothing_bound x.term)
    step (value x) = refl
    step (refused q) = refl

-- The text from the outcome and the output is that of the translation.
same_text : (output : List ℕ) (result : Result Translation) → outcome_text (written (bytes_of result)) (output_after output (bytes_of result)) ≡ text_of result
unfolding text_of
same_text output (value f) =
    let bytes = encode_translation f in
    ap (λ (l : List ℕ). first_line accepted_word (length bytes) ++ l) (ap clause_lines (take-append_seam bytes (drop (length bytes) output)) ∙ clause_lines_lem f)
same_text output (refused r) = refl

-- `list`
module _ (pack workspace output : List ℕ) (outcome : Outcome) (after : List ℕ)
    (eo : outcome ≡ (reduce pack workspace output).outcome) (ea : after ≡ (reduce pack workspace output).output) where
  pub length_within : (n : ℕ) → outcome ≡ Ok n → n ≤ length after
  unfolding reduce
  length_within n e =
      let result = reduce_bytes pack (length workspace) (length output) in
      let h : n ≤ length (output_after output result) = within output n result (sym eo ∙ e) in
      subst (λ (l : List ℕ). n ≤ length l) (sym ea) h

  pub text_is : 65536 ≡ length workspace → 4096 ≡ length output → outcome_text outcome after ≡ listing pack
  unfolding reduce listing
  text_is w o =
      let e : reduce_bytes pack (length workspace) (length output) ≡ bytes_of (reduced pack) = rw (sym w, sym o) (reduced_bytes pack) in
      rw (eo, ea, e) (same_text output (reduced pack))

-- What is put from the start on stands at the start.
pub counts : (v u o o' : List ℕ) (r : ℕ) → Puts v o o' 0 r → v ≡ u → (IsPrefixLen r o') × (take r o' ≡ u)
counts v u o o' r x e = ((x.fits, sym (length-take-le r o' x.fits)), x.bytes ∙ e)
