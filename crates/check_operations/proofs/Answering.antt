-- An operation that measures what it puts, and then writes it: what it answers.
use Rattle.std.specs.Prelude.{Err, Ok}
use Prim.Native.Nat.{ℕ, ◌+◌, ◌<◌, ◌≤◌}
use mathlib.Core.Path.{◌≡◌, refl, sym, ap, ◌∙◌}
use mathlib.Core.List.{List, ◌++◌}
use native.Mathlib.Omega.{arith}
use lib.ListN.{length, drop}
use borrow.Author.Tests.{lt-ltb, le-ltb}
use Rattle.format_fields.specs.Inner.Writing.{spliced}
use Rattle.outcome.specs.Outcome.{Result, refused, written, output_after, Outcome}
use Rattle.outcome.specs.declared.Reason.{Reason}
use Rattle.outcome.specs.declared.Reason.TheVariants.{OutputTooShort}
use Rattle.format_translation.specs.Operations.{fitted}
use Rattle.check_operations.specs.Inner.Answering.{Gives}

-- A refusal, and a result that is another one.
pub gives_refused : (x : Result (List ℕ)) (o : List ℕ) {out : Outcome} (r : Reason) → x ≡ refused r → out ≡ Err r → Gives x o o out
gives_refused x o r e h = (h ∙ sym (ap written e), sym (ap (output_after o) e))

pub gives_same : (x y : Result (List ℕ)) (o o' : List ℕ) {out : Outcome} → x ≡ y → Gives y o o' out → Gives x o o' out
gives_same x y o o' e h = rw e h

-- A result that fits, and one that does not.
pub gives_long : (v o : List ℕ) {out : Outcome} → length o < length v → out ≡ Err OutputTooShort → Gives (fitted (length o) v) o o out
gives_long v o h e = rw (lt-ltb (length o) (length v) h) (e, refl)

pub gives_fit : (v o o' : List ℕ) {out : Outcome} → length v ≤ length o → out ≡ Ok (length v) → o' ≡ spliced o 0 v → Gives (fitted (length o) v) o o' out
unfolding spliced
gives_fit v o o' h e b =
    let z : 0 + length v ≡ length v = omega arith in
    rw (le-ltb (length o) (length v) h) (e, b ∙ ap (λ (n : ℕ). v ++ drop n o) z)
