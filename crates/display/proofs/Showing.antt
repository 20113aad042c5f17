-- What the display puts is its text.
use Prim.Native.Nat.{ℕ}
use mathlib.Core.Path.{◌≡◌, refl, sym, ap, ◌∙◌}
use mathlib.Core.List.{List, [], ◌∷◌, ◌++◌}
use native.Mathlib.Omega.{arith}
use Rattle.std.specs.Prelude.{Result, Ok, Err}
use lib.ListN.{length, take}
use lib.Seq.{length-take-le}
use Rattle.io.specs.Counts.{IsPrefixLen}
use denote.Ref.{Bor}
use Rattle.format_fields.specs.Fields.{byte_at}
use Rattle.format_fields.specs.Lists.{concat_map}
use Rattle.outcome.specs.Outcome.{Outcome}
use Rattle.outcome.specs.declared.Reason.{Reason}
use Rattle.tree_block.specs.Operations.{Shown, show_block}
use Rattle.tree_block.specs.Parts.{Handed}
use Rattle.tree_block.specs.declared.show.Part.{Part}
use Rattle.program_text.specs.Text.{pair_of}
use Rattle.program_text.specs.Inner.Putting.{Puts}
use Rattle.display.specs.Display.{root_in, shown_text, display}
use Rattle.display.specs.Inner.Showing.{text_of}

-- root_of
pub root_one : (s : List ℕ) → length s ≡ 1 → byte_at s 0 ≡ root_in s
unfolding root_in
root_one [] e = absurd (omega arith)
root_one (k ∷ []) e = refl
root_one (k ∷ j ∷ s) e = absurd (omega arith)

pub root_other : (s : List ℕ) → (length s ≡ 1 → ⊥) → 255 ≡ root_in s
unfolding root_in
root_other [] h = refl
root_other (k ∷ []) h = absurd (h refl)
root_other (k ∷ j ∷ s) h = refl

-- show
handed_text : (d : Shown) (plan : Bor (List ℕ)) (a : Result Part Reason) → Handed d plan a → text_of a ≡ shown_text d.outcome d.bytes
handed_text d plan (Ok part) h =
    ap (λ (v : List ℕ). concat_map pair_of v ++ (10 ∷ [])) h.bytes ∙ ap (λ (o : Outcome). shown_text o d.bytes) (sym h.outcome)
handed_text d plan (Err reason) h = ap (λ (e : Shown). shown_text e.outcome e.bytes) (sym h)

pub shown_display : (language root : List ℕ) (plan : Bor (List ℕ)) (index path : List ℕ) {kind : ℕ} (a : Result Part Reason) → kind ≡ root_in root
    → Handed (show_block language kind plan.now index path) plan a → (o o' : List ℕ) (r : ℕ) → Puts (text_of a) o o' 0 r
    → IsPrefixLen r o' × (take r o' ≡ display language root plan.now index path)
unfolding display
shown_display language root plan index path {kind} a e h o o' r p = (
  (p.fits, sym (length-take-le r o' p.fits)),
  p.bytes ∙ (handed_text _ plan a h ∙ ap (λ (k : ℕ). let d = show_block language k plan.now index path in shown_text d.outcome d.bytes) e),
)
