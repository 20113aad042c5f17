-- Hints: the places of the clauses of other numbers than 0.
use Prim.Native.Nat.{ℕ, ◌<◌}
use mathlib.Core.Path.{◌≡◌, refl}
use mathlib.Core.Logic.{inl, inr}
use mathlib.Core.Bool.{true}
use mathlib.Core.List.{List}
use lib.ListN.{length}
use Rattle.format_fields.specs.Inner.Places.{field_end, places_from, places}
use Rattle.format_fields.proofs.Truth.{Mem}
use Rattle.format_fields.proofs.Places.{places_next}
use Rattle.run_table.specs.Inner.Table.{is_place}
use Rattle.run_table.specs.Inner.Filling.{Hinted}
use Rattle.run_table.proofs.Clauses.{mem_place}

-- put_hints
pub record Hinting (b t u : List ℕ) (p : ℕ) : Type 0 where
  pub hinted : Hinted b t u
  pub rest : (x : ℕ) → Mem x (places_from b p) → Mem x (places b)

pub hinting_next : (b t u v : List ℕ) (p e : ℕ) → p < length b → e ≡ field_end b p
    → ((o : List ℕ) → is_place b p ≡ true → Hinted b o u → Hinted b o v) → Hinting b t u p → Hinting b t v e
hinting_next b t u v p e h ee put w =
    let n = places_next b p h in
    let here : Mem p (places_from b p) = rw n (inl refl) in
    record {
      hinted = put t (mem_place b p (w.rest p here)) w.hinted;
      rest = λ x m. w.rest x (rw n (inr (rw ee at m)));
    }
