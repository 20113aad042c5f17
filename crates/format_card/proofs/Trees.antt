-- A tree that is handed in with a card: the refusals of a tree come after those of a card.
use Prim.Native.Nat.{ℕ, ◌<◌}
use mathlib.Core.Path.{◌≡◌, sym}
use mathlib.Core.Bool.{Bool, true, false, not}
use mathlib.Core.List.{List, [], ◌∷◌}
use native.Mathlib.Omega.{arith}
use Rattle.outcome.specs.Outcome.{refused, refuse_if, reason_number}
use Rattle.outcome.specs.declared.Reason.{Reason}
use Rattle.outcome.specs.declared.Reason.TheVariants as Why
use Rattle.format_fields.proofs.Codec.{refused_value}
use Rattle.format_language.specs.Language.{Language, is_in}
use Rattle.tree_reader.specs.Code.{Code}
use Rattle.tree_reader.specs.Syntax.{Read, done, deep, broken, read, tree}
use Rattle.tree_reader.specs.Operations.{tree_levels, whole_tree, tree_of}
use Rattle.format_card.proofs.Refusals.{same_refusal}

-- A tree is refused by 14 to 16.
pub tree_high : (l : Language) (k : ℕ) (b : List ℕ) (p : Reason) → tree_of l k b ≡ refused p → 13 < reason_number p
unfolding tree_of
tree_high l k b p e = go (not (is_in l k)) (read tree l [] tree_levels k b) e
  where
    by_reading : (o : Read Code) → whole_tree o ≡ refused p → 13 < reason_number p
    by_reading (done t []) h = refused_value (sym h)
    by_reading (done t (x ∷ r)) h = rw (← same_refusal {A = Code} h) (omega arith)
    by_reading deep h = rw (← same_refusal {A = Code} h) (omega arith)
    by_reading broken h = rw (← same_refusal {A = Code} h) (omega arith)

    go : (out : Bool) (o : Read Code) → refuse_if out Why.UnknownRoot (whole_tree o) ≡ refused p → 13 < reason_number p
    go true o h = rw (← same_refusal {A = Code} h) (omega arith)
    go false o h = by_reading o h
