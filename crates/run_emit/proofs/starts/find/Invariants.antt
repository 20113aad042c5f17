use Prim.Native.Nat.{ℕ}
use mathlib.Core.List.{List}
use Rattle.tree_reader.specs.Code.{Codes}
use Rattle.tree_reader.specs.Typing.{Uses}
use Rattle.format_translation.specs.Translation.{Translation}
use Rattle.run_emit.specs.Inner.Runs.{FindAsks}
use Rattle.run_emit.proofs.Ends.{Reached}
use Rattle.run_emit.proofs.starts.find.Given as goal

abbrev pub invariant-loop-i : goal.invariant-loop-i
invariant-loop-i l = ((f : Translation) (given : Uses) (ts : Codes) (ks : List ℕ) → FindAsks l.reading.syntax l.reading.table.now l.reading.input.now l.reading.ends.now l.initial.node l.j f given ts ks → Reached l.reading.syntax l.reading.table.now l.reading.input.now l.initial.node l.node l.p l.i f given ts ks)
