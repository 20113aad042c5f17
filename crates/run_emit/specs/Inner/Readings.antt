-- What the functions of the run ask for and give, over what a run reads.
use Rattle.std.specs.Prelude.{ℕ, ◌+◌, ◌≤◌, ◌≡◌, Bool, List, length}
use Rattle.format_language.specs.Language.{Language}
use Rattle.tree_reader.specs.Code as Terms
use Rattle.tree_reader.specs.Code.{Codes}
use Rattle.tree_reader.specs.Typing.{Uses}
use Rattle.tree_reader.specs.declared.node.Syntax.TheVariants.{Code}
use Rattle.format_translation.specs.Translation.{Translation}
use Rattle.format_translation.specs.Running.{clauses_of, run, run_operand}
use Rattle.run_emit.specs.declared.reading.Reading.{Reading}
use Rattle.run_emit.specs.declared.run.Used.{Used}
use Rattle.run_emit.specs.declared.run.Used.TheVariants.{At}
use Rattle.run_emit.specs.Inner.Runs as Runs
use Rattle.run_emit.specs.Inner.Runs.{used_number, used_place, LeafLow}

-- The bytes of a code, of codes, and of codes in which each use is replaced by the run of that argument.
abbrev pub bytes_in : Reading → Terms.Code → List ℕ
bytes_in r u = Runs.bytes_of r.syntax u

abbrev pub all_bytes_in : Reading → Codes → List ℕ
all_bytes_in r ts = Runs.all_bytes r.syntax ts

abbrev pub row_bytes_in : Reading → Translation → Codes → Codes → List ℕ
row_bytes_in r f ts cs = Runs.row_bytes r.syntax f ts cs

-- The bytes of the run of a term, by the number by which it is used, and of the run of the argument that is used at c in the body.
abbrev pub node_bytes : Reading → Translation → Used → Terms.Code → List ℕ
node_bytes r f used u = bytes_in r (run (clauses_of f) (used_number r.table.now used) u)

abbrev pub argument_bytes : Reading → Translation → Codes → ℕ → List ℕ
argument_bytes r f ts c = bytes_in r (run_operand (clauses_of f) ts (used_place r.table.now c) (used_number r.table.now (At c)))

-- A leaf: whether one stands at a position where a term of kind k is to be, how long it is, and the bytes of its run.
abbrev pub leaf_at : Reading → ℕ → ℕ → Bool
leaf_at r k at = Runs.leaf_at r.syntax r.table.now k r.input.now at

abbrev pub leaf_length : Reading → ℕ → ℕ
leaf_length r at = Runs.leaf_length r.syntax r.input.now at

abbrev pub leaf_run : Reading → ℕ → Used → List ℕ
leaf_run r at used = Runs.leaf_run r.syntax r.input.now at (used_number r.table.now used)

-- What is asked of a leaf that is put out.
abbrev pub LeafAsks : Reading → ℕ → Used → Type 0
LeafAsks r at used =
    (at + leaf_length r at ≤ length r.input.now) × (r.syntax ≡ Code → LeafLow r.input.now at (used_number r.table.now used))

-- A node.
abbrev pub Right : Reading → Language → Uses → Type 0
Right r l given = Runs.Right r.syntax r.ends.now r.input.now l given

abbrev pub Node : Reading → List ℕ → Language → Uses → Codes → List ℕ → Type 0
Node r node l given ts ks = Runs.Node r.syntax r.table.now r.input.now node l given ts ks

abbrev pub NodeAt : Reading → ℕ → ℕ → Used → Translation → Uses → Terms.Code → Type 0
NodeAt r at k used f given u = Runs.NodeAt r.syntax r.table.now r.input.now at k (used_number r.table.now used) f given u

abbrev pub Started : Reading → List ℕ → ℕ → ℕ → Used → Translation → Uses → Terms.Code → Type 0
Started r node at c used f given u = Runs.Started r.syntax r.table.now r.input.now node at c (used_number r.table.now used) f given u

-- What is asked for: a step over a term, the start of an argument, the end of the last one, codes in a row, the run of an
-- argument, and that of a production's term.
abbrev pub SkipAsks : Reading → ℕ → ℕ → Translation → Uses → Terms.Code → ℕ → Type 0
SkipAsks r q at f given u k = Runs.SkipAsks r.syntax r.table.now r.input.now q at f given u k

abbrev pub FindAsks : Reading → List ℕ → ℕ → Translation → Uses → Codes → List ℕ → Type 0
FindAsks r node j f given ts ks = Runs.FindAsks r.syntax r.table.now r.input.now r.ends.now node j f given ts ks

abbrev pub LastAsks : Reading → List ℕ → Translation → Uses → Codes → List ℕ → Type 0
LastAsks r node f given ts ks = Runs.LastAsks r.syntax r.table.now r.input.now r.ends.now node f given ts ks

abbrev pub RowAsks : Reading → List ℕ → ℕ → ℕ → ℕ → Translation → Uses → Codes → List ℕ → Codes → List ℕ → Type 0
RowAsks r node at stop left f given ts ks cs js =
    Runs.RowAsks r.syntax r.table.now r.input.now r.ends.now node at stop left f given ts ks cs js

abbrev pub PlacedAsks : Reading → List ℕ → ℕ → ℕ → ℕ → ℕ → Translation → Uses → Codes → List ℕ → Type 0
PlacedAsks r node left j at c f given ts ks =
    Runs.PlacedAsks r.syntax r.table.now r.input.now r.ends.now node left j at c f given ts ks

abbrev pub NodeAsks : Reading → ℕ → ℕ → Used → ℕ → Translation → Uses → Terms.Code → Type 0
NodeAsks r at k used left f given u =
    Runs.NodeAsks r.syntax r.table.now r.input.now r.ends.now at k (used_number r.table.now used) left f given u
