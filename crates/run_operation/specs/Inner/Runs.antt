-- The run of a tree through a translation whose parts stand in bytes of their own.
use Rattle.std.specs.Prelude as Std
use Rattle.std.specs.Prelude.{ℕ, ◌≡◌, ◌<◌, true, not, List, [], length, get_or, Ok, Err}
use Rattle.std.proofs.Math.Option.{some}
use Rattle.outcome.specs.Outcome.{Result, value, refuse_if, ◌>>=◌, written, output_after, Outcome}
use Rattle.outcome.specs.declared.Reason.{Reason}
use Rattle.outcome.specs.declared.Reason.TheVariants.{UnknownRoot}
use Rattle.format_fields.specs.Lists.{is_some}
use Rattle.tree_reader.specs.Code.{Code}
use Rattle.tree_reader.specs.Syntax.{read, done, write, tree}
use Rattle.tree_reader.specs.Operations.{tree_of}
use Rattle.tree_reader.specs.declared.node.Syntax.TheVariants.{Tree}
use Rattle.format_translation.specs.Translation.{Translation, mapping_of}
use Rattle.format_translation.specs.Running.{clauses_of, transform}
use Rattle.format_translation.specs.Operations.{fitted, run_tree}
use Rattle.run_measure.specs.Cost.{cost}
use Rattle.run_measure.specs.Inner.Measuring.{Measured, EndsIn, sized_at, sized_of}
use Rattle.run_emit.specs.Inner.Runs.{Right}
use Rattle.run_open.specs.Inner.Opened.{Prepared}
use Rattle.run_operation.specs.declared.run.Given.{Given}
use Rattle.run_operation.specs.declared.run.Written.{Written}
use Rattle.run_operation.specs.Operations.{reported, run_cost}

-- What the run of a tree through f by a number comes to, with so much room: 14 to 17, the last links of the chain of `run_bytes`.
unfoldable pub run_of : Translation → (root number : ℕ) → List ℕ → ℕ → Result (List ℕ)
run_of f root number bytes room =
    refuse_if (not (is_some (mapping_of f.body root number))) UnknownRoot
    (tree_of f.source root bytes >>= λ t. fitted room (write tree (transform f number t)))

-- What that run reports as its cost: `run_cost` of a translation that was accepted.
unfoldable pub cost_of : Translation → (root number : ℕ) → List ℕ → ℕ → ℕ
cost_of f root number bytes room =
    reported (run_of f root number bytes room >>= λ result. tree_of f.source root bytes >>= λ t. value (cost (clauses_of f) number t))

-- What is answered, and the output that is left, are those of a result.
pub record Answers (result : Result (List ℕ)) (before after : List ℕ) (outcome : Outcome) : Type 0 where
  pub answer : outcome ≡ written result
  pub left : after ≡ output_after before result

-- What is run: the translation that is given was accepted as f, and its table is filled; source and tree are bytes.
pub record Opened (g : Given) (t : List ℕ) (f : Translation) : Type 0 where
  pub prepared : Prepared g.source.now t g.body.now g.table.now f
  pub source : (i : ℕ) → get_or g.source.now i 0 < 256
  pub tree : (i : ℕ) → get_or g.tree.now i 0 < 256

-- The kind has the number.
abbrev pub Has : Given → Translation → Type 0
Has g f = is_some (mapping_of f.body g.kind g.number) ≡ true

-- The bytes of the run of a tree.
abbrev pub result_of : Given → Translation → Code → List ℕ
result_of g f t = write tree (transform f g.number t)

-- What a run comes to: what was written, or a refusal.
abbrev pub Done : Type 0
Done = Std.Result Written Reason

-- The outcome, and the cost that is reported: 0 where the run is refused.
abbrev pub outcome_of : Done → Outcome
outcome_of (Ok w) = Ok w.length
outcome_of (Err r) = Err r

abbrev pub paid_of : Done → ℕ
paid_of (Ok w) = w.cost
paid_of (Err r) = 0

-- What is answered, the output that is left and the cost that is reported are those of the run of the tree through f.
pub record Ran (g : Given) (f : Translation) (before after : List ℕ) (done : Done) : Type 0 where
  pub answers : Answers (run_of f g.kind g.number g.tree.now (length before)) before after (outcome_of done)
  pub costs : paid_of done ≡ cost_of f g.kind g.number g.tree.now (length before)

-- They are those of the operation.
pub record Asked (translation : List ℕ) (root number : ℕ) (bytes before after : List ℕ) (done : Done) : Type 0 where
  pub outcome : outcome_of done ≡ (run_tree translation root number bytes before).outcome
  pub output : after ≡ (run_tree translation root number bytes before).output
  pub costs : paid_of done ≡ run_cost translation root number bytes (length before)

-- The tree that is given is the tree t of its kind, which has the number, and what is kept of where its parts end is right.
pub record Reads (g : Given) (f : Translation) (ends : List ℕ) (t : Code) : Type 0 where
  pub has : Has g f
  pub is : read tree f.source [] 64 g.kind g.tree.now ≡ done t []
  pub kept : Right Tree ends g.tree.now f.source []

-- What measuring leaves: where parts of the tree end, and what it came to.
pub record Measures (g : Given) (f : Translation) (ends : List ℕ) (top : ℕ) (r : Measured) : Type 0 where
  pub is : (u : ℕ) → mapping_of f.body g.kind g.number ≡ some u → sized_at g.tree.now r ≡ sized_of top f g.number (read tree f.source [] 64 g.kind g.tree.now)
  pub within : EndsIn (length g.tree.now) top r
  pub kept : Right Tree ends g.tree.now f.source []
