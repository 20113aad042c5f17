-- The masked form of what stands in bytes, put into an output as far as it has room.
use Rattle.std.specs.Prelude.{ℕ, ◌+◌, ◌≤◌, ◌≡◌, List, [], length, drop}
use Rattle.std.proofs.Math.Seq.{slice}
use Rattle.outcome.specs.Outcome.{◌>>=◌, Outcome}
use Rattle.format_fields.specs.Inner.Writing.{spliced}
use Rattle.format_language.specs.Language.{Language}
use Rattle.tree_reader.specs.Code.{Code, Codes}
use Rattle.tree_reader.specs.Syntax.{done, read, read_all, tree}
use Rattle.tree_reader.specs.Operations.{tree_levels, whole_tree}
use Rattle.tree_reader.specs.Inner.Index.{Indexed}
use Rattle.format_translation.specs.Operations.{fitted}
use Rattle.format_card.specs.Card.{Card}
use Rattle.format_card.specs.Inner.Sets.{Holds}
use Rattle.check_operations.specs.Inner.Answering.{Gives}
use Rattle.tree_mask.specs.Mask.{masked, masked_all}
use Rattle.tree_mask.specs.declared.row.Row.{Row}
use Rattle.tree_mask.specs.Inner.Rows.{Walkable, Nearer}

-- The text v takes the bytes from n up to m; it stands there if the output o has room for it.
pub record Puts (v o o' : List ℕ) (n m : ℕ) : Type 0 where
  pub end : m ≡ n + length v
  pub bytes : m ≤ length o → o' ≡ spliced o n v

-- e is where the tree of kind k ends that stands at `at`, with so many levels left; it lies in the bytes in any case.
pub record EndsTree (s index : List ℕ) (k : ℕ) (b : List ℕ) (at levels e : ℕ) : Type 0 where
  pub inside : e ≤ length b
  pub left : (l : Language) (a : Code) (rest : List ℕ) → Indexed index s l → read tree l [] levels k (drop at b) ≡ done a rest → drop e b ≡ rest

-- The text v, of what stands in b before `rest`, is put behind the first n bytes and ends at m; `rest` stands from e on.
pub record Masks (v b rest o o' : List ℕ) (n e m : ℕ) : Type 0 where
  pub left : drop e b ≡ rest
  pub put : Puts v o o' n m

-- The masked form of the tree of kind k that stands at `at`, with so many levels left, for a card whose kinds are a set.
abbrev pub MasksTree : List ℕ → List ℕ → ℕ → ℕ → List ℕ → ℕ → ℕ → List ℕ → List ℕ → ℕ → ℕ → ℕ → Type 0
MasksTree s index kinds k b at levels o o' n e m =
    (l : Language) (card : Card) (a : Code) (rest : List ℕ) → Indexed index s l → Holds kinds card → read tree l [] levels k (drop at b) ≡ done a rest
    → Masks (masked l card k a) b rest o o' n e m

-- The masked forms of the trees that stand at `at`, whose kinds stand in s from q up to p.
abbrev pub MasksTrees : List ℕ → List ℕ → ℕ → ℕ → ℕ → List ℕ → ℕ → ℕ → List ℕ → List ℕ → ℕ → ℕ → ℕ → Type 0
MasksTrees s index kinds q p b at levels o o' n e m =
    (l : Language) (card : Card) (t : Codes) (rest : List ℕ) → Indexed index s l → Holds kinds card
    → read_all (read tree l [] levels) (slice q p s) (drop at b) ≡ done t rest
    → Masks (masked_all l card (slice q p s) t) b rest o o' n e m

-- The masked forms of the trees of a row.
abbrev pub MasksRow : List ℕ → List ℕ → ℕ → List ℕ → Row → List ℕ → List ℕ → ℕ → ℕ → Type 0
MasksRow s index kinds b row o o' e m = MasksTrees s index kinds row.kind row.stop b row.tree row.levels o o' row.text e m

-- What is put for the trees of the row `next` completes what is put for those of `row`.
abbrev pub Goes : List ℕ → List ℕ → ℕ → List ℕ → Row → List ℕ → Row → List ℕ → Type 0
Goes s index kinds b row o next o₁ = (o₂ : List ℕ) (e h : ℕ) → MasksRow s index kinds b next o₁ o₂ e h → MasksRow s index kinds b row o o₂ e h

-- A step of the walk: a row with less to go, whose masked forms complete those of the row.
pub record Advances (s index : List ℕ) (kinds : ℕ) (b : List ℕ) (row : Row) (o : List ℕ) (next : Row) (o₁ : List ℕ) : Type 0 where
  pub walk : Walkable s index b next
  pub nearer : Nearer row next
  pub goes : Goes s index kinds b row o next o₁

-- The masked form of the tree of kind k that the bytes b are.
abbrev pub MasksWhole : List ℕ → List ℕ → ℕ → ℕ → List ℕ → List ℕ → List ℕ → ℕ → Type 0
MasksWhole s index kinds k b o o' m =
    (l : Language) (card : Card) (a : Code) → Indexed index s l → Holds kinds card → read tree l [] tree_levels k b ≡ done a []
    → Puts (masked l card k a) o o' 0 m

-- The outcome, and the output that is left, are those of the masked form of the legal tree of kind k that the bytes b are.
abbrev pub GivesLegal : List ℕ → List ℕ → ℕ → ℕ → List ℕ → List ℕ → List ℕ → Outcome → Type 0
GivesLegal s index kinds k b before after outcome =
    (l : Language) (card : Card) (t : Code) → Indexed index s l → Holds kinds card → read tree l [] tree_levels k b ≡ done t []
    → Gives (fitted (length before) (masked l card k t)) before after outcome

-- The outcome, and the output that is left, are those of the masked form of the tree of kind k that the bytes b are, with nothing
-- after it.
abbrev pub GivesTree : List ℕ → List ℕ → ℕ → ℕ → List ℕ → List ℕ → List ℕ → Outcome → Type 0
GivesTree s index kinds k b before after outcome =
    (l : Language) (card : Card) → Indexed index s l → Holds kinds card
    → Gives (whole_tree (read tree l [] tree_levels k b) >>= λ t. fitted (length before) (masked l card k t)) before after outcome
