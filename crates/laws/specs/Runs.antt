-- The law of runs (paper 01, "Rules", last item, and point 3; over every number, paper 02, 2026-13): what a join's run gives,
-- beside the two runs in turn.
use Rattle.std.specs.Prelude.{ℕ, ◌<◌, ◌≡◌, Bool, true, false, List, [], length, Err}
use Rattle.outcome.specs.Outcome.{Result, value, refused, number_of}
use Rattle.format_fields.specs.Lists.{is_some}
use Rattle.format_fields.specs.Fields.{Field}
use Rattle.outcome.specs.declared.Reason.{Reason}
use Rattle.outcome.specs.declared.Reason.TheVariants.{UnknownRoot, IllegalTree, TooDeep}
use Rattle.format_language.specs.Language.{Language}
use Rattle.tree_reader.specs.Code.{Code}
use Rattle.tree_reader.specs.Typing.{Typed}
use Rattle.tree_reader.specs.Syntax.{write, tree}
use Rattle.format_translation.specs.Translation.{Translation, mapping_of, mapped}
use Rattle.format_translation.specs.Running.{paired}
use Rattle.format_translation.specs.TranslationFile.{translation_of}
use Rattle.format_translation.specs.Operations.{Ran, run_tree}
use Rattle.format_pack.specs.Terms.{Term, translations, join}
use Rattle.reduce_operation.specs.Operations.{reduce}
use Rattle.laws.specs.Packed.{packed, put_out}

-- The bytes are a legal tree of the kind, at any depth.
abbrev pub Legal : Language → ℕ → List ℕ → Type 0
Legal l kind bytes = (t : Code) × Typed l [] t kind × (write tree t ≡ bytes)

-- The kind to which the translation in a file maps a kind by a number.
abbrev pub maps_to : Result Translation → ℕ → ℕ → ℕ
maps_to (value f) kind number = mapped f.body kind number
maps_to (refused r) kind number = 0

-- A kind has the number in the translation in a file.
abbrev pub has_number : Result Translation → ℕ → ℕ → Bool
has_number (value f) kind number = is_some (mapping_of f.body kind number)
has_number (refused r) kind number = false

-- The target language of the translation in a file.
abbrev pub target_in : Result Translation → Language
target_in (value f) = f.target
target_in (refused r) = []

-- A pack reduces to the bytes of a translation.
abbrev pub ReducesTo : List ℕ → List ℕ → List ℕ → List ℕ → Type 0
ReducesTo pack workspace output bytes =
    let r = reduce pack workspace output in
    (number_of r.outcome ≡ 0) × (put_out r.outcome r.output ≡ bytes)

-- The reasons to refuse a tree: its root (14), its bytes (15), its levels (16).
pub data OfTree : Reason → Type 0 where
  of_root : OfTree UnknownRoot
  of_bytes : OfTree IllegalTree
  of_levels : OfTree TooDeep

-- Two runs give the same number and length, and that many equal first bytes.
pub record SameRun (x y : Ran) : Type 0 where
  pub outcome : x.outcome ≡ y.outcome
  pub bytes : put_out x.outcome x.output ≡ put_out y.outcome y.output

-- What is said of three runs: of the first translation, of the second on exactly the bytes that the first put out,
-- with output b, and of the join, with output c. The join maps the root to a kind of its target; `there` says whether the root
-- has the number of its run.
pub record RunsOfJoin (first second joined : Ran) (b c : List ℕ) (target : Language) (kind : ℕ) (there : Bool) : Type 0 where
  -- Where the join's run is accepted, its bytes are a legal tree of that kind in that target.
  pub legal : number_of joined.outcome ≡ 0 → Legal target kind (put_out joined.outcome joined.output)
  -- Where the root lacks the number, the join's run refuses it with 14.
  pub lacks : there ≡ false → joined.outcome ≡ Err UnknownRoot
  -- Where it has the number and the first run refuses the tree, the join's run refuses it with the same number.
  pub refused : there ≡ true → (reason : Reason) → OfTree reason → first.outcome ≡ Err reason → joined.outcome ≡ Err reason
  -- Where the first run is accepted and the second does not refuse the middle tree as too deep, the join's run and the
  -- second give the same with equally long outputs, also where that is 17.
  pub agrees : number_of first.outcome ≡ 0 → (second.outcome ≡ Err TooDeep → ⊥) → length c ≡ length b
      → SameRun joined second

-- The law. The first translation is the join's second operand, g; f runs after it. Each of the three is what the pack
-- reduces to with that term alone as field 32, with any workspaces w and outputs o. The three runs have any outputs
-- a, b and c. The first runs by number i, the second by j, the join by i and j paired: with i n / 16 and j n % 16 this is every
-- number n.
abbrev pub LawOfRuns : Type 0
LawOfRuns =
    (fields : List Field) (f g : Term translations) (w w₁ w₂ o o₁ o₂ joined first second : List ℕ)
    → ReducesTo (packed fields (join f g)) w o joined
    → ReducesTo (packed fields g) w₁ o₁ first
    → ReducesTo (packed fields f) w₂ o₂ second
    → (root i j : ℕ) → j < 16 → (bytes a b c : List ℕ)
    → let n = paired i j in
    let one = run_tree first root i bytes a in
    let two = run_tree second (maps_to (translation_of first) root i) j (put_out one.outcome one.output) b in
    RunsOfJoin one two (run_tree joined root n bytes c) b c (target_in (translation_of joined)) (maps_to (translation_of joined) root n)
    (has_number (translation_of joined) root n)
