-- The length of the export of a tree, which is read at the same time.
use Rattle.std.specs.Prelude.{ℕ, ◌+◌, ◌<◌, ◌≤◌, ◌≡◌, List, [], length, drop, Result, Ok, Err}
use Rattle.std.proofs.Math.Seq.{slice}
use Rattle.format_language.specs.Language.{Language}
use Rattle.tree_reader.specs.Syntax.{Read, done, deep, broken, read, read_all, tree}
use Rattle.tree_reader.specs.Inner.Index.{Indexed}
use Rattle.xml_text.specs.Text.{export, export_all}
use Rattle.tree_reader.specs.declared.node.ReadError.{ReadError}
use Rattle.tree_reader.specs.declared.node.ReadError.TheVariants.{Deep, Broken}
use Rattle.xml_operations.specs.declared.measure.Ends.{Ends}

-- What was measured of a tree, or why it is not read.
abbrev pub Measured : Type 0
Measured = Result Ends ReadError

-- No output is longer than this.
abbrev pub most : ℕ
most = 9223372036854775807

-- The number m is the sum of n and v, or both are above the length of every output.
pub record Sum (n v m : ℕ) : Type 0 where
  pub is : m ≤ most → m ≡ n + v
  pub long : most < m → most < n + v

-- A position that was reached lies in the bytes.
abbrev pub Within : List ℕ → Measured → Type 0
Within b r = (e : Ends) → r ≡ Ok e → e.tree ≤ length b

-- It also lies behind `at`.
abbrev pub Reaches : List ℕ → ℕ → Measured → Type 0
Reaches b at r = (e : Ends) → r ≡ Ok e → (at < e.tree) × (e.tree ≤ length b)

-- The answer r says what the reading p comes to; the length of the text of what was read is added to n.
pub record Measures {A : Type 0} (text : A → List ℕ) (p : Read A) (b : List ℕ) (n : ℕ) (r : Measured) : Type 0 where
  pub found : (e : Ends) → r ≡ Ok e → (a : A) × (p ≡ done a (drop e.tree b)) × Sum n (length (text a)) e.text
  pub deep : r ≡ Err Deep → p ≡ deep
  pub broken : r ≡ Err Broken → p ≡ broken

-- The tree of kind k at `at`, with so many levels left.
abbrev pub MeasuresTree : List ℕ → List ℕ → ℕ → List ℕ → ℕ → ℕ → ℕ → Measured → Type 0
MeasuresTree s index k b at levels n r =
    (l : Language) → Indexed index s l → Measures (export l k) (read tree l [] levels k (drop at b)) b n r

-- The trees at `at`, whose kinds stand in `kinds` from q up to e.
abbrev pub MeasuresTrees : List ℕ → List ℕ → List ℕ → ℕ → ℕ → List ℕ → ℕ → ℕ → ℕ → Measured → Type 0
MeasuresTrees kinds s index q e b at levels n r =
    (l : Language) → Indexed index s l → Measures (export_all l (slice q e kinds)) (read_all (read tree l [] levels) (slice q e kinds) (drop at b)) b n r
