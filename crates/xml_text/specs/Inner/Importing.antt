-- The tree that a text is the export of.
use Rattle.std.specs.Prelude.{ℕ, zero, suc, ◌+◌, ◌<◌, ◌≤◌, ◌≡◌, cond, List, [], ◌∷◌, length, drop, get_or, ltb, Option, Some, None, Result, Ok, Err}
use Rattle.outcome.specs.declared.Reason.{Reason}
use Rattle.outcome.specs.declared.Reason.TheVariants.{TooDeep, NotAnExport}
use Rattle.format_language.specs.Language.{Language, production_key}
use Rattle.tree_reader.specs.Syntax.{Read, done, deep, broken}
use Rattle.format_fields.specs.Fields.{pair_at}
use Rattle.tree_reader.specs.Code.{Code}
use Rattle.tree_reader.specs.Inner.Index.{Indexed}
use Rattle.tree_reader.specs.Inner.Positions.{KindsIn}
use Rattle.xml_text.specs.Import.{read_opening, read_element, read_text}
use Rattle.tree_reader.specs.declared.operands.Operands.{Operands}
use Rattle.xml_text.specs.declared.import.TextError.{TextError}
use Rattle.xml_text.specs.declared.import.TextError.TheVariants.{Deep, Broken}

-- Where the text of a tree ends, or why it is not read.
abbrev pub Text : Type 0
Text = Result ℕ TextError

-- Why import refuses what is not read.
abbrev pub reason_of : TextError → Reason
reason_of Deep = TooDeep
reason_of Broken = NotAnExport

-- A position that was reached lies in the text.
abbrev pub Inside : List ℕ → Text → Type 0
Inside text r = (e : ℕ) → r ≡ Ok e → e ≤ length text

-- The answer r says what the reading p comes to.
pub record Imports {A : Type 0} (p : Read A) (text : List ℕ) (r : Text) : Type 0 where
  pub found : (e : ℕ) → r ≡ Ok e → (a : A) × (p ≡ done a (drop e text))
  pub deep : r ≡ Err Deep → p ≡ deep
  pub broken : r ≡ Err Broken → p ≡ broken

-- The tree of kind k at `at`, with so many levels left.
abbrev pub ImportsTree : List ℕ → List ℕ → ℕ → List ℕ → ℕ → ℕ → Text → Type 0
ImportsTree s index k text at levels r = (l : Language) → Indexed index s l → Imports (read_text l levels k (drop at text)) text r

-- The kinds of the row at depth d: the outermost row is the root k alone, any other stands in s.
abbrev pub row_kinds : ℕ → List ℕ → ℕ → List ℕ
row_kinds k s zero = k ∷ []
row_kinds k s (suc d) = s

-- The opening tag of production k.p stands from `at` up to a.
pub record Opens (k : ℕ) (text : List ℕ) (at p a : ℕ) : Type 0 where
  pub reads : read_opening k (drop at text) ≡ done p (drop a text)
  pub small : p < 65536
  pub past : at + 2 ≤ a
  pub inside : a ≤ length text

-- The place of production k.p in the index; there is none whose name is no byte.
unfoldable pub place_of : List ℕ → ℕ → ℕ → ℕ
place_of index k p = cond (ltb 255 p) 0 (get_or index (production_key k p) 0)

-- An element of kind k at `at`: its opening tag ends at a, and the kinds of its arguments stand in s from q up to e.
pub record OpensElement (s index : List ℕ) (k : ℕ) (text : List ℕ) (at q e a : ℕ) : Type 0 where
  pub name : ℕ
  pub place : ℕ
  pub opens : Opens k text at name a
  pub is_place : place ≡ place_of index k name
  pub some_place : place ≡ 0 → ⊥
  pub from : q ≡ place + 4
  pub to : e ≡ place + 2 + pair_at s place
  pub kinds : KindsIn s q e

-- The answer r says whether there is one.
pub record Elements (s index : List ℕ) (k : ℕ) (text : List ℕ) (at : ℕ) (r : Option (Operands × ℕ)) : Type 0 where
  pub found : (o : Operands) (a : ℕ) → r ≡ Some (o, a) → OpensElement s index k text at o.first o.last a
  pub nothing : r ≡ None → (l : Language) → Indexed index s l → (reads : ℕ → List ℕ → Read Code) → read_element reads l k (drop at text) ≡ broken
