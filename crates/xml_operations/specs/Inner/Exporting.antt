-- The export of what stands in bytes, written into an output that has room for it.
use Rattle.std.specs.Prelude.{ℕ, ◌+◌, ◌≤◌, ◌≡◌, List, [], length, drop}
use Rattle.format_fields.specs.Inner.Writing.{Written}
use Rattle.format_language.specs.Language.{Language}
use Rattle.tree_reader.specs.Code.{Code, Codes}
use Rattle.tree_reader.specs.Syntax.{done, read, read_all, tree}
use Rattle.tree_reader.specs.Inner.Index.{Indexed}
use Rattle.xml_text.specs.Text.{export, export_all}

-- The tree a of kind k stands at `at`, before `rest`, and its export has room from n on.
pub record TreeAsks (s index : List ℕ) (k : ℕ) (b : List ℕ) (at levels room n : ℕ) (l : Language) (a : Code) (rest : List ℕ) : Type 0 where
  pub indexed : Indexed index s l
  pub reads : read tree l [] levels k (drop at b) ≡ done a rest
  pub fits : n + length (export l k a) ≤ room

-- The trees t of the kinds stand at `at`, before `rest`, and their exports have room from n on.
pub record TreesAsk (kinds s index b : List ℕ) (at levels room n : ℕ) (l : Language) (t : Codes) (rest : List ℕ) : Type 0 where
  pub indexed : Indexed index s l
  pub reads : read_all (read tree l [] levels) kinds (drop at b) ≡ done t rest
  pub fits : n + length (export_all l kinds t) ≤ room

-- The text v, of what stands in b before `rest`, was written over the output o from n up to m; `rest` stands from e on.
pub record Exported (v b rest o o' : List ℕ) (n e m : ℕ) : Type 0 where
  pub left : drop e b ≡ rest
  pub inside : e ≤ length b
  pub put : Written v o o' n m
