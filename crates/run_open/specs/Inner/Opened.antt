-- What opening a translation leaves.
use Rattle.std.specs.Prelude.{ℕ, List}
use Rattle.tree_reader.specs.Inner.Index.{Built}
use Rattle.format_translation.specs.Translation.{Translation}
use Rattle.run_table.specs.Inner.Table.{Ready, Checked}

-- The table of a translation f that was accepted, whose parts are s, t and b: it is filled, and the source's index stands in it.
pub record Prepared (s t b table : List ℕ) (f : Translation) : Type 0 where
  pub checked : Checked s t b f
  pub ready : Ready table f
  pub index : Built 0x11 s table 0
