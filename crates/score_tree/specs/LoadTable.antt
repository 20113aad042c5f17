-- Load tables in bytes (paper 02, 2026-03): fields 24, one for each production of a language, rising.
use Rattle.std.specs.Prelude.{ℕ, suc, ◌+◌, ◌*◌, cond, ◌&&◌, List, [], ◌∷◌, map, length, get_or, eqb, ℤ, pos}
use Rattle.std.proofs.Math.Option
use Rattle.std.proofs.Math.Option.{Option, none, some}
use Rattle.outcome.specs.Outcome.{Result, value, refused}
use Rattle.outcome.specs.declared.Reason.TheVariants.{BrokenTable}
use Rattle.format_fields.specs.Lists.{first, before, concat_map}
use Rattle.format_fields.specs.Fields.{Field, field, byte_at, fields_of, encode_fields}
use Rattle.format_language.specs.Language.{Language, class, production}
use Rattle.score_tree.specs.Figures.{figures_from, figure_bytes}

-- The load of a production: its constant, and behind it a factor for each argument.
pub data Load : Type 0 where
  load : (result name : ℕ) (figures : List ℤ) → Load

-- A table is the loads of a language's productions.
abbrev pub Table : Type 0
Table = List Load

-- Field 24 of a production with n arguments: result, name, constant, factors; its length is 4 plus twice the arguments.
unfoldable pub load_of : ℕ → ℕ → ℕ → Field → Option Load
load_of r p n (field tag c) =
    cond (eqb tag 0x24 && (eqb (length c) (4 + 2 * n) && (eqb (byte_at c 0) r && eqb (byte_at c 1) p)))
    (some (load r p (figures_from (suc n) c 2)))
    none

-- The loads that fields give the productions of a language: one field for each production, in the order of the language,
-- which rises by (result, name). None where a field is broken or out of order, where one is lacking or one too many.
unfoldable pub loads_in : Language → List Field → Option Table
loads_in [] [] = some []
loads_in [] (f ∷ fs) = none
loads_in (class k c ∷ l) fs = loads_in l fs
loads_in (production r p ks ∷ l) [] = none
loads_in (production r p ks ∷ l) (f ∷ fs) = before (load_of r p (length ks) f) (loads_in l fs)

-- The same, where the fields are there.
abbrev pub loads_of : Language → Option (List Field) → Option Table
loads_of l none = none
loads_of l (some fs) = loads_in l fs

-- The table, or the refusal 18 where there is none.
abbrev pub whole_table : Option Table → Result Table
whole_table none = refused BrokenTable
whole_table (some w) = value w

-- The table of a language that a file holds: 18 where it holds none.
unfoldable pub table_of : Language → List ℕ → Result Table
table_of l s = whole_table (loads_of l (fields_of s))

-- The field of a load.
unfoldable pub load_field : Load → Field
load_field (load r p fs) = field 0x24 (r ∷ p ∷ concat_map figure_bytes fs)

-- The bytes of a table.
unfoldable pub encode_table : Table → List ℕ
encode_table w = encode_fields (map load_field w)

-- The figures of production p of kind k, if it has a load.
unfoldable pub figures_at : ℕ → ℕ → Load → Option (List ℤ)
figures_at k p (load r q fs) = cond (eqb r k && eqb q p) (some fs) none

-- Figure i of production p of kind k: 0 is the constant, i the factor of argument i. A table of a language has them all.
unfoldable pub figure_of : Table → ℕ → ℕ → ℕ → ℤ
figure_of w k p i = get_or (Option.get_or (first (figures_at k p) w) []) i (pos 0)
