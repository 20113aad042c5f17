-- What the functions that put a joined table together ask for and give.
use Rattle.std.specs.Prelude.{ℕ, ◌+◌, ◌<◌, ◌≡◌, Bool, true, false, not, List, map, length, get_or, Option, Some, None}
use Rattle.std.proofs.Math.Option.{some}
use Rattle.format_fields.specs.Lists.{concat_map, count_up}
use Rattle.format_fields.specs.Fields.{encode_field}
use Rattle.outcome.specs.Outcome.{Result, refuse_if, ◌>>=◌, written, output_after, Outcome}
use Rattle.outcome.specs.declared.Reason.TheVariants.{NumberUnfit}
use Rattle.format_fields.specs.Inner.Writing.{Written}
use Rattle.format_language.specs.Language.{arguments_of}
use Rattle.format_language.specs.Inner.Entries.{IsProduction}
use Rattle.tree_reader.specs.Code.{Code}
use Rattle.tree_reader.specs.Inner.Index.{Built, index_length}
use Rattle.check_wellformed.specs.Inner.Ready.{indexes_length}
use Rattle.format_translation.specs.Translation.{Translation}
use Rattle.format_translation.specs.Running.{clauses_of}
use Rattle.format_translation.specs.Operations.{fitted}
use Rattle.format_translation.specs.Inner.ItemIndex.{IndexedItems}
use Rattle.format_translation.specs.Plain.{plain}
use Rattle.run_table.specs.Inner.Table.{Checked}
use Rattle.score_tree.specs.Figures.{figure_bytes}
use Rattle.score_tree.specs.LoadTable.{load, Table, load_field, encode_table, table_of}
use Rattle.score_tree.specs.Linear.{Loads, form}
use Rattle.score_tree.specs.Inner.Terms.{World}
use Rattle.score_join.specs.Joined.{joined_of}
use Rattle.score_join.specs.declared.join.Held.{Held}

-- The indexes of a translation's languages, one behind the other, as its check leaves them: that of the target t stands behind.
pub record Behind (t indexes : List ℕ) : Type 0 where
  pub long : length indexes ≡ indexes_length
  pub built : Built 0x11 t indexes index_length

-- What is held is f, which has number 0 only, its target with loads of it.
pub record Parts (h : Held) (f : Translation) (w : Loads) : Type 0 where
  pub checked : Checked h.source.now h.target.language.now h.body.now f
  pub source_bytes : (i : ℕ) → get_or h.source.now i 0 < 256
  pub body_bytes : (i : ℕ) → get_or h.body.now i 0 < 256
  pub plain_body : plain f.body ≡ true
  pub world : World h.target.language.now h.target.index.now h.target.figures.now f.target w
  pub indexed : IndexedItems h.items.now h.body.now f.body

-- The code of the clause of the production at p of the source.
abbrev pub clause_at : Translation → List ℕ → ℕ → Code
clause_at f s p = clauses_of f (get_or s (p + 3) 0) (get_or s (p + 4) 0) 0

-- So many figures of a code's form, from place j on, in bytes.
unfoldable pub figures_bytes : Loads → Code → ℕ → ℕ → List ℕ
figures_bytes w c count j = concat_map figure_bytes (map (form w c) (count_up count j))

-- The bytes of the joined load of the production at p of the source, with so many figures.
unfoldable pub load_bytes : Translation → Loads → List ℕ → ℕ → ℕ → List ℕ
load_bytes f w s p count = encode_field (load_field (load (get_or s (p + 3) 0) (get_or s (p + 4) 0) (map (form w (clause_at f s p)) (count_up count 0))))

-- The production at p of the source has so many figures.
pub record LoadAsks (h : Held) (p count : ℕ) (f : Translation) (w : Loads) : Type 0 where
  pub parts : Parts h f w
  pub production : IsProduction h.source.now p
  pub kinds : List ℕ
  pub known : arguments_of f.source (get_or h.source.now (p + 3) 0) (get_or h.source.now (p + 4) 0) ≡ some kinds

-- The answer r, where bytes v are to be put at n over o, if a test holds.
pub record Puts (fits : Bool) (v o after : List ℕ) (n : ℕ) (r : Option ℕ) : Type 0 where
  pub done : (m : ℕ) → r ≡ Some m → (fits ≡ true) × Written v o after n m
  pub outside : r ≡ None → fits ≡ false

-- The outcome and the output are those of a result.
pub record Answers (result : Result (List ℕ)) (before after : List ℕ) (outcome : Outcome) : Type 0 where
  pub answer : outcome ≡ written result
  pub left : after ≡ output_after before result

-- The joined table of f and w in bytes, with so much room: the last links of the chain of `join_bytes`.
unfoldable pub join_on : Translation → Table → ℕ → Result (List ℕ)
join_on f w room = joined_of f w >>= λ v. fitted room (encode_table v)

-- The same with the table in its bytes.
unfoldable pub join_with : Translation → List ℕ → ℕ → Result (List ℕ)
join_with f table room = table_of f.target table >>= λ w. join_on f w room

-- The same where f may have other numbers than 0.
unfoldable pub join_any : Translation → List ℕ → ℕ → Result (List ℕ)
join_any f table room = refuse_if (not (plain f.body)) NumberUnfit (join_with f table room)
