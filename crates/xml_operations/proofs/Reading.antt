-- The export of what was read of a tree at a position.
use Prim.Native.Nat.{ℕ}
use mathlib.Core.Path.{◌≡◌, refl, ap, ◌∙◌}
use mathlib.Core.List.{List, ◌++◌}
use mathlib.Core.Option.{some}
use lib.ListN.{get_or}
use lib.Seq.{slice}
use Rattle.format_fields.specs.Fields.{pair_at}
use Rattle.format_language.specs.Language.{Language, arguments_of}
use Rattle.tree_reader.specs.Code.{Code, node, Codes}
use Rattle.check_operations.proofs.Reading.{ReadToken, ReadNode}
use Rattle.format_fields.specs.Decimal.{decimal}
use Rattle.xml_text.specs.Text.{node_tag, token_tag, open_node, close_node, open_token, close_token, kinds_of, export, export_all}

pub token_text : (l : Language) (k : ℕ) {b : List ℕ} {at : ℕ} {a : Code} {rest : List ℕ} → ReadToken b at a rest
    → export l k a ≡ token_tag open_token k ++ (decimal (pair_at b at) ++ token_tag close_token k)
unfolding export
token_text l k t = ap (export l k) t.is

production_text : (l : Language) (k p : ℕ) (ks : List ℕ) (t : Codes) → arguments_of l k p ≡ some ks
    → export l k (node k p t) ≡ node_tag open_node k p ++ (export_all l ks t ++ node_tag close_node k p)
unfolding export kinds_of
production_text l k p ks t e = rw e refl

pub node_text : {s : List ℕ} {l : Language} {k : ℕ} {b : List ℕ} {at levels from stop : ℕ} {a : Code} {rest : List ℕ} (d : ReadNode s l k b at levels from stop a rest)
    → export l k a ≡ node_tag open_node k (get_or b at 0) ++ (export_all l (slice from stop s) d.operands ++ node_tag close_node k (get_or b at 0))
node_text {l = l} {k} {b} {at} d = ap (export l k) d.is ∙ production_text l k (get_or b at 0) _ d.operands d.known
