-- The request's examples, computed (paper 02, 2026-05).
use mathlib.Core.Path.{◌≡◌, refl}
use mathlib.Core.List.{[], ◌∷◌, ◌++◌}
use Rattle.format_fields.specs.Lists.{first}
use Rattle.format_language.specs.Language.{Language, range, class, production, arguments_at, arguments_of}
use Rattle.tree_reader.specs.Code.{node, token, nil, cons}
use Rattle.format_fields.specs.Decimal.{decimal_by, decimal}
use Rattle.xml_text.specs.Text.{node_tag, token_tag, kinds_of, export, export_all}

-- Minutes of 1 to 240, row 1.1 and twice 1.4.
abbrev strap : Language
strap = class 2 (range 1 240 1) ∷ production 1 1 (2 ∷ []) ∷ production 1 4 (1 ∷ []) ∷ []

-- A token of kind 2 with value 5 is `<t2>5</t2>`.
pub token_example : export strap 2 (token 5) ≡ 60 ∷ 116 ∷ 50 ∷ 62 ∷ 53 ∷ 60 ∷ 47 ∷ 116 ∷ 50 ∷ 62 ∷ []
unfolding export token_tag decimal decimal_by
token_example = refl

-- Production 1.4 around a row of it is `<x1.4><x1.1><t2>5</t2></x1.1></x1.4>`.
pub node_example : export strap 1 (node 1 4 (cons (node 1 1 (cons (token 5) nil)) nil))
    ≡ (60 ∷ 120 ∷ 49 ∷ 46 ∷ 52 ∷ 62 ∷ 60 ∷ 120 ∷ 49 ∷ 46 ∷ 49 ∷ 62 ∷ [])
    ++ (60 ∷ 116 ∷ 50 ∷ 62 ∷ 53 ∷ 60 ∷ 47 ∷ 116 ∷ 50 ∷ 62 ∷ [])
    ++ (60 ∷ 47 ∷ 120 ∷ 49 ∷ 46 ∷ 49 ∷ 62 ∷ 60 ∷ 47 ∷ 120 ∷ 49 ∷ 46 ∷ 52 ∷ 62 ∷ [])
unfolding export export_all token_tag node_tag kinds_of arguments_of arguments_at first decimal decimal_by
node_example = refl
