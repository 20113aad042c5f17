-- Cards and masked plans, computed (paper 02, 2026-12).
use mathlib.Core.Path.{◌≡◌, refl}
use mathlib.Core.List.{[], ◌∷◌}
use Rattle.format_fields.specs.Lists.{all, any, first}
use Rattle.format_fields.specs.Fields.{pair_at, fields_of, split_fields}
use Rattle.format_fields.specs.Keyed.{rising, rising_from}
use Rattle.outcome.specs.Outcome.{value, refused}
use Rattle.outcome.specs.declared.Reason.TheVariants.{BrokenField, OutOfOrder}
use Rattle.format_language.specs.Language.{Language, range, class, production, arguments_at, arguments_of}
use Rattle.tree_reader.specs.Code.{Code, node, token, nil, cons}
use Rattle.format_card.specs.Card.{sees, card_in, card_of}
use Rattle.tree_mask.specs.Mask.{masked, masked_all}

-- Minutes of 1 to 240 are kind 2; row 1.1, sequence 1.2 and rest 1.3.
abbrev strap : Language
strap = class 2 (range 1 240 1) ∷ production 1 1 (2 ∷ []) ∷ production 1 2 (1 ∷ 1 ∷ []) ∷ production 1 3 (2 ∷ []) ∷ []

-- A row of 5 minutes, then a rest of 3: 02 01 00 05 03 00 03.
abbrev session : Code
session = node 1 2 (cons (node 1 1 (cons (token 5) nil)) (cons (node 1 3 (cons (token 3) nil)) nil))

-- Whoever may see kind 1 alone sees 02 01 FF 03 FF.
pub tokens_hidden : masked strap (1 ∷ []) 1 session ≡ 2 ∷ 1 ∷ 255 ∷ 3 ∷ 255 ∷ []
unfolding masked masked_all sees any arguments_of arguments_at first
tokens_hidden = refl

-- Whoever may see kind 2 alone, or nothing, sees FF.
pub root_hidden : masked strap (2 ∷ []) 1 session ≡ 255 ∷ []
unfolding masked masked_all sees any arguments_of arguments_at first
root_hidden = refl

pub all_shown : masked strap (1 ∷ 2 ∷ []) 1 session ≡ 2 ∷ 1 ∷ 0 ∷ 5 ∷ 3 ∷ 0 ∷ 3 ∷ []
unfolding masked masked_all sees any arguments_of arguments_at first
all_shown = refl

-- 27 00 02 01 02 is a card, and so is 27 00 00; nothing at all, a kind above 31 and a byte too many are 2, 02 01 is 3.
pub card_example : card_of (0x27 ∷ 0 ∷ 2 ∷ 1 ∷ 2 ∷ []) ≡ value (1 ∷ 2 ∷ [])
unfolding card_of card_in fields_of split_fields pair_at rising rising_from all
card_example = refl

pub empty_card : card_of (0x27 ∷ 0 ∷ 0 ∷ []) ≡ value []
unfolding card_of card_in fields_of split_fields pair_at rising rising_from all
empty_card = refl

pub no_card : card_of [] ≡ refused BrokenField
unfolding card_of card_in fields_of split_fields pair_at rising rising_from all
no_card = refl

pub no_kind : card_of (0x27 ∷ 0 ∷ 2 ∷ 32 ∷ 1 ∷ []) ≡ refused BrokenField
unfolding card_of card_in fields_of split_fields pair_at rising rising_from all
no_kind = refl

pub left_over : card_of (0x27 ∷ 0 ∷ 1 ∷ 1 ∷ 0 ∷ []) ≡ refused BrokenField
unfolding card_of card_in fields_of split_fields pair_at rising rising_from all
left_over = refl

pub out_of_order : card_of (0x27 ∷ 0 ∷ 2 ∷ 2 ∷ 1 ∷ []) ≡ refused OutOfOrder
unfolding card_of card_in fields_of split_fields pair_at rising rising_from all
out_of_order = refl
