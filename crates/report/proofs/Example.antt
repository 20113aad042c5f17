-- A translation that 01 accepts and the report does not: the first half of C.6 (ii).
use Prim.Native.Nat.{ℕ, ◌+◌, ◌*◌}
use mathlib.Core.Path.{◌≡◌, refl, ap}
use mathlib.Core.Logic.{inl, inr}
use mathlib.Core.Bool.{true}
use mathlib.Core.List.{List, [], ◌∷◌}
use native.Mathlib.Omega.{arith}
use lib.Dec.{ltb}
use borrow.Author.Tests.{ltb-true}
use Rattle.outcome.specs.Outcome.{value}
use Rattle.format_fields.specs.Fields.{encode_field, encode_fields, pair_at, split_fields, fields_of, says_over, has_over}
use Rattle.format_fields.specs.Lists.{all, any, keep, first, concat_map, traverse, count_up, same_numbers}
use Rattle.format_fields.specs.Keyed as Keyed
use Rattle.format_fields.proofs.Truth.{Mem, all_mem}
use Rattle.format_fields.proofs.Codec.{Bytes}
use Rattle.format_language.specs.Language.{class, production, range, entry_key, in_range, same_range, legal_too, range_within, same_entry, range_at, range_of, arguments_at, arguments_of, result_is, mentions, is_in, class_is_result, clashes}
use Rattle.format_language.specs.LanguageFile.{range_whole, range_in, step_bytes, class_of, production_of, entry_of, entry_field, entries_of, encode_language}
use Rattle.tree_reader.specs.Syntax.{read_all, read_operands, read_node, read_token, use_of, read_argument, read_numbered, read_use, read_code_level, read_level, past_levels, read_by}
use Rattle.format_translation.specs.Translation.{item_key, target_at, mapping_of, code_at, clause_of, mapped, number_at, numbers_of, plain_key, number_of}
use Rattle.format_translation.specs.Plain.{by_zero, plain}
use Rattle.format_translation.specs.Running.{uses_of, read_clause}
use Rattle.format_translation.specs.WellFormed.{kinds, kinds_mapped, reaches_target, class_kept, mapping_fits, has_clause, has_production, clauses_fit, code_fits, codes_fit, well_formed}
use Rattle.format_translation.specs.TranslationFile.{mapping_field, numbered_mapping, clause_field, numbered_clause, item_of, item_field, grouped, items_in, parts_in, parts_of, translation_fields, encode_translation, all_rising, translation_of}
use Rattle.format_translation.proofs.PlainUses.{item_zero}
use Rattle.report.specs.Sets.{here, later}
use Rattle.report.specs.WellFormed.{Regular, WellFormed}
use Rattle.report.specs.Conditions.{to_class, RegularNotAsked}
use Rattle.report.proofs.Sets.{in_mem}
use Rattle.report.proofs.Files.{accepted, accepted_formed}

is_accepted : (translation_of (encode_translation to_class) ≡ value to_class) × (all (λ x. ltb x 256) (encode_translation to_class) ≡ true) × (plain to_class.body ≡ true)
unfolding all any keep first concat_map traverse count_up same_numbers encode_field encode_fields pair_at split_fields fields_of says_over has_over Keyed.rising_from Keyed.rising entry_key in_range same_range legal_too range_within same_entry range_at range_of arguments_at arguments_of result_is mentions is_in class_is_result clashes range_whole range_in class_of production_of entry_of step_bytes entry_field entries_of encode_language read_all read_operands read_node read_token use_of read_argument read_numbered read_use read_code_level read_level past_levels read_by item_key target_at mapping_of code_at clause_of mapped number_at numbers_of plain_key number_of by_zero plain uses_of read_clause kinds kinds_mapped reaches_target class_kept mapping_fits has_clause has_production clauses_fit code_fits codes_fit well_formed mapping_field numbered_mapping clause_field numbered_clause item_of item_field grouped items_in parts_in parts_of translation_fields encode_translation all_rising translation_of
is_accepted = (refl, refl, refl)

-- Numbers that are tested are bytes.
tested_bytes : (s : List ℕ) → ((x : ℕ) → Mem x s → ltb x 256 ≡ true) → Bytes s
tested_bytes [] h = tt
tested_bytes (x ∷ s) h = (ltb-true x 256 (h x (inl refl)), tested_bytes s (λ y m. h y (inr m)))

to_class_formed : WellFormed to_class
to_class_formed =
    let s = encode_translation to_class in
    accepted_formed to_class
    (accepted s to_class (tested_bytes s (λ x m. all_mem (λ y. ltb y 256) s is_accepted.1 x m)) is_accepted.0)
    (λ a m. item_zero to_class.body is_accepted.2 a (in_mem m))

-- A production is no class.
apart : (p : ℕ) (ks : List ℕ) → production 2 p ks ≡ class 2 (range 0 9 1) → ⊥
unfolding entry_key
apart p ks e = let k : 32 + (2 * 256 + p) ≡ 2 = ap entry_key e in omega arith

-- The target has no production of kind 2.
no_production : Regular to_class.target 2
no_production p ks m = go (in_mem m)
  where
    go : Mem (production 2 p ks) to_class.target → ⊥
    go (inl e) = apart p ks e
    go (inr m) = m

pub regular_not_asked : RegularNotAsked
regular_not_asked = (is_accepted.0, to_class_formed, λ h. h 1 2 here no_production 1 (2 ∷ []) (later here))
