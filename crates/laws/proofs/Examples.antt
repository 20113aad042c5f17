-- Every starred example holds, and every case of the four laws meets what its law asks for, by computation.
use mathlib.Core.Path.{◌≡◌, refl}
use mathlib.Core.Bool.{true, ◌&&◌}
use Rattle.format_fields.specs.Fields.{encode_field, encode_fields, pair_at, split_fields, fields_of, says_over, has_over}
use Rattle.format_fields.specs.Lists.{all, any, keep, first, concat_map, traverse, count_up, same_numbers}
use Rattle.format_fields.specs.Keyed as Keyed
use Rattle.format_language.specs.Language.{entry_key, in_range, same_range, legal_too, range_within, same_entry, range_at, range_of, arguments_at, arguments_of, result_is, mentions, is_in, class_is_result, clashes}
use Rattle.format_language.specs.LanguageFile.{range_whole, range_in, step_bytes, class_of, production_of, entry_of, entry_field, entries_of, encode_language, language_of}
use Rattle.tree_reader.specs.Syntax.{write, read_all, read_operands, read_node, read_token, use_of, read_argument, read_numbered, read_use, read_tree_level, read_code_level, read_level, past_levels, read_by}
use Rattle.tree_reader.specs.Operations.{tree_of}
use Rattle.format_translation.specs.Translation.{item_key, same_item, target_at, mapping_of, code_at, clause_of, mapped, number_at, numbers_of, plain_key, number_of}
use Rattle.format_translation.specs.Running.{from_one, substitute, run, uses_of, read_clause, clauses_of, transform}
use Rattle.format_translation.specs.WellFormed.{kinds, kinds_mapped, reaches_target, class_kept, mapping_fits, has_clause, has_production, clauses_fit, code_fits, codes_fit, well_formed}
use Rattle.format_translation.specs.TranslationFile.{mapping_field, numbered_mapping, clause_field, numbered_clause, item_of, item_field, grouped, items_in, body_of, parts_in, parts_of, translation_fields, encode_translation, all_rising, translation_of}
use Rattle.format_translation.specs.Operations.{run_bytes}
use Rattle.reduce_operators.specs.Operators.{languages_fit, language_union, language_sum, language_without, number_kept, numbers_agree, translations_fit, translation_union, translation_sum, entry_within, join_fits, low_number, numbers_low, join_item, is_of, translation_without, joined, translation_join, arguments_from, identity_clause, identity_of}
use Rattle.reduce_operators.specs.Limits.{code_is_deep, language_exceeds, translation_exceeds}
use Rattle.format_pack.specs.Terms.{write_term, term_levels, language_sign, translation_sign, read_sign, read_term, scoped}
use Rattle.format_pack.specs.Pack.{part_of, in_groups, pack_with, pack_in, pack_parts, pack_of, term_of}
use Rattle.reduce_signs.specs.Evaluation.{evaluate}
use Rattle.reduce_operation.specs.Operations.{ready, work, reduce_bytes}
use Rattle.format_fields.proofs.Truth.{and_both}
use Rattle.laws.specs.Examples.{holds, times, rows}
use Rattle.laws.specs.Cases.{met, cases}

all_hold : (all holds rows && all met cases) ≡ true
unfolding holds times rows met cases all any keep first concat_map traverse count_up same_numbers encode_field encode_fields pair_at split_fields fields_of says_over has_over Keyed.rising_from Keyed.rising Keyed.insert Keyed.union Keyed.holds Keyed.within Keyed.without Keyed.agree entry_key in_range same_range legal_too range_within same_entry range_at range_of arguments_at arguments_of result_is mentions is_in class_is_result clashes range_whole range_in class_of production_of entry_of step_bytes entry_field entries_of encode_language language_of write read_all read_operands read_node read_token use_of read_argument read_numbered read_use read_tree_level read_code_level read_level past_levels read_by tree_of item_key same_item target_at mapping_of code_at clause_of mapped number_at numbers_of plain_key number_of from_one substitute run uses_of read_clause clauses_of transform kinds kinds_mapped reaches_target class_kept mapping_fits has_clause has_production clauses_fit code_fits codes_fit well_formed mapping_field numbered_mapping clause_field numbered_clause item_of item_field grouped items_in body_of parts_in parts_of translation_fields encode_translation all_rising translation_of run_bytes languages_fit language_union language_sum language_without number_kept numbers_agree translations_fit translation_union translation_sum entry_within join_fits low_number numbers_low join_item is_of translation_without joined translation_join arguments_from identity_clause identity_of code_is_deep language_exceeds translation_exceeds write_term term_levels language_sign translation_sign read_sign read_term scoped part_of in_groups pack_with pack_in pack_parts pack_of term_of evaluate ready work reduce_bytes
all_hold = refl

pub every_row_holds : all holds rows ≡ true
every_row_holds = (and_both (all holds rows) (all met cases) all_hold).0

pub every_case_met : all met cases ≡ true
every_case_met = (and_both (all holds rows) (all met cases) all_hold).1
