use Rattle.std.proofs.Common.{rules, tests, ◌∙◌}
use Rattle.std.proofs.lemmas.Iterator.{YieldsList-from_slice}
use Rattle.std.proofs.lemmas.Iterator.Search.{all_from_yields_List}
use Rattle.format_fields.proofs.Lists.{all_is}
use Rattle.format_language.specs.LanguageFile.{is_kind}
use Rattle.format_language.proofs.entries.kinds_only.Goals as goal

pub returns : goal.returns
returns c = all_from_yields_List is_kind _ _ c.all.result c.all.ensures.ran (YieldsList-from_slice c.args.bytes.now cc) (λ x b q k. search (rules, tests)) ∙ all_is is_kind _
