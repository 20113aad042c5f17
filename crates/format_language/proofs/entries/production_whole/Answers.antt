use mathlib.Core.Path.{refl, sym, ap, ◌∙◌}
use native.Mathlib.Omega.{arith}
use Rattle.format_fields.specs.Lists.{all}
use Rattle.format_fields.proofs.Splices.{slice_is}
use Rattle.format_language.specs.LanguageFile.{is_kind}
use Rattle.format_language.proofs.Returns.{production_short, production_long, production_kind, production_kinds}
use Rattle.format_language.proofs.entries.production_whole.Goals as goal

pub returns-then-n-lt2 : goal.returns-then-n-lt2
returns-then-n-lt2 c = production_short _ _ _ _ c.requires.1 refl c.if-n-lt2.true

pub returns-then-n-gt-PRODUCTION_LENGTH : goal.returns-then-n-gt-PRODUCTION_LENGTH
returns-then-n-gt-PRODUCTION_LENGTH c = production_long _ _ _ _ c.requires.1 refl c.if-n-lt2.false c.if-n-gt-PRODUCTION_LENGTH.true

pub returns-then-s-p-ge-KINDS : goal.returns-then-s-p-ge-KINDS
returns-then-s-p-ge-KINDS c = production_kind _ _ _ _ c.requires.1 refl c.if-n-lt2.false c.if-n-gt-PRODUCTION_LENGTH.false c.if-s-p-ge-KINDS.true

pub returns : goal.returns
returns c = production_kinds _ _ _ _ c.requires.1 refl c.if-n-lt2.false c.if-n-gt-PRODUCTION_LENGTH.false c.if-s-p-ge-KINDS.false _ (c.kinds_only.ensures ∙ ap (all is_kind) (sym (slice_is c.args.s.now _ _ (omega arith) (omega (arith, c.requires.0)))))
