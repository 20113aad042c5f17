use Rattle.format_fields.specs.Inner.Places.{order_at}
use mathlib.Core.Path.{refl}
use mathlib.Core.Bool.{false}
use Rattle.format_pack.proofs.Passes.{entries_in, entries_rise, clash_other, clash_language}
use Rattle.format_pack.proofs.order.clash_at.Goals as goal

pub returns-then-s-p-ne-LANGUAGE : goal.returns-then-s-p-ne-LANGUAGE
returns-then-s-p-ne-LANGUAGE c = clash_other _ _ _ c.requires.0.is _ refl false c.if-s-p-ne-LANGUAGE.true

pub result_is_class-requires : goal.result_is_class-requires
unfolding order_at
result_is_class-requires c = record { whole = entries_in _ _ _ c.requires.0.is _ refl c.requires.1 c.if-s-p-ne-LANGUAGE.false; rises = entries_rise _ _ _ c.requires.0.is _ refl c.requires.2 c.if-s-p-ne-LANGUAGE.false }

pub returns : goal.returns
returns c = clash_language _ _ _ c.requires.0.is _ refl _ c.if-s-p-ne-LANGUAGE.false c.result_is_class.ensures
