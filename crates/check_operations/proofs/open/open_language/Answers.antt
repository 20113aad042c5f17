use Rattle.std.proofs.Common.{rules, ◌≡◌, Err, sym, ◌∙◌}
use Rattle.check_operations.proofs.Opening.{accepts, open_refused, open_out, open_in, rooted_opened}
use Rattle.check_operations.proofs.open.open_language.Goals as goal

pub returns-in_err-length-clause-is : goal.returns-in_err-length-clause-is
returns-in_err-length-clause-is c =
    let r : c.from_residual.result ≡ Err c.in_err-length.field-0.0 = search rules in
    r ∙ open_refused _ _ c.index_language.ensures.is c.in_err-length.was

pub returns-in_err-length-clause-opened : goal.returns-in_err-length-clause-opened
returns-in_err-length-clause-opened c = rooted_opened _ _ _ c.index_language.ensures.opened

pub is_root-requires : goal.is_root-requires
is_root-requires c = let a = accepts _ c.index_language.ensures.is c.in_ok-length.was in (a.language, a.entries)

pub returns-then-not-is_root-clause-is : goal.returns-then-not-is_root-clause-is
returns-then-not-is_root-clause-is c = open_out _ _ c.index_language.ensures.is c.in_ok-length.was c.is_root.ensures c.if-not-is_root.true

pub returns-then-not-is_root-clause-opened : goal.returns-then-not-is_root-clause-opened
returns-then-not-is_root-clause-opened c = rooted_opened _ _ _ c.index_language.ensures.opened

pub returns-clause-is : goal.returns-clause-is
returns-clause-is c = sym c.in_ok-length.was ∙ open_in _ _ c.index_language.ensures.is c.in_ok-length.was c.is_root.ensures c.if-not-is_root.false

pub returns-clause-opened : goal.returns-clause-opened
returns-clause-opened c = rooted_opened _ _ _ c.index_language.ensures.opened
