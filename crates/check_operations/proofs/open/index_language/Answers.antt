use Rattle.check_operations.proofs.Opening.{accepts, refused_language, opened_alone}
use Rattle.check_operations.proofs.open.index_language.Goals as goal

pub returns-in_err-length-clause-opened : goal.returns-in_err-length-clause-opened
returns-in_err-length-clause-opened c = λ l e. refused_language _ c.check_language.ensures c.in_err-length.was e

pub build-requires : goal.build-requires
build-requires c = let a = accepts _ c.check_language.ensures c.in_ok-length.was in (a.short, c.requires.0, c.requires.1)

pub returns-clause-opened : goal.returns-clause-opened
returns-clause-opened c = opened_alone _ _ c.build.ensures
