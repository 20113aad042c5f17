-- What a function answers that only says whether there is something.
use Rattle.std.specs.Prelude as Std
use Rattle.std.specs.Prelude.{⊤}
use Rattle.outcome.specs.Outcome.{Result, value, refused}
use Rattle.outcome.specs.declared.Reason.{Reason}

-- Whether there is something, or why not.
abbrev pub settled : {A : Type 0} → Result A → Std.Result ⊤ Reason
settled (value a) = Std.Ok tt
settled (refused r) = Std.Err r
