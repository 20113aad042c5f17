-- The numbers of refusals are small.
use Prim.Native.Nat.{◌<◌}
use native.Mathlib.Omega.{arith}
use Rattle.std.specs.Prelude.{Ok, Err}
use Rattle.outcome.specs.Outcome.{Outcome, reason_number, number_of}
use Rattle.outcome.specs.declared.Reason.{Reason}
use Rattle.outcome.specs.declared.Reason.TheVariants.{TooLong, BrokenField, OutOfOrder, ClassIsResult, WrongMapping, WrongClauses, IllegalCode, IllegalTerm, BuffersTooShort, UnboundVariable, ValueTooLarge, SumUnfit, JoinUnfit, UnknownRoot, IllegalTree, TooDeep, OutputTooShort, BrokenTable, ScoreOutOfRange, NotAnExport, NoBlock, NotIndexed, NoSource, LimitOutOfRange, Hidden, NumberUnfit}

-- The number of a refusal is 1 to 26.
pub reason_low : (r : Reason) → (0 < reason_number r) × (reason_number r < 27)
reason_low TooLong = (omega arith, omega arith)
reason_low BrokenField = (omega arith, omega arith)
reason_low OutOfOrder = (omega arith, omega arith)
reason_low ClassIsResult = (omega arith, omega arith)
reason_low WrongMapping = (omega arith, omega arith)
reason_low WrongClauses = (omega arith, omega arith)
reason_low IllegalCode = (omega arith, omega arith)
reason_low IllegalTerm = (omega arith, omega arith)
reason_low BuffersTooShort = (omega arith, omega arith)
reason_low UnboundVariable = (omega arith, omega arith)
reason_low ValueTooLarge = (omega arith, omega arith)
reason_low SumUnfit = (omega arith, omega arith)
reason_low JoinUnfit = (omega arith, omega arith)
reason_low UnknownRoot = (omega arith, omega arith)
reason_low IllegalTree = (omega arith, omega arith)
reason_low TooDeep = (omega arith, omega arith)
reason_low OutputTooShort = (omega arith, omega arith)
reason_low BrokenTable = (omega arith, omega arith)
reason_low ScoreOutOfRange = (omega arith, omega arith)
reason_low NotAnExport = (omega arith, omega arith)
reason_low NoBlock = (omega arith, omega arith)
reason_low NotIndexed = (omega arith, omega arith)
reason_low NoSource = (omega arith, omega arith)
reason_low LimitOutOfRange = (omega arith, omega arith)
reason_low Hidden = (omega arith, omega arith)
reason_low NumberUnfit = (omega arith, omega arith)

pub number_low : (o : Outcome) → number_of o < 27
number_low (Ok n) = omega arith
number_low (Err r) = (reason_low r).1
