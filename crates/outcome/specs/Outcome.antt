-- Outcomes (paper 01, "Operations and their refusals"): every answer is a number, 0 for accepted, and a length.
use Rattle.std.specs.Prelude as Std
use Rattle.std.specs.Prelude.{ℕ, Bool, true, false, List, ◌++◌, length, drop, Err, Ok}
use Rattle.outcome.specs.declared.Reason.{Reason}
use Rattle.outcome.specs.declared.Reason.TheVariants.{TooLong, BrokenField, OutOfOrder, ClassIsResult, WrongMapping, WrongClauses, IllegalCode, IllegalTerm, BuffersTooShort, UnboundVariable, ValueTooLarge, SumUnfit, JoinUnfit, UnknownRoot, IllegalTree, TooDeep, OutputTooShort, BrokenTable, ScoreOutOfRange, NotAnExport, NoBlock, NotIndexed, NoSource, LimitOutOfRange, Hidden, NumberUnfit}

-- The number of each refusal (paper 01; paper 02: 18 and 19 by 2026-03, 20 by 2026-05, 21 by 2026-06, 22 by 2026-08,
-- 23 and 24 by 2026-09, 25 by 2026-12, 26 by 2026-13).
abbrev pub reason_number : Reason → ℕ
-- a file, or a language inside it, is longer than its limit
reason_number TooLong = 1
-- a field is broken: its tag, its length, a number in it, or the end of the input
reason_number BrokenField = 2
-- fields are out of order, or a key occurs twice
reason_number OutOfOrder = 3
-- a kind is both a token class and the result of a production
reason_number ClassIsResult = 4
-- the mapping is not as required
reason_number WrongMapping = 5
-- a clause is missing, or has no production in the source
reason_number WrongClauses = 6
-- a code is broken, not of its kind, or over 16 levels
reason_number IllegalCode = 7
-- field 32 is not exactly one translation term
reason_number IllegalTerm = 8
-- the workspace or the output is too short to reduce
reason_number BuffersTooShort = 9
-- a variable has no value
reason_number UnboundVariable = 10
-- the value of a sign exceeds a limit of bytes or levels
reason_number ValueTooLarge = 11
-- the operands of a sum do not fit together
reason_number SumUnfit = 12
-- the target of a join's second operand does not lie within the source of its first
reason_number JoinUnfit = 13
-- the root kind is not in the language
reason_number UnknownRoot = 14
-- the tree is not legal
reason_number IllegalTree = 15
-- the tree has more than 64 levels
reason_number TooDeep = 16
-- the result is longer than the output
reason_number OutputTooShort = 17
-- the load table is broken, out of order, lacks a production or has one too many
reason_number BrokenTable = 18
-- a node's score lies outside -1,000,000,000 to 1,000,000,000
reason_number ScoreOutOfRange = 19
-- the text is not an export of a legal tree
reason_number NotAnExport = 20
-- a path number is 0, or there is no such argument
reason_number NoBlock = 21
-- the tree is over 65,535 bytes, or the index is not its own
reason_number NotIndexed = 22
-- no source tree within the limit gives this tree
reason_number NoSource = 23
-- the limit of levels is not 1 to 16
reason_number LimitOutOfRange = 24
-- the path has reached a hidden block
reason_number Hidden = 25
-- a mapping number is above 15 in a join, or not 0 where only 0 is taken
reason_number NumberUnfit = 26

-- What an operation answers: the length of what it wrote, or why it refuses.
abbrev pub Outcome : Type 0
Outcome = Std.Result ℕ Reason

-- The number that an outsider sees.
abbrev pub number_of : Outcome → ℕ
number_of (Ok n) = 0
number_of (Err r) = reason_number r

-- The length that an outsider sees: 0 where it is refused.
abbrev pub length_of : Outcome → ℕ
length_of (Ok n) = n
length_of (Err r) = 0

-- What a step of an operation comes to: a value, or the reason why there is none.
pub data Result (A : Type 0) : Type 0 where
  value : A → Result A
  refused : Reason → Result A

infixl 20 ◌>>=◌
-- The next step, on the value of the one before; the first refusal ends it.
abbrev pub ◌>>=◌ : {A B : Type 0} → Result A → (A → Result B) → Result B
◌>>=◌ (value a) f = f a
◌>>=◌ (refused r) f = refused r

-- A test that refuses; where it does not hold, the rest.
abbrev pub refuse_if : {A : Type 0} → Bool → Reason → Result A → Result A
refuse_if true r rest = refused r
refuse_if false r rest = rest

-- The outcome of a check, which has no output and always length 0.
abbrev pub checked : {A : Type 0} → Result A → Outcome
checked (value a) = Ok 0
checked (refused r) = Err r

-- The outcome of an operation that writes bytes.
abbrev pub written : Result (List ℕ) → Outcome
written (value bytes) = Ok (length bytes)
written (refused r) = Err r

-- The lent output at exit: the result first and its other bytes unchanged, or on refusal unchanged.
abbrev pub output_after : List ℕ → Result (List ℕ) → List ℕ
output_after output (value bytes) = bytes ++ drop (length bytes) output
output_after output (refused r) = output
