use Rattle.std.proofs.Common.{ap, arith, length, sym}
use Rattle.format_fields.proofs.Decimal.{decimal_small, decimal_two}
use Rattle.xml_operations.proofs.Puts.{digits_3, digits_4, digits_5}
use Rattle.xml_operations.proofs.put.width.Goals as goal

pub returns-in-0-to-9 : goal.returns-in-0-to-9
returns-in-0-to-9 c = (ap length (sym (decimal_small _ (omega arith))), omega arith)

pub returns-in-10-to-99 : goal.returns-in-10-to-99
returns-in-10-to-99 c = (ap length (sym (decimal_two _ (omega arith) (omega arith))), omega arith)

pub returns-in-100-to-999 : goal.returns-in-100-to-999
returns-in-100-to-999 c = (ap length (sym (digits_3 _ (omega arith) (omega arith))), omega arith)

pub returns-in-1000-to-9999 : goal.returns-in-1000-to-9999
returns-in-1000-to-9999 c = (ap length (sym (digits_4 _ (omega arith) (omega arith))), omega arith)

pub returns-in_default : goal.returns-in_default
returns-in_default c = (ap length (sym (digits_5 _ (omega arith) (omega arith))), omega arith)
