use mathlib.Core.Path.{sym}
use native.Mathlib.Omega.{arith}
use Rattle.writing.proofs.Digits.{decimal-length_1, decimal-length_2, decimal-length_3, decimal-length_4, decimal-length_5}
use Rattle.writing.proofs.decimals.decimal_len.Goals as goal

pub returns-in-0-to-9 : goal.returns-in-0-to-9
returns-in-0-to-9 c = sym (decimal-length_1 c.args.value (omega arith))

pub returns-in-0-to-99 : goal.returns-in-0-to-99
returns-in-0-to-99 c = sym (decimal-length_2 c.args.value (omega arith) (omega arith))

pub returns-in-0-to-999 : goal.returns-in-0-to-999
returns-in-0-to-999 c = sym (decimal-length_3 c.args.value (omega arith) (omega arith))

pub returns-in-0-to-9999 : goal.returns-in-0-to-9999
returns-in-0-to-9999 c = sym (decimal-length_4 c.args.value (omega arith) (omega arith))

pub returns-in_default : goal.returns-in_default
returns-in_default c = sym (decimal-length_5 c.args.value (omega arith) (omega arith))
