-- A field of three bytes.
use mathlib.Core.Path.{◌≡◌}
use native.Mathlib.Omega.{arith}
use lib.ListN.{length}
use Rattle.writing.proofs.Pieces.{class_field_bytes}
use Rattle.writing.proofs.put_class.Goals as goal

pub put_field-requires-clause-fits : goal.put_field-requires-clause-fits
put_field-requires-clause-fits c = let three : length c.args.class ≡ 3 = omega arith in rw class_field_bytes at c.requires

pub returns : goal.returns
returns c = let three : length c.args.class ≡ 3 = omega arith in rw class_field_bytes c.put_field.ensures
