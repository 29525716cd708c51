-- Three bytes are the next arc.
use mathlib.Core.Path.{ap}
use native.Mathlib.Omega.{arith}
use Rattle.std.proofs.Common.{length}
use Rattle.model.specs.Tables.{Arc}
use Rattle.tables.proofs.ArcReads.{reads_none, reads_one}
use Rattle.tables.proofs.arcs.ArcsIterator.next.Goals as goal

pub returns-in_default-clause-steps : goal.returns-in_default-clause-steps
returns-in_default-clause-steps c =
    let none = reads_none c.args.self.now.bytes.now c.in_default.len_below in (none, none)

pub returns-clause-steps : goal.returns-clause-steps
returns-clause-steps c =
    reads_one c.args.self.now.bytes.now c.from_be_bytes.result c.in-len3-up.len_at_least c.from_be_bytes.ensures

pub returns-clause-goes : goal.returns-clause-goes
returns-clause-goes c =
    let here = reads_one c.args.self.now.bytes.now c.from_be_bytes.result c.in-len3-up.len_at_least c.from_be_bytes.ensures in
    record { on = λ _. (tt, tt, omega (arith, ap (length {A = Arc}) here)); keeps = tt; rests = λ _. tt }
