-- A state field has a first byte, and its arcs stand after it.
use native.Mathlib.Omega.{arith}
use Rattle.tables.proofs.ArcReads.{state-some}
use Rattle.tables.proofs.ArcReads.{arcs_of_field}
use Rattle.tables.proofs.arcs.Arcs.of.Goals as goal

pub slice_bounds-result-count : goal.slice_bounds-result-count
slice_bounds-result-count c = omega (arith, state-some c.args.state.now c.requires)

pub slice_bounds-result-start : goal.slice_bounds-result-start
slice_bounds-result-start c = omega (arith, state-some c.args.state.now c.requires)

pub returns : goal.returns
returns c = arcs_of_field c.args.state.now c.requires
