-- The walks worked out by hand, by computing them. Assumes nothing.
use mathlib.Core.Path.{refl}
use Rattle.base.specs.Lists.{any, all, filter_by, before, last_or}
use Rattle.model.specs.Fields.{name_ok, above, name_fault, class_fault, state_fault, state_ok, arcs_ok}
use Rattle.model.specs.Fields.{field_fault, with_field, read_from, read_with}
use Rattle.model.specs.Tables.{arcs_in, state_in, states_in, met_by_arcs, met_by_states, is_first_met, target_in, walk_from, walk}
use Rattle.model.specs.Tables.{reached_state, name_set, plain_walk}
use Rattle.model.specs.Calls.{table_of, table_states}
use Rattle.endings.specs.Live.{within, level_from, level_of, is_live, live_arcs, trimmed, live_walk}
use Rattle.endings.specs.Worked.{WorkedWalks}

pub worked_walks_hold : WorkedWalks
unfolding any all filter_by before last_or
    name_ok above name_fault class_fault state_fault state_ok arcs_ok field_fault with_field read_from read_with
    arcs_in state_in states_in met_by_arcs met_by_states is_first_met target_in walk_from walk reached_state name_set plain_walk
    table_of table_states within level_from level_of is_live live_arcs trimmed live_walk
worked_walks_hold =
    record {
      supplier_reads = refl;
      supplier_first_met = refl;
      supplier_is = refl;
      empty_reads = refl;
      empty_first_met = refl;
      empty_is = refl;
      supplier_levels = refl;
      empty_levels = refl;
      supplier_alone = refl;
      supplier_told = refl;
      empty_alone = refl;
      empty_told = refl;
    }
