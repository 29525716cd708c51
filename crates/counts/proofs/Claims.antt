-- All that is claimed of the counts: `counts_hold`. Assumes nothing.
use mathlib.Core.List.{List}
use Prim.Native.Nat.{ℕ}
use native.Mathlib.Omega.{arith}
use Rattle.model.specs.Fields.{Settings, Allowed}
use Rattle.model.specs.Joinings.{joined_groups}
use Rattle.model.specs.Quotients.{book_states}
use Rattle.model.specs.Calls.{book_of}
use Rattle.model.specs.Claims.{Accepted}
use Rattle.model.proofs.Arcs.{ascending_at}
use Rattle.model.proofs.Joined.{joined_groups-joined}
use Rattle.model.proofs.Demands.{book_writable}
use Rattle.counts.specs.Claims.{CountsAgree, CountsHold}
use Rattle.counts.proofs.Flow.{flow_holds}
use Rattle.counts.proofs.Built.{ends-sum_holds, ends-accept_holds, all-passed_holds}
use Rattle.counts.proofs.Written.{record_holds, ends-few, passes_few, book_counts-length}
use Rattle.counts.proofs.Bags.{counts_bag}

-- what the counts of an accepted book say of each other
counts_agree : (settings : Settings) → Allowed settings → (s : List ℕ) → Accepted settings s → CountsAgree (book_of settings s)
unfolding book_states
counts_agree settings allowed s ok =
    let f = book_of settings s in
    let groups = joined_groups f.class_is f.items in
    let joined = joined_groups-joined f.class_is f.items in
    let up = (book_writable settings allowed s ok).ascending in
    record {
      flow = λ q. omega (arith, flow_holds (book_states f) f.items (ascending_at (book_states f) up) q);
      ends_sum = omega (arith, ends-sum_holds f.class_is f.items groups joined);
      ends_accept = ends-accept_holds f.class_is f.items groups joined;
      all_passed = all-passed_holds f.class_is f.items groups joined;
      ends_small = ends-few settings allowed s ok (book_states f);
      passes_small = passes_few settings allowed s ok (book_states f);
      two_bytes_take = omega arith;
      counts_length = book_counts-length settings allowed s ok;
    }

-- all that is claimed
pub counts_hold : CountsHold
counts_hold =
    record {
      state_record = record_holds;
      agree = counts_agree;
      by_bag = λ settings others s t allowed allowed-there ok ok-there bag. counts_bag (book_of settings s) (book_of others t) bag;
    }
