-- The links of the arcs below v are settled, and the others as they came.
use mathlib.Core.Path.{◌≡◌}
use Prim.Native.Nat.{ℕ, ◌≤◌}
use lib.ListN.{get_or}
use Rattle.base.proofs.Fills.{Filled}
use Rattle.contexts.specs.Sweeps.{Settled}
use Rattle.contexts.proofs.chains.Arcs.link_far.Given as goal

abbrev pub invariant-loop-v : goal.invariant-loop-v
invariant-loop-v l =
    record {
      settled :
          Filled (λ (u link : ℕ). Settled (get_or l.initial.self.links u 0) (get_or l.classes u 0) l.initial.self.heads link) l.v
          l.initial.self.links l.self.links;
      others : (u : ℕ) → l.v ≤ u → get_or l.self.links u 0 ≡ get_or l.initial.self.links u 0;
      heads : l.self.heads ≡ l.initial.self.heads;
      next : l.self.next ≡ l.initial.self.next;
    }
