use mathlib.Core.Path.{sym, subst₂}
use mathlib.Core.List.{List}
use Prim.Native.Nat.{ℕ}
use native.Mathlib.Omega.{arith}
use lib.ListN.{length}
use Rattle.contexts.specs.Sweeps.{ArcsReady}
use Rattle.contexts.proofs.NearLaws.{arcs_ready}
use Rattle.contexts.proofs.chains.Arcs.link_all.Goals as goal

pub returns : goal.returns
returns c =
    let view = c.args.by.now.view in
    let far = c.link_far.ensures in
    subst₂ (λ (next heads : List ℕ). ArcsReady (length view.old.now) view.j view.tree.parents.now view.tree.names.now
    c.args.by.now.classes.now view.old.now c.args.by.now.dist.now next c.link_far.new.self.links heads) (sym far.next) (sym far.heads)
    (arcs_ready c.link_near.ensures (λ v low. far.links v (omega (arith, c.args.by.now.size))))
