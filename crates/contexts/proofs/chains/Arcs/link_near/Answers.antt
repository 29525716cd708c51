use mathlib.Core.Path.{◌≡◌, subst}
use Prim.Native.Nat.{ℕ}
use native.Mathlib.Omega.{arith}
use lib.ListN.{length}
use Rattle.contexts.specs.Sweeps.{ArcsLinked}
use Rattle.contexts.proofs.TreeLaws.{tree-arrays}
use Rattle.contexts.proofs.chains.Arcs.link_near.Goals as goal

pub returns : goal.returns
returns c =
    let view = c.args.by.now.view in
    let last = c.loop-v.self in
    let some = (tree-arrays view.size view.tree.arrays).some_state in
    let all : c.loop-v.v ≡ length view.old.now = omega arith in
    subst (λ (k : ℕ). ArcsLinked k view.j view.tree.parents.now view.tree.names.now c.args.by.now.classes.now view.old.now
    c.args.by.now.dist.now last.next last.links last.heads) all c.loop-v.invariant
