use mathlib.Core.Path.{refl}
use native.Mathlib.Omega.{arith}
use Rattle.prefix_tree.specs.Growth.{Store, held}
use Rattle.prefix_tree.proofs.StepLaws.{sized, step-found, step-appended, step-full}
use Rattle.prefix_tree.proofs.Growing.step.Goals as goal

pub returns-in-Some : goal.returns-in-Some
returns-in-Some c =
    let args = c.args in
    let lent : Store = held args.self.now args.work.now in
    step-found args.self.now.count args.state args.name lent (omega arith) (omega arith) c.in-Some.child (omega arith) c.in-Some.ensures

pub returns-then-self-ge-STATE_LIMIT : goal.returns-then-self-ge-STATE_LIMIT
returns-then-self-ge-STATE_LIMIT c =
    let args = c.args in
    let lent : Store = held args.self.now args.work.now in
    (refl, step-full args.self.now.count args.state args.name lent (omega arith) (omega arith) (omega arith) c.in_default.ensures)

pub returns : goal.returns
returns c =
    let args = c.args in
    let lent : Store = held args.self.now args.work.now in
    let new = c.append.new in
    rw c.append.ensures.counts
    (step-appended args.self.now.count args.state args.name lent (omega arith) (omega arith)
    (held new.self new.work)
    (omega arith)
    (sized args.self.now c.requires.room)
    c.in_default.ensures
    c.append.ensures.appends)
