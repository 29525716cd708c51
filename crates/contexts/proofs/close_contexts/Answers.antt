use mathlib.Core.Path.{refl, subst}
use mathlib.Core.Bool.{Bool, true}
use Prim.Native.Nat.{ℕ, ◌+◌, ◌<◌}
use native.Mathlib.Omega.{arith}
use lib.ListN.{length, replicate}
use Rattle.base.proofs.Fills.{front_again}
use Rattle.indexed.specs.Passes.{SuffixClasses}
use Rattle.indexed.proofs.Rounds.{due}
use Rattle.worklist.specs.Forks.{Kept}
use Rattle.contexts.specs.Joins.{SweptBy}
use Rattle.contexts.proofs.ForkLaws.{forks-joined, kept-forks}
use Rattle.contexts.proofs.RoundLaws.{RoundsTo, classes_front, sweep_told, rounds_none, rounds_more, rounds_less, rounds_all}
use Rattle.contexts.proofs.close_contexts.Goals as goal
use Rattle.contexts.proofs.close_contexts.Goals.{After-sweep}

-- the classes are those of as many states as there are
by : (c : After-sweep) →
    SuffixClasses (length c.args.groups.now) (c.args.h + 1) c.args.tree.parents.now c.args.tree.names.now c.suffix_classes.new.classes
by c =
    classes_front (length c.args.groups.now) (c.args.h + 1) (replicate 512 0) c.args.tree.parents.now c.args.tree.names.now
    c.suffix_classes.new.classes c.requires.ready.arrays.few_states c.suffix_classes.ensures

-- what a sweep promises by them
told : (c : After-sweep) →
    SweptBy (length c.args.groups.now) c.args.m c.args.tree.parents.now c.args.tree.names.now c.suffix_classes.new.classes
    c.loop-classes.before c.sweep.new.before c.loop-classes.groups c.sweep.new.groups c.sweep.result
told c =
    let n = length c.args.groups.now in
    let classes = c.suffix_classes.new.classes in
    let loop = c.loop-classes in
    let last = c.sweep.new in
    sweep_told n c.args.m c.args.tree.parents.now c.args.tree.names.now _ classes loop.before last.before loop.groups
    last.groups c.sweep.result loop.invariant.rounds.labelled.size (front_again n classes classes _ refl (by c).size)
    c.sweep.ensures.swept

-- the lists of arcs after it
kept : (c : After-sweep) →
    Kept (length c.args.groups.now) c.args.tree.parents.now c.args.tree.names.now c.args.numbers.now c.sweep.new.groups
    c.sweep.new.forks.lists.links c.sweep.new.forks.lists.heads c.sweep.new.forks.queue.firsts c.sweep.new.forks.queue.seconds 0
kept c =
    let last = c.sweep.new in
    subst (λ (k : ℕ). Kept k c.args.tree.parents.now c.args.tree.names.now c.args.numbers.now last.groups last.forks.lists.links
    last.forks.lists.heads last.forks.queue.firsts last.forks.queue.seconds 0)
    c.loop-classes.invariant.rounds.labelled.size c.sweep.ensures.kept

-- the rounds after it
rounds : (c : After-sweep) →
    RoundsTo (length c.args.groups.now) c.args.h c.args.m c.args.tree.parents.now c.args.tree.names.now c.sweep.new.before
    c.sweep.new.groups c.sweep.result
rounds c =
    let n = length c.args.groups.now in
    let parents = c.args.tree.parents.now in
    let names = c.args.tree.names.now in
    let arrays = c.requires.ready.arrays in
    let loop = c.loop-classes in
    let last = c.sweep.new in
    let forks = last.forks in
    rounds_more n c.args.h c.args.m parents names loop.before loop.groups true arrays c.requires.ready.some_names
    loop.invariant.rounds c.suffix_classes.new.classes last.before last.groups c.sweep.result (by c) (told c)
    (kept-forks n parents names c.args.numbers.now arrays c.requires.own_numbers last.groups forks.lists.links forks.lists.heads
    forks.queue.firsts forks.queue.seconds 0 (kept c))

pub loop-classes-init : goal.loop-classes-init
loop-classes-init c =
    let n = length c.args.groups.now in
    let parents = c.args.tree.parents.now in
    let names = c.args.tree.names.now in
    let ready = c.requires.ready in
    let groups = c.start.new.groups in
    let last = c.start.ensures.kept in
    record {
      rounds =
          rounds_none n c.args.h c.args.m parents names c.args.before.now c.args.groups.now groups ready c.requires.own_before
          (forks-joined n parents names c.args.numbers.now ready.arrays c.requires.own_numbers c.args.groups.now groups
          c.start.ensures.until);
      kept =
          record {
            rows = last.rows;
            labelled = last.labelled;
            kind = last.kind;
            room = omega (arith, last.room);
            queue = last.queue;
          };
    }

pub loop-classes-smaller : goal.loop-classes-smaller
loop-classes-smaller c =
    let s = (goal.at.loop-classes-smaller c).After-sweep in
    let loop = c.loop-classes in
    let last = c.sweep.new in
    subst (λ (b : Bool). due last.groups b < due loop.groups true) c.loop-classes-test.true
    (rounds_less (length c.args.groups.now) c.args.h c.args.m c.args.tree.parents.now c.args.tree.names.now loop.before
    loop.groups true c.requires.ready.arrays c.requires.ready.some_names loop.invariant.rounds c.suffix_classes.new.classes
    last.before last.groups c.sweep.result (by s) (told s))

pub loop-classes-preserved : goal.loop-classes-preserved
loop-classes-preserved c =
    let s = (goal.at.loop-classes-preserved c).After-sweep in
    let last = c.sweep.new in
    record {
      rounds =
          subst (λ (b : Bool). RoundsTo (length c.args.groups.now) c.args.h c.args.m c.args.tree.parents.now
          c.args.tree.names.now last.before last.groups b) c.loop-classes-test.true (rounds s);
      kept = kept s;
    }

pub returns : goal.returns
returns c =
    let last = c.sweep.new in
    rounds_all (length c.args.groups.now) c.args.h c.args.m c.args.tree.parents.now c.args.tree.names.now last.before
    last.groups c.sweep.result c.loop-classes-test.false (rounds (goal.at.returns c).After-sweep)
