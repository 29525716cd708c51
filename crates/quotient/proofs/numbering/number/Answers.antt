use Rattle.std.proofs.Common.{◌≡◌, refl, ap, List, [], ◌∷◌, ℕ, ◌≤◌, length, replicate, ◌+◌, get_or, arith, rules}
use lib.Count.{ones-le}
use Rattle.base.specs.Limits.{state_limit}
use Rattle.model.specs.Classes.{Word}
use Rattle.model.specs.Joinings.{tree_of}
use Rattle.model.specs.Tables.{arc_count}
use Rattle.indexed.proofs.TreeArcs.{tree_some}
use Rattle.quotient.specs.Gathered.{Gathered}
use Rattle.quotient.proofs.MetLaws.{Numbering, met-low, root_meeting, numbering_start, numbering_few, numbering_nth}
use Rattle.quotient.proofs.MetLaws.{numbering_more, numbering_end}
use Rattle.quotient.proofs.StatePieces.{states_all, arcs_count_more, arcs_count_none}
use Rattle.quotient.proofs.numbering.number.Invariants.{Counting}
use Rattle.quotient.proofs.numbering.number.Goals as goal

-- no more groups are met than there are states
room :
    (rows : List Word) (groups work next : List ℕ) (gathered : Gathered rows groups work next) (met numbers : List ℕ) (i count : ℕ) →
    Numbering rows groups met numbers i count → count ≤ length groups
room rows groups work next gathered met numbers i count numbering =
    let size = gathered.labels.size in
    omega (arith, numbering_few rows groups work next gathered met numbers i count numbering)

pub bounds-groups-0 : goal.bounds-groups-0
bounds-groups-0 c =
    let size = c.requires.gathered.1.labels.size in
    omega (arith, tree_some c.requires.gathered.0)

pub meet_one-count-requires : goal.meet_one-count-requires
meet_one-count-requires c =
    let args = c.args in
    let rows = c.requires.gathered.0 in
    let root = get_or args.groups.now 0 0 in
    let filled : c.fill.new.self ≡ replicate (length args.numbers.now) state_limit = search rules in (
      length (tree_of rows),
      root ∷ [],
      root_meeting rows args.groups.now args.work.now args.next.now c.requires.gathered.1 args.order.now args.numbers.now
          c.fill.new.self root c.requires.groups_in_bounds.0 c.requires.groups_in_bounds.1 filled refl,
    )

pub loop-i-init : goal.loop-i-init
loop-i-init c =
    let args = c.args in
    let groups = args.groups.now in
    let work = args.work.now in
    let next = args.next.now in
    let root = get_or groups 0 0 in
    let first = c.meet_one-count in
    let filled : c.fill.new.self ≡ replicate (length args.numbers.now) state_limit = search rules in
    let start :
    (rows : List Word) → Gathered rows groups work next → Counting rows groups first.new.order first.new.numbers first.result 0 0 =
    λ rows gathered.
    let met =
    root_meeting rows groups work next gathered args.order.now args.numbers.now c.fill.new.self root
    c.requires.groups_in_bounds.0 c.requires.groups_in_bounds.1 filled refl in
    record {
      numbering =
          numbering_start rows groups work next gathered first.new.order first.new.numbers root first.result refl
          (first.ensures (length (tree_of rows)) (root ∷ []) met);
      counted = omega (arith, ap arc_count (states_all rows groups));
    } in
    let rows = c.requires.gathered.0 in
    let gathered = c.requires.gathered.1 in
    record {
      room = room rows groups work next gathered first.new.order first.new.numbers 0 first.result (start rows gathered).numbering;
      few = omega arith;
      so_far = start;
    }

-- the turn's group is one of the tree's states
pub bounds-next-g : goal.bounds-next-g
bounds-next-g c =
    let gathered = c.requires.gathered.1 in
    let so_far = (c.loop-i.invariant.so_far c.requires.gathered.0 gathered).numbering in
    let low = met-low so_far.seen so_far.so_far c.loop-i.i c.loop-i-test.true in
    omega (arith, low, gathered.next_size)

pub meet-count-requires-clause-work_bytes_in_bounds : goal.meet-count-requires-clause-work_bytes_in_bounds
meet-count-requires-clause-work_bytes_in_bounds c =
    let gathered = c.requires.gathered.1 in
    let so_far = (c.loop-i.invariant.so_far c.requires.gathered.0 gathered).numbering in
    let low = met-low so_far.seen so_far.so_far c.loop-i.i c.loop-i-test.true in
    (gathered.work_size, omega (arith, low, gathered.few))

-- what is to be met from the turn's group
pub meet-count-requires-clause-by_index : goal.meet-count-requires-clause-by_index
meet-count-requires-clause-by_index c =
    let args = c.args in
    let at = c.loop-i in
    let g = get_or at.order at.i 0 in
    let rows = c.requires.gathered.0 in
    let gathered = c.requires.gathered.1 in
    let meeting =
    numbering_more rows args.groups.now args.work.now args.next.now gathered at.order at.numbers at.i at.count g
    (get_or args.next.now g 0) (at.invariant.so_far rows gathered).numbering c.loop-i-test.true refl refl in
    (length (tree_of rows), meeting.after, meeting.meeting)

-- no group has more than 64 arcs, and few groups are met
pub overflow_add-arcs : goal.overflow_add-arcs
overflow_add-arcs c =
    let gathered = c.requires.gathered.1 in
    let size = gathered.labels.size in
    let g = get_or c.loop-i.order c.loop-i.i 0 in
    let most = ones-le 64 (get_or c.args.next.now g 0) (c.type_inv.next g).fits in
    omega (arith, c.how_many-arcs.ensures, c.loop-i.invariant.few, c.loop-i.invariant.room, gathered.few)

pub loop-i-preserved : goal.loop-i-preserved
loop-i-preserved c =
    let groups = c.args.groups.now in
    let work = c.args.work.now in
    let next = c.args.next.now in
    let at = c.loop-i in
    let g = get_or at.order at.i 0 in
    let met = c.meet-count in
    let most = ones-le 64 (get_or next g 0) (c.type_inv.next g).fits in
    let after :
    (rows : List Word) → Gathered rows groups work next →
    Counting rows groups met.new.order met.new.numbers met.result (at.arcs + c.how_many-arcs.result) (at.i + 1) =
    λ rows gathered.
    let before = at.invariant.so_far rows gathered in
    let meeting =
    numbering_more rows groups work next gathered at.order at.numbers at.i at.count g (get_or next g 0)
    before.numbering c.loop-i-test.true refl refl in
    let here =
    numbering_nth rows groups work next gathered at.order at.numbers at.i at.count g before.numbering
    c.loop-i-test.true refl in
    let low = met-low before.numbering.seen before.numbering.so_far at.i c.loop-i-test.true in
    record {
      numbering =
          meeting.then met.new.order met.new.numbers met.result
          (met.ensures (length (tree_of rows)) meeting.after meeting.meeting);
      counted =
          omega (
            arith,
            before.counted,
            arcs_count_more rows groups work next gathered at.i g c.how_many-arcs.result here.0 here.1 low
                c.how_many-arcs.ensures,
          );
    } in
    let rows = c.requires.gathered.0 in
    let gathered = c.requires.gathered.1 in
    record {
      room = room rows groups work next gathered met.new.order met.new.numbers (at.i + 1) met.result (after rows gathered).numbering;
      few = omega (arith, c.how_many-arcs.ensures, at.invariant.few);
      so_far = after;
    }

pub returns : goal.returns
returns c =
    let groups = c.args.groups.now in
    let at = c.loop-i in
    λ rows gathered.
    let counting = at.invariant.so_far rows gathered in
    let every =
    numbering_end rows groups c.args.work.now c.args.next.now gathered at.order at.numbers at.i at.count
    counting.numbering c.loop-i-test.false in
    record {
      numbered = every;
      arcs_are =
          omega (
            arith,
            counting.counted,
            arcs_count_none rows groups at.i (omega (arith, every.counted, c.loop-i-test.false)),
          );
    }
