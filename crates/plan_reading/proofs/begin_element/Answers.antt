use Rattle.plan_reading.specs.Scanning.{part}
use Rattle.plan_reading.specs.Pieces.{open_names}
use Rattle.plan_reading.proofs.TurnLaws.{element_opened}
use Rattle.plan_reading.proofs.begin_element.Goals as goal

-- a start tag
pub returns-in-Full : goal.returns-in-Full
returns-in-Full c =
    let a = c.args in
    let s = a.plan.now in
    let full = rw c.in-Full.is at c.in_ok-at.ensures in
    record {
      is = λ names stands is_number.
          element_opened names s a.stack.now a.r a.element c.in-Full.at c.requires.name_here c.requires.at_lt_from stands full.1 full.2
          c.push.new.self c.push.ensures.opens_after c.push.ensures.depth_after c.requires.depth_lt_plan_depth is_number
          (full.0 (open_names s a.stack.now.opens a.stack.now.depth) (part s a.element.from a.element.end));
    }
