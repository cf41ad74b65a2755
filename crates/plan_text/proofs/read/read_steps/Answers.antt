use Rattle.plan_text.proofs.Gathering.{steps_step}
use Rattle.plan_text.proofs.read.read_steps.Goals as goal

pub reading-preserved : goal.reading-preserved
reading-preserved c =
    rw c.saturating_add-number.ensures
    (steps_step _ c.reading.steps c.add_found.new.steps c.reading.number c.reading.rest.now c.first_line.result.bytes.now
    c.first_line.result.behind.now c.in_ok-found.found c.reading.invariant c.first_line.ensures.lines c.in_ok-found.ensures.read
    c.in_ok-add_found.ensures)
