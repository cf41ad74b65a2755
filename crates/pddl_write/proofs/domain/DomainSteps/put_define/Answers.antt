use Rattle.std.proofs.Common.{ap, ◌∙◌}
use Rattle.up_line.specs.Sheet.{after}
use Rattle.up_line.proofs.Sheets.{then_put}
use Rattle.pddl_write.proofs.domain.DomainSteps.put_define.Goals as goal

pub returns : goal.returns
returns c =
    let name = c.put-2.ensures ∙ ap (after c.put.new.self) c.bytes.ensures.bytes in
    then_put _ _ _ _ _ (then_put _ _ _ _ _ c.put.ensures name) c.put-3.ensures
