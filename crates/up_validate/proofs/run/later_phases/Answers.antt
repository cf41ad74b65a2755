use Rattle.up_validate.proofs.Watching.{go_on}
use Rattle.up_validate.proofs.run.later_phases.Goals as goal

pub returns-in-Ok-clause-phases : goal.returns-in-Ok-clause-phases
returns-in-Ok-clause-phases c =
    go_on c.args.p.now c.args.watches.now c.args.state.now c.args.phases.now c.in-Ok.later c.requires c.in-Ok.ensures.value
