use Rattle.std.proofs.Common.{[], take, ap, ◌∙◌}
use Rattle.up_phrase.specs.Declarations.{declarations}
use Rattle.up_phrase.specs.Scopes.{variables}
use Rattle.up_phrase.proofs.Entering.{leaves_entered}
use Rattle.up_check.proofs.constraint.Flattening.+constraint.Goals as goal

pub for_all-returns-clause-kept : goal.for_all-returns-clause-kept
for_all-returns-clause-kept t c =
    c.leave.ensures.variables ∙ ap (take c.len-outer.result) c.in_ok-constraint.ensures.kept
    ∙ ap (λ n. take n (variables c.enter.new.self)) c.len-outer.ensures
    ∙ leaves_entered (declarations c.args.names.now) [] c.args.groups.now (variables c.args.self.now.scope) (variables c.enter.new.self)
    c.in_ok-enter.ensures.ok
