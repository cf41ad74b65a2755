use Rattle.std.proofs.Common.{[], take, ap, ◌∙◌}
use Rattle.up_phrase.specs.Declarations.{declarations}
use Rattle.up_phrase.specs.Scopes.{variables}
use Rattle.up_phrase.proofs.Entering.{leaves_entered}
use Rattle.up_phrase.proofs.formula.+formula.Goals as goal

pub quantified-returns-clause-kept : goal.quantified-returns-clause-kept
quantified-returns-clause-kept t c =
    c.leave.ensures.variables ∙ ap (take c.len-outer.result) c.in_ok-body.ensures.kept
    ∙ ap (λ n. take n (variables c.enter.new.self)) c.len-outer.ensures
    ∙ leaves_entered (declarations c.args.names.now) [] c.args.groups.now (variables c.args.scope.now) (variables c.enter.new.self) c.in_ok-enter.ensures.ok
