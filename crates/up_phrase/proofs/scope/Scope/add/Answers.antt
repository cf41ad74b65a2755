use Rattle.std.proofs.Common.{◌∙◌}
use Rattle.up_phrase.proofs.Entering.{inserted}
use Rattle.up_phrase.proofs.scope.Scope.add.Goals as goal

pub returns-clause-ok : goal.returns-clause-ok
returns-clause-ok c = λ none. c.in_ok-insert.ensures.entries ∙ inserted c.args.self.now.types c.args.variable c.args.of none
