use Rattle.std.proofs.Common.{◌∙◌, arith}
use Rattle.up_phrase.specs.Declarations.{declarations}
use Rattle.up_check.proofs.Stating.{arguments_all}
use Rattle.up_check.proofs.init.check_arguments.Goals as goal

pub returns-clause-ok : goal.returns-clause-ok
returns-clause-ok c =
    c.loop-arg.invariant ∙ arguments_all (declarations c.args.names.now) c.loop-arg.types.now c.args.args.now c.loop-arg.arg-index (omega arith)
