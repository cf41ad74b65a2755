use Rattle.std.proofs.Common.{ap, ◌∙◌}
use Rattle.up_phrase.specs.Declarations.{declarations}
use Rattle.up_phrase.proofs.Entering.{inserted}
use Rattle.up_declare.proofs.Adding.{functions_now}
use Rattle.up_declare.proofs.declare.add_function.Goals as goal

pub returns : goal.returns
returns c =
    λ none. ap (functions_now (declarations c.args.names.now)) (c.in_ok-insert.ensures.entries ∙ inserted c.args.names.now.functions c.args.name c.args.signature none)
