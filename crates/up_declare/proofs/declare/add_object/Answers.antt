use Rattle.std.proofs.Common.{ap, ◌∙◌}
use Rattle.up_phrase.specs.Declarations.{declarations}
use Rattle.up_phrase.proofs.Entering.{inserted}
use Rattle.up_declare.proofs.Adding.{objects_now}
use Rattle.up_declare.proofs.declare.add_object.Goals as goal

pub returns : goal.returns
returns c =
    λ none. ap (objects_now (declarations c.args.names.now)) (c.in_ok-insert.ensures.entries ∙ inserted c.args.names.now.objects c.args.name c.args.of none)
