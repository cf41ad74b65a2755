use Rattle.std.proofs.Common.{ap, ◌∙◌}
use Rattle.up_phrase.specs.Declarations.{declarations}
use Rattle.up_phrase.proofs.Entering.{inserted}
use Rattle.up_declare.proofs.Adding.{predicates_now}
use Rattle.up_declare.proofs.declare.add_predicate.Goals as goal

pub returns : goal.returns
returns c =
    λ none. ap (predicates_now (declarations c.args.names.now)) (c.in_ok-insert.ensures.entries ∙ inserted c.args.names.now.predicates c.args.name c.args.args none)
