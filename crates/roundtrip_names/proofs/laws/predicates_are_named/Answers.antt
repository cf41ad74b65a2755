use Rattle.roundtrip_names.proofs.Params.{predicates_are_named}
use Rattle.roundtrip_names.proofs.laws.predicates_are_named.Goals as goal

pub returns : goal.returns
returns c = λ typed written names entries are symbols so. predicates_are_named c.args._p.now typed written entries symbols names are.known so are.free are.differ are.types
