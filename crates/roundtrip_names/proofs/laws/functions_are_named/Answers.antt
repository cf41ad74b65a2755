use Rattle.roundtrip_names.proofs.Params.{functions_are_named}
use Rattle.roundtrip_names.proofs.laws.functions_are_named.Goals as goal

pub returns : goal.returns
returns c = λ typed written names entries are of gives symbols so. functions_are_named c.args._p.now typed written of entries symbols names are.known so are.free are.differ are.types gives
