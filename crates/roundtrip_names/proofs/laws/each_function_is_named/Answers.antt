use Rattle.roundtrip_names.proofs.Params.{each_function_is_named}
use Rattle.roundtrip_names.proofs.laws.each_function_is_named.Goals as goal

pub returns : goal.returns
returns c = λ typed written names ds are groups so. each_function_is_named c.args._p.now typed written ds groups names are.known so are.free are.differ are.types are.gives
