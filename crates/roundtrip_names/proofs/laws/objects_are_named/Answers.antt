use Rattle.roundtrip_names.proofs.Declared.{objects_are_named}
use Rattle.roundtrip_names.proofs.laws.objects_are_named.Goals as goal

pub returns : goal.returns
returns c = λ typed written names new are groups so. objects_are_named c.args._p.now typed written new groups names are.known so are.free are.differ are.types
