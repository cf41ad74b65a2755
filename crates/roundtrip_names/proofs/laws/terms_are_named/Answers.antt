use Rattle.roundtrip_names.proofs.Terms.{terms_are_named}
use Rattle.roundtrip_names.proofs.laws.terms_are_named.Goals as goal

pub returns : goal.returns
returns c = λ names objects. terms_are_named names c.args._p.now objects
