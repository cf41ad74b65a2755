use Rattle.roundtrip_names.proofs.Rows.{actions_are_named}
use Rattle.roundtrip_names.proofs.laws.actions_are_named.Goals as goal

pub returns : goal.returns
returns c = λ names. actions_are_named names c.args._p.now
