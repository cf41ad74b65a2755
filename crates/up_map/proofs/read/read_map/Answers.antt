use Rattle.up_map.proofs.Laws.{read_spelled}
use Rattle.up_map.proofs.read.read_map.Goals as goal

pub returns-in-Ok-clause-map : goal.returns-in-Ok-clause-map
returns-in-Ok-clause-map c = read_spelled c.args.bytes.now c.in-Ok.map c.in-Ok.ensures.read
