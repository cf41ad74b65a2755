use Rattle.up_phrase.proofs.Pairing.{paired_all}
use Rattle.up_phrase.proofs.expr.paired.Goals as goal

pub returns : goal.returns
returns c = paired_all c.args.operator c.args.operands c.halved.new.operands c.len-count.result c.halved.result c.len-count.ensures c.halved.ensures
