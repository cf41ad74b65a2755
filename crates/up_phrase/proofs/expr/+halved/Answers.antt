use Rattle.std.proofs.Common.{arith}
use Rattle.up_phrase.specs.Exprs.{both}
use Rattle.up_phrase.proofs.Pairing.{taken_one, taken_both, taken_as}
use Rattle.up_phrase.proofs.expr.+halved.Goals as goal

pub returns-then-count-eq1 : goal.returns-then-count-eq1
returns-then-count-eq1 t c =
    taken_one c.args.operator c.args.count c.args.operands.now c.pop.new.self c.pop.result c.if-count-eq1.true c.pop.ensures

pub returns-in-Ok : goal.returns-in-Ok
returns-in-Ok t c =
    taken_as c.args.operator c.args.count c.args.operands.now c.halved-2.new.operands (both c.args.operator c.in-Ok.left c.in_ok-right.right) c.both.result
    (taken_both c.args.operator c.args.count c.args.operands.now c.halved.new.operands c.halved-2.new.operands c.in-Ok.left
    c.in_ok-right.right (omega arith) c.in_ok-right.ensures c.in-Ok.ensures)
    c.both.ensures
