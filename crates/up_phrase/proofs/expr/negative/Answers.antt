use Rattle.up_phrase.proofs.Zero.{never}
use Rattle.up_phrase.proofs.expr.negative.Goals as goal

pub returns-in-Err-clause-err : goal.returns-in-Err-clause-err
returns-in-Err-clause-err c = absurd (never c.new.result c.in-Err.field-0 c.in-Err.is c.new.ensures.zero_divisor c.new.ensures.too_large)
