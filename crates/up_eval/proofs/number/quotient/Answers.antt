use Rattle.std.proofs.Common.{sym, ap, Err}
use Rattle.up_eval.proofs.Numbers.{quotient-zero}
use Rattle.up_eval.proofs.number.quotient.Goals as goal

pub returns-in-Err-ZeroDivisor-clause-value : goal.returns-in-Err-ZeroDivisor-clause-value
returns-in-Err-ZeroDivisor-clause-value c = sym (quotient-zero c.args.x c.args.y (c.in-Err-ZeroDivisor.ensures.zero_divisor.0 (ap Err c.in-Err-ZeroDivisor.field-0-is)))
