use Rattle.std.proofs.Common.{arith}
use Rattle.pddl_lex.proofs.Literals.{next_digit}
use Rattle.pddl_lex.proofs.decimal.with_digits.Goals as goal

pub overflow_mul-all : goal.overflow_mul-all
overflow_mul-all c =
    omega (arith, next_digit c.args.digits.now c.loop-digit.digit-index c.loop-digit.all _ c.loop-digit-test.true c.loop-digit.invariant, c.requires.few)

pub overflow_add-all : goal.overflow_add-all
overflow_add-all c =
    omega (arith, next_digit c.args.digits.now c.loop-digit.digit-index c.loop-digit.all _ c.loop-digit-test.true c.loop-digit.invariant, c.requires.few)
