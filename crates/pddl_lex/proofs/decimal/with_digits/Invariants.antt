use Rattle.std.proofs.Common.{◌≡◌, drop}
use Rattle.pddl_lex.specs.Decimals.{with_digits}
use Rattle.pddl_lex.proofs.decimal.with_digits.Given as goal

abbrev pub invariant-loop-digit : goal.invariant-loop-digit
invariant-loop-digit l = with_digits l.all (drop l.digit-index l.digits) ≡ with_digits l.number l.digits
