use Rattle.std.proofs.Common.{arith}
use Rattle.pddl_lex.proofs.Literals.{both_digits}
use Rattle.pddl_lex.proofs.decimal.with_both.Goals as goal

pub with_digits-requires-clause-few : goal.with_digits-requires-clause-few
with_digits-requires-clause-few c = omega (arith, both_digits c.args.number c.args.whole.now c.args.decimals.now, c.requires.few)
