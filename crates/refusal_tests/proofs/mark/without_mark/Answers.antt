use Rattle.refusal_tests.proofs.Dividing.{one_rest}
use Rattle.refusal_tests.proofs.mark.without_mark.Goals as goal

pub returns-in-Some-clause-marked : goal.returns-in-Some-clause-marked
returns-in-Some-clause-marked c = λ before after parts.
    rw (← one_rest c.args.text.now c.in-Some.marked.before.now c.in-Some.marked.after.now before after c.in-Some.ensures.sides parts) c.joined.ensures
