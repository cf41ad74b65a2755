use Rattle.std.proofs.Common.{◌<◌, ◌+◌, ◌^◌, length, subst, arith}
use Rattle.up_text.specs.Fresh.{AreTaken, IsFresh}
use Rattle.up_text.proofs.FreshNames.{fresh_is, found_fresh, taken_bound}
use Rattle.up_text.proofs.naming.fresh_from.Goals as goal

fresh : (c : goal.In-Some) → IsFresh c.args.base.now c.args.used.now c.in-Some.name
fresh c =
    found_fresh c.args.base.now c.args.used.now c.trying.number c.in_ok-name.field-0 c.in-Some.name c.trying.invariant c.in_ok-name.ensures c.in-Some.is

pub returns-in-Some-clause-fresh : goal.returns-in-Some-clause-fresh
returns-in-Some-clause-fresh c = fresh c

pub returns-in-Some-clause-value : goal.returns-in-Some-clause-value
returns-in-Some-clause-value c = fresh_is c.args.base.now c.args.used.now c.in-Some.name (fresh c)

bound : (c : goal.In-None) → AreTaken c.args.base.now c.args.used.now (c.trying.number + 1) × (c.trying.number < 17 + length c.args.used.now)
bound c =
    taken_bound c.args.base.now c.args.used.now c.trying.number c.in_ok-name.field-0 c.trying.invariant c.in_ok-name.ensures c.in-None.is

few : (c : goal.In-None) → length c.args.used.now < 2 ^ 63
few c = subst (λ n. n < 2 ^ 63) c.len-most.ensures.len c.len-most.ensures.small

pub overflow_add-number : goal.overflow_add-number
overflow_add-number c = omega (arith, (bound c).1, few c)

pub trying-smaller : goal.trying-smaller
trying-smaller c = omega (arith, (bound c).1)
