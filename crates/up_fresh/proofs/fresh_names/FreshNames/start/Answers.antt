use Rattle.std.proofs.Common.{sym, subst}
use Rattle.up_text.specs.Fresh.{AreTaken}
use Rattle.up_fresh.proofs.fresh_names.FreshNames.start.Goals as goal

pub returns-in-Some : goal.returns-in-Some
returns-in-Some c =
    subst (λ names. AreTaken c.args.base.now names c.in-Some.number.now) c.self.view_is
    (c.self.invariant.taken c.args.base.now c.in-Some.number.now (sym c.in-Some.ensures.value))
