use Rattle.std.proofs.Common.{sym, subst}
use Rattle.up_text.specs.Fresh.{AreTaken}
use Rattle.up_fresh.proofs.Keeping.{same_last, noted}
use Rattle.up_fresh.proofs.fresh_names.FreshNames.next.Goals as goal

pub invariant_of-self : goal.invariant_of-self
invariant_of-self c =
    same_last c.self.inside.names c.self.inside.last c.insert.new.self c.self.invariant c.in_err-insert.ensures.err

pub invariant_of-self-2 : goal.invariant_of-self-2
invariant_of-self-2 c =
    noted c.self.inside.names c.self.inside.last c.insert.new.self c.in_ok-key.key c.in_ok-found.found.number c.self.invariant
    c.in_ok-insert.ensures.updates
    (subst (λ base. AreTaken base c.self.inside.names c.in_ok-found.found.number) (sym c.in_ok-key.ensures) c.in_ok-found.ensures.taken)
