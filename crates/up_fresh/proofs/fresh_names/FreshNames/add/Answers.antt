use Rattle.up_fresh.proofs.Keeping.{after_add}
use Rattle.up_fresh.proofs.fresh_names.FreshNames.add.Goals as goal

pub invariant_of-self : goal.invariant_of-self
invariant_of-self c =
    after_add c.add.result c.self.inside.names c.add.new.self c.args.name c.self.inside.last c.self.invariant c.add.ensures.names c.add.ensures.err
