use Rattle.same_plans.proofs.Composing.{same_composed}
use Rattle.same_plans.proofs.laws.composed_has_same_plans.Goals as goal

pub returns : goal.returns
returns c =
    same_composed c.args._p.now c.args._q.now c.args._r.now c.args.earlier.now c.args._later.now c.entries-entries.ensures.fit
    c.requires.meets c.requires.first c.requires.second
