use Rattle.up_compiler.proofs.Composed.{back_composed}
use Rattle.up_compiler.proofs.laws.composed_converts_twice.Goals as goal

pub returns : goal.returns
returns c = back_composed c.args.earlier.now c.args._later.now c.entries-entries.ensures.fit c.requires
