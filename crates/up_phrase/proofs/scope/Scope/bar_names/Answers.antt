use Rattle.up_phrase.specs.Barred.{names_of, each_once}
use Rattle.up_phrase.specs.Scopes.{barred}
use Rattle.up_phrase.proofs.Barring.{once_on}
use Rattle.up_phrase.proofs.scope.Scope.bar_names.Goals as goal

pub loop-variable-preserved : goal.loop-variable-preserved
loop-variable-preserved c = record {
  so_far = once_on c.args.vars.now c.loop-variable.variable-index (each_once (barred c.args.self.now) (names_of c.args.vars.now))
      (barred c.loop-variable.self) c.insert.new.self.keys c.variable-item.result c.in_ok-copy.field-0 c.loop-variable-test.true
      c.variable-item.is c.in_ok-copy.ensures c.in_ok-insert.ensures.keys c.loop-variable.invariant.so_far;
  kept = c.loop-variable.invariant.kept;
}
