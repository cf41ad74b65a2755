use Rattle.std.proofs.Common.{◌≡◌, ◌∷◌, [], ◌++◌, map, drop, slice_get, Some, ap, ◌∙◌, arith}
use Rattle.std.proofs.lemmas.Grind.{common_steps}
use Rattle.up_phrase.specs.Scopes.{variables, typed}
use Rattle.up_phrase.proofs.Entering.{since_on}
use Rattle.up_phrase.proofs.scope.Scope.since.Goals as goal

pub loop-at-preserved : goal.loop-at-preserved
loop-at-preserved c =
    let entry : slice_get (variables c.args.self.now) c.loop-at.at ≡ Some (c.in-Some.name.now, c.in-Some.of.now) = grind (arith, common_steps) in
    since_on (variables c.args.self.now) c.loop-at.at (c.in-Some.name.now, c.in-Some.of.now) (map typed (drop c.args.from (variables c.args.self.now)))
    c.loop-at.variables c.push.new.self entry
    (c.in_ok-push.ensures.ok ∙ ap (λ v. c.loop-at.variables ++ v ∷ []) c.in_ok-typed.ensures) c.loop-at.invariant
