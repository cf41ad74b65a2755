use Rattle.std.proofs.Common.{take, ap, ◌∙◌}
use Rattle.up_phrase.specs.Barred.{binds, each_once}
use Rattle.up_phrase.specs.Declarations.{declarations}
use Rattle.up_phrase.specs.Scopes.{variables, barred}
use Rattle.up_phrase.proofs.Barring.{unbarred}
use Rattle.up_effect.specs.Effects.{Around}
use Rattle.up_effect.proofs.Walking.{same_around, for_all_left, popped}
use Rattle.up_effect.proofs.effect.Flattening.+effect.Goals as goal

pub for_all-returns-clause-kept : goal.for_all-returns-clause-kept
for_all-returns-clause-kept t c = same_around _ _
    (ap (λ (a : Around). a.parameters) c.in_ok-effect.ensures.kept)
    (c.leave.ensures.variables ∙ ap (λ (a : Around). take c.len-outer.result a.variables) c.in_ok-effect.ensures.kept
    ∙ ap (λ n. take n (variables c.enter.new.self)) c.len-outer.ensures
    ∙ for_all_left (declarations c.args.names.now) (barred c.args.self.now.scope) c.args.groups.now (variables c.args.self.now.scope)
    (variables c.enter.new.self) c.in_ok-enter.ensures.ok)
    (c.leave.ensures.barred ∙ ap (λ (a : Around). a.barred) c.in_ok-effect.ensures.kept ∙ c.in_ok-enter.ensures.barred)
    (ap (λ (a : Around). a.whens) c.in_ok-effect.ensures.kept)

pub under-returns-in_ok-with_condition-in-Ok-clause-kept : goal.under-returns-in_ok-with_condition-in-Ok-clause-kept
under-returns-in_ok-with_condition-in-Ok-clause-kept t c = same_around _ _
    (ap (λ (a : Around). a.parameters) c.in_ok-with_condition-in-Ok.ensures.kept)
    (c.unbar.ensures.variables ∙ ap (λ (a : Around). a.variables) c.in_ok-with_condition-in-Ok.ensures.kept ∙ c.in-Ok.ensures.variables)
    (c.unbar.ensures.barred ∙ ap (λ (a : Around). take c.barred_len-outer.result a.barred) c.in_ok-with_condition-in-Ok.ensures.kept
    ∙ ap (take c.barred_len-outer.result) c.in-Ok.ensures.barred
    ∙ ap (λ n. take n (each_once (barred c.args.self.now.scope) (binds c.args.condition))) c.barred_len-outer.ensures
    ∙ unbarred (barred c.args.self.now.scope) (binds c.args.condition))
    (ap (λ (a : Around). a.whens) c.in_ok-with_condition-in-Ok.ensures.kept)

pub with_condition-returns-clause-kept : goal.with_condition-returns-clause-kept
with_condition-returns-clause-kept t c = same_around _ _
    (ap (λ (a : Around). a.parameters) c.in_ok-effect.ensures.kept)
    (ap (λ (a : Around). a.variables) c.in_ok-effect.ensures.kept)
    (ap (λ (a : Around). a.barred) c.in_ok-effect.ensures.kept)
    (popped c.args.self.now.whens c.effect-2.new.self.whens c.pop.new.self c.args.condition c.pop.result
    (ap (λ (a : Around). a.whens) c.in_ok-effect.ensures.kept ∙ c.in_ok-push.ensures.ok) c.pop.ensures)
