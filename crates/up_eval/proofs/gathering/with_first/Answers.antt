use Rattle.std.proofs.Common.{sym, ap, true≢false, ◌∙◌}
use Rattle.std.specs.Option.{option_copied}
use Rattle.std.specs.FinMap as table
use Rattle.up_eval.specs.Effects.{object_meant}
use Rattle.up_eval.proofs.Gathered.{first_new, first_same, first_differs}
use Rattle.up_eval.proofs.gathering.with_first.Goals as goal

pub returns-then-not-same_value-clause-stop : goal.returns-then-not-same_value-clause-stop
returns-then-not-same_value-clause-stop c =
    first_differs c.args.firsts (object_meant c.args.change.now) c.in-Some.first.now (sym c.get.ensures ∙ ap option_copied c.in-Some.is)
    (λ is. true≢false (sym (c.same_value.ensures.1 is) ∙ c.if-not-same_value.true))

pub returns-in-Some-clause-more : goal.returns-in-Some-clause-more
returns-in-Some-clause-more c =
    first_same c.args.firsts (object_meant c.args.change.now) c.in-Some.first.now (sym c.get.ensures ∙ ap option_copied c.in-Some.is)
    (c.same_value.ensures.0 c.if-not-same_value.false)

pub returns-clause-more : goal.returns-clause-more
returns-clause-more c =
    first_new c.args.firsts (object_meant c.args.change.now) _ (sym c.get.ensures ∙ ap option_copied c.in_default.is)
    (c.in_ok-insert.ensures ∙ (λ i. table.insert c.args.firsts (c.in_ok-copy.ensures i) (c.in_ok-value.ensures i)))
