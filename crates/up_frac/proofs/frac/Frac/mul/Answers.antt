use Rattle.std.proofs.Common.{rules, ◌≡◌, ◌↔◌, IfOk, IsErrOf, subst, ◌∙◌}
use Rattle.std.specs.Int.{w128}
use Rattle.std.proofs.lemmas.Int.{to_z-of_z}
use Rattle.up_frac.specs.Fraction.{IsBig}
use Rattle.up_frac.specs.declared.frac_error.FracError.TheVariants.{TooLarge}
use Rattle.up_frac.proofs.Results.{product_is}
use Rattle.up_frac.proofs.frac.Frac.mul.Goals as goal

pub returns-clause-value : goal.returns-clause-value
returns-clause-value c =
    subst (λ f. IfOk c.reduced.result (λ x. x ≡ f))
    (product_is c.args.self c.args.other _ c.denominators.ensures.value _ (to_z-of_z w128 c.numerators.result (search rules) ∙ c.numerators.ensures))
    c.reduced.ensures.value

pub returns-clause-too_large : goal.returns-clause-too_large
returns-clause-too_large c =
    subst (λ f. IsErrOf c.reduced.result TooLarge ↔ IsBig f)
    (product_is c.args.self c.args.other _ c.denominators.ensures.value _ (to_z-of_z w128 c.numerators.result (search rules) ∙ c.numerators.ensures))
    c.reduced.ensures.too_large
