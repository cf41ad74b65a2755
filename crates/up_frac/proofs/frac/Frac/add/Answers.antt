use Rattle.std.proofs.Common.{◌≡◌, ◌↔◌, ◌+ℤ◌, IfOk, IsErrOf, subst, ap₂, ◌∙◌, arith}
use Rattle.std.proofs.lemmas.Int.{ints}
use Rattle.up_frac.specs.Fraction.{IsBig}
use Rattle.up_frac.specs.declared.frac_error.FracError.TheVariants.{TooLarge}
use Rattle.up_frac.proofs.Results.{sum_is}
use Rattle.up_frac.proofs.frac.Frac.add.Goals as goal

pub returns-clause-value : goal.returns-clause-value
returns-clause-value c =
    subst (λ f. IfOk c.reduced.result (λ x. x ≡ f))
    (sum_is c.args.self c.args.other _ c.denominators.ensures.value _ (let e : _ ≡ c.cross-left.result +ℤ c.cross-right.result = omega (arith, ints) in e ∙ ap₂ (λ x y. x +ℤ y) c.cross-left.ensures.value c.cross-right.ensures.value))
    c.reduced.ensures.value

pub returns-clause-too_large : goal.returns-clause-too_large
returns-clause-too_large c =
    subst (λ f. IsErrOf c.reduced.result TooLarge ↔ IsBig f)
    (sum_is c.args.self c.args.other _ c.denominators.ensures.value _ (let e : _ ≡ c.cross-left.result +ℤ c.cross-right.result = omega (arith, ints) in e ∙ ap₂ (λ x y. x +ℤ y) c.cross-left.ensures.value c.cross-right.ensures.value))
    c.reduced.ensures.too_large
