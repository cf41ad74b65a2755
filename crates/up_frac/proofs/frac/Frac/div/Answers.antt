use Rattle.std.proofs.Common.{rules, ◌↔◌, IsErrOf, IsSomeAnd, sym, subst, ◌∙◌}
use Rattle.std.specs.Int.{w128}
use Rattle.std.proofs.lemmas.Int.{to_z-of_z}
use Rattle.up_frac.specs.Fraction.{IsBig}
use Rattle.up_frac.specs.Arithmetic.{IsZero}
use Rattle.up_frac.specs.declared.frac_error.FracError.TheVariants.{TooLarge}
use Rattle.up_frac.proofs.Results.{no_quotient, quotient_is, quotient_ok}
use Rattle.up_frac.proofs.frac.Frac.div.Goals as goal

pub returns-then-other-eq0-clause-too_large : goal.returns-then-other-eq0-clause-too_large
returns-then-other-eq0-clause-too_large c =
    let z : IsZero c.args.other = search rules in
    (λ e. search rules, λ some. absurd (subst (λ o. IsSomeAnd o IsBig) (no_quotient c.args.self c.args.other z) some))

pub returns-clause-value : goal.returns-clause-value
returns-clause-value c =
    let some : IsZero c.args.other → ⊥ = search rules in
    quotient_ok c.args.self c.args.other _ c.whole_quotient.result
    (quotient_is c.args.self c.args.other some _ _ (to_z-of_z w128 c.cross.result (search rules) ∙ c.cross.ensures.value) (to_z-of_z w128 c.cross-2.result (search rules) ∙ c.cross-2.ensures.value))
    c.whole_quotient.ensures.value

pub returns-clause-too_large : goal.returns-clause-too_large
returns-clause-too_large c =
    let some : IsZero c.args.other → ⊥ = search rules in
    subst (λ o. IsErrOf c.whole_quotient.result TooLarge ↔ IsSomeAnd o IsBig)
    (sym (quotient_is c.args.self c.args.other some _ _ (to_z-of_z w128 c.cross.result (search rules) ∙ c.cross.ensures.value) (to_z-of_z w128 c.cross-2.result (search rules) ∙ c.cross-2.ensures.value)))
    c.whole_quotient.ensures.too_large
