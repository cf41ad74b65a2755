use Rattle.std.proofs.Common.{rules, w64, inl, inr, refl, ◌∙◌}
use Rattle.std.proofs.lemmas.Int.{to_z-of_z}
use Rattle.std.specs.Int.{w128}
use Rattle.up_frac.proofs.Reduced.{is_reduce, meets, below_is, sign_is, large, small}
use Rattle.up_frac.proofs.frac.reduced.Goals as goal

pub returns-then-above-ge-LIMIT-clause-too_large : goal.returns-then-above-ge-LIMIT-clause-too_large
returns-then-above-ge-LIMIT-clause-too_large c =
    (λ e. large c.args.numerator _ c.args.denominator _ _ (to_z-of_z w128 _ c.ranges.numerator) c.unsigned_abs-size.ensures.value c.common_divisor-divisor.ensures.value c.requires (elim c.then-above-ge-LIMIT.either [ inl le ↦ inl le | inr le ↦ inr le.1 ]), λ big. refl)

pub invariant_of-result : goal.invariant_of-result
invariant_of-result c = (
  meets c.args.numerator c.args.denominator _ _ c.requires
      (to_z-of_z w64 c.with_sign.result (search rules) ∙
      sign_is c.args.numerator _ c.args.denominator _ _ (to_z-of_z w128 _ c.ranges.numerator) c.unsigned_abs-size.ensures.value c.common_divisor-divisor.ensures.value c.with_sign.result c.with_sign.ensures)
      (below_is c.args.numerator _ c.args.denominator _ _ (to_z-of_z w128 _ c.ranges.numerator) c.unsigned_abs-size.ensures.value c.common_divisor-divisor.ensures.value),
  tt,
)

pub returns-clause-value : goal.returns-clause-value
returns-clause-value c =
    is_reduce _ c.args.numerator c.args.denominator c.requires
    (to_z-of_z w64 c.with_sign.result (search rules) ∙
    sign_is c.args.numerator _ c.args.denominator _ _ (to_z-of_z w128 _ c.ranges.numerator) c.unsigned_abs-size.ensures.value c.common_divisor-divisor.ensures.value c.with_sign.result c.with_sign.ensures)
    (below_is c.args.numerator _ c.args.denominator _ _ (to_z-of_z w128 _ c.ranges.numerator) c.unsigned_abs-size.ensures.value c.common_divisor-divisor.ensures.value)

pub returns-clause-too_large : goal.returns-clause-too_large
returns-clause-too_large c =
    (λ e. search rules, λ big. absurd (small c.args.numerator _ c.args.denominator _ _ (to_z-of_z w128 _ c.ranges.numerator) c.unsigned_abs-size.ensures.value c.common_divisor-divisor.ensures.value c.requires c.if-above-ge-LIMIT.false c.if-below-ge-LIMIT.false big))
