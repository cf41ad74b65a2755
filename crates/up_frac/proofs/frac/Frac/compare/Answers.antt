use Rattle.std.proofs.Common.{rules, ap₂, ◌∙◌}
use Rattle.std.proofs.lemmas.Int.{to_z-of_z}
use Rattle.std.specs.Int.{w128}
use Rattle.std.specs.Ordering.{int_cmp}
use Rattle.up_frac.specs.Arithmetic.{compare}
use Rattle.up_frac.proofs.frac.Frac.compare.Goals as goal

pub returns : goal.returns
unfolding compare
returns c =
    c.cmp.ensures ∙ ap₂ int_cmp (to_z-of_z w128 c.cross-left.result (search rules) ∙ c.cross-left.ensures.value)
    (to_z-of_z w128 c.cross-right.result (search rules) ∙ c.cross-right.ensures.value)
