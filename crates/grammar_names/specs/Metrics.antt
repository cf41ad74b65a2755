-- Which metric a raw metric denotes where names are declared, said apart from how it is checked.
use Rattle.std.specs.Prelude.{[], Option, Some, None}
use Rattle.pddl_parse.specs.declared.raw.RawMetric.{RawMetric}
use Rattle.up_tree.specs.declared.expr.Expr.{Expr}
use Rattle.up_tree.specs.declared.problem.Metric.{Metric}
use Rattle.up_phrase.specs.Declarations.{Declarations}
use Rattle.up_phrase.specs.declared.term.Setting.TheVariants as setting
use Rattle.grammar_names.specs.Phrases.{DenotesExpr}

-- an expression without variables, to be minimized or maximized, where a metric is stated
pub data DenotesMetric (names : Declarations) : Option RawMetric → Option Metric → Type 0 where
  no_metric : DenotesMetric names None None
  of_value : (raw : RawMetric) (e : Expr)
      → DenotesExpr names [] setting.Metric raw.value e → DenotesMetric names (Some raw) (Some (record { minimize = raw.minimize; value = e }))
