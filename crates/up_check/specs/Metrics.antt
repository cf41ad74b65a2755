-- The metric of a raw metric.
use Rattle.std.specs.Prelude.{[], Option, Some, None}
use Rattle.pddl_lex.specs.Parses.{parsed, over}
use Rattle.pddl_parse.specs.declared.raw.RawMetric.{RawMetric}
use Rattle.up_tree.specs.declared.expr.Expr.{Expr}
use Rattle.up_tree.specs.declared.problem.Metric.{Metric}
use Rattle.up_phrase.specs.Declarations.{Declarations}
use Rattle.up_phrase.specs.declared.term.Setting.TheVariants as setting
use Rattle.up_phrase.specs.Exprs.{expr}
use Rattle.up_phrase.specs.Walks.{Checked}

-- an expression without variables, which is minimized or maximized
abbrev pub metric : Declarations → RawMetric → Checked Metric
metric names raw = over (λ (value : Expr). record { minimize = raw.minimize; value = value }) (expr names [] setting.Metric raw.value)

-- the metric, if there is one
abbrev pub metric_of : Declarations → Option RawMetric → Checked (Option Metric)
metric_of names None = parsed None
metric_of names (Some raw) = over (λ (it : Metric). Some it) (metric names raw)
