-- The value of a problem's metric in a state.
use Rattle.std.specs.Prelude.{Option, Some, None, IsSomeAnd}
use Rattle.up_frac.specs.Fraction.{Fraction}
use Rattle.up_tree.specs.declared.problem.Metric.{Metric}
use Rattle.up_tree.specs.Objects.{unassigned}
use Rattle.up_tree.specs.State.{State}
use Rattle.up_tree.specs.Value.{number}
use Rattle.up_tree.specs.Big.{BigExpr}
use Rattle.up_eval.specs.declared.metric.Value.{Value}
use Rattle.up_eval.specs.declared.metric.Value.TheVariants as value

abbrev pub of_number : Option Fraction → Value
of_number None = value.Undefined
of_number (Some n) = value.Number n

abbrev pub metric_value : State → Option Metric → Value
metric_value s None = value.None
metric_value s (Some m) = of_number (number s unassigned m.value)

-- the metric or a part of it is past the bound
abbrev pub MetricIsBig : State → Option Metric → Type 0
MetricIsBig s metric = IsSomeAnd metric (λ m. BigExpr s unassigned m.value)
