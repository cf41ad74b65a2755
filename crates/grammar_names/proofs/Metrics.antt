-- A raw metric denotes a metric exactly where it is read as it.
use Rattle.std.proofs.Common.{◌≡◌, [], Option, Some, None, refl}
use Rattle.pddl_lex.specs.Parses.{parsed}
use Rattle.pddl_parse.specs.declared.raw.RawMetric.{RawMetric}
use Rattle.pddl_parse.proofs.Spelled.{Sound, sound_over}
use Rattle.up_tree.specs.declared.expr.Expr.{Expr}
use Rattle.up_tree.specs.declared.problem.Metric.{Metric}
use Rattle.up_phrase.specs.Declarations.{Declarations}
use Rattle.up_phrase.specs.declared.term.Setting.TheVariants as setting
use Rattle.up_phrase.specs.Exprs.{expr}
use Rattle.up_check.specs.Metrics.{metric, metric_of}
use Rattle.grammar_names.specs.Phrases.{DenotesExpr}
use Rattle.grammar_names.specs.Metrics.{DenotesMetric, no_metric, of_value}
use Rattle.grammar_shapes.proofs.Parses.{sound_is}
use Rattle.grammar_names.proofs.Exprs.{expr_read, expr_denotes}
use Rattle.grammar_shapes.proofs.Walks.{sound_of}

module _ (names : Declarations) where
  pub metric_read : (stated : Option RawMetric) (m : Option Metric) → DenotesMetric names stated m → metric_of names stated ≡ parsed m
  metric_read _ _ no_metric = refl
  metric_read _ _ (of_value raw e is) = rw (expr_read names [] setting.Metric raw.value e is) refl

  abbrev Denotes : RawMetric → Expr → Type 0
  Denotes raw e = DenotesExpr names [] setting.Metric raw.value e

  abbrev DenotesIt : RawMetric → Metric → Type 0
  DenotesIt raw m = DenotesMetric names (Some raw) (Some m)

  metric_sound : (stated : Option RawMetric) → Sound (metric_of names stated) (DenotesMetric names stated)
  metric_sound None = no_metric
  metric_sound (Some raw) =
      sound_over (DenotesIt raw) (DenotesMetric names (Some raw)) (λ (it : Metric). Some it) (metric names raw) (λ m is. is)
      (sound_over (Denotes raw) (DenotesIt raw) (λ (value : Expr). record { minimize = raw.minimize; value = value })
      (expr names [] setting.Metric raw.value)
      (λ e is. of_value raw e is) (sound_of (Denotes raw) (expr names [] setting.Metric raw.value)
      (expr_denotes names [] setting.Metric raw.value)))

  pub metric_denotes : (stated : Option RawMetric) (m : Option Metric) → metric_of names stated ≡ parsed m → DenotesMetric names stated m
  metric_denotes stated m e = sound_is (DenotesMetric names stated) (metric_of names stated) m (metric_sound stated) e
