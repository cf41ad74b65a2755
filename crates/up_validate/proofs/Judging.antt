-- What is said of a plan in the end.
use Rattle.std.proofs.Common.{◌≡◌, ℕ, suc, ◌+◌, List, [], ◌∷◌, ◌++◌, length, take, Option, Some, None, IsSomeAnd, refl, ap, sym, ◌∙◌, subst, option_map, le_refl, arith}
use Rattle.std.proofs.lemmas.List.{take_all}
use Rattle.up_frac.specs.Fraction.{Fraction}
use Rattle.up_tree.specs.declared.truth.Truth.{Truth}
use Rattle.up_tree.specs.declared.truth.Truth.TheVariants as truth
use Rattle.up_tree.specs.declared.problem.Metric.{Metric}
use Rattle.up_tree.specs.declared.problem.Parts.{Parts}
use Rattle.up_tree.specs.declared.problem.Plan.{Plan}
use Rattle.up_tree.specs.declared.problem.Step.{Step}
use Rattle.up_tree.specs.Objects.{world, unassigned}
use Rattle.up_tree.specs.State.{State, init}
use Rattle.up_tree.specs.Value.{number}
use Rattle.up_tree.specs.Truth.{True, IsUndefined}
use Rattle.up_tree.specs.Judged.{Judges}
use Rattle.up_tree.specs.Plans.{RunsFrom, OfLast, ReachesGoal, MetricOf, metric_at}
use Rattle.up_tree.specs.Big.{BigFormula, IsBigGoal}
use Rattle.up_tree.proofs.Apart.{apart}
use Rattle.up_eval.specs.declared.metric.Value.{Value}
use Rattle.up_eval.specs.declared.metric.Value.TheVariants as value
use Rattle.up_eval.specs.Metrics.{MetricIsBig, metric_value, of_number}
use Rattle.up_validate.specs.declared.run.Run.{Run}
use Rattle.up_validate.specs.declared.run.Halt.{Halt}
use Rattle.up_validate.specs.declared.run.Halt.TheVariants as halt
use Rattle.up_validate.specs.declared.verdict.ValidateError.TheVariants as error
use Rattle.up_validate.specs.declared.verdict.Verdict.TheVariants as verdict
use Rattle.up_validate.specs.Watching.{all_after}
use Rattle.up_validate.specs.Watches.{first_unkept}
use Rattle.up_validate.specs.Verdicts.{After, IsVerdict, IsUnjudged, IsValid, LeavesGoal, Breaks, MeetsBig, meant, in_goal, in_metric}
use Rattle.up_validate.specs.Verdicts as judged
use Rattle.up_validate.specs.Runs.{StandsAfter, Halts, HaltsBig}
use Rattle.up_validate.specs.Runs as run
use Rattle.up_validate.proofs.Watching.{all_kept, first_broken}
use Rattle.up_validate.proofs.Running.{of_last, last_of}

module _ (p : Parts) (plan : Plan) where
  big_halts : (number : ℕ) → HaltsBig p plan.steps number → MeetsBig p plan number
  big_halts number (run.in_step x) = judged.in_step x
  big_halts number (run.in_constraint before is x) = judged.in_constraint before is x

  pub too_large : (number : ℕ) → Halts p plan.steps (halt.TooLarge number) → IsUnjudged p plan (error.TooLarge number)
  too_large number x = big_halts number x

  -- ---- a run of all steps

  module _ (at : Run) (stands : StandsAfter p plan.steps at) where
    after_all : (What : State → Type 0) → What at.state → After p plan.steps (length plan.steps) What
    after_all What x = record {
      states = stands.before ++ at.state ∷ [];
      runs = subst (λ (them : List Step). RunsFrom p (init p) them (stands.before ++ at.state ∷ [])) (sym (take_all (length plan.steps) plan.steps (le_refl (length plan.steps)))) stands.runs;
      last = of_last What stands.before at.state x;
    }

    pub goal_open : ¬ True (world p) at.state unassigned p.goal → IsVerdict p plan verdict.GoalOpen
    goal_open denied = record {
      states = stands.before ++ at.state ∷ [];
      run = stands.runs;
      open_goal = λ x. denied (last_of (λ s. True (world p) s unassigned p.goal) stands.before at.state x);
    }

    pub goal_false : (t : Truth) → t ≡ truth.False → Judges (world p) at.state unassigned p.goal t → IsVerdict p plan verdict.GoalOpen
    goal_false t is x = goal_open (λ y. apart (world p) at.state unassigned p.goal y (subst (Judges (world p) at.state unassigned p.goal) is x))

    pub goal_undefined : (t : Truth) → t ≡ truth.Undefined → Judges (world p) at.state unassigned p.goal t → IsVerdict p plan verdict.GoalOpen
    goal_undefined t is x = goal_open (open_of (subst (Judges (world p) at.state unassigned p.goal) is x))
      where
        open_of : IsUndefined (world p) at.state unassigned p.goal → ¬ True (world p) at.state unassigned p.goal
        open_of y = y.0

    pub goal_big : BigFormula (world p) at.state unassigned p.goal → IsUnjudged p plan (error.TooLarge (length plan.steps + 1))
    goal_big x = in_goal (omega arith) (after_all (IsBigGoal p) x)

    pub metric_big : MetricIsBig at.state p.metric → IsUnjudged p plan (error.TooLarge (length plan.steps + 1))
    metric_big x = in_metric (omega arith) (after_all (λ s. MetricIsBig s p.metric) x)

    module _ (goal : True (world p) at.state unassigned p.goal) where
      reaches : ReachesGoal p (stands.before ++ at.state ∷ [])
      reaches = of_last (λ s. True (world p) s unassigned p.goal) stands.before at.state goal

      pub broken : (k : ℕ) → Some k ≡ first_unkept 1 at.phases → IsVerdict p plan (verdict.Broken k)
      broken k is = record {
        states = stands.before ++ at.state ∷ [];
        run = stands.runs;
        goal = reaches;
        broken = first_broken p (stands.before ++ at.state ∷ []) k (is ∙ ap (first_unkept 1) stands.phases);
      }

      pub valid : None ≡ first_unkept 1 at.phases → (v : Value) → v ≡ metric_value at.state p.metric → IsVerdict p plan (verdict.Valid v)
      valid is v measured = record {
        valid = (stands.before ++ at.state ∷ [], stands.runs, reaches, all_kept p (stands.before ++ at.state ∷ []) (is ∙ ap (first_unkept 1) stands.phases));
        measured = (
          stands.before ++ at.state ∷ [],
          stands.runs,
          of_last (λ s. meant v ≡ metric_at p s) stands.before at.state (ap meant measured ∙ meant_metric at.state p.metric),
        );
      }
        where
          meant_number : (n : Option Fraction) → meant (of_number n) ≡ Some n
          meant_number None = refl
          meant_number (Some n) = refl

          meant_metric : (s : State) (m : Option Metric) → meant (metric_value s m) ≡ option_map (λ m. number s unassigned m.value) m
          meant_metric s None = refl
          meant_metric s (Some m) = meant_number (number s unassigned m.value)
