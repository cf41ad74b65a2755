-- An expanded problem has the plans of the problem.
use Rattle.std.proofs.Common.{◌≡◌, ◌↔◌, Bool, true, false, cond, List, [], ◌∷◌, map, find, Option, Some, None, option_map, IsSomeAnd, refl, ap, ◌∙◌, subst}
use Rattle.up_text.specs.declared.name.Name.{Name}
use Rattle.up_text.specs.Names.{same_name}
use Rattle.up_text.specs.Lists.{Every}
use Rattle.up_tree.specs.declared.action.Action.{Action}
use Rattle.up_tree.specs.declared.problem.Constraint.{Constraint}
use Rattle.up_tree.specs.declared.problem.Rule.{Rule}
use Rattle.up_tree.specs.declared.problem.Rule.TheVariants.{Always, Sometime, AtMostOnce, SometimeAfter, SometimeBefore}
use Rattle.up_tree.specs.declared.problem.Parts.{Parts}
use Rattle.up_tree.specs.declared.problem.Plan.{Plan}
use Rattle.up_tree.specs.declared.problem.Step.{Step}
use Rattle.up_tree.specs.Objects.{World, world, Assignment, unassigned, action_named}
use Rattle.up_tree.specs.State.{State, init}
use Rattle.up_tree.specs.Truth.{True}
use Rattle.up_tree.specs.Instances.{firing}
use Rattle.up_tree.specs.Changes.{changed}
use Rattle.up_tree.specs.Faults.{Fault, Applies}
use Rattle.up_tree.specs.Plans.{RunsFrom, IsRun, OfLast, ReachesGoal, KeepsRule, Keeps}
use Rattle.up_tree.proofs.Steps.{ByAction}
use Rattle.semantics_laws.proofs.Lists.{each_as}
use Rattle.expansion_laws.specs.Expanded.{action_expanded, problem_expanded}
use Rattle.expansion_laws.specs.SameDoing.{SameStep}
use Rattle.expansion_laws.proofs.Doing.{by_path, after, turned}
use Rattle.expansion_laws.proofs.Steps.{steps_follow}
use Rattle.expansion_laws.proofs.Expanding.{formulas_expand, actions_expand}
use Rattle.expansion_laws.specs.Kept.{PlansStay}

-- ---- steps

found_expanded : (w : World) (name : Name) (actions : List Action) →
    find (λ (a : Action). same_name a.name name) (map (action_expanded w) actions) ≡ option_map (action_expanded w) (find (λ (a : Action). same_name a.name name) actions)
found_expanded w name [] = refl
found_expanded w name (a ∷ actions) = by (same_name a.name name) (found_expanded w name actions)
  where
    by : (b : Bool) → find (λ (a : Action). same_name a.name name) (map (action_expanded w) actions) ≡ option_map (action_expanded w) (find (λ (a : Action). same_name a.name name) actions) →
        cond b (Some (action_expanded w a)) (find (λ (a : Action). same_name a.name name) (map (action_expanded w) actions))
        ≡ option_map (action_expanded w) (cond b (Some a) (find (λ (a : Action). same_name a.name name) actions))
    by true more = refl
    by false more = more

-- steps that no action has
no_step : (p : Parts) (step : Step) (q : Parts) (other : Step) → action_named p step.action ≡ None → action_named q other.action ≡ None → SameStep p step q other
no_step p step q other here there =
    let alike : (s : State) (fault : Fault) → Applies p s step fault ↔ Applies q s other fault =
    λ s fault. after (by_path (ap (λ x. ByAction p s step.args x fault) here)) (turned (by_path (ap (λ x. ByAction q s other.args x fault) there)))
    in
    record {
      faults = alike;
      can_take = λ s. ((λ can fault h. can fault ((alike s fault).1 h)), (λ can fault h. can fault ((alike s fault).0 h)));
      next = λ s t. ((λ h. absurd (subst (λ x. IsSomeAnd x (λ a. t ≡ changed s (firing (world p) s a step.args))) here h)), (λ h. absurd (subst (λ x. IsSomeAnd x (λ a. t ≡ changed s (firing (world q) s a other.args))) there h)));
    }

step_stays : (p : Parts) (step : Step) → SameStep p step (problem_expanded p) step
step_stays p step = by (action_named p step.action) refl
  where
    by : (found : Option Action) → action_named p step.action ≡ found → SameStep p step (problem_expanded p) step
    by None is = no_step p step (problem_expanded p) step is (found_expanded (world p) step.action p.actions ∙ ap (option_map (action_expanded (world p))) is)
    by (Some a) is =
        steps_follow p step a (problem_expanded p) step (action_expanded (world p) a) is
        (found_expanded (world p) step.action p.actions ∙ ap (option_map (action_expanded (world p))) is) (actions_expand (world p) a step.args)

-- ---- runs

runs_stay : (p : Parts) (steps : List Step) (s : State) (states : List State) → RunsFrom p s steps states ↔ RunsFrom (problem_expanded p) s steps states
runs_stay p [] s states = ((λ h. h), (λ h. h))
runs_stay p (step ∷ steps) s states =
    let one : SameStep p step (problem_expanded p) step = step_stays p step in (
      (λ h. ((one.can_take s).0 h.0, (h.1.0, h.1.1, (one.next s h.1.0).0 h.1.2, h.1.3, (runs_stay p steps h.1.0 h.1.1).0 h.1.4))),
      (λ h. ((one.can_take s).1 h.0, (h.1.0, h.1.1, (one.next s h.1.0).1 h.1.2, h.1.3, (runs_stay p steps h.1.0 h.1.1).1 h.1.4))),
    )

run_stays : (p : Parts) (plan : Plan) (states : List State) → IsRun p plan states ↔ IsRun (problem_expanded p) plan states
unfolding init
run_stays p plan states = runs_stay p plan.steps (init p) states

last_alike : (P Q : State → Type 0) → ((s : State) → P s → Q s) → (states : List State) → OfLast P states → OfLast Q states
last_alike P Q h [] last = last
last_alike P Q h (s ∷ []) last = h s last
last_alike P Q h (s ∷ t ∷ rest) last = last_alike P Q h (t ∷ rest) last

goal_stays : (p : Parts) (states : List State) → ReachesGoal p states ↔ ReachesGoal (problem_expanded p) states
goal_stays p states =
    let goal : (s : State) → True (world p) s unassigned (problem_expanded p).goal ↔ True (world p) s unassigned p.goal =
    λ s. (formulas_expand (world p) unassigned p.goal).true_where (world p) s unassigned
    in
    ((λ h. last_alike _ _ (λ s k. (goal s).1 k) states h), (λ h. last_alike _ _ (λ s k. (goal s).0 k) states h))

-- ---- constraints

rule_stays : (p : Parts) (states : List State) (e : Assignment) (rule : Rule) → KeepsRule p states e rule ↔ KeepsRule (problem_expanded p) states e rule
rule_stays p states e (Always f) = ((λ h. h), (λ h. h))
rule_stays p states e (Sometime f) = ((λ h. h), (λ h. h))
rule_stays p states e (AtMostOnce f) = ((λ h. h), (λ h. h))
rule_stays p states e (SometimeAfter f g) = ((λ h. h), (λ h. h))
rule_stays p states e (SometimeBefore f g) = ((λ h. h), (λ h. h))

constraints_stay : (p : Parts) (states : List State) (cs : List Constraint) → Every (Keeps p states) cs ↔ Every (Keeps (problem_expanded p) states) cs
constraints_stay p states cs = (
  (λ h. each_as (Keeps p states) (Keeps (problem_expanded p) states) (λ c k tuple m. (rule_stays p states _ c.rule).0 (k tuple m)) cs h),
  (λ h. each_as (Keeps (problem_expanded p) states) (Keeps p states) (λ c k tuple m. (rule_stays p states _ c.rule).1 (k tuple m)) cs h),
)

pub plans_expand : (p : Parts) (plan : Plan) → PlansStay p plan
plans_expand p plan = record {
  free = ((λ h. (h.0, (run_stays p plan h.0).0 h.1, (goal_stays p h.0).0 h.2)), (λ h. (h.0, (run_stays p plan h.0).1 h.1, (goal_stays p h.0).1 h.2)));
  all = (
    (λ h. (h.0, (run_stays p plan h.0).0 h.1, (goal_stays p h.0).0 h.2, (constraints_stay p h.0 p.constraints).0 h.3)),
    (λ h. (h.0, (run_stays p plan h.0).1 h.1, (goal_stays p h.0).1 h.2, (constraints_stay p h.0 p.constraints).1 h.3)),
  );
  metric = λ v. ((λ h. (h.0, (run_stays p plan h.0).0 h.1, h.2)), (λ h. (h.0, (run_stays p plan h.0).1 h.1, h.2)));
}
