-- The step law of the whole construction.
use Rattle.std.proofs.Common.{◌≡◌, ◌↔◌, Bool, true, false, cond, [], ◌∷◌, map, codes, refl, ap, sym, ◌∙◌, subst}
use Rattle.up_text.specs.Lists.{Member}
use Rattle.up_tree.specs.declared.action.Action.{Action}
use Rattle.up_tree.specs.declared.formula.Formula.{Formula, Atom}
use Rattle.up_tree.specs.declared.problem.Parts.{Parts}
use Rattle.up_tree.specs.declared.problem.Predicate.{Predicate}
use Rattle.up_tree.specs.declared.problem.Function.{Function}
use Rattle.up_tree.specs.declared.truth.Truth.TheVariants as truth
use Rattle.up_tree.specs.Objects.{World, world, unassigned}
use Rattle.up_tree.specs.WellFormed.{IsWellFormed}
use Rattle.up_tree.specs.State.{State, Holds, ground, init}
use Rattle.up_tree.specs.Truth.{True}
use Rattle.up_tree.specs.Simplify.{Oracle, is_false_formula, simplified}
use Rattle.up_tree.specs.Changes.{changed}
use Rattle.up_tree.specs.Plans.{metric_at}
use Rattle.up_tree.proofs.Apart.{apart}
use Rattle.up_tree.proofs.Judging.{judged}
use Rattle.semantics_laws.specs.SameTruth.{SameTruth}
use Rattle.condition_laws.specs.Oracles.{IsUnchanged}
use Rattle.condition_laws.specs.Taken.{IsTakenWith}
use Rattle.condition_laws.proofs.Acting.{simple_actions_are_taken}
use Rattle.condition_laws.proofs.Assigning.{is_assigned}
use Rattle.condition_laws.proofs.Simplifying.{of_never, simplified_keeps, initial_tells}
use Rattle.expansion_laws.proofs.Lists.{map_of_map, in_first}
use Rattle.step_laws.specs.StepLaw.{IsGoal, StepLaw}
use Rattle.step_laws.specs.SplitLaw.{CanTakeBy, next_by}
use Rattle.compiling_laws.proofs.Lists.{false_true}
use Rattle.compiling_laws.proofs.Names.{fresh_is_new}
use Rattle.finishing_laws.specs.Finished.{Goal}
use Rattle.compiling_laws.specs.Forms.{symbols}
use Rattle.finishing_laws.proofs.Unreached.{changed_among, holds_among}
use Rattle.grounder_laws.specs.Grounder.{static, Grounded, ground_action, grounded, instantiated, lighter, grounder}
use Rattle.grounder_laws.specs.Related.{never_name, AreRelated}
use Rattle.grounder_laws.proofs.Static.{oracle_is_initial}
use Rattle.grounder_laws.proofs.Names.{IsInstance, of_grounded, instance_name}
use Rattle.grounder_laws.proofs.Standing.{Stand, stand_gives_step}
use Rattle.grounder_laws.proofs.Instancing.{instance_formed, no_params, differ, doing, doing_can, has_instance, still_unchanged, at_first}
use Rattle.grounder_laws.proofs.Lightening.{lighter_faults, lighter_next}
use Rattle.grounder_laws.proofs.Composing.{simple_by, instance_kept, simple_actions}

module _ (p : Parts) (formed : IsWellFormed p) where
  abbrev w : World
  w = world p

  abbrev out : Parts
  out = (grounder p).parts

  abbrev oracle : Oracle
  oracle = static p

  abbrev inst : Parts
  inst = (instantiated p).parts

  -- ---- `never` is false

  new : ¬ Member (never_name p) (symbols p)
  new = fresh_is_new (codes "never") (symbols p)

  not_there : ¬ Member (never_name p) (map (λ (d : Predicate). d.name) p.predicates)
  not_there m = new (in_first (never_name p) (map (λ (d : Predicate). d.name) p.predicates) (map (λ (d : Function). d.name) p.functions) m)

  never_false : (s : State) → IsUnchanged p s → ¬ Holds s (ground (never_name p) [])
  never_false s as_first there =
      not_there (holds_among p (never_name p) [] formed.atoms
      ((as_first.atoms (never_name p) (λ changed. not_there (changed_among p p.actions (never_name p) formed.actions changed)) []).1 there))

  related : (s t : State) → s ≡ t → IsUnchanged p s → AreRelated p s t
  related s t same as_first = record { same = same; static = as_first; never = subst (λ x. ¬ Holds x (ground (never_name p) [])) same (never_false s as_first) }

  -- ---- the new actions

  abbrev new_action : Grounded → Action
  new_action g = lighter (simple_by p (ground_action g))

  standing : Stand p out (grounded p) new_action
  standing = record {
    actions = ap (map lighter) (simple_actions p) ∙ map_of_map lighter (λ g. simple_by p (ground_action g)) (grounded p);
    differ = differ p formed;
    names = λ g k. instance_name p p.actions g (of_grounded p g k);
    bare = λ g k. no_params g;
    olds = formed.action_names.differ;
    old = λ g k. (of_grounded p g k).member;
  }

  simple_taken : (s : State) → IsUnchanged p s → (g : Grounded) → Member g (grounded p) → IsTakenWith w s [] (simple_by p (ground_action g)) (ground_action g)
  simple_taken s as_first g k =
      let here : IsInstance p p.actions g = of_grounded p g k in
      simple_actions_are_taken inst (ground_action g) (simple_by p (ground_action g)) (instance_formed p formed g.name g.old g.args here.member here.typed) w s oracle []
      (initial_tells p s oracle (oracle_is_initial p) as_first) (instance_kept p g k)

  new_can : (s : State) → IsUnchanged p s → (g : Grounded) → Member g (grounded p) → CanTakeBy w s g.old g.args ↔ CanTakeBy w s (new_action g) []
  new_can s as_first g k = (
    λ can fault h. (simple_taken s as_first g k).can.1 ((doing_can p formed s g k).0 can) fault ((lighter_faults w s (simple_by p (ground_action g)) [] fault).0 h),
    λ can. (doing_can p formed s g k).1
        ((simple_taken s as_first g k).can.0 (λ fault h. can fault ((lighter_faults w s (simple_by p (ground_action g)) [] fault).1 h))),
  )

  new_next : (s : State) → IsUnchanged p s → (g : Grounded) → Member g (grounded p) → CanTakeBy w s (new_action g) [] → next_by w s g.old g.args ≡ next_by w s (new_action g) []
  new_next s as_first g k can =
      (doing p formed g k).next s
      ∙ ap (changed s) (sym ((simple_taken s as_first g k).fires (λ fault h. can fault ((lighter_faults w s (simple_by p (ground_action g)) [] fault).1 h))))
      ∙ sym (lighter_next w s (simple_by p (ground_action g)) [])

  -- ---- the goal

  abbrev simple_goal : Formula
  simple_goal = simplified w oracle p.goal

  goal_at : (s : State) → IsUnchanged p s → SameTruth w s unassigned simple_goal s unassigned p.goal
  goal_at s as_first =
      simplified_keeps w s unassigned oracle p.goal (initial_tells p s oracle (oracle_is_initial p) as_first)
      (is_assigned p p.objects [] p.goal formed.goal w unassigned (λ v h. false_true h))

  goal_same : (s : State) → IsUnchanged p s → IsGoal p s ↔ IsGoal out s
  unfolding True
  goal_same s as_first = by (is_false_formula simple_goal) refl
    where
      ruled : Bool → Goal
      ruled n = cond n (let g : Goal = record { formula = Atom (never_name p) []; predicates = record { name = never_name p; args = [] } ∷ [] } in g)
          (let g : Goal = record { formula = simple_goal; predicates = [] } in g)

      by : (n : Bool) → is_false_formula simple_goal ≡ n → IsGoal p s ↔ True w s unassigned (ruled n).formula
      by false at = ((goal_at s as_first).true_where.1, (goal_at s as_first).true_where.0)
      by true at = (
        λ h. absurd (apart w s unassigned simple_goal ((goal_at s as_first).true_where.1 h) (judged w s unassigned simple_goal truth.False (sym (of_never w s unassigned simple_goal at)))),
        λ h. absurd (never_false s as_first h),
      )

  init_out : init p ≡ init out
  unfolding init
  init_out = refl

  pub steps : StepLaw p out (grounder p).entries (AreRelated p)
  steps = stand_gives_step p out (grounded p) new_action standing (AreRelated p) (record {
    initial = related (init p) (init out) init_out (at_first p formed);
    followed = λ s t r a m args can. has_instance p formed s r.static a m args can;
    can = λ s t r g k. (
      λ can. subst (λ x. CanTakeBy w x (new_action g) []) r.same ((new_can s r.static g k).0 can),
      λ can. (new_can s r.static g k).1 (subst (λ x. CanTakeBy w x (new_action g) []) (sym r.same) can),
    );
    next = λ s t r g k can.
        related (next_by w s g.old g.args) (next_by w t (new_action g) [])
        (new_next s r.static g k (subst (λ x. CanTakeBy w x (new_action g) []) (sym r.same) can) ∙ ap (λ x. next_by w x (new_action g) []) r.same)
        (still_unchanged p formed s r.static g.old (of_grounded p g k).member g.args);
    goal = λ s t r. (λ h. subst (λ x. IsGoal out x) r.same ((goal_same s r.static).0 h), λ h. (goal_same s r.static).1 (subst (λ x. IsGoal out x) (sym r.same) h));
    metric = λ s t r. ap (metric_at p) r.same;
  })
