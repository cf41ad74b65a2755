-- The step law of the kept instances: they do what the input actions do, in states that are as the initial one on what no row changes.
use Rattle.std.proofs.Common.{◌≡◌, ◌↔◌, true, List, [], ◌∷◌, ◌++◌, map, take, length, Option, Some, None, IsSomeAnd, refl, ap, sym, ◌∙◌, subst, inl, inr, arith}
use Rattle.std.proofs.lemmas.List.{take_all}
use Rattle.std.specs.Prelude.{is_some}
use Rattle.up_text.specs.declared.name.Name.{Name}
use Rattle.up_text.specs.Lists.{Every, Member, Differ}
use Rattle.up_tree.specs.declared.term.Typed.{Typed}
use Rattle.up_tree.specs.declared.action.Action.{Action}
use Rattle.up_tree.specs.declared.action.Row.{Row}
use Rattle.up_tree.specs.declared.problem.Parts.{Parts}
use Rattle.up_tree.specs.Objects.{World, world, unassigned, tuples}
use Rattle.up_tree.specs.State.{State, init}
use Rattle.up_tree.specs.Simplify.{simple_action}
use Rattle.up_tree.specs.Faults.{unknown, arity, argument_type}
use Rattle.up_tree.specs.WellFormed.{IsWellFormed, IsFormula, IsEffect, IsRow, IsAction}
use Rattle.up_tree.specs.Plans.{metric_at}
use Rattle.semantics_laws.proofs.Lists.{each_as}
use Rattle.condition_laws.specs.Oracles.{IsUnchanged, IsChanged}
use Rattle.condition_laws.proofs.Simplifying.{initial_tells}
use Rattle.condition_laws.proofs.Acting.{dropped_are_not_taken}
use Rattle.condition_laws.proofs.Running.{unchanged_next, itself}
use Rattle.expansion_laws.specs.SameDoing.{SameDoing}
use Rattle.expansion_laws.proofs.Substituting.{actions_substitute}
use Rattle.expansion_laws.proofs.Typed.{arguments_typed}
use Rattle.expansion_laws.proofs.Unchanged.{same_effect}
use Rattle.expansion_forms.specs.Covered.{Declares}
use Rattle.expansion_forms.proofs.Actions.{instance_well}
use Rattle.expansion_forms.proofs.Covering.{covers_itself, first_objects}
use Rattle.expansion_forms.proofs.Formulas.{variables_well}
use Rattle.expansion_forms.proofs.Problems.{declared_well}
use Rattle.expansion_forms.proofs.Terms.{effect_well}
use Rattle.step_laws.specs.StepLaw.{IsGoal, StepLaw}
use Rattle.step_laws.specs.SplitLaw.{CanTakeBy, next_by}
use Rattle.step_laws.proofs.Splitting.{find_member}
use Rattle.step_laws.proofs.Lists.{every_at}
use Rattle.grounder_laws.specs.Grounder.{static, Grounded, instance_by, ground_action, is_kept, made_names, grounded, instantiated}
use Rattle.grounder_laws.specs.Related.{AreSame}
use Rattle.grounder_laws.proofs.Standing.{Stand, stand_gives_step}
use Rattle.grounder_laws.proofs.Static.{oracle_is_initial}
use Rattle.grounder_laws.proofs.Names.{of_grounded, HasInstance, has_all, instance_name, names_differ}

-- ---- an instance is as good as the action

one_of_none : (w : World) (args : List Name) → Member args (tuples w []) → args ≡ []
one_of_none w args (inl e) = e
one_of_none w args (inr m) = absurd m

as_it_is : (w : World) (a : Action) (args : List Name) → SameDoing w a args w a args
as_it_is w a args = record { outcomes = λ s. refl; deeds = λ s. refl; faults = λ s fault. (λ h. h, λ h. h); next = λ s. refl }

good_by : (w : World) (params : List Typed) (name : Name) (a : Action) (args : List Name) → a.params ≡ params → Member args (tuples w a.params)
    → SameDoing w a args w (instance_by params name a args) []
good_by w [] name a args is m =
    subst (λ x. SameDoing w a x w a []) (sym (one_of_none w args (subst (λ params. Member args (tuples w params)) is m))) (as_it_is w a [])
good_by w (v ∷ vars) name a args is m = actions_substitute w name a args m

pub as_good : (w : World) (name : Name) (a : Action) (args : List Name) → Member args (tuples w a.params) → SameDoing w a args w (instance_by a.params name a args) []
as_good w name a args m = good_by w a.params name a args refl m

bare_by : (params : List Typed) (name : Name) (a : Action) (args : List Name) → a.params ≡ params → (instance_by params name a args).params ≡ []
bare_by [] name a args is = is
bare_by (v ∷ vars) name a args is = refl

-- an instance has no parameters
pub no_params : (g : Grounded) → (ground_action g).params ≡ []
no_params g = bare_by g.old.params g.name g.old g.args refl

-- ---- instances are well-formed where all objects may be named

module _ (p : Parts) (formed : IsWellFormed p) where
  abbrev pub q : Parts
  q = (instantiated p).parts

  pub declares : Declares p q
  declares = record { types = λ t is. is; below = λ t above is. is; objects = λ o t is. is; predicates = λ name d is. is; functions = λ name d is. is }

  pub all_objects_named : take q.constants q.objects ≡ q.objects
  all_objects_named = take_all (length p.objects) p.objects (omega arith)

  -- an action without parameters
  own_row : (a : Action) (row : Row) → IsRow p (take p.constants p.objects) a.params row → IsRow q q.objects a.params row
  own_row a row is = record {
    vars = variables_well p q declares a.params a.params row.vars (λ v m. m) is.vars;
    when = declared_well p q formed declares (take p.constants p.objects) (row.vars ++ a.params) (first_objects p p.constants) row.when is.when;
    effect = subst (IsEffect q q.objects (row.vars ++ a.params)) (same_effect row.effect)
        (effect_well p q formed declares (take p.constants p.objects) (row.vars ++ a.params) (row.vars ++ a.params) (first_objects p p.constants) unassigned
        (covers_itself p (row.vars ++ a.params)) row.effect is.effect);
  }

  own_well : (a : Action) → IsAction p a → IsAction q a
  own_well a is = record {
    params = variables_well p q declares [] [] a.params (λ v m. m) is.params;
    pre = subst (λ objects. IsFormula q objects a.params a.pre) (sym all_objects_named)
        (declared_well p q formed declares (take p.constants p.objects) a.params (first_objects p p.constants) a.pre is.pre);
    rows = subst (λ objects. Every (IsRow q objects a.params) a.rows) (sym all_objects_named)
        (each_as (IsRow p (take p.constants p.objects) a.params) (IsRow q q.objects a.params) (own_row a) a.rows is.rows);
  }

  well_by : (params : List Typed) (name : Name) (a : Action) (args : List Name) → IsAction p a → Member args (tuples (world p) a.params) → IsAction q (instance_by params name a args)
  well_by [] name a args is m = own_well a is
  well_by (v ∷ vars) name a args is m = instance_well p q formed declares all_objects_named name a args is m

  pub instance_formed : (name : Name) (a : Action) (args : List Name) → Member a p.actions → Member args (tuples (world p) a.params) → IsAction q (instance_by a.params name a args)
  instance_formed name a args m typed = well_by a.params name a args (every_at (IsAction p) p.actions a formed.actions m) typed

  -- ---- where the action can be taken the instance is kept

  kept_if : (s : State) → IsUnchanged p s → (a : Action) (args : List Name) → Member a p.actions → Member args (tuples (world p) a.params) → CanTakeBy (world p) s a args
      → is_kept p a args ≡ true
  kept_if s is a args m typed can = by (simple_action (world p) (static p) (instance_by a.params a.name a args)) refl
    where
      by : (o : Option Action) → simple_action (world p) (static p) (instance_by a.params a.name a args) ≡ o → is_some o ≡ true
      by (Some b) at = refl
      by None at =
          absurd (dropped_are_not_taken q (instance_by a.params a.name a args) (instance_formed a.name a args m typed) (world p) s (static p) []
          (initial_tells p s (static p) (oracle_is_initial p) is) at
          (λ fault h. can fault (((as_good (world p) a.name a args typed).faults s fault).1 h)))

-- ---- the law

pub same_init : (p : Parts) → init p ≡ init (instantiated p).parts
unfolding init
same_init p = refl

module _ (p : Parts) (formed : IsWellFormed p) where
  abbrev w : World
  w = world p

  abbrev gs : List Grounded
  gs = grounded p

  abbrev out : Parts
  out = (instantiated p).parts

  pub differ : Differ (made_names gs)
  differ = names_differ p formed

  -- the instances stand for the actions at their tuples
  pub standing : Stand p out gs ground_action
  standing = record {
    actions = refl;
    differ = differ;
    names = λ g k. instance_name p p.actions g (of_grounded p g k);
    bare = λ g k. no_params g;
    olds = formed.action_names.differ;
    old = λ g k. (of_grounded p g k).member;
  }

  -- what can be taken has an instance
  pub has_instance : (s : State) → IsUnchanged p s → (a : Action) → Member a p.actions → (args : List Name) → CanTakeBy w s a args → HasInstance gs a args
  has_instance s is a m args can =
      let typed : Member args (tuples w a.params) = (arguments_typed w s a args).1 (can unknown, can arity, can argument_type) in
      has_all p (map (λ (a : Action). a.name) p.actions) p.actions a args m typed (kept_if p formed s is a args m typed can)

  pub doing : (g : Grounded) → Member g gs → SameDoing w g.old g.args w (ground_action g) []
  doing g k = as_good w g.name g.old g.args (of_grounded p g k).typed

  pub doing_can : (s : State) (g : Grounded) → Member g gs → CanTakeBy w s g.old g.args ↔ CanTakeBy w s (ground_action g) []
  doing_can s g k = (λ can fault h. can fault (((doing g k).faults s fault).1 h), λ can fault h. can fault (((doing g k).faults s fault).0 h))

  -- the next state too is as the initial one on what no row changes
  pub still_unchanged : (s : State) → IsUnchanged p s → (a : Action) → Member a p.actions → (args : List Name) → IsUnchanged p (next_by w s a args)
  still_unchanged s is a m args =
      unchanged_next p s (record { action = a.name; args = args }) (next_by w s a args) is
      (subst (λ found. IsSomeAnd found (λ (b : Action). next_by w s a args ≡ next_by w s b args))
      (sym (find_member (λ (a : Action). a.name) p.actions a formed.action_names.differ m)) refl)

  pub at_first : IsUnchanged p (init p)
  at_first = itself (λ x. ¬ IsChanged p x) (init p)

  pub step_law : StepLaw p out (instantiated p).entries (AreSame p)
  step_law = stand_gives_step p out gs ground_action standing (AreSame p) (record {
    initial = record { same = same_init p; static = at_first };
    followed = λ s t r a m args can. has_instance s r.static a m args can;
    can = λ s t r g k. (
      λ can. subst (λ x. CanTakeBy w x (ground_action g) []) r.same ((doing_can s g k).0 can),
      λ can. (doing_can s g k).1 (subst (λ x. CanTakeBy w x (ground_action g) []) (sym r.same) can),
    );
    next = λ s t r g k can. record {
      same = (doing g k).next s ∙ ap (λ x. next_by w x (ground_action g) []) r.same;
      static = still_unchanged s r.static g.old (of_grounded p g k).member g.args;
    };
    goal = λ s t r. (λ h. subst (λ x. IsGoal out x) r.same h, λ h. subst (λ x. IsGoal p x) (sym r.same) h);
    metric = λ s t r. ap (metric_at p) r.same;
  })
