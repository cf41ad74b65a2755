-- The effects of an action that take place, and what stops them.
use Rattle.std.proofs.Common.{◌≡◌, List, [], ◌∷◌, refl, ap, sym, ◌∙◌, subst, inl, inr}
use Rattle.std.specs.Prelude.{◌≢◌, flat_map, Result, Ok, Err, IfOk, IfErr, OnOk, IsErrAnd}
use Rattle.up_text.specs.declared.name.Name.{Name}
use Rattle.up_text.specs.Lists.{Every, Somewhere}
use Rattle.up_tree.specs.declared.action.Action.{Action}
use Rattle.up_tree.specs.declared.truth.Truth.{Truth}
use Rattle.up_tree.specs.declared.truth.Truth.TheVariants.{True, False, Undefined}
use Rattle.up_tree.specs.declared.action.Row.{Row}
use Rattle.up_tree.specs.declared.term.Typed.{Typed}
use Rattle.up_tree.specs.Objects.{World, Assignment, assign, unassigned}
use Rattle.up_tree.specs.State.{State}
use Rattle.up_tree.specs.Truth.{True as IsTrueIn}
use Rattle.up_tree.specs.Judged.{truth_of, Judges}
use Rattle.up_tree.specs.Instances.{Fired, row_instances, instances, firing, action_assignment}
use Rattle.up_tree.specs.Big.{BigFormula}
use Rattle.up_tree.proofs.Apart.{apart}
use Rattle.up_tree.proofs.Judging.{judged}
use Rattle.up_eval.specs.declared.error.TruthError.{TruthError}
use Rattle.up_eval.specs.declared.error.TruthError.TheVariants as error
use Rattle.up_eval.specs.declared.firing.Firing.{Firing}
use Rattle.up_eval.specs.declared.step_error.Why.TheVariants as why
use Rattle.up_eval.specs.declared.stop.Stop.{Stop}
use Rattle.up_eval.specs.declared.stop.Stop.TheVariants as stop
use Rattle.up_eval.specs.declared.scope.Binding.{Binding}
use Rattle.up_eval.specs.Scope.{assignment_of}
use Rattle.up_eval.specs.Firing.{HasFired, IsConditionStop, meant_all}
use Rattle.up_eval.specs.Steps.{IsStop, ActionHasNone, before, stop_of}

pub none_of : {X : Type 0} (P : X → Type 0) (xs : List X) → Every (λ x. ¬ P x) xs → ¬ Somewhere P xs
none_of P [] h k = k
none_of P (x ∷ xs) h (inl k) = h.0 k
none_of P (x ∷ xs) h (inr k) = none_of P xs h.1 k

module _ (w : World) (s : State) (a : Action) (args : List Name) where
  -- ---- the precondition

  module _ (e : Assignment) (is : e ≡ action_assignment a args) where
    pre_by : (cause : TruthError) → (cause ≡ error.TooLarge → BigFormula w s e a.pre) → IsStop w s a args (stop_of cause)
    pre_by error.Memory h = tt
    pre_by error.TooLarge h = inl (subst (λ v. BigFormula w s v a.pre) is (h refl))

    pub pre_large : {T : Type 0} (cause : TruthError) → (cause ≡ error.TooLarge → BigFormula w s e a.pre)
        → (r : Result T Stop) → IsErrAnd r (λ y. y ≡ stop_of cause) → IfErr r (IsStop w s a args)
    pre_large cause h (Ok x) same = tt
    pre_large cause h (Err y) same = subst (IsStop w s a args) (sym same) (pre_by cause h)

    at_action : (t : Truth) → t ≡ truth_of w s e a.pre → Judges w s (action_assignment a args) a.pre t
    at_action t of = judged w s (action_assignment a args) a.pre t (of ∙ ap (λ v. truth_of w s v a.pre) is)

    not_true : (t : Truth) → Judges w s (action_assignment a args) a.pre t → t ≢ True → IsStop w s a args (stop.Refused why.Precondition)
    not_true True j n = absurd (n refl)
    not_true False j n = (λ h. apart w s (action_assignment a args) a.pre h j, tt)
    not_true Undefined j n = (j.0, tt)

    pub pre_fails : (t : Truth) → t ≡ truth_of w s e a.pre → t ≢ True → IsStop w s a args (stop.Refused why.Precondition)
    pre_fails t of n = not_true t (at_action t of) n

  -- ---- the effects, where the precondition holds

  module _ (first : Assignment) (at : first ≡ action_assignment a args) (t : Truth) (of : t ≡ truth_of w s first a.pre) (so : t ≡ True)
      (e : Assignment) (is : e ≡ action_assignment a args) (rows : List Row) (are : rows ≡ a.rows) where
    holds : ¬ (¬ IsTrueIn w s (action_assignment a args) a.pre)
    holds n = n (at_action first at True (sym so ∙ of))

    all_instances : flat_map (row_instances w e) rows ≡ instances w a args
    all_instances = ap (λ v. flat_map (row_instances w v) rows) is ∙ ap (λ rs. flat_map (row_instances w (action_assignment a args)) rs) are

    all_fired : (fs : List Fired) → HasFired w s (flat_map (row_instances w e) rows) [] fs → HasFired w s (instances w a args) [] fs
    all_fired fs h = subst (λ is. HasFired w s is [] fs) all_instances h

    stops_by : (x : Stop) → IsConditionStop w s (instances w a args) x → IsStop w s a args x
    stops_by stop.Memory h = tt
    stops_by stop.TooLarge h = inr (inl h)
    stops_by (stop.Refused why.ConditionUndefined) h = (h, (holds, tt))
    stops_by (stop.Refused why.Precondition) h = absurd h
    stops_by (stop.Refused why.ObjectUndefined) h = absurd h
    stops_by (stop.Refused why.NumberUndefined) h = absurd h
    stops_by (stop.Refused why.NumberConflict) h = absurd h
    stops_by (stop.Refused why.ObjectConflict) h = absurd h

    pub effects_fired : (r : Result (List Firing) Stop) → IfOk r (λ fs. HasFired w s (flat_map (row_instances w e) rows) [] (meant_all fs)) → IfOk r (λ fs. meant_all fs ≡ firing w s a args)
    effects_fired (Ok fs) h = (all_fired (meant_all fs) h).effects
    effects_fired (Err x) h = tt

    pub effects_none : (r : Result (List Firing) Stop) → IfOk r (λ fs. HasFired w s (flat_map (row_instances w e) rows) [] (meant_all fs)) → OnOk r (ActionHasNone w s a args (before why.ObjectUndefined))
    effects_none (Ok fs) h = (none_of _ (instances w a args) (all_fired (meant_all fs) h).conditions, (holds, tt))
    effects_none (Err x) h = tt

    pub effects_stop : (r : Result (List Firing) Stop) → IfErr r (IsConditionStop w s (flat_map (row_instances w e) rows)) → IfErr r (IsStop w s a args)
    effects_stop (Ok fs) h = tt
    effects_stop (Err x) h = stops_by x (subst (λ is. IsConditionStop w s is x) all_instances h)

-- the objects of the action's parameters, as a program finds them
pub of_params : (a : Action) (args : List Name) (vars : List Typed) (scope slice : List Binding) → vars ≡ a.params → slice ≡ scope
    → assignment_of scope ≡ assign vars args unassigned → assignment_of slice ≡ action_assignment a args
of_params a args vars scope slice at same is = ap assignment_of same ∙ is ∙ ap (λ vs. assign vs args unassigned) at
