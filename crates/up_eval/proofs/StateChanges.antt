-- The state that a step's changes leave, and what stops the step.
use Rattle.std.proofs.Common.{◌≡◌, Bool, true, false, true≢false, List, [], ◌∷◌, map, fold, Option, Some, None, IsSomeAnd, refl, ap, sym, ◌∙◌, subst, inl, inr}
use Rattle.std.specs.Prelude.{unwrap_or}
use Rattle.std.specs.FinSet as set
use Rattle.std.specs.FinMap as table
use Rattle.up_text.specs.declared.name.Name.{Name}
use Rattle.up_text.specs.Lists.{Every}
use Rattle.up_tree.specs.declared.action.Action.{Action}
use Rattle.up_tree.specs.declared.problem.Parts.{Parts}
use Rattle.up_tree.specs.declared.problem.Step.{Step}
use Rattle.up_tree.specs.Objects.{World, world, action_named}
use Rattle.up_tree.specs.State.{State, ground_cmp, number_at, object_at}
use Rattle.up_tree.specs.Instances.{Fired, firing}
use Rattle.up_tree.specs.Changes.{NumberChange, ObjectChange, number_change, object_change, added, deleted, of_firing, changes_at, objects_at, new_number, new_object, put, changed}
use Rattle.up_tree.specs.Faults as fault
use Rattle.up_tree.specs.Big.{BigAction}
use Rattle.up_eval.specs.declared.changes.ObjectChange.{ObjectChange as FoundObject}
use Rattle.up_eval.specs.declared.gathering.NewNumber.{NewNumber}
use Rattle.up_eval.specs.declared.next.Changes.{Changes}
use Rattle.up_eval.specs.declared.step_error.Why.TheVariants as why
use Rattle.up_eval.specs.declared.stop.Stop.{Stop}
use Rattle.up_eval.specs.declared.stop.Stop.TheVariants as stop
use Rattle.up_eval.specs.Effects.{object_meant, IsNumbersStop}
use Rattle.up_eval.specs.Gathering.{settled_numbers, put_numbers, put_objects, first_value, AreUnanimous, AreApart, IsGatherStop, IsObjectStop}
use Rattle.up_eval.specs.Steps.{RefusesStep, Fits, ActionHasNone, IsStop, before, all_faults, error_of}
use Rattle.up_eval.proofs.Fitting.{applies_at, applied_at}
use Rattle.up_eval.proofs.Gathered.{no_two}
use Rattle.up_eval.specs.Nexts.{state_with, HaveNoFault, IsNewNumbersStop, IsNewObjectsStop, IsEffectsStop}

fold_map : {M A B : Type 0} (f : M → B → M) (g : A → B) (m : M) (xs : List A) → fold f m (map g xs) ≡ fold (λ n x. f n (g x)) m xs
fold_map f g m [] = refl
fold_map f g m (x ∷ xs) = fold_map f g (f m (g x)) xs

first_is : (old : Option Name) (xs : List ObjectChange) (v : Option Name) → first_value xs ≡ Some v → v ≡ new_object old xs
first_is old [] v e = absurd (true≢false (sym (ap is e)))
  where
    is : Option (Option Name) → Bool
    is None = false
    is (Some y) = true
first_is old (x ∷ xs) v e = sym (ap (λ o. unwrap_or o v) e)

module _ (s : State) where
  -- changes that agree put each term's new value
  put_same : (all cs : List ObjectChange) (m : table.FinMap ground_cmp Name) → Every (λ c. first_value (objects_at c.target all) ≡ Some c.value) cs
      → fold (λ n (c : ObjectChange). put n c.target c.value) m cs ≡ fold (λ n (c : ObjectChange). put n c.target (new_object (object_at s c.target) (objects_at c.target all))) m cs
  put_same all [] m h = refl
  put_same all (c ∷ cs) m h =
      ap (λ v. fold (λ n (c : ObjectChange). put n c.target c.value) (put m c.target v) cs) (first_is (object_at s c.target) (objects_at c.target all) c.value h.0)
      ∙ put_same all cs (put m c.target (new_object (object_at s c.target) (objects_at c.target all))) h.1

  module _ (fs : List Fired) where
    numbers_put : (news : List NewNumber) → news ≡ settled_numbers s (of_firing number_change s fs)
        → put_numbers s.numbers news
        ≡ fold (λ m (c : NumberChange). put m c.target (new_number (number_at s c.target) (changes_at c.target (of_firing number_change s fs)))) s.numbers (of_firing number_change s fs)
    numbers_put news is =
        let cs = of_firing number_change s fs in
        ap (put_numbers s.numbers) is
        ∙ fold_map (λ m (n : NewNumber). put m n.target n.value) (λ (c : NumberChange). record { target = c.target; value = new_number (number_at s c.target) (changes_at c.target cs) }) s.numbers cs

    objects_put : (found : List FoundObject) → map object_meant found ≡ of_firing object_change s fs → AreUnanimous (of_firing object_change s fs)
        → put_objects s.values found
        ≡ fold (λ m (c : ObjectChange). put m c.target (new_object (object_at s c.target) (objects_at c.target (of_firing object_change s fs)))) s.values (of_firing object_change s fs)
    objects_put found is agree =
        sym (fold_map (λ m (c : ObjectChange). put m c.target c.value) object_meant s.values found)
        ∙ ap (fold (λ m (c : ObjectChange). put m c.target c.value) s.values) is ∙ put_same (of_firing object_change s fs) (of_firing object_change s fs) s.values agree

    pub changed_is : (c : Changes) → c.deleted ≡ of_firing deleted s fs → c.added ≡ of_firing added s fs → c.numbers ≡ settled_numbers s (of_firing number_change s fs)
        → map object_meant c.objects ≡ of_firing object_change s fs → AreUnanimous (of_firing object_change s fs) → state_with s c ≡ changed s fs
    unfolding changed
    changed_is c deletes adds numbers objects agree = λ i. record {
      atoms = set.union (set.difference s.atoms (set.from_list (deletes i))) (set.from_list (adds i));
      numbers = numbers_put c.numbers numbers i;
      values = objects_put c.objects objects agree i;
    }

    -- ---- what stops the effects

    pub first_numbers_stop : (e : Stop) → IsNumbersStop s fs e → IsNewNumbersStop s fs e
    first_numbers_stop stop.Memory h = tt
    first_numbers_stop stop.TooLarge h = inl h
    first_numbers_stop (stop.Refused why.NumberUndefined) h = h
    first_numbers_stop (stop.Refused why.Precondition) h = absurd h
    first_numbers_stop (stop.Refused why.ConditionUndefined) h = absurd h
    first_numbers_stop (stop.Refused why.ObjectUndefined) h = absurd h
    first_numbers_stop (stop.Refused why.NumberConflict) h = absurd h
    first_numbers_stop (stop.Refused why.ObjectConflict) h = absurd h

    pub second_numbers_stop : (cs : List NumberChange) → cs ≡ of_firing number_change s fs → ¬ fault.OfEffect fault.NumberUndefined s fs → (e : Stop) → IsGatherStop s cs e
        → IsNewNumbersStop s fs e
    second_numbers_stop cs is defined e h = by e (subst (λ xs. IsGatherStop s xs e) is h)
      where
        by : (e : Stop) → IsGatherStop s (of_firing number_change s fs) e → IsNewNumbersStop s fs e
        by stop.Memory h = tt
        by stop.TooLarge h = inr h
        by (stop.Refused why.NumberConflict) h = (h, defined)
        by (stop.Refused why.Precondition) h = absurd h
        by (stop.Refused why.ConditionUndefined) h = absurd h
        by (stop.Refused why.ObjectUndefined) h = absurd h
        by (stop.Refused why.NumberUndefined) h = absurd h
        by (stop.Refused why.ObjectConflict) h = absurd h

    pub objects_stop : (cs : List ObjectChange) → cs ≡ of_firing object_change s fs → (e : Stop) → IsObjectStop cs e → IsNewObjectsStop s fs e
    objects_stop cs is e h = by e (subst (λ xs. IsObjectStop xs e) is h)
      where
        by : (e : Stop) → IsObjectStop (of_firing object_change s fs) e → IsNewObjectsStop s fs e
        by stop.Memory h = tt
        by stop.TooLarge h = absurd h
        by (stop.Refused why.ObjectConflict) h = h
        by (stop.Refused why.Precondition) h = absurd h
        by (stop.Refused why.ConditionUndefined) h = absurd h
        by (stop.Refused why.ObjectUndefined) h = absurd h
        by (stop.Refused why.NumberUndefined) h = absurd h
        by (stop.Refused why.NumberConflict) h = absurd h

    pub no_mixed : (cs : List NumberChange) → cs ≡ of_firing number_change s fs → AreApart cs → ¬ fault.NumbersConflict s fs
    no_mixed cs is apart h = subst AreApart is apart h.0 h.1

    pub no_conflict : AreUnanimous (of_firing object_change s fs) → ¬ fault.ObjectsConflict s fs
    no_conflict agree h = no_two (of_firing object_change s fs) agree h

    module _ (objects : ¬ fault.OfEffect fault.ObjectUndefined s fs) where
      pub effects_numbers_stop : (e : Stop) → IsNewNumbersStop s fs e → IsEffectsStop s fs e
      effects_numbers_stop stop.Memory h = tt
      effects_numbers_stop stop.TooLarge h = h
      effects_numbers_stop (stop.Refused why.NumberUndefined) h = (h, objects)
      effects_numbers_stop (stop.Refused why.NumberConflict) h = (h.0, h.1, objects)
      effects_numbers_stop (stop.Refused why.Precondition) h = absurd h
      effects_numbers_stop (stop.Refused why.ConditionUndefined) h = absurd h
      effects_numbers_stop (stop.Refused why.ObjectUndefined) h = absurd h
      effects_numbers_stop (stop.Refused why.ObjectConflict) h = absurd h

      pub effects_objects_stop : ¬ fault.OfEffect fault.NumberUndefined s fs → ¬ fault.NumbersConflict s fs → (e : Stop) → IsNewObjectsStop s fs e → IsEffectsStop s fs e
      effects_objects_stop numbers apart stop.Memory h = tt
      effects_objects_stop numbers apart stop.TooLarge h = absurd h
      effects_objects_stop numbers apart (stop.Refused why.ObjectConflict) h = (h, apart, numbers, objects)
      effects_objects_stop numbers apart (stop.Refused why.NumberConflict) h = absurd h
      effects_objects_stop numbers apart (stop.Refused why.NumberUndefined) h = absurd h
      effects_objects_stop numbers apart (stop.Refused why.Precondition) h = absurd h
      effects_objects_stop numbers apart (stop.Refused why.ConditionUndefined) h = absurd h
      effects_objects_stop numbers apart (stop.Refused why.ObjectUndefined) h = absurd h

-- ---- of an action

module _ (w : World) (s : State) (a : Action) (args : List Name) (none : ActionHasNone w s a args (before why.ObjectUndefined)) (fs : List Fired) (is : fs ≡ firing w s a args) where
  pub all_none : HaveNoFault s fs → ActionHasNone w s a args all_faults
  all_none h = by (subst (HaveNoFault s) is h)
    where
      by : HaveNoFault s (firing w s a args) → ActionHasNone w s a args all_faults
      by k = (k.agree, (k.apart, (k.numbers, (k.objects, none))))

  pub action_stops : (e : Stop) → IsEffectsStop s fs e → IsStop w s a args e
  action_stops e h = by e (subst (λ xs. IsEffectsStop s xs e) is h)
    where
      by : (e : Stop) → IsEffectsStop s (firing w s a args) e → IsStop w s a args e
      by stop.Memory h = tt
      by stop.TooLarge (inl h) = inr (inr (inl h))
      by stop.TooLarge (inr h) = inr (inr (inr h))
      by (stop.Refused why.ObjectUndefined) h = (h, none)
      by (stop.Refused why.NumberUndefined) h = (h.0, (h.1, none))
      by (stop.Refused why.NumberConflict) h = (h.0, (h.1, (h.2, none)))
      by (stop.Refused why.ObjectConflict) h = (h.0, (h.1, (h.2, (h.3, none))))
      by (stop.Refused why.Precondition) h = absurd h
      by (stop.Refused why.ConditionUndefined) h = absurd h

-- ---- of a step

module _ (p : Parts) (s : State) (step : Step) (a : Action) (found : action_named p step.action ≡ Some a) where
  none_applies : (f : fault.Fault) → ¬ fault.ActionApplies (world p) s a step.args f → ¬ fault.Applies p s step f
  none_applies f n h = n (applied_at p step a found s f h)

  module _ (fits : Fits p step) where
    pub can_take : ActionHasNone (world p) s a step.args all_faults → fault.CanTake p s step
    can_take none fault.unknown h = (fits s).1.1.0 h
    can_take none fault.arity h = (fits s).1.0 h
    can_take none fault.argument_type h = (fits s).0 h
    can_take none fault.precondition h = none.1.1.1.1.1.0 (applied_at p step a found s fault.precondition h)
    can_take none fault.condition_undefined h = none.1.1.1.1.0 (applied_at p step a found s fault.condition_undefined h)
    can_take none fault.object_undefined h = none.1.1.1.0 (applied_at p step a found s fault.object_undefined h)
    can_take none fault.number_undefined h = none.1.1.0 (applied_at p step a found s fault.number_undefined h)
    can_take none fault.number_conflict h = none.1.0 (applied_at p step a found s fault.number_conflict h)
    can_take none fault.object_conflict h = none.0 (applied_at p step a found s fault.object_conflict h)

    pub step_stops : (e : Stop) → IsStop (world p) s a step.args e → RefusesStep p s step (error_of e)
    step_stops stop.Memory h = tt
    step_stops stop.TooLarge h = ((fits s).1.1.0, (fits s).1.0, (fits s).0, subst (λ o. IsSomeAnd o (λ b. BigAction (world p) s b step.args)) (sym found) h)
    step_stops (stop.Refused why.Precondition) h = record { applies = applies_at p step a found s fault.precondition h.0; first = fits s }
    step_stops (stop.Refused why.ConditionUndefined) h = record {
      applies = applies_at p step a found s fault.condition_undefined h.0;
      first = (none_applies fault.precondition h.1.0, fits s);
    }
    step_stops (stop.Refused why.ObjectUndefined) h = record {
      applies = applies_at p step a found s fault.object_undefined h.0;
      first = (none_applies fault.condition_undefined h.1.0, (none_applies fault.precondition h.1.1.0, fits s));
    }
    step_stops (stop.Refused why.NumberUndefined) h = record {
      applies = applies_at p step a found s fault.number_undefined h.0;
      first = (none_applies fault.object_undefined h.1.0, (none_applies fault.condition_undefined h.1.1.0, (none_applies fault.precondition h.1.1.1.0, fits s)));
    }
    step_stops (stop.Refused why.NumberConflict) h = record {
      applies = applies_at p step a found s fault.number_conflict h.0;
      first = (none_applies fault.number_undefined h.1.0, (none_applies fault.object_undefined h.1.1.0, (none_applies fault.condition_undefined h.1.1.1.0, (none_applies fault.precondition h.1.1.1.1.0, fits s))));
    }
    step_stops (stop.Refused why.ObjectConflict) h = record {
      applies = applies_at p step a found s fault.object_conflict h.0;
      first = (none_applies fault.number_conflict h.1.0, (none_applies fault.number_undefined h.1.1.0, (none_applies fault.object_undefined h.1.1.1.0, (none_applies fault.condition_undefined h.1.1.1.1.0, (none_applies fault.precondition h.1.1.1.1.1.0, fits s)))));
    }

  pub next_is : (t : State) → t ≡ changed s (firing (world p) s a step.args) → fault.IsNext p s step t
  next_is t h = subst (λ o. IsSomeAnd o (λ b. t ≡ changed s (firing (world p) s b step.args))) (sym found) h
