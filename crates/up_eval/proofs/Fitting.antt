-- What the tests of a step's arguments tell.
use Rattle.std.proofs.Common.{◌≡◌, ◌⊎◌, Bool, true, false, true≢false, cond, ◌&&◌, ◌||◌, List, [], ◌∷◌, map, filter, length, Option, Some, None, refl, ap, sym, ◌∙◌, subst, inl, inr}
use Rattle.std.specs.Prelude.{◌≢◌, zip, is_some}
use Rattle.std.specs.Cmp.Lexicographic.{bytes_decides}
use Rattle.up_text.specs.declared.name.Name.{Name}
use Rattle.up_text.specs.Names.{same_name}
use Rattle.up_text.specs.Lists.{Somewhere, Member}
use Rattle.up_tree.specs.declared.term.Typed.{Typed}
use Rattle.up_tree.specs.declared.action.Action.{Action}
use Rattle.up_tree.specs.declared.problem.Parts.{Parts}
use Rattle.up_tree.specs.declared.problem.Step.{Step}
use Rattle.up_tree.specs.Objects.{World, world, named, is_below, objects_of, action_named}
use Rattle.up_tree.specs.State.{State}
use Rattle.up_tree.specs.Faults.{Fault, unknown, arity, argument_type, Applies, ActionApplies}
use Rattle.up_tree.proofs.Steps.{ByAction}
use Rattle.up_eval.specs.Scope.{names_below}
use Rattle.up_eval.specs.Arguments.{are_known, is_object_of, are_typed}
use Rattle.up_eval.specs.declared.step_error.StepError.TheVariants as refused
use Rattle.up_eval.specs.Steps.{Fits, IsIllTyped}

module _ (w : World) (t o : Name) where
  pub found : (es : List Typed) → is_object_of w t es o ≡ true → Member o (names_below w t es)
  found [] e = absurd (true≢false (sym e))
  found (x ∷ es) e = by (same_name x.name o) refl (is_below w x.of t) (found es) e
    where
      by : (a : Bool) → same_name x.name o ≡ a → (b : Bool) → (is_object_of w t es o ≡ true → Member o (names_below w t es))
          → ((a && b) || is_object_of w t es o) ≡ true → Member o (map (λ (y : Typed). y.name) (cond b (x ∷ filter (λ (y : Typed). is_below w y.of t) es) (filter (λ (y : Typed). is_below w y.of t) es)))
      by true is true h e = inl (sym ((bytes_decides x.name o).0 is))
      by true is false h e = h e
      by false is true h e = inr (h e)
      by false is false h e = h e

  missed : (es : List Typed) → Member o (names_below w t es) → is_object_of w t es o ≡ true
  missed [] m = absurd m
  missed (x ∷ es) m = by (same_name x.name o) refl (is_below w x.of t) (missed es) m
    where
      by : (a : Bool) → same_name x.name o ≡ a → (b : Bool) → (Member o (names_below w t es) → is_object_of w t es o ≡ true)
          → Member o (map (λ (y : Typed). y.name) (cond b (x ∷ filter (λ (y : Typed). is_below w y.of t) es) (filter (λ (y : Typed). is_below w y.of t) es)))
          → ((a && b) || is_object_of w t es o) ≡ true
      by true is true h m = refl
      by true is false h m = h m
      by false is true h (inl e) = absurd (true≢false (sym ((bytes_decides x.name o).1 (sym e)) ∙ is))
      by false is true h (inr m) = h m
      by false is false h m = h m

module _ (w : World) where
  known_all : (args : List Name) → are_known w args ≡ true → ¬ Somewhere (λ o. named w.objects o ≡ None) args
  known_all [] e h = h
  known_all (a ∷ args) e h = by (named w.objects a) refl (known_all args) e h
    where
      by : (v : Option Typed) → named w.objects a ≡ v → (are_known w args ≡ true → ¬ Somewhere (λ o. named w.objects o ≡ None) args)
          → (is_some v && are_known w args) ≡ true → (named w.objects a ≡ None) ⊎ Somewhere (λ o. named w.objects o ≡ None) args → ⊥
      by None is rest e h = true≢false (sym e)
      by (Some x) is rest e (inl none) = true≢false (ap is_some (sym is ∙ none))
      by (Some x) is rest e (inr h) = rest e h

  unknown_one : (args : List Name) → are_known w args ≡ false → Somewhere (λ o. named w.objects o ≡ None) args
  unknown_one [] e = absurd (true≢false e)
  unknown_one (a ∷ args) e = by (named w.objects a) refl (unknown_one args) e
    where
      by : (v : Option Typed) → named w.objects a ≡ v → (are_known w args ≡ false → Somewhere (λ o. named w.objects o ≡ None) args)
          → (is_some v && are_known w args) ≡ false → (named w.objects a ≡ None) ⊎ Somewhere (λ o. named w.objects o ≡ None) args
      by None is rest e = inl is
      by (Some x) is rest e = inr (rest e)

  typed_all : (args : List Name) (params : List Typed) → are_typed w args params ≡ true → ¬ Somewhere (λ pair. ¬ Member pair.0 (objects_of w pair.1.of)) (zip args params)
  typed_all [] params e h = h
  typed_all (a ∷ args) [] e h = h
  typed_all (a ∷ args) (v ∷ params) e h = by (is_object_of w v.of w.objects a) refl (typed_all args params) e h
    where
      by : (b : Bool) → is_object_of w v.of w.objects a ≡ b → (are_typed w args params ≡ true → ¬ Somewhere (λ pair. ¬ Member pair.0 (objects_of w pair.1.of)) (zip args params))
          → (b && are_typed w args params) ≡ true
          → (¬ Member a (objects_of w v.of)) ⊎ Somewhere (λ pair. ¬ Member pair.0 (objects_of w pair.1.of)) (zip args params) → ⊥
      by true is rest e (inl n) = n (found w v.of a w.objects is)
      by true is rest e (inr h) = rest e h
      by false is rest e h = true≢false (sym e)

  pub untyped_one : (args : List Name) (params : List Typed) → are_typed w args params ≡ false → Somewhere (λ pair. ¬ Member pair.0 (objects_of w pair.1.of)) (zip args params)
  untyped_one [] params e = absurd (true≢false e)
  untyped_one (a ∷ args) [] e = absurd (true≢false e)
  untyped_one (a ∷ args) (v ∷ params) e = by (is_object_of w v.of w.objects a) refl (untyped_one args params) e
    where
      by : (b : Bool) → is_object_of w v.of w.objects a ≡ b → (are_typed w args params ≡ false → Somewhere (λ pair. ¬ Member pair.0 (objects_of w pair.1.of)) (zip args params))
          → (b && are_typed w args params) ≡ false
          → (¬ Member a (objects_of w v.of)) ⊎ Somewhere (λ pair. ¬ Member pair.0 (objects_of w pair.1.of)) (zip args params)
      by true is rest e = inr (rest e)
      by false is rest e = inl (λ m. true≢false (sym (missed w v.of a w.objects m) ∙ is))

-- ---- the first fault of a step, among those of its names and arguments

module _ (p : Parts) (step : Step) where
  pub unknown_action : action_named p step.action ≡ None → IsIllTyped p step refused.Unknown
  unknown_action is s = record { applies = subst (λ found. ByAction p s step.args found unknown) (sym is) tt; first = tt }

  module _ (a : Action) (found : action_named p step.action ≡ Some a) where
    pub applies_at : (s : State) (fault : Fault) → ActionApplies (world p) s a step.args fault → Applies p s step fault
    applies_at s fault h = subst (λ o. ByAction p s step.args o fault) (sym found) h

    pub applied_at : (s : State) (fault : Fault) → Applies p s step fault → ActionApplies (world p) s a step.args fault
    applied_at s fault h = subst (λ o. ByAction p s step.args o fault) found h

    pub unknown_object : are_known (world p) step.args ≡ false → IsIllTyped p step refused.Unknown
    unknown_object is s = record { applies = applies_at s unknown (unknown_one (world p) step.args is); first = tt }

    not_unknown : are_known (world p) step.args ≡ true → (s : State) → ¬ Applies p s step unknown
    not_unknown is s h = known_all (world p) step.args is (applied_at s unknown h)

    pub wrong_arity : are_known (world p) step.args ≡ true → length step.args ≢ length a.params → IsIllTyped p step refused.Arity
    wrong_arity known differs s = record { applies = applies_at s arity differs; first = (not_unknown known s, tt) }

    not_arity : length step.args ≡ length a.params → (s : State) → ¬ Applies p s step arity
    not_arity same s h = applied_at s arity h same

    pub wrong_type : are_known (world p) step.args ≡ true → length step.args ≡ length a.params → are_typed (world p) step.args a.params ≡ false
        → IsIllTyped p step refused.ArgumentType
    wrong_type known same is s = record {
      applies = applies_at s argument_type (untyped_one (world p) step.args a.params is);
      first = (not_arity same s, (not_unknown known s, tt));
    }

    pub all_fit : are_known (world p) step.args ≡ true → length step.args ≡ length a.params → are_typed (world p) step.args a.params ≡ true → Fits p step
    all_fit known same is s = ((λ h. typed_all (world p) step.args a.params is (applied_at s argument_type h)), (not_arity same s, (not_unknown known s, tt)))

pub ruleset fitting = (unknown_action, unknown_object)
