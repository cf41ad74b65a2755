-- An action by another name is taken as the action, truth that is told, and the initial state.
use Rattle.std.proofs.Common.{◌≡◌, true, List, refl, sym, ◌∙◌}
use Rattle.up_text.specs.declared.name.Name.{Name}
use Rattle.up_tree.specs.declared.action.Action.{Action}
use Rattle.up_tree.specs.declared.formula.Formula.{Formula}
use Rattle.up_tree.specs.declared.problem.Parts.{Parts}
use Rattle.up_tree.specs.declared.truth.Truth.TheVariants as truth
use Rattle.up_tree.specs.Objects.{World, Assignment}
use Rattle.up_tree.specs.State.{State, init}
use Rattle.up_tree.specs.Truth.{True}
use Rattle.up_tree.specs.Judged.{truth_of}
use Rattle.up_tree.specs.Faults.{Fault, unknown, arity, argument_type, precondition, condition_undefined, object_undefined, number_undefined, number_conflict, object_conflict, ActionApplies}
use Rattle.up_tree.specs.Simplify.{is_true_formula, is_false_formula}
use Rattle.up_tree.specs.Laws.{IsOne}
use Rattle.up_tree.proofs.Apart.{apart}
use Rattle.up_tree.proofs.Judging.{judged}
use Rattle.up_tree.proofs.Steps.{always_one}
use Rattle.condition_laws.proofs.Simplifying.{of_always, of_never}
use Rattle.step_laws.specs.Naming.{renamed}

-- ---- an action by another name

pub name_apart : (w : World) (s : State) (a : Action) (n : Name) (args : List Name) (fault : Fault) → ActionApplies w s (renamed a n) args fault → ActionApplies w s a args fault
name_apart w s a n args unknown h = h
name_apart w s a n args arity h = h
name_apart w s a n args argument_type h = h
name_apart w s a n args precondition h = h
name_apart w s a n args condition_undefined h = h
name_apart w s a n args object_undefined h = h
name_apart w s a n args number_undefined h = h
name_apart w s a n args number_conflict h = h
name_apart w s a n args object_conflict h = h

pub name_back : (w : World) (s : State) (a : Action) (n : Name) (args : List Name) (fault : Fault) → ActionApplies w s a args fault → ActionApplies w s (renamed a n) args fault
name_back w s a n args unknown h = h
name_back w s a n args arity h = h
name_back w s a n args argument_type h = h
name_back w s a n args precondition h = h
name_back w s a n args condition_undefined h = h
name_back w s a n args object_undefined h = h
name_back w s a n args number_undefined h = h
name_back w s a n args number_conflict h = h
name_back w s a n args object_conflict h = h

-- ---- truth

pub truth_told : (w : World) (s : State) (e : Assignment) (f g : Formula) → truth_of w s e f ≡ truth_of w s e g → True w s e f → True w s e g
truth_told w s e f g same h =
    let one : IsOne w s e f = always_one w s e f in
    let is : truth_of w s e f ≡ truth.True =
    one.alone (truth_of w s e f) (judged w s e f (truth_of w s e f) refl) ∙ sym (one.alone truth.True h) in
    judged w s e g truth.True (sym (sym same ∙ is))

pub never_true : (w : World) (s : State) (e : Assignment) (f : Formula) → is_false_formula f ≡ true → True w s e f → ⊥
never_true w s e f is h = apart w s e f h (judged w s e f truth.False (sym (of_never w s e f is)))

pub always_true : (w : World) (s : State) (e : Assignment) (f : Formula) → is_true_formula f ≡ true → True w s e f
always_true w s e f is = judged w s e f truth.True (sym (of_always w s e f is))

-- ---- the initial state of a problem with other actions

pub same_init : (p : Parts) (actions : List Action) (goal : Formula) → init p ≡ init (record p { actions = actions; goal = goal })
unfolding init
same_init p actions goal = refl
