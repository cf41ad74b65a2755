-- Faults and next states come from what the instances of an action's rows come to.
use Rattle.std.proofs.Common.{◌≡◌, ◌⊎◌, ◌↔◌, ◌≤◌, Bool, true, false, List, [], ◌∷◌, map, fold, length, Option, Some, None, option_map, IsSomeAnd, refl, ap, sym, ◌∙◌, subst, inl, inr, ⊎_elim}
use Rattle.std.specs.Prelude.{if◌then◌else◌}
use Rattle.std.specs.List.{filter_map, cons_option}
use Rattle.std.specs.FinSet as set
use Rattle.up_frac.specs.Arithmetic.{IsZero}
use Rattle.up_text.specs.declared.name.Name.{Name}
use Rattle.up_text.specs.Lists.{Somewhere}
use Rattle.up_tree.specs.declared.action.Action.{Action}
use Rattle.up_tree.specs.declared.action.Effect.{Effect}
use Rattle.up_tree.specs.declared.action.Effect.TheVariants.{Add, Delete, Number, Object, Undefine}
use Rattle.up_tree.specs.declared.truth.Truth.TheVariants as truth
use Rattle.up_tree.specs.Objects.{World, Assignment}
use Rattle.up_tree.specs.State.{State, Ground, ground, number_at, object_at}
use Rattle.up_tree.specs.Truth.{IsUndefined}
use Rattle.up_tree.specs.Judged.{truth_of, is_true}
use Rattle.up_tree.specs.Instances.{Instance, Fired, action_assignment, instances, fired, firing}
use Rattle.up_tree.specs.Changes.{NumberChange, ObjectChange, added, deleted, number_change, object_change, of_firing, changes_at, objects_at, new_number, new_object, put, changed}
use Rattle.up_tree.specs.Faults.{Fault, unknown, arity, argument_type, precondition, condition_undefined, object_undefined, number_undefined, number_conflict, object_conflict, ObjectUndefined, NeedsOld, IsScaleDown, IsShift, NumberUndefined, OfEffect, ActionApplies}
use Rattle.semantics_laws.proofs.Stepping.{number_change_of, object_change_of, undefining}
use Rattle.expansion_laws.specs.Outcomes.{Deed, adds, deletes, undefines, counts, assigns, deed, Outcome, outcome, deeds}
use Rattle.expansion_laws.specs.SameDoing.{SameDoing, SameOutcomes}
use Rattle.expansion_laws.proofs.Truths.{undefined-is, true_together}

pub by_path : {A B : Type 0} → A ≡ B → A ↔ B
by_path e = (λ a. subst (λ X. X) e a, λ b. subst (λ X. X) (sym e) b)

pub after : {A B C : Type 0} → A ↔ B → B ↔ C → A ↔ C
after f g = (λ a. g.0 (f.0 a), λ c. f.1 (g.1 c))

pub turned : {A B : Type 0} → A ↔ B → B ↔ A
turned f = (f.1, f.0)

pub denied : {A B : Type 0} → A ↔ B → (¬ A) ↔ (¬ B)
denied f = (λ n b. n (f.1 b), λ n a. n (f.0 a))

-- ---- the changes that a deed makes

abbrev pub added_by : Deed → Option Ground
added_by (adds name v) = option_map (ground name) v
added_by d = None

abbrev pub deleted_by : Deed → Option Ground
deleted_by (deletes name v) = option_map (ground name) v
deleted_by d = None

abbrev pub number_change_by : Deed → Option NumberChange
number_change_by (counts change f v x) = number_change_of change (option_map (ground f) v) x
number_change_by d = None

abbrev pub object_change_by : Deed → Option ObjectChange
object_change_by (assigns f v o) = object_change_of (option_map (ground f) v) o
object_change_by (undefines f v) = undefining (option_map (ground f) v)
object_change_by d = None

abbrev pub ObjectUndefinedBy : Deed → Type 0
ObjectUndefinedBy (adds name v) = v ≡ None
ObjectUndefinedBy (deletes name v) = v ≡ None
ObjectUndefinedBy (counts change f v x) = v ≡ None
ObjectUndefinedBy (assigns f v o) = (v ≡ None) ⊎ (o ≡ None)
ObjectUndefinedBy (undefines f v) = v ≡ None

abbrev pub NumberUndefinedBy : State → Deed → Type 0
NumberUndefinedBy s (counts change f v x) =
    (x ≡ None) ⊎ (NeedsOld change × IsSomeAnd (option_map (ground f) v) (λ t. number_at s t ≡ None)) ⊎ (IsScaleDown change × IsSomeAnd x IsZero)
NumberUndefinedBy s d = ⊥

module _ (s : State) (e : Assignment) where
  pub added-is : (f : Effect) → added s e f ≡ added_by (deed s e f)
  added-is (Add name ts) = refl
  added-is (Delete name ts) = refl
  added-is (Number change g ts x) = refl
  added-is (Object g ts t) = refl
  added-is (Undefine g ts) = refl

  pub deleted-is : (f : Effect) → deleted s e f ≡ deleted_by (deed s e f)
  deleted-is (Add name ts) = refl
  deleted-is (Delete name ts) = refl
  deleted-is (Number change g ts x) = refl
  deleted-is (Object g ts t) = refl
  deleted-is (Undefine g ts) = refl

  pub number_change-is : (f : Effect) → number_change s e f ≡ number_change_by (deed s e f)
  number_change-is (Add name ts) = refl
  number_change-is (Delete name ts) = refl
  number_change-is (Number change g ts x) = refl
  number_change-is (Object g ts t) = refl
  number_change-is (Undefine g ts) = refl

  pub object_change-is : (f : Effect) → object_change s e f ≡ object_change_by (deed s e f)
  object_change-is (Add name ts) = refl
  object_change-is (Delete name ts) = refl
  object_change-is (Number change g ts x) = refl
  object_change-is (Object g ts t) = refl
  object_change-is (Undefine g ts) = refl

  pub object_undefined-is : (f : Effect) → ObjectUndefined s e f ≡ ObjectUndefinedBy (deed s e f)
  object_undefined-is (Add name ts) = refl
  object_undefined-is (Delete name ts) = refl
  object_undefined-is (Number change g ts x) = refl
  object_undefined-is (Object g ts t) = refl
  object_undefined-is (Undefine g ts) = refl

  pub number_undefined-is : (f : Effect) → NumberUndefined s e f ≡ NumberUndefinedBy s (deed s e f)
  number_undefined-is (Add name ts) = refl
  number_undefined-is (Delete name ts) = refl
  number_undefined-is (Number change g ts x) = refl
  number_undefined-is (Object g ts t) = refl
  number_undefined-is (Undefine g ts) = refl

-- ---- lists of what fires

abbrev pub done : State → Fired → Deed
done s f = deed s f.assignment f.effect

abbrev changed_by : State → List Ground → List Ground → List NumberChange → List ObjectChange → State
changed_by s gone come numbers objects = record {
  atoms = set.union (set.difference s.atoms (set.from_list gone)) (set.from_list come);
  numbers = fold (λ m (c : NumberChange). put m c.target (new_number (number_at s c.target) (changes_at c.target numbers))) s.numbers numbers;
  values = fold (λ m (c : ObjectChange). put m c.target (new_object (object_at s c.target) (objects_at c.target objects))) s.values objects;
}

module _ (s : State) where
  pub of-is : {A : Type 0} (what : State → Assignment → Effect → Option A) (by : Deed → Option A) →
      ((e : Assignment) (f : Effect) → what s e f ≡ by (deed s e f)) → (fs : List Fired) → of_firing what s fs ≡ filter_map by (map (done s) fs)
  of-is what by each [] = refl
  of-is what by each (f ∷ fs) = λ i. cons_option (each f.assignment f.effect i) (of-is what by each fs i)

  pub effects-are : (What : State → Assignment → Effect → Type 0) (By : Deed → Type 0) →
      ((e : Assignment) (f : Effect) → What s e f ≡ By (deed s e f)) → (fs : List Fired) → OfEffect What s fs ≡ Somewhere By (map (done s) fs)
  effects-are What By each [] = refl
  effects-are What By each (f ∷ fs) = λ i. each f.assignment f.effect i ⊎ effects-are What By each fs i

  module _ (fs gs : List Fired) (same : map (done s) fs ≡ map (done s) gs) where
    same_of : {A : Type 0} (what : State → Assignment → Effect → Option A) (by : Deed → Option A) →
        ((e : Assignment) (f : Effect) → what s e f ≡ by (deed s e f)) → of_firing what s fs ≡ of_firing what s gs
    same_of what by each = of-is what by each fs ∙ ap (filter_map by) same ∙ sym (of-is what by each gs)

    pub same_effects : (What : State → Assignment → Effect → Type 0) (By : Deed → Type 0) →
        ((e : Assignment) (f : Effect) → What s e f ≡ By (deed s e f)) → OfEffect What s fs ↔ OfEffect What s gs
    same_effects What By each = by_path (effects-are What By each fs ∙ ap (Somewhere By) same ∙ sym (effects-are What By each gs))

    pub same_numbers : of_firing number_change s fs ≡ of_firing number_change s gs
    same_numbers = same_of number_change number_change_by (number_change-is s)

    pub same_objects : of_firing object_change s fs ≡ of_firing object_change s gs
    same_objects = same_of object_change object_change_by (object_change-is s)

    pub same_changed : changed s fs ≡ changed s gs
    unfolding changed
    same_changed = λ i. changed_by s (same_of deleted deleted_by (deleted-is s) i) (same_of added added_by (added-is s) i) (same_numbers i) (same_objects i)

-- ---- from the outcomes of the instances

-- the deed of an instance that fires
abbrev pub kept : Outcome → Option Deed
kept o = if is_true o.truth then Some o.deed else None

module _ (w : World) (s : State) where
  one_deed : (i : Instance) (b : Bool) (fs : List Fired) →
      map (done s) (cons_option (if b then Some (let f : Fired = record { assignment = i.assignment; effect = i.row.effect } in f) else None) fs)
      ≡ cons_option (if b then Some (deed s i.assignment i.row.effect) else None) (map (done s) fs)
  one_deed i true fs = refl
  one_deed i false fs = refl

  pub deeds-are : (is : List Instance) → map (done s) (filter_map (fired w s) is) ≡ filter_map kept (map (outcome w s) is)
  deeds-are [] = refl
  deeds-are (i ∷ is) =
      one_deed i (is_true (truth_of w s i.assignment i.row.when)) (filter_map (fired w s) is)
      ∙ ap (cons_option (kept (outcome w s i))) (deeds-are is)

  pub undefined-are : (is : List Instance) →
      Somewhere (λ i. IsUndefined w s i.assignment i.row.when) is ↔ Somewhere (λ o. o.truth ≡ truth.Undefined) (map (outcome w s) is)
  undefined-are [] = (λ h. h, λ h. h)
  undefined-are (i ∷ is) =
      let one : IsUndefined w s i.assignment i.row.when ↔ (truth_of w s i.assignment i.row.when ≡ truth.Undefined) = undefined-is w s i.assignment i.row.when in
      let more : Somewhere (λ i. IsUndefined w s i.assignment i.row.when) is ↔ Somewhere (λ o. o.truth ≡ truth.Undefined) (map (outcome w s) is) = undefined-are is in
      (⊎_elim (λ h. inl (one.0 h)) (λ h. inr (more.0 h)), ⊎_elim (λ h. inl (one.1 h)) (λ h. inr (more.1 h)))

module _ (w : World) (a : Action) (args : List Name) (v : World) (b : Action) (b_args : List Name) (same : SameOutcomes w a args v b b_args) where
  same_deeds : (s : State) → deeds w s a args ≡ deeds v s b b_args
  same_deeds s = deeds-are w s (instances w a args) ∙ ap (filter_map kept) (same.rows s) ∙ sym (deeds-are v s (instances v b b_args))

  same_faults : (s : State) (fault : Fault) → ActionApplies w s a args fault ↔ ActionApplies v s b b_args fault
  same_faults s unknown = same.unknown_both s
  same_faults s arity = same.arity_both s
  same_faults s argument_type = same.type_both s
  same_faults s precondition = denied (true_together w (action_assignment a args) a.pre v (action_assignment b b_args) b.pre s (same.pre s))
  same_faults s condition_undefined =
      after (undefined-are w s (instances w a args))
      (after (by_path (ap (Somewhere (λ (o : Outcome). o.truth ≡ truth.Undefined)) (same.rows s))) (turned (undefined-are v s (instances v b b_args))))
  same_faults s object_undefined = same_effects s (firing w s a args) (firing v s b b_args) (same_deeds s) ObjectUndefined ObjectUndefinedBy (object_undefined-is s)
  same_faults s number_undefined = same_effects s (firing w s a args) (firing v s b b_args) (same_deeds s) NumberUndefined (NumberUndefinedBy s) (number_undefined-is s)
  same_faults s number_conflict =
      by_path (λ i. (q : Ground) × let changes = changes_at q (same_numbers s (firing w s a args) (firing v s b b_args) (same_deeds s) i) in
      (2 ≤ length changes) × Somewhere (λ c. ¬ IsShift c.change) changes)
  same_faults s object_conflict =
      by_path (λ i. (q : Ground) × let changes = objects_at q (same_objects s (firing w s a args) (firing v s b b_args) (same_deeds s) i) in
      Somewhere (λ c. Somewhere (λ d. ¬ (c.value ≡ d.value)) changes) changes)

  all_same : SameDoing w a args v b b_args
  all_same = record {
    outcomes = same.rows;
    deeds = same_deeds;
    faults = same_faults;
    next = λ s. same_changed s (firing w s a args) (firing v s b b_args) (same_deeds s);
  }

pub same_doing : (w : World) (a : Action) (args : List Name) (v : World) (b : Action) (b_args : List Name) →
    SameOutcomes w a args v b b_args → SameDoing w a args v b b_args
same_doing w a args v b b_args same = all_same w a args v b b_args same
