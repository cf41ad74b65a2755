-- A guarded action can be taken with typed arguments alone, and then does what the action does.
use Rattle.std.proofs.Common.{◌≡◌, ◌↔◌, Bool, true, false, cond, ◌||◌, List, [], ◌∷◌, ◌++◌, map, filter, Option, Some, None, refl, ap, sym, ◌∙◌, subst, inl, inr, ⊎_elim}
use Rattle.std.specs.Prelude.{if◌then◌else◌}
use Rattle.std.specs.List.{flat_map, filter_map, cons_option, list_any}
use Rattle.std.proofs.lemmas.List.Elements.{filter_map-append}
use Rattle.std.proofs.lemmas.List.Folds.{list_any-append}
use Rattle.up_text.specs.declared.name.Name.{Name}
use Rattle.up_text.specs.Lists.{Every, Somewhere, Member}
use Rattle.up_tree.specs.declared.action.Action.{Action}
use Rattle.up_tree.specs.declared.action.Row.{Row}
use Rattle.up_tree.specs.declared.formula.Formula.{Formula}
use Rattle.up_tree.specs.declared.term.Typed.{Typed}
use Rattle.up_tree.specs.declared.truth.Truth.{Truth}
use Rattle.up_tree.specs.declared.truth.Truth.TheVariants as truth
use Rattle.up_tree.specs.declared.problem.Parts.{Parts}
use Rattle.up_tree.specs.Objects.{World, Assignment, assign, unassigned, tuples}
use Rattle.up_tree.specs.State.{State}
use Rattle.up_tree.specs.Truth.{True, IsUndefined}
use Rattle.up_tree.specs.Judged.{both, of_test, truth_of, is_true}
use Rattle.up_tree.specs.Instances.{Instance, Fired, action_assignment, row_instances, instances, fired, firing}
use Rattle.up_tree.specs.Faults.{Fault, unknown, arity, argument_type, precondition, condition_undefined, object_undefined, number_undefined, number_conflict, object_conflict, ObjectUndefined, NumberUndefined, OfEffect, NumbersConflict, ObjectsConflict, ActionApplies}
use Rattle.up_tree.specs.WellFormed.{IsWellFormed, IsRow, IsAction}
use Rattle.semantics_laws.proofs.Lists.{each_member, same_filter_map}
use Rattle.semantics_laws.proofs.Same.{computed}
use Rattle.step_laws.specs.SplitLaw.{CanTakeBy}
use Rattle.compiling_laws.proofs.Lists.{member_filter, of_filter}
use Rattle.expansion_laws.specs.Tuples.{fits}
use Rattle.expansion_laws.proofs.Truths.{undefined-is, true_together}
use Rattle.expansion_laws.proofs.Typed.{arguments_typed}
use Rattle.expansion_laws.proofs.Doing.{by_path, after, turned, denied}
use Rattle.types_laws.specs.Guards.{guards, guard_atoms, of_top, and_guarded, guarded_condition, guarded}
use Rattle.types_laws.specs.Types.{guarded_row, guarded_action}
use Rattle.types_laws.proofs.Lists.{filter_map_of_map, any_of_map, same_any}
use Rattle.types_laws.proofs.Fitting.{assign_top, w, v, among_all}
use Rattle.types_laws.proofs.Guarding.{and_guarded_truth, guarded_condition_truth, Guarding, at_tuple, guarded_truth}

-- ---- what is made of tuples that pass a test

-- what is made where the truth is true
abbrev made_if : {X Y : Type 0} → (X → Y) → Truth → X → Option Y
made_if make t x = if is_true t then Some (make x) else None

made_filtered : {X Y : Type 0} (make : X → Y) (test : X → Bool) (value : X → Truth) (xs : List X) →
    filter_map (λ x. made_if make (both (of_test (test x)) (value x)) x) xs ≡ filter_map (λ x. made_if make (value x) x) (filter test xs)
made_filtered make test value [] = refl
made_filtered make test value (x ∷ xs) = by (test x) (made_filtered make test value xs)
  where
    by : (b : Bool) → filter_map (λ x. made_if make (both (of_test (test x)) (value x)) x) xs ≡ filter_map (λ x. made_if make (value x) x) (filter test xs) →
        cons_option (made_if make (both (of_test b) (value x)) x) (filter_map (λ x. made_if make (both (of_test (test x)) (value x)) x) xs)
        ≡ filter_map (λ x. made_if make (value x) x) (cond b (x ∷ filter test xs) (filter test xs))
    by true more = ap (cons_option (made_if make (value x) x)) more
    by false more = more

abbrev is_undefined : Truth → Bool
is_undefined truth.True = false
is_undefined truth.False = false
is_undefined truth.Undefined = true

undefined_filtered : {X : Type 0} (test : X → Bool) (value : X → Truth) (xs : List X) →
    list_any (λ x. is_undefined (both (of_test (test x)) (value x))) xs ≡ list_any (λ x. is_undefined (value x)) (filter test xs)
undefined_filtered test value [] = refl
undefined_filtered test value (x ∷ xs) = by (test x) (undefined_filtered test value xs)
  where
    by : (b : Bool) → list_any (λ x. is_undefined (both (of_test (test x)) (value x))) xs ≡ list_any (λ x. is_undefined (value x)) (filter test xs) →
        (is_undefined (both (of_test b) (value x)) || list_any (λ x. is_undefined (both (of_test (test x)) (value x))) xs)
        ≡ list_any (λ x. is_undefined (value x)) (cond b (x ∷ filter test xs) (filter test xs))
    by true more = ap (λ b. is_undefined (value x) || b) more
    by false more = more

told_undefined : (t : Truth) → (t ≡ truth.Undefined) ↔ (is_undefined t ≡ true)
told_undefined truth.True = (λ e. ap is_undefined e, λ e. cc)
told_undefined truth.False = (λ e. ap is_undefined e, λ e. cc)
told_undefined truth.Undefined = (λ e. refl, λ e. refl)

abbrev undefined_at : World → State → Instance → Bool
undefined_at u t i = is_undefined (truth_of u t i.assignment i.row.when)

some_undefined : (u : World) (t : State) (is : List Instance) → Somewhere (λ i. IsUndefined u t i.assignment i.row.when) is ↔ (list_any (undefined_at u t) is ≡ true)
some_undefined u t [] = (λ h. absurd h, λ e. cc)
some_undefined u t (i ∷ is) = by (some_undefined u t is) (after (undefined-is u t i.assignment i.row.when) (told_undefined (truth_of u t i.assignment i.row.when)))
  where
    first : (b c : Bool) → b ≡ true → (b || c) ≡ true
    first b c e = ap (λ x. x || c) e

    second : (b c : Bool) → c ≡ true → (b || c) ≡ true
    second true c e = refl
    second false c e = e

    either : {A : Type 0} (b c : Bool) → (b ≡ true → A) → (c ≡ true → A) → (b || c) ≡ true → A
    either true c f g e = f refl
    either false c f g e = g e

    by : Somewhere (λ i. IsUndefined u t i.assignment i.row.when) is ↔ (list_any (undefined_at u t) is ≡ true) → IsUndefined u t i.assignment i.row.when ↔ (undefined_at u t i ≡ true) →
        Somewhere (λ i. IsUndefined u t i.assignment i.row.when) (i ∷ is) ↔ ((undefined_at u t i || list_any (undefined_at u t) is) ≡ true)
    by more here = (
      ⊎_elim (λ h. first (undefined_at u t i) (list_any (undefined_at u t) is) (here.0 h)) (λ h. second (undefined_at u t i) (list_any (undefined_at u t) is) (more.0 h)),
      either (undefined_at u t i) (list_any (undefined_at u t) is) (λ e. inl (here.1 e)) (λ e. inr (more.1 e)),
    )

-- ---- rows

module _ (p : Parts) (well : IsWellFormed p) (t : State) (guarding : Guarding p t) (objects scope : List Typed) (e : Assignment) where
  module _ (r : Row) (is : IsRow p objects scope r) where
    abbrev make : List Name → Fired
    make tuple = record { assignment = assign r.vars tuple e; effect = r.effect }

    abbrev value : List Name → Truth
    value tuple = truth_of (w p) t (assign r.vars tuple e) r.when

    abbrev wide : List (List Name)
    wide = tuples (v p) (map of_top r.vars)

    abbrev narrow_at : List Name → Instance
    narrow_at tuple = record { assignment = assign r.vars tuple e; row = r }

    abbrev wide_at : List Name → Instance
    wide_at tuple = record { assignment = assign (map of_top r.vars) tuple e; row = guarded_row (guards p) r }

    row_truth : (tuple : List Name) → Member tuple wide → truth_of (v p) t (assign (map of_top r.vars) tuple e) (guarded_condition (guard_atoms (guards p) r.vars) (guarded (guards p) r.when))
        ≡ both (of_test (fits (w p) r.vars tuple)) (value tuple)
    row_truth tuple m =
        at_tuple p well t guarding r.vars is.vars.differ is.vars.typed e r.when (guarded (guards p) r.when)
        (λ d. guarded_truth p well t guarding objects (r.vars ++ scope) d r.when is.when) both guarded_condition
        (λ d atoms. guarded_condition_truth (v p) t d atoms (guarded (guards p) r.when)) tuple m

    row_fires : filter_map (fired (v p) t) (row_instances (v p) e (guarded_row (guards p) r)) ≡ filter_map (fired (w p) t) (row_instances (w p) e r)
    row_fires =
        filter_map_of_map (fired (v p) t) wide_at wide
        ∙ same_filter_map (λ tuple. fired (v p) t (wide_at tuple)) (λ tuple. made_if make (both (of_test (fits (w p) r.vars tuple)) (value tuple)) tuple) wide
        (each_member _ wide (λ tuple m i. if is_true (row_truth tuple m i) then Some (let f : Fired = record { assignment = assign_top r.vars tuple e i; effect = r.effect } in f) else None))
        ∙ made_filtered make (fits (w p) r.vars) value wide
        ∙ ap (filter_map (λ tuple. made_if make (value tuple) tuple)) (sym (among_all p well.objects.differ r.vars))
        ∙ sym (filter_map_of_map (fired (w p) t) narrow_at (tuples (w p) r.vars))

    row_undefined : list_any (undefined_at (v p) t) (row_instances (v p) e (guarded_row (guards p) r)) ≡ list_any (undefined_at (w p) t) (row_instances (w p) e r)
    row_undefined =
        any_of_map (undefined_at (v p) t) wide_at wide
        ∙ same_any (λ tuple. undefined_at (v p) t (wide_at tuple)) (λ tuple. is_undefined (both (of_test (fits (w p) r.vars tuple)) (value tuple))) wide
        (each_member _ wide (λ tuple m. ap is_undefined (row_truth tuple m)))
        ∙ undefined_filtered (fits (w p) r.vars) value wide
        ∙ ap (list_any (λ tuple. is_undefined (value tuple))) (sym (among_all p well.objects.differ r.vars))
        ∙ sym (any_of_map (undefined_at (w p) t) narrow_at (tuples (w p) r.vars))

  rows_fire : (rows : List Row) → Every (IsRow p objects scope) rows →
      filter_map (fired (v p) t) (flat_map (row_instances (v p) e) (map (guarded_row (guards p)) rows)) ≡ filter_map (fired (w p) t) (flat_map (row_instances (w p) e) rows)
  rows_fire [] each = refl
  rows_fire (r ∷ rows) each =
      filter_map-append (fired (v p) t) (row_instances (v p) e (guarded_row (guards p) r)) (flat_map (row_instances (v p) e) (map (guarded_row (guards p)) rows))
      ∙ (λ i. row_fires r each.0 i ++ rows_fire rows each.1 i)
      ∙ sym (filter_map-append (fired (w p) t) (row_instances (w p) e r) (flat_map (row_instances (w p) e) rows))

  rows_undefined : (rows : List Row) → Every (IsRow p objects scope) rows →
      list_any (undefined_at (v p) t) (flat_map (row_instances (v p) e) (map (guarded_row (guards p)) rows)) ≡ list_any (undefined_at (w p) t) (flat_map (row_instances (w p) e) rows)
  rows_undefined [] each = refl
  rows_undefined (r ∷ rows) each =
      list_any-append (undefined_at (v p) t) (row_instances (v p) e (guarded_row (guards p) r)) (flat_map (row_instances (v p) e) (map (guarded_row (guards p)) rows))
      ∙ (λ i. row_undefined r each.0 i || rows_undefined rows each.1 i)
      ∙ sym (list_any-append (undefined_at (w p) t) (row_instances (w p) e r) (flat_map (row_instances (w p) e) rows))

-- ---- actions

not_false : (u : World) (t : State) (e : Assignment) (f : Formula) → ¬ (¬ True u t e f) → truth_of u t e f ≡ truth.True
not_false u t e f nn = by (truth_of u t e f) refl
  where
    by : (x : Truth) → truth_of u t e f ≡ x → x ≡ truth.True
    by truth.True is = refl
    by truth.False is = absurd (nn (λ h. let k : truth.True ≡ truth.False = computed u t e f truth.True h ∙ is in cc))
    by truth.Undefined is = absurd (nn (λ h. let k : truth.True ≡ truth.Undefined = computed u t e f truth.True h ∙ is in cc))

true_test : (b : Bool) (x : Truth) → both (of_test b) x ≡ truth.True → b ≡ true
true_test true x e = refl
true_test false x e = cc

module _ (p : Parts) (well : IsWellFormed p) (t : State) (guarding : Guarding p t) (a : Action) (is : IsAction p a) (args : List Name) where
  abbrev b : Action
  b = guarded_action (guards p) a

  pub same_assigned : action_assignment b args ≡ action_assignment a args
  same_assigned = assign_top a.params args unassigned

  pub same_firing : firing (v p) t b args ≡ firing (w p) t a args
  same_firing =
      ap (λ e. filter_map (fired (v p) t) (flat_map (row_instances (v p) e) (map (guarded_row (guards p)) a.rows))) same_assigned
      ∙ rows_fire p well t guarding _ a.params (action_assignment a args) a.rows is.rows

  same_undefined : list_any (undefined_at (v p) t) (instances (v p) b args) ≡ list_any (undefined_at (w p) t) (instances (w p) a args)
  same_undefined =
      ap (λ e. list_any (undefined_at (v p) t) (flat_map (row_instances (v p) e) (map (guarded_row (guards p)) a.rows))) same_assigned
      ∙ rows_undefined p well t guarding _ a.params (action_assignment a args) a.rows is.rows

  pre_truth : Member args (tuples (v p) b.params) → truth_of (v p) t (action_assignment b args) b.pre ≡ both (of_test (fits (w p) a.params args)) (truth_of (w p) t (action_assignment a args) a.pre)
  pre_truth m =
      at_tuple p well t guarding a.params is.params.differ is.params.typed unassigned a.pre (guarded (guards p) a.pre)
      (λ d. guarded_truth p well t guarding _ a.params d a.pre is.pre) both and_guarded
      (λ d atoms. and_guarded_truth (v p) t d atoms (guarded (guards p) a.pre)) args m

  among : tuples (w p) a.params ≡ filter (fits (w p) a.params) (tuples (v p) b.params)
  among = among_all p well.objects.differ a.params

  -- typed arguments are objects, and fit
  wide_args : Member args (tuples (w p) a.params) → Member args (tuples (v p) b.params) × (fits (w p) a.params args ≡ true)
  wide_args m = of_filter (fits (w p) a.params) (tuples (v p) b.params) args (subst (Member args) among m)

  typed_args : Member args (tuples (v p) b.params) → fits (w p) a.params args ≡ true → Member args (tuples (w p) a.params)
  typed_args m fit = subst (Member args) (sym among) (member_filter (fits (w p) a.params) (tuples (v p) b.params) args m fit)

  neither : {A B : Type 0} → (¬ A) → (¬ B) → A ↔ B
  neither n m = (λ a. absurd (n a), λ b. absurd (m b))

  -- with typed arguments
  same_faults : Member args (tuples (w p) a.params) → (fault : Fault) → ActionApplies (v p) t b args fault ↔ ActionApplies (w p) t a args fault
  same_faults m = by
    where
      k : Member args (tuples (v p) b.params) × (fits (w p) a.params args ≡ true)
      k = wide_args m

      pre : truth_of (v p) t (action_assignment b args) b.pre ≡ truth_of (w p) t (action_assignment a args) a.pre
      pre = pre_truth k.0 ∙ ap (λ b. both (of_test b) (truth_of (w p) t (action_assignment a args) a.pre)) k.1

      by : (fault : Fault) → ActionApplies (v p) t b args fault ↔ ActionApplies (w p) t a args fault
      by unknown = neither ((arguments_typed (v p) t b args).0 k.0).0 ((arguments_typed (w p) t a args).0 m).0
      by arity = neither ((arguments_typed (v p) t b args).0 k.0).1 ((arguments_typed (w p) t a args).0 m).1
      by argument_type = neither ((arguments_typed (v p) t b args).0 k.0).2 ((arguments_typed (w p) t a args).0 m).2
      by precondition = denied (true_together (v p) (action_assignment b args) b.pre (w p) (action_assignment a args) a.pre t pre)
      by condition_undefined =
          after (some_undefined (v p) t (instances (v p) b args))
          (after (by_path (ap (λ b. b ≡ true) same_undefined)) (turned (some_undefined (w p) t (instances (w p) a args))))
      by object_undefined = by_path (ap (OfEffect ObjectUndefined t) same_firing)
      by number_undefined = by_path (ap (OfEffect NumberUndefined t) same_firing)
      by number_conflict = by_path (ap (NumbersConflict t) same_firing)
      by object_conflict = by_path (ap (ObjectsConflict t) same_firing)

  -- an action that can be taken has typed arguments
  pub taken_typed : CanTakeBy (w p) t a args → Member args (tuples (w p) a.params)
  taken_typed can = (arguments_typed (w p) t a args).1 (can unknown, can arity, can argument_type)

  pub guarded_typed : CanTakeBy (v p) t b args → Member args (tuples (w p) a.params)
  guarded_typed can =
      let m : Member args (tuples (v p) b.params) = (arguments_typed (v p) t b args).1 (can unknown, can arity, can argument_type) in
      typed_args m (true_test (fits (w p) a.params args) (truth_of (w p) t (action_assignment a args) a.pre)
      (sym (pre_truth m) ∙ not_false (v p) t (action_assignment b args) b.pre (can precondition)))

  pub follows : CanTakeBy (w p) t a args → CanTakeBy (v p) t b args
  follows can fault h = can fault ((same_faults (taken_typed can) fault).0 h)

  pub keeps : CanTakeBy (v p) t b args → CanTakeBy (w p) t a args
  keeps can fault h = can fault ((same_faults (guarded_typed can) fault).1 h)
