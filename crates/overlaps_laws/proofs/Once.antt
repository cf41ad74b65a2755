-- An action is taken as the variants of one splitting are.
use Rattle.std.proofs.Common.{◌≡◌, ◌≢◌, ◌⊎◌, ◌≤◌, true, List, [], ◌∷◌, map, filter_map, flat_map, take, length, Some, None, option_map, refl, ap, sym, ◌∙◌, subst, inl, inr, ⊎_elim}
use Rattle.std.specs.List.{cons_option}
use Rattle.up_text.specs.declared.name.Name.{Name}
use Rattle.up_text.specs.Lists.{Every, Somewhere, Member}
use Rattle.up_tree.specs.declared.formula.Formula.{And}
use Rattle.up_tree.specs.declared.action.Action.{Action}
use Rattle.up_tree.specs.declared.action.Row.{Row}
use Rattle.up_tree.specs.declared.problem.Parts.{Parts}
use Rattle.up_tree.specs.Objects.{World, world, Assignment}
use Rattle.up_tree.specs.State.{State, Ground, ground}
use Rattle.up_tree.specs.Value.{values_of}
use Rattle.up_tree.specs.Truth.{True, IsUndefined}
use Rattle.up_tree.specs.Judged.{truth_of}
use Rattle.up_tree.specs.Instances.{Instance, Fired, action_assignment, row_instances, fired, firing}
use Rattle.up_tree.specs.Changes.{added, deleted, number_change, object_change, of_firing, changes_at, objects_at, NumberChange, ObjectChange, changed}
use Rattle.up_tree.specs.Faults.{Fault, unknown, arity, argument_type, precondition, condition_undefined, object_undefined, number_undefined, number_conflict, object_conflict, ActionApplies, ObjectUndefined, NumberUndefined, OfEffect, NumbersConflict, ObjectsConflict, IsShift}
use Rattle.up_tree.specs.Simplify.{simplified, knows_nothing, is_true_formula}
use Rattle.up_tree.specs.WellFormed.{IsFormula, IsRow}
use Rattle.up_tree.proofs.Judging.{decided}
use Rattle.up_tree.proofs.Nodes.{True-And}
use Rattle.step_laws.specs.SplitLaw.{CanTakeBy, next_by}
use Rattle.step_laws.proofs.Covered.{equal_from}
use Rattle.condition_laws.specs.Oracles.{IsTrueTo}
use Rattle.condition_laws.proofs.Assigning.{formulas_are_assigned}
use Rattle.condition_laws.proofs.Simplifying.{simplified_truth}
use Rattle.compiling_laws.proofs.Taking.{always_true, truth_told}
use Rattle.compiling_laws.proofs.Bare.{AreBare, plain, plain_instances, fires}
use Rattle.compiling_laws.proofs.Lists.{none_some, member_map, member_filter_map}
use Rattle.step_laws.proofs.Lists.{every_at, every_from}
use Rattle.compiling_laws.proofs.Scopes.{formula-And, params_assigned}
use Rattle.condition_laws.proofs.Shaping.{simplified_is_formed}
use Rattle.overlaps_laws.specs.Overlaps.{Case}
use Rattle.overlaps_laws.proofs.Parting.{IsWith, here, later, with_member}
use Rattle.overlaps_laws.proofs.Deleting.{same_numbers, same_objects, same_changed}
use Rattle.overlaps_laws.specs.Splittable.{IsSplittable}
use Rattle.overlaps_laws.proofs.Rows.{Met, met_apart}
use Rattle.overlaps_laws.proofs.Values.{some_is, some_not_none, OneValue}

-- ---- rows without variables and conditions

abbrev pub AreAlways : List Row → Type 0
AreAlways rows = Every (λ (r : Row). is_true_formula r.when ≡ true) rows

nothing_told : (s : State) → IsTrueTo s knows_nothing
nothing_told s fact b e = none_some e

module _ (w : World) (s : State) (e : Assignment) where
  abbrev pub fire : Row → Fired
  fire r = record { assignment = e; effect = r.effect }

  all_fire : (rows : List Row) → AreAlways rows → filter_map (fired w s) (map (plain w s e) rows) ≡ map fire rows
  all_fire [] h = refl
  all_fire (r ∷ rows) h = λ i. cons_option (fires w s e r (always_true w s e r.when h.0) i) (all_fire rows h.1 i)

  pub rows_fire : (rows : List Row) → AreBare rows → AreAlways rows → filter_map (fired w s) (flat_map (row_instances w e) rows) ≡ map fire rows
  rows_fire rows bare always = ap (filter_map (fired w s)) (plain_instances w s e rows bare) ∙ all_fire rows always

  none_so : (rows : List Row) → AreAlways rows → Somewhere (λ (i : Instance). IsUndefined w s i.assignment i.row.when) (map (plain w s e) rows) → ⊥
  none_so [] h k = k
  none_so (r ∷ rows) h (inl u) = u.0 (always_true w s e r.when h.0)
  none_so (r ∷ rows) h (inr k) = none_so rows h.1 k

  pub none_undefined : (rows : List Row) → AreBare rows → AreAlways rows → Somewhere (λ (i : Instance). IsUndefined w s i.assignment i.row.when) (flat_map (row_instances w e) rows) → ⊥
  none_undefined rows bare always h = none_so rows always (subst (Somewhere (λ (i : Instance). IsUndefined w s i.assignment i.row.when)) (plain_instances w s e rows bare) h)

  fired_with : (d : Row) (xs ys : List Row) → IsWith d xs ys → IsWith (fire d) (map fire xs) (map fire ys)
  fired_with d _ _ (here xs) = here (map fire xs)
  fired_with d _ _ (later y xs ys h) = later (fire y) (map fire xs) (map fire ys) (fired_with d xs ys h)

-- ---- faults of what fires

-- the second has no fault that the first hasn't
pub record IsNoWorse (s : State) (xs ys : List Fired) : Type 0 where
  pub object : OfEffect ObjectUndefined s ys → OfEffect ObjectUndefined s xs
  pub number : OfEffect NumberUndefined s ys → OfEffect NumberUndefined s xs
  pub numbers : NumbersConflict s ys → NumbersConflict s xs
  pub objects : ObjectsConflict s ys → ObjectsConflict s xs

pub no_worse : (s : State) (xs : List Fired) → IsNoWorse s xs xs
no_worse s xs = record { object = λ h. h; number = λ h. h; numbers = λ h. h; objects = λ h. h }

module _ {X : Type 0} (P : X → Type 0) where
  somewhere_with : (d : X) (xs ys : List X) → IsWith d xs ys → Somewhere P ys → P d ⊎ Somewhere P xs
  somewhere_with d _ _ (here xs) (inl h) = inl h
  somewhere_with d _ _ (here xs) (inr h) = inr h
  somewhere_with d _ _ (later y xs ys is) (inl h) = inr (inl h)
  somewhere_with d _ _ (later y xs ys is) (inr h) = ⊎_elim (λ k. inl k) (λ k. inr (inr k)) (somewhere_with d xs ys is h)

  somewhere_more : (d : X) (xs ys : List X) → IsWith d xs ys → Somewhere P xs → Somewhere P ys
  somewhere_more d _ _ (here xs) h = inr h
  somewhere_more d _ _ (later y xs ys is) (inl h) = inl h
  somewhere_more d _ _ (later y xs ys is) (inr h) = inr (somewhere_more d xs ys is h)

abbrev NumbersOf : List NumberChange → Type 0
NumbersOf all = (t : Ground) × let changes = changes_at t all in (2 ≤ length changes) × Somewhere (λ (c : NumberChange). ¬ IsShift c.change) changes

abbrev ObjectsOf : List ObjectChange → Type 0
ObjectsOf all = (t : Ground) × let changes = objects_at t all in Somewhere (λ (c : ObjectChange). Somewhere (λ (d : ObjectChange). c.value ≢ d.value) changes) changes

-- ---- a delete row whose atom an add row adds too

module _ (w : World) (s : State) (e : Assignment) (p : Parts) (a : Action) (d r : Row) (is : Met p a d r) (xs ys : List Row) (lacks : IsWith d xs ys) (there : Member r ys)
    (one : OneValue w s e is.ss is.ts) where
  abbrev d_fired : Fired
  d_fired = fire w s e d

  objects : (os : List Name) × (values_of s e is.ss ≡ Some os)
  objects = some_is (values_of s e is.ss) one.some

  abbrev g : Ground
  g = ground is.name objects.0

  deletes : deleted s e d.effect ≡ Some g
  deletes = ap (deleted s e) is.deletes ∙ ap (option_map (ground is.name)) objects.1

  adds_none : added s e d.effect ≡ None
  adds_none = ap (added s e) is.deletes

  no_number : number_change s e d.effect ≡ None
  no_number = ap (number_change s e) is.deletes

  no_object : object_change s e d.effect ≡ None
  no_object = ap (object_change s e) is.deletes

  with_d : IsWith d_fired (map (fire w s e) xs) (map (fire w s e) ys)
  with_d = fired_with w s e d xs ys lacks

  adds_it : Member g (of_firing added s (map (fire w s e) xs))
  adds_it =
      member_filter_map (λ (f : Fired). added s f.assignment f.effect) (map (fire w s e) xs) (fire w s e r) g
      (member_map (fire w s e) xs r (⊎_elim (λ same. absurd (met_apart p a d r is same)) (λ k. k) (with_member d r xs ys lacks there)))
      (ap (added s e) is.adds ∙ ap (option_map (ground is.name)) (sym one.same ∙ objects.1))

  pub changed_alike : changed s (map (fire w s e) ys) ≡ changed s (map (fire w s e) xs)
  changed_alike = same_changed s d_fired g deletes adds_none no_number no_object (map (fire w s e) xs) (map (fire w s e) ys) with_d adds_it

  alike_numbers : of_firing number_change s (map (fire w s e) ys) ≡ of_firing number_change s (map (fire w s e) xs)
  alike_numbers = same_numbers s d_fired g deletes adds_none no_number no_object (map (fire w s e) xs) (map (fire w s e) ys) with_d

  alike_objects : of_firing object_change s (map (fire w s e) ys) ≡ of_firing object_change s (map (fire w s e) xs)
  alike_objects = same_objects s d_fired g deletes adds_none no_number no_object (map (fire w s e) xs) (map (fire w s e) ys) with_d

  not_d : ObjectUndefined s e d.effect → ⊥
  not_d h = some_not_none (values_of s e is.ss) one.some (subst (ObjectUndefined s e) is.deletes h)

  no_number_d : NumberUndefined s e d.effect → ⊥
  no_number_d h = subst (NumberUndefined s e) is.deletes h

  pub more_no_worse : IsNoWorse s (map (fire w s e) xs) (map (fire w s e) ys)
  more_no_worse = record {
    object = λ h. ⊎_elim (λ k. absurd (not_d k)) (λ k. k)
        (somewhere_with (λ (f : Fired). ObjectUndefined s f.assignment f.effect) d_fired (map (fire w s e) xs) (map (fire w s e) ys) with_d h);
    number = λ h. ⊎_elim (λ k. absurd (no_number_d k)) (λ k. k)
        (somewhere_with (λ (f : Fired). NumberUndefined s f.assignment f.effect) d_fired (map (fire w s e) xs) (map (fire w s e) ys) with_d h);
    numbers = λ h. subst NumbersOf alike_numbers h;
    objects = λ h. subst ObjectsOf alike_objects h;
  }

  pub less_no_worse : IsNoWorse s (map (fire w s e) ys) (map (fire w s e) xs)
  less_no_worse = record {
    object = λ h. somewhere_more (λ (f : Fired). ObjectUndefined s f.assignment f.effect) d_fired (map (fire w s e) xs) (map (fire w s e) ys) with_d h;
    number = λ h. somewhere_more (λ (f : Fired). NumberUndefined s f.assignment f.effect) d_fired (map (fire w s e) xs) (map (fire w s e) ys) with_d h;
    numbers = λ h. subst NumbersOf (sym alike_numbers) h;
    objects = λ h. subst ObjectsOf (sym alike_objects) h;
  }

-- ---- a variant

abbrev pub made : World → Action → Case → Action
made w a c = record { name = a.name; params = a.params; pre = simplified w knows_nothing (And (a.pre ∷ c.more)); rows = c.rows }

module _ (p : Parts) (a : Action) (ok : IsSplittable p a) (c : Case) (formed : Every (IsFormula p (take p.constants p.objects) a.params) c.more)
    (from : (r : Row) → Member r c.rows → Member r a.rows) where
  abbrev w : World
  w = world p

  abbrev v : Action
  v = made w a c

  bare : AreBare c.rows
  bare = every_from (λ (r : Row). r.vars ≡ []) c.rows (λ r m. every_at (λ (r : Row). r.vars ≡ []) a.rows r ok.bare (from r m))

  always : AreAlways c.rows
  always = every_from (λ (r : Row). is_true_formula r.when ≡ true) c.rows (λ r m. every_at (λ (r : Row). is_true_formula r.when ≡ true) a.rows r ok.always (from r m))

  joined_formed : IsFormula p (take p.constants p.objects) a.params (And (a.pre ∷ c.more))
  joined_formed = subst (λ X. X) (sym (formula-And p (take p.constants p.objects) a.params (a.pre ∷ c.more))) (ok.formed.pre, formed)

  pub variant_splittable : IsSplittable p v
  variant_splittable = record {
    formed = record {
      params = ok.formed.params;
      pre = simplified_is_formed p (take p.constants p.objects) a.params (And (a.pre ∷ c.more)) joined_formed w knows_nothing;
      rows = every_from (IsRow p (take p.constants p.objects) a.params) c.rows (λ r m. every_at (IsRow p (take p.constants p.objects) a.params) a.rows r ok.formed.rows (from r m));
    };
    bare = bare;
    always = always;
  }

  module _ (s : State) (args : List Name) where
    abbrev e : Assignment
    e = action_assignment a args

    keeps : length args ≡ length a.params → truth_of w s e v.pre ≡ truth_of w s e (And (a.pre ∷ c.more))
    keeps same =
        simplified_truth w s knows_nothing (nothing_told s) e (And (a.pre ∷ c.more))
        (formulas_are_assigned p (take p.constants p.objects) a.params (And (a.pre ∷ c.more)) joined_formed w e (params_assigned a args same))

    firing_a : firing w s a args ≡ map (fire w s e) a.rows
    firing_a = rows_fire w s e a.rows ok.bare ok.always

    firing_v : firing w s v args ≡ map (fire w s e) c.rows
    firing_v = rows_fire w s e c.rows bare always

    pub says : CanTakeBy w s v args → True w s e a.pre × Every (True w s e) c.more
    says can =
        let there : True w s e v.pre = ⊎_elim (λ h. h) (λ n. absurd (can precondition n)) (decided w s e v.pre) in
        subst (λ X. X) (True-And w s e (a.pre ∷ c.more)) (truth_told w s e v.pre (And (a.pre ∷ c.more)) (keeps (equal_from _ _ (can arity))) there)

    pub holds : CanTakeBy w s a args → Every (True w s e) c.more → True w s e v.pre
    holds can more =
        let there : True w s e a.pre = ⊎_elim (λ h. h) (λ n. absurd (can precondition n)) (decided w s e a.pre) in
        truth_told w s e (And (a.pre ∷ c.more)) v.pre (sym (keeps (equal_from _ _ (can arity)))) (subst (λ X. X) (sym (True-And w s e (a.pre ∷ c.more))) (there, more))

    pub kept_by : IsNoWorse s (map (fire w s e) c.rows) (map (fire w s e) a.rows) → CanTakeBy w s v args → CanTakeBy w s a args
    kept_by worse can = by
      where
        by : (fault : Fault) → ¬ ActionApplies w s a args fault
        by unknown = can unknown
        by arity = can arity
        by argument_type = can argument_type
        by precondition = λ h. h (says can).0
        by condition_undefined = λ h. none_undefined w s e a.rows ok.bare ok.always h
        by object_undefined = λ h. can object_undefined (subst (OfEffect ObjectUndefined s) (sym firing_v) (worse.object (subst (OfEffect ObjectUndefined s) firing_a h)))
        by number_undefined = λ h. can number_undefined (subst (OfEffect NumberUndefined s) (sym firing_v) (worse.number (subst (OfEffect NumberUndefined s) firing_a h)))
        by number_conflict = λ h. can number_conflict (subst (NumbersConflict s) (sym firing_v) (worse.numbers (subst (NumbersConflict s) firing_a h)))
        by object_conflict = λ h. can object_conflict (subst (ObjectsConflict s) (sym firing_v) (worse.objects (subst (ObjectsConflict s) firing_a h)))

    pub followed_by : IsNoWorse s (map (fire w s e) a.rows) (map (fire w s e) c.rows) → CanTakeBy w s a args → Every (True w s e) c.more → CanTakeBy w s v args
    followed_by worse can more = by
      where
        by : (fault : Fault) → ¬ ActionApplies w s v args fault
        by unknown = can unknown
        by arity = can arity
        by argument_type = can argument_type
        by precondition = λ h. h (holds can more)
        by condition_undefined = λ h. none_undefined w s e c.rows bare always h
        by object_undefined = λ h. can object_undefined (subst (OfEffect ObjectUndefined s) (sym firing_a) (worse.object (subst (OfEffect ObjectUndefined s) firing_v h)))
        by number_undefined = λ h. can number_undefined (subst (OfEffect NumberUndefined s) (sym firing_a) (worse.number (subst (OfEffect NumberUndefined s) firing_v h)))
        by number_conflict = λ h. can number_conflict (subst (NumbersConflict s) (sym firing_a) (worse.numbers (subst (NumbersConflict s) firing_v h)))
        by object_conflict = λ h. can object_conflict (subst (ObjectsConflict s) (sym firing_a) (worse.objects (subst (ObjectsConflict s) firing_v h)))

    pub next_alike : changed s (map (fire w s e) a.rows) ≡ changed s (map (fire w s e) c.rows) → next_by w s a args ≡ next_by w s v args
    next_alike same = ap (changed s) firing_a ∙ same ∙ sym (ap (changed s) firing_v)
