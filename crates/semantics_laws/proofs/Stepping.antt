-- Faults and next states are the same in states that agree on what the action names.
use Rattle.std.proofs.Common.{◌≡◌, ◌⊎◌, ◌↔◌, ◌≤◌, not, ◌&&◌, ◌||◌, List, [], ◌∷◌, fold, length, Option, Some, None, option_map, option_and_then, IsSomeAnd, refl, ap, sym, ◌∙◌, subst, inl, inr}
use Rattle.std.specs.List.{list_any}
use Rattle.std.specs.FinSet as set
use Rattle.std.specs.FinMap as table
use Rattle.up_frac.specs.Fraction.{Fraction}
use Rattle.up_frac.specs.Arithmetic.{IsZero}
use Rattle.up_text.specs.declared.name.Name.{Name}
use Rattle.up_text.specs.Lists.{Every, Somewhere, Member}
use Rattle.up_tree.specs.declared.action.Action.{Action}
use Rattle.up_tree.specs.declared.action.Change.{Change}
use Rattle.up_tree.specs.declared.action.Effect.{Effect}
use Rattle.up_tree.specs.declared.action.Effect.TheVariants.{Add, Delete, Number, Object, Undefine}
use Rattle.up_tree.specs.declared.action.Row.{Row}
use Rattle.up_tree.specs.declared.problem.Parts.{Parts}
use Rattle.up_tree.specs.declared.problem.Step.{Step}
use Rattle.up_tree.specs.Objects.{World, world, Assignment, action_named}
use Rattle.up_tree.specs.State.{State, Ground, ground, number_at, object_at}
use Rattle.up_tree.specs.Value.{values_of, ground_at, number}
use Rattle.up_tree.specs.Truth.{IsUndefined}
use Rattle.up_tree.specs.Instances.{Instance, Fired, action_assignment, instances, fired, firing}
use Rattle.up_tree.specs.Changes.{NumberChange, ObjectChange, added, deleted, number_change, object_change, of_firing, is_at, changes_at, objects_at, new_number, new_object, put, changed}
use Rattle.up_tree.specs.Faults.{Fault, unknown, arity, argument_type, precondition, condition_undefined, object_undefined, number_undefined, number_conflict, object_conflict, ObjectUndefined, NeedsOld, IsScaleDown, IsShift, NumberUndefined, OfEffect, ActionApplies, IsNext, Applies}
use Rattle.up_tree.proofs.States.{contains-changed, number_at-changed}
use Rattle.up_tree.proofs.Steps.{ByAction}
use Rattle.semantics_laws.specs.Symbols.{Symbol, predicate, function, EffectNames, RowNames, ActionNames, StepNames, AgreeOn}
use Rattle.semantics_laws.specs.SameTruth.{SameTruth}
use Rattle.semantics_laws.proofs.Lists.{each_as, same_filter_map, same_somewhere}
use Rattle.semantics_laws.proofs.Same.{same_truth}
use Rattle.semantics_laws.proofs.Tables.{all_put}
use Rattle.semantics_laws.proofs.Firing.{fired_if, each_instance, each_fired}
use Rattle.semantics_laws.proofs.Agreeing.{same_atom, same_value, same_values, same_ground, same_number, same_judged}

same : {A : Type 0} → A ↔ A
same = (λ a. a, λ a. a)

by_path : {A B : Type 0} → A ≡ B → A ↔ B
by_path e = (λ a. subst (λ X. X) e a, λ b. subst (λ X. X) (sym e) b)

after : {A B C : Type 0} → A ↔ B → B ↔ C → A ↔ C
after f g = (λ a. g.0 (f.0 a), λ c. f.1 (g.1 c))

denied : {A B : Type 0} → A ↔ B → (¬ A) ↔ (¬ B)
denied f = (λ n b. n (f.1 b), λ n a. n (f.0 a))

both : {A B C D : Type 0} → A ↔ B → C ↔ D → (A × C) ↔ (B × D)
both f g = (λ x. (f.0 x.0, g.0 x.1), λ y. (f.1 y.0, g.1 y.1))

-- ---- rows and effects that name nothing else

abbrev Within : (Symbol → Type 0) → (Symbol → Type 0) → Type 0
Within X Names = (x : Symbol) → X x → Names x

abbrev pub number_change_of : Change → Option Ground → Option Fraction → Option NumberChange
number_change_of change at by = option_and_then (λ target. option_map (λ operand. record { target = target; change = change; operand = operand }) by) at

abbrev pub object_change_of : Option Ground → Option Name → Option ObjectChange
object_change_of at by = option_and_then (λ target. option_map (λ value. record { target = target; value = Some value }) by) at

abbrev pub undefining : Option Ground → Option ObjectChange
undefining at = option_map (λ target. record { target = target; value = None }) at

module _ (Names : Symbol → Type 0) where
  -- the effect of each that fires names nothing else
  abbrev AreWithin : List Fired → Type 0
  AreWithin fs = Every (λ f. Within (EffectNames f.effect) Names) fs

  rows_within : (rows : List Row) → ((x : Symbol) → Somewhere (λ row. RowNames row x) rows → Names x) →
      Every (λ row. Within (RowNames row) Names) rows
  rows_within [] within = tt
  rows_within (row ∷ rows) within = ((λ x h. within x (inl h)), rows_within rows (λ x h. within x (inr h)))

module _ (Names : Symbol → Type 0) (s t : State) (agree : AgreeOn Names s t) where
  same_added : (e : Assignment) (f : Effect) → Within (EffectNames f) Names → added s e f ≡ added t e f
  same_added e (Add name us) within = same_ground Names s t agree e name us (λ x h. within x (inr h))
  same_added e (Delete name us) within = refl
  same_added e (Number change g us x) within = refl
  same_added e (Object g us u) within = refl
  same_added e (Undefine g us) within = refl

  same_deleted : (e : Assignment) (f : Effect) → Within (EffectNames f) Names → deleted s e f ≡ deleted t e f
  same_deleted e (Add name us) within = refl
  same_deleted e (Delete name us) within = same_ground Names s t agree e name us (λ x h. within x (inr h))
  same_deleted e (Number change g us x) within = refl
  same_deleted e (Object g us u) within = refl
  same_deleted e (Undefine g us) within = refl

  same_number_change : (e : Assignment) (f : Effect) → Within (EffectNames f) Names → number_change s e f ≡ number_change t e f
  same_number_change e (Add name us) within = refl
  same_number_change e (Delete name us) within = refl
  same_number_change e (Number change g us y) within =
      λ i. number_change_of change (same_ground Names s t agree e g us (λ x h. within x (inr (inl h))) i) (same_number Names s t agree e y (λ x h. within x (inr (inr h))) i)
  same_number_change e (Object g us u) within = refl
  same_number_change e (Undefine g us) within = refl

  same_object_change : (e : Assignment) (f : Effect) → Within (EffectNames f) Names → object_change s e f ≡ object_change t e f
  same_object_change e (Add name us) within = refl
  same_object_change e (Delete name us) within = refl
  same_object_change e (Number change g us x) within = refl
  same_object_change e (Object g us u) within =
      λ i. object_change_of (same_ground Names s t agree e g us (λ x h. within x (inr (inl h))) i) (same_value Names s t agree e u (λ x h. within x (inr (inr h))) i)
  same_object_change e (Undefine g us) within = ap undefining (same_ground Names s t agree e g us (λ x h. within x (inr h)))

  same_of : {A : Type 0} (what : State → Assignment → Effect → Option A) →
      ((e : Assignment) (f : Effect) → Within (EffectNames f) Names → what s e f ≡ what t e f) →
      (fs : List Fired) → AreWithin Names fs → of_firing what s fs ≡ of_firing what t fs
  same_of what each fs within =
      same_filter_map (λ f. what s f.assignment f.effect) (λ f. what t f.assignment f.effect) fs
      (each_as (λ f. Within (EffectNames f.effect) Names) _ (λ f h. each f.assignment f.effect h) fs within)

  -- ---- faults of one effect

  same_object_undefined : (e : Assignment) (f : Effect) → Within (EffectNames f) Names → ObjectUndefined s e f ≡ ObjectUndefined t e f
  same_object_undefined e (Add name us) within = λ i. same_values Names s t agree e us (λ x h. within x (inr h)) i ≡ None
  same_object_undefined e (Delete name us) within = λ i. same_values Names s t agree e us (λ x h. within x (inr h)) i ≡ None
  same_object_undefined e (Number change g us y) within = λ i. same_values Names s t agree e us (λ x h. within x (inr (inl h))) i ≡ None
  same_object_undefined e (Object g us u) within =
      λ i. (same_values Names s t agree e us (λ x h. within x (inr (inl h))) i ≡ None) ⊎ (same_value Names s t agree e u (λ x h. within x (inr (inr h))) i ≡ None)
  same_object_undefined e (Undefine g us) within = λ i. same_values Names s t agree e us (λ x h. within x (inr h)) i ≡ None

  no_number : (g : Name) → Names (function g) → (v : Option (List Name)) →
      IsSomeAnd (option_map (ground g) v) (λ k. number_at s k ≡ None) ≡ IsSomeAnd (option_map (ground g) v) (λ k. number_at t k ≡ None)
  no_number g named None = refl
  no_number g named (Some objects) = λ i. agree.numbers g named objects i ≡ None

  same_number_undefined : (e : Assignment) (f : Effect) → Within (EffectNames f) Names → NumberUndefined s e f ≡ NumberUndefined t e f
  same_number_undefined e (Add name us) within = refl
  same_number_undefined e (Delete name us) within = refl
  same_number_undefined e (Number change g us y) within =
      let operand : number s e y ≡ number t e y = same_number Names s t agree e y (λ x h. within x (inr (inr h))) in
      let old : IsSomeAnd (ground_at s e g us) (λ k. number_at s k ≡ None) ≡ IsSomeAnd (ground_at t e g us) (λ k. number_at t k ≡ None) =
      ap (λ v. IsSomeAnd v (λ k. number_at s k ≡ None)) (same_ground Names s t agree e g us (λ x h. within x (inr (inl h))))
      ∙ no_number g (within (function g) (inl refl)) (values_of t e us)
      in
      λ i. (operand i ≡ None) ⊎ (NeedsOld change × old i) ⊎ (IsScaleDown change × IsSomeAnd (operand i) IsZero)
  same_number_undefined e (Object g us u) within = refl
  same_number_undefined e (Undefine g us) within = refl

  -- ---- an action

  same_fired : (w : World) (i : Instance) → Within (RowNames i.row) Names → fired w s i ≡ fired w t i
  same_fired w i within = ap (fired_if i) (same_judged Names s t agree w i.assignment i.row.when (λ x h. within x (inl h)))

  same_undefined : (w : World) (i : Instance) → Within (RowNames i.row) Names →
      IsUndefined w s i.assignment i.row.when ↔ IsUndefined w t i.assignment i.row.when
  same_undefined w i within =
      let truth : SameTruth w s i.assignment i.row.when t i.assignment i.row.when =
      same_truth w s i.assignment i.row.when t i.assignment i.row.when (same_judged Names s t agree w i.assignment i.row.when (λ x h. within x (inl h)))
      in
      both (denied truth.true_where) (denied truth.false_where)

  module _ (w : World) (a : Action) (args : List Name) (within : (x : Symbol) → ActionNames a x → Names x) where
    all_within : Every (λ i. Within (RowNames i.row) Names) (instances w a args)
    all_within =
        each_instance (λ row. Within (RowNames row) Names) w (action_assignment a args) a.rows (rows_within Names a.rows (λ x h. within x (inr h)))

    same_firing : firing w s a args ≡ firing w t a args
    same_firing = same_filter_map (fired w s) (fired w t) (instances w a args) (each_as (λ i. Within (RowNames i.row) Names) _ (λ i h. same_fired w i h) (instances w a args) all_within)

    firing_within : AreWithin Names (firing w t a args)
    firing_within =
        each_fired (λ f. Within (EffectNames f) Names) w t (instances w a args)
        (each_as (λ i. Within (RowNames i.row) Names) _ (λ i h x k. h x (inr k)) (instances w a args) all_within)

    same_all : {A : Type 0} (what : State → Assignment → Effect → Option A) →
        ((e : Assignment) (f : Effect) → Within (EffectNames f) Names → what s e f ≡ what t e f) →
        of_firing what s (firing w s a args) ≡ of_firing what t (firing w t a args)
    same_all what each = ap (of_firing what s) same_firing ∙ same_of what each (firing w t a args) firing_within

    same_effects : (What : State → Assignment → Effect → Type 0) →
        ((e : Assignment) (f : Effect) → Within (EffectNames f) Names → What s e f ≡ What t e f) →
        OfEffect What s (firing w s a args) ↔ OfEffect What t (firing w t a args)
    same_effects What each =
        after (by_path (ap (OfEffect What s) same_firing))
        (same_somewhere (λ f. What s f.assignment f.effect) (λ f. What t f.assignment f.effect) (firing w t a args)
        (each_as (λ f. Within (EffectNames f.effect) Names) _ (λ f h. by_path (each f.assignment f.effect h)) (firing w t a args) firing_within))

    pub same_faults : (fault : Fault) → ActionApplies w s a args fault ↔ ActionApplies w t a args fault
    same_faults unknown = same
    same_faults arity = same
    same_faults argument_type = same
    same_faults precondition =
        let truth : SameTruth w s (action_assignment a args) a.pre t (action_assignment a args) a.pre =
        same_truth w s (action_assignment a args) a.pre t (action_assignment a args) a.pre
        (same_judged Names s t agree w (action_assignment a args) a.pre (λ x h. within x (inl h)))
        in
        denied truth.true_where
    same_faults condition_undefined =
        same_somewhere (λ i. IsUndefined w s i.assignment i.row.when) (λ i. IsUndefined w t i.assignment i.row.when) (instances w a args)
        (each_as (λ i. Within (RowNames i.row) Names) _ (λ i h. same_undefined w i h) (instances w a args) all_within)
    same_faults object_undefined = same_effects ObjectUndefined same_object_undefined
    same_faults number_undefined = same_effects NumberUndefined same_number_undefined
    same_faults number_conflict =
        by_path (λ i. (q : Ground) × let changes = changes_at q (same_all number_change same_number_change i) in
        (2 ≤ length changes) × Somewhere (λ c. ¬ IsShift c.change) changes)
    same_faults object_conflict =
        by_path (λ i. (q : Ground) × let changes = objects_at q (same_all object_change same_object_change i) in
        Somewhere (λ c. Somewhere (λ d. ¬ (c.value ≡ d.value)) changes) changes)

    next_atom : (p : Name) → Names (predicate p) → (objects : List Name) →
        set.contains (changed s (firing w s a args)).atoms (ground p objects) ≡ set.contains (changed t (firing w t a args)).atoms (ground p objects)
    next_atom p named objects =
        let q : Ground = ground p objects in
        contains-changed s (firing w s a args) q
        ∙ (λ i. (same_atom Names s t agree p named objects i && not (list_any (is_at q) (same_all deleted same_deleted i))) || list_any (is_at q) (same_all added same_added i))
        ∙ sym (contains-changed t (firing w t a args) q)

    next_number : (g : Name) → Names (function g) → (objects : List Name) →
        number_at (changed s (firing w s a args)) (ground g objects) ≡ number_at (changed t (firing w t a args)) (ground g objects)
    next_number g named objects =
        let q : Ground = ground g objects in
        number_at-changed s (firing w s a args) q
        ∙ (λ i. new_number (agree.numbers g named objects i) (changes_at q (same_all number_change same_number_change i)))
        ∙ sym (number_at-changed t (firing w t a args) q)

    next_object : (g : Name) → Names (function g) → (objects : List Name) →
        object_at (changed s (firing w s a args)) (ground g objects) ≡ object_at (changed t (firing w t a args)) (ground g objects)
    unfolding changed
    next_object g named objects =
        let q : Ground = ground g objects in
        let cs : List ObjectChange = of_firing object_change t (firing w t a args) in
        ap (λ cs. table.get (fold (λ m (c : ObjectChange). put m c.target (new_object (object_at s c.target) (objects_at c.target cs))) s.values cs) q)
        (same_all object_change same_object_change)
        ∙ all_put (λ (c : ObjectChange). c.target) (λ k. new_object (object_at s k) (objects_at k cs)) (λ k. new_object (object_at t k) (objects_at k cs)) q
        (ap (λ old. new_object old (objects_at q cs)) (agree.values g named objects)) cs s.values t.values (agree.values g named objects)

    pub agree_next : AgreeOn Names (changed s (firing w s a args)) (changed t (firing w t a args))
    agree_next = record {
      atoms = λ p named objects. (λ h. sym (next_atom p named objects) ∙ h, λ h. next_atom p named objects ∙ h);
      numbers = next_number;
      values = next_object;
    }

-- ---- the laws of a step

pub faults_depend : (p : Parts) (s t : State) (step : Step) → AgreeOn (StepNames p step) s t →
    (fault : Fault) → Applies p s step fault ↔ Applies p t step fault
faults_depend p s t step agree fault = by (action_named p step.action) agree
  where
    by : (found : Option Action) → AgreeOn (λ x. IsSomeAnd found (λ a. ActionNames a x)) s t → ByAction p s step.args found fault ↔ ByAction p t step.args found fault
    by None agree = same
    by (Some a) agree = same_faults (ActionNames a) s t agree (world p) a step.args (λ x h. h) fault

pub agree_after : (Names : Symbol → Type 0) (p : Parts) (s t : State) (step : Step) → ((x : Symbol) → StepNames p step x → Names x) → AgreeOn Names s t →
    (next_s next_t : State) → IsNext p s step next_s → IsNext p t step next_t → AgreeOn Names next_s next_t
agree_after Names p s t step within agree next_s next_t = by (action_named p step.action) within
  where
    by : (found : Option Action) → ((x : Symbol) → IsSomeAnd found (λ a. ActionNames a x) → Names x) →
        IsSomeAnd found (λ a. next_s ≡ changed s (firing (world p) s a step.args)) → IsSomeAnd found (λ a. next_t ≡ changed t (firing (world p) t a step.args)) →
        AgreeOn Names next_s next_t
    by None within h k = absurd h
    by (Some a) within h k =
        subst (λ u. AgreeOn Names u next_t) (sym h)
        (subst (λ v. AgreeOn Names (changed s (firing (world p) s a step.args)) v) (sym k) (agree_next Names s t agree (world p) a step.args within))

pub next_depends : (p : Parts) (s t : State) (step : Step) → AgreeOn (StepNames p step) s t →
    (next_s next_t : State) → IsNext p s step next_s → IsNext p t step next_t → AgreeOn (StepNames p step) next_s next_t
next_depends p s t step agree = agree_after (StepNames p step) p s t step (λ x h. h) agree

pub wider_depends : (p : Parts) (s t : State) (step : Step) (symbols : List Symbol) →
    ((x : Symbol) → StepNames p step x → Member x symbols) → AgreeOn (λ x. Member x symbols) s t →
    (next_s next_t : State) → IsNext p s step next_s → IsNext p t step next_t → AgreeOn (λ x. Member x symbols) next_s next_t
wider_depends p s t step symbols within agree = agree_after (λ x. Member x symbols) p s t step within agree
