-- An action with further conditions in its precondition and further rows without variables, which mark atoms without arguments.
use Rattle.std.proofs.Common.{◌≡◌, ◌⊎◌, ◌≤◌, Bool, true, false, not, ◌&&◌, ◌||◌, List, [], ◌∷◌, ◌++◌, map, filter_map, fold, length, Option, Some, None, refl, ap, sym, ◌∙◌, subst, inl, inr, ⊎_elim, append-nil}
use Rattle.std.specs.List.{list_any, cons_option}
use Rattle.std.specs.FinSet as set
use Rattle.std.specs.FinMap as table
use Rattle.up_text.specs.declared.name.Name.{Name}
use Rattle.up_text.specs.Lists.{Every, Somewhere, Member}
use Rattle.up_tree.specs.declared.action.Action.{Action}
use Rattle.up_tree.specs.declared.action.Effect.{Effect}
use Rattle.up_tree.specs.declared.action.Effect.TheVariants.{Add, Delete, Number, Object, Undefine}
use Rattle.up_tree.specs.declared.action.Row.{Row}
use Rattle.up_tree.specs.declared.formula.Formula.{Formula, And}
use Rattle.up_tree.specs.declared.term.Term.{Term}
use Rattle.up_tree.specs.Objects.{World, Assignment}
use Rattle.up_tree.specs.State.{State, Ground, ground, number_at, object_at}
use Rattle.up_tree.specs.Truth.{True, IsUndefined}
use Rattle.up_tree.specs.Instances.{Instance, Fired, action_assignment, row_instances, instances, fired, firing}
use Rattle.up_tree.specs.Changes.{NumberChange, ObjectChange, added, deleted, number_change, object_change, of_firing, is_at, changes_at, objects_at, new_number, new_object, put, changed}
use Rattle.up_tree.specs.Faults.{Fault, unknown, arity, argument_type, precondition, condition_undefined, object_undefined, number_undefined, number_conflict, object_conflict, IsShift, ObjectUndefined, NumberUndefined, OfEffect, ActionApplies}
use Rattle.up_tree.proofs.Judging.{decided}
use Rattle.up_tree.proofs.Nodes.{True-And}
use Rattle.up_tree.proofs.States.{contains-changed}
use Rattle.semantics_laws.specs.Symbols.{Symbol, predicate, target, AgreeOn}
use Rattle.semantics_laws.proofs.Framing.{none_there, added_apart, deleted_apart}
use Rattle.semantics_laws.proofs.Lists.{each_as, each_filter_map}
use Rattle.semantics_laws.proofs.Firing.{each_fired}
use Rattle.expansion_laws.proofs.Lists.{flat_of_append}
use Rattle.step_laws.specs.SplitLaw.{CanTakeBy, next_by}
use Rattle.compiling_laws.proofs.Bare.{AreBare, plain, plain_instances}

-- ---- lists

pub filter_map-append : {X Y : Type 0} (f : X → Option Y) (xs ys : List X) → filter_map f (xs ++ ys) ≡ filter_map f xs ++ filter_map f ys
filter_map-append f [] ys = refl
filter_map-append f (x ∷ xs) ys = by (f x) (filter_map-append f xs ys)
  where
    by : (o : Option _) → filter_map f (xs ++ ys) ≡ filter_map f xs ++ filter_map f ys → cons_option o (filter_map f (xs ++ ys)) ≡ cons_option o (filter_map f xs) ++ filter_map f ys
    by None more = more
    by (Some y) more = ap (λ l. y ∷ l) more

pub any-append : {X : Type 0} (test : X → Bool) (xs ys : List X) → list_any test (xs ++ ys) ≡ (list_any test xs || list_any test ys)
any-append test [] ys = refl
any-append test (x ∷ xs) ys = by (test x) (any-append test xs ys)
  where
    by : (b : Bool) → list_any test (xs ++ ys) ≡ (list_any test xs || list_any test ys) → (b || list_any test (xs ++ ys)) ≡ ((b || list_any test xs) || list_any test ys)
    by true more = refl
    by false more = more

pub somewhere_left : {X : Type 0} (P : X → Type 0) (xs ys : List X) → Somewhere P xs → Somewhere P (xs ++ ys)
somewhere_left P [] ys h = absurd h
somewhere_left P (x ∷ xs) ys (inl h) = inl h
somewhere_left P (x ∷ xs) ys (inr h) = inr (somewhere_left P xs ys h)

pub somewhere_either : {X : Type 0} (P : X → Type 0) (xs ys : List X) → Somewhere P (xs ++ ys) → Somewhere P xs ⊎ Somewhere P ys
somewhere_either P [] ys h = inr h
somewhere_either P (x ∷ xs) ys (inl h) = inl (inl h)
somewhere_either P (x ∷ xs) ys (inr h) = elim (somewhere_either P xs ys h) [ inl k ↦ inl (inr k) | inr k ↦ inr k ]

none_of : {X : Type 0} (P Q : X → Type 0) → ((x : X) → P x → ¬ Q x) → (xs : List X) → Every P xs → ¬ Somewhere Q xs
none_of P Q apart [] each h = h
none_of P Q apart (x ∷ xs) each (inl h) = apart x each.0 h
none_of P Q apart (x ∷ xs) each (inr h) = none_of P Q apart xs each.1 h

-- ---- effects that add or delete an atom of one of these predicates, without arguments

abbrev MarksWith : List Name → Name → List Term → Type 0
MarksWith ms m [] = Member m ms
MarksWith ms m (t ∷ ts) = ⊥

abbrev pub Marks : List Name → Effect → Type 0
Marks ms (Add m ts) = MarksWith ms m ts
Marks ms (Delete m ts) = MarksWith ms m ts
Marks ms f = ⊥

-- not one of the marks
abbrev pub Apart : List Name → Symbol → Type 0
Apart ms x = (m : Name) → Member m ms → ¬ (x ≡ predicate m)

module _ (ms : List Name) (t : State) where
  no_object_undefined : (e : Assignment) (f : Effect) → Marks ms f → ¬ ObjectUndefined t e f
  no_object_undefined e (Add m []) mark h = none h
    where
      none : {X : Type 0} {x : X} → Some x ≡ None → ⊥
      none e = cc
  no_object_undefined e (Add m (u ∷ us)) mark h = mark
  no_object_undefined e (Delete m []) mark h = none h
    where
      none : {X : Type 0} {x : X} → Some x ≡ None → ⊥
      none e = cc
  no_object_undefined e (Delete m (u ∷ us)) mark h = mark
  no_object_undefined e (Number change f us x) mark h = mark
  no_object_undefined e (Object f us u) mark h = mark
  no_object_undefined e (Undefine f us) mark h = mark

  no_number_undefined : (e : Assignment) (f : Effect) → Marks ms f → ¬ NumberUndefined t e f
  no_number_undefined e (Add m us) mark h = h
  no_number_undefined e (Delete m us) mark h = h
  no_number_undefined e (Number change f us x) mark h = mark
  no_number_undefined e (Object f us u) mark h = mark
  no_number_undefined e (Undefine f us) mark h = mark

  no_number_change : (e : Assignment) (f : Effect) → Marks ms f → number_change t e f ≡ None
  no_number_change e (Add m us) mark = refl
  no_number_change e (Delete m us) mark = refl
  no_number_change e (Number change f us x) mark = absurd mark
  no_number_change e (Object f us u) mark = refl
  no_number_change e (Undefine f us) mark = refl

  no_object_change : (e : Assignment) (f : Effect) → Marks ms f → object_change t e f ≡ None
  no_object_change e (Add m us) mark = refl
  no_object_change e (Delete m us) mark = refl
  no_object_change e (Number change f us x) mark = refl
  no_object_change e (Object f us u) mark = absurd mark
  no_object_change e (Undefine f us) mark = absurd mark

  pub target_apart : (x : Symbol) → Apart ms x → (f : Effect) → Marks ms f → ¬ (x ≡ target f)
  target_apart x apart (Add m []) mark = apart m mark
  target_apart x apart (Add m (u ∷ us)) mark = absurd mark
  target_apart x apart (Delete m []) mark = apart m mark
  target_apart x apart (Delete m (u ∷ us)) mark = absurd mark
  target_apart x apart (Number change f us y) mark = absurd mark
  target_apart x apart (Object f us u) mark = absurd mark
  target_apart x apart (Undefine f us) mark = absurd mark

  -- what changes nothing leaves nothing
  none_made : {A : Type 0} (what : State → Assignment → Effect → Option A) → ((e : Assignment) (f : Effect) → Marks ms f → what t e f ≡ None) →
      (fs : List Fired) → Every (λ f. Marks ms f.effect) fs → of_firing what t fs ≡ []
  none_made what each [] marks = refl
  none_made what each (f ∷ fs) marks = (λ i. cons_option (each f.assignment f.effect marks.0 i) (of_firing what t fs)) ∙ none_made what each fs marks.1

  same_made : {A : Type 0} (what : State → Assignment → Effect → Option A) → ((e : Assignment) (f : Effect) → Marks ms f → what t e f ≡ None) →
      (fs gs : List Fired) → Every (λ f. Marks ms f.effect) gs → of_firing what t (fs ++ gs) ≡ of_firing what t fs
  same_made what each fs gs marks =
      filter_map-append (λ (f : Fired). what t f.assignment f.effect) fs gs ∙ ap (λ l. of_firing what t fs ++ l) (none_made what each gs marks)
      ∙ append-nil (of_firing what t fs)

  -- ---- the state that marks leave, beside other effects

  module _ (fs gs : List Fired) (marks : Every (λ f. Marks ms f.effect) gs) where
    numbers_stay : (changed t (fs ++ gs)).numbers ≡ (changed t fs).numbers
    unfolding changed
    numbers_stay =
        ap (λ cs. fold (λ m (c : NumberChange). put m c.target (new_number (number_at t c.target) (changes_at c.target cs))) t.numbers cs)
        (same_made number_change no_number_change fs gs marks)

    values_stay : (changed t (fs ++ gs)).values ≡ (changed t fs).values
    unfolding changed
    values_stay =
        ap (λ cs. fold (λ m (c : ObjectChange). put m c.target (new_object (object_at t c.target) (objects_at c.target cs))) t.values cs)
        (same_made object_change no_object_change fs gs marks)

    or_none : (a b : Bool) → b ≡ false → (a || b) ≡ a
    or_none true b e = refl
    or_none false b e = e

    none_marked : (what : State → Assignment → Effect → Option Ground) (q : Ground) → Every (λ a. ¬ (q ≡ a)) (of_firing what t gs) →
        list_any (is_at q) (of_firing what t (fs ++ gs)) ≡ list_any (is_at q) (of_firing what t fs)
    none_marked what q none =
        ap (list_any (is_at q)) (filter_map-append (λ (f : Fired). what t f.assignment f.effect) fs gs)
        ∙ any-append (is_at q) (of_firing what t fs) (of_firing what t gs)
        ∙ or_none (list_any (is_at q) (of_firing what t fs)) (list_any (is_at q) (of_firing what t gs)) (none_there (λ a. a) q (of_firing what t gs) none)

    atoms_stay : (name : Name) → Apart ms (predicate name) → (objects : List Name) →
        set.contains (changed t (fs ++ gs)).atoms (ground name objects) ≡ set.contains (changed t fs).atoms (ground name objects)
    atoms_stay name apart objects =
        let q : Ground = ground name objects in
        contains-changed t (fs ++ gs) q
        ∙ (λ i. (set.contains t.atoms q && not (none_marked deleted q (each_filter_map (λ a. ¬ (q ≡ a)) (λ (f : Fired). deleted t f.assignment f.effect) gs
        (each_as (λ (f : Fired). Marks ms f.effect) _ (λ f mark. deleted_apart t name objects f.assignment f.effect (target_apart (predicate name) apart f.effect mark)) gs marks)) i))
        || none_marked added q (each_filter_map (λ a. ¬ (q ≡ a)) (λ (f : Fired). added t f.assignment f.effect) gs
        (each_as (λ (f : Fired). Marks ms f.effect) _ (λ f mark. added_apart t name objects f.assignment f.effect (target_apart (predicate name) apart f.effect mark)) gs marks)) i)
        ∙ sym (contains-changed t fs q)

    pub rest_agrees : AgreeOn (Apart ms) (changed t fs) (changed t (fs ++ gs))
    rest_agrees = record {
      atoms = λ name apart objects. (λ h. atoms_stay name apart objects ∙ h, λ h. sym (atoms_stay name apart objects) ∙ h);
      numbers = λ f apart objects. ap (λ m. table.get m (ground f objects)) (sym numbers_stay);
      values = λ f apart objects. ap (λ m. table.get m (ground f objects)) (sym values_stay);
    }

-- ---- the action

module _ (ms : List Name) (w : World) (t : State) (a : Action) (cs : List Formula) (rs : List Row) (args : List Name) where
  abbrev pub e : Assignment
  e = action_assignment a args

  abbrev pub b : Action
  b = record { name = a.name; params = a.params; pre = And (a.pre ∷ cs); rows = a.rows ++ rs }

  -- the effects of the further rows that fire
  abbrev pub marked : List Fired
  marked = filter_map (fired w t) (map (plain w t e) rs)

  module _ (bare : AreBare rs) (marks : Every (λ r. Marks ms r.effect) rs) where
    instances_are : instances w b args ≡ instances w a args ++ map (plain w t e) rs
    instances_are = flat_of_append (row_instances w e) a.rows rs ∙ ap (λ l. instances w a args ++ l) (plain_instances w t e rs bare)

    pub firing_is : firing w t b args ≡ firing w t a args ++ marked
    firing_is = ap (filter_map (fired w t)) instances_are ∙ filter_map-append (fired w t) (instances w a args) (map (plain w t e) rs)

    map_marks : (rows : List Row) → Every (λ r. Marks ms r.effect) rows → Every (λ (i : Instance). Marks ms i.row.effect) (map (plain w t e) rows)
    map_marks [] h = tt
    map_marks (r ∷ rows) h = (h.0, map_marks rows h.1)

    pub marked_marks : Every (λ f. Marks ms f.effect) marked
    marked_marks = each_fired (Marks ms) w t (map (plain w t e) rs) (map_marks rs marks)

    undefined_row : (rows : List Row) → Every (λ r. ¬ IsUndefined w t e r.when) rows →
        ¬ Somewhere (λ (i : Instance). IsUndefined w t i.assignment i.row.when) (map (plain w t e) rows)
    undefined_row [] sure h = h
    undefined_row (r ∷ rows) sure (inl h) = sure.0 h
    undefined_row (r ∷ rows) sure (inr h) = undefined_row rows sure.1 h

    conflicts : {A : Type 0} (P : List A → Type 0) (what : State → Assignment → Effect → Option A) →
        ((e : Assignment) (f : Effect) → Marks ms f → what t e f ≡ None) → P (of_firing what t (firing w t b args)) ≡ P (of_firing what t (firing w t a args))
    conflicts P what each = ap P (ap (of_firing what t) firing_is ∙ same_made ms t what each (firing w t a args) marked marked_marks)

    module _ (sure : Every (λ r. ¬ IsUndefined w t e r.when) rs) where
      pub taken_from : CanTakeBy w t b args → CanTakeBy w t a args × Every (True w t e) cs
      taken_from can = (by, there.1)
        where
          there : True w t e a.pre × Every (True w t e) cs
          there = subst (λ X. X) (True-And w t e (a.pre ∷ cs)) (⊎_elim (λ h. h) (λ n. absurd (can precondition n)) (decided w t e (And (a.pre ∷ cs))))

          by : (fault : Fault) → ¬ ActionApplies w t a args fault
          by unknown = can unknown
          by arity = can arity
          by argument_type = can argument_type
          by precondition = λ h. h there.0
          by condition_undefined = λ h. can condition_undefined (subst (Somewhere (λ (i : Instance). IsUndefined w t i.assignment i.row.when)) (sym instances_are)
              (somewhere_left (λ (i : Instance). IsUndefined w t i.assignment i.row.when) (instances w a args) (map (plain w t e) rs) h))
          by object_undefined = λ h. can object_undefined (subst (OfEffect ObjectUndefined t) (sym firing_is)
              (somewhere_left (λ (f : Fired). ObjectUndefined t f.assignment f.effect) (firing w t a args) marked h))
          by number_undefined = λ h. can number_undefined (subst (OfEffect NumberUndefined t) (sym firing_is)
              (somewhere_left (λ (f : Fired). NumberUndefined t f.assignment f.effect) (firing w t a args) marked h))
          by number_conflict = λ h. can number_conflict (subst (λ X. X) (sym (conflicts (λ (cs : List NumberChange). (q : Ground) × let changes = changes_at q cs in
              (2 ≤ length changes) × Somewhere (λ c. ¬ IsShift c.change) changes) number_change (no_number_change ms t))) h)
          by object_conflict = λ h. can object_conflict (subst (λ X. X) (sym (conflicts (λ (cs : List ObjectChange). (q : Ground) × let changes = objects_at q cs in
              Somewhere (λ c. Somewhere (λ d. ¬ (c.value ≡ d.value)) changes) changes) object_change (no_object_change ms t))) h)

      pub taken_with : CanTakeBy w t a args → Every (True w t e) cs → CanTakeBy w t b args
      taken_with can each = by
        where
          there : True w t e (And (a.pre ∷ cs))
          there = subst (λ X. X) (sym (True-And w t e (a.pre ∷ cs))) (⊎_elim (λ h. h) (λ n. absurd (can precondition n)) (decided w t e a.pre), each)

          by : (fault : Fault) → ¬ ActionApplies w t b args fault
          by unknown = can unknown
          by arity = can arity
          by argument_type = can argument_type
          by precondition = λ h. h there
          by condition_undefined = λ h. elim (somewhere_either (λ (i : Instance). IsUndefined w t i.assignment i.row.when) (instances w a args) (map (plain w t e) rs)
              (subst (Somewhere (λ (i : Instance). IsUndefined w t i.assignment i.row.when)) instances_are h)) [
                | inl k ↦ can condition_undefined k
                | inr k ↦ undefined_row rs sure k
              ]
          by object_undefined = λ h. elim (somewhere_either (λ (f : Fired). ObjectUndefined t f.assignment f.effect) (firing w t a args) marked
              (subst (OfEffect ObjectUndefined t) firing_is h)) [
                | inl k ↦ can object_undefined k
                | inr k ↦ none_of (λ (f : Fired). Marks ms f.effect) (λ (f : Fired). ObjectUndefined t f.assignment f.effect)
                    (λ f mark. no_object_undefined ms t f.assignment f.effect mark) marked marked_marks k
              ]
          by number_undefined = λ h. elim (somewhere_either (λ (f : Fired). NumberUndefined t f.assignment f.effect) (firing w t a args) marked
              (subst (OfEffect NumberUndefined t) firing_is h)) [
                | inl k ↦ can number_undefined k
                | inr k ↦ none_of (λ (f : Fired). Marks ms f.effect) (λ (f : Fired). NumberUndefined t f.assignment f.effect)
                    (λ f mark. no_number_undefined ms t f.assignment f.effect mark) marked marked_marks k
              ]
          by number_conflict = λ h. can number_conflict (subst (λ X. X) (conflicts (λ (cs : List NumberChange). (q : Ground) × let changes = changes_at q cs in
              (2 ≤ length changes) × Somewhere (λ c. ¬ IsShift c.change) changes) number_change (no_number_change ms t)) h)
          by object_conflict = λ h. can object_conflict (subst (λ X. X) (conflicts (λ (cs : List ObjectChange). (q : Ground) × let changes = objects_at q cs in
              Somewhere (λ c. Somewhere (λ d. ¬ (c.value ≡ d.value)) changes) changes) object_change (no_object_change ms t)) h)

    -- on all but the marks both leave one state
    pub next_agrees : AgreeOn (Apart ms) (next_by w t a args) (next_by w t b args)
    next_agrees =
        subst (λ fs. AgreeOn (Apart ms) (next_by w t a args) (changed t fs)) (sym firing_is)
        (rest_agrees ms t (firing w t a args) marked marked_marks)
