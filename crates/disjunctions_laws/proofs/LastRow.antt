-- A last row that deletes a fact of no argument, and an action with one row that adds it.
use Rattle.std.proofs.Common.{◌≡◌, ◌⊎◌, ◌≤◌, cond, Bool, true, false, true≢false, not, ◌&&◌, ◌||◌, List, [], ◌∷◌, ◌++◌, append-nil, length, fold, Option, Some, None, option_map, refl, ap, sym, ◌∙◌, subst, inl, inr, ⊎_elim, arith}
use Rattle.std.proofs.lemmas.List.{append_assoc}
use Rattle.std.specs.Prelude.{IfSome}
use Rattle.std.specs.List.{list_any, flat_map, filter_map, cons_option}
use Rattle.std.proofs.lemmas.Cmp.{eq_by_cmp_equiv}
use Rattle.std.specs.FinSet as set
use Rattle.up_text.specs.declared.name.Name.{Name}
use Rattle.up_text.specs.Lists.{Every, Somewhere}
use Rattle.up_tree.specs.declared.action.Action.{Action}
use Rattle.up_tree.specs.declared.action.Effect.{Effect}
use Rattle.up_tree.specs.declared.action.Effect.TheVariants.{Add, Delete, Number, Object, Undefine}
use Rattle.up_tree.specs.declared.formula.Formula.{Formula}
use Rattle.up_tree.specs.Objects.{World, Assignment, unassigned}
use Rattle.up_tree.specs.State.{State, Ground, Holds, ground, number_at, object_at}
use Rattle.up_tree.specs.Truth.{True, IsUndefined}
use Rattle.up_tree.specs.Value.{values_of}
use Rattle.up_tree.specs.Instances.{Instance, Fired, action_assignment, row_instances, instances, fired, firing}
use Rattle.up_tree.specs.Changes.{NumberChange, ObjectChange, added, deleted, number_change, object_change, of_firing, is_at, changes_at, objects_at, new_number, new_object, put, changed}
use Rattle.up_tree.specs.Faults.{Fault, unknown, arity, argument_type, precondition, condition_undefined, object_undefined, number_undefined, number_conflict, object_conflict, ActionApplies, ObjectUndefined, NumberUndefined, OfEffect, IsShift}
use Rattle.up_tree.specs.Simplify.{true_formula}
use Rattle.up_tree.proofs.Nodes.{True-And}
use Rattle.up_tree.proofs.States.{ground_total, contains-changed}
use Rattle.up_tree.proofs.Steps.{fires-is}
use Rattle.semantics_laws.specs.Symbols.{predicate, target, AgreeOn}
use Rattle.semantics_laws.proofs.Firing.{each_instance, each_fired}
use Rattle.semantics_laws.proofs.Lists.{each_as, each_filter_map}
use Rattle.semantics_laws.proofs.Tables.{tied}
use Rattle.step_laws.specs.SplitLaw.{CanTakeBy, next_by}
use Rattle.disjunctions_laws.specs.Disjunctions.{plain_row, with_delete, fake_action}
use Rattle.disjunctions_laws.specs.Related.{IsOther}

-- ---- lists

flat_push : {X Y : Type 0} (f : X → List Y) (xs : List X) (x : X) → flat_map f (xs ++ x ∷ []) ≡ flat_map f xs ++ f x
flat_push f [] x = append-nil (f x)
flat_push f (y ∷ xs) x = ap (λ l. f y ++ l) (flat_push f xs x) ∙ sym (append_assoc (f y) (flat_map f xs) (f x))

filter_push : {X Y : Type 0} (f : X → Option Y) (xs : List X) (x : X) → filter_map f (xs ++ x ∷ []) ≡ filter_map f xs ++ cons_option (f x) []
filter_push f [] x = refl
filter_push f (y ∷ xs) x = ap (cons_option (f y)) (filter_push f xs x) ∙ before (f y)
  where
    before : (o : Option _) → cons_option o (filter_map f xs ++ cons_option (f x) []) ≡ cons_option o (filter_map f xs) ++ cons_option (f x) []
    before None = refl
    before (Some z) = refl

some_push : {X : Type 0} (P : X → Type 0) (xs : List X) (x : X) → Somewhere P (xs ++ x ∷ []) → Somewhere P xs ⊎ P x
some_push P [] x (inl h) = inr h
some_push P [] x (inr h) = absurd h
some_push P (y ∷ xs) x (inl h) = inl (inl h)
some_push P (y ∷ xs) x (inr h) = ⊎_elim (λ k. inl (inr k)) (λ k. inr k) (some_push P xs x h)

some_before : {X : Type 0} (P : X → Type 0) (xs ys : List X) → Somewhere P xs → Somewhere P (xs ++ ys)
some_before P [] ys h = absurd h
some_before P (x ∷ xs) ys (inl h) = inl h
some_before P (x ∷ xs) ys (inr h) = inr (some_before P xs ys h)

any_push : {X : Type 0} (t : X → Bool) (xs : List X) (x : X) → t x ≡ true → list_any t (xs ++ x ∷ []) ≡ true
any_push t [] x h = ap (λ b. b || false) h
any_push t (y ∷ xs) x h = by (t y) (any_push t xs x h)
  where
    by : (b : Bool) → list_any t (xs ++ x ∷ []) ≡ true → (b || list_any t (xs ++ x ∷ [])) ≡ true
    by true h = refl
    by false h = h

any_less : {X : Type 0} (t : X → Bool) (xs : List X) (x : X) → t x ≡ false → list_any t (xs ++ x ∷ []) ≡ list_any t xs
any_less t [] x h = ap (λ b. b || false) h
any_less t (y ∷ xs) x h = ap (λ b. t y || b) (any_less t xs x h)

abbrev Conflicts : List NumberChange → Type 0
Conflicts changes = (2 ≤ length changes) × Somewhere (λ c. ¬ IsShift c.change) changes

abbrev Differs : List ObjectChange → Type 0
Differs changes = Somewhere (λ c. Somewhere (λ d. ¬ (c.value ≡ d.value)) changes) changes

-- ---- one effect that fires

always_true : (w : World) (s : State) (e : Assignment) → True w s e true_formula
always_true w s e = subst (λ X. X) (sym (True-And w s e [])) tt

abbrev instance_of : Assignment → Effect → Instance
instance_of e f = record { assignment = e; row = plain_row f }

abbrev fired_of : Assignment → Effect → Fired
fired_of e f = record { assignment = e; effect = f }

plain_fires : (w : World) (s : State) (e : Assignment) (f : Effect) → fired w s (instance_of e f) ≡ Some (fired_of e f)
plain_fires w s e f =
    ap (λ b. cond b (Some (fired_of e f)) None) ((fires-is w s (instance_of e f)).1 (always_true w s e))

-- other atoms are elsewhere
other_at : (fact name : Name) (objects : List Name) → ¬ (predicate name ≡ predicate fact) → is_at (ground name objects) (ground fact []) ≡ false
other_at fact name objects n = by (is_at (ground name objects) (ground fact [])) refl
  where
    first : ground name objects ≡ ground fact [] → name ≡ fact
    first e = cc

    by : (b : Bool) → is_at (ground name objects) (ground fact []) ≡ b → b ≡ false
    by true at = absurd (n (ap predicate (first (tied (ground name objects) (ground fact []) at))))
    by false at = refl

same_at : (q : Ground) → is_at q q ≡ true
same_at q = (eq_by_cmp_equiv ground_total).refl q

-- ---- with the last row

module _ (w : World) (t : State) (fact : Name) (a : Action) (args : List Name) where
  abbrev e : Assignment
  e = action_assignment a args

  abbrev b : Action
  b = with_delete fact a

  abbrev gone : Fired
  gone = fired_of e (Delete fact [])

  more_instances : instances w b args ≡ instances w a args ++ instance_of e (Delete fact []) ∷ []
  more_instances = flat_push (row_instances w e) a.rows (plain_row (Delete fact []))

  more_firing : firing w t b args ≡ firing w t a args ++ gone ∷ []
  more_firing =
      ap (filter_map (fired w t)) more_instances ∙ filter_push (fired w t) (instances w a args) (instance_of e (Delete fact []))
      ∙ ap (λ o. firing w t a args ++ cons_option o []) (plain_fires w t e (Delete fact []))

  of_more : {A : Type 0} (what : State → Assignment → Effect → Option A)
      → of_firing what t (firing w t b args) ≡ of_firing what t (firing w t a args) ++ cons_option (what t e (Delete fact [])) []
  of_more what = ap (of_firing what t) more_firing ∙ filter_push (λ f. what t f.assignment f.effect) (firing w t a args) gone

  same_numbers : of_firing number_change t (firing w t b args) ≡ of_firing number_change t (firing w t a args)
  same_numbers = of_more number_change ∙ append-nil (of_firing number_change t (firing w t a args))

  same_objects : of_firing object_change t (firing w t b args) ≡ of_firing object_change t (firing w t a args)
  same_objects = of_more object_change ∙ append-nil (of_firing object_change t (firing w t a args))

  same_added : of_firing added t (firing w t b args) ≡ of_firing added t (firing w t a args)
  same_added = of_more added ∙ append-nil (of_firing added t (firing w t a args))

  more_deleted : of_firing deleted t (firing w t b args) ≡ of_firing deleted t (firing w t a args) ++ ground fact [] ∷ []
  more_deleted = of_more deleted

  -- ---- it can be taken where the action can

  of_effect : (What : State → Assignment → Effect → Type 0) → (¬ What t e (Delete fact [])) → OfEffect What t (firing w t b args) → OfEffect What t (firing w t a args)
  of_effect What n h =
      ⊎_elim (λ k. k) (λ k. absurd (n k))
      (some_push (λ f. What t f.assignment f.effect) (firing w t a args) gone (subst (OfEffect What t) more_firing h))

  to_effect : (What : State → Assignment → Effect → Type 0) → OfEffect What t (firing w t a args) → OfEffect What t (firing w t b args)
  to_effect What h = subst (OfEffect What t) (sym more_firing) (some_before (λ f. What t f.assignment f.effect) (firing w t a args) (gone ∷ []) h)

  abbrev IsOpen : Instance → Type 0
  IsOpen i = IsUndefined w t i.assignment i.row.when

  defined : ¬ ObjectUndefined t e (Delete fact [])
  defined h = apart h
    where
      apart : {X : Type 0} {x : X} → Some x ≡ None → ⊥
      apart e = cc

  pub with_last : CanTakeBy w t a args → CanTakeBy w t b args
  with_last can = by
    where
      by : (fault : Fault) → ¬ ActionApplies w t b args fault
      by unknown = can unknown
      by arity = can arity
      by argument_type = can argument_type
      by precondition = can precondition
      by condition_undefined = λ h.
          ⊎_elim (can condition_undefined) (λ u. u.0 (always_true w t e))
          (some_push IsOpen (instances w a args) (instance_of e (Delete fact [])) (subst (Somewhere IsOpen) more_instances h))
      by object_undefined = λ h. can object_undefined (of_effect ObjectUndefined defined h)
      by number_undefined = λ h. can number_undefined (of_effect NumberUndefined (λ n. n) h)
      by number_conflict = λ h. can number_conflict (subst (λ cs. (q : Ground) × Conflicts (changes_at q cs)) same_numbers h)
      by object_conflict = λ h. can object_conflict (subst (λ cs. (q : Ground) × Differs (objects_at q cs)) same_objects h)

  pub without_last : CanTakeBy w t b args → CanTakeBy w t a args
  without_last can = by
    where
      by : (fault : Fault) → ¬ ActionApplies w t a args fault
      by unknown = can unknown
      by arity = can arity
      by argument_type = can argument_type
      by precondition = can precondition
      by condition_undefined = λ h.
          can condition_undefined (subst (Somewhere IsOpen) (sym more_instances) (some_before IsOpen (instances w a args) (instance_of e (Delete fact []) ∷ []) h))
      by object_undefined = λ h. can object_undefined (to_effect ObjectUndefined h)
      by number_undefined = λ h. can number_undefined (to_effect NumberUndefined h)
      by number_conflict = λ h. can number_conflict (subst (λ cs. (q : Ground) × Conflicts (changes_at q cs)) (sym same_numbers) h)
      by object_conflict = λ h. can object_conflict (subst (λ cs. (q : Ground) × Differs (objects_at q cs)) (sym same_objects) h)

  -- ---- the states that both leave

  pub agree_last : AgreeOn (IsOther fact) (next_by w t a args) (next_by w t b args)
  unfolding changed
  agree_last = record {
    atoms = λ name other objects. (λ h. sym (same_atom name other objects) ∙ h, λ h. same_atom name other objects ∙ h);
    numbers = λ f other objects. λ i. number_at (numbers_by (sym same_numbers i)) (ground f objects);
    values = λ f other objects. λ i. object_at (values_by (sym same_objects i)) (ground f objects);
  }
    where
      numbers_by : List NumberChange → State
      numbers_by cs = record {
        atoms = t.atoms;
        numbers = fold (λ m (c : NumberChange). put m c.target (new_number (number_at t c.target) (changes_at c.target cs))) t.numbers cs;
        values = t.values;
      }

      values_by : List ObjectChange → State
      values_by cs = record {
        atoms = t.atoms;
        numbers = t.numbers;
        values = fold (λ m (c : ObjectChange). put m c.target (new_object (object_at t c.target) (objects_at c.target cs))) t.values cs;
      }

      same_atom : (name : Name) → ¬ (predicate name ≡ predicate fact) → (objects : List Name)
          → set.contains (next_by w t a args).atoms (ground name objects) ≡ set.contains (next_by w t b args).atoms (ground name objects)
      same_atom name n objects =
          let q : Ground = ground name objects in
          contains-changed t (firing w t a args) q
          ∙ (λ i. (set.contains t.atoms q && not ((sym (any_less (is_at q) (of_firing deleted t (firing w t a args)) (ground fact []) (other_at fact name objects n)) ∙ ap (list_any (is_at q)) (sym more_deleted)) i))
          || list_any (is_at q) (sym same_added i))
          ∙ sym (contains-changed t (firing w t b args) q)

  -- ---- the fact is gone, where no row adds it

  module _ (others : Every (λ row. ¬ (predicate fact ≡ target row.effect)) a.rows) where
    fact_at : Ground
    fact_at = ground fact []

    not_added : (d : Assignment) (f : Effect) → ¬ (predicate fact ≡ target f) → IfSome (added t d f) (λ g. is_at (ground fact []) g ≡ false)
    not_added d (Add name us) n = by (values_of t d us)
      where
        by : (v : Option (List Name)) → IfSome (option_map (ground name) v) (λ g. is_at (ground fact []) g ≡ false)
        by None = tt
        by (Some objects) = apart (is_at (ground fact []) (ground name objects)) refl
          where
            first : ground fact [] ≡ ground name objects → fact ≡ name
            first e = cc

            apart : (b : Bool) → is_at (ground fact []) (ground name objects) ≡ b → b ≡ false
            apart true at = absurd (n (ap predicate (first (tied (ground fact []) (ground name objects) at))))
            apart false at = refl
    not_added d (Delete name us) n = tt
    not_added d (Number change g us y) n = tt
    not_added d (Object g us u) n = tt
    not_added d (Undefine g us) n = tt

    none_added : list_any (is_at (ground fact [])) (of_firing added t (firing w t a args)) ≡ false
    none_added =
        all_false (of_firing added t (firing w t a args))
        (each_filter_map (λ g. is_at (ground fact []) g ≡ false) (λ f. added t f.assignment f.effect) (firing w t a args)
        (each_as (λ f. ¬ (predicate fact ≡ target f.effect)) _ (λ f n. not_added f.assignment f.effect n) (firing w t a args)
        (each_fired (λ f. ¬ (predicate fact ≡ target f)) w t (instances w a args)
        (each_instance (λ row. ¬ (predicate fact ≡ target row.effect)) w e a.rows others))))
      where
        all_false : (gs : List Ground) → Every (λ g. is_at (ground fact []) g ≡ false) gs → list_any (is_at (ground fact [])) gs ≡ false
        all_false [] h = refl
        all_false (g ∷ gs) h = λ i. h.0 i || all_false gs h.1 i

    pub fact_gone : ¬ Holds (next_by w t b args) (ground fact [])
    fact_gone holds =
        true≢false (sym holds ∙ contains-changed t (firing w t b args) (ground fact [])
        ∙ (λ i. (set.contains t.atoms (ground fact []) && not ((ap (list_any (is_at (ground fact []))) more_deleted
        ∙ any_push (is_at (ground fact [])) (of_firing deleted t (firing w t a args)) (ground fact []) (same_at (ground fact []))) i))
        || (ap (list_any (is_at (ground fact []))) same_added ∙ none_added) i)
        ∙ never (set.contains t.atoms (ground fact [])))
      where
        never : (b : Bool) → ((b && not true) || false) ≡ false
        never true = refl
        never false = refl

-- ---- a fake action

module _ (w : World) (t : State) (fact name : Name) (clause : Formula) where
  abbrev fake : Action
  fake = fake_action fact name clause

  module _ (args : List Name) where
    abbrev made : Fired
    made = fired_of (action_assignment fake args) (Add fact [])

    fake_firing : firing w t fake args ≡ made ∷ []
    fake_firing = ap (λ o. cons_option o []) (plain_fires w t (action_assignment fake args) (Add fact []))

    still : (b : Bool) → ((b && not false) || false) ≡ b
    still true = refl
    still false = refl

    pub fake_agrees : AgreeOn (IsOther fact) t (next_by w t fake args)
    unfolding changed
    fake_agrees = subst (λ fs. AgreeOn (IsOther fact) t (changed t fs)) (sym fake_firing) by
      where
        same_atom : (name : Name) → ¬ (predicate name ≡ predicate fact) → (objects : List Name)
            → set.contains (changed t (made ∷ [])).atoms (ground name objects) ≡ set.contains t.atoms (ground name objects)
        same_atom name n objects =
            contains-changed t (made ∷ []) (ground name objects)
            ∙ (λ i. (set.contains t.atoms (ground name objects) && not false) || (other_at fact name objects n i || false))
            ∙ still (set.contains t.atoms (ground name objects))

        by : AgreeOn (IsOther fact) t (changed t (made ∷ []))
        by = record {
          atoms = λ name n objects. (λ h. same_atom name n objects ∙ h, λ h. sym (same_atom name n objects) ∙ h);
          numbers = λ f n objects. refl;
          values = λ f n objects. refl;
        }

    pub fake_adds : Holds (next_by w t fake args) (ground fact [])
    fake_adds =
        ap (λ fs. set.contains (changed t fs).atoms (ground fact [])) fake_firing ∙ contains-changed t (made ∷ []) (ground fact [])
        ∙ (λ i. (set.contains t.atoms (ground fact []) && not false) || (same_at (ground fact []) i || false))
        ∙ there (set.contains t.atoms (ground fact []))
      where
        there : (b : Bool) → ((b && not false) || (true || false)) ≡ true
        there true = refl
        there false = refl

  pub fake_can : True w t unassigned clause → CanTakeBy w t fake []
  fake_can holds = by
    where
      no_effect : (What : State → Assignment → Effect → Type 0) → (¬ What t unassigned (Add fact [])) → ¬ OfEffect What t (firing w t fake [])
      no_effect What n h = ⊎_elim n (λ none. none) (subst (OfEffect What t) (fake_firing []) h)

      defined : ¬ ObjectUndefined t unassigned (Add fact [])
      defined h = apart h
        where
          apart : {X : Type 0} {x : X} → Some x ≡ None → ⊥
          apart e = cc

      by : (fault : Fault) → ¬ ActionApplies w t fake [] fault
      by unknown = λ h. h
      by arity = λ n. n refl
      by argument_type = λ h. h
      by precondition = λ n. n holds
      by condition_undefined = λ h. ⊎_elim (λ u. u.0 (always_true w t unassigned)) (λ none. none) h
      by object_undefined = no_effect ObjectUndefined defined
      by number_undefined = no_effect NumberUndefined (λ n. n)
      by number_conflict = λ h.
          few (subst (λ fs. (q : Ground) × Conflicts (changes_at q (of_firing number_change t fs))) (fake_firing []) h).1.0
        where
          few : 2 ≤ 0 → ⊥
          few h = omega (arith, h)
      by object_conflict = λ h. (subst (λ fs. (q : Ground) × Differs (objects_at q (of_firing object_change t fs))) (fake_firing []) h).1
