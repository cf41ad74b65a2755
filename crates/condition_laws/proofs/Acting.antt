-- A simplified action is taken as the action.
use Rattle.std.proofs.Common.{◌≡◌, ◌≢◌, ℕ, ◌↔◌, ◌⊎◌, Bool, true, false, List, [], ◌∷◌, ◌++◌, map, length, Option, Some, None, refl, ap, sym, ◌∙◌, subst, inl, inr, ⊎_elim}
use Rattle.std.specs.Prelude.{if◌then◌else◌}
use Rattle.std.specs.List.{flat_map, filter_map, cons_option}
use Rattle.std.specs.Option.{unwrap_or}
use Rattle.std.proofs.lemmas.Bool.Decides.{eqb_tells}
use Rattle.up_text.specs.declared.name.Name.{Name}
use Rattle.up_text.specs.Lists.{Every, Somewhere, Member}
use Rattle.up_tree.specs.declared.formula.Formula.{Formula}
use Rattle.up_tree.specs.declared.action.Row.{Row}
use Rattle.up_tree.specs.declared.action.Action.{Action}
use Rattle.up_tree.specs.declared.truth.Truth.TheVariants as truth
use Rattle.up_tree.specs.Objects.{World, Assignment, assign, tuples}
use Rattle.up_tree.specs.State.{State}
use Rattle.up_tree.specs.Truth.{False, IsUndefined}
use Rattle.up_tree.specs.Judged.{truth_of, is_true}
use Rattle.up_tree.specs.Instances.{Instance, Fired, action_assignment, row_instances, fired, firing}
use Rattle.up_tree.specs.Faults.{Fault, unknown, arity, argument_type, precondition, condition_undefined, object_undefined, number_undefined, number_conflict, object_conflict, ObjectUndefined, NumberUndefined, NumbersConflict, ObjectsConflict, OfEffect, ActionApplies}
use Rattle.up_tree.specs.Simplify.{Oracle, is_false_formula, simplified, simple_row, simple_action}
use Rattle.up_tree.proofs.Apart.{apart}
use Rattle.up_tree.proofs.Judging.{judged}
use Rattle.semantics_laws.specs.SameTruth.{SameTruth}
use Rattle.semantics_laws.proofs.Same.{same_truth}
use Rattle.condition_laws.specs.Assigned.{IsRowAssigned, IsActionAssigned}
use Rattle.condition_laws.specs.Oracles.{IsTrueTo}
use Rattle.condition_laws.specs.Taken.{IsTakenAs, CanBeTaken, IsTakenWith}
use Rattle.condition_laws.proofs.Simplifying.{simplified_truth, of_never}
use Rattle.condition_laws.proofs.Assigning.{actions_are_assigned}
use Rattle.up_tree.specs.declared.problem.Parts.{Parts}
use Rattle.up_tree.specs.WellFormed.{IsAction}

same : {A : Type 0} → A ↔ A
same = (λ a. a, λ a. a)

by_path : {A B : Type 0} → A ≡ B → A ↔ B
by_path e = (λ a. subst (λ X. X) e a, λ b. subst (λ X. X) (sym e) b)

pub one_some : {X : Type 0} (x y : X) → Some x ≡ Some y → x ≡ y
one_some x y e = ap (λ o. unwrap_or o x) e

not_false : (w : World) (s : State) (e : Assignment) (f : Formula) → truth_of w s e f ≡ truth.False → False w s e f
not_false w s e f h = judged w s e f truth.False (sym h)

-- ---- of lists

module _ {X Y : Type 0} (h : X → Option Y) where
  cons_before : (o : Option Y) (ys zs : List Y) → cons_option o (ys ++ zs) ≡ cons_option o ys ++ zs
  cons_before None ys zs = refl
  cons_before (Some y) ys zs = refl

  kept_append : (xs ys : List X) → filter_map h (xs ++ ys) ≡ filter_map h xs ++ filter_map h ys
  kept_append [] ys = refl
  kept_append (x ∷ xs) ys = ap (cons_option (h x)) (kept_append xs ys) ∙ cons_before (h x) (filter_map h xs) (filter_map h ys)

module _ {X : Type 0} (P : X → Type 0) where
  somewhere_before : (xs ys : List X) → Somewhere P xs → Somewhere P (xs ++ ys)
  somewhere_before [] ys h = absurd h
  somewhere_before (x ∷ xs) ys (inl h) = inl h
  somewhere_before (x ∷ xs) ys (inr h) = inr (somewhere_before xs ys h)

  somewhere_behind : (xs ys : List X) → Somewhere P ys → Somewhere P (xs ++ ys)
  somewhere_behind [] ys h = h
  somewhere_behind (x ∷ xs) ys h = inr (somewhere_behind xs ys h)

  somewhere_split : (xs ys : List X) → Somewhere P (xs ++ ys) → Somewhere P xs ⊎ Somewhere P ys
  somewhere_split [] ys h = inr h
  somewhere_split (x ∷ xs) ys (inl h) = inl (inl h)
  somewhere_split (x ∷ xs) ys (inr h) = ⊎_elim (λ a. inl (inr a)) (λ b. inr b) (somewhere_split xs ys h)

-- ---- one row

module _ (w : World) (s : State) (oracle : Oracle) (true_to : IsTrueTo s oracle) (e : Assignment) where
  abbrev with_condition : Row → Formula → Row
  with_condition row when = record { vars = row.vars; when = when; effect = row.effect }

  abbrev at : Row → List Name → Instance
  at row tuple = record { assignment = assign row.vars tuple e; row = row }

  abbrev Undefined : Instance → Type 0
  Undefined i = IsUndefined w s i.assignment i.row.when

  -- tuples at which two conditions have one truth
  abbrev OneTruth : Row → Formula → List (List Name) → Type 0
  OneTruth row when ts = (tuple : List Name) → Member tuple ts → truth_of w s (assign row.vars tuple e) when ≡ truth_of w s (assign row.vars tuple e) row.when

  fired_alike : (row : Row) (when : Formula) (ts : List (List Name)) → OneTruth row when ts →
      filter_map (fired w s) (map (at (with_condition row when)) ts) ≡ filter_map (fired w s) (map (at row) ts)
  fired_alike row when [] h = refl
  fired_alike row when (t ∷ ts) h =
      λ i. cons_option (if is_true (h t (inl refl) i) then Some (let f : Fired = record { assignment = assign row.vars t e; effect = row.effect } in f) else None) (fired_alike row when ts (λ u m. h u (inr m)) i)

  undefined_alike : (row : Row) (when : Formula) (ts : List (List Name)) → OneTruth row when ts →
      Somewhere Undefined (map (at (with_condition row when)) ts) ↔ Somewhere Undefined (map (at row) ts)
  undefined_alike row when [] h = same
  undefined_alike row when (t ∷ ts) h =
      let one : SameTruth w s (assign row.vars t e) when s (assign row.vars t e) row.when = same_truth w s (assign row.vars t e) when s (assign row.vars t e) row.when (h t (inl refl)) in
      let more : Somewhere Undefined (map (at (with_condition row when)) ts) ↔ Somewhere Undefined (map (at row) ts) = undefined_alike row when ts (λ u m. h u (inr m)) in (
        ⊎_elim (λ u. inl (λ y. u.0 (one.true_where.1 y), λ n. u.1 (one.false_where.1 n))) (λ k. inr (more.0 k)),
        ⊎_elim (λ u. inl (λ y. u.0 (one.true_where.0 y), λ n. u.1 (one.false_where.0 n))) (λ k. inr (more.1 k)),
      )

  -- tuples at which the condition is false
  abbrev AllFalse : Row → List (List Name) → Type 0
  AllFalse row ts = (tuple : List Name) → Member tuple ts → truth_of w s (assign row.vars tuple e) row.when ≡ truth.False

  none_fired : (row : Row) (ts : List (List Name)) → AllFalse row ts → filter_map (fired w s) (map (at row) ts) ≡ []
  none_fired row [] h = refl
  none_fired row (t ∷ ts) h =
      λ i. cons_option (if is_true (h t (inl refl) i) then Some (let f : Fired = record { assignment = assign row.vars t e; effect = row.effect } in f) else None) (none_fired row ts (λ u m. h u (inr m)) i)

  none_undefined : (row : Row) (ts : List (List Name)) → AllFalse row ts → ¬ Somewhere Undefined (map (at row) ts)
  none_undefined row [] h k = k
  none_undefined row (t ∷ ts) h (inl u) = u.1 (not_false w s (assign row.vars t e) row.when (h t (inl refl)))
  none_undefined row (t ∷ ts) h (inr k) = none_undefined row ts (λ u m. h u (inr m)) k

  -- ---- all rows

  simplified_row : (row : Row) → IsRowAssigned w e row → OneTruth row (simplified w oracle row.when) (tuples w row.vars)
  simplified_row row h tuple m = simplified_truth w s oracle true_to (assign row.vars tuple e) row.when (h tuple m)

  dropped_row : (row : Row) → IsRowAssigned w e row → is_false_formula (simplified w oracle row.when) ≡ true → AllFalse row (tuples w row.vars)
  dropped_row row h n tuple m = sym (simplified_row row h tuple m) ∙ of_never w s (assign row.vars tuple e) (simplified w oracle row.when) n

  -- the instances of rows of which some are kept, each with the condition simplified
  abbrev kept_if : Bool → Row → Option Row
  kept_if b row = if b then None else Some (with_condition row (simplified w oracle row.when))

  rows_fire : (rows : List Row) → Every (IsRowAssigned w e) rows →
      filter_map (fired w s) (flat_map (row_instances w e) (filter_map (simple_row w oracle) rows)) ≡ filter_map (fired w s) (flat_map (row_instances w e) rows)
  rows_fire [] h = refl
  rows_fire (row ∷ rows) h = by (is_false_formula (simplified w oracle row.when)) refl (rows_fire rows h.1)
    where
      by : (b : Bool) → is_false_formula (simplified w oracle row.when) ≡ b →
          filter_map (fired w s) (flat_map (row_instances w e) (filter_map (simple_row w oracle) rows)) ≡ filter_map (fired w s) (flat_map (row_instances w e) rows) →
          filter_map (fired w s) (flat_map (row_instances w e) (cons_option (kept_if b row) (filter_map (simple_row w oracle) rows)))
          ≡ filter_map (fired w s) (map (at row) (tuples w row.vars) ++ flat_map (row_instances w e) rows)
      by true n more =
          more ∙ sym (kept_append (fired w s) (map (at row) (tuples w row.vars)) (flat_map (row_instances w e) rows)
          ∙ ap (λ fs. fs ++ filter_map (fired w s) (flat_map (row_instances w e) rows)) (none_fired row (tuples w row.vars) (dropped_row row h.0 n)))
      by false n more =
          kept_append (fired w s) (map (at (with_condition row (simplified w oracle row.when))) (tuples w row.vars)) (flat_map (row_instances w e) (filter_map (simple_row w oracle) rows))
          ∙ (λ i. fired_alike row (simplified w oracle row.when) (tuples w row.vars) (simplified_row row h.0) i ++ more i)
          ∙ sym (kept_append (fired w s) (map (at row) (tuples w row.vars)) (flat_map (row_instances w e) rows))

  rows_undefined : (rows : List Row) → Every (IsRowAssigned w e) rows →
      Somewhere Undefined (flat_map (row_instances w e) (filter_map (simple_row w oracle) rows)) ↔ Somewhere Undefined (flat_map (row_instances w e) rows)
  rows_undefined [] h = same
  rows_undefined (row ∷ rows) h = by (is_false_formula (simplified w oracle row.when)) refl (rows_undefined rows h.1)
    where
      by : (b : Bool) → is_false_formula (simplified w oracle row.when) ≡ b →
          Somewhere Undefined (flat_map (row_instances w e) (filter_map (simple_row w oracle) rows)) ↔ Somewhere Undefined (flat_map (row_instances w e) rows) →
          Somewhere Undefined (flat_map (row_instances w e) (cons_option (kept_if b row) (filter_map (simple_row w oracle) rows)))
          ↔ Somewhere Undefined (map (at row) (tuples w row.vars) ++ flat_map (row_instances w e) rows)
      by true n more = (
        λ k. somewhere_behind Undefined (map (at row) (tuples w row.vars)) (flat_map (row_instances w e) rows) (more.0 k),
        λ k. ⊎_elim (λ u. absurd (none_undefined row (tuples w row.vars) (dropped_row row h.0 n) u)) more.1
            (somewhere_split Undefined (map (at row) (tuples w row.vars)) (flat_map (row_instances w e) rows) k),
      )
      by false n more =
          let simple : List Instance = map (at (with_condition row (simplified w oracle row.when))) (tuples w row.vars) in
          let alike : Somewhere Undefined simple ↔ Somewhere Undefined (map (at row) (tuples w row.vars)) =
          undefined_alike row (simplified w oracle row.when) (tuples w row.vars) (simplified_row row h.0) in (
            λ k. ⊎_elim (λ u. somewhere_before Undefined (map (at row) (tuples w row.vars)) (flat_map (row_instances w e) rows) (alike.0 u))
                (λ u. somewhere_behind Undefined (map (at row) (tuples w row.vars)) (flat_map (row_instances w e) rows) (more.0 u))
                (somewhere_split Undefined simple (flat_map (row_instances w e) (filter_map (simple_row w oracle) rows)) k),
            λ k. ⊎_elim (λ u. somewhere_before Undefined simple (flat_map (row_instances w e) (filter_map (simple_row w oracle) rows)) (alike.1 u))
                (λ u. somewhere_behind Undefined simple (flat_map (row_instances w e) (filter_map (simple_row w oracle) rows)) (more.1 u))
                (somewhere_split Undefined (map (at row) (tuples w row.vars)) (flat_map (row_instances w e) rows) k),
          )

-- ---- the action

abbrev pub simple : World → Oracle → Action → Action
simple w oracle a = record { name = a.name; params = a.params; pre = simplified w oracle a.pre; rows = filter_map (simple_row w oracle) a.rows }

taken_as : (w : World) (s : State) (oracle : Oracle) (a : Action) (args : List Name) → IsTrueTo s oracle → IsActionAssigned w a args → IsTakenAs w s args (simple w oracle a) a
taken_as w s oracle a args true_to is = record { faults = faults; fires = fires }
  where
    fires : firing w s (simple w oracle a) args ≡ firing w s a args
    fires = rows_fire w s oracle true_to (action_assignment a args) a.rows is.rows

    pre : SameTruth w s (action_assignment a args) (simplified w oracle a.pre) s (action_assignment a args) a.pre
    pre = same_truth w s (action_assignment a args) (simplified w oracle a.pre) s (action_assignment a args) a.pre (simplified_truth w s oracle true_to (action_assignment a args) a.pre is.pre)

    faults : (fault : Fault) → ActionApplies w s (simple w oracle a) args fault ↔ ActionApplies w s a args fault
    faults unknown = same
    faults arity = same
    faults argument_type = same
    faults precondition = (λ n h. n (pre.true_where.1 h), λ n h. n (pre.true_where.0 h))
    faults condition_undefined = rows_undefined w s oracle true_to (action_assignment a args) a.rows is.rows
    faults object_undefined = by_path (ap (OfEffect ObjectUndefined s) fires)
    faults number_undefined = by_path (ap (OfEffect NumberUndefined s) fires)
    faults number_conflict = by_path (ap (NumbersConflict s) fires)
    faults object_conflict = by_path (ap (ObjectsConflict s) fires)

-- what the simplified action is, and where there is none
pub of_simple : (w : World) (oracle : Oracle) (a b : Action) → simple_action w oracle a ≡ Some b → simple w oracle a ≡ b
of_simple w oracle a b = by (is_false_formula (simplified w oracle a.pre))
  where
    by : (n : Bool) → (if n then None else Some (simple w oracle a)) ≡ Some b → simple w oracle a ≡ b
    by true h = cc
    by false h = one_some (simple w oracle a) b h

pub of_simple_pre : (w : World) (oracle : Oracle) (a b : Action) → simple_action w oracle a ≡ Some b → is_false_formula (simplified w oracle a.pre) ≡ false
of_simple_pre w oracle a b = by (is_false_formula (simplified w oracle a.pre))
  where
    by : (n : Bool) → (if n then None else Some (simple w oracle a)) ≡ Some b → n ≡ false
    by true h = cc
    by false h = refl

of_none : (w : World) (oracle : Oracle) (a : Action) → simple_action w oracle a ≡ None → is_false_formula (simplified w oracle a.pre) ≡ true
of_none w oracle a = by (is_false_formula (simplified w oracle a.pre))
  where
    by : (n : Bool) → (if n then None else Some (simple w oracle a)) ≡ None → n ≡ true
    by true h = refl
    by false h = cc

pub simple_action_keeps : (w : World) (s : State) (oracle : Oracle) (a b : Action) (args : List Name) → IsTrueTo s oracle → IsActionAssigned w a args →
    simple_action w oracle a ≡ Some b → IsTakenAs w s args b a
simple_action_keeps w s oracle a b args true_to is h =
    subst (λ b. IsTakenAs w s args b a) (of_simple w oracle a b h) (taken_as w s oracle a args true_to is)

pub no_action_fails : (w : World) (s : State) (oracle : Oracle) (a : Action) (args : List Name) → IsTrueTo s oracle → IsActionAssigned w a args →
    simple_action w oracle a ≡ None → ActionApplies w s a args precondition
no_action_fails w s oracle a args true_to is h right =
    let e : Assignment = action_assignment a args in
    let wrong : False w s e a.pre =
    not_false w s e a.pre (sym (simplified_truth w s oracle true_to e a.pre is.pre) ∙ of_never w s e (simplified w oracle a.pre) (of_none w oracle a h)) in
    apart w s e a.pre right wrong

-- ---- with any arguments

not_apart : (m n : ℕ) → (¬ m ≢ n) → m ≡ n
not_apart m n h = elim (eqb_tells m n) [ inl same ↦ same.1 | inr other ↦ absurd (h other.1) ]

pub simple_actions_are_taken : (p : Parts) (a b : Action) → IsAction p a → (w : World) (s : State) (oracle : Oracle) (args : List Name) → IsTrueTo s oracle →
    simple_action w oracle a ≡ Some b → IsTakenWith w s args b a
simple_actions_are_taken p a b is w s oracle args true_to h =
    let fits : CanBeTaken w s args b → length args ≡ length a.params =
    λ can. subst (λ b. CanBeTaken w s args b → length args ≡ length a.params) (of_simple w oracle a b h) (λ can. not_apart (length args) (length a.params) (can arity)) can in
    let taken : length args ≡ length a.params → IsTakenAs w s args b a =
    λ fit. simple_action_keeps w s oracle a b args true_to (actions_are_assigned p a is w args fit) h in
    record {
      can = (
        λ can fault k. can fault (((taken (fits can)).faults fault).1 k),
        λ can fault k. can fault (((taken (not_apart (length args) (length a.params) (can arity))).faults fault).0 k),
      );
      fires = λ can. (taken (fits can)).fires;
    }

pub dropped_are_not_taken : (p : Parts) (a : Action) → IsAction p a → (w : World) (s : State) (oracle : Oracle) (args : List Name) → IsTrueTo s oracle →
    simple_action w oracle a ≡ None → ¬ CanBeTaken w s args a
dropped_are_not_taken p a is w s oracle args true_to h can =
    can precondition (no_action_fails w s oracle a args true_to (actions_are_assigned p a is w args (not_apart (length args) (length a.params) (can arity))) h)
