-- A variant whose literals are true fires what the action fires.
use Rattle.std.proofs.Common.{◌≡◌, ◌↔◌, Bool, true, false, cond, List, [], ◌∷◌, map, filter_map, Some, None, refl, ap, sym, ◌∙◌, subst, ⊎_elim}
use Rattle.std.specs.List.{cons_option}
use Rattle.up_text.specs.declared.name.Name.{Name}
use Rattle.up_text.specs.Lists.{Every, Somewhere}
use Rattle.up_tree.specs.declared.action.Action.{Action}
use Rattle.up_tree.specs.declared.action.Row.{Row}
use Rattle.up_tree.specs.declared.formula.Formula.{Formula, And}
use Rattle.up_tree.specs.Objects.{World, Assignment}
use Rattle.up_tree.specs.State.{State}
use Rattle.up_tree.specs.Truth.{True, False, IsUndefined}
use Rattle.up_tree.specs.Instances.{action_assignment, instances, fired, firing}
use Rattle.up_tree.specs.Changes.{changed}
use Rattle.up_tree.specs.Faults.{Fault, unknown, arity, argument_type, precondition, condition_undefined, object_undefined, number_undefined, number_conflict, object_conflict, ActionApplies, ObjectUndefined, NumberUndefined, OfEffect, NumbersConflict, ObjectsConflict}
use Rattle.up_tree.specs.Simplify.{simplified, knows_nothing, true_formula}
use Rattle.up_tree.proofs.Judging.{decided}
use Rattle.up_tree.proofs.Nodes.{True-And}
use Rattle.step_laws.specs.SplitLaw.{CanTakeBy, next_by}
use Rattle.conditionals_laws.specs.Conditionals.{Choice, literal, is_chosen, chosen_row}
use Rattle.compiling_laws.proofs.Bare.{AreBare, plain, plain_instances, fires, rests}
use Rattle.conditionals_laws.proofs.Choosing.{Decides}

bare_kept : (choice : List Choice) (rows : List Row) → AreBare rows → AreBare (filter_map (chosen_row choice) rows)
bare_kept choice [] h = tt
bare_kept choice (r ∷ rows) h =
    elim (is_chosen choice r.when) as (λ b. AreBare (cons_option (cond b (Some (let k : Row = record { vars = r.vars; when = true_formula; effect = r.effect } in k)) None) (filter_map (chosen_row choice) rows))) [
      | true ↦ (h.0, bare_kept choice rows h.1)
      | false ↦ bare_kept choice rows h.1
    ]

module _ (w : World) (s : State) (e : Assignment) where
  always_is : True w s e true_formula
  always_is = subst (λ X. X) (sym (True-And w s e [])) tt

  same_fired : (choice : List Choice) (rows : List Row) → Every (λ r. Decides w s e choice r.when) rows
      → filter_map (fired w s) (map (plain w s e) rows) ≡ filter_map (fired w s) (map (plain w s e) (filter_map (chosen_row choice) rows))
  same_fired choice [] d = refl
  same_fired choice (r ∷ rows) d = by (is_chosen choice r.when) d.0.0 d.0.1 (same_fired choice rows d.1)
    where
      kept : Row
      kept = record { vars = r.vars; when = true_formula; effect = r.effect }

      by : (b : Bool) → (b ≡ true → True w s e r.when) → (b ≡ false → False w s e r.when)
          → filter_map (fired w s) (map (plain w s e) rows) ≡ filter_map (fired w s) (map (plain w s e) (filter_map (chosen_row choice) rows))
          → cons_option (fired w s (plain w s e r)) (filter_map (fired w s) (map (plain w s e) rows))
          ≡ filter_map (fired w s) (map (plain w s e) (cons_option (cond b (Some (let k : Row = record { vars = r.vars; when = true_formula; effect = r.effect } in k)) None) (filter_map (chosen_row choice) rows)))
      by true yes_ no_ more = λ i. cons_option ((fires w s e r (yes_ refl) ∙ sym (fires w s e kept always_is)) i) (more i)
      by false yes_ no_ more = λ i. cons_option (rests w s e r (no_ refl) i) (more i)

  none_undecided : (choice : List Choice) (rows : List Row) → Every (λ r. Decides w s e choice r.when) rows
      → Somewhere (λ i. IsUndefined w s i.assignment i.row.when) (map (plain w s e) rows) → ⊥
  none_undecided choice [] d = λ h. h
  none_undecided choice (r ∷ rows) d = ⊎_elim (by (is_chosen choice r.when) d.0.0 d.0.1) (none_undecided choice rows d.1)
    where
      by : (b : Bool) → (b ≡ true → True w s e r.when) → (b ≡ false → False w s e r.when) → IsUndefined w s e r.when → ⊥
      by true f g h = h.0 (f refl)
      by false f g h = h.1 (g refl)

  all_decided : (choice : List Choice) (rows : List Row) → Somewhere (λ i. IsUndefined w s i.assignment i.row.when) (map (plain w s e) (filter_map (chosen_row choice) rows)) → ⊥
  all_decided choice [] = λ h. h
  all_decided choice (r ∷ rows) = by (is_chosen choice r.when) (all_decided choice rows)
    where
      by : (b : Bool) → (Somewhere (λ i. IsUndefined w s i.assignment i.row.when) (map (plain w s e) (filter_map (chosen_row choice) rows)) → ⊥)
          → Somewhere (λ i. IsUndefined w s i.assignment i.row.when)
          (map (plain w s e) (cons_option (cond b (Some (let k : Row = record { vars = r.vars; when = true_formula; effect = r.effect } in k)) None) (filter_map (chosen_row choice) rows))) → ⊥
      by true more = ⊎_elim (λ h. h.0 always_is) more
      by false more = more

module _ (w : World) (s : State) (a : Action) (name : Name) (args : List Name) (choice : List Choice) where
  abbrev pub chosen_pre : Formula
  chosen_pre = And (a.pre ∷ map literal choice)

  abbrev pub v : Action
  v = record { name = name; params = a.params; pre = simplified w knows_nothing chosen_pre; rows = filter_map (chosen_row choice) a.rows }

  abbrev pub e : Assignment
  e = action_assignment a args

  -- `keeps` is the law of simplification at the variant's precondition
  module _ (bare : AreBare a.rows) (keeps : True w s e v.pre ↔ True w s e chosen_pre)
      (decides : Every (True w s e) (map literal choice) → Every (λ r. Decides w s e choice r.when) a.rows) where
    instances_a : instances w a args ≡ map (plain w s e) a.rows
    instances_a = plain_instances w s e a.rows bare

    instances_v : instances w v args ≡ map (plain w s e) (filter_map (chosen_row choice) a.rows)
    instances_v = plain_instances w s e (filter_map (chosen_row choice) a.rows) (bare_kept choice a.rows bare)

    same_firing : Every (True w s e) (map literal choice) → firing w s a args ≡ firing w s v args
    same_firing literals =
        ap (filter_map (fired w s)) instances_a ∙ same_fired w s e choice a.rows (decides literals) ∙ sym (ap (filter_map (fired w s)) instances_v)

    -- what the variant's precondition says
    says : CanTakeBy w s v args → True w s e a.pre × Every (True w s e) (map literal choice)
    says can =
        let there : True w s e v.pre = ⊎_elim (λ h. h) (λ n. absurd (can precondition n)) (decided w s e v.pre) in
        subst (λ X. X) (True-And w s e (a.pre ∷ map literal choice)) (keeps.0 there)

    pub variant_kept : CanTakeBy w s v args → CanTakeBy w s a args
    variant_kept can = by
      where
        same : firing w s a args ≡ firing w s v args
        same = same_firing (says can).1

        by : (fault : Fault) → ¬ ActionApplies w s a args fault
        by unknown = can unknown
        by arity = can arity
        by argument_type = can argument_type
        by precondition = λ h. h (says can).0
        by condition_undefined = λ h. none_undecided w s e choice a.rows (decides (says can).1) (subst (Somewhere (λ i. IsUndefined w s i.assignment i.row.when)) instances_a h)
        by object_undefined = λ h. can object_undefined (subst (OfEffect ObjectUndefined s) same h)
        by number_undefined = λ h. can number_undefined (subst (OfEffect NumberUndefined s) same h)
        by number_conflict = λ h. can number_conflict (subst (NumbersConflict s) same h)
        by object_conflict = λ h. can object_conflict (subst (ObjectsConflict s) same h)

    pub variant_followed : CanTakeBy w s a args → Every (True w s e) (map literal choice) → CanTakeBy w s v args
    variant_followed can literals = by
      where
        same : firing w s v args ≡ firing w s a args
        same = sym (same_firing literals)

        there : True w s e v.pre
        there =
            let pre_true : True w s e a.pre = ⊎_elim (λ h. h) (λ n. absurd (can precondition n)) (decided w s e a.pre) in
            keeps.1 (subst (λ X. X) (sym (True-And w s e (a.pre ∷ map literal choice))) (pre_true, literals))

        by : (fault : Fault) → ¬ ActionApplies w s v args fault
        by unknown = can unknown
        by arity = can arity
        by argument_type = can argument_type
        by precondition = λ h. h there
        by condition_undefined = λ h. all_decided w s e choice a.rows (subst (Somewhere (λ i. IsUndefined w s i.assignment i.row.when)) instances_v h)
        by object_undefined = λ h. can object_undefined (subst (OfEffect ObjectUndefined s) same h)
        by number_undefined = λ h. can number_undefined (subst (OfEffect NumberUndefined s) same h)
        by number_conflict = λ h. can number_conflict (subst (NumbersConflict s) same h)
        by object_conflict = λ h. can object_conflict (subst (ObjectsConflict s) same h)

    -- its precondition is true where the action can be taken and the literals are
    pub variant_true : CanTakeBy w s a args → Every (True w s e) (map literal choice) → True w s e v.pre
    variant_true can literals =
        let pre_true : True w s e a.pre = ⊎_elim (λ h. h) (λ n. absurd (can precondition n)) (decided w s e a.pre) in
        keeps.1 (subst (λ X. X) (sym (True-And w s e (a.pre ∷ map literal choice))) (pre_true, literals))

    pub variant_next : CanTakeBy w s v args → next_by w s a args ≡ next_by w s v args
    variant_next can = ap (changed s) (same_firing (says can).1)
