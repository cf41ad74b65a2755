-- An action at typed arguments comes to what its instance comes to.
use Rattle.std.proofs.Common.{◌≡◌, ◌↔◌, List, [], map, refl, ap, sym, ◌∙◌}
use Rattle.std.specs.List.{flat_map}
use Rattle.up_text.specs.declared.name.Name.{Name}
use Rattle.up_tree.specs.declared.term.Typed.{Typed}
use Rattle.up_tree.specs.declared.action.Row.{Row}
use Rattle.up_tree.specs.declared.action.Effect.{Effect}
use Rattle.up_tree.specs.declared.action.Effect.TheVariants.{Add, Delete, Number, Object, Undefine}
use Rattle.up_tree.specs.Objects.{World, Assignment, assign, unassigned, tuples}
use Rattle.up_tree.specs.State.{State}
use Rattle.up_tree.specs.Judged.{truth_of}
use Rattle.up_tree.specs.Instances.{Instance, row_instances}
use Rattle.semantics_laws.specs.Replaced.{Replacement, replacement, under}
use Rattle.semantics_laws.proofs.Lists.{each_as, same_map}
use Rattle.semantics_laws.proofs.Replacing.{over, Fits, all_fit, under-is, assigned, replaced_value, replaced_values, replaced_number, replaced_truth}
use Rattle.expansion_laws.specs.Substituted.{replaced_effect, substituted_row, instance, substituted_effect}
use Rattle.expansion_laws.specs.Outcomes.{adds, deletes, undefines, counts, assigns, deed, outcome}
use Rattle.expansion_laws.proofs.Lists.{map_of_map, map_of_flat, flat_of_map, same_flat}
use Rattle.expansion_laws.proofs.Doing.{same_doing}
use Rattle.expansion_laws.proofs.Typed.{typed_tuples, no_fault}
use Rattle.up_text.specs.Lists.{Member}
use Rattle.up_tree.specs.declared.action.Action.{Action}
use Rattle.expansion_laws.specs.SameDoing.{SameDoing}

pub replaced_deed : (s : State) (e : Assignment) (r : Replacement) (f : Effect) → deed s e (replaced_effect r f) ≡ deed s (over r e) f
replaced_deed s e r (Add name ts) = ap (adds name) (replaced_values s e r ts)
replaced_deed s e r (Delete name ts) = ap (deletes name) (replaced_values s e r ts)
replaced_deed s e r (Number change f ts x) = λ i. counts change f (replaced_values s e r ts i) (replaced_number s e r x i)
replaced_deed s e r (Object f ts t) = λ i. assigns f (replaced_values s e r ts i) (replaced_value s e r t i)
replaced_deed s e r (Undefine f ts) = ap (undefines f) (replaced_values s e r ts)

pub effects_substitute : (s : State) (e : Assignment) (vars : List Typed) (objects : List Name) (f : Effect) →
    deed s e (substituted_effect vars objects f) ≡ deed s (assign vars objects e) f
effects_substitute s e vars objects f = replaced_deed s e (replacement vars objects) f ∙ ap (λ d. deed s d f) (assigned vars objects e)

-- ---- rows

abbrev instance_at : Assignment → Row → List Name → Instance
instance_at e row tuple = record { assignment = assign row.vars tuple e; row = row }

module _ (w : World) (s : State) (params : List Typed) (args : List Name) (d : Assignment) where
  both_at : (row : Row) (tuple : List Name) → Fits row.vars tuple →
      over (under row.vars (replacement params args)) (assign row.vars tuple d) ≡ assign row.vars tuple (assign params args d)
  both_at row tuple fits = under-is row.vars tuple (replacement params args) d fits ∙ ap (assign row.vars tuple) (assigned params args d)

  same_outcome : (row : Row) (tuple : List Name) → Fits row.vars tuple →
      outcome w s (instance_at d (substituted_row params args row) tuple) ≡ outcome w s (instance_at (assign params args d) row tuple)
  same_outcome row tuple fits =
      let r : Replacement = under row.vars (replacement params args) in
      let e : Assignment = assign row.vars tuple d in
      λ i. record {
        truth = (replaced_truth w s e r row.when ∙ ap (λ d. truth_of w s d row.when) (both_at row tuple fits)) i;
        deed = (replaced_deed s e r row.effect ∙ ap (λ d. deed s d row.effect) (both_at row tuple fits)) i;
      }

  same_row : (row : Row) → map (outcome w s) (row_instances w d (substituted_row params args row)) ≡ map (outcome w s) (row_instances w (assign params args d) row)
  same_row row =
      map_of_map (outcome w s) (instance_at d (substituted_row params args row)) (tuples w row.vars)
      ∙ same_map _ _ (tuples w row.vars) (each_as (Fits row.vars) _ (same_outcome row) (tuples w row.vars) (all_fit w row.vars))
      ∙ sym (map_of_map (outcome w s) (instance_at (assign params args d) row) (tuples w row.vars))

  same_rows : (rows : List Row) →
      map (outcome w s) (flat_map (row_instances w d) (map (substituted_row params args) rows)) ≡ map (outcome w s) (flat_map (row_instances w (assign params args d)) rows)
  same_rows rows =
      map_of_flat (outcome w s) (row_instances w d) (map (substituted_row params args) rows)
      ∙ flat_of_map (λ row. map (outcome w s) (row_instances w d row)) (substituted_row params args) rows
      ∙ same_flat _ _ rows same_row
      ∙ sym (map_of_flat (outcome w s) (row_instances w (assign params args d)) rows)

pub rows_substitute : (w : World) (s : State) (e : Assignment) (vars : List Typed) (objects : List Name) (row : Row) →
    map (outcome w s) (row_instances w e (substituted_row vars objects row))
    ≡ map (outcome w s) (row_instances w (assign vars objects e) row)
rows_substitute w s e vars objects row = same_row w s vars objects e row

-- ---- typed arguments have none of the early faults

neither : {A B : Type 0} → ¬ A → ¬ B → A ↔ B
neither n m = (λ a. absurd (n a), λ b. absurd (m b))

pub actions_substitute : (w : World) (name : Name) (a : Action) (args : List Name) → Member args (tuples w a.params) →
    SameDoing w a args w (instance name a args) []
actions_substitute w name a args member =
    let none = no_fault w a args ((typed_tuples w a.params args).0 member) in
    same_doing w a args w (instance name a args) [] (record {
      unknown_both = λ s. neither (none s).0 (λ h. h);
      arity_both = λ s. neither (none s).1 (λ n. n refl);
      type_both = λ s. neither (none s).2 (λ h. h);
      pre = λ s. sym (replaced_truth w s unassigned (replacement a.params args) a.pre ∙ ap (λ d. truth_of w s d a.pre) (assigned a.params args unassigned));
      rows = λ s. sym (same_rows w s a.params args unassigned a.rows);
    })
