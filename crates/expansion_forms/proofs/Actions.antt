-- Instances of actions, and expanded actions.
use Rattle.std.proofs.Common.{List, [], ◌++◌, take, sym, subst}
use Rattle.up_text.specs.declared.name.Name.{Name}
use Rattle.up_text.specs.Lists.{Every, Member}
use Rattle.up_tree.specs.declared.term.Typed.{Typed}
use Rattle.up_tree.specs.declared.action.Row.{Row}
use Rattle.up_tree.specs.declared.problem.Parts.{Parts}
use Rattle.up_tree.specs.Objects.{world, Assignment, assign, unassigned, tuples}
use Rattle.up_tree.specs.WellFormed.{IsWellFormed, AreVariables, IsFormula, IsRow, IsAction}
use Rattle.semantics_laws.specs.Replaced.{replacement, under}
use Rattle.semantics_laws.proofs.Lists.{each_as, each_map, each_flat_map, each_member}
use Rattle.expansion_laws.specs.Substituted.{substituted_row, instance}
use Rattle.expansion_laws.specs.Expanded.{row_at, row_expanded, action_expanded}
use Rattle.expansion_forms.specs.Covered.{Declares, Covers}
use Rattle.expansion_forms.proofs.Covering.{covers_itself, covers_arguments, covers_tuple, covers_under, first_objects}
use Rattle.expansion_forms.proofs.Terms.{effect_well}
use Rattle.expansion_forms.proofs.Formulas.{variables_well, replaced_well, expanded_well}
use Rattle.std.specs.Prelude.{◌≡◌}
use Rattle.up_tree.specs.declared.action.Action.{Action}

no_variables : (q : Parts) (scope : List Typed) → AreVariables q scope []
no_variables q scope = record { names_all = tt; differ = tt; fresh = tt; typed = tt }

module _ (p q : Parts) (well : IsWellFormed p) (declares : Declares p q) where
  substituted_well : (params : List Typed) (args : List Name) → Covers p (replacement params args) params [] → (row : Row) →
      IsRow p (take p.constants p.objects) params row → IsRow q q.objects [] (substituted_row params args row)
  substituted_well params args covers row is =
      let inside : Covers p (under row.vars (replacement params args)) (row.vars ++ params) (row.vars ++ []) = covers_under p row.vars params [] (replacement params args) covers in
      record {
        vars = variables_well p q declares params [] row.vars covers.within is.vars;
        when = replaced_well p q well declares (take p.constants p.objects) (row.vars ++ params) (row.vars ++ []) (first_objects p p.constants) (under row.vars (replacement params args)) inside row.when is.when;
        effect = effect_well p q well declares (take p.constants p.objects) (row.vars ++ params) (row.vars ++ []) (first_objects p p.constants) (under row.vars (replacement params args)) inside row.effect is.effect;
      }

  row_well : (params : List Typed) (row : Row) → IsRow p (take p.constants p.objects) params row → (tuple : List Name) → Member tuple (tuples (world p) row.vars) →
      IsRow q q.objects params (row_at (world p) (assign row.vars tuple unassigned) row)
  row_well params row is tuple m =
      let e : Assignment = assign row.vars tuple unassigned in
      let inside : Covers p e (row.vars ++ params) params = covers_tuple p well row.vars params params unassigned tuple (covers_itself p params) is.vars.differ m in
      record {
        vars = no_variables q params;
        when = expanded_well p q well declares (take p.constants p.objects) (row.vars ++ params) params (first_objects p p.constants) e inside row.when is.when;
        effect = effect_well p q well declares (take p.constants p.objects) (row.vars ++ params) params (first_objects p p.constants) e inside row.effect is.effect;
      }

pub instance_well : (p q : Parts) → IsWellFormed p → Declares p q → take q.constants q.objects ≡ q.objects →
    (name : Name) (a : Action) (args : List Name) → IsAction p a → Member args (tuples (world p) a.params) →
    IsAction q (instance name a args)
instance_well p q well declares all name a args is m =
    let covers : Covers p (replacement a.params args) a.params [] = covers_arguments p well a.params args is.params.differ m in
    record {
      params = no_variables q [];
      pre = subst (λ objects. IsFormula q objects [] (instance name a args).pre) (sym all)
          (replaced_well p q well declares (take p.constants p.objects) a.params [] (first_objects p p.constants) (replacement a.params args) covers a.pre is.pre);
      rows = subst (λ objects. Every (IsRow q objects []) (instance name a args).rows) (sym all)
          (each_map (IsRow q q.objects []) (substituted_row a.params args) a.rows
          (each_as (IsRow p (take p.constants p.objects) a.params) _ (substituted_well p q well declares a.params args covers) a.rows is.rows));
    }

pub expanded_action_well : (p q : Parts) → IsWellFormed p → Declares p q → take q.constants q.objects ≡ q.objects →
    (a : Action) → IsAction p a → IsAction q (action_expanded (world p) a)
expanded_action_well p q well declares all a is = record {
  params = variables_well p q declares [] [] a.params (λ v m. m) is.params;
  pre = subst (λ objects. IsFormula q objects a.params (action_expanded (world p) a).pre) (sym all)
      (expanded_well p q well declares (take p.constants p.objects) a.params a.params (first_objects p p.constants) unassigned (covers_itself p a.params) a.pre is.pre);
  rows = subst (λ objects. Every (IsRow q objects a.params) (action_expanded (world p) a).rows) (sym all)
      (each_flat_map (IsRow q q.objects a.params) (row_expanded (world p) unassigned) a.rows
      (each_as (IsRow p (take p.constants p.objects) a.params) _
      (λ row so. each_map (IsRow q q.objects a.params) (λ tuple. row_at (world p) (assign row.vars tuple unassigned) row) (tuples (world p) row.vars)
      (each_member _ (tuples (world p) row.vars) (row_well p q well declares a.params row so))) a.rows is.rows));
}
