-- What holds of an action's rows holds of their instances, and of the effects that fire.
use Rattle.std.proofs.Common.{Bool, true, false, List, Option, Some, None}
use Rattle.std.specs.Prelude.{if◌then◌else◌, IfSome}
use Rattle.std.specs.List.{flat_map, filter_map}
use Rattle.up_text.specs.declared.name.Name.{Name}
use Rattle.up_text.specs.Lists.{Every}
use Rattle.up_tree.specs.declared.action.Effect.{Effect}
use Rattle.up_tree.specs.declared.action.Row.{Row}
use Rattle.up_tree.specs.declared.truth.Truth.{Truth}
use Rattle.up_tree.specs.Objects.{World, Assignment, assign, tuples}
use Rattle.up_tree.specs.State.{State}
use Rattle.up_tree.specs.Judged.{truth_of, is_true}
use Rattle.up_tree.specs.Instances.{Instance, Fired, row_instances, fired}
use Rattle.semantics_laws.proofs.Lists.{each_as, each_member, each_map, each_flat_map, each_filter_map}

abbrev instance_at : Assignment → Row → List Name → Instance
instance_at e row tuple = record { assignment = assign row.vars tuple e; row = row }

-- the effect of an instance whose condition has this truth
abbrev pub fired_if : Instance → Truth → Option Fired
fired_if i v = if is_true v then Some (record { assignment = i.assignment; effect = i.row.effect }) else None

pub each_instance : (P : Row → Type 0) (w : World) (e : Assignment) (rows : List Row) → Every P rows → Every (λ i. P i.row) (flat_map (row_instances w e) rows)
each_instance P w e rows each =
    each_flat_map (λ i. P i.row) (row_instances w e) rows
    (each_as P _ (λ row h. each_map (λ i. P i.row) (instance_at e row) (tuples w row.vars) (each_member _ (tuples w row.vars) (λ tuple m. h))) rows each)

one_fired : (P : Effect → Type 0) (i : Instance) → P i.row.effect → (v : Truth) → IfSome (fired_if i v) (λ f. P f.effect)
one_fired P i h v = by (is_true v)
  where
    by : (b : Bool) → IfSome (if b then Some (let f : Fired = record { assignment = i.assignment; effect = i.row.effect } in f) else None) (λ f. P f.effect)
    by true = h
    by false = tt

pub each_fired : (P : Effect → Type 0) (w : World) (s : State) (is : List Instance) → Every (λ i. P i.row.effect) is → Every (λ f. P f.effect) (filter_map (fired w s) is)
each_fired P w s is each =
    each_filter_map (λ f. P f.effect) (fired w s) is
    (each_as (λ i. P i.row.effect) _ (λ i h. one_fired P i h (truth_of w s i.assignment i.row.when)) is each)
