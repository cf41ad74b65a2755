-- A step leaves as it was what no effect of its action changes.
use Rattle.std.proofs.Common.{◌≡◌, Bool, true, false, cond, not, ◌&&◌, ◌||◌, List, [], ◌∷◌, filter, Option, Some, None, option_map, IsSomeAnd, refl, ap, sym, ◌∙◌, subst, inl, inr}
use Rattle.std.specs.Prelude.{IfSome}
use Rattle.std.specs.List.{list_any}
use Rattle.std.specs.FinSet as set
use Rattle.up_frac.specs.Fraction.{Fraction}
use Rattle.up_text.specs.declared.name.Name.{Name}
use Rattle.up_text.specs.Lists.{Every, Somewhere}
use Rattle.up_tree.specs.declared.action.Action.{Action}
use Rattle.up_tree.specs.declared.action.Change.{Change}
use Rattle.up_tree.specs.declared.action.Effect.{Effect}
use Rattle.up_tree.specs.declared.action.Effect.TheVariants.{Add, Delete, Number, Object, Undefine}
use Rattle.up_tree.specs.declared.action.Row.{Row}
use Rattle.up_tree.specs.Objects.{World, world, Assignment, action_named}
use Rattle.up_tree.specs.State.{State, Ground, ground, number_at, object_at}
use Rattle.up_tree.specs.Value.{term_value, values_of, number}
use Rattle.up_tree.specs.Instances.{action_assignment, instances, firing}
use Rattle.up_tree.specs.Changes.{NumberChange, ObjectChange, added, deleted, number_change, object_change, of_firing, is_at, objects_at, new_number, new_object, changed}
use Rattle.up_tree.proofs.States.{contains-changed, number_at-changed}
use Rattle.semantics_laws.specs.Symbols.{Symbol, predicate, function, target, AgreeOn, StepChanges}
use Rattle.semantics_laws.proofs.Lists.{each_as, each_filter_map}
use Rattle.semantics_laws.proofs.Tables.{tied, none_put}
use Rattle.semantics_laws.proofs.Firing.{each_instance, each_fired}
use Rattle.semantics_laws.proofs.Stepping.{number_change_of, object_change_of, undefining}
use Rattle.up_tree.specs.declared.problem.Parts.{Parts}
use Rattle.up_tree.specs.declared.problem.Step.{Step}
use Rattle.up_tree.specs.Faults.{IsNext}

-- ---- lists none of whose elements stand at a place

module _ {C : Type 0} (key : C → Ground) (q : Ground) where
  not_there : (c : C) → ¬ (q ≡ key c) → is_at q (key c) ≡ false
  not_there c n = by (is_at q (key c)) refl
    where
      by : (b : Bool) → is_at q (key c) ≡ b → b ≡ false
      by true at = absurd (n (tied q (key c) at))
      by false at = refl

  pub none_there : (cs : List C) → Every (λ c. ¬ (q ≡ key c)) cs → list_any (λ c. is_at q (key c)) cs ≡ false
  none_there [] each = refl
  none_there (c ∷ cs) each = λ i. not_there c each.0 i || none_there cs each.1 i

  none_kept : (cs : List C) → Every (λ c. ¬ (q ≡ key c)) cs → filter (λ c. is_at q (key c)) cs ≡ []
  none_kept [] each = refl
  none_kept (c ∷ cs) each = (λ i. cond (not_there c each.0 i) (c ∷ filter (λ c. is_at q (key c)) cs) (filter (λ c. is_at q (key c)) cs)) ∙ none_kept cs each.1

-- ---- what an effect on another symbol makes stands elsewhere

other_name : (name other : Name) (objects rest : List Name) → ground name objects ≡ ground other rest → name ≡ other
other_name name other objects rest e = cc

module _ (s : State) (name : Name) (objects : List Name) where
  atom_apart : (other : Name) → ¬ (predicate name ≡ predicate other) → (v : Option (List Name)) →
      IfSome (option_map (ground other) v) (λ a. ¬ (ground name objects ≡ a))
  atom_apart other n None = tt
  atom_apart other n (Some rest) = λ e. n (ap predicate (other_name name other objects rest e))

  pub added_apart : (e : Assignment) (f : Effect) → ¬ (predicate name ≡ target f) → IfSome (added s e f) (λ a. ¬ (ground name objects ≡ a))
  added_apart e (Add other us) n = atom_apart other n (values_of s e us)
  added_apart e (Delete other us) n = tt
  added_apart e (Number change g us y) n = tt
  added_apart e (Object g us u) n = tt
  added_apart e (Undefine g us) n = tt

  pub deleted_apart : (e : Assignment) (f : Effect) → ¬ (predicate name ≡ target f) → IfSome (deleted s e f) (λ a. ¬ (ground name objects ≡ a))
  deleted_apart e (Add other us) n = tt
  deleted_apart e (Delete other us) n = atom_apart other n (values_of s e us)
  deleted_apart e (Number change g us y) n = tt
  deleted_apart e (Object g us u) n = tt
  deleted_apart e (Undefine g us) n = tt

  number_apart : (change : Change) (g : Name) → ¬ (function name ≡ function g) → (v : Option (List Name)) (o : Option Fraction) →
      IfSome (number_change_of change (option_map (ground g) v) o) (λ c. ¬ (ground name objects ≡ c.target))
  number_apart change g n None o = tt
  number_apart change g n (Some rest) None = tt
  number_apart change g n (Some rest) (Some x) = λ e. n (ap function (other_name name g objects rest e))

  number_change_apart : (e : Assignment) (f : Effect) → ¬ (function name ≡ target f) → IfSome (number_change s e f) (λ c. ¬ (ground name objects ≡ c.target))
  number_change_apart e (Add other us) n = tt
  number_change_apart e (Delete other us) n = tt
  number_change_apart e (Number change g us y) n = number_apart change g n (values_of s e us) (number s e y)
  number_change_apart e (Object g us u) n = tt
  number_change_apart e (Undefine g us) n = tt

  object_apart : (g : Name) → ¬ (function name ≡ function g) → (v : Option (List Name)) (o : Option Name) →
      IfSome (object_change_of (option_map (ground g) v) o) (λ c. ¬ (ground name objects ≡ c.target))
  object_apart g n None o = tt
  object_apart g n (Some rest) None = tt
  object_apart g n (Some rest) (Some x) = λ e. n (ap function (other_name name g objects rest e))

  undefined_apart : (g : Name) → ¬ (function name ≡ function g) → (v : Option (List Name)) →
      IfSome (undefining (option_map (ground g) v)) (λ c. ¬ (ground name objects ≡ c.target))
  undefined_apart g n None = tt
  undefined_apart g n (Some rest) = λ e. n (ap function (other_name name g objects rest e))

  object_change_apart : (e : Assignment) (f : Effect) → ¬ (function name ≡ target f) → IfSome (object_change s e f) (λ c. ¬ (ground name objects ≡ c.target))
  object_change_apart e (Add other us) n = tt
  object_change_apart e (Delete other us) n = tt
  object_change_apart e (Number change g us y) n = tt
  object_change_apart e (Object g us u) n = object_apart g n (values_of s e us) (term_value s e u)
  object_change_apart e (Undefine g us) n = undefined_apart g n (values_of s e us)

-- ---- the state after a step

no_row : (x : Symbol) (rows : List Row) → ¬ Somewhere (λ row. x ≡ target row.effect) rows → Every (λ row. ¬ (x ≡ target row.effect)) rows
no_row x [] n = tt
no_row x (row ∷ rows) n = ((λ e. n (inl e)), no_row x rows (λ h. n (inr h)))

still : (b : Bool) → ((b && not false) || false) ≡ b
still true = refl
still false = refl

module _ (w : World) (s : State) (a : Action) (args : List Name) where
  firing_apart : (x : Symbol) → ¬ Somewhere (λ row. x ≡ target row.effect) a.rows → Every (λ f. ¬ (x ≡ target f.effect)) (firing w s a args)
  firing_apart x n =
      each_fired (λ f. ¬ (x ≡ target f)) w s (instances w a args)
      (each_instance (λ row. ¬ (x ≡ target row.effect)) w (action_assignment a args) a.rows (no_row x a.rows n))

  -- none of what the firing effects make stands there
  pub made_apart : {A : Type 0} (x : Symbol) (P : A → Type 0) (what : State → Assignment → Effect → Option A) →
      ((e : Assignment) (f : Effect) → ¬ (x ≡ target f) → IfSome (what s e f) P) → ¬ Somewhere (λ row. x ≡ target row.effect) a.rows →
      Every P (of_firing what s (firing w s a args))
  made_apart x P what each n =
      each_filter_map P (λ f. what s f.assignment f.effect) (firing w s a args)
      (each_as (λ f. ¬ (x ≡ target f.effect)) _ (λ f h. each f.assignment f.effect h) (firing w s a args) (firing_apart x n))

  atom_stays : (name : Name) → ¬ Somewhere (λ row. predicate name ≡ target row.effect) a.rows → (objects : List Name) →
      set.contains (changed s (firing w s a args)).atoms (ground name objects) ≡ set.contains s.atoms (ground name objects)
  atom_stays name n objects =
      let q : Ground = ground name objects in
      let no_deleted : list_any (is_at q) (of_firing deleted s (firing w s a args)) ≡ false =
      none_there (λ a. a) q (of_firing deleted s (firing w s a args)) (made_apart (predicate name) (λ a. ¬ (q ≡ a)) deleted (deleted_apart s name objects) n)
      in
      let no_added : list_any (is_at q) (of_firing added s (firing w s a args)) ≡ false =
      none_there (λ a. a) q (of_firing added s (firing w s a args)) (made_apart (predicate name) (λ a. ¬ (q ≡ a)) added (added_apart s name objects) n)
      in
      contains-changed s (firing w s a args) q ∙ (λ i. (set.contains s.atoms q && not (no_deleted i)) || no_added i) ∙ still (set.contains s.atoms q)

  number_stays : (name : Name) → ¬ Somewhere (λ row. function name ≡ target row.effect) a.rows → (objects : List Name) →
      number_at (changed s (firing w s a args)) (ground name objects) ≡ number_at s (ground name objects)
  number_stays name n objects =
      let q : Ground = ground name objects in
      number_at-changed s (firing w s a args) q
      ∙ ap (new_number (number_at s q))
      (none_kept (λ (c : NumberChange). c.target) q (of_firing number_change s (firing w s a args))
      (made_apart (function name) (λ (c : NumberChange). ¬ (q ≡ c.target)) number_change (number_change_apart s name objects) n))

  object_stays : (name : Name) → ¬ Somewhere (λ row. function name ≡ target row.effect) a.rows → (objects : List Name) →
      object_at (changed s (firing w s a args)) (ground name objects) ≡ object_at s (ground name objects)
  unfolding changed
  object_stays name n objects =
      let q : Ground = ground name objects in
      let cs : List ObjectChange = of_firing object_change s (firing w s a args) in
      none_put (λ (c : ObjectChange). c.target) (λ k. new_object (object_at s k) (objects_at k cs)) q cs s.values
      (made_apart (function name) (λ (c : ObjectChange). ¬ (q ≡ c.target)) object_change (object_change_apart s name objects) n)

  all_stay : AgreeOn (λ x. ¬ Somewhere (λ row. x ≡ target row.effect) a.rows) s (changed s (firing w s a args))
  all_stay = record {
    atoms = λ name n objects. (λ h. atom_stays name n objects ∙ h, λ h. sym (atom_stays name n objects) ∙ h);
    numbers = λ name n objects. sym (number_stays name n objects);
    values = λ name n objects. sym (object_stays name n objects);
  }

pub rest_stays : (p : Parts) (s : State) (step : Step) (next : State) → IsNext p s step next → AgreeOn (λ x. ¬ StepChanges p step x) s next
rest_stays p s step next = by (action_named p step.action)
  where
    by : (found : Option Action) → IsSomeAnd found (λ a. next ≡ changed s (firing (world p) s a step.args)) →
        AgreeOn (λ x. ¬ IsSomeAnd found (λ a. Somewhere (λ row. x ≡ target row.effect) a.rows)) s next
    by None h = absurd h
    by (Some a) h = subst (λ u. AgreeOn (λ x. ¬ Somewhere (λ row. x ≡ target row.effect) a.rows) s u) (sym h) (all_stay (world p) s a step.args)
