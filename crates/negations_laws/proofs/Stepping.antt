-- Steps of a problem and of the one with twins go along with one another.
use Rattle.std.proofs.Common.{◌≡◌, ◌↔◌, ◌≤◌, Bool, true, false, not as flip, ◌&&◌, ◌||◌, List, [], ◌∷◌, map, take, fold, length, append-nil, Option, Some, None, IsSome, refl, ap, sym, ◌∙◌, subst, inl, inr, ⊎_elim}
use Rattle.std.specs.List.{list_any, flat_map}
use Rattle.std.specs.FinSet as set
use Rattle.std.specs.FinMap as table
use Rattle.up_text.specs.declared.name.Name.{Name}
use Rattle.up_text.specs.Names.{same_name}
use Rattle.up_text.specs.Lists.{Every, Somewhere, Member}
use Rattle.up_tree.specs.declared.action.Action.{Action}
use Rattle.up_tree.specs.declared.action.Row.{Row}
use Rattle.up_tree.specs.declared.action.Effect.{Effect}
use Rattle.up_tree.specs.declared.action.Effect.TheVariants.{Add, Delete}
use Rattle.up_tree.specs.declared.term.Typed.{Typed}
use Rattle.up_tree.specs.declared.problem.Parts.{Parts}
use Rattle.up_tree.specs.declared.problem.Predicate.{Predicate}
use Rattle.up_tree.specs.Objects.{World, world, Assignment, named, tuples, unassigned}
use Rattle.up_tree.specs.State.{State, Ground, ground, number_at, object_at}
use Rattle.up_tree.specs.Truth.{True}
use Rattle.up_tree.specs.Judged.{truth_of}
use Rattle.up_tree.specs.Instances.{action_assignment, firing}
use Rattle.up_tree.specs.Changes.{ObjectChange, added, deleted, number_change, object_change, of_firing, changes_at, objects_at, is_at, new_number, new_object, put, changed}
use Rattle.up_tree.specs.Faults.{Fault, unknown, arity, argument_type, precondition, condition_undefined, object_undefined, number_undefined, number_conflict, object_conflict, ObjectUndefined, NumberUndefined, IsShift, OfEffect, ActionApplies}
use Rattle.up_tree.specs.WellFormed.{IsWellFormed, IsAction, ObjectsFit}
use Rattle.up_tree.proofs.States.{contains-changed, number_at-changed}
use Rattle.up_kind.specs.Meeting.{has_meeting_rows}
use Rattle.semantics_laws.specs.Symbols.{Symbol, ActionNames, AgreeOn}
use Rattle.semantics_laws.proofs.Agreeing.{same_atom, same_judged}
use Rattle.semantics_laws.proofs.Tables.{tied}
use Rattle.up_tree.proofs.Judging.{decided}
use Rattle.semantics_laws.proofs.Stepping.{same_faults, agree_next}
use Rattle.condition_laws.specs.Shapes.{IsNormal}
use Rattle.condition_laws.proofs.Running.{agree_over}
use Rattle.expansion_laws.proofs.Doing.{by_path, after, denied}
use Rattle.expansion_laws.proofs.Truths.{true_together}
use Rattle.expansion_laws.proofs.Typed.{arguments_typed}
use Rattle.expansion_forms.specs.Covered.{Covers}
use Rattle.expansion_forms.proofs.Covering.{covers_tuple, covers_itself, first_objects}
use Rattle.step_laws.specs.SplitLaw.{CanTakeBy, next_by}
use Rattle.compiling_laws.proofs.Bare.{AreBare}
use Rattle.compiling_laws.proofs.Lists.{false_true, any_true, member_map}
use Rattle.step_laws.proofs.Lists.{every_at}
use Rattle.negations_laws.specs.Twins.{main_conditions, Twin, words, twins_in, differ_in, with_twin, positive_action}
use Rattle.negations_laws.specs.Related.{IsOld, AreTwinned}
use Rattle.negations_laws.proofs.Values.{NoObjectFunctions, action_names}
use Rattle.negations_laws.proofs.Truth.{positive_truth}
use Rattle.negations_laws.proofs.Words.{twin_is_of, twin_not_old, differ_not_old, differ_no_twin, served}
use Rattle.negations_laws.proofs.Apart.{not_both}
use Rattle.negations_laws.proofs.Doing.{AreAlways, twins_bare, twins_always, fire, all_fire, none_undefined, made_by, same_made, of_rows, to_rows, some_without, some_with, hits, any_made}
use Rattle.negations_laws.proofs.Hitting.{old_deleted, old_added, other_deleted, other_added, new_deleted, new_added}

-- a problem in normal form that the compiler accepts
pub record IsAccepted (p : Parts) : Type 0 where
  pub formed : IsWellFormed p
  pub normal : Every IsNormal (main_conditions p)
  pub none : NoObjectFunctions p
  pub bare : Every (λ a. AreBare a.rows) p.actions
  pub always : Every (λ a. AreAlways a.rows) p.actions
  pub apart : Every (λ a. has_meeting_rows p a ≡ false) p.actions
  pub free : p.constraints ≡ []

-- what is deleted and added, and what isn't both
turned : (h d a : Bool) → (d ≡ true → a ≡ true → ⊥) → ((flip h && flip a) || d) ≡ flip ((h && flip d) || a)
turned true true true n = absurd (n refl refl)
turned true true false n = refl
turned true false true n = refl
turned true false false n = refl
turned false true true n = absurd (n refl refl)
turned false true false n = refl
turned false false true n = refl
turned false false false n = refl

still : (b : Bool) → ((b && flip false) || false) ≡ b
still true = refl
still false = refl

pub member_pre : (actions : List Action) (a : Action) → Member a actions → Member a.pre (map (λ (a : Action). a.pre) actions)
member_pre [] a m = absurd m
member_pre (b ∷ actions) a (inl e) = inl (ap (λ (a : Action). a.pre) e)
member_pre (b ∷ actions) a (inr m) = inr (member_pre actions a m)

module _ (p : Parts) (ready : IsAccepted p) (a : Action) (m : Member a p.actions) (args : List Name) where
  abbrev w : World
  w = world p

  abbrev twins : List Twin
  twins = twins_in p

  abbrev b : Action
  b = positive_action (words p) a

  abbrev e : Assignment
  e = action_assignment a args

  abbrev constants : List Typed
  constants = take p.constants p.objects

  is_action : IsAction p a
  is_action = every_at (IsAction p) p.actions a ready.formed.actions m

  bare : AreBare a.rows
  bare = every_at (λ (a : Action). AreBare a.rows) p.actions a ready.bare m

  always : AreAlways a.rows
  always = every_at (λ (a : Action). AreAlways a.rows) p.actions a ready.always m

  apart : has_meeting_rows p a ≡ false
  apart = every_at (λ (a : Action). has_meeting_rows p a ≡ false) p.actions a ready.apart m

  -- arguments without a fault cover the parameters
  covers_args : Member args (tuples w a.params) → Covers p e a.params []
  covers_args typed =
      subst (λ scope. Covers p e scope []) (append-nil a.params)
      (covers_tuple p ready.formed a.params [] [] unassigned args (covers_itself p []) is_action.params.differ typed)

  typed_a : (s : State) → CanTakeBy w s a args → Member args (tuples w a.params)
  typed_a s can = (arguments_typed w s a args).1 (can unknown, can arity, can argument_type)

  typed_b : (t : State) → CanTakeBy w t b args → Member args (tuples w a.params)
  typed_b t can = (arguments_typed w t a args).1 (can unknown, can arity, can argument_type)

  firing_a : (s : State) → firing w s a args ≡ map (fire e) a.rows
  firing_a s = all_fire w s e a.rows bare always

  firing_b : (t : State) → firing w t b args ≡ map (fire e) (flat_map (with_twin twins) a.rows)
  firing_b t = all_fire w t e (flat_map (with_twin twins) a.rows) (twins_bare twins a.rows bare) (twins_always twins a.rows always)

  -- ---- faults

  module _ (t : State) where
    same_of : {A : Type 0} (what : State → Assignment → Effect → Option A) → ((name : Name) (ts : _) → what t e (Add name ts) ≡ None) →
        ((name : Name) (ts : _) → what t e (Delete name ts) ≡ None) → of_firing what t (firing w t b args) ≡ of_firing what t (firing w t a args)
    same_of what no_add no_delete =
        ap (of_firing what t) (firing_b t) ∙ made_by what t e (flat_map (with_twin twins) a.rows) ∙ same_made what t e twins no_add no_delete a.rows
        ∙ sym (made_by what t e a.rows) ∙ sym (ap (of_firing what t) (firing_a t))

    same_numbers : of_firing number_change t (firing w t b args) ≡ of_firing number_change t (firing w t a args)
    same_numbers = same_of number_change (λ name ts. refl) (λ name ts. refl)

    same_objects : of_firing object_change t (firing w t b args) ≡ of_firing object_change t (firing w t a args)
    same_objects = same_of object_change (λ name ts. refl) (λ name ts. refl)

    same_effects : (What : State → Assignment → Effect → Type 0) → ((name other : Name) (ts : _) → What t e (Delete other ts) → What t e (Add name ts)) →
        ((name other : Name) (ts : _) → What t e (Add other ts) → What t e (Delete name ts)) → OfEffect What t (firing w t b args) ↔ OfEffect What t (firing w t a args)
    same_effects What as_delete as_add = (
      λ h. subst (OfEffect What t) (sym (firing_a t)) (to_rows What t e a.rows
          (some_without What t e twins as_delete as_add a.rows (of_rows What t e (flat_map (with_twin twins) a.rows) (subst (OfEffect What t) (firing_b t) h)))),
      λ h. subst (OfEffect What t) (sym (firing_b t)) (to_rows What t e (flat_map (with_twin twins) a.rows)
          (some_with What t e twins a.rows (of_rows What t e a.rows (subst (OfEffect What t) (firing_a t) h)))),
    )

    twin_faults : (truth_of w t e b.pre ≡ truth_of w t e a.pre) → (fault : Fault) → ActionApplies w t b args fault ↔ ActionApplies w t a args fault
    twin_faults same unknown = ((λ h. h), (λ h. h))
    twin_faults same arity = ((λ h. h), (λ h. h))
    twin_faults same argument_type = ((λ h. h), (λ h. h))
    twin_faults same precondition = denied (true_together w e b.pre w e a.pre t same)
    twin_faults same condition_undefined = (
      (λ h. absurd (none_undefined w t e (flat_map (with_twin twins) a.rows) (twins_bare twins a.rows bare) (twins_always twins a.rows always) h)),
      (λ h. absurd (none_undefined w t e a.rows bare always h)),
    )
    twin_faults same object_undefined = same_effects ObjectUndefined (λ name other ts h. h) (λ name other ts h. h)
    twin_faults same number_undefined = same_effects NumberUndefined (λ name other ts h. h) (λ name other ts h. h)
    twin_faults same number_conflict =
        by_path (λ i. (q : Ground) × let changes = changes_at q (same_numbers i) in
        (2 ≤ length changes) × Somewhere (λ c. ¬ IsShift c.change) changes)
    twin_faults same object_conflict =
        by_path (λ i. (q : Ground) × let changes = objects_at q (same_objects i) in
        Somewhere (λ c. Somewhere (λ d. ¬ (c.value ≡ d.value)) changes) changes)

  module _ (s t : State) (related : AreTwinned p s t) where
    within : (x : Symbol) → ActionNames a x → IsOld p x
    within = action_names p a is_action

    old_faults : (fault : Fault) → ActionApplies w s a args fault ↔ ActionApplies w t a args fault
    old_faults fault = same_faults (IsOld p) s t related.old w a args within fault

    pre_truth : Covers p e a.params [] → truth_of w t e b.pre ≡ truth_of w t e a.pre
    pre_truth covers =
        positive_truth p ready.formed ready.none s t related constants (first_objects p p.constants) a.params e covers a.pre is_action.pre
        (every_at IsNormal (main_conditions p) a.pre ready.normal (inr (member_pre p.actions a m)))
        (served p ready.formed a.pre (inr (member_pre p.actions a m)))
        ∙ same_judged (IsOld p) s t related.old w e a.pre (λ x h. within x (inl h))

    all_faults : Covers p e a.params [] → (fault : Fault) → ActionApplies w t b args fault ↔ ActionApplies w s a args fault
    all_faults covers fault = after (twin_faults t (pre_truth covers) fault) ((old_faults fault).1, (old_faults fault).0)

    pub followed_by : CanTakeBy w s a args → CanTakeBy w t b args
    followed_by can fault h = can fault ((all_faults (covers_args (typed_a s can)) fault).0 h)

    pub kept_by : CanTakeBy w t b args → CanTakeBy w s a args
    kept_by can fault h = can fault ((all_faults (covers_args (typed_b t can)) fault).1 h)

    -- ---- the next states

    abbrev next_s : State
    next_s = changed s (firing w s a args)

    abbrev next_a : State
    next_a = changed t (firing w t a args)

    abbrev next_b : State
    next_b = changed t (firing w t b args)

    deleted_a : (q : Ground) → list_any (is_at q) (of_firing deleted t (firing w t a args)) ≡ list_any (λ (r : Row). hits q (deleted t e r.effect)) a.rows
    deleted_a q = ap (λ fs. list_any (is_at q) (of_firing deleted t fs)) (firing_a t) ∙ ap (list_any (is_at q)) (made_by deleted t e a.rows) ∙ any_made q (λ (r : Row). deleted t e r.effect) a.rows

    added_a : (q : Ground) → list_any (is_at q) (of_firing added t (firing w t a args)) ≡ list_any (λ (r : Row). hits q (added t e r.effect)) a.rows
    added_a q = ap (λ fs. list_any (is_at q) (of_firing added t fs)) (firing_a t) ∙ ap (list_any (is_at q)) (made_by added t e a.rows) ∙ any_made q (λ (r : Row). added t e r.effect) a.rows

    deleted_b : (q : Ground) → list_any (is_at q) (of_firing deleted t (firing w t b args)) ≡ list_any (λ (r : Row). hits q (deleted t e r.effect)) (flat_map (with_twin twins) a.rows)
    deleted_b q =
        ap (λ fs. list_any (is_at q) (of_firing deleted t fs)) (firing_b t) ∙ ap (list_any (is_at q)) (made_by deleted t e (flat_map (with_twin twins) a.rows))
        ∙ any_made q (λ (r : Row). deleted t e r.effect) (flat_map (with_twin twins) a.rows)

    added_b : (q : Ground) → list_any (is_at q) (of_firing added t (firing w t b args)) ≡ list_any (λ (r : Row). hits q (added t e r.effect)) (flat_map (with_twin twins) a.rows)
    added_b q =
        ap (λ fs. list_any (is_at q) (of_firing added t fs)) (firing_b t) ∙ ap (list_any (is_at q)) (made_by added t e (flat_map (with_twin twins) a.rows))
        ∙ any_made q (λ (r : Row). added t e r.effect) (flat_map (with_twin twins) a.rows)

    old_stays : (n : Name) (os : List Name) → Member n (map (λ (d : Predicate). d.name) p.predicates) → set.contains next_a.atoms (ground n os) ≡ set.contains next_b.atoms (ground n os)
    old_stays n os old =
        let q : Ground = ground n os in
        let out : (x : Twin) → Member x twins → ¬ (n ≡ x.name) =
        (λ x k same. twin_not_old p x k (subst (λ z. Member z (map (λ (d : Predicate). d.name) p.predicates)) same old)) in
        contains-changed t (firing w t a args) q
        ∙ (λ i. (set.contains t.atoms q && flip ((deleted_a q ∙ sym (old_deleted p t e constants a.params a.rows is_action.rows n os out) ∙ sym (deleted_b q)) i))
        || (added_a q ∙ sym (old_added p t e constants a.params a.rows is_action.rows n os out) ∙ sym (added_b q)) i)
        ∙ sym (contains-changed t (firing w t b args) q)

    number_stays : (f : Name) (os : List Name) → number_at next_a (ground f os) ≡ number_at next_b (ground f os)
    number_stays f os =
        number_at-changed t (firing w t a args) (ground f os)
        ∙ ap (λ cs. new_number (number_at t (ground f os)) (changes_at (ground f os) cs)) (sym (same_numbers t))
        ∙ sym (number_at-changed t (firing w t b args) (ground f os))

    object_stays : (f : Name) (os : List Name) → object_at next_a (ground f os) ≡ object_at next_b (ground f os)
    unfolding changed
    object_stays f os =
        ap (λ cs. table.get (fold (λ m (c : ObjectChange). put m c.target (new_object (object_at t c.target) (objects_at c.target cs))) t.values cs) (ground f os)) (sym (same_objects t))

    agree_b : AgreeOn (IsOld p) next_a next_b
    agree_b = record {
      atoms = λ n old os. (λ h. sym (old_stays n os old) ∙ h, λ h. old_stays n os old ∙ h);
      numbers = λ f old os. number_stays f os;
      values = λ f old os. object_stays f os;
    }

    next_old : AgreeOn (IsOld p) next_s next_b
    next_old = agree_over (IsOld p) next_s next_a next_b (agree_next (IsOld p) s t related.old w a args within) agree_b

    -- no atom is both deleted and added
    never_both : Covers p e a.params [] → True w t e a.pre → (q : Ground) → list_any (λ (r : Row). hits q (deleted t e r.effect)) a.rows ≡ true →
        list_any (λ (r : Row). hits q (added t e r.effect)) a.rows ≡ true → ⊥
    never_both covers holds q gone come =
        let d = any_true (λ (r : Row). hits q (deleted t e r.effect)) a.rows gone in
        let r = any_true (λ (r : Row). hits q (added t e r.effect)) a.rows come in
        not_both p ready.none a is_action bare apart t e covers holds d.0 r.0 d.1 r.1 q (at q (deleted t e d.0.effect) d.2) (at q (added t e r.0.effect) r.2)
      where
        at : (q : Ground) (o : Option Ground) → hits q o ≡ true → o ≡ Some q
        at q None h = false_true h
        at q (Some k) h = ap Some (sym (tied q k h))

    twin_next : Covers p e a.params [] → True w t e a.pre → (x : Twin) → Member x twins → (os : List Name) → ObjectsFit p os x.of.args →
        set.contains next_b.atoms (ground x.name os) ≡ flip (set.contains next_s.atoms (ground x.of.name os))
    twin_next covers holds x k os fit =
        let old : Member x.of.name (map (λ (d : Predicate). d.name) p.predicates) = member_map (λ (d : Predicate). d.name) p.predicates x.of (twin_is_of p x k) in
        let h : Bool = set.contains s.atoms (ground x.of.name os) in
        contains-changed t (firing w t b args) (ground x.name os)
        ∙ (λ i. (related.twins x k os fit i && flip ((deleted_b (ground x.name os) ∙ new_deleted p t e constants a.params a.rows is_action.rows ready.formed x k os) i))
        || (added_b (ground x.name os) ∙ new_added p t e constants a.params a.rows is_action.rows ready.formed x k os) i)
        ∙ turned (set.contains s.atoms (ground x.of.name os)) (list_any (λ (r : Row). hits (ground x.of.name os) (deleted t e r.effect)) a.rows)
        (list_any (λ (r : Row). hits (ground x.of.name os) (added t e r.effect)) a.rows) (never_both covers holds (ground x.of.name os))
        ∙ ap flip
        ((λ i. (same_atom (IsOld p) s t related.old x.of.name old os i && flip (sym (deleted_a (ground x.of.name os)) i)) || sym (added_a (ground x.of.name os)) i)
        ∙ sym (contains-changed t (firing w t a args) (ground x.of.name os))
        ∙ sym (same_atom (IsOld p) next_s next_a (agree_next (IsOld p) s t related.old w a args within) x.of.name old os))

    differ_next : (name : Name) → differ_in p ≡ Some name → (x y : Name) → IsSome (named p.objects x) → IsSome (named p.objects y) →
        set.contains next_b.atoms (ground name (x ∷ y ∷ [])) ≡ flip (same_name x y)
    differ_next name is x y at there =
        let q : Ground = ground name (x ∷ y ∷ []) in
        contains-changed t (firing w t b args) q
        ∙ (λ i. (set.contains t.atoms q
        && flip ((deleted_b q ∙ other_deleted p t e constants a.params a.rows is_action.rows name (x ∷ y ∷ []) (differ_not_old p name is) (differ_no_twin p name is)) i))
        || (added_b q ∙ other_added p t e constants a.params a.rows is_action.rows name (x ∷ y ∷ []) (differ_not_old p name is) (differ_no_twin p name is)) i)
        ∙ still (set.contains t.atoms q) ∙ related.differ name is x y at there

    pub next_twinned : CanTakeBy w t b args → AreTwinned p (next_by w s a args) (next_by w t b args)
    next_twinned can =
        let covers : Covers p e a.params [] = covers_args (typed_b t can) in
        let holds : True w t e a.pre = ⊎_elim (λ h. h) (λ n. absurd (can precondition ((twin_faults t (pre_truth covers) precondition).1 n))) (decided w t e a.pre) in
        record { old = next_old; twins = twin_next covers holds; differ = differ_next }
