-- Effects that fire, instance by instance.
use Rattle.std.proofs.Common.{◌≡◌, ℕ, zero, suc, ◌+◌, ◌<◌, ◌≤◌, arith, List, [], ◌∷◌, ◌++◌, map, take, drop, get_or, length, Some, None, refl, ap, sym, ◌∙◌, subst, inl, inr, append_assoc}
use Rattle.std.specs.List.{cons_option}
use Rattle.std.specs.Prelude.{if◌then◌else◌, flat_map, filter_map, Result, Ok, Err, IfErr, IsErrAnd}
use Rattle.std.proofs.lemmas.List.{map-append, take_more}
use Rattle.std.proofs.lemmas.List.Elements.{filter_map-append}
use Rattle.std.proofs.lemmas.Grind.{flat_map-append}
use Rattle.up_text.specs.declared.name.Name.{Name}
use Rattle.up_text.specs.Lists.{Every, Somewhere}
use Rattle.up_tree.specs.declared.action.Row.{Row}
use Rattle.up_tree.specs.declared.term.Typed.{Typed}
use Rattle.up_tree.specs.declared.truth.Truth.{Truth}
use Rattle.up_tree.specs.declared.truth.Truth.TheVariants.{True, False, Undefined}
use Rattle.up_tree.specs.Objects.{World, Assignment, assign, tuples}
use Rattle.up_tree.specs.State.{State}
use Rattle.up_tree.specs.Judged.{truth_of, is_true}
use Rattle.up_tree.specs.Instances.{Instance, Fired, fired, row_instances}
use Rattle.up_tree.proofs.Judging.{judged}
use Rattle.up_eval.specs.declared.firing.Firing.{Firing}
use Rattle.up_eval.specs.declared.scope.Binding.{Binding}
use Rattle.up_eval.specs.declared.step_error.Why.TheVariants as why
use Rattle.up_eval.specs.declared.stop.Stop.{Stop}
use Rattle.up_eval.specs.declared.stop.Stop.TheVariants as stop
use Rattle.up_eval.specs.Scope.{assignment_of}
use Rattle.up_eval.specs.Firing.{HasFired, IsConditionStop, instance_at, meant, meant_all}
use Rattle.up_eval.proofs.Scopes.{drop_next}

every_append : {X : Type 0} (P : X → Type 0) (xs ys : List X) → Every P xs → Every P ys → Every P (xs ++ ys)
every_append P [] ys h k = k
every_append P (x ∷ xs) ys h k = (h.0, every_append P xs ys h.1 k)

some_left : {X : Type 0} (P : X → Type 0) (xs ys : List X) → Somewhere P xs → Somewhere P (xs ++ ys)
some_left P [] ys h = absurd h
some_left P (x ∷ xs) ys (inl h) = inl h
some_left P (x ∷ xs) ys (inr h) = inr (some_left P xs ys h)

some_right : {X : Type 0} (P : X → Type 0) (xs ys : List X) → Somewhere P ys → Somewhere P (xs ++ ys)
some_right P [] ys h = h
some_right P (x ∷ xs) ys h = inr (some_right P xs ys h)

pub append_nil : {X : Type 0} (xs : List X) → xs ++ [] ≡ xs
append_nil [] = refl
append_nil (x ∷ xs) = ap (λ ys. x ∷ ys) (append_nil xs)

pub take_all : {X : Type 0} (i : ℕ) (xs : List X) → length xs ≤ i → take i xs ≡ xs
take_all zero [] all = refl
take_all (suc i) [] all = refl
take_all zero (x ∷ xs) all = absurd (omega arith)
take_all (suc i) (x ∷ xs) all = ap (λ ys. x ∷ ys) (take_all i xs (omega arith))

-- the objects of a row's variables, as a program finds them
pub of_row : (e : Assignment) (row : Row) (tuple : List Name) (vars : List Typed) (scope slice : List Binding) → vars ≡ row.vars → slice ≡ scope
    → assignment_of scope ≡ assign vars tuple e → assignment_of slice ≡ assign row.vars tuple e
of_row e row tuple vars scope slice at same is = ap assignment_of same ∙ is ∙ ap (λ vs. assign vs tuple e) at

module _ (w : World) (s : State) where
  fired_append : (is js : List Instance) (a b c : List Fired) → HasFired w s is a b → HasFired w s js b c → HasFired w s (is ++ js) a c
  fired_append is js a b c h k = record {
    effects = k.effects ∙ ap (λ fs. fs ++ filter_map (fired w s) js) h.effects ∙ append_assoc a _ _ ∙ ap (λ fs. a ++ fs) (sym (filter_map-append (fired w s) is js));
    conditions = every_append _ is js h.conditions k.conditions;
  }

  stop_left : (is js : List Instance) (e : Stop) → IsConditionStop w s is e → IsConditionStop w s (is ++ js) e
  stop_left is js stop.Memory h = tt
  stop_left is js stop.TooLarge h = some_left _ is js h
  stop_left is js (stop.Refused why.ConditionUndefined) h = some_left _ is js h
  stop_left is js (stop.Refused why.Precondition) h = absurd h
  stop_left is js (stop.Refused why.ObjectUndefined) h = absurd h
  stop_left is js (stop.Refused why.NumberUndefined) h = absurd h
  stop_left is js (stop.Refused why.NumberConflict) h = absurd h
  stop_left is js (stop.Refused why.ObjectConflict) h = absurd h

  stop_right : (is js : List Instance) (e : Stop) → IsConditionStop w s js e → IsConditionStop w s (is ++ js) e
  stop_right is js stop.Memory h = tt
  stop_right is js stop.TooLarge h = some_right _ is js h
  stop_right is js (stop.Refused why.ConditionUndefined) h = some_right _ is js h
  stop_right is js (stop.Refused why.Precondition) h = absurd h
  stop_right is js (stop.Refused why.ObjectUndefined) h = absurd h
  stop_right is js (stop.Refused why.NumberUndefined) h = absurd h
  stop_right is js (stop.Refused why.NumberConflict) h = absurd h
  stop_right is js (stop.Refused why.ObjectConflict) h = absurd h

  -- ---- one instance

  module _ (e : Assignment) (row : Row) (tuple : List Name) (inner : Assignment) (inside : inner ≡ assign row.vars tuple e) where
    here : (t : Truth) → t ≡ truth_of w s inner row.when → t ≡ truth_of w s (assign row.vars tuple e) row.when
    here t is = is ∙ ap (λ v. truth_of w s v row.when) inside

    effect_of : Truth → List Fired
    effect_of t = cons_option (if is_true t then Some (record { assignment = assign row.vars tuple e; effect = row.effect }) else None) []

    pub fires_false : False ≡ truth_of w s inner row.when → (old : List Fired) → HasFired w s (instance_at e row tuple ∷ []) old old
    unfolding effect_of
    fires_false is old = record {
      effects = sym (append_nil old) ∙ ap (λ t. old ++ effect_of t) (here False is);
      conditions = (λ u. u.1 (judged w s (assign row.vars tuple e) row.when False (here False is)), tt);
    }

    pub fires_true : True ≡ truth_of w s inner row.when → (old new : List Firing) (f : Firing) → new ≡ old ++ f ∷ [] → assignment_of f.scope ≡ inner → f.effect.now ≡ row.effect
        → HasFired w s (instance_at e row tuple ∷ []) (meant_all old) (meant_all new)
    unfolding effect_of
    fires_true is old new f more scope effect = record {
      effects =
          ap meant_all more ∙ map-append meant old (f ∷ [])
          ∙ (λ k. meant_all old ++ record { assignment = (scope ∙ inside) k; effect = effect k } ∷ [])
          ∙ ap (λ t. meant_all old ++ effect_of t) (here True is);
      conditions = (λ u. u.0 (judged w s (assign row.vars tuple e) row.when True (here True is)), tt);
    }

    pub stops_undefined : Undefined ≡ truth_of w s inner row.when → IsConditionStop w s (instance_at e row tuple ∷ []) (stop.Refused why.ConditionUndefined)
    stops_undefined is = inl (judged w s (assign row.vars tuple e) row.when Undefined (here Undefined is))

  -- ---- a loop over rows or tuples, each with its instances

  module _ {X : Type 0} (g : X → List Instance) where
    pub loop_next : (xs : List X) (i : ℕ) (x : X) (a b c : List Fired) → i < length xs → x ≡ get_or xs i x
        → HasFired w s (flat_map g (take i xs)) a b → HasFired w s (g x) b c → HasFired w s (flat_map g (take (i + 1) xs)) a c
    loop_next xs i x a b c within at h k =
        subst (λ ys. HasFired w s (flat_map g ys) a c) (sym (take_more xs i x within ∙ ap (λ y. take i xs ++ y ∷ []) (sym at)))
        (subst (λ is. HasFired w s is a c) (ap (λ is. flat_map g (take i xs) ++ is) (sym (append_nil (g x))) ∙ sym (flat_map-append g (take i xs) (x ∷ [])))
        (fired_append (flat_map g (take i xs)) (g x) a b c h k))

    stop_behind : (k : ℕ) (xs : List X) (e : Stop) → IsConditionStop w s (flat_map g (drop k xs)) e → IsConditionStop w s (flat_map g xs) e
    stop_behind zero xs e h = h
    stop_behind (suc k) [] e h = h
    stop_behind (suc k) (x ∷ xs) e h = stop_right (g x) (flat_map g xs) e (stop_behind k xs e h)

    loop_stop : (xs : List X) (i : ℕ) (x : X) (e : Stop) → i < length xs → x ≡ get_or xs i x
        → IsConditionStop w s (g x) e → IsConditionStop w s (flat_map g xs) e
    loop_stop xs i x e within at h =
        stop_behind i xs e (subst (λ ys. IsConditionStop w s (flat_map g ys) e) (sym (drop_next xs i x within at)) (stop_left (g x) (flat_map g (drop (i + 1) xs)) e h))

    pub loop_err : {T : Type 0} (xs : List X) (i : ℕ) (x : X) (e : Stop) (r : Result T Stop) → i < length xs → x ≡ get_or xs i x
        → IsConditionStop w s (g x) e → IsErrAnd r (λ y. y ≡ e) → IfErr r (IsConditionStop w s (flat_map g xs))
    loop_err xs i x e (Ok v) within at h same = tt
    loop_err xs i x e (Err y) within at h same = subst (IsConditionStop w s (flat_map g xs)) (sym same) (loop_stop xs i x e within at h)

-- the instance at a tuple alone
abbrev pub only_at : Assignment → Row → List Name → List Instance
only_at e row tuple = instance_at e row tuple ∷ []

one_each : (e : Assignment) (row : Row) (them : List (List Name)) → flat_map (only_at e row) them ≡ map (instance_at e row) them
one_each e row [] = refl
one_each e row (tuple ∷ them) = ap (λ is. instance_at e row tuple ∷ is) (one_each e row them)

-- ---- the instances of a row, one for each tuple

module _ (w : World) (s : State) (e : Assignment) (row : Row) (them : List (List Name)) where
  pub row_next : (i : ℕ) (tuple slice : List Name) (a b c : List Fired) → i < length them → tuple ≡ get_or them i tuple → slice ≡ tuple
      → HasFired w s (flat_map (only_at e row) (take i them)) a b → HasFired w s (only_at e row slice) b c
      → HasFired w s (flat_map (only_at e row) (take (i + 1) them)) a c
  row_next i tuple slice a b c within at same h k =
      loop_next w s (only_at e row) them i tuple a b c within at h (subst (λ t. HasFired w s (only_at e row t) b c) same k)

  module _ (are : them ≡ tuples w row.vars) where
    row_flat : flat_map (only_at e row) them ≡ row_instances w e row
    row_flat = one_each e row them ∙ ap (map (instance_at e row)) are

    pub row_end : (i : ℕ) (a b : List Fired) → length them ≤ i → HasFired w s (flat_map (only_at e row) (take i them)) a b → HasFired w s (row_instances w e row) a b
    row_end i a b past h =
        subst (λ is. HasFired w s is a b) row_flat (subst (λ ys. HasFired w s (flat_map (only_at e row) ys) a b) (take_all i them past) h)

    pub row_err : {T : Type 0} (i : ℕ) (tuple slice : List Name) (x : Stop) (r : Result T Stop) → i < length them → tuple ≡ get_or them i tuple → slice ≡ tuple
        → IsConditionStop w s (only_at e row slice) x → IsErrAnd r (λ y. y ≡ x) → IfErr r (IsConditionStop w s (row_instances w e row))
    row_err i tuple slice x r within at same h gives =
        subst (λ is. IfErr r (IsConditionStop w s is)) row_flat
        (loop_err w s (only_at e row) them i tuple x r within at (subst (λ t. IsConditionStop w s (only_at e row t) x) same h) gives)

-- its tuples, as a program finds them
pub row_tuples : (w : World) (row : Row) (vars : List Typed) (found them : List (List Name)) → them ≡ found → found ≡ tuples w vars → vars ≡ row.vars
    → them ≡ tuples w row.vars
row_tuples w row vars found them same is at = same ∙ is ∙ ap (λ vs. tuples w vs) at
