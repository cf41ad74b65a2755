-- What the effects that take place lack and change, one by one and all together.
use Rattle.std.proofs.Common.{◌≡◌, ◌⊎◌, ℕ, ◌+◌, ◌<◌, ◌≤◌, Bool, true, false, true≢false, ◌&&◌, ◌||◌, List, [], ◌∷◌, ◌++◌, map, take, get_or, length, Option, Some, None, IsSomeAnd, option_map, refl, ap, sym, ◌∙◌, subst, inl, inr}
use Rattle.std.specs.Prelude.{ℤ, pos, is_some, is_none, filter_map}
use Rattle.std.specs.List.{list_any}
use Rattle.std.proofs.lemmas.List.{map-append, take_more}
use Rattle.std.proofs.lemmas.List.Elements.{filter_map-append}
use Rattle.up_frac.specs.Fraction.{Fraction}
use Rattle.up_frac.specs.Arithmetic.{IsZero}
use Rattle.up_text.specs.declared.name.Name.{Name}
use Rattle.up_text.specs.Lists.{Every, Somewhere}
use Rattle.up_tree.specs.declared.term.Term.{Term}
use Rattle.up_tree.specs.declared.expr.Expr.{Expr}
use Rattle.up_tree.specs.declared.action.Change.{Change}
use Rattle.up_tree.specs.declared.action.Change.TheVariants.{Assign, Increase, Decrease, ScaleUp, ScaleDown}
use Rattle.up_tree.specs.declared.action.Effect.{Effect}
use Rattle.up_tree.specs.declared.action.Effect.TheVariants.{Add, Delete, Number, Object, Undefine}
use Rattle.up_tree.specs.Objects.{Assignment}
use Rattle.up_tree.specs.State.{State, Ground, ground, number_at}
use Rattle.up_tree.specs.Value.{term_value, values_of, ground_at, number}
use Rattle.up_tree.specs.Instances.{Fired}
use Rattle.up_tree.specs.Changes.{number_change, of_firing}
use Rattle.up_tree.specs.Faults.{ObjectUndefined, NumberUndefined, NeedsOld, IsScaleDown, OfEffect}
use Rattle.up_tree.specs.Big.{BigOperand}
use Rattle.up_eval.specs.declared.changes.NumberChange.{NumberChange as MadeChange}
use Rattle.up_eval.specs.declared.firing.Firing.{Firing}
use Rattle.up_eval.specs.declared.step_error.Why.TheVariants as why
use Rattle.up_eval.specs.declared.stop.Stop.{Stop}
use Rattle.up_eval.specs.declared.stop.Stop.TheVariants as stop
use Rattle.up_eval.specs.declared.scope.Binding.{Binding}
use Rattle.up_eval.specs.Scope.{assignment_of}
use Rattle.up_eval.specs.Firing.{meant, meant_all}
use Rattle.up_eval.specs.Effects.{at_fired, OfFired, at_most_one, lacks_object, lacks_number, lacks_old, needs_old, is_zero, divides_by_zero, number_meant, IsNumberStop, IsNumbersStop}
use Rattle.up_eval.proofs.Conditions.{somewhere_at}
use Rattle.up_eval.proofs.Fired.{take_all}
use Rattle.up_eval.proofs.Steps.{none_of}

-- ---- tests and facts of some element

module _ {X : Type 0} (p : X → Bool) (P : X → Type 0) where
  pub any_some : ((x : X) → p x ≡ true → P x) → (xs : List X) → list_any p xs ≡ true → Somewhere P xs
  any_some f [] e = absurd (true≢false (sym e))
  any_some f (x ∷ xs) e = by (p x) refl (any_some f xs) e
    where
      by : (b : Bool) → p x ≡ b → (list_any p xs ≡ true → Somewhere P xs) → (b || list_any p xs) ≡ true → P x ⊎ Somewhere P xs
      by true is rest e = inl (f x is)
      by false is rest e = inr (rest e)

  pub none_some : ((x : X) → p x ≡ false → ¬ P x) → (xs : List X) → list_any p xs ≡ false → ¬ Somewhere P xs
  none_some f [] e h = h
  none_some f (x ∷ xs) e h = by (p x) refl (none_some f xs) e h
    where
      by : (b : Bool) → p x ≡ b → (list_any p xs ≡ false → ¬ Somewhere P xs) → (b || list_any p xs) ≡ false → P x ⊎ Somewhere P xs → ⊥
      by true is rest e h = true≢false e
      by false is rest e (inl h) = f x is h
      by false is rest e (inr h) = rest e h

pub every_push : {X : Type 0} (P : X → Type 0) (xs : List X) (x : X) → Every P xs → P x → Every P (xs ++ x ∷ [])
every_push P [] x h k = (k, tt)
every_push P (y ∷ xs) x h k = (h.0, every_push P xs x h.1 k)

pub some_map : {X Y : Type 0} (g : X → Y) (P : Y → Type 0) (xs : List X) → Somewhere (λ x. P (g x)) xs → Somewhere P (map g xs)
some_map g P [] h = h
some_map g P (x ∷ xs) (inl h) = inl h
some_map g P (x ∷ xs) (inr h) = inr (some_map g P xs h)

-- ---- one effect

is_none_true : {X : Type 0} (o : Option X) → is_none o ≡ true → o ≡ None
is_none_true None e = refl
is_none_true (Some x) e = absurd (true≢false (sym e))

is_none_false : {X : Type 0} (o : Option X) → is_none o ≡ false → ¬ (o ≡ None)
is_none_false None e h = true≢false e
is_none_false (Some x) e h = true≢false (ap is_some h)

module _ (s : State) (e : Assignment) where
  no_ground : (name : Name) (ts : List Term) → is_none (ground_at s e name ts) ≡ true → values_of s e ts ≡ None
  no_ground name ts h = by (values_of s e ts) h
    where
      by : (v : Option (List Name)) → is_none (option_map (ground name) v) ≡ true → v ≡ None
      by None h = refl
      by (Some os) h = absurd (true≢false (sym h))

  some_ground : (name : Name) (ts : List Term) → is_none (ground_at s e name ts) ≡ false → ¬ (values_of s e ts ≡ None)
  some_ground name ts h = by (values_of s e ts) h
    where
      by : (v : Option (List Name)) → is_none (option_map (ground name) v) ≡ false → ¬ (v ≡ None)
      by None h k = true≢false h
      by (Some os) h k = true≢false (ap is_some k)

  lacks_true : (x : Effect) → lacks_object s e x ≡ true → ObjectUndefined s e x
  lacks_true (Add name ts) h = no_ground name ts h
  lacks_true (Delete name ts) h = no_ground name ts h
  lacks_true (Number c f ts n) h = no_ground f ts h
  lacks_true (Undefine f ts) h = no_ground f ts h
  lacks_true (Object f ts t) h = by (is_none (ground_at s e f ts)) refl h
    where
      by : (b : Bool) → is_none (ground_at s e f ts) ≡ b → (b || is_none (term_value s e t)) ≡ true → (values_of s e ts ≡ None) ⊎ (term_value s e t ≡ None)
      by true is h = inl (no_ground f ts is)
      by false is h = inr (is_none_true (term_value s e t) h)

  lacks_false : (x : Effect) → lacks_object s e x ≡ false → ¬ ObjectUndefined s e x
  lacks_false (Add name ts) h = some_ground name ts h
  lacks_false (Delete name ts) h = some_ground name ts h
  lacks_false (Number c f ts n) h = some_ground f ts h
  lacks_false (Undefine f ts) h = some_ground f ts h
  lacks_false (Object f ts t) h = by (is_none (ground_at s e f ts)) refl h
    where
      by : (b : Bool) → is_none (ground_at s e f ts) ≡ b → (b || is_none (term_value s e t)) ≡ false → (values_of s e ts ≡ None) ⊎ (term_value s e t ≡ None) → ⊥
      by true is h k = true≢false h
      by false is h (inl k) = some_ground f ts is k
      by false is h (inr k) = is_none_false (term_value s e t) h k

module _ (s : State) (fs : List Fired) where
  pub objects_undefined : list_any (at_fired lacks_object s) fs ≡ true → OfEffect ObjectUndefined s fs
  objects_undefined h = any_some (at_fired lacks_object s) (OfFired ObjectUndefined s) (λ f is. lacks_true s f.assignment f.effect is) fs h

  pub objects_defined : list_any (at_fired lacks_object s) fs ≡ false → ¬ OfEffect ObjectUndefined s fs
  objects_defined h = none_some (at_fired lacks_object s) (OfFired ObjectUndefined s) (λ f is. lacks_false s f.assignment f.effect is) fs h

zero_not : (n : ℤ) → is_zero n ≡ false → ¬ (n ≡ pos 0)
zero_not n h k = true≢false (sym (ap is_zero k) ∙ h)

divides_false : (c : Change) (x : Fraction) → divides_by_zero c x ≡ false → IsScaleDown c → ¬ IsZero x
divides_false ScaleDown x h k = zero_not x.numerator h
divides_false Assign x h k = absurd k
divides_false Increase x h k = absurd k
divides_false Decrease x h k = absurd k
divides_false ScaleUp x h k = absurd k

needs_is : (c : Change) → NeedsOld c → needs_old c ≡ true
needs_is Assign h = absurd h
needs_is Increase h = refl
needs_is Decrease h = refl
needs_is ScaleUp h = refl
needs_is ScaleDown h = refl

module _ (s : State) (c : Change) where
  -- why a number that a change needs is undefined
  abbrev Lacks : Option Ground → Option Fraction → Type 0
  Lacks target n = (n ≡ None) ⊎ (NeedsOld c × IsSomeAnd target (λ t. number_at s t ≡ None)) ⊎ (IsScaleDown c × IsSomeAnd n IsZero)

  old_false : (target : Option Ground) → lacks_old s c target ≡ false → NeedsOld c → ¬ IsSomeAnd target (λ t. number_at s t ≡ None)
  old_false None h k n = n
  old_false (Some t) h k n = is_none_false (number_at s t) (sym (ap (λ b. b && is_none (number_at s t)) (needs_is c k)) ∙ h) n

  number_false : (target : Option Ground) (n : Option Fraction) → lacks_number s c target n ≡ false → ¬ Lacks target n
  number_false target None h k = true≢false h
  number_false target (Some x) h k = by (divides_by_zero c x) refl h k
    where
      by : (b : Bool) → divides_by_zero c x ≡ b → (b || lacks_old s c target) ≡ false → Lacks target (Some x) → ⊥
      by true is h k = true≢false h
      by false is h (inl k) = true≢false (ap is_some k)
      by false is h (inr (inl k)) = old_false target h k.0 k.1
      by false is h (inr (inr k)) = divides_false c x is k.0 k.1

-- no number that a change needs is undefined
pub number_defined : (s : State) (x : Effect) (bs cs : List Binding) (c : Change) (f : Name) (ts us : List Term) (n : Expr) (target : Option Ground) (operand : Option Fraction)
    → x ≡ Number c f ts n → cs ≡ bs → us ≡ ts → target ≡ ground_at s (assignment_of cs) f us → operand ≡ number s (assignment_of cs) n
    → lacks_number s c target operand ≡ false → ¬ NumberUndefined s (assignment_of bs) x
number_defined s x bs cs c f ts us n target operand is scope args at by h k =
    number_false s c (ground_at s (assignment_of bs) f ts) (number s (assignment_of bs) n)
    ((λ i. lacks_number s c (sym (at ∙ (λ j. ground_at s (assignment_of (scope j)) f (args j))) i) (sym (by ∙ (λ j. number s (assignment_of (scope j)) n)) i)) ∙ h)
    (subst (NumberUndefined s (assignment_of bs)) is k)

-- ---- loops over the effects

module _ {A : Type 0} (what : State → Assignment → Effect → Option A) (s : State) where
  one_more : (fs : List Fired) (f : Fired) → of_firing what s (fs ++ f ∷ []) ≡ of_firing what s fs ++ at_most_one (at_fired what s f)
  one_more fs f = filter_map-append (at_fired what s) fs (f ∷ []) ∙ ap (λ xs. of_firing what s fs ++ xs) (by (at_fired what s f))
    where
      by : (o : Option A) → filter_map (λ (x : Option A). x) (o ∷ []) ≡ at_most_one o
      by None = refl
      by (Some a) = refl

  pub of_next : (fs : List Firing) (i : ℕ) (x : Firing) (made next : List A) (item : Option A) → i < length fs → x ≡ get_or fs i x
      → made ≡ of_firing what s (meant_all (take i fs)) → item ≡ at_fired what s (meant x) → next ≡ made ++ at_most_one item
      → next ≡ of_firing what s (meant_all (take (i + 1) fs))
  of_next fs i x made next item within at so_far is more =
      more ∙ (λ k. so_far k ++ at_most_one (is k)) ∙ sym (one_more (meant_all (take i fs)) (meant x))
      ∙ ap (of_firing what s) (sym (map-append meant (take i fs) (x ∷ [])))
      ∙ ap (λ xs. of_firing what s (meant_all xs)) (ap (λ y. take i fs ++ y ∷ []) at ∙ sym (take_more fs i x within))

  pub of_next_map : {B : Type 0} (g : B → A) (fs : List Firing) (i : ℕ) (x : Firing) (made next : List B) (item : Option B) → i < length fs → x ≡ get_or fs i x
      → map g made ≡ of_firing what s (meant_all (take i fs)) → option_map g item ≡ at_fired what s (meant x) → next ≡ made ++ at_most_one item
      → map g next ≡ of_firing what s (meant_all (take (i + 1) fs))
  of_next_map {B} g fs i x made next item within at so_far is more =
      of_next fs i x (map g made) (map g next) (option_map g item) within at so_far is
      (ap (map g) more ∙ map-append g made (at_most_one item) ∙ ap (λ ys. map g made ++ ys) (by item))
    where
      by : (o : Option B) → map g (at_most_one o) ≡ at_most_one (option_map g o)
      by None = refl
      by (Some b) = refl

module _ (s : State) (fs : List Firing) (i : ℕ) (x : Firing) (within : i < length fs) (at : x ≡ get_or fs i x) where
  some_fired : (P : Fired → Type 0) → P (meant x) → Somewhere P (meant_all fs)
  some_fired P h = some_map meant P fs (somewhere_at (λ y. P (meant y)) fs i x within at h)

  pub numbers_stop : (e : Stop) → IsNumberStop s (meant x) e → IsNumbersStop s (meant_all fs) e
  numbers_stop stop.Memory h = tt
  numbers_stop stop.TooLarge h = some_fired (OfFired BigOperand s) h
  numbers_stop (stop.Refused why.NumberUndefined) h = some_fired (OfFired NumberUndefined s) h
  numbers_stop (stop.Refused why.Precondition) h = absurd h
  numbers_stop (stop.Refused why.ConditionUndefined) h = absurd h
  numbers_stop (stop.Refused why.ObjectUndefined) h = absurd h
  numbers_stop (stop.Refused why.NumberConflict) h = absurd h
  numbers_stop (stop.Refused why.ObjectConflict) h = absurd h

  pub defined_next : Every (λ f. ¬ OfFired NumberUndefined s f) (meant_all (take i fs)) → ¬ OfFired NumberUndefined s (meant x)
      → Every (λ f. ¬ OfFired NumberUndefined s f) (meant_all (take (i + 1) fs))
  defined_next h k =
      let P : Fired → Type 0 = λ f. ¬ OfFired NumberUndefined s f in
      subst (λ xs. Every P (meant_all xs)) (ap (λ y. take i fs ++ y ∷ []) at ∙ sym (take_more fs i x within))
      (subst (Every P) (sym (map-append meant (take i fs) (x ∷ []))) (every_push P (meant_all (take i fs)) (meant x) h k))

-- the changes of the first effects, none of which lacks a number
pub record NumbersSoFar (s : State) (fs : List Firing) (i : ℕ) (made : List MadeChange) : Type 0 where
  pub value : map number_meant made ≡ of_firing number_change s (meant_all (take i fs))
  pub defined : Every (λ f. ¬ OfFired NumberUndefined s f) (meant_all (take i fs))

module _ (s : State) (fs : List Firing) (i : ℕ) where
  pub numbers_next : (x : Firing) (made next : List MadeChange) (item : Option MadeChange) → i < length fs → x ≡ get_or fs i x
      → NumbersSoFar s fs i made → option_map number_meant item ≡ at_fired number_change s (meant x) → ¬ OfFired NumberUndefined s (meant x)
      → next ≡ made ++ at_most_one item → NumbersSoFar s fs (i + 1) next
  numbers_next x made next item within at h is defined more = record {
    value = of_next_map number_change s number_meant fs i x made next item within at h.value is more;
    defined = defined_next s fs i x within at h.defined defined;
  }

  pub numbers_defined : (made : List MadeChange) → length fs ≤ i → NumbersSoFar s fs i made → ¬ OfEffect NumberUndefined s (meant_all fs)
  numbers_defined made all h =
      none_of (OfFired NumberUndefined s) (meant_all fs) (subst (λ xs. Every (λ f. ¬ OfFired NumberUndefined s f) (meant_all xs)) (take_all i fs all) h.defined)
