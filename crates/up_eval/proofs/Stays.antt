-- A step leads from a state of a well-formed problem to a state of it.
use Rattle.std.proofs.Common.{◌≡◌, Bool, true, false, true≢false, cond, not, ◌&&◌, ◌||◌, List, [], ◌∷◌, ◌++◌, map, fold, length, take, arith, append-nil, Option, Some, None, option_map, option_and_then, IsSome, IsSomeAnd, refl, ap, sym, ◌∙◌, subst, inl, inr}
use Rattle.std.specs.Prelude.{◌≢◌, ⊤, is_some, if◌then◌else◌, IfSome, flat_map, filter_map}
use Rattle.std.specs.List.{list_any, cons_option}
use Rattle.std.specs.Cmp.Lexicographic.{bytes_decides}
use Rattle.std.specs.FinSet as set
use Rattle.std.specs.FinMap as table
use Rattle.up_frac.specs.Fraction.{Fraction}
use Rattle.up_text.specs.declared.name.Name.{Name}
use Rattle.up_text.specs.Names.{same_name}
use Rattle.up_text.specs.Lists.{Every, Member, Differ}
use Rattle.up_tree.specs.declared.term.Term.{Term, Var, Object, Fluent'}
use Rattle.up_tree.specs.declared.term.Typed.{Typed}
use Rattle.up_tree.specs.declared.action.Action.{Action}
use Rattle.up_tree.specs.declared.action.Row.{Row}
use Rattle.up_tree.specs.declared.action.Effect.{Effect}
use Rattle.up_tree.specs.declared.action.Effect.TheVariants as effect
use Rattle.up_tree.specs.declared.problem.Function.{Function}
use Rattle.up_tree.specs.declared.problem.Parts.{Parts}
use Rattle.up_tree.specs.declared.problem.Step.{Step}
use Rattle.up_tree.specs.Objects.{world, Assignment, named, type_in, objects_of, tuples, bind, assign, unassigned, action_named, predicate_named, function_named}
use Rattle.up_tree.specs.State.{State, Ground, Holds, ground, ground_cmp, number_at, object_at}
use Rattle.up_tree.specs.StateOf.{IsStateOf, IsGroundAtom, IsGroundNumber, IsGroundValue}
use Rattle.up_tree.specs.WellFormed.{IsWellFormed, IsBelow, GivesNumber, gives_object, term_type, TermFits, TermsFit, IsAtom, IsNumberTerm, IsObjectTarget, IsEffect, IsRow, IsAction, ObjectsFit}
use Rattle.up_tree.specs.Value.{with_both, term_value, row_values, values_of, ground_at, number}
use Rattle.up_tree.specs.Judged.{truth_of, is_true}
use Rattle.up_tree.specs.Instances.{Instance, Fired, action_assignment, row_instances, instances, fired, firing}
use Rattle.up_tree.specs.Changes.{NumberChange, ObjectChange, added, deleted, number_change, object_change, of_firing, is_at, changes_at, objects_at, new_number, new_object, put, changed}
use Rattle.up_tree.specs.Faults.{arity, argument_type, CanTake, IsNext}
use Rattle.up_tree.proofs.States.{ground_total, contains-changed}
use Rattle.up_eval.specs.Arguments.{are_typed, is_object_of}
use Rattle.up_eval.specs.Firing.{instance_at}
use Rattle.up_eval.specs.Nexts.{StaysOf}
use Rattle.up_eval.proofs.Fitting.{found, untyped_one, applies_at}
use Rattle.up_eval.proofs.Initial.{tied, each}
use Rattle.up_eval.proofs.Types.{every_member, no_none, same_some, some_and, at_some, find_member, IsObjectOf, wider, object_of}

-- ---- what is said of each element, through the words that make lists

each_member : {X : Type 0} (P : X → Type 0) (xs : List X) → ((x : X) → Member x xs → P x) → Every P xs
each_member P [] h = tt
each_member P (x ∷ xs) h = (h x (inl refl), each_member P xs (λ y m. h y (inr m)))

each_append : {X : Type 0} (P : X → Type 0) (xs ys : List X) → Every P xs → Every P ys → Every P (xs ++ ys)
each_append P [] ys hs ks = ks
each_append P (x ∷ xs) ys hs ks = (hs.0, each_append P xs ys hs.1 ks)

each_map : {X Y : Type 0} (P : Y → Type 0) (f : X → Y) (xs : List X) → Every (λ x. P (f x)) xs → Every P (map f xs)
each_map P f [] all = tt
each_map P f (x ∷ xs) all = (all.0, each_map P f xs all.1)

each_flat_map : {X Y : Type 0} (P : Y → Type 0) (f : X → List Y) (xs : List X) → Every (λ x. Every P (f x)) xs → Every P (flat_map f xs)
each_flat_map P f [] all = tt
each_flat_map P f (x ∷ xs) all = each_append P (f x) (flat_map f xs) all.0 (each_flat_map P f xs all.1)

each_cons : {Y : Type 0} (P : Y → Type 0) (o : Option Y) (ys : List Y) → IfSome o P → Every P ys → Every P (cons_option o ys)
each_cons P None ys h all = all
each_cons P (Some y) ys h all = (h, all)

each_filter_map : {X Y : Type 0} (P : Y → Type 0) (f : X → Option Y) (xs : List X) → Every (λ x. IfSome (f x) P) xs → Every P (filter_map f xs)
each_filter_map P f [] all = tt
each_filter_map P f (x ∷ xs) all = each_cons P (f x) (filter_map f xs) all.0 (each_filter_map P f xs all.1)

-- ---- maps into which values are put

module _ {X : Type 0} (P : Ground → X → Type 0) where
  abbrev Keeps : table.FinMap ground_cmp X → Type 0
  Keeps m = (t : Ground) (x : X) → table.get m t ≡ Some x → P t x

  put_keeps : (m : table.FinMap ground_cmp X) → Keeps m → (k : Ground) (v : Option X) → ((x : X) → v ≡ Some x → P k x) → Keeps (put m k v)
  put_keeps m keeps k (Some v) h q x at = by (is_at q k) refl (sym (table.get-insert ground_total m k v q) ∙ at)
    where
      by : (b : Bool) → is_at q k ≡ b → cond b (Some v) (table.get m q) ≡ Some x → P q x
      by true is e = subst (λ t. P t x) (sym (tied q k is)) (h x e)
      by false is e = keeps q x e
  put_keeps m keeps k None h q x at = by (is_at q k) (sym (table.get-remove ground_total m k q) ∙ at)
    where
      by : (b : Bool) → cond b None (table.get m q) ≡ Some x → P q x
      by true e = no_none x e
      by false e = keeps q x e

  fold_keeps : {C : Type 0} (key : C → Ground) (value : C → Option X) (cs : List C) (m : table.FinMap ground_cmp X) → Keeps m
      → Every (λ c. (x : X) → value c ≡ Some x → P (key c) x) cs → Keeps (fold (λ n c. put n (key c) (value c)) m cs)
  fold_keeps key value [] m keeps all = keeps
  fold_keeps key value (c ∷ cs) m keeps all = fold_keeps key value cs (put m (key c) (value c)) (put_keeps m keeps (key c) (value c) all.0) all.1

some_there : {X Y : Type 0} (o : Option X) → IsSome o → ((x : X) → o ≡ Some x → Y) → Y
some_there None is f = absurd (true≢false (sym is))
some_there (Some x) is f = f x refl

among : (P : Ground → Type 0) (ks : List Ground) → Every P ks → (q : Ground) → list_any (is_at q) ks ≡ true → P q
among P [] all q e = absurd (true≢false (sym e))
among P (k ∷ ks) all q e = by (is_at q k) refl e (among P ks all.1 q)
  where
    by : (b : Bool) → is_at q k ≡ b → (b || list_any (is_at q) ks) ≡ true → (list_any (is_at q) ks ≡ true → P q) → P q
    by true is e rest = subst P (sym (tied q k is)) all.0
    by false is e rest = rest e

-- ---- variables and their objects

-- an object for each variable, of its type
abbrev AreObjectsOf : Parts → List Typed → List Name → Type 0
AreObjectsOf p [] objects = ⊤
AreObjectsOf p (x ∷ vars) [] = ⊥
AreObjectsOf p (x ∷ vars) (o ∷ objects) = IsObjectOf p o x.of × AreObjectsOf p vars objects

-- what stands for a variable is of its type
abbrev Suits : Parts → List Typed → Assignment → Type 0
Suits p scope e = (v u o : Name) → type_in scope v ≡ Some u → e v ≡ Some o → IsObjectOf p o u

-- a variable that the others don't name stands before or behind them
moved : (vars scope : List Typed) (x : Typed) (v : Name) → ¬ Member x.name (map (λ (w : Typed). w.name) vars) → named (vars ++ x ∷ scope) v ≡ named (x ∷ (vars ++ scope)) v
moved [] scope x v out = refl
moved (y ∷ vars) scope x v out = by (same_name y.name v) refl (same_name x.name v) refl (moved vars scope x v (λ m. out (inr m)))
  where
    by : (a : Bool) → same_name y.name v ≡ a → (b : Bool) → same_name x.name v ≡ b → named (vars ++ x ∷ scope) v ≡ cond b (Some x) (named (vars ++ scope) v)
        → cond a (Some y) (named (vars ++ x ∷ scope) v) ≡ cond b (Some x) (cond a (Some y) (named (vars ++ scope) v))
    by true is true same h = absurd (out (inl ((bytes_decides x.name v).0 same ∙ sym ((bytes_decides y.name v).0 is))))
    by true is false same h = refl
    by false is true same h = h
    by false is false same h = h

-- the type of what a function gives, where it is there and gives objects
abbrev gives_of : Option Function → Option Name
gives_of None = None
gives_of (Some d) = gives_object d.gives

module _ (p : Parts) where
  bind_suits : (scope : List Typed) (e : Assignment) (x : Typed) (o : Name) → Suits p scope e → IsObjectOf p o x.of → Suits p (x ∷ scope) (bind x.name o e)
  bind_suits scope e x o suits is v u q typed value = by (same_name x.name v) typed value
    where
      by : (b : Bool) → option_map (λ (y : Typed). y.of) (cond b (Some x) (named scope v)) ≡ Some u → cond b (Some o) (e v) ≡ Some q → IsObjectOf p q u
      by true typed value = subst (λ a. IsObjectOf p q a) (same_some x.of u typed) (subst (λ a. IsObjectOf p a x.of) (same_some o q value) is)
      by false typed value = suits v u q typed value

  assign_suits : (vars : List Typed) (objects : List Name) (scope : List Typed) (e : Assignment) → Suits p scope e → Differ (map (λ (w : Typed). w.name) vars)
      → AreObjectsOf p vars objects → Suits p (vars ++ scope) (assign vars objects e)
  assign_suits [] objects scope e suits differ are = suits
  assign_suits (x ∷ vars) [] scope e suits differ are = absurd are
  assign_suits (x ∷ vars) (o ∷ objects) scope e suits differ are = λ v u q typed value.
      assign_suits vars objects (x ∷ scope) (bind x.name o e) (bind_suits scope e x o suits are.0) differ.1 are.1 v u q
      (ap (option_map (λ (y : Typed). y.of)) (moved vars scope x v differ.0) ∙ typed) value

module _ (p : Parts) (well : IsWellFormed p) where
  all_tuples : (vars : List Typed) → Every (AreObjectsOf p vars) (tuples (world p) vars)
  all_tuples [] = (tt, tt)
  all_tuples (x ∷ vars) =
      each_flat_map (AreObjectsOf p (x ∷ vars)) (λ o. map (λ rest. o ∷ rest) (tuples (world p) vars)) (objects_of (world p) x.of)
      (each_member _ (objects_of (world p) x.of) (λ o m. each_map (AreObjectsOf p (x ∷ vars)) (λ rest. o ∷ rest) (tuples (world p) vars)
      (each (AreObjectsOf p vars) (λ rest. AreObjectsOf p (x ∷ vars) (o ∷ rest)) (λ rest h. (object_of p well o x.of m, h)) (tuples (world p) vars) (all_tuples vars))))

  arguments_are : (params : List Typed) (args : List Name) → are_typed (world p) args params ≡ true → ¬ (length args ≢ length params) → AreObjectsOf p params args
  arguments_are [] args typed same = tt
  arguments_are (x ∷ params) [] typed same = absurd (same (λ e. absurd (omega arith)))
  arguments_are (x ∷ params) (o ∷ args) typed same = by (is_object_of (world p) x.of p.objects o) refl typed (λ rest. arguments_are params args rest (λ n. same (λ e. n (omega arith))))
    where
      by : (b : Bool) → is_object_of (world p) x.of p.objects o ≡ b → (b && are_typed (world p) args params) ≡ true
          → (are_typed (world p) args params ≡ true → AreObjectsOf p params args) → AreObjectsOf p (x ∷ params) (o ∷ args)
      by true is typed rest = (object_of p well o x.of (found (world p) x.of o p.objects is), rest typed)
      by false is typed rest = absurd (true≢false (sym typed))

  -- ---- terms, whose values are of their types

  module _ (s : State) (state : IsStateOf p s) where
    given_fits : (f : Name) (objects : List Name) (o of : Name) → IsSomeAnd (gives_of (function_named p f)) (λ u. IsBelow p u of) → object_at s (f ∷ objects) ≡ Some o → IsObjectOf p o of
    given_fits f objects o of typed value = by (function_named p f) typed (state.values (f ∷ objects) o value)
      where
        through : (g : Option Name) → IsSomeAnd g (λ u. IsBelow p u of) → IsSomeAnd g (λ u. IsObjectOf p o u) → IsObjectOf p o of
        through None typed h = absurd typed
        through (Some u) typed h = wider p well o u of h typed

        by : (found : Option Function) → IsSomeAnd (gives_of found) (λ u. IsBelow p u of)
            → IsSomeAnd found (λ d. ObjectsFit p objects d.args × IsSomeAnd (gives_object d.gives) (λ u. IsObjectOf p o u)) → IsObjectOf p o of
        by None typed h = absurd h
        by (Some d) typed h = through (gives_object d.gives) typed h.1

    module _ (scope : List Typed) (e : Assignment) (suits : Suits p scope e) where
      value_fits : (t : Term) (o of : Name) → IsSomeAnd (term_type p scope t) (λ u. IsBelow p u of) → term_value s e t ≡ Some o → IsObjectOf p o of
      unfolding term_value
      value_fits (Var v) o of typed value = some_and (type_in scope v) (λ u. IsBelow p u of) typed (λ u at under. wider p well o u of (suits v u o at value) under)
      value_fits (Object c) o of typed value = subst (λ x. IsObjectOf p x of) (same_some c o value) typed
      value_fits (Fluent' f n ts) o of typed value = by (row_values s e ts) value
        where
          by : (vs : Option (List Name)) → option_and_then (λ objects. object_at s (ground f objects)) vs ≡ Some o → IsObjectOf p o of
          by None value = no_none o value
          by (Some objects) value = given_fits f objects o of typed value

      values_fit : (mentioned : List Typed) (ts : List Term) (types : List Name) → TermsFit p mentioned scope ts types → (os : List Name) → values_of s e ts ≡ Some os → ObjectsFit p os types
      values_fit mentioned [] [] fit os value = subst (λ x. ObjectsFit p x []) (same_some [] os value) tt
      values_fit mentioned [] (of ∷ types) fit os value = absurd fit
      values_fit mentioned (t ∷ ts) [] fit os value = absurd fit
      values_fit mentioned (t ∷ ts) (of ∷ types) fit os value =
          by (term_value s e t) (values_of s e ts) value (λ o. value_fits t o of fit.0.1) (values_fit mentioned ts types fit.1)
        where
          by : (v : Option Name) (vs : Option (List Name)) → with_both (λ o objects. Some (o ∷ objects)) v vs ≡ Some os → ((o : Name) → v ≡ Some o → IsObjectOf p o of)
              → ((more : List Name) → vs ≡ Some more → ObjectsFit p more types) → ObjectsFit p os (of ∷ types)
          by None vs value h k = no_none os value
          by (Some o) None value h k = no_none os value
          by (Some o) (Some more) value h k = subst (λ x. ObjectsFit p x (of ∷ types)) (same_some (o ∷ more) os value) (h o refl, k more refl)

      -- a ground atom or term is its name before the values of its arguments
      ground_is : (name : Name) (ts : List Term) (k : Ground) → ground_at s e name ts ≡ Some k → (os : List Name) × (values_of s e ts ≡ Some os) × (name ∷ os ≡ k)
      ground_is name ts k value = by (values_of s e ts) refl value
        where
          by : (vs : Option (List Name)) → values_of s e ts ≡ vs → option_map (ground name) vs ≡ Some k → (os : List Name) × (values_of s e ts ≡ Some os) × (name ∷ os ≡ k)
          by None at value = no_none k value
          by (Some os) at value = (os, at, same_some (name ∷ os) k value)

      module _ (mentioned : List Typed) (name : Name) (ts : List Term) (k : Ground) (value : ground_at s e name ts ≡ Some k) where
        atom_is : IsAtom p mentioned scope name ts → IsGroundAtom p k
        atom_is is =
            let at : (os : List Name) × (values_of s e ts ≡ Some os) × (name ∷ os ≡ k) = ground_is name ts k value in
            subst (IsGroundAtom p) at.2
            (some_and (predicate_named p name) (λ d. TermsFit p mentioned scope ts d.args) is
            (λ d there fit. at_some (predicate_named p name) d (λ d. ObjectsFit p at.0 d.args) there (values_fit mentioned ts d.args fit at.0 at.1)))

        number_is : IsNumberTerm p mentioned scope name ts → IsGroundNumber p k
        number_is is =
            let at : (os : List Name) × (values_of s e ts ≡ Some os) × (name ∷ os ≡ k) = ground_is name ts k value in
            subst (IsGroundNumber p) at.2
            (some_and (function_named p name) (λ d. GivesNumber d.gives × TermsFit p mentioned scope ts d.args) is
            (λ d there fit. at_some (function_named p name) d (λ d. GivesNumber d.gives × ObjectsFit p at.0 d.args) there (fit.0, values_fit mentioned ts d.args fit.1 at.0 at.1)))

        value_is : (t : Term) (o : Name) → IsObjectTarget p mentioned scope name ts (λ of. TermFits p mentioned scope t of) → term_value s e t ≡ Some o → IsGroundValue p k o
        value_is t o is given =
            let at : (os : List Name) × (values_of s e ts ≡ Some os) × (name ∷ os ≡ k) = ground_is name ts k value in
            subst (λ q. IsGroundValue p q o) at.2
            (some_and (function_named p name) (λ d. TermsFit p mentioned scope ts d.args × IsSomeAnd (gives_object d.gives) (λ of. TermFits p mentioned scope t of)) is
            (λ d there fit. at_some (function_named p name) d (λ d. ObjectsFit p at.0 d.args × IsSomeAnd (gives_object d.gives) (λ of. IsObjectOf p o of)) there (
              values_fit mentioned ts d.args fit.0 at.0 at.1,
              some_and (gives_object d.gives) (λ of. TermFits p mentioned scope t of) fit.1
                  (λ of gives term. at_some (gives_object d.gives) of (λ of. IsObjectOf p o of) gives (value_fits t o of term.1 given)),
            )))

      -- ---- what an effect changes

      module _ (mentioned : List Typed) where
        added_is : (x : Effect) → IsEffect p mentioned scope x → IfSome (added s e x) (IsGroundAtom p)
        added_is (effect.Add name ts) is = by (ground_at s e name ts) refl
          where
            by : (g : Option Ground) → ground_at s e name ts ≡ g → IfSome g (IsGroundAtom p)
            by None at = tt
            by (Some k) at = atom_is mentioned name ts k at is
        added_is (effect.Delete name ts) is = tt
        added_is (effect.Number change f ts n) is = tt
        added_is (effect.Object f ts t) is = tt
        added_is (effect.Undefine f ts) is = tt

        number_target_is : (x : Effect) → IsEffect p mentioned scope x → IfSome (number_change s e x) (λ c. IsGroundNumber p c.target)
        number_target_is (effect.Number change f ts n) is = by (ground_at s e f ts) refl (number s e n)
          where
            by : (g : Option Ground) → ground_at s e f ts ≡ g → (v : Option Fraction)
                → IfSome (option_and_then (λ target. option_map (λ operand. let c : NumberChange = record { target = target; change = change; operand = operand } in c) v) g)
                (λ c. IsGroundNumber p c.target)
            by None at v = tt
            by (Some k) at None = tt
            by (Some k) at (Some v) = number_is mentioned f ts k at is.0
        number_target_is (effect.Add name ts) is = tt
        number_target_is (effect.Delete name ts) is = tt
        number_target_is (effect.Object f ts t) is = tt
        number_target_is (effect.Undefine f ts) is = tt

        object_value_is : (x : Effect) → IsEffect p mentioned scope x → IfSome (object_change s e x) (λ c. (o : Name) → c.value ≡ Some o → IsGroundValue p c.target o)
        object_value_is (effect.Object f ts t) is = by (ground_at s e f ts) refl (term_value s e t) refl
          where
            by : (g : Option Ground) → ground_at s e f ts ≡ g → (v : Option Name) → term_value s e t ≡ v
                → IfSome (option_and_then (λ target. option_map (λ value. let c : ObjectChange = record { target = target; value = Some value } in c) v) g)
                (λ c. (o : Name) → c.value ≡ Some o → IsGroundValue p c.target o)
            by None at v given = tt
            by (Some k) at None given = tt
            by (Some k) at (Some v) given = λ o same. subst (IsGroundValue p k) (same_some v o same) (value_is mentioned f ts k at t v is given)
        object_value_is (effect.Undefine f ts) is = by (ground_at s e f ts)
          where
            by : (g : Option Ground) → IfSome (option_map (λ target. let c : ObjectChange = record { target = target; value = None } in c) g)
                (λ c. (o : Name) → c.value ≡ Some o → IsGroundValue p c.target o)
            by None = tt
            by (Some k) = λ o same. no_none o same
        object_value_is (effect.Add name ts) is = tt
        object_value_is (effect.Delete name ts) is = tt
        object_value_is (effect.Number change f ts n) is = tt

    -- ---- the next state

    abbrev ValueFits : ObjectChange → Type 0
    ValueFits c = (o : Name) → c.value ≡ Some o → IsGroundValue p c.target o

    -- a term's new object is its first change's, or the old one
    new_object_is : (q : Ground) (cs : List ObjectChange) → Every ValueFits cs → (o : Name) → new_object (object_at s q) (objects_at q cs) ≡ Some o → IsGroundValue p q o
    new_object_is q [] all o e = state.values q o e
    new_object_is q (c ∷ cs) all o e = by (is_at q c.target) refl e (new_object_is q cs all.1 o)
      where
        by : (b : Bool) → is_at q c.target ≡ b → new_object (object_at s q) (cond b (c ∷ objects_at q cs) (objects_at q cs)) ≡ Some o
            → (new_object (object_at s q) (objects_at q cs) ≡ Some o → IsGroundValue p q o) → IsGroundValue p q o
        by true is e rest = subst (λ t. IsGroundValue p t o) (sym (tied q c.target is)) (all.0 o e)
        by false is e rest = rest e

    -- an effect under an assignment of objects of its variables' types
    abbrev IsFiredOf : Fired → Type 0
    IsFiredOf f = (mentioned : List Typed) × (scope : List Typed) × Suits p scope f.assignment × IsEffect p mentioned scope f.effect

    module _ (fs : List Fired) (all : Every IsFiredOf fs) where
      atoms_are : Every (IsGroundAtom p) (of_firing added s fs)
      atoms_are =
          each_filter_map (IsGroundAtom p) (λ (f : Fired). added s f.assignment f.effect) fs
          (each IsFiredOf (λ f. IfSome (added s f.assignment f.effect) (IsGroundAtom p)) (λ f h. added_is h.1 f.assignment h.2 h.0 f.effect h.3) fs all)

      numbers_are : Every (λ (c : NumberChange). IsGroundNumber p c.target) (of_firing number_change s fs)
      numbers_are =
          each_filter_map (λ (c : NumberChange). IsGroundNumber p c.target) (λ (f : Fired). number_change s f.assignment f.effect) fs
          (each IsFiredOf (λ f. IfSome (number_change s f.assignment f.effect) (λ c. IsGroundNumber p c.target)) (λ f h. number_target_is h.1 f.assignment h.2 h.0 f.effect h.3) fs all)

      values_are : Every ValueFits (of_firing object_change s fs)
      values_are =
          each_filter_map ValueFits (λ (f : Fired). object_change s f.assignment f.effect) fs
          (each IsFiredOf (λ f. IfSome (object_change s f.assignment f.effect) ValueFits) (λ f h. object_value_is h.1 f.assignment h.2 h.0 f.effect h.3) fs all)

      atom_stays : (a : Ground) → Holds (changed s fs) a → IsGroundAtom p a
      atom_stays a h = by (set.contains s.atoms a) refl (list_any (is_at a) (of_firing deleted s fs)) (list_any (is_at a) (of_firing added s fs)) refl (sym (contains-changed s fs a) ∙ h)
        where
          by : (old : Bool) → set.contains s.atoms a ≡ old → (gone new : Bool) → list_any (is_at a) (of_firing added s fs) ≡ new → ((old && not gone) || new) ≡ true → IsGroundAtom p a
          by true held gone new is e = state.atoms a held
          by false held gone true is e = among (IsGroundAtom p) (of_firing added s fs) atoms_are a is
          by false held gone false is e = absurd (true≢false (sym e))

      pub changed_is_of : IsStateOf p (changed s fs)
      unfolding changed
      changed_is_of =
          let cs : List NumberChange = of_firing number_change s fs in
          let ds : List ObjectChange = of_firing object_change s fs in
          record {
            atoms = atom_stays;
            numbers = λ t h. some_there (number_at (changed s fs) t) h
                (fold_keeps (λ q _. IsGroundNumber p q) (λ (c : NumberChange). c.target) (λ c. new_number (number_at s c.target) (changes_at c.target cs)) cs s.numbers
                (λ q x e. state.numbers q (ap is_some e))
                (each (λ (c : NumberChange). IsGroundNumber p c.target) (λ c. (x : Fraction) → new_number (number_at s c.target) (changes_at c.target cs) ≡ Some x → IsGroundNumber p c.target)
                (λ c is x e. is) cs numbers_are) t);
            values = fold_keeps (IsGroundValue p) (λ (c : ObjectChange). c.target) (λ c. new_object (object_at s c.target) (objects_at c.target ds)) ds s.values state.values
                (each_member (λ c. (x : Name) → new_object (object_at s c.target) (objects_at c.target ds) ≡ Some x → IsGroundValue p c.target x) ds
                (λ c m. new_object_is c.target ds values_are));
          }

    module _ (a : Action) (is : IsAction p a) (args : List Name) (are : AreObjectsOf p a.params args) where
      abbrev IsInstanceOf : Instance → Type 0
      IsInstanceOf i = (mentioned : List Typed) × (scope : List Typed) × Suits p scope i.assignment × IsEffect p mentioned scope i.row.effect

      arguments_suit : Suits p a.params (action_assignment a args)
      arguments_suit = subst (λ scope. Suits p scope (action_assignment a args)) (append-nil a.params) (assign_suits p a.params args [] unassigned (λ v u o typed value. no_none u typed) is.params.differ are)

      row_is : (r : Row) → IsRow p (take p.constants p.objects) a.params r → Every IsInstanceOf (row_instances (world p) (action_assignment a args) r)
      row_is r row =
          each_map IsInstanceOf (instance_at (action_assignment a args) r) (tuples (world p) r.vars)
          (each (AreObjectsOf p r.vars) (λ tuple. IsInstanceOf (instance_at (action_assignment a args) r tuple))
          (λ tuple fit. (take p.constants p.objects, r.vars ++ a.params, assign_suits p r.vars tuple a.params (action_assignment a args) arguments_suit row.vars.differ fit, row.effect))
          (tuples (world p) r.vars) (all_tuples r.vars))

      one_fired : (i : Instance) → IsInstanceOf i → (b : Bool)
          → IfSome (if b then Some (let f : Fired = record { assignment = i.assignment; effect = i.row.effect } in f) else None) IsFiredOf
      one_fired i h true = h
      one_fired i h false = tt

      all_fired : Every IsFiredOf (firing (world p) s a args)
      all_fired =
          each_filter_map IsFiredOf (fired (world p) s) (instances (world p) a args)
          (each IsInstanceOf (λ i. IfSome (fired (world p) s i) IsFiredOf) (λ i h. one_fired i h (is_true (truth_of (world p) s i.assignment i.row.when))) (instances (world p) a args)
          (each_flat_map IsInstanceOf (row_instances (world p) (action_assignment a args)) a.rows
          (each (IsRow p (take p.constants p.objects) a.params) (λ r. Every IsInstanceOf (row_instances (world p) (action_assignment a args) r)) row_is a.rows is.rows)))

-- ---- a step that can be taken

module _ (p : Parts) (s : State) (step : Step) (can : CanTake p s step) (a : Action) (there : action_named p step.action ≡ Some a) where
  arguments_typed : (b : Bool) → are_typed (world p) step.args a.params ≡ b → b ≡ true
  arguments_typed true is = refl
  arguments_typed false is = absurd (can argument_type (applies_at p step a there s argument_type (untyped_one (world p) step.args a.params is)))

  of_action : IsWellFormed p → IsStateOf p s → IsStateOf p (changed s (firing (world p) s a step.args))
  of_action well state =
      let action : IsAction p a = every_member (IsAction p) p.actions well.actions a (find_member (λ (b : Action). same_name b.name step.action) p.actions a there) in
      let are : AreObjectsOf p a.params step.args =
      arguments_are p well a.params step.args (arguments_typed (are_typed (world p) step.args a.params) refl) (λ n. can arity (applies_at p step a there s arity n)) in
      changed_is_of p well s state (firing (world p) s a step.args) (all_fired p well s state a action step.args are)

pub next_stays : (p : Parts) (s : State) (step : Step) (t : State) → CanTake p s step → IsNext p s step t → StaysOf p s t
next_stays p s step t can next well state =
    some_and (action_named p step.action) (λ a. t ≡ changed s (firing (world p) s a step.args)) next
    (λ a there is. subst (IsStateOf p) (sym is) (of_action p s step can a there well state))
