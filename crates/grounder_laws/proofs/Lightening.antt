-- A delete row whose atom an add row adds may be left out.
use Rattle.std.proofs.Common.{◌≡◌, ◌⊎◌, ◌↔◌, ◌≤◌, Bool, true, false, cond, not as flip, ◌&&◌, List, [], ◌∷◌, ◌++◌, map, filter, length, Some, None, refl, ap, sym, ◌∙◌, subst, inl, inr, ⊎_elim}
use Rattle.std.specs.List.{filter_map, flat_map, cons_option}
use Rattle.up_text.specs.declared.name.Name.{Name}
use Rattle.up_text.specs.Lists.{Somewhere, Member}
use Rattle.up_tree.specs.declared.term.Term.{Term}
use Rattle.up_tree.specs.declared.formula.Formula.{Formula, Atom}
use Rattle.up_tree.specs.declared.action.Action.{Action}
use Rattle.up_tree.specs.declared.action.Row.{Row}
use Rattle.up_tree.specs.declared.action.Effect.{Effect}
use Rattle.up_tree.specs.declared.action.Effect.TheVariants as effect
use Rattle.up_tree.specs.declared.truth.Truth.TheVariants as truth
use Rattle.up_tree.specs.Objects.{World, Assignment, assign, tuples}
use Rattle.up_tree.specs.State.{State, Ground}
use Rattle.up_tree.specs.Truth.{IsUndefined}
use Rattle.up_tree.specs.Judged.{is_true}
use Rattle.up_tree.specs.Simplify.{is_empty, is_true_formula}
use Rattle.up_tree.specs.Instances.{Instance, Fired, row_instances, action_assignment, fired, firing}
use Rattle.up_tree.specs.Changes.{changes_at, objects_at, changed}
use Rattle.up_tree.specs.Faults.{Fault, unknown, arity, argument_type, precondition, condition_undefined, object_undefined, number_undefined, number_conflict, object_conflict, IsShift, ActionApplies}
use Rattle.up_tree.proofs.Judging.{judged}
use Rattle.condition_laws.proofs.Simplifying.{of_always}
use Rattle.expansion_laws.proofs.Doing.{by_path}
use Rattle.compiling_laws.proofs.Same.{same_decides}
use Rattle.compiling_laws.proofs.Lists.{false_true, and_true, any_true, member_filter}
use Rattle.grounder_laws.specs.Grounder.{is_bare, adds, is_outdone, is_left_out, lighter}
use Rattle.grounder_laws.proofs.Thinning.{adding, deleting, Thins, nothing, lost, behind, numbers, objects, object_back, object_on, number_back, number_on, same_left}

-- ---- rows without variables and with the condition `true`

empty_is : {X : Type 0} (xs : List X) → is_empty xs ≡ true → xs ≡ []
empty_is [] e = refl
empty_is (x ∷ xs) e = false_true e

module _ (w : World) (s : State) (e : Assignment) where
  -- of the instances of rows, those that fire
  abbrev fires : List Row → List Fired
  fires rows = filter_map (fired w s) (flat_map (row_instances w e) rows)

  abbrev own : Row → List Fired
  own r = filter_map (fired w s) (row_instances w e r)

  fires_behind : (xs ys : List Instance) → filter_map (fired w s) (xs ++ ys) ≡ filter_map (fired w s) xs ++ filter_map (fired w s) ys
  fires_behind [] ys = refl
  fires_behind (x ∷ xs) ys = by (fired w s x) (fires_behind xs ys)
    where
      by : (o : _) → filter_map (fired w s) (xs ++ ys) ≡ filter_map (fired w s) xs ++ filter_map (fired w s) ys
          → cons_option o (filter_map (fired w s) (xs ++ ys)) ≡ cons_option o (filter_map (fired w s) xs) ++ filter_map (fired w s) ys
      by None more = more
      by (Some f) more = ap (λ l. f ∷ l) more

  fires_first : (r : Row) (rows : List Row) → fires (r ∷ rows) ≡ own r ++ fires rows
  fires_first r rows = fires_behind (row_instances w e r) (flat_map (row_instances w e) rows)

  one_instance : (r : Row) → r.vars ≡ [] → row_instances w e r ≡ record { assignment = e; row = r } ∷ []
  one_instance r none = λ i. map (λ tuple. let x : Instance = record { assignment = assign (none i) tuple e; row = r } in x) (tuples w (none i))

  bare_fires : (r : Row) → is_bare r ≡ true → own r ≡ record { assignment = e; effect = r.effect } ∷ []
  bare_fires r bare =
      let k : (is_empty r.vars ≡ true) × (is_true_formula r.when ≡ true) = and_true (is_empty r.vars) (is_true_formula r.when) bare in
      ap (filter_map (fired w s)) (one_instance r (empty_is r.vars k.0))
      ∙ ap (λ t. cons_option (cond (is_true t) (Some (let f : Fired = record { assignment = e; effect = r.effect } in f)) None) []) (of_always w s e r.when k.1)

  fires_row : (rows : List Row) (r : Row) → Member r rows → is_bare r ≡ true → Member (record { assignment = e; effect = r.effect }) (fires rows)
  fires_row [] r m bare = absurd m
  fires_row (x ∷ rows) r (inl same) bare =
      subst (Member (record { assignment = e; effect = r.effect })) (sym (fires_first x rows))
      (subst (λ l. Member (record { assignment = e; effect = r.effect }) (l ++ fires rows)) (sym (ap own (sym same) ∙ bare_fires r bare)) (inl refl))
  fires_row (x ∷ rows) r (inr m) bare =
      subst (Member (record { assignment = e; effect = r.effect })) (sym (fires_first x rows)) (later (own x) (fires_row rows r m bare))
    where
      later : (xs : List Fired) → Member (record { assignment = e; effect = r.effect }) (fires rows) → Member (record { assignment = e; effect = r.effect }) (xs ++ fires rows)
      later [] k = k
      later (y ∷ xs) k = inr (later xs k)

-- ---- what is left out

atom_name : Formula → Name
atom_name (Atom name ts) = name
atom_name f = []

atom_terms : Formula → List Term
atom_terms (Atom name ts) = ts
atom_terms f = []

same_names : (n k : Name) (ts us : List Term) → Atom n ts ≡ Atom k us → n ≡ k
unfolding atom_name
same_names n k ts us e = ap atom_name e

same_terms : (n k : Name) (ts us : List Term) → Atom n ts ≡ Atom k us → ts ≡ us
unfolding atom_terms
same_terms n k ts us e = ap atom_terms e

-- the effect adds the atom
adds_is : (name : Name) (ts : List Term) (x : Effect) → adds (Atom name ts) x ≡ true → x ≡ effect.Add name ts
adds_is name ts (effect.Add other us) h =
    let e : Atom name ts ≡ Atom other us = (same_decides (Atom name ts) (Atom other us)).0 h in
    λ i. effect.Add (sym (same_names name other ts us e) i) (sym (same_terms name other ts us e) i)
adds_is name ts (effect.Delete other us) h = false_true h
adds_is name ts (effect.Number change f us x) h = false_true h
adds_is name ts (effect.Object f us t) h = false_true h
adds_is name ts (effect.Undefine f us) h = false_true h

-- a row that is left out deletes an atom that some row adds
record IsOutdone (rows : List Row) (r : Row) : Type 0 where
  bare : is_bare r ≡ true
  name : Name
  terms : List Term
  deletes : r.effect ≡ effect.Delete name terms
  adder : Row
  listed : Member adder rows
  adder_bare : is_bare adder ≡ true
  adds_it : adder.effect ≡ effect.Add name terms

outdone_is : (rows : List Row) (r : Row) → is_left_out rows r ≡ true → IsOutdone rows r
outdone_is rows r h = let k : (is_bare r ≡ true) × (is_outdone rows r.effect ≡ true) = and_true (is_bare r) (is_outdone rows r.effect) h in by r.effect refl k.1 k.0
  where
    by : (x : Effect) → r.effect ≡ x → is_outdone rows x ≡ true → is_bare r ≡ true → IsOutdone rows r
    by (effect.Delete n ts) is out here =
        let a : (x : Row) × Member x rows × ((is_bare x && adds (Atom n ts) x.effect) ≡ true) = any_true (λ (x : Row). is_bare x && adds (Atom n ts) x.effect) rows out in
        let k : (is_bare a.0 ≡ true) × (adds (Atom n ts) a.0.effect ≡ true) = and_true (is_bare a.0) (adds (Atom n ts) a.0.effect) a.2 in
        record { bare = here; name = n; terms = ts; deletes = is; adder = a.0; listed = a.1; adder_bare = k.0; adds_it = adds_is n ts a.0.effect k.1 }
    by (effect.Add n ts) is out here = false_true out
    by (effect.Number change f ts n) is out here = false_true out
    by (effect.Object f ts t) is out here = false_true out
    by (effect.Undefine f ts) is out here = false_true out

-- a row that adds stays
adder_stays : (rows : List Row) (r : Row) (name : Name) (ts : List Term) → r.effect ≡ effect.Add name ts → flip (is_left_out rows r) ≡ true
adder_stays rows r name ts is = (λ i. flip (is_bare r && is_outdone rows (is i))) ∙ by (is_bare r)
  where
    by : (b : Bool) → flip (b && false) ≡ true
    by true = refl
    by false = refl

abbrev pub left_rows : List Row → List Row
left_rows rows = filter (λ r. flip (is_left_out rows r)) rows

-- ---- faults and next states

module _ (w : World) (s : State) (e : Assignment) (rows : List Row) where
  abbrev all : List Fired
  all = fires w s e (left_rows rows)

  abbrev keeps : Row → Bool
  keeps r = flip (is_left_out rows r)

  thinner : (more : List Row) → Thins all (fires w s e (filter keeps more)) (fires w s e more)
  thinner [] = nothing
  thinner (r ∷ more) = by (is_left_out rows r) refl (thinner more)
    where
      by : (b : Bool) → is_left_out rows r ≡ b → Thins all (fires w s e (filter keeps more)) (fires w s e more)
          → Thins all (fires w s e (cond (flip b) (r ∷ filter keeps more) (filter keeps more))) (fires w s e (r ∷ more))
      by false at t =
          subst (λ l. Thins all l (fires w s e (r ∷ more))) (sym (fires_first w s e r (filter keeps more)))
          (subst (λ l. Thins all (own w s e r ++ fires w s e (filter keeps more)) l) (sym (fires_first w s e r more))
          (behind all (own w s e r) (fires w s e (filter keeps more)) (fires w s e more) t))
      by true at t =
          let k : IsOutdone rows r = outdone_is rows r at in
          let adder : Member (adding e k.name k.terms) all =
          subst (λ x. Member (let f : Fired = record { assignment = e; effect = x } in f) all) k.adds_it
          (fires_row w s e (left_rows rows) k.adder (member_filter keeps rows k.adder k.listed (adder_stays rows k.adder k.name k.terms k.adds_it)) k.adder_bare)
          in
          let first : fires w s e (r ∷ more) ≡ deleting e k.name k.terms ∷ fires w s e more =
          fires_first w s e r more ∙ ap (λ l. l ++ fires w s e more) (bare_fires w s e r k.bare)
          ∙ ap (λ x. (let f : Fired = record { assignment = e; effect = x } in f) ∷ fires w s e more) k.deletes
          in
          subst (λ l. Thins all (fires w s e (filter keeps more)) l) (sym first) (lost adder t)

  -- a condition that is `true` is not undefined
  abbrev Undefined : List Row → Type 0
  Undefined more = Somewhere (λ (i : Instance). IsUndefined w s i.assignment i.row.when) (flat_map (row_instances w e) more)

  some_append : (P : Instance → Type 0) (xs ys : List Instance) → Somewhere P (xs ++ ys) → Somewhere P xs ⊎ Somewhere P ys
  some_append P [] ys h = inr h
  some_append P (x ∷ xs) ys (inl h) = inl (inl h)
  some_append P (x ∷ xs) ys (inr h) = ⊎_elim (λ k. inl (inr k)) (λ k. inr k) (some_append P xs ys h)

  some_first : (P : Instance → Type 0) (xs ys : List Instance) → Somewhere P xs → Somewhere P (xs ++ ys)
  some_first P [] ys h = absurd h
  some_first P (x ∷ xs) ys (inl h) = inl h
  some_first P (x ∷ xs) ys (inr h) = inr (some_first P xs ys h)

  some_second : (P : Instance → Type 0) (xs ys : List Instance) → Somewhere P ys → Somewhere P (xs ++ ys)
  some_second P [] ys h = h
  some_second P (x ∷ xs) ys h = inr (some_second P xs ys h)

  abbrev Bad : Instance → Type 0
  Bad i = IsUndefined w s i.assignment i.row.when

  undefined_on : (more : List Row) → Undefined more → Undefined (filter keeps more)
  undefined_on [] h = h
  undefined_on (r ∷ more) h =
      by (is_left_out rows r) refl (undefined_on more) (some_append Bad (row_instances w e r) (flat_map (row_instances w e) more) h)
    where
      by : (b : Bool) → is_left_out rows r ≡ b → (Undefined more → Undefined (filter keeps more)) → Somewhere Bad (row_instances w e r) ⊎ Undefined more
          → Undefined (cond (flip b) (r ∷ filter keeps more) (filter keeps more))
      by false at later (inl k) = some_first Bad (row_instances w e r) (flat_map (row_instances w e) (filter keeps more)) k
      by false at later (inr k) = some_second Bad (row_instances w e r) (flat_map (row_instances w e) (filter keeps more)) (later k)
      by true at later (inr k) = later k
      by true at later (inl k) =
          let is : IsOutdone rows r = outdone_is rows r at in
          let bare : (is_empty r.vars ≡ true) × (is_true_formula r.when ≡ true) = and_true (is_empty r.vars) (is_true_formula r.when) is.bare in
          never r.when bare.1 (subst (Somewhere Bad) (one_instance w s e r (empty_is r.vars bare.0)) k)
        where
          never : {A : Type 0} (f : Formula) → is_true_formula f ≡ true → IsUndefined w s e f ⊎ ⊥ → A
          never f is (inl u) = absurd (u.0 (judged w s e f truth.True (sym (of_always w s e f is))))
          never f is (inr u) = absurd u

  undefined_back : (more : List Row) → Undefined (filter keeps more) → Undefined more
  undefined_back [] h = h
  undefined_back (r ∷ more) h = by (is_left_out rows r) (undefined_back more) h
    where
      by : (b : Bool) → (Undefined (filter keeps more) → Undefined more) → Undefined (cond (flip b) (r ∷ filter keeps more) (filter keeps more)) → Undefined (r ∷ more)
      by true later h = some_second Bad (row_instances w e r) (flat_map (row_instances w e) more) (later h)
      by false later h =
          ⊎_elim (λ k. some_first Bad (row_instances w e r) (flat_map (row_instances w e) more) k)
          (λ k. some_second Bad (row_instances w e r) (flat_map (row_instances w e) more) (later k))
          (some_append Bad (row_instances w e r) (flat_map (row_instances w e) (filter keeps more)) h)

module _ (w : World) (s : State) (a : Action) (args : List Name) where
  abbrev e : Assignment
  e = action_assignment a args

  thin : Thins (firing w s (lighter a) args) (firing w s (lighter a) args) (firing w s a args)
  thin = thinner w s e a.rows a.rows

  pub lighter_faults : (fault : Fault) → ActionApplies w s (lighter a) args fault ↔ ActionApplies w s a args fault
  lighter_faults unknown = (λ h. h, λ h. h)
  lighter_faults arity = (λ h. h, λ h. h)
  lighter_faults argument_type = (λ h. h, λ h. h)
  lighter_faults precondition = (λ h. h, λ h. h)
  lighter_faults condition_undefined = (undefined_back w s e a.rows a.rows, undefined_on w s e a.rows a.rows)
  lighter_faults object_undefined = (
    object_back s (firing w s (lighter a) args) (firing w s (lighter a) args) (firing w s a args) thin,
    λ h. ⊎_elim (λ k. k) (λ k. k) (object_on s (firing w s (lighter a) args) (firing w s (lighter a) args) (firing w s a args) thin h),
  )
  lighter_faults number_undefined = (
    number_back s (firing w s (lighter a) args) (firing w s (lighter a) args) (firing w s a args) thin,
    number_on s (firing w s (lighter a) args) (firing w s (lighter a) args) (firing w s a args) thin,
  )
  lighter_faults number_conflict =
      by_path (λ i. (q : Ground) × let changes = changes_at q (numbers s (firing w s (lighter a) args) (firing w s (lighter a) args) (firing w s a args) thin i) in
      (2 ≤ length changes) × Somewhere (λ c. ¬ IsShift c.change) changes)
  lighter_faults object_conflict =
      by_path (λ i. (q : Ground) × let changes = objects_at q (objects s (firing w s (lighter a) args) (firing w s (lighter a) args) (firing w s a args) thin i) in
      Somewhere (λ c. Somewhere (λ d. ¬ (c.value ≡ d.value)) changes) changes)

  pub lighter_next : changed s (firing w s (lighter a) args) ≡ changed s (firing w s a args)
  lighter_next = same_left s (firing w s (lighter a) args) (firing w s a args) thin
