-- The problem with monitors is well-formed.
use Rattle.std.proofs.Common.{◌≡◌, Bool, true, false, cond, true≢false, List, [], ◌∷◌, ◌++◌, map, flat_map, find, take, length, Some, IsSomeAnd, refl, ap, sym, subst, inl, inr, arith}
use Rattle.std.specs.Cmp.Lexicographic.{bytes_decides}
use Rattle.std.proofs.lemmas.List.{take_all}
use Rattle.up_text.specs.declared.name.Name.{Name}
use Rattle.up_text.specs.Names.{same_name}
use Rattle.up_text.specs.Lists.{Every, Member}
use Rattle.up_tree.specs.declared.action.Action.{Action}
use Rattle.up_tree.specs.declared.action.Row.{Row}
use Rattle.up_tree.specs.declared.formula.Formula.{Formula, And, Or}
use Rattle.up_tree.specs.declared.term.Typed.{Typed}
use Rattle.up_tree.specs.declared.problem.Parts.{Parts}
use Rattle.up_tree.specs.declared.problem.Predicate.{Predicate}
use Rattle.up_tree.specs.declared.problem.Function.{Function}
use Rattle.up_tree.specs.Nodes.{not}
use Rattle.up_tree.specs.Objects.{unassigned}
use Rattle.up_tree.specs.WellFormed.{AreDeclared, AreVariables, TermsFit, IsAtom, IsFormula, IsPlain, IsEffect, IsRow, IsAction, IsFact, IsNumberFact, IsValueFact, OfGives, IsType, IsWellFormed}
use Rattle.semantics_laws.proofs.Lists.{each_as, each_map}
use Rattle.expansion_laws.specs.Expanded.{problem_expanded}
use Rattle.expansion_laws.proofs.Unchanged.{same_effect}
use Rattle.expansion_forms.specs.Covered.{Declares, AreObjects}
use Rattle.expansion_forms.proofs.Covering.{covers_itself, first_objects, all_objects}
use Rattle.expansion_forms.proofs.Formulas.{IsFormula-And, IsFormula-Or, variables_well}
use Rattle.expansion_forms.proofs.Problems.{declared_well, more_declares, problem_well}
use Rattle.expansion_forms.proofs.Terms.{effect_well}
use Rattle.compiling_laws.specs.Forms.{symbols}
use Rattle.compiling_laws.proofs.Declared.{more_are_declared}
use Rattle.compiling_laws.proofs.Lists.{member_left, member_right, member_flat}
use Rattle.step_laws.proofs.Lists.{every_at, every_from}
use Rattle.compiling_laws.proofs.More.{fact_stays, numbers_stay, values_stay, metric_stays, gives_stay}
use Rattle.compiling_laws.proofs.Names.{every_append}
use Rattle.trajectory_laws.specs.Variables.{names, bound, action_variables, with_new_names}
use Rattle.trajectory_laws.specs.Trajectory.{constraint_instances, Watch, always, sometime, at_most_once, sometime_after, sometime_before, monitors, watches, holds, adds, deletes, to_precondition, to_rows, to_goal, watched_formulas, watch_by, action_renamings, watched_action, all_constraint_variables, monitor_predicate, monitored}
use Rattle.trajectory_laws.proofs.Wider.{wider_formula}
use Rattle.trajectory_laws.proofs.NewNames.{AreNew, Within, IsStill, new_names_keep, cleared, among}
use Rattle.trajectory_laws.proofs.Running.{IsSetting}
use Rattle.trajectory_laws.proofs.Setting.{AreFresh, all_fresh, setting}

names_made : (ms : List Name) → map (λ (d : Predicate). d.name) (map monitor_predicate ms) ≡ ms
names_made [] = refl
names_made (m ∷ ms) = ap (λ l. m ∷ l) (names_made ms)

-- a monitor is declared, without arguments
found_behind : (P : Predicate → Type 0) (m : Name) → ((n : Name) → P (monitor_predicate n)) → (ds : List Predicate) → ¬ Member m (map (λ (d : Predicate). d.name) ds) → (ms : List Name) → Member m ms →
    IsSomeAnd (find (λ (d : Predicate). same_name d.name m) (ds ++ map monitor_predicate ms)) P
found_behind P m holds (d ∷ ds) out ms at = by (same_name d.name m) refl (found_behind P m holds ds (λ k. out (inr k)) ms at)
  where
    by : (b : Bool) → same_name d.name m ≡ b → IsSomeAnd (find (λ (d : Predicate). same_name d.name m) (ds ++ map monitor_predicate ms)) P →
        IsSomeAnd (cond b (Some d) (find (λ (d : Predicate). same_name d.name m) (ds ++ map monitor_predicate ms))) P
    by true is more = absurd (out (inl (sym ((bytes_decides d.name m).0 is))))
    by false is more = more
found_behind P m holds [] out [] at = absurd at
found_behind P m holds [] out (n ∷ ms) (inl e) = by (same_name n m) ((bytes_decides n m).1 (sym e))
  where
    by : (b : Bool) → b ≡ true → IsSomeAnd (cond b (Some (monitor_predicate n)) (find (λ (d : Predicate). same_name d.name m) (map monitor_predicate ms))) P
    by true is = holds n
    by false is = absurd (true≢false (sym is))
found_behind P m holds [] out (n ∷ ms) (inr k) = by (same_name n m) (found_behind P m holds [] out ms k)
  where
    by : (b : Bool) → IsSomeAnd (find (λ (d : Predicate). same_name d.name m) (map monitor_predicate ms)) P →
        IsSomeAnd (cond b (Some (monitor_predicate n)) (find (λ (d : Predicate). same_name d.name m) (map monitor_predicate ms))) P
    by true more = holds n
    by false more = more

module _ (p : Parts) (formed : IsWellFormed p) where
  abbrev xs : List Watch
  xs = watches p

  abbrev ms : List Name
  ms = flat_map monitors xs

  abbrev more : List Predicate
  more = map monitor_predicate ms

  abbrev q : Parts
  q = monitored p

  so : IsSetting p (all_constraint_variables p) xs
  so = setting p formed

  fresh : AreFresh ms (symbols p)
  fresh = all_fresh (symbols p) (constraint_instances p)

  declares : Declares p q
  declares = more_declares p q refl refl refl more refl

  all_named : take q.constants q.objects ≡ q.objects
  all_named = take_all (length p.objects) p.objects (omega arith)

  formula_well : (objects scope : List Typed) → AreObjects p objects → (f : Formula) → IsFormula p objects scope f → IsFormula q q.objects scope f
  formula_well objects scope are f is = declared_well p q formed declares objects scope are f is

  -- ---- what is added

  module _ (scope : List Typed) where
    atom_well : (m : Name) → Member m ms → IsAtom q q.objects scope m []
    atom_well m at = found_behind (λ d. TermsFit q q.objects scope [] d.args) m (λ n. tt) p.predicates (so.new m at) ms at

    holds_well : (m : Name) → Member m ms → IsFormula q q.objects scope (holds m)
    unfolding IsFormula
    holds_well m at = atom_well m at

    not_well : (f : Formula) → IsFormula q q.objects scope f → IsFormula q q.objects scope (not f)
    unfolding IsFormula
    not_well f is = is

    and_well : (f g : Formula) → IsFormula q q.objects scope f → IsFormula q q.objects scope g → IsFormula q q.objects scope (And (f ∷ g ∷ []))
    and_well f g is too = subst (λ X. X) (sym (IsFormula-And q q.objects scope (f ∷ g ∷ []))) (is, (too, tt))

    or_well : (f g : Formula) → IsFormula q q.objects scope f → IsFormula q q.objects scope g → IsFormula q q.objects scope (Or (f ∷ g ∷ []))
    or_well f g is too = subst (λ X. X) (sym (IsFormula-Or q q.objects scope (f ∷ g ∷ []))) (is, (too, tt))

    no_variables : AreVariables q scope []
    no_variables = record { names_all = tt; differ = tt; fresh = tt; typed = tt }

    adds_well : (f : Formula) (m : Name) → IsFormula q q.objects scope f → Member m ms → IsRow q q.objects scope (adds f m)
    adds_well f m is at = record { vars = no_variables; when = is; effect = atom_well m at }

    deletes_well : (f : Formula) (m : Name) → IsFormula q q.objects scope f → Member m ms → IsRow q q.objects scope (deletes f m)
    deletes_well f m is at = record { vars = no_variables; when = is; effect = atom_well m at }

    abbrev AreWell : Watch → Type 0
    AreWell x = Every (IsFormula q q.objects scope) (watched_formulas x) × Within (monitors x) ms

    precondition_well : (x : Watch) → AreWell x → Every (IsFormula q q.objects scope) (to_precondition x)
    precondition_well (always f) h = (h.0.0, tt)
    precondition_well (sometime f had) h = tt
    precondition_well (at_most_once f seen gone) h = (not_well (And (f ∷ holds gone ∷ [])) (and_well f (holds gone) h.0.0 (holds_well gone (h.1 gone (inr (inl refl))))), tt)
    precondition_well (sometime_after f g due) h = tt
    precondition_well (sometime_before f g was) h = (or_well (not f) (holds was) (not_well f h.0.0) (holds_well was (h.1 was (inl refl))), tt)

    rows_well : (x : Watch) → AreWell x → Every (IsRow q q.objects scope) (to_rows x)
    rows_well (always f) h = tt
    rows_well (sometime f had) h = (adds_well f had h.0.0 (h.1 had (inl refl)), tt)
    rows_well (at_most_once f seen gone) h = (
      adds_well f seen h.0.0 (h.1 seen (inl refl)),
      (adds_well (And (holds seen ∷ not f ∷ [])) gone (and_well (holds seen) (not f) (holds_well seen (h.1 seen (inl refl))) (not_well f h.0.0)) (h.1 gone (inr (inl refl))), tt),
    )
    rows_well (sometime_after f g due) h = (
      deletes_well g due h.0.1.0 (h.1 due (inl refl)),
      (adds_well (And (f ∷ not g ∷ [])) due (and_well f (not g) h.0.0 (not_well g h.0.1.0)) (h.1 due (inl refl)), tt),
    )
    rows_well (sometime_before f g was) h = (adds_well g was h.0.1.0 (h.1 was (inl refl)), tt)

    goal_well : (x : Watch) → AreWell x → IsFormula q q.objects scope (to_goal x)
    goal_well (always f) h = h.0.0
    goal_well (sometime f had) h = or_well (holds had) f (holds_well had (h.1 had (inl refl))) h.0.0
    goal_well (at_most_once f seen gone) h = not_well (And (f ∷ holds gone ∷ [])) (and_well f (holds gone) h.0.0 (holds_well gone (h.1 gone (inr (inl refl)))))
    goal_well (sometime_after f g due) h =
        or_well g (And (not f ∷ not (holds due) ∷ [])) h.0.1.0 (and_well (not f) (not (holds due)) (not_well f h.0.0) (not_well (holds due) (holds_well due (h.1 due (inl refl)))))
    goal_well (sometime_before f g was) h = or_well (not f) (holds was) (not_well f h.0.0) (holds_well was (h.1 was (inl refl)))

    all_preconditions : (ys : List Watch) → Every AreWell ys → Every (IsFormula q q.objects scope) (flat_map to_precondition ys)
    all_preconditions [] h = tt
    all_preconditions (y ∷ ys) h = every_append (IsFormula q q.objects scope) (to_precondition y) (flat_map to_precondition ys) (precondition_well y h.0) (all_preconditions ys h.1)

    all_rows : (ys : List Watch) → Every AreWell ys → Every (IsRow q q.objects scope) (flat_map to_rows ys)
    all_rows [] h = tt
    all_rows (y ∷ ys) h = every_append (IsRow q q.objects scope) (to_rows y) (flat_map to_rows ys) (rows_well y h.0) (all_rows ys h.1)

  abbrev IsClosed : Formula → Type 0
  IsClosed f = IsFormula p p.objects [] f × IsPlain f × Within (bound f) (all_constraint_variables p)

  -- an instance's monitors are among all
  within_all : (x : Watch) → Member x xs → Within (monitors x) ms
  within_all x at m k = member_flat monitors x m xs at k

  -- ---- an action

  module _ (a : Action) (member : Member a p.actions) where
    abbrev change : Formula → Formula
    change = with_new_names (action_renamings (all_constraint_variables p) xs a)

    abbrev used : List Name
    used = action_variables a ++ all_constraint_variables p

    abbrev bounds : List Name
    bounds = flat_map (λ x. flat_map bound (watched_formulas x)) xs

    is_action : IsAction p a
    is_action = every_at (IsAction p) p.actions a formed.actions member

    changed_well : (x : Watch) → Member x xs → (f : Formula) → Member f (watched_formulas x) → IsClosed f → IsFormula q q.objects a.params (change f)
    changed_well x at f here closed =
        let new : AreNew (action_renamings (all_constraint_variables p) xs a) used = so.renewed a member in
        let still : IsStill p p.objects (change f) f = new_names_keep p p.objects (action_renamings (all_constraint_variables p) xs a) used new f closed.0 closed.1
        (λ v m. member_right v (action_variables a) (all_constraint_variables p) (closed.2 v m)) in
        wider_formula q q.objects a.params [] (change f) (formula_well p.objects [] (all_objects p) (change f) still.formed) still.plain
        (cleared bounds used a.params new (λ v m. member_left v (action_variables a) (all_constraint_variables p) (member_left v (names a.params ++ bound a.pre) (flat_map (λ (r : Row). names r.vars ++ bound r.when) a.rows) (member_left v (names a.params) (bound a.pre) m))) f
        (λ y m k. among bounds y (member_flat (λ x. flat_map bound (watched_formulas x)) x y xs at (member_flat bound f y (watched_formulas x) here m))))

    changed_formulas : (x : Watch) → Member x xs → Every IsClosed (watched_formulas x) → Every (IsFormula q q.objects a.params) (watched_formulas (watch_by change x))
    changed_formulas x at closed = by x (every_from (λ f. IsFormula q q.objects a.params (change f)) (watched_formulas x) (λ f m. changed_well x at f m (every_at IsClosed (watched_formulas x) f closed m)))
      where
        by : (x : Watch) → Every (λ f. IsFormula q q.objects a.params (change f)) (watched_formulas x) → Every (IsFormula q q.objects a.params) (watched_formulas (watch_by change x))
        by (always f) h = h
        by (sometime f had) h = h
        by (at_most_once f seen gone) h = h
        by (sometime_after f g due) h = h
        by (sometime_before f g was) h = h

    changed_monitors : (x : Watch) → Member x xs → Within (monitors (watch_by change x)) ms
    changed_monitors x at = by x (within_all x at)
      where
        by : (x : Watch) → Within (monitors x) ms → Within (monitors (watch_by change x)) ms
        by (always f) h = h
        by (sometime f had) h = h
        by (at_most_once f seen gone) h = h
        by (sometime_after f g due) h = h
        by (sometime_before f g was) h = h

    all_changed : Every (AreWell a.params) (map (watch_by change) xs)
    all_changed = each_map (AreWell a.params) (watch_by change) xs (every_from (λ x. AreWell a.params (watch_by change x)) xs (λ x at.
        (changed_formulas x at (every_at (λ x. Every IsClosed (watched_formulas x)) xs x so.closed at), changed_monitors x at)))

    old_row : (row : Row) → IsRow p (take p.constants p.objects) a.params row → IsRow q q.objects a.params row
    old_row row is =
        let scope : List Typed = row.vars ++ a.params in
        record {
          vars = variables_well p q declares a.params a.params row.vars (λ v m. m) is.vars;
          when = formula_well (take p.constants p.objects) scope (first_objects p p.constants) row.when is.when;
          effect = subst (IsEffect q q.objects scope) (same_effect row.effect)
              (effect_well p q formed declares (take p.constants p.objects) scope scope (first_objects p p.constants) unassigned (covers_itself p scope) row.effect is.effect);
        }

    pub action_well : IsAction q (watched_action (all_constraint_variables p) xs a)
    action_well =
        let cs : List Formula = flat_map to_precondition (map (watch_by change) xs) in
        let rs : List Row = flat_map to_rows (map (watch_by change) xs) in
        record {
          params = variables_well p q declares [] [] a.params (λ v m. m) is_action.params;
          pre = subst (λ objects. IsFormula q objects a.params (And (a.pre ∷ cs))) (sym all_named)
              (subst (λ X. X) (sym (IsFormula-And q q.objects a.params (a.pre ∷ cs)))
              (formula_well (take p.constants p.objects) a.params (first_objects p p.constants) a.pre is_action.pre, all_preconditions a.params (map (watch_by change) xs) all_changed));
          rows = subst (λ objects. Every (IsRow q objects a.params) (a.rows ++ rs)) (sym all_named)
              (every_append (IsRow q q.objects a.params) a.rows rs (each_as (IsRow p (take p.constants p.objects) a.params) (IsRow q q.objects a.params) old_row a.rows is_action.rows)
              (all_rows a.params (map (watch_by change) xs) all_changed));
        }

  -- ---- the whole

  watch_well : (x : Watch) → Member x xs → AreWell [] x
  watch_well x at = (
    each_as IsClosed (IsFormula q q.objects []) (λ f closed. formula_well p.objects [] (all_objects p) f closed.0) (watched_formulas x) (every_at (λ x. Every IsClosed (watched_formulas x)) xs x so.closed at),
    within_all x at,
  )

  abbrev wide : Parts
  wide = problem_expanded p

  wide_well : IsWellFormed wide
  wide_well = problem_well p formed

  same_names : (actions : List Action) → map (λ (a : Action). a.name) (map (watched_action (all_constraint_variables p) xs) actions) ≡ map (λ (a : Action). a.name) actions
  same_names [] = refl
  same_names (a ∷ actions) = ap (λ l. a.name ∷ l) (same_names actions)

  pub well_formed : IsWellFormed q
  well_formed = record {
    domain = formed.domain;
    name = formed.name;
    types = formed.types;
    top_free = formed.top_free;
    chains = formed.chains;
    objects = formed.objects;
    object_types = formed.object_types;
    constants = omega arith;
    symbols = more_are_declared p more formed.symbols
        (subst AreDeclared (sym (names_made ms)) (record { names_all = fresh.names_all; differ = fresh.differ }))
        (λ n m. fresh.unused n (subst (Member n) (names_made ms) m));
    predicate_types = every_append (λ (d : Predicate). Every (IsType q) d.args) p.predicates more formed.predicate_types (bare ms);
    function_types = formed.function_types;
    value_types = each_as (λ (d : Function). OfGives wide d.gives) (λ (d : Function). OfGives q d.gives) (λ d. gives_stay wide q more d.gives) p.functions wide_well.value_types;
    action_names = subst AreDeclared (sym (same_names p.actions)) formed.action_names;
    actions = each_map (IsAction q) (watched_action (all_constraint_variables p) xs) p.actions (every_from (λ a. IsAction q (watched_action (all_constraint_variables p) xs a)) p.actions action_well);
    goal = subst (λ X. X) (sym (IsFormula-And q q.objects [] (p.goal ∷ map to_goal xs)))
        (formula_well p.objects [] (all_objects p) p.goal formed.goal, each_map (IsFormula q q.objects []) to_goal xs (every_from (λ x. IsFormula q q.objects [] (to_goal x)) xs (λ x at. goal_well [] x (watch_well x at))));
    atoms = each_as (IsFact wide) (IsFact q) (fact_stays wide q more) p.atoms wide_well.atoms;
    atoms_differ = formed.atoms_differ;
    numbers = each_as (IsNumberFact wide) (IsNumberFact q) (numbers_stay wide q more) p.numbers wide_well.numbers;
    numbers_differ = formed.numbers_differ;
    values = each_as (IsValueFact wide) (IsValueFact q) (values_stay wide q more) p.values wide_well.values;
    values_differ = formed.values_differ;
    metric = metric_stays wide q more p.metric wide_well.metric;
    constraints = tt;
  }
    where
      bare : (ns : List Name) → Every (λ (d : Predicate). Every (IsType (monitored p)) d.args) (map monitor_predicate ns)
      bare [] = tt
      bare (n ∷ ns) = (tt, bare ns)
