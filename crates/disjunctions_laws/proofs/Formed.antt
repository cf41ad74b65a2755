-- The construction makes a well-formed problem of a well-formed one.
use Rattle.std.proofs.Common.{◌≡◌, ◌+◌, ◌<◌, ◌^◌, codes, List, [], ◌∷◌, ◌++◌, map, take, length, IsSome, IsSomeAnd, refl, ap, sym, subst, inl, inr, arith}
use Rattle.std.proofs.lemmas.List.{take_all}
use Rattle.up_text.specs.declared.name.Name.{Name}
use Rattle.up_text.specs.Names.{IsName, reserved_words}
use Rattle.up_text.specs.Fresh.{fresh_name}
use Rattle.up_text.specs.Lists.{Every, Member, Differ}
use Rattle.up_tree.specs.declared.action.Action.{Action}
use Rattle.up_tree.specs.declared.action.Effect.TheVariants.{Add, Delete}
use Rattle.up_tree.specs.declared.formula.Formula.{Formula, Atom}
use Rattle.up_tree.specs.declared.problem.Gives.{Gives}
use Rattle.up_tree.specs.declared.problem.Gives.TheVariants as gives
use Rattle.up_tree.specs.declared.problem.Parts.{Parts}
use Rattle.up_tree.specs.declared.problem.Predicate.{Predicate}
use Rattle.up_tree.specs.declared.term.Typed.{Typed}
use Rattle.up_tree.specs.Objects.{world, named}
use Rattle.up_tree.specs.Simplify.{true_formula}
use Rattle.up_tree.specs.WellFormed.{IsType, OfGives, AreVariables, TermsFit, IsAtom, IsFormula, IsRow, IsAction, IsWellFormed}
use Rattle.condition_laws.proofs.Declaring.{actions_are_of_declared}
use Rattle.step_laws.specs.Naming.{Stands, Group, new_names, made_of}
use Rattle.compiling_laws.proofs.Names.{every_append, fresh_is_name, all_names, new_names_of}
use Rattle.compiling_laws.proofs.Forms.{every_as, formula_over, fact_over, number_fact_over, value_fact_over, metric_over, constraint_over}
use Rattle.compiling_laws.proofs.Lists.{of_map}
use Rattle.step_laws.proofs.Lists.{every_at, every_from}
use Rattle.compiling_laws.proofs.Scopes.{formula-And}
use Rattle.compiling_laws.proofs.Declared.{more_are_declared}
use Rattle.compiling_laws.specs.Forms.{symbols}
use Rattle.disjunctions_laws.specs.Disjunctions.{clause_formulas, clause_groups, clause_pairs, goal_clauses, goal_fact, plain_row, with_pre, with_delete, fake_action, fake_actions, fakes, with_fakes, disjunctions, action_names as used_names}
use Rattle.disjunctions_laws.proofs.Clauses.{clause_formed}
use Rattle.disjunctions_laws.proofs.Goal.{IsFake, of_fakes, variant_action, fact_new, fact_undeclared, all_differ}
use Rattle.disjunctions_laws.proofs.Plans.{by_goal}
use Rattle.disjunctions_laws.proofs.Splitting.{pair_is, new_names_differ}
use Rattle.disjunctions_laws.proofs.Wider as wider

-- ---- names

names_of_fakes : (used : List Name) (fact : Name) (clauses : List Formula)
    → Every IsName (map (λ (a : Action). a.name) (fake_actions used fact clauses))
unfolding reserved_words
names_of_fakes used fact [] = tt
names_of_fakes used fact (c ∷ clauses) = (
  fresh_is_name (codes "reach-goal") used (record { spelled = refl; free = refl }),
  names_of_fakes (fresh_name (codes "reach-goal") used ∷ used) fact clauses,
)

fact_is_name : IsName (codes "goal-reached")
unfolding reserved_words
fact_is_name = record { spelled = refl; free = refl }

names_of : (fact : Name) (pairs : List Stands) (fakes : List Action)
    → map (λ (a : Action). a.name) (map (λ (pair : Stands). with_delete fact pair.new) pairs ++ fakes) ≡ new_names pairs ++ map (λ (a : Action). a.name) fakes
names_of fact [] fakes = refl
names_of fact (pair ∷ pairs) fakes = ap (λ l. pair.new.name ∷ l) (names_of fact pairs fakes)

module _ (p : Parts) (formed : IsWellFormed p) where
  abbrev pairs : List Stands
  pairs = clause_pairs p

  abbrev news : List Action
  news = map (λ (pair : Stands). pair.new) pairs

  new_are_names : Every IsName (new_names pairs)
  new_are_names =
      all_names (map (λ (a : Action). a.name) p.actions) (clause_groups p)
      (every_from _ (clause_groups p) (λ g k.
      let o = of_map (λ a. let g : Group = record { old = a; news = map (with_pre a) (clause_formulas (world p) a.pre) } in g) p.actions g k in
      subst (λ (x : Group). IsName x.old.name) (sym o.2) (every_at (λ (a : Action). IsName a.name) p.actions o.0 (one_by_one p.actions formed.action_names.names_all) o.1)))
    where
      one_by_one : (actions : List Action) → Every IsName (map (λ (a : Action). a.name) actions) → Every (λ (a : Action). IsName a.name) actions
      one_by_one [] h = tt
      one_by_one (a ∷ actions) h = (h.0, one_by_one actions h.1)

  new_formed : (pair : Stands) → Member pair pairs → IsAction p pair.new
  new_formed pair m = variant_action p formed pair (pair_is p pair m)

  -- ---- with one clause of the goal

  one_formed : (g : Formula) → goal_clauses p ≡ g ∷ [] → IsWellFormed (made_of p pairs g).parts
  one_formed g is = record {
    domain = formed.domain;
    name = formed.name;
    types = formed.types;
    top_free = formed.top_free;
    chains = formed.chains;
    objects = formed.objects;
    object_types = formed.object_types;
    constants = formed.constants;
    symbols = formed.symbols;
    predicate_types = formed.predicate_types;
    function_types = formed.function_types;
    value_types = every_as _ _ p.functions (λ d k. gives_over d.gives k) formed.value_types;
    action_names = record {
      names_all = subst (Every IsName) (sym (new_names_of pairs)) new_are_names;
      differ = subst Differ (sym (new_names_of pairs)) (new_names_differ p formed);
    };
    actions = every_from (IsAction made) news (λ a m.
        let pair = of_map (λ (pair : Stands). pair.new) pairs a m in
        subst (IsAction made) (sym pair.2)
        (actions_are_of_declared p made (record { types = refl; constants = refl; objects = refl; predicates = refl; functions = refl }) pair.0.new (new_formed pair.0 pair.1)));
    goal = formula_over p news g p.objects [] g (clause_formed p p.objects [] p.goal formed.goal g (subst (Member g) (sym is) (inl refl)));
    atoms = every_as _ _ p.atoms (fact_over p news g) formed.atoms;
    atoms_differ = formed.atoms_differ;
    numbers = every_as _ _ p.numbers (number_fact_over p news g) formed.numbers;
    numbers_differ = formed.numbers_differ;
    values = every_as _ _ p.values (value_fact_over p news g) formed.values;
    values_differ = formed.values_differ;
    metric = metric_over p news g p.metric formed.metric;
    constraints = every_as _ _ p.constraints (constraint_over p news g) formed.constraints;
  }
    where
      made : Parts
      made = (made_of p pairs g).parts

      gives_over : (g : Gives) → OfGives p g → OfGives made g
      gives_over gives.Number h = h
      gives_over (gives.Object t) h = h

  -- ---- with the goal fact

  abbrev fact : Name
  fact = goal_fact p

  abbrev reached : Predicate
  reached = record { name = fact; args = [] }

  abbrev made : List Action
  made = fakes p pairs (goal_clauses p)

  abbrev acts : List Action
  acts = map (λ (pair : Stands). with_delete fact pair.new) pairs ++ made

  abbrev q : Parts
  q = (with_fakes p pairs (goal_clauses p)).parts

  abbrev all : List Typed
  all = take (length p.objects) p.objects

  all_objects : all ≡ p.objects
  all_objects = take_all (length p.objects) p.objects (omega arith)

  more_objects : (o : Name) → IsSome (named (take p.constants p.objects) o) → IsSome (named all o)
  more_objects o h = subst (λ os. IsSome (named os o)) (sym all_objects) (wider.named_more p.constants p.objects o h)

  same_objects : (o : Name) → IsSome (named p.objects o) → IsSome (named all o)
  same_objects o h = subst (λ os. IsSome (named os o)) (sym all_objects) h

  fact_atom : (objects scope : List Typed) → IsAtom q objects scope fact []
  fact_atom objects scope =
      subst (λ found. IsSomeAnd found (λ (d : Predicate). TermsFit q objects scope [] d.args)) (sym (wider.last_found p.predicates reached (fact_undeclared p formed))) tt

  plain_vars : (scope : List Typed) → AreVariables q scope []
  plain_vars scope = record { names_all = tt; differ = tt; fresh = tt; typed = tt }

  plain_when : (scope : List Typed) → IsFormula q all scope true_formula
  plain_when scope = subst (λ X. X) (sym (formula-And q all scope [])) tt

  delete_row : (scope : List Typed) → IsRow q all scope (plain_row (Delete fact []))
  delete_row scope = record { vars = plain_vars scope; when = plain_when scope; effect = fact_atom all scope }

  add_row : (scope : List Typed) → IsRow q all scope (plain_row (Add fact []))
  add_row scope = record { vars = plain_vars scope; when = plain_when scope; effect = fact_atom all scope }

  delete_formed : (a : Action) → IsAction p a → IsAction q (with_delete fact a)
  delete_formed a h = record {
    params = wider.variables_stay p (length p.objects) (reached ∷ []) acts (Atom fact []) [] a.params h.params;
    pre = wider.formula_stays p (length p.objects) (reached ∷ []) acts (Atom fact []) (take p.constants p.objects) all more_objects a.params a.pre h.pre;
    rows = every_append (IsRow q all a.params) a.rows (plain_row (Delete fact []) ∷ [])
        (every_as _ _ a.rows (λ r k. wider.rule_stays p (length p.objects) (reached ∷ []) acts (Atom fact []) (take p.constants p.objects) all more_objects a.params r k) h.rows)
        (delete_row a.params, tt);
  }

  fake_formed : (name : Name) (clause : Formula) → Member clause (goal_clauses p) → IsAction q (fake_action fact name clause)
  fake_formed name clause m = record {
    params = plain_vars [];
    pre = wider.formula_stays p (length p.objects) (reached ∷ []) acts (Atom fact []) p.objects all same_objects [] clause
        (clause_formed p p.objects [] p.goal formed.goal clause m);
    rows = (add_row [], tt);
  }

  acts_formed : Every (IsAction q) acts
  acts_formed =
      every_append (IsAction q) (map (λ (pair : Stands). with_delete fact pair.new) pairs) made
      (every_from (IsAction q) (map (λ (pair : Stands). with_delete fact pair.new) pairs) (λ a m.
      let pair = of_map (λ (pair : Stands). with_delete fact pair.new) pairs a m in
      subst (IsAction q) (sym pair.2) (delete_formed pair.0.new (new_formed pair.0 pair.1))))
      (every_from (IsAction q) made (λ a m.
      let k : IsFake fact (goal_clauses p) a = of_fakes (used_names p pairs) fact (goal_clauses p) a m in
      subst (IsAction q) (sym k.is) (fake_formed a.name k.clause k.listed)))

  goal_formed : IsFormula q p.objects [] (Atom fact [])
  unfolding IsFormula
  goal_formed = fact_atom p.objects []

  many_formed : IsWellFormed q
  many_formed = record {
    domain = formed.domain;
    name = formed.name;
    types = formed.types;
    top_free = formed.top_free;
    chains = formed.chains;
    objects = formed.objects;
    object_types = formed.object_types;
    constants = omega arith;
    symbols = more_are_declared p (reached ∷ []) formed.symbols
        (record { names_all = (fresh_is_name (codes "goal-reached") (symbols p) fact_is_name, tt); differ = (λ m. m, tt) })
        (λ n m. elim m [ inl e ↦ subst (λ x. ¬ Member x (symbols p)) (sym e) (fact_new p formed) | inr more ↦ absurd more ]);
    predicate_types = every_append (λ (d : Predicate). Every (IsType q) d.args) p.predicates (reached ∷ []) formed.predicate_types (tt, tt);
    function_types = formed.function_types;
    value_types = every_as _ _ p.functions (λ d k. wider.gives_stay p (length p.objects) (reached ∷ []) acts (Atom fact []) d.gives k) formed.value_types;
    action_names = record {
      names_all = subst (Every IsName) (sym (names_of fact pairs made))
          (every_append IsName (new_names pairs) (map (λ (a : Action). a.name) made) new_are_names
          (names_of_fakes (used_names p pairs) fact (goal_clauses p)));
      differ = subst Differ (sym (names_of fact pairs made)) (all_differ p formed);
    };
    actions = acts_formed;
    goal = goal_formed;
    atoms = every_as _ _ p.atoms (wider.fact_stays p (length p.objects) (reached ∷ []) acts (Atom fact [])) formed.atoms;
    atoms_differ = formed.atoms_differ;
    numbers = every_as _ _ p.numbers (wider.numbers_stay p (length p.objects) (reached ∷ []) acts (Atom fact [])) formed.numbers;
    numbers_differ = formed.numbers_differ;
    values = every_as _ _ p.values (wider.values_stay p (length p.objects) (reached ∷ []) acts (Atom fact [])) formed.values;
    values_differ = formed.values_differ;
    metric = wider.metric_stays p (length p.objects) (reached ∷ []) acts (Atom fact []) p.metric formed.metric;
    constraints = every_as _ _ p.constraints (wider.constraint_stays p (length p.objects) (reached ∷ []) acts (Atom fact [])) formed.constraints;
  }

  pub well_formed : IsWellFormed (disjunctions p).parts
  well_formed = by_goal p pairs (goal_clauses p) (λ made. IsWellFormed made.parts) one_formed many_formed
