-- The whole problem without types is well-formed.
use Rattle.std.proofs.Common.{◌≡◌, ◌≤◌, Bool, true, false, List, [], ◌∷◌, map, filter, cond, IsSome, Option, Some, None, IsSomeAnd, refl, ap, sym, ◌∙◌, subst, inl, inr}
use Rattle.std.specs.List.{flat_map}
use Rattle.std.specs.Cmp.Lexicographic.{bytes_decides}
use Rattle.up_text.specs.declared.name.Name.{Name}
use Rattle.up_text.specs.Names.{same_name}
use Rattle.up_text.specs.Lists.{Every, Member, Differ}
use Rattle.compiling_laws.proofs.Names.{every_append}
use Rattle.up_tree.specs.declared.term.Typed.{Typed}
use Rattle.up_tree.specs.declared.action.Action.{Action}
use Rattle.up_tree.specs.declared.problem.Fact.{Fact}
use Rattle.up_tree.specs.declared.problem.Function.{Function}
use Rattle.up_tree.specs.declared.problem.Metric.{Metric}
use Rattle.up_tree.specs.declared.problem.NumberFact.{NumberFact}
use Rattle.up_tree.specs.declared.problem.ValueFact.{ValueFact}
use Rattle.up_tree.specs.declared.problem.Predicate.{Predicate}
use Rattle.up_tree.specs.declared.problem.Parts.{Parts}
use Rattle.up_tree.specs.Objects.{world, named, type_in, is_below, objects_of}
use Rattle.up_tree.specs.WellFormed.{IsWellFormed, IsType, top_type, AreDeclared, OfGives, ObjectsFit, IsBelow, IsAction, IsFact, IsNumberFact, IsValueFact, IsConstraint, OnMetric}
use Rattle.semantics_laws.proofs.Lists.{each_map, each_as, each_member, each_flat_map}
use Rattle.up_eval.proofs.Types.{at_some}
use Rattle.step_laws.specs.Naming.{Stands}
use Rattle.compiling_laws.proofs.Lists.{false_true, member_map, of_map, of_flat, of_filter}
use Rattle.step_laws.proofs.Lists.{every_at, every_from}
use Rattle.expansion_laws.proofs.Lists.{map_of_map, differ_append, differ_map, differ_filter}
use Rattle.compiling_laws.specs.Forms.{symbols}
use Rattle.types_laws.specs.Guards.{Guard, guards, of_top}
use Rattle.types_laws.specs.Types.{top_predicate, top_function, guard_predicate, guard_facts, new_facts, guarded_pairs, untyped}
use Rattle.types_laws.proofs.Fitting.{names, names_top, length_top}
use Rattle.types_laws.proofs.Naming.{guard_names, guards_differ, fact_declared}
use Rattle.types_laws.proofs.Plans.{NoObjectFunction}
use Rattle.types_laws.proofs.Splitting.{pair_of}
use Rattle.types_laws.proofs.Declared.{guards_apart, symbols_well}
use Rattle.types_laws.proofs.Terms.{predicate_there, guard_there, function_there, no_object, gives_well, object_top, objects_top, expr_top}
use Rattle.types_laws.proofs.Formulas.{guarded_well, action_well}

all_top : (q : Parts) (types : List Name) → Every (IsType q) (map (λ t. top_type) types)
all_top q [] = tt
all_top q (t ∷ types) = (inl refl, all_top q types)

module _ (p : Parts) (well : IsWellFormed p) (plain : NoObjectFunction p) where
  abbrev q : Parts
  q = untyped p

  -- ---- facts

  fact_well : (f : Fact) → IsFact p f → IsFact q f
  fact_well f is = predicate_there p well plain f.predicate _ _ (λ d h. objects_top p well plain f.args d.args h) is

  object_named : (g : Guard) (o : Name) → Member o (objects_of (world p) g.of) → Member o (names p.objects)
  object_named g o m =
      let x : (x : Typed) × Member x (filter (λ (x : Typed). is_below (world p) x.of g.of) p.objects) × (o ≡ x.name) =
      of_map (λ (x : Typed). x.name) (filter (λ (x : Typed). is_below (world p) x.of g.of) p.objects) o m
      in
      subst (λ n. Member n (names p.objects)) (sym x.2)
      (member_map (λ (x : Typed). x.name) p.objects x.0 (of_filter (λ (x : Typed). is_below (world p) x.of g.of) p.objects x.0 x.1).0)

  some_named : (es : List Typed) (n : Name) → Member n (names es) → IsSome (named es n)
  some_named [] n m = absurd m
  some_named (x ∷ es) n m = by (same_name x.name n) refl (some_named es n) m
    where
      by : (b : Bool) → same_name x.name n ≡ b → (Member n (names es) → IsSome (named es n)) → Member n (names (x ∷ es)) → IsSome (cond b (Some x) (named es n))
      by true is more m = refl
      by false is more (inl e) = false_true (sym is ∙ (bytes_decides x.name n).1 (sym e))
      by false is more (inr m) = more m

  guard_fact_well : (g : Guard) → Member g (guards p) → (o : Name) → Member o (objects_of (world p) g.of) → IsFact q (record { predicate = g.predicate; args = o ∷ [] })
  guard_fact_well g m o k =
      at_some _ (guard_predicate g) (λ (d : Predicate). ObjectsFit q (o ∷ []) d.args) (guard_there p well plain g m)
      (object_top p well plain o (some_named p.objects o (object_named g o k)), tt)

  new_facts_well : Every (IsFact q) (new_facts p)
  new_facts_well =
      each_flat_map (IsFact q) (guard_facts (world p)) (guards p) (each_member _ (guards p) (λ g m.
      each_map (IsFact q) (λ o. let x : Fact = record { predicate = g.predicate; args = o ∷ [] } in x) (objects_of (world p) g.of)
      (each_member _ (objects_of (world p) g.of) (λ o k. guard_fact_well g m o k))))

  atoms_well : Every (IsFact q) q.atoms
  atoms_well = every_append (IsFact q) p.atoms (new_facts p) (each_as (IsFact p) (IsFact q) fact_well p.atoms well.atoms) new_facts_well

  -- the fact is of one of the guards
  fact_of : (gs : List Guard) (f : Fact) → Member f (flat_map (guard_facts (world p)) gs) → Member f.predicate (guard_names gs)
  fact_of gs f m =
      let g : (g : Guard) × Member g gs × Member f (guard_facts (world p) g) = of_flat (guard_facts (world p)) f gs m in
      let o : (o : Name) × Member o (objects_of (world p) g.0.of) × (f ≡ record { predicate = g.0.predicate; args = o ∷ [] }) =
      of_map (λ o. let x : Fact = record { predicate = g.0.predicate; args = o ∷ [] } in x) (objects_of (world p) g.0.of) f g.2
      in
      subst (λ n. Member n (guard_names gs)) (sym (ap (λ (f : Fact). f.predicate) o.2)) (member_map (λ (g : Guard). g.predicate) gs g.0 g.1)

  objects_differ : (t : Name) → Differ (objects_of (world p) t)
  objects_differ t = differ_filter (λ (x : Typed). x.name) (λ (x : Typed). is_below (world p) x.of t) p.objects well.objects.differ

  abbrev only : List Name → Name
  only [] = []
  only (o ∷ os) = o

  facts_differ : (gs : List Guard) → Differ (guard_names gs) → Differ (flat_map (guard_facts (world p)) gs)
  facts_differ [] differ = tt
  facts_differ (g ∷ gs) differ =
      differ_append (guard_facts (world p) g) (flat_map (guard_facts (world p)) gs)
      (differ_map (λ o. let x : Fact = record { predicate = g.predicate; args = o ∷ [] } in x) (λ x y e. ap (λ (f : Fact). only f.args) e) (objects_of (world p) g.of) (objects_differ g.of))
      (facts_differ gs differ.1)
      (λ f m k.
      let o : (o : Name) × Member o (objects_of (world p) g.of) × (f ≡ record { predicate = g.predicate; args = o ∷ [] }) =
      of_map (λ o. let x : Fact = record { predicate = g.predicate; args = o ∷ [] } in x) (objects_of (world p) g.of) f m
      in
      differ.0 (subst (λ n. Member n (guard_names gs)) (ap (λ (f : Fact). f.predicate) o.2) (fact_of gs f k)))

  atoms_differ : Differ q.atoms
  atoms_differ =
      differ_append p.atoms (new_facts p) well.atoms_differ (facts_differ (guards p) (guards_differ (symbols p) p.types))
      (λ f m k. guards_apart p f.predicate (fact_of (guards p) f k) (fact_declared p f.predicate _ (every_at (IsFact p) p.atoms f well.atoms m)))

  number_well : (f : NumberFact) → IsNumberFact p f → IsNumberFact q f
  number_well f is = record {
    literal = is.literal;
    typed = function_there p well plain f.function _ _ (λ d h. (h.0, objects_top p well plain f.args d.args h.1)) is.typed;
  }

  value_well : (f : ValueFact) → IsValueFact p f → IsValueFact q f
  value_well f is = no_object p well plain f.function (λ d. ObjectsFit p f.args d.args) (λ d of. IsSomeAnd (type_in p.objects f.value) (λ u. IsBelow p u of)) is.typed

  metric_well : (m : Option Metric) → OnMetric p m → OnMetric q m
  metric_well None is = is
  metric_well (Some m) is = (expr_top p well plain p.objects [] m.value is.0, is.1)

  pub untyped_well : p.constraints ≡ [] → IsWellFormed q
  untyped_well free = record {
    domain = well.domain;
    name = well.name;
    types = record { names_all = tt; differ = tt };
    top_free = λ m. m;
    chains = tt;
    objects = subst AreDeclared (sym (names_top p.objects)) well.objects;
    object_types = each_map (λ (o : Typed). IsType q o.of) of_top p.objects (each_as _ _ (λ o h. inl refl) p.objects well.object_types);
    constants = subst (λ n. p.constants ≤ n) (sym (length_top p.objects)) well.constants;
    symbols = symbols_well p well;
    predicate_types = every_append (λ (d : Predicate). Every (IsType q) d.args) (map top_predicate p.predicates) (map guard_predicate (guards p))
        (each_map _ top_predicate p.predicates (every_from _ p.predicates (λ d m. all_top q d.args))) (each_map _ guard_predicate (guards p) (every_from _ (guards p) (λ g m. (inl refl, tt))));
    function_types = each_map (λ (d : Function). Every (IsType q) d.args) top_function p.functions (every_from _ p.functions (λ d m. all_top q d.args));
    value_types = each_map (λ (d : Function). OfGives q d.gives) top_function p.functions (every_from _ p.functions (λ d m. gives_well p well plain d m));
    action_names = subst AreDeclared (sym (map_of_map (λ (a : Action). a.name) (λ (pair : Stands). pair.new) (guarded_pairs p)
        ∙ map_of_map (λ (pair : Stands). pair.new.name) (λ a. let x : Stands = pair_of p well a in x) p.actions)) well.action_names;
    actions = each_map (IsAction q) (λ (pair : Stands). pair.new) (guarded_pairs p)
        (each_map (λ (pair : Stands). IsAction q pair.new) (λ a. let x : Stands = pair_of p well a in x) p.actions (each_as _ _ (λ a is. action_well p well plain a is) p.actions well.actions));
    goal = guarded_well p well plain p.objects [] p.goal well.goal;
    atoms = atoms_well;
    atoms_differ = atoms_differ;
    numbers = each_as (IsNumberFact p) (IsNumberFact q) number_well p.numbers well.numbers;
    numbers_differ = well.numbers_differ;
    values = each_as (IsValueFact p) (IsValueFact q) value_well p.values well.values;
    values_differ = well.values_differ;
    metric = metric_well p.metric well.metric;
    constraints = subst (Every (IsConstraint q)) (sym free) tt;
  }
