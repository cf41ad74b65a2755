-- The variants of a well-formed problem's actions make a well-formed problem.
use Rattle.std.proofs.Common.{◌≡◌, List, [], ◌∷◌, ◌++◌, map, take, filter_map, sym, ◌∙◌, subst}
use Rattle.up_text.specs.declared.name.Name.{Name}
use Rattle.up_text.specs.Names.{IsName}
use Rattle.up_text.specs.Lists.{Every, Member, Differ}
use Rattle.up_tree.specs.declared.action.Action.{Action}
use Rattle.up_tree.specs.declared.action.Row.{Row}
use Rattle.up_tree.specs.declared.term.Typed.{Typed}
use Rattle.up_tree.specs.declared.formula.Formula.{And}
use Rattle.up_tree.specs.declared.problem.Parts.{Parts}
use Rattle.up_tree.specs.Objects.{world}
use Rattle.up_tree.specs.Simplify.{simplified, knows_nothing, true_formula}
use Rattle.up_tree.specs.declared.problem.Gives.{Gives}
use Rattle.up_tree.specs.declared.problem.Gives.TheVariants as gives
use Rattle.up_tree.specs.WellFormed.{AreVariables, OfGives, IsEffect, IsFormula, IsRow, IsAction, IsWellFormed}
use Rattle.step_laws.specs.Naming.{Stands, renamed, new_names, Group}
use Rattle.conditionals_laws.specs.Conditionals.{literal, chosen_row, variants, variant_groups, variant_pairs, conditionals}
use Rattle.conditionals_laws.proofs.Features.{of_chosen}
use Rattle.compiling_laws.proofs.Bare.{AreBare}
use Rattle.semantics_laws.proofs.Lists.{each_as}
use Rattle.condition_laws.proofs.Declaring.{variables_stay, formula_stays, rule_stays, numbers_stay, values_stay, metric_stays, constraint_stays}
use Rattle.compiling_laws.proofs.Lists.{of_map}
use Rattle.step_laws.proofs.Lists.{every_at, every_from}
use Rattle.compiling_laws.proofs.Names.{all_names, new_names_of}
use Rattle.compiling_laws.proofs.Scopes.{formula-And}
use Rattle.conditionals_laws.proofs.Scopes.{chosen_formed}
use Rattle.condition_laws.proofs.Shaping.{simplified_is_formed}
use Rattle.conditionals_laws.proofs.Splitting.{IsVariant, pair_is, IsVariantOf, itself, by_choice, variant_is, NoVariables, new_names_differ}

module _ (p : Parts) (formed : IsWellFormed p) (bare : NoVariables p) where
  abbrev pairs : List Stands
  pairs = variant_pairs p

  abbrev q : Parts
  q = (conditionals p).parts

  abbrev news : List Action
  news = map (λ (pair : Stands). pair.new) pairs

  abbrev constants : List Typed
  constants = take p.constants p.objects

  names_are : Every IsName (new_names pairs)
  names_are =
      all_names (map (λ (a : Action). a.name) p.actions) (variant_groups p)
      (every_from _ (variant_groups p) (λ g k.
      let o = of_map (λ a. let g : Group = record { old = a; news = variants (world p) a } in g) p.actions g k in
      subst (λ (x : Group). IsName x.old.name) (sym o.2) (every_at (λ (a : Action). IsName a.name) p.actions o.0 (of_names p.actions formed.action_names.names_all) o.1)))
    where
      of_names : (actions : List Action) → Every IsName (map (λ (a : Action). a.name) actions) → Every (λ (a : Action). IsName a.name) actions
      of_names [] h = tt
      of_names (a ∷ actions) h = (h.0, of_names actions h.1)

  always_formed : (scope : List Typed) → IsFormula q constants scope true_formula
  always_formed scope = subst (λ X. X) (sym (formula-And q constants scope [])) tt

  -- a row without variables and condition
  bare_rule : (scope : List Typed) (r old : Row) → IsRow p constants scope old → r.vars ≡ old.vars → r.effect ≡ old.effect → r.when ≡ true_formula → IsRow q constants scope r
  bare_rule scope r old h vars effect when =
      let over : IsRow q constants scope old = rule_stays p q constants scope old h in
      record {
        vars = subst (λ vs. AreVariables q scope vs) (sym vars) over.vars;
        when = subst (λ f. IsFormula q constants (r.vars ++ scope) f) (sym when) (always_formed (r.vars ++ scope));
        effect = subst (λ vs. IsEffect q constants (vs ++ scope) r.effect) (sym vars) (subst (IsEffect q constants (old.vars ++ scope)) (sym effect) over.effect);
      }

  variant_formed : (a x : Action) (n : Name) → Member a p.actions → IsVariantOf (world p) a x → IsAction q (renamed x n)
  variant_formed a x n m (itself is) =
      let h : IsAction p a = every_at (IsAction p) p.actions a formed.actions m in
      subst (λ (y : Action). IsAction q (renamed y n)) (sym is) (record {
        params = variables_stay p q [] a.params h.params;
        pre = formula_stays p q constants a.params a.pre h.pre;
        rows = each_as (IsRow p constants a.params) (IsRow q constants a.params) (λ r k. rule_stays p q constants a.params r k) a.rows h.rows;
      })
  variant_formed a x n m (by_choice choice listed is lives) =
      let h : IsAction p a = every_at (IsAction p) p.actions a formed.actions m in
      subst (λ (y : Action). IsAction q (renamed y n)) (sym is) (record {
        params = variables_stay p q [] a.params h.params;
        pre = formula_stays p q constants a.params (simplified (world p) knows_nothing (And (a.pre ∷ map literal choice)))
            (simplified_is_formed p constants a.params (And (a.pre ∷ map literal choice))
            (chosen_formed p a h (every_at (λ (a : Action). AreBare a.rows) p.actions a bare m) choice listed) (world p) knows_nothing);
        rows = every_from (IsRow q constants a.params) (filter_map (chosen_row choice) a.rows) (λ r k.
            let o = of_chosen choice a.rows r k in
            bare_rule a.params r o.0.old (every_at (IsRow p constants a.params) a.rows o.0.old h.rows o.0.member) o.0.vars o.0.effect o.1);
      })

  actions_formed : Every (IsAction q) news
  actions_formed = every_from (IsAction q) news (λ a m.
      let pair = of_map (λ (pair : Stands). pair.new) pairs a m in
      let is : IsVariant p pair.0 = pair_is p pair.0 pair.1 in
      subst (IsAction q) (sym (pair.2 ∙ is.but_name))
      (variant_formed pair.0.old is.variant pair.0.new.name is.member (variant_is (world p) pair.0.old is.variant is.listed)))

  pub well_formed : IsWellFormed q
  well_formed = record {
    domain = formed.domain;
    name = formed.name;
    types = formed.types;
    top_free = formed.top_free;
    chains = formed.chains;
    objects = formed.objects;
    object_types = formed.object_types;
    constants = formed.constants;
    symbols = formed.symbols;
    predicate_types = formed.predicate_types;
    function_types = formed.function_types;
    value_types = each_as _ _ (λ d k. gives_over d.gives k) p.functions formed.value_types;
    action_names = record {
      names_all = subst (Every IsName) (sym (new_names_of pairs)) names_are;
      differ = subst Differ (sym (new_names_of pairs)) (new_names_differ p formed);
    };
    actions = actions_formed;
    goal = formula_stays p q p.objects [] p.goal formed.goal;
    atoms = formed.atoms;
    atoms_differ = formed.atoms_differ;
    numbers = each_as _ _ (λ n k. numbers_stay p q n k) p.numbers formed.numbers;
    numbers_differ = formed.numbers_differ;
    values = each_as _ _ (λ v k. values_stay p q v k) p.values formed.values;
    values_differ = formed.values_differ;
    metric = metric_stays p q p.metric formed.metric;
    constraints = each_as _ _ (λ c k. constraint_stays p q c k) p.constraints formed.constraints;
  }
    where
      gives_over : (g : Gives) → OfGives p g → OfGives q g
      gives_over gives.Number h = h
      gives_over (gives.Object t) h = h
