-- What the forms of a domain and of a problem denote, said apart from how they are checked.
use Rattle.std.specs.Prelude.{◌≡◌, List, [], ◌++◌, length, map}
use Rattle.pddl_parse.specs.declared.raw.DomainForm.{DomainForm}
use Rattle.pddl_parse.specs.declared.raw.ProblemForm.{ProblemForm}
use Rattle.up_tree.specs.declared.problem.Constraint.{Constraint}
use Rattle.up_tree.specs.declared.problem.Parts.{Parts}
use Rattle.up_phrase.specs.Declarations.{Declarations}
use Rattle.up_phrase.specs.declared.term.Setting.TheVariants as setting
use Rattle.up_phrase.specs.Scopes.{typed}
use Rattle.up_check.specs.declared.lists.Initial.{Initial}
use Rattle.up_check.specs.Domains.{Known}
use Rattle.up_check.specs.Lists.{predicate, function}
use Rattle.grammar_names.specs.Phrases.{DenotesFormula}
use Rattle.grammar_names.specs.Declares.{DeclareAll, DeclareObjects}
use Rattle.grammar_names.specs.Actions.{DenoteActions}
use Rattle.grammar_names.specs.Initial.{DenoteInitial}
use Rattle.grammar_names.specs.Constraints.{DenoteConstraints}
use Rattle.grammar_names.specs.Metrics.{DenotesMetric}

-- a domain: its name, what it declares, its actions, and its constraints
pub record DenotesDomain (form : DomainForm) (it : Known) : Type 0 where
  pub name : it.name ≡ form.name.name
  pub declarations : DeclareAll form it.declarations
  pub actions : DenoteActions it.declarations form.actions it.actions
  pub constraints : DenoteConstraints it.declarations [] form.constraints it.constraints

-- A problem of a known domain, which it names. Its objects are declared after the domain's constants.
pub record DenotesProblem (domain : Known) (form : ProblemForm) (it : Parts) : Type 0 where
  pub names_domain : form.domain.name ≡ domain.name
  -- what the domain and the problem's objects declare
  pub names : Declarations
  pub objects : DeclareObjects form.objects domain.declarations names
  pub init : Initial
  pub initial : DenoteInitial names form.init init
  pub goal : DenotesFormula names [] setting.Plain form.goal it.goal
  pub constraints : List Constraint
  pub rules : DenoteConstraints names [] form.constraints constraints
  pub metric : DenotesMetric names form.metric it.metric
  -- the constants come first among the objects, and the domain's constraints before those of the problem
  pub parts : it ≡ record {
    domain = domain.name;
    name = form.name.name;
    types = map typed names.types;
    constants = length domain.declarations.objects;
    objects = map typed names.objects;
    predicates = map predicate names.predicates;
    functions = map function names.functions;
    atoms = init.atoms;
    numbers = init.numbers;
    values = init.values;
    actions = domain.actions;
    goal = it.goal;
    metric = it.metric;
    constraints = domain.constraints ++ constraints;
  }
