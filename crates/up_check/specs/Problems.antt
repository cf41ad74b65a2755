-- The problem of a form in a known domain.
use Rattle.std.specs.Prelude.{ℕ, List, [], length, map, Option}
use Rattle.up_text.specs.declared.name.Name.{Name}
use Rattle.up_text.specs.Names.{same_name}
use Rattle.pddl_lex.specs.Parses.{behind, before, over, over_two}
use Rattle.pddl_parse.specs.declared.raw.Ident.{Ident}
use Rattle.pddl_parse.specs.declared.raw.ProblemForm.{ProblemForm}
use Rattle.up_tree.specs.declared.action.Action.{Action}
use Rattle.up_tree.specs.declared.formula.Formula.{Formula}
use Rattle.up_tree.specs.declared.problem.Constraint.{Constraint}
use Rattle.up_tree.specs.declared.problem.Metric.{Metric}
use Rattle.up_tree.specs.declared.problem.Parts.{Parts}
use Rattle.up_phrase.specs.declared.fault.Fault.{Fault}
use Rattle.up_phrase.specs.declared.reason.Reason.TheVariants.{WrongDomain}
use Rattle.up_phrase.specs.declared.term.Setting.TheVariants as setting
use Rattle.up_phrase.specs.Conditions.{formula}
use Rattle.up_phrase.specs.Declarations.{Declarations}
use Rattle.up_phrase.specs.Named.{at}
use Rattle.up_phrase.specs.Scopes.{typed}
use Rattle.up_phrase.specs.Walks.{Checked, after, unless}
use Rattle.up_declare.specs.Declaring.{with_objects}
use Rattle.up_check.specs.declared.lists.Declared.{Declared}
use Rattle.up_check.specs.declared.problem.Stated.{Stated}
use Rattle.up_check.specs.declared.problem.Titles.{Titles}
use Rattle.up_check.specs.Constraints.{constraints}
use Rattle.up_check.specs.Domains.{Known}
use Rattle.up_check.specs.Initial.{initial}
use Rattle.up_check.specs.Lists.{predicate, function}
use Rattle.up_check.specs.Metrics.{metric_of}

-- the fault of a problem that names another domain
abbrev pub wrong_domain : Name → Ident → List Fault
wrong_domain name stated = unless (same_name stated.name name) (at stated.place WrongDomain stated.name)

-- the constraints, after these, and then the metric
abbrev pub rules_and_metric : Declarations → List Constraint → ProblemForm → Checked (List Constraint × Option Metric)
rules_and_metric names rules form =
    over_two (λ all m. (all, m)) (before rules (constraints names [] form.constraints)) (metric_of names form.metric)

-- the goal and what comes after it
abbrev pub goal_on : Declarations → List Constraint → ProblemForm → Checked (Formula × List Constraint × Option Metric)
goal_on names rules form =
    over_two (λ goal more. (goal, more.0, more.1)) (formula names [] setting.Plain form.goal) (rules_and_metric names rules form)

-- the initial state and what comes after it
abbrev pub stated : Declarations → List Constraint → ProblemForm → Checked Stated
stated names rules form =
    over_two (λ init more. record { init = init; goal = more.0; constraints = more.1; metric = more.2 }) (initial names form.init) (goal_on names rules form)

-- the parts of a problem whose first objects, so many of them, are its domain's constants
abbrev pub parts : ℕ → List Action → ProblemForm → Declarations → Stated → Parts
parts constants acts form names it =
    record {
      domain = form.domain.name;
      name = form.name.name;
      types = map typed names.types;
      constants = constants;
      objects = map typed names.objects;
      predicates = map predicate names.predicates;
      functions = map function names.functions;
      atoms = it.init.atoms;
      numbers = it.init.numbers;
      values = it.init.values;
      actions = acts;
      goal = it.goal;
      metric = it.metric;
      constraints = it.constraints;
    }

-- the problem of a form where these names are declared
abbrev pub in_names : ℕ → List Action → List Constraint → ProblemForm → Declarations → Checked Parts
in_names constants acts rules form names = over (parts constants acts form names) (stated names rules form)

-- the objects and what comes after them
abbrev pub objects_on : Declarations → List Action → List Constraint → ProblemForm → Checked Parts
objects_on names acts rules form = after (with_objects form.objects names) (in_names (length names.objects) acts rules form)

-- `:domain`, objects, init, goal, constraints, metric
abbrev pub problem_names : Known → ProblemForm → Checked Parts
problem_names known form =
    behind (wrong_domain known.name form.domain) (objects_on known.declarations known.actions known.constraints form)

-- the names of the domain and the problem that a form states
abbrev pub titles : ProblemForm → Titles
titles form = record { domain = form.domain.name; problem = form.name.name }

-- the parts of a problem that is put together from these
abbrev pub composed : Titles → ℕ → Declared → List Action → Stated → Parts
composed titles constants lists acts it =
    record {
      domain = titles.domain;
      name = titles.problem;
      types = lists.types;
      constants = constants;
      objects = lists.objects;
      predicates = lists.predicates;
      functions = lists.functions;
      atoms = it.init.atoms;
      numbers = it.init.numbers;
      values = it.init.values;
      actions = acts;
      goal = it.goal;
      metric = it.metric;
      constraints = it.constraints;
    }
