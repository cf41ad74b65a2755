-- Forms of a domain and of a problem denote them exactly where they are read as them.
use Rattle.std.proofs.Common.{◌≡◌, List, [], ◌++◌, length, Option, refl, ap, sym, ◌∙◌}
use Rattle.std.specs.Cmp.Lexicographic.{bytes_decides}
use Rattle.up_text.specs.Names.{same_name}
use Rattle.pddl_lex.specs.Parses.{parsed, before}
use Rattle.pddl_parse.specs.declared.raw.DomainForm.{DomainForm}
use Rattle.pddl_parse.specs.declared.raw.ProblemForm.{ProblemForm}
use Rattle.pddl_parse.proofs.Spelled.{Sound, sound_over, sound_two, sound_behind}
use Rattle.up_tree.specs.declared.formula.Formula.{Formula}
use Rattle.up_tree.specs.declared.problem.Constraint.{Constraint}
use Rattle.up_tree.specs.declared.problem.Metric.{Metric}
use Rattle.up_tree.specs.declared.problem.Parts.{Parts}
use Rattle.up_phrase.specs.declared.reason.Reason.TheVariants.{WrongDomain}
use Rattle.up_phrase.specs.declared.term.Setting.TheVariants as setting
use Rattle.up_phrase.specs.Conditions.{formula}
use Rattle.up_phrase.specs.Declarations.{Declarations}
use Rattle.up_phrase.specs.Named.{at}
use Rattle.up_declare.specs.Declaring.{with_objects}
use Rattle.up_check.specs.declared.problem.Stated.{Stated}
use Rattle.up_check.specs.Constraints.{constraints}
use Rattle.up_check.specs.Domains.{Known, declared, actions, known, domain_names}
use Rattle.up_check.specs.Initial.{initial}
use Rattle.up_check.specs.Metrics.{metric_of}
use Rattle.up_check.specs.Problems.{wrong_domain, rules_and_metric, goal_on, stated, parts, in_names, objects_on, problem_names}
use Rattle.grammar_names.specs.Phrases.{DenotesFormula}
use Rattle.grammar_names.specs.Declares.{DeclareAll, DeclareObjects}
use Rattle.grammar_names.specs.Actions.{DenoteActions}
use Rattle.grammar_names.specs.Initial.{DenoteInitial}
use Rattle.grammar_names.specs.Constraints.{DenoteConstraints}
use Rattle.grammar_names.specs.Metrics.{DenotesMetric}
use Rattle.grammar_names.specs.Problems.{DenotesDomain, DenotesProblem}
use Rattle.grammar_shapes.proofs.Parses.{sound_is}
use Rattle.grammar_names.proofs.Parses.{sound_after, holds}
use Rattle.grammar_names.proofs.Conditions.{formula_read, formula_denotes}
use Rattle.grammar_names.proofs.Declares.{declared_read, declared_declare, objects_read, objects_declare}
use Rattle.grammar_names.proofs.Actions.{actions_read, actions_denote}
use Rattle.grammar_names.proofs.Initial.{initial_read, initial_denotes}
use Rattle.grammar_names.proofs.Constraints.{constraints_read, constraints_denote}
use Rattle.grammar_names.proofs.Metrics.{metric_read, metric_denotes}
use Rattle.grammar_shapes.proofs.Walks.{sound_of}

-- ---- domains

same_known : (a b : Known) → a.name ≡ b.name → a.declarations ≡ b.declarations → a.actions ≡ b.actions → a.constraints ≡ b.constraints
    → a ≡ b
same_known a b p q r s = λ i. record { name = p i; declarations = q i; actions = r i; constraints = s i }

module _ (form : DomainForm) where
  pub domain_read : (domain : Known) → DenotesDomain form domain → domain_names form ≡ parsed domain
  domain_read domain d =
      rw (
        declared_read form domain.declarations d.declarations,
        actions_read domain.declarations form.actions domain.actions d.actions,
        constraints_read domain.declarations [] form.constraints domain.constraints d.constraints,
      ) (ap parsed (λ i. record {
        name = sym d.name i;
        declarations = domain.declarations;
        actions = domain.actions;
        constraints = domain.constraints;
      }))

  known_sound : (names : Declarations) → DeclareAll form names → Sound (known form names) (DenotesDomain form)
  known_sound names declares =
      sound_two (DenoteActions names form.actions) (DenoteConstraints names [] form.constraints) (DenotesDomain form)
      (λ acts rules. record { name = form.name.name; declarations = names; actions = acts; constraints = rules })
      (actions names [] form.actions) (constraints names [] form.constraints)
      (λ acts rules are so. record { name = refl; declarations = declares; actions = are; constraints = so })
      (sound_of (DenoteActions names form.actions) (actions names [] form.actions) (actions_denote names form.actions))
      (sound_of (DenoteConstraints names [] form.constraints) (constraints names [] form.constraints)
      (constraints_denote names [] form.constraints))

  domain_sound : Sound (domain_names form) (DenotesDomain form)
  domain_sound =
      sound_after (DeclareAll form) (DenotesDomain form) (declared form) (known form)
      (sound_of (DeclareAll form) (declared form) (declared_declare form)) known_sound

  pub domain_denotes : (domain : Known) → domain_names form ≡ parsed domain → DenotesDomain form domain
  domain_denotes domain e = sound_is (DenotesDomain form) (domain_names form) domain domain_sound e

-- ---- problems

module _ (domain : Known) (form : ProblemForm) where
  abbrev said : (problem : Parts) → DenotesProblem domain form problem → Stated
  said problem d = record { init = d.init; goal = problem.goal; constraints = domain.constraints ++ d.constraints; metric = problem.metric }

  pub problem_read : (problem : Parts) → DenotesProblem domain form problem → problem_names domain form ≡ parsed problem
  problem_read problem d =
      rw (
        (bytes_decides form.domain.name domain.name).1 d.names_domain,
        objects_read form.objects domain.declarations d.names d.objects,
        initial_read d.names form.init d.init d.initial,
        formula_read d.names [] setting.Plain form.goal problem.goal d.goal,
        constraints_read d.names [] form.constraints d.constraints d.rules,
        metric_read d.names form.metric problem.metric d.metric,
      ) (ap parsed (ap (λ name. record (parts (length domain.declarations.objects) domain.actions form d.names (said problem d))
      { domain = name }) d.names_domain ∙ sym d.parts))

  -- what the sections after the objects state
  record IsStated (names : Declarations) (it : Stated) : Type 0 where
    initial : DenoteInitial names form.init it.init
    goal : DenotesFormula names [] setting.Plain form.goal it.goal
    own : List Constraint
    rules : DenoteConstraints names [] form.constraints own
    behind : it.constraints ≡ domain.constraints ++ own
    metric : DenotesMetric names form.metric it.metric

  abbrev AreRules : Declarations → List Constraint → Type 0
  AreRules names all = (own : List Constraint) × DenoteConstraints names [] form.constraints own × (all ≡ domain.constraints ++ own)

  abbrev AreLast : Declarations → List Constraint × Option Metric → Type 0
  AreLast names more = AreRules names more.0 × DenotesMetric names form.metric more.1

  abbrev AreAfterInit : Declarations → Formula × List Constraint × Option Metric → Type 0
  AreAfterInit names more =
      DenotesFormula names [] setting.Plain form.goal more.0 × AreRules names more.1 × DenotesMetric names form.metric more.2

  module _ (names : Declarations) where
    rules_sound : Sound (before domain.constraints (constraints names [] form.constraints)) (AreRules names)
    rules_sound =
        sound_over (DenoteConstraints names [] form.constraints) (AreRules names) (λ own. domain.constraints ++ own)
        (constraints names [] form.constraints)
        (λ own are. (own, are, refl))
        (sound_of (DenoteConstraints names [] form.constraints) (constraints names [] form.constraints)
        (constraints_denote names [] form.constraints))

    last_sound : Sound (rules_and_metric names domain.constraints form) (AreLast names)
    last_sound =
        sound_two (AreRules names) (DenotesMetric names form.metric) (AreLast names) (λ all m. (all, m))
        (before domain.constraints (constraints names [] form.constraints)) (metric_of names form.metric) (λ all m are is. (are, is))
        rules_sound
        (sound_of (DenotesMetric names form.metric) (metric_of names form.metric) (metric_denotes names form.metric))

    goal_sound : Sound (goal_on names domain.constraints form) (AreAfterInit names)
    goal_sound =
        sound_two (DenotesFormula names [] setting.Plain form.goal) (AreLast names) (AreAfterInit names)
        (λ goal more. (goal, more.0, more.1))
        (formula names [] setting.Plain form.goal) (rules_and_metric names domain.constraints form) (λ goal more is are. (is, are.0, are.1))
        (sound_of (DenotesFormula names [] setting.Plain form.goal) (formula names [] setting.Plain form.goal)
        (formula_denotes names [] setting.Plain form.goal))
        last_sound

    stated_sound : Sound (stated names domain.constraints form) (IsStated names)
    stated_sound =
        sound_two (DenoteInitial names form.init) (AreAfterInit names) (IsStated names)
        (λ init more. record { init = init; goal = more.0; constraints = more.1; metric = more.2 }) (initial names form.init)
        (goal_on names domain.constraints form)
        (λ init more is are. record { initial = is; goal = are.0; own = are.1.0; rules = are.1.1; behind = are.1.2; metric = are.2 })
        (sound_of (DenoteInitial names form.init) (initial names form.init) (initial_denotes names form.init)) goal_sound

    parts_denoted : form.domain.name ≡ domain.name → DeclareObjects form.objects domain.declarations names → (it : Stated)
        → IsStated names it
        → DenotesProblem domain form (parts (length domain.declarations.objects) domain.actions form names it)
    parts_denoted same objects it is = record {
      names_domain = same;
      names = names;
      objects = objects;
      init = it.init;
      initial = is.initial;
      goal = is.goal;
      constraints = is.own;
      rules = is.rules;
      metric = is.metric;
      parts =
          λ i. record (parts (length domain.declarations.objects) domain.actions form names it)
          { domain = same i; constraints = is.behind i };
    }

  problem_sound : Sound (problem_names domain form) (DenotesProblem domain form)
  problem_sound =
      sound_behind (DenotesProblem domain form) (wrong_domain domain.name form.domain)
      (objects_on domain.declarations domain.actions domain.constraints form) (λ none.
      sound_after (DeclareObjects form.objects domain.declarations) (DenotesProblem domain form)
      (with_objects form.objects domain.declarations)
      (in_names (length domain.declarations.objects) domain.actions domain.constraints form)
      (sound_of (DeclareObjects form.objects domain.declarations) (with_objects form.objects domain.declarations)
      (objects_declare form.objects domain.declarations))
      (λ names objects.
      sound_over (IsStated names) (DenotesProblem domain form) (parts (length domain.declarations.objects) domain.actions form names)
      (stated names domain.constraints form)
      (parts_denoted names
      ((bytes_decides form.domain.name domain.name).0 (holds (same_name form.domain.name domain.name)
      (at form.domain.place WrongDomain form.domain.name) none)) objects)
      (stated_sound names)))

  pub problem_denotes : (problem : Parts) → problem_names domain form ≡ parsed problem → DenotesProblem domain form problem
  problem_denotes problem e = sound_is (DenotesProblem domain form) (problem_names domain form) problem problem_sound e
