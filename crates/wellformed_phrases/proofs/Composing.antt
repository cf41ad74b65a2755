-- The problem that lawful forms are read as is well-formed.
use Rattle.std.proofs.Common.{◌≡◌, ◌≤◌, true, List, [], ◌∷◌, ◌++◌, map, length, take, refl, ap, sym, ◌∙◌, subst, Option, arith}
use Rattle.std.proofs.lemmas.List.{append-nil, length-append, length-map}
use Rattle.up_text.specs.declared.name.Name.{Name}
use Rattle.up_text.specs.Lists.{Every, Member}
use Rattle.pddl_lex.specs.Parses.{before, over, parsed}
use Rattle.pddl_parse.specs.declared.raw.ProblemForm.{ProblemForm}
use Rattle.up_tree.specs.declared.formula.Formula.{Formula}
use Rattle.up_tree.specs.declared.problem.Constraint.{Constraint}
use Rattle.up_tree.specs.declared.problem.Metric.{Metric}
use Rattle.up_tree.specs.declared.problem.Parts.{Parts}
use Rattle.up_tree.specs.declared.term.Typed.{Typed}
use Rattle.up_tree.specs.Objects.{chain}
use Rattle.up_tree.specs.WellFormed.{AreDeclared, IsBelow, IsConstraint, IsFormula, IsType, IsWellFormed, OfGives, OnMetric, top_type}
use Rattle.up_phrase.specs.declared.term.Setting.TheVariants as setting
use Rattle.up_phrase.specs.Conditions.{formula}
use Rattle.up_phrase.specs.Declarations.{Declarations}
use Rattle.up_phrase.specs.Lookups.{is_type}
use Rattle.up_phrase.specs.Scopes.{typed}
use Rattle.up_declare.specs.Declaring.{with_objects}
use Rattle.up_check.specs.declared.problem.Stated.{Stated}
use Rattle.up_check.specs.Constraints.{constraints}
use Rattle.up_check.specs.Domains.{Known, domain_names}
use Rattle.up_check.specs.Initial.{initial}
use Rattle.up_check.specs.Lists.{predicate, function}
use Rattle.up_check.specs.Metrics.{metric_of}
use Rattle.up_check.specs.Problems.{wrong_domain, rules_and_metric, goal_on, stated, parts, in_names, objects_on, problem_names}
use Rattle.wellformed_phrases.specs.Agreement.{IfParsed, Agree}
use Rattle.wellformed_phrases.specs.Initial.{IsInitial}
use Rattle.wellformed_phrases.specs.Sound.{HasDeclared, GivesType}
use Rattle.wellformed_phrases.specs.SoundTypes.{AreSoundTypes}
use Rattle.wellformed_phrases.specs.LawfulForms.{IsLawfulProblem, IsLawfulDomain}
use Rattle.wellformed_phrases.proofs.Parses.{parsed_over, parsed_two, parsed_after, parsed_behind, parsed_and, parsed_each, parsed_is}
use Rattle.wellformed_phrases.proofs.Members.{every_as, every_append, every_map, names_in}
use Rattle.wellformed_phrases.proofs.Conditions.{formula_is}
use Rattle.wellformed_phrases.proofs.Actions.{agree_empty}
use Rattle.wellformed_phrases.proofs.Constraints.{all_are, metric_is}
use Rattle.wellformed_phrases.proofs.Facts.{initial_is}
use Rattle.wellformed_phrases.proofs.Agreeing.{type_is, gives_is, sound_agree, agree_all}
use Rattle.wellformed_phrases.proofs.Declared.{SoundOver, objects_over}
use Rattle.wellformed_phrases.proofs.Growing.{IsGrown, objects_grown}
use Rattle.wellformed_phrases.proofs.KnownDomains.{IsSoundDomain, domain_is}
use Rattle.pddl_parse.specs.declared.raw.DomainForm.{DomainForm}

-- ---- lists

made_names : {X Y : Type 0} (make : Name × X → Y) (name : Y → Name) → ((e : Name × X) → name (make e) ≡ e.0) → (es : List (Name × X)) → map name (map make es) ≡ names_in es
made_names make name same [] = refl
made_names make name same (e ∷ es) = λ i. same e i ∷ made_names make name same es i

every_both : {X : Type 0} (P Q : X → Type 0) (xs : List X) → Every P xs → Every Q xs → Every (λ x. P x × Q x) xs
every_both P Q [] one other = tt
every_both P Q (x ∷ xs) one other = ((one.0, other.0), every_both P Q xs one.1 other.1)

taken : (es more : List (Name × Name)) → take (length es) (map typed (es ++ more)) ≡ map typed es
taken [] more = refl
taken (e ∷ es) more = ap (λ entries. typed e ∷ entries) (taken es more)

-- ---- what a problem states

record IsStated (p : Parts) (it : Stated) : Type 0 where
  init : IsInitial p it.init
  goal : IsFormula p p.objects [] it.goal
  constraints : Every (IsConstraint p) it.constraints
  metric : OnMetric p it.metric

module _ (names : Declarations) (p : Parts) (agree : Agree names p p.objects) (form : ProblemForm) (lawful : IsLawfulProblem form)
    (rules : List Constraint) (are : Every (IsConstraint p) rules) where
  abbrev AreRules : List Constraint → Type 0
  AreRules = Every (IsConstraint p)

  abbrev IsLast : List Constraint × Option Metric → Type 0
  IsLast more = Every (IsConstraint p) more.0 × OnMetric p more.1

  rules_are : IfParsed (rules_and_metric names rules form) IsLast
  rules_are =
      parsed_two AreRules (OnMetric p) IsLast (λ all m. (all, m)) (before rules (constraints names [] form.constraints)) (metric_of names form.metric)
      (λ all m is so. (is, so))
      (parsed_over AreRules AreRules (λ more. rules ++ more) (constraints names [] form.constraints) (λ more is. every_append (IsConstraint p) rules more are is)
      (all_are names p agree form.constraints lawful.constraints))
      (metric_is names p agree form.metric lawful.metric)

  abbrev IsAfterInit : Formula × List Constraint × Option Metric → Type 0
  IsAfterInit more = IsFormula p p.objects [] more.0 × Every (IsConstraint p) more.1 × OnMetric p more.2

  goal_is : IfParsed (goal_on names rules form) IsAfterInit
  goal_is =
      parsed_two (IsFormula p p.objects []) IsLast IsAfterInit (λ goal more. (goal, more.0, more.1)) (formula names [] setting.Plain form.goal) (rules_and_metric names rules form)
      (λ goal more is so. (is, so.0, so.1)) (formula_is names p p.objects agree setting.Plain form.goal lawful.goal [] [] (agree_empty p)) rules_are

  stated_is : IfParsed (stated names rules form) (IsStated p)
  stated_is =
      parsed_two (IsInitial p) IsAfterInit (IsStated p) (λ init more. record { init = init; goal = more.0; constraints = more.1; metric = more.2 })
      (initial names form.init) (goal_on names rules form)
      (λ init more is so. record { init = is; goal = so.0; constraints = so.1; metric = so.2 }) (initial_is names p agree form.init lawful.init) goal_is

-- ---- the problem of a form in a known domain

-- a problem in which both the declarations and the domain's constraints hold
abbrev WithRules : Declarations → List Constraint → Type 0
WithRules names rules = (p : Parts) × Agree names p p.objects × Every (IsConstraint p) rules

module _ (domain : Known) (is : IsSoundDomain domain) (form : ProblemForm) (lawful : IsLawfulProblem form) where
  module _ (names : Declarations) (over : SoundOver domain.declarations.types names) (grown : IsGrown domain.declarations names) (it : Stated) where
    abbrev made : Parts
    made = parts (length domain.declarations.objects) domain.actions form names it

    types_sound : AreSoundTypes names.types
    types_sound = subst AreSoundTypes (sym over.0) is.sound.0

    has : HasDeclared made names []
    has = record { types = refl; objects = ap (map typed) (sym (append-nil names.objects)); predicates = refl; functions = refl }

    agree : Agree names made made.objects
    agree = sound_agree names types_sound over.1 made [] has

    has_domain : HasDeclared made domain.declarations grown.more
    has_domain = record { types = ap (map typed) grown.types; objects = ap (map typed) grown.objects; predicates = ap (map predicate) grown.predicates; functions = ap (map function) grown.functions }

    agree_constants : Agree domain.declarations made (map typed domain.declarations.objects)
    agree_constants = sound_agree domain.declarations is.sound.0 is.sound.1 made grown.more has_domain

    agree_taken : Agree domain.declarations made (take made.constants made.objects)
    agree_taken =
        subst (Agree domain.declarations made)
        (sym (ap (λ objects. take (length domain.declarations.objects) (map typed objects)) grown.objects ∙ taken domain.declarations.objects grown.more)) agree_constants

    rules_hold : Every (IsConstraint made) domain.constraints
    rules_hold = is.constraints (made, agree_all domain.declarations made (map typed domain.declarations.objects) agree_constants)

    is_known : (t : Name) → is_type names t ≡ true → IsType made t
    is_known t known = type_is names types_sound over.1 made [] has t known

    constants_few : length domain.declarations.objects ≤ length (map typed names.objects)
    constants_few =
        let both = length-append domain.declarations.objects grown.more in
        let all : length names.objects ≡ length (domain.declarations.objects ++ grown.more) = ap length grown.objects in
        let made_all : length (map typed names.objects) ≡ length names.objects = rw (length-map) refl in
        omega (both, all, made_all, arith)

    size : length names.types ≡ length (map typed names.types)
    size = rw (length-map) refl

    chains_are : Every (λ (t : Typed). IsType made t.of × IsBelow made t.name top_type) made.types
    chains_are =
        every_map (λ (t : Typed). IsType made t.of × IsBelow made t.name top_type) typed names.types
        (every_both (λ e. IsType made e.1) (λ e. IsBelow made e.0 top_type) names.types
        (every_as (λ e. is_type names e.1 ≡ true) (λ e. IsType made e.1) names.types (λ e known. is_known e.1 known) types_sound.parents)
        (subst (λ n. Every (λ e. Member top_type (chain (map typed names.types) n e.0)) names.types) size types_sound.chains))

    all_types : (ts : List Name) → Every (λ t. is_type names t ≡ true) ts → Every (IsType made) ts
    all_types ts known = every_as (λ t. is_type names t ≡ true) (IsType made) ts is_known known

    well_formed : IsStated made it → IsWellFormed made
    well_formed so = record {
      domain = lawful.domain;
      name = lawful.name;
      types = subst AreDeclared (sym (made_names typed (λ t. t.name) (λ e. refl) names.types)) types_sound.names;
      top_free = subst (λ ns. ¬ Member top_type ns) (sym (made_names typed (λ t. t.name) (λ e. refl) names.types)) types_sound.top_free;
      chains = chains_are;
      objects = subst AreDeclared (sym (made_names typed (λ o. o.name) (λ e. refl) names.objects)) over.1.objects;
      object_types = every_map (λ o. IsType made o.of) typed names.objects
          (every_as (λ e. is_type names e.1 ≡ true) (λ e. IsType made e.1) names.objects (λ e known. is_known e.1 known) over.1.object_types);
      constants = constants_few;
      symbols = subst AreDeclared
          (λ i. sym (made_names predicate (λ d. d.name) (λ e. refl) names.predicates) i ++ sym (made_names function (λ d. d.name) (λ e. refl) names.functions) i) over.1.symbols;
      predicate_types = every_map (λ d. Every (IsType made) d.args) predicate names.predicates
          (every_as (λ e. Every (λ t. is_type names t ≡ true) e.1) (λ e. Every (IsType made) e.1) names.predicates (λ e known. all_types e.1 known) over.1.predicate_types);
      function_types = every_map (λ d. Every (IsType made) d.args) function names.functions
          (every_as (λ e. Every (λ t. is_type names t ≡ true) e.1.args) (λ e. Every (IsType made) e.1.args) names.functions (λ e known. all_types e.1.args known) over.1.function_types);
      value_types = every_map (λ d. OfGives made d.gives) function names.functions
          (every_as (λ e. GivesType names e.1.gives) (λ e. OfGives made e.1.gives) names.functions
          (λ e known. gives_is names types_sound over.1 made [] has e.1.gives known) over.1.value_types);
      action_names = is.action_names;
      actions = is.actions (made, agree_taken);
      goal = so.goal;
      atoms = so.init.atoms;
      atoms_differ = so.init.atoms_differ;
      numbers = so.init.numbers;
      numbers_differ = so.init.numbers_differ;
      values = so.init.values;
      values_differ = so.init.values_differ;
      metric = so.metric;
      constraints = so.constraints;
    }

  in_names_is : (names : Declarations) → SoundOver domain.declarations.types names × IsGrown domain.declarations names
      → IfParsed (in_names (length domain.declarations.objects) domain.actions domain.constraints form names) IsWellFormed
  in_names_is names (over, grown) =
      parsed_over (λ it. (problem : WithRules names domain.constraints) → IsStated problem.0 it) IsWellFormed (parts (length domain.declarations.objects) domain.actions form names)
      (stated names domain.constraints form)
      (λ it each. well_formed names over grown it (each (made names over grown it, agree names over grown it, rules_hold names over grown it)))
      (parsed_each (λ (problem : WithRules names domain.constraints) it. IsStated problem.0 it) (stated names domain.constraints form)
      (λ (p, agree, rules). stated_is names p agree form lawful domain.constraints rules))

  pub problem_is : IfParsed (problem_names domain form) IsWellFormed
  problem_is =
      parsed_behind IsWellFormed (wrong_domain domain.name form.domain) (objects_on domain.declarations domain.actions domain.constraints form) (λ none.
      parsed_after (λ names. SoundOver domain.declarations.types names × IsGrown domain.declarations names) IsWellFormed (with_objects form.objects domain.declarations)
      (in_names (length domain.declarations.objects) domain.actions domain.constraints form)
      (parsed_and (SoundOver domain.declarations.types) (IsGrown domain.declarations) (with_objects form.objects domain.declarations)
      (objects_over domain.declarations.types domain.declarations (refl, is.sound.1) form.objects lawful.objects) (objects_grown domain.declarations form.objects)) in_names_is)

pub forms_are_well_formed : (domain : DomainForm) → IsLawfulDomain domain → (problem : ProblemForm) → IsLawfulProblem problem
    → (known : Known) → domain_names domain ≡ parsed known → (parts : Parts) → problem_names known problem ≡ parsed parts → IsWellFormed parts
forms_are_well_formed domain lawful_domain problem lawful_problem known knows p reads =
    parsed_is IsWellFormed (problem_names known problem) p reads
    (problem_is known (parsed_is IsSoundDomain (domain_names domain) known knows (domain_is domain lawful_domain)) problem lawful_problem)
