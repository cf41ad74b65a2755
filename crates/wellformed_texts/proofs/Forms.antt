-- The forms of texts that are read are lawful.
use Rattle.std.proofs.Common.{ℕ, List, [], ◌∷◌}
use Rattle.std.specs.Prelude.{⊤, Option, Some, None, codes}
use Rattle.up_text.specs.declared.place.Place.{Place}
use Rattle.up_text.specs.Names.{IsName}
use Rattle.up_text.specs.Lists.{Every}
use Rattle.pddl_lex.specs.declared.tree.Sexp.{Sexp}
use Rattle.pddl_lex.specs.Parses.{parsed, rejected, over_two, behind, followed}
use Rattle.pddl_parse.specs.declared.raw.Ident.{Ident}
use Rattle.pddl_parse.specs.declared.raw.RawAction.{RawAction}
use Rattle.pddl_parse.specs.declared.raw.RawFormula.{RawFormula}
use Rattle.pddl_parse.specs.declared.raw.DomainForm.{DomainForm}
use Rattle.pddl_parse.specs.declared.section.DomainSection.{DomainSection}
use Rattle.pddl_parse.specs.declared.section.DomainSection.TheVariants as in_domain
use Rattle.pddl_parse.specs.declared.section.ProblemSection.{ProblemSection}
use Rattle.pddl_parse.specs.declared.section.ProblemSection.TheVariants as in_problem
use Rattle.pddl_parse.specs.declared.problem.ProblemParts.{ProblemParts}
use Rattle.pddl_parse.specs.Shapes.{Read, ident, extra}
use Rattle.pddl_parse.specs.Brackets.{short}
use Rattle.pddl_parse.specs.Sections.{domain_sections, problem_sections}
use Rattle.pddl_parse.specs.Texts.{unlike, in_title, title, only, bare_domain, with_section, with_sections, in_domain_text, domain_text, bare_problem, put_section, put_sections, complete, whole, lacks_section, in_problem_text, problem_text, domain, problem}
use Rattle.wellformed_texts.specs.Literals.{HasLiteralLeaves}
use Rattle.wellformed_phrases.specs.Agreement.{IfParsed}
use Rattle.wellformed_phrases.specs.LawfulPhrases.{HaveNames, IsLawful, IsLawfulAction, IsLawfulConstraint, IsLawfulMetric}
use Rattle.wellformed_phrases.specs.Initial.{IsLawfulInit}
use Rattle.wellformed_phrases.specs.LawfulForms.{IsLawfulDomain, IsLawfulProblem}
use Rattle.wellformed_phrases.proofs.Parses.{parsed_two, parsed_any}
use Rattle.wellformed_texts.proofs.Parses.{parsed_behind, parsed_followed, parsed_bracket, parsed_group, every_behind}
use Rattle.wellformed_texts.proofs.Typed.{IsNamed, ident_is}
use Rattle.wellformed_texts.proofs.Constraints.{and_is}
use Rattle.wellformed_texts.proofs.Sections.{InDomain, domain_sections_are, InProblem, problem_sections_are}

in_title_is : (word : List ℕ) (place : Place) (items : List Sexp) → IfParsed (in_title word place items) IsNamed
in_title_is word place [] = tt
in_title_is word place (head ∷ []) = tt
in_title_is word place (head ∷ name ∷ others) =
    parsed_behind IsNamed (unlike word head) (followed (ident name) (extra others)) (parsed_followed IsNamed (ident name) (extra others) (ident_is name))

title_is : (word : List ℕ) (tree : Sexp) → IfParsed (title word tree) IsNamed
title_is word tree = parsed_bracket IsNamed (in_title word) (in_title_is word) tree

only_is : {A : Type 0} (P : A → Type 0) (f : Sexp → Read A) (trees : List Sexp) → ((tree : Sexp) → HasLiteralLeaves tree → IfParsed (f tree) P)
    → Every HasLiteralLeaves trees → IfParsed (only f trees) P
only_is P f [] h have = tt
only_is P f (tree ∷ others) h have = parsed_followed P (f tree) (extra others) (h tree have.0)

-- ---- domains

bare_domain_is : (name : Ident) → IsLawfulDomain (bare_domain name)
bare_domain_is name =
    record { types = tt; parents = tt; constants = tt; predicates = tt; functions = tt; action_names = tt; actions = tt; constraints = and_is [] tt }

with_section_is : (form : DomainForm) (s : DomainSection) → IsLawfulDomain form → InDomain s → IsLawfulDomain (with_section form s)
with_section_is form in_domain.Requirements is so = is
with_section_is form (in_domain.Types types) is so =
    record { types = so.0; parents = so.1; constants = is.constants; predicates = is.predicates; functions = is.functions; action_names = is.action_names; actions = is.actions; constraints = is.constraints }
with_section_is form (in_domain.Constants constants) is so =
    record { types = is.types; parents = is.parents; constants = so.0; predicates = is.predicates; functions = is.functions; action_names = is.action_names; actions = is.actions; constraints = is.constraints }
with_section_is form (in_domain.Predicates predicates) is so =
    record { types = is.types; parents = is.parents; constants = is.constants; predicates = so; functions = is.functions; action_names = is.action_names; actions = is.actions; constraints = is.constraints }
with_section_is form (in_domain.Functions functions) is so =
    record { types = is.types; parents = is.parents; constants = is.constants; predicates = is.predicates; functions = so; action_names = is.action_names; actions = is.actions; constraints = is.constraints }
with_section_is form (in_domain.Action action) is so =
    record {
      types = is.types;
      parents = is.parents;
      constants = is.constants;
      predicates = is.predicates;
      functions = is.functions;
      action_names = every_behind (λ (raw : RawAction). IsName raw.name.name) form.actions action is.action_names so.0;
      actions = every_behind IsLawfulAction form.actions action is.actions so.1;
      constraints = is.constraints;
    }
with_section_is form (in_domain.Constraints constraints) is so =
    record { types = is.types; parents = is.parents; constants = is.constants; predicates = is.predicates; functions = is.functions; action_names = is.action_names; actions = is.actions; constraints = so }

with_sections_is : (form : DomainForm) (ss : List DomainSection) → IsLawfulDomain form → Every InDomain ss → IsLawfulDomain (with_sections form ss)
with_sections_is form [] is are = is
with_sections_is form (s ∷ ss) is are = with_sections_is (with_section form s) ss (with_section_is form s is are.0) are.1

in_domain_is : (place : Place) (items : List Sexp) → Every HasLiteralLeaves items → IfParsed (in_domain_text place items) IsLawfulDomain
in_domain_is place [] have = tt
in_domain_is place (head ∷ []) have = tt
in_domain_is place (head ∷ second ∷ rest) have =
    parsed_behind IsLawfulDomain (unlike (codes "define") head)
    (over_two (λ name ss. with_sections (bare_domain name) ss) (title (codes "domain") second) (domain_sections [] rest))
    (parsed_two (λ name. ⊤) (Every InDomain) IsLawfulDomain (λ name ss. with_sections (bare_domain name) ss) (title (codes "domain") second) (domain_sections [] rest)
    (λ name ss any are. with_sections_is (bare_domain name) ss (bare_domain_is name) are) (parsed_any (title (codes "domain") second))
    (domain_sections_are [] rest have.1.1))

domain_text_is : (tree : Sexp) → HasLiteralLeaves tree → IfParsed (domain_text tree) IsLawfulDomain
domain_text_is tree have = parsed_group IsLawfulDomain in_domain_text in_domain_is tree have

pub domains_are_lawful : (trees : List Sexp) → Every HasLiteralLeaves trees → IfParsed (domain trees) IsLawfulDomain
domains_are_lawful trees have = only_is IsLawfulDomain domain_text trees domain_text_is have

-- ---- problems

abbrev IsNamedIf : Option Ident → Type 0
IsNamedIf None = ⊤
IsNamedIf (Some name) = IsNamed name

abbrev IsLawfulIf : Option RawFormula → Type 0
IsLawfulIf None = ⊤
IsLawfulIf (Some f) = IsLawful f

record AreLawfulParts (parts : ProblemParts) : Type 0 where
  name : IsName parts.name.name
  domain : IsNamedIf parts.domain
  objects : HaveNames parts.objects
  init : Every IsLawfulInit parts.init
  goal : IsLawfulIf parts.goal
  constraints : IsLawfulConstraint parts.constraints
  metric : IsLawfulMetric parts.metric

bare_problem_is : (name : Ident) → IsNamed name → AreLawfulParts (bare_problem name)
bare_problem_is name named = record { name = named; domain = tt; objects = tt; init = tt; goal = tt; constraints = and_is [] tt; metric = tt }

put_section_is : (parts : ProblemParts) (s : ProblemSection) → AreLawfulParts parts → InProblem s → AreLawfulParts (put_section parts s)
put_section_is parts in_problem.Requirements are so = are
put_section_is parts (in_problem.Domain name) are so =
    record { name = are.name; domain = so; objects = are.objects; init = are.init; goal = are.goal; constraints = are.constraints; metric = are.metric }
put_section_is parts (in_problem.Objects objects) are so =
    record { name = are.name; domain = are.domain; objects = so.0; init = are.init; goal = are.goal; constraints = are.constraints; metric = are.metric }
put_section_is parts (in_problem.Init init) are so =
    record { name = are.name; domain = are.domain; objects = are.objects; init = so; goal = are.goal; constraints = are.constraints; metric = are.metric }
put_section_is parts (in_problem.Goal goal) are so =
    record { name = are.name; domain = are.domain; objects = are.objects; init = are.init; goal = so; constraints = are.constraints; metric = are.metric }
put_section_is parts (in_problem.Constraints constraints) are so =
    record { name = are.name; domain = are.domain; objects = are.objects; init = are.init; goal = are.goal; constraints = so; metric = are.metric }
put_section_is parts (in_problem.Metric metric) are so =
    record { name = are.name; domain = are.domain; objects = are.objects; init = are.init; goal = are.goal; constraints = are.constraints; metric = so }

put_sections_is : (parts : ProblemParts) (ss : List ProblemSection) → AreLawfulParts parts → Every InProblem ss → AreLawfulParts (put_sections parts ss)
put_sections_is parts [] are all = are
put_sections_is parts (s ∷ ss) are all = put_sections_is (put_section parts s) ss (put_section_is parts s are all.0) all.1

complete_is : (place : Place) (name : Option Ident) (goal : Option RawFormula) (parts : ProblemParts) → IsNamedIf name → IsLawfulIf goal
    → AreLawfulParts parts → IfParsed (complete place name goal parts) IsLawfulProblem
complete_is place None goal parts named is are = tt
complete_is place (Some name) None parts named is are = tt
complete_is place (Some name) (Some goal) parts named is are =
    record { name = are.name; domain = named; objects = are.objects; init = are.init; goal = is; constraints = are.constraints; metric = are.metric }

whole_is : (place : Place) (v : Read ProblemParts) → IfParsed v AreLawfulParts → IfParsed (whole place v) IsLawfulProblem
whole_is place (parsed parts) are = complete_is place parts.domain parts.goal parts are.domain are.goal are
whole_is place (rejected f fs) are = tt

in_problem_is : (place : Place) (items : List Sexp) → Every HasLiteralLeaves items → IfParsed (in_problem_text place items) IsLawfulProblem
in_problem_is place [] have = tt
in_problem_is place (head ∷ []) have = tt
in_problem_is place (head ∷ second ∷ rest) have =
    let read = over_two (λ name ss. put_sections (bare_problem name) ss) (title (codes "problem") second) (problem_sections [] rest) in
    parsed_behind IsLawfulProblem (short (lacks_section rest) place (head ∷ second ∷ rest)) (behind (unlike (codes "define") head) (whole place read))
    (parsed_behind IsLawfulProblem (unlike (codes "define") head) (whole place read) (whole_is place read
    (parsed_two IsNamed (Every InProblem) AreLawfulParts (λ name ss. put_sections (bare_problem name) ss) (title (codes "problem") second) (problem_sections [] rest)
    (λ name ss named are. put_sections_is (bare_problem name) ss (bare_problem_is name named) are) (title_is (codes "problem") second)
    (problem_sections_are [] rest have.1.1))))

problem_text_is : (tree : Sexp) → HasLiteralLeaves tree → IfParsed (problem_text tree) IsLawfulProblem
problem_text_is tree have = parsed_group IsLawfulProblem in_problem_text in_problem_is tree have

pub problems_are_lawful : (trees : List Sexp) → Every HasLiteralLeaves trees → IfParsed (problem trees) IsLawfulProblem
problems_are_lawful trees have = only_is IsLawfulProblem problem_text trees problem_text_is have
