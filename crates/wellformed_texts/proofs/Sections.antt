-- Sections that are read are lawful.
use Rattle.std.proofs.Common.{ℕ, ◌&&◌, List, [], ◌∷◌, ◌++◌, map, drop}
use Rattle.std.specs.Prelude.{⊤, Option, Some, None}
use Rattle.up_text.specs.declared.place.Place.{Place}
use Rattle.up_text.specs.Lists.{Every}
use Rattle.pddl_lex.specs.declared.tree.Sexp.{Sexp}
use Rattle.pddl_lex.specs.Parses.{rejected, all}
use Rattle.pddl_parse.specs.declared.section.DomainKey.{DomainKey}
use Rattle.pddl_parse.specs.declared.section.DomainKey.TheVariants as domain
use Rattle.pddl_parse.specs.declared.section.DomainSection.{DomainSection}
use Rattle.pddl_parse.specs.declared.section.DomainSection.TheVariants as in_domain
use Rattle.pddl_parse.specs.declared.section.ProblemKey.{ProblemKey}
use Rattle.pddl_parse.specs.declared.section.ProblemKey.TheVariants as problem
use Rattle.pddl_parse.specs.declared.section.ProblemSection.{ProblemSection}
use Rattle.pddl_parse.specs.declared.section.ProblemSection.TheVariants as in_problem
use Rattle.pddl_parse.specs.declared.shape.ShapeError.TheVariants.{Duplicate}
use Rattle.pddl_parse.specs.declared.typed.Item.TheVariants as item
use Rattle.pddl_parse.specs.Shapes.{Read, ident, extra, one}
use Rattle.pddl_parse.specs.TypedLists.{typed_list}
use Rattle.pddl_parse.specs.Brackets.{has_section}
use Rattle.pddl_parse.specs.Symbols.{predicates, functions}
use Rattle.pddl_parse.specs.Actions.{action, condition}
use Rattle.pddl_parse.specs.Constraints.{whole_constraint}
use Rattle.pddl_parse.specs.Starts.{initial, metric}
use Rattle.pddl_parse.specs.Sections.{keyword_of, refusal, requirements, alone, domain_key, stands_once, domain_body, domain_known, domain_named, in_domain_section, domain_section, domain_sections, problem_key, problem_body, problem_known, problem_named, in_problem_section, problem_section, problem_sections}
use Rattle.wellformed_texts.specs.Literals.{HasLiteralLeaves}
use Rattle.wellformed_phrases.specs.Agreement.{IfParsed}
use Rattle.wellformed_phrases.specs.LawfulPhrases.{IsLawful, IsLawfulConstraint}
use Rattle.wellformed_phrases.specs.Initial.{IsLawfulInit}
use Rattle.wellformed_phrases.specs.Sound.{AreNamed, AreNamedFunctions}
use Rattle.wellformed_phrases.proofs.Parses.{parsed_over, parsed_two}
use Rattle.wellformed_texts.proofs.Parses.{parsed_behind, parsed_followed, parsed_if, parsed_one, each_as, parsed_group}
use Rattle.wellformed_texts.proofs.Typed.{IsNamed, ident_is, AreGroups, typed_list_is}
use Rattle.wellformed_texts.proofs.Conditions.{condition_is}
use Rattle.wellformed_texts.proofs.Actions.{IsRead, action_is}
use Rattle.wellformed_texts.proofs.Symbols.{predicates_are, functions_are}
use Rattle.wellformed_texts.proofs.Starts.{initials_are, HasLiteralValue, metric_is}
use Rattle.wellformed_texts.proofs.Constraints.{whole_constraint_is}

requirements_are : {A : Type 0} (P : A → Type 0) (whole : A) (items : List Sexp) → P whole → IfParsed (requirements whole items) P
requirements_are P whole [] is = is
requirements_are P whole (tree ∷ rest) is =
    parsed_behind P (refusal (keyword_of tree) tree) (requirements whole rest) (requirements_are P whole rest is)

alone_is : {A : Type 0} (P : A → Type 0) (place : Place) (f : Sexp → Read A) (rest : List Sexp) → ((tree : Sexp) → HasLiteralLeaves tree → IfParsed (f tree) P)
    → Every HasLiteralLeaves rest → IfParsed (alone place f rest) P
alone_is P place f rest h have =
    parsed_followed P (one place (map f rest)) (extra (drop 1 rest)) (parsed_one P place (map f rest) (each_as HasLiteralLeaves P f rest h have))

-- ---- the domain's

abbrev pub InDomain : DomainSection → Type 0
InDomain in_domain.Requirements = ⊤
InDomain (in_domain.Types groups) = AreGroups groups
InDomain (in_domain.Constants groups) = AreGroups groups
InDomain (in_domain.Predicates symbols) = AreNamed symbols
InDomain (in_domain.Functions groups) = AreNamedFunctions groups
InDomain (in_domain.Action raw) = IsRead raw
InDomain (in_domain.Constraints raw) = IsLawfulConstraint raw

domain_body_is : (key : DomainKey) (place : Place) (rest : List Sexp) → Every HasLiteralLeaves rest → IfParsed (domain_body key place rest) InDomain
domain_body_is domain.Requirements place rest have = requirements_are InDomain in_domain.Requirements rest tt
domain_body_is domain.Types place rest have =
    parsed_over AreGroups InDomain in_domain.Types (typed_list item.Name place rest) (λ groups are. are) (typed_list_is item.Name place rest)
domain_body_is domain.Constants place rest have =
    parsed_over AreGroups InDomain in_domain.Constants (typed_list item.Name place rest) (λ groups are. are) (typed_list_is item.Name place rest)
domain_body_is domain.Predicates place rest have =
    parsed_over AreNamed InDomain in_domain.Predicates (predicates rest) (λ symbols are. are) (predicates_are rest)
domain_body_is domain.Functions place rest have =
    parsed_over AreNamedFunctions InDomain in_domain.Functions (functions place rest) (λ groups are. are) (functions_are place rest)
domain_body_is domain.Action place rest have = parsed_over IsRead InDomain in_domain.Action (action place rest) (λ raw is. is) (action_is place rest have)
domain_body_is domain.Constraints place rest have =
    parsed_over IsLawfulConstraint InDomain in_domain.Constraints (alone place whole_constraint rest) (λ raw is. is)
    (alone_is IsLawfulConstraint place whole_constraint rest whole_constraint_is have)

domain_known_is : (found : Option DomainKey) (word : List ℕ) (before : List Sexp) (place : Place) (rest : List Sexp) → Every HasLiteralLeaves rest
    → IfParsed (domain_known found word before place rest) InDomain
domain_known_is None word before place rest have = tt
domain_known_is (Some key) word before place rest have =
    parsed_if InDomain (stands_once key && has_section word before) (rejected (Duplicate place) []) (domain_body key place rest) tt
    (domain_body_is key place rest have)

domain_named_is : (found : Option (List ℕ)) (before : List Sexp) (place : Place) (head : Sexp) (rest : List Sexp) → Every HasLiteralLeaves rest
    → IfParsed (domain_named found before place head rest) InDomain
domain_named_is None before place head rest have = tt
domain_named_is (Some word) before place head rest have = domain_known_is (domain_key word) word before place rest have

in_domain_section_is : (before : List Sexp) (place : Place) (items : List Sexp) → Every HasLiteralLeaves items
    → IfParsed (in_domain_section before place items) InDomain
in_domain_section_is before place [] have = tt
in_domain_section_is before place (head ∷ rest) have = domain_named_is (keyword_of head) before place head rest have.1

pub domain_sections_are : (before trees : List Sexp) → Every HasLiteralLeaves trees → IfParsed (domain_sections before trees) (Every InDomain)
domain_sections_are before [] have = tt
domain_sections_are before (tree ∷ rest) have =
    parsed_two InDomain (Every InDomain) (Every InDomain) (λ s ss. s ∷ ss) (domain_section before tree) (domain_sections (before ++ tree ∷ []) rest)
    (λ s ss is are. (is, are)) (parsed_group InDomain (in_domain_section before) (in_domain_section_is before) tree have.0)
    (domain_sections_are (before ++ tree ∷ []) rest have.1)

-- ---- the problem's

abbrev pub InProblem : ProblemSection → Type 0
InProblem in_problem.Requirements = ⊤
InProblem (in_problem.Domain name) = IsNamed name
InProblem (in_problem.Objects groups) = AreGroups groups
InProblem (in_problem.Init members) = Every IsLawfulInit members
InProblem (in_problem.Goal f) = IsLawful f
InProblem (in_problem.Constraints raw) = IsLawfulConstraint raw
InProblem (in_problem.Metric raw) = HasLiteralValue raw

problem_body_is : (key : ProblemKey) (place : Place) (rest : List Sexp) → Every HasLiteralLeaves rest → IfParsed (problem_body key place rest) InProblem
problem_body_is problem.Domain place rest have =
    parsed_over IsNamed InProblem in_problem.Domain (alone place ident rest) (λ name is. is) (alone_is IsNamed place ident rest (λ tree has. ident_is tree) have)
problem_body_is problem.Requirements place rest have = requirements_are InProblem in_problem.Requirements rest tt
problem_body_is problem.Objects place rest have =
    parsed_over AreGroups InProblem in_problem.Objects (typed_list item.Name place rest) (λ groups are. are) (typed_list_is item.Name place rest)
problem_body_is problem.Init place rest have =
    parsed_over (Every IsLawfulInit) InProblem in_problem.Init (all (map initial rest)) (λ members are. are) (initials_are rest have)
problem_body_is problem.Goal place rest have =
    parsed_over IsLawful InProblem in_problem.Goal (alone place condition rest) (λ f is. is) (alone_is IsLawful place condition rest condition_is have)
problem_body_is problem.Constraints place rest have =
    parsed_over IsLawfulConstraint InProblem in_problem.Constraints (alone place whole_constraint rest) (λ raw is. is)
    (alone_is IsLawfulConstraint place whole_constraint rest whole_constraint_is have)
problem_body_is problem.Metric place rest have =
    parsed_over HasLiteralValue InProblem in_problem.Metric (metric place rest) (λ raw has. has) (metric_is place rest have)

problem_known_is : (found : Option ProblemKey) (word : List ℕ) (before : List Sexp) (place : Place) (rest : List Sexp) → Every HasLiteralLeaves rest
    → IfParsed (problem_known found word before place rest) InProblem
problem_known_is None word before place rest have = tt
problem_known_is (Some key) word before place rest have =
    parsed_if InProblem (has_section word before) (rejected (Duplicate place) []) (problem_body key place rest) tt (problem_body_is key place rest have)

problem_named_is : (found : Option (List ℕ)) (before : List Sexp) (place : Place) (head : Sexp) (rest : List Sexp) → Every HasLiteralLeaves rest
    → IfParsed (problem_named found before place head rest) InProblem
problem_named_is None before place head rest have = tt
problem_named_is (Some word) before place head rest have = problem_known_is (problem_key word) word before place rest have

in_problem_section_is : (before : List Sexp) (place : Place) (items : List Sexp) → Every HasLiteralLeaves items
    → IfParsed (in_problem_section before place items) InProblem
in_problem_section_is before place [] have = tt
in_problem_section_is before place (head ∷ rest) have = problem_named_is (keyword_of head) before place head rest have.1

pub problem_sections_are : (before trees : List Sexp) → Every HasLiteralLeaves trees → IfParsed (problem_sections before trees) (Every InProblem)
problem_sections_are before [] have = tt
problem_sections_are before (tree ∷ rest) have =
    parsed_two InProblem (Every InProblem) (Every InProblem) (λ s ss. s ∷ ss) (problem_section before tree) (problem_sections (before ++ tree ∷ []) rest)
    (λ s ss is are. (is, are)) (parsed_group InProblem (in_problem_section before) (in_problem_section_is before) tree have.0)
    (problem_sections_are (before ++ tree ∷ []) rest have.1)
