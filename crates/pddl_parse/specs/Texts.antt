-- The two texts.
use Rattle.std.specs.Prelude.{ℕ, Bool, true, false, ◌&&◌, ◌||◌, not, if◌then◌else◌, List, [], ◌∷◌, ◌++◌, map, drop, codes, Option, Some, None}
use Rattle.up_text.specs.declared.place.Place.{Place}
use Rattle.pddl_lex.specs.declared.tree.Sexp.{Sexp}
use Rattle.pddl_lex.specs.Parses.{Parse, parsed, rejected, over, over_two, behind, followed}
use Rattle.pddl_parse.specs.declared.raw.Ident.{Ident}
use Rattle.pddl_parse.specs.declared.raw.RawFormula.{RawFormula}
use Rattle.pddl_parse.specs.declared.raw.RawConstraint as constraint
use Rattle.pddl_parse.specs.declared.raw.DomainForm.{DomainForm}
use Rattle.pddl_parse.specs.declared.raw.ProblemForm.{ProblemForm}
use Rattle.pddl_parse.specs.declared.section.DomainSection.{DomainSection}
use Rattle.pddl_parse.specs.declared.section.DomainSection.TheVariants as in_domain
use Rattle.pddl_parse.specs.declared.section.ProblemSection.{ProblemSection}
use Rattle.pddl_parse.specs.declared.section.ProblemSection.TheVariants as in_problem
use Rattle.pddl_parse.specs.declared.problem.ProblemParts.{ProblemParts}
use Rattle.pddl_parse.specs.declared.shape.ShapeError.{ShapeError}
use Rattle.pddl_parse.specs.declared.shape.ShapeError.TheVariants.{Expected}
use Rattle.pddl_parse.specs.Shapes.{Read, misfit, misfit_group, ident, extra}
use Rattle.pddl_parse.specs.Brackets.{bracket, short, is_word, has_section}
use Rattle.pddl_parse.specs.Sections.{domain_sections, problem_sections}

-- the fault of a tree that isn't this word
abbrev pub unlike : List ℕ → Sexp → List ShapeError
unlike word tree = if is_word word tree then [] else misfit tree ∷ []

abbrev pub in_title : List ℕ → Place → List Sexp → Read Ident
in_title word place [] = rejected (Expected place) []
in_title word place (head ∷ []) = rejected (misfit_group place (head ∷ [])) []
in_title word place (head ∷ name ∷ others) = behind (unlike word head) (followed (ident name) (extra others))

-- `(word N)`
abbrev pub title : List ℕ → Sexp → Read Ident
title word tree = bracket (in_title word) tree

-- the first tree alone, and 1:1 where there is none
abbrev pub only : {A : Type 0} → (Sexp → Read A) → List Sexp → Read A
only f [] = rejected (Expected (record { line = 1; column = 1 })) []
only f (tree ∷ others) = followed (f tree) (extra others)

-- ---- domains

abbrev pub bare_domain : Ident → DomainForm
bare_domain name = record { name = name; types = []; constants = []; predicates = []; functions = []; actions = []; constraints = constraint.And [] }

abbrev pub with_section : DomainForm → DomainSection → DomainForm
with_section form in_domain.Requirements = form
with_section form (in_domain.Types types) = record form { types = types }
with_section form (in_domain.Constants constants) = record form { constants = constants }
with_section form (in_domain.Predicates predicates) = record form { predicates = predicates }
with_section form (in_domain.Functions functions) = record form { functions = functions }
with_section form (in_domain.Action action) = record form { actions = form.actions ++ action ∷ [] }
with_section form (in_domain.Constraints constraints) = record form { constraints = constraints }

abbrev pub with_sections : DomainForm → List DomainSection → DomainForm
with_sections form [] = form
with_sections form (s ∷ ss) = with_sections (with_section form s) ss

abbrev pub in_domain_text : Place → List Sexp → Read DomainForm
in_domain_text place [] = rejected (Expected place) []
in_domain_text place (head ∷ []) = rejected (misfit_group place (head ∷ [])) []
in_domain_text place (head ∷ second ∷ rest) =
    behind (unlike (codes "define") head)
    (over_two (λ name ss. with_sections (bare_domain name) ss) (title (codes "domain") second) (domain_sections [] rest))

-- `(define (domain N) ..)`
abbrev pub domain_text : Sexp → Read DomainForm
domain_text tree = bracket in_domain_text tree

abbrev pub domain : List Sexp → Read DomainForm
domain trees = only domain_text trees

-- ---- problems

abbrev pub bare_problem : Ident → ProblemParts
bare_problem name = record { name = name; domain = None; objects = []; init = []; goal = None; constraints = constraint.And []; metric = None }

abbrev pub put_section : ProblemParts → ProblemSection → ProblemParts
put_section parts in_problem.Requirements = parts
put_section parts (in_problem.Domain name) = record parts { domain = Some name }
put_section parts (in_problem.Objects objects) = record parts { objects = objects }
put_section parts (in_problem.Init init) = record parts { init = init }
put_section parts (in_problem.Goal goal) = record parts { goal = Some goal }
put_section parts (in_problem.Constraints constraints) = record parts { constraints = constraints }
put_section parts (in_problem.Metric metric) = record parts { metric = Some metric }

abbrev pub put_sections : ProblemParts → List ProblemSection → ProblemParts
put_sections parts [] = parts
put_sections parts (s ∷ ss) = put_sections (put_section parts s) ss

abbrev pub complete : Place → Option Ident → Option RawFormula → ProblemParts → Read ProblemForm
complete place (Some domain) (Some goal) parts =
    parsed (record { name = parts.name; domain = domain; objects = parts.objects; init = parts.init; goal = goal; constraints = parts.constraints; metric = parts.metric })
complete place _ _ parts = rejected (Expected place) []

-- a problem has its domain and its goal
abbrev pub whole : Place → Read ProblemParts → Read ProblemForm
whole place (parsed parts) = complete place parts.domain parts.goal parts
whole place (rejected f fs) = rejected f fs

abbrev pub lacks_section : List Sexp → Bool
lacks_section rest = not (has_section (codes "domain") rest) || not (has_section (codes "goal") rest)

abbrev pub in_problem_text : Place → List Sexp → Read ProblemForm
in_problem_text place [] = rejected (Expected place) []
in_problem_text place (head ∷ []) = rejected (misfit_group place (head ∷ [])) []
in_problem_text place (head ∷ second ∷ rest) =
    behind (short (lacks_section rest) place (head ∷ second ∷ rest))
    (behind (unlike (codes "define") head)
    (whole place (over_two (λ name ss. put_sections (bare_problem name) ss) (title (codes "problem") second) (problem_sections [] rest))))

-- `(define (problem N) ..)`
abbrev pub problem_text : Sexp → Read ProblemForm
problem_text tree = bracket in_problem_text tree

abbrev pub problem : List Sexp → Read ProblemForm
problem trees = only problem_text trees
