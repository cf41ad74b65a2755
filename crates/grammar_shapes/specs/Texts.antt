-- Which bracket trees spell which domain and which problem.
use Rattle.std.specs.Prelude.{ℕ, ◌≢◌, List, [], ◌∷◌, Option, Some, None, codes, unwrap_or}
use Rattle.up_text.specs.declared.place.Place.{Place}
use Rattle.up_text.specs.Lists.{Member}
use Rattle.pddl_lex.specs.declared.tree.TokenKind.TheVariants as kind
use Rattle.pddl_lex.specs.declared.tree.Sexp.{Sexp, Group}
use Rattle.pddl_parse.specs.declared.raw.Ident.{Ident}
use Rattle.pddl_parse.specs.declared.raw.RawGroup.{RawGroup}
use Rattle.pddl_parse.specs.declared.raw.RawSymbol.{RawSymbol}
use Rattle.pddl_parse.specs.declared.raw.RawFunctions.{RawFunctions}
use Rattle.pddl_parse.specs.declared.raw.RawAction.{RawAction}
use Rattle.pddl_parse.specs.declared.raw.RawInit.{RawInit}
use Rattle.pddl_parse.specs.declared.raw.RawFormula.{RawFormula}
use Rattle.pddl_parse.specs.declared.raw.RawConstraint.{RawConstraint}
use Rattle.pddl_parse.specs.declared.raw.RawConstraint as constraint
use Rattle.pddl_parse.specs.declared.raw.RawMetric.{RawMetric}
use Rattle.pddl_parse.specs.declared.raw.DomainForm.{DomainForm}
use Rattle.pddl_parse.specs.declared.raw.ProblemForm.{ProblemForm}
use Rattle.pddl_parse.specs.declared.section.DomainSection.{DomainSection}
use Rattle.pddl_parse.specs.declared.section.DomainSection.TheVariants as in_domain
use Rattle.pddl_parse.specs.declared.section.ProblemSection.{ProblemSection}
use Rattle.pddl_parse.specs.declared.section.ProblemSection.TheVariants as in_problem
use Rattle.pddl_parse.specs.Forms.{leaf, IsIdent}
use Rattle.grammar_shapes.specs.Sections.{AreDomainSections, AreProblemSections, AtMostOnce}

-- the bracket `(word N)` that names a text
pub data IsTitle : List ℕ → Sexp → Ident → Type 0 where
  a_title : (word : List ℕ) (place at : Place) (tree : Sexp) (name : Ident)
      → IsIdent tree name → IsTitle word (Group place (leaf (kind.Word word) at ∷ tree ∷ [])) name

-- what a section of this kind says, if one of the sections is such
pub data Says {A S : Type 0} (kind : A → S) (sections : List S) : Option A → Type 0 where
  said : (a : A) → Member (kind a) sections → Says kind sections (Some a)
  unsaid : ((a : A) → ¬ Member (kind a) sections) → Says kind sections None

-- the actions, in their order
abbrev pub actions_of : List DomainSection → List RawAction
actions_of [] = []
actions_of (in_domain.Action a ∷ sections) = a ∷ actions_of sections
actions_of (_ ∷ sections) = actions_of sections

-- `(define (domain N) ..)`: a section that is left out is empty, and only `:action` may be repeated
pub data IsDomain : List Sexp → DomainForm → Type 0 where
  a_domain : (place at : Place) (title : Sexp) (name : Ident) (trees : List Sexp) (sections : List DomainSection)
      (types constants : Option (List RawGroup)) (predicates : Option (List RawSymbol)) (functions : Option (List RawFunctions))
      (constraints : Option RawConstraint)
      → IsTitle (codes "domain") title name
      → AreDomainSections trees sections
      → ((word : List ℕ) → word ≢ codes "action" → AtMostOnce word trees)
      → Says in_domain.Types sections types
      → Says in_domain.Constants sections constants
      → Says in_domain.Predicates sections predicates
      → Says in_domain.Functions sections functions
      → Says in_domain.Constraints sections constraints
      → IsDomain (Group place (leaf (kind.Word (codes "define")) at ∷ title ∷ trees) ∷ []) (record {
        name = name;
        types = unwrap_or types [];
        constants = unwrap_or constants [];
        predicates = unwrap_or predicates [];
        functions = unwrap_or functions [];
        actions = actions_of sections;
        constraints = unwrap_or constraints (constraint.And []);
      })

-- `(define (problem N) ..)`: `:domain` and `:goal` are there, another section that is left out is empty, and none is repeated
pub data IsProblem : List Sexp → ProblemForm → Type 0 where
  a_problem : (place at : Place) (title : Sexp) (name : Ident) (trees : List Sexp) (sections : List ProblemSection)
      (domain : Ident) (objects : Option (List RawGroup)) (init : Option (List RawInit)) (goal : RawFormula)
      (constraints : Option RawConstraint) (metric : Option RawMetric)
      → IsTitle (codes "problem") title name
      → AreProblemSections trees sections
      → ((word : List ℕ) → AtMostOnce word trees)
      → Says in_problem.Domain sections (Some domain)
      → Says in_problem.Objects sections objects
      → Says in_problem.Init sections init
      → Says in_problem.Goal sections (Some goal)
      → Says in_problem.Constraints sections constraints
      → Says in_problem.Metric sections metric
      → IsProblem (Group place (leaf (kind.Word (codes "define")) at ∷ title ∷ trees) ∷ []) (record {
        name = name;
        domain = domain;
        objects = unwrap_or objects [];
        init = unwrap_or init [];
        goal = goal;
        constraints = unwrap_or constraints (constraint.And []);
        metric = metric;
      })

-- trees that spell some domain
pub record HasDomainForm (trees : List Sexp) : Type 0 where
  pub form : DomainForm
  pub is : IsDomain trees form

-- trees that spell some problem
pub record HasProblemForm (trees : List Sexp) : Type 0 where
  pub form : ProblemForm
  pub is : IsProblem trees form
