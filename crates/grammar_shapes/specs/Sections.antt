-- Which bracket trees spell which sections of the two texts.
use Rattle.std.specs.Prelude.{ℕ, ⊤, List, [], ◌∷◌, codes}
use Rattle.up_text.specs.declared.place.Place.{Place}
use Rattle.up_text.specs.Lists.{Every, Member}
use Rattle.pddl_lex.specs.declared.tree.TokenKind.TheVariants as kind
use Rattle.pddl_lex.specs.declared.tree.Sexp.{Sexp, Group}
use Rattle.pddl_parse.specs.declared.raw.Ident.{Ident}
use Rattle.pddl_parse.specs.declared.raw.RawGroup.{RawGroup}
use Rattle.pddl_parse.specs.declared.raw.RawSymbol.{RawSymbol}
use Rattle.pddl_parse.specs.declared.raw.RawFunctions.{RawFunctions}
use Rattle.pddl_parse.specs.declared.raw.RawAction.{RawAction}
use Rattle.pddl_parse.specs.declared.raw.RawInit.{RawInit}
use Rattle.pddl_parse.specs.declared.raw.RawFormula.{RawFormula}
use Rattle.pddl_parse.specs.declared.raw.RawConstraint.{RawConstraint}
use Rattle.pddl_parse.specs.declared.raw.RawMetric.{RawMetric}
use Rattle.pddl_parse.specs.declared.section.DomainSection.{DomainSection}
use Rattle.pddl_parse.specs.declared.section.DomainSection.TheVariants as in_domain
use Rattle.pddl_parse.specs.declared.section.ProblemSection.{ProblemSection}
use Rattle.pddl_parse.specs.declared.section.ProblemSection.TheVariants as in_problem
use Rattle.pddl_parse.specs.Forms.{leaf, IsIdent}
use Rattle.grammar_shapes.specs.Lists.{AreListed}
use Rattle.grammar_shapes.specs.Symbols.{ArePredicates, AreFunctions}
use Rattle.grammar_shapes.specs.Starts.{AreInits, IsMetric}
use Rattle.grammar_shapes.specs.Actions.{IsCondition, IsAction}
use Rattle.grammar_shapes.specs.Constraints.{IsWholeConstraint}

-- the bracket `(:word ..)`
abbrev pub section : List ℕ → Place → Place → List Sexp → Sexp
section word place at trees = Group place (leaf (kind.Keyword word) at ∷ trees)

-- the words of the requirements that are known
abbrev pub known_requirements : List (List ℕ)
known_requirements =
    codes "strips" ∷ codes "typing" ∷ codes "negative-preconditions" ∷ codes "disjunctive-preconditions" ∷ codes "equality" ∷
    codes "existential-preconditions" ∷ codes "universal-preconditions" ∷ codes "quantified-preconditions" ∷ codes "conditional-effects" ∷
    codes "fluents" ∷ codes "numeric-fluents" ∷ codes "object-fluents" ∷ codes "adl" ∷ codes "action-costs" ∷ codes "constraints" ∷ []

-- a requirement that is known
pub data IsRequirement : Sexp → Type 0 where
  requirement : (word : List ℕ) (place : Place) → Member word known_requirements → IsRequirement (leaf (kind.Keyword word) place)

-- requirements, which are known and not enforced
abbrev pub AreRequirements : List Sexp → Type 0
AreRequirements trees = Every IsRequirement trees

-- a section of a domain
pub data IsDomainSection : Sexp → DomainSection → Type 0 where
  requirements : (place at : Place) (trees : List Sexp)
      → AreRequirements trees → IsDomainSection (section (codes "requirements") place at trees) in_domain.Requirements
  types : (place at : Place) (trees : List Sexp) (groups : List RawGroup)
      → AreListed trees groups → IsDomainSection (section (codes "types") place at trees) (in_domain.Types groups)
  constants : (place at : Place) (trees : List Sexp) (groups : List RawGroup)
      → AreListed trees groups → IsDomainSection (section (codes "constants") place at trees) (in_domain.Constants groups)
  predicates : (place at : Place) (trees : List Sexp) (symbols : List RawSymbol)
      → ArePredicates trees symbols → IsDomainSection (section (codes "predicates") place at trees) (in_domain.Predicates symbols)
  functions : (place at : Place) (trees : List Sexp) (groups : List RawFunctions)
      → AreFunctions trees groups → IsDomainSection (section (codes "functions") place at trees) (in_domain.Functions groups)
  action : (place at : Place) (trees : List Sexp) (a : RawAction)
      → IsAction trees a → IsDomainSection (section (codes "action") place at trees) (in_domain.Action a)
  constraints : (place at : Place) (tree : Sexp) (c : RawConstraint)
      → IsWholeConstraint tree c → IsDomainSection (section (codes "constraints") place at (tree ∷ [])) (in_domain.Constraints c)

-- a section of a problem
pub data IsProblemSection : Sexp → ProblemSection → Type 0 where
  domain : (place at : Place) (tree : Sexp) (name : Ident)
      → IsIdent tree name → IsProblemSection (section (codes "domain") place at (tree ∷ [])) (in_problem.Domain name)
  problem_requirements : (place at : Place) (trees : List Sexp)
      → AreRequirements trees → IsProblemSection (section (codes "requirements") place at trees) in_problem.Requirements
  objects : (place at : Place) (trees : List Sexp) (groups : List RawGroup)
      → AreListed trees groups → IsProblemSection (section (codes "objects") place at trees) (in_problem.Objects groups)
  init : (place at : Place) (trees : List Sexp) (members : List RawInit)
      → AreInits trees members → IsProblemSection (section (codes "init") place at trees) (in_problem.Init members)
  goal : (place at : Place) (tree : Sexp) (f : RawFormula)
      → IsCondition tree f → IsProblemSection (section (codes "goal") place at (tree ∷ [])) (in_problem.Goal f)
  problem_constraints : (place at : Place) (tree : Sexp) (c : RawConstraint)
      → IsWholeConstraint tree c → IsProblemSection (section (codes "constraints") place at (tree ∷ [])) (in_problem.Constraints c)
  metric : (place at : Place) (trees : List Sexp) (m : RawMetric)
      → IsMetric trees m → IsProblemSection (section (codes "metric") place at trees) (in_problem.Metric m)

-- sections of a domain, in any order
pub data AreDomainSections : List Sexp → List DomainSection → Type 0 where
  no_sections : AreDomainSections [] []
  more_sections : (tree : Sexp) (s : DomainSection) (trees : List Sexp) (ss : List DomainSection)
      → IsDomainSection tree s → AreDomainSections trees ss → AreDomainSections (tree ∷ trees) (s ∷ ss)

-- sections of a problem, in any order
pub data AreProblemSections : List Sexp → List ProblemSection → Type 0 where
  no_problem_sections : AreProblemSections [] []
  more_problem_sections : (tree : Sexp) (s : ProblemSection) (trees : List Sexp) (ss : List ProblemSection)
      → IsProblemSection tree s → AreProblemSections trees ss → AreProblemSections (tree ∷ trees) (s ∷ ss)

-- a bracket that begins with this keyword
pub data Begins : List ℕ → Sexp → Type 0 where
  begins : (word : List ℕ) (place at : Place) (trees : List Sexp) → Begins word (section word place at trees)

-- at most one of the trees begins with this keyword
abbrev pub AtMostOnce : List ℕ → List Sexp → Type 0
AtMostOnce word [] = ⊤
AtMostOnce word (tree ∷ trees) = (Begins word tree → Every (λ other. ¬ Begins word other) trees) × AtMostOnce word trees
