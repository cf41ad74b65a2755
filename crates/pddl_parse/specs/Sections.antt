-- Sections of the two texts.
use Rattle.std.specs.Prelude.{ℕ, Bool, true, false, ◌&&◌, ◌||◌, not, if◌then◌else◌, List, [], ◌∷◌, ◌++◌, map, drop, codes, Option, Some, None}
use Rattle.std.specs.Str.{bytes_eq}
use Rattle.up_text.specs.declared.place.Place.{Place}
use Rattle.pddl_lex.specs.Trees.{place_of}
use Rattle.pddl_lex.specs.declared.tree.TokenKind.{TokenKind}
use Rattle.pddl_lex.specs.declared.tree.TokenKind.TheVariants as kind
use Rattle.pddl_lex.specs.declared.tree.Sexp.{Sexp, Leaf, Group'}
use Rattle.pddl_lex.specs.Parses.{Parse, parsed, rejected, all, over, over_two, behind, followed}
use Rattle.pddl_parse.specs.declared.raw.Ident.{Ident}
use Rattle.pddl_parse.specs.declared.raw.RawFormula.{RawFormula}
use Rattle.pddl_parse.specs.declared.raw.RawConstraint.{RawConstraint}
use Rattle.pddl_parse.specs.declared.section.DomainKey.{DomainKey}
use Rattle.pddl_parse.specs.declared.section.DomainKey.TheVariants as domain
use Rattle.pddl_parse.specs.declared.section.DomainSection.{DomainSection}
use Rattle.pddl_parse.specs.declared.section.DomainSection.TheVariants as in_domain
use Rattle.pddl_parse.specs.declared.section.ProblemKey.{ProblemKey}
use Rattle.pddl_parse.specs.declared.section.ProblemKey.TheVariants as problem
use Rattle.pddl_parse.specs.declared.section.ProblemSection.{ProblemSection}
use Rattle.pddl_parse.specs.declared.section.ProblemSection.TheVariants as in_problem
use Rattle.pddl_parse.specs.declared.shape.ShapeError.{ShapeError}
use Rattle.pddl_parse.specs.declared.shape.ShapeError.TheVariants.{Expected, LeftOut, Duplicate}
use Rattle.pddl_parse.specs.declared.typed.Item.TheVariants as item
use Rattle.pddl_parse.specs.Shapes.{Read, misfit, ident, extra, one}
use Rattle.pddl_parse.specs.TypedLists.{typed_list}
use Rattle.pddl_parse.specs.Brackets.{bracket, has_section}
use Rattle.pddl_parse.specs.Symbols.{predicates, functions}
use Rattle.pddl_parse.specs.Actions.{action, condition}
use Rattle.pddl_parse.specs.Constraints.{whole_constraint}
use Rattle.pddl_parse.specs.Starts.{initial, metric}

-- the requirements that are known
abbrev pub is_known : List ℕ → Bool
is_known word =
    bytes_eq word (codes "strips") || bytes_eq word (codes "typing") || bytes_eq word (codes "negative-preconditions") ||
    bytes_eq word (codes "disjunctive-preconditions") || bytes_eq word (codes "equality") || bytes_eq word (codes "existential-preconditions") ||
    bytes_eq word (codes "universal-preconditions") || bytes_eq word (codes "quantified-preconditions") ||
    bytes_eq word (codes "conditional-effects") || bytes_eq word (codes "fluents") || bytes_eq word (codes "numeric-fluents") ||
    bytes_eq word (codes "object-fluents") || bytes_eq word (codes "adl") || bytes_eq word (codes "action-costs") || bytes_eq word (codes "constraints")

abbrev pub keyword_kind : TokenKind → Option (List ℕ)
keyword_kind (kind.Keyword word) = Some word
keyword_kind _ = None

-- the word of a keyword
unfoldable pub keyword_of : Sexp → Option (List ℕ)
keyword_of (Leaf token) = keyword_kind token.kind
keyword_of (Group' place n row) = None

abbrev pub refusal : Option (List ℕ) → Sexp → List ShapeError
refusal (Some word) tree = if is_known word then [] else LeftOut (place_of tree) ∷ []
refusal None tree = misfit tree ∷ []

abbrev pub requirements : {A : Type 0} → A → List Sexp → Read A
requirements whole [] = parsed whole
requirements whole (tree ∷ rest) = behind (refusal (keyword_of tree) tree) (requirements whole rest)

-- what stands alone in a section
abbrev pub alone : {A : Type 0} → Place → (Sexp → Read A) → List Sexp → Read A
alone place f rest = followed (one place (map f rest)) (extra (drop 1 rest))

-- ---- the domain's

abbrev pub domain_key : List ℕ → Option DomainKey
domain_key word =
    if bytes_eq word (codes "requirements") then Some domain.Requirements else
    if bytes_eq word (codes "types") then Some domain.Types else
    if bytes_eq word (codes "constants") then Some domain.Constants else
    if bytes_eq word (codes "predicates") then Some domain.Predicates else
    if bytes_eq word (codes "functions") then Some domain.Functions else
    if bytes_eq word (codes "action") then Some domain.Action else
    if bytes_eq word (codes "constraints") then Some domain.Constraints else None

-- a section that may stand once
abbrev pub stands_once : DomainKey → Bool
stands_once domain.Action = false
stands_once _ = true

abbrev pub domain_body : DomainKey → Place → List Sexp → Read DomainSection
domain_body domain.Requirements place rest = requirements in_domain.Requirements rest
domain_body domain.Types place rest = over in_domain.Types (typed_list item.Name place rest)
domain_body domain.Constants place rest = over in_domain.Constants (typed_list item.Name place rest)
domain_body domain.Predicates place rest = over in_domain.Predicates (predicates rest)
domain_body domain.Functions place rest = over in_domain.Functions (functions place rest)
domain_body domain.Action place rest = over in_domain.Action (action place rest)
domain_body domain.Constraints place rest = over in_domain.Constraints (alone place whole_constraint rest)

abbrev pub domain_known : Option DomainKey → List ℕ → List Sexp → Place → List Sexp → Read DomainSection
domain_known None word before place rest = rejected (LeftOut place) []
domain_known (Some key) word before place rest =
    if stands_once key && has_section word before then rejected (Duplicate place) [] else domain_body key place rest

abbrev pub domain_named : Option (List ℕ) → List Sexp → Place → Sexp → List Sexp → Read DomainSection
domain_named None before place head rest = rejected (misfit head) []
domain_named (Some word) before place head rest = domain_known (domain_key word) word before place rest

abbrev pub in_domain_section : List Sexp → Place → List Sexp → Read DomainSection
in_domain_section before place [] = rejected (Expected place) []
in_domain_section before place (head ∷ rest) = domain_named (keyword_of head) before place head rest

-- a section behind others
abbrev pub domain_section : List Sexp → Sexp → Read DomainSection
domain_section before tree = bracket (in_domain_section before) tree

-- sections behind others
abbrev pub domain_sections : List Sexp → List Sexp → Read (List DomainSection)
domain_sections before [] = parsed []
domain_sections before (tree ∷ rest) = over_two (λ s ss. s ∷ ss) (domain_section before tree) (domain_sections (before ++ tree ∷ []) rest)

-- ---- the problem's

abbrev pub problem_key : List ℕ → Option ProblemKey
problem_key word =
    if bytes_eq word (codes "domain") then Some problem.Domain else
    if bytes_eq word (codes "requirements") then Some problem.Requirements else
    if bytes_eq word (codes "objects") then Some problem.Objects else
    if bytes_eq word (codes "init") then Some problem.Init else
    if bytes_eq word (codes "goal") then Some problem.Goal else
    if bytes_eq word (codes "constraints") then Some problem.Constraints else
    if bytes_eq word (codes "metric") then Some problem.Metric else None

abbrev pub problem_body : ProblemKey → Place → List Sexp → Read ProblemSection
problem_body problem.Domain place rest = over in_problem.Domain (alone place ident rest)
problem_body problem.Requirements place rest = requirements in_problem.Requirements rest
problem_body problem.Objects place rest = over in_problem.Objects (typed_list item.Name place rest)
problem_body problem.Init place rest = over in_problem.Init (all (map initial rest))
problem_body problem.Goal place rest = over in_problem.Goal (alone place condition rest)
problem_body problem.Constraints place rest = over in_problem.Constraints (alone place whole_constraint rest)
problem_body problem.Metric place rest = over in_problem.Metric (metric place rest)

abbrev pub problem_known : Option ProblemKey → List ℕ → List Sexp → Place → List Sexp → Read ProblemSection
problem_known None word before place rest = rejected (LeftOut place) []
problem_known (Some key) word before place rest =
    if has_section word before then rejected (Duplicate place) [] else problem_body key place rest

abbrev pub problem_named : Option (List ℕ) → List Sexp → Place → Sexp → List Sexp → Read ProblemSection
problem_named None before place head rest = rejected (misfit head) []
problem_named (Some word) before place head rest = problem_known (problem_key word) word before place rest

abbrev pub in_problem_section : List Sexp → Place → List Sexp → Read ProblemSection
in_problem_section before place [] = rejected (Expected place) []
in_problem_section before place (head ∷ rest) = problem_named (keyword_of head) before place head rest

abbrev pub problem_section : List Sexp → Sexp → Read ProblemSection
problem_section before tree = bracket (in_problem_section before) tree

abbrev pub problem_sections : List Sexp → List Sexp → Read (List ProblemSection)
problem_sections before [] = parsed []
problem_sections before (tree ∷ rest) = over_two (λ s ss. s ∷ ss) (problem_section before tree) (problem_sections (before ++ tree ∷ []) rest)
