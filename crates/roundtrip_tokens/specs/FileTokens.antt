-- The kinds of the tokens of the written domain and problem.
use Rattle.std.specs.Prelude.{ℕ, ◌+◌, Bool, true, ◌||◌, if◌then◌else◌, Option, None, Some, List, [], ◌∷◌, ◌++◌, flat_map, map, codes, decimal, take, drop}
use Rattle.up_text.specs.declared.name.Name.{Name}
use Rattle.up_tree.specs.declared.problem.Predicate.{Predicate}
use Rattle.up_tree.specs.declared.problem.Function.{Function}
use Rattle.up_tree.specs.declared.problem.Fact.{Fact}
use Rattle.up_tree.specs.declared.problem.NumberFact.{NumberFact}
use Rattle.up_tree.specs.declared.problem.ValueFact.{ValueFact}
use Rattle.up_tree.specs.declared.problem.Metric.{Metric}
use Rattle.up_tree.specs.declared.problem.Constraint.{Constraint}
use Rattle.up_tree.specs.declared.problem.Parts.{Parts}
use Rattle.up_kind.specs.declared.feature.Feature.TheVariants.{FlatTyping, HierarchicalTyping, NegativeConditions, DisjunctiveConditions, Equalities, ExistentialConditions, UniversalConditions, ConditionalEffects, ForallEffects, ObjectFluents, NumericFluents, TrajectoryConstraints}
use Rattle.up_kind.specs.Features.{FeatureSet}
use Rattle.up_kind.specs.Carried.{carries}
use Rattle.pddl_lex.specs.declared.tree.Sign.TheVariants.{Same}
use Rattle.pddl_lex.specs.declared.tree.TokenKind.{TokenKind}
use Rattle.pddl_lex.specs.declared.tree.TokenKind.TheVariants.{Word, Variable, Keyword, Number, Sign}
use Rattle.pddl_write.specs.Files.{gives_text, declares_type}
use Rattle.roundtrip_tokens.specs.Tokens.{group, type_tokens, object_tokens, expr_tokens, formula_tokens}
use Rattle.roundtrip_tokens.specs.EffectTokens.{action_tokens, constraints_tokens}

-- a section, which is left out where it has no member
abbrev pub section_tokens : {X : Type 0} → List ℕ → (X → List TokenKind) → List X → List TokenKind
section_tokens word tokens [] = []
section_tokens word tokens (x ∷ xs) = group (Keyword word ∷ flat_map tokens (x ∷ xs))

-- `define`, the sort and the name of the text
abbrev pub define_tokens : List ℕ → Name → List TokenKind
define_tokens sort name = Word (codes "define") ∷ group (Word sort ∷ Word name ∷ [])

-- ---- the domain

abbrev pub keyword_if : Bool → List ℕ → List TokenKind
keyword_if carried word = if carried then Keyword word ∷ [] else []

abbrev pub requirements_tokens : FeatureSet → List TokenKind
requirements_tokens f =
    group (
    Keyword (codes "requirements") ∷ Keyword (codes "strips") ∷ []
    ++ keyword_if (f FlatTyping || f HierarchicalTyping) (codes "typing")
    ++ keyword_if (f NegativeConditions) (codes "negative-preconditions")
    ++ keyword_if (f DisjunctiveConditions) (codes "disjunctive-preconditions")
    ++ keyword_if (f Equalities) (codes "equality")
    ++ keyword_if (f ExistentialConditions) (codes "existential-preconditions")
    ++ keyword_if (f UniversalConditions) (codes "universal-preconditions")
    ++ keyword_if (f ConditionalEffects || f ForallEffects) (codes "conditional-effects")
    ++ keyword_if (f NumericFluents) (codes "numeric-fluents")
    ++ keyword_if (f ObjectFluents) (codes "object-fluents")
    ++ keyword_if (f TrajectoryConstraints) (codes "constraints")
    )

-- the variables of a declaration, numbered from the given number on
abbrev pub declared_tokens : Bool → ℕ → List Name → List TokenKind
declared_tokens typed k [] = []
declared_tokens typed k (of ∷ types) = Variable (codes "x" ++ decimal k) ∷ type_tokens typed of ++ declared_tokens typed (k + 1) types

abbrev pub signature_tokens : Bool → Name → List Name → List TokenKind
signature_tokens typed name args = group (Word name ∷ declared_tokens typed 1 args)

abbrev pub predicate_tokens : Bool → Predicate → List TokenKind
predicate_tokens typed d = signature_tokens typed d.name d.args

-- what a function gives is written where an object function is declared
abbrev pub function_tokens : Bool → Bool → Function → List TokenKind
function_tokens typed given d = signature_tokens typed d.name d.args ++ type_tokens given (gives_text d.gives)

-- for a problem with these features
abbrev pub domain_tokens_with : FeatureSet → Parts → List TokenKind
domain_tokens_with f p =
    group (
    define_tokens (codes "domain") p.domain
    ++ requirements_tokens f
    ++ section_tokens (codes "types") (object_tokens true) p.types
    ++ section_tokens (codes "constants") (object_tokens (f FlatTyping)) (take p.constants p.objects)
    ++ section_tokens (codes "predicates") (predicate_tokens (f FlatTyping)) p.predicates
    ++ section_tokens (codes "functions") (function_tokens (f FlatTyping) (f ObjectFluents)) p.functions
    ++ flat_map (action_tokens (f FlatTyping)) p.actions
    )

unfoldable pub domain_tokens : Parts → List TokenKind
domain_tokens p = domain_tokens_with (carries p) p

-- ---- the problem

-- a predicate or a function at objects
abbrev pub ground_tokens : Name → List Name → List TokenKind
ground_tokens name args = group (Word name ∷ map Word args)

abbrev pub fact_tokens : Fact → List TokenKind
fact_tokens x = ground_tokens x.predicate x.args

abbrev pub number_fact_tokens : NumberFact → List TokenKind
number_fact_tokens x = group (Sign Same ∷ ground_tokens x.function x.args ++ Number x.value ∷ [])

abbrev pub value_fact_tokens : ValueFact → List TokenKind
value_fact_tokens x = group (Sign Same ∷ ground_tokens x.function x.args ++ Word x.value ∷ [])

abbrev pub init_tokens : Parts → List TokenKind
init_tokens p =
    group (
    Keyword (codes "init") ∷ flat_map fact_tokens p.atoms ++ flat_map number_fact_tokens p.numbers ++ flat_map value_fact_tokens p.values
    )

abbrev pub constraint_section : Bool → List Constraint → List TokenKind
constraint_section typed [] = []
constraint_section typed (c ∷ cs) = constraints_tokens typed (c ∷ cs)

abbrev pub metric_tokens : Option Metric → List TokenKind
metric_tokens None = []
metric_tokens (Some m) = group (Keyword (codes "metric") ∷ Word (if m.minimize then codes "minimize" else codes "maximize") ∷ expr_tokens m.value)

-- for a problem that declares a type or not
abbrev pub problem_tokens_with : Bool → Parts → List TokenKind
problem_tokens_with typed p =
    group (
    define_tokens (codes "problem") p.name
    ++ group (Keyword (codes "domain") ∷ Word p.domain ∷ [])
    ++ section_tokens (codes "objects") (object_tokens typed) (drop p.constants p.objects)
    ++ init_tokens p
    ++ group (Keyword (codes "goal") ∷ formula_tokens typed p.goal)
    ++ constraint_section typed p.constraints
    ++ metric_tokens p.metric
    )

unfoldable pub problem_tokens : Parts → List TokenKind
problem_tokens p = problem_tokens_with (declares_type p) p
