-- The written domain and problem as lists of pieces, and as texts.
use Rattle.std.specs.Prelude.{ℕ, ◌+◌, Bool, true, ◌||◌, not as flip, if◌then◌else◌, Option, None, Some, List, [], ◌∷◌, ◌++◌, codes, decimal, take, drop}
use Rattle.std.specs.List.{concat}
use Rattle.up_text.specs.declared.name.Name.{Name}
use Rattle.up_tree.specs.declared.action.Action.{Action}
use Rattle.up_tree.specs.declared.problem.Predicate.{Predicate}
use Rattle.up_tree.specs.declared.problem.Function.{Function}
use Rattle.up_tree.specs.declared.problem.Gives.{Gives}
use Rattle.up_tree.specs.declared.problem.Gives.TheVariants.{Number, Object}
use Rattle.up_tree.specs.declared.problem.Fact.{Fact}
use Rattle.up_tree.specs.declared.problem.NumberFact.{NumberFact}
use Rattle.up_tree.specs.declared.problem.ValueFact.{ValueFact}
use Rattle.up_tree.specs.declared.problem.Metric.{Metric}
use Rattle.up_tree.specs.declared.problem.Constraint.{Constraint}
use Rattle.up_tree.specs.declared.problem.Parts.{Parts}
use Rattle.up_kind.specs.declared.feature.Feature.TheVariants.{FlatTyping, HierarchicalTyping, NegativeConditions, DisjunctiveConditions, Equalities, ExistentialConditions, UniversalConditions, ConditionalEffects, ForallEffects, ObjectFluents, NumericFluents, TrajectoryConstraints}
use Rattle.up_tree.specs.Simplify.{is_empty}
use Rattle.up_kind.specs.Features.{FeatureSet}
use Rattle.up_kind.specs.Carried.{carries}
use Rattle.pddl_write.specs.Numbers.{number_text}
use Rattle.up_line.specs.Spaced.{spaced}
use Rattle.pddl_write.specs.Phrases.{type_text, object_text, expr_text, formula_text}
use Rattle.pddl_write.specs.Effects.{action_text, constraints_text}

-- ---- sections

-- each member as a piece with its leading space, then what follows
abbrev pub each : {X : Type 0} → (X → List ℕ) → List X → List (List ℕ) → List (List ℕ)
each text [] rest = rest
each text (x ∷ xs) rest = (codes " " ++ text x) ∷ each text xs rest

-- the members and the closing bracket, then what follows
abbrev pub members : {X : Type 0} → (X → List ℕ) → List X → List (List ℕ) → List (List ℕ)
members text xs rest = each text xs (codes ")\n" ∷ rest)

-- a section, which is left out where it has no member, then what follows
abbrev pub section : {X : Type 0} → List ℕ → (X → List ℕ) → List X → List (List ℕ) → List (List ℕ)
section head text [] rest = rest
section head text (x ∷ xs) rest = head ∷ members text (x ∷ xs) rest

-- ---- the domain

abbrev pub word_if : Bool → List ℕ → List ℕ
word_if carried word = if carried then word else []

abbrev pub requirements_text : FeatureSet → List ℕ
requirements_text f =
    codes "(:requirements :strips"
    ++ word_if (f FlatTyping || f HierarchicalTyping) (codes " :typing")
    ++ word_if (f NegativeConditions) (codes " :negative-preconditions")
    ++ word_if (f DisjunctiveConditions) (codes " :disjunctive-preconditions")
    ++ word_if (f Equalities) (codes " :equality")
    ++ word_if (f ExistentialConditions) (codes " :existential-preconditions")
    ++ word_if (f UniversalConditions) (codes " :universal-preconditions")
    ++ word_if (f ConditionalEffects || f ForallEffects) (codes " :conditional-effects")
    ++ word_if (f NumericFluents) (codes " :numeric-fluents")
    ++ word_if (f ObjectFluents) (codes " :object-fluents")
    ++ word_if (f TrajectoryConstraints) (codes " :constraints")
    ++ codes ")\n"

-- the variables of a declaration, numbered from the given number on
abbrev pub declared_text : Bool → ℕ → List Name → List ℕ
declared_text typed k [] = []
declared_text typed k (of ∷ types) = codes " ?x" ++ decimal k ++ type_text typed of ++ declared_text typed (k + 1) types

abbrev pub signature_text : Bool → Name → List Name → List ℕ
signature_text typed name args = codes "(" ++ name ++ declared_text typed 1 args ++ codes ")"

abbrev pub predicate_text : Bool → Predicate → List ℕ
predicate_text typed d = signature_text typed d.name d.args

abbrev pub gives_text : Gives → List ℕ
gives_text Number = codes "number"
gives_text (Object of) = of

-- what a function gives is written where an object function is declared
abbrev pub function_text : Bool → Bool → Function → List ℕ
function_text typed given d = signature_text typed d.name d.args ++ type_text given (gives_text d.gives)

abbrev pub action_lines : FeatureSet → List Action → List (List ℕ)
action_lines f [] = codes ")\n" ∷ []
action_lines f (a ∷ actions) = action_text (f FlatTyping) a ∷ action_lines f actions

abbrev pub from_functions : FeatureSet → Parts → List (List ℕ)
from_functions f p = section (codes "(:functions") (function_text (f FlatTyping) (f ObjectFluents)) p.functions (action_lines f p.actions)

abbrev pub from_predicates : FeatureSet → Parts → List (List ℕ)
from_predicates f p = section (codes "(:predicates") (predicate_text (f FlatTyping)) p.predicates (from_functions f p)

abbrev pub from_constants : FeatureSet → Parts → List (List ℕ)
from_constants f p = section (codes "(:constants") (object_text (f FlatTyping)) (take p.constants p.objects) (from_predicates f p)

abbrev pub from_types : FeatureSet → Parts → List (List ℕ)
from_types f p = section (codes "(:types") (object_text true) p.types (from_constants f p)

abbrev pub define_domain : Parts → List ℕ
define_domain p = codes "(define (domain " ++ p.domain ++ codes ")\n"

-- the pieces for a problem with these features
abbrev pub domain_pieces_with : FeatureSet → Parts → List (List ℕ)
domain_pieces_with f p = define_domain p ∷ requirements_text f ∷ from_types f p

unfoldable pub pieces_of_domain : Parts → List (List ℕ)
pieces_of_domain p = domain_pieces_with (carries p) p

unfoldable pub domain_text : Parts → List ℕ
domain_text p = concat (pieces_of_domain p)

-- ---- the problem

abbrev pub name_text : Name → List ℕ
name_text name = name

-- a predicate or a function at objects
abbrev pub ground_text : Name → List Name → List ℕ
ground_text name args = codes "(" ++ name ++ spaced name_text args ++ codes ")"

abbrev pub fact_text : Fact → List ℕ
fact_text x = ground_text x.predicate x.args

abbrev pub number_fact_text : NumberFact → List ℕ
number_fact_text x = codes "(= " ++ ground_text x.function x.args ++ codes " " ++ number_text x.value ++ codes ")"

abbrev pub value_fact_text : ValueFact → List ℕ
value_fact_text x = codes "(= " ++ ground_text x.function x.args ++ codes " " ++ x.value ++ codes ")"

abbrev pub last_line : List (List ℕ)
last_line = codes ")\n" ∷ []

abbrev pub metric_text : Metric → List ℕ
metric_text m = codes "(:metric " ++ (if m.minimize then codes "minimize" else codes "maximize") ++ codes " " ++ expr_text m.value ++ codes ")\n"

abbrev pub from_metric : Option Metric → List (List ℕ)
from_metric None = last_line
from_metric (Some m) = metric_text m ∷ last_line

abbrev pub from_constraints : Bool → List Constraint → Option Metric → List (List ℕ)
from_constraints typed [] m = from_metric m
from_constraints typed (c ∷ cs) m = constraints_text typed (c ∷ cs) ∷ from_metric m

abbrev pub goal_text : Bool → Parts → List ℕ
goal_text typed p = codes "(:goal " ++ formula_text typed p.goal ++ codes ")\n"

abbrev pub from_goal : Bool → Parts → List (List ℕ)
from_goal typed p = goal_text typed p ∷ from_constraints typed p.constraints p.metric

abbrev pub from_values : Bool → Parts → List (List ℕ)
from_values typed p = members value_fact_text p.values (from_goal typed p)

abbrev pub from_numbers : Bool → Parts → List (List ℕ)
from_numbers typed p = each number_fact_text p.numbers (from_values typed p)

abbrev pub from_init : Bool → Parts → List (List ℕ)
from_init typed p = codes "(:init" ∷ each fact_text p.atoms (from_numbers typed p)

abbrev pub from_objects : Bool → Parts → List (List ℕ)
from_objects typed p = section (codes "(:objects") (object_text typed) (drop p.constants p.objects) (from_init typed p)

abbrev pub define_problem : Parts → List ℕ
define_problem p = codes "(define (problem " ++ p.name ++ codes ")\n"

abbrev pub domain_line : Parts → List ℕ
domain_line p = codes "(:domain " ++ p.domain ++ codes ")\n"

abbrev pub declares_type : Parts → Bool
declares_type p = flip (is_empty p.types)

-- the pieces for a problem that declares a type or not
abbrev pub problem_pieces_with : Bool → Parts → List (List ℕ)
problem_pieces_with typed p = define_problem p ∷ domain_line p ∷ from_objects typed p

unfoldable pub pieces_of_problem : Parts → List (List ℕ)
pieces_of_problem p = problem_pieces_with (declares_type p) p

unfoldable pub problem_text : Parts → List ℕ
problem_text p = concat (pieces_of_problem p)
