-- What is still to be written at a place of a text.
use Rattle.std.specs.Prelude.{ℕ, Bool, true, List, [], ◌∷◌, codes, take, drop}
use Rattle.up_kind.specs.Features.{FeatureSet}
use Rattle.up_kind.specs.declared.feature.Feature.TheVariants.{FlatTyping, ObjectFluents}
use Rattle.up_tree.specs.declared.problem.Parts.{Parts}
use Rattle.pddl_write.specs.declared.domain.DomainPlace.{DomainPlace}
use Rattle.pddl_write.specs.declared.domain.DomainPlace.TheVariants as domain
use Rattle.pddl_write.specs.declared.problem.ProblemPlace.{ProblemPlace}
use Rattle.pddl_write.specs.declared.problem.ProblemPlace.TheVariants as problem
use Rattle.pddl_write.specs.Phrases.{object_text}
use Rattle.pddl_write.specs.Files.{members, each, last_line, requirements_text, predicate_text, function_text, action_lines, from_functions, from_predicates, from_constants, from_types, domain_pieces_with, fact_text, number_fact_text, value_fact_text, from_metric, from_constraints, from_goal, from_values, from_numbers, from_init, from_objects, domain_line, problem_pieces_with}

-- the pieces of the domain from a place on
abbrev pub domain_rest : FeatureSet → Parts → DomainPlace → List (List ℕ)
domain_rest f p domain.Define = domain_pieces_with f p
domain_rest f p domain.Requirements = requirements_text f ∷ from_types f p
domain_rest f p domain.Types = codes "(:types" ∷ members (object_text true) p.types (from_constants f p)
domain_rest f p (domain.Type ts) = members (object_text true) ts.now (from_constants f p)
domain_rest f p domain.Constants = codes "(:constants" ∷ members (object_text (f FlatTyping)) (take p.constants p.objects) (from_predicates f p)
domain_rest f p (domain.Constant os) = members (object_text (f FlatTyping)) os.now (from_predicates f p)
domain_rest f p domain.Predicates = codes "(:predicates" ∷ members (predicate_text (f FlatTyping)) p.predicates (from_functions f p)
domain_rest f p (domain.Predicate ds) = members (predicate_text (f FlatTyping)) ds.now (from_functions f p)
domain_rest f p domain.Functions = codes "(:functions" ∷ members (function_text (f FlatTyping) (f ObjectFluents)) p.functions (action_lines f p.actions)
domain_rest f p (domain.Function ds) = members (function_text (f FlatTyping) (f ObjectFluents)) ds.now (action_lines f p.actions)
domain_rest f p (domain.Action actions) = action_lines f actions.now
domain_rest f p domain.Done = []

-- the pieces of the problem from a place on
abbrev pub problem_rest : Bool → Parts → ProblemPlace → List (List ℕ)
problem_rest typed p problem.Define = problem_pieces_with typed p
problem_rest typed p problem.Domain = domain_line p ∷ from_objects typed p
problem_rest typed p problem.Objects = codes "(:objects" ∷ members (object_text typed) (drop p.constants p.objects) (from_init typed p)
problem_rest typed p (problem.Object os) = members (object_text typed) os.now (from_init typed p)
problem_rest typed p problem.Init = from_init typed p
problem_rest typed p (problem.Atom facts) = each fact_text facts.now (from_numbers typed p)
problem_rest typed p (problem.Number facts) = each number_fact_text facts.now (from_values typed p)
problem_rest typed p (problem.Value facts) = members value_fact_text facts.now (from_goal typed p)
problem_rest typed p problem.Goal = from_goal typed p
problem_rest typed p problem.Constraints = from_constraints typed p.constraints p.metric
problem_rest typed p problem.Metric = from_metric p.metric
problem_rest typed p problem.End = last_line
problem_rest typed p problem.Done = []
