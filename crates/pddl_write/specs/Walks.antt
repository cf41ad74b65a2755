-- The pieces that are still to be written.
use Rattle.std.specs.Prelude.{ℕ, List}
use Rattle.up_kind.specs.Features.{has}
use Rattle.pddl_write.specs.declared.domain.DomainSteps.{DomainSteps}
use Rattle.pddl_write.specs.declared.problem.ProblemSteps.{ProblemSteps}
use Rattle.pddl_write.specs.Rests.{domain_rest, problem_rest}

abbrev pub domain_left : DomainSteps → List (List ℕ)
domain_left s = domain_rest (has s.kind.0) s.parts.now s.place

abbrev pub problem_left : ProblemSteps → List (List ℕ)
problem_left s = problem_rest s.typed s.parts.now s.place
