use Rattle.std.proofs.Common.{◌≡◌, length}
use Rattle.pddl_parse.specs.declared.section.DomainSection.TheVariants as in_domain
use Rattle.pddl_parse.specs.declared.section.ProblemSection.TheVariants as in_problem
use Rattle.pddl_parse.specs.Sections.{requirements}
use Rattle.pddl_parse.proofs.section.requirements.Given as goal

abbrev pub invariant-reading : goal.invariant-reading
invariant-reading l = record {
  of_domain : requirements in_domain.Requirements l.items ≡ requirements in_domain.Requirements l.rest;
  of_problem : requirements in_problem.Requirements l.items ≡ requirements in_problem.Requirements l.rest;
}

abbrev pub decreases-reading : goal.decreases-reading
decreases-reading l = length l.rest
