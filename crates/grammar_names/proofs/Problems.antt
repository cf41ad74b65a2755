-- The laws of initial states, constraints, metrics, domains and problems, both ways.
use Rattle.std.proofs.Common.{◌≡◌, []}
use Rattle.pddl_lex.specs.Parses.{faults, parsed}
use Rattle.pddl_parse.specs.declared.raw.DomainForm.{DomainForm}
use Rattle.pddl_parse.specs.declared.raw.ProblemForm.{ProblemForm}
use Rattle.up_tree.specs.declared.problem.Parts.{Parts}
use Rattle.up_check.specs.Domains.{Known, domain_names}
use Rattle.up_check.specs.Problems.{problem_names}
use Rattle.grammar_names.specs.Problems.{DenotesDomain, DenotesProblem}
use Rattle.grammar_names.proofs.Found.{IsRead, faultless, no_fault}
use Rattle.grammar_names.proofs.Initial.{initial_read, initial_denotes}
use Rattle.grammar_names.proofs.Constraints.{constraints_read, constraints_denote}
use Rattle.grammar_names.proofs.Metrics.{metric_read, metric_denotes}
use Rattle.grammar_names.proofs.ProblemForms.{domain_read, domain_denotes, problem_read, problem_denotes}
use Rattle.std.specs.Prelude.{List, Option, ◌↔◌}
use Rattle.up_check.specs.declared.lists.Initial.{Initial}
use Rattle.up_check.specs.Initial.{initial}
use Rattle.up_phrase.specs.Declarations.{Declarations}
use Rattle.grammar_names.specs.Initial.{DenoteInitial}
use Rattle.pddl_parse.specs.declared.raw.RawInit.{RawInit}
use Rattle.up_check.specs.Constraints.{constraints}
use Rattle.up_tree.specs.declared.problem.Constraint.{Constraint}
use Rattle.pddl_parse.specs.declared.raw.RawConstraint.{RawConstraint}
use Rattle.up_phrase.specs.Scopes.{Variables}
use Rattle.grammar_names.specs.Constraints.{DenoteConstraints}
use Rattle.up_check.specs.Metrics.{metric_of}
use Rattle.pddl_parse.specs.declared.raw.RawMetric.{RawMetric}
use Rattle.up_tree.specs.declared.problem.Metric.{Metric}
use Rattle.grammar_names.specs.Metrics.{DenotesMetric}

pub initial_states : (names : Declarations) (members : List RawInit) (init : Initial) → DenoteInitial names members init ↔ (initial names members ≡ parsed init)
initial_states names members init = (initial_read names members init, initial_denotes names members init)

pub all_constraints : (names : Declarations) (vars : Variables) (raw : RawConstraint) (cs : List Constraint)
    → DenoteConstraints names vars raw cs ↔ (constraints names vars raw ≡ parsed cs)
all_constraints names vars raw cs = (constraints_read names vars raw cs, constraints_denote names vars raw cs)

pub metrics : (names : Declarations) (raw : Option RawMetric) (m : Option Metric) → DenotesMetric names raw m ↔ (metric_of names raw ≡ parsed m)
metrics names raw m = (metric_read names raw m, metric_denotes names raw m)

pub domains : (form : DomainForm) (domain : Known) → DenotesDomain form domain ↔ (domain_names form ≡ parsed domain)
domains form domain = (domain_read form domain, domain_denotes form domain)

some_domain : (form : DomainForm) → IsRead (domain_names form) → (domain : Known) × DenotesDomain form domain
some_domain form read = (read.value, domain_denotes form read.value read.is)

pub faultless_domains : (form : DomainForm) → ((domain : Known) × DenotesDomain form domain) ↔ (faults (domain_names form) ≡ [])
faultless_domains form = (
  (λ (domain, is). no_fault (domain_names form) domain (domain_read form domain is)),
  (λ none. some_domain form (faultless (domain_names form) none)),
)

pub problems : (domain : Known) (form : ProblemForm) (problem : Parts)
    → DenotesProblem domain form problem ↔ (problem_names domain form ≡ parsed problem)
problems domain form problem = (problem_read domain form problem, problem_denotes domain form problem)

some_problem : (domain : Known) (form : ProblemForm) → IsRead (problem_names domain form)
    → (problem : Parts) × DenotesProblem domain form problem
some_problem domain form read = (read.value, problem_denotes domain form read.value read.is)

pub faultless_problems : (domain : Known) (form : ProblemForm) → ((problem : Parts) × DenotesProblem domain form problem) ↔ (faults (problem_names domain form) ≡ [])
faultless_problems domain form = (
  (λ (problem, is). no_fault (problem_names domain form) problem (problem_read domain form problem is)),
  (λ none. some_problem domain form (faultless (problem_names domain form) none)),
)
