-- Lawful forms of a domain and a problem: what they declare and bind has names that may be declared, and their numbers are literals.
use Rattle.up_text.specs.Names.{IsName}
use Rattle.up_text.specs.Lists.{Every}
use Rattle.pddl_parse.specs.declared.raw.DomainForm.{DomainForm}
use Rattle.pddl_parse.specs.declared.raw.ProblemForm.{ProblemForm}
use Rattle.pddl_parse.specs.declared.raw.RawAction.{RawAction}
use Rattle.wellformed_phrases.specs.LawfulPhrases.{HaveNames, IsLawful, IsLawfulAction, IsLawfulConstraint, IsLawfulMetric}
use Rattle.wellformed_phrases.specs.Initial.{IsLawfulInit}
use Rattle.wellformed_phrases.specs.Sound.{AreNamed, AreNamedFunctions}
use Rattle.wellformed_phrases.specs.SoundTypes.{HaveNamedTypes}

-- what a domain declares has names that may be declared, and its numbers are literals
pub record IsLawfulDomain (form : DomainForm) : Type 0 where
  pub types : HaveNames form.types
  pub parents : HaveNamedTypes form.types
  pub constants : HaveNames form.constants
  pub predicates : AreNamed form.predicates
  pub functions : AreNamedFunctions form.functions
  pub action_names : Every (λ (raw : RawAction). IsName raw.name.name) form.actions
  pub actions : Every IsLawfulAction form.actions
  pub constraints : IsLawfulConstraint form.constraints

-- and the same of a problem, which has a name itself
pub record IsLawfulProblem (form : ProblemForm) : Type 0 where
  pub name : IsName form.name.name
  pub domain : IsName form.domain.name
  pub objects : HaveNames form.objects
  pub init : Every IsLawfulInit form.init
  pub goal : IsLawful form.goal
  pub constraints : IsLawfulConstraint form.constraints
  pub metric : IsLawfulMetric form.metric
