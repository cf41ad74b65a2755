-- Which problem two texts spell, said without faults and without an order of checks: their bracket trees, the forms that
-- these spell, and what the forms denote.
use Rattle.std.specs.Prelude.{ℕ, List}
use Rattle.pddl_lex.specs.declared.tree.Sexp.{Sexp}
use Rattle.pddl_lex.specs.Brackets.{Trees}
use Rattle.pddl_parse.specs.declared.raw.DomainForm.{DomainForm}
use Rattle.pddl_parse.specs.declared.raw.ProblemForm.{ProblemForm}
use Rattle.grammar_shapes.specs.Texts.{IsDomain, IsProblem}
use Rattle.up_tree.specs.declared.problem.Parts.{Parts}
use Rattle.up_check.specs.declared.refusal.ReadError.{ReadError}
use Rattle.up_check.specs.Domains.{Known}
use Rattle.up_check.specs.Passes.{AreShallow, FirstFault}
use Rattle.grammar_names.specs.Problems.{DenotesDomain, DenotesProblem}

-- a text spells a domain
pub record SpellsDomain (text : List ℕ) (domain : Known) : Type 0 where
  pub trees : List Sexp
  pub bracketed : Trees text trees
  pub form : DomainForm
  pub spelled : IsDomain trees form
  pub denoted : DenotesDomain form domain

-- a text spells a problem of a known domain
pub record SpellsProblem (domain : Known) (text : List ℕ) (problem : Parts) : Type 0 where
  pub trees : List Sexp
  pub bracketed : Trees text trees
  pub form : ProblemForm
  pub spelled : IsProblem trees form
  pub denoted : DenotesProblem domain form problem

-- Two texts spell a problem: the first a domain, and the second the problem in it.
pub record TextsSpell (domain problem : List ℕ) (parts : Parts) : Type 0 where
  pub known : Known
  pub of_domain : SpellsDomain domain known
  pub of_problem : SpellsProblem known problem parts

-- two texts spell a problem and open no bracket too deep, or they have a first fault
pub data SpellsOrStops (domain problem : List ℕ) : Type 0 where
  spells : (parts : Parts) → TextsSpell domain problem parts → AreShallow domain problem → SpellsOrStops domain problem
  stops : (refusal : ReadError) → FirstFault domain problem refusal → SpellsOrStops domain problem
