-- Lawful raw phrases: their numbers are literals, and the variables that they bind have names that may be declared.
use Rattle.std.specs.Prelude.{⊤, List, Option, Some, None}
use Rattle.up_text.specs.Names.{IsName}
use Rattle.up_text.specs.Lists.{Every}
use Rattle.up_tree.specs.WellFormed.{IsLiteral}
use Rattle.pddl_parse.specs.declared.raw.RawTerm.{RawTerm, Row_of-RawTerm, end_of-RawTerm, more_of-RawTerm}
use Rattle.pddl_parse.specs.declared.raw.RawTerm as form
use Rattle.pddl_parse.specs.declared.raw.Ident.{Ident}
use Rattle.pddl_parse.specs.declared.raw.RawGroup.{RawGroup}
use Rattle.pddl_parse.specs.declared.raw.RawFormula.{RawFormula, Row_of-RawFormula, end_of-RawFormula, more_of-RawFormula}
use Rattle.pddl_parse.specs.declared.raw.RawFormula as formula
use Rattle.pddl_parse.specs.declared.raw.RawEffect.{RawEffect, Row_of-RawEffect, end_of-RawEffect, more_of-RawEffect}
use Rattle.pddl_parse.specs.declared.raw.RawEffect as effect
use Rattle.pddl_parse.specs.declared.raw.RawAction.{RawAction}
use Rattle.pddl_parse.specs.declared.raw.RawConstraint.{RawConstraint, Row_of-RawConstraint, end_of-RawConstraint, more_of-RawConstraint}
use Rattle.pddl_parse.specs.declared.raw.RawConstraint as constraint
use Rattle.pddl_parse.specs.declared.raw.RawMetric.{RawMetric}
use Rattle.up_phrase.specs.Nodes.{not, imply, exists, forall}
use Rattle.up_check.specs.Nodes.{forall as each_of}
use Rattle.up_effect.specs.Nodes.{for_all, when}

unfoldable mutual
  -- each number in the term is a literal
  pub HasLiterals : RawTerm → Type 0
  HasLiterals (form.Name it) = ⊤
  HasLiterals (form.Variable it) = ⊤
  HasLiterals (form.Number place n) = IsLiteral n
  HasLiterals (form.Call' place f n args) = HaveLiterals args
  HasLiterals (form.Arithmetic' place op n operands) = HaveLiterals operands

  pub HaveLiterals : {n : _} → Row_of-RawTerm n → Type 0
  HaveLiterals end_of-RawTerm = ⊤
  HaveLiterals (more_of-RawTerm t ts) = HasLiterals t × HaveLiterals ts

-- the variables of a typed list have names that may be declared
abbrev pub HaveNames : List RawGroup → Type 0
HaveNames groups = Every (λ (group : RawGroup). Every (λ (it : Ident). IsName it.name) group.names) groups

unfoldable mutual
  -- the numbers that the condition compares are literals, and the variables that it binds have names
  pub IsLawful : RawFormula → Type 0
  IsLawful (formula.And' n members) = AreLawful members
  IsLawful (formula.Or' n members) = AreLawful members
  IsLawful (not f) = IsLawful f
  IsLawful (imply f g) = IsLawful f × IsLawful g
  IsLawful (exists groups f) = HaveNames groups × IsLawful f
  IsLawful (forall groups f) = HaveNames groups × IsLawful f
  IsLawful (formula.Atom place p args) = ⊤
  IsLawful (formula.Compare place r left right) = HasLiterals left × HasLiterals right

  pub AreLawful : {n : _} → Row_of-RawFormula n → Type 0
  AreLawful end_of-RawFormula = ⊤
  AreLawful (more_of-RawFormula f fs) = IsLawful f × AreLawful fs

unfoldable mutual
  -- the same of an effect
  pub IsLawfulEffect : RawEffect → Type 0
  IsLawfulEffect (effect.And' n members) = AreLawfulEffects members
  IsLawfulEffect (for_all groups body) = HaveNames groups × IsLawfulEffect body
  IsLawfulEffect (when condition body) = IsLawful condition × IsLawfulEffect body
  IsLawfulEffect (effect.Add it) = ⊤
  IsLawfulEffect (effect.Delete it) = ⊤
  IsLawfulEffect (effect.Change c it value) = HasLiterals value
  IsLawfulEffect (effect.Undefine it place) = ⊤

  pub AreLawfulEffects : {n : _} → Row_of-RawEffect n → Type 0
  AreLawfulEffects end_of-RawEffect = ⊤
  AreLawfulEffects (more_of-RawEffect e es) = IsLawfulEffect e × AreLawfulEffects es

-- the same of an action
pub record IsLawfulAction (raw : RawAction) : Type 0 where
  pub params : HaveNames raw.params
  pub pre : IsLawful raw.pre
  pub effect : IsLawfulEffect raw.effect

unfoldable mutual
  -- the same of a constraint
  pub IsLawfulConstraint : RawConstraint → Type 0
  IsLawfulConstraint (constraint.And' n members) = AreLawfulConstraints members
  IsLawfulConstraint (each_of groups body) = HaveNames groups × IsLawfulConstraint body
  IsLawfulConstraint (constraint.Always f) = IsLawful f
  IsLawfulConstraint (constraint.Sometime f) = IsLawful f
  IsLawfulConstraint (constraint.AtMostOnce f) = IsLawful f
  IsLawfulConstraint (constraint.SometimeAfter f g) = IsLawful f × IsLawful g
  IsLawfulConstraint (constraint.SometimeBefore f g) = IsLawful f × IsLawful g

  pub AreLawfulConstraints : {n : _} → Row_of-RawConstraint n → Type 0
  AreLawfulConstraints end_of-RawConstraint = ⊤
  AreLawfulConstraints (more_of-RawConstraint c cs) = IsLawfulConstraint c × AreLawfulConstraints cs

-- and of a metric, if there is one
abbrev pub IsLawfulMetric : Option RawMetric → Type 0
IsLawfulMetric None = ⊤
IsLawfulMetric (Some raw) = HasLiterals raw.value
