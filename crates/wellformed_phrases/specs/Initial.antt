-- A well-formed initial state, and raw members of one whose numbers are literals.
use Rattle.std.specs.Prelude.{⊤, ◌∷◌, map}
use Rattle.up_text.specs.Lists.{Every, Differ}
use Rattle.pddl_parse.specs.declared.raw.RawInit.{RawInit}
use Rattle.pddl_parse.specs.declared.raw.RawInit.TheVariants as member
use Rattle.pddl_parse.specs.declared.raw.RawValue.{RawValue}
use Rattle.pddl_parse.specs.declared.raw.RawValue.TheVariants as value
use Rattle.up_tree.specs.declared.problem.Parts.{Parts}
use Rattle.up_tree.specs.WellFormed.{IsFact, IsLiteral, IsNumberFact, IsValueFact}
use Rattle.up_check.specs.declared.lists.Initial.{Initial}

-- facts of the problem, none of which is stated twice
pub record IsInitial (p : Parts) (it : Initial) : Type 0 where
  pub atoms : Every (IsFact p) it.atoms
  pub atoms_differ : Differ it.atoms
  pub numbers : Every (IsNumberFact p) it.numbers
  pub numbers_differ : Differ (map (λ n. n.function ∷ n.args) it.numbers)
  pub values : Every (IsValueFact p) it.values
  pub values_differ : Differ (map (λ v. v.function ∷ v.args) it.values)

abbrev pub IsLawfulValue : RawValue → Type 0
IsLawfulValue (value.Number place n) = IsLiteral n
IsLawfulValue (value.Object it) = ⊤

-- a number that is stated is a literal
abbrev pub IsLawfulInit : RawInit → Type 0
IsLawfulInit (member.Atom atom) = ⊤
IsLawfulInit (member.Absent atom) = ⊤
IsLawfulInit (member.Value place term v) = IsLawfulValue v
