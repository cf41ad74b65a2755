-- Declarations in which names differ and types are declared.
use Rattle.std.specs.Prelude.{◌≡◌, ⊤, List, map, ◌++◌, IsTrue}
use Rattle.up_text.specs.declared.name.Name.{Name}
use Rattle.up_text.specs.Names.{IsName}
use Rattle.up_text.specs.Lists.{Every}
use Rattle.pddl_parse.specs.declared.raw.RawFunctions.{RawFunctions}
use Rattle.pddl_parse.specs.declared.raw.RawSymbol.{RawSymbol}
use Rattle.up_tree.specs.declared.problem.Gives.{Gives}
use Rattle.up_tree.specs.declared.problem.Gives.TheVariants as gives
use Rattle.up_tree.specs.WellFormed.{AreDeclared}
use Rattle.up_tree.specs.declared.problem.Parts.{Parts}
use Rattle.up_phrase.specs.Scopes.{typed}
use Rattle.up_check.specs.Lists.{predicate, function}
use Rattle.up_phrase.specs.Declarations.{Declarations}
use Rattle.up_phrase.specs.Lookups.{is_type}

-- the type of an object function is declared
abbrev pub GivesType : Declarations → Gives → Type 0
GivesType names gives.Number = ⊤
GivesType names (gives.Object of) = IsTrue (is_type names of)

-- objects have names that differ, and so have predicates and functions together; all their types are declared
pub record AreSound (names : Declarations) : Type 0 where
  pub objects : AreDeclared (map (λ o. o.0) names.objects)
  pub object_types : Every (λ o. IsTrue (is_type names o.1)) names.objects
  pub symbols : AreDeclared (map (λ d. d.0) names.predicates ++ map (λ d. d.0) names.functions)
  pub predicate_types : Every (λ d. Every (λ t. IsTrue (is_type names t)) d.1) names.predicates
  pub function_types : Every (λ d. Every (λ t. IsTrue (is_type names t)) d.1.args) names.functions
  pub value_types : Every (λ d. GivesType names d.1.gives) names.functions

-- predicates, or functions, have names that may be declared
abbrev pub AreNamed : List RawSymbol → Type 0
AreNamed symbols = Every (λ (symbol : RawSymbol). IsName symbol.name.name) symbols

abbrev pub AreNamedFunctions : List RawFunctions → Type 0
AreNamedFunctions groups = Every (λ (group : RawFunctions). AreNamed group.functions) groups

-- the problem has these declarations, and more objects after those of them
pub record HasDeclared (p : Parts) (names : Declarations) (more : List (Name × Name)) : Type 0 where
  pub types : p.types ≡ map typed names.types
  pub objects : p.objects ≡ map typed (names.objects ++ more)
  pub predicates : p.predicates ≡ map predicate names.predicates
  pub functions : p.functions ≡ map function names.functions
