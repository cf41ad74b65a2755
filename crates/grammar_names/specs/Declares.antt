-- What lists of constants, objects, predicates and functions declare, said apart from how they are checked.
use Rattle.std.specs.Prelude.{◌≡◌, true, List, [], ◌∷◌, ◌++◌, map, Some, None}
use Rattle.up_text.specs.declared.name.Name.{Name}
use Rattle.pddl_parse.specs.declared.raw.Ident.{Ident}
use Rattle.pddl_parse.specs.declared.raw.RawGives.{RawGives}
use Rattle.pddl_parse.specs.declared.raw.RawGives.TheVariants as stated
use Rattle.pddl_parse.specs.declared.raw.RawGroup.{RawGroup}
use Rattle.pddl_parse.specs.declared.raw.RawSymbol.{RawSymbol}
use Rattle.pddl_parse.specs.declared.raw.RawFunctions.{RawFunctions}
use Rattle.pddl_parse.specs.declared.raw.DomainForm.{DomainForm}
use Rattle.up_tree.specs.declared.problem.Gives.{Gives}
use Rattle.up_tree.specs.declared.problem.Gives.TheVariants as gives
use Rattle.up_phrase.specs.Declarations.{Declarations, types_alone}
use Rattle.up_phrase.specs.Lookups.{type_of, predicate_of, function_of, is_type}
use Rattle.up_declare.specs.Declaring.{and_object, and_predicate, and_function}
use Rattle.grammar_names.specs.Phrases.{HasType}
use Rattle.grammar_names.specs.DeclaredTypes.{DeclareTypes}

-- ---- constants and objects

-- names are declared as objects of one type, each after those that are declared
pub data DeclareNames (of : Name) : List Ident → Declarations → Declarations → Type 0 where
  no_names : (names : Declarations) → DeclareNames of [] names names
  new_name : (it : Ident) (others : List Ident) (names more : Declarations)
      → type_of names it.name ≡ None → DeclareNames of others (and_object names it.name of) more → DeclareNames of (it ∷ others) names more
  -- an object may be declared once more with the same type, which changes nothing
  known_name : (it : Ident) (others : List Ident) (names more : Declarations)
      → type_of names it.name ≡ Some of → DeclareNames of others names more → DeclareNames of (it ∷ others) names more

-- a typed list of constants or objects: each type is declared, and `object` where none is stated
pub data DeclareObjects : List RawGroup → Declarations → Declarations → Type 0 where
  no_objects : (names : Declarations) → DeclareObjects [] names names
  more_objects : (group : RawGroup) (of : Name) (others : List RawGroup) (names inner more : Declarations)
      → HasType names group.of of → DeclareNames of group.names names inner → DeclareObjects others inner more
      → DeclareObjects (group ∷ others) names more

-- ---- predicates and functions

-- the types of parameters: each has that of its group; the names of parameters play no part
pub data HaveTypes (names : Declarations) : List RawGroup → List Name → Type 0 where
  no_parameters : HaveTypes names [] []
  more_parameters : (group : RawGroup) (of : Name) (others : List RawGroup) (types : List Name)
      → HasType names group.of of → HaveTypes names others types → HaveTypes names (group ∷ others) (map (λ it. of) group.names ++ types)

-- a name that neither a predicate nor a function has yet, with parameters of these types
pub record IsNewSymbol (names : Declarations) (symbol : RawSymbol) (types : List Name) : Type 0 where
  pub no_predicate : predicate_of names symbol.name.name ≡ None
  pub no_function : function_of names symbol.name.name ≡ None
  pub parameters : HaveTypes names symbol.params types

-- predicates, each after those that are declared
pub data DeclarePredicates : List RawSymbol → Declarations → Declarations → Type 0 where
  no_predicates : (names : Declarations) → DeclarePredicates [] names names
  more_predicates : (symbol : RawSymbol) (types : List Name) (others : List RawSymbol) (names more : Declarations)
      → IsNewSymbol names symbol types → DeclarePredicates others (and_predicate names symbol.name.name types) more
      → DeclarePredicates (symbol ∷ others) names more

-- what functions give: numbers, or objects of a declared type
pub data GiveValues (names : Declarations) : RawGives → Gives → Type 0 where
  numbers : GiveValues names stated.Number gives.Number
  objects : (of : Ident) → is_type names of.name ≡ true → GiveValues names (stated.Object of) (gives.Object of.name)

-- functions that give the same, each after those that are declared
pub data DeclareGiving (g : Gives) : List RawSymbol → Declarations → Declarations → Type 0 where
  no_symbols : (names : Declarations) → DeclareGiving g [] names names
  more_symbols : (symbol : RawSymbol) (types : List Name) (others : List RawSymbol) (names more : Declarations)
      → IsNewSymbol names symbol types → DeclareGiving g others (and_function names symbol.name.name (record { args = types; gives = g })) more
      → DeclareGiving g (symbol ∷ others) names more

-- functions, group by group: each group gives numbers or objects of one type
pub data DeclareFunctions : List RawFunctions → Declarations → Declarations → Type 0 where
  no_functions : (names : Declarations) → DeclareFunctions [] names names
  more_functions : (group : RawFunctions) (g : Gives) (others : List RawFunctions) (names inner more : Declarations)
      → GiveValues names group.gives g → DeclareGiving g group.functions names inner → DeclareFunctions others inner more
      → DeclareFunctions (group ∷ others) names more

-- ---- the declarations of a domain

-- types, then constants, then predicates, then functions
pub record DeclareAll (form : DomainForm) (names : Declarations) : Type 0 where
  pub types : List (Name × Name)
  pub declared_types : DeclareTypes form.types types
  -- what is declared up to the constants, and up to the predicates
  pub with_constants : Declarations
  pub constants : DeclareObjects form.constants (types_alone types) with_constants
  pub with_predicates : Declarations
  pub predicates : DeclarePredicates form.predicates with_constants with_predicates
  pub functions : DeclareFunctions form.functions with_predicates names
