-- How what is declared and in scope as names are checked agrees with the parts of a problem.
use Rattle.std.specs.Prelude.{◌≡◌, ⊤, List, map, Option, Some, None, IsSome}
use Rattle.up_text.specs.declared.name.Name.{Name}
use Rattle.pddl_lex.specs.Parses.{Parse, parsed, rejected}
use Rattle.up_tree.specs.declared.term.Term.{Term}
use Rattle.up_tree.specs.declared.term.Typed.{Typed}
use Rattle.up_tree.specs.declared.problem.Parts.{Parts}
use Rattle.up_tree.specs.Objects.{named, type_in}
use Rattle.up_tree.specs.WellFormed.{IsType, IsBelow, IsTerm, TermFits, OfGives, top_type}
use Rattle.up_phrase.specs.declared.names.Signature.{Signature}
use Rattle.up_phrase.specs.Declarations.{Declarations}
use Rattle.up_phrase.specs.Lookups.{type_of, function_of}
use Rattle.up_phrase.specs.Scopes.{Variables, variable_type, typed}
use Rattle.up_check.specs.Lists.{predicate, function}

-- what is read, if anything is, is so
abbrev pub IfParsed : {F A : Type 0} → Parse F A → (A → Type 0) → Type 0
IfParsed (parsed a) P = P a
IfParsed (rejected fault others) P = ⊤

-- Declarations are those of the problem, of whose objects these may be named; every type stands below `object`.
pub record Agree (names : Declarations) (p : Parts) (objects : List Typed) : Type 0 where
  pub types : p.types ≡ map typed names.types
  pub predicates : p.predicates ≡ map predicate names.predicates
  pub functions : p.functions ≡ map function names.functions
  pub below_top : (t : Name) → IsType p t → IsBelow p t top_type
  pub admitted : (o of : Name) → type_of names o ≡ Some of → IsSome (named objects o)
  pub object_types : (o of : Name) → type_of names o ≡ Some of → type_in p.objects o ≡ Some of
  pub known_types : (o of : Name) → type_of names o ≡ Some of → IsType p of
  pub given_types : (f : Name) (function : Signature) → function_of names f ≡ Some function → OfGives p function.gives

-- the variables are those of the scope, in some order
pub record AgreeInScope (p : Parts) (vars : Variables) (scope : List Typed) : Type 0 where
  pub same : (v : Name) → type_in scope v ≡ variable_type vars v
  pub known_types : (v of : Name) → variable_type vars v ≡ Some of → IsType p of

-- a term, of a type below the one that is due, if one is
abbrev pub IsTermDue : Parts → List Typed → List Typed → Option Name → Term → Type 0
IsTermDue p objects scope None t = IsTerm p objects scope t
IsTermDue p objects scope (Some due) t = TermFits p objects scope t due
