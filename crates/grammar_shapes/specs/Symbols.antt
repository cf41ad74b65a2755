-- Which bracket trees spell declarations of predicates and of functions.
use Rattle.std.specs.Prelude.{◌≢◌, List, [], ◌∷◌, ◌++◌, codes}
use Rattle.up_text.specs.declared.place.Place.{Place}
use Rattle.pddl_lex.specs.declared.tree.Sign.TheVariants as sign
use Rattle.pddl_lex.specs.declared.tree.TokenKind.TheVariants as kind
use Rattle.pddl_lex.specs.declared.tree.Sexp.{Sexp, Group}
use Rattle.pddl_parse.specs.declared.raw.Ident.{Ident}
use Rattle.pddl_parse.specs.declared.raw.RawGroup.{RawGroup}
use Rattle.pddl_parse.specs.declared.raw.RawSymbol.{RawSymbol}
use Rattle.pddl_parse.specs.declared.raw.RawFunctions.{RawFunctions}
use Rattle.pddl_parse.specs.declared.raw.RawGives.{RawGives}
use Rattle.pddl_parse.specs.declared.raw.RawGives.TheVariants as given
use Rattle.pddl_parse.specs.Forms.{leaf, IsIdent, AreTyped}

-- a predicate or a function with its parameters, as `(p ?x ?y - t)`
pub data IsSymbol : Sexp → RawSymbol → Type 0 where
  a_symbol : (place : Place) (head : Sexp) (name : Ident) (vars : List Sexp) (params : List RawGroup)
      → IsIdent head name → AreTyped vars params → IsSymbol (Group place (head ∷ vars)) (record { name = name; params = params })

pub data AreSymbols : List Sexp → List RawSymbol → Type 0 where
  no_symbols : AreSymbols [] []
  more_symbols : (tree : Sexp) (symbol : RawSymbol) (trees : List Sexp) (symbols : List RawSymbol)
      → IsSymbol tree symbol → AreSymbols trees symbols → AreSymbols (tree ∷ trees) (symbol ∷ symbols)

-- the predicates of a domain
abbrev pub ArePredicates : List Sexp → List RawSymbol → Type 0
ArePredicates trees symbols = AreSymbols trees symbols

-- the type of a function: `number`, or a type of objects
pub data IsFunctionType : Sexp → RawGives → Type 0 where
  gives_numbers : (place : Place) → IsFunctionType (leaf (kind.Word (codes "number")) place) given.Number
  gives_objects : (tree : Sexp) (type : Ident) → IsIdent tree type → IsFunctionType tree (given.Object type)

-- functions with their types, as `(f ?x) (g) - t (h)`
pub data AreFunctions : List Sexp → List RawFunctions → Type 0 where
  no_functions : AreFunctions [] []
  untyped_functions : (trees : List Sexp) (functions : List RawSymbol) → functions ≢ [] → AreSymbols trees functions
      → AreFunctions trees (record { functions = functions; gives = given.Number } ∷ [])
  typed_functions : (trees : List Sexp) (functions : List RawSymbol) (at : Place) (tree : Sexp) (type : RawGives) (rest : List Sexp)
      (groups : List RawFunctions) → functions ≢ [] → AreSymbols trees functions → IsFunctionType tree type → AreFunctions rest groups
      → AreFunctions (trees ++ leaf (kind.Sign sign.Minus) at ∷ tree ∷ rest) (record { functions = functions; gives = type } ∷ groups)
