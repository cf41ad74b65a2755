-- The abstract syntax of declared predicates and functions, whatever their parameters are called.
use Rattle.std.specs.Prelude.{◌≡◌, Bool, List, [], ◌∷◌, ◌++◌, map, None}
use Rattle.up_text.specs.declared.name.Name.{Name}
use Rattle.up_tree.specs.declared.term.Typed.{Typed}
use Rattle.up_tree.specs.declared.problem.Function.{Function}
use Rattle.up_tree.specs.declared.problem.Gives.{Gives}
use Rattle.pddl_parse.specs.declared.raw.RawSymbol.{RawSymbol}
use Rattle.pddl_parse.specs.declared.raw.RawFunctions.{RawFunctions}
use Rattle.pddl_parse.specs.declared.raw.RawGives.{RawGives}
use Rattle.up_declare.specs.Declaring.{given}
use Rattle.up_phrase.specs.Declarations.{Declarations}
use Rattle.up_phrase.specs.Lookups.{predicate_of, function_of}
use Rattle.roundtrip_shapes.specs.Raw.{IsEmpty, IsFirst, IsRawName, AreRawGroups}

-- a name with parameters of these types
pub record IsSymbol (typed : Bool) (word : Name) (args : List Name) (symbol : RawSymbol) : Type 0 where
  pub name : IsRawName word symbol.name
  pub vars : List Typed
  pub params : AreRawGroups typed vars symbol.params
  pub types : map (λ v. v.of) vars ≡ args

-- one for each name and types
abbrev pub AreSymbols : Bool → List (Name × List Name) → List RawSymbol → Type 0
AreSymbols typed [] symbols = IsEmpty symbols
AreSymbols typed (e ∷ entries) symbols = IsFirst (IsSymbol typed e.0 e.1) (AreSymbols typed entries) symbols

-- neither a predicate nor a function
abbrev pub IsNew : Declarations → Name → Type 0
IsNew names name = (predicate_of names name ≡ None) × (function_of names name ≡ None)

-- what was declared, and after it these predicates, or these functions that give the same
abbrev pub and_predicates : Declarations → List (Name × List Name) → Declarations
and_predicates names entries =
    record { types = names.types; objects = names.objects; predicates = names.predicates ++ entries; functions = names.functions }

abbrev pub and_functions : Declarations → Gives → List (Name × List Name) → Declarations
and_functions names g entries =
    record { types = names.types; objects = names.objects; predicates = names.predicates; functions = names.functions ++ map (λ e. (e.0, record { args = e.1; gives = g })) entries }

-- these functions, which give the same
abbrev pub group_of : List RawSymbol → RawGives → RawFunctions
group_of symbols of = record { functions = symbols; gives = of }

-- a group of a function alone
pub data IsOwnGroup (typed : Bool) (d : Function) : RawFunctions → Type 0 where
  own_group : (symbol : RawSymbol) (of : RawGives) → IsSymbol typed d.name d.args symbol → d.gives ≡ given of
      → IsOwnGroup typed d (record { functions = symbol ∷ []; gives = of })

-- one for each function
abbrev pub AreOwnGroups : Bool → List Function → List RawFunctions → Type 0
AreOwnGroups typed [] groups = IsEmpty groups
AreOwnGroups typed (d ∷ ds) groups = IsFirst (IsOwnGroup typed d) (AreOwnGroups typed ds) groups
