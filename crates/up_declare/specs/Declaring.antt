-- Constants and objects, predicates and functions, declared one after the other.
use Rattle.std.specs.Prelude.{Bool, not, ◌||◌, List, [], ◌∷◌, ◌++◌, map, Option, Some, None, is_some}
use Rattle.pddl_lex.specs.Parses.{parsed, behind, before}
use Rattle.pddl_parse.specs.declared.raw.Ident.{Ident}
use Rattle.pddl_parse.specs.declared.raw.RawGroup.{RawGroup}
use Rattle.pddl_parse.specs.declared.raw.RawSymbol.{RawSymbol}
use Rattle.pddl_parse.specs.declared.raw.RawFunctions.{RawFunctions}
use Rattle.pddl_parse.specs.declared.raw.RawGives.{RawGives}
use Rattle.pddl_parse.specs.declared.raw.RawGives.TheVariants as stated
use Rattle.up_text.specs.declared.name.Name.{Name}
use Rattle.up_text.specs.Names.{same_name}
use Rattle.up_tree.specs.declared.problem.Gives.{Gives}
use Rattle.up_tree.specs.declared.problem.Gives.TheVariants as gives
use Rattle.up_phrase.specs.declared.fault.Fault.{Fault}
use Rattle.up_phrase.specs.declared.names.Signature.{Signature}
use Rattle.up_phrase.specs.declared.reason.Reason.TheVariants.{Duplicate, UnknownName}
use Rattle.up_phrase.specs.Declarations.{Declarations}
use Rattle.up_phrase.specs.Lookups.{is_type, type_of, predicate_of, function_of}
use Rattle.up_phrase.specs.Named.{at}
use Rattle.up_phrase.specs.Scopes.{type_named, type_fault}
use Rattle.up_phrase.specs.Walks.{Checked, after, unless, in_turn}

-- what was declared, and after it an object, a predicate, or a function
abbrev pub and_object : Declarations → Name → Name → Declarations
and_object names it of =
    record { types = names.types; objects = names.objects ++ (it, of) ∷ []; predicates = names.predicates; functions = names.functions }

abbrev pub and_predicate : Declarations → Name → List Name → Declarations
and_predicate names p args =
    record { types = names.types; objects = names.objects; predicates = names.predicates ++ (p, args) ∷ []; functions = names.functions }

abbrev pub and_function : Declarations → Name → Signature → Declarations
and_function names f signature =
    record { types = names.types; objects = names.objects; predicates = names.predicates; functions = names.functions ++ (f, signature) ∷ [] }

-- a name that is declared as an object of the first type, or isn't: with the same type once more it changes nothing
abbrev pub declared_as : Option Name → Name → Ident → Declarations → Checked Declarations
declared_as None of it names = parsed (and_object names it.name of)
declared_as (Some first) of it names = behind (unless (same_name first of) (at it.place Duplicate it.name)) (parsed names)

abbrev pub with_object : Name → Ident → Declarations → Checked Declarations
with_object of it names = declared_as (type_of names it.name) of it names

-- the faults of the names of a group come before that of its type
abbrev pub with_group : RawGroup → Declarations → Checked Declarations
with_group group names =
    after (in_turn (with_object (type_named group.of)) group.names names) (λ more. behind (type_fault more group.of) (parsed more))

-- constants or objects
abbrev pub with_objects : List RawGroup → Declarations → Checked Declarations
with_objects groups = in_turn with_group groups

-- whether a name is a predicate or a function
abbrev pub is_symbol : Declarations → Name → Bool
is_symbol names name = is_some (predicate_of names name) || is_some (function_of names name)

-- this type for each name
abbrev pub each_of : Name → List Ident → List Name
each_of of items = map (λ it. of) items

-- the types of parameters, of which each has that of its group
abbrev pub arg_types : Declarations → List RawGroup → Checked (List Name)
arg_types names [] = parsed []
arg_types names (group ∷ others) = behind (type_fault names group.of) (before (each_of (type_named group.of) group.names) (arg_types names others))

-- the types of the parameters of a predicate or function whose name is new
abbrev pub new_symbol : Declarations → RawSymbol → Checked (List Name)
new_symbol names symbol =
    behind (unless (not (is_symbol names symbol.name.name)) (at symbol.name.place Duplicate symbol.name.name)) (arg_types names symbol.params)

abbrev pub with_predicate : RawSymbol → Declarations → Checked Declarations
with_predicate symbol names = after (new_symbol names symbol) (λ args. parsed (and_predicate names symbol.name.name args))

abbrev pub with_predicates : List RawSymbol → Declarations → Checked Declarations
with_predicates symbols = in_turn with_predicate symbols

-- what a function gives
abbrev pub given : RawGives → Gives
given stated.Number = gives.Number
given (stated.Object of) = gives.Object of.name

abbrev pub gives_fault : Declarations → RawGives → List Fault
gives_fault names stated.Number = []
gives_fault names (stated.Object of) = unless (is_type names of.name) (at of.place UnknownName of.name)

abbrev pub signature : RawGives → List Name → Signature
signature of args = record { args = args; gives = given of }

abbrev pub with_function : RawGives → RawSymbol → Declarations → Checked Declarations
with_function of symbol names = after (new_symbol names symbol) (λ args. parsed (and_function names symbol.name.name (signature of args)))

-- the faults of the functions of a group come before that of what they give
abbrev pub with_function_group : RawFunctions → Declarations → Checked Declarations
with_function_group group names =
    after (in_turn (with_function group.gives) group.functions names) (λ more. behind (gives_fault more group.gives) (parsed more))

abbrev pub with_functions : List RawFunctions → Declarations → Checked Declarations
with_functions groups = in_turn with_function_group groups
