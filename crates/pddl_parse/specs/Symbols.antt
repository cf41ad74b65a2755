-- Declarations of predicates and functions.
use Rattle.std.specs.Prelude.{ℕ, Bool, true, false, if◌then◌else◌, List, [], ◌∷◌, ◌++◌, map, codes}
use Rattle.std.specs.Str.{bytes_eq}
use Rattle.up_text.specs.declared.place.Place.{Place}
use Rattle.pddl_lex.specs.declared.tree.Sexp.{Sexp}
use Rattle.pddl_lex.specs.Parses.{Parse, parsed, rejected, faults, all, over, over_two, behind}
use Rattle.pddl_parse.specs.declared.raw.Ident.{Ident}
use Rattle.pddl_parse.specs.declared.raw.RawGroup.{RawGroup}
use Rattle.pddl_parse.specs.declared.raw.RawSymbol.{RawSymbol}
use Rattle.pddl_parse.specs.declared.raw.RawFunctions.{RawFunctions}
use Rattle.pddl_parse.specs.declared.raw.RawGives.{RawGives}
use Rattle.pddl_parse.specs.declared.raw.RawGives.TheVariants as given
use Rattle.pddl_parse.specs.declared.shape.ShapeError.TheVariants.{Expected}
use Rattle.pddl_parse.specs.declared.typed.Item.TheVariants as item
use Rattle.pddl_parse.specs.Shapes.{Read, misfit, ident, lacking}
use Rattle.pddl_parse.specs.TypedLists.{is_minus, ends_in_minus, typed}
use Rattle.pddl_parse.specs.Brackets.{bracket, short, is_word}

abbrev pub symbol_of : Ident → List RawGroup → RawSymbol
symbol_of name params = record { name = name; params = params }

abbrev pub in_symbol : Place → List Sexp → Read RawSymbol
in_symbol place [] = rejected (Expected place) []
in_symbol place (head ∷ rest) =
    behind (short (ends_in_minus rest) place (head ∷ rest)) (over_two symbol_of (ident head) (typed item.Variable place rest [] false))

-- a name with typed variables
abbrev pub symbol : Sexp → Read RawSymbol
symbol tree = bracket in_symbol tree

abbrev pub predicates : List Sexp → Read (List RawSymbol)
predicates items = all (map symbol items)

-- the type of functions
abbrev pub gives : Sexp → Read RawGives
gives tree = if is_word (codes "number") tree then parsed given.Number else over given.Object (ident tree)

-- how the rest of a list is read behind functions that have no type yet, where a type is due or not
abbrev pub GoOn : Type 0
GoOn = List RawSymbol → Bool → Read (List RawFunctions)

abbrev pub functions_of : List RawSymbol → RawGives → RawFunctions
functions_of functions type = record { functions = functions; gives = type }

-- at the end, where a type is due or not
abbrev pub last_functions : Place → List RawSymbol → Bool → Read (List RawFunctions)
last_functions place functions true = rejected (Expected place) []
last_functions place [] false = parsed []
last_functions place (f ∷ fs) false = parsed (functions_of (f ∷ fs) given.Number ∷ [])

abbrev pub minus_after : Sexp → List RawSymbol → GoOn → Read (List RawFunctions)
minus_after tree [] go = behind (misfit tree ∷ []) (go [] true)
minus_after tree (f ∷ fs) go = go (f ∷ fs) true

abbrev pub one_more : Read RawSymbol → List RawSymbol → GoOn → Read (List RawFunctions)
one_more (parsed f) functions go = go (functions ++ f ∷ []) false
one_more (rejected f fs) functions go = behind (f ∷ fs) (go functions false)

abbrev pub declared_step : Sexp → List RawSymbol → Bool → GoOn → Read (List RawFunctions)
declared_step tree functions true go = over_two (λ type groups. functions_of functions type ∷ groups) (gives tree) (go [] false)
declared_step tree functions false go = if is_minus tree then minus_after tree functions go else one_more (symbol tree) functions go

-- what follows functions that have no type yet, where a type is due or not
abbrev pub declared : Place → List Sexp → List RawSymbol → Bool → Read (List RawFunctions)
declared place [] functions due = last_functions place functions due
declared place (tree ∷ rest) functions due = declared_step tree functions due (declared place rest)

-- functions with their types
abbrev pub functions : Place → List Sexp → Read (List RawFunctions)
functions place items = behind (lacking (ends_in_minus items) place) (declared place items [] false)
