-- Predicates and functions that are read have names that may be declared.
use Rattle.std.proofs.Common.{Bool, true, false, List, [], ◌∷◌, ◌++◌}
use Rattle.std.specs.Prelude.{⊤}
use Rattle.up_text.specs.declared.place.Place.{Place}
use Rattle.up_text.specs.Names.{IsName}
use Rattle.pddl_lex.specs.declared.tree.Sexp.{Sexp}
use Rattle.pddl_lex.specs.Parses.{parsed, rejected, over_two}
use Rattle.pddl_parse.specs.declared.raw.RawSymbol.{RawSymbol}
use Rattle.pddl_parse.specs.declared.typed.Item.TheVariants as item
use Rattle.pddl_parse.specs.Brackets.{short}
use Rattle.pddl_parse.specs.Shapes.{Read, lacking, ident}
use Rattle.pddl_parse.specs.TypedLists.{is_minus, ends_in_minus, typed}
use Rattle.pddl_parse.specs.Symbols.{symbol_of, in_symbol, symbol, predicates, gives, GoOn, functions_of, last_functions, minus_after, one_more, declared_step, declared, functions}
use Rattle.wellformed_phrases.specs.Agreement.{IfParsed}
use Rattle.wellformed_phrases.specs.Sound.{AreNamed, AreNamedFunctions}
use Rattle.wellformed_phrases.proofs.Parses.{parsed_two, parsed_any, parsed_all}
use Rattle.wellformed_texts.proofs.Parses.{parsed_behind, parsed_if, parsed_bracket, each_is, every_behind}
use Rattle.wellformed_texts.proofs.Typed.{IsNamed, ident_is}

abbrev HasName : RawSymbol → Type 0
HasName it = IsName it.name.name

in_symbol_is : (place : Place) (items : List Sexp) → IfParsed (in_symbol place items) HasName
in_symbol_is place [] = tt
in_symbol_is place (head ∷ rest) =
    let params = typed item.Variable place rest [] false in
    parsed_behind HasName (short (ends_in_minus rest) place (head ∷ rest)) (over_two symbol_of (ident head) params)
    (parsed_two IsNamed (λ groups. ⊤) HasName symbol_of (ident head) params (λ name groups is any. is) (ident_is head) (parsed_any params))

symbol_is : (tree : Sexp) → IfParsed (symbol tree) HasName
symbol_is tree = parsed_bracket HasName in_symbol in_symbol_is tree

pub predicates_are : (items : List Sexp) → IfParsed (predicates items) AreNamed
predicates_are items = parsed_all HasName _ (each_is HasName symbol items symbol_is)

-- ---- functions

abbrev GoesOn : GoOn → Type 0
GoesOn go = (functions : List RawSymbol) (due : Bool) → AreNamed functions → IfParsed (go functions due) AreNamedFunctions

last_are : (place : Place) (functions : List RawSymbol) (due : Bool) → AreNamed functions → IfParsed (last_functions place functions due) AreNamedFunctions
last_are place functions true are = tt
last_are place [] false are = tt
last_are place (f ∷ fs) false are = (are, tt)

minus_are : (tree : Sexp) (functions : List RawSymbol) (go : GoOn) → AreNamed functions → GoesOn go → IfParsed (minus_after tree functions go) AreNamedFunctions
minus_are tree [] go are on = tt
minus_are tree (f ∷ fs) go are on = on (f ∷ fs) true are

more_are : (v : Read RawSymbol) (functions : List RawSymbol) (go : GoOn) → IfParsed v HasName → AreNamed functions → GoesOn go
    → IfParsed (one_more v functions go) AreNamedFunctions
more_are (parsed f) functions go is are on = on (functions ++ f ∷ []) false (every_behind HasName functions f are is)
more_are (rejected f fs) functions go is are on = tt

step_are : (tree : Sexp) (functions : List RawSymbol) (due : Bool) (go : GoOn) → AreNamed functions → GoesOn go
    → IfParsed (declared_step tree functions due go) AreNamedFunctions
step_are tree functions true go are on =
    parsed_two (λ type. ⊤) AreNamedFunctions AreNamedFunctions (λ type groups. functions_of functions type ∷ groups) (gives tree) (go [] false)
    (λ type groups any more. (are, more)) (parsed_any (gives tree)) (on [] false tt)
step_are tree functions false go are on =
    parsed_if AreNamedFunctions (is_minus tree) (minus_after tree functions go) (one_more (symbol tree) functions go) (minus_are tree functions go are on)
    (more_are (symbol tree) functions go (symbol_is tree) are on)

declared_are : (place : Place) (items : List Sexp) (functions : List RawSymbol) (due : Bool) → AreNamed functions
    → IfParsed (declared place items functions due) AreNamedFunctions
declared_are place [] functions due are = last_are place functions due are
declared_are place (tree ∷ rest) functions due are = step_are tree functions due (declared place rest) are (λ fs d h. declared_are place rest fs d h)

pub functions_are : (place : Place) (items : List Sexp) → IfParsed (functions place items) AreNamedFunctions
functions_are place items =
    parsed_behind AreNamedFunctions (lacking (ends_in_minus items) place) (declared place items [] false) (declared_are place items [] false tt)
