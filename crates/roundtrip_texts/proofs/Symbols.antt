-- The abstract syntax of written predicates and functions is that of what is declared.
use Rattle.std.proofs.Common.{◌≡◌, ℕ, ◌+◌, Bool, true, List, [], ◌∷◌, map, refl, ap}
use Rattle.up_text.specs.declared.name.Name.{Name}
use Rattle.up_tree.specs.declared.problem.Function.{Function}
use Rattle.up_tree.specs.declared.problem.Gives.{Gives}
use Rattle.pddl_parse.specs.declared.raw.RawSymbol.{RawSymbol}
use Rattle.pddl_parse.specs.declared.raw.RawFunctions.{RawFunctions}
use Rattle.pddl_parse.specs.declared.raw.RawGives.{RawGives}
use Rattle.up_declare.specs.Declaring.{given}
use Rattle.roundtrip_shapes.specs.Raw.{at, IsEmpty, empty, first}
use Rattle.roundtrip_shapes.specs.RawFiles.{AreEach, numbered, IsRawSymbol, IsRawGives, gives_number, gives_object, AreRawFunctions, no_functions, more_functions}
use Rattle.roundtrip_names.specs.Symbols.{IsSymbol, AreSymbols, own_group, AreOwnGroups}

numbered_types : (k : ℕ) (args : List Name) → map (λ v. v.of) (numbered k args) ≡ args
numbered_types k [] = refl
numbered_types k (of ∷ args) = ap (λ types. of ∷ types) (numbered_types (k + 1) args)

a_symbol : (typed : Bool) (word : Name) (args : List Name) (symbol : RawSymbol) → IsRawSymbol typed word args symbol → IsSymbol typed word args symbol
a_symbol typed word args symbol is = record { name = is.name; vars = numbered 1 args; params = is.params; types = numbered_types 1 args }

pub each_symbol : {D : Type 0} (name_in : D → Name) (args_in : D → List Name) (typed : Bool) (ds : List D) (symbols : List RawSymbol)
    → AreEach (λ d symbol. IsRawSymbol typed (name_in d) (args_in d) symbol) ds IsEmpty symbols → AreSymbols typed (map (λ d. (name_in d, args_in d)) ds) symbols
each_symbol name_in args_in typed [] _ empty = empty
each_symbol name_in args_in typed (d ∷ ds) _ (first symbol symbols is are) =
    first symbol symbols (a_symbol typed (name_in d) (args_in d) symbol is) (each_symbol name_in args_in typed ds symbols are)

given_is : (g : Gives) (of : RawGives) → IsRawGives g of → g ≡ given of
given_is _ _ gives_number = refl
given_is _ _ (gives_object of _ (at place)) = refl

-- functions of which it is written what each gives
pub own_groups : (typed : Bool) (ds : List Function) (groups : List RawFunctions) → AreRawFunctions typed true ds groups → AreOwnGroups typed ds groups
own_groups typed [] _ (no_functions _) = empty
own_groups typed (d ∷ ds) _ (more_functions _ _ symbol of groups is gives are) =
    first (record { functions = symbol ∷ []; gives = of }) groups (own_group symbol of (a_symbol typed d.name d.args symbol is) (given_is d.gives of gives))
    (own_groups typed ds groups are)
