-- Declarations of predicates and of functions are read exactly from the trees that spell them.
use Rattle.std.proofs.Common.{◌≡◌, List, [], ◌∷◌, ◌++◌, append_assoc, append-nil, refl, sym, subst, true, false, Bool}
use Rattle.std.specs.Prelude.{◌≢◌, codes}
use Rattle.up_text.specs.declared.place.Place.{Place}
use Rattle.up_text.specs.Names.{is_reserved, reserved_words}
use Rattle.pddl_lex.specs.declared.tree.TokenKind.TheVariants as kind
use Rattle.pddl_lex.specs.declared.tree.Sign.TheVariants as sign
use Rattle.pddl_lex.specs.declared.tree.Sexp.{Sexp, Group}
use Rattle.pddl_lex.specs.Parses.{parsed, rejected, over, over_two}
use Rattle.pddl_parse.specs.declared.raw.RawGroup.{RawGroup}
use Rattle.pddl_parse.specs.declared.raw.RawSymbol.{RawSymbol}
use Rattle.pddl_parse.specs.declared.raw.RawFunctions.{RawFunctions}
use Rattle.pddl_parse.specs.declared.raw.RawGives.{RawGives}
use Rattle.pddl_parse.specs.declared.raw.RawGives.TheVariants as given
use Rattle.pddl_parse.specs.declared.typed.Item.TheVariants as item
use Rattle.pddl_parse.specs.Shapes as shape
use Rattle.pddl_parse.specs.Shapes.{Read, misfit, lacking}
use Rattle.pddl_parse.specs.Brackets.{short, is_word}
use Rattle.pddl_parse.specs.TypedLists as lists
use Rattle.pddl_parse.specs.TypedLists.{is_minus, ends_after, ends_in_minus, variable_list}
use Rattle.pddl_parse.specs.Symbols.{symbol_of, in_symbol, symbol, predicates, gives, GoOn, functions_of, last_functions, minus_after, one_more, declared, functions}
use Rattle.pddl_parse.specs.Forms.{leaf, IsIdent, AreTyped}
use Rattle.pddl_parse.proofs.Nodes.{bracket-Group, is_minus-Group, is_word-Leaf}
use Rattle.pddl_parse.proofs.Read.{ident_read, ident_no_minus, ends_through, typed_read}
use Rattle.pddl_parse.proofs.Spelled.{Sound, sound_over, sound_two, sound_behind, ident_sound}
use Rattle.pddl_parse.proofs.SpelledFormulas.{IsWord}
use Rattle.pddl_parse.proofs.SpelledLists.{minus_is, list_sound}
use Rattle.grammar_shapes.specs.Symbols.{IsSymbol, a_symbol, AreSymbols, no_symbols, more_symbols, ArePredicates, IsFunctionType, gives_numbers, gives_objects, AreFunctions, no_functions, untyped_functions, typed_functions}
use Rattle.grammar_shapes.proofs.Parses.{sound_is, sound_if, sound_all, sound_bracket, is_word_is, ident_unlike, none_before}

-- ---- parameters after a name

not_short : (b : Bool) (place : Place) (items : List Sexp) → short b place items ≡ [] → b ≡ false
not_short true place items e = cc
not_short false place items e = refl

no_minus : (place : Place) (vars : List Sexp) (params : List RawGroup) → AreTyped vars params → ends_in_minus vars ≡ false
no_minus place vars params are =
    not_short (ends_in_minus vars) place vars
    (none_before (short (ends_in_minus vars) place vars) (lists.typed item.Variable place vars [] false) params (typed_read place vars params are))

params_read : (place : Place) (vars : List Sexp) (params : List RawGroup) → AreTyped vars params
    → lists.typed item.Variable place vars [] false ≡ parsed params
params_read place vars params are = rw (no_minus place vars params are) at (typed_read place vars params are)

params_sound : (place : Place) (vars : List Sexp) → ends_in_minus vars ≡ false
    → Sound (lists.typed item.Variable place vars [] false) (AreTyped vars)
params_sound place vars ends = rw ends at (list_sound place vars)

-- ---- predicates

symbol_read : (tree : Sexp) (it : RawSymbol) → IsSymbol tree it → symbol tree ≡ parsed it
symbol_read _ _ (a_symbol place head name vars params is are) =
    rw (
      bracket-Group in_symbol place (head ∷ vars),
      no_minus place vars params are,
      ident_read head name is,
      params_read place vars params are,
    ) refl

in_symbol_sound : (place : Place) (items : List Sexp) → Sound (in_symbol place items) (IsSymbol (Group place items))
in_symbol_sound place [] = tt
in_symbol_sound place (head ∷ vars) =
    sound_behind (IsSymbol (Group place (head ∷ vars))) (short (ends_in_minus vars) place (head ∷ vars)) _ (λ e.
    sound_two (IsIdent head) (AreTyped vars) (IsSymbol (Group place (head ∷ vars))) symbol_of (shape.ident head)
    (lists.typed item.Variable place vars [] false)
    (λ name params is are. a_symbol place head name vars params is are) (ident_sound head)
    (params_sound place vars (not_short (ends_in_minus vars) place (head ∷ vars) e)))

symbol_sound : (tree : Sexp) → Sound (symbol tree) (IsSymbol tree)
symbol_sound tree = sound_bracket IsSymbol in_symbol in_symbol_sound tree

pub predicates_read : (trees : List Sexp) (symbols : List RawSymbol) → ArePredicates trees symbols → predicates trees ≡ parsed symbols
predicates_read _ _ no_symbols = refl
predicates_read _ _ (more_symbols tree it trees symbols is others) = rw (symbol_read tree it is, predicates_read trees symbols others) refl

symbols_sound : (trees : List Sexp) → Sound (predicates trees) (AreSymbols trees)
symbols_sound trees =
    sound_all IsSymbol AreSymbols symbol no_symbols more_symbols symbol_sound trees

pub predicates_spelled : (trees : List Sexp) (symbols : List RawSymbol) → predicates trees ≡ parsed symbols → ArePredicates trees symbols
predicates_spelled trees symbols e = sound_is (AreSymbols trees) (predicates trees) symbols (symbols_sound trees) e

-- ---- the types of functions

number_taken : is_reserved (codes "number") ≡ true
unfolding reserved_words
number_taken = refl

type_read : (tree : Sexp) (type : RawGives) → IsFunctionType tree type → gives tree ≡ parsed type
type_read _ _ (gives_numbers place) = rw is_word-Leaf refl
type_read _ _ (gives_objects tree type is) = rw (ident_unlike (codes "number") number_taken tree type is, ident_read tree type is) refl

type_sound : (tree : Sexp) → Sound (gives tree) (IsFunctionType tree)
type_sound tree =
    sound_if (IsFunctionType tree) (is_word (codes "number") tree) (parsed given.Number) (over given.Object (shape.ident tree))
    (λ e. let is : IsWord tree (codes "number") = is_word_is (codes "number") tree e in
    subst (λ t. IsFunctionType t given.Number) (sym is.is) (gives_numbers is.at))
    (λ e. sound_over (IsIdent tree) (IsFunctionType tree) given.Object (shape.ident tree) (gives_objects tree) (ident_sound tree))

type_no_minus : (tree : Sexp) (type : RawGives) → IsFunctionType tree type → is_minus tree ≡ false
unfolding is_minus
type_no_minus _ _ (gives_numbers place) = refl
type_no_minus _ _ (gives_objects tree type is) = ident_no_minus tree type is

-- ---- functions that are spelled are read

symbol_no_minus : (tree : Sexp) (it : RawSymbol) → IsSymbol tree it → is_minus tree ≡ false
symbol_no_minus _ _ (a_symbol place head name vars params is are) = is_minus-Group place (head ∷ vars)

symbols_on : (place : Place) (trees : List Sexp) (symbols : List RawSymbol) → AreSymbols trees symbols
    → (rest : List Sexp) (so_far : List RawSymbol)
    → declared place (trees ++ rest) so_far false ≡ declared place rest (so_far ++ symbols) false
symbols_on place _ _ no_symbols rest so_far = rw append-nil refl
symbols_on place _ _ (more_symbols tree it trees symbols is others) rest so_far =
    rw (
      symbol_no_minus tree it is,
      symbol_read tree it is,
      symbols_on place trees symbols others rest (so_far ++ it ∷ []),
      append_assoc,
    ) refl

minus_on : (place at : Place) (tree : Sexp) (rest : List Sexp) (fs : List RawSymbol) → fs ≢ []
    → declared place (leaf (kind.Sign sign.Minus) at ∷ tree ∷ rest) fs false
    ≡ over_two (λ type groups. functions_of fs type ∷ groups) (gives tree) (declared place rest [] false)
unfolding is_minus
minus_on place at tree rest [] some = absurd (some refl)
minus_on place at tree rest (f ∷ fs) some = refl

last_on : (place : Place) (fs : List RawSymbol) → fs ≢ [] → last_functions place fs false ≡ parsed (functions_of fs given.Number ∷ [])
last_on place [] some = absurd (some refl)
last_on place (f ∷ fs) some = refl

declared_read : (place : Place) (trees : List Sexp) (groups : List RawFunctions) → AreFunctions trees groups
    → declared place trees [] false ≡ parsed groups
declared_read place _ _ no_functions = refl
declared_read place _ _ (untyped_functions trees fs some are) =
    rw (← append-nil trees, symbols_on place trees fs are [] []) (last_on place fs some)
declared_read place _ _ (typed_functions trees fs at tree type rest groups some are is others) =
    rw (
      symbols_on place trees fs are (leaf (kind.Sign sign.Minus) at ∷ tree ∷ rest) [],
      minus_on place at tree rest fs some,
      type_read tree type is,
      declared_read place rest groups others,
    ) refl

ends_symbols : (trees : List Sexp) (symbols : List RawSymbol) → AreSymbols trees symbols → ends_after false trees ≡ false
ends_symbols _ _ no_symbols = refl
ends_symbols _ _ (more_symbols tree it trees symbols is others) = rw (symbol_no_minus tree it is) (ends_symbols trees symbols others)

ends_functions : (trees : List Sexp) (groups : List RawFunctions) → AreFunctions trees groups → ends_after false trees ≡ false
ends_functions _ _ no_functions = refl
ends_functions _ _ (untyped_functions trees fs some are) = ends_symbols trees fs are
ends_functions _ _ (typed_functions trees fs at tree type rest groups some are is others) =
    rw (ends_through trees false (leaf (kind.Sign sign.Minus) at) (tree ∷ rest), type_no_minus tree type is)
    (ends_functions rest groups others)

pub functions_read : (place : Place) (trees : List Sexp) (groups : List RawFunctions) → AreFunctions trees groups
    → functions place trees ≡ parsed groups
functions_read place trees groups is = rw (ends_functions trees groups is, declared_read place trees groups is) refl

-- ---- functions that are read are spelled

snoc : (front : List Sexp) (fs : List RawSymbol) → AreSymbols front fs → (tree : Sexp) (it : RawSymbol) → IsSymbol tree it
    → AreSymbols (front ++ tree ∷ []) (fs ++ it ∷ [])
snoc _ _ no_symbols tree it is = more_symbols tree it [] [] is no_symbols
snoc _ _ (more_symbols first f front fs here others) tree it is =
    more_symbols first f (front ++ tree ∷ []) (fs ++ it ∷ []) here (snoc front fs others tree it is)

none_front : (front : List Sexp) → AreSymbols front [] → front ≡ []
none_front _ no_symbols = refl

last_sound : (place : Place) (front : List Sexp) (fs : List RawSymbol) → AreSymbols front fs
    → Sound (last_functions place fs false) (AreFunctions (front ++ []))
last_sound place front [] are = subst (λ xs. AreFunctions (xs ++ []) []) (sym (none_front front are)) no_functions
last_sound place front (f ∷ fs) are = rw append-nil (untyped_functions front (f ∷ fs) (λ e. cc) are)

minus_sound : (P : List RawFunctions → Type 0) (tree : Sexp) (fs : List RawSymbol) (go : GoOn) → (fs ≢ [] → Sound (go fs true) P)
    → Sound (minus_after tree fs go) P
minus_sound P tree [] go h = sound_behind P (misfit tree ∷ []) (go [] true) (λ e. cc)
minus_sound P tree (f ∷ fs) go h = h (λ e. cc)

more_sound : (P : List RawFunctions → Type 0) (tree : Sexp) (v : Read RawSymbol) (fs : List RawSymbol) (go : GoOn) → Sound v (IsSymbol tree)
    → ((it : RawSymbol) → IsSymbol tree it → Sound (go (fs ++ it ∷ []) false) P) → Sound (one_more v fs go) P
more_sound P tree (parsed it) fs go is h = h it is
more_sound P tree (rejected g gs) fs go is h = sound_behind P (g ∷ gs) (go fs false) (λ e. cc)

mutual
  untyped_sound : (place : Place) (trees front : List Sexp) (fs : List RawSymbol) → AreSymbols front fs
      → Sound (declared place trees fs false) (AreFunctions (front ++ trees))
  untyped_sound place [] front fs are = last_sound place front fs are
  untyped_sound place (tree ∷ rest) front fs are =
      sound_if (AreFunctions (front ++ tree ∷ rest)) (is_minus tree) _ _
      (λ e. minus_sound (AreFunctions (front ++ tree ∷ rest)) tree fs (declared place rest) (λ some.
      subst (λ x. Sound (declared place rest fs true) (AreFunctions (front ++ x ∷ rest))) (sym (minus_is tree e).is)
      (typed_sound place rest front fs (minus_is tree e).at are some)))
      (λ e. more_sound (AreFunctions (front ++ tree ∷ rest)) tree (symbol tree) fs (declared place rest) (symbol_sound tree) (λ it is.
      subst (λ xs. Sound (declared place rest (fs ++ it ∷ []) false) (AreFunctions xs)) (append_assoc front (tree ∷ []) rest)
      (untyped_sound place rest (front ++ tree ∷ []) (fs ++ it ∷ []) (snoc front fs are tree it is))))

  typed_sound : (place : Place) (trees front : List Sexp) (fs : List RawSymbol) (at : Place) → AreSymbols front fs → fs ≢ []
      → Sound (declared place trees fs true) (AreFunctions (front ++ leaf (kind.Sign sign.Minus) at ∷ trees))
  typed_sound place [] front fs at are some = tt
  typed_sound place (tree ∷ rest) front fs at are some =
      sound_two (IsFunctionType tree) (AreFunctions rest) (AreFunctions (front ++ leaf (kind.Sign sign.Minus) at ∷ tree ∷ rest)) _
      (gives tree)
      (declared place rest [] false) (λ type groups is others. typed_functions front fs at tree type rest groups some are is others)
      (type_sound tree) (untyped_sound place rest [] [] no_symbols)

functions_sound : (place : Place) (trees : List Sexp) → Sound (functions place trees) (AreFunctions trees)
functions_sound place trees =
    sound_behind (AreFunctions trees) (lacking (ends_in_minus trees) place) (declared place trees [] false)
    (λ e. untyped_sound place trees [] [] no_symbols)

pub functions_spelled : (place : Place) (trees : List Sexp) (groups : List RawFunctions) → functions place trees ≡ parsed groups
    → AreFunctions trees groups
functions_spelled place trees groups e = sound_is (AreFunctions trees) (functions place trees) groups (functions_sound place trees) e
