-- Objects, predicates and functions are read exactly where they are declared.
use Rattle.std.proofs.Common.{◌≡◌, true, not, ◌||◌, List, [], ◌∷◌, Option, Some, None, refl, ap, sym, ◌∙◌, subst}
use Rattle.std.specs.Prelude.{is_some}
use Rattle.std.specs.Map.{lookup}
use Rattle.std.specs.Cmp.Lexicographic.{bytes_decides}
use Rattle.up_text.specs.declared.name.Name.{Name}
use Rattle.up_text.specs.Names.{same_name}
use Rattle.pddl_lex.specs.Parses.{parsed}
use Rattle.pddl_parse.specs.declared.raw.Ident.{Ident}
use Rattle.pddl_parse.specs.declared.raw.RawGives.{RawGives}
use Rattle.pddl_parse.specs.declared.raw.RawGives.TheVariants as stated
use Rattle.pddl_parse.specs.declared.raw.RawGroup.{RawGroup}
use Rattle.pddl_parse.specs.declared.raw.RawSymbol.{RawSymbol}
use Rattle.pddl_parse.specs.declared.raw.RawFunctions.{RawFunctions}
use Rattle.pddl_parse.specs.declared.raw.DomainForm.{DomainForm}
use Rattle.pddl_parse.proofs.Spelled.{Sound, sound_over, sound_behind}
use Rattle.up_tree.specs.declared.problem.Gives.{Gives}
use Rattle.up_phrase.specs.declared.names.Signature.{Signature}
use Rattle.up_phrase.specs.declared.reason.Reason.TheVariants.{Duplicate, UnknownName}
use Rattle.up_phrase.specs.Declarations.{Declarations, types_alone}
use Rattle.up_phrase.specs.Lookups.{is_type, type_of, predicate_of, function_of}
use Rattle.up_phrase.specs.Named.{at, is_object}
use Rattle.up_phrase.specs.Scopes.{type_named, type_fault}
use Rattle.up_phrase.specs.Walks.{after, unless, in_turn}
use Rattle.up_declare.specs.Declaring.{and_object, and_predicate, and_function, declared_as, with_object, with_group, with_objects, is_symbol, arg_types, new_symbol, with_predicates, given, gives_fault, signature, with_function, with_function_group, with_functions}
use Rattle.up_declare.specs.Types.{types}
use Rattle.up_check.specs.Domains.{declared}
use Rattle.grammar_names.specs.Phrases.{HasType, unstated, of_type}
use Rattle.grammar_names.specs.DeclaredTypes.{DeclareTypes}
use Rattle.grammar_names.specs.Declares.{DeclareNames, no_names, new_name, known_name, DeclareObjects, no_objects, more_objects, HaveTypes, no_parameters, more_parameters, IsNewSymbol, DeclarePredicates, no_predicates, more_predicates, GiveValues, numbers, objects, DeclareGiving, no_symbols, more_symbols, DeclareFunctions, no_functions, more_functions, DeclareAll}
use Rattle.grammar_names.proofs.DeclaredTypes.{types_read, types_declare}
use Rattle.grammar_shapes.proofs.Parses.{sound_map, sound_is}
use Rattle.grammar_names.proofs.Parses.{sound_after, none_of, holds}
use Rattle.grammar_shapes.proofs.Walks.{sound_of}

-- ---- types that are stated

module _ (names : Declarations) where
  type_read : (stated : Option Ident) (of : Name) → HasType names stated of → type_named stated ≡ of
  type_read _ _ unstated = refl
  type_read _ _ (of_type it is) = refl

  type_known : (stated : Option Ident) (of : Name) → HasType names stated of → type_fault names stated ≡ []
  type_known _ _ unstated = refl
  type_known _ _ (of_type it is) = none_of (is_type names it.name) (at it.place UnknownName it.name) is

  type_had : (stated : Option Ident) → type_fault names stated ≡ [] → HasType names stated (type_named stated)
  type_had None none = unstated
  type_had (Some it) none = of_type it (holds (is_type names it.name) _ none)

  value_read : (gave : RawGives) (g : Gives) → GiveValues names gave g → given gave ≡ g
  value_read _ _ numbers = refl
  value_read _ _ (objects of is) = refl

  value_known : (gave : RawGives) (g : Gives) → GiveValues names gave g → gives_fault names gave ≡ []
  value_known _ _ numbers = refl
  value_known _ _ (objects of is) = none_of (is_type names of.name) (at of.place UnknownName of.name) is

  value_had : (gave : RawGives) → gives_fault names gave ≡ [] → GiveValues names gave (given gave)
  value_had stated.Number none = numbers
  value_had (stated.Object of) none = objects of (holds (is_type names of.name) _ none)

-- what is a type hangs on the types alone
module _ (one two : Declarations) (same : one.types ≡ two.types) where
  is_type_too : (t : Name) → is_type one t ≡ is_type two t
  is_type_too t = ap (λ ts. is_object t || is_some (lookup (same_name t) ts)) same

  type_too : (stated : Option Ident) (of : Name) → HasType one stated of → HasType two stated of
  type_too _ _ unstated = unstated
  type_too _ _ (of_type it is) = of_type it (sym (is_type_too it.name) ∙ is)

  value_too : (gave : RawGives) (g : Gives) → GiveValues one gave g → GiveValues two gave g
  value_too _ _ numbers = numbers
  value_too _ _ (objects of is) = objects of (sym (is_type_too of.name) ∙ is)

-- ---- constants and objects

module _ (of : Name) where
  names_read : (items : List Ident) (names more : Declarations) → DeclareNames of items names more
      → in_turn (with_object of) items names ≡ parsed more
  names_read _ _ _ (no_names names) = refl
  names_read _ _ _ (new_name it others names more free rest) = rw free (names_read others (and_object names it.name of) more rest)
  names_read _ _ _ (known_name it others names more is rest) =
      rw (is, (bytes_decides of of).1 refl) (names_read others names more rest)

  names_sound : (items : List Ident) (names : Declarations) → Sound (in_turn (with_object of) items names) (DeclareNames of items names)
  names_sound [] names = no_names names
  names_sound (it ∷ others) names = by (λ a. names_sound others a) (type_of names it.name) refl
    where
      by : ((a : Declarations) → Sound (in_turn (with_object of) others a) (DeclareNames of others a))
          → (found : Option Name) → type_of names it.name ≡ found
          → Sound (after (declared_as found of it names) (in_turn (with_object of) others)) (DeclareNames of (it ∷ others) names)
      by later None free =
          sound_map (DeclareNames of others (and_object names it.name of)) (DeclareNames of (it ∷ others) names) _
          (λ more rest. new_name it others names more free rest) (later (and_object names it.name of))
      by later (Some first) is =
          sound_after (λ (a : Declarations). (a ≡ names) × (first ≡ of)) (DeclareNames of (it ∷ others) names) _ _
          (sound_behind (λ (a : Declarations). (a ≡ names) × (first ≡ of)) (unless (same_name first of) (at it.place Duplicate it.name)) (parsed names)
          (λ none. (refl, (bytes_decides first of).0 (holds (same_name first of) _ none)))) (λ a (same, type).
          sound_map (DeclareNames of others a) (DeclareNames of (it ∷ others) names) _
          (λ more rest. known_name it others names more (is ∙ ap Some type) (subst (λ n. DeclareNames of others n more) same rest))
          (later a))

  names_types : (items : List Ident) (names more : Declarations) → DeclareNames of items names more → names.types ≡ more.types
  names_types _ _ _ (no_names names) = refl
  names_types _ _ _ (new_name it others names more free rest) = names_types others (and_object names it.name of) more rest
  names_types _ _ _ (known_name it others names more is rest) = names_types others names more rest

pub objects_read : (groups : List RawGroup) (names more : Declarations) → DeclareObjects groups names more → with_objects groups names ≡ parsed more
objects_read _ _ _ (no_objects names) = refl
objects_read _ _ _ (more_objects group of others names inner more has declare rest) =
    rw (
      type_read names group.of of has,
      names_read of group.names names inner declare,
      type_known inner group.of of (type_too names inner (names_types of group.names names inner declare) group.of of has),
    ) (objects_read others inner more rest)

-- one group
abbrev GroupOf : RawGroup → Declarations → Declarations → Type 0
GroupOf group names inner = HasType names group.of (type_named group.of) × DeclareNames (type_named group.of) group.names names inner

group_sound : (group : RawGroup) (names : Declarations) → Sound (with_group group names) (GroupOf group names)
group_sound group names =
    sound_after (DeclareNames (type_named group.of) group.names names) (GroupOf group names) _ _
    (names_sound (type_named group.of) group.names names) (λ inner declare.
    sound_behind (GroupOf group names) (type_fault inner group.of) (parsed inner) (λ none.
    (type_too inner names (sym (names_types (type_named group.of) group.names names inner declare)) group.of (type_named group.of) (type_had inner group.of none), declare)))

objects_sound : (groups : List RawGroup) (names : Declarations) → Sound (with_objects groups names) (DeclareObjects groups names)
objects_sound [] names = no_objects names
objects_sound (group ∷ others) names =
    sound_after (GroupOf group names) (DeclareObjects (group ∷ others) names) _ _ (group_sound group names) (λ inner (has, declare).
    sound_map (DeclareObjects others inner) (DeclareObjects (group ∷ others) names) _
    (λ more rest. more_objects group (type_named group.of) others names inner more has declare rest) (objects_sound others inner))

pub objects_declare : (groups : List RawGroup) (names more : Declarations) → with_objects groups names ≡ parsed more → DeclareObjects groups names more
objects_declare groups names more e = sound_is (DeclareObjects groups names) (with_objects groups names) more (objects_sound groups names) e

-- ---- predicates and functions

module _ (names : Declarations) where
  parameters_read : (groups : List RawGroup) (args : List Name) → HaveTypes names groups args → arg_types names groups ≡ parsed args
  parameters_read _ _ no_parameters = refl
  parameters_read _ _ (more_parameters group of others args has rest) =
      rw (type_read names group.of of has, type_known names group.of of has, parameters_read others args rest) refl

  parameters_sound : (groups : List RawGroup) → Sound (arg_types names groups) (HaveTypes names groups)
  parameters_sound [] = no_parameters
  parameters_sound (group ∷ others) =
      sound_behind (HaveTypes names (group ∷ others)) (type_fault names group.of) _ (λ none.
      sound_over (HaveTypes names others) (HaveTypes names (group ∷ others)) _ _
      (λ args rest. more_parameters group (type_named group.of) others args (type_had names group.of none) rest) (parameters_sound others))

  symbol_read : (symbol : RawSymbol) (args : List Name) → IsNewSymbol names symbol args → new_symbol names symbol ≡ parsed args
  symbol_read symbol args is = rw (is.no_predicate, is.no_function) (parameters_read symbol.params args is.parameters)

  is_new : (symbol : RawSymbol) (args : List Name) → not (is_symbol names symbol.name.name) ≡ true → HaveTypes names symbol.params args
      → IsNewSymbol names symbol args
  is_new symbol args new have = by (predicate_of names symbol.name.name) (function_of names symbol.name.name) refl refl new
    where
      by : (p : Option (List Name)) (f : Option Signature) → predicate_of names symbol.name.name ≡ p → function_of names symbol.name.name ≡ f
          → not (is_some p || is_some f) ≡ true → IsNewSymbol names symbol args
      by None None p f e = record { no_predicate = p; no_function = f; parameters = have }
      by None (Some function) p f e = cc
      by (Some predicate) g p f e = cc

  symbol_sound : (symbol : RawSymbol) → Sound (new_symbol names symbol) (IsNewSymbol names symbol)
  symbol_sound symbol =
      sound_behind (IsNewSymbol names symbol) (unless (not (is_symbol names symbol.name.name)) (at symbol.name.place Duplicate symbol.name.name)) _ (λ none.
      sound_map (HaveTypes names symbol.params) (IsNewSymbol names symbol) _
      (λ args have. is_new symbol args (holds (not (is_symbol names symbol.name.name)) _ none) have) (parameters_sound symbol.params))

pub predicates_read : (symbols : List RawSymbol) (names more : Declarations) → DeclarePredicates symbols names more
    → with_predicates symbols names ≡ parsed more
predicates_read _ _ _ (no_predicates names) = refl
predicates_read _ _ _ (more_predicates symbol args others names more is rest) =
    rw (symbol_read names symbol args is) (predicates_read others (and_predicate names symbol.name.name args) more rest)

predicates_sound : (symbols : List RawSymbol) (names : Declarations) → Sound (with_predicates symbols names) (DeclarePredicates symbols names)
predicates_sound [] names = no_predicates names
predicates_sound (symbol ∷ others) names =
    sound_after More (DeclarePredicates (symbol ∷ others) names) _ _
    (sound_after (IsNewSymbol names symbol) More _ _ (symbol_sound names symbol) (λ args is. (args, refl, is))) (λ inner (args, same, is).
    sound_map (DeclarePredicates others inner) (DeclarePredicates (symbol ∷ others) names) _
    (λ more rest. more_predicates symbol args others names more is (subst (λ n. DeclarePredicates others n more) same rest)) (predicates_sound others inner))
  where
    More : Declarations → Type 0
    More inner = (args : List Name) × (inner ≡ and_predicate names symbol.name.name args) × IsNewSymbol names symbol args

pub predicates_declare : (symbols : List RawSymbol) (names more : Declarations) → with_predicates symbols names ≡ parsed more
    → DeclarePredicates symbols names more
predicates_declare symbols names more e = sound_is (DeclarePredicates symbols names) (with_predicates symbols names) more (predicates_sound symbols names) e

module _ (gave : RawGives) where
  giving_read : (symbols : List RawSymbol) (names more : Declarations) → DeclareGiving (given gave) symbols names more
      → in_turn (with_function gave) symbols names ≡ parsed more
  giving_read _ _ _ (no_symbols names) = refl
  giving_read _ _ _ (more_symbols symbol args others names more is rest) =
      rw (symbol_read names symbol args is) (giving_read others (and_function names symbol.name.name (signature gave args)) more rest)

  giving_sound : (symbols : List RawSymbol) (names : Declarations)
      → Sound (in_turn (with_function gave) symbols names) (DeclareGiving (given gave) symbols names)
  giving_sound [] names = no_symbols names
  giving_sound (symbol ∷ others) names =
      sound_after More (DeclareGiving (given gave) (symbol ∷ others) names) _ _
      (sound_after (IsNewSymbol names symbol) More _ _ (symbol_sound names symbol) (λ args is. (args, refl, is))) (λ inner (args, same, is).
      sound_map (DeclareGiving (given gave) others inner) (DeclareGiving (given gave) (symbol ∷ others) names) _
      (λ more rest. more_symbols symbol args others names more is (subst (λ n. DeclareGiving (given gave) others n more) same rest)) (giving_sound others inner))
    where
      More : Declarations → Type 0
      More inner = (args : List Name) × (inner ≡ and_function names symbol.name.name (signature gave args)) × IsNewSymbol names symbol args

giving_types : (g : Gives) (symbols : List RawSymbol) (names more : Declarations) → DeclareGiving g symbols names more → names.types ≡ more.types
giving_types g _ _ _ (no_symbols names) = refl
giving_types g _ _ _ (more_symbols symbol args others names more is rest) =
    giving_types g others (and_function names symbol.name.name (record { args = args; gives = g })) more rest

pub functions_read : (groups : List RawFunctions) (names more : Declarations) → DeclareFunctions groups names more
    → with_functions groups names ≡ parsed more
functions_read _ _ _ (no_functions names) = refl
functions_read _ _ _ (more_functions group g others names inner more gives declare rest) =
    rw (
      giving_read group.gives group.functions names inner
          (subst (λ v. DeclareGiving v group.functions names inner) (sym (value_read names group.gives g gives)) declare),
      value_known inner group.gives g (value_too names inner (giving_types g group.functions names inner declare) group.gives g gives),
    ) (functions_read others inner more rest)

abbrev GivingOf : RawFunctions → Declarations → Declarations → Type 0
GivingOf group names inner = GiveValues names group.gives (given group.gives) × DeclareGiving (given group.gives) group.functions names inner

giving_group_sound : (group : RawFunctions) (names : Declarations) → Sound (with_function_group group names) (GivingOf group names)
giving_group_sound group names =
    sound_after (DeclareGiving (given group.gives) group.functions names) (GivingOf group names) _ _
    (giving_sound group.gives group.functions names) (λ inner declare.
    sound_behind (GivingOf group names) (gives_fault inner group.gives) (parsed inner) (λ none.
    (value_too inner names (sym (giving_types (given group.gives) group.functions names inner declare)) group.gives (given group.gives) (value_had inner group.gives none), declare)))

functions_sound : (groups : List RawFunctions) (names : Declarations) → Sound (with_functions groups names) (DeclareFunctions groups names)
functions_sound [] names = no_functions names
functions_sound (group ∷ others) names =
    sound_after (GivingOf group names) (DeclareFunctions (group ∷ others) names) _ _ (giving_group_sound group names) (λ inner (gives, declare).
    sound_map (DeclareFunctions others inner) (DeclareFunctions (group ∷ others) names) _
    (λ more rest. more_functions group (given group.gives) others names inner more gives declare rest) (functions_sound others inner))

pub functions_declare : (groups : List RawFunctions) (names more : Declarations) → with_functions groups names ≡ parsed more
    → DeclareFunctions groups names more
functions_declare groups names more e = sound_is (DeclareFunctions groups names) (with_functions groups names) more (functions_sound groups names) e

-- ---- the declarations of a domain

pub declared_read : (form : DomainForm) (names : Declarations) → DeclareAll form names → declared form ≡ parsed names
declared_read form names all =
    rw (
      types_read form.types all.types all.declared_types,
      objects_read form.constants (types_alone all.types) all.with_constants all.constants,
      predicates_read form.predicates all.with_constants all.with_predicates all.predicates,
    ) (functions_read form.functions all.with_predicates names all.functions)

declared_sound : (form : DomainForm) → Sound (declared form) (DeclareAll form)
declared_sound form =
    sound_after (DeclareTypes form.types) (DeclareAll form) _ _
    (sound_of (DeclareTypes form.types) (types form.types) (types_declare form.types)) (λ ts are.
    sound_after (DeclareObjects form.constants (types_alone ts)) (DeclareAll form) _ _ (objects_sound form.constants (types_alone ts)) (λ constants declare.
    sound_after (DeclarePredicates form.predicates constants) (DeclareAll form) _ _ (predicates_sound form.predicates constants) (λ predicates state.
    sound_map (DeclareFunctions form.functions predicates) (DeclareAll form) _
    (λ names give. record {
      types = ts;
      declared_types = are;
      with_constants = constants;
      constants = declare;
      with_predicates = predicates;
      predicates = state;
      functions = give;
    }) (functions_sound form.functions predicates))))

pub declared_declare : (form : DomainForm) (names : Declarations) → declared form ≡ parsed names → DeclareAll form names
declared_declare form names e = sound_is (DeclareAll form) (declared form) names (declared_sound form) e
