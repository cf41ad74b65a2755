-- Declarations stay sound where more is declared.
use Rattle.std.proofs.Common.{◌≡◌, ◌⊎◌, Bool, true, false, true≢false, not, ◌||◌, List, [], ◌∷◌, ◌++◌, Option, Some, None, append_assoc, refl, ap, sym, ◌∙◌, subst, inl, inr}
use Rattle.std.specs.Prelude.{⊤, is_some}
use Rattle.std.specs.Map.{lookup}
use Rattle.std.specs.Cmp.Lexicographic.{bytes_decides}
use Rattle.std.proofs.lemmas.List.{map-append}
use Rattle.up_text.specs.declared.name.Name.{Name}
use Rattle.up_text.specs.Names.{IsName, same_name}
use Rattle.up_text.specs.Lists.{Every, Member, Differ}
use Rattle.pddl_lex.specs.Parses.{parsed, behind, before}
use Rattle.pddl_parse.specs.declared.raw.Ident.{Ident}
use Rattle.pddl_parse.specs.declared.raw.RawFunctions.{RawFunctions}
use Rattle.pddl_parse.specs.declared.raw.RawGives.{RawGives}
use Rattle.pddl_parse.specs.declared.raw.RawGives.TheVariants as stated
use Rattle.pddl_parse.specs.declared.raw.RawGroup.{RawGroup}
use Rattle.pddl_parse.specs.declared.raw.RawSymbol.{RawSymbol}
use Rattle.up_tree.specs.declared.problem.Gives.{Gives}
use Rattle.up_tree.specs.declared.problem.Gives.TheVariants as gives
use Rattle.up_tree.specs.WellFormed.{AreDeclared}
use Rattle.up_phrase.specs.declared.names.Signature.{Signature}
use Rattle.up_phrase.specs.declared.reason.Reason.TheVariants.{Duplicate, UnknownName}
use Rattle.up_phrase.specs.Declarations.{Declarations}
use Rattle.up_phrase.specs.Lookups.{is_type, type_of, predicate_of, function_of}
use Rattle.up_phrase.specs.Named.{at, object, is_object}
use Rattle.up_phrase.specs.Scopes.{type_named, type_fault}
use Rattle.up_phrase.specs.Walks.{Checked, unless, in_turn}
use Rattle.up_declare.specs.Declaring.{and_predicate, and_function, declared_as, with_object, with_group, with_objects, is_symbol, each_of, arg_types, new_symbol, with_predicate, with_predicates, given, gives_fault, signature, with_function, with_function_group, with_functions}
use Rattle.wellformed_phrases.specs.Agreement.{IfParsed}
use Rattle.wellformed_phrases.specs.LawfulPhrases.{HaveNames}
use Rattle.wellformed_phrases.specs.Sound.{GivesType, AreSound, AreNamed, AreNamedFunctions}
use Rattle.wellformed_phrases.proofs.Parses.{parsed_as, parsed_over, parsed_after, parsed_behind, holds}
use Rattle.wellformed_phrases.proofs.Members.{every_as, every_append, names_in, there}
use Rattle.wellformed_phrases.proofs.Facts.{differ_more}

pub parsed_turns : {X A : Type 0} (P : A → Type 0) (Q : X → Type 0) (step : X → A → Checked A) (xs : List X)
    → ((x : X) (a : A) → Q x → P a → IfParsed (step x a) P) → Every Q xs → (a : A) → P a → IfParsed (in_turn step xs a) P
parsed_turns P Q step [] on all a is = is
parsed_turns P Q step (x ∷ xs) on all a is =
    parsed_after P P (step x a) (in_turn step xs) (on x a all.0 is) (λ b so. parsed_turns P Q step xs on all.1 b so)

-- ---- one more between two lists

later_between : {X : Type 0} (x y : X) (xs ys : List X) → Member y ((xs ++ x ∷ []) ++ ys) → (¬ Member y (xs ++ ys)) → y ≡ x
later_between x y [] ys (inl is) fresh = is
later_between x y [] ys (inr m) fresh = absurd (fresh m)
later_between x y (z ∷ xs) ys (inl is) fresh = absurd (fresh (inl is))
later_between x y (z ∷ xs) ys (inr m) fresh = later_between x y xs ys m (λ k. fresh (inr k))

differ_between : {X : Type 0} (x : X) (xs ys : List X) → Differ (xs ++ ys) → (¬ Member x (xs ++ ys)) → Differ ((xs ++ x ∷ []) ++ ys)
differ_between x [] ys differ fresh = (fresh, differ)
differ_between x (y ∷ xs) ys differ fresh =
    ((λ m. fresh (inl (sym (later_between x y xs ys m differ.0)))), differ_between x xs ys differ.1 (λ m. fresh (inr m)))

every_between : {X : Type 0} (P : X → Type 0) (x : X) (xs ys : List X) → Every P (xs ++ ys) → P x → Every P ((xs ++ x ∷ []) ++ ys)
every_between P x [] ys all is = (is, all)
every_between P x (y ∷ xs) ys all is = (all.0, every_between P x xs ys all.1 is)

either_name : (n : Name) (xs ys : List Name) → Member n (xs ++ ys) → Member n xs ⊎ Member n ys
either_name n [] ys m = inr m
either_name n (x ∷ xs) ys (inl is) = inl (inl is)
either_name n (x ∷ xs) ys (inr m) = elim (either_name n xs ys m) [ inl a ↦ inl (inr a) | inr b ↦ inr b ]

neither : (a b : Bool) → not (a || b) ≡ true → (a ≡ true) ⊎ (b ≡ true) → ⊥
neither true b e h = true≢false (sym e)
neither false true e h = true≢false (sym e)
neither false false e (inl h) = true≢false (sym h)
neither false false e (inr h) = true≢false (sym h)

-- ---- declarations as a group of them goes on

abbrev is_known : List (Name × Name) → Name → Bool
is_known types t = is_object t || is_some (lookup (same_name t) types)

abbrev IsKnown : List (Name × Name) → Name → Type 0
IsKnown types t = is_known types t ≡ true

abbrev GivesKnown : List (Name × Name) → Gives → Type 0
GivesKnown types gives.Number = ⊤
GivesKnown types (gives.Object of) = IsKnown types of

-- sound but for the types of objects and what functions give, which are so
record Kept (types : List (Name × Name)) (OfObject : Name → Type 0) (OfFunction : Gives → Type 0) (names : Declarations) : Type 0 where
  same : names.types ≡ types
  objects : AreDeclared (names_in names.objects)
  object_types : Every (λ o. OfObject o.1) names.objects
  symbols : AreDeclared (names_in names.predicates ++ names_in names.functions)
  predicate_types : Every (λ d. Every (IsKnown types) d.1) names.predicates
  function_types : Every (λ d. Every (IsKnown types) d.1.args) names.functions
  value_types : Every (λ d. OfFunction d.1.gives) names.functions

abbrev AllKept : List (Name × Name) → Declarations → Type 0
AllKept types = Kept types (IsKnown types) (GivesKnown types)

kept_of : (names : Declarations) → AreSound names → AllKept names.types names
kept_of names sound = record {
  same = refl;
  objects = sound.objects;
  object_types = sound.object_types;
  symbols = sound.symbols;
  predicate_types = sound.predicate_types;
  function_types = sound.function_types;
  value_types = every_as (λ d. GivesType names d.1.gives) (λ d. GivesKnown names.types d.1.gives) names.functions (λ d is. turned d.1.gives is) sound.value_types;
}
  where
    turned : (g : Gives) → GivesType names g → GivesKnown names.types g
    turned gives.Number is = tt
    turned (gives.Object of) is = is

sound_of : (types : List (Name × Name)) (names : Declarations) → AllKept types names → AreSound names
sound_of types names kept = record {
  objects = kept.objects;
  object_types = subst (λ ts. Every (λ o. IsKnown ts o.1) names.objects) (sym kept.same) kept.object_types;
  symbols = kept.symbols;
  predicate_types = subst (λ ts. Every (λ d. Every (IsKnown ts) d.1) names.predicates) (sym kept.same) kept.predicate_types;
  function_types = subst (λ ts. Every (λ d. Every (IsKnown ts) d.1.args) names.functions) (sym kept.same) kept.function_types;
  value_types = every_as (λ d. GivesKnown names.types d.1.gives) (λ d. GivesType names d.1.gives) names.functions (λ d is. turned d.1.gives is)
      (subst (λ ts. Every (λ d. GivesKnown ts d.1.gives) names.functions) (sym kept.same) kept.value_types);
}
  where
    turned : (g : Gives) → GivesKnown names.types g → GivesType names g
    turned gives.Number is = tt
    turned (gives.Object of) is = is

known_at : (types : List (Name × Name)) (names : Declarations) → names.types ≡ types → (t : Name) → is_type names t ≡ true → IsKnown types t
known_at types names same t is = subst (λ ts. IsKnown ts t) same is

stated_known : (types : List (Name × Name)) (names : Declarations) → names.types ≡ types → (of : Option Ident) → type_fault names of ≡ [] → IsKnown types (type_named of)
stated_known types names same None none = rw ((bytes_decides object object).1 refl) refl
stated_known types names same (Some of) none = known_at types names same of.name (holds (is_type names of.name) (at of.place UnknownName of.name) none)

-- ---- objects

module _ (types : List (Name × Name)) (OfFunction : Gives → Type 0) (OfObject : Name → Type 0) where
  object_kept : (of : Name) (it : Ident) (names : Declarations) → OfObject of → IsName it.name → Kept types OfObject OfFunction names
      → IfParsed (with_object of it names) (Kept types OfObject OfFunction)
  object_kept of it names so named kept = by (type_of names it.name) refl
    where
      by : (o : Option Name) → type_of names it.name ≡ o → IfParsed (declared_as o of it names) (Kept types OfObject OfFunction)
      by (Some first) is = parsed_behind (Kept types OfObject OfFunction) (unless (same_name first of) (at it.place Duplicate it.name)) (parsed names) (λ none. kept)
      by None is = record {
        same = kept.same;
        objects = subst AreDeclared (sym (map-append (λ (e : Name × Name). e.0) names.objects ((it.name, of) ∷ [])))
            (record {
              names_all = every_append IsName (names_in names.objects) (it.name ∷ []) kept.objects.names_all (named, tt);
              differ = differ_more (names_in names.objects) it.name kept.objects.differ (λ m. true≢false (sym (there it.name names.objects m) ∙ ap is_some is));
            });
        object_types = every_append (λ o. OfObject o.1) names.objects ((it.name, of) ∷ []) kept.object_types (so, tt);
        symbols = kept.symbols;
        predicate_types = kept.predicate_types;
        function_types = kept.function_types;
        value_types = kept.value_types;
      }

module _ (types : List (Name × Name)) where
  group_kept : (group : RawGroup) (names : Declarations) → Every (λ (it : Ident). IsName it.name) group.names → AllKept types names
      → IfParsed (with_group group names) (AllKept types)
  group_kept group names named kept =
      parsed_after (Kept types Either (GivesKnown types)) (AllKept types) (in_turn (with_object (type_named group.of)) group.names names)
      (λ more. behind (type_fault more group.of) (parsed more))
      (parsed_turns (Kept types Either (GivesKnown types)) (λ (it : Ident). IsName it.name) (with_object (type_named group.of)) group.names
      (λ it more is so. object_kept types (GivesKnown types) Either (type_named group.of) it more (inr refl) is so) named names
      (record {
        same = kept.same;
        objects = kept.objects;
        object_types = every_as (λ o. IsKnown types o.1) (λ o. Either o.1) names.objects (λ o is. inl is) kept.object_types;
        symbols = kept.symbols;
        predicate_types = kept.predicate_types;
        function_types = kept.function_types;
        value_types = kept.value_types;
      }))
      (λ more so. parsed_behind (AllKept types) (type_fault more group.of) (parsed more) (λ none. settled more so (stated_known types more so.same group.of none)))
    where
      Either : Name → Type 0
      Either t = IsKnown types t ⊎ (t ≡ type_named group.of)

      known : IsKnown types (type_named group.of) → (t : Name) → Either t → IsKnown types t
      known is t (inl so) = so
      known is t (inr same) = subst (IsKnown types) (sym same) is

      settled : (more : Declarations) → Kept types Either (GivesKnown types) more → IsKnown types (type_named group.of) → Kept types (IsKnown types) (GivesKnown types) more
      settled more so is = record {
        same = so.same;
        objects = so.objects;
        object_types = every_as (λ o. Either o.1) (λ o. IsKnown types o.1) more.objects (λ o e. known is o.1 e) so.object_types;
        symbols = so.symbols;
        predicate_types = so.predicate_types;
        function_types = so.function_types;
        value_types = so.value_types;
      }

  -- ---- predicates and functions

  each_known : (of : Name) (items : List Ident) → IsKnown types of → Every (IsKnown types) (each_of of items)
  each_known of [] is = tt
  each_known of (it ∷ others) is = (is, each_known of others is)

  args_known : (names : Declarations) → names.types ≡ types → (params : List RawGroup) → IfParsed (arg_types names params) (Every (IsKnown types))
  args_known names same [] = tt
  args_known names same (group ∷ others) =
      parsed_behind (Every (IsKnown types)) (type_fault names group.of) (before (each_of (type_named group.of) group.names) (arg_types names others)) (λ none.
      parsed_over (Every (IsKnown types)) (Every (IsKnown types)) (λ more. each_of (type_named group.of) group.names ++ more) (arg_types names others)
      (λ more are. every_append (IsKnown types) (each_of (type_named group.of) group.names) more (each_known (type_named group.of) group.names (stated_known types names same group.of none)) are)
      (args_known names same others))

  abbrev IsNew : Declarations → Name → List Name → Type 0
  IsNew names name args = Every (IsKnown types) args × (¬ Member name (names_in names.predicates ++ names_in names.functions))

  new_is : (names : Declarations) → names.types ≡ types → (symbol : RawSymbol) → IfParsed (new_symbol names symbol) (IsNew names symbol.name.name)
  new_is names same symbol =
      parsed_behind (IsNew names symbol.name.name) (unless (not (is_symbol names symbol.name.name)) (at symbol.name.place Duplicate symbol.name.name)) (arg_types names symbol.params) (λ none.
      parsed_as (Every (IsKnown types)) (IsNew names symbol.name.name) (arg_types names symbol.params)
      (λ args are. (
        are,
        (λ m. neither (is_some (predicate_of names symbol.name.name)) (is_some (function_of names symbol.name.name)) (holds (not (is_symbol names symbol.name.name)) _ none)
            (elim (either_name symbol.name.name (names_in names.predicates) (names_in names.functions) m)
            [ inl a ↦ inl (there symbol.name.name names.predicates a) | inr b ↦ inr (there symbol.name.name names.functions b) ])),
      )) (args_known names same symbol.params))

  predicate_kept : (symbol : RawSymbol) (names : Declarations) → IsName symbol.name.name → AllKept types names → IfParsed (with_predicate symbol names) (AllKept types)
  predicate_kept symbol names named kept =
      parsed_after (IsNew names symbol.name.name) (AllKept types) (new_symbol names symbol) (λ args. parsed (and_predicate names symbol.name.name args)) (new_is names kept.same symbol) (λ args new.
      record {
        same = kept.same;
        objects = kept.objects;
        object_types = kept.object_types;
        symbols = subst (λ ns. AreDeclared (ns ++ names_in names.functions)) (sym (map-append (λ (e : Name × List Name). e.0) names.predicates ((symbol.name.name, args) ∷ [])))
            (record {
              names_all = every_between IsName symbol.name.name (names_in names.predicates) (names_in names.functions) kept.symbols.names_all named;
              differ = differ_between symbol.name.name (names_in names.predicates) (names_in names.functions) kept.symbols.differ new.1;
            });
        predicate_types = every_append (λ d. Every (IsKnown types) d.1) names.predicates ((symbol.name.name, args) ∷ []) kept.predicate_types (new.0, tt);
        function_types = kept.function_types;
        value_types = kept.value_types;
      })

  function_kept : (OfFunction : Gives → Type 0) (of : RawGives) (symbol : RawSymbol) (names : Declarations) → OfFunction (given of) → IsName symbol.name.name
      → Kept types (IsKnown types) OfFunction names → IfParsed (with_function of symbol names) (Kept types (IsKnown types) OfFunction)
  function_kept OfFunction of symbol names so named kept =
      parsed_after (IsNew names symbol.name.name) (Kept types (IsKnown types) OfFunction) (new_symbol names symbol) (λ args. parsed (and_function names symbol.name.name (signature of args)))
      (new_is names kept.same symbol) (λ args new.
      record {
        same = kept.same;
        objects = kept.objects;
        object_types = kept.object_types;
        symbols = subst AreDeclared
            (append_assoc (names_in names.predicates) (names_in names.functions) (symbol.name.name ∷ [])
            ∙ ap (λ ns. names_in names.predicates ++ ns) (sym (map-append (λ (e : Name × Signature). e.0) names.functions ((symbol.name.name, signature of args) ∷ []))))
            (record {
              names_all = every_append IsName (names_in names.predicates ++ names_in names.functions) (symbol.name.name ∷ []) kept.symbols.names_all (named, tt);
              differ = differ_more (names_in names.predicates ++ names_in names.functions) symbol.name.name kept.symbols.differ new.1;
            });
        predicate_types = kept.predicate_types;
        function_types = every_append (λ d. Every (IsKnown types) d.1.args) names.functions ((symbol.name.name, signature of args) ∷ []) kept.function_types (new.0, tt);
        value_types = every_append (λ d. OfFunction d.1.gives) names.functions ((symbol.name.name, signature of args) ∷ []) kept.value_types (so, tt);
      })

  given_known : (names : Declarations) → names.types ≡ types → (of : RawGives) → gives_fault names of ≡ [] → GivesKnown types (given of)
  given_known names same stated.Number none = tt
  given_known names same (stated.Object of) none = known_at types names same of.name (holds (is_type names of.name) (at of.place UnknownName of.name) none)

  functions_kept : (group : RawFunctions) (names : Declarations) → AreNamed group.functions → AllKept types names → IfParsed (with_function_group group names) (AllKept types)
  functions_kept group names named kept =
      parsed_after (Kept types (IsKnown types) Either) (AllKept types) (in_turn (with_function group.gives) group.functions names)
      (λ more. behind (gives_fault more group.gives) (parsed more))
      (parsed_turns (Kept types (IsKnown types) Either) (λ (symbol : RawSymbol). IsName symbol.name.name) (with_function group.gives) group.functions
      (λ symbol more is so. function_kept Either group.gives symbol more (inr refl) is so) named names
      (record {
        same = kept.same;
        objects = kept.objects;
        object_types = kept.object_types;
        symbols = kept.symbols;
        predicate_types = kept.predicate_types;
        function_types = kept.function_types;
        value_types = every_as (λ d. GivesKnown types d.1.gives) (λ d. Either d.1.gives) names.functions (λ d is. inl is) kept.value_types;
      }))
      (λ more so. parsed_behind (AllKept types) (gives_fault more group.gives) (parsed more) (λ none. settled more so (given_known more so.same group.gives none)))
    where
      Either : Gives → Type 0
      Either g = GivesKnown types g ⊎ (g ≡ given group.gives)

      known : GivesKnown types (given group.gives) → (g : Gives) → Either g → GivesKnown types g
      known is g (inl so) = so
      known is g (inr same) = subst (GivesKnown types) (sym same) is

      settled : (more : Declarations) → Kept types (IsKnown types) Either more → GivesKnown types (given group.gives) → Kept types (IsKnown types) (GivesKnown types) more
      settled more so is = record {
        same = so.same;
        objects = so.objects;
        object_types = so.object_types;
        symbols = so.symbols;
        predicate_types = so.predicate_types;
        function_types = so.function_types;
        value_types = every_as (λ d. Either d.1.gives) (λ d. GivesKnown types d.1.gives) more.functions (λ d e. known is d.1.gives e) so.value_types;
      }

-- sound declarations over these types
abbrev pub SoundOver : List (Name × Name) → Declarations → Type 0
SoundOver types names = (names.types ≡ types) × AreSound names

kept_over : (types : List (Name × Name)) (names : Declarations) → SoundOver types names → AllKept types names
kept_over types names (same, sound) = subst (λ ts. AllKept ts names) same (kept_of names sound)

over_kept : (types : List (Name × Name)) (names : Declarations) → AllKept types names → SoundOver types names
over_kept types names kept = (kept.same, sound_of types names kept)

module _ (types : List (Name × Name)) (names : Declarations) (over : SoundOver types names) where
  pub objects_over : (groups : List RawGroup) → HaveNames groups → IfParsed (with_objects groups names) (SoundOver types)
  objects_over groups named =
      parsed_as (AllKept types) (SoundOver types) (with_objects groups names) (over_kept types)
      (parsed_turns (AllKept types) (λ (group : RawGroup). Every (λ (it : Ident). IsName it.name) group.names) with_group groups
      (λ group more is kept. group_kept types group more is kept) named names (kept_over types names over))

  pub predicates_over : (symbols : List RawSymbol) → AreNamed symbols → IfParsed (with_predicates symbols names) (SoundOver types)
  predicates_over symbols named =
      parsed_as (AllKept types) (SoundOver types) (with_predicates symbols names) (over_kept types)
      (parsed_turns (AllKept types) (λ (symbol : RawSymbol). IsName symbol.name.name) with_predicate symbols
      (λ symbol more is kept. predicate_kept types symbol more is kept) named names (kept_over types names over))

  pub functions_over : (groups : List RawFunctions) → AreNamedFunctions groups → IfParsed (with_functions groups names) (SoundOver types)
  functions_over groups named =
      parsed_as (AllKept types) (SoundOver types) (with_functions groups names) (over_kept types)
      (parsed_turns (AllKept types) (λ (group : RawFunctions). AreNamed group.functions) with_function_group groups
      (λ group more is kept. functions_kept types group more is kept) named names (kept_over types names over))

pub objects_keep_sound : (names : Declarations) → AreSound names → (groups : List RawGroup) → HaveNames groups → IfParsed (with_objects groups names) AreSound
objects_keep_sound names sound groups named =
    parsed_as (SoundOver names.types) AreSound (with_objects groups names) (λ more so. so.1) (objects_over names.types names (refl, sound) groups named)

pub predicates_keep_sound : (names : Declarations) → AreSound names → (symbols : List RawSymbol) → AreNamed symbols → IfParsed (with_predicates symbols names) AreSound
predicates_keep_sound names sound symbols named =
    parsed_as (SoundOver names.types) AreSound (with_predicates symbols names) (λ more so. so.1) (predicates_over names.types names (refl, sound) symbols named)

pub functions_keep_sound : (names : Declarations) → AreSound names → (groups : List RawFunctions) → AreNamedFunctions groups → IfParsed (with_functions groups names) AreSound
functions_keep_sound names sound groups named =
    parsed_as (SoundOver names.types) AreSound (with_functions groups names) (λ more so. so.1) (functions_over names.types names (refl, sound) groups named)
