-- A raw term is read as an object term exactly where it denotes it.
use Rattle.std.proofs.Common.{◌≡◌, suc, true, List, [], ◌∷◌, ◌++◌, length, map, Option, Some, None, refl, ap, sym, ◌∙◌}
use Rattle.std.specs.Prelude.{◌==◌, pred}
use Rattle.std.proofs.lemmas.List.{length-map}
use Rattle.up_text.specs.declared.name.Name.{Name}
use Rattle.up_text.specs.declared.place.Place.{Place}
use Rattle.up_text.specs.Lists.{Every}
use Rattle.pddl_lex.specs.Parses.{parsed, over, all}
use Rattle.pddl_parse.specs.declared.raw.Ident.{Ident}
use Rattle.pddl_parse.specs.declared.raw.RawTerm.{RawTerm, Row_of-RawTerm, end_of-RawTerm, more_of-RawTerm, items-the_row-RawTerm}
use Rattle.pddl_parse.specs.declared.raw.RawTerm as raw
use Rattle.pddl_parse.proofs.Spelled.{Sound, sound_over, sound_two, sound_behind}
use Rattle.up_tree.specs.declared.problem.Gives.{Gives}
use Rattle.up_tree.specs.declared.problem.Gives.TheVariants as gives
use Rattle.up_tree.specs.declared.term.Term.{Term, Var, Object, Fluent}
use Rattle.up_phrase.specs.Declarations.{Declarations}
use Rattle.up_phrase.specs.declared.names.Signature.{Signature}
use Rattle.up_phrase.specs.declared.reason.Reason.TheVariants.{Arity, TypeMismatch}
use Rattle.up_phrase.specs.declared.term.Setting.{Setting}
use Rattle.up_phrase.specs.declared.term.Setting.TheVariants as setting
use Rattle.up_phrase.specs.Named.{at}
use Rattle.up_phrase.specs.Lookups.{type_of, function_of, fits}
use Rattle.up_phrase.specs.Scopes.{Variables, variable_type}
use Rattle.up_phrase.specs.Terms.{of_type, unadmitted, object_giver, object_function, each_due, arguments, applied, term, terms}
use Rattle.up_phrase.specs.Walks.{unless}
use Rattle.grammar_names.specs.Phrases.{DenotesTerm, an_object, a_variable, an_object_value, DenoteArguments, no_arguments, more_arguments}
use Rattle.up_phrase.proofs.TermNodes.{term-Call}
use Rattle.grammar_names.proofs.Nodes.{call_built, terms-items}
use Rattle.grammar_shapes.proofs.Parses.{sound_map, sound_is}
use Rattle.grammar_names.proofs.Parses.{sound_after, none_of, holds, none_behind, none_before, same_number, same_length}

module _ (names : Declarations) (vars : Variables) (s : Setting) where
  abbrev Denotes : Option Name → RawTerm → Term → Type 0
  Denotes due raw t = DenotesTerm names vars s due raw t

  abbrev Denote : List Name → List RawTerm → List Term → Type 0
  Denote types args ts = DenoteArguments names vars s types args ts

  -- ---- what is denoted is read

  count_read : (types : List Name) (args : List RawTerm) (ts : List Term) → Denote types args ts → length args ≡ length types
  count_read _ _ _ no_arguments = refl
  count_read _ _ _ (more_arguments of arg t types args ts is others) = ap suc (count_read types args ts others)

  arguments_parsed : (place : Place) (name : Name) (types : List Name) (args : List RawTerm) (ts : List Term) → length args ≡ length types
      → all (each_due types (map (term names vars s) args)) ≡ parsed ts → arguments place name (map (term names vars s) args) types ≡ parsed ts
  arguments_parsed place name types args ts count read =
      rw (none_of (length (map (term names vars s) args) == length types) (at place Arity name)
      (same_number (length (map (term names vars s) args)) (length types) (length-map args (term names vars s) ∙ count))) read

  name_read : (due : Option Name) (it : Ident) (of : Name) → type_of names it.name ≡ Some of → fits names of due ≡ true
      → term names vars s (raw.Name it) due ≡ parsed (Object it.name)
  unfolding term
  name_read due it of is fit = rw (is, fit) refl

  variable_read : (due : Option Name) (it : Ident) (of : Name) → variable_type vars it.name ≡ Some of → fits names of due ≡ true
      → term names vars s (raw.Variable it) due ≡ parsed (Var it.name)
  unfolding term
  variable_read due it of is fit = rw (is, fit) refl

  object_function_read : (due : Option Name) (place : Place) (f : Ident) (function : Signature) (of : Name) → s ≡ setting.Plain
      → function_of names f.name ≡ Some function → function.gives ≡ gives.Object of → fits names of due ≡ true
      → object_function names s place f due (function_of names f.name) ≡ parsed function.args
  object_function_read due place f function of plain is gives_it fit = rw (is, gives_it, plain, fit) refl

  mutual
    pub term_read : (due : Option Name) (raw : RawTerm) (t : Term) → DenotesTerm names vars s due raw t → term names vars s raw due ≡ parsed t
    term_read _ _ _ (an_object due it of is fit) = name_read due it of is fit
    term_read _ _ _ (a_variable due it of is fit) = variable_read due it of is fit
    term_read _ _ _ (an_object_value due place f function of args ts plain is gives_it fit are) =
        rw (
          term-Call names vars s place f args due,
          object_function_read due place f function of plain is gives_it fit,
          arguments_parsed place f.name function.args args ts (count_read function.args args ts are) (each_read function.args args ts are),
        ) refl

    each_read : (types : List Name) (args : List RawTerm) (ts : List Term) → Denote types args ts
        → all (each_due types (map (term names vars s) args)) ≡ parsed ts
    each_read _ _ _ no_arguments = refl
    each_read _ _ _ (more_arguments of arg t types args ts is others) = rw (term_read (Some of) arg t is, each_read types args ts others) refl

  pub arguments_read : (place : Place) (name : Name) (types : List Name) (args : List RawTerm) (ts : List Term)
      → DenoteArguments names vars s types args ts → arguments place name (map (term names vars s) args) types ≡ parsed ts
  arguments_read place name types args ts are = arguments_parsed place name types args ts (count_read types args ts are) (each_read types args ts are)

  -- ---- what is read is denoted

  of_type_sound : (due : Option Name) (it : Ident) (t : Term) (P : Term → Type 0) (found : Option Name)
      → ((of : Name) → found ≡ Some of → fits names of due ≡ true → P t) → Sound (of_type names it t due found) P
  of_type_sound due it t P None h = tt
  of_type_sound due it t P (Some of) h =
      sound_behind P (unless (fits names of due) (at it.place TypeMismatch it.name)) (parsed t) (λ none. h of refl (holds (fits names of due) _ none))

  -- a function of this name with these arguments gives an object of the type that is due
  data GivesDue (due : Option Name) (f : Ident) : List Name → Type 0 where
    gives_due : (function : Signature) (of : Name) → s ≡ setting.Plain → function_of names f.name ≡ Some function → function.gives ≡ gives.Object of
        → fits names of due ≡ true → GivesDue due f function.args

  admitted : (given : Setting) (place : Place) (name : Name) → unadmitted given place name ≡ [] → given ≡ setting.Plain
  admitted setting.Plain place name e = refl
  admitted setting.Constraint place name e = cc
  admitted setting.Metric place name e = cc

  giver_sound : (due : Option Name) (place : Place) (f : Ident) (function : Signature) (g : Gives) → function_of names f.name ≡ Some function → function.gives ≡ g
      → Sound (object_giver names s place f due function.args g) (GivesDue due f)
  giver_sound due place f function gives.Number is so = tt
  giver_sound due place f function (gives.Object of) is so =
      sound_behind (GivesDue due f) (unadmitted s place f.name ++ unless (fits names of due) (at place TypeMismatch f.name)) (parsed function.args) (λ none.
      gives_due function of (admitted s place f.name (none_before (unadmitted s place f.name) _ none)) is so
      (holds (fits names of due) _ (none_behind (unadmitted s place f.name) _ none)))

  function_sound : (due : Option Name) (place : Place) (f : Ident) (found : Option Signature) → function_of names f.name ≡ found
      → Sound (object_function names s place f due found) (GivesDue due f)
  function_sound due place f None is = tt
  function_sound due place f (Some function) is = giver_sound due place f function function.gives is refl

  value_denoted : (due : Option Name) (place : Place) (f : Ident) (types : List Name) (args : List RawTerm) (ts : List Term)
      → GivesDue due f types → Denote types args ts → Denotes due (raw.Call place f args) (Fluent f.name ts)
  value_denoted due place f _ args ts (gives_due function of plain is so fit) are = an_object_value due place f function of args ts plain is so fit are

  abbrev pub IsRead : RawTerm → Type 0
  IsRead raw = (due : Option Name) → Sound (term names vars s raw due) (DenotesTerm names vars s due raw)

  each_sound : (types : List Name) (args : List RawTerm) → length args ≡ length types → Every IsRead args
      → Sound (all (each_due types (map (term names vars s) args))) (Denote types args)
  each_sound [] [] count are = no_arguments
  each_sound [] (arg ∷ args) count are = cc
  each_sound (of ∷ types) [] count are = cc
  each_sound (of ∷ types) (arg ∷ args) count are =
      sound_two (Denotes (Some of) arg) (Denote types args) (Denote (of ∷ types) (arg ∷ args)) (λ t ts. t ∷ ts)
      (term names vars s arg (Some of)) (all (each_due types (map (term names vars s) args)))
      (λ t ts is others. more_arguments of arg t types args ts is others) (are.0 (Some of)) (each_sound types args (ap pred count) are.1)

  pub arguments_sound : (place : Place) (name : Name) (types : List Name) (args : List RawTerm) → Every IsRead args
      → Sound (arguments place name (map (term names vars s) args) types) (DenoteArguments names vars s types args)
  arguments_sound place name types args are =
      sound_behind (Denote types args) (unless (length (map (term names vars s) args) == length types) (at place Arity name)) _ (λ none.
      each_sound types args (sym (length-map args (term names vars s))
      ∙ same_length (length (map (term names vars s) args)) (length types) (holds (length (map (term names vars s) args) == length types) _ none)) are)

  call_sound : (due : Option Name) (place : Place) (f : Ident) (args : List RawTerm) → Every IsRead args
      → Sound (over (λ ts. Fluent f.name ts) (applied place f.name (object_function names s place f due (function_of names f.name)) (map (term names vars s) args)))
      (Denotes due (raw.Call place f args))
  call_sound due place f args are =
      sound_over (λ ts. (types : List Name) × GivesDue due f types × Denote types args ts) (Denotes due (raw.Call place f args)) (λ ts. Fluent f.name ts) _
      (λ ts (types, given, of). value_denoted due place f types args ts given of)
      (sound_after (GivesDue due f) (λ ts. (types : List Name) × GivesDue due f types × Denote types args ts)
      (object_function names s place f due (function_of names f.name)) (arguments place f.name (map (term names vars s) args))
      (function_sound due place f (function_of names f.name) refl) (λ types given.
      sound_map (Denote types args) (λ ts. (types : List Name) × GivesDue due f types × Denote types args ts) _ (λ ts of. (types, given, of))
      (arguments_sound place f.name types args are)))

  mutual
    unfolding term terms

    pub term_sound : (raw : RawTerm) (due : Option Name) → Sound (term names vars s raw due) (DenotesTerm names vars s due raw)
    term_sound (raw.Name it) due =
        of_type_sound due it (Object it.name) (Denotes due (raw.Name it)) (type_of names it.name) (λ of is fit. an_object due it of is fit)
    term_sound (raw.Variable it) due =
        of_type_sound due it (Var it.name) (Denotes due (raw.Variable it)) (variable_type vars it.name) (λ of is fit. a_variable due it of is fit)
    term_sound (raw.Number place n) due = tt
    term_sound (raw.Call' place f n row) due =
        rw (call_built place f n row, terms-items names vars s row) (call_sound due place f (items-the_row-RawTerm _ row) (row_sound row))
    term_sound (raw.Arithmetic' place op n row) due = tt

    row_sound : {n : _} (row : Row_of-RawTerm n) → Every IsRead (items-the_row-RawTerm _ row)
    row_sound end_of-RawTerm = tt
    row_sound (more_of-RawTerm arg row) = (term_sound arg, row_sound row)

  pub all_sound : (args : List RawTerm) → Every IsRead args
  all_sound [] = tt
  all_sound (arg ∷ args) = (term_sound arg, all_sound args)

  pub term_denotes : (due : Option Name) (raw : RawTerm) (t : Term) → term names vars s raw due ≡ parsed t → DenotesTerm names vars s due raw t
  term_denotes due raw t e = sound_is (DenotesTerm names vars s due raw) (term names vars s raw due) t (term_sound raw due) e

  pub arguments_denote : (place : Place) (name : Name) (types : List Name) (args : List RawTerm) (ts : List Term)
      → arguments place name (map (term names vars s) args) types ≡ parsed ts → DenoteArguments names vars s types args ts
  arguments_denote place name types args ts e =
      sound_is (DenoteArguments names vars s types args) (arguments place name (map (term names vars s) args) types) ts
      (arguments_sound place name types args (all_sound args)) e
