-- What is read as an object term is one.
use Rattle.std.proofs.Common.{◌≡◌, ℕ, true, List, [], ◌∷◌, ◌++◌, length, Option, Some, None, refl, ap, sym, ◌∙◌, subst, arith}
use Rattle.std.proofs.lemmas.Bool.Decides.{nat_tests}
use Rattle.std.specs.Prelude.{◌==◌, IsSome, is_some, pred}
use Rattle.up_text.specs.declared.name.Name.{Name}
use Rattle.up_text.specs.declared.place.Place.{Place}
use Rattle.up_text.specs.Lists.{Every}
use Rattle.pddl_lex.specs.Parses.{parsed, all}
use Rattle.pddl_parse.specs.declared.raw.Ident.{Ident}
use Rattle.pddl_parse.specs.declared.raw.RawTerm.{RawTerm, Row_of-RawTerm, end_of-RawTerm, more_of-RawTerm}
use Rattle.pddl_parse.specs.declared.raw.RawTerm as form
use Rattle.up_tree.specs.declared.term.Term.{Term, Var, Object, Fluent, Row_of-Term, end_of-Term, more_of-Term, items-the_row-Term, items_hidden-the_row-Term-0}
use Rattle.up_tree.specs.declared.term.Term.TheBlock.{hidden-the_row-Term-0}
use Rattle.up_tree.specs.declared.term.Typed.{Typed}
use Rattle.up_tree.specs.declared.problem.Parts.{Parts}
use Rattle.up_tree.specs.declared.problem.Gives.{Gives}
use Rattle.up_tree.specs.declared.problem.Gives.TheVariants as gives
use Rattle.up_tree.specs.Objects.{named, function_named}
use Rattle.up_tree.specs.WellFormed.{IsType, IsBelow, IsTerm, RowFits, TermFits, TermsFit, OfGives, term_type, gives_object}
use Rattle.up_phrase.specs.declared.names.Signature.{Signature}
use Rattle.up_phrase.specs.declared.reason.Reason.TheVariants.{Arity, TypeMismatch}
use Rattle.up_phrase.specs.declared.term.Setting.{Setting}
use Rattle.up_phrase.specs.Declarations.{Declarations}
use Rattle.up_phrase.specs.Lookups.{type_of, function_of, fits}
use Rattle.up_phrase.specs.Named.{at}
use Rattle.up_phrase.specs.Scopes.{Variables, variable_type}
use Rattle.up_phrase.specs.Terms.{of_type, unadmitted, object_giver, object_function, each_due, arguments, applied, term, terms}
use Rattle.up_phrase.specs.Walks.{Checked, unless}
use Rattle.up_check.specs.Lists.{function}
use Rattle.wellformed_phrases.specs.Agreement.{IfParsed, Agree, AgreeInScope, IsTermDue}
use Rattle.wellformed_phrases.proofs.Parses.{parsed_as, parsed_over, parsed_two, parsed_after, parsed_behind, holds, none_behind}
use Rattle.wellformed_phrases.proofs.Tables.{under_is, function_is, at_some, is_there}

pub same_length : (m n : ℕ) → (m == n) ≡ true → m ≡ n
same_length m n e = grind (arith, nat_tests)

module _ (names : Declarations) (p : Parts) (objects : List Typed) (agree : Agree names p objects)
    (vars : Variables) (scope : List Typed) (in_scope : AgreeInScope p vars scope) (s : Setting) where
  -- a term of this type, where a term of another may be due
  pub due_is : (t : Term) (of : Name) (due : Option Name) → IsTerm p objects scope t → term_type p scope t ≡ Some of → IsType p of
      → fits names of due ≡ true → IsTermDue p objects scope due t
  due_is t of None is typed known e = is
  due_is t of (Some due) is typed known e = (is, at_some (term_type p scope t) of (λ u. IsBelow p u due) typed (under_is names p objects agree of due known e))

  of_type_is : (it : Ident) (t : Term) (due found : Option Name) → ((of : Name) → found ≡ Some of → IsTerm p objects scope t)
      → ((of : Name) → found ≡ Some of → term_type p scope t ≡ Some of) → ((of : Name) → found ≡ Some of → IsType p of)
      → IfParsed (of_type names it t due found) (IsTermDue p objects scope due)
  of_type_is it t due None is typed known = tt
  of_type_is it t due (Some of) is typed known =
      parsed_behind (IsTermDue p objects scope due) (unless (fits names of due) (at it.place TypeMismatch it.name)) (parsed t)
      (λ none. due_is t of due (is of refl) (typed of refl) (known of refl) (holds (fits names of due) _ none))

  name_is : (it : Ident) (due : Option Name) → IfParsed (of_type names it (Object it.name) due (type_of names it.name)) (IsTermDue p objects scope due)
  unfolding IsTerm
  name_is it due =
      of_type_is it (Object it.name) due (type_of names it.name) (λ of is. agree.admitted it.name of is) (λ of is. agree.object_types it.name of is)
      (λ of is. agree.known_types it.name of is)

  variable_is : (it : Ident) (due : Option Name) → IfParsed (of_type names it (Var it.name) due (variable_type vars it.name)) (IsTermDue p objects scope due)
  unfolding IsTerm
  variable_is it due =
      of_type_is it (Var it.name) due (variable_type vars it.name)
      (λ of is. is_there (λ (entry : Typed). entry.of) (named scope it.name) of (in_scope.same it.name ∙ is)) (λ of is. in_scope.same it.name ∙ is)
      (λ of is. in_scope.known_types it.name of is)

  -- ---- arguments

  abbrev pub Reads : (Option Name → Checked Term) → Type 0
  Reads read = (due : Option Name) → IfParsed (read due) (IsTermDue p objects scope due)

  dues_are : (types : List Name) (reads : List (Option Name → Checked Term)) → length reads ≡ length types → Every Reads reads
      → IfParsed (all (each_due types reads)) (λ ts. TermsFit p objects scope ts types)
  dues_are [] [] len are = tt
  dues_are [] (read ∷ reads) len are = cc
  dues_are (due ∷ others) [] len are = cc
  dues_are (due ∷ others) (read ∷ reads) len are =
      parsed_two (λ t. TermFits p objects scope t due) (λ ts. TermsFit p objects scope ts others) (λ ts. TermsFit p objects scope ts (due ∷ others))
      (λ t ts. t ∷ ts) (read (Some due)) (all (each_due others reads)) (λ t ts is more. (is, more)) (are.0 (Some due))
      (dues_are others reads (ap pred len) are.1)

  -- the arguments of what is declared, where something holds of its types
  pub applied_are : (P : List Name → Type 0) (place : Place) (name : Name) (declared : Checked (List Name)) (reads : List (Option Name → Checked Term))
      → IfParsed declared P → Every Reads reads
      → IfParsed (applied place name declared reads) (λ ts. (types : List Name) × P types × TermsFit p objects scope ts types)
  applied_are P place name declared reads is are =
      parsed_after P (λ ts. (types : List Name) × P types × TermsFit p objects scope ts types) declared (λ types. arguments place name reads types) is (λ types so.
      parsed_behind (λ ts. (types : List Name) × P types × TermsFit p objects scope ts types) (unless (length reads == length types) (at place Arity name)) (all (each_due types reads)) (λ none.
      parsed_as (λ ts. TermsFit p objects scope ts types) (λ ts. (types : List Name) × P types × TermsFit p objects scope ts types) (all (each_due types reads)) (λ ts fit. (types, so, fit))
      (dues_are types reads (same_length (length reads) (length types) (holds (length reads == length types) _ none)) are)))

  -- ---- the bracket of an object function

  row_fits : {n : _} (ts : Row_of-Term n) (types : List Name) → TermsFit p objects scope (items-the_row-Term _ ts) types → RowFits p objects scope ts types
  unfolding RowFits
  row_fits end_of-Term [] fit = tt
  row_fits end_of-Term (of ∷ types) fit = fit
  row_fits (more_of-Term t ts) [] fit = fit
  row_fits (more_of-Term t ts) (of ∷ types) fit = (fit.0.0, fit.0.1, row_fits ts types fit.1)

  -- a function with arguments of these types gives an object of the type that is due
  abbrev pub GivesDue : Name → Option Name → List Name → Type 0
  GivesDue f due types = (signature : Signature) × (of : Name) × (function_of names f ≡ Some signature) × (signature.args ≡ types)
      × (gives_object signature.gives ≡ Some of) × IsType p of × (fits names of due ≡ true)

  giver_is : (place : Place) (f : Ident) (due : Option Name) (signature : Signature) (g : Gives) → function_of names f.name ≡ Some signature
      → signature.gives ≡ g → IfParsed (object_giver names s place f due signature.args g) (GivesDue f.name due)
  giver_is place f due signature gives.Number is so = tt
  giver_is place f due signature (gives.Object of) is so =
      parsed_behind (GivesDue f.name due) (unadmitted s place f.name ++ unless (fits names of due) (at place TypeMismatch f.name)) (parsed signature.args) (λ none. (
        signature,
        of,
        is,
        refl,
        ap gives_object so,
        subst (OfGives p) so (agree.given_types f.name signature is),
        holds (fits names of due) _ (none_behind (unadmitted s place f.name) _ none),
      ))

  object_function_is : (place : Place) (f : Ident) (due : Option Name) (found : Option Signature) → function_of names f.name ≡ found
      → IfParsed (object_function names s place f due found) (GivesDue f.name due)
  object_function_is place f due None is = tt
  object_function_is place f due (Some signature) is = giver_is place f due signature signature.gives is refl

  fluent_is : (f : Name) (due : Option Name) (ts : List Term) → (types : List Name) × GivesDue f due types × TermsFit p objects scope ts types
      → IsTermDue p objects scope due (Fluent f ts)
  unfolding IsTerm
  fluent_is f due ts (types, (signature, of, is, args, gives_it, known, fit), terms_fit) =
      let there = function_is names p objects agree f signature is in
      let row = row_fits (hidden-the_row-Term-0 ts) signature.args
      (subst (λ xs. TermsFit p objects scope xs signature.args) (sym (items_hidden-the_row-Term-0 ts)) (subst (TermsFit p objects scope ts) (sym args) terms_fit)) in
      due_is (Fluent f ts) of due
      (at_some (function_named p f) (function (f, signature)) (λ d. IsSome (gives_object d.gives) × RowFits p objects scope (hidden-the_row-Term-0 ts) d.args) there (ap is_some gives_it, row))
      (rw there gives_it) known fit

  mutual
    unfolding term terms

    pub term_is : (raw : RawTerm) (due : Option Name) → IfParsed (term names vars s raw due) (IsTermDue p objects scope due)
    term_is (form.Name it) due = name_is it due
    term_is (form.Variable it) due = variable_is it due
    term_is (form.Number place n) due = tt
    term_is (form.Call' place f n args) due =
        parsed_over (λ ts. (types : List Name) × GivesDue f.name due types × TermsFit p objects scope ts types) (IsTermDue p objects scope due) (λ ts. Fluent f.name ts)
        (applied place f.name (object_function names s place f due (function_of names f.name)) (terms names vars s args)) (fluent_is f.name due)
        (applied_are (GivesDue f.name due) place f.name (object_function names s place f due (function_of names f.name)) (terms names vars s args)
        (object_function_is place f due (function_of names f.name) refl) (terms_are args))
    term_is (form.Arithmetic' place op n args) due = tt

    pub terms_are : {n : _} (args : Row_of-RawTerm n) → Every Reads (terms names vars s args)
    terms_are end_of-RawTerm = tt
    terms_are (more_of-RawTerm arg args) = (term_is arg, terms_are args)

pub terms_are_well_formed : (names : Declarations) (p : Parts) (objects : List Typed) → Agree names p objects
    → (vars : Variables) (scope : List Typed) → AgreeInScope p vars scope
    → (s : Setting) (raw : RawTerm) (due : Option Name) → IfParsed (term names vars s raw due) (IsTermDue p objects scope due)
terms_are_well_formed names p objects agree vars scope in_scope s raw due = term_is names p objects agree vars scope in_scope s raw due
