-- The abstract syntax of a term is read as the term.
use Rattle.std.proofs.Common.{◌≡◌, suc, List, [], ◌∷◌, map, length, Option, Some, None, option_map, refl, ap, sym, subst, ◌∙◌}
use Rattle.std.specs.Prelude.{IsSome}
use Rattle.std.specs.Cmp.{unsigned_Decides}
use Rattle.std.proofs.lemmas.Bool.{false≢true}
use Rattle.up_text.specs.declared.name.Name.{Name}
use Rattle.up_text.specs.declared.place.Place.{Place}
use Rattle.up_tree.specs.declared.term.Typed.{Typed}
use Rattle.up_tree.specs.declared.term.Term.{Term, Var, Object, Fluent, Fluent', Row_of-Term, end_of-Term, more_of-Term, items-the_row-Term}
use Rattle.up_tree.specs.declared.term.Term.TheBlock.{shown-the_row-Term-0, items_shown-the_row-Term-0}
use Rattle.up_tree.specs.declared.term.Term.TheViews.{roll-Term, roll-out-Term, outs-Fluent', rolls-Fluent}
use denote.Hole.Carrier
use Rattle.up_tree.specs.declared.problem.Function.{Function}
use Rattle.up_tree.specs.declared.problem.Gives.{Gives}
use Rattle.up_tree.specs.declared.problem.Gives.TheVariants as gives
use Rattle.up_tree.specs.declared.problem.Parts.{Parts}
use Rattle.up_tree.specs.Objects.{named, type_in, function_named}
use Rattle.up_tree.specs.WellFormed as tree
use Rattle.up_tree.specs.WellFormed.{IsBelow, term_type, gives_object, RowFits, TermsFit, IsTerm}
use Rattle.pddl_lex.specs.Parses.{parsed, over, all}
use Rattle.pddl_parse.specs.declared.raw.Ident.{Ident}
use Rattle.pddl_parse.specs.declared.raw.RawTerm.{RawTerm}
use Rattle.pddl_parse.specs.Forms.{ident_at}
use Rattle.up_phrase.specs.declared.reason.Reason.TheVariants.{Arity}
use Rattle.up_phrase.specs.declared.term.Setting.TheVariants.{Plain}
use Rattle.up_phrase.specs.Declarations.{Declarations}
use Rattle.up_phrase.specs.Lookups.{function_of}
use Rattle.up_phrase.specs.Named.{at as fault_at}
use Rattle.up_phrase.specs.Scopes.{Variables}
use Rattle.up_phrase.specs.Terms.{of_type, object_giver, object_function, each_due, applied, term}
use Rattle.up_phrase.specs.Walks.{Checked, unless}
use Rattle.up_phrase.proofs.Steps.{applied_parsed}
use Rattle.up_phrase.proofs.TermNodes.{term-Name, term-Variable, term-Call}
use Rattle.roundtrip_tokens.proofs.Named.{found_and}
use Rattle.roundtrip_shapes.specs.Raw.{at, empty, first, a_variable, an_object, a_call, IsRawTerm, AreRawArguments, AreRawTerms}
use Rattle.roundtrip_names.specs.Declared.{signature_of, Declares, SameScope}
use Rattle.roundtrip_names.specs.Due.{IsDue}
use Rattle.roundtrip_names.proofs.Found.{object_found, object_typed, function_found, under_is}

-- an object function's value is that of a list of terms
pub rebuilt : (f : Name) (n : _) (row : Row_of-Term _) → Fluent' f n row ≡ Fluent f (items-the_row-Term _ row)
unfolding roll-Term Carrier.roll
rebuilt f n row = sym (roll-out-Term (Fluent' f n row)) ∙ ap roll-Term (outs-Fluent' f n row)
    ∙ sym (rolls-Fluent f (shown-the_row-Term-0 n row)) ∙ ap (Fluent f) (items_shown-the_row-Term-0 n row)

-- as many raw arguments as types, each read as the term at its place
pub data ReadsAs (one : RawTerm → Option Name → Checked Term) (types : List Name) (args : List RawTerm) (ts : List Term) : Type 0 where
  reads_as : length args ≡ length types → all (each_due types (map one args)) ≡ parsed ts → ReadsAs one types args ts

pub none_read : (one : RawTerm → Option Name → Checked Term) → ReadsAs one [] [] []
none_read one = reads_as refl refl

pub one_more_read : (one : RawTerm → Option Name → Checked Term) (of : Name) (types : List Name) (arg : RawTerm) (args : List RawTerm) (t : Term) (ts : List Term)
    → one arg (Some of) ≡ parsed t → ReadsAs one types args ts → ReadsAs one (of ∷ types) (arg ∷ args) (t ∷ ts)
one_more_read one of types arg args t ts is (reads_as count are) = reads_as (ap suc count) (rw (is, are) refl)

pub applied_read : (one : RawTerm → Option Name → Checked Term) (place : Place) (name : Name) (declared : Checked (List Name)) (types : List Name)
    (args : List RawTerm) (ts : List Term) → declared ≡ parsed types → ReadsAs one types args ts → applied place name declared (map one args) ≡ parsed ts
applied_read one place name declared types args ts is (reads_as count are) =
    applied_parsed place name one declared types args ts is (ap (λ b. unless b (fault_at place Arity name)) ((unsigned_Decides (length args) (length types)).1 count)) are

module _ (names : Declarations) (p : Parts) (objects : List Typed) (agree : Declares names p objects) (scope : List Typed) (vars : Variables) (same : SameScope scope vars) where
  -- a name of this type where one below another is due
  pub typed_read : (it : Ident) (t : Term) (due of : Option Name) → IsSome of → IsDue p of due → of_type names it t due of ≡ parsed t
  typed_read it t due None some fits = absurd (false≢true some)
  typed_read it t None (Some u) some fits = refl
  typed_read it t (Some above) (Some u) some fits = rw (under_is names p objects agree u above fits) refl

  pub typed_some : (entries : List Typed) (name : Name) → IsSome (named entries name) → IsSome (type_in entries name)
  typed_some entries name some = by (named entries name) some
    where
      by : (o : Option Typed) → IsSome o → IsSome (option_map (λ (e : Typed). e.of) o)
      by None some = some
      by (Some e) some = refl

  given_read : (place : Place) (f : Ident) (due : Option Name) (args : List Name) (g : Gives) → IsSome (gives_object g) → IsDue p (gives_object g) due
      → object_giver names Plain place f due args g ≡ parsed args
  given_read place f due args gives.Number some fits = absurd (false≢true some)
  given_read place f None args (gives.Object u) some fits = refl
  given_read place f (Some above) args (gives.Object u) some fits = rw (under_is names p objects agree u above fits) refl

  function_read : (place : Place) (it : Ident) (due : Option Name) (d : Function) → function_named p it.name ≡ Some d → IsSome (gives_object d.gives) → IsDue p (gives_object d.gives) due
      → object_function names Plain place it due (function_of names it.name) ≡ parsed d.args
  function_read place it due d here some fits =
      ap (object_function names Plain place it due) (function_found names p objects agree it.name ∙ ap (option_map signature_of) here)
      ∙ given_read place it due d.args d.gives some fits

  type_given : (f : Name) (n : _) (ts : Row_of-Term _) (d : Function) → function_named p f ≡ Some d → term_type p scope (Fluent' f n ts) ≡ gives_object d.gives
  type_given f n ts d here = rw here refl

  mutual
    unfolding tree.IsTerm RowFits IsRawTerm AreRawArguments

    pub term_read : (t : Term) → tree.IsTerm p objects scope t → (due : Option Name) → IsDue p (term_type p scope t) due
        → (raw : RawTerm) → IsRawTerm t raw → term names vars Plain raw due ≡ parsed t
    term_read (Var v) is due fits _ (a_variable _ (at place)) =
        term-Variable names vars Plain (ident_at v place) due ∙ ap (of_type names (ident_at v place) (Var v) due) (same v)
        ∙ typed_read (ident_at v place) (Var v) due (type_in scope v) (typed_some scope v is) fits
    term_read (Object o) is due fits _ (an_object _ (at place)) =
        term-Name names vars Plain (ident_at o place) due ∙ ap (of_type names (ident_at o place) (Object o) due) (object_found names p objects agree o ∙ sym (object_typed names p objects agree o is))
        ∙ typed_read (ident_at o place) (Object o) due (type_in p.objects o) (rw (object_typed names p objects agree o is) (typed_some objects o is)) fits
    term_read (Fluent' f n ts) is due fits _ (a_call place _ args (at there) are) =
        let Fits : Function → Type 0 = λ d. IsSome (gives_object d.gives) × RowFits p objects scope ts d.args in
        let (d, here, known) = found_and Fits (function_named p f) is in
        let due_is : IsDue p (gives_object d.gives) due = subst (λ o. IsDue p o due) (type_given f n ts d here) fits in
        term-Call names vars Plain place (ident_at f there) args due
        ∙ ap (over (λ us. Fluent f us)) (applied_read (term names vars Plain) place f (object_function names Plain place (ident_at f there) due (function_of names f)) d.args args (items-the_row-Term _ ts)
        (function_read place (ident_at f there) due d here known.0 due_is) (arguments_read ts d.args known.1 args are))
        ∙ ap parsed (sym (rebuilt f n ts))

    arguments_read : {n : _} (ts : Row_of-Term n) (types : List Name) → RowFits p objects scope ts types
        → (args : List RawTerm) → AreRawArguments ts args → ReadsAs (term names vars Plain) types args (items-the_row-Term _ ts)
    arguments_read end_of-Term [] fits _ empty = none_read (term names vars Plain)
    arguments_read end_of-Term (of ∷ types) fits _ are = absurd fits
    arguments_read (more_of-Term t ts) [] fits _ are = absurd fits
    arguments_read (more_of-Term t ts) (of ∷ types) fits _ (first arg args is are) =
        one_more_read (term names vars Plain) of types arg args t (items-the_row-Term _ ts)
        (term_read t fits.0 (Some of) fits.1 arg is) (arguments_read ts types fits.2 args are)

  pub terms_read : (ts : List Term) (types : List Name) → TermsFit p objects scope ts types
      → (args : List RawTerm) → AreRawTerms ts args → ReadsAs (term names vars Plain) types args ts
  terms_read [] [] fits _ empty = none_read (term names vars Plain)
  terms_read [] (of ∷ types) fits args are = absurd fits
  terms_read (t ∷ ts) [] fits args are = absurd fits
  terms_read (t ∷ ts) (of ∷ types) fits _ (first arg args is are) =
      one_more_read (term names vars Plain) of types arg args t ts (term_read t fits.0.0 (Some of) fits.0.1 arg is) (terms_read ts types fits.1 args are)

pub terms_are_named : (names : Declarations) (p : Parts) (objects : List Typed) → Declares names p objects
    → (scope : List Typed) (vars : Variables) → SameScope scope vars
    → (t : Term) → IsTerm p objects scope t → (due : Option Name) → IsDue p (term_type p scope t) due
    → (raw : RawTerm) → IsRawTerm t raw → term names vars Plain raw due ≡ parsed t
terms_are_named names p objects agree scope vars same t is due fits raw so = term_read names p objects agree scope vars same t is due fits raw so
