-- What the definitions say of a raw term as code takes it apart.
use Rattle.std.proofs.Common.{◌≡◌, List, [], ◌∷◌, map, Option, Some, refl, ap, ◌∙◌}
use Rattle.up_text.specs.declared.name.Name.{Name}
use Rattle.up_text.specs.declared.place.Place.{Place}
use Rattle.up_frac.specs.declared.frac.Frac.{Frac}
use Rattle.pddl_lex.specs.Parses.{rejected, first, over}
use Rattle.pddl_parse.specs.declared.raw.Ident.{Ident}
use Rattle.pddl_parse.specs.declared.raw.Operator.{Operator}
use Rattle.pddl_parse.specs.declared.raw.RawTerm.{RawTerm, Row_of-RawTerm, end_of-RawTerm, more_of-RawTerm, items-the_row-RawTerm, items_hidden-the_row-RawTerm-0}
use Rattle.pddl_parse.specs.declared.raw.RawTerm as form
use Rattle.pddl_parse.specs.declared.raw.RawTerm.TheBlock.{hidden-the_row-RawTerm-0}
use Rattle.up_tree.specs.declared.term.Term.{Var, Object, Fluent}
use Rattle.up_phrase.specs.declared.fault.Fault.{Fault}
use Rattle.up_phrase.specs.Declarations.{Declarations}
use Rattle.up_phrase.specs.declared.reason.Reason.TheVariants.{TypeMismatch}
use Rattle.up_phrase.specs.declared.term.Setting.{Setting}
use Rattle.up_phrase.specs.Named.{bare}
use Rattle.up_phrase.specs.Lookups.{type_of, function_of}
use Rattle.up_phrase.specs.Scopes.{Variables, variable_type}
use Rattle.up_phrase.specs.Terms.{of_type, object_function, applied, term, terms}
use Rattle.up_phrase.proofs.Steps.{first_over, first_after}

module _ (names : Declarations) (vars : Variables) (s : Setting) where
  pub term-Name : (it : Ident) (due : Option Name) → term names vars s (form.Name it) due ≡ of_type names it (Object it.name) due (type_of names it.name)
  unfolding term
  term-Name it due = refl

  pub term-Variable : (it : Ident) (due : Option Name) → term names vars s (form.Variable it) due ≡ of_type names it (Var it.name) due (variable_type vars it.name)
  unfolding term
  term-Variable it due = refl

  pub term-Number : (place : Place) (n : Frac) (due : Option Name) → term names vars s (form.Number place n) due ≡ rejected (bare place TypeMismatch) []
  unfolding term
  term-Number place n due = refl

  pub term-Arithmetic : (place : Place) (op : Operator) (args : List RawTerm) (due : Option Name)
      → term names vars s (form.Arithmetic place op args) due ≡ rejected (bare place TypeMismatch) []
  unfolding term
  term-Arithmetic place op args due = refl

  terms-items : {n : _} (args : Row_of-RawTerm n) → terms names vars s args ≡ map (term names vars s) (items-the_row-RawTerm _ args)
  unfolding term terms
  terms-items end_of-RawTerm = refl
  terms-items (more_of-RawTerm arg args) = ap (λ ts. term names vars s arg ∷ ts) (terms-items args)

  pub terms-all : (args : List RawTerm) → terms names vars s (hidden-the_row-RawTerm-0 args) ≡ map (term names vars s) args
  terms-all args = terms-items (hidden-the_row-RawTerm-0 args) ∙ ap (map (term names vars s)) (items_hidden-the_row-RawTerm-0 args)

  pub term-Call : (place : Place) (f : Ident) (args : List RawTerm) (due : Option Name)
      → term names vars s (form.Call place f args) due
      ≡ over (λ ts. Fluent f.name ts) (applied place f.name (object_function names s place f due (function_of names f.name)) (map (term names vars s) args))
  unfolding term
  term-Call place f args due =
      ap (λ each. over (λ ts. Fluent f.name ts) (applied place f.name (object_function names s place f due (function_of names f.name)) each))
      (terms-all args)

  -- a function at arguments that may not stand there
  pub term_off : (raw : RawTerm) (place : Place) (f : Ident) (args : List RawTerm) (due : Option Name) (fault : Fault) → raw ≡ form.Call place f args
      → first (object_function names s place f due (function_of names f.name)) ≡ Some fault → first (term names vars s raw due) ≡ Some fault
  term_off raw place f args due fault is e =
      rw (is, term-Call place f args due)
      (first_over _ _ ∙ first_after (object_function names s place f due (function_of names f.name)) _ fault e)

pub ruleset term_nodes = (term-Name, term-Variable, term-Number, term-Arithmetic, term-Call)
