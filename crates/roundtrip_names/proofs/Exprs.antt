-- The abstract syntax of an expression is read as the expression.
use Rattle.std.proofs.Common.{◌≡◌, true, false, List, [], ◌∷◌, Some, option_map, refl, ap, ◌∙◌}
use Rattle.std.proofs.lemmas.Bool.{false≢true}
use Rattle.std.specs.Prelude.{IsSome}
use Rattle.up_text.specs.declared.name.Name.{Name}
use Rattle.up_text.specs.declared.place.Place.{Place}
use Rattle.up_tree.specs.declared.term.Typed.{Typed}
use Rattle.up_tree.specs.declared.term.Term.{Term, Var, Object, Fluent'}
use Rattle.up_tree.specs.declared.expr.Expr.{Expr, Number, Fluent, Sum, Difference, Product, Quotient}
use Rattle.up_tree.specs.declared.problem.Function.{Function}
use Rattle.up_tree.specs.declared.problem.Gives.{Gives}
use Rattle.up_tree.specs.declared.problem.Gives.TheVariants as gives
use Rattle.up_tree.specs.declared.problem.Parts.{Parts}
use Rattle.up_tree.specs.Nodes.{sum, difference, product, quotient, built}
use Rattle.up_tree.specs.Objects.{function_named}
use Rattle.up_tree.specs.WellFormed as tree
use Rattle.up_tree.specs.WellFormed.{gives_object, GivesNumber, RowFits, TermsFit, IsExpr}
use Rattle.pddl_lex.specs.Parses.{parsed, over}
use Rattle.pddl_parse.specs.declared.raw.Ident.{Ident}
use Rattle.pddl_parse.specs.declared.raw.Operator.{Operator}
use Rattle.pddl_parse.specs.declared.raw.Operator.TheVariants as operator
use Rattle.pddl_parse.specs.declared.raw.RawTerm as raw
use Rattle.pddl_parse.specs.declared.raw.RawTerm.{RawTerm}
use Rattle.pddl_parse.specs.Forms.{ident_at}
use Rattle.up_phrase.specs.declared.term.Setting.TheVariants.{Plain}
use Rattle.up_phrase.specs.Conditions.{gives_number, is_numeric_function, is_numeric}
use Rattle.up_phrase.specs.Declarations.{Declarations}
use Rattle.up_phrase.specs.Exprs.{number_giver, numeric_function, binary, arithmetic, expr}
use Rattle.up_phrase.specs.Lookups.{function_of}
use Rattle.up_phrase.specs.Scopes.{Variables}
use Rattle.up_phrase.specs.Terms.{term}
use Rattle.up_phrase.proofs.ExprNodes.{expr-Number, expr-Call, expr-Arithmetic}
use Rattle.up_phrase.proofs.FormulaNodes.{is_numeric-Name, is_numeric-Variable, is_numeric-Number, is_numeric-Call, is_numeric-Arithmetic}
use Rattle.roundtrip_tokens.proofs.Named.{found_and}
use Rattle.roundtrip_shapes.specs.Raw.{at, a_variable, an_object, a_number, a_call, arithmetic as an_arithmetic, IsRawTerm, IsRawExpr}
use Rattle.roundtrip_names.specs.Declared.{signature_of, Declares, SameScope}
use Rattle.roundtrip_names.proofs.Found.{function_found}
use Rattle.roundtrip_names.proofs.Terms.{applied_read, terms_read}

pub sum_built : (a b : Expr) → Sum a b ≡ sum a b
unfolding built
sum_built a b = refl

pub difference_built : (a b : Expr) → Difference a b ≡ difference a b
unfolding built
difference_built a b = refl

pub product_built : (a b : Expr) → Product a b ≡ product a b
unfolding built
product_built a b = refl

pub quotient_built : (a b : Expr) → Quotient a b ≡ quotient a b
unfolding built
quotient_built a b = refl

pub two_operands : (op : Operator) (place : Place) (a b : Expr) → arithmetic op place (a ∷ b ∷ []) ≡ parsed (binary op a b)
two_operands operator.Sum place a b = refl
two_operands operator.Difference place a b = refl
two_operands operator.Product place a b = refl
two_operands operator.Quotient place a b = refl

number_given : (it : Ident) (args : List Name) (g : Gives) → GivesNumber g → number_giver it args g ≡ parsed args
number_given it args gives.Number is = refl
number_given it args (gives.Object of) is = absurd is

number_gives : (g : Gives) → GivesNumber g → gives_number g ≡ true
number_gives gives.Number is = refl
number_gives (gives.Object of) is = absurd is

object_gives : (g : Gives) → IsSome (gives_object g) → gives_number g ≡ false
object_gives gives.Number is = absurd (false≢true is)
object_gives (gives.Object of) is = refl

module _ (names : Declarations) (p : Parts) (objects : List Typed) (agree : Declares names p objects) where
  -- what is declared of a function of the problem
  pub signature_found : (f : Name) (d : Function) → function_named p f ≡ Some d → function_of names f ≡ Some (signature_of d)
  signature_found f d here = function_found names p objects agree f ∙ ap (option_map signature_of) here

  pub numeric_read : (it : Ident) (d : Function) → function_named p it.name ≡ Some d → GivesNumber d.gives → numeric_function it (function_of names it.name) ≡ parsed d.args
  numeric_read it d here number = ap (numeric_function it) (signature_found it.name d here) ∙ number_given it d.args d.gives number

  module _ (scope : List Typed) where
    -- a term is no number
    pub term_not_numeric : (t : Term) → tree.IsTerm p objects scope t → (raw : RawTerm) → IsRawTerm t raw → is_numeric names raw ≡ false
    unfolding tree.IsTerm IsRawTerm
    term_not_numeric (Var v) is _ (a_variable ident so) = is_numeric-Variable names ident
    term_not_numeric (Object o) is _ (an_object ident so) = is_numeric-Name names ident
    term_not_numeric (Fluent' f n ts) is _ (a_call place _ args (at there) are) =
        let Fits : Function → Type 0 = λ d. IsSome (gives_object d.gives) × RowFits p objects scope ts d.args in
        let (d, here, known) = found_and Fits (function_named p f) is in
        is_numeric-Call names place (ident_at f there) args ∙ ap is_numeric_function (signature_found f d here) ∙ object_gives d.gives known.0

    pub expr_numeric : (x : Expr) → tree.IsExpr p objects scope x → (raw : RawTerm) → IsRawExpr x raw → is_numeric names raw ≡ true
    unfolding tree.IsExpr IsRawExpr
    expr_numeric (Number n) is _ (a_number place) = is_numeric-Number names place n
    expr_numeric (Fluent f ts) is _ (a_call place _ args (at there) are) =
        let Fits : Function → Type 0 = λ d. GivesNumber d.gives × TermsFit p objects scope ts d.args in
        let (d, here, known) = found_and Fits (function_named p f) is in
        is_numeric-Call names place (ident_at f there) args ∙ ap is_numeric_function (signature_found f d here) ∙ number_gives d.gives known.0
    expr_numeric (sum a b) is _ (an_arithmetic place x y so_a so_b) = is_numeric-Arithmetic names place operator.Sum (x ∷ y ∷ [])
    expr_numeric (difference a b) is _ (an_arithmetic place x y so_a so_b) = is_numeric-Arithmetic names place operator.Difference (x ∷ y ∷ [])
    expr_numeric (product a b) is _ (an_arithmetic place x y so_a so_b) = is_numeric-Arithmetic names place operator.Product (x ∷ y ∷ [])
    expr_numeric (quotient a b) is _ (an_arithmetic place x y so_a so_b) = is_numeric-Arithmetic names place operator.Quotient (x ∷ y ∷ [])

    module _ (vars : Variables) (same : SameScope scope vars) where
      pair_read : (op : Operator) (place : Place) (x y : RawTerm) (a b : Expr) → expr names vars Plain x ≡ parsed a → expr names vars Plain y ≡ parsed b
          → expr names vars Plain (raw.Arithmetic place op (x ∷ y ∷ [])) ≡ parsed (binary op a b)
      pair_read op place x y a b one two = expr-Arithmetic names vars Plain place op (x ∷ y ∷ []) ∙ rw (one, two) (two_operands op place a b)

      pub expr_read : (x : Expr) → tree.IsExpr p objects scope x → (raw : RawTerm) → IsRawExpr x raw → expr names vars Plain raw ≡ parsed x
      unfolding tree.IsExpr IsRawExpr
      expr_read (Number n) is _ (a_number place) = expr-Number names vars Plain place n
      expr_read (Fluent f ts) is _ (a_call place _ args (at there) are) =
          let Fits : Function → Type 0 = λ d. GivesNumber d.gives × TermsFit p objects scope ts d.args in
          let (d, here, known) = found_and Fits (function_named p f) is in
          expr-Call names vars Plain place (ident_at f there) args
          ∙ ap (over (λ us. Fluent f us)) (applied_read (term names vars Plain) place f (numeric_function (ident_at f there) (function_of names f)) d.args args ts
          (numeric_read (ident_at f there) d here known.0) (terms_read names p objects agree scope vars same ts d.args known.1 args are))
      expr_read (sum a b) is _ (an_arithmetic place x y so_a so_b) =
          pair_read operator.Sum place x y a b (expr_read a is.0 x so_a) (expr_read b is.1 y so_b) ∙ ap parsed (sum_built a b)
      expr_read (difference a b) is _ (an_arithmetic place x y so_a so_b) =
          pair_read operator.Difference place x y a b (expr_read a is.0 x so_a) (expr_read b is.1 y so_b) ∙ ap parsed (difference_built a b)
      expr_read (product a b) is _ (an_arithmetic place x y so_a so_b) =
          pair_read operator.Product place x y a b (expr_read a is.0 x so_a) (expr_read b is.1 y so_b) ∙ ap parsed (product_built a b)
      expr_read (quotient a b) is _ (an_arithmetic place x y so_a so_b) =
          pair_read operator.Quotient place x y a b (expr_read a is.0 x so_a) (expr_read b is.1 y so_b) ∙ ap parsed (quotient_built a b)

pub expressions_are_named : (names : Declarations) (p : Parts) (objects : List Typed) → Declares names p objects
    → (scope : List Typed) (vars : Variables) → SameScope scope vars
    → (x : Expr) → IsExpr p objects scope x → (raw : RawTerm) → IsRawExpr x raw → expr names vars Plain raw ≡ parsed x
expressions_are_named names p objects agree scope vars same x is raw so = expr_read names p objects agree scope vars same x is raw so
