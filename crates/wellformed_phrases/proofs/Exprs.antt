-- What is read as an expression is one.
use Rattle.std.proofs.Common.{◌≡◌, ℕ, zero, suc, ◌-◌, ◌/◌, Bool, true, false, if◌then◌else◌, List, [], ◌∷◌, length, take, drop, Option, Some, None, refl, sym, subst, pos, arith}
use Rattle.std.specs.Prelude.{IfSome}
use Rattle.up_frac.specs.Arithmetic.{reduce, whole}
use Rattle.up_frac.specs.Fraction.{common}
use Rattle.up_text.specs.declared.name.Name.{Name}
use Rattle.up_text.specs.declared.place.Place.{Place}
use Rattle.up_text.specs.Lists.{Every}
use Rattle.pddl_lex.specs.Parses.{parsed, rejected, all}
use Rattle.pddl_parse.specs.declared.raw.Ident.{Ident}
use Rattle.pddl_parse.specs.declared.raw.Operator.{Operator}
use Rattle.pddl_parse.specs.declared.raw.Operator.TheVariants as operator
use Rattle.pddl_parse.specs.declared.raw.RawTerm.{RawTerm, Row_of-RawTerm, end_of-RawTerm, more_of-RawTerm}
use Rattle.pddl_parse.specs.declared.raw.RawTerm as form
use Rattle.up_tree.specs.declared.expr.Expr.{Expr, Fluent}
use Rattle.up_tree.specs.declared.term.Term.{Term}
use Rattle.up_tree.specs.declared.term.Typed.{Typed}
use Rattle.up_tree.specs.declared.problem.Parts.{Parts}
use Rattle.up_tree.specs.declared.problem.Gives.{Gives}
use Rattle.up_tree.specs.declared.problem.Gives.TheVariants as gives
use Rattle.up_tree.specs.Nodes.{built}
use Rattle.up_tree.specs.Objects.{function_named}
use Rattle.up_tree.specs.WellFormed.{IsLiteral, IsExpr, IsNumberTerm, TermsFit, GivesNumber}
use Rattle.up_phrase.specs.declared.names.Signature.{Signature}
use Rattle.up_phrase.specs.declared.term.Setting.{Setting}
use Rattle.up_phrase.specs.declared.term.Setting.TheVariants as setting
use Rattle.up_phrase.specs.Declarations.{Declarations}
use Rattle.up_phrase.specs.Lookups.{function_of}
use Rattle.up_phrase.specs.Scopes.{Variables}
use Rattle.up_phrase.specs.Terms.{applied, terms}
use Rattle.up_phrase.specs.Exprs.{number_giver, numeric_function, bare_name, binary, both, halved, paired, is_negation, negative, arithmetic, expr, exprs}
use Rattle.std.specs.Option.{option_map_or}
use Rattle.up_phrase.specs.declared.reason.Reason.TheVariants.{Expected}
use Rattle.up_phrase.specs.Named.{bare}
use Rattle.up_check.specs.Lists.{function}
use Rattle.wellformed_phrases.specs.Agreement.{IfParsed, Agree, AgreeInScope}
use Rattle.wellformed_phrases.specs.LawfulPhrases.{HasLiterals, HaveLiterals}
use Rattle.wellformed_phrases.proofs.Parses.{parsed_over, parsed_after, parsed_all}
use Rattle.wellformed_phrases.proofs.Tables.{function_is, at_some}
use Rattle.wellformed_phrases.proofs.Terms.{applied_are, terms_are}

pub every_take : {X : Type 0} (P : X → Type 0) (n : ℕ) (xs : List X) → Every P xs → Every P (take n xs)
every_take P zero xs are = tt
every_take P (suc n) [] are = tt
every_take P (suc n) (x ∷ xs) are = (are.0, every_take P n xs are.1)

pub every_drop : {X : Type 0} (P : X → Type 0) (n : ℕ) (xs : List X) → Every P xs → Every P (drop n xs)
every_drop P zero xs are = are
every_drop P (suc n) [] are = tt
every_drop P (suc n) (x ∷ xs) are = every_drop P n xs are.1

zero_is_literal : IsLiteral (whole (pos 0))
unfolding whole reduce common
zero_is_literal = record { places = 0; digits = 0; few_places = omega arith; exact = refl; few_digits = omega arith }

module _ (names : Declarations) (p : Parts) (objects : List Typed) (agree : Agree names p objects)
    (vars : Variables) (scope : List Typed) (in_scope : AgreeInScope p vars scope) (s : Setting) where
  -- a numeric function with arguments of these types
  abbrev pub GivesNumbers : Name → List Name → Type 0
  GivesNumbers f types = (signature : Signature) × (function_of names f ≡ Some signature) × (signature.args ≡ types) × GivesNumber signature.gives

  giver_is : (f : Ident) (signature : Signature) (g : Gives) → function_of names f.name ≡ Some signature → signature.gives ≡ g
      → IfParsed (number_giver f signature.args g) (GivesNumbers f.name)
  giver_is f signature gives.Number is so = (signature, is, refl, subst GivesNumber (sym so) tt)
  giver_is f signature (gives.Object of) is so = tt

  pub numeric_is : (f : Ident) (found : Option Signature) → function_of names f.name ≡ found → IfParsed (numeric_function f found) (GivesNumbers f.name)
  numeric_is f None is = tt
  numeric_is f (Some signature) is = giver_is f signature signature.gives is refl

  pub number_term_is : (f : Name) (ts : List Term) → (types : List Name) × GivesNumbers f types × TermsFit p objects scope ts types → IsNumberTerm p objects scope f ts
  number_term_is f ts (types, (signature, is, args, number), fit) =
      at_some (function_named p f) (function (f, signature)) (λ d. GivesNumber d.gives × TermsFit p objects scope ts d.args) (function_is names p objects agree f signature is)
      (number, subst (TermsFit p objects scope ts) (sym args) fit)

  fluent_is : (f : Name) (ts : List Term) → (types : List Name) × GivesNumbers f types × TermsFit p objects scope ts types → IsExpr p objects scope (Fluent f ts)
  unfolding IsExpr
  fluent_is f ts h = number_term_is f ts h

  binary_is : (op : Operator) (a b : Expr) → IsExpr p objects scope a → IsExpr p objects scope b → IsExpr p objects scope (binary op a b)
  unfolding IsExpr built
  binary_is operator.Sum a b is so = (is, so)
  binary_is operator.Difference a b is so = (is, so)
  binary_is operator.Product a b is so = (is, so)
  binary_is operator.Quotient a b is so = (is, so)

  negative_is : (e : Expr) → IsExpr p objects scope e → IsExpr p objects scope (negative e)
  unfolding IsExpr built
  negative_is e is = (zero_is_literal, is)

  both_is : (op : Operator) (a b : Option Expr) → IfSome a (IsExpr p objects scope) → IfSome b (IsExpr p objects scope) → IfSome (both op a b) (IsExpr p objects scope)
  both_is op None b is so = tt
  both_is op (Some a) None is so = tt
  both_is op (Some a) (Some b) is so = binary_is op a b is so

  halved_is : (turns : ℕ) (op : Operator) (es : List Expr) → Every (IsExpr p objects scope) es → IfSome (halved turns op es) (IsExpr p objects scope)
  halved_is zero op es are = tt
  halved_is (suc turns) op [] are = tt
  halved_is (suc turns) op (a ∷ []) are = are.0
  halved_is (suc turns) op (a ∷ b ∷ es) are =
      let n : ℕ = length (a ∷ b ∷ es) - length (a ∷ b ∷ es) / 2 in
      both_is op (halved turns op (take n (a ∷ b ∷ es))) (halved turns op (drop n (a ∷ b ∷ es)))
      (halved_is turns op (take n (a ∷ b ∷ es)) (every_take (IsExpr p objects scope) n (a ∷ b ∷ es) are))
      (halved_is turns op (drop n (a ∷ b ∷ es)) (every_drop (IsExpr p objects scope) n (a ∷ b ∷ es) are))

  arithmetic_is : (op : Operator) (place : Place) (es : List Expr) → Every (IsExpr p objects scope) es → IfParsed (arithmetic op place es) (IsExpr p objects scope)
  arithmetic_is op place es are = by (paired op es) (halved_is (length es) op es are)
    where
      signed : (e : Expr) → IsExpr p objects scope e → (b : Bool) → IsExpr p objects scope (if b then negative e else e)
      signed e is true = negative_is e is
      signed e is false = is

      by : (made : Option Expr) → IfSome made (IsExpr p objects scope)
          → IfParsed (option_map_or (λ e. parsed (if is_negation op (length es) then negative e else e)) made (rejected (bare place Expected) [])) (IsExpr p objects scope)
      by None is = tt
      by (Some e) is = signed e is (is_negation op (length es))

  bare_is : (it : Ident) (at_setting : Setting) → IfParsed (bare_name names at_setting it) (IsExpr p objects scope)
  bare_is it setting.Plain = tt
  bare_is it setting.Constraint = tt
  bare_is it setting.Metric =
      parsed_over (λ ts. (types : List Name) × GivesNumbers it.name types × TermsFit p objects scope ts types) (IsExpr p objects scope) (λ ts. Fluent it.name ts)
      (applied it.place it.name (numeric_function it (function_of names it.name)) []) (fluent_is it.name)
      (applied_are names p objects agree vars scope in_scope s (GivesNumbers it.name) it.place it.name (numeric_function it (function_of names it.name)) []
      (numeric_is it (function_of names it.name) refl) tt)

  mutual
    unfolding expr exprs HasLiterals HaveLiterals IsExpr

    pub expr_is : (raw : RawTerm) → HasLiterals raw → IfParsed (expr names vars s raw) (IsExpr p objects scope)
    expr_is (form.Name it) has = bare_is it s
    expr_is (form.Variable it) has = tt
    expr_is (form.Number place n) has = has
    expr_is (form.Call' place f n args) has =
        parsed_over (λ ts. (types : List Name) × GivesNumbers f.name types × TermsFit p objects scope ts types) (IsExpr p objects scope) (λ ts. Fluent f.name ts)
        (applied place f.name (numeric_function f (function_of names f.name)) (terms names vars s args)) (fluent_is f.name)
        (applied_are names p objects agree vars scope in_scope s (GivesNumbers f.name) place f.name (numeric_function f (function_of names f.name)) (terms names vars s args)
        (numeric_is f (function_of names f.name) refl) (terms_are names p objects agree vars scope in_scope s args))
    expr_is (form.Arithmetic' place op n operands) has =
        parsed_after (Every (IsExpr p objects scope)) (IsExpr p objects scope) (all (exprs names vars s operands)) (arithmetic op place)
        (parsed_all (IsExpr p objects scope) (exprs names vars s operands) (exprs_are operands has)) (λ es are. arithmetic_is op place es are)

    exprs_are : {n : _} (operands : Row_of-RawTerm n) → HaveLiterals operands → Every (λ v. IfParsed v (IsExpr p objects scope)) (exprs names vars s operands)
    exprs_are end_of-RawTerm has = tt
    exprs_are (more_of-RawTerm operand operands) has = (expr_is operand has.0, exprs_are operands has.1)

pub expressions_are_well_formed : (names : Declarations) (p : Parts) (objects : List Typed) → Agree names p objects
    → (vars : Variables) (scope : List Typed) → AgreeInScope p vars scope
    → (s : Setting) (raw : RawTerm) → HasLiterals raw → IfParsed (expr names vars s raw) (IsExpr p objects scope)
expressions_are_well_formed names p objects agree vars scope in_scope s raw has = expr_is names p objects agree vars scope in_scope s raw has
