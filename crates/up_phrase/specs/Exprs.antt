-- Expressions of raw terms.
use Rattle.std.specs.Prelude.{◌≡◌, ◌++◌, ℕ, zero, suc, ◌-◌, ◌/◌, ◌==◌, Bool, false, if◌then◌else◌, List, [], ◌∷◌, length, take, drop, Option, Some, None, pos}
use Rattle.std.specs.Option.{option_map_or}
use Rattle.up_frac.specs.Arithmetic.{whole}
use Rattle.up_text.specs.declared.name.Name.{Name}
use Rattle.up_text.specs.declared.place.Place.{Place}
use Rattle.pddl_lex.specs.Parses.{parsed, rejected, over, all}
use Rattle.pddl_parse.specs.declared.raw.Ident.{Ident}
use Rattle.pddl_parse.specs.declared.raw.Operator.{Operator}
use Rattle.pddl_parse.specs.declared.raw.Operator.TheVariants as operator
use Rattle.pddl_parse.specs.declared.raw.RawTerm.{RawTerm, Row_of-RawTerm, end_of-RawTerm, more_of-RawTerm}
use Rattle.pddl_parse.specs.declared.raw.RawTerm as form
use Rattle.up_tree.specs.declared.expr.Expr.{Expr, Number, Fluent, Sum, Difference, Product, Quotient}
use Rattle.up_tree.specs.declared.problem.Gives.{Gives}
use Rattle.up_tree.specs.declared.problem.Gives.TheVariants as gives
use Rattle.up_phrase.specs.declared.fault.Fault.{Fault}
use Rattle.up_phrase.specs.Declarations.{Declarations}
use Rattle.up_phrase.specs.declared.names.Signature.{Signature}
use Rattle.up_phrase.specs.declared.reason.Reason.TheVariants.{Expected, UnknownName, TypeMismatch}
use Rattle.up_phrase.specs.declared.term.Setting.{Setting}
use Rattle.up_phrase.specs.declared.term.Setting.TheVariants as setting
use Rattle.up_phrase.specs.Named.{at, bare}
use Rattle.up_phrase.specs.Lookups.{type_of, function_of}
use Rattle.up_phrase.specs.Scopes.{Variables, variable_type}
use Rattle.up_phrase.specs.Terms.{applied, terms}
use Rattle.up_phrase.specs.Walks.{Checked, after}

-- a name or variable of this type where a number is due: it isn't declared, or it is an object
abbrev pub no_number : Ident → Option Name → Fault
no_number it None = at it.place UnknownName it.name
no_number it (Some of) = at it.place TypeMismatch it.name

-- the types of the arguments of a function that gives this, where a number is due
abbrev pub number_giver : Ident → List Name → Gives → Checked (List Name)
number_giver f args gives.Number = parsed args
number_giver f args (gives.Object of) = rejected (at f.place TypeMismatch f.name) []

abbrev pub numeric_function : Ident → Option Signature → Checked (List Name)
numeric_function f None = rejected (at f.place UnknownName f.name) []
numeric_function f (Some function) = number_giver f function.args function.gives

-- a bare name where a number is due: in a metric it is a function without arguments
abbrev pub bare_name : Declarations → Setting → Ident → Checked Expr
bare_name names setting.Plain it = rejected (no_number it (type_of names it.name)) []
bare_name names setting.Constraint it = rejected (no_number it (type_of names it.name)) []
bare_name names setting.Metric it = over (λ ts. Fluent it.name ts) (applied it.place it.name (numeric_function it (function_of names it.name)) [])

abbrev pub binary : Operator → Expr → Expr → Expr
binary operator.Sum a b = Sum a b
binary operator.Difference a b = Difference a b
binary operator.Product a b = Product a b
binary operator.Quotient a b = Quotient a b

abbrev pub both : Operator → Option Expr → Option Expr → Option Expr
both op None right = None
both op (Some a) None = None
both op (Some a) (Some b) = Some (binary op a b)

-- n operands as the pair of the first n - n/2 and the last n/2, each part paired so in turn; one is itself, and there is none of none.
-- As many turns as there are operands suffice.
abbrev pub halved : ℕ → Operator → List Expr → Option Expr
halved zero op es = None
halved (suc turns) op [] = None
halved (suc turns) op (a ∷ []) = Some a
halved (suc turns) op (a ∷ b ∷ es) =
    let n : ℕ = length (a ∷ b ∷ es) - length (a ∷ b ∷ es) / 2 in
    both op (halved turns op (take n (a ∷ b ∷ es))) (halved turns op (drop n (a ∷ b ∷ es)))

abbrev pub paired : Operator → List Expr → Option Expr
paired op es = halved (length es) op es

-- the last `count` operands have been taken off and paired
pub record Taken (op : Operator) (count : ℕ) (old new : List Expr) (made : Option Expr) : Type 0 where
  pub pairs : (front last : List Expr) → old ≡ front ++ last → length last ≡ count → made ≡ halved count op last
  pub leaves : (front last : List Expr) → old ≡ front ++ last → length last ≡ count → new ≡ front

-- whether `-` stands before one operand
abbrev pub is_negation : Operator → ℕ → Bool
is_negation operator.Sum n = false
is_negation operator.Difference n = n == 1
is_negation operator.Product n = false
is_negation operator.Quotient n = false

-- `(- e)` is `(- 0 e)`
abbrev pub negative : Expr → Expr
negative e = Difference (Number (whole (pos 0))) e

-- operands under the operator of a bracket
abbrev pub arithmetic : Operator → Place → List Expr → Checked Expr
arithmetic op place es = option_map_or (λ e. parsed (if is_negation op (length es) then negative e else e)) (paired op es) (rejected (bare place Expected) [])

unfoldable mutual
  pub expr : Declarations → Variables → Setting → RawTerm → Checked Expr
  expr names vars s (form.Name it) = bare_name names s it
  expr names vars s (form.Variable it) = rejected (no_number it (variable_type vars it.name)) []
  expr names vars s (form.Number place n) = parsed (Number n)
  expr names vars s (form.Call' place f n args) =
      over (λ ts. Fluent f.name ts) (applied place f.name (numeric_function f (function_of names f.name)) (terms names vars s args))
  expr names vars s (form.Arithmetic' place op n operands) = after (all (exprs names vars s operands)) (arithmetic op place)

  pub exprs : Declarations → Variables → Setting → {n : _} → Row_of-RawTerm n → List (Checked Expr)
  exprs names vars s end_of-RawTerm = []
  exprs names vars s (more_of-RawTerm operand operands) = expr names vars s operand ∷ exprs names vars s operands
