-- What the definitions say of a raw expression as code takes it apart.
use Rattle.std.proofs.Common.{◌≡◌, List, [], ◌∷◌, map, refl, ap, ◌∙◌}
use Rattle.up_frac.specs.declared.frac.Frac.{Frac}
use Rattle.up_text.specs.declared.place.Place.{Place}
use Rattle.pddl_lex.specs.Parses.{parsed, rejected, over, all}
use Rattle.pddl_parse.specs.declared.raw.Ident.{Ident}
use Rattle.pddl_parse.specs.declared.raw.Operator.{Operator}
use Rattle.pddl_parse.specs.declared.raw.RawTerm.{RawTerm, Row_of-RawTerm, end_of-RawTerm, more_of-RawTerm, items-the_row-RawTerm, items_hidden-the_row-RawTerm-0}
use Rattle.pddl_parse.specs.declared.raw.RawTerm as form
use Rattle.pddl_parse.specs.declared.raw.RawTerm.TheBlock.{hidden-the_row-RawTerm-0}
use Rattle.up_tree.specs.declared.expr.Expr.{Number, Fluent}
use Rattle.up_phrase.specs.Declarations.{Declarations}
use Rattle.up_phrase.specs.declared.term.Setting.{Setting}
use Rattle.up_phrase.specs.Exprs.{no_number, numeric_function, bare_name, arithmetic, expr, exprs}
use Rattle.up_phrase.specs.Lookups.{function_of}
use Rattle.up_phrase.specs.Scopes.{Variables, variable_type}
use Rattle.up_phrase.specs.Terms.{applied, term}
use Rattle.up_phrase.specs.Walks.{after}
use Rattle.up_phrase.proofs.TermNodes.{terms-all}

module _ (names : Declarations) (vars : Variables) (s : Setting) where
  pub expr-Name : (it : Ident) → expr names vars s (form.Name it) ≡ bare_name names s it
  unfolding expr
  expr-Name it = refl

  pub expr-Variable : (it : Ident) → expr names vars s (form.Variable it) ≡ rejected (no_number it (variable_type vars it.name)) []
  unfolding expr
  expr-Variable it = refl

  pub expr-Number : (place : Place) (n : Frac) → expr names vars s (form.Number place n) ≡ parsed (Number n)
  unfolding expr
  expr-Number place n = refl

  pub expr-Call : (place : Place) (f : Ident) (args : List RawTerm)
      → expr names vars s (form.Call place f args)
      ≡ over (λ ts. Fluent f.name ts) (applied place f.name (numeric_function f (function_of names f.name)) (map (term names vars s) args))
  unfolding expr
  expr-Call place f args =
      ap (λ each. over (λ ts. Fluent f.name ts) (applied place f.name (numeric_function f (function_of names f.name)) each)) (terms-all names vars s args)

  exprs-items : {n : _} (operands : Row_of-RawTerm n) → exprs names vars s operands ≡ map (expr names vars s) (items-the_row-RawTerm _ operands)
  unfolding expr exprs
  exprs-items end_of-RawTerm = refl
  exprs-items (more_of-RawTerm operand operands) = ap (λ es. expr names vars s operand ∷ es) (exprs-items operands)

  pub expr-Arithmetic : (place : Place) (op : Operator) (operands : List RawTerm)
      → expr names vars s (form.Arithmetic place op operands) ≡ after (all (map (expr names vars s) operands)) (arithmetic op place)
  unfolding expr
  expr-Arithmetic place op operands =
      ap (λ each. after (all each) (arithmetic op place))
      (exprs-items (hidden-the_row-RawTerm-0 operands) ∙ ap (map (expr names vars s)) (items_hidden-the_row-RawTerm-0 operands))

pub ruleset expr_nodes = (expr-Name, expr-Variable, expr-Number, expr-Call, expr-Arithmetic)
