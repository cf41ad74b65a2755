-- A raw term is read as an expression exactly where it denotes it.
use Rattle.std.proofs.Common.{◌≡◌, suc, Bool, true, false, if◌then◌else◌, List, [], ◌∷◌, length, map, Option, Some, None, refl, ap, sym, ◌∙◌, subst}
use Rattle.std.specs.Prelude.{◌==◌}
use Rattle.std.specs.Option.{option_map_or}
use Rattle.up_text.specs.declared.name.Name.{Name}
use Rattle.up_text.specs.declared.place.Place.{Place}
use Rattle.up_text.specs.Lists.{Every}
use Rattle.pddl_lex.specs.Parses.{parsed, rejected, over, all}
use Rattle.pddl_parse.specs.declared.raw.Ident.{Ident}
use Rattle.pddl_parse.specs.declared.raw.Operator.{Operator}
use Rattle.pddl_parse.specs.declared.raw.Operator.TheVariants as operator
use Rattle.pddl_parse.specs.declared.raw.RawTerm.{RawTerm, Row_of-RawTerm, end_of-RawTerm, more_of-RawTerm, items-the_row-RawTerm}
use Rattle.pddl_parse.specs.declared.raw.RawTerm as raw
use Rattle.pddl_parse.proofs.Spelled.{Sound, sound_over, sound_two, sound_behind}
use Rattle.up_tree.specs.declared.expr.Expr.{Expr, Number, Fluent}
use Rattle.up_tree.specs.declared.problem.Gives.{Gives}
use Rattle.up_tree.specs.declared.problem.Gives.TheVariants as gives
use Rattle.up_tree.specs.declared.term.Term.{Term}
use Rattle.up_phrase.specs.Declarations.{Declarations}
use Rattle.up_phrase.specs.declared.names.Signature.{Signature}
use Rattle.up_phrase.specs.declared.reason.Reason.TheVariants.{Arity, Expected}
use Rattle.up_phrase.specs.declared.term.Setting.{Setting}
use Rattle.up_phrase.specs.declared.term.Setting.TheVariants as setting
use Rattle.up_phrase.specs.Named.{at, bare}
use Rattle.up_phrase.specs.Lookups.{function_of}
use Rattle.up_phrase.specs.Scopes.{Variables}
use Rattle.up_phrase.specs.Terms.{arguments, applied, term}
use Rattle.up_phrase.specs.Exprs.{number_giver, numeric_function, bare_name, paired, is_negation, negative, arithmetic, expr, exprs}
use Rattle.up_phrase.specs.Walks.{after, unless}
use Rattle.grammar_names.specs.Phrases.{DenoteArguments, DenotesExpr, a_number, a_value, a_bare_name, a_negation, an_operation, DenoteExprs, no_exprs, more_exprs}
use Rattle.up_phrase.proofs.ExprNodes.{expr-Call, expr-Arithmetic}
use Rattle.grammar_names.proofs.Nodes.{call_built, arithmetic_built, terms-items, exprs-items}
use Rattle.grammar_names.proofs.Terms.{arguments_read, arguments_sound, all_sound as terms_sound}
use Rattle.grammar_shapes.proofs.Parses.{sound_map, sound_is}
use Rattle.grammar_names.proofs.Parses.{sound_after, holds, same_length}

module _ (names : Declarations) (vars : Variables) (s : Setting) where
  abbrev Denotes : RawTerm → Expr → Type 0
  Denotes raw e = DenotesExpr names vars s raw e

  abbrev Denote : List RawTerm → List Expr → Type 0
  Denote operands es = DenoteExprs names vars s operands es

  abbrev Arguments : List Name → List RawTerm → List Term → Type 0
  Arguments types args ts = DenoteArguments names vars s types args ts

  count_read : (operands : List RawTerm) (es : List Expr) → Denote operands es → length es ≡ length operands
  count_read _ _ no_exprs = refl
  count_read _ _ (more_exprs operand e operands es is others) = ap suc (count_read operands es others)

  -- ---- what is denoted is read

  pub numeric_function_read : (f : Ident) (function : Signature) → function_of names f.name ≡ Some function → function.gives ≡ gives.Number
      → numeric_function f (function_of names f.name) ≡ parsed function.args
  numeric_function_read f function is number = rw (is, number) refl

  bare_read : (it : Ident) (function : Signature) → s ≡ setting.Metric → function_of names it.name ≡ Some function → function.gives ≡ gives.Number
      → function.args ≡ [] → expr names vars s (raw.Name it) ≡ parsed (Fluent it.name [])
  unfolding expr
  bare_read it function metric is number none = rw (metric, is, number, none) refl

  number_read : (place : Place) (n : _) → expr names vars s (raw.Number place n) ≡ parsed (Number n)
  unfolding expr
  number_read place n = refl

  mutual
    pub expr_read : (raw : RawTerm) (e : Expr) → DenotesExpr names vars s raw e → expr names vars s raw ≡ parsed e
    expr_read _ _ (a_number place n) = number_read place n
    expr_read _ _ (a_value place f function args ts is number are) =
        rw (
          expr-Call names vars s place f args,
          numeric_function_read f function is number,
          arguments_read names vars s place f.name function.args args ts are,
        ) refl
    expr_read _ _ (a_bare_name it function metric is number none) = bare_read it function metric is number none
    expr_read _ _ (a_negation place operand e is) = rw (expr-Arithmetic names vars s place operator.Difference (operand ∷ []), expr_read operand e is) refl
    expr_read _ _ (an_operation place op operands es e plain are pairs) =
        rw (expr-Arithmetic names vars s place op operands, exprs_read operands es are, pairs, count_read operands es are, plain) refl

    pub exprs_read : (operands : List RawTerm) (es : List Expr) → DenoteExprs names vars s operands es → all (map (expr names vars s) operands) ≡ parsed es
    exprs_read _ _ no_exprs = refl
    exprs_read _ _ (more_exprs operand e operands es is others) = rw (expr_read operand e is, exprs_read operands es others) refl

  -- ---- what is read is denoted

  -- a function of this name with these arguments gives numbers
  pub data GivesNumbers (f : Ident) : List Name → Type 0 where
    gives_numbers : (function : Signature) → function_of names f.name ≡ Some function → function.gives ≡ gives.Number → GivesNumbers f function.args

  giver_sound : (f : Ident) (function : Signature) (g : Gives) → function_of names f.name ≡ Some function → function.gives ≡ g
      → Sound (number_giver f function.args g) (GivesNumbers f)
  giver_sound f function gives.Number is so = gives_numbers function is so
  giver_sound f function (gives.Object of) is so = tt

  pub numeric_sound : (f : Ident) (found : Option Signature) → function_of names f.name ≡ found → Sound (numeric_function f found) (GivesNumbers f)
  numeric_sound f None is = tt
  numeric_sound f (Some function) is = giver_sound f function function.gives is refl

  value_denoted : (place : Place) (f : Ident) (types : List Name) (args : List RawTerm) (ts : List Term)
      → GivesNumbers f types → Arguments types args ts → Denotes (raw.Call place f args) (Fluent f.name ts)
  value_denoted place f _ args ts (gives_numbers function is number) are = a_value place f function args ts is number are

  call_sound : (place : Place) (f : Ident) (args : List RawTerm)
      → Sound (over (λ ts. Fluent f.name ts) (applied place f.name (numeric_function f (function_of names f.name)) (map (term names vars s) args)))
      (Denotes (raw.Call place f args))
  call_sound place f args =
      sound_over (λ ts. (types : List Name) × GivesNumbers f types × Arguments types args ts) (Denotes (raw.Call place f args)) (λ ts. Fluent f.name ts) _
      (λ ts (types, given, of). value_denoted place f types args ts given of)
      (sound_after (GivesNumbers f) (λ ts. (types : List Name) × GivesNumbers f types × Arguments types args ts)
      (numeric_function f (function_of names f.name)) (arguments place f.name (map (term names vars s) args))
      (numeric_sound f (function_of names f.name) refl) (λ types given.
      sound_map (Arguments types args) (λ ts. (types : List Name) × GivesNumbers f types × Arguments types args ts) _ (λ ts of. (types, given, of))
      (arguments_sound names vars s place f.name types args (terms_sound names vars s args))))

  bare_denoted : (it : Ident) (types : List Name) → s ≡ setting.Metric → GivesNumbers it types → types ≡ [] → Denotes (raw.Name it) (Fluent it.name [])
  bare_denoted it _ metric (gives_numbers function is number) none = a_bare_name it function metric is number none

  no_arguments_sound : (it : Ident) (types : List Name) → s ≡ setting.Metric → GivesNumbers it types
      → Sound (arguments it.place it.name [] types) (λ ts. Denotes (raw.Name it) (Fluent it.name ts))
  no_arguments_sound it [] metric given = bare_denoted it [] metric given refl
  no_arguments_sound it (of ∷ types) metric given =
      sound_behind (λ ts. Denotes (raw.Name it) (Fluent it.name ts)) (unless (0 == length (of ∷ types)) (at it.place Arity it.name)) (parsed []) (λ none.
      let e : 0 ≡ suc (length types) = same_length 0 (length (of ∷ types)) (holds (0 == length (of ∷ types)) _ none) in cc)

  bare_sound : (it : Ident) (given : Setting) → s ≡ given → Sound (bare_name names given it) (Denotes (raw.Name it))
  bare_sound it setting.Plain is = tt
  bare_sound it setting.Constraint is = tt
  bare_sound it setting.Metric is =
      sound_over (λ ts. Denotes (raw.Name it) (Fluent it.name ts)) (Denotes (raw.Name it)) (λ ts. Fluent it.name ts) _ (λ ts so. so)
      (sound_after (GivesNumbers it) (λ ts. Denotes (raw.Name it) (Fluent it.name ts)) (numeric_function it (function_of names it.name))
      (arguments it.place it.name []) (numeric_sound it (function_of names it.name) refl) (λ types given. no_arguments_sound it types is given))

  negation_denoted : (place : Place) (op : Operator) (operands : List RawTerm) (es : List Expr) (e : Expr) → Denote operands es
      → is_negation op (length es) ≡ true → paired op es ≡ Some e → Denotes (raw.Arithmetic place op operands) (negative e)
  negation_denoted place operator.Sum operands es e are minus pairs = cc
  negation_denoted place operator.Product operands es e are minus pairs = cc
  negation_denoted place operator.Quotient operands es e are minus pairs = cc
  negation_denoted place operator.Difference _ _ e no_exprs minus pairs = cc
  negation_denoted place operator.Difference _ _ e (more_exprs operand one _ _ is no_exprs) minus pairs =
      let same : one ≡ e = cc in
      subst (λ x. Denotes (raw.Arithmetic place operator.Difference (operand ∷ [])) (negative x)) same (a_negation place operand one is)
  negation_denoted place operator.Difference _ _ e (more_exprs operand one _ _ is (more_exprs second two operands es so others)) minus pairs =
      let one_alone : suc (suc (length es)) ≡ 1 = same_length (length (one ∷ two ∷ es)) 1 minus in cc

  signed_sound : (place : Place) (op : Operator) (operands : List RawTerm) (es : List Expr) (minus : Bool) (made : Option Expr) → Denote operands es
      → is_negation op (length es) ≡ minus → paired op es ≡ made
      → Sound (option_map_or (λ e. parsed (if minus then negative e else e)) made (rejected (bare place Expected) [])) (Denotes (raw.Arithmetic place op operands))
  signed_sound place op operands es minus None are is pairs = tt
  signed_sound place op operands es true (Some e) are is pairs = negation_denoted place op operands es e are is pairs
  signed_sound place op operands es false (Some e) are is pairs =
      an_operation place op operands es e (sym (ap (is_negation op) (count_read operands es are)) ∙ is) are pairs

  abbrev IsRead : RawTerm → Type 0
  IsRead raw = Sound (expr names vars s raw) (Denotes raw)

  exprs_sound : (operands : List RawTerm) → Every IsRead operands → Sound (all (map (expr names vars s) operands)) (Denote operands)
  exprs_sound [] are = no_exprs
  exprs_sound (operand ∷ operands) are =
      sound_two (Denotes operand) (Denote operands) (Denote (operand ∷ operands)) (λ e es. e ∷ es) (expr names vars s operand) (all (map (expr names vars s) operands))
      (λ e es is others. more_exprs operand e operands es is others) are.0 (exprs_sound operands are.1)

  operation_sound : (place : Place) (op : Operator) (operands : List RawTerm) → Every IsRead operands
      → Sound (after (all (map (expr names vars s) operands)) (arithmetic op place)) (Denotes (raw.Arithmetic place op operands))
  operation_sound place op operands are =
      sound_after (Denote operands) (Denotes (raw.Arithmetic place op operands)) (all (map (expr names vars s) operands)) (arithmetic op place)
      (exprs_sound operands are) (λ es of. signed_sound place op operands es (is_negation op (length es)) (paired op es) of refl refl)

  mutual
    unfolding expr exprs

    pub expr_sound : (raw : RawTerm) → Sound (expr names vars s raw) (DenotesExpr names vars s raw)
    expr_sound (raw.Name it) = bare_sound it s refl
    expr_sound (raw.Variable it) = tt
    expr_sound (raw.Number place n) = a_number place n
    expr_sound (raw.Call' place f n row) = rw (call_built place f n row, terms-items names vars s row) (call_sound place f (items-the_row-RawTerm _ row))
    expr_sound (raw.Arithmetic' place op n row) =
        rw (arithmetic_built place op n row, exprs-items names vars s row) (operation_sound place op (items-the_row-RawTerm _ row) (row_sound row))

    row_sound : {n : _} (row : Row_of-RawTerm n) → Every IsRead (items-the_row-RawTerm _ row)
    row_sound end_of-RawTerm = tt
    row_sound (more_of-RawTerm operand row) = (expr_sound operand, row_sound row)

  pub expr_denotes : (raw : RawTerm) (e : Expr) → expr names vars s raw ≡ parsed e → DenotesExpr names vars s raw e
  expr_denotes raw e so = sound_is (DenotesExpr names vars s raw) (expr names vars s raw) e (expr_sound raw) so
