-- What is read in a constraint or in a metric has no object function's value.
use Rattle.std.proofs.Common.{ℕ, zero, suc, ◌-◌, ◌/◌, Bool, true, false, if◌then◌else◌, List, [], ◌∷◌, map, length, take, drop, Option, Some, None, sym, subst}
use Rattle.std.specs.Prelude.{⊤, IfSome, ◌==◌}
use Rattle.std.specs.Option.{option_map_or}
use Rattle.up_text.specs.declared.name.Name.{Name}
use Rattle.up_text.specs.declared.place.Place.{Place}
use Rattle.up_text.specs.Lists.{Every}
use Rattle.pddl_lex.specs.Parses.{parsed, rejected, all, over}
use Rattle.pddl_parse.specs.declared.raw.Ident.{Ident}
use Rattle.pddl_parse.specs.declared.raw.Operator.{Operator}
use Rattle.pddl_parse.specs.declared.raw.Operator.TheVariants as operator
use Rattle.pddl_parse.specs.declared.raw.Relation as raw_relation
use Rattle.pddl_parse.specs.declared.raw.RawGroup.{RawGroup}
use Rattle.pddl_parse.specs.declared.raw.RawTerm.{RawTerm, Row_of-RawTerm, end_of-RawTerm, more_of-RawTerm}
use Rattle.pddl_parse.specs.declared.raw.RawTerm as operand
use Rattle.pddl_parse.specs.declared.raw.RawFormula.{RawFormula, Row_of-RawFormula, end_of-RawFormula, more_of-RawFormula}
use Rattle.pddl_parse.specs.declared.raw.RawFormula as form
use Rattle.up_tree.specs.declared.expr.Expr.{Expr, Fluent}
use Rattle.up_tree.specs.declared.formula.Formula.{Formula, And, Or, Not, Imply, Exists, Forall, Atom, Equal, Row_of-Formula, end_of-Formula, more_of-Formula, items-the_row-Formula, items_hidden-the_row-Formula-0}
use Rattle.up_tree.specs.declared.formula.Formula.TheBlock.{hidden-the_row-Formula-0}
use Rattle.up_tree.specs.declared.problem.Gives.{Gives}
use Rattle.up_tree.specs.declared.problem.Gives.TheVariants as gives
use Rattle.up_tree.specs.declared.term.Term as term_form
use Rattle.up_tree.specs.declared.term.Term.{Term}
use Rattle.up_tree.specs.declared.term.Typed.{Typed}
use Rattle.up_tree.specs.Nodes.{built}
use Rattle.up_tree.specs.WellFormed.{HasNoFluent, IsPlainExpr, IsPlain, ArePlain}
use Rattle.up_phrase.specs.declared.names.Signature.{Signature}
use Rattle.up_phrase.specs.declared.reason.Reason.TheVariants.{Arity, Expected, TypeMismatch}
use Rattle.up_phrase.specs.declared.term.Setting.{Setting}
use Rattle.up_phrase.specs.declared.term.Setting.TheVariants as setting
use Rattle.up_phrase.specs.Conditions.{atom_args, predicate, is_equality, equality, compared, bound, quantified, formula, formulas}
use Rattle.up_phrase.specs.Declarations.{Declarations}
use Rattle.up_phrase.specs.Exprs.{numeric_function, bare_name, binary, both, halved, paired, is_negation, negative, arithmetic, expr, exprs}
use Rattle.up_phrase.specs.Lookups.{type_of, predicate_of, function_of, fits}
use Rattle.up_phrase.specs.Named.{at, bare}
use Rattle.up_phrase.specs.Nodes.{not, imply, exists, forall}
use Rattle.up_phrase.specs.Scopes.{Variables, variable_type, entered_groups}
use Rattle.up_phrase.specs.Terms.{of_type, object_giver, object_function, each_due, arguments, applied, term, terms}
use Rattle.up_phrase.specs.Walks.{Checked, unless}
use Rattle.wellformed_phrases.specs.Agreement.{IfParsed}
use Rattle.wellformed_phrases.proofs.Parses.{parsed_over, parsed_two, parsed_after, parsed_behind, parsed_all}
use Rattle.wellformed_phrases.proofs.Exprs.{every_take, every_drop}

-- a setting that admits no object function
abbrev pub IsNarrow : Setting → Type 0
IsNarrow setting.Plain = ⊥
IsNarrow setting.Constraint = ⊤
IsNarrow setting.Metric = ⊤

abbrev NoFluent : Term → Type 0
NoFluent t = HasNoFluent (t ∷ [])

none_more : (t : Term) (ts : List Term) → NoFluent t → HasNoFluent ts → HasNoFluent (t ∷ ts)
none_more (term_form.Var v) ts one two = two
none_more (term_form.Object o) ts one two = two
none_more (term_form.Fluent' f n us) ts one two = one

anything : {A : Type 0} (v : Checked A) → IfParsed v (λ a. ⊤)
anything (parsed a) = tt
anything (rejected f fs) = tt

module _ (names : Declarations) (s : Setting) (narrow : IsNarrow s) where
  giver_never : (at_setting : Setting) → IsNarrow at_setting → (place : Place) (f : Ident) (due : Option Name) (args : List Name) (g : Gives)
      → IfParsed (object_giver names at_setting place f due args g) (λ types. ⊥)
  giver_never at_setting is place f due args gives.Number = tt
  giver_never setting.Plain is place f due args (gives.Object of) = absurd is
  giver_never setting.Constraint is place f due args (gives.Object of) = tt
  giver_never setting.Metric is place f due args (gives.Object of) = tt

  function_never : (place : Place) (f : Ident) (due : Option Name) (found : Option Signature) → IfParsed (object_function names s place f due found) (λ types. ⊥)
  function_never place f due None = tt
  function_never place f due (Some signature) = giver_never s narrow place f due signature.args signature.gives

  of_type_plain : (it : Ident) (t : Term) (due found : Option Name) → NoFluent t → IfParsed (of_type names it t due found) NoFluent
  of_type_plain it t due None is = tt
  of_type_plain it t due (Some of) is = parsed_behind NoFluent (unless (fits names of due) (at it.place TypeMismatch it.name)) (parsed t) (λ none. is)

  module _ (vars : Variables) where
    term_plain : (raw : RawTerm) (due : Option Name) → IfParsed (term names vars s raw due) NoFluent
    unfolding term
    term_plain (operand.Name it) due = of_type_plain it (term_form.Object it.name) due (type_of names it.name) tt
    term_plain (operand.Variable it) due = of_type_plain it (term_form.Var it.name) due (variable_type vars it.name) tt
    term_plain (operand.Number place n) due = tt
    term_plain (operand.Call' place f n args) due =
        parsed_over (λ ts. ⊥) NoFluent (λ ts. term_form.Fluent f.name ts) (applied place f.name (object_function names s place f due (function_of names f.name)) (terms names vars s args)) (λ ts never. absurd never)
        (parsed_after (λ types. ⊥) (λ ts. ⊥) (object_function names s place f due (function_of names f.name)) (λ types. arguments place f.name (terms names vars s args) types)
        (function_never place f due (function_of names f.name)) (λ types never. absurd never))
    term_plain (operand.Arithmetic' place op n args) due = tt

    abbrev PlainRead : (Option Name → Checked Term) → Type 0
    PlainRead read = (due : Option Name) → IfParsed (read due) NoFluent

    row_plain : {n : _} (args : Row_of-RawTerm n) → Every PlainRead (terms names vars s args)
    unfolding terms
    row_plain end_of-RawTerm = tt
    row_plain (more_of-RawTerm arg args) = (term_plain arg, row_plain args)

    each_plain : (args : List RawTerm) → Every PlainRead (map (term names vars s) args)
    each_plain [] = tt
    each_plain (arg ∷ args) = (term_plain arg, each_plain args)

    dues_plain : (types : List Name) (reads : List (Option Name → Checked Term)) → Every PlainRead reads → IfParsed (all (each_due types reads)) HasNoFluent
    dues_plain [] reads are = tt
    dues_plain (due ∷ others) [] are = tt
    dues_plain (due ∷ others) (read ∷ reads) are =
        parsed_two NoFluent HasNoFluent HasNoFluent (λ t ts. t ∷ ts) (read (Some due)) (all (each_due others reads)) (λ t ts one two. none_more t ts one two)
        (are.0 (Some due)) (dues_plain others reads are.1)

    applied_plain : (place : Place) (name : Name) (declared : Checked (List Name)) (reads : List (Option Name → Checked Term)) → Every PlainRead reads
        → IfParsed (applied place name declared reads) HasNoFluent
    applied_plain place name declared reads are =
        parsed_after (λ types. ⊤) HasNoFluent declared (λ types. arguments place name reads types) (anything declared) (λ types so.
        parsed_behind HasNoFluent (unless (length reads == length types) (at place Arity name)) (all (each_due types reads)) (λ none. dues_plain types reads are))

    -- ---- expressions

    binary_plain : (op : Operator) (a b : Expr) → IsPlainExpr a → IsPlainExpr b → IsPlainExpr (binary op a b)
    unfolding IsPlainExpr built
    binary_plain operator.Sum a b is so = (is, so)
    binary_plain operator.Difference a b is so = (is, so)
    binary_plain operator.Product a b is so = (is, so)
    binary_plain operator.Quotient a b is so = (is, so)

    negative_plain : (e : Expr) → IsPlainExpr e → IsPlainExpr (negative e)
    unfolding IsPlainExpr built
    negative_plain e is = (tt, is)

    both_plain : (op : Operator) (a b : Option Expr) → IfSome a IsPlainExpr → IfSome b IsPlainExpr → IfSome (both op a b) IsPlainExpr
    both_plain op None b is so = tt
    both_plain op (Some a) None is so = tt
    both_plain op (Some a) (Some b) is so = binary_plain op a b is so

    halved_plain : (turns : ℕ) (op : Operator) (es : List Expr) → Every IsPlainExpr es → IfSome (halved turns op es) IsPlainExpr
    halved_plain zero op es are = tt
    halved_plain (suc turns) op [] are = tt
    halved_plain (suc turns) op (a ∷ []) are = are.0
    halved_plain (suc turns) op (a ∷ b ∷ es) are =
        let n : ℕ = length (a ∷ b ∷ es) - length (a ∷ b ∷ es) / 2 in
        both_plain op (halved turns op (take n (a ∷ b ∷ es))) (halved turns op (drop n (a ∷ b ∷ es)))
        (halved_plain turns op (take n (a ∷ b ∷ es)) (every_take IsPlainExpr n (a ∷ b ∷ es) are))
        (halved_plain turns op (drop n (a ∷ b ∷ es)) (every_drop IsPlainExpr n (a ∷ b ∷ es) are))

    arithmetic_plain : (op : Operator) (place : Place) (es : List Expr) → Every IsPlainExpr es → IfParsed (arithmetic op place es) IsPlainExpr
    arithmetic_plain op place es are = by (paired op es) (halved_plain (length es) op es are)
      where
        signed : (e : Expr) → IsPlainExpr e → (b : Bool) → IsPlainExpr (if b then negative e else e)
        signed e is true = negative_plain e is
        signed e is false = is

        by : (made : Option Expr) → IfSome made IsPlainExpr
            → IfParsed (option_map_or (λ e. parsed (if is_negation op (length es) then negative e else e)) made (rejected (bare place Expected) [])) IsPlainExpr
        by None is = tt
        by (Some e) is = signed e is (is_negation op (length es))

    call_plain : (place : Place) (f : Ident) (reads : List (Option Name → Checked Term)) → Every PlainRead reads
        → IfParsed (over (λ ts. Fluent f.name ts) (applied place f.name (numeric_function f (function_of names f.name)) reads)) IsPlainExpr
    unfolding IsPlainExpr
    call_plain place f reads are =
        parsed_over HasNoFluent IsPlainExpr (λ ts. Fluent f.name ts) (applied place f.name (numeric_function f (function_of names f.name)) reads) (λ ts is. is)
        (applied_plain place f.name (numeric_function f (function_of names f.name)) reads are)

    bare_plain : (it : Ident) (at_setting : Setting) → IfParsed (bare_name names at_setting it) IsPlainExpr
    bare_plain it setting.Plain = tt
    bare_plain it setting.Constraint = tt
    bare_plain it setting.Metric = call_plain it.place it [] tt

    mutual
      unfolding expr exprs IsPlainExpr

      pub expr_plain : (raw : RawTerm) → IfParsed (expr names vars s raw) IsPlainExpr
      expr_plain (operand.Name it) = bare_plain it s
      expr_plain (operand.Variable it) = tt
      expr_plain (operand.Number place n) = tt
      expr_plain (operand.Call' place f n args) = call_plain place f (terms names vars s args) (row_plain args)
      expr_plain (operand.Arithmetic' place op n operands) =
          parsed_after (Every IsPlainExpr) IsPlainExpr (all (exprs names vars s operands)) (arithmetic op place)
          (parsed_all IsPlainExpr (exprs names vars s operands) (exprs_plain operands)) (λ es are. arithmetic_plain op place es are)

      exprs_plain : {n : _} (operands : Row_of-RawTerm n) → Every (λ v. IfParsed v IsPlainExpr) (exprs names vars s operands)
      exprs_plain end_of-RawTerm = tt
      exprs_plain (more_of-RawTerm operand operands) = (expr_plain operand, exprs_plain operands)

-- ---- conditions of constraints

row_is : {n : _} (fs : Row_of-Formula n) → Every IsPlain (items-the_row-Formula _ fs) → ArePlain fs
unfolding ArePlain
row_is end_of-Formula are = tt
row_is (more_of-Formula f fs) are = (are.0, row_is fs are.1)

members_are : (fs : List Formula) → Every IsPlain fs → ArePlain (hidden-the_row-Formula-0 fs)
members_are fs are = row_is (hidden-the_row-Formula-0 fs) (subst (Every IsPlain) (sym (items_hidden-the_row-Formula-0 fs)) are)

and_is : (fs : List Formula) → Every IsPlain fs → IsPlain (And fs)
unfolding IsPlain
and_is fs are = members_are fs are

or_is : (fs : List Formula) → Every IsPlain fs → IsPlain (Or fs)
unfolding IsPlain
or_is fs are = members_are fs are

not_is : (f : Formula) → IsPlain f → IsPlain (Not f)
unfolding IsPlain built
not_is f is = is

imply_is : (f g : Formula) → IsPlain f → IsPlain g → IsPlain (Imply f g)
unfolding IsPlain built
imply_is f g is so = (is, so)

exists_is : (q : List Typed × Formula) → IsPlain q.1 → IsPlain (Exists q.0 q.1)
unfolding IsPlain built
exists_is q is = is

forall_is : (q : List Typed × Formula) → IsPlain q.1 → IsPlain (Forall q.0 q.1)
unfolding IsPlain built
forall_is q is = is

module _ (names : Declarations) where
  atom_plain : (vars : Variables) (place : Place) (it : Ident) (args : List RawTerm)
      → IfParsed (over (λ ts. Atom it.name ts) (atom_args names vars setting.Constraint place it args)) IsPlain
  unfolding IsPlain
  atom_plain vars place it args =
      parsed_over HasNoFluent IsPlain (λ ts. Atom it.name ts) (atom_args names vars setting.Constraint place it args) (λ ts is. is)
      (applied_plain names setting.Constraint tt vars place it.name (predicate it (predicate_of names it.name)) (map (term names vars setting.Constraint) args)
      (each_plain names setting.Constraint tt vars args))

  equality_plain : (vars : Variables) (left right : RawTerm) → IfParsed (equality names vars setting.Constraint left right) IsPlain
  unfolding IsPlain
  equality_plain vars left right =
      parsed_two NoFluent NoFluent IsPlain (λ t u. Equal t u) (term names vars setting.Constraint left None) (term names vars setting.Constraint right None)
      (λ t u one two. none_more t (u ∷ []) one two) (term_plain names setting.Constraint tt vars left None) (term_plain names setting.Constraint tt vars right None)

  related_plain : (vars : Variables) (place : Place) (r : raw_relation.Relation) (left right : RawTerm) (b : Bool)
      → IfParsed (if b then equality names vars setting.Constraint left right else compared names vars setting.Constraint place r left right) IsPlain
  related_plain vars place r left right true = equality_plain vars left right
  related_plain vars place r left right false = tt

  quantified_plain : (vars : Variables) (groups : List RawGroup) (body : Variables → Checked Formula) → ((inner : Variables) → IfParsed (body inner) IsPlain)
      → IfParsed (quantified names vars groups body) (λ (q : List Typed × Formula). IsPlain q.1)
  quantified_plain vars groups body each =
      parsed_after (λ inner. ⊤) (λ (q : List Typed × Formula). IsPlain q.1) (entered_groups names [] groups vars) (λ (inner : Variables). over (λ (f : Formula). (bound vars inner, f)) (body inner))
      (anything (entered_groups names [] groups vars))
      (λ inner so. parsed_over IsPlain (λ (q : List Typed × Formula). IsPlain q.1) (λ (f : Formula). (bound vars inner, f)) (body inner) (λ f is. is) (each inner))

  mutual
    unfolding formula formulas

    pub formula_plain : (raw : RawFormula) (vars : Variables) → IfParsed (formula names vars setting.Constraint raw) IsPlain
    formula_plain (form.And' n members) vars =
        parsed_over (Every IsPlain) IsPlain And (all (formulas names vars setting.Constraint members)) and_is
        (parsed_all IsPlain (formulas names vars setting.Constraint members) (formulas_plain members vars))
    formula_plain (form.Or' n members) vars =
        parsed_over (Every IsPlain) IsPlain Or (all (formulas names vars setting.Constraint members)) or_is
        (parsed_all IsPlain (formulas names vars setting.Constraint members) (formulas_plain members vars))
    formula_plain (not f) vars = parsed_over IsPlain IsPlain Not (formula names vars setting.Constraint f) not_is (formula_plain f vars)
    formula_plain (imply f g) vars =
        parsed_two IsPlain IsPlain IsPlain Imply (formula names vars setting.Constraint f) (formula names vars setting.Constraint g) imply_is (formula_plain f vars) (formula_plain g vars)
    formula_plain (exists groups f) vars =
        parsed_over (λ (q : List Typed × Formula). IsPlain q.1) IsPlain (λ (q : List Typed × Formula). Exists q.0 q.1)
        (quantified names vars groups (λ inner. formula names inner setting.Constraint f)) exists_is
        (quantified_plain vars groups (λ inner. formula names inner setting.Constraint f) (λ inner. formula_plain f inner))
    formula_plain (forall groups f) vars =
        parsed_over (λ (q : List Typed × Formula). IsPlain q.1) IsPlain (λ (q : List Typed × Formula). Forall q.0 q.1)
        (quantified names vars groups (λ inner. formula names inner setting.Constraint f)) forall_is
        (quantified_plain vars groups (λ inner. formula names inner setting.Constraint f) (λ inner. formula_plain f inner))
    formula_plain (form.Atom place it args) vars = atom_plain vars place it args
    formula_plain (form.Compare place r left right) vars = related_plain vars place r left right (is_equality names r left)

    formulas_plain : {n : _} (members : Row_of-RawFormula n) (vars : Variables) → Every (λ v. IfParsed v IsPlain) (formulas names vars setting.Constraint members)
    formulas_plain end_of-RawFormula vars = tt
    formulas_plain (more_of-RawFormula member members) vars = (formula_plain member vars, formulas_plain members vars)
