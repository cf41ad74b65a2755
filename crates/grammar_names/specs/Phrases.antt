-- What raw terms and raw conditions denote where names are declared, said apart from how they are checked.
use Rattle.std.specs.Prelude.{◌≡◌, ◌≢◌, true, false, List, [], ◌∷◌, ◌++◌, length, map, Option, Some, None}
use Rattle.up_frac.specs.Fraction.{Fraction}
use Rattle.up_text.specs.declared.name.Name.{Name}
use Rattle.up_text.specs.declared.place.Place.{Place}
use Rattle.pddl_parse.specs.declared.raw.Ident.{Ident}
use Rattle.pddl_parse.specs.declared.raw.Operator.{Operator}
use Rattle.pddl_parse.specs.declared.raw.Operator.TheVariants as operator
use Rattle.pddl_parse.specs.declared.raw.Relation as raw_relation
use Rattle.pddl_parse.specs.declared.raw.Relation.TheVariants as stated
use Rattle.pddl_parse.specs.declared.raw.RawGroup.{RawGroup}
use Rattle.pddl_parse.specs.declared.raw.RawTerm.{RawTerm}
use Rattle.pddl_parse.specs.declared.raw.RawTerm as raw
use Rattle.pddl_parse.specs.declared.raw.RawFormula.{RawFormula}
use Rattle.pddl_parse.specs.declared.raw.RawFormula as form
use Rattle.up_tree.specs.declared.expr.Expr.{Expr}
use Rattle.up_tree.specs.declared.expr.Expr as expr
use Rattle.up_tree.specs.declared.formula.Formula.{Formula, And, Or, Not, Imply, Exists, Forall, Atom, Equal, Compare}
use Rattle.up_tree.specs.declared.problem.Gives.TheVariants as gives
use Rattle.up_tree.specs.declared.term.Term.{Term, Var, Object, Fluent}
use Rattle.up_phrase.specs.Declarations.{Declarations}
use Rattle.up_phrase.specs.declared.names.Signature.{Signature}
use Rattle.up_phrase.specs.declared.term.Setting.{Setting}
use Rattle.up_phrase.specs.declared.term.Setting.TheVariants as setting
use Rattle.up_phrase.specs.Named.{object}
use Rattle.up_phrase.specs.Lookups.{type_of, predicate_of, function_of, is_type, fits}
use Rattle.up_phrase.specs.Scopes.{Variables, variable_type, is_taken, typed}
use Rattle.up_phrase.specs.Exprs.{is_negation, negative, paired}
use Rattle.up_phrase.specs.Conditions.{is_numeric, relation_of}

-- ---- variables

-- the type of a group: a declared one that is stated, or `object` where none is
pub data HasType (names : Declarations) : Option Ident → Name → Type 0 where
  unstated : HasType names None object
  of_type : (it : Ident) → is_type names it.name ≡ true → HasType names (Some it) it.name

-- names enter the scope as variables of one type: none is in scope before or barred
pub data EnterNames (barred : List Name) (of : Name) : List Ident → Variables → Variables → Type 0 where
  no_names : (vars : Variables) → EnterNames barred of [] vars vars
  more_names : (it : Ident) (others : List Ident) (vars more : Variables)
      → is_taken barred vars it.name ≡ false → EnterNames barred of others (vars ++ (it.name, of) ∷ []) more
      → EnterNames barred of (it ∷ others) vars more

-- the variables of a typed list enter the scope
pub data Enters (names : Declarations) (barred : List Name) : List RawGroup → Variables → Variables → Type 0 where
  no_groups : (vars : Variables) → Enters names barred [] vars vars
  more_groups : (group : RawGroup) (of : Name) (others : List RawGroup) (vars inner more : Variables)
      → HasType names group.of of → EnterNames barred of group.names vars inner → Enters names barred others inner more
      → Enters names barred (group ∷ others) vars more

-- ---- object terms

mutual
  -- an object term, whose type fits the type that is due, if one is
  pub data DenotesTerm (names : Declarations) (vars : Variables) (s : Setting) : Option Name → RawTerm → Term → Type 0 where
    an_object : (due : Option Name) (it : Ident) (of : Name)
        → type_of names it.name ≡ Some of → fits names of due ≡ true → DenotesTerm names vars s due (raw.Name it) (Object it.name)
    a_variable : (due : Option Name) (it : Ident) (of : Name)
        → variable_type vars it.name ≡ Some of → fits names of due ≡ true → DenotesTerm names vars s due (raw.Variable it) (Var it.name)
    -- the value of an object function, which neither a constraint nor a metric holds
    an_object_value : (due : Option Name) (place : Place) (f : Ident) (function : Signature) (of : Name) (args : List RawTerm) (ts : List Term)
        → s ≡ setting.Plain → function_of names f.name ≡ Some function → function.gives ≡ gives.Object of → fits names of due ≡ true
        → DenoteArguments names vars s function.args args ts → DenotesTerm names vars s due (raw.Call place f args) (Fluent f.name ts)

  -- as many arguments as there are declared types, each of its type
  pub data DenoteArguments (names : Declarations) (vars : Variables) (s : Setting) : List Name → List RawTerm → List Term → Type 0 where
    no_arguments : DenoteArguments names vars s [] [] []
    more_arguments : (of : Name) (arg : RawTerm) (t : Term) (types : List Name) (args : List RawTerm) (ts : List Term)
        → DenotesTerm names vars s (Some of) arg t → DenoteArguments names vars s types args ts
        → DenoteArguments names vars s (of ∷ types) (arg ∷ args) (t ∷ ts)

-- a declared predicate at its arguments
pub data DenotesAtom (names : Declarations) (vars : Variables) (s : Setting) (p : Ident) (args : List RawTerm) (ts : List Term) : Type 0 where
  of_predicate : (types : List Name) → predicate_of names p.name ≡ Some types → DenoteArguments names vars s types args ts
      → DenotesAtom names vars s p args ts

-- ---- numeric expressions

mutual
  pub data DenotesExpr (names : Declarations) (vars : Variables) (s : Setting) : RawTerm → Expr → Type 0 where
    a_number : (place : Place) (n : Fraction) → DenotesExpr names vars s (raw.Number place n) (expr.Number n)
    a_value : (place : Place) (f : Ident) (function : Signature) (args : List RawTerm) (ts : List Term)
        → function_of names f.name ≡ Some function → function.gives ≡ gives.Number → DenoteArguments names vars s function.args args ts
        → DenotesExpr names vars s (raw.Call place f args) (expr.Fluent f.name ts)
    -- in a metric, a bare name is a function without arguments
    a_bare_name : (it : Ident) (function : Signature)
        → s ≡ setting.Metric → function_of names it.name ≡ Some function → function.gives ≡ gives.Number → function.args ≡ []
        → DenotesExpr names vars s (raw.Name it) (expr.Fluent it.name [])
    -- `(- e)` is `(- 0 e)`
    a_negation : (place : Place) (operand : RawTerm) (e : Expr)
        → DenotesExpr names vars s operand e → DenotesExpr names vars s (raw.Arithmetic place operator.Difference (operand ∷ [])) (negative e)
    -- the operands are paired by halves
    an_operation : (place : Place) (op : Operator) (operands : List RawTerm) (es : List Expr) (e : Expr)
        → is_negation op (length operands) ≡ false → DenoteExprs names vars s operands es → paired op es ≡ Some e
        → DenotesExpr names vars s (raw.Arithmetic place op operands) e

  pub data DenoteExprs (names : Declarations) (vars : Variables) (s : Setting) : List RawTerm → List Expr → Type 0 where
    no_exprs : DenoteExprs names vars s [] []
    more_exprs : (operand : RawTerm) (e : Expr) (operands : List RawTerm) (es : List Expr)
        → DenotesExpr names vars s operand e → DenoteExprs names vars s operands es → DenoteExprs names vars s (operand ∷ operands) (e ∷ es)

-- ---- conditions

mutual
  pub data DenotesFormula (names : Declarations) : Variables → Setting → RawFormula → Formula → Type 0 where
    of_and : (vars : Variables) (s : Setting) (members : List RawFormula) (fs : List Formula)
        → DenoteFormulas names vars s members fs → DenotesFormula names vars s (form.And members) (And fs)
    of_or : (vars : Variables) (s : Setting) (members : List RawFormula) (fs : List Formula)
        → DenoteFormulas names vars s members fs → DenotesFormula names vars s (form.Or members) (Or fs)
    of_not : (vars : Variables) (s : Setting) (raw : RawFormula) (f : Formula)
        → DenotesFormula names vars s raw f → DenotesFormula names vars s (form.Not raw) (Not f)
    of_imply : (vars : Variables) (s : Setting) (one two : RawFormula) (f g : Formula)
        → DenotesFormula names vars s one f → DenotesFormula names vars s two g → DenotesFormula names vars s (form.Imply one two) (Imply f g)
    -- a quantifier brings its variables into scope after those that are there
    of_exists : (vars added : Variables) (s : Setting) (groups : List RawGroup) (raw : RawFormula) (f : Formula)
        → Enters names [] groups vars (vars ++ added) → DenotesFormula names (vars ++ added) s raw f
        → DenotesFormula names vars s (form.Exists groups raw) (Exists (map typed added) f)
    of_forall : (vars added : Variables) (s : Setting) (groups : List RawGroup) (raw : RawFormula) (f : Formula)
        → Enters names [] groups vars (vars ++ added) → DenotesFormula names (vars ++ added) s raw f
        → DenotesFormula names vars s (form.Forall groups raw) (Forall (map typed added) f)
    an_atom : (vars : Variables) (s : Setting) (place : Place) (p : Ident) (args : List RawTerm) (ts : List Term)
        → DenotesAtom names vars s p args ts → DenotesFormula names vars s (form.Atom place p args) (Atom p.name ts)
    -- `=` compares objects of any types, unless its left side is numeric
    an_equality : (vars : Variables) (s : Setting) (place : Place) (left right : RawTerm) (t u : Term)
        → is_numeric names left ≡ false → DenotesTerm names vars s None left t → DenotesTerm names vars s None right u
        → DenotesFormula names vars s (form.Compare place stated.Same left right) (Equal t u)
    -- numbers are compared, but not in a constraint
    a_comparison : (vars : Variables) (s : Setting) (place : Place) (r : raw_relation.Relation) (left right : RawTerm) (a b : Expr)
        → s ≢ setting.Constraint → (r ≡ stated.Same → is_numeric names left ≡ true)
        → DenotesExpr names vars s left a → DenotesExpr names vars s right b
        → DenotesFormula names vars s (form.Compare place r left right) (Compare (relation_of r) a b)

  pub data DenoteFormulas (names : Declarations) : Variables → Setting → List RawFormula → List Formula → Type 0 where
    no_formulas : (vars : Variables) (s : Setting) → DenoteFormulas names vars s [] []
    more_formulas : (vars : Variables) (s : Setting) (member : RawFormula) (f : Formula) (members : List RawFormula) (fs : List Formula)
        → DenotesFormula names vars s member f → DenoteFormulas names vars s members fs
        → DenoteFormulas names vars s (member ∷ members) (f ∷ fs)
