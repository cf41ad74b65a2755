-- What the definitions say of a raw condition as code takes it apart.
use Rattle.std.proofs.Common.{◌≡◌, true, false, List, ◌∷◌, map, refl, ap, ◌∙◌}
use Rattle.up_frac.specs.declared.frac.Frac.{Frac}
use Rattle.up_text.specs.declared.place.Place.{Place}
use Rattle.pddl_lex.specs.Parses.{over, over_two, all}
use Rattle.pddl_parse.specs.declared.raw.Ident.{Ident}
use Rattle.pddl_parse.specs.declared.raw.Operator.{Operator}
use Rattle.pddl_parse.specs.declared.raw.Relation.{Relation}
use Rattle.pddl_parse.specs.declared.raw.RawTerm.{RawTerm}
use Rattle.pddl_parse.specs.declared.raw.RawTerm as operand
use Rattle.pddl_parse.specs.declared.raw.RawGroup.{RawGroup}
use Rattle.pddl_parse.specs.declared.raw.RawFormula.{RawFormula, Row_of-RawFormula, end_of-RawFormula, more_of-RawFormula, items-the_row-RawFormula, items_hidden-the_row-RawFormula-0}
use Rattle.pddl_parse.specs.declared.raw.RawFormula as form
use Rattle.pddl_parse.specs.declared.raw.RawFormula.TheBlock.{hidden-the_row-RawFormula-0}
use Rattle.up_tree.specs.declared.formula.Formula.{Formula, And, Or, Not, Imply, Exists, Forall, Atom}
use Rattle.up_tree.specs.declared.term.Typed.{Typed}
use Rattle.up_phrase.specs.Declarations.{Declarations}
use Rattle.up_phrase.specs.declared.term.Setting.{Setting}
use Rattle.up_phrase.specs.Conditions.{atom_args, is_numeric_function, is_numeric, related, quantifier, formula, formulas}
use Rattle.up_phrase.specs.Lookups.{function_of}
use Rattle.up_phrase.specs.Nodes.{built}
use Rattle.up_phrase.specs.Scopes.{Variables}

pub is_numeric-Name : (names : Declarations) (it : Ident) → is_numeric names (operand.Name it) ≡ false
unfolding is_numeric
is_numeric-Name names it = refl

pub is_numeric-Variable : (names : Declarations) (it : Ident) → is_numeric names (operand.Variable it) ≡ false
unfolding is_numeric
is_numeric-Variable names it = refl

pub is_numeric-Number : (names : Declarations) (place : Place) (n : Frac) → is_numeric names (operand.Number place n) ≡ true
unfolding is_numeric
is_numeric-Number names place n = refl

pub is_numeric-Call : (names : Declarations) (place : Place) (f : Ident) (args : List RawTerm)
    → is_numeric names (operand.Call place f args) ≡ is_numeric_function (function_of names f.name)
unfolding is_numeric
is_numeric-Call names place f args = refl

pub is_numeric-Arithmetic : (names : Declarations) (place : Place) (op : Operator) (args : List RawTerm) → is_numeric names (operand.Arithmetic place op args) ≡ true
unfolding is_numeric
is_numeric-Arithmetic names place op args = refl

module _ (names : Declarations) (vars : Variables) (s : Setting) where
  formulas-items : {n : _} (members : Row_of-RawFormula n) → formulas names vars s members ≡ map (formula names vars s) (items-the_row-RawFormula _ members)
  unfolding formula formulas
  formulas-items end_of-RawFormula = refl
  formulas-items (more_of-RawFormula member members) = ap (λ fs. formula names vars s member ∷ fs) (formulas-items members)

  formulas-all : (members : List RawFormula) → formulas names vars s (hidden-the_row-RawFormula-0 members) ≡ map (formula names vars s) members
  formulas-all members = formulas-items (hidden-the_row-RawFormula-0 members) ∙ ap (map (formula names vars s)) (items_hidden-the_row-RawFormula-0 members)

  pub formula-And : (members : List RawFormula) → formula names vars s (form.And members) ≡ over And (all (map (formula names vars s) members))
  unfolding formula
  formula-And members = ap (λ each. over And (all each)) (formulas-all members)

  pub formula-Or : (members : List RawFormula) → formula names vars s (form.Or members) ≡ over Or (all (map (formula names vars s) members))
  unfolding formula
  formula-Or members = ap (λ each. over Or (all each)) (formulas-all members)

  pub formula-Not : (f : RawFormula) → formula names vars s (form.Not f) ≡ over Not (formula names vars s f)
  unfolding formula built
  formula-Not f = refl

  pub formula-Imply : (f g : RawFormula) → formula names vars s (form.Imply f g) ≡ over_two Imply (formula names vars s f) (formula names vars s g)
  unfolding formula built
  formula-Imply f g = refl

  pub formula-Exists : (groups : List RawGroup) (f : RawFormula)
      → formula names vars s (form.Exists groups f) ≡ over (λ (q : List Typed × Formula). Exists q.0 q.1) (quantifier names vars s groups f)
  unfolding formula built
  formula-Exists groups f = refl

  pub formula-Forall : (groups : List RawGroup) (f : RawFormula)
      → formula names vars s (form.Forall groups f) ≡ over (λ (q : List Typed × Formula). Forall q.0 q.1) (quantifier names vars s groups f)
  unfolding formula built
  formula-Forall groups f = refl

  pub formula-Atom : (place : Place) (p : Ident) (args : List RawTerm)
      → formula names vars s (form.Atom place p args) ≡ over (λ ts. Atom p.name ts) (atom_args names vars s place p args)
  unfolding formula
  formula-Atom place p args = refl

  pub formula-Compare : (place : Place) (r : Relation) (left right : RawTerm)
      → formula names vars s (form.Compare place r left right) ≡ related names vars s place r left right
  unfolding formula
  formula-Compare place r left right = refl

pub ruleset numeric_nodes = (is_numeric-Name, is_numeric-Variable, is_numeric-Number, is_numeric-Call, is_numeric-Arithmetic)

pub ruleset formula_nodes = (formula-And, formula-Or, formula-Not, formula-Imply, formula-Exists, formula-Forall, formula-Atom, formula-Compare)
