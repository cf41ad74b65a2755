-- Conditions of raw conditions.
use Rattle.std.specs.Prelude.{Bool, true, false, not as negated, if◌then◌else◌, List, [], ◌∷◌, length, map, drop, Option, Some, None}
use Rattle.up_text.specs.declared.name.Name.{Name}
use Rattle.up_text.specs.declared.place.Place.{Place}
use Rattle.pddl_lex.specs.Parses.{parsed, rejected, over, over_two, all}
use Rattle.pddl_parse.specs.declared.raw.Ident.{Ident}
use Rattle.pddl_parse.specs.declared.raw.Relation as raw_relation
use Rattle.pddl_parse.specs.declared.raw.Relation.TheVariants as stated
use Rattle.pddl_parse.specs.declared.raw.RawTerm.{RawTerm}
use Rattle.pddl_parse.specs.declared.raw.RawTerm as operand
use Rattle.pddl_parse.specs.declared.raw.RawGroup.{RawGroup}
use Rattle.pddl_parse.specs.declared.raw.RawFormula.{RawFormula, Row_of-RawFormula, end_of-RawFormula, more_of-RawFormula}
use Rattle.pddl_parse.specs.declared.raw.RawFormula as form
use Rattle.up_tree.specs.declared.formula.Formula.{Formula, And, Or, Not, Imply, Exists, Forall, Atom, Equal, Compare}
use Rattle.up_tree.specs.declared.formula.Relation.{Relation}
use Rattle.up_tree.specs.declared.formula.Relation.TheVariants as relation
use Rattle.up_tree.specs.declared.problem.Gives.{Gives}
use Rattle.up_tree.specs.declared.problem.Gives.TheVariants as gives
use Rattle.up_tree.specs.declared.term.Term.{Term}
use Rattle.up_tree.specs.declared.term.Typed.{Typed}
use Rattle.up_phrase.specs.Declarations.{Declarations}
use Rattle.up_phrase.specs.declared.names.Signature.{Signature}
use Rattle.up_phrase.specs.declared.reason.Reason.TheVariants.{LeftOut, UnknownName}
use Rattle.up_phrase.specs.declared.term.Setting.{Setting}
use Rattle.up_phrase.specs.declared.term.Setting.TheVariants as setting
use Rattle.up_phrase.specs.Named.{at, bare}
use Rattle.up_phrase.specs.Lookups.{predicate_of, function_of}
use Rattle.up_phrase.specs.Nodes.{not, imply, exists, forall}
use Rattle.up_phrase.specs.Scopes.{Variables, entered_groups, typed}
use Rattle.up_phrase.specs.Terms.{applied, term}
use Rattle.up_phrase.specs.Exprs.{expr}
use Rattle.up_phrase.specs.Walks.{Checked, after}

-- the types of a predicate's arguments
abbrev pub predicate : Ident → Option (List Name) → Checked (List Name)
predicate p None = rejected (at p.place UnknownName p.name) []
predicate p (Some args) = parsed args

-- the arguments of an atom
abbrev pub atom_args : Declarations → Variables → Setting → Place → Ident → List RawTerm → Checked (List Term)
atom_args names vars s place p args = applied place p.name (predicate p (predicate_of names p.name)) (map (term names vars s) args)

abbrev pub gives_number : Gives → Bool
gives_number gives.Number = true
gives_number (gives.Object of) = false

abbrev pub is_numeric_function : Option Signature → Bool
is_numeric_function None = false
is_numeric_function (Some function) = gives_number function.gives

-- whether a left side of `=` makes it a comparison of numbers
unfoldable pub is_numeric : Declarations → RawTerm → Bool
is_numeric names (operand.Name it) = false
is_numeric names (operand.Variable it) = false
is_numeric names (operand.Number place n) = true
is_numeric names (operand.Call' place f n args) = is_numeric_function (function_of names f.name)
is_numeric names (operand.Arithmetic' place op n args) = true

-- whether objects are compared
abbrev pub is_equality : Declarations → raw_relation.Relation → RawTerm → Bool
is_equality names stated.Less left = false
is_equality names stated.LessEqual left = false
is_equality names stated.Same left = negated (is_numeric names left)
is_equality names stated.GreaterEqual left = false
is_equality names stated.Greater left = false

abbrev pub relation_of : raw_relation.Relation → Relation
relation_of stated.Less = relation.Less
relation_of stated.LessEqual = relation.LessEqual
relation_of stated.Same = relation.Same
relation_of stated.GreaterEqual = relation.GreaterEqual
relation_of stated.Greater = relation.Greater

-- sides of any types
abbrev pub equality : Declarations → Variables → Setting → RawTerm → RawTerm → Checked Formula
equality names vars s left right = over_two (λ t u. Equal t u) (term names vars s left None) (term names vars s right None)

abbrev pub comparison : Declarations → Variables → Setting → raw_relation.Relation → RawTerm → RawTerm → Checked Formula
comparison names vars s r left right = over_two (λ a b. Compare (relation_of r) a b) (expr names vars s left) (expr names vars s right)

-- a comparison of numbers, of which a constraint holds none
abbrev pub compared : Declarations → Variables → Setting → Place → raw_relation.Relation → RawTerm → RawTerm → Checked Formula
compared names vars setting.Plain place r left right = comparison names vars setting.Plain r left right
compared names vars setting.Constraint place r left right = rejected (bare place LeftOut) []
compared names vars setting.Metric place r left right = comparison names vars setting.Metric r left right

abbrev pub related : Declarations → Variables → Setting → Place → raw_relation.Relation → RawTerm → RawTerm → Checked Formula
related names vars s place r left right = if is_equality names r left then equality names vars s left right else compared names vars s place r left right

-- the variables of the inner scope that the outer one lacks
abbrev pub bound : Variables → Variables → List Typed
bound outer inner = map typed (drop (length outer) inner)

-- the variables of a quantifier and its body, which is read with them in scope
abbrev pub quantified : Declarations → Variables → List RawGroup → (Variables → Checked Formula) → Checked (List Typed × Formula)
quantified names vars groups body = after (entered_groups names [] groups vars) (λ (inner : Variables). over (λ (f : Formula). (bound vars inner, f)) (body inner))

unfoldable mutual
  pub formula : Declarations → Variables → Setting → RawFormula → Checked Formula
  formula names vars s (form.And' n members) = over And (all (formulas names vars s members))
  formula names vars s (form.Or' n members) = over Or (all (formulas names vars s members))
  formula names vars s (not f) = over Not (formula names vars s f)
  formula names vars s (imply f g) = over_two Imply (formula names vars s f) (formula names vars s g)
  formula names vars s (exists groups f) = over (λ (q : List Typed × Formula). Exists q.0 q.1) (quantified names vars groups (λ inner. formula names inner s f))
  formula names vars s (forall groups f) = over (λ (q : List Typed × Formula). Forall q.0 q.1) (quantified names vars groups (λ inner. formula names inner s f))
  formula names vars s (form.Atom place p args) = over (λ ts. Atom p.name ts) (atom_args names vars s place p args)
  formula names vars s (form.Compare place r left right) = related names vars s place r left right

  pub formulas : Declarations → Variables → Setting → {n : _} → Row_of-RawFormula n → List (Checked Formula)
  formulas names vars s end_of-RawFormula = []
  formulas names vars s (more_of-RawFormula member members) = formula names vars s member ∷ formulas names vars s members

-- a quantifier's variables and its body
abbrev pub quantifier : Declarations → Variables → Setting → List RawGroup → RawFormula → Checked (List Typed × Formula)
quantifier names vars s groups f = quantified names vars groups (λ inner. formula names inner s f)
