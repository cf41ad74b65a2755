-- How terms, expressions and conditions are written. A flag says whether the problem declares a type.
use Rattle.std.specs.Prelude.{ℕ, Bool, if◌then◌else◌, List, [], ◌++◌, codes}
use Rattle.up_text.specs.declared.name.Name.{Name}
use Rattle.up_tree.specs.declared.term.Typed.{Typed}
use Rattle.up_tree.specs.declared.term.Term.{Term, Var, Object, Fluent', Row_of-Term, end_of-Term, more_of-Term}
use Rattle.up_tree.specs.declared.expr.Expr.{Expr, Number, Fluent}
use Rattle.up_tree.specs.declared.formula.Relation.{Relation}
use Rattle.up_tree.specs.declared.formula.Relation.TheVariants.{Less, LessEqual, Same, GreaterEqual, Greater}
use Rattle.up_tree.specs.declared.formula.Formula.{Formula, And', Or', Atom, Equal, Compare, Row_of-Formula, end_of-Formula, more_of-Formula}
use Rattle.up_tree.specs.Nodes.{not, imply, exists, forall, sum, difference, product, quotient}
use Rattle.up_line.specs.Spaced.{spaced, joined}
use Rattle.pddl_write.specs.Numbers.{number_text}

-- ---- typed names

abbrev pub type_text : Bool → Name → List ℕ
type_text typed of = if typed then codes " - " ++ of else []

abbrev pub object_text : Bool → Typed → List ℕ
object_text typed o = o.name ++ type_text typed o.of

abbrev pub variable_text : Bool → Typed → List ℕ
variable_text typed v = codes "?" ++ v.name ++ type_text typed v.of

abbrev pub variables_text : Bool → List Typed → List ℕ
variables_text typed vars = joined (variable_text typed) vars

-- ---- terms and expressions

unfoldable mutual
  pub term_text : Term → List ℕ
  term_text (Var v) = codes "?" ++ v
  term_text (Object o) = o
  term_text (Fluent' f n ts) = codes "(" ++ f ++ arguments_text ts ++ codes ")"

  pub arguments_text : {n : _} → Row_of-Term n → List ℕ
  arguments_text end_of-Term = []
  arguments_text (more_of-Term t ts) = codes " " ++ term_text t ++ arguments_text ts

-- a predicate or a function at its arguments
abbrev pub applied : Name → List Term → List ℕ
applied name ts = codes "(" ++ name ++ spaced term_text ts ++ codes ")"

unfoldable pub expr_text : Expr → List ℕ
expr_text (Number n) = number_text n
expr_text (Fluent f ts) = applied f ts
expr_text (sum a b) = codes "(+ " ++ expr_text a ++ codes " " ++ expr_text b ++ codes ")"
expr_text (difference a b) = codes "(- " ++ expr_text a ++ codes " " ++ expr_text b ++ codes ")"
expr_text (product a b) = codes "(* " ++ expr_text a ++ codes " " ++ expr_text b ++ codes ")"
expr_text (quotient a b) = codes "(/ " ++ expr_text a ++ codes " " ++ expr_text b ++ codes ")"

-- ---- conditions

abbrev pub relation_text : Relation → List ℕ
relation_text Less = codes "<"
relation_text LessEqual = codes "<="
relation_text Same = codes "="
relation_text GreaterEqual = codes ">="
relation_text Greater = codes ">"

abbrev pub equality_text : Term → Term → List ℕ
equality_text t u = codes "(= " ++ term_text t ++ codes " " ++ term_text u ++ codes ")"

abbrev pub comparison_text : Relation → Expr → Expr → List ℕ
comparison_text r a b = codes "(" ++ relation_text r ++ codes " " ++ expr_text a ++ codes " " ++ expr_text b ++ codes ")"

unfoldable mutual
  pub formula_text : Bool → Formula → List ℕ
  formula_text typed (And' n fs) = codes "(and" ++ members_text typed fs ++ codes ")"
  formula_text typed (Or' n fs) = codes "(or" ++ members_text typed fs ++ codes ")"
  formula_text typed (not f) = codes "(not " ++ formula_text typed f ++ codes ")"
  formula_text typed (imply f g) = codes "(imply " ++ formula_text typed f ++ codes " " ++ formula_text typed g ++ codes ")"
  formula_text typed (exists vars f) = codes "(exists (" ++ variables_text typed vars ++ codes ") " ++ formula_text typed f ++ codes ")"
  formula_text typed (forall vars f) = codes "(forall (" ++ variables_text typed vars ++ codes ") " ++ formula_text typed f ++ codes ")"
  formula_text typed (Atom name ts) = applied name ts
  formula_text typed (Equal t u) = equality_text t u
  formula_text typed (Compare r a b) = comparison_text r a b

  pub members_text : Bool → {n : _} → Row_of-Formula n → List ℕ
  members_text typed end_of-Formula = []
  members_text typed (more_of-Formula f fs) = codes " " ++ formula_text typed f ++ members_text typed fs
