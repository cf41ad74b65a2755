-- The kinds of the tokens that are written for terms, expressions and conditions. A flag says whether the problem
-- declares a type.
use Rattle.std.specs.Prelude.{Bool, if◌then◌else◌, List, [], ◌∷◌, ◌++◌, flat_map, codes}
use Rattle.up_text.specs.declared.name.Name.{Name}
use Rattle.up_tree.specs.declared.term.Typed.{Typed}
use Rattle.up_tree.specs.declared.term.Term.{Term, Var, Object, Fluent', Row_of-Term, end_of-Term, more_of-Term}
use Rattle.up_tree.specs.declared.expr.Expr.{Expr, Number, Fluent}
use Rattle.up_tree.specs.declared.formula.Relation.{Relation}
use Rattle.up_tree.specs.declared.formula.Relation.TheVariants as relation
use Rattle.up_tree.specs.declared.formula.Formula.{Formula, And', Or', Atom, Equal, Compare, Row_of-Formula, end_of-Formula, more_of-Formula}
use Rattle.up_tree.specs.Nodes.{not, imply, exists, forall, sum, difference, product, quotient}
use Rattle.pddl_lex.specs.declared.tree.Sign.{Sign}
use Rattle.pddl_lex.specs.declared.tree.Sign.TheVariants as sign
use Rattle.pddl_lex.specs.declared.tree.TokenKind.{TokenKind}
use Rattle.pddl_lex.specs.declared.tree.TokenKind.TheVariants as kind

-- tokens in brackets
abbrev pub group : List TokenKind → List TokenKind
group tokens = kind.Open ∷ tokens ++ kind.Close ∷ []

-- ---- typed names

abbrev pub type_tokens : Bool → Name → List TokenKind
type_tokens typed of = if typed then kind.Sign sign.Minus ∷ kind.Word of ∷ [] else []

abbrev pub object_tokens : Bool → Typed → List TokenKind
object_tokens typed o = kind.Word o.name ∷ type_tokens typed o.of

abbrev pub variable_tokens : Bool → Typed → List TokenKind
variable_tokens typed v = kind.Variable v.name ∷ type_tokens typed v.of

abbrev pub variables_tokens : Bool → List Typed → List TokenKind
variables_tokens typed vars = flat_map (variable_tokens typed) vars

-- ---- terms and expressions

unfoldable mutual
  pub term_tokens : Term → List TokenKind
  term_tokens (Var v) = kind.Variable v ∷ []
  term_tokens (Object o) = kind.Word o ∷ []
  term_tokens (Fluent' f n ts) = group (kind.Word f ∷ arguments_tokens ts)

  pub arguments_tokens : {n : _} → Row_of-Term n → List TokenKind
  arguments_tokens end_of-Term = []
  arguments_tokens (more_of-Term t ts) = term_tokens t ++ arguments_tokens ts

-- a predicate or a function at its arguments
abbrev pub applied_tokens : Name → List Term → List TokenKind
applied_tokens name ts = group (kind.Word name ∷ flat_map term_tokens ts)

unfoldable pub expr_tokens : Expr → List TokenKind
expr_tokens (Number n) = kind.Number n ∷ []
expr_tokens (Fluent f ts) = applied_tokens f ts
expr_tokens (sum a b) = group (kind.Sign sign.Plus ∷ expr_tokens a ++ expr_tokens b)
expr_tokens (difference a b) = group (kind.Sign sign.Minus ∷ expr_tokens a ++ expr_tokens b)
expr_tokens (product a b) = group (kind.Sign sign.Times ∷ expr_tokens a ++ expr_tokens b)
expr_tokens (quotient a b) = group (kind.Sign sign.Slash ∷ expr_tokens a ++ expr_tokens b)

-- ---- conditions

abbrev pub sign_of : Relation → Sign
sign_of relation.Less = sign.Less
sign_of relation.LessEqual = sign.LessEqual
sign_of relation.Same = sign.Same
sign_of relation.GreaterEqual = sign.GreaterEqual
sign_of relation.Greater = sign.Greater

unfoldable mutual
  pub formula_tokens : Bool → Formula → List TokenKind
  formula_tokens typed (And' n fs) = group (kind.Word (codes "and") ∷ members_tokens typed fs)
  formula_tokens typed (Or' n fs) = group (kind.Word (codes "or") ∷ members_tokens typed fs)
  formula_tokens typed (not f) = group (kind.Word (codes "not") ∷ formula_tokens typed f)
  formula_tokens typed (imply f g) = group (kind.Word (codes "imply") ∷ formula_tokens typed f ++ formula_tokens typed g)
  formula_tokens typed (exists vars f) = group (kind.Word (codes "exists") ∷ group (variables_tokens typed vars) ++ formula_tokens typed f)
  formula_tokens typed (forall vars f) = group (kind.Word (codes "forall") ∷ group (variables_tokens typed vars) ++ formula_tokens typed f)
  formula_tokens typed (Atom name ts) = applied_tokens name ts
  formula_tokens typed (Equal t u) = group (kind.Sign sign.Same ∷ term_tokens t ++ term_tokens u)
  formula_tokens typed (Compare r a b) = group (kind.Sign (sign_of r) ∷ expr_tokens a ++ expr_tokens b)

  pub members_tokens : Bool → {n : _} → Row_of-Formula n → List TokenKind
  members_tokens typed end_of-Formula = []
  members_tokens typed (more_of-Formula f fs) = formula_tokens typed f ++ members_tokens typed fs
