-- Trees whose variables are replaced by objects.
use Rattle.std.specs.Prelude.{Bool, if◌then◌else◌, List, [], ◌∷◌, map, Option, Some, None}
use Rattle.std.specs.List.{list_any}
use Rattle.std.specs.Option.{option_or}
use Rattle.up_text.specs.declared.name.Name.{Name}
use Rattle.up_text.specs.Names.{same_name}
use Rattle.up_tree.specs.declared.term.Typed.{Typed}
use Rattle.up_tree.specs.declared.term.Term.{Term, Var, Object, Fluent', Row_of-Term, end_of-Term, more_of-Term}
use Rattle.up_tree.specs.declared.expr.Expr.{Expr, Number, Fluent}
use Rattle.up_tree.specs.declared.formula.Formula.{Formula, And', Or', Atom, Equal, Compare, Row_of-Formula, end_of-Formula, more_of-Formula}
use Rattle.up_tree.specs.Nodes.{sum, difference, product, quotient, not, imply, exists, forall}

-- the object that takes a variable's place, or none where the variable stays
abbrev pub Replacement : Type 0
Replacement = Name → Option Name

-- each variable by the object at its place; of two equal variables the later one counts
abbrev pub replacement : List Typed → List Name → Replacement
replacement [] objects v = None
replacement (x ∷ vars) [] v = None
replacement (x ∷ vars) (o ∷ objects) v = option_or (replacement vars objects v) (if same_name x.name v then Some o else None)

abbrev pub binds : List Typed → Name → Bool
binds vars v = list_any (λ x. same_name x.name v) vars

-- what is replaced under a quantifier: not the variables that it binds
abbrev pub under : List Typed → Replacement → Replacement
under vars r v = if binds vars v then None else r v

abbrev pub in_place : Name → Option Name → Term
in_place v None = Var v
in_place v (Some o) = Object o

unfoldable mutual
  pub replaced_term : Replacement → Term → Term
  replaced_term r (Var v) = in_place v (r v)
  replaced_term r (Object o) = Object o
  replaced_term r (Fluent' f n ts) = Fluent' f n (replaced_row r ts)

  pub replaced_row : Replacement → {n : _} → Row_of-Term n → Row_of-Term n
  replaced_row r end_of-Term = end_of-Term
  replaced_row r (more_of-Term t ts) = more_of-Term (replaced_term r t) (replaced_row r ts)

unfoldable pub replaced_expr : Replacement → Expr → Expr
replaced_expr r (Number n) = Number n
replaced_expr r (Fluent f ts) = Fluent f (map (replaced_term r) ts)
replaced_expr r (sum a b) = sum (replaced_expr r a) (replaced_expr r b)
replaced_expr r (difference a b) = difference (replaced_expr r a) (replaced_expr r b)
replaced_expr r (product a b) = product (replaced_expr r a) (replaced_expr r b)
replaced_expr r (quotient a b) = quotient (replaced_expr r a) (replaced_expr r b)

unfoldable mutual
  pub replaced : Replacement → Formula → Formula
  replaced r (And' n fs) = And' n (replaced_members r fs)
  replaced r (Or' n fs) = Or' n (replaced_members r fs)
  replaced r (not f) = not (replaced r f)
  replaced r (imply f g) = imply (replaced r f) (replaced r g)
  replaced r (exists vars f) = exists vars (replaced (under vars r) f)
  replaced r (forall vars f) = forall vars (replaced (under vars r) f)
  replaced r (Atom name ts) = Atom name (map (replaced_term r) ts)
  replaced r (Equal t u) = Equal (replaced_term r t) (replaced_term r u)
  replaced r (Compare relation a b) = Compare relation (replaced_expr r a) (replaced_expr r b)

  pub replaced_members : Replacement → {n : _} → Row_of-Formula n → Row_of-Formula n
  replaced_members r end_of-Formula = end_of-Formula
  replaced_members r (more_of-Formula f fs) = more_of-Formula (replaced r f) (replaced_members r fs)

-- ---- the variables of a list, each by the object at its place

abbrev pub substituted_term : List Typed → List Name → Term → Term
substituted_term vars objects t = replaced_term (replacement vars objects) t

abbrev pub substituted_expr : List Typed → List Name → Expr → Expr
substituted_expr vars objects x = replaced_expr (replacement vars objects) x

abbrev pub substituted : List Typed → List Name → Formula → Formula
substituted vars objects f = replaced (replacement vars objects) f
