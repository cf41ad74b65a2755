-- The number of an expression at each node as code builds it, and where it is too large.
use Rattle.std.proofs.Common.{◌≡◌, List, Some, None, refl, ap, inl, inr}
use Rattle.up_frac.specs.Arithmetic.{quotient, divided, IsZero}
use Rattle.up_frac.specs.Fraction.{Fraction}
use Rattle.up_text.specs.declared.name.Name.{Name}
use Rattle.up_tree.specs.declared.term.Term.{Term}
use Rattle.up_tree.specs.declared.expr.Expr.{Expr, Number, Fluent, Sum, Difference, Product, Quotient}
use Rattle.up_tree.specs.Nodes.{built}
use Rattle.up_tree.specs.Objects.{Assignment}
use Rattle.up_tree.specs.State.{State}
use Rattle.up_tree.specs.Value.{number}
use Rattle.up_tree.specs.Big.{BigExpr, IsBigNumber}
use Rattle.up_eval.specs.Numbers.{fluent_value, sum_of, difference_of, product_of, quotient_of}

module _ (s : State) (e : Assignment) where
  pub number-Number : (n : Fraction) → number s e (Number n) ≡ Some n
  unfolding number
  number-Number n = refl

  pub number-Fluent : (f : Name) (ts : List Term) → number s e (Fluent f ts) ≡ fluent_value s e f ts
  unfolding number
  number-Fluent f ts = refl

  pub number-Sum : (a b : Expr) → number s e (Sum a b) ≡ sum_of (number s e a) (number s e b)
  unfolding number built
  number-Sum a b = refl

  pub number-Difference : (a b : Expr) → number s e (Difference a b) ≡ difference_of (number s e a) (number s e b)
  unfolding number built
  number-Difference a b = refl

  pub number-Product : (a b : Expr) → number s e (Product a b) ≡ product_of (number s e a) (number s e b)
  unfolding number built
  number-Product a b = refl

  pub number-Quotient : (a b : Expr) → number s e (Quotient a b) ≡ quotient_of (number s e a) (number s e b)
  unfolding number built
  number-Quotient a b = refl

  pub left-Sum : (a b : Expr) → BigExpr s e a → BigExpr s e (Sum a b)
  unfolding BigExpr built
  left-Sum a b h = inr (inl h)

  pub right-Sum : (a b : Expr) → BigExpr s e b → BigExpr s e (Sum a b)
  unfolding BigExpr built
  right-Sum a b h = inr (inr h)

  pub here-Sum : (a b : Expr) → IsBigNumber (sum_of (number s e a) (number s e b)) → BigExpr s e (Sum a b)
  unfolding number BigExpr built
  here-Sum a b h = inl h

  pub left-Difference : (a b : Expr) → BigExpr s e a → BigExpr s e (Difference a b)
  unfolding BigExpr built
  left-Difference a b h = inr (inl h)

  pub right-Difference : (a b : Expr) → BigExpr s e b → BigExpr s e (Difference a b)
  unfolding BigExpr built
  right-Difference a b h = inr (inr h)

  pub here-Difference : (a b : Expr) → IsBigNumber (difference_of (number s e a) (number s e b)) → BigExpr s e (Difference a b)
  unfolding number BigExpr built
  here-Difference a b h = inl h

  pub left-Product : (a b : Expr) → BigExpr s e a → BigExpr s e (Product a b)
  unfolding BigExpr built
  left-Product a b h = inr (inl h)

  pub right-Product : (a b : Expr) → BigExpr s e b → BigExpr s e (Product a b)
  unfolding BigExpr built
  right-Product a b h = inr (inr h)

  pub here-Product : (a b : Expr) → IsBigNumber (product_of (number s e a) (number s e b)) → BigExpr s e (Product a b)
  unfolding number BigExpr built
  here-Product a b h = inl h

  pub left-Quotient : (a b : Expr) → BigExpr s e a → BigExpr s e (Quotient a b)
  unfolding BigExpr built
  left-Quotient a b h = inr (inl h)

  pub right-Quotient : (a b : Expr) → BigExpr s e b → BigExpr s e (Quotient a b)
  unfolding BigExpr built
  right-Quotient a b h = inr (inr h)

  pub here-Quotient : (a b : Expr) → IsBigNumber (quotient_of (number s e a) (number s e b)) → BigExpr s e (Quotient a b)
  unfolding number BigExpr built
  here-Quotient a b h = inl h

pub ruleset numbers = (number-Number, number-Fluent, number-Sum, number-Difference, number-Product, number-Quotient, left-Sum, right-Sum, here-Sum, left-Difference, right-Difference, here-Difference, left-Product, right-Product, here-Product, left-Quotient, right-Quotient, here-Quotient)

pub quotient-zero : (a b : Fraction) → IsZero b → quotient a b ≡ None
unfolding quotient
quotient-zero a b is = ap (divided a b) is
