-- The text of each node as code builds it.
use Rattle.std.proofs.Common.{◌≡◌, ◌++◌, Bool, List, codes, refl, ap, ◌∙◌}
use Rattle.up_text.specs.declared.name.Name.{Name}
use Rattle.up_tree.specs.declared.term.Term.{Term, Var, Object, Fluent, Row_of-Term, end_of-Term, more_of-Term, items-the_row-Term, items_hidden-the_row-Term-0}
use Rattle.up_tree.specs.declared.term.Term.TheBlock.{hidden-the_row-Term-0}
use Rattle.up_tree.specs.declared.formula.Formula.{Formula, And, Or, Not, Imply, Exists, Forall, Atom, Equal, Compare, Row_of-Formula, end_of-Formula, more_of-Formula, items-the_row-Formula, items_hidden-the_row-Formula-0}
use Rattle.up_tree.specs.declared.formula.Formula.TheBlock.{hidden-the_row-Formula-0}
use Rattle.up_tree.specs.declared.formula.Relation.{Relation}
use Rattle.up_tree.specs.declared.term.Typed.{Typed}
use Rattle.up_tree.specs.declared.expr.Expr.{Expr, Number, Sum, Difference, Product, Quotient}
use Rattle.up_tree.specs.declared.expr.Expr as expr
use Rattle.up_tree.specs.Nodes.{built}
use Rattle.up_frac.specs.Fraction.{Fraction}
use Rattle.pddl_write.specs.Numbers.{number_text}
use Rattle.up_line.specs.Spaced.{spaced}
use Rattle.pddl_write.specs.Phrases.{applied, variables_text, term_text, arguments_text, expr_text, equality_text, comparison_text, formula_text, members_text}

arguments-items : {n : _} (ts : Row_of-Term n) → arguments_text ts ≡ spaced term_text (items-the_row-Term _ ts)
unfolding term_text arguments_text
arguments-items end_of-Term = refl
arguments-items (more_of-Term t ts) = ap (λ k. (codes " " ++ term_text t) ++ k) (arguments-items ts)

pub term_text-Fluent : (f : Name) (ts : List Term) → term_text (Fluent f ts) ≡ codes "(" ++ f ++ spaced term_text ts ++ codes ")"
unfolding term_text arguments_text
term_text-Fluent f ts = ap (λ k. codes "(" ++ f ++ k ++ codes ")") (arguments-items (hidden-the_row-Term-0 ts) ∙ ap (spaced term_text) (items_hidden-the_row-Term-0 ts))

pub term_text-Var : (v : Name) → term_text (Var v) ≡ codes "?" ++ v
unfolding term_text
term_text-Var v = refl

pub term_text-Object : (o : Name) → term_text (Object o) ≡ o
unfolding term_text
term_text-Object o = refl

-- ---- expressions

pub expr_text-Number : (n : Fraction) → expr_text (Number n) ≡ number_text n
unfolding expr_text
expr_text-Number n = refl

pub expr_text-Fluent : (f : Name) (ts : List Term) → expr_text (expr.Fluent f ts) ≡ applied f ts
unfolding expr_text
expr_text-Fluent f ts = refl

pub expr_text-Sum : (a b : Expr) → expr_text (Sum a b) ≡ codes "(+ " ++ expr_text a ++ codes " " ++ expr_text b ++ codes ")"
unfolding expr_text built
expr_text-Sum a b = refl

pub expr_text-Difference : (a b : Expr) → expr_text (Difference a b) ≡ codes "(- " ++ expr_text a ++ codes " " ++ expr_text b ++ codes ")"
unfolding expr_text built
expr_text-Difference a b = refl

pub expr_text-Product : (a b : Expr) → expr_text (Product a b) ≡ codes "(* " ++ expr_text a ++ codes " " ++ expr_text b ++ codes ")"
unfolding expr_text built
expr_text-Product a b = refl

pub expr_text-Quotient : (a b : Expr) → expr_text (Quotient a b) ≡ codes "(/ " ++ expr_text a ++ codes " " ++ expr_text b ++ codes ")"
unfolding expr_text built
expr_text-Quotient a b = refl

-- ---- conditions

members-items : (typed : Bool) {n : _} (fs : Row_of-Formula n) → members_text typed fs ≡ spaced (formula_text typed) (items-the_row-Formula _ fs)
unfolding formula_text members_text
members-items typed end_of-Formula = refl
members-items typed (more_of-Formula f fs) = ap (λ k. (codes " " ++ formula_text typed f) ++ k) (members-items typed fs)

members-list : (typed : Bool) (fs : List Formula) → members_text typed (hidden-the_row-Formula-0 fs) ≡ spaced (formula_text typed) fs
members-list typed fs = members-items typed (hidden-the_row-Formula-0 fs) ∙ ap (spaced (formula_text typed)) (items_hidden-the_row-Formula-0 fs)

pub formula_text-And : (typed : Bool) (fs : List Formula) → formula_text typed (And fs) ≡ codes "(and" ++ spaced (formula_text typed) fs ++ codes ")"
unfolding formula_text
formula_text-And typed fs = ap (λ k. codes "(and" ++ k ++ codes ")") (members-list typed fs)

pub formula_text-Or : (typed : Bool) (fs : List Formula) → formula_text typed (Or fs) ≡ codes "(or" ++ spaced (formula_text typed) fs ++ codes ")"
unfolding formula_text
formula_text-Or typed fs = ap (λ k. codes "(or" ++ k ++ codes ")") (members-list typed fs)

pub formula_text-Not : (typed : Bool) (f : Formula) → formula_text typed (Not f) ≡ codes "(not " ++ formula_text typed f ++ codes ")"
unfolding formula_text built
formula_text-Not typed f = refl

pub formula_text-Imply : (typed : Bool) (f g : Formula) → formula_text typed (Imply f g) ≡ codes "(imply " ++ formula_text typed f ++ codes " " ++ formula_text typed g ++ codes ")"
unfolding formula_text built
formula_text-Imply typed f g = refl

pub formula_text-Exists : (typed : Bool) (vars : List Typed) (f : Formula) → formula_text typed (Exists vars f) ≡ codes "(exists (" ++ variables_text typed vars ++ codes ") " ++ formula_text typed f ++ codes ")"
unfolding formula_text built
formula_text-Exists typed vars f = refl

pub formula_text-Forall : (typed : Bool) (vars : List Typed) (f : Formula) → formula_text typed (Forall vars f) ≡ codes "(forall (" ++ variables_text typed vars ++ codes ") " ++ formula_text typed f ++ codes ")"
unfolding formula_text built
formula_text-Forall typed vars f = refl

pub formula_text-Atom : (typed : Bool) (name : Name) (ts : List Term) → formula_text typed (Atom name ts) ≡ applied name ts
unfolding formula_text
formula_text-Atom typed name ts = refl

pub formula_text-Equal : (typed : Bool) (t u : Term) → formula_text typed (Equal t u) ≡ equality_text t u
unfolding formula_text
formula_text-Equal typed t u = refl

pub formula_text-Compare : (typed : Bool) (r : Relation) (a b : Expr) → formula_text typed (Compare r a b) ≡ comparison_text r a b
unfolding formula_text
formula_text-Compare typed r a b = refl

pub ruleset texts = (
  term_text-Var,
  term_text-Object,
  term_text-Fluent,
  expr_text-Number,
  expr_text-Fluent,
  expr_text-Sum,
  expr_text-Difference,
  expr_text-Product,
  expr_text-Quotient,
  formula_text-And,
  formula_text-Or,
  formula_text-Not,
  formula_text-Imply,
  formula_text-Exists,
  formula_text-Forall,
  formula_text-Atom,
  formula_text-Equal,
  formula_text-Compare,
)
