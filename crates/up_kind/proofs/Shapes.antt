-- What a condition carries by its node and its members, one equation for each node as code builds it.
use Rattle.std.proofs.Common.{◌≡◌, Bool, false, ◌||◌, List, refl, ap, ◌∙◌}
use Rattle.std.specs.List.{list_any}
use Rattle.up_text.specs.declared.name.Name.{Name}
use Rattle.up_tree.specs.declared.term.Term.{Term}
use Rattle.up_tree.specs.declared.term.Typed.{Typed}
use Rattle.up_tree.specs.declared.expr.Expr.{Expr}
use Rattle.up_tree.specs.declared.formula.Relation.{Relation}
use Rattle.up_tree.specs.declared.formula.Formula.{Formula, And, Or, Not, Imply, Exists, Forall, Atom, Equal, Compare, Row_of-Formula, end_of-Formula, more_of-Formula, items-the_row-Formula, items_hidden-the_row-Formula-0}
use Rattle.up_tree.specs.declared.formula.Formula.TheBlock.{hidden-the_row-Formula-0}
use Rattle.up_tree.specs.Nodes.{built}
use Rattle.up_kind.specs.declared.feature.Feature.TheVariants.{DisjunctiveConditions, Equalities, ExistentialConditions, UniversalConditions, NumericConditions}
use Rattle.up_kind.specs.Features.{none, alone, either, over}
use Rattle.up_tree.specs.declared.expr.Expr.{Number, Sum, Difference, Product, Quotient}
use Rattle.up_tree.specs.declared.expr.Expr as expr
use Rattle.up_tree.specs.Simplify.{is_empty, is_true_formula}
use Rattle.up_frac.specs.Fraction.{Fraction}
use Rattle.up_kind.specs.Carried.{anywhere, in_row, is_fluent, has_fluent}
use Rattle.up_kind.specs.Gathered.{of_node, of_not, of_condition}

in_row-items : (t : Formula → Bool) {n : _} (fs : Row_of-Formula n) → in_row t fs ≡ list_any (anywhere t) (items-the_row-Formula _ fs)
unfolding anywhere in_row
in_row-items t end_of-Formula = refl
in_row-items t (more_of-Formula f fs) = ap (λ b. anywhere t f || b) (in_row-items t fs)

in_row-list : (t : Formula → Bool) (fs : List Formula) → in_row t (hidden-the_row-Formula-0 fs) ≡ list_any (anywhere t) fs
in_row-list t fs = in_row-items t (hidden-the_row-Formula-0 fs) ∙ ap (list_any (anywhere t)) (items_hidden-the_row-Formula-0 fs)

pub of-And : (fs : List Formula) → of_condition (And fs) ≡ over of_condition fs
unfolding of_condition over anywhere none
of-And fs = λ i f. in_row-list (λ node. of_node node f) fs i

pub of-Or : (fs : List Formula) → of_condition (Or fs) ≡ either (alone DisjunctiveConditions) (over of_condition fs)
unfolding of_condition over anywhere either
of-Or fs = λ i f. alone DisjunctiveConditions f || in_row-list (λ node. of_node node f) fs i

pub of-Not : (g : Formula) → of_condition (Not g) ≡ either (of_not g) (of_condition g)
unfolding of_condition anywhere either built
of-Not g = refl

pub of-Imply : (g h : Formula) → of_condition (Imply g h) ≡ either (alone DisjunctiveConditions) (either (of_condition g) (of_condition h))
unfolding of_condition anywhere either built
of-Imply g h = refl

pub of-Exists : (vars : List Typed) (g : Formula) → of_condition (Exists vars g) ≡ either (alone ExistentialConditions) (of_condition g)
unfolding of_condition anywhere either built
of-Exists vars g = refl

pub of-Forall : (vars : List Typed) (g : Formula) → of_condition (Forall vars g) ≡ either (alone UniversalConditions) (of_condition g)
unfolding of_condition anywhere either built
of-Forall vars g = refl

pub of-Atom : (name : Name) (ts : List Term) → of_condition (Atom name ts) ≡ none
unfolding of_condition anywhere none
of-Atom name ts = refl

pub of-Equal : (t u : Term) → of_condition (Equal t u) ≡ alone Equalities
unfolding of_condition anywhere
of-Equal t u = refl

pub of-Compare : (r : Relation) (a b : Expr) → of_condition (Compare r a b) ≡ alone NumericConditions
unfolding of_condition anywhere
of-Compare r a b = refl

pub ruleset shapes = (of-And, of-Or, of-Not, of-Imply, of-Exists, of-Forall, of-Atom, of-Equal, of-Compare)

pub always-And : (fs : List Formula) → is_true_formula (And fs) ≡ is_empty fs
always-And fs = ap is_empty (items_hidden-the_row-Formula-0 fs)

pub ruleset always = (always-And)

-- ---- expressions

pub fluent-Number : (n : Fraction) → has_fluent (Number n) ≡ false
unfolding has_fluent
fluent-Number n = refl

pub fluent-Fluent : (f : Name) (ts : List Term) → has_fluent (expr.Fluent f ts) ≡ list_any is_fluent ts
unfolding has_fluent
fluent-Fluent f ts = refl

pub fluent-Sum : (a b : Expr) → has_fluent (Sum a b) ≡ (has_fluent a || has_fluent b)
unfolding has_fluent built
fluent-Sum a b = refl

pub fluent-Difference : (a b : Expr) → has_fluent (Difference a b) ≡ (has_fluent a || has_fluent b)
unfolding has_fluent built
fluent-Difference a b = refl

pub fluent-Product : (a b : Expr) → has_fluent (Product a b) ≡ (has_fluent a || has_fluent b)
unfolding has_fluent built
fluent-Product a b = refl

pub fluent-Quotient : (a b : Expr) → has_fluent (Quotient a b) ≡ (has_fluent a || has_fluent b)
unfolding has_fluent built
fluent-Quotient a b = refl

pub ruleset fluents = (fluent-Number, fluent-Fluent, fluent-Sum, fluent-Difference, fluent-Product, fluent-Quotient)
