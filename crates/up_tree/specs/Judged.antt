-- The one of three values that a formula has.
use Rattle.std.specs.Prelude.{Bool, true, false, nat_eq, List, [], ◌∷◌, map, Option, Some, None}
use Rattle.std.specs.declared.cmp.Ordering.{Ordering}
use Rattle.std.specs.declared.cmp.Ordering.TheVariants.{Less, Equal as Tied, Greater}
use Rattle.std.specs.Cmp.Lexicographic.{pointwise}
use Rattle.std.specs.FinSet as set
use Rattle.up_frac.specs.Fraction.{Fraction}
use Rattle.up_frac.specs.Arithmetic.{compare}
use Rattle.up_text.specs.declared.name.Name.{Name}
use Rattle.up_tree.specs.declared.formula.Relation.{Relation}
use Rattle.up_tree.specs.declared.formula.Relation.TheVariants as relation
use Rattle.up_tree.specs.declared.formula.Formula.{Formula, And', Or', Atom, Equal, Compare, Row_of-Formula, end_of-Formula, more_of-Formula}
use Rattle.up_tree.specs.declared.truth.Truth.{Truth}
use Rattle.up_tree.specs.declared.truth.Truth.TheVariants.{True, False, Undefined}
use Rattle.up_tree.specs.Nodes.{not, imply, exists, forall}
use Rattle.up_tree.specs.Objects.{World, Assignment, assign, tuples}
use Rattle.up_tree.specs.State.{State, Ground}
use Rattle.up_tree.specs.Value.{term_value, ground_at, number}
use Rattle.up_tree.specs.Truth.{True as IsTrueIn, False as IsFalseIn, IsUndefined}

-- the answer is the formula's truth
abbrev pub Judges : World → State → Assignment → Formula → Truth → Type 0
Judges w s e f True = IsTrueIn w s e f
Judges w s e f False = IsFalseIn w s e f
Judges w s e f Undefined = IsUndefined w s e f

abbrev pub opposite : Truth → Truth
opposite True = False
opposite False = True
opposite Undefined = Undefined

abbrev pub either : Truth → Truth → Truth
either True b = True
either False b = b
either Undefined True = True
either Undefined False = Undefined
either Undefined Undefined = Undefined

abbrev pub both : Truth → Truth → Truth
both False b = False
both True b = b
both Undefined False = False
both Undefined True = Undefined
both Undefined Undefined = Undefined

abbrev pub all_of : List Truth → Truth
all_of [] = True
all_of (t ∷ ts) = both t (all_of ts)

abbrev pub any_of : List Truth → Truth
any_of [] = False
any_of (t ∷ ts) = either t (any_of ts)

abbrev pub is_true : Truth → Bool
is_true True = true
is_true t = false

abbrev pub of_test : Bool → Truth
of_test true = True
of_test false = False

abbrev pub admits : Relation → Ordering → Bool
admits relation.Less Less = true
admits relation.LessEqual Less = true
admits relation.LessEqual Tied = true
admits relation.Same Tied = true
admits relation.GreaterEqual Tied = true
admits relation.GreaterEqual Greater = true
admits relation.Greater Greater = true
admits r o = false

abbrev pub atom_truth : State → Option Ground → Truth
atom_truth s None = Undefined
atom_truth s (Some a) = of_test (set.contains s.atoms a)

abbrev pub equal_truth : Option Name → Option Name → Truth
equal_truth (Some x) (Some y) = of_test (pointwise nat_eq x y)
equal_truth x y = Undefined

abbrev pub compare_truth : Relation → Option Fraction → Option Fraction → Truth
compare_truth r (Some x) (Some y) = of_test (admits r (compare x y))
compare_truth r x y = Undefined

unfoldable mutual
  pub truth_of : World → State → Assignment → Formula → Truth
  truth_of w s e (And' n fs) = all_of (truths_of w s e fs)
  truth_of w s e (Or' n fs) = any_of (truths_of w s e fs)
  truth_of w s e (not f) = opposite (truth_of w s e f)
  truth_of w s e (imply f g) = either (opposite (truth_of w s e f)) (truth_of w s e g)
  truth_of w s e (exists vars f) = any_of (map (λ tuple. truth_of w s (assign vars tuple e) f) (tuples w vars))
  truth_of w s e (forall vars f) = all_of (map (λ tuple. truth_of w s (assign vars tuple e) f) (tuples w vars))
  truth_of w s e (Atom name ts) = atom_truth s (ground_at s e name ts)
  truth_of w s e (Equal t u) = equal_truth (term_value s e t) (term_value s e u)
  truth_of w s e (Compare r a b) = compare_truth r (number s e a) (number s e b)

  pub truths_of : World → State → Assignment → {n : _} → Row_of-Formula n → List Truth
  truths_of w s e end_of-Formula = []
  truths_of w s e (more_of-Formula f fs) = truth_of w s e f ∷ truths_of w s e fs
