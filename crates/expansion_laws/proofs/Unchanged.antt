-- Where nothing is replaced, trees stay as they are.
use Rattle.std.proofs.Common.{◌≡◌, Bool, true, false, List, [], ◌∷◌, map, Option, None, refl, ap, ◌∙◌}
use Rattle.std.specs.Prelude.{if◌then◌else◌}
use Rattle.up_text.specs.declared.name.Name.{Name}
use Rattle.up_tree.specs.declared.term.Typed.{Typed}
use Rattle.up_tree.specs.declared.term.Term.{Term, Var, Object, Fluent', Row_of-Term, end_of-Term, more_of-Term}
use Rattle.up_tree.specs.declared.expr.Expr.{Expr, Number, Fluent}
use Rattle.up_tree.specs.declared.action.Effect.{Effect}
use Rattle.up_tree.specs.declared.action.Effect.TheVariants as effect
use Rattle.up_tree.specs.declared.formula.Formula.{Formula, And', Or', Atom, Equal, Compare, Row_of-Formula, end_of-Formula, more_of-Formula}
use Rattle.up_tree.specs.Nodes.{not, imply, exists, forall, sum, difference, product, quotient}
use Rattle.up_tree.specs.Objects.{unassigned}
use Rattle.semantics_laws.specs.Replaced.{binds, under, replaced_term, replaced_row, replaced_expr, replaced, replaced_members}
use Rattle.expansion_laws.specs.Substituted.{replaced_effect}

mutual
  unfolding replaced_term replaced_row

  pub same_term : (t : Term) → replaced_term unassigned t ≡ t
  same_term (Var v) = refl
  same_term (Object o) = refl
  same_term (Fluent' f n ts) = ap (Fluent' f n) (same_row ts)

  same_row : {n : _} (ts : Row_of-Term n) → replaced_row unassigned ts ≡ ts
  same_row end_of-Term = refl
  same_row (more_of-Term t ts) = λ i. more_of-Term (same_term t i) (same_row ts i)

pub same_terms : (ts : List Term) → map (replaced_term unassigned) ts ≡ ts
same_terms [] = refl
same_terms (t ∷ ts) = λ i. same_term t i ∷ same_terms ts i

pub same_expr : (x : Expr) → replaced_expr unassigned x ≡ x
unfolding replaced_expr
same_expr (Number n) = refl
same_expr (Fluent f ts) = ap (Fluent f) (same_terms ts)
same_expr (sum a b) = λ i. sum (same_expr a i) (same_expr b i)
same_expr (difference a b) = λ i. difference (same_expr a i) (same_expr b i)
same_expr (product a b) = λ i. product (same_expr a i) (same_expr b i)
same_expr (quotient a b) = λ i. quotient (same_expr a i) (same_expr b i)

pub same_effect : (x : Effect) → replaced_effect unassigned x ≡ x
same_effect (effect.Add name ts) = ap (effect.Add name) (same_terms ts)
same_effect (effect.Delete name ts) = ap (effect.Delete name) (same_terms ts)
same_effect (effect.Number change f ts x) = λ i. effect.Number change f (same_terms ts i) (same_expr x i)
same_effect (effect.Object f ts t) = λ i. effect.Object f (same_terms ts i) (same_term t i)
same_effect (effect.Undefine f ts) = ap (effect.Undefine f) (same_terms ts)

-- ---- formulas

under_nothing : (vars : List Typed) → under vars unassigned ≡ unassigned
under_nothing vars = λ i v. by (binds vars v) i
  where
    by : (b : Bool) → (if b then (let o : Option Name = None in o) else None) ≡ None
    by true = refl
    by false = refl

mutual
  unfolding replaced replaced_members

  pub same_formula : (f : Formula) → replaced unassigned f ≡ f
  same_formula (And' n fs) = ap (And' n) (same_members fs)
  same_formula (Or' n fs) = ap (Or' n) (same_members fs)
  same_formula (not f) = ap not (same_formula f)
  same_formula (imply f g) = λ i. imply (same_formula f i) (same_formula g i)
  same_formula (exists vars f) = ap (λ r. exists vars (replaced r f)) (under_nothing vars) ∙ ap (exists vars) (same_formula f)
  same_formula (forall vars f) = ap (λ r. forall vars (replaced r f)) (under_nothing vars) ∙ ap (forall vars) (same_formula f)
  same_formula (Atom name ts) = ap (Atom name) (same_terms ts)
  same_formula (Equal t u) = λ i. Equal (same_term t i) (same_term u i)
  same_formula (Compare r a b) = λ i. Compare r (same_expr a i) (same_expr b i)

  same_members : {n : _} (fs : Row_of-Formula n) → replaced_members unassigned fs ≡ fs
  same_members end_of-Formula = refl
  same_members (more_of-Formula f fs) = λ i. more_of-Formula (same_formula f i) (same_members fs i)
