-- Substitution and expansion at each node as code builds it.
use Rattle.std.proofs.Common.{◌≡◌, List, [], ◌∷◌, map, refl, ap, sym, ◌∙◌}
use mathlib.Core.Former.{arity, list, this}
use denote.Hole.Carrier
use Rattle.up_frac.specs.Fraction.{Fraction}
use Rattle.up_text.specs.declared.name.Name.{Name}
use Rattle.up_tree.specs.declared.term.Term.{Term, Var, Object, Fluent, Fluent', Row_of-Term, more_of-Term}
use Rattle.up_tree.specs.declared.term.Term.TheBlock as terms
use Rattle.up_tree.specs.declared.term.Typed.{Typed}
use Rattle.up_tree.specs.declared.expr.Expr.{Expr, Number, Sum, Difference, Product, Quotient}
use Rattle.up_tree.specs.declared.expr.Expr as expr
use Rattle.up_tree.specs.declared.formula.Relation.{Relation}
use Rattle.up_tree.specs.declared.formula.Formula.{Formula, And, And', Or, Or', Not, Imply, Exists, Forall, Atom, Equal, Compare, Row_of-Formula, end_of-Formula, more_of-Formula, items-the_row-Formula, items_hidden-the_row-Formula-0}
use Rattle.up_tree.specs.declared.formula.Formula.TheBlock as formulas
use Rattle.up_tree.specs.Nodes.{built}
use Rattle.up_tree.specs.Objects.{World, Assignment, assign, tuples}
use Rattle.semantics_laws.specs.Replaced.{Replacement, in_place, under, replaced_term, replaced_row, replaced_expr, replaced, replaced_members}
use Rattle.expansion_laws.specs.Expanded.{expanded, all_expanded}

-- ---- terms

-- a row with its shape
data Terms : Type 0 where
  terms_of : (n : List (Unit {0})) → Row_of-Term (arity (list (this {0})) n) → Terms

abbrev hidden_terms : List Term → Terms
hidden_terms ts = terms_of (terms.shape-the_row-Term-0 ts) (terms.hidden-the_row-Term-0 ts)

abbrev one_term_more : Term → Terms → Terms
one_term_more t (terms_of n row) = terms_of (tt ∷ n) (more_of-Term t row)

abbrev as_fluent : Name → Terms → Term
as_fluent f (terms_of n row) = Fluent' f n row

abbrev replaced_terms : Replacement → Terms → Terms
replaced_terms r (terms_of n row) = terms_of n (replaced_row r row)

hidden_term : (t : Term) (ts : List Term) → hidden_terms (t ∷ ts) ≡ one_term_more t (hidden_terms ts)
unfolding terms.hidden-the_row-Term-0 terms.shape-the_row-Term-0 Carrier.hidden
hidden_term t ts = refl

replaced_more : (r : Replacement) (t : Term) (row : Terms) → replaced_terms r (one_term_more t row) ≡ one_term_more (replaced_term r t) (replaced_terms r row)
unfolding replaced_row
replaced_more r t (terms_of n row) = refl

replaced_hidden : (r : Replacement) (ts : List Term) → replaced_terms r (hidden_terms ts) ≡ hidden_terms (map (replaced_term r) ts)
unfolding terms.hidden-the_row-Term-0 terms.shape-the_row-Term-0 Carrier.hidden replaced_row
replaced_hidden r [] = refl
replaced_hidden r (t ∷ ts) =
    ap (replaced_terms r) (hidden_term t ts) ∙ replaced_more r t (hidden_terms ts) ∙ ap (one_term_more (replaced_term r t)) (replaced_hidden r ts)
    ∙ sym (hidden_term (replaced_term r t) (map (replaced_term r) ts))

module _ (r : Replacement) where
  pub replaced-Var : (v : Name) → replaced_term r (Var v) ≡ in_place v (r v)
  unfolding replaced_term
  replaced-Var v = refl

  pub replaced-Object : (o : Name) → replaced_term r (Object o) ≡ Object o
  unfolding replaced_term
  replaced-Object o = refl

  pub replaced-Fluent : (f : Name) (ts : List Term) → replaced_term r (Fluent f ts) ≡ Fluent f (map (replaced_term r) ts)
  unfolding replaced_term
  replaced-Fluent f ts = ap (as_fluent f) (replaced_hidden r ts)

  -- ---- expressions

  pub replaced-Number : (n : Fraction) → replaced_expr r (Number n) ≡ Number n
  unfolding replaced_expr
  replaced-Number n = refl

  pub replaced-NumberTerm : (f : Name) (ts : List Term) → replaced_expr r (expr.Fluent f ts) ≡ expr.Fluent f (map (replaced_term r) ts)
  unfolding replaced_expr
  replaced-NumberTerm f ts = refl

  pub replaced-Sum : (a b : Expr) → replaced_expr r (Sum a b) ≡ Sum (replaced_expr r a) (replaced_expr r b)
  unfolding replaced_expr built
  replaced-Sum a b = refl

  pub replaced-Difference : (a b : Expr) → replaced_expr r (Difference a b) ≡ Difference (replaced_expr r a) (replaced_expr r b)
  unfolding replaced_expr built
  replaced-Difference a b = refl

  pub replaced-Product : (a b : Expr) → replaced_expr r (Product a b) ≡ Product (replaced_expr r a) (replaced_expr r b)
  unfolding replaced_expr built
  replaced-Product a b = refl

  pub replaced-Quotient : (a b : Expr) → replaced_expr r (Quotient a b) ≡ Quotient (replaced_expr r a) (replaced_expr r b)
  unfolding replaced_expr built
  replaced-Quotient a b = refl

-- ---- formulas

data Members : Type 0 where
  members_of : (n : List (Unit {0})) → Row_of-Formula (arity (list (this {0})) n) → Members

abbrev hidden_members : List Formula → Members
hidden_members fs = members_of (formulas.shape-the_row-Formula-0 fs) (formulas.hidden-the_row-Formula-0 fs)

abbrev one_member_more : Formula → Members → Members
one_member_more f (members_of n row) = members_of (tt ∷ n) (more_of-Formula f row)

abbrev as_and : Members → Formula
as_and (members_of n row) = And' n row

abbrev as_or : Members → Formula
as_or (members_of n row) = Or' n row

abbrev replaced_all : Replacement → Members → Members
replaced_all r (members_of n row) = members_of n (replaced_members r row)

hidden_member : (f : Formula) (fs : List Formula) → hidden_members (f ∷ fs) ≡ one_member_more f (hidden_members fs)
unfolding formulas.hidden-the_row-Formula-0 formulas.shape-the_row-Formula-0 Carrier.hidden
hidden_member f fs = refl

replaced_member : (r : Replacement) (f : Formula) (row : Members) → replaced_all r (one_member_more f row) ≡ one_member_more (replaced r f) (replaced_all r row)
unfolding replaced_members
replaced_member r f (members_of n row) = refl

replaced_members_hidden : (r : Replacement) (fs : List Formula) → replaced_all r (hidden_members fs) ≡ hidden_members (map (replaced r) fs)
unfolding formulas.hidden-the_row-Formula-0 formulas.shape-the_row-Formula-0 Carrier.hidden replaced_members
replaced_members_hidden r [] = refl
replaced_members_hidden r (f ∷ fs) =
    ap (replaced_all r) (hidden_member f fs) ∙ replaced_member r f (hidden_members fs) ∙ ap (one_member_more (replaced r f)) (replaced_members_hidden r fs)
    ∙ sym (hidden_member (replaced r f) (map (replaced r) fs))

module _ (r : Replacement) where
  pub replaced-And : (fs : List Formula) → replaced r (And fs) ≡ And (map (replaced r) fs)
  unfolding replaced
  replaced-And fs = ap as_and (replaced_members_hidden r fs)

  pub replaced-Or : (fs : List Formula) → replaced r (Or fs) ≡ Or (map (replaced r) fs)
  unfolding replaced
  replaced-Or fs = ap as_or (replaced_members_hidden r fs)

  pub replaced-Not : (f : Formula) → replaced r (Not f) ≡ Not (replaced r f)
  unfolding replaced built
  replaced-Not f = refl

  pub replaced-Imply : (f g : Formula) → replaced r (Imply f g) ≡ Imply (replaced r f) (replaced r g)
  unfolding replaced built
  replaced-Imply f g = refl

  pub replaced-Exists : (vars : List Typed) (f : Formula) → replaced r (Exists vars f) ≡ Exists vars (replaced (under vars r) f)
  unfolding replaced built
  replaced-Exists vars f = refl

  pub replaced-Forall : (vars : List Typed) (f : Formula) → replaced r (Forall vars f) ≡ Forall vars (replaced (under vars r) f)
  unfolding replaced built
  replaced-Forall vars f = refl

  pub replaced-Atom : (name : Name) (ts : List Term) → replaced r (Atom name ts) ≡ Atom name (map (replaced_term r) ts)
  unfolding replaced
  replaced-Atom name ts = refl

  pub replaced-Equal : (t u : Term) → replaced r (Equal t u) ≡ Equal (replaced_term r t) (replaced_term r u)
  unfolding replaced
  replaced-Equal t u = refl

  pub replaced-Compare : (relation : Relation) (a b : Expr) → replaced r (Compare relation a b) ≡ Compare relation (replaced_expr r a) (replaced_expr r b)
  unfolding replaced
  replaced-Compare relation a b = refl

pub ruleset substitutions = (replaced-Var, replaced-Object, replaced-Fluent, replaced-Number, replaced-NumberTerm, replaced-Sum, replaced-Difference, replaced-Product, replaced-Quotient, replaced-And, replaced-Or, replaced-Not, replaced-Imply, replaced-Exists, replaced-Forall, replaced-Atom, replaced-Equal, replaced-Compare)

-- ---- expansion

module _ (w : World) (e : Assignment) where
  all_expanded-items : {n : _} (fs : Row_of-Formula n) → all_expanded w e fs ≡ map (expanded w e) (items-the_row-Formula _ fs)
  unfolding all_expanded
  all_expanded-items end_of-Formula = refl
  all_expanded-items (more_of-Formula f fs) = ap (λ gs. expanded w e f ∷ gs) (all_expanded-items fs)

  all_expanded-list : (fs : List Formula) → all_expanded w e (formulas.hidden-the_row-Formula-0 fs) ≡ map (expanded w e) fs
  all_expanded-list fs = all_expanded-items (formulas.hidden-the_row-Formula-0 fs) ∙ ap (map (expanded w e)) (items_hidden-the_row-Formula-0 fs)

  pub expanded-And : (fs : List Formula) → expanded w e (And fs) ≡ And (map (expanded w e) fs)
  unfolding expanded
  expanded-And fs = ap And (all_expanded-list fs)

  pub expanded-Or : (fs : List Formula) → expanded w e (Or fs) ≡ Or (map (expanded w e) fs)
  unfolding expanded
  expanded-Or fs = ap Or (all_expanded-list fs)

  pub expanded-Not : (f : Formula) → expanded w e (Not f) ≡ Not (expanded w e f)
  unfolding expanded built
  expanded-Not f = refl

  pub expanded-Imply : (f g : Formula) → expanded w e (Imply f g) ≡ Imply (expanded w e f) (expanded w e g)
  unfolding expanded built
  expanded-Imply f g = refl

  pub expanded-Exists : (vars : List Typed) (f : Formula) → expanded w e (Exists vars f) ≡ Or (map (λ tuple. expanded w (assign vars tuple e) f) (tuples w vars))
  unfolding expanded built
  expanded-Exists vars f = refl

  pub expanded-Forall : (vars : List Typed) (f : Formula) → expanded w e (Forall vars f) ≡ And (map (λ tuple. expanded w (assign vars tuple e) f) (tuples w vars))
  unfolding expanded built
  expanded-Forall vars f = refl

  pub expanded-Atom : (name : Name) (ts : List Term) → expanded w e (Atom name ts) ≡ Atom name (map (replaced_term e) ts)
  unfolding expanded
  expanded-Atom name ts = refl

  pub expanded-Equal : (t u : Term) → expanded w e (Equal t u) ≡ Equal (replaced_term e t) (replaced_term e u)
  unfolding expanded
  expanded-Equal t u = refl

  pub expanded-Compare : (relation : Relation) (a b : Expr) → expanded w e (Compare relation a b) ≡ Compare relation (replaced_expr e a) (replaced_expr e b)
  unfolding expanded
  expanded-Compare relation a b = refl

pub ruleset expansions = (expanded-And, expanded-Or, expanded-Not, expanded-Imply, expanded-Exists, expanded-Forall, expanded-Atom, expanded-Equal, expanded-Compare)
