-- Whether a formula names a predicate is computed, at each node as code builds it.
use Rattle.std.proofs.Common.{◌≡◌, ◌⊎◌, ◌↔◌, Bool, true, false, true≢false, ◌||◌, List, [], ◌∷◌, IsTrue, refl, ap, sym, ◌∙◌, inl, inr, ⊎_elim}
use Rattle.std.specs.Cmp.Lexicographic.{bytes_decides}
use Rattle.std.specs.List.{list_any}
use Rattle.up_text.specs.declared.name.Name.{Name}
use Rattle.up_text.specs.Names.{same_name}
use Rattle.up_tree.specs.declared.term.Term.{Term, Var, Object, Fluent', Row_of-Term, end_of-Term, more_of-Term}
use Rattle.up_tree.specs.declared.term.Typed.{Typed}
use Rattle.up_tree.specs.declared.expr.Expr.{Expr, Number, Fluent}
use Rattle.up_tree.specs.declared.formula.Relation.{Relation}
use Rattle.up_tree.specs.declared.formula.Formula.{Formula, And, And', Or, Or', Not, Imply, Exists, Forall, Atom, Equal, Compare, Row_of-Formula, end_of-Formula, more_of-Formula, items-the_row-Formula, items_hidden-the_row-Formula-0}
use Rattle.up_tree.specs.declared.formula.Formula.TheBlock.{hidden-the_row-Formula-0}
use Rattle.up_tree.specs.Nodes.{built, sum, difference, product, quotient, not, imply, exists, forall}
use Rattle.semantics_laws.specs.Symbols.{predicate, function, TermNames, ArgumentsName, TermsName, ExprNames, FormulaNames, MembersName}
use Rattle.semantics_laws.specs.Named.{is_named, is_named_in}

-- ---- terms and expressions name no predicate

apart : (p f : Name) → predicate p ≡ function f → ⊥
apart p f e = cc

mutual
  unfolding TermNames ArgumentsName

  in_term : (p : Name) (t : Term) → TermNames t (predicate p) → ⊥
  in_term p (Var v) h = h
  in_term p (Object o) h = h
  in_term p (Fluent' f n ts) h = ⊎_elim (apart p f) (in_arguments p ts) h

  in_arguments : (p : Name) {n : _} (ts : Row_of-Term n) → ArgumentsName ts (predicate p) → ⊥
  in_arguments p end_of-Term h = h
  in_arguments p (more_of-Term t ts) h = ⊎_elim (in_term p t) (in_arguments p ts) h

in_terms : (p : Name) (ts : List Term) → TermsName ts (predicate p) → ⊥
in_terms p [] h = h
in_terms p (t ∷ ts) h = ⊎_elim (in_term p t) (in_terms p ts) h

in_expr : (p : Name) (x : Expr) → ExprNames x (predicate p) → ⊥
unfolding ExprNames
in_expr p (Number n) h = h
in_expr p (Fluent f ts) h = ⊎_elim (apart p f) (in_terms p ts) h
in_expr p (sum a b) h = ⊎_elim (in_expr p a) (in_expr p b) h
in_expr p (difference a b) h = ⊎_elim (in_expr p a) (in_expr p b) h
in_expr p (product a b) h = ⊎_elim (in_expr p a) (in_expr p b) h
in_expr p (quotient a b) h = ⊎_elim (in_expr p a) (in_expr p b) h

-- ---- what is computed is what is named

never : {A : Type 0} → ¬ A → IsTrue false ↔ A
never n = (λ e. absurd (true≢false (sym e)), λ a. absurd (n a))

either_named : {A B : Type 0} (b c : Bool) → IsTrue b ↔ A → IsTrue c ↔ B → IsTrue (b || c) ↔ (A ⊎ B)
either_named true c f g = (λ e. inl (f.0 refl), λ h. refl)
either_named false c f g = (λ e. inr (g.0 e), ⊎_elim (λ a. absurd (true≢false (sym (f.1 a)))) g.1)

is_name : (name p : Name) → predicate p ≡ predicate name → name ≡ p
is_name name p e = cc

atom_named : (name p : Name) (ts : List Term) → IsTrue (same_name name p) ↔ ((predicate p ≡ predicate name) ⊎ TermsName ts (predicate p))
atom_named name p ts =
    (λ e. inl (ap predicate (sym ((bytes_decides name p).0 e))), ⊎_elim (λ e. (bytes_decides name p).1 (is_name name p e)) (λ h. absurd (in_terms p ts h)))

mutual
  unfolding FormulaNames MembersName is_named is_named_in

  pub named-is : (f : Formula) (p : Name) → IsTrue (is_named f p) ↔ FormulaNames f (predicate p)
  named-is (And' n fs) p = named_in-is fs p
  named-is (Or' n fs) p = named_in-is fs p
  named-is (not f) p = named-is f p
  named-is (imply f g) p = either_named (is_named f p) (is_named g p) (named-is f p) (named-is g p)
  named-is (exists vars f) p = named-is f p
  named-is (forall vars f) p = named-is f p
  named-is (Atom name ts) p = atom_named name p ts
  named-is (Equal t u) p = never (⊎_elim (in_term p t) (in_term p u))
  named-is (Compare r a b) p = never (⊎_elim (in_expr p a) (in_expr p b))

  named_in-is : {n : _} (fs : Row_of-Formula n) (p : Name) → IsTrue (is_named_in fs p) ↔ MembersName fs (predicate p)
  named_in-is end_of-Formula p = never (λ h. h)
  named_in-is (more_of-Formula f fs) p = either_named (is_named f p) (is_named_in fs p) (named-is f p) (named_in-is fs p)

-- ---- at each node as code builds it

named_in-items : {n : _} (fs : Row_of-Formula n) (p : Name) → is_named_in fs p ≡ list_any (λ f. is_named f p) (items-the_row-Formula _ fs)
unfolding is_named_in
named_in-items end_of-Formula p = refl
named_in-items (more_of-Formula f fs) p = ap (λ b. is_named f p || b) (named_in-items fs p)

pub named-And : (fs : List Formula) (p : Name) → is_named (And fs) p ≡ list_any (λ f. is_named f p) fs
unfolding is_named
named-And fs p = named_in-items (hidden-the_row-Formula-0 fs) p ∙ ap (list_any (λ f. is_named f p)) (items_hidden-the_row-Formula-0 fs)

pub named-Or : (fs : List Formula) (p : Name) → is_named (Or fs) p ≡ list_any (λ f. is_named f p) fs
unfolding is_named
named-Or fs p = named_in-items (hidden-the_row-Formula-0 fs) p ∙ ap (list_any (λ f. is_named f p)) (items_hidden-the_row-Formula-0 fs)

pub named-Not : (f : Formula) (p : Name) → is_named (Not f) p ≡ is_named f p
unfolding is_named built
named-Not f p = refl

pub named-Imply : (f g : Formula) (p : Name) → is_named (Imply f g) p ≡ (is_named f p || is_named g p)
unfolding is_named built
named-Imply f g p = refl

pub named-Exists : (vars : List Typed) (f : Formula) (p : Name) → is_named (Exists vars f) p ≡ is_named f p
unfolding is_named built
named-Exists vars f p = refl

pub named-Forall : (vars : List Typed) (f : Formula) (p : Name) → is_named (Forall vars f) p ≡ is_named f p
unfolding is_named built
named-Forall vars f p = refl

pub named-Atom : (name : Name) (ts : List Term) (p : Name) → is_named (Atom name ts) p ≡ same_name name p
unfolding is_named
named-Atom name ts p = refl

pub named-Equal : (t u : Term) (p : Name) → is_named (Equal t u) p ≡ false
unfolding is_named
named-Equal t u p = refl

pub named-Compare : (r : Relation) (a b : Expr) (p : Name) → is_named (Compare r a b) p ≡ false
unfolding is_named
named-Compare r a b p = refl

pub ruleset named = (named-And, named-Or, named-Not, named-Imply, named-Exists, named-Forall, named-Atom, named-Equal, named-Compare)
