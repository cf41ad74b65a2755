-- Terms, expressions and formulas are the same in states that agree on what they name.
use Rattle.std.proofs.Common.{◌≡◌, ◌↔◌, Bool, true, false, true≢false, List, [], ◌∷◌, map, Option, Some, None, option_map, option_and_then, IsTrue, refl, ap, sym, ◌∙◌, inl, inr}
use Rattle.std.specs.FinSet as set
use Rattle.up_frac.specs.Arithmetic as fraction
use Rattle.up_text.specs.declared.name.Name.{Name}
use Rattle.up_tree.specs.declared.term.Term.{Term, Var, Object, Fluent', Row_of-Term, end_of-Term, more_of-Term}
use Rattle.up_tree.specs.declared.expr.Expr.{Expr, Number, Fluent}
use Rattle.up_tree.specs.declared.formula.Formula.{Formula, And', Or', Atom, Equal, Compare, Row_of-Formula, end_of-Formula, more_of-Formula}
use Rattle.up_tree.specs.Nodes.{sum, difference, product, quotient, not, imply, exists, forall}
use Rattle.up_tree.specs.Objects.{World, Assignment, assign, tuples}
use Rattle.up_tree.specs.State.{State, ground, number_at, object_at}
use Rattle.up_tree.specs.Value.{with_both, term_value, row_values, values_of, ground_at, number}
use Rattle.up_tree.specs.Judged.{opposite, either, all_of, any_of, of_test, atom_truth, equal_truth, compare_truth, truth_of, truths_of}
use Rattle.semantics_laws.specs.Symbols.{Symbol, predicate, function, TermNames, ArgumentsName, TermsName, ExprNames, FormulaNames, MembersName, AgreeOn}
use Rattle.semantics_laws.proofs.Same.{same_truth}
use Rattle.semantics_laws.specs.SameTruth.{SameTruth}

-- tests that are true together are one
one_test : (b c : Bool) → IsTrue b ↔ IsTrue c → b ≡ c
one_test true true h = refl
one_test true false h = absurd (true≢false (sym (h.0 refl)))
one_test false true h = absurd (true≢false (sym (h.1 refl)))
one_test false false h = refl

module _ (Names : Symbol → Type 0) (s t : State) (agree : AgreeOn Names s t) where
  pub same_atom : (p : Name) → Names (predicate p) → (objects : List Name) → set.contains s.atoms (ground p objects) ≡ set.contains t.atoms (ground p objects)
  same_atom p named objects = one_test _ _ (agree.atoms p named objects)

  object_of : (f : Name) → Names (function f) → (v : Option (List Name)) →
      option_and_then (λ objects. object_at s (ground f objects)) v ≡ option_and_then (λ objects. object_at t (ground f objects)) v
  object_of f named None = refl
  object_of f named (Some objects) = agree.values f named objects

  number_of : (f : Name) → Names (function f) → (v : Option (List Name)) →
      option_and_then (number_at s) (option_map (ground f) v) ≡ option_and_then (number_at t) (option_map (ground f) v)
  number_of f named None = refl
  number_of f named (Some objects) = agree.numbers f named objects

  truth_at : (p : Name) → Names (predicate p) → (v : Option (List Name)) → atom_truth s (option_map (ground p) v) ≡ atom_truth t (option_map (ground p) v)
  truth_at p named None = refl
  truth_at p named (Some objects) = ap of_test (same_atom p named objects)

  -- ---- terms and expressions

  mutual
    unfolding term_value row_values TermNames ArgumentsName

    pub same_value : (e : Assignment) (u : Term) → ((x : Symbol) → TermNames u x → Names x) → term_value s e u ≡ term_value t e u
    same_value e (Var v) within = refl
    same_value e (Object o) within = refl
    same_value e (Fluent' f n us) within =
        ap (option_and_then (λ objects. object_at s (ground f objects))) (same_row e us (λ x h. within x (inr h)))
        ∙ object_of f (within (function f) (inl refl)) (row_values t e us)

    same_row : (e : Assignment) {n : _} (us : Row_of-Term n) → ((x : Symbol) → ArgumentsName us x → Names x) → row_values s e us ≡ row_values t e us
    same_row e end_of-Term within = refl
    same_row e (more_of-Term u us) within =
        λ i. with_both (λ o objects. Some (o ∷ objects)) (same_value e u (λ x h. within x (inl h)) i) (same_row e us (λ x h. within x (inr h)) i)

  pub same_values : (e : Assignment) (us : List Term) → ((x : Symbol) → TermsName us x → Names x) → values_of s e us ≡ values_of t e us
  same_values e [] within = refl
  same_values e (u ∷ us) within =
      λ i. with_both (λ o objects. Some (o ∷ objects)) (same_value e u (λ x h. within x (inl h)) i) (same_values e us (λ x h. within x (inr h)) i)

  pub same_ground : (e : Assignment) (f : Name) (us : List Term) → ((x : Symbol) → TermsName us x → Names x) → ground_at s e f us ≡ ground_at t e f us
  same_ground e f us within = ap (option_map (ground f)) (same_values e us within)

  pub same_number : (e : Assignment) (x : Expr) → ((y : Symbol) → ExprNames x y → Names y) → number s e x ≡ number t e x
  unfolding number ExprNames
  same_number e (Number n) within = refl
  same_number e (Fluent f us) within =
      ap (option_and_then (number_at s)) (same_ground e f us (λ y h. within y (inr h)))
      ∙ number_of f (within (function f) (inl refl)) (values_of t e us)
  same_number e (sum a b) within = λ i. with_both (λ x y. Some (fraction.sum x y)) (same_number e a (λ y h. within y (inl h)) i) (same_number e b (λ y h. within y (inr h)) i)
  same_number e (difference a b) within =
      λ i. with_both (λ x y. Some (fraction.difference x y)) (same_number e a (λ y h. within y (inl h)) i) (same_number e b (λ y h. within y (inr h)) i)
  same_number e (product a b) within =
      λ i. with_both (λ x y. Some (fraction.product x y)) (same_number e a (λ y h. within y (inl h)) i) (same_number e b (λ y h. within y (inr h)) i)
  same_number e (quotient a b) within = λ i. with_both fraction.quotient (same_number e a (λ y h. within y (inl h)) i) (same_number e b (λ y h. within y (inr h)) i)

  -- ---- formulas

  mutual
    unfolding truth_of truths_of FormulaNames MembersName

    pub same_judged : (w : World) (e : Assignment) (f : Formula) → ((x : Symbol) → FormulaNames f x → Names x) → truth_of w s e f ≡ truth_of w t e f
    same_judged w e (And' n fs) within = ap all_of (same_members w e fs within)
    same_judged w e (Or' n fs) within = ap any_of (same_members w e fs within)
    same_judged w e (not f) within = ap opposite (same_judged w e f within)
    same_judged w e (imply f g) within =
        λ i. either (opposite (same_judged w e f (λ x h. within x (inl h)) i)) (same_judged w e g (λ x h. within x (inr h)) i)
    same_judged w e (exists vars f) within = λ i. any_of (map (λ tuple. same_judged w (assign vars tuple e) f within i) (tuples w vars))
    same_judged w e (forall vars f) within = λ i. all_of (map (λ tuple. same_judged w (assign vars tuple e) f within i) (tuples w vars))
    same_judged w e (Atom name us) within =
        ap (atom_truth s) (same_ground e name us (λ x h. within x (inr h))) ∙ truth_at name (within (predicate name) (inl refl)) (values_of t e us)
    same_judged w e (Equal u v) within = λ i. equal_truth (same_value e u (λ x h. within x (inl h)) i) (same_value e v (λ x h. within x (inr h)) i)
    same_judged w e (Compare r a b) within = λ i. compare_truth r (same_number e a (λ x h. within x (inl h)) i) (same_number e b (λ x h. within x (inr h)) i)

    same_members : (w : World) (e : Assignment) {n : _} (fs : Row_of-Formula n) → ((x : Symbol) → MembersName fs x → Names x) → truths_of w s e fs ≡ truths_of w t e fs
    same_members w e end_of-Formula within = refl
    same_members w e (more_of-Formula f fs) within = λ i. same_judged w e f (λ x h. within x (inl h)) i ∷ same_members w e fs (λ x h. within x (inr h)) i

-- ---- the laws

pub terms_depend : (s t : State) (e : Assignment) (u : Term) → AgreeOn (TermNames u) s t → term_value s e u ≡ term_value t e u
terms_depend s t e u agree = same_value (TermNames u) s t agree e u (λ x h. h)

pub exprs_depend : (s t : State) (e : Assignment) (x : Expr) → AgreeOn (ExprNames x) s t → number s e x ≡ number t e x
exprs_depend s t e x agree = same_number (ExprNames x) s t agree e x (λ y h. h)

pub formulas_depend : (w : World) (s t : State) (e : Assignment) (f : Formula) → AgreeOn (FormulaNames f) s t → SameTruth w s e f t e f
formulas_depend w s t e f agree = same_truth w s e f t e f (same_judged (FormulaNames f) s t agree w e f (λ x h. h))
