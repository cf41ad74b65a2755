-- A renamed formula is as true as the formula.
use Rattle.std.proofs.Common.{◌≡◌, Bool, true, false, List, [], ◌∷◌, map, Some, option_map, option_and_then, refl, ap, sym, ◌∙◌}
use Rattle.std.specs.Prelude.{if◌then◌else◌}
use Rattle.std.specs.List.{flat_map}
use Rattle.std.specs.Cmp.Lexicographic.{bytes_decides}
use Rattle.up_frac.specs.Arithmetic as fraction
use Rattle.up_text.specs.declared.name.Name.{Name}
use Rattle.up_text.specs.Names.{same_name}
use Rattle.up_text.specs.Lists.{Every}
use Rattle.up_tree.specs.declared.term.Typed.{Typed}
use Rattle.up_tree.specs.declared.term.Term.{Term, Var, Object, Fluent', Row_of-Term, end_of-Term, more_of-Term}
use Rattle.up_tree.specs.declared.expr.Expr.{Expr, Number, Fluent}
use Rattle.up_tree.specs.declared.formula.Formula.{Formula, And', Or', Atom, Equal, Compare, Row_of-Formula, end_of-Formula, more_of-Formula}
use Rattle.up_tree.specs.Nodes.{sum, difference, product, quotient, not, imply, exists, forall}
use Rattle.up_tree.specs.Objects.{World, Assignment, bind, assign, objects_of, tuples}
use Rattle.up_tree.specs.State.{State, ground, number_at, object_at}
use Rattle.up_tree.specs.Value.{with_both, term_value, row_values, values_of, ground_at, number}
use Rattle.up_tree.specs.Judged.{opposite, either, all_of, any_of, atom_truth, equal_truth, compare_truth, truth_of, truths_of}
use Rattle.semantics_laws.proofs.Same.{same_truth}
use Rattle.expansion_laws.specs.Renamed.{new_name, renamed_variables, renamed_term, renamed_row, renamed_expr, renamed, renamed_members, TermLacks, RowLacks, ExprLacks, Lacks, AllLack}
use Rattle.semantics_laws.specs.SameTruth.{SameTruth}

pub test_of : (a b : Name) → (a ≡ b → ⊥) → same_name a b ≡ false
test_of a b apart = by (same_name a b) refl
  where
    by : (t : Bool) → same_name a b ≡ t → t ≡ false
    by true is = absurd (apart ((bytes_decides a b).0 is))
    by false is = refl

pub differ_as : (a b : Name) → same_name a b ≡ false → a ≡ b → ⊥
differ_as a b is e = let no : false ≡ true = sym is ∙ (bytes_decides a b).1 e in cc

module _ (from to : Name) where
  -- two names other than the new one are the same after renaming where they were before
  same_renamed : (x v : Name) → (x ≡ to → ⊥) → (v ≡ to → ⊥) → same_name (new_name from to x) (new_name from to v) ≡ same_name x v
  same_renamed x v not_x not_v = by (same_name x from) refl (same_name v from) refl
    where
      by : (a : Bool) → same_name x from ≡ a → (b : Bool) → same_name v from ≡ b → same_name (if a then to else x) (if b then to else v) ≡ same_name x v
      by true is true at = (bytes_decides to to).1 refl ∙ sym ((bytes_decides x v).1 ((bytes_decides x from).0 is ∙ sym ((bytes_decides v from).0 at)))
      by true is false at =
          test_of to v (λ e. not_v (sym e)) ∙ sym (test_of x v (λ e. differ_as v from at (sym e ∙ (bytes_decides x from).0 is)))
      by false is true at = test_of x to not_x ∙ sym (test_of x v (λ e. differ_as x from is (e ∙ (bytes_decides v from).0 at)))
      by false is false at = refl

  -- the second assignment has under the new name what the first has under the old one
  abbrev Follows : Assignment → Assignment → Type 0
  Follows d e = (v : Name) → (v ≡ to → ⊥) → e (new_name from to v) ≡ d v

  bind_follows : (x : Typed) (o : Name) (d e : Assignment) → (x.name ≡ to → ⊥) → Follows d e → Follows (bind x.name o d) (bind (new_name from to x.name) o e)
  bind_follows x o d e not_x follows v not_v = λ i. if same_renamed x.name v not_x not_v i then Some o else follows v not_v i

  assign_follows : (vars : List Typed) (tuple : List Name) (d e : Assignment) → Every (λ (x : Typed). ¬ (x.name ≡ to)) vars → Follows d e →
      Follows (assign vars tuple d) (assign (renamed_variables from to vars) tuple e)
  assign_follows [] tuple d e each follows = follows
  assign_follows (x ∷ vars) [] d e each follows = follows
  assign_follows (x ∷ vars) (o ∷ tuple) d e each follows =
      assign_follows vars tuple (bind x.name o d) (bind (new_name from to x.name) o e) each.1 (bind_follows x o d e each.0 follows)

  same_tuples : (w : World) (vars : List Typed) → tuples w (renamed_variables from to vars) ≡ tuples w vars
  same_tuples w [] = refl
  same_tuples w (x ∷ vars) = ap (λ rests. flat_map (λ o. map (λ rest. o ∷ rest) rests) (objects_of w x.of)) (same_tuples w vars)

  module _ (s : State) where
    mutual
      unfolding term_value row_values renamed_term renamed_row TermLacks RowLacks

      same_term : (d e : Assignment) → Follows d e → (t : Term) → TermLacks to t → term_value s e (renamed_term from to t) ≡ term_value s d t
      same_term d e follows (Var v) lacks = follows v lacks
      same_term d e follows (Object o) lacks = refl
      same_term d e follows (Fluent' f n ts) lacks = ap (option_and_then (λ os. object_at s (ground f os))) (same_row d e follows ts lacks)

      same_row : (d e : Assignment) → Follows d e → {n : _} (ts : Row_of-Term n) → RowLacks to ts → row_values s e (renamed_row from to ts) ≡ row_values s d ts
      same_row d e follows end_of-Term lacks = refl
      same_row d e follows (more_of-Term t ts) lacks = λ i. with_both (λ o os. Some (o ∷ os)) (same_term d e follows t lacks.0 i) (same_row d e follows ts lacks.1 i)

    same_terms : (d e : Assignment) → Follows d e → (ts : List Term) → Every (TermLacks to) ts → values_of s e (map (renamed_term from to) ts) ≡ values_of s d ts
    same_terms d e follows [] lacks = refl
    same_terms d e follows (t ∷ ts) lacks = λ i. with_both (λ o os. Some (o ∷ os)) (same_term d e follows t lacks.0 i) (same_terms d e follows ts lacks.1 i)

    same_ground : (d e : Assignment) → Follows d e → (f : Name) (ts : List Term) → Every (TermLacks to) ts → ground_at s e f (map (renamed_term from to) ts) ≡ ground_at s d f ts
    same_ground d e follows f ts lacks = ap (option_map (ground f)) (same_terms d e follows ts lacks)

    same_number : (d e : Assignment) → Follows d e → (x : Expr) → ExprLacks to x → number s e (renamed_expr from to x) ≡ number s d x
    unfolding number renamed_expr ExprLacks
    same_number d e follows (Number n) lacks = refl
    same_number d e follows (Fluent f ts) lacks = ap (option_and_then (number_at s)) (same_ground d e follows f ts lacks)
    same_number d e follows (sum a b) lacks = λ i. with_both (λ x y. Some (fraction.sum x y)) (same_number d e follows a lacks.0 i) (same_number d e follows b lacks.1 i)
    same_number d e follows (difference a b) lacks = λ i. with_both (λ x y. Some (fraction.difference x y)) (same_number d e follows a lacks.0 i) (same_number d e follows b lacks.1 i)
    same_number d e follows (product a b) lacks = λ i. with_both (λ x y. Some (fraction.product x y)) (same_number d e follows a lacks.0 i) (same_number d e follows b lacks.1 i)
    same_number d e follows (quotient a b) lacks = λ i. with_both fraction.quotient (same_number d e follows a lacks.0 i) (same_number d e follows b lacks.1 i)

    module _ (w : World) where
      mutual
        unfolding truth_of truths_of renamed renamed_members Lacks AllLack

        pub same_judged : (d e : Assignment) → Follows d e → (f : Formula) → Lacks to f → truth_of w s e (renamed from to f) ≡ truth_of w s d f
        same_judged d e follows (And' n fs) lacks = ap all_of (same_members d e follows fs lacks)
        same_judged d e follows (Or' n fs) lacks = ap any_of (same_members d e follows fs lacks)
        same_judged d e follows (not f) lacks = ap opposite (same_judged d e follows f lacks)
        same_judged d e follows (imply f g) lacks = λ i. either (opposite (same_judged d e follows f lacks.0 i)) (same_judged d e follows g lacks.1 i)
        same_judged d e follows (exists vars f) lacks =
            λ i. any_of (map (λ tuple. same_judged (assign vars tuple d) (assign (renamed_variables from to vars) tuple e) (assign_follows vars tuple d e lacks.0 follows) f lacks.1 i) (same_tuples w vars i))
        same_judged d e follows (forall vars f) lacks =
            λ i. all_of (map (λ tuple. same_judged (assign vars tuple d) (assign (renamed_variables from to vars) tuple e) (assign_follows vars tuple d e lacks.0 follows) f lacks.1 i) (same_tuples w vars i))
        same_judged d e follows (Atom name ts) lacks = ap (atom_truth s) (same_ground d e follows name ts lacks)
        same_judged d e follows (Equal t u) lacks = λ i. equal_truth (same_term d e follows t lacks.0 i) (same_term d e follows u lacks.1 i)
        same_judged d e follows (Compare r a b) lacks = λ i. compare_truth r (same_number d e follows a lacks.0 i) (same_number d e follows b lacks.1 i)

        same_members : (d e : Assignment) → Follows d e → {n : _} (fs : Row_of-Formula n) → AllLack to fs → truths_of w s e (renamed_members from to fs) ≡ truths_of w s d fs
        same_members d e follows end_of-Formula lacks = refl
        same_members d e follows (more_of-Formula f fs) lacks = λ i. same_judged d e follows f lacks.0 i ∷ same_members d e follows fs lacks.1 i

pub renamed_keeps : (w : World) (s : State) (from to : Name) (f : Formula) → Lacks to f → (e : Assignment) →
    SameTruth w s e (renamed from to f) s (λ v. e (new_name from to v)) f
renamed_keeps w s from to f lacks e =
    same_truth w s e (renamed from to f) s (λ v. e (new_name from to v)) f (same_judged from to s w (λ v. e (new_name from to v)) e (λ v not_v. refl) f lacks)
