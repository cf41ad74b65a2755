-- A replaced tree is under an assignment what the tree is under the assignment with the replaced variables' objects.
use Rattle.std.proofs.Common.{◌≡◌, Bool, true, false, ◌||◌, List, [], ◌∷◌, map, Option, Some, None, option_map, option_and_then, refl, ap, sym, ◌∙◌}
use Rattle.std.specs.Prelude.{⊤, if◌then◌else◌}
use Rattle.std.specs.Option.{option_or, is_some}
use Rattle.up_frac.specs.Arithmetic as fraction
use Rattle.up_text.specs.declared.name.Name.{Name}
use Rattle.up_text.specs.Names.{same_name}
use Rattle.up_text.specs.Lists.{Every}
use Rattle.up_tree.specs.declared.term.Typed.{Typed}
use Rattle.up_tree.specs.declared.term.Term.{Term, Var, Object, Fluent', Row_of-Term, end_of-Term, more_of-Term}
use Rattle.up_tree.specs.declared.expr.Expr.{Expr, Number, Fluent}
use Rattle.up_tree.specs.declared.formula.Formula.{Formula, And', Or', Atom, Equal, Compare, Row_of-Formula, end_of-Formula, more_of-Formula}
use Rattle.up_tree.specs.Nodes.{sum, difference, product, quotient, not, imply, exists, forall}
use Rattle.up_tree.specs.Objects.{World, Assignment, bind, assign, objects_of, tuples}
use Rattle.up_tree.specs.State.{State, ground, number_at, object_at}
use Rattle.up_tree.specs.Value.{with_both, term_value, row_values, values_of, ground_at, number}
use Rattle.up_tree.specs.Judged.{opposite, either, all_of, any_of, atom_truth, equal_truth, compare_truth, truth_of, truths_of}
use Rattle.semantics_laws.specs.Replaced.{Replacement, replacement, binds, under, in_place, replaced_term, replaced_row, replaced_expr, replaced, replaced_members, substituted_term, substituted_expr, substituted}
use Rattle.semantics_laws.proofs.Lists.{each_as, each_map, each_flat_map, each_member, same_map}
use Rattle.semantics_laws.proofs.Same.{same_truth}
use Rattle.semantics_laws.specs.SameTruth.{SameTruth}

-- the replaced variables' objects, over what is assigned
abbrev pub over : Replacement → Assignment → Assignment
over r e v = option_or (r v) (e v)

-- ---- assignment of a list is its replacement over what was assigned before

one_more : (r : Option Name) (b : Bool) (o : Name) (old : Option Name) →
    option_or r (if b then Some o else old) ≡ option_or (option_or r (if b then Some o else None)) old
one_more (Some x) b o old = refl
one_more None true o old = refl
one_more None false o old = refl

pub assign-is : (vars : List Typed) (objects : List Name) (e : Assignment) (v : Name) → assign vars objects e v ≡ over (replacement vars objects) e v
assign-is [] objects e v = refl
assign-is (x ∷ vars) [] e v = refl
assign-is (x ∷ vars) (o ∷ objects) e v =
    assign-is vars objects (bind x.name o e) v ∙ one_more (replacement vars objects v) (same_name x.name v) o (e v)

-- ---- under a quantifier

-- an object for each variable
abbrev pub Fits : List Typed → List Name → Type 0
Fits [] [] = ⊤
Fits [] (o ∷ objects) = ⊥
Fits (x ∷ vars) [] = ⊥
Fits (x ∷ vars) (o ∷ objects) = Fits vars objects

pub all_fit : (w : World) (vars : List Typed) → Every (Fits vars) (tuples w vars)
all_fit w [] = (tt, tt)
all_fit w (v ∷ vars) =
    each_flat_map (Fits (v ∷ vars)) (λ o. map (λ rest. o ∷ rest) (tuples w vars)) (objects_of w v.of)
    (each_member _ (objects_of w v.of) (λ o m. each_map (Fits (v ∷ vars)) (λ rest. o ∷ rest) (tuples w vars) (all_fit w vars)))

is_bound : (r : Option Name) (b here : Bool) (o : Name) → b ≡ is_some r → (here || b) ≡ is_some (option_or r (if here then Some o else None))
is_bound (Some x) b true o e = refl
is_bound (Some x) b false o e = e
is_bound None b true o e = refl
is_bound None b false o e = e

-- a bound variable is one that gets an object
pub binds-is : (vars : List Typed) (objects : List Name) (v : Name) → Fits vars objects → binds vars v ≡ is_some (replacement vars objects v)
binds-is [] [] v fits = refl
binds-is [] (o ∷ objects) v fits = absurd fits
binds-is (x ∷ vars) [] v fits = absurd fits
binds-is (x ∷ vars) (o ∷ objects) v fits =
    is_bound (replacement vars objects v) (binds vars v) (same_name x.name v) o (binds-is vars objects v fits)

bound_first : (bound : Option Name) (b : Bool) (r old : Option Name) → b ≡ is_some bound →
    option_or (if b then None else r) (option_or bound old) ≡ option_or bound (option_or r old)
bound_first (Some o) b r old e = ap (λ b. option_or (if b then None else r) (Some o)) e
bound_first None b r old e = ap (λ b. option_or (if b then None else r) old) e

-- what is bound anew isn't replaced
pub under-is : (vars : List Typed) (tuple : List Name) (r : Replacement) (e : Assignment) → Fits vars tuple →
    over (under vars r) (assign vars tuple e) ≡ assign vars tuple (over r e)
under-is vars tuple r e fits = λ i v. at v i
  where
    at : (v : Name) → over (under vars r) (assign vars tuple e) v ≡ assign vars tuple (over r e) v
    at v =
        ap (option_or (under vars r v)) (assign-is vars tuple e v)
        ∙ bound_first (replacement vars tuple v) (binds vars v) (r v) (e v) (binds-is vars tuple v fits)
        ∙ sym (assign-is vars tuple (over r e) v)

-- ---- terms and expressions

module _ (s : State) (e : Assignment) (r : Replacement) where
  of_variable : (v : Name) (o : Option Name) → term_value s e (in_place v o) ≡ option_or o (e v)
  unfolding term_value
  of_variable v None = refl
  of_variable v (Some o) = refl

mutual
  unfolding term_value row_values replaced_term replaced_row

  pub replaced_value : (s : State) (e : Assignment) (r : Replacement) (t : Term) → term_value s e (replaced_term r t) ≡ term_value s (over r e) t
  replaced_value s e r (Var v) = of_variable s e r v (r v)
  replaced_value s e r (Object o) = refl
  replaced_value s e r (Fluent' f n ts) = ap (option_and_then (λ objects. object_at s (ground f objects))) (replaced_row_values s e r ts)

  replaced_row_values : (s : State) (e : Assignment) (r : Replacement) {n : _} (ts : Row_of-Term n) → row_values s e (replaced_row r ts) ≡ row_values s (over r e) ts
  replaced_row_values s e r end_of-Term = refl
  replaced_row_values s e r (more_of-Term t ts) = λ i. with_both (λ o objects. Some (o ∷ objects)) (replaced_value s e r t i) (replaced_row_values s e r ts i)

pub replaced_values : (s : State) (e : Assignment) (r : Replacement) (ts : List Term) → values_of s e (map (replaced_term r) ts) ≡ values_of s (over r e) ts
replaced_values s e r [] = refl
replaced_values s e r (t ∷ ts) = λ i. with_both (λ o objects. Some (o ∷ objects)) (replaced_value s e r t i) (replaced_values s e r ts i)

pub replaced_ground : (s : State) (e : Assignment) (r : Replacement) (f : Name) (ts : List Term) → ground_at s e f (map (replaced_term r) ts) ≡ ground_at s (over r e) f ts
replaced_ground s e r f ts = ap (option_map (ground f)) (replaced_values s e r ts)

pub replaced_number : (s : State) (e : Assignment) (r : Replacement) (x : Expr) → number s e (replaced_expr r x) ≡ number s (over r e) x
unfolding number replaced_expr
replaced_number s e r (Number n) = refl
replaced_number s e r (Fluent f ts) = ap (option_and_then (number_at s)) (replaced_ground s e r f ts)
replaced_number s e r (sum a b) = λ i. with_both (λ x y. Some (fraction.sum x y)) (replaced_number s e r a i) (replaced_number s e r b i)
replaced_number s e r (difference a b) = λ i. with_both (λ x y. Some (fraction.difference x y)) (replaced_number s e r a i) (replaced_number s e r b i)
replaced_number s e r (product a b) = λ i. with_both (λ x y. Some (fraction.product x y)) (replaced_number s e r a i) (replaced_number s e r b i)
replaced_number s e r (quotient a b) = λ i. with_both fraction.quotient (replaced_number s e r a i) (replaced_number s e r b i)

-- ---- formulas

-- the truths at the tuples of a quantifier
quantified : (w : World) (s : State) (e : Assignment) (r : Replacement) (vars : List Typed) (f g : Formula) →
    ((d : Assignment) → truth_of w s d g ≡ truth_of w s (over (under vars r) d) f) →
    map (λ tuple. truth_of w s (assign vars tuple e) g) (tuples w vars) ≡ map (λ tuple. truth_of w s (assign vars tuple (over r e)) f) (tuples w vars)
quantified w s e r vars f g same =
    same_map (λ tuple. truth_of w s (assign vars tuple e) g) (λ tuple. truth_of w s (assign vars tuple (over r e)) f) (tuples w vars)
    (each_as (Fits vars) _ (λ tuple fits. same (assign vars tuple e) ∙ ap (λ d. truth_of w s d f) (under-is vars tuple r e fits)) (tuples w vars) (all_fit w vars))

mutual
  unfolding truth_of truths_of replaced replaced_members

  pub replaced_truth : (w : World) (s : State) (e : Assignment) (r : Replacement) (f : Formula) → truth_of w s e (replaced r f) ≡ truth_of w s (over r e) f
  replaced_truth w s e r (And' n fs) = ap all_of (replaced_truths w s e r fs)
  replaced_truth w s e r (Or' n fs) = ap any_of (replaced_truths w s e r fs)
  replaced_truth w s e r (not f) = ap opposite (replaced_truth w s e r f)
  replaced_truth w s e r (imply f g) = λ i. either (opposite (replaced_truth w s e r f i)) (replaced_truth w s e r g i)
  replaced_truth w s e r (exists vars f) = ap any_of (quantified w s e r vars f (replaced (under vars r) f) (λ d. replaced_truth w s d (under vars r) f))
  replaced_truth w s e r (forall vars f) = ap all_of (quantified w s e r vars f (replaced (under vars r) f) (λ d. replaced_truth w s d (under vars r) f))
  replaced_truth w s e r (Atom name ts) = ap (atom_truth s) (replaced_ground s e r name ts)
  replaced_truth w s e r (Equal t u) = λ i. equal_truth (replaced_value s e r t i) (replaced_value s e r u i)
  replaced_truth w s e r (Compare relation a b) = λ i. compare_truth relation (replaced_number s e r a i) (replaced_number s e r b i)

  replaced_truths : (w : World) (s : State) (e : Assignment) (r : Replacement) {n : _} (fs : Row_of-Formula n) →
      truths_of w s e (replaced_members r fs) ≡ truths_of w s (over r e) fs
  replaced_truths w s e r end_of-Formula = refl
  replaced_truths w s e r (more_of-Formula f fs) = λ i. replaced_truth w s e r f i ∷ replaced_truths w s e r fs i

-- ---- the laws

pub assigned : (vars : List Typed) (objects : List Name) (e : Assignment) → over (replacement vars objects) e ≡ assign vars objects e
assigned vars objects e = λ i v. sym (assign-is vars objects e v) i

pub terms_substitute : (s : State) (e : Assignment) (vars : List Typed) (objects : List Name) (t : Term) →
    term_value s e (substituted_term vars objects t) ≡ term_value s (assign vars objects e) t
terms_substitute s e vars objects t = replaced_value s e (replacement vars objects) t ∙ ap (λ d. term_value s d t) (assigned vars objects e)

pub exprs_substitute : (s : State) (e : Assignment) (vars : List Typed) (objects : List Name) (x : Expr) →
    number s e (substituted_expr vars objects x) ≡ number s (assign vars objects e) x
exprs_substitute s e vars objects x = replaced_number s e (replacement vars objects) x ∙ ap (λ d. number s d x) (assigned vars objects e)

pub formulas_substitute : (w : World) (s : State) (e : Assignment) (vars : List Typed) (objects : List Name) (f : Formula) →
    SameTruth w s e (substituted vars objects f) s (assign vars objects e) f
formulas_substitute w s e vars objects f =
    same_truth w s e (replaced (replacement vars objects) f) s (assign vars objects e) f
    (replaced_truth w s e (replacement vars objects) f ∙ ap (λ d. truth_of w s d f) (assigned vars objects e))
