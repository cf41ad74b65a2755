-- Well-formed formulas and actions are assigned where their scope is.
use Rattle.std.proofs.Common.{◌≡◌, ℕ, suc, Bool, true, false, cond, true≢false, List, [], ◌∷◌, ◌++◌, map, length, Option, Some, IsSome, refl, ap, sym, subst, inl, inr, arith}
use Rattle.std.specs.Prelude.{if◌then◌else◌}
use Rattle.up_text.specs.declared.name.Name.{Name}
use Rattle.up_text.specs.Names.{same_name}
use Rattle.up_text.specs.Lists.{Every, Member}
use Rattle.up_tree.specs.declared.term.Term.{Term, Var, Object, Fluent'}
use Rattle.up_tree.specs.declared.term.Typed.{Typed}
use Rattle.up_tree.specs.declared.formula.Formula.{Formula, And', Or', Atom, Equal, Compare, Row_of-Formula, end_of-Formula, more_of-Formula}
use Rattle.up_tree.specs.declared.problem.Parts.{Parts}
use Rattle.up_tree.specs.Nodes.{not, imply, exists, forall}
use Rattle.up_tree.specs.Objects.{World, Assignment, named, bind, assign, unassigned, objects_of, tuples}
use Rattle.up_tree.specs.WellFormed.{IsTerm, IsFormula, AreFormulas, IsRow, IsAction}
use Rattle.semantics_laws.proofs.Lists.{each_as, each_map, each_flat_map, each_member}
use Rattle.condition_laws.specs.Assigned.{IsOfScope, HasObject, IsAssigned, AreAssigned, IsActionAssigned}
use Rattle.up_tree.specs.declared.action.Action.{Action}

pub at_member : {X : Type 0} (P : X → Type 0) (xs : List X) → Every P xs → (x : X) → Member x xs → P x
at_member P [] h x m = absurd m
at_member P (y ∷ ys) h x (inl e) = subst P (sym e) h.0
at_member P (y ∷ ys) h x (inr m) = at_member P ys h.1 x m

-- as many objects as variables
abbrev Fit : List Typed → List Name → Type 0
Fit vars objects = length objects ≡ length vars

all_fit : (w : World) (vars : List Typed) → Every (Fit vars) (tuples w vars)
all_fit w [] = (refl, tt)
all_fit w (v ∷ vars) =
    each_flat_map (Fit (v ∷ vars)) (λ o. map (λ rest. o ∷ rest) (tuples w vars)) (objects_of w v.of)
    (each_member _ (objects_of w v.of) (λ o m. each_map (Fit (v ∷ vars)) (λ rest. o ∷ rest) (tuples w vars)
    (each_as (Fit vars) _ (λ rest h. ap suc h) (tuples w vars) (all_fit w vars))))

bound_there : (b : Bool) (o : Name) (old : Option Name) → IsSome old → IsSome (if b then Some o else old)
bound_there true o old h = refl
bound_there false o old h = h

-- what was assigned stays so
stays : (vars : List Typed) (objects : List Name) (e : Assignment) (x : Name) → IsSome (e x) → IsSome (assign vars objects e x)
stays [] objects e x h = h
stays (v ∷ vars) [] e x h = h
stays (v ∷ vars) (o ∷ objects) e x h = stays vars objects (bind v.name o e) x (bound_there (same_name v.name x) o (e x) h)

-- so are the variables, and what is named behind them
at_variable : (vars scope : List Typed) (objects : List Name) (e : Assignment) (x : Name) → Fit vars objects →
    (IsSome (named scope x) → IsSome (e x)) → IsSome (named (vars ++ scope) x) → IsSome (assign vars objects e x)
at_variable [] scope objects e x fit h k = h k
at_variable (v ∷ vars) scope [] e x fit h k = absurd (no_length fit)
  where
    no_length : {n : ℕ} → 0 ≡ suc n → ⊥
    no_length e = cc
at_variable (v ∷ vars) scope (o ∷ objects) e x fit h k =
    by (same_name v.name x) refl k (at_variable vars scope objects (bind v.name o e) x (omega (arith, fit)))
  where
    bound : Bool → Option Name
    bound b = if b then Some o else e x

    by : (b : Bool) → same_name v.name x ≡ b → IsSome (cond b (Some v) (named (vars ++ scope) x)) →
        ((IsSome (named scope x) → IsSome (if same_name v.name x then Some o else e x)) → IsSome (named (vars ++ scope) x) → IsSome (assign vars objects (bind v.name o e) x)) →
        IsSome (assign vars objects (bind v.name o e) x)
    by true at k more = stays vars objects (bind v.name o e) x (subst (λ b. IsSome (if b then Some o else e x)) (sym at) refl)
    by false at k more = more (λ m. subst (λ b. IsSome (if b then Some o else e x)) (sym at) (h m)) k

pub of_scope : (vars scope : List Typed) (objects : List Name) (e : Assignment) → Fit vars objects → IsOfScope scope e → IsOfScope (vars ++ scope) (assign vars objects e)
of_scope vars scope objects e fit h x k = at_variable vars scope objects e x fit (h x) k

pub of_tuple : (w : World) (vars scope : List Typed) (e : Assignment) → IsOfScope scope e → (tuple : List Name) → Member tuple (tuples w vars) →
    IsOfScope (vars ++ scope) (assign vars tuple e)
of_tuple w vars scope e h tuple m = of_scope vars scope tuple e (at_member (Fit vars) (tuples w vars) (all_fit w vars) tuple m) h

of_term : (p : Parts) (objects scope : List Typed) (e : Assignment) → IsOfScope scope e → (t : Term) → IsTerm p objects scope t → HasObject e t
unfolding IsTerm
of_term p objects scope e h (Var v) k = h v k
of_term p objects scope e h (Object o) k = tt
of_term p objects scope e h (Fluent' f n ts) k = tt

mutual
  unfolding IsFormula AreFormulas IsAssigned AreAssigned

  pub is_assigned : (p : Parts) (objects scope : List Typed) (f : Formula) → IsFormula p objects scope f → (w : World) (e : Assignment) → IsOfScope scope e → IsAssigned w e f
  is_assigned p objects scope (And' n fs) h w e k = are_assigned p objects scope fs h w e k
  is_assigned p objects scope (Or' n fs) h w e k = are_assigned p objects scope fs h w e k
  is_assigned p objects scope (not f) h w e k = is_assigned p objects scope f h w e k
  is_assigned p objects scope (imply f g) h w e k = (is_assigned p objects scope f h.0 w e k, is_assigned p objects scope g h.1 w e k)
  is_assigned p objects scope (exists vars f) h w e k =
      λ tuple m. is_assigned p objects (vars ++ scope) f h.1 w (assign vars tuple e) (of_tuple w vars scope e k tuple m)
  is_assigned p objects scope (forall vars f) h w e k =
      λ tuple m. is_assigned p objects (vars ++ scope) f h.1 w (assign vars tuple e) (of_tuple w vars scope e k tuple m)
  is_assigned p objects scope (Atom name ts) h w e k = tt
  is_assigned p objects scope (Equal t u) h w e k = (of_term p objects scope e k t h.0, of_term p objects scope e k u h.1)
  is_assigned p objects scope (Compare r a b) h w e k = tt

  are_assigned : (p : Parts) (objects scope : List Typed) {n : _} (fs : Row_of-Formula n) → AreFormulas p objects scope fs → (w : World) (e : Assignment) → IsOfScope scope e →
      AreAssigned w e fs
  are_assigned p objects scope end_of-Formula h w e k = tt
  are_assigned p objects scope (more_of-Formula f fs) h w e k = (is_assigned p objects scope f h.0 w e k, are_assigned p objects scope fs h.1 w e k)

pub formulas_are_assigned : (p : Parts) (objects scope : List Typed) (f : Formula) → IsFormula p objects scope f →
    (w : World) (e : Assignment) → IsOfScope scope e → IsAssigned w e f
formulas_are_assigned = is_assigned

no_more : (vars : List Typed) → vars ++ [] ≡ vars
no_more [] = refl
no_more (v ∷ vars) = ap (λ vs. v ∷ vs) (no_more vars)

pub actions_are_assigned : (p : Parts) (a : Action) → IsAction p a → (w : World) (args : List Name) → length args ≡ length a.params → IsActionAssigned w a args
actions_are_assigned p a is w args fit =
    let params : IsOfScope a.params (assign a.params args unassigned) =
    subst (λ vars. IsOfScope vars (assign a.params args unassigned)) (no_more a.params) (of_scope a.params [] args unassigned fit (λ v h. absurd (true≢false (sym h))))
    in
    record {
      pre = is_assigned p _ a.params a.pre is.pre w (assign a.params args unassigned) params;
      rows = each_as (IsRow p _ a.params) _ (λ row h tuple m. is_assigned p _ (row.vars ++ a.params) row.when h.when w (assign row.vars tuple (assign a.params args unassigned))
          (of_tuple w row.vars a.params (assign a.params args unassigned) params tuple m)) a.rows is.rows;
    }
