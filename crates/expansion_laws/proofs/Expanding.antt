-- An expanded tree comes to what the tree comes to.
use Rattle.std.proofs.Common.{◌≡◌, ◌↔◌, Bool, true, false, List, [], ◌∷◌, map, Option, Some, None, refl, ap, sym, ◌∙◌}
use Rattle.std.specs.Prelude.{if◌then◌else◌}
use Rattle.std.specs.List.{flat_map}
use Rattle.std.specs.Option.{option_or}
use Rattle.up_text.specs.declared.name.Name.{Name}
use Rattle.up_text.specs.Names.{same_name}
use Rattle.up_tree.specs.declared.term.Typed.{Typed}
use Rattle.up_tree.specs.declared.term.Term.{Term, Var, Object, Fluent', Row_of-Term, end_of-Term, more_of-Term}
use Rattle.up_tree.specs.declared.expr.Expr.{Expr, Number, Fluent}
use Rattle.up_tree.specs.declared.formula.Formula.{Formula, And, And', Or, Or', Atom, Equal, Compare, Row_of-Formula, end_of-Formula, more_of-Formula}
use Rattle.up_tree.specs.declared.action.Row.{Row}
use Rattle.up_tree.specs.Nodes.{sum, difference, product, quotient, not, imply, exists, forall}
use Rattle.up_tree.specs.Objects.{World, Assignment, bind, assign, unassigned, tuples}
use Rattle.up_tree.specs.State.{State}
use Rattle.up_tree.specs.Judged.{opposite, either, all_of, any_of, atom_truth, equal_truth, compare_truth, truth_of, truths_of}
use Rattle.up_tree.specs.Instances.{Instance, action_assignment, row_instances}
use Rattle.semantics_laws.specs.Replaced.{Replacement, under, in_place, replaced_term, replaced_row, replaced_expr, replaced, replaced_members}
use Rattle.semantics_laws.proofs.Lists.{each_as, same_map}
use Rattle.semantics_laws.proofs.Replacing.{Fits, all_fit, under-is, replaced_value, replaced_ground, replaced_number}
use Rattle.expansion_laws.specs.Outcomes.{deed, outcome}
use Rattle.expansion_laws.specs.Expanded.{over, expanded, all_expanded, row_at, row_expanded, action_expanded}
use Rattle.expansion_laws.proofs.Lists.{map_of_map, map_of_flat, flat_of_flat, flat_of_ones, same_flat}
use Rattle.expansion_laws.proofs.Truths.{true_together, false_together, truth_of-And, truth_of-Or}
use Rattle.expansion_laws.proofs.Doing.{same_doing}
use Rattle.expansion_laws.proofs.Substituting.{replaced_deed}
use Rattle.expansion_laws.specs.Kept.{ExpansionKeeps}
use Rattle.up_tree.specs.declared.action.Action.{Action}
use Rattle.expansion_laws.specs.SameDoing.{SameDoing}

-- ---- assignment over assignment

bind_over : (x o : Name) (e d : Assignment) → over (bind x o e) d ≡ bind x o (over e d)
bind_over x o e d = λ i v. by v (same_name x v) i
  where
    by : (v : Name) (b : Bool) → option_or (if b then Some o else e v) (d v) ≡ (if b then Some o else option_or (e v) (d v))
    by v true = refl
    by v false = refl

pub assign_over : (vars : List Typed) (tuple : List Name) (e d : Assignment) → over (assign vars tuple e) d ≡ assign vars tuple (over e d)
assign_over [] tuple e d = refl
assign_over (x ∷ vars) [] e d = refl
assign_over (x ∷ vars) (o ∷ tuple) e d = assign_over vars tuple (bind x.name o e) d ∙ ap (assign vars tuple) (bind_over x.name o e d)

-- ---- truth

mutual
  unfolding truth_of truths_of expanded all_expanded

  pub expanded_truth : (w v : World) (s : State) (e d : Assignment) (f : Formula) → truth_of v s d (expanded w e f) ≡ truth_of w s (over e d) f
  expanded_truth w v s e d (And' n fs) = truth_of-And v s d (all_expanded w e fs) ∙ ap all_of (expanded_truths w v s e d fs)
  expanded_truth w v s e d (Or' n fs) = truth_of-Or v s d (all_expanded w e fs) ∙ ap any_of (expanded_truths w v s e d fs)
  expanded_truth w v s e d (not f) = ap opposite (expanded_truth w v s e d f)
  expanded_truth w v s e d (imply f g) = λ i. either (opposite (expanded_truth w v s e d f i)) (expanded_truth w v s e d g i)
  expanded_truth w v s e d (exists vars f) =
      truth_of-Or v s d (map (λ tuple. expanded w (assign vars tuple e) f) (tuples w vars))
      ∙ ap any_of (map_of_map (truth_of v s d) (λ tuple. expanded w (assign vars tuple e) f) (tuples w vars)
      ∙ (λ i. map (λ tuple. (expanded_truth w v s (assign vars tuple e) d f ∙ ap (λ d. truth_of w s d f) (assign_over vars tuple e d)) i) (tuples w vars)))
  expanded_truth w v s e d (forall vars f) =
      truth_of-And v s d (map (λ tuple. expanded w (assign vars tuple e) f) (tuples w vars))
      ∙ ap all_of (map_of_map (truth_of v s d) (λ tuple. expanded w (assign vars tuple e) f) (tuples w vars)
      ∙ (λ i. map (λ tuple. (expanded_truth w v s (assign vars tuple e) d f ∙ ap (λ d. truth_of w s d f) (assign_over vars tuple e d)) i) (tuples w vars)))
  expanded_truth w v s e d (Atom name ts) = ap (atom_truth s) (replaced_ground s d e name ts)
  expanded_truth w v s e d (Equal t u) = λ i. equal_truth (replaced_value s d e t i) (replaced_value s d e u i)
  expanded_truth w v s e d (Compare relation a b) = λ i. compare_truth relation (replaced_number s d e a i) (replaced_number s d e b i)

  expanded_truths : (w v : World) (s : State) (e d : Assignment) {n : _} (fs : Row_of-Formula n) →
      map (truth_of v s d) (all_expanded w e fs) ≡ truths_of w s (over e d) fs
  expanded_truths w v s e d end_of-Formula = refl
  expanded_truths w v s e d (more_of-Formula f fs) = λ i. expanded_truth w v s e d f i ∷ expanded_truths w v s e d fs i

pub formulas_expand : (w : World) (e : Assignment) (f : Formula) → ExpansionKeeps w e f
formulas_expand w e f = record {
  true_where = λ v s d. true_together v d (expanded w e f) w (over e d) f s (expanded_truth w v s e d f);
  false_where = λ v s d. false_together v d (expanded w e f) w (over e d) f s (expanded_truth w v s e d f);
}

-- ---- what is replaced before

variable_twice : (e : Assignment) (v : Name) (o : Option Name) → replaced_term e (in_place v o) ≡ in_place v (option_or o (e v))
unfolding replaced_term
variable_twice e v None = refl
variable_twice e v (Some o) = refl

mutual
  unfolding replaced_term replaced_row

  term_twice : (r : Replacement) (e : Assignment) (t : Term) → replaced_term e (replaced_term r t) ≡ replaced_term (over r e) t
  term_twice r e (Var v) = variable_twice e v (r v)
  term_twice r e (Object o) = refl
  term_twice r e (Fluent' f n ts) = ap (Fluent' f n) (row_twice r e ts)

  row_twice : (r : Replacement) (e : Assignment) {n : _} (ts : Row_of-Term n) → replaced_row e (replaced_row r ts) ≡ replaced_row (over r e) ts
  row_twice r e end_of-Term = refl
  row_twice r e (more_of-Term t ts) = λ i. more_of-Term (term_twice r e t i) (row_twice r e ts i)

terms_twice : (r : Replacement) (e : Assignment) (ts : List Term) → map (replaced_term e) (map (replaced_term r) ts) ≡ map (replaced_term (over r e)) ts
terms_twice r e ts = map_of_map (replaced_term e) (replaced_term r) ts ∙ (λ i. map (λ t. term_twice r e t i) ts)

expr_twice : (r : Replacement) (e : Assignment) (x : Expr) → replaced_expr e (replaced_expr r x) ≡ replaced_expr (over r e) x
unfolding replaced_expr
expr_twice r e (Number n) = refl
expr_twice r e (Fluent f ts) = ap (Fluent f) (terms_twice r e ts)
expr_twice r e (sum a b) = λ i. sum (expr_twice r e a i) (expr_twice r e b i)
expr_twice r e (difference a b) = λ i. difference (expr_twice r e a i) (expr_twice r e b i)
expr_twice r e (product a b) = λ i. product (expr_twice r e a i) (expr_twice r e b i)
expr_twice r e (quotient a b) = λ i. quotient (expr_twice r e a i) (expr_twice r e b i)

-- the instances of a quantifier
at_tuples : (w : World) (r : Replacement) (e : Assignment) (vars : List Typed) (f g : Formula) →
    ((d : Assignment) → expanded w d g ≡ expanded w (over (under vars r) d) f) →
    map (λ tuple. expanded w (assign vars tuple e) g) (tuples w vars) ≡ map (λ tuple. expanded w (assign vars tuple (over r e)) f) (tuples w vars)
at_tuples w r e vars f g same =
    same_map (λ tuple. expanded w (assign vars tuple e) g) (λ tuple. expanded w (assign vars tuple (over r e)) f) (tuples w vars)
    (each_as (Fits vars) _ (λ tuple fits. same (assign vars tuple e) ∙ ap (λ d. expanded w d f) (under-is vars tuple r e fits)) (tuples w vars) (all_fit w vars))

mutual
  unfolding expanded all_expanded replaced replaced_members

  pub replaced_expand : (w : World) (r : Replacement) (e : Assignment) (f : Formula) →
      expanded w e (replaced r f) ≡ expanded w (over r e) f
  replaced_expand w r e (And' n fs) = ap And (members_expand w r e fs)
  replaced_expand w r e (Or' n fs) = ap Or (members_expand w r e fs)
  replaced_expand w r e (not f) = ap not (replaced_expand w r e f)
  replaced_expand w r e (imply f g) = λ i. imply (replaced_expand w r e f i) (replaced_expand w r e g i)
  replaced_expand w r e (exists vars f) = ap Or (at_tuples w r e vars f (replaced (under vars r) f) (λ d. replaced_expand w (under vars r) d f))
  replaced_expand w r e (forall vars f) = ap And (at_tuples w r e vars f (replaced (under vars r) f) (λ d. replaced_expand w (under vars r) d f))
  replaced_expand w r e (Atom name ts) = ap (Atom name) (terms_twice r e ts)
  replaced_expand w r e (Equal t u) = λ i. Equal (term_twice r e t i) (term_twice r e u i)
  replaced_expand w r e (Compare relation a b) = λ i. Compare relation (expr_twice r e a i) (expr_twice r e b i)

  members_expand : (w : World) (r : Replacement) (e : Assignment) {n : _} (fs : Row_of-Formula n) → all_expanded w e (replaced_members r fs) ≡ all_expanded w (over r e) fs
  members_expand w r e end_of-Formula = refl
  members_expand w r e (more_of-Formula f fs) = λ i. replaced_expand w r e f i ∷ members_expand w r e fs i

-- ---- actions

abbrev instance_at : Assignment → Row → List Name → Instance
instance_at e row tuple = record { assignment = assign row.vars tuple e; row = row }

module _ (w v : World) (s : State) (e d : Assignment) where
  one_outcome : (row : Row) (tuple : List Name) →
      outcome v s (instance_at d (row_at w (assign row.vars tuple e) row) []) ≡ outcome w s (instance_at (over e d) row tuple)
  one_outcome row tuple =
      let a : Assignment = assign row.vars tuple e in
      λ i. record {
        truth = (expanded_truth w v s a d row.when ∙ ap (λ d. truth_of w s d row.when) (assign_over row.vars tuple e d)) i;
        deed = (replaced_deed s d a row.effect ∙ ap (λ d. deed s d row.effect) (assign_over row.vars tuple e d)) i;
      }

  one_row : (row : Row) → flat_map (λ made. map (outcome v s) (row_instances v d made)) (row_expanded w e row) ≡ map (outcome w s) (row_instances w (over e d) row)
  one_row row =
      flat_of_ones (λ made. map (outcome v s) (row_instances v d made)) (λ tuple. row_at w (assign row.vars tuple e) row) (λ tuple. outcome w s (instance_at (over e d) row tuple)) (tuples w row.vars)
      (λ tuple. ap (λ o. o ∷ []) (one_outcome row tuple))
      ∙ sym (map_of_map (outcome w s) (instance_at (over e d) row) (tuples w row.vars))

  all_rows : (rows : List Row) → map (outcome v s) (flat_map (row_instances v d) (flat_map (row_expanded w e) rows)) ≡ map (outcome w s) (flat_map (row_instances w (over e d)) rows)
  all_rows rows =
      map_of_flat (outcome v s) (row_instances v d) (flat_map (row_expanded w e) rows)
      ∙ flat_of_flat (λ made. map (outcome v s) (row_instances v d made)) (row_expanded w e) rows
      ∙ same_flat _ _ rows one_row
      ∙ sym (map_of_flat (outcome w s) (row_instances w (over e d)) rows)

pub rows_expand : (w v : World) (s : State) (e d : Assignment) (row : Row) →
    map (outcome v s) (flat_map (row_instances v d) (row_expanded w e row))
    ≡ map (outcome w s) (row_instances w (over e d) row)
rows_expand w v s e d row = map_of_flat (outcome v s) (row_instances v d) (row_expanded w e row) ∙ one_row w v s e d row

same : {A : Type 0} → A ↔ A
same = ((λ h. h), (λ h. h))

pub actions_expand : (w : World) (a : Action) (args : List Name) → SameDoing w a args w (action_expanded w a) args
actions_expand w a args =
    same_doing w a args w (action_expanded w a) args (record {
      unknown_both = λ s. same;
      arity_both = λ s. same;
      type_both = λ s. same;
      pre = λ s. sym (expanded_truth w w s unassigned (action_assignment a args) a.pre);
      rows = λ s. sym (all_rows w w s unassigned (action_assignment a args) a.rows);
    })
