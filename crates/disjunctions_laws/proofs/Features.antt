-- The construction carries no feature but those of the table's row.
use Rattle.std.proofs.Common.{◌≡◌, ◌⊎◌, ℕ, Bool, true, false, not as flip, ◌||◌, ◌&&◌, List, [], ◌∷◌, map, refl, ap, sym, ◌∙◌, subst, inl, inr}
use Rattle.std.specs.List.{list_any, flat_map}
use Rattle.std.specs.Cmp.Lexicographic.{bytes_decides}
use Rattle.up_text.specs.declared.name.Name.{Name}
use Rattle.up_text.specs.Names.{same_name}
use Rattle.up_text.specs.Lists.{Somewhere, Member}
use Rattle.up_tree.specs.declared.action.Action.{Action}
use Rattle.up_tree.specs.declared.action.Effect.{Effect}
use Rattle.up_tree.specs.declared.action.Effect.TheVariants as effect
use Rattle.up_tree.specs.declared.action.Row.{Row}
use Rattle.up_tree.specs.declared.formula.Formula.{Formula, And, And', Or', Atom, Equal, Compare, Row_of-Formula, end_of-Formula, more_of-Formula, items-the_row-Formula}
use Rattle.up_tree.specs.declared.problem.Constraint.{Constraint}
use Rattle.up_tree.specs.declared.problem.Parts.{Parts}
use Rattle.up_tree.specs.declared.problem.Predicate.{Predicate}
use Rattle.up_tree.specs.Nodes.{not, imply, exists, forall}
use Rattle.up_tree.specs.Objects.{World, world}
use Rattle.up_tree.specs.Simplify.{true_formula, is_true_formula, is_empty}
use Rattle.up_tree.specs.WellFormed.{IsWellFormed, IsAction, formulas_of}
use Rattle.up_kind.specs.declared.feature.Feature.TheVariants.{FlatTyping, HierarchicalTyping, ActionParameters, NegativeConditions, DisjunctiveConditions, Equalities, ExistentialConditions, UniversalConditions, ConditionalEffects, ForallEffects, ObjectFluents, NumericFluents, NumericConditions, NumericEffects, ScaleEffects, Metric, TrajectoryConstraints, EffectOverlap, ObjectTermsUnderForall, PartialFluents}
use Rattle.up_kind.specs.Features.{IsSubset, is_in, either, minus}
use Rattle.up_kind.specs.Carried.{anywhere, in_row, carries, conditions, some_condition, some_row, is_total, gives_an_object, is_disjunctive, is_equal, is_exists, is_forall, is_compare, is_numeric, is_scale, is_undefine, touches_objects}
use Rattle.up_kind.specs.Meeting.{may_agree, meet_by, meet, has_meeting_rows}
use Rattle.up_compiler.specs.declared.id.CompilerId.TheVariants.{Disjunctions}
use Rattle.up_compiler.specs.Table.{row_result}
use Rattle.semantics_laws.specs.Symbols.{predicate, target}
use Rattle.condition_laws.specs.Guards.{IsRowOf}
use Rattle.condition_laws.proofs.Guarding.{guarded_dont_meet}
use Rattle.condition_laws.proofs.Holding.{none, anywhere-And, is_true_formula-true_formula}
use Rattle.step_laws.specs.Naming.{Stands}
use Rattle.compiling_laws.proofs.Lists.{or_told, false_true, and_true, any_false, any_true, any_from, member_left, member_right, member_either, member_flat, of_flat, member_map, of_map}
use Rattle.step_laws.proofs.Lists.{every_at}
use Rattle.condition_laws.proofs.Otherwise as otherwise
use Rattle.disjunctions_laws.specs.Disjunctions.{clause_formulas, clause_pairs, goal_clauses, goal_fact, plain_row, with_delete, fakes, with_fakes, disjunctions, action_names as used_names}
use Rattle.disjunctions_laws.proofs.Clauses.{member_some, IsSteady, equal_steady, compare_steady, clause_steady, clause_no_exists, clause_no_forall, clause_not_disjunctive, clause_guards}
use Rattle.disjunctions_laws.proofs.Goal.{IsFake, of_fakes, rows_other}
use Rattle.disjunctions_laws.proofs.Plans.{IsAdmitted, by_goal}
use Rattle.disjunctions_laws.proofs.Splitting.{IsVariant, pair_is}

-- ---- what an action is made of

abbrev delete_row : Name → Row
delete_row fact = plain_row (effect.Delete fact [])

abbrev add_row : Name → Row
add_row fact = plain_row (effect.Add fact [])

-- an old action with a clause as its precondition, and perhaps the last row; or a fake one
pub data IsMade (p : Parts) (fact : Name) (x : Action) : Type 0 where
  of_old : (old : Action) → Member old p.actions → x.params ≡ old.params → Member x.pre (clause_formulas (world p) old.pre)
      → ((r : Row) → Member r x.rows → Member r old.rows ⊎ (r ≡ delete_row fact)) → IsMade p fact x
  of_goal : x.params ≡ [] → Member x.pre (goal_clauses p) → ((r : Row) → Member r x.rows → r ≡ add_row fact) → IsMade p fact x

-- ---- a set with features taken away and others added

stays : (b : Bool) → b ≡ true → ((b && true) || false) ≡ true
stays true e = refl
stays false e = false_true e

added : (b c : Bool) → ((b && c) || true) ≡ true
added true true = refl
added true false = refl
added false c = refl

-- ---- `true` has no feature

is_quiet : (f : Formula) → is_true_formula f ≡ true → anywhere is_disjunctive f ≡ true → ⊥
unfolding anywhere in_row
is_quiet (And' n fs) is h = empty fs is h
  where
    empty : {n : _} (fs : Row_of-Formula n) → is_empty (items-the_row-Formula _ fs) ≡ true → in_row is_disjunctive fs ≡ true → ⊥
    empty end_of-Formula is h = false_true h
    empty (more_of-Formula f fs) is h = false_true is
is_quiet (Or' n fs) is h = false_true is
is_quiet (not f) is h = false_true is
is_quiet (imply f g) is h = false_true is
is_quiet (exists vars f) is h = false_true is
is_quiet (forall vars f) is h = false_true is
is_quiet (Atom name ts) is h = false_true is
is_quiet (Equal t u) is h = false_true is
is_quiet (Compare r a b) is h = false_true is

no_always : (t : Formula → Bool) → ((fs : List Formula) → t (And fs) ≡ false) → anywhere t true_formula ≡ true → ⊥
no_always t ands h = none (anywhere-And t [] ∙ ap (λ b. b || false) (ands [])) h

no_atom : (t : Formula → Bool) (fact : Name) → t (Atom fact []) ≡ false → anywhere t (Atom fact []) ≡ true → ⊥
unfolding anywhere
no_atom t fact n h = none n h

-- ---- what the source carries

module _ (p : Parts) (t : Formula → Bool) where
  abbrev of_action : Action → List Formula
  of_action a = a.pre ∷ map (λ (r : Row). r.when) a.rows

  abbrev others : List Formula
  others = p.goal ∷ flat_map (λ (c : Constraint). formulas_of c.rule) p.constraints

  pre_at : (a : Action) → Member a p.actions → Member a.pre (conditions p)
  pre_at a m = member_left a.pre (flat_map of_action p.actions) others (member_flat of_action a a.pre p.actions m (inl refl))

  when_at : (a : Action) (r : Row) → Member a p.actions → Member r a.rows → Member r.when (conditions p)
  when_at a r m k =
      member_left r.when (flat_map of_action p.actions) others (member_flat of_action a r.when p.actions m (inr (member_map (λ (r : Row). r.when) a.rows r k)))

  goal_at : Member p.goal (conditions p)
  goal_at = member_right p.goal (flat_map of_action p.actions) others (inl refl)

  at : (f : Formula) → Member f (conditions p) → anywhere t f ≡ true → some_condition p t ≡ true
  at f m h = any_from (anywhere t) (conditions p) f m h

  not_at : (f : Formula) → Member f (conditions p) → some_condition p t ≡ false → anywhere t f ≡ false
  not_at f m n = any_false (anywhere t) (conditions p) f n m

-- ---- the output

module _ (p : Parts) (formed : IsWellFormed p) (admitted : IsAdmitted p) (constants : ℕ) (predicates : List Predicate) (actions : List Action) (goal : Formula)
    (made : (x : Action) → Member x actions → IsMade p (goal_fact p) x) (goal_is : Member goal (goal_clauses p) ⊎ (goal ≡ Atom (goal_fact p) [])) where
  abbrev q : Parts
  q = record p { constants = constants; predicates = predicates; actions = actions; goal = goal }

  abbrev w : World
  w = world p

  abbrev fact : Name
  fact = goal_fact p

  -- ---- conditions

  of_conditions : (X : Type 0) (t : Formula → Bool) → ((x : Action) → Member x actions → anywhere t x.pre ≡ true → X)
      → ((x : Action) (r : Row) → Member x actions → Member r x.rows → anywhere t r.when ≡ true → X) → (anywhere t goal ≡ true → X) → some_condition q t ≡ true → X
  of_conditions X t pre when last h =
      let f = any_true (anywhere t) (conditions q) h in by f.0 f.2 (member_either f.0 (flat_map (of_action p t) actions) (goal ∷ flat_map (λ (c : Constraint). formulas_of c.rule) p.constraints) f.1)
    where
      in_action : (f : Formula) → anywhere t f ≡ true → (x : Action) → Member x actions → Member f (of_action p t x) → X
      in_action f found x m (inl e) = pre x m (subst (λ g. anywhere t g ≡ true) e found)
      in_action f found x m (inr k) =
          let r = of_map (λ (r : Row). r.when) x.rows f k in when x r.0 m r.1 (subst (λ g. anywhere t g ≡ true) r.2 found)

      by : (f : Formula) → anywhere t f ≡ true → Member f (flat_map (of_action p t) actions) ⊎ Member f (goal ∷ flat_map (λ (c : Constraint). formulas_of c.rule) p.constraints) → X
      by f found (inl m) = let x = of_flat (of_action p t) f actions m in in_action f found x.0 x.1 x.2
      by f found (inr (inl e)) = last (subst (λ g. anywhere t g ≡ true) e found)
      by f found (inr (inr m)) =
          absurd (subst (λ cs. Member f (flat_map (λ (c : Constraint). formulas_of c.rule) cs)) admitted.no_constraints m)

  -- what holds of clauses and rows holds of all
  module _ {X : Type 0} (t : Formula → Bool) (ands : (fs : List Formula) → t (And fs) ≡ false) (atoms : t (Atom fact []) ≡ false)
      (of_clause : (f g : Formula) → Member f (conditions p) → Member g (clause_formulas w f) → anywhere t g ≡ true → X)
      (of_row : (a : Action) (r : Row) → Member a p.actions → Member r a.rows → anywhere t r.when ≡ true → X) where
    all_conditions : some_condition q t ≡ true → X
    all_conditions = of_conditions X t (λ x m h. pre x h (made x m)) (λ x r m k h. when x r k h (made x m)) (λ h. last h goal_is)
      where
        pre : (x : Action) → anywhere t x.pre ≡ true → IsMade p fact x → X
        pre x h (of_old old m params clause rows) = of_clause old.pre x.pre (pre_at p t old m) clause h
        pre x h (of_goal params clause rows) = of_clause p.goal x.pre (goal_at p t) clause h

        plain : (r : Row) (f : Effect) → r ≡ plain_row f → anywhere t r.when ≡ true → X
        plain r f e h = absurd (no_always t ands (subst (λ (r : Row). anywhere t r.when ≡ true) e h))

        when : (x : Action) (r : Row) → Member r x.rows → anywhere t r.when ≡ true → IsMade p fact x → X
        when x r k h (of_old old m params clause rows) = elim (rows r k) [ inl there ↦ of_row old r m there h | inr e ↦ plain r (effect.Delete fact []) e h ]
        when x r k h (of_goal params clause rows) = plain r (effect.Add fact []) (rows r k) h

        last : anywhere t goal ≡ true → Member goal (goal_clauses p) ⊎ (goal ≡ Atom fact []) → X
        last h (inl clause) = of_clause p.goal goal (goal_at p t) clause h
        last h (inr e) = absurd (no_atom t fact atoms (subst (λ g. anywhere t g ≡ true) e h))

  steady_stays : (t : Formula → Bool) → IsSteady t → t (Atom fact []) ≡ false → some_condition q t ≡ true → some_condition p t ≡ true
  steady_stays t steady atoms =
      all_conditions t steady.ands atoms (λ f g m clause h. at p t f m (clause_steady w f g clause t steady h))
      (λ a r m k h. at p t r.when (when_at p t a r m k) h)

  exists_free : (f : Formula) → Member f (conditions p) → anywhere is_exists f ≡ false
  exists_free f m = not_at p is_exists f m admitted.no_exists

  forall_free : (f : Formula) → Member f (conditions p) → anywhere is_forall f ≡ false
  forall_free f m = not_at p is_forall f m admitted.no_forall

  no_exists : some_condition q is_exists ≡ true → ⊥
  no_exists =
      all_conditions is_exists (λ fs. refl) refl (λ f g m clause h. clause_no_exists w f g clause (exists_free f m) (forall_free f m) h)
      (λ a r m k h. none (exists_free r.when (when_at p is_exists a r m k)) h)

  no_forall : some_condition q is_forall ≡ true → ⊥
  no_forall =
      all_conditions is_forall (λ fs. refl) refl (λ f g m clause h. clause_no_forall w f g clause (exists_free f m) (forall_free f m) h)
      (λ a r m k h. none (forall_free r.when (when_at p is_forall a r m k)) h)

  always_when : (a : Action) (r : Row) → Member a p.actions → Member r a.rows → is_true_formula r.when ≡ true
  always_when a r m k =
      not_false (is_true_formula r.when) (any_false (λ (r : Row). flip (is_true_formula r.when)) a.rows r (any_false (λ (a : Action). list_any (λ (r : Row). flip (is_true_formula r.when)) a.rows) p.actions a admitted.no_conditional m) k)
    where
      not_false : (b : Bool) → flip b ≡ false → b ≡ true
      not_false true e = refl
      not_false false e = false_true (sym e)

  no_disjunction : some_condition q is_disjunctive ≡ true → ⊥
  no_disjunction =
      all_conditions is_disjunctive (λ fs. refl) refl (λ f g m clause h. clause_not_disjunctive w f g clause (exists_free f m) (forall_free f m) h)
      (λ a r m k h. is_quiet r.when (always_when a r m k) h)

  -- ---- parameters and rows

  has_params : carries q ActionParameters ≡ true → carries p ActionParameters ≡ true
  has_params h = let x = any_true (λ (a : Action). flip (is_empty a.params)) actions h in by x.0 x.2 (made x.0 x.1)
    where
      by : (x : Action) → flip (is_empty x.params) ≡ true → IsMade p fact x → carries p ActionParameters ≡ true
      by x found (of_old old m params clause rows) =
          any_from (λ (a : Action). flip (is_empty a.params)) p.actions old m (subst (λ vs. flip (is_empty vs) ≡ true) params found)
      by x found (of_goal params clause rows) = false_true (subst (λ vs. flip (is_empty vs) ≡ true) params found)

  of_rows : (t : Row → Bool) → t (delete_row fact) ≡ false → t (add_row fact) ≡ false → some_row q t ≡ true → some_row p t ≡ true
  of_rows t off_delete off_add h =
      let x = any_true (λ (a : Action). list_any t a.rows) actions h in
      let r = any_true t x.0.rows x.2 in by x.0 r.0 r.1 r.2 (made x.0 x.1)
    where
      by : (x : Action) (r : Row) → Member r x.rows → t r ≡ true → IsMade p fact x → some_row p t ≡ true
      by x r k found (of_old old m params clause rows) = elim (rows r k) [
        | inl there ↦ any_from (λ (a : Action). list_any t a.rows) p.actions old m (any_from t old.rows r there found)
        | inr e ↦ none off_delete (subst (λ (r : Row). t r ≡ true) e found)
      ]
      by x r k found (of_goal params clause rows) = none off_add (subst (λ (r : Row). t r ≡ true) (rows r k) found)

  partial : carries q PartialFluents ≡ true → carries p PartialFluents ≡ true
  partial h = or_told (list_any (λ d. gives_an_object d && flip (is_total p d)) p.functions) (some_row q (λ r. is_undefine r.effect)) first second h
    where
      join : (a b : Bool) → a ≡ true → (a || b) ≡ true
      join a b e = ap (λ x. x || b) e

      join_last : (a b : Bool) → b ≡ true → (a || b) ≡ true
      join_last true b e = refl
      join_last false b e = e

      first : list_any (λ d. gives_an_object d && flip (is_total p d)) p.functions ≡ true → carries p PartialFluents ≡ true
      first e = join _ _ e

      second : some_row q (λ r. is_undefine r.effect) ≡ true → carries p PartialFluents ≡ true
      second e = join_last (list_any (λ d. gives_an_object d && flip (is_total p d)) p.functions) _ (of_rows (λ r. is_undefine r.effect) refl refl e)

  -- ---- overlaps

  -- the two rows alone
  abbrev alone : Action → Row → Row → Action
  alone x d e = record { name = x.name; params = x.params; pre = x.pre; rows = d ∷ e ∷ [] }

  -- a row that deletes is no row that adds
  no_add : (x : Action) (d e : Row) (f : Effect) → meet_by q x d e f (effect.Delete fact []) ≡ true → ⊥
  no_add x d e (effect.Delete name ss) h = false_true h
  no_add x d e (effect.Add name ss) h = false_true h
  no_add x d e (effect.Number change name ss n) h = false_true h
  no_add x d e (effect.Object name ss t) h = false_true h
  no_add x d e (effect.Undefine name ss) h = false_true h

  -- and one that adds is none that deletes
  no_delete : (x : Action) (d e : Row) (g : Effect) → meet_by q x d e (effect.Add fact []) g ≡ true → ⊥
  no_delete x d e g h = false_true h

  -- what meets the last row adds the fact
  meets_last : (x : Action) (d e : Row) (g : Effect) → meet_by q x d e (effect.Delete fact []) g ≡ true → predicate fact ≡ target g
  meets_last x d e (effect.Add other ts) h = ap predicate ((bytes_decides fact other).0 (and_true (same_name fact other) (may_agree q x d e [] ts) h).0)
  meets_last x d e (effect.Delete other ts) h = false_true h
  meets_last x d e (effect.Number change other ts n) h = false_true h
  meets_last x d e (effect.Object other ts t) h = false_true h
  meets_last x d e (effect.Undefine other ts) h = false_true h

  old_meet : (x old : Action) → x.params ≡ old.params → Member x.pre (clause_formulas w old.pre) → (d e : Row) → Member d old.rows → Member e old.rows
      → meet q x d e ≡ true → has_meeting_rows p old ≡ true
  unfolding meet
  old_meet x old params clause d e m k h =
      guarded_dont_meet p (alone x d e) old params (clause_guards w old.pre x.pre clause) (of_row d m, (of_row e k, tt))
      (sym (otherwise.rows_meet p constants predicates p.atoms actions goal p.constraints (alone x d e))
      ∙ any_from (λ a. list_any (meet q (alone x d e) a) (d ∷ e ∷ [])) (d ∷ e ∷ []) d (inl refl) (any_from (meet q (alone x d e) d) (d ∷ e ∷ []) e (inr (inl refl)) h))
    where
      of_row : (r : Row) → Member r old.rows → Somewhere (λ s. IsRowOf r s) old.rows
      of_row r m = member_some (λ s. IsRowOf r s) old.rows r m (record { vars = refl; effect = refl })

  made_meet : (x : Action) (d e : Row) → Member d x.rows → Member e x.rows → meet q x d e ≡ true → IsMade p fact x → list_any (has_meeting_rows p) p.actions ≡ true
  unfolding meet
  made_meet x d e m k h (of_old old listed params clause rows) = by (rows d m) (rows e k)
    where
      by : Member d old.rows ⊎ (d ≡ delete_row fact) → Member e old.rows ⊎ (e ≡ delete_row fact) → list_any (has_meeting_rows p) p.actions ≡ true
      by (inl old_d) (inl old_e) = any_from (has_meeting_rows p) p.actions old listed (old_meet x old params clause d e old_d old_e h)
      by last (inr is) = absurd (no_add x d e d.effect (subst (λ (r : Row). meet_by q x d e d.effect r.effect ≡ true) is h))
      by (inr is) (inl old_e) =
          absurd (every_at (λ (r : Row). ¬ (predicate fact ≡ target r.effect)) old.rows e (rows_other p formed old (every_at (IsAction p) p.actions old formed.actions listed)) old_e
          (meets_last x d e e.effect (subst (λ (r : Row). meet_by q x d e r.effect e.effect ≡ true) is h)))
  made_meet x d e m k h (of_goal params clause rows) =
      absurd (no_delete x d e e.effect (subst (λ (r : Row). meet_by q x d e r.effect e.effect ≡ true) (rows d m) h))

  overlaps : list_any (has_meeting_rows q) actions ≡ true → list_any (has_meeting_rows p) p.actions ≡ true
  overlaps h =
      let x = any_true (has_meeting_rows q) actions h in
      let d = any_true (λ d. list_any (meet q x.0 d) x.0.rows) x.0.rows x.2 in
      let e = any_true (meet q x.0 d.0) x.0.rows d.2 in
      made_meet x.0 d.0 e.0 d.1 e.1 e.2 (made x.0 x.1)

  pub within_row : IsSubset (carries q) (row_result Disjunctions (carries p))
  unfolding either minus is_in
  within_row FlatTyping h = stays _ h
  within_row HierarchicalTyping h = stays _ h
  within_row ActionParameters h = stays _ (has_params h)
  within_row NegativeConditions h = added (carries p NegativeConditions) _
  within_row DisjunctiveConditions h = absurd (no_disjunction h)
  within_row Equalities h = stays _ (steady_stays is_equal equal_steady refl h)
  within_row ExistentialConditions h = absurd (no_exists h)
  within_row UniversalConditions h = absurd (no_forall h)
  within_row ConditionalEffects h = stays _ (of_rows (λ r. flip (is_true_formula r.when)) (ap flip is_true_formula-true_formula) (ap flip is_true_formula-true_formula) h)
  within_row ForallEffects h = stays _ (of_rows (λ r. flip (is_empty r.vars)) refl refl h)
  within_row ObjectFluents h = stays _ h
  within_row NumericFluents h = stays _ h
  within_row NumericConditions h = stays _ (steady_stays is_compare compare_steady refl h)
  within_row NumericEffects h = stays _ (of_rows (λ r. is_numeric r.effect) refl refl h)
  within_row ScaleEffects h = stays _ (of_rows (λ r. is_scale r.effect) refl refl h)
  within_row Metric h = stays _ h
  within_row TrajectoryConstraints h = stays _ h
  within_row EffectOverlap h = stays _ (overlaps h)
  within_row ObjectTermsUnderForall h = stays _ (of_rows (λ r. flip (is_empty r.vars) && touches_objects r.effect) refl refl h)
  within_row PartialFluents h = stays _ (partial h)

-- ---- of the construction

module _ (p : Parts) (formed : IsWellFormed p) (admitted : IsAdmitted p) where
  abbrev pairs : List Stands
  pairs = clause_pairs p

  new_made : (pair : Stands) → Member pair pairs → IsMade p (goal_fact p) pair.new
  new_made pair m =
      let k : IsVariant p pair = pair_is p pair m in
      of_old pair.old k.member (ap (λ (x : Action). x.params) k.is)
      (subst (λ f. Member f (clause_formulas (world p) pair.old.pre)) (sym (ap (λ (x : Action). x.pre) k.is)) k.listed)
      (λ r listed. inl (subst (λ (x : Action). Member r x.rows) k.is listed))

  delete_made : (pair : Stands) → Member pair pairs → IsMade p (goal_fact p) (with_delete (goal_fact p) pair.new)
  delete_made pair m =
      let k : IsVariant p pair = pair_is p pair m in
      of_old pair.old k.member (ap (λ (x : Action). x.params) k.is)
      (subst (λ f. Member f (clause_formulas (world p) pair.old.pre)) (sym (ap (λ (x : Action). x.pre) k.is)) k.listed)
      (λ r listed. elim (member_either r pair.new.rows (delete_row (goal_fact p) ∷ []) listed) [
        | inl there ↦ inl (subst (λ (x : Action). Member r x.rows) k.is there)
        | inr last ↦ inr (only r last)
      ])
    where
      only : (r : Row) → Member r (delete_row (goal_fact p) ∷ []) → r ≡ delete_row (goal_fact p)
      only r (inl e) = e
      only r (inr m) = absurd m

  fake_made : (x : Action) → Member x (fakes p pairs (goal_clauses p)) → IsMade p (goal_fact p) x
  fake_made x m =
      let k : IsFake (goal_fact p) (goal_clauses p) x = of_fakes (used_names p pairs) (goal_fact p) (goal_clauses p) x m in
      of_goal (ap (λ (x : Action). x.params) k.is) (subst (λ f. Member f (goal_clauses p)) (sym (ap (λ (x : Action). x.pre) k.is)) k.listed)
      (λ r listed. only r (subst (λ (x : Action). Member r x.rows) k.is listed))
    where
      only : (r : Row) → Member r (add_row (goal_fact p) ∷ []) → r ≡ add_row (goal_fact p)
      only r (inl e) = e
      only r (inr m) = absurd m

  pub features_within : IsSubset (carries (disjunctions p).parts) (row_result Disjunctions (carries p))
  features_within =
      by_goal p pairs (goal_clauses p) (λ made. IsSubset (carries made.parts) (row_result Disjunctions (carries p)))
      (λ g is. within_row p formed admitted p.constants p.predicates (map (λ (pair : Stands). pair.new) pairs) g
      (λ x m. let pair = of_map (λ (pair : Stands). pair.new) pairs x m in subst (IsMade p (goal_fact p)) (sym pair.2) (new_made pair.0 pair.1))
      (inl (subst (Member g) (sym is) (inl refl))))
      (within_row p formed admitted (with_fakes p pairs (goal_clauses p)).parts.constants (with_fakes p pairs (goal_clauses p)).parts.predicates
      (with_fakes p pairs (goal_clauses p)).parts.actions (Atom (goal_fact p) [])
      (λ x m. elim (member_either x (map (λ (pair : Stands). with_delete (goal_fact p) pair.new) pairs) (fakes p pairs (goal_clauses p)) m) [
        | inl new ↦ let pair = of_map (λ (pair : Stands). with_delete (goal_fact p) pair.new) pairs x new in subst (IsMade p (goal_fact p)) (sym pair.2) (delete_made pair.0 pair.1)
        | inr fake ↦ fake_made x fake
      ])
      (inr refl))
