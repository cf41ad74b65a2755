-- An expanded problem carries what the table grants.
use Rattle.std.proofs.Common.{◌≡◌, ◌⊎◌, Bool, true, false, ◌&&◌, ◌||◌, List, [], ◌∷◌, ◌++◌, map, zip, refl, ap, sym, ◌∙◌, subst, inl, inr, ⊎_elim}
use Rattle.std.specs.Prelude.{not as flip, flat_map}
use Rattle.std.specs.List.{list_any}
use Rattle.up_text.specs.declared.name.Name.{Name}
use Rattle.up_text.specs.Names.{same_name}
use Rattle.up_text.specs.Lists.{Member}
use Rattle.up_tree.specs.declared.term.Term.{Term}
use Rattle.up_tree.specs.declared.formula.Formula.{Formula, And', Or', Atom, Equal, Compare, Row_of-Formula, end_of-Formula, more_of-Formula, items-the_row-Formula}
use Rattle.up_tree.specs.declared.action.Action.{Action}
use Rattle.up_tree.specs.declared.action.Row.{Row}
use Rattle.up_tree.specs.declared.action.Effect.{Effect}
use Rattle.up_tree.specs.declared.action.Effect.TheVariants.{Add, Delete, Number, Object, Undefine}
use Rattle.up_tree.specs.declared.problem.Constraint.{Constraint}
use Rattle.up_tree.specs.declared.problem.Parts.{Parts}
use Rattle.up_tree.specs.Nodes.{not, imply, exists, forall}
use Rattle.up_tree.specs.Objects.{World, world, Assignment, assign, unassigned, tuples}
use Rattle.up_tree.specs.Simplify.{is_empty, is_true_formula}
use Rattle.up_tree.specs.WellFormed.{formulas_of}
use Rattle.up_kind.specs.declared.feature.Feature.TheVariants.{FlatTyping, HierarchicalTyping, ActionParameters, NegativeConditions, DisjunctiveConditions, Equalities, ExistentialConditions, UniversalConditions, ConditionalEffects, ForallEffects, ObjectFluents, NumericFluents, NumericConditions, NumericEffects, ScaleEffects, Metric, TrajectoryConstraints, EffectOverlap, ObjectTermsUnderForall, PartialFluents}
use Rattle.up_kind.specs.Features.{is_in, either, minus, IsSubset}
use Rattle.up_kind.specs.Carried.{anywhere, is_not, is_disjunctive, is_equal, is_exists, is_forall, is_compare, conditions, some_condition, some_row, is_numeric, is_scale, is_undefine, touches_objects, gives_an_object, is_total, carries}
use Rattle.up_kind.specs.Meeting.{share, is_guarded, may_agree, meet_by, meet, has_meeting_rows}
use Rattle.up_kind.proofs.Shapes.{always-And}
use Rattle.up_compiler.specs.Table.{only_if, row_result}
use Rattle.expansion_laws.specs.Substituted.{replaced_effect}
use Rattle.expansion_laws.specs.Expanded.{expanded, all_expanded, row_at, row_expanded, action_expanded, problem_expanded}
use Rattle.expansion_laws.proofs.Lists.{in_first, in_second, in_either, in_map, of_map, in_flat, of_flat}
use Rattle.expansion_laws.proofs.Unchanged.{same_effect}
use Rattle.expansion_kinds.proofs.Tests.{never, or_cases, or_first, or_second, and_first, and_second, and_both, turned_back, any_member, any_there, all_as}
use Rattle.expansion_kinds.proofs.Passing.{formulas_carry}
use Rattle.expansion_kinds.proofs.Guarding.{still_guarded}
use Rattle.up_compiler.specs.declared.id.CompilerId.TheVariants.{Quantifiers}

-- ---- each condition of the expanded problem comes from one of the problem

abbrev conditions_of : Action → List Formula
conditions_of a = a.pre ∷ map (λ r. r.when) a.rows

-- the formula expands one of these
pub record Comes (w : World) (fs : List Formula) (g : Formula) : Type 0 where
  pub assignment : Assignment
  pub from : Formula
  pub there : Member from fs
  pub is : g ≡ expanded w assignment from

module _ (w : World) where
  -- a row of the expanded action, by the row that it comes from
  abbrev RowFrom : Action → Row → Type 0
  RowFrom a made = (row : Row) × Member row a.rows × ((tuple : List Name) × (made ≡ row_at w (assign row.vars tuple unassigned) row))

  row_from : (a : Action) (made : Row) → Member made (action_expanded w a).rows → RowFrom a made
  row_from a made m =
      let at : (row : Row) × Member row a.rows × Member made (row_expanded w unassigned row) = of_flat (row_expanded w unassigned) a.rows made m in
      let tuple : (tuple : List Name) × Member tuple (tuples w at.0.vars) × (made ≡ row_at w (assign at.0.vars tuple unassigned) at.0) =
      of_map (λ tuple. row_at w (assign at.0.vars tuple unassigned) at.0) (tuples w at.0.vars) made at.2
      in
      (at.0, at.1, (tuple.0, tuple.2))

  comes_of : (a : Action) (g : Formula) → Member g (conditions_of (action_expanded w a)) → Comes w (conditions_of a) g
  comes_of a g (inl e) = record { assignment = unassigned; from = a.pre; there = inl refl; is = e }
  comes_of a g (inr m) =
      let at : (made : Row) × Member made (action_expanded w a).rows × (g ≡ made.when) = of_map (λ (r : Row). r.when) (action_expanded w a).rows g m in
      let from : RowFrom a at.0 = row_from a at.0 at.1 in
      record {
        assignment = assign from.0.vars from.2.0 unassigned;
        from = from.0.when;
        there = inr (in_map (λ (r : Row). r.when) a.rows from.0 from.1);
        is = at.2 ∙ ap (λ (r : Row). r.when) from.2.1;
      }

no_constraints : (cs : List Constraint) → flip (is_empty cs) ≡ false → (g : Formula) → ¬ Member g (flat_map (λ (c : Constraint). formulas_of c.rule) cs)
no_constraints [] e g m = m
no_constraints (c ∷ cs) e g m = never (sym e)

module _ (p : Parts) (none : carries p TrajectoryConstraints ≡ false) where
  comes : (g : Formula) → Member g (conditions (problem_expanded p)) → Comes (world p) (conditions p) g
  comes g m = ⊎_elim of_actions of_rest (in_either g (flat_map conditions_of (problem_expanded p).actions) ((problem_expanded p).goal ∷ flat_map (λ (c : Constraint). formulas_of c.rule) p.constraints) m)
    where
      of_actions : Member g (flat_map conditions_of (problem_expanded p).actions) → Comes (world p) (conditions p) g
      of_actions k =
          let at : (b : Action) × Member b (map (action_expanded (world p)) p.actions) × Member g (conditions_of b) = of_flat conditions_of (problem_expanded p).actions g k in
          let from : (a : Action) × Member a p.actions × (at.0 ≡ action_expanded (world p) a) = of_map (action_expanded (world p)) p.actions at.0 at.1 in
          let one : Comes (world p) (conditions_of from.0) g = comes_of (world p) from.0 g (subst (λ b. Member g (conditions_of b)) from.2 at.2) in
          record {
            assignment = one.assignment;
            from = one.from;
            there = in_first one.from (flat_map conditions_of p.actions) (p.goal ∷ flat_map (λ (c : Constraint). formulas_of c.rule) p.constraints)
                (in_flat conditions_of p.actions from.0 one.from from.1 one.there);
            is = one.is;
          }

      of_rest : Member g ((problem_expanded p).goal ∷ flat_map (λ (c : Constraint). formulas_of c.rule) p.constraints) → Comes (world p) (conditions p) g
      of_rest (inl e) = record {
        assignment = unassigned;
        from = p.goal;
        there = in_second p.goal (flat_map conditions_of p.actions) (p.goal ∷ flat_map (λ (c : Constraint). formulas_of c.rule) p.constraints) (inl refl);
        is = e;
      }
      of_rest (inr k) = absurd (no_constraints p.constraints none g k)

  -- a test that is passed after expansion
  condition_from : (test : Formula → Bool) (A : Type 0) → ((e : Assignment) (f : Formula) → Member f (conditions p) → anywhere test (expanded (world p) e f) ≡ true → A) →
      some_condition (problem_expanded p) test ≡ true → A
  condition_from test A each h =
      let some : (g : Formula) × Member g (conditions (problem_expanded p)) × (anywhere test g ≡ true) = any_member (anywhere test) (conditions (problem_expanded p)) h in
      let from : Comes (world p) (conditions p) some.0 = comes some.0 some.1 in
      each from.assignment from.from from.there (ap (anywhere test) (sym from.is) ∙ some.2)

  condition_there : (test : Formula → Bool) (f : Formula) → Member f (conditions p) → anywhere test f ≡ true → some_condition p test ≡ true
  condition_there test f m e = any_there (anywhere test) (conditions p) f m e

-- ---- rows

module _ (p : Parts) where
  row_test : (test other : Row → Bool) → ((e : Assignment) (row : Row) → test (row_at (world p) e row) ≡ true → other row ≡ true) →
      some_row (problem_expanded p) test ≡ true → some_row p other ≡ true
  row_test test other each h =
      let some : (b : Action) × Member b (problem_expanded p).actions × (list_any test b.rows ≡ true) = any_member (λ (a : Action). list_any test a.rows) (problem_expanded p).actions h in
      let from : (a : Action) × Member a p.actions × (some.0 ≡ action_expanded (world p) a) = of_map (action_expanded (world p)) p.actions some.0 some.1 in
      let one : (made : Row) × Member made (action_expanded (world p) from.0).rows × (test made ≡ true) =
      any_member test (action_expanded (world p) from.0).rows (subst (λ (b : Action). list_any test b.rows ≡ true) from.2 some.2)
      in
      let row : RowFrom (world p) from.0 one.0 = row_from (world p) from.0 one.0 one.1 in
      any_there (λ (a : Action). list_any other a.rows) p.actions from.0 from.1
      (any_there other from.0.rows row.0 row.1 (each (assign row.0.vars row.2.0 unassigned) row.0 (subst (λ (r : Row). test r ≡ true) row.2.1 one.2)))

always_stays : (w : World) (e : Assignment) (f : Formula) → is_true_formula f ≡ true → is_true_formula (expanded w e f) ≡ true
unfolding expanded
always_stays w e (And' n fs) h = always-And (all_expanded w e fs) ∙ by fs h
  where
    by : {n : _} (fs : Row_of-Formula n) → is_empty (items-the_row-Formula _ fs) ≡ true → is_empty (all_expanded w e fs) ≡ true
    by end_of-Formula h = refl
    by (more_of-Formula f fs) h = never h
always_stays w e (Or' n fs) h = never h
always_stays w e (not f) h = never h
always_stays w e (imply f g) h = never h
always_stays w e (exists vars f) h = never h
always_stays w e (forall vars f) h = never h
always_stays w e (Atom name ts) h = never h
always_stays w e (Equal t u) h = never h
always_stays w e (Compare r a b) h = never h

conditional : (p : Parts) (e : Assignment) (row : Row) → flip (is_true_formula (row_at (world p) e row).when) ≡ true → flip (is_true_formula row.when) ≡ true
conditional p e row h = turned_back (is_true_formula row.when) (is_true_formula (expanded (world p) e row.when)) (always_stays (world p) e row.when) h

numeric_stays : (e : Assignment) (x : Effect) → is_numeric (replaced_effect e x) ≡ is_numeric x
numeric_stays e (Add name ts) = refl
numeric_stays e (Delete name ts) = refl
numeric_stays e (Number change f ts x) = refl
numeric_stays e (Object f ts t) = refl
numeric_stays e (Undefine f ts) = refl

scale_stays : (e : Assignment) (x : Effect) → is_scale (replaced_effect e x) ≡ is_scale x
scale_stays e (Add name ts) = refl
scale_stays e (Delete name ts) = refl
scale_stays e (Number change f ts x) = refl
scale_stays e (Object f ts t) = refl
scale_stays e (Undefine f ts) = refl

undefine_stays : (e : Assignment) (x : Effect) → is_undefine (replaced_effect e x) ≡ is_undefine x
undefine_stays e (Add name ts) = refl
undefine_stays e (Delete name ts) = refl
undefine_stays e (Number change f ts x) = refl
undefine_stays e (Object f ts t) = refl
undefine_stays e (Undefine f ts) = refl

no_row : (p : Parts) → some_row p (λ r. false) ≡ true → ⊥
no_row p h =
    let some : (a : Action) × Member a p.actions × (list_any (λ (r : Row). false) a.rows ≡ true) = any_member (λ (a : Action). list_any (λ (r : Row). false) a.rows) p.actions h in
    let one : (r : Row) × Member r some.0.rows × (false ≡ true) = any_member (λ (r : Row). false) some.0.rows some.2 in
    never one.2

-- ---- meeting rows

empty_is : {X : Type 0} (xs : List X) → flip (is_empty xs) ≡ false → xs ≡ []
empty_is [] e = refl
empty_is (x ∷ xs) e = never (sym e)

module _ (p : Parts) (none : carries p ForallEffects ≡ false) where
  no_variables : (a : Action) (row : Row) → Member a p.actions → Member row a.rows → row.vars ≡ []
  no_variables a row m k = empty_is row.vars (by (flip (is_empty row.vars)) refl)
    where
      by : (b : Bool) → flip (is_empty row.vars) ≡ b → b ≡ false
      by true e =
          sym (any_there (λ (a : Action). list_any (λ (r : Row). flip (is_empty r.vars)) a.rows) p.actions a m (any_there (λ (r : Row). flip (is_empty r.vars)) a.rows row k e)) ∙ none
      by false e = refl

  module _ (a : Action) where
    agree : (d r made other : Row) → d.vars ≡ [] → r.vars ≡ [] → made.vars ≡ [] → other.vars ≡ [] → (ss ts : List Term) →
        may_agree (problem_expanded p) (action_expanded (world p) a) made other ss ts ≡ true → may_agree p a d r ss ts ≡ true
    agree d r made other no_d no_r no_made no_other ss ts h =
        all_as (λ (pair : Term × Term). flip (is_guarded (expanded (world p) unassigned a.pre) pair.0 pair.1) && share p (made.vars ++ a.params) pair.0 (other.vars ++ a.params) pair.1)
        (λ (pair : Term × Term). flip (is_guarded a.pre pair.0 pair.1) && share p (d.vars ++ a.params) pair.0 (r.vars ++ a.params) pair.1) (zip ss ts)
        (λ pair e.
        let first : flip (is_guarded (expanded (world p) unassigned a.pre) pair.0 pair.1) ≡ true =
        and_first (flip (is_guarded (expanded (world p) unassigned a.pre) pair.0 pair.1)) (share p (made.vars ++ a.params) pair.0 (other.vars ++ a.params) pair.1) e
        in
        let second : share p (made.vars ++ a.params) pair.0 (other.vars ++ a.params) pair.1 ≡ true =
        and_second (flip (is_guarded (expanded (world p) unassigned a.pre) pair.0 pair.1)) (share p (made.vars ++ a.params) pair.0 (other.vars ++ a.params) pair.1) e
        in
        and_both (flip (is_guarded a.pre pair.0 pair.1)) (share p (d.vars ++ a.params) pair.0 (r.vars ++ a.params) pair.1)
        (turned_back (is_guarded a.pre pair.0 pair.1) (is_guarded (expanded (world p) unassigned a.pre) pair.0 pair.1) (still_guarded (world p) pair.0 pair.1 a.pre) first)
        ((λ i. share p ((no_d ∙ sym no_made) i ++ a.params) pair.0 ((no_r ∙ sym no_other) i ++ a.params) pair.1) ∙ second))
        h

    meet_again : (d r made other : Row) → d.vars ≡ [] → r.vars ≡ [] → made.vars ≡ [] → other.vars ≡ [] → (x y : Effect) →
        meet_by (problem_expanded p) (action_expanded (world p) a) made other x y ≡ true → meet_by p a d r x y ≡ true
    meet_again d r made other no_d no_r no_made no_other (Delete name ss) (Add named ts) h =
        and_both (same_name name named) (may_agree p a d r ss ts) (and_first (same_name name named) _ h)
        (agree d r made other no_d no_r no_made no_other ss ts (and_second (same_name name named) _ h))
    meet_again d r made other no_d no_r no_made no_other (Delete name ss) (Delete named ts) h = never h
    meet_again d r made other no_d no_r no_made no_other (Delete name ss) (Number change f ts n) h = never h
    meet_again d r made other no_d no_r no_made no_other (Delete name ss) (Object f ts t) h = never h
    meet_again d r made other no_d no_r no_made no_other (Delete name ss) (Undefine f ts) h = never h
    meet_again d r made other no_d no_r no_made no_other (Add name ss) y h = never h
    meet_again d r made other no_d no_r no_made no_other (Number change f ss n) y h = never h
    meet_again d r made other no_d no_r no_made no_other (Object f ss t) y h = never h
    meet_again d r made other no_d no_r no_made no_other (Undefine f ss) y h = never h

  same_made : (row made : Row) (tuple : List Name) → row.vars ≡ [] → made ≡ row_at (world p) (assign row.vars tuple unassigned) row → made.effect ≡ row.effect
  same_made row made tuple empty is =
      ap (λ (r : Row). r.effect) is ∙ ap (λ vars. replaced_effect (assign vars tuple unassigned) row.effect) empty ∙ same_effect row.effect

  meeting_stays : (a : Action) → Member a p.actions → has_meeting_rows (problem_expanded p) (action_expanded (world p) a) ≡ true → has_meeting_rows p a ≡ true
  unfolding meet
  meeting_stays a m h =
      let b : Action = action_expanded (world p) a in
      let first : (made : Row) × Member made b.rows × (list_any (meet (problem_expanded p) b made) b.rows ≡ true) =
      any_member (λ made. list_any (meet (problem_expanded p) b made) b.rows) b.rows h
      in
      let second : (other : Row) × Member other b.rows × (meet (problem_expanded p) b first.0 other ≡ true) = any_member (meet (problem_expanded p) b first.0) b.rows first.2 in
      let d : RowFrom (world p) a first.0 = row_from (world p) a first.0 first.1 in
      let r : RowFrom (world p) a second.0 = row_from (world p) a second.0 second.1 in
      let no_d : d.0.vars ≡ [] = no_variables a d.0 m d.1 in
      let no_r : r.0.vars ≡ [] = no_variables a r.0 m r.1 in
      any_there (λ d. list_any (meet p a d) a.rows) a.rows d.0 d.1
      (any_there (meet p a d.0) a.rows r.0 r.1
      (meet_again a d.0 r.0 first.0 second.0 no_d no_r (ap (λ (r : Row). r.vars) d.2.1) (ap (λ (r : Row). r.vars) r.2.1) d.0.effect r.0.effect
      ((λ i. meet_by (problem_expanded p) b first.0 second.0 (sym (same_made d.0 first.0 d.2.0 no_d d.2.1) i) (sym (same_made r.0 second.0 r.2.0 no_r r.2.1) i)) ∙ second.2)))

overlap_stays : (p : Parts) → carries (problem_expanded p) EffectOverlap ≡ true → (carries p EffectOverlap ≡ true) ⊎ (carries p ForallEffects ≡ true)
overlap_stays p h = by (carries p ForallEffects) refl
  where
    by : (b : Bool) → carries p ForallEffects ≡ b → (carries p EffectOverlap ≡ true) ⊎ (carries p ForallEffects ≡ true)
    by true e = inr e
    by false e =
        let some : (b : Action) × Member b (problem_expanded p).actions × (has_meeting_rows (problem_expanded p) b ≡ true) = any_member (has_meeting_rows (problem_expanded p)) (problem_expanded p).actions h in
        let from : (a : Action) × Member a p.actions × (some.0 ≡ action_expanded (world p) a) = of_map (action_expanded (world p)) p.actions some.0 some.1 in
        inl (any_there (has_meeting_rows p) p.actions from.0 from.1 (meeting_stays p e from.0 from.1 (ap (has_meeting_rows (problem_expanded p)) (sym from.2) ∙ some.2)))

-- ---- the table

params_stay : (w : World) (actions : List Action) → list_any (λ (a : Action). flip (is_empty a.params)) (map (action_expanded w) actions) ≡ list_any (λ (a : Action). flip (is_empty a.params)) actions
params_stay w [] = refl
params_stay w (a ∷ actions) = ap (λ b. flip (is_empty a.params) || b) (params_stay w actions)

kept : (b rest : Bool) → b ≡ true → ((b && true) || rest) ≡ true
kept b rest e = or_first (b && true) rest (and_both b true e refl)

pub problems_carry : (p : Parts) → carries p TrajectoryConstraints ≡ false →
    IsSubset (carries (problem_expanded p)) (row_result Quantifiers (carries p))
unfolding either minus is_in only_if
problems_carry p none FlatTyping h = kept (carries p FlatTyping) _ h
problems_carry p none HierarchicalTyping h = kept (carries p HierarchicalTyping) _ h
problems_carry p none ActionParameters h = kept (carries p ActionParameters) _ (sym (params_stay (world p) p.actions) ∙ h)
problems_carry p none NegativeConditions h =
    kept (carries p NegativeConditions) _ (condition_from p none is_not _ (λ e f m k. condition_there p none is_not f m ((formulas_carry (world p) e f).negative k)) h)
problems_carry p none DisjunctiveConditions h =
    condition_from p none is_disjunctive _
    (λ e f m k. ⊎_elim (λ d. kept (carries p DisjunctiveConditions) _ (condition_there p none is_disjunctive f m d))
    (λ x. or_second (carries p DisjunctiveConditions && true) _ (kept (carries p ExistentialConditions) _ (condition_there p none is_exists f m x)))
    ((formulas_carry (world p) e f).disjunctive k)) h
problems_carry p none Equalities h =
    kept (carries p Equalities) _ (condition_from p none is_equal _ (λ e f m k. condition_there p none is_equal f m ((formulas_carry (world p) e f).equality k)) h)
problems_carry p none ExistentialConditions h = condition_from p none is_exists _ (λ e f m k. never (sym ((formulas_carry (world p) e f).existential) ∙ k)) h
problems_carry p none UniversalConditions h = condition_from p none is_forall _ (λ e f m k. never (sym ((formulas_carry (world p) e f).universal) ∙ k)) h
problems_carry p none ConditionalEffects h =
    kept (carries p ConditionalEffects) _ (row_test p (λ r. flip (is_true_formula r.when)) (λ r. flip (is_true_formula r.when)) (conditional p) h)
problems_carry p none ForallEffects h = absurd (no_row p (row_test p (λ r. flip (is_empty r.vars)) (λ r. false) (λ e row k. k) h))
problems_carry p none ObjectFluents h = kept (carries p ObjectFluents) _ h
problems_carry p none NumericFluents h = kept (carries p NumericFluents) _ h
problems_carry p none NumericConditions h =
    kept (carries p NumericConditions) _ (condition_from p none is_compare _ (λ e f m k. condition_there p none is_compare f m ((formulas_carry (world p) e f).numeric k)) h)
problems_carry p none NumericEffects h =
    kept (carries p NumericEffects) _ (row_test p (λ r. is_numeric r.effect) (λ r. is_numeric r.effect) (λ e row k. sym (numeric_stays e row.effect) ∙ k) h)
problems_carry p none ScaleEffects h =
    kept (carries p ScaleEffects) _ (row_test p (λ r. is_scale r.effect) (λ r. is_scale r.effect) (λ e row k. sym (scale_stays e row.effect) ∙ k) h)
problems_carry p none Metric h = kept (carries p Metric) _ h
problems_carry p none TrajectoryConstraints h = kept (carries p TrajectoryConstraints) _ h
problems_carry p none EffectOverlap h =
    ⊎_elim (λ k. kept (carries p EffectOverlap) _ k)
    (λ k. or_second (carries p EffectOverlap && true) _ (or_second (carries p ExistentialConditions && false) _ (and_both (carries p ForallEffects) true k refl))) (overlap_stays p h)
problems_carry p none ObjectTermsUnderForall h =
    absurd (no_row p (row_test p (λ r. flip (is_empty r.vars) && touches_objects r.effect) (λ r. false) (λ e row k. k) h))
problems_carry p none PartialFluents h =
    kept (carries p PartialFluents) _
    (⊎_elim (λ k. or_first (list_any (λ d. gives_an_object d && flip (is_total p d)) p.functions) (some_row p (λ r. is_undefine r.effect)) k)
    (λ k. or_second (list_any (λ d. gives_an_object d && flip (is_total p d)) p.functions) (some_row p (λ r. is_undefine r.effect))
    (row_test p (λ r. is_undefine r.effect) (λ r. is_undefine r.effect) (λ e row k. sym (undefine_stays e row.effect) ∙ k) k))
    (or_cases (list_any (λ d. gives_an_object d && flip (is_total p d)) p.functions) (some_row (problem_expanded p) (λ r. is_undefine r.effect)) h))
