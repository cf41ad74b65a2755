-- The features of the problem without types are within the table's row.
use Rattle.std.proofs.Common.{◌≡◌, ◌⊎◌, Bool, true, false, not as flip, ◌||◌, ◌&&◌, List, [], ◌∷◌, map, refl, ap, sym, ◌∙◌, subst, inl, inr, ⊎_elim}
use Rattle.std.specs.List.{list_any, flat_map}
use Rattle.up_text.specs.Lists.{Member}
use Rattle.up_tree.specs.declared.action.Action.{Action}
use Rattle.up_tree.specs.declared.action.Row.{Row}
use Rattle.up_tree.specs.declared.formula.Formula.{Formula}
use Rattle.up_tree.specs.declared.problem.Constraint.{Constraint}
use Rattle.up_tree.specs.declared.problem.Function.{Function}
use Rattle.up_tree.specs.declared.problem.Parts.{Parts}
use Rattle.up_tree.specs.declared.term.Typed.{Typed}
use Rattle.up_tree.specs.Simplify.{is_empty, is_true_formula}
use Rattle.up_tree.specs.WellFormed.{formulas_of}
use Rattle.up_kind.specs.declared.feature.Feature.TheVariants.{FlatTyping, HierarchicalTyping, ActionParameters, NegativeConditions, DisjunctiveConditions, Equalities, ExistentialConditions, UniversalConditions, ConditionalEffects, ForallEffects, ObjectFluents, NumericFluents, NumericConditions, NumericEffects, ScaleEffects, Metric, TrajectoryConstraints, EffectOverlap, ObjectTermsUnderForall, PartialFluents}
use Rattle.up_kind.specs.Features.{IsSubset, is_in, either, minus}
use Rattle.up_kind.specs.Carried.{anywhere, conditions, some_condition, some_row, carries, is_total, gives_an_object, is_not, is_disjunctive, is_equal, is_exists, is_forall, is_compare, is_numeric, is_scale, is_undefine, touches_objects}
use Rattle.up_compiler.specs.declared.id.CompilerId.TheVariants.{Types}
use Rattle.up_compiler.specs.Table.{row_result, only_if}
use Rattle.step_laws.specs.Naming.{Stands}
use Rattle.compiling_laws.proofs.Lists.{any_true, any_from, member_left, member_right, member_either, member_map, of_map, member_flat, of_flat}
use Rattle.expansion_kinds.proofs.Tests.{never, or_cases, or_first, or_second, and_first}
use Rattle.expansion_kinds.proofs.Passing.{either_anywhere}
use Rattle.types_laws.specs.Guards.{guards, guard_atoms, of_top, and_guarded, guarded_condition, guarded}
use Rattle.types_laws.specs.Types.{top_function, guarded_row, guarded_action, guarded_pairs, untyped}
use Rattle.types_laws.proofs.Passing.{Passes, guards_are_atoms, in_guarded, in_condition, passed, equal_passes, exists_passes, forall_passes, compare_passes, not_passes, disjunctive_passes, not_or_forall, split_or_forall, same_always}
use Rattle.types_laws.proofs.Plans.{NoObjectFunction}

same_empty : (vars : List Typed) → is_empty (map of_top vars) ≡ is_empty vars
same_empty [] = refl
same_empty (x ∷ vars) = refl

module _ (p : Parts) where
  abbrev q : Parts
  q = untyped p

  abbrev pair_of : Action → Stands
  pair_of a = record { new = guarded_action (guards p) a; old = a }

  -- each action is a guarded one
  action_of : (b : Action) → Member b q.actions → (a : Action) × Member a p.actions × (b ≡ guarded_action (guards p) a)
  action_of b m =
      let pair : (pair : Stands) × Member pair (guarded_pairs p) × (b ≡ pair.new) = of_map (λ (pair : Stands). pair.new) (guarded_pairs p) b m in
      let a : (a : Action) × Member a p.actions × (pair.0 ≡ pair_of a) = of_map (λ a. let x : Stands = pair_of a in x) p.actions pair.0 pair.1 in
      (a.0, a.1, pair.2 ∙ ap (λ (pair : Stands). pair.new) a.2)

  of_actions : (t u : Action → Bool) → ((a : Action) → t (guarded_action (guards p) a) ≡ true → u a ≡ true) → list_any t q.actions ≡ true → list_any u p.actions ≡ true
  of_actions t u each h =
      let b : (b : Action) × Member b q.actions × (t b ≡ true) = any_true t q.actions h in
      let a : (a : Action) × Member a p.actions × (b.0 ≡ guarded_action (guards p) a) = action_of b.0 b.1 in
      any_from u p.actions a.0 a.1 (each a.0 (subst (λ (x : Action). t x ≡ true) a.2 b.2))

  of_rows : (t u : Row → Bool) → ((r : Row) → t (guarded_row (guards p) r) ≡ true → u r ≡ true) → some_row q t ≡ true → some_row p u ≡ true
  of_rows t u each = of_actions (λ a. list_any t a.rows) (λ a. list_any u a.rows) (λ a h.
      let s : (s : Row) × Member s (map (guarded_row (guards p)) a.rows) × (t s ≡ true) = any_true t (map (guarded_row (guards p)) a.rows) h in
      let r : (r : Row) × Member r a.rows × (s.0 ≡ guarded_row (guards p) r) = of_map (guarded_row (guards p)) a.rows s.0 s.1 in
      any_from u a.rows r.0 r.1 (each r.0 (subst (λ (x : Row). t x ≡ true) r.2 s.2)))

  -- ---- conditions

  abbrev of_action : Action → List Formula
  of_action a = a.pre ∷ map (λ (r : Row). r.when) a.rows

  abbrev of_constraints : List Formula
  of_constraints = flat_map (λ (c : Constraint). formulas_of c.rule) p.constraints

  in_action : (a : Action) → Member a p.actions → (f : Formula) → Member f (of_action a) → Member f (conditions p)
  in_action a m f k = member_left f (flat_map of_action p.actions) (p.goal ∷ of_constraints) (member_flat of_action a f p.actions m k)

  module _ (t u : Formula → Bool) (passes : Passes t u) where
    told : (f : Formula) → Member f (conditions p) → anywhere u f ≡ true → some_condition p u ≡ true
    told f m h = any_from (anywhere u) (conditions p) f m h

    of_pre : (a : Action) → Member a p.actions → (f : Formula) → f ≡ and_guarded (guard_atoms (guards p) a.params) (guarded (guards p) a.pre) → anywhere t f ≡ true → some_condition p u ≡ true
    of_pre a m f is h =
        told a.pre (in_action a m a.pre (inl refl)) (passed t u passes (guards p) a.pre
        (in_guarded t u passes (guard_atoms (guards p) a.params) (guarded (guards p) a.pre) (guards_are_atoms (guards p) a.params) (subst (λ (x : Formula). anywhere t x ≡ true) is h)))

    of_when : (a : Action) → Member a p.actions → (f : Formula) → Member f (map (λ (r : Row). r.when) (map (guarded_row (guards p)) a.rows)) → anywhere t f ≡ true → some_condition p u ≡ true
    of_when a m f k h =
        let s : (s : Row) × Member s (map (guarded_row (guards p)) a.rows) × (f ≡ s.when) = of_map (λ (r : Row). r.when) (map (guarded_row (guards p)) a.rows) f k in
        let r : (r : Row) × Member r a.rows × (s.0 ≡ guarded_row (guards p) r) = of_map (guarded_row (guards p)) a.rows s.0 s.1 in
        told r.0.when (in_action a m r.0.when (inr (member_map (λ (r : Row). r.when) a.rows r.0 r.1))) (passed t u passes (guards p) r.0.when
        (in_condition t u passes (guard_atoms (guards p) r.0.vars) (guarded (guards p) r.0.when) (guards_are_atoms (guards p) r.0.vars)
        (subst (λ (x : Formula). anywhere t x ≡ true) (s.2 ∙ ap (λ (r : Row). r.when) r.2) h)))

    of_goal : (f : Formula) → f ≡ guarded (guards p) p.goal → anywhere t f ≡ true → some_condition p u ≡ true
    of_goal f is h =
        told p.goal (member_right p.goal (flat_map of_action p.actions) (p.goal ∷ of_constraints) (inl refl))
        (passed t u passes (guards p) p.goal (subst (λ (x : Formula). anywhere t x ≡ true) is h))

    pub of_conditions : p.constraints ≡ [] → some_condition q t ≡ true → some_condition p u ≡ true
    of_conditions free h =
        let f : (f : Formula) × Member f (conditions q) × (anywhere t f ≡ true) = any_true (anywhere t) (conditions q) h in
        ⊎_elim
        (λ m. let b : (b : Action) × Member b q.actions × Member f.0 (of_action b) = of_flat of_action f.0 q.actions m in
        let a : (a : Action) × Member a p.actions × (b.0 ≡ guarded_action (guards p) a) = action_of b.0 b.1 in
        ⊎_elim (λ e. of_pre a.0 a.1 f.0 e f.2) (λ k. of_when a.0 a.1 f.0 k f.2) (subst (λ (x : Action). Member f.0 (of_action x)) a.2 b.2))
        (λ m. ⊎_elim (λ e. of_goal f.0 e f.2) (λ k. absurd (subst (λ (cs : List Constraint). Member f.0 (flat_map (λ (c : Constraint). formulas_of c.rule) cs)) free k)) m)
        (member_either f.0 (flat_map of_action q.actions) (q.goal ∷ of_constraints) f.1)

  -- one of two tests holds somewhere
  two_conditions : (t u : Formula → Bool) → some_condition p (λ f. t f || u f) ≡ true → (some_condition p t ≡ true) ⊎ (some_condition p u ≡ true)
  two_conditions t u h =
      let f : (f : Formula) × Member f (conditions p) × (anywhere (λ f. t f || u f) f ≡ true) = any_true (anywhere (λ f. t f || u f)) (conditions p) h in
      ⊎_elim (λ e. inl (any_from (anywhere t) (conditions p) f.0 f.1 e)) (λ e. inr (any_from (anywhere u) (conditions p) f.0 f.1 e)) (either_anywhere t u f.0 f.2)

  -- ---- rows

  -- a condition comes in where there was one, or where there are variables
  conditional : (r : Row) → flip (is_true_formula (guarded_condition (guard_atoms (guards p) r.vars) (guarded (guards p) r.when))) ≡ true →
      (flip (is_true_formula r.when) || flip (is_empty r.vars)) ≡ true
  conditional r h = by r.vars h
    where
      by : (vars : List Typed) → flip (is_true_formula (guarded_condition (guard_atoms (guards p) vars) (guarded (guards p) r.when))) ≡ true → (flip (is_true_formula r.when) || flip (is_empty vars)) ≡ true
      by [] h = or_first (flip (is_true_formula r.when)) false (ap flip (sym (same_always (guards p) r.when)) ∙ h)
      by (x ∷ vars) h = or_second (flip (is_true_formula r.when)) true refl

  two_rows : (t u : Row → Bool) → some_row p (λ r. t r || u r) ≡ true → (some_row p t ≡ true) ⊎ (some_row p u ≡ true)
  two_rows t u h =
      let a : (a : Action) × Member a p.actions × (list_any (λ (r : Row). t r || u r) a.rows ≡ true) = any_true (λ (a : Action). list_any (λ (r : Row). t r || u r) a.rows) p.actions h in
      let r : (r : Row) × Member r a.0.rows × ((t r || u r) ≡ true) = any_true (λ (r : Row). t r || u r) a.0.rows a.2 in
      ⊎_elim (λ e. inl (any_from (λ (a : Action). list_any t a.rows) p.actions a.0 a.1 (any_from t a.0.rows r.0 r.1 e)))
      (λ e. inr (any_from (λ (a : Action). list_any u a.rows) p.actions a.0 a.1 (any_from u a.0.rows r.0 r.1 e))) (or_cases (t r.0) (u r.0) r.2)

  -- ---- functions

  of_functions : (t u : Function → Bool) → ((d : Function) → Member d p.functions → t (top_function d) ≡ true → u d ≡ true) → list_any t q.functions ≡ true → list_any u p.functions ≡ true
  of_functions t u each h =
      let f : (f : Function) × Member f q.functions × (t f ≡ true) = any_true t q.functions h in
      let d : (d : Function) × Member d p.functions × (f.0 ≡ top_function d) = of_map top_function p.functions f.0 f.1 in
      any_from u p.functions d.0 d.1 (each d.0 d.1 (subst (λ (x : Function). t x ≡ true) d.2 f.2))

  partial : NoObjectFunction p → carries q PartialFluents ≡ true → carries p PartialFluents ≡ true
  partial plain h =
      ⊎_elim
      (λ e. let f : (f : Function) × Member f q.functions × ((gives_an_object f && flip (is_total q f)) ≡ true) = any_true (λ f. gives_an_object f && flip (is_total q f)) q.functions e in
      let d : (d : Function) × Member d p.functions × (f.0 ≡ top_function d) = of_map top_function p.functions f.0 f.1 in
      never (sym (plain d.0 d.1) ∙ ap gives_an_object (sym d.2) ∙ and_first (gives_an_object f.0) (flip (is_total q f.0)) f.2))
      (λ e. or_second (list_any (λ d. gives_an_object d && flip (is_total p d)) p.functions) (some_row p (λ r. is_undefine r.effect))
      (of_rows (λ r. is_undefine r.effect) (λ r. is_undefine r.effect) (λ r h. h) e))
      (or_cases (list_any (λ f. gives_an_object f && flip (is_total q f)) q.functions) (some_row q (λ r. is_undefine r.effect)) h)

  -- ---- the row

  stays : (b c : Bool) → b ≡ true → ((b && true) || c) ≡ true
  stays true c e = refl
  stays false c e = never e

  negative : (b c u v : Bool) → (b ≡ true) ⊎ (u ≡ true) → ((b && true) || ((u && true) || v)) ≡ true
  negative true c u v h = refl
  negative false c true v h = refl
  negative false c false v (inl e) = never e
  negative false c false v (inr e) = never e

  condition : (b u v : Bool) → (b ≡ true) ⊎ (v ≡ true) → ((b && true) || (u || (v && true))) ≡ true
  condition true u v h = refl
  condition false u true (inl e) = never e
  condition false true true (inr e) = refl
  condition false false true (inr e) = refl
  condition false u false (inl e) = never e
  condition false u false (inr e) = never e

  overlap : (b : Bool) → ((b && true) || true) ≡ true
  overlap true = refl
  overlap false = refl

  pub within_row : NoObjectFunction p → p.constraints ≡ [] → IsSubset (carries q) (row_result Types (carries p))
  unfolding either minus is_in only_if
  within_row plain free FlatTyping h = never h
  within_row plain free HierarchicalTyping h = never h
  within_row plain free ActionParameters h =
      stays _ _ (of_actions (λ a. flip (is_empty a.params)) (λ a. flip (is_empty a.params)) (λ a h. ap flip (sym (same_empty a.params)) ∙ h) h)
  within_row plain free NegativeConditions h =
      negative _ true _ _ (two_conditions is_not is_forall (of_conditions is_not not_or_forall not_passes free h))
  within_row plain free DisjunctiveConditions h =
      negative _ true _ _ (two_conditions is_disjunctive is_forall (of_conditions is_disjunctive split_or_forall disjunctive_passes free h))
  within_row plain free Equalities h = stays _ _ (of_conditions is_equal is_equal equal_passes free h)
  within_row plain free ExistentialConditions h = stays _ _ (of_conditions is_exists is_exists exists_passes free h)
  within_row plain free UniversalConditions h = stays _ _ (of_conditions is_forall is_forall forall_passes free h)
  within_row plain free ConditionalEffects h =
      condition _ _ _ (two_rows (λ r. flip (is_true_formula r.when)) (λ r. flip (is_empty r.vars))
      (of_rows (λ r. flip (is_true_formula r.when)) (λ r. flip (is_true_formula r.when) || flip (is_empty r.vars)) conditional h))
  within_row plain free ForallEffects h = stays _ _ (of_rows (λ r. flip (is_empty r.vars)) (λ r. flip (is_empty r.vars)) (λ r h. ap flip (sym (same_empty r.vars)) ∙ h) h)
  within_row plain free ObjectFluents h = stays _ _ (of_functions gives_an_object gives_an_object (λ d m h. h) h)
  within_row plain free NumericFluents h = stays _ _ (of_functions (λ d. flip (gives_an_object d)) (λ d. flip (gives_an_object d)) (λ d m h. h) h)
  within_row plain free NumericConditions h = stays _ _ (of_conditions is_compare is_compare compare_passes free h)
  within_row plain free NumericEffects h = stays _ _ (of_rows (λ r. is_numeric r.effect) (λ r. is_numeric r.effect) (λ r h. h) h)
  within_row plain free ScaleEffects h = stays _ _ (of_rows (λ r. is_scale r.effect) (λ r. is_scale r.effect) (λ r h. h) h)
  within_row plain free Metric h = stays _ _ h
  within_row plain free TrajectoryConstraints h = stays _ _ h
  within_row plain free EffectOverlap h = overlap _
  within_row plain free ObjectTermsUnderForall h =
      stays _ _ (of_rows (λ r. flip (is_empty r.vars) && touches_objects r.effect) (λ r. flip (is_empty r.vars) && touches_objects r.effect)
      (λ r h. ap (λ b. flip b && touches_objects r.effect) (sym (same_empty r.vars)) ∙ h) h)
  within_row plain free PartialFluents h = stays _ _ (partial plain h)
