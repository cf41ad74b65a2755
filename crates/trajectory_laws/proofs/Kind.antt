-- The problem with monitors carries no feature but those of the table's row.
use Rattle.std.proofs.Common.{◌≡◌, Bool, true, false, not as flip, ◌&&◌, ◌||◌, true≢false, List, [], ◌∷◌, ◌++◌, map, flat_map, refl, ap, sym, ◌∙◌, subst, inl, inr}
use Rattle.std.specs.List.{list_any}
use Rattle.up_text.specs.declared.name.Name.{Name}
use Rattle.up_text.specs.Lists.{Every, Member}
use Rattle.up_tree.specs.declared.formula.Formula.{Formula, And, And', Or, Or', Atom, Equal, Compare, Row_of-Formula, end_of-Formula, more_of-Formula}
use Rattle.up_tree.specs.declared.action.Action.{Action}
use Rattle.up_tree.specs.declared.action.Row.{Row}
use Rattle.up_tree.specs.declared.problem.Constraint.{Constraint}
use Rattle.up_tree.specs.declared.problem.Parts.{Parts}
use Rattle.up_tree.specs.Nodes.{not, imply, exists, forall}
use Rattle.up_tree.specs.Objects.{world, tuples}
use Rattle.up_tree.specs.Simplify.{is_empty}
use Rattle.up_tree.specs.WellFormed.{formulas_of}
use Rattle.up_kind.specs.declared.feature.Feature.TheVariants.{FlatTyping, HierarchicalTyping, ActionParameters, NegativeConditions, DisjunctiveConditions, Equalities, ExistentialConditions, UniversalConditions, ConditionalEffects, ForallEffects, ObjectFluents, NumericFluents, NumericConditions, NumericEffects, ScaleEffects, Metric, TrajectoryConstraints, EffectOverlap, ObjectTermsUnderForall, PartialFluents}
use Rattle.up_kind.specs.Features.{IsSubset, is_in, either, minus}
use Rattle.up_kind.specs.Carried.{anywhere, in_row, is_equal, is_exists, is_forall, is_compare, conditions, some_condition, some_row, is_scale, is_numeric, is_undefine, touches_objects, carries}
use Rattle.up_compiler.specs.declared.id.CompilerId.TheVariants.{Trajectory}
use Rattle.up_compiler.specs.Table.{row_result}
use Rattle.semantics_laws.specs.Replaced.{Replacement, replacement, replaced, substituted}
use Rattle.semantics_laws.proofs.Lists.{each_as, each_map, each_flat_map}
use Rattle.expansion_laws.specs.Renamed.{renamed, renamed_members}
use Rattle.expansion_laws.specs.Substituted.{substituted_rule}
use Rattle.condition_laws.proofs.Holding.{left, right, of_two, any_of_both, anywhere-And, anywhere-Or}
use Rattle.compiling_laws.proofs.Lists.{any_from, member_left, member_right, member_flat, of_flat, of_map}
use Rattle.step_laws.proofs.Lists.{every_from}
use Rattle.compiling_laws.proofs.Names.{every_append}
use Rattle.compiling_laws.specs.Forms.{symbols}
use Rattle.trajectory_laws.specs.Variables.{Renaming, with_new_names}
use Rattle.trajectory_laws.specs.Trajectory.{instances_of, constraint_instances, Watch, always, sometime, at_most_once, sometime_after, sometime_before, watches, holds, adds, deletes, to_precondition, to_rows, to_goal, watched_formulas, watch_by, action_renamings, watched_action, all_constraint_variables, monitored}
use Rattle.trajectory_laws.proofs.Kept.{rule_of}
use Rattle.trajectory_laws.proofs.Setting.{rules_are, formulas_are, substituted_formulas}
use Rattle.expansion_kinds.proofs.Nodes.{formulas_keep_nodes}

-- ---- tests of nodes that ask for no more than monitors need

pub record IsQuiet (test : Formula → Bool) : Type 0 where
  pub ands : (fs : List Formula) → test (And fs) ≡ false
  pub ors : (fs : List Formula) → test (Or fs) ≡ false
  pub nots : (f : Formula) → test (not f) ≡ false
  pub atoms : (m : Name) → test (holds m) ≡ false
  pub named : (from to : Name) (f : Formula) → test (renamed from to f) ≡ test f
  pub replaces : (r : Replacement) (f : Formula) → anywhere test (replaced r f) ≡ anywhere test f

equal_named : (from to : Name) (f : Formula) → is_equal (renamed from to f) ≡ is_equal f
unfolding renamed
equal_named from to (And' n fs) = refl
equal_named from to (Or' n fs) = refl
equal_named from to (not f) = refl
equal_named from to (imply f g) = refl
equal_named from to (exists vars f) = refl
equal_named from to (forall vars f) = refl
equal_named from to (Atom name ts) = refl
equal_named from to (Equal t u) = refl
equal_named from to (Compare r a b) = refl

exists_named : (from to : Name) (f : Formula) → is_exists (renamed from to f) ≡ is_exists f
unfolding renamed
exists_named from to (And' n fs) = refl
exists_named from to (Or' n fs) = refl
exists_named from to (not f) = refl
exists_named from to (imply f g) = refl
exists_named from to (exists vars f) = refl
exists_named from to (forall vars f) = refl
exists_named from to (Atom name ts) = refl
exists_named from to (Equal t u) = refl
exists_named from to (Compare r a b) = refl

forall_named : (from to : Name) (f : Formula) → is_forall (renamed from to f) ≡ is_forall f
unfolding renamed
forall_named from to (And' n fs) = refl
forall_named from to (Or' n fs) = refl
forall_named from to (not f) = refl
forall_named from to (imply f g) = refl
forall_named from to (exists vars f) = refl
forall_named from to (forall vars f) = refl
forall_named from to (Atom name ts) = refl
forall_named from to (Equal t u) = refl
forall_named from to (Compare r a b) = refl

compare_named : (from to : Name) (f : Formula) → is_compare (renamed from to f) ≡ is_compare f
unfolding renamed
compare_named from to (And' n fs) = refl
compare_named from to (Or' n fs) = refl
compare_named from to (not f) = refl
compare_named from to (imply f g) = refl
compare_named from to (exists vars f) = refl
compare_named from to (forall vars f) = refl
compare_named from to (Atom name ts) = refl
compare_named from to (Equal t u) = refl
compare_named from to (Compare r a b) = refl

equal_quiet : IsQuiet is_equal
equal_quiet = record { ands = λ fs. refl; ors = λ fs. refl; nots = λ f. refl; atoms = λ m. refl; named = equal_named; replaces = λ r f. (formulas_keep_nodes r f).equality }

exists_quiet : IsQuiet is_exists
exists_quiet = record { ands = λ fs. refl; ors = λ fs. refl; nots = λ f. refl; atoms = λ m. refl; named = exists_named; replaces = λ r f. (formulas_keep_nodes r f).existential }

forall_quiet : IsQuiet is_forall
forall_quiet = record { ands = λ fs. refl; ors = λ fs. refl; nots = λ f. refl; atoms = λ m. refl; named = forall_named; replaces = λ r f. (formulas_keep_nodes r f).universal }

compare_quiet : IsQuiet is_compare
compare_quiet = record { ands = λ fs. refl; ors = λ fs. refl; nots = λ f. refl; atoms = λ m. refl; named = compare_named; replaces = λ r f. (formulas_keep_nodes r f).numeric }

-- ---- conditions

module _ (p : Parts) (test : Formula → Bool) (quiet : IsQuiet test) where
  mutual
    unfolding anywhere in_row renamed renamed_members

    same_anywhere : (from to : Name) (f : Formula) → anywhere test (renamed from to f) ≡ anywhere test f
    same_anywhere from to (And' n fs) = λ i. quiet.named from to (And' n fs) i || same_in_row from to fs i
    same_anywhere from to (Or' n fs) = λ i. quiet.named from to (Or' n fs) i || same_in_row from to fs i
    same_anywhere from to (not f) = λ i. quiet.named from to (not f) i || same_anywhere from to f i
    same_anywhere from to (imply f g) = λ i. quiet.named from to (imply f g) i || (same_anywhere from to f i || same_anywhere from to g i)
    same_anywhere from to (exists vars f) = λ i. quiet.named from to (exists vars f) i || same_anywhere from to f i
    same_anywhere from to (forall vars f) = λ i. quiet.named from to (forall vars f) i || same_anywhere from to f i
    same_anywhere from to (Atom name ts) = quiet.named from to (Atom name ts)
    same_anywhere from to (Equal t u) = quiet.named from to (Equal t u)
    same_anywhere from to (Compare r a b) = quiet.named from to (Compare r a b)

    same_in_row : (from to : Name) {n : _} (fs : Row_of-Formula n) → in_row test (renamed_members from to fs) ≡ in_row test fs
    same_in_row from to end_of-Formula = refl
    same_in_row from to (more_of-Formula f fs) = λ i. same_anywhere from to f i || same_in_row from to fs i

  same_new_names : (rs : List Renaming) (f : Formula) → anywhere test (with_new_names rs f) ≡ anywhere test f
  same_new_names [] f = refl
  same_new_names (r ∷ rs) f = same_new_names rs (renamed r.old r.new f) ∙ same_anywhere r.old r.new f

  -- where the formula has it, the source has
  abbrev Gives : Formula → Type 0
  Gives f = anywhere test f ≡ true → some_condition p test ≡ true

  gives_holds : (m : Name) → Gives (holds m)
  unfolding anywhere
  gives_holds m h = absurd (true≢false (sym h ∙ quiet.atoms m))

  gives_not : (f : Formula) → Gives f → Gives (not f)
  unfolding anywhere
  gives_not f g h = elim (of_two (test (not f)) (anywhere test f) h) [ inl e ↦ absurd (true≢false (sym e ∙ quiet.nots f)) | inr k ↦ g k ]

  gives_any : (fs : List Formula) → Every Gives fs → list_any (anywhere test) fs ≡ true → some_condition p test ≡ true
  gives_any [] each h = absurd (true≢false (sym h))
  gives_any (f ∷ fs) each h = elim (of_two (anywhere test f) (list_any (anywhere test) fs) h) [ inl k ↦ each.0 k | inr k ↦ gives_any fs each.1 k ]

  gives_and : (fs : List Formula) → Every Gives fs → Gives (And fs)
  gives_and fs each h = elim (of_two (test (And fs)) (list_any (anywhere test) fs) (sym (anywhere-And test fs) ∙ h)) [
    | inl e ↦ absurd (true≢false (sym e ∙ quiet.ands fs))
    | inr k ↦ gives_any fs each k
  ]

  gives_or : (fs : List Formula) → Every Gives fs → Gives (Or fs)
  gives_or fs each h = elim (of_two (test (Or fs)) (list_any (anywhere test) fs) (sym (anywhere-Or test fs) ∙ h)) [
    | inl e ↦ absurd (true≢false (sym e ∙ quiet.ors fs))
    | inr k ↦ gives_any fs each k
  ]

  abbrev AllGive : Watch → Type 0
  AllGive x = Every Gives (watched_formulas x)

  precondition_gives : (x : Watch) → AllGive x → Every Gives (to_precondition x)
  precondition_gives (always f) h = (h.0, tt)
  precondition_gives (sometime f had) h = tt
  precondition_gives (at_most_once f seen gone) h = (gives_not (And (f ∷ holds gone ∷ [])) (gives_and (f ∷ holds gone ∷ []) (h.0, (gives_holds gone, tt))), tt)
  precondition_gives (sometime_after f g due) h = tt
  precondition_gives (sometime_before f g was) h = (gives_or (not f ∷ holds was ∷ []) (gives_not f h.0, (gives_holds was, tt)), tt)

  rows_give : (x : Watch) → AllGive x → Every (λ r. Gives r.when) (to_rows x)
  rows_give (always f) h = tt
  rows_give (sometime f had) h = (h.0, tt)
  rows_give (at_most_once f seen gone) h = (h.0, (gives_and (holds seen ∷ not f ∷ []) (gives_holds seen, (gives_not f h.0, tt)), tt))
  rows_give (sometime_after f g due) h = (h.1.0, (gives_and (f ∷ not g ∷ []) (h.0, (gives_not g h.1.0, tt)), tt))
  rows_give (sometime_before f g was) h = (h.1.0, tt)

  goal_gives : (x : Watch) → AllGive x → Gives (to_goal x)
  goal_gives (always f) h = h.0
  goal_gives (sometime f had) h = gives_or (holds had ∷ f ∷ []) (gives_holds had, (h.0, tt))
  goal_gives (at_most_once f seen gone) h = gives_not (And (f ∷ holds gone ∷ [])) (gives_and (f ∷ holds gone ∷ []) (h.0, (gives_holds gone, tt)))
  goal_gives (sometime_after f g due) h =
      gives_or (g ∷ And (not f ∷ not (holds due) ∷ []) ∷ []) (h.1.0, (gives_and (not f ∷ not (holds due) ∷ []) (gives_not f h.0, (gives_not (holds due) (gives_holds due), tt)), tt))
  goal_gives (sometime_before f g was) h = gives_or (not f ∷ holds was ∷ []) (gives_not f h.0, (gives_holds was, tt))

  -- ---- the source's own conditions

  abbrev before : List Formula
  before = flat_map (λ (a : Action). a.pre ∷ map (λ (r : Row). r.when) a.rows) p.actions

  abbrev behind : List Formula
  behind = flat_map (λ (c : Constraint). formulas_of c.rule) p.constraints

  own : (f : Formula) → Member f (conditions p) → Gives f
  own f m h = any_from (anywhere test) (conditions p) f m h

  of_action : (a : Action) → Member a p.actions → (f : Formula) → Member f (a.pre ∷ map (λ (r : Row). r.when) a.rows) → Gives f
  of_action a at f m = own f (member_left f before (p.goal ∷ behind) (member_flat (λ (a : Action). a.pre ∷ map (λ (r : Row). r.when) a.rows) a f p.actions at m))

  of_goal : Gives p.goal
  of_goal = own p.goal (member_right p.goal before (p.goal ∷ behind) (inl refl))

  of_constraint : (c : Constraint) → Member c p.constraints → (f : Formula) → Member f (formulas_of c.rule) → Gives f
  of_constraint c at f m = own f (member_right f before (p.goal ∷ behind) (inr (member_flat (λ (c : Constraint). formulas_of c.rule) c f p.constraints at m)))

  instances_give : Every (λ rule. Every Gives (formulas_of rule)) (constraint_instances p)
  instances_give = every_from (λ rule. Every Gives (formulas_of rule)) (constraint_instances p) (λ rule m.
      let c : (c : Constraint) × Member c p.constraints × Member rule (instances_of (world p) c) = of_flat (instances_of (world p)) rule p.constraints m in
      let tuple : (tuple : List Name) × Member tuple (tuples (world p) c.0.vars) × (rule ≡ substituted_rule c.0.vars tuple c.0.rule) =
      of_map (λ tuple. substituted_rule c.0.vars tuple c.0.rule) (tuples (world p) c.0.vars) rule c.2 in
      subst (λ rule. Every Gives (formulas_of rule)) (sym tuple.2)
      (subst (Every Gives) (sym (substituted_formulas c.0.vars tuple.0 c.0.rule))
      (each_map Gives (substituted c.0.vars tuple.0) (formulas_of c.0.rule) (every_from (λ f. Gives (substituted c.0.vars tuple.0 f)) (formulas_of c.0.rule) (λ f k h.
      of_constraint c.0 c.1 f k (sym (quiet.replaces (replacement c.0.vars tuple.0) f) ∙ h))))))

  watches_from : (xs : List Watch) → Every (λ rule. Every Gives (formulas_of rule)) (map rule_of xs) → Every AllGive xs
  watches_from [] h = tt
  watches_from (x ∷ xs) h = (subst (Every Gives) (sym (formulas_are x)) h.0, watches_from xs h.1)

  watches_give : Every AllGive (watches p)
  watches_give = watches_from (watches p) (subst (Every (λ rule. Every Gives (formulas_of rule))) (sym (rules_are (symbols p) (constraint_instances p))) instances_give)

  renamed_give : (rs : List Renaming) (x : Watch) → AllGive x → AllGive (watch_by (with_new_names rs) x)
  renamed_give rs (always f) h = (λ k. h.0 (sym (same_new_names rs f) ∙ k), tt)
  renamed_give rs (sometime f had) h = (λ k. h.0 (sym (same_new_names rs f) ∙ k), tt)
  renamed_give rs (at_most_once f seen gone) h = (λ k. h.0 (sym (same_new_names rs f) ∙ k), tt)
  renamed_give rs (sometime_after f g due) h = (λ k. h.0 (sym (same_new_names rs f) ∙ k), (λ k. h.1.0 (sym (same_new_names rs g) ∙ k), tt))
  renamed_give rs (sometime_before f g was) h = (λ k. h.0 (sym (same_new_names rs f) ∙ k), (λ k. h.1.0 (sym (same_new_names rs g) ∙ k), tt))

  abbrev xs : List Watch
  xs = watches p

  map_append : (as_ bs : List Row) → map (λ (r : Row). r.when) (as_ ++ bs) ≡ map (λ (r : Row). r.when) as_ ++ map (λ (r : Row). r.when) bs
  map_append [] bs = refl
  map_append (r ∷ rs) bs = ap (λ l. r.when ∷ l) (map_append rs bs)

  action_gives : (a : Action) → Member a p.actions →
      Every Gives (let b = watched_action (all_constraint_variables p) xs a in b.pre ∷ map (λ (r : Row). r.when) b.rows)
  action_gives a at =
      let rs : List Renaming = action_renamings (all_constraint_variables p) xs a in
      let ys : List Watch = map (watch_by (with_new_names rs)) xs in
      let each : Every AllGive ys = each_map AllGive (watch_by (with_new_names rs)) xs (each_as AllGive (λ x. AllGive (watch_by (with_new_names rs) x)) (renamed_give rs) xs watches_give) in (
        gives_and (a.pre ∷ flat_map to_precondition ys) (of_action a at a.pre (inl refl), each_flat_map Gives to_precondition ys (each_as AllGive (λ x. Every Gives (to_precondition x)) precondition_gives ys each)),
        subst (Every Gives) (sym (map_append a.rows (flat_map to_rows ys)))
            (every_append Gives (map (λ (r : Row). r.when) a.rows) (map (λ (r : Row). r.when) (flat_map to_rows ys))
            (every_from Gives (map (λ (r : Row). r.when) a.rows) (λ f m. of_action a at f (inr m)))
            (each_map Gives (λ (r : Row). r.when) (flat_map to_rows ys) (each_flat_map (λ (r : Row). Gives r.when) to_rows ys (each_as AllGive (λ x. Every (λ (r : Row). Gives r.when) (to_rows x)) rows_give ys each)))),
      )

  pub no_more : some_condition (monitored p) test ≡ true → some_condition p test ≡ true
  no_more h =
      gives_any (conditions (monitored p))
      (every_append Gives (flat_map (λ (a : Action). a.pre ∷ map (λ (r : Row). r.when) a.rows) (monitored p).actions) ((monitored p).goal ∷ [])
      (each_flat_map Gives (λ (a : Action). a.pre ∷ map (λ (r : Row). r.when) a.rows) (monitored p).actions
      (each_map (λ (b : Action). Every Gives (b.pre ∷ map (λ (r : Row). r.when) b.rows)) (watched_action (all_constraint_variables p) xs) p.actions
      (every_from (λ a. Every Gives (let b = watched_action (all_constraint_variables p) xs a in b.pre ∷ map (λ (r : Row). r.when) b.rows)) p.actions action_gives)))
      (gives_and (p.goal ∷ map to_goal xs) (of_goal, each_map Gives to_goal xs (each_as AllGive (λ x. Gives (to_goal x)) goal_gives xs watches_give)), tt)) h

-- ---- rows

module _ (p : Parts) (test : Row → Bool) (adding : (f : Formula) (m : Name) → test (adds f m) ≡ false) (deleting : (f : Formula) (m : Name) → test (deletes f m) ≡ false) where
  none_added : (x : Watch) → Every (λ r. test r ≡ false) (to_rows x)
  none_added (always f) = tt
  none_added (sometime f had) = (adding f had, tt)
  none_added (at_most_once f seen gone) = (adding f seen, (adding (And (holds seen ∷ not f ∷ [])) gone, tt))
  none_added (sometime_after f g due) = (deleting g due, (adding (And (f ∷ not g ∷ [])) due, tt))
  none_added (sometime_before f g was) = (adding g was, tt)

  all_none : (ys : List Watch) → Every (λ r. test r ≡ false) (flat_map to_rows ys)
  all_none [] = tt
  all_none (y ∷ ys) = every_append (λ (r : Row). test r ≡ false) (to_rows y) (flat_map to_rows ys) (none_added y) (all_none ys)

  none_of : (rows : List Row) → Every (λ r. test r ≡ false) rows → list_any test rows ≡ true → ⊥
  none_of [] each h = true≢false (sym h)
  none_of (r ∷ rows) each h = elim (of_two (test r) (list_any test rows) h) [ inl e ↦ true≢false (sym e ∙ each.0) | inr k ↦ none_of rows each.1 k ]

  abbrev g : Action → Action
  g = watched_action (all_constraint_variables p) (watches p)

  rows_from : (actions : List Action) → list_any (λ (a : Action). list_any test a.rows) (map g actions) ≡ true → list_any (λ (a : Action). list_any test a.rows) actions ≡ true
  rows_from [] h = h
  rows_from (a ∷ actions) h =
      let ys : List Watch = map (watch_by (with_new_names (action_renamings (all_constraint_variables p) (watches p) a))) (watches p) in
      elim (of_two (list_any test (a.rows ++ flat_map to_rows ys)) (list_any (λ (a : Action). list_any test a.rows) (map g actions)) h) [
        | inl k ↦ elim (of_two (list_any test a.rows) (list_any test (flat_map to_rows ys)) (sym (any_of_both test a.rows (flat_map to_rows ys)) ∙ k)) [
          | inl e ↦ left (list_any test a.rows) (list_any (λ (a : Action). list_any test a.rows) actions) e
          | inr e ↦ absurd (none_of (flat_map to_rows ys) (all_none ys) e)
        ]
        | inr k ↦ right (list_any test a.rows) (list_any (λ (a : Action). list_any test a.rows) actions) (rows_from actions k)
      ]

  pub no_row_more : some_row (monitored p) test ≡ true → some_row p test ≡ true
  no_row_more h = rows_from p.actions h

-- ---- the table

module _ (p : Parts) where
  -- a feature that the source carries stays in the row, but for the constraints'
  stays : (K : Bool) → K ≡ true → (K && true) || false ≡ true
  stays true h = refl
  stays false h = absurd (true≢false (sym h))

  same_params : (actions : List Action) → list_any (λ (a : Action). flip (is_empty a.params)) (map (watched_action (all_constraint_variables p) (watches p)) actions) ≡ list_any (λ (a : Action). flip (is_empty a.params)) actions
  same_params [] = refl
  same_params (a ∷ actions) = ap (λ b. flip (is_empty a.params) || b) (same_params actions)

  pub within_row : IsSubset (carries (monitored p)) (row_result Trajectory (carries p))
  unfolding either minus is_in
  within_row FlatTyping h = stays (carries p FlatTyping) h
  within_row HierarchicalTyping h = stays (carries p HierarchicalTyping) h
  within_row ActionParameters h = stays (carries p ActionParameters) (sym (same_params p.actions) ∙ h)
  within_row NegativeConditions h = right (carries p NegativeConditions && true) true refl
  within_row DisjunctiveConditions h = right (carries p DisjunctiveConditions && true) true refl
  within_row Equalities h = stays (carries p Equalities) (no_more p is_equal equal_quiet h)
  within_row ExistentialConditions h = stays (carries p ExistentialConditions) (no_more p is_exists exists_quiet h)
  within_row UniversalConditions h = stays (carries p UniversalConditions) (no_more p is_forall forall_quiet h)
  within_row ConditionalEffects h = right (carries p ConditionalEffects && true) true refl
  within_row ForallEffects h = stays (carries p ForallEffects) (no_row_more p (λ (r : Row). flip (is_empty r.vars)) (λ f m. refl) (λ f m. refl) h)
  within_row ObjectFluents h = stays (carries p ObjectFluents) h
  within_row NumericFluents h = stays (carries p NumericFluents) h
  within_row NumericConditions h = stays (carries p NumericConditions) (no_more p is_compare compare_quiet h)
  within_row NumericEffects h = stays (carries p NumericEffects) (no_row_more p (λ (r : Row). is_numeric r.effect) (λ f m. refl) (λ f m. refl) h)
  within_row ScaleEffects h = stays (carries p ScaleEffects) (no_row_more p (λ (r : Row). is_scale r.effect) (λ f m. refl) (λ f m. refl) h)
  within_row Metric h = stays (carries p Metric) h
  within_row TrajectoryConstraints h = absurd (true≢false (sym h))
  within_row EffectOverlap h = right (carries p EffectOverlap && true) true refl
  within_row ObjectTermsUnderForall h = stays (carries p ObjectTermsUnderForall) (no_row_more p (λ (r : Row). flip (is_empty r.vars) && touches_objects r.effect) (λ f m. refl) (λ f m. refl) h)
  within_row PartialFluents h = stays (carries p PartialFluents) (partial h)
    where
      partial : carries (monitored p) PartialFluents ≡ true → carries p PartialFluents ≡ true
      partial h = elim (of_two _ (some_row (monitored p) (λ r. is_undefine r.effect)) h) [
        | inl e ↦ left _ (some_row p (λ r. is_undefine r.effect)) e
        | inr e ↦ right _ (some_row p (λ r. is_undefine r.effect)) (no_row_more p (λ (r : Row). is_undefine r.effect) (λ f m. refl) (λ f m. refl) e)
      ]
