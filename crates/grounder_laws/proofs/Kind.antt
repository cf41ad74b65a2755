-- The instances carry no feature but those of the problem, and no parameters.
use Rattle.std.proofs.Common.{◌≡◌, Bool, true, false, not as flip, ◌||◌, ◌&&◌, List, [], ◌∷◌, map, refl, ap, sym, ◌∙◌, subst, ⊎_elim}
use Rattle.std.specs.List.{list_any, flat_map}
use Rattle.up_text.specs.declared.name.Name.{Name}
use Rattle.up_text.specs.Lists.{Member}
use Rattle.up_tree.specs.declared.term.Typed.{Typed}
use Rattle.up_tree.specs.declared.formula.Formula.{Formula}
use Rattle.up_tree.specs.declared.action.Action.{Action}
use Rattle.up_tree.specs.declared.action.Row.{Row}
use Rattle.up_tree.specs.declared.problem.Constraint.{Constraint}
use Rattle.up_tree.specs.declared.problem.Parts.{Parts}
use Rattle.up_tree.specs.Objects.{world, tuples}
use Rattle.up_tree.specs.Simplify.{is_empty, is_true_formula}
use Rattle.up_tree.specs.WellFormed.{IsWellFormed, IsAction, formulas_of}
use Rattle.up_kind.specs.declared.feature.Feature.{Feature}
use Rattle.up_kind.specs.declared.feature.Feature.TheVariants.{FlatTyping, HierarchicalTyping, ActionParameters, NegativeConditions, DisjunctiveConditions, Equalities, ExistentialConditions, UniversalConditions, ConditionalEffects, ForallEffects, ObjectFluents, NumericFluents, NumericConditions, NumericEffects, ScaleEffects, Metric, TrajectoryConstraints, EffectOverlap, ObjectTermsUnderForall, PartialFluents}
use Rattle.up_kind.specs.Carried.{anywhere, some_condition, some_row, is_not, is_disjunctive, is_equal, is_exists, is_forall, is_compare, is_scale, is_numeric, is_undefine, touches_objects, gives_an_object, is_total, carries}
use Rattle.up_kind.specs.Meeting.{has_meeting_rows}
use Rattle.semantics_laws.specs.Replaced.{Replacement, replacement, under, replaced}
use Rattle.condition_laws.proofs.Holding.{left, right, of_two, any_of_both}
use Rattle.expansion_laws.specs.Substituted.{replaced_effect_row, substituted_row}
use Rattle.expansion_laws.proofs.Lists.{of_map}
use Rattle.expansion_kinds.proofs.Tests.{any_member, any_there}
use Rattle.expansion_kinds.proofs.Nodes.{formulas_keep_nodes, rows_stay_same}
use Rattle.expansion_kinds.proofs.Instances.{instances_meet}
use Rattle.compiling_laws.proofs.Lists.{false_true, any_none}
use Rattle.step_laws.proofs.Lists.{every_at}
use Rattle.grounder_laws.specs.Grounder.{Grounded, instance_by, ground_action, grounded, instantiated}
use Rattle.grounder_laws.proofs.Names.{IsInstance, of_grounded}
use Rattle.grounder_laws.proofs.Instancing.{no_params}
use Rattle.grounder_laws.proofs.Meeting.{rows_meet}

-- ---- lists

pub any_flat : {X Y : Type 0} (t : Y → Bool) (f : X → List Y) (xs : List X) → list_any t (flat_map f xs) ≡ list_any (λ x. list_any t (f x)) xs
any_flat t f [] = refl
any_flat t f (x ∷ xs) = any_of_both t (f x) (flat_map f xs) ∙ ap (λ b. list_any t (f x) || b) (any_flat t f xs)

any_map : {X Y : Type 0} (t : Y → Bool) (u : X → Bool) (f : X → Y) → ((x : X) → t (f x) ≡ u x) → (xs : List X) → list_any t (map f xs) ≡ list_any u xs
any_map t u f same [] = refl
any_map t u f same (x ∷ xs) = λ i. same x i || any_map t u f same xs i

-- ---- conditions of one action

abbrev pub conditions_of : Action → List Formula
conditions_of a = a.pre ∷ map (λ (r : Row). r.when) a.rows

abbrev pub in_action : (Formula → Bool) → Action → Bool
in_action t a = list_any (anywhere t) (conditions_of a)

-- a test that substitution leaves
abbrev Stays : (Formula → Bool) → Type 0
Stays t = (r : Replacement) (f : Formula) → anywhere t (replaced r f) ≡ anywhere t f

module _ (t : Formula → Bool) (stays : Stays t) where
  in_rows : (params : List Typed) (args : List Name) (rows : List Row) →
      list_any (anywhere t) (map (λ (r : Row). r.when) (map (substituted_row params args) rows)) ≡ list_any (anywhere t) (map (λ (r : Row). r.when) rows)
  in_rows params args [] = refl
  in_rows params args (r ∷ rows) = λ i. stays (under r.vars (replacement params args)) r.when i || in_rows params args rows i

  in_instance : (params : List Typed) (name : Name) (a : Action) (args : List Name) → in_action t (instance_by params name a args) ≡ in_action t a
  in_instance [] name a args = refl
  in_instance (v ∷ vars) name a args = λ i. stays (replacement a.params args) a.pre i || in_rows a.params args a.rows i

-- rows of one action
module _ (t : Row → Bool) (stays : (r : Replacement) (row : Row) → t (replaced_effect_row r row) ≡ t row) where
  rows_instance : (params : List Typed) (name : Name) (a : Action) (args : List Name) → list_any t (instance_by params name a args).rows ≡ list_any t a.rows
  rows_instance [] name a args = refl
  rows_instance (v ∷ vars) name a args = any_map t t (substituted_row a.params args) (λ row. stays (replacement a.params args) row) a.rows

-- ---- the problem

module _ (p : Parts) (formed : IsWellFormed p) where
  abbrev q : Parts
  q = (instantiated p).parts

  of_actions : (test other : Action → Bool) → ((g : Grounded) → IsInstance p p.actions g → test (ground_action g) ≡ true → other g.old ≡ true)
      → list_any test q.actions ≡ true → list_any other p.actions ≡ true
  of_actions test other each e =
      let a = any_member test q.actions e in
      let g = of_map ground_action (grounded p) a.0 a.1 in
      let is : IsInstance p p.actions g.0 = of_grounded p g.0 g.1 in
      any_there other p.actions g.0.old is.member (each g.0 is (subst (λ (x : Action). test x ≡ true) g.2 a.2))

  abbrev others : List Formula
  others = p.goal ∷ flat_map (λ (c : Constraint). formulas_of c.rule) p.constraints

  of_conditions : (t : Formula → Bool) → Stays t → some_condition q t ≡ true → some_condition p t ≡ true
  of_conditions t stays h =
      any_of_both (anywhere t) (flat_map conditions_of p.actions) others
      ∙ ⊎_elim
      (λ e. left (list_any (anywhere t) (flat_map conditions_of p.actions)) (list_any (anywhere t) others) (any_flat (anywhere t) conditions_of p.actions
      ∙ of_actions (in_action t) (in_action t) (λ g is k. sym (in_instance t stays g.old.params g.name g.old g.args) ∙ k) (sym (any_flat (anywhere t) conditions_of q.actions) ∙ e)))
      (λ e. right (list_any (anywhere t) (flat_map conditions_of p.actions)) (list_any (anywhere t) others) e)
      (of_two (list_any (anywhere t) (flat_map conditions_of q.actions)) (list_any (anywhere t) others) (sym (any_of_both (anywhere t) (flat_map conditions_of q.actions) others) ∙ h))

  of_rows : (t : Row → Bool) → ((r : Replacement) (row : Row) → t (replaced_effect_row r row) ≡ t row) → some_row q t ≡ true → some_row p t ≡ true
  of_rows t stays = of_actions (λ a. list_any t a.rows) (λ a. list_any t a.rows) (λ g is k. sym (rows_instance t stays g.old.params g.name g.old g.args) ∙ k)

  meet_by : (params : List Typed) (name : Name) (a : Action) (args : List Name) → IsAction p a → Member args (tuples (world p) a.params)
      → has_meeting_rows p (instance_by params name a args) ≡ true → has_meeting_rows p a ≡ true
  meet_by [] name a args is m h = h
  meet_by (v ∷ vars) name a args is m h = instances_meet p formed name a args is m h

  overlaps : carries q EffectOverlap ≡ true → carries p EffectOverlap ≡ true
  overlaps = of_actions (has_meeting_rows q) (has_meeting_rows p) (λ g is h.
      meet_by g.old.params g.name g.old g.args (every_at (IsAction p) p.actions g.old formed.actions is.member) is.typed (rows_meet p q refl refl refl (ground_action g) ∙ h))

  pub no_parameters : carries q ActionParameters ≡ false
  no_parameters = any_none (λ a. flip (is_empty a.params)) q.actions (λ a m.
      let g = of_map ground_action (grounded p) a m in
      ap (λ (x : Action). flip (is_empty x.params)) g.2 ∙ ap (λ params. flip (is_empty params)) (no_params g.0))

  pub instance_features : (f : Feature) → carries q f ≡ true → carries p f ≡ true
  instance_features FlatTyping h = h
  instance_features HierarchicalTyping h = h
  instance_features ActionParameters h = false_true (sym no_parameters ∙ h)
  instance_features NegativeConditions h = of_conditions is_not (λ r f. (formulas_keep_nodes r f).negative) h
  instance_features DisjunctiveConditions h = of_conditions is_disjunctive (λ r f. (formulas_keep_nodes r f).disjunctive) h
  instance_features Equalities h = of_conditions is_equal (λ r f. (formulas_keep_nodes r f).equality) h
  instance_features ExistentialConditions h = of_conditions is_exists (λ r f. (formulas_keep_nodes r f).existential) h
  instance_features UniversalConditions h = of_conditions is_forall (λ r f. (formulas_keep_nodes r f).universal) h
  instance_features ConditionalEffects h = of_rows (λ r. flip (is_true_formula r.when)) (λ r row. ap flip (rows_stay_same r row).conditional) h
  instance_features ForallEffects h = of_rows (λ r. flip (is_empty r.vars)) (λ r row. refl) h
  instance_features ObjectFluents h = h
  instance_features NumericFluents h = h
  instance_features NumericConditions h = of_conditions is_compare (λ r f. (formulas_keep_nodes r f).numeric) h
  instance_features NumericEffects h = of_rows (λ r. is_numeric r.effect) (λ r row. (rows_stay_same r row).numeric) h
  instance_features ScaleEffects h = of_rows (λ r. is_scale r.effect) (λ r row. (rows_stay_same r row).scaling) h
  instance_features Metric h = h
  instance_features TrajectoryConstraints h = h
  instance_features EffectOverlap h = overlaps h
  instance_features ObjectTermsUnderForall h =
      of_rows (λ r. flip (is_empty r.vars) && touches_objects r.effect) (λ r row. ap (λ b. flip (is_empty row.vars) && b) (rows_stay_same r row).touching) h
  instance_features PartialFluents h =
      ⊎_elim (λ e. left (list_any (λ d. gives_an_object d && flip (is_total p d)) p.functions) (some_row p (λ r. is_undefine r.effect)) e)
      (λ e. right (list_any (λ d. gives_an_object d && flip (is_total p d)) p.functions) (some_row p (λ r. is_undefine r.effect))
      (of_rows (λ r. is_undefine r.effect) (λ r row. (rows_stay_same r row).undefining) e))
      (of_two (list_any (λ d. gives_an_object d && flip (is_total p d)) p.functions) (some_row q (λ r. is_undefine r.effect)) h)
