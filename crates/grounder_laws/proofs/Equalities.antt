-- Where nothing is quantified and no object function is there, the simplified instances have no equality.
use Rattle.std.proofs.Common.{◌≡◌, Bool, true, false, cond, not as flip, List, [], ◌∷◌, ◌++◌, map, take, filter_map, Some, None, refl, ap, sym, ◌∙◌, subst, inl, inr, ⊎_elim}
use Rattle.std.specs.List.{list_any, flat_map}
use Rattle.up_text.specs.declared.name.Name.{Name}
use Rattle.up_text.specs.Lists.{Member}
use Rattle.up_tree.specs.declared.term.Typed.{Typed}
use Rattle.up_tree.specs.declared.formula.Formula.{Formula}
use Rattle.up_tree.specs.declared.action.Action.{Action}
use Rattle.up_tree.specs.declared.action.Row.{Row}
use Rattle.up_tree.specs.declared.problem.Constraint.{Constraint}
use Rattle.up_tree.specs.declared.problem.Parts.{Parts}
use Rattle.up_tree.specs.Objects.{World, world}
use Rattle.up_tree.specs.Simplify.{Oracle, is_empty, is_false_formula, simplified, simple_row}
use Rattle.up_tree.specs.WellFormed.{IsWellFormed, IsFormula, IsRow, IsAction, formulas_of}
use Rattle.up_kind.specs.declared.feature.Feature.TheVariants.{Equalities, ExistentialConditions, UniversalConditions, ForallEffects, ObjectFluents}
use Rattle.up_kind.specs.Carried.{anywhere, conditions, is_equal, is_exists, is_forall, carries}
use Rattle.condition_laws.proofs.Holding.{of_two, any_of_both}
use Rattle.expansion_laws.proofs.Lists.{of_map, in_map}
use Rattle.expansion_kinds.proofs.Tests.{any_member}
use Rattle.compiling_laws.proofs.Lists.{false_true, none_some, some_same, any_false, member_left, member_right, member_flat, of_filter_map}
use Rattle.step_laws.proofs.Lists.{every_at}
use Rattle.finishing_laws.specs.Finished.{Goal, goal_rule}
use Rattle.compiling_laws.specs.Forms.{symbols}
use Rattle.grounder_laws.specs.Grounder.{static, Grounded, ground_action, grounded, instantiated, simple_instances}
use Rattle.grounder_laws.proofs.Instancing.{no_params}
use Rattle.grounder_laws.proofs.Formed.{instances_formed}
use Rattle.grounder_laws.proofs.Kind.{any_flat, conditions_of, in_action, instance_features}
use Rattle.grounder_laws.proofs.Composing.{simple_by, simple_actions}
use Rattle.grounder_laws.proofs.Grounding.{none_equal}

-- no row has variables
pub no_vars : (p : Parts) → carries p ForallEffects ≡ false → (a : Action) → Member a p.actions → (r : Row) → Member r a.rows → r.vars ≡ []
no_vars p none a m r k =
    empty r.vars (any_false (λ (r : Row). flip (is_empty r.vars)) a.rows r (any_false (λ (a : Action). list_any (λ (r : Row). flip (is_empty r.vars)) a.rows) p.actions a none m) k)
  where
    empty : (xs : List Typed) → flip (is_empty xs) ≡ false → xs ≡ []
    empty [] e = refl
    empty (x ∷ xs) e = false_true (sym e)

-- what is false of a set is false of a smaller one
pub not_more : (b c : Bool) → (c ≡ true → b ≡ true) → b ≡ false → c ≡ false
not_more b false h e = refl
not_more b true h e = false_true (sym e ∙ h refl)

simple_when : (w : World) (oracle : Oracle) (r q : Row) → simple_row w oracle r ≡ Some q → q.when ≡ simplified w oracle r.when
simple_when w oracle r q = by (is_false_formula (simplified w oracle r.when))
  where
    by : (n : Bool) → cond n None (Some (let k : Row = record { vars = r.vars; when = simplified w oracle r.when; effect = r.effect } in k)) ≡ Some q → q.when ≡ simplified w oracle r.when
    by true e = none_some e
    by false e = sym (ap (λ (x : Row). x.when) (some_same _ _ e))

-- the goal rule makes no equality
goal_equal : (used : List Name) (f : Formula) → anywhere is_equal (goal_rule used f).formula ≡ true → anywhere is_equal f ≡ true
unfolding anywhere
goal_equal used f = by (is_false_formula f) _ (λ e. false_true e)
  where
    by : (n : Bool) (g : Goal) → (anywhere is_equal g.formula ≡ true → anywhere is_equal f ≡ true) →
        anywhere is_equal (cond n g (let h : Goal = record { formula = f; predicates = [] } in h)).formula ≡ true → anywhere is_equal f ≡ true
    by true g k e = k e
    by false g k e = e

module _ (p : Parts) (formed : IsWellFormed p) (free : p.constraints ≡ [])
    (no_objects : carries p ObjectFluents ≡ false) (no_exists : carries p ExistentialConditions ≡ false) (no_forall : carries p UniversalConditions ≡ false)
    (bare : carries p ForallEffects ≡ false) where
  abbrev inst : Parts
  inst = (instantiated p).parts

  abbrev fin : Parts
  fin = simple_instances p

  well : IsWellFormed inst
  well = instances_formed p formed

  inst_bare : carries inst ForallEffects ≡ false
  inst_bare = not_more (carries p ForallEffects) (carries inst ForallEffects) (instance_features p formed ForallEffects) bare

  inst_exists : carries inst ExistentialConditions ≡ false
  inst_exists = not_more (carries p ExistentialConditions) (carries inst ExistentialConditions) (instance_features p formed ExistentialConditions) no_exists

  inst_forall : carries inst UniversalConditions ≡ false
  inst_forall = not_more (carries p UniversalConditions) (carries inst UniversalConditions) (instance_features p formed UniversalConditions) no_forall

  abbrev Simple : Formula → Formula
  Simple f = simplified (world p) (static p) f

  -- of a condition of the instances
  condition_equal : (objects : List Typed) (f : Formula) → Member f (conditions inst) → IsFormula inst objects [] f → anywhere is_equal (Simple f) ≡ true → ⊥
  condition_equal objects f m is e =
      none_equal inst objects no_objects (world p) (static p) f is (any_false (anywhere is_exists) (conditions inst) f inst_exists m) (any_false (anywhere is_forall) (conditions inst) f inst_forall m) e

  abbrev others : List Formula
  others = p.goal ∷ flat_map (λ (c : Constraint). formulas_of c.rule) p.constraints

  of_action : (a : Action) (f : Formula) → Member a inst.actions → Member f (conditions_of a) → Member f (conditions inst)
  of_action a f m k = member_left f (flat_map conditions_of inst.actions) others (member_flat conditions_of a f inst.actions m k)

  abbrev named : List Typed
  named = take inst.constants inst.objects

  action_equal : (g : Grounded) → Member g (grounded p) → in_action is_equal (simple_by p (ground_action g)) ≡ true → ⊥
  action_equal g m h =
      let a : Action = ground_action g in
      let listed : Member a inst.actions = in_map ground_action (grounded p) g m in
      let is : IsAction inst a = every_at (IsAction inst) inst.actions a well.actions listed in
      ⊎_elim (λ e. condition_equal named a.pre (of_action a a.pre listed (inl refl)) (subst (λ scope. IsFormula inst named scope a.pre) (no_params g) is.pre) e)
      (λ e. in_rows a listed is (no_params g) e)
      (of_two (anywhere is_equal (Simple a.pre)) (list_any (anywhere is_equal) (map (λ (r : Row). r.when) (filter_map (simple_row (world p) (static p)) a.rows))) h)
    where
      in_rows : (a : Action) → Member a inst.actions → IsAction inst a → a.params ≡ []
          → list_any (anywhere is_equal) (map (λ (r : Row). r.when) (filter_map (simple_row (world p) (static p)) a.rows)) ≡ true → ⊥
      in_rows a listed is params e =
          let f = any_member (anywhere is_equal) (map (λ (r : Row). r.when) (filter_map (simple_row (world p) (static p)) a.rows)) e in
          let q = of_map (λ (r : Row). r.when) (filter_map (simple_row (world p) (static p)) a.rows) f.0 f.1 in
          let r = of_filter_map (simple_row (world p) (static p)) a.rows q.0 q.1 in
          let row : IsRow inst named a.params r.0 = every_at (IsRow inst named a.params) a.rows r.0 is.rows r.1 in
          let none : r.0.vars ≡ [] = no_vars inst inst_bare a listed r.0 r.1 in
          condition_equal named r.0.when (of_action a r.0.when listed (inr (in_map (λ (r : Row). r.when) a.rows r.0 r.1)))
          (subst (λ scope. IsFormula inst named scope r.0.when) (λ i. none i ++ params i) row.when)
          (ap (anywhere is_equal) (sym (simple_when (world p) (static p) r.0 q.0 r.2) ∙ sym q.2) ∙ f.2)

  no_constraint : list_any (anywhere is_equal) (flat_map (λ (c : Constraint). formulas_of c.rule) p.constraints) ≡ false
  no_constraint = ap (λ cs. list_any (anywhere is_equal) (flat_map (λ (c : Constraint). formulas_of c.rule) cs)) free

  none_in_goal : anywhere is_equal fin.goal ≡ true → ⊥
  none_in_goal e =
      condition_equal p.objects p.goal (member_right p.goal (flat_map conditions_of inst.actions) others (inl refl)) well.goal (goal_equal (symbols p) (Simple p.goal) e)

  pub no_equalities : carries fin Equalities ≡ true → ⊥
  no_equalities h =
      ⊎_elim
      (λ e.
      let a = any_member (in_action is_equal) (map (λ g. simple_by p (ground_action g)) (grounded p))
      (subst (λ actions. list_any (in_action is_equal) actions ≡ true) (simple_actions p) (sym (any_flat (anywhere is_equal) conditions_of fin.actions) ∙ e)) in
      let g = of_map (λ g. simple_by p (ground_action g)) (grounded p) a.0 a.1 in
      action_equal g.0 g.1 (ap (in_action is_equal) (sym g.2) ∙ a.2))
      (λ e. ⊎_elim none_in_goal (λ k. false_true (sym no_constraint ∙ k)) (of_two (anywhere is_equal fin.goal) _ e))
      (of_two (list_any (anywhere is_equal) (flat_map conditions_of fin.actions)) _
      (sym (any_of_both (anywhere is_equal) (flat_map conditions_of fin.actions) (fin.goal ∷ flat_map (λ (c : Constraint). formulas_of c.rule) p.constraints)) ∙ h))
