-- The features of the variants, but for overlaps.
use Rattle.std.proofs.Common.{◌≡◌, ◌⊎◌, Bool, true, false, cond, ◌||◌, not as flip, List, [], ◌∷◌, map, filter_map, flat_map, Some, None, refl, ap, sym, ◌∙◌, subst, inl, inr}
use Rattle.std.specs.List.{list_any}
use Rattle.up_text.specs.Lists.{Member}
use Rattle.up_tree.specs.declared.action.Action.{Action}
use Rattle.up_tree.specs.declared.action.Row.{Row}
use Rattle.up_tree.specs.declared.formula.Formula.{Formula, And, Not}
use Rattle.up_tree.specs.declared.problem.Constraint.{Constraint}
use Rattle.up_tree.specs.declared.problem.Parts.{Parts}
use Rattle.up_tree.specs.Nodes.{not as not_f, built}
use Rattle.up_tree.specs.Objects.{World, world}
use Rattle.up_tree.specs.Simplify.{simplified, knows_nothing, true_formula, is_true_formula}
use Rattle.up_tree.specs.WellFormed.{formulas_of}
use Rattle.up_kind.specs.Carried.{anywhere, is_equal, is_exists, is_forall, is_compare, conditions, some_condition, some_row}
use Rattle.up_kind.proofs.Shapes.{always-And}
use Rattle.step_laws.specs.Naming.{Stands}
use Rattle.conditionals_laws.specs.Conditionals.{Choice, choices, literal, is_chosen, chosen_row, variant, variants_by, variants, row_conditions, variant_pairs, conditionals}
use Rattle.conditionals_laws.proofs.Choosing.{choice_covers, condition_listed, condition_of_row}
use Rattle.compiling_laws.proofs.Bare.{AreBare}
use Rattle.condition_laws.specs.Carrying.{NoMore}
use Rattle.condition_laws.proofs.Holding.{anywhere-And}
use Rattle.condition_laws.proofs.Carrying.{simplified_carry}
use Rattle.compiling_laws.proofs.Lists.{false_true, some_same, none_some, any_true, any_from, any_none, member_left, member_right, member_either, member_flat, of_flat, member_map, of_map, of_filter_map}
use Rattle.step_laws.proofs.Lists.{every_at}
use Rattle.conditionals_laws.proofs.Splitting.{IsVariant, pair_is, IsVariantOf, itself, by_choice, variant_is, NoVariables}

-- ---- tests of conditions that neither `and` nor `not` passes

pub record IsQuiet (t : Formula → Bool) : Type 0 where
  and_no : (fs : List Formula) → t (And fs) ≡ false
  not_no : (f : Formula) → t (not_f f) ≡ false
  gains_none : (w : World) (f : Formula) → NoMore t (simplified w knows_nothing f) f

module _ (t : Formula → Bool) (quiet : IsQuiet t) where
  any-And : (fs : List Formula) → anywhere t (And fs) ≡ list_any (anywhere t) fs
  any-And fs = anywhere-And t fs ∙ ap (λ b. b || list_any (anywhere t) fs) (quiet.and_no fs)

  any-Not : (f : Formula) → anywhere t (Not f) ≡ anywhere t f
  unfolding anywhere built
  any-Not f = ap (λ b. b || anywhere t f) (quiet.not_no f)

  none-true_formula : anywhere t true_formula ≡ false
  none-true_formula = any-And []

-- ---- rows

-- a row of a variant is one of the action's, with the same variables and effect
pub record IsRowOf (rows : List Row) (r : Row) : Type 0 where
  pub old : Row
  pub member : Member old rows
  pub vars : r.vars ≡ old.vars
  pub effect : r.effect ≡ old.effect

pub of_chosen : (choice : List Choice) (rows : List Row) (r : Row) → Member r (filter_map (chosen_row choice) rows) → IsRowOf rows r × (r.when ≡ true_formula)
of_chosen choice rows r m =
    let k = of_filter_map (chosen_row choice) rows r m in
    by k.0 k.1 (is_chosen choice k.0.when) k.2
  where
    by : (old : Row) → Member old rows → (b : Bool) → cond b (Some (let kept : Row = record { vars = old.vars; when = true_formula; effect = old.effect } in kept)) None ≡ Some r
        → IsRowOf rows r × (r.when ≡ true_formula)
    by old m true e =
        let same : record { vars = old.vars; when = true_formula; effect = old.effect } ≡ r = some_same _ _ e in (
          record { old = old; member = m; vars = sym (ap (λ (x : Row). x.vars) same); effect = sym (ap (λ (x : Row). x.effect) same) },
          sym (ap (λ (x : Row). x.when) same),
        )
    by old m false e = none_some e

pub variant_rows : (w : World) (a x : Action) → IsVariantOf w a x → (r : Row) → Member r x.rows → IsRowOf a.rows r
variant_rows w a x (itself is) r m =
    record { old = r; member = subst (λ (y : Action). Member r y.rows) is m; vars = refl; effect = refl }
variant_rows w a x (by_choice choice listed is kept) r m = (of_chosen choice a.rows r (subst (λ (y : Action). Member r y.rows) is m)).0

-- each row's condition is `true`
always_when : (a : Action) → row_conditions a ≡ [] → (r : Row) → Member r a.rows → is_true_formula r.when ≡ true
always_when a none r m = by (is_true_formula r.when) refl
  where
    use_none : is_true_formula r.when ≡ false → ⊥
    use_none is = subst (Member r.when) none (condition_listed a r m is)

    by : (b : Bool) → is_true_formula r.when ≡ b → is_true_formula r.when ≡ true
    by true is = is
    by false is = absurd (use_none is)

module _ (p : Parts) where
  abbrev q : Parts
  q = (conditionals p).parts

  -- what a new action passes its old one passes, so what some new one does some old one does
  pub of_actions : (test other : Action → Bool) → ((pair : Stands) → IsVariant p pair → test pair.new ≡ true → other pair.old ≡ true)
      → list_any test q.actions ≡ true → list_any other p.actions ≡ true
  of_actions test other each e =
      let a = any_true test q.actions e in
      let pair = of_map (λ (pair : Stands). pair.new) (variant_pairs p) a.0 a.1 in
      let is : IsVariant p pair.0 = pair_is p pair.0 pair.1 in
      any_from other p.actions pair.0.old is.member (each pair.0 is (subst (λ (x : Action). test x ≡ true) pair.2 a.2))

  -- a row of a new action comes from one of the old one
  pub row_of_new : (pair : Stands) → IsVariant p pair → (r : Row) → Member r pair.new.rows → IsRowOf pair.old.rows r
  row_of_new pair is r m =
      variant_rows (world p) pair.old is.variant (variant_is (world p) pair.old is.variant is.listed) r (subst (λ (x : Action). Member r x.rows) is.but_name m)

  pub of_rows : (test : Row → Bool) → ((r old : Row) → r.vars ≡ old.vars → r.effect ≡ old.effect → test r ≡ true → test old ≡ true)
      → some_row q test ≡ true → some_row p test ≡ true
  of_rows test same = of_actions (λ a. list_any test a.rows) (λ a. list_any test a.rows) (λ pair is e.
      let r = any_true test pair.new.rows e in
      let k : IsRowOf pair.old.rows r.0 = row_of_new pair is r.0 r.1 in
      any_from test pair.old.rows k.old k.member (same r.0 k.old k.vars k.effect r.2))

  -- ---- conditions

  abbrev of_action : Action → List Formula
  of_action a = a.pre ∷ map (λ (r : Row). r.when) a.rows

  abbrev others : List Formula
  others = p.goal ∷ flat_map (λ (c : Constraint). formulas_of c.rule) p.constraints

  module _ (t : Formula → Bool) (quiet : IsQuiet t) where
    abbrev Somehow : Action → Type 0
    Somehow a = (f : Formula) × Member f (of_action a) × (anywhere t f ≡ true)

    of_literal : (c : Choice) → anywhere t (literal c) ≡ true → anywhere t c.condition ≡ true
    of_literal c = by c.chosen
      where
        by : (b : Bool) → anywhere t (cond b c.condition (Not c.condition)) ≡ true → anywhere t c.condition ≡ true
        by true e = e
        by false e = sym (any-Not t quiet c.condition) ∙ e

    of_choice : (a : Action) (choice : List Choice) → Member choice (choices (row_conditions a)) → list_any (anywhere t) (a.pre ∷ map literal choice) ≡ true → Somehow a
    of_choice a choice listed e =
        let f = any_true (anywhere t) (a.pre ∷ map literal choice) e in by f.0 f.1 f.2
      where
        by : (f : Formula) → Member f (a.pre ∷ map literal choice) → anywhere t f ≡ true → Somehow a
        by f (inl is) found = (a.pre, inl refl, subst (λ g. anywhere t g ≡ true) is found)
        by f (inr m) found =
            let c = of_map literal choice f m in
            let listed_condition : Member c.0.condition (row_conditions a) =
            subst (Member c.0.condition) (choice_covers (row_conditions a) choice listed) (member_map (λ (c : Choice). c.condition) choice c.0 c.1) in
            let r = condition_of_row a c.0.condition listed_condition in (
              r.0.when,
              inr (member_map (λ (r : Row). r.when) a.rows r.0 r.1),
              subst (λ g. anywhere t g ≡ true) r.2 (of_literal c.0 (subst (λ g. anywhere t g ≡ true) c.2 found)),
            )

    of_variant : (a x : Action) → IsVariantOf (world p) a x → (f : Formula) → Member f (of_action x) → anywhere t f ≡ true → Somehow a
    of_variant a x (itself is) f m e = (f, subst (λ (y : Action). Member f (of_action y)) is m, e)
    of_variant a x (by_choice choice listed is kept) f m e = by (subst (λ (y : Action). Member f (of_action y)) is m)
      where
        by : Member f (simplified (world p) knows_nothing (And (a.pre ∷ map literal choice)) ∷ map (λ (r : Row). r.when) (filter_map (chosen_row choice) a.rows)) → Somehow a
        by (inl same) =
            of_choice a choice listed (sym (any-And t quiet (a.pre ∷ map literal choice))
            ∙ quiet.gains_none (world p) (And (a.pre ∷ map literal choice)) (subst (λ g. anywhere t g ≡ true) same e))
        by (inr k) =
            let r = of_map (λ (r : Row). r.when) (filter_map (chosen_row choice) a.rows) f k in
            false_true (sym (none-true_formula t quiet) ∙ subst (λ g. anywhere t g ≡ true) (r.2 ∙ (of_chosen choice a.rows r.0 r.1).1) e)

    pub of_conditions : some_condition q t ≡ true → some_condition p t ≡ true
    of_conditions e = let f = any_true (anywhere t) (conditions q) e in by f.0 f.2 (member_either f.0 (flat_map of_action q.actions) others f.1)
      where
        by : (f : Formula) → anywhere t f ≡ true → Member f (flat_map of_action q.actions) ⊎ Member f others → some_condition p t ≡ true
        by f found (inr m) = any_from (anywhere t) (conditions p) f (member_right f (flat_map of_action p.actions) others m) found
        by f found (inl m) =
            let a = of_flat of_action f q.actions m in
            let pair = of_map (λ (pair : Stands). pair.new) (variant_pairs p) a.0 a.1 in
            let is : IsVariant p pair.0 = pair_is p pair.0 pair.1 in
            let k : Somehow pair.0.old =
            of_variant pair.0.old is.variant (variant_is (world p) pair.0.old is.variant is.listed) f
            (subst (λ (x : Action). Member f (of_action x)) (pair.2 ∙ is.but_name) a.2) found in
            any_from (anywhere t) (conditions p) k.0
            (member_left k.0 (flat_map of_action p.actions) others (member_flat of_action pair.0.old k.0 p.actions is.member k.1)) k.2

  -- ---- no row has a condition

  always_in : (a x : Action) → IsVariantOf (world p) a x → Member x (variants (world p) a) → (r : Row) → Member r x.rows → is_true_formula r.when ≡ true
  always_in a x (by_choice choice listed is kept) m r k =
      subst (λ f. is_true_formula f ≡ true) (sym (of_chosen choice a.rows r (subst (λ (y : Action). Member r y.rows) is k)).1) (always-And [])
  always_in a x (itself is) m r k = by (row_conditions a) refl m
    where
      by : (cs : List Formula) → row_conditions a ≡ cs → Member x (variants_by (world p) a cs) → is_true_formula r.when ≡ true
      by [] none n = always_when a none r (subst (λ (y : Action). Member r y.rows) is k)
      by (c ∷ cs) some n =
          let j = of_filter_map (variant (world p) a) (choices (c ∷ cs)) x n in
          made j.0 _ _ j.2
        where
          made : (choice : List Choice) (b : Bool) (pre : Formula) → cond b None (Some (let v : Action = record { name = a.name; params = a.params; pre = pre; rows = filter_map (chosen_row choice) a.rows } in v)) ≡ Some x
              → is_true_formula r.when ≡ true
          made choice true pre e = none_some e
          made choice false pre e =
              subst (λ f. is_true_formula f ≡ true) (sym (of_chosen choice a.rows r (subst (λ (y : Action). Member r y.rows) (sym (some_same _ _ e)) k)).1) (always-And [])

  pub none_conditional : some_row q (λ r. flip (is_true_formula r.when)) ≡ false
  none_conditional = any_none (λ a. list_any (λ (r : Row). flip (is_true_formula r.when)) a.rows) q.actions (λ a m.
      let pair = of_map (λ (pair : Stands). pair.new) (variant_pairs p) a m in
      let is : IsVariant p pair.0 = pair_is p pair.0 pair.1 in
      any_none (λ (r : Row). flip (is_true_formula r.when)) a.rows (λ r k.
      ap flip (always_in pair.0.old is.variant (variant_is (world p) pair.0.old is.variant is.listed) is.listed r
      (subst (λ (x : Action). Member r x.rows) (pair.2 ∙ is.but_name) k))))

  -- ---- no row has variables

  pub bare_new : NoVariables p → (test : Row → Bool) → ((r : Row) → r.vars ≡ [] → test r ≡ false) → some_row q test ≡ false
  bare_new bare test none = any_none (λ a. list_any test a.rows) q.actions (λ a m.
      let pair = of_map (λ (pair : Stands). pair.new) (variant_pairs p) a m in
      let is : IsVariant p pair.0 = pair_is p pair.0 pair.1 in
      any_none test a.rows (λ r k.
      let o : IsRowOf pair.0.old.rows r = row_of_new pair.0 is r (subst (λ (x : Action). Member r x.rows) pair.2 k) in
      none r (o.vars ∙ every_at (λ (r : Row). r.vars ≡ []) pair.0.old.rows o.old (every_at (λ (a : Action). AreBare a.rows) p.actions pair.0.old bare is.member) o.member)))

-- ---- the tests of conditions

pub equal_quiet : IsQuiet is_equal
equal_quiet = record { and_no = λ fs. refl; not_no = λ f. refl; gains_none = λ w f. (simplified_carry w knows_nothing f).equalities }

pub exists_quiet : IsQuiet is_exists
exists_quiet = record { and_no = λ fs. refl; not_no = λ f. refl; gains_none = λ w f. (simplified_carry w knows_nothing f).existential }

pub forall_quiet : IsQuiet is_forall
forall_quiet = record { and_no = λ fs. refl; not_no = λ f. refl; gains_none = λ w f. (simplified_carry w knows_nothing f).universal }

pub compare_quiet : IsQuiet is_compare
compare_quiet = record { and_no = λ fs. refl; not_no = λ f. refl; gains_none = λ w f. (simplified_carry w knows_nothing f).comparisons }
