-- A simplified action carries nothing that the action doesn't carry.
use Rattle.std.proofs.Common.{◌≡◌, ◌⊎◌, Bool, true, false, ◌||◌, not as flip, true≢false, List, [], ◌∷◌, map, Option, Some, None, refl, ap, sym, ◌∙◌, subst, inl, inr, ⊎_elim}
use Rattle.std.specs.Prelude.{if◌then◌else◌}
use Rattle.std.specs.List.{list_any, filter_map, cons_option}
use Rattle.up_text.specs.Lists.{Every, Somewhere}
use Rattle.up_tree.specs.declared.formula.Formula.{Formula, And', Or', Atom, Equal, Compare, Row_of-Formula, end_of-Formula, more_of-Formula, items-the_row-Formula}
use Rattle.up_tree.specs.declared.action.Row.{Row}
use Rattle.up_tree.specs.declared.action.Action.{Action}
use Rattle.up_tree.specs.Nodes.{not, imply, exists, forall}
use Rattle.up_tree.specs.Objects.{World}
use Rattle.up_tree.specs.Simplify.{Oracle, is_empty, is_true_formula, is_false_formula, simple_and, simplified, all_conjuncts, simple_row, simple_action}
use Rattle.up_kind.specs.Carried.{anywhere, is_not, is_disjunctive, is_equal, is_exists, is_forall, is_compare}
use Rattle.condition_laws.specs.Carrying.{IsSimpleRow, ActionHas, ActionCarries}
use Rattle.condition_laws.proofs.Holding.{left, right, of_two, is_true_formula-true_formula}
use Rattle.condition_laws.proofs.Acting.{simple, of_simple, of_simple_pre}
use Rattle.condition_laws.proofs.Carrying.{simplified_carry}

module _ (w : World) (oracle : Oracle) where
  -- what a formula that simplification doesn't make `false` has, the formula had
  abbrev Gains : (Formula → Bool) → Type 0
  Gains test = (f : Formula) → is_false_formula (simplified w oracle f) ≡ false → anywhere test (simplified w oracle f) ≡ true → anywhere test f ≡ true

  abbrev kept_if : Bool → Row → Option Row
  kept_if b row = if b then None else Some (record { vars = row.vars; when = simplified w oracle row.when; effect = row.effect })

  rows_are : (rows : List Row) → Every (λ q. Somewhere (λ r. IsSimpleRow w oracle q r) rows) (filter_map (simple_row w oracle) rows)
  rows_are [] = tt
  rows_are (row ∷ rows) = by (is_false_formula (simplified w oracle row.when)) refl (rows_are rows)
    where
      later : (qs : List Row) → Every (λ q. Somewhere (λ r. IsSimpleRow w oracle q r) rows) qs → Every (λ q. Somewhere (λ r. IsSimpleRow w oracle q r) (row ∷ rows)) qs
      later [] h = tt
      later (q ∷ qs) h = (inr h.0, later qs h.1)

      by : (b : Bool) → is_false_formula (simplified w oracle row.when) ≡ b → Every (λ q. Somewhere (λ r. IsSimpleRow w oracle q r) rows) (filter_map (simple_row w oracle) rows) →
          Every (λ q. Somewhere (λ r. IsSimpleRow w oracle q r) (row ∷ rows)) (cons_option (kept_if b row) (filter_map (simple_row w oracle) rows))
      by true at more = later (filter_map (simple_row w oracle) rows) more
      by false at more = (inl (record { vars = refl; effect = refl; when = refl; possible = at }), later (filter_map (simple_row w oracle) rows) more)

  in_rows : (test : Formula → Bool) → Gains test → (rows : List Row) →
      list_any (anywhere test) (map (λ r. r.when) (filter_map (simple_row w oracle) rows)) ≡ true → list_any (anywhere test) (map (λ r. r.when) rows) ≡ true
  in_rows test gains [] h = h
  in_rows test gains (row ∷ rows) h = by (is_false_formula (simplified w oracle row.when)) refl h (in_rows test gains rows)
    where
      by : (b : Bool) → is_false_formula (simplified w oracle row.when) ≡ b →
          list_any (anywhere test) (map (λ r. r.when) (cons_option (kept_if b row) (filter_map (simple_row w oracle) rows))) ≡ true →
          (list_any (anywhere test) (map (λ r. r.when) (filter_map (simple_row w oracle) rows)) ≡ true → list_any (anywhere test) (map (λ r. r.when) rows) ≡ true) →
          (anywhere test row.when || list_any (anywhere test) (map (λ r. r.when) rows)) ≡ true
      by true at h more = right (anywhere test row.when) _ (more h)
      by false at h more = ⊎_elim (λ e. left (anywhere test row.when) _ (gains row.when at e)) (λ e. right (anywhere test row.when) _ (more e)) (of_two _ _ h)

  in_action : (test : Formula → Bool) → Gains test → (a : Action) → is_false_formula (simplified w oracle a.pre) ≡ false → ActionHas test (simple w oracle a) → ActionHas test a
  in_action test gains a possible h =
      ⊎_elim (λ e. left (anywhere test a.pre) _ (gains a.pre possible e)) (λ e. right (anywhere test a.pre) _ (in_rows test gains a.rows e)) (of_two _ _ h)

  -- a condition that is `true` stays so
  empty_stays : {n : _} (fs : Row_of-Formula n) → is_empty (items-the_row-Formula _ fs) ≡ true → is_true_formula (simple_and (all_conjuncts w oracle fs)) ≡ true
  unfolding all_conjuncts
  empty_stays end_of-Formula h = is_true_formula-true_formula
  empty_stays (more_of-Formula f fs) h = absurd (true≢false (sym h))

  always_stays : (f : Formula) → is_true_formula f ≡ true → is_true_formula (simplified w oracle f) ≡ true
  unfolding simplified all_conjuncts
  always_stays (And' n fs) h = empty_stays fs h
  always_stays (Or' n fs) h = absurd (true≢false (sym h))
  always_stays (not f) h = absurd (true≢false (sym h))
  always_stays (imply f g) h = absurd (true≢false (sym h))
  always_stays (exists vars f) h = absurd (true≢false (sym h))
  always_stays (forall vars f) h = absurd (true≢false (sym h))
  always_stays (Atom name ts) h = absurd (true≢false (sym h))
  always_stays (Equal t u) h = absurd (true≢false (sym h))
  always_stays (Compare r a b) h = absurd (true≢false (sym h))

  conditional_before : (f : Formula) → flip (is_true_formula (simplified w oracle f)) ≡ true → flip (is_true_formula f) ≡ true
  conditional_before f h = by (is_true_formula f) refl
    where
      by : (b : Bool) → is_true_formula f ≡ b → flip b ≡ true
      by true at = absurd (true≢false (sym h ∙ ap flip (always_stays f at)))
      by false at = refl

  in_conditional : (rows : List Row) → list_any (λ r. flip (is_true_formula r.when)) (filter_map (simple_row w oracle) rows) ≡ true → list_any (λ r. flip (is_true_formula r.when)) rows ≡ true
  in_conditional [] h = h
  in_conditional (row ∷ rows) h = by (is_false_formula (simplified w oracle row.when)) h (in_conditional rows)
    where
      by : (b : Bool) → list_any (λ r. flip (is_true_formula r.when)) (cons_option (kept_if b row) (filter_map (simple_row w oracle) rows)) ≡ true →
          (list_any (λ r. flip (is_true_formula r.when)) (filter_map (simple_row w oracle) rows) ≡ true → list_any (λ r. flip (is_true_formula r.when)) rows ≡ true) →
          (flip (is_true_formula row.when) || list_any (λ r. flip (is_true_formula r.when)) rows) ≡ true
      by true h more = right (flip (is_true_formula row.when)) _ (more h)
      by false h more = ⊎_elim (λ e. left (flip (is_true_formula row.when)) _ (conditional_before row.when e)) (λ e. right (flip (is_true_formula row.when)) _ (more e)) (of_two _ _ h)

  action_carries : (a : Action) → is_false_formula (simplified w oracle a.pre) ≡ false → ActionCarries w oracle (simple w oracle a) a
  action_carries a possible = record {
    name = refl;
    params = refl;
    rows = rows_are a.rows;
    negations = in_action is_not (λ f n. (simplified_carry w oracle f).negations) a possible;
    disjunctive = in_action is_disjunctive (λ f. (simplified_carry w oracle f).disjunctive) a possible;
    equalities = in_action is_equal (λ f n. (simplified_carry w oracle f).equalities) a possible;
    existential = in_action is_exists (λ f n. (simplified_carry w oracle f).existential) a possible;
    universal = in_action is_forall (λ f n. (simplified_carry w oracle f).universal) a possible;
    comparisons = in_action is_compare (λ f n. (simplified_carry w oracle f).comparisons) a possible;
    conditional = in_conditional a.rows;
  }

pub simple_actions_carry : (w : World) (oracle : Oracle) (a b : Action) → simple_action w oracle a ≡ Some b → ActionCarries w oracle b a
simple_actions_carry w oracle a b h =
    subst (λ b. ActionCarries w oracle b a) (of_simple w oracle a b h) (action_carries w oracle a (of_simple_pre w oracle a b h))
