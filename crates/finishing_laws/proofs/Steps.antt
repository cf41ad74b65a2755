-- The law of splitting of what is finished.
use Rattle.std.proofs.Common.{◌≡◌, ◌↔◌, Bool, true, false, cond, codes, List, [], ◌∷◌, map, length, Option, Some, None, IsSomeAnd, option_map, refl, ap, sym, ◌∙◌, subst, inl, inr}
use Rattle.std.specs.List.{cons_option}
use Rattle.up_text.specs.declared.name.Name.{Name}
use Rattle.up_text.specs.Fresh.{fresh_name}
use Rattle.up_text.specs.Lists.{Every, Member, Differ}
use Rattle.up_tree.specs.declared.action.Action.{Action}
use Rattle.up_tree.specs.declared.formula.Formula.{Formula, Atom}
use Rattle.up_tree.specs.declared.problem.Parts.{Parts}
use Rattle.up_tree.specs.declared.truth.Truth.TheVariants as truth
use Rattle.up_tree.specs.Objects.{World, world, unassigned}
use Rattle.up_tree.specs.State.{State, Holds, ground, init}
use Rattle.up_tree.specs.Truth.{True}
use Rattle.up_tree.specs.Changes.{changed}
use Rattle.up_tree.specs.Simplify.{Oracle, knows_nothing, is_false_formula, simplified, simple_action}
use Rattle.up_tree.specs.Plans.{metric_at}
use Rattle.up_tree.specs.WellFormed.{IsAction, IsWellFormed}
use Rattle.up_tree.proofs.Apart.{apart}
use Rattle.up_tree.proofs.Judging.{judged}
use Rattle.semantics_laws.specs.SameTruth.{SameTruth}
use Rattle.condition_laws.specs.Oracles.{IsInitial, IsChanged, IsTrueTo, IsUnchanged}
use Rattle.condition_laws.specs.Taken.{IsTakenWith}
use Rattle.condition_laws.proofs.ActionFeatures.{simple_actions_carry}
use Rattle.condition_laws.proofs.Acting.{simple_actions_are_taken, dropped_are_not_taken}
use Rattle.condition_laws.proofs.Assigning.{is_assigned}
use Rattle.condition_laws.proofs.Running.{itself, unchanged_next}
use Rattle.condition_laws.proofs.Simplifying.{of_never, simplified_keeps, initial_tells}
use Rattle.step_laws.specs.Naming.{Stands, new_actions, new_names}
use Rattle.step_laws.specs.SplitLaw.{CanTakeBy, next_by, SplitLaw}
use Rattle.step_laws.specs.StepLaw.{IsGoal, StepLaw}
use Rattle.step_laws.proofs.Lists.{every_at}
use Rattle.step_laws.proofs.Splitting.{find_member, split_law}
use Rattle.compiling_laws.specs.Forms.{symbols}
use Rattle.compiling_laws.proofs.Lists.{member_left, false_true}
use Rattle.compiling_laws.proofs.Names.{fresh_is_new, new_names_of}
use Rattle.finishing_laws.specs.Finished.{Goal, themselves, finished_by, finished, AreUsed}
use Rattle.finishing_laws.specs.Steps.{StaysRelated, SameState}
use Rattle.finishing_laws.proofs.Finishing.{differ}
use Rattle.finishing_laws.proofs.Left.{left, simple, news, left_new, news_themselves, IsLeft, of_left}
use Rattle.finishing_laws.proofs.Unreached.{predicates_of, changed_among, holds_among}

new_member : (pairs : List Stands) (pair : Stands) → Member pair pairs → Member pair.new (new_actions pairs)
new_member [] pair m = absurd m
new_member (x ∷ pairs) pair (inl e) = inl (ap (λ (s : Stands). s.new) e)
new_member (x ∷ pairs) pair (inr m) = inr (new_member pairs pair m)

-- a pair whose new action isn't dropped is left, with its simplified action
still_left : (w : World) (oracle : Oracle) (pairs : List Stands) (pair : Stands) (b : Action) → Member pair pairs → simple_action w oracle pair.new ≡ Some b →
    Member (let s : Stands = record { new = b; old = pair.old } in s) (left w oracle pairs)
still_left w oracle [] pair b m at = absurd m
still_left w oracle (x ∷ pairs) pair b (inl e) at =
    subst (λ o. Member (let s : Stands = record { new = b; old = pair.old } in s) (cons_option (option_map (λ new. let s : Stands = record { new = new; old = x.old } in s) o) (left w oracle pairs)))
    (sym at ∙ ap (λ (s : Stands). simple_action w oracle s.new) e)
    (inl (λ i. let s : Stands = record { new = b; old = (e i).old } in s))
still_left w oracle (x ∷ pairs) pair b (inr m) at = by (simple_action w oracle x.new) (still_left w oracle pairs pair b m at)
  where
    by : (o : Option Action) → Member (let s : Stands = record { new = b; old = pair.old } in s) (left w oracle pairs) →
        Member (let s : Stands = record { new = b; old = pair.old } in s) (cons_option (option_map (λ new. let s : Stands = record { new = new; old = x.old } in s) o) (left w oracle pairs))
    by None more = more
    by (Some c) more = inr more

module _ (p r : Parts) (pairs : List Stands) (R : State → State → Type 0) (law : SplitLaw p r pairs R) (used : List Name) (oracle : Oracle) (well : IsWellFormed r) (initial : IsInitial r oracle)
    (are : AreUsed r used) where
  abbrev w : World
  w = world r

  abbrev q : Parts
  q = (finished_by used oracle r pairs).parts

  abbrev name : Name
  name = fresh_name (codes "never") used

  abbrev goal : Formula
  goal = simplified w oracle r.goal

  not_there : ¬ Member name (predicates_of r)
  not_there m = fresh_is_new (codes "never") used (are name (member_left name (predicates_of r) _ m))

  never_false : (t : State) → IsUnchanged r t → ¬ Holds t (ground name [])
  never_false t as_first there =
      not_there (holds_among r name [] well.atoms ((as_first.atoms name (λ is. not_there (changed_among r r.actions name well.actions is)) []).1 there))

  true_to : (t : State) → IsUnchanged r t → IsTrueTo t oracle
  true_to t as_first = initial_tells r t oracle initial as_first

  in_r : (pair : Stands) → Member pair pairs → Member pair.new r.actions
  in_r pair m = subst (Member pair.new) (sym law.actions) (new_member pairs pair m)

  formed : (pair : Stands) → Member pair pairs → IsAction r pair.new
  formed pair m = every_at (IsAction r) r.actions pair.new well.actions (in_r pair m)

  taken : (t : State) → IsUnchanged r t → (args : List Name) (pair : Stands) → (k : IsLeft w oracle pairs pair) → IsTakenWith w t args pair.new k.from.new
  taken t as_first args pair k = simple_actions_are_taken r k.from.new pair.new (formed k.from k.member) w t oracle args (true_to t as_first) k.simple

  -- the next state too is as the initial one on what no row changes
  still_unchanged : (t : State) → IsUnchanged r t → (a : Action) → Member a r.actions → (args : List Name) → IsUnchanged r (next_by w t a args)
  still_unchanged t as_first a m args =
      unchanged_next r t (record { action = a.name; args = args }) (next_by w t a args) as_first
      (subst (λ found. IsSomeAnd found (λ (b : Action). next_by w t a args ≡ next_by w t b args))
      (sym (find_member (λ (a : Action). a.name) r.actions a well.action_names.differ m)) refl)

  -- ---- the goal

  goal_at : (t : State) → IsUnchanged r t → SameTruth w t unassigned goal t unassigned r.goal
  goal_at t as_first =
      simplified_keeps w t unassigned oracle r.goal (true_to t as_first) (is_assigned r r.objects [] r.goal well.goal w unassigned (λ v h. false_true h))

  goal_same : (t : State) → IsUnchanged r t → IsGoal r t ↔ IsGoal q t
  unfolding True
  goal_same t as_first = by (is_false_formula goal) refl
    where
      ruled : Bool → Goal
      ruled n = cond n (let g : Goal = record { formula = Atom name []; predicates = record { name = name; args = [] } ∷ [] } in g)
          (let g : Goal = record { formula = goal; predicates = [] } in g)

      by : (n : Bool) → is_false_formula goal ≡ n → IsGoal r t ↔ True w t unassigned (ruled n).formula
      by false at = ((goal_at t as_first).true_where.1, (goal_at t as_first).true_where.0)
      by true at = (
        λ h. absurd (apart w t unassigned goal ((goal_at t as_first).true_where.1 h) (judged w t unassigned goal truth.False (sym (of_never w t unassigned goal at)))),
        λ h. absurd (never_false t as_first h),
      )

  -- ---- the law

  init_same : init r ≡ init q
  unfolding init
  init_same = refl

  names : Differ (new_names (left w oracle pairs))
  names =
      subst Differ
      (ap (λ actions. map (λ (a : Action). a.name) (simple w oracle actions)) law.actions ∙ ap (map (λ (a : Action). a.name)) (sym (left_new w oracle pairs)) ∙ new_names_of (left w oracle pairs))
      (differ used oracle r well initial are)

  followed : (s t : State) → StaysRelated r R s t → (old : Action) → Member old p.actions → (args : List Name) → CanTakeBy (world p) s old args →
      (pair : Stands) × Member pair (left w oracle pairs) × (pair.old ≡ old) × CanTakeBy w t pair.new args
  followed s t related old m args can = by (simple_action w oracle k.0.new) refl
    where
      k : (pair : Stands) × Member pair pairs × (pair.old ≡ old) × CanTakeBy w t pair.new args
      k = law.followed s t related.related old m args can

      by : (o : Option Action) → simple_action w oracle k.0.new ≡ o → (pair : Stands) × Member pair (left w oracle pairs) × (pair.old ≡ old) × CanTakeBy w t pair.new args
      by None at = absurd (dropped_are_not_taken r k.0.new (formed k.0 k.1) w t oracle args (true_to t related.unchanged) at k.3)
      by (Some b) at = (
        record { new = b; old = k.0.old },
        still_left w oracle pairs k.0 b k.1 at,
        k.2,
        (simple_actions_are_taken r k.0.new b (formed k.0 k.1) w t oracle args (true_to t related.unchanged) at).can.1 k.3,
      )

  pub finished_split : SplitLaw p q (left w oracle pairs) (StaysRelated r R)
  finished_split = record {
    actions = refl;
    names = names;
    olds = law.olds;
    stand = λ pair m.
        let k : IsLeft w oracle pairs pair = of_left w oracle pairs pair m in
        let stood = law.stand k.from k.member in (
          subst (λ a. Member a p.actions) (sym k.old) stood.0,
          ap length (simple_actions_carry w oracle k.from.new pair.new k.simple).params ∙ stood.1 ∙ ap (λ (a : Action). length a.params) (sym k.old),
        );
    initial = record { related = subst (R (init p)) init_same law.initial; unchanged = subst (IsUnchanged r) init_same (itself (λ x. ¬ IsChanged r x) (init r)) };
    followed = followed;
    kept = λ s t related pair m args can.
        let k : IsLeft w oracle pairs pair = of_left w oracle pairs pair m in
        subst (λ a. CanTakeBy (world p) s a args) (sym k.old) (law.kept s t related.related k.from k.member args ((taken t related.unchanged args pair k).can.0 can));
    next = λ s t related pair m args can.
        let k : IsLeft w oracle pairs pair = of_left w oracle pairs pair m in
        let same : next_by w t k.from.new args ≡ next_by w t pair.new args = ap (changed t) (sym ((taken t related.unchanged args pair k).fires can)) in
        record {
          related = subst (λ u. R (next_by (world p) s pair.old args) u) same
              (subst (λ a. R (next_by (world p) s a args) (next_by w t k.from.new args)) (sym k.old)
              (law.next s t related.related k.from k.member args ((taken t related.unchanged args pair k).can.0 can)));
          unchanged = subst (IsUnchanged r) same (still_unchanged t related.unchanged k.from.new (in_r k.from k.member) args);
        };
    goal = λ s t related.
        let here = law.goal s t related.related in
        let there = goal_same t related.unchanged in
        (λ h. there.0 (here.0 h), λ h. here.1 (there.1 h));
    metric = λ s t related. law.metric s t related.related;
  }

pub finished_step : (p r : Parts) (pairs : List Stands) (R : State → State → Type 0) → SplitLaw p r pairs R → (used : List Name) (oracle : Oracle) → IsWellFormed r → IsInitial r oracle →
    AreUsed r used → StepLaw p (finished_by used oracle r pairs).parts (finished_by used oracle r pairs).entries (StaysRelated r R)
finished_step p r pairs R law used oracle well initial are =
    split_law (StaysRelated r R) p (finished_by used oracle r pairs).parts (left (world r) oracle pairs) (finished_split p r pairs R law used oracle well initial are)

-- ---- each action for itself

own_pair : (actions : List Action) (pair : Stands) → Member pair (themselves actions) → (pair.old ≡ pair.new) × Member pair.old actions
own_pair [] pair m = absurd m
own_pair (a ∷ actions) pair (inl e) = (ap (λ (s : Stands). s.old) e ∙ sym (ap (λ (s : Stands). s.new) e), inl (ap (λ (s : Stands). s.old) e))
own_pair (a ∷ actions) pair (inr m) = let k = own_pair actions pair m in (k.0, inr k.1)

in_themselves : (actions : List Action) (a : Action) → Member a actions → Member (let s : Stands = record { new = a; old = a } in s) (themselves actions)
in_themselves [] a m = absurd m
in_themselves (b ∷ actions) a (inl e) = inl (λ i. let s : Stands = record { new = e i; old = e i } in s)
in_themselves (b ∷ actions) a (inr m) = inr (in_themselves actions a m)

own_split : (p : Parts) → IsWellFormed p → SplitLaw p p (themselves p.actions) SameState
own_split p well =
    let own : new_actions (themselves p.actions) ≡ p.actions = news_themselves (world p) knows_nothing p.actions in
    record {
      actions = sym own;
      names = subst Differ (ap (map (λ (a : Action). a.name)) (sym own) ∙ new_names_of (themselves p.actions)) well.action_names.differ;
      olds = well.action_names.differ;
      stand = λ pair m. let k = own_pair p.actions pair m in (k.1, ap (λ (a : Action). length a.params) (sym k.0));
      initial = refl;
      followed = λ s t is old m args can. (record { new = old; old = old }, in_themselves p.actions old m, refl, subst (λ x. CanTakeBy (world p) x old args) is can);
      kept = λ s t is pair m args can.
          subst (λ a. CanTakeBy (world p) s a args) (sym (own_pair p.actions pair m).0) (subst (λ x. CanTakeBy (world p) x pair.new args) (sym is) can);
      next = λ s t is pair m args can. λ i. next_by (world p) (is i) ((own_pair p.actions pair m).0 i) args;
      goal = λ s t is. (λ h. subst (λ x. IsGoal p x) is h, λ h. subst (λ x. IsGoal p x) (sym is) h);
      metric = λ s t is. ap (metric_at p) is;
    }

pub own_step : (p : Parts) → IsWellFormed p → (used : List Name) (oracle : Oracle) → IsInitial p oracle → AreUsed p used →
    StepLaw p (finished used oracle p).parts (finished used oracle p).entries (StaysRelated p SameState)
own_step p well used oracle initial are = finished_step p p (themselves p.actions) SameState (own_split p well) used oracle well initial are
