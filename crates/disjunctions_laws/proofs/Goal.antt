-- The law of splitting with fake actions, for a goal of no clause or several.
use Rattle.std.proofs.Common.{◌≡◌, ◌↔◌, ◌+◌, ◌<◌, ◌^◌, codes, List, [], ◌∷◌, ◌++◌, map, take, length, length-append, Option, Some, None, option_map, refl, ap, sym, ◌∙◌, subst, inl, inr, arith}
use Rattle.up_text.specs.declared.name.Name.{Name}
use Rattle.up_text.specs.Fresh.{fresh_name}
use Rattle.up_text.specs.Lists.{Every, Somewhere, Member, Differ}
use Rattle.up_tree.specs.declared.action.Action.{Action}
use Rattle.up_tree.specs.declared.action.Row.{Row}
use Rattle.up_tree.specs.declared.formula.Formula.{Formula}
use Rattle.up_tree.specs.declared.problem.Metric.{Metric}
use Rattle.up_tree.specs.declared.problem.Parts.{Parts}
use Rattle.up_tree.specs.Objects.{World, world, unassigned}
use Rattle.up_tree.specs.State.{State, Holds, ground, init}
use Rattle.up_tree.specs.Truth.{True}
use Rattle.up_tree.specs.Value.{number}
use Rattle.up_tree.specs.WellFormed.{IsWellFormed, IsAction}
use Rattle.semantics_laws.specs.Symbols.{Symbol, predicate, target, ActionNames, FormulaNames, ExprNames, AgreeOn}
use Rattle.semantics_laws.proofs.Agreeing.{same_judged, same_number}
use Rattle.semantics_laws.proofs.Same.{same_truth}
use Rattle.semantics_laws.proofs.Stepping.{same_faults, agree_next}
use Rattle.condition_laws.specs.Assigned.{IsOfScope}
use Rattle.condition_laws.proofs.Running.{agree_over, itself}
use Rattle.step_laws.specs.Naming.{Stands, entry_of, new_names}
use Rattle.step_laws.specs.StepLaw.{IsGoal}
use Rattle.step_laws.specs.SplitLaw.{CanTakeBy, next_by}
use Rattle.compiling_laws.proofs.Lists.{false_true, of_map, member_map, member_left, length-map}
use Rattle.step_laws.proofs.Lists.{every_at}
use Rattle.compiling_laws.proofs.Names.{fresh_is_new, differ_append}
use Rattle.compiling_laws.specs.Forms.{symbols}
use Rattle.finishing_laws.proofs.Unreached.{predicates_of, changed_among, holds_among}
use Rattle.disjunctions_laws.specs.Disjunctions.{with_delete, fake_action, fake_actions, clause_pairs, goal_clauses, goal_fact, action_names as used_names, fakes, with_fakes}
use Rattle.disjunctions_laws.specs.FakeLaw.{Ends, FakeLaw}
use Rattle.disjunctions_laws.specs.Related.{IsOther, GoalFact}
use Rattle.disjunctions_laws.proofs.Clauses.{some_clause, of_clause, clause_formed}
use Rattle.disjunctions_laws.proofs.Declared.{expr_names, formula_names, action_names}
use Rattle.disjunctions_laws.proofs.LastRow.{with_last, without_last, agree_last, fact_gone, fake_agrees, fake_adds, fake_can}
use Rattle.disjunctions_laws.proofs.Splitting.{IsVariant, pair_is, new_names_differ, holds_pre, Follows, follows, pair_kept, pair_next, pair_stands}

-- ---- fake actions

-- the fake action of one of the clauses
pub record IsFake (fact : Name) (clauses : List Formula) (fake : Action) : Type 0 where
  pub clause : Formula
  pub listed : Member clause clauses
  pub is : fake ≡ fake_action fact fake.name clause

pub of_fakes : (used : List Name) (fact : Name) (clauses : List Formula) (fake : Action) → Member fake (fake_actions used fact clauses) → IsFake fact clauses fake
of_fakes used fact [] fake m = absurd m
of_fakes used fact (c ∷ clauses) fake (inl e) =
    record { clause = c; listed = inl refl; is = e ∙ ap (λ n. fake_action fact n c) (sym (ap (λ (a : Action). a.name) e)) }
of_fakes used fact (c ∷ clauses) fake (inr m) =
    let k : IsFake fact clauses fake = of_fakes (fresh_name (codes "reach-goal") used ∷ used) fact clauses fake m in
    record { clause = k.clause; listed = inr k.listed; is = k.is }

pub fake_for : (used : List Name) (fact : Name) (clauses : List Formula) (c : Formula) → Member c clauses
    → (name : Name) × Member (fake_action fact name c) (fake_actions used fact clauses)
fake_for used fact [] c m = absurd m
fake_for used fact (d ∷ clauses) c (inl e) =
    (fresh_name (codes "reach-goal") used, inl (ap (λ x. fake_action fact (fresh_name (codes "reach-goal") used) x) e))
fake_for used fact (d ∷ clauses) c (inr m) =
    let k = fake_for (fresh_name (codes "reach-goal") used ∷ used) fact clauses c m in (k.0, inr k.1)

pub fake_new : (used : List Name) (fact : Name) (clauses : List Formula) (n : Name)
    → Member n (map (λ (a : Action). a.name) (fake_actions used fact clauses)) → ¬ Member n used
fake_new used fact [] n m = absurd m
fake_new used fact (c ∷ clauses) n (inl e) =
    λ there. fresh_is_new (codes "reach-goal") used (subst (λ (x : Name). Member x used) e there)
fake_new used fact (c ∷ clauses) n (inr m) =
    λ there. fake_new (fresh_name (codes "reach-goal") used ∷ used) fact clauses n m (inr there)

pub fake_differ : (used : List Name) (fact : Name) (clauses : List Formula)
    → Differ (map (λ (a : Action). a.name) (fake_actions used fact clauses))
fake_differ used fact [] = tt
fake_differ used fact (c ∷ clauses) =
    let name : Name = fresh_name (codes "reach-goal") used in (
      λ m. fake_new (name ∷ used) fact clauses name m (inl refl),
      fake_differ (name ∷ used) fact clauses,
    )

-- ---- pairs whose new actions delete the fact

abbrev pub deleting : Name → Stands → Stands
deleting fact pair = record { new = with_delete fact pair.new; old = pair.old }

pub deleting_actions : (fact : Name) (pairs : List Stands) → map (λ (pair : Stands). with_delete fact pair.new) pairs ≡ map (λ (pair : Stands). pair.new) (map (deleting fact) pairs)
deleting_actions fact [] = refl
deleting_actions fact (pair ∷ pairs) = ap (λ l. with_delete fact pair.new ∷ l) (deleting_actions fact pairs)

pub deleting_names : (fact : Name) (pairs : List Stands) → map (λ (pair : Stands). pair.new.name) (map (deleting fact) pairs) ≡ new_names pairs
deleting_names fact [] = refl
deleting_names fact (pair ∷ pairs) = ap (λ l. pair.new.name ∷ l) (deleting_names fact pairs)

pub deleting_entries : (fact : Name) (pairs : List Stands) → map entry_of (map (deleting fact) pairs) ≡ map entry_of pairs
deleting_entries fact [] = refl
deleting_entries fact (pair ∷ pairs) = ap (λ l. entry_of pair ∷ l) (deleting_entries fact pairs)

-- ---- the law

pub no_scope : IsOfScope [] unassigned
no_scope v h = false_true h

-- a new action is well-formed in the source
pub variant_action : (p : Parts) → IsWellFormed p → (pair : Stands) → IsVariant p pair → IsAction p pair.new
variant_action p formed pair k =
    let h : IsAction p pair.old = every_at (IsAction p) p.actions pair.old formed.actions k.member in
    subst (IsAction p) (sym k.is) (record {
      params = h.params;
      pre = clause_formed p (take p.constants p.objects) pair.old.params pair.old.pre h.pre k.clause k.listed;
      rows = h.rows;
    })

module _ (p : Parts) (formed : IsWellFormed p) where
  abbrev pub w : World
  w = world p

  abbrev pub fact : Name
  fact = goal_fact p

  abbrev pub pairs : List Stands
  pairs = clause_pairs p

  abbrev pub clauses : List Formula
  clauses = goal_clauses p

  abbrev pub q : Parts
  q = (with_fakes p pairs clauses).parts

  pub fact_new : ¬ Member fact (symbols p)
  fact_new m = fresh_is_new (codes "goal-reached") (symbols p) m

  pub fact_undeclared : ¬ Member fact (predicates_of p)
  fact_undeclared m = fact_new (member_left fact (predicates_of p) (map (λ d. d.name) p.functions) m)

  -- ---- what the goal and the actions name

  goal_named : (x : Symbol) → FormulaNames p.goal x → IsOther fact x
  goal_named x h e = fact_undeclared (formula_names p fact p.objects [] p.goal formed.goal (subst (FormulaNames p.goal) e h))

  goal_alike : (s t : State) → AgreeOn (IsOther fact) s t → True w s unassigned p.goal ↔ True w t unassigned p.goal
  goal_alike s t agree =
      (same_truth w s unassigned p.goal t unassigned p.goal (same_judged (IsOther fact) s t agree w unassigned p.goal goal_named)).true_where

  action_named : (a : Action) → IsAction p a → (x : Symbol) → ActionNames a x → IsOther fact x
  action_named a is x h e = fact_undeclared (action_names p fact a is (subst (ActionNames a) e h))

  pub rows_other : (a : Action) → IsAction p a → Every (λ row. ¬ (predicate fact ≡ target row.effect)) a.rows
  rows_other a is = by a.rows (λ some. fact_undeclared (changed_among p (a ∷ []) fact (is, tt) (inl some)))
    where
      by : (rows : List Row) → ¬ Somewhere (λ row. predicate fact ≡ target row.effect) rows → Every (λ row. ¬ (predicate fact ≡ target row.effect)) rows
      by [] n = tt
      by (row ∷ rows) n = (λ e. n (inl e), by rows (λ h. n (inr h)))

  same_metric : (s t : State) → AgreeOn (IsOther fact) s t → (m : Option Metric)
      → option_map (λ (m : Metric). number s unassigned m.value) m ≡ option_map (λ (m : Metric). number t unassigned m.value) m
  same_metric s t agree None = refl
  same_metric s t agree (Some m) =
      ap Some (same_number (IsOther fact) s t agree unassigned m.value (λ x h e. expr_names fact m.value (subst (ExprNames m.value) e h)))

  -- ---- steps

  new_formed : (pair : Stands) → Member pair pairs → IsAction p pair.new
  new_formed pair m = variant_action p formed pair (pair_is p pair m)

  over : (s t : State) → AgreeOn (IsOther fact) s t → (a : Action) → IsAction p a → (args : List Name) → CanTakeBy w s a args → CanTakeBy w t a args
  over s t agree a is args can fault h = can fault ((same_faults (IsOther fact) s t agree w a args (action_named a is) fault).1 h)

  back_over : (s t : State) → AgreeOn (IsOther fact) s t → (a : Action) → IsAction p a → (args : List Name) → CanTakeBy w t a args → CanTakeBy w s a args
  back_over s t agree a is args can fault h = can fault ((same_faults (IsOther fact) s t agree w a args (action_named a is) fault).0 h)

  pair_back : (s t : State) → GoalFact p fact s t → (pair : Stands) → Member pair pairs → (args : List Name) → CanTakeBy w t (with_delete fact pair.new) args → CanTakeBy w s pair.old args
  pair_back s t r pair m args can =
      pair_kept p formed s pair args m (back_over s t r.agree pair.new (new_formed pair m) args (without_last w t fact pair.new args can))

  pair_after : (s t : State) → GoalFact p fact s t → (pair : Stands) → Member pair pairs → (args : List Name)
      → GoalFact p fact (next_by w s pair.old args) (next_by w t (with_delete fact pair.new) args)
  pair_after s t r pair m args = record {
    agree = agree_over (IsOther fact) (next_by w s pair.old args) (next_by w t pair.new args) (next_by w t (with_delete fact pair.new) args)
        (subst (λ u. AgreeOn (IsOther fact) u (next_by w t pair.new args)) (sym (pair_next p formed s pair args m))
        (agree_next (IsOther fact) s t r.agree w pair.new args (action_named pair.new (new_formed pair m))))
        (agree_last w t fact pair.new args);
    goal = λ holds. absurd (fact_gone w t fact pair.new args (rows_other pair.new (new_formed pair m)) holds);
  }

  fake_after : (s t : State) → GoalFact p fact s t → (fake : Action) → IsFake fact clauses fake → (args : List Name) → CanTakeBy w t fake args → GoalFact p fact s (next_by w t fake args)
  fake_after s t r fake k args can =
      subst (λ (a : Action). GoalFact p fact s (next_by w t a args)) (sym k.is) (record {
        agree = agree_over (IsOther fact) s t (next_by w t (fake_action fact fake.name k.clause) args) r.agree (fake_agrees w t fact fake.name k.clause args);
        goal = λ holds. (goal_alike s t r.agree).1 (of_clause p p.objects [] p.goal formed.goal t unassigned no_scope k.clause k.listed
            (holds_pre w t (fake_action fact fake.name k.clause) args (subst (λ (a : Action). CanTakeBy w t a args) k.is can)));
      })

  goal_is : (t : State) → IsGoal q t ↔ Holds t (ground fact [])
  unfolding True
  goal_is t = (λ h. h, λ h. h)

  ends : (s t : State) → GoalFact p fact s t → IsGoal p s → Ends q (fakes p pairs clauses) t
  ends s t r holds =
      let c = some_clause p p.objects [] p.goal formed.goal t unassigned no_scope ((goal_alike s t r.agree).0 holds) in
      let k = fake_for (used_names p pairs) fact clauses c.0 c.1 in
      record {
        fake = fake_action fact k.0 c.0;
        member = k.1;
        can = fake_can w t fact k.0 c.0 c.2;
        goal = (goal_is (next_by w t (fake_action fact k.0 c.0) [])).1 (fake_adds w t fact k.0 c.0 []);
      }

  first : GoalFact p fact (init p) (init q)
  unfolding init
  first = record { agree = itself (IsOther fact) (init p); goal = λ holds. absurd (fact_undeclared (holds_among p fact [] formed.atoms holds)) }

  pub all_differ : Differ (new_names pairs ++ map (λ (a : Action). a.name) (fakes p pairs clauses))
  all_differ =
      differ_append (new_names pairs) (map (λ (a : Action). a.name) (fakes p pairs clauses)) (new_names_differ p formed)
      (fake_differ (used_names p pairs) fact clauses)
      (λ n m k. fake_new (used_names p pairs) fact clauses n k (member_left n (new_names pairs) (map (λ (a : Action). a.name) p.actions) m))

  pub with_fakes_law : FakeLaw p q (map (deleting fact) pairs) (fakes p pairs clauses) (GoalFact p fact)
  with_fakes_law = record {
    actions = ap (λ l. l ++ fakes p pairs clauses) (deleting_actions fact pairs);
    names = subst (λ ns. Differ (ns ++ map (λ (a : Action). a.name) (fakes p pairs clauses))) (sym (deleting_names fact pairs)) all_differ;
    olds = formed.action_names.differ;
    stand = λ pair m.
        let o = of_map (deleting fact) pairs pair m in
        subst (λ (x : Stands). Member x.old p.actions × (length x.new.params ≡ length x.old.params)) (sym o.2) (pair_stands p formed o.0 o.1);
    bare = λ fake m. ap (λ (a : Action). a.params) (of_fakes (used_names p pairs) fact clauses fake m).is;
    initial = first;
    followed = λ s t r old m args can.
        let k : Follows p formed s old args = follows p formed s old args m can in (
          deleting fact k.pair,
          member_map (deleting fact) pairs k.pair k.member,
          k.same_old,
          with_last w t fact k.pair.new args (over s t r.agree k.pair.new (new_formed k.pair k.member) args k.can),
        );
    kept = λ s t r pair m args can.
        let o = of_map (deleting fact) pairs pair m in
        subst (λ (x : Stands). CanTakeBy w s x.old args) (sym o.2) (pair_back s t r o.0 o.1 args (subst (λ (x : Stands). CanTakeBy w t x.new args) o.2 can));
    next = λ s t r pair m args can.
        let o = of_map (deleting fact) pairs pair m in
        subst (λ (x : Stands). GoalFact p fact (next_by w s x.old args) (next_by w t x.new args)) (sym o.2) (pair_after s t r o.0 o.1 args);
    dropped = λ s t r fake m args can. fake_after s t r fake (of_fakes (used_names p pairs) fact clauses fake m) args can;
    reached = λ s t r holds. inr (ends s t r holds);
    goal = λ s t r holds. r.goal ((goal_is t).0 holds);
    metric = λ s t r. same_metric s t r.agree p.metric;
  }
