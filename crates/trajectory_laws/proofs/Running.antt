-- Runs of the problem with monitors, beside runs of the source.
use Rattle.std.proofs.Common.{◌≡◌, ◌↔◌, Bool, true, not as flip, ◌&&◌, ◌||◌, List, [], ◌∷◌, ◌++◌, map, flat_map, Option, refl, ap, sym, ◌∙◌, subst, inl, inr}
use Rattle.std.specs.List.{list_any}
use Rattle.std.specs.FinSet as set
use Rattle.up_text.specs.declared.name.Name.{Name}
use Rattle.up_text.specs.Lists.{Every, Somewhere, Member, Differ}
use Rattle.up_tree.specs.declared.action.Action.{Action}
use Rattle.up_tree.specs.declared.action.Effect.{Effect}
use Rattle.up_tree.specs.declared.action.Effect.TheVariants as effect
use Rattle.up_tree.specs.declared.action.Row.{Row}
use Rattle.up_tree.specs.declared.formula.Formula.{Formula, And}
use Rattle.up_tree.specs.declared.problem.Parts.{Parts}
use Rattle.up_tree.specs.declared.problem.Step.{Step}
use Rattle.up_tree.specs.Objects.{World, world, Assignment, unassigned}
use Rattle.up_tree.specs.State.{State, Ground, ground}
use Rattle.up_tree.specs.Truth.{True, IsUndefined}
use Rattle.up_tree.specs.Judged.{is_true, truth_of}
use Rattle.up_tree.specs.Instances.{Fired, action_assignment, firing}
use Rattle.up_tree.specs.Changes.{added, deleted, of_firing, is_at, changed}
use Rattle.up_tree.specs.Faults.{CanTake, IsNext}
use Rattle.up_tree.specs.WellFormed.{IsFormula, IsPlain, IsAction, IsWellFormed}
use Rattle.up_tree.proofs.Nodes.{True-And}
use Rattle.up_tree.proofs.States.{contains-changed}
use Rattle.semantics_laws.specs.SameTruth.{SameTruth}
use Rattle.semantics_laws.specs.Symbols.{Symbol, predicate, target, FormulaNames, ActionNames, AgreeOn}
use Rattle.semantics_laws.proofs.Agreeing.{same_judged}
use Rattle.semantics_laws.proofs.Framing.{none_there, added_apart, deleted_apart, made_apart}
use Rattle.semantics_laws.proofs.Lists.{each_as}
use Rattle.semantics_laws.proofs.Same.{same_truth}
use Rattle.semantics_laws.proofs.Stepping.{same_faults, agree_next}
use Rattle.step_laws.specs.SplitLaw.{CanTakeBy, next_by}
use Rattle.step_laws.specs.StepLaw.{IsGoal}
use Rattle.condition_laws.proofs.Running.{agree_over}
use Rattle.compiling_laws.proofs.Bare.{AreBare, plain}
use Rattle.compiling_laws.proofs.Lists.{member_left, member_right}
use Rattle.step_laws.proofs.Lists.{every_at}
use Rattle.finishing_laws.proofs.Unreached.{predicates_of, changed_among}
use Rattle.trajectory_laws.specs.Variables.{bound, action_variables, with_new_names}
use Rattle.trajectory_laws.specs.Trajectory.{Watch, always, sometime, at_most_once, sometime_after, sometime_before, monitors, to_precondition, to_rows, to_goal, watched_formulas, watch_by, action_renamings, watched_action}
use Rattle.trajectory_laws.specs.Memory.{Memory, is_set, remembered, goes_on, ends, advanced}
use Rattle.trajectory_laws.proofs.Kept.{told}
use Rattle.trajectory_laws.proofs.Told.{Sure, plain_sure, no_scope, closed_same}
use Rattle.trajectory_laws.proofs.NewNames.{AreNew, Within, IsStill, new_names_keep}
use Rattle.trajectory_laws.proofs.Adding.{filter_map-append, any-append, Marks, Apart, marked, firing_is, taken_from, taken_with, next_agrees}
use Rattle.trajectory_laws.proofs.Watching.{Tells, AreTold, may_go_on, may_end, rows_sure, rows_bare, rows_mark, same_monitors, hit, own_added, own_deleted, memory_after}
use Rattle.trajectory_laws.proofs.Declared.{formula_declared, action_declared}

-- ---- lists

every_append : {X : Type 0} (P : X → Type 0) (xs ys : List X) → Every P xs → Every P ys → Every P (xs ++ ys)
every_append P [] ys h k = k
every_append P (x ∷ xs) ys h k = (h.0, every_append P xs ys h.1 k)

every_first : {X : Type 0} (P : X → Type 0) (xs ys : List X) → Every P (xs ++ ys) → Every P xs
every_first P [] ys h = tt
every_first P (x ∷ xs) ys h = (h.0, every_first P xs ys h.1)

every_second : {X : Type 0} (P : X → Type 0) (xs ys : List X) → Every P (xs ++ ys) → Every P ys
every_second P [] ys h = h
every_second P (x ∷ xs) ys h = every_second P xs ys h.1

pub of_every_map : {X Y : Type 0} (P : Y → Type 0) (f : X → Y) (xs : List X) → Every P (map f xs) → Every (λ x. P (f x)) xs
of_every_map P f [] h = tt
of_every_map P f (x ∷ xs) h = (h.0, of_every_map P f xs h.1)

same_watch : (x : Watch) → watch_by (λ f. f) x ≡ x
same_watch (always f) = refl
same_watch (sometime f had) = refl
same_watch (at_most_once f seen gone) = refl
same_watch (sometime_after f g due) = refl
same_watch (sometime_before f g was) = refl

-- ---- the setting

-- an instance and what is remembered of it
pub record Held : Type 0 where
  pub watch : Watch
  pub memory : Memory

abbrev pub forth : (Formula → Bool) → Held → Held
forth is h = record { watch = h.watch; memory = advanced is h.watch h.memory }

abbrev pub held : State → Watch → Held
held t x = record { watch = x; memory = remembered t x }

-- the steps can be taken to the goal, and at each state the instances let the run go on, and at the last one end
abbrev pub GoesFrom : Parts → State → List Held → List Step → Type 0
GoesFrom p s hs [] = IsGoal p s × Every (λ h. ends (told (world p) s) h.watch h.memory ≡ true) hs
GoesFrom p s hs (step ∷ steps) =
    CanTake p s step × Every (λ h. goes_on (told (world p) s) h.watch h.memory ≡ true) hs
    × ((u : State) × IsNext p s step u × GoesFrom p u (map (forth (told (world p) s)) hs) steps)

-- what the instances' formulas are, and their monitors
pub record IsSetting (p : Parts) (variables : List Name) (xs : List Watch) : Type 0 where
  pub formed : IsWellFormed p
  pub new : (m : Name) → Member m (flat_map monitors xs) → ¬ Member m (predicates_of p)
  pub differ : Differ (flat_map monitors xs)
  pub closed : Every (λ x. Every (λ f. IsFormula p p.objects [] f × IsPlain f × Within (bound f) variables) (watched_formulas x)) xs
  pub renewed : (a : Action) → Member a p.actions → AreNew (action_renamings variables xs a) (action_variables a ++ variables)

module _ (p : Parts) (variables : List Name) (xs : List Watch) (setting : IsSetting p variables xs) where
  abbrev pub w : World
  w = world p

  abbrev pub ms : List Name
  ms = flat_map monitors xs

  abbrev pub Agree : State → State → Type 0
  Agree s t = AgreeOn (Apart ms) s t

  closed_names : (f : Formula) → IsFormula p p.objects [] f → (x : Symbol) → FormulaNames f x → Apart ms x
  closed_names f is x h m at e = setting.new m at (formula_declared p p.objects m [] f is (subst (FormulaNames f) e h))

  action_names : (a : Action) → IsAction p a → (x : Symbol) → ActionNames a x → Apart ms x
  action_names a is x h m at e = setting.new m at (action_declared p m a is (subst (ActionNames a) e h))

  -- ---- one step of an action

  module _ (s t : State) (agree : Agree s t) where
    abbrev is : Formula → Bool
    is = told w s

    -- a formula that is the same in all states of its own as one of an instance
    told_by : (e : Assignment) (f g : Formula) → IsFormula p p.objects [] f → IsPlain f → truth_of w t e g ≡ truth_of w t e f → Tells w t e g (is f)
    told_by e f g formed plain same = record {
      sure = subst Sure (sym same) (plain_sure p p.objects t w [] f formed plain e (no_scope e));
      same = ap (λ v. is_true v) (same ∙ closed_same p p.objects w t e unassigned f formed ∙ sym (same_judged (Apart ms) s t agree w unassigned f (closed_names f formed)));
    }

    module _ (a : Action) (member : Member a p.actions) (args : List Name) where
      abbrev formed_a : IsAction p a
      formed_a = every_at (IsAction p) p.actions a setting.formed.actions member

      abbrev change : Formula → Formula
      change = with_new_names (action_renamings variables xs a)

      abbrev e : Assignment
      e = action_assignment a args

      abbrev cs : List Formula
      cs = flat_map to_precondition (map (watch_by change) xs)

      abbrev rs : List Row
      rs = flat_map to_rows (map (watch_by change) xs)

      told_formula : (f : Formula) → IsFormula p p.objects [] f × IsPlain f × Within (bound f) variables → Tells w t e (change f) (is f)
      told_formula f so =
          let still : IsStill p p.objects (change f) f = new_names_keep p p.objects (action_renamings variables xs a) (action_variables a ++ variables) (setting.renewed a member) f so.0 so.1
          (λ v m. member_right v (action_variables a) variables (so.2 v m)) in
          told_by e f (change f) so.0 so.1 (still.truth w t e)

      told_watches : (ys : List Watch) → Every (λ x. Every (λ f. IsFormula p p.objects [] f × IsPlain f × Within (bound f) variables) (watched_formulas x)) ys → Every (AreTold w t e is change) ys
      told_watches ys closed = each_as _ (AreTold w t e is change) (λ x so. each_as _ (λ f. Tells w t e (change f) (is f)) told_formula (watched_formulas x) so) ys closed

      all_told : Every (AreTold w t e is change) xs
      all_told = told_watches xs setting.closed

      bare_all : (ys : List Watch) → AreBare (flat_map to_rows (map (watch_by change) ys))
      bare_all [] = tt
      bare_all (y ∷ ys) = every_append (λ (r : Row). r.vars ≡ []) (to_rows (watch_by change y)) (flat_map to_rows (map (watch_by change) ys)) (rows_bare (watch_by change y)) (bare_all ys)

      more_marks : (ns os : List Name) → ((m : Name) → Member m ns → Member m os) → (x : Effect) → Marks ns x → Marks os x
      more_marks ns os within (effect.Add m []) h = within m h
      more_marks ns os within (effect.Add m (u ∷ us)) h = h
      more_marks ns os within (effect.Delete m []) h = within m h
      more_marks ns os within (effect.Delete m (u ∷ us)) h = h
      more_marks ns os within (effect.Number c f us x) h = h
      more_marks ns os within (effect.Object f us u) h = h
      more_marks ns os within (effect.Undefine f us) h = h

      marks_all : (ys : List Watch) → Every (λ (r : Row). Marks (flat_map monitors ys) r.effect) (flat_map to_rows (map (watch_by change) ys))
      marks_all [] = tt
      marks_all (y ∷ ys) =
          every_append (λ (r : Row). Marks (monitors y ++ flat_map monitors ys) r.effect) (to_rows (watch_by change y)) (flat_map to_rows (map (watch_by change) ys))
          (each_as (λ (r : Row). Marks (monitors (watch_by change y)) r.effect) (λ (r : Row). Marks (monitors y ++ flat_map monitors ys) r.effect)
          (λ r h. more_marks (monitors (watch_by change y)) (monitors y ++ flat_map monitors ys)
          (λ m k. member_left m (monitors y) (flat_map monitors ys) (subst (Member m) (same_monitors change y) k)) r.effect h) (to_rows (watch_by change y)) (rows_mark (watch_by change y)))
          (each_as (λ (r : Row). Marks (flat_map monitors ys) r.effect) (λ (r : Row). Marks (monitors y ++ flat_map monitors ys) r.effect)
          (λ r h. more_marks (flat_map monitors ys) (monitors y ++ flat_map monitors ys) (λ m k. member_right m (monitors y) (flat_map monitors ys) k) r.effect h)
          (flat_map to_rows (map (watch_by change) ys)) (marks_all ys))

      sure_all : (ys : List Watch) → Every (AreTold w t e is change) ys → Every (λ (r : Row). ¬ IsUndefined w t e r.when) (flat_map to_rows (map (watch_by change) ys))
      sure_all [] h = tt
      sure_all (y ∷ ys) h =
          every_append (λ (r : Row). ¬ IsUndefined w t e r.when) (to_rows (watch_by change y)) (flat_map to_rows (map (watch_by change) ys)) (rows_sure w t e is change y h.0) (sure_all ys h.1)

      abbrev GoOn : List Watch → Type 0
      GoOn ys = Every (λ x. goes_on is x (remembered t x) ≡ true) ys

      go_from : (ys : List Watch) → Every (AreTold w t e is change) ys → Every (True w t e) (flat_map to_precondition (map (watch_by change) ys)) → GoOn ys
      go_from [] h k = tt
      go_from (y ∷ ys) h k = (
        (may_go_on w t e is change y h.0).0 (every_first (True w t e) (to_precondition (watch_by change y)) (flat_map to_precondition (map (watch_by change) ys)) k),
        go_from ys h.1 (every_second (True w t e) (to_precondition (watch_by change y)) (flat_map to_precondition (map (watch_by change) ys)) k),
      )

      go_to : (ys : List Watch) → Every (AreTold w t e is change) ys → GoOn ys → Every (True w t e) (flat_map to_precondition (map (watch_by change) ys))
      go_to [] h k = tt
      go_to (y ∷ ys) h k =
          every_append (True w t e) (to_precondition (watch_by change y)) (flat_map to_precondition (map (watch_by change) ys)) ((may_go_on w t e is change y h.0).1 k.0) (go_to ys h.1 k.1)

      abbrev new_a : Action
      new_a = watched_action variables xs a

      pub taken_both : CanTakeBy w t new_a args → CanTakeBy w s a args × GoOn xs
      taken_both can =
          let k : CanTakeBy w t a args × Every (True w t e) cs = taken_from ms w t a cs rs args (bare_all xs) (marks_all xs) (sure_all xs all_told) can in
          (λ fault h. k.0 fault ((same_faults (Apart ms) s t agree w a args (action_names a formed_a) fault).0 h), go_from xs all_told k.1)

      pub both_taken : CanTakeBy w s a args → GoOn xs → CanTakeBy w t new_a args
      both_taken can go =
          taken_with ms w t a cs rs args (bare_all xs) (marks_all xs) (sure_all xs all_told)
          (λ fault h. can fault ((same_faults (Apart ms) s t agree w a args (action_names a formed_a) fault).1 h)) (go_to xs all_told go)

      pub next_both : Agree (next_by w s a args) (next_by w t new_a args)
      next_both =
          agree_over (Apart ms) (next_by w s a args) (next_by w t a args) (next_by w t new_a args)
          (agree_next (Apart ms) s t agree w a args (action_names a formed_a)) (next_agrees ms w t a cs rs args (bare_all xs) (marks_all xs))

      -- ---- the next memory

      untouched : (m : Name) → Member m ms → ¬ Somewhere (λ (row : Row). predicate m ≡ target row.effect) a.rows
      untouched m at h = setting.new m at (changed_among p (a ∷ []) m (formed_a, tt) (inl h))

      abbrev fa : List Fired
      fa = firing w t a args

      hits : (what : State → Assignment → Effect → Option Ground) (q : Ground) → Every (λ g. ¬ (q ≡ g)) (of_firing what t fa) →
          list_any (is_at q) (of_firing what t (fa ++ marked ms w t a cs rs args)) ≡ hit w t e q what rs
      hits what q none =
          ap (list_any (is_at q)) (filter_map-append (λ (f : Fired). what t f.assignment f.effect) fa (marked ms w t a cs rs args))
          ∙ any-append (is_at q) (of_firing what t fa) (of_firing what t (marked ms w t a cs rs args))
          ∙ ap (λ b. b || hit w t e q what rs) (none_there (λ g. g) q (of_firing what t fa) none)

      pub next_set : (m : Name) → Member m ms →
          is_set (next_by w t new_a args) m ≡ ((is_set t m && flip (hit w t e (ground m []) deleted rs)) || hit w t e (ground m []) added rs)
      next_set m at =
          let q : Ground = ground m [] in
          ap (λ fs. set.contains (changed t fs).atoms q) (firing_is ms w t a cs rs args (bare_all xs) (marks_all xs))
          ∙ contains-changed t (fa ++ marked ms w t a cs rs args) q
          ∙ (λ i. (set.contains t.atoms q && flip (hits deleted q (made_apart w t a args (predicate m) (λ g. ¬ (q ≡ g)) deleted (deleted_apart t m []) (untouched m at)) i))
          || hits added q (made_apart w t a args (predicate m) (λ g. ¬ (q ≡ g)) added (added_apart t m []) (untouched m at)) i)

      differ_own : (x : Watch) (ys : List Watch) → Member x ys → Differ (flat_map monitors ys) → Differ (monitors x)
      differ_own x [] at differ = absurd at
      differ_own x (y ∷ ys) (inl same) differ = subst (λ z. Differ (monitors z)) (sym same) (first_differ (monitors y) (flat_map monitors ys) differ)
        where
          first_differ : (ns os : List Name) → Differ (ns ++ os) → Differ ns
          first_differ [] os d = tt
          first_differ (n ∷ ns) os d = (λ k. d.0 (member_left n ns os k), first_differ ns os d.1)
      differ_own x (y ∷ ys) (inr at) differ = differ_own x ys at (later (monitors y) (flat_map monitors ys) differ)
        where
          later : (ns os : List Name) → Differ (ns ++ os) → Differ os
          later [] os d = d
          later (n ∷ ns) os d = later ns os d.1

      in_all : (x : Watch) (ys : List Watch) (m : Name) → Member x ys → Member m (monitors x) → Member m (flat_map monitors ys)
      in_all x [] m at k = absurd at
      in_all x (y ∷ ys) m (inl same) k = member_left m (monitors y) (flat_map monitors ys) (subst (λ z. Member m (monitors z)) same k)
      in_all x (y ∷ ys) m (inr at) k = member_right m (monitors y) (flat_map monitors ys) (in_all x ys m at k)

      pub next_memory : (x : Watch) → Member x xs → remembered (next_by w t new_a args) x ≡ advanced is x (remembered t x)
      next_memory x at =
          memory_after w t e is change (next_by w t new_a args) x (every_at (AreTold w t e is change) xs x all_told at) (differ_own x xs at setting.differ)
          (λ m k. next_set m (in_all x xs m at k)
          ∙ (λ i. (is_set t m && flip (own_deleted w t e m change xs setting.differ x at k i)) || own_added w t e m change xs setting.differ x at k i))

    -- ---- the goal

    ends_told : (x : Watch) → Every (λ f. IsFormula p p.objects [] f × IsPlain f × Within (bound f) variables) (watched_formulas x) → AreTold w t unassigned is (λ f. f) x
    ends_told x so = each_as _ (λ f. Tells w t unassigned f (is f)) (λ f k. told_by unassigned f f k.0 k.1 refl) (watched_formulas x) so

    ends_both : (x : Watch) → Every (λ f. IsFormula p p.objects [] f × IsPlain f × Within (bound f) variables) (watched_formulas x) → True w t unassigned (to_goal x) ↔ (ends is x (remembered t x) ≡ true)
    ends_both x so = subst (λ y. True w t unassigned (to_goal y) ↔ (ends is x (remembered t x) ≡ true)) (same_watch x) (may_end w t unassigned is (λ f. f) x (ends_told x so))

    abbrev new_goal : Formula
    new_goal = And (p.goal ∷ map to_goal xs)

    old_goal : SameTruth w s unassigned p.goal t unassigned p.goal
    old_goal = same_truth w s unassigned p.goal t unassigned p.goal (same_judged (Apart ms) s t agree w unassigned p.goal (closed_names p.goal setting.formed.goal))

    end_from : (ys : List Watch) → Every (λ x. Every (λ f. IsFormula p p.objects [] f × IsPlain f × Within (bound f) variables) (watched_formulas x)) ys →
        Every (True w t unassigned) (map to_goal ys) → Every (λ x. ends is x (remembered t x) ≡ true) ys
    end_from [] so k = tt
    end_from (y ∷ ys) so k = ((ends_both y so.0).0 k.0, end_from ys so.1 k.1)

    end_to : (ys : List Watch) → Every (λ x. Every (λ f. IsFormula p p.objects [] f × IsPlain f × Within (bound f) variables) (watched_formulas x)) ys →
        Every (λ x. ends is x (remembered t x) ≡ true) ys → Every (True w t unassigned) (map to_goal ys)
    end_to [] so k = tt
    end_to (y ∷ ys) so k = ((ends_both y so.0).1 k.0, end_to ys so.1 k.1)

    pub goal_both : True w t unassigned new_goal ↔ (IsGoal p s × Every (λ x. ends is x (remembered t x) ≡ true) xs)
    goal_both = (
      λ h. let k : Every (True w t unassigned) (p.goal ∷ map to_goal xs) = subst (λ X. X) (True-And w t unassigned (p.goal ∷ map to_goal xs)) h in
          (old_goal.true_where.1 k.0, end_from xs setting.closed k.1),
      λ h. subst (λ X. X) (sym (True-And w t unassigned (p.goal ∷ map to_goal xs))) (old_goal.true_where.0 h.0, end_to xs setting.closed h.1),
    )
