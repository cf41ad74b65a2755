-- The problem with monitors has the plans of the source.
use Rattle.std.proofs.Common.{◌≡◌, ◌↔◌, Bool, true, false, cond, List, [], ◌∷◌, ◌++◌, map, flat_map, find, length, Option, Some, None, option_map, IsSomeAnd, refl, ap, sym, ◌∙◌, subst, inl, inr}
use Rattle.up_text.specs.declared.name.Name.{Name}
use Rattle.up_text.specs.Names.{same_name}
use Rattle.up_text.specs.Lists.{Every, Member}
use Rattle.up_tree.specs.declared.action.Action.{Action}
use Rattle.up_tree.specs.declared.formula.Formula.{Formula, And}
use Rattle.up_tree.specs.declared.problem.Constraint.{Constraint}
use Rattle.up_tree.specs.declared.problem.Metric.{Metric}
use Rattle.up_tree.specs.declared.problem.Parts.{Parts}
use Rattle.up_tree.specs.declared.problem.Plan.{Plan}
use Rattle.up_tree.specs.declared.problem.Rule.{Rule}
use Rattle.up_tree.specs.declared.problem.Step.{Step}
use Rattle.up_tree.specs.Objects.{World, world, unassigned, tuples, action_named}
use Rattle.up_tree.specs.State.{State, init}
use Rattle.up_tree.specs.Value.{number}
use Rattle.up_tree.specs.Faults.{Fault, unknown, CanTake, IsNext}
use Rattle.up_tree.specs.Plans.{RunsFrom, OfLast, KeepsRule, Keeps, Plans, MetricOf, metric_at}
use Rattle.up_tree.proofs.Steps.{ByAction, Reaches, reached, run_of, reach_unique, next_exists}
use Rattle.semantics_laws.specs.Symbols.{ExprNames}
use Rattle.semantics_laws.proofs.Agreeing.{same_number}
use Rattle.semantics_laws.proofs.Lists.{each_as, each_map, each_member}
use Rattle.step_laws.specs.SplitLaw.{CanTakeBy, next_by}
use Rattle.step_laws.specs.StepLaw.{IsGoal}
use Rattle.step_laws.proofs.Splitting.{find_of}
use Rattle.condition_laws.proofs.Running.{itself}
use Rattle.step_laws.proofs.Lists.{every_at}
use Rattle.expansion_laws.specs.Substituted.{substituted_rule}
use Rattle.expansion_laws.proofs.Rules.{constraints_substitute}
use Rattle.finishing_laws.proofs.Unreached.{holds_among}
use Rattle.same_plans.specs.SamePlans.{MetricValue}
use Rattle.trajectory_laws.specs.Trajectory.{instances_of, constraint_instances, Watch, always, sometime, at_most_once, sometime_after, sometime_before, monitors, monitor_predicate, to_goal, watched_action}
use Rattle.trajectory_laws.specs.Memory.{nothing, is_set, remembered, goes_on, ends, KeptFrom}
use Rattle.trajectory_laws.proofs.Kept.{told, rule_of, kept_is}
use Rattle.trajectory_laws.proofs.Adding.{Apart}
use Rattle.trajectory_laws.proofs.Declared.{expr_not}
use Rattle.trajectory_laws.proofs.Running.{of_every_map, Held, forth, held, GoesFrom, IsSetting, Agree, taken_both, both_taken, next_both, next_memory, goal_both}

-- ---- lists

found_mapped : (f : Action → Action) → ((a : Action) → (f a).name ≡ a.name) → (name : Name) (actions : List Action) →
    find (λ (a : Action). same_name a.name name) (map f actions) ≡ option_map f (find (λ (a : Action). same_name a.name name) actions)
found_mapped f same name [] = refl
found_mapped f same name (a ∷ actions) =
    (λ i. cond (same_name (same a i) name) (Some (f a)) (find (λ (a : Action). same_name a.name name) (map f actions)))
    ∙ by (same_name a.name name) (found_mapped f same name actions)
  where
    by : (b : Bool) → find (λ (a : Action). same_name a.name name) (map f actions) ≡ option_map f (find (λ (a : Action). same_name a.name name) actions) →
        cond b (Some (f a)) (find (λ (a : Action). same_name a.name name) (map f actions)) ≡ option_map f (cond b (Some a) (find (λ (a : Action). same_name a.name name) actions))
    by true more = refl
    by false more = more

every_map_to : {X Y : Type 0} (P : Y → Type 0) (f : X → Y) (xs : List X) → Every (λ x. P (f x)) xs → Every P (map f xs)
every_map_to P f [] h = tt
every_map_to P f (x ∷ xs) h = (h.0, every_map_to P f xs h.1)

map_same : {X Y : Type 0} (f g : X → Y) (xs : List X) → ((x : X) → Member x xs → f x ≡ g x) → map f xs ≡ map g xs
map_same f g [] h = refl
map_same f g (x ∷ xs) h = λ i. h x (inl refl) i ∷ map_same f g xs (λ y m. h y (inr m)) i

map_map : {X Y Z : Type 0} (g : Y → Z) (f : X → Y) (xs : List X) → map g (map f xs) ≡ map (λ x. g (f x)) xs
map_map g f [] = refl
map_map g f (x ∷ xs) = ap (λ l. g (f x) ∷ l) (map_map g f xs)

-- ---- runs of the source, with what is remembered

abbrev KeptOn : Parts → Held → List State → Type 0
KeptOn p h [] = ⊥
KeptOn p h (s ∷ rest) = KeptFrom (told (world p)) h.watch h.memory s rest

-- a run to the goal that each instance keeps
pub record RunsKept (p : Parts) (s : State) (hs : List Held) (steps : List Step) : Type 0 where
  pub states : List State
  pub runs : RunsFrom p s steps states
  pub goal : OfLast (IsGoal p) states
  pub kept : Every (λ h. KeptOn p h states) hs

begins : (p : Parts) (s : State) (steps : List Step) (states : List State) → RunsFrom p s steps states → (rest : List State) × (states ≡ s ∷ rest)
begins p s [] states h = ([], h)
begins p s (step ∷ steps) states h = (h.1.1, h.1.3)

module _ (p : Parts) where
  abbrev is_at : State → Formula → Bool
  is_at s = told (world p) s

  longer : (s u : State) (rest : List State) (hs : List Held) → Every (λ h. goes_on (is_at s) h.watch h.memory ≡ true) hs → Every (λ h. KeptOn p h (u ∷ rest)) (map (forth (is_at s)) hs) →
      Every (λ h. KeptOn p h (s ∷ u ∷ rest)) hs
  longer s u rest [] go kept = tt
  longer s u rest (h ∷ hs) go kept = ((go.0, kept.0), longer s u rest hs go.1 kept.1)

  shorter : (s u : State) (rest : List State) (hs : List Held) → Every (λ h. KeptOn p h (s ∷ u ∷ rest)) hs →
      Every (λ h. goes_on (is_at s) h.watch h.memory ≡ true) hs × Every (λ h. KeptOn p h (u ∷ rest)) (map (forth (is_at s)) hs)
  shorter s u rest [] kept = (tt, tt)
  shorter s u rest (h ∷ hs) kept = let more = shorter s u rest hs kept.1 in ((kept.0.0, more.0), (kept.0.1, more.1))

  pub kept_run : (steps : List Step) (s : State) (hs : List Held) → GoesFrom p s hs steps → RunsKept p s hs steps
  kept_run [] s hs h = record { states = s ∷ []; runs = refl; goal = h.0; kept = h.1 }
  kept_run (step ∷ steps) s hs h =
      let u : State = h.2.0 in
      let more : RunsKept p u (map (forth (is_at s)) hs) steps = kept_run steps u (map (forth (is_at s)) hs) h.2.2 in
      let head : (rest : List State) × (more.states ≡ u ∷ rest) = begins p u steps more.states more.runs in
      record {
        states = s ∷ more.states;
        runs = (h.0, (u, more.states, h.2.1, refl, more.runs));
        goal = subst (λ l. OfLast (IsGoal p) (s ∷ l)) (sym head.1) (subst (OfLast (IsGoal p)) head.1 more.goal);
        kept = subst (λ l. Every (λ h. KeptOn p h (s ∷ l)) hs) (sym head.1)
            (longer s u head.0 hs h.1 (subst (λ l. Every (λ h. KeptOn p h l) (map (forth (is_at s)) hs)) head.1 more.kept));
      }

  pub run_kept : (steps : List Step) (s : State) (hs : List Held) (states : List State) → RunsFrom p s steps states → OfLast (IsGoal p) states → Every (λ h. KeptOn p h states) hs → GoesFrom p s hs steps
  run_kept [] s hs states runs goal kept = (subst (OfLast (IsGoal p)) runs goal, subst (λ l. Every (λ h. KeptOn p h l) hs) runs kept)
  run_kept (step ∷ steps) s hs states runs goal kept =
      let u : State = runs.1.0 in
      let head : (rest : List State) × (runs.1.1 ≡ u ∷ rest) = begins p u steps runs.1.1 runs.1.4 in
      let all : states ≡ s ∷ u ∷ head.0 = runs.1.3 ∙ ap (λ l. s ∷ l) head.1 in
      let two = shorter s u head.0 hs (subst (λ l. Every (λ h. KeptOn p h l) hs) all kept) in (
        runs.0,
        two.0,
        (u, runs.1.2, run_kept steps u (map (forth (is_at s)) hs) (u ∷ head.0) (subst (RunsFrom p u steps) head.1 runs.1.4) (subst (OfLast (IsGoal p)) all goal) two.1),
      )

-- ---- beside runs of the output

module _ (p : Parts) (variables : List Name) (xs : List Watch) (setting : IsSetting p variables xs) where
  abbrev pub q : Parts
  q = record p {
    constants = length p.objects;
    predicates = p.predicates ++ map monitor_predicate (flat_map monitors xs);
    actions = map (watched_action variables xs) p.actions;
    goal = And (p.goal ∷ map to_goal xs);
    constraints = [];
  }

  abbrev w : World
  w = world p

  abbrev f : Action → Action
  f = watched_action variables xs

  abbrev CanBy : Parts → State → List Name → Option Action → Type 0
  CanBy r s args found = (fault : Fault) → ¬ ByAction r s args found fault

  abbrev NextBy : State → List Name → Option Action → State → Type 0
  NextBy s args found u = IsSomeAnd found (λ a. u ≡ next_by w s a args)

  found_q : (name : Name) → action_named q name ≡ option_map f (action_named p name)
  found_q name = found_mapped f (λ a. refl) name p.actions

  abbrev At : State → State → Type 0
  At s t = Agree p variables xs setting s t

  abbrev GoOn : State → State → Type 0
  GoOn s t = Every (λ x. goes_on (told w s) x (remembered t x) ≡ true) xs

  module _ (s t : State) (agree : At s t) (step : Step) where
    member_of : (a : Action) → action_named p step.action ≡ Some a → Member a p.actions
    member_of a is = (find_of (λ (a : Action). a.name) step.action p.actions a is).0

    pub can_both : CanTake q t step → CanTake p s step × GoOn s t
    can_both can = by (action_named p step.action) refl (subst (CanBy q t step.args) (found_q step.action) can)
      where
        by : (found : Option Action) → action_named p step.action ≡ found → CanBy q t step.args (option_map f found) → CanTake p s step × GoOn s t
        by None is can = absurd (can unknown tt)
        by (Some a) is can =
            let k : CanTakeBy w s a step.args × GoOn s t = taken_both p variables xs setting s t agree a (member_of a is) step.args can in
            (subst (CanBy p s step.args) (sym is) k.0, k.1)

    both_can : CanTake p s step → GoOn s t → CanTake q t step
    both_can can go = subst (CanBy q t step.args) (sym (found_q step.action)) (by (action_named p step.action) refl can)
      where
        by : (found : Option Action) → action_named p step.action ≡ found → CanBy p s step.args found → CanBy q t step.args (option_map f found)
        by None is can = absurd (can unknown tt)
        by (Some a) is can = both_taken p variables xs setting s t agree a (member_of a is) step.args can go

    pub record Both (u v : State) : Type 0 where
      pub at : At u v
      pub memories : map (forth (told w s)) (map (held t) xs) ≡ map (held v) xs

    pub next : (u v : State) → IsNext p s step u → IsNext q t step v → Both u v
    next u v one other = by (action_named p step.action) refl one (subst (λ found. NextBy t step.args found v) (found_q step.action) other)
      where
        by : (found : Option Action) → action_named p step.action ≡ found → NextBy s step.args found u → NextBy t step.args (option_map f found) v → Both u v
        by None is one other = absurd one
        by (Some a) is one other = record {
          at = subst (λ x. At x v) (sym one) (subst (At (next_by w s a step.args)) (sym other) (next_both p variables xs setting s t agree a (member_of a is) step.args));
          memories = map_map (forth (told w s)) (held t) xs ∙ map_same (λ x. forth (told w s) (held t x)) (held v) xs (λ x m i. record {
            watch = x;
            memory = sym (ap (λ y. remembered y x) other ∙ next_memory p variables xs setting s t agree a (member_of a is) step.args x m) i;
          });
        }

  abbrev Ends : State → Type 0
  Ends t = IsGoal q t

  pub to_output : (steps : List Step) (s t : State) → At s t → GoesFrom p s (map (held t) xs) steps → (z : State) × Reaches q t steps z × Ends z
  to_output [] s t agree h =
      (t, refl, (goal_both p variables xs setting s t agree).1 (h.0, of_every_map (λ h. ends (told w s) h.watch h.memory ≡ true) (held t) xs h.1))
  to_output (step ∷ steps) s t agree h =
      let can : CanTake q t step = both_can s t agree step h.0 (of_every_map (λ h. goes_on (told w s) h.watch h.memory ≡ true) (held t) xs h.1) in
      let v : (v : State) × IsNext q t step v = next_exists q t step can in
      let u : State = h.2.0 in
      let k : Both s t agree step u v.0 = next s t agree step u v.0 h.2.1 v.1 in
      let more : (z : State) × Reaches q v.0 steps z × Ends z = to_output steps u v.0 k.at (subst (λ hs. GoesFrom p u hs steps) k.memories h.2.2) in
      (more.0, (can, (v.0, v.1, more.1)), more.2)

  pub from_output : (steps : List Step) (s t z : State) → At s t → Reaches q t steps z → Ends z → GoesFrom p s (map (held t) xs) steps
  from_output [] s t z agree is end =
      let k : IsGoal p s × Every (λ x. ends (told w s) x (remembered t x) ≡ true) xs = (goal_both p variables xs setting s t agree).0 (subst Ends (sym is) end) in
      (k.0, every_map_to (λ h. ends (told w s) h.watch h.memory ≡ true) (held t) xs k.1)
  from_output (step ∷ steps) s t z agree h end =
      let k : CanTake p s step × GoOn s t = can_both s t agree step h.0 in
      let u : (u : State) × IsNext p s step u = next_exists p s step k.0 in
      let two : Both s t agree step u.0 h.1.0 = next s t agree step u.0 h.1.0 u.1 h.1.1 in (
        k.0,
        every_map_to (λ h. goes_on (told w s) h.watch h.memory ≡ true) (held t) xs k.1,
        (u.0, u.1, subst (λ hs. GoesFrom p u.0 hs steps) (sym two.memories) (from_output steps u.0 h.1.0 z two.at h.1.2 end)),
      )

  -- the last states agree too
  pub last_both : (steps : List Step) (s t z : State) → At s t → Reaches q t steps z → (y : State) × Reaches p s steps y × At y z
  last_both [] s t z agree is = (s, refl, subst (At s) is agree)
  last_both (step ∷ steps) s t z agree h =
      let k : CanTake p s step × GoOn s t = can_both s t agree step h.0 in
      let u : (u : State) × IsNext p s step u = next_exists p s step k.0 in
      let two : Both s t agree step u.0 h.1.0 = next s t agree step u.0 h.1.0 u.1 h.1.1 in
      let more : (y : State) × Reaches p u.0 steps y × At y z = last_both steps u.0 h.1.0 z two.at h.1.2 in
      (more.0, (k.0, (u.0, u.1, more.1)), more.2)

  -- ---- the start

  pub same_start : init q ≡ init p
  unfolding init
  same_start = refl

  in_all : (x : Watch) (ys : List Watch) (m : Name) → Member x ys → Member m (monitors x) → Member m (flat_map monitors ys)
  in_all x [] m at k = absurd at
  in_all x (y ∷ ys) m (inl same) k = left (monitors y) (subst (λ z. Member m (monitors z)) same k)
    where
      left : (ns : List Name) → Member m ns → Member m (ns ++ flat_map monitors ys)
      left [] k = absurd k
      left (n ∷ ns) (inl e) = inl e
      left (n ∷ ns) (inr k) = inr (left ns k)
  in_all x (y ∷ ys) m (inr at) k = right (monitors y) (in_all x ys m at k)
    where
      right : (ns : List Name) → Member m (flat_map monitors ys) → Member m (ns ++ flat_map monitors ys)
      right [] k = k
      right (n ∷ ns) k = inr (right ns k)

  unset : (m : Name) → Member m (flat_map monitors xs) → is_set (init p) m ≡ false
  unset m at = by (is_set (init p) m) refl
    where
      by : (b : Bool) → is_set (init p) m ≡ b → b ≡ false
      by true is = absurd (setting.new m at (holds_among p m [] setting.formed.atoms is))
      by false is = refl

  pub nothing_yet : (x : Watch) → Member x xs → remembered (init p) x ≡ nothing
  nothing_yet x at = by x (λ m k. unset m (in_all x xs m at k))
    where
      by : (x : Watch) → ((m : Name) → Member m (monitors x) → is_set (init p) m ≡ false) → remembered (init p) x ≡ nothing
      by (always f) h = refl
      by (sometime f had) h = λ i. record { first = h had (inl refl) i; second = false }
      by (at_most_once f seen gone) h = λ i. record { first = h seen (inl refl) i; second = h gone (inr (inl refl)) i }
      by (sometime_after f g due) h = λ i. record { first = h due (inl refl) i; second = false }
      by (sometime_before f g was) h = λ i. record { first = h was (inl refl) i; second = false }

  abbrev fresh_start : Watch → Held
  fresh_start x = record { watch = x; memory = nothing }

  started : map (held (init p)) xs ≡ map fresh_start xs
  started = map_same (held (init p)) fresh_start xs (λ x m i. record { watch = x; memory = nothing_yet x m i })

  -- ---- plans

  module _ (rules : map rule_of xs ≡ constraint_instances p) where
    abbrev KeptBy : List State → Rule → Type 0
    KeptBy states rule = KeepsRule p states unassigned rule

    -- the constraints are kept where their instances are
    instances_kept : (states : List State) (cs : List Constraint) → Every (Keeps p states) cs ↔ Every (KeptBy states) (flat_map (instances_of (world p)) cs)
    instances_kept states [] = (λ h. tt, λ h. tt)
    instances_kept states (c ∷ cs) =
        let more : Every (Keeps p states) cs ↔ Every (KeptBy states) (flat_map (instances_of (world p)) cs) = instances_kept states cs in
        let one : List Rule = instances_of (world p) c in (
          λ h. append one (flat_map (instances_of (world p)) cs)
              (each_map (KeptBy states) (λ tuple. substituted_rule c.vars tuple c.rule) (tuples (world p) c.vars)
              (each_member _ (tuples (world p) c.vars) (λ tuple m. (constraints_substitute p states c).0 h.0 tuple m))) (more.0 h.1),
          λ h. (
            (constraints_substitute p states c).1 (λ tuple m. every_at (λ tuple. KeptBy states (substituted_rule c.vars tuple c.rule)) (tuples (world p) c.vars) tuple
                (of_every_map (KeptBy states) (λ tuple. substituted_rule c.vars tuple c.rule) (tuples (world p) c.vars) (first one (flat_map (instances_of (world p)) cs) h)) m),
            more.1 (second one (flat_map (instances_of (world p)) cs) h),
          ),
        )
      where
        append : (os bs : List Rule) → Every (KeptBy states) os → Every (KeptBy states) bs → Every (KeptBy states) (os ++ bs)
        append [] bs h k = k
        append (o ∷ os) bs h k = (h.0, append os bs h.1 k)

        first : (os bs : List Rule) → Every (KeptBy states) (os ++ bs) → Every (KeptBy states) os
        first [] bs h = tt
        first (o ∷ os) bs h = (h.0, first os bs h.1)

        second : (os bs : List Rule) → Every (KeptBy states) (os ++ bs) → Every (KeptBy states) bs
        second [] bs h = h
        second (o ∷ os) bs h = second os bs h.1

    to_kept : (s : State) (rest : List State) → Every (Keeps p (s ∷ rest)) p.constraints → Every (λ h. KeptOn p h (s ∷ rest)) (map fresh_start xs)
    to_kept s rest h =
        every_map_to (λ h. KeptOn p h (s ∷ rest)) fresh_start xs (each_as (λ x. KeptBy (s ∷ rest) (rule_of x)) _ (λ x k. (kept_is p s rest x).0 k) xs
        (of_every_map (KeptBy (s ∷ rest)) rule_of xs (subst (Every (KeptBy (s ∷ rest))) (sym rules) ((instances_kept (s ∷ rest) p.constraints).0 h))))

    from_kept : (s : State) (rest : List State) → Every (λ h. KeptOn p h (s ∷ rest)) (map fresh_start xs) → Every (Keeps p (s ∷ rest)) p.constraints
    from_kept s rest h =
        (instances_kept (s ∷ rest) p.constraints).1 (subst (Every (KeptBy (s ∷ rest))) rules
        (every_map_to (KeptBy (s ∷ rest)) rule_of xs (each_as _ (λ x. KeptBy (s ∷ rest) (rule_of x)) (λ x k. (kept_is p s rest x).1 k) xs
        (of_every_map (λ h. KeptOn p h (s ∷ rest)) fresh_start xs h))))

    abbrev start : State
    start = init p

    starts : At start start
    starts = itself (Apart (flat_map monitors xs)) start

    pub plans_to : (plan : Plan) → Plans p plan → Plans q plan
    plans_to plan valid =
        let states : List State = valid.0 in
        let head : (rest : List State) × (states ≡ start ∷ rest) = begins p start plan.steps states valid.1 in
        let kept : Every (λ h. KeptOn p h (start ∷ head.0)) (map fresh_start xs) = to_kept start head.0 (subst (λ l. Every (Keeps p l) p.constraints) head.1 valid.3) in
        let goes : GoesFrom p start (map fresh_start xs) plan.steps =
        run_kept p plan.steps start (map fresh_start xs) states valid.1 valid.2 (subst (λ l. Every (λ h. KeptOn p h l) (map fresh_start xs)) (sym head.1) kept) in
        let end : (z : State) × Reaches q start plan.steps z × Ends z = to_output plan.steps start start starts (subst (λ hs. GoesFrom p start hs plan.steps) (sym started) goes) in
        let run : (ts : List State) × RunsFrom q start plan.steps ts × OfLast Ends ts = run_of q Ends plan.steps start end.0 end.1 end.2 in
        (run.0, subst (λ s. RunsFrom q s plan.steps run.0) (sym same_start) run.1, run.2, tt)

    output_end : (plan : Plan) → Plans q plan → (z : State) × Reaches q start plan.steps z × Ends z
    output_end plan valid = reached q Ends plan.steps start valid.0 (subst (λ s. RunsFrom q s plan.steps valid.0) same_start valid.1) valid.2

    pub plans_from : (plan : Plan) → Plans q plan → Plans p plan
    plans_from plan valid =
        let end : (z : State) × Reaches q start plan.steps z × Ends z = output_end plan valid in
        let goes : GoesFrom p start (map fresh_start xs) plan.steps = subst (λ hs. GoesFrom p start hs plan.steps) started (from_output plan.steps start start end.0 starts end.1 end.2) in
        let k : RunsKept p start (map fresh_start xs) plan.steps = kept_run p plan.steps start (map fresh_start xs) goes in
        let head : (rest : List State) × (k.states ≡ start ∷ rest) = begins p start plan.steps k.states k.runs in (
          k.states,
          k.runs,
          k.goal,
          subst (λ l. Every (Keeps p l) p.constraints) (sym head.1) (from_kept start head.0 (subst (λ l. Every (λ h. KeptOn p h l) (map fresh_start xs)) head.1 k.kept)),
        )

    -- ---- the metric

    expr_names : (s t : State) → At s t → (m : Option Metric) → option_map (λ (m : Metric). number s unassigned m.value) m ≡ option_map (λ (m : Metric). number t unassigned m.value) m
    expr_names s t agree None = refl
    expr_names s t agree (Some m) =
        ap Some (same_number (Apart (flat_map monitors xs)) s t agree unassigned m.value (λ x h n at e. expr_not n m.value (subst (ExprNames m.value) e h)))

    abbrev ValueAt : Parts → MetricValue → State → Type 0
    ValueAt r v s = v ≡ metric_at r s

    pub metrics : (plan : Plan) → Plans q plan → (v : MetricValue) → MetricOf p plan v ↔ MetricOf q plan v
    metrics plan valid v =
        let end : (z : State) × Reaches q start plan.steps z × Ends z = output_end plan valid in
        let last : (y : State) × Reaches p start plan.steps y × At y end.0 = last_both plan.steps start start end.0 starts end.1 in
        let same : metric_at p last.0 ≡ metric_at q end.0 = expr_names last.0 end.0 last.2 p.metric in (
          λ h. let k : (y : State) × Reaches p start plan.steps y × ValueAt p v y = reached p (ValueAt p v) plan.steps start h.0 h.1 h.2 in
              let value : ValueAt q v end.0 = k.2 ∙ ap (metric_at p) (reach_unique p plan.steps start k.0 last.0 k.1 last.1) ∙ same in
              let run : (ts : List State) × RunsFrom q start plan.steps ts × OfLast (ValueAt q v) ts = run_of q (ValueAt q v) plan.steps start end.0 end.1 value in
              (run.0, subst (λ s. RunsFrom q s plan.steps run.0) (sym same_start) run.1, run.2),
          λ h. let k : (z : State) × Reaches q start plan.steps z × ValueAt q v z = reached q (ValueAt q v) plan.steps start h.0 (subst (λ s. RunsFrom q s plan.steps h.0) same_start h.1) h.2 in
              let value : ValueAt p v last.0 = k.2 ∙ ap (metric_at q) (reach_unique q plan.steps start k.0 end.0 k.1 end.1) ∙ sym same in
              let run : (ss : List State) × RunsFrom p start plan.steps ss × OfLast (ValueAt p v) ss = run_of p (ValueAt p v) plan.steps start last.0 last.1 value in
              (run.0, run.1, run.2),
        )
