-- The step law of the whole construction.
use Rattle.std.proofs.Common.{◌≡◌, ◌↔◌, Bool, true, false, codes, List, [], ◌∷◌, map, take, length, Option, Some, None, option_map, IsSome, IsSomeAnd, IsTrue, refl, ap, sym, ◌∙◌, subst, inl, inr}
use Rattle.std.specs.Prelude.{if◌then◌else◌}
use Rattle.std.specs.List.{filter_map, cons_option}
use Rattle.std.specs.FinSet as set
use Rattle.std.proofs.lemmas.Bool.{false_from_ne_true}
use Rattle.up_text.specs.declared.name.Name.{Name}
use Rattle.up_text.specs.Fresh.{fresh_name}
use Rattle.up_text.specs.Lists.{Member, Differ}
use Rattle.up_tree.specs.declared.formula.Formula.{Formula, Atom}
use Rattle.up_tree.specs.declared.action.Action.{Action}
use Rattle.up_tree.specs.declared.problem.Parts.{Parts}
use Rattle.up_tree.specs.declared.problem.Predicate.{Predicate}
use Rattle.up_tree.specs.declared.problem.Function.{Function}
use Rattle.up_tree.specs.Normal.{nnf}
use Rattle.up_tree.specs.Objects.{World, world, unassigned, named, action_named}
use Rattle.up_tree.specs.State.{State, ground, Holds, init}
use Rattle.up_tree.specs.StateOf.{IsStateOf}
use Rattle.up_tree.specs.Truth.{True}
use Rattle.up_tree.specs.Instances.{firing}
use Rattle.up_tree.specs.Changes.{changed}
use Rattle.up_tree.specs.Simplify.{knows_nothing, is_false_formula, simplified, simple_action}
use Rattle.up_tree.specs.WellFormed.{IsWellFormed, IsAction, ObjectsFit}
use Rattle.up_tree.proofs.Apart.{apart}
use Rattle.up_tree.proofs.Judging.{judged}
use Rattle.up_tree.proofs.Steps.{ByAction}
use Rattle.up_kind.specs.Carried.{carries}
use Rattle.up_compiler.specs.declared.id.CompilerId.TheVariants.{Negations}
use Rattle.up_compiler.specs.Identity.{arguments, identity_entry}
use Rattle.up_compiler.specs.declared.back.Target.TheVariants.{Keep}
use Rattle.up_compiler.specs.Table.{admits}
use Rattle.up_eval.proofs.Stays.{next_stays}
use Rattle.up_eval.proofs.Initial.{init_is_of}
use Rattle.semantics_laws.specs.SameTruth.{SameTruth}
use Rattle.semantics_laws.proofs.Agreeing.{same_atom}
use Rattle.condition_laws.specs.Taken.{IsTakenWith}
use Rattle.condition_laws.specs.Oracles.{IsTrueTo}
use Rattle.condition_laws.proofs.Acting.{simple_actions_are_taken, dropped_are_not_taken}
use Rattle.condition_laws.proofs.Assigning.{formulas_are_assigned}
use Rattle.condition_laws.proofs.Forming.{normal_keeps}
use Rattle.condition_laws.proofs.Shaping.{normal_is_formed}
use Rattle.condition_laws.proofs.Simplifying.{simplified_keeps, of_never}
use Rattle.up_tree.specs.declared.truth.Truth.TheVariants as truth
use Rattle.expansion_laws.proofs.Doing.{same_doing}
use Rattle.step_laws.specs.Naming.{Stands, entry_of}
use Rattle.step_laws.specs.SplitLaw.{CanTakeBy, next_by, SplitLaw}
use Rattle.step_laws.specs.StepLaw.{IsGoal, StepLaw}
use Rattle.step_laws.proofs.Splitting.{find_member, split_law}
use Rattle.compiling_laws.proofs.Lists.{false_true, none_some, some_same, member_left, member_right, member_map, member_filter_map, of_filter_map}
use Rattle.step_laws.proofs.Lists.{every_at, every_from}
use Rattle.compiling_laws.specs.Forms.{symbols}
use Rattle.finishing_laws.specs.Finished.{Goal}
use Rattle.negations_laws.specs.Twins.{Words, words, positive_action, twin_pairs, twinned}
use Rattle.negations_laws.specs.Related.{IsOld, AreTwinned}
use Rattle.negations_laws.specs.Negations.{normal_action, simple_normal, simple_form, negations, negation_pairs, goal_predicates, AreRelated}
use Rattle.negations_laws.proofs.Values.{found_old}
use Rattle.negations_laws.proofs.Words.{fresh_new}
use Rattle.negations_laws.proofs.Stepping.{IsAccepted, followed_by, kept_by, next_twinned}
use Rattle.negations_laws.proofs.Admitted.{IsReady, accepted}
use Rattle.negations_laws.proofs.Normals.{outcomes_same}
use Rattle.negations_laws.proofs.Twinned.{twins_split}
use Rattle.negations_laws.proofs.Whole.{ready, actions_are, always_rows, simple_is, compiled}

module _ (p : Parts) (well : IsWellFormed p) (admitted : IsTrue (admits Negations (carries p))) where
  abbrev w : World
  w = world p

  abbrev n : Parts
  n = simple_form p

  abbrev q : Parts
  q = twinned n

  abbrev ws : Words
  ws = words n

  abbrev name : Name
  name = fresh_name (codes "never") (symbols p)

  is_ready : IsReady n
  is_ready = subst (λ actions. IsReady (record n { actions = actions })) (actions_are p well admitted) (ready p well admitted)

  is_accepted : IsAccepted n
  is_accepted = accepted n is_ready

  law : SplitLaw n q (twin_pairs n) (AreTwinned n)
  law = twins_split n is_ready

  -- ---- `never`

  never_new : ¬ Member name (map (λ (d : Predicate). d.name) p.predicates)
  never_new m = fresh_new (codes "never") (symbols p) (member_left name (map (λ (d : Predicate). d.name) p.predicates) (map (λ (d : Function). d.name) p.functions) m)

  never_absent : (s : State) → IsStateOf p s → ¬ Holds s (ground name [])
  never_absent s typed h = never_new (found_old p name (λ d. ObjectsFit p [] d.args) (typed.atoms (ground name []) h))

  abbrev goal : Formula
  goal = simplified w knows_nothing (nnf p.goal)

  abbrev ruled : Bool → Goal
  ruled b = if b then record { formula = Atom name []; predicates = record { name = name; args = [] } ∷ [] } else record { formula = goal; predicates = [] }

  related : (s t : State) → IsStateOf p s → AreTwinned n s t → AreRelated p s t
  related s t typed twin = record { typed = typed; twinned = twin; unreached = every_from _ (goal_predicates p) (λ d m. by (is_false_formula goal) d m (in_all d m)) }
    where
      in_all : (d : Predicate) → Member d (goal_predicates p) → Member d.name (map (λ (d : Predicate). d.name) n.predicates)
      in_all d m = member_map (λ (d : Predicate). d.name) n.predicates d (member_right d p.predicates (goal_predicates p) m)

      by : (b : Bool) (d : Predicate) → Member d (ruled b).predicates → Member d.name (map (λ (d : Predicate). d.name) n.predicates) → set.contains t.atoms (ground d.name []) ≡ false
      by true d (inl e) old =
          sym (same_atom (IsOld n) s t twin.old d.name old [])
          ∙ false_from_ne_true _ (λ h. never_absent s typed (subst (λ (d : Predicate). Holds s (ground d.name [])) e h))
      by true d (inr m) old = absurd m
      by false d m old = absurd m

  -- ---- an action as it is left

  told : (s : State) → IsTrueTo s knows_nothing
  told s fact b is = none_some is

  normal_formed : (a : Action) → Member a p.actions → IsAction p (normal_action a)
  normal_formed a m =
      let is : IsAction p a = every_at (IsAction p) p.actions a well.actions m in
      record { params = is.params; pre = (normal_is_formed p (take p.constants p.objects) a.params a.pre is.pre).0; rows = is.rows }

  to_normal : (s : State) (a : Action) (args : List Name) → CanTakeBy w s a args → CanTakeBy w s (normal_action a) args
  to_normal s a args can fault h = can fault (((same_doing w a args w (normal_action a) args (outcomes_same p a args)).faults s fault).1 h)

  from_normal : (s : State) (a : Action) (args : List Name) → CanTakeBy w s (normal_action a) args → CanTakeBy w s a args
  from_normal s a args can fault h = can fault (((same_doing w a args w (normal_action a) args (outcomes_same p a args)).faults s fault).0 h)

  left_is : (a : Action) (o : Option Action) → Member a p.actions → simple_normal w a ≡ o → simple_action w knows_nothing (normal_action a) ≡ o
  left_is a o m at = simple_is w a (always_rows p well admitted a m) ∙ at

  taken : (s : State) (a b : Action) (args : List Name) → Member a p.actions → simple_normal w a ≡ Some b → IsTakenWith w s args b (normal_action a)
  taken s a b args m at = simple_actions_are_taken p (normal_action a) b (normal_formed a m) w s knows_nothing args (told s) (left_is a (Some b) m at)

  member_left_action : (a b : Action) → Member a p.actions → simple_normal w a ≡ Some b → Member b n.actions
  member_left_action a b m at = member_filter_map (simple_normal w) p.actions a b m at

  -- ---- the pairs

  abbrev pair_of : Action → Action → Stands
  pair_of a b = record { new = positive_action ws b; old = a }

  record IsPair (pair : Stands) : Type 0 where
    old : Action
    new : Action
    member : Member old p.actions
    left : simple_normal w old ≡ Some new
    is : pair ≡ record { new = positive_action ws new; old = old }

  of_pair : (pair : Stands) → Member pair (negation_pairs p) → IsPair pair
  of_pair pair m =
      let a = of_filter_map (λ a. option_map (λ b. let x : Stands = record { new = positive_action ws b; old = a } in x) (simple_normal w a)) p.actions pair m in
      by a.0 a.1 (simple_normal w a.0) refl a.2
    where
      by : (a : Action) → Member a p.actions → (o : Option Action) → simple_normal w a ≡ o → option_map (λ b. let x : Stands = record { new = positive_action ws b; old = a } in x) o ≡ Some pair → IsPair pair
      by a m None at is = none_some is
      by a m (Some b) at is = record { old = a; new = b; member = m; left = at; is = sym (some_same (pair_of a b) pair is) }

  news : (actions : List Action) →
      map (λ (pair : Stands). pair.new) (filter_map (λ a. option_map (λ b. let x : Stands = record { new = positive_action ws b; old = a } in x) (simple_normal w a)) actions)
      ≡ map (positive_action ws) (filter_map (simple_normal w) actions)
  news [] = refl
  news (a ∷ actions) = by (simple_normal w a) (news actions)
    where
      by : (o : Option Action) → map (λ (pair : Stands). pair.new) (filter_map (λ a. option_map (λ b. let x : Stands = record { new = positive_action ws b; old = a } in x) (simple_normal w a)) actions)
          ≡ map (positive_action ws) (filter_map (simple_normal w) actions) →
          map (λ (pair : Stands). pair.new) (cons_option (option_map (λ b. let x : Stands = record { new = positive_action ws b; old = a } in x) o)
          (filter_map (λ a. option_map (λ b. let x : Stands = record { new = positive_action ws b; old = a } in x) (simple_normal w a)) actions))
          ≡ map (positive_action ws) (cons_option o (filter_map (simple_normal w) actions))
      by None h = h
      by (Some b) h = ap (λ l. positive_action ws b ∷ l) h

  names_of : (pairs : List Stands) → map (λ (pair : Stands). pair.new.name) pairs ≡ map (λ (a : Action). a.name) (map (λ (pair : Stands). pair.new) pairs)
  names_of [] = refl
  names_of (pair ∷ pairs) = ap (λ l. pair.new.name ∷ l) (names_of pairs)

  same_left : (a b : Action) → simple_normal w a ≡ Some b → (b.name ≡ a.name) × (b.params ≡ a.params)
  same_left a b = by (is_false_formula (simplified w knows_nothing (nnf a.pre)))
    where
      by : (never : Bool) → (if never then None else Some (let c : Action = record { name = a.name; params = a.params; pre = simplified w knows_nothing (nnf a.pre); rows = a.rows } in c)) ≡ Some b →
          (b.name ≡ a.name) × (b.params ≡ a.params)
      by true is = none_some is
      by false is = (sym (ap (λ (c : Action). c.name) (some_same _ b is)), sym (ap (λ (c : Action). c.params) (some_same _ b is)))

  -- ---- steps

  follows : (s t : State) → AreRelated p s t → (a : Action) → Member a p.actions → (args : List Name) → CanTakeBy w s a args →
      (pair : Stands) × Member pair (negation_pairs p) × (pair.old ≡ a) × CanTakeBy w t pair.new args
  follows s t r a m args can = by (simple_normal w a) refl
    where
      by : (o : Option Action) → simple_normal w a ≡ o → (pair : Stands) × Member pair (negation_pairs p) × (pair.old ≡ a) × CanTakeBy w t pair.new args
      by None at = absurd (dropped_are_not_taken p (normal_action a) (normal_formed a m) w s knows_nothing args (told s) (left_is a None m at) (to_normal s a args can))
      by (Some b) at = (
        pair_of a b,
        member_filter_map (λ a. option_map (λ b. let x : Stands = record { new = positive_action ws b; old = a } in x) (simple_normal w a)) p.actions a (pair_of a b) m
            (ap (option_map (λ b. let x : Stands = record { new = positive_action ws b; old = a } in x)) at),
        refl,
        followed_by n is_accepted b (member_left_action a b m at) args s t r.twinned ((taken s a b args m at).can.1 (to_normal s a args can)),
      )

  keeps : (s t : State) → AreRelated p s t → (a b : Action) → Member a p.actions → simple_normal w a ≡ Some b → (args : List Name) → CanTakeBy w t (positive_action ws b) args → CanTakeBy w s a args
  keeps s t r a b m at args can = from_normal s a args ((taken s a b args m at).can.0 (kept_by n is_accepted b (member_left_action a b m at) args s t r.twinned can))

  -- a step of an action that can be taken leaves what is typed typed
  stays_typed : (s : State) → IsStateOf p s → (a : Action) → Member a p.actions → (args : List Name) → CanTakeBy w s a args → IsStateOf p (next_by w s a args)
  stays_typed s typed a m args can =
      let found : action_named p a.name ≡ Some a = find_member (λ (a : Action). a.name) p.actions a well.action_names.differ m in
      next_stays p s (record { action = a.name; args = args }) (next_by w s a args)
      (λ fault h. can fault (subst (λ o. ByAction p s args o fault) found h))
      (subst (λ o. IsSomeAnd o (λ x. next_by w s a args ≡ changed s (firing w s x args))) (sym found) refl) well typed

  nexts : (s t : State) → AreRelated p s t → (a b : Action) → Member a p.actions → simple_normal w a ≡ Some b → (args : List Name) → CanTakeBy w t (positive_action ws b) args →
      AreRelated p (next_by w s a args) (next_by w t (positive_action ws b) args)
  nexts s t r a b m at args can =
      let able : CanTakeBy w s b args = kept_by n is_accepted b (member_left_action a b m at) args s t r.twinned can in
      related (next_by w s a args) (next_by w t (positive_action ws b) args)
      (stays_typed s r.typed a m args (keeps s t r a b m at args can))
      (subst (λ fs. AreTwinned n (changed s fs) (next_by w t (positive_action ws b) args)) ((taken s a b args m at).fires able)
      (next_twinned n is_accepted b (member_left_action a b m at) args s t r.twinned can))

  -- ---- the goal

  nothing_in_scope : (v : Name) → IsSome (named [] v) → IsSome (unassigned v)
  nothing_in_scope v h = false_true h

  simple_goal : (s : State) → SameTruth w s unassigned goal s unassigned (nnf p.goal)
  simple_goal s = simplified_keeps w s unassigned knows_nothing (nnf p.goal) (told s) (formulas_are_assigned p p.objects [] (nnf p.goal) (normal_is_formed p p.objects [] p.goal well.goal).0 w unassigned nothing_in_scope)

  never_true : (s : State) → is_false_formula goal ≡ true → True w s unassigned goal → ⊥
  never_true s is holds = apart w s unassigned goal holds (judged w s unassigned goal truth.False (sym (of_never w s unassigned goal is)))

  atom_false : (s : State) → IsStateOf p s → True w s unassigned (Atom name []) → ⊥
  unfolding True
  atom_false s typed h = never_absent s typed h

  goals : (s : State) → IsStateOf p s → IsGoal p s ↔ IsGoal n s
  goals s typed = by (is_false_formula goal) refl
    where
      by : (b : Bool) → is_false_formula goal ≡ b → True w s unassigned p.goal ↔ True w s unassigned (ruled b).formula
      by true is = (
        λ h. absurd (never_true s is ((simple_goal s).true_where.1 ((normal_keeps w s unassigned p.goal).true_where.1 h))),
        λ h. absurd (atom_false s typed h),
      )
      by false is = (
        λ h. (simple_goal s).true_where.1 ((normal_keeps w s unassigned p.goal).true_where.1 h),
        λ h. (normal_keeps w s unassigned p.goal).true_where.0 ((simple_goal s).true_where.0 h),
      )

  -- ---- the whole

  same_init : init n ≡ init p
  unfolding init
  same_init = refl

  pub split : SplitLaw p q (negation_pairs p) (AreRelated p)
  split = record {
    actions = sym (news p.actions);
    names = subst Differ (sym (names_of (negation_pairs p) ∙ ap (map (λ (a : Action). a.name)) (news p.actions))) ((compiled p well admitted).formed well).action_names.differ;
    olds = well.action_names.differ;
    stand = λ pair m.
        let k : IsPair pair = of_pair pair m in
        subst (λ (x : Stands). Member x.old p.actions × (length x.new.params ≡ length x.old.params)) (sym k.is) (k.member, ap length (same_left k.old k.new k.left).1);
    initial = related (init p) (init q) (init_is_of p well) (subst (λ s. AreTwinned n s (init q)) same_init law.initial);
    followed = follows;
    kept = λ s t r pair m args can.
        let k : IsPair pair = of_pair pair m in
        subst (λ (x : Stands). CanTakeBy w s x.old args) (sym k.is) (keeps s t r k.old k.new k.member k.left args (subst (λ (x : Stands). CanTakeBy w t x.new args) k.is can));
    next = λ s t r pair m args can.
        let k : IsPair pair = of_pair pair m in
        subst (λ (x : Stands). AreRelated p (next_by w s x.old args) (next_by w t x.new args)) (sym k.is)
        (nexts s t r k.old k.new k.member k.left args (subst (λ (x : Stands). CanTakeBy w t x.new args) k.is can));
    goal = λ s t r. (λ h. (law.goal s t r.twinned).0 ((goals s r.typed).0 h), λ h. (goals s r.typed).1 ((law.goal s t r.twinned).1 h));
    metric = λ s t r. law.metric s t r.twinned;
  }

  entries_are : (actions : List Action) →
      map entry_of (filter_map (λ a. option_map (λ b. let x : Stands = record { new = positive_action ws b; old = a } in x) (simple_normal w a)) actions)
      ≡ map identity_entry (filter_map (simple_normal w) actions)
  entries_are [] = refl
  entries_are (a ∷ actions) = by (simple_normal w a) refl (entries_are actions)
    where
      by : (o : Option Action) → simple_normal w a ≡ o → map entry_of (filter_map (λ a. option_map (λ b. let x : Stands = record { new = positive_action ws b; old = a } in x) (simple_normal w a)) actions)
          ≡ map identity_entry (filter_map (simple_normal w) actions) →
          map entry_of (cons_option (option_map (λ b. let x : Stands = record { new = positive_action ws b; old = a } in x) o)
          (filter_map (λ a. option_map (λ b. let x : Stands = record { new = positive_action ws b; old = a } in x) (simple_normal w a)) actions))
          ≡ map identity_entry (cons_option o (filter_map (simple_normal w) actions))
      by None at h = h
      by (Some b) at h =
          let same : (b.name ≡ a.name) × (b.params ≡ a.params) = same_left a b at in
          λ i. (record { action = b.name; arity = length b.params; target = Keep (sym same.0 i) (arguments (length (sym same.1 i))) }) ∷ h i

  pub steps : StepLaw p q (negations p).entries (AreRelated p)
  steps = subst (λ m. StepLaw p q m (AreRelated p)) (entries_are p.actions) (split_law (AreRelated p) p q (negation_pairs p) split)
